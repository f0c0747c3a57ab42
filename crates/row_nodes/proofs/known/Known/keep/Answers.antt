use Rattle.std.proofs.Common.{refl}
use Rattle.row_nodes.specs.declared.known.Known.{Known}
use Rattle.row_nodes.proofs.Kept.{kept_if, answer_kept}
use Rattle.row_nodes.proofs.known.Known.keep.Goals as goal

pub returns-clause-knows : goal.returns-clause-knows
returns-clause-knows c = λ db env row q in_cells knows here whole.
    let new : Known = record { keeping = c.args.self.now.keeping; memory = c.keep.new.self; inputs = c.args.self.now.inputs; nothing = c.args.self.now.nothing } in
    kept_if c.keep.result db env row q in_cells c.args.self.now new c.args.answer knows here whole refl refl refl c.keep.ensures.ok

pub returns-clause-answer : goal.returns-clause-answer
returns-clause-answer c = answer_kept c.keep.result c.args.self.now.memory c.keep.new.self c.args.self.now.nothing c.args.answer c.keep.ensures.ok
