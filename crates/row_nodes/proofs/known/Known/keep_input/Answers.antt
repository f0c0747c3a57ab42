use Rattle.std.proofs.Common.{◌∷◌, OnOk, refl, sym, subst}
use Rattle.row_nodes.specs.Known.{AreInputOf, FindsInput}
use Rattle.row_nodes.specs.declared.known.Known.{Known}
use Rattle.row_nodes.proofs.Kept.{input_kept, input_found}
use Rattle.row_nodes.proofs.known.Known.keep_input.Goals as goal

pub returns-in-Some-clause-knows : goal.returns-in-Some-clause-knows
returns-in-Some-clause-knows c = λ db env row q in_cells known of_input.
    let new : Known = record { keeping = c.args.self.now.keeping; memory = c.args.self.now.memory; inputs = c.keep.new.self; nothing = c.args.self.now.nothing } in
    input_kept c.keep.result db env row q in_cells c.args.self.now new c.in-Some.keyed known
    (subst (AreInputOf q c.args.self.now.keeping db (row ∷ env)) c.in-Some.is of_input) refl refl refl c.keep.ensures.ok

pub returns-in-Some-clause-input : goal.returns-in-Some-clause-input
returns-in-Some-clause-input c =
    subst (λ o. OnOk c.keep.result (FindsInput c.keep.new.self o)) (sym c.in-Some.is)
    (input_found c.keep.result c.args.self.now.inputs c.keep.new.self c.in-Some.keyed c.keep.ensures.ok)

pub returns-in-None-clause-knows : goal.returns-in-None-clause-knows
returns-in-None-clause-knows c = λ db env row q in_cells known of_input. known

pub returns-in-None-clause-input : goal.returns-in-None-clause-input
returns-in-None-clause-input c = subst (FindsInput c.args.self.now.inputs) (sym c.in-None.is) tt
