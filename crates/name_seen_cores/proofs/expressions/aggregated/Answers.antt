use Rattle.std.specs.Prelude.{Option, Result}
use Rattle.std.proofs.Common.{refl, sym, subst}
use Rattle.perm_values.specs.declared.kind.Kind.{Kind}
use Rattle.name_meaning.specs.Sublinks.{aggregated}
use Rattle.name_meaning.specs.declared.answer.Break.{Break}
use Rattle.name_seen_parts.specs.Seen.{seen}
use Rattle.name_seen_parts.specs.Standing.{surroundings}
use Rattle.name_seen_parts.specs.declared.refusal.Refusal.{Refusal}
use Rattle.name_seen_parts.proofs.SeenAs.{seen-as}
use Rattle.name_seen_parts.specs.Told.{Tells}
use Rattle.name_seen_cores.specs.Expressed.{answered}
use Rattle.name_seen_cores.proofs.Alone.{tells-answered}
use Rattle.name_seen_cores.proofs.Sublinked.{argument-refused}
use Rattle.name_seen_cores.proofs.expressions.aggregated.Goals as goal

pub returns-in-Ok : goal.returns-in-Ok
returns-in-Ok c = λ argument told.
    let here = surroundings c.args.here.now in
    let wanted = seen (aggregated here c.args.at c.args.word c.args.argument_at argument) in
    subst (λ (r : Result (Option Kind) Refusal). Tells wanted r) (sym c.answered.ensures)
    (subst (λ (k : Result (Option Kind) Break). Tells k (answered c.aggregated_kind.result))
    (c.aggregated_kind.ensures here argument refl (seen-as argument c.in-Ok.kind (rw c.in-Ok.is at told))) (tells-answered c.aggregated_kind.result))

pub returns-in-Err : goal.returns-in-Err
returns-in-Err c = λ argument told.
    argument-refused (surroundings c.args.here.now) c.args.at c.args.word c.args.argument_at argument c.in-Err.refusal (rw c.in-Err.is at told)
