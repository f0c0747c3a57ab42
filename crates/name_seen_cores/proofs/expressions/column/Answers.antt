use Rattle.std.specs.Prelude.{Option, Result}
use Rattle.std.proofs.Common.{refl, ap, ◌∙◌}
use Rattle.perm_values.specs.declared.kind.Kind.{Kind}
use Rattle.name_meaning.specs.Sublinks.{column_meant}
use Rattle.name_meaning.specs.declared.answer.Break.{Break}
use Rattle.name_meaning.specs.declared.scope.Found.{Found}
use Rattle.name_seen_parts.specs.Seen.{seen}
use Rattle.name_seen_parts.specs.Standing.{surroundings}
use Rattle.name_seen_cores.specs.Expressed.{answered}
use Rattle.name_seen_cores.proofs.expressions.column.Goals as goal

pub returns : goal.returns
returns c =
    let here = surroundings c.args.here.now in
    c.answered.ensures
    ∙ ap (λ (kind : Result (Option Kind) Break). answered kind) (c.column_kind.ensures here refl
    ∙ ap (λ (found : Found). seen (column_meant here c.args.reference.now.at found)) c.look_up-found.ensures)
