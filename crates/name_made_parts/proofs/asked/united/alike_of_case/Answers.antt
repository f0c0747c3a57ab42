use Rattle.std.specs.Prelude.{[], ◌∷◌, Option, map, flat_map}
use Rattle.std.proofs.Common.{ap, sym, ◌∙◌}
use Rattle.perm_values.specs.declared.kind.Kind.{Kind}
use Rattle.name_meaning.specs.Expressions.{arm_operands}
use Rattle.name_meaning.specs.Meanings.{settled, united_kind}
use Rattle.name_meaning.specs.Operands.{operand, united}
use Rattle.name_meaning.specs.Trees.{arm_of, part_of}
use Rattle.name_meaning.specs.declared.need.Need.TheVariants.{Alike}
use Rattle.name_meaning.proofs.United.{united-append}
use Rattle.name_seen_parts.specs.Standing.{surroundings}
use Rattle.name_made_parts.proofs.asked.united.alike_of_case.Goals as goal

pub returns : goal.returns
returns c =
    let last = operand (surroundings c.args.here.now) Alike (part_of c.args.here.now.catalog.now c.args.otherwise.now) ∷ [] in
    c.settled.ensures ∙ ap (λ (k : Option Kind). settled k c.args.wanted) (c.in_ok-united-2.ensures
    ∙ ap (λ (k : Option Kind). united_kind k (united last)) c.in_ok-united.ensures
    ∙ sym (united-append (flat_map (arm_operands (surroundings c.args.here.now)) (map (arm_of c.args.here.now.catalog.now) c.args.arms.now)) last))
