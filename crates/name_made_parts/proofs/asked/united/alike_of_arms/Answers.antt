use Rattle.std.specs.Prelude.{Option, map, flat_map}
use Rattle.std.proofs.Common.{ap, sym, ◌∙◌}
use Rattle.perm_values.specs.declared.kind.Kind.{Kind}
use Rattle.name_meaning.specs.Expressions.{arm_operands}
use Rattle.name_meaning.specs.Meanings.{settled}
use Rattle.name_meaning.specs.Trees.{arm_of}
use Rattle.name_meaning.proofs.United.{no-else}
use Rattle.name_seen_parts.specs.Standing.{surroundings}
use Rattle.name_made_parts.proofs.asked.united.alike_of_arms.Goals as goal

pub returns : goal.returns
returns c =
    c.settled.ensures ∙ ap (λ (k : Option Kind). settled k c.args.wanted) (c.in_ok-united.ensures
    ∙ sym (no-else (surroundings c.args.here.now) (flat_map (arm_operands (surroundings c.args.here.now)) (map (arm_of c.args.here.now.catalog.now) c.args.arms.now))))
