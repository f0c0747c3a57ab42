use Rattle.std.specs.Prelude.{List, flat_map}
use Rattle.std.proofs.Common.{sym, ap, ◌∙◌}
use Rattle.std.proofs.Math.ListN.{drop_of_length-le}
use Rattle.name_meaning.specs.Cores.{group_break}
use Rattle.name_meaning.specs.declared.answer.Break.{Break}
use Rattle.name_seen_parts.specs.Seen.{first_or}
use Rattle.name_seen_parts.proofs.Firsts.{flat-first, flat-step, none-broken}
use Rattle.name_seen_parts.proofs.clauses.breaks.groups_break.Goals as goal

pub returns-in-Err : goal.returns-in-Err
returns-in-Err c =
    sym (ap (λ (breaks : List Break). first_or breaks tt) c.loop-group.invariant
    ∙ flat-first (group_break c.args.scope.now) c.args.groups.now c.loop-group.group-index c.group-item.result tt tt c.in-Err.first
    c.loop-group-test.true c.group-item.is (sym c.group_break.ensures ∙ c.in-Err.is))

pub loop-group-preserved : goal.loop-group-preserved
loop-group-preserved c =
    c.loop-group.invariant
    ∙ flat-step (group_break c.args.scope.now) c.args.groups.now c.loop-group.group-index c.group-item.result
    c.loop-group-test.true c.group-item.is (none-broken (group_break c.args.scope.now c.group-item.result) tt tt (sym c.group_break.ensures ∙ c.in-Ok.is))

pub returns : goal.returns
returns c =
    sym (ap (λ (breaks : List Break). first_or breaks tt)
    (c.loop-group.invariant ∙ ap (flat_map (group_break c.args.scope.now)) (drop_of_length-le c.args.groups.now c.loop-group-test.false)))
