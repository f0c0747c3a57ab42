use Rattle.std.specs.Prelude.{List, flat_map}
use Rattle.std.proofs.Common.{sym, ap, ◌∙◌}
use Rattle.std.proofs.Math.ListN.{drop_of_length-le}
use Rattle.name_meaning.specs.Queries.{key_break}
use Rattle.name_meaning.specs.declared.answer.Break.{Break}
use Rattle.name_seen_parts.specs.Seen.{first_or}
use Rattle.name_seen_parts.specs.Columns.{columns_of}
use Rattle.name_seen_parts.proofs.Firsts.{flat-first, flat-step, none-broken}
use Rattle.name_seen_parts.proofs.clauses.keys.keys_break.Goals as goal

pub returns-in-Err : goal.returns-in-Err
returns-in-Err c =
    sym (ap (λ (breaks : List Break). first_or breaks tt) c.loop-tree.invariant
    ∙ flat-first (key_break (columns_of c.args.columns.now)) c.args.order.now c.loop-tree.tree-index c.tree-item.result tt tt c.in-Err.first
    c.loop-tree-test.true c.tree-item.is (sym c.key_break.ensures ∙ c.in-Err.is))

pub loop-tree-preserved : goal.loop-tree-preserved
loop-tree-preserved c =
    c.loop-tree.invariant
    ∙ flat-step (key_break (columns_of c.args.columns.now)) c.args.order.now c.loop-tree.tree-index c.tree-item.result
    c.loop-tree-test.true c.tree-item.is (none-broken (key_break (columns_of c.args.columns.now) c.tree-item.result) tt tt (sym c.key_break.ensures ∙ c.in-Ok.is))

pub returns : goal.returns
returns c =
    sym (ap (λ (breaks : List Break). first_or breaks tt)
    (c.loop-tree.invariant ∙ ap (flat_map (key_break (columns_of c.args.columns.now))) (drop_of_length-le c.args.order.now c.loop-tree-test.false)))
