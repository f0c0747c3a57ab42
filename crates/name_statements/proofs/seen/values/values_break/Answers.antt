use Rattle.std.specs.Prelude.{Err}
use Rattle.std.proofs.Common.{arith, subst}
use Rattle.name_seen_parts.specs.Told.{Tells}
use Rattle.name_seen_parts.specs.Seen.{first_or}
use Rattle.name_meaning.specs.Meanings.{Surroundings, means_at}
use Rattle.name_meaning.specs.Statements.{value_breaks}
use Rattle.name_meaning.specs.Trees.{part_of}
use Rattle.name_statements.proofs.Broken.{values-refused}
use Rattle.name_statements.proofs.seen.values.values_break.Goals as goal

pub returns-in-Err : goal.returns-in-Err
returns-in-Err c =
    values-refused c.args.here.now.catalog.now c.args.columns.now c.args.values.now c.loop-at.at c.index-columns-at.result c.index-values-at.result c.in-Err.refusal
    (omega (arith, c.requires.even, c.loop-at-test.true)) c.index-columns-at.is c.loop-at-test.true c.index-values-at.is
    (subst (λ (here : Surroundings). Tells (first_or (value_breaks c.index-columns-at.result.kind c.index-values-at.result.at
    (means_at (part_of c.args.here.now.catalog.now c.index-values-at.result) here)) (tt {0})) (Err c.in-Err.refusal)) c.requires.alone c.in-Err.ensures)
    c.loop-at.invariant
