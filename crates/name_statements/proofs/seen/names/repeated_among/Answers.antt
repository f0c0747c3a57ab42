use Rattle.std.specs.Prelude.{List}
use Rattle.std.proofs.Common.{ap, sym, ◌∙◌, take}
use Rattle.name_meaning.specs.declared.answer.Break.{Break}
use Rattle.name_seen_parts.specs.Seen.{first_or}
use Rattle.name_seen_parts.proofs.Firsts.{none-broken}
use Rattle.name_statements.specs.Earlier.{column_break}
use Rattle.name_statements.proofs.Broken.{columns-first, columns-step}
use Rattle.name_statements.proofs.seen.names.repeated_among.Goals as goal

pub returns-in-Err : goal.returns-in-Err
returns-in-Err c =
    sym (ap (λ (breaks : List Break). first_or breaks (tt {0})) c.loop-at.invariant
    ∙ columns-first c.args.columns.now c.loop-at.at c.index-columns-at.result c.in-Err.first
    c.loop-at-test.true c.index-columns-at.is (sym c.repeated_column.ensures ∙ c.in-Err.is))

pub loop-at-preserved : goal.loop-at-preserved
loop-at-preserved c =
    c.loop-at.invariant
    ∙ columns-step c.args.columns.now c.loop-at.at c.index-columns-at.result c.loop-at-test.true c.index-columns-at.is
    (none-broken (column_break (take c.loop-at.at c.args.columns.now) c.index-columns-at.result) (tt {0}) (tt {0})
    (sym c.repeated_column.ensures ∙ c.in-Ok.is))
