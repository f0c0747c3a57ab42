use Rattle.std.specs.Prelude.{Bool, ◌||◌, ◌+◌}
use Rattle.std.proofs.Common.{sym, ap, ◌∙◌, drop}
use Rattle.name_seen_parts.specs.Columns.{columns_of}
use Rattle.name_meaning.specs.Froms.{settled_columns}
use Rattle.name_meaning.specs.Statements.{has_boolean}
use Rattle.name_statements.proofs.Broken.{boolean-at}
use Rattle.name_statements.proofs.seen.shown.has_boolean.Goals as goal

pub returns-then-is_boolean : goal.returns-then-is_boolean
returns-then-is_boolean c =
    sym (c.loop-column.invariant
    ∙ boolean-at c.args.columns.now c.loop-column.column-index c.column-item.result c.is_boolean.result c.loop-column-test.true c.column-item.is c.is_boolean.ensures
    ∙ ap (λ (b : Bool). b || has_boolean (settled_columns (columns_of (drop (c.loop-column.column-index + 1) c.args.columns.now)))) c.if-is_boolean.true)

pub loop-column-preserved : goal.loop-column-preserved
loop-column-preserved c =
    c.loop-column.invariant
    ∙ boolean-at c.args.columns.now c.loop-column.column-index c.column-item.result c.is_boolean.result c.loop-column-test.true c.column-item.is c.is_boolean.ensures
    ∙ ap (λ (b : Bool). b || has_boolean (settled_columns (columns_of (drop (c.loop-column.column-index + 1) c.args.columns.now)))) c.if-is_boolean.false
