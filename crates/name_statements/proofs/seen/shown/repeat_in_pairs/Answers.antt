use Rattle.std.specs.Prelude.{List, Bool, ◌||◌, ◌+◌}
use Rattle.std.proofs.Common.{sym, ap, ◌∙◌, drop}
use Rattle.name_seen_parts.specs.Columns.{columns_of}
use Rattle.name_meaning.specs.Froms.{names_of, settled_columns}
use Rattle.name_meaning.specs.Statements.{repeats}
use Rattle.name_seen_parts.specs.declared.clauses.column.ShownColumn.{ShownColumn}
use Rattle.name_statements.specs.Earlier.{is_shown}
use Rattle.name_statements.proofs.Broken.{all-behind, repeats-at}
use Rattle.name_statements.proofs.seen.shown.repeat_in_pairs.Goals as goal

pub returns-then-is_among : goal.returns-then-is_among
returns-then-is_among c =
    sym (c.loop-at.invariant
    ∙ repeats-at c.args.columns.now c.loop-at.at c.index-columns-at.result c.is_among.result c.loop-at-test.true c.index-columns-at.is
    (c.is_among.ensures ∙ ap (λ (more : List ShownColumn). is_shown more c.index-columns-at.result.name) (all-behind c.args.columns.now (c.loop-at.at + 1)))
    ∙ ap (λ (b : Bool). b || repeats (names_of (settled_columns (columns_of (drop (c.loop-at.at + 1) c.args.columns.now))))) c.if-is_among.true)

pub loop-at-preserved : goal.loop-at-preserved
loop-at-preserved c =
    c.loop-at.invariant
    ∙ repeats-at c.args.columns.now c.loop-at.at c.index-columns-at.result c.is_among.result c.loop-at-test.true c.index-columns-at.is
    (c.is_among.ensures ∙ ap (λ (more : List ShownColumn). is_shown more c.index-columns-at.result.name) (all-behind c.args.columns.now (c.loop-at.at + 1)))
    ∙ ap (λ (b : Bool). b || repeats (names_of (settled_columns (columns_of (drop (c.loop-at.at + 1) c.args.columns.now))))) c.if-is_among.false
