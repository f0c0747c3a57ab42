use Rattle.std.proofs.Common.{◌∙◌, ◌++◌, ap, unwrap_or}
use Rattle.perm_values.proofs.Results.{when-ok}
use Rattle.query_texts.specs.clauses.Frames.{called_in}
use Rattle.query_texts.specs.clauses.Names.{nameless}
use Rattle.query_texts.specs.clauses.ClauseTexts.{table_text}
use Rattle.query_texts.proofs.clauses.lists.push_table.Goals as goal

pub returns-in-Some : goal.returns-in-Some
returns-in-Some c =
    when-ok c.push_listed.result c.push_listed.ensures (λ joined.
    rw (c.bytes.ensures.value, c.as_slice.ensures) at joined
    ∙ ap (λ found. c.args.draft.now ++ table_text (called_in c.args.frame.now) (unwrap_or found (nameless c.args.id))) c.in-Some.ensures)

pub returns-in-None : goal.returns-in-None
returns-in-None c =
    when-ok c.push_listed-in-None.result c.push_listed-in-None.ensures (λ joined.
    joined ∙ ap (λ found. c.args.draft.now ++ table_text (called_in c.args.frame.now) (unwrap_or found (nameless c.args.id))) c.in-None.ensures)
