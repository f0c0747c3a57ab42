use Rattle.name_meaning.specs.declared.answer.Resolved.TheVariants as r
use Rattle.sql_tree.specs.declared.statement.StatementBody.TheVariants as st
use Rattle.sql_tree.specs.declared.statement.ValuesRow.{ValuesRow}
use Rattle.std.proofs.Common.{List, subst}
use Rattle.name_statements.specs.Resolves.{ResolvesBy}
use Rattle.name_statements.proofs.Refused.{made-so}
use Rattle.name_analysis.proofs.rows.insert.Goals as goal

pub returns : goal.returns
returns c =
    made-so c.args.catalog.now (st.Insert c.args.table c.args.rows) (r.Insert c.args.table.text) c.inserted-made.result c.insert_of.result
    (subst (λ (rows : List ValuesRow). ResolvesBy c.args.catalog.now (st.Insert c.args.table rows) (r.Insert c.args.table.text) c.inserted-made.result) c.as_slice.ensures c.inserted-made.ensures)
    c.insert_of.ensures.made c.insert_of.ensures.refused
