use Rattle.name_meaning.specs.declared.answer.Resolved.TheVariants as r
use Rattle.sql_tree.specs.declared.statement.StatementBody.TheVariants as st
use Rattle.name_statements.specs.declared.queries.Whole.{Whole}
use Rattle.name_statements.proofs.Refused.{made-so}
use Rattle.name_analysis.proofs.queries.create_table_as.Goals as goal

pub returns : goal.returns
returns c =
    made-so c.args.catalog.now (st.CreateTableAs c.args.table c.args.query)
    (λ (whole : Whole). r.CreateTableAs c.args.table.text whole.columns whole.answer whole.places) c.table_made-whole.result c.table_of.result
    c.table_made-whole.ensures c.table_of.ensures.made c.table_of.ensures.refused
