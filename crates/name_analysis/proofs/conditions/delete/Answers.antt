use Rattle.name_meaning.specs.declared.answer.Resolved.TheVariants as r
use Rattle.sql_tree.specs.declared.statement.StatementBody.TheVariants as st
use Rattle.name_statements.proofs.Refused.{made-so}
use Rattle.name_analysis.proofs.conditions.delete.Goals as goal

pub returns : goal.returns
returns c =
    made-so c.args.catalog.now (st.Delete c.args.table c.args.condition) (r.Delete c.args.table.text) c.deleted-made.result c.delete_of.result
    c.deleted-made.ensures c.delete_of.ensures.made c.delete_of.ensures.refused
