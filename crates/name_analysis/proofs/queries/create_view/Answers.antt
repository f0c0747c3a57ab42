use Rattle.name_meaning.specs.declared.answer.Resolved.TheVariants as r
use Rattle.sql_tree.specs.declared.statement.StatementBody.TheVariants as st
use Rattle.name_statements.proofs.Refused.{made-so}
use Rattle.name_analysis.proofs.queries.create_view.Goals as goal

pub returns : goal.returns
returns c =
    made-so c.args.catalog.now (st.CreateView c.args.view c.args.query) (r.CreateView c.args.view.text) c.view_made-entry.result c.view_of.result
    (c.view_made-entry.ensures c.args.view c.requires.free) c.view_of.ensures.made c.view_of.ensures.refused
