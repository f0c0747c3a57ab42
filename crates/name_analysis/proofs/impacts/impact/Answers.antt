use Rattle.name_meaning.specs.declared.answer.Resolved.TheVariants as r
use Rattle.name_statements.specs.declared.queries.Whole.{Whole}
use Rattle.sql_tree.specs.declared.statement.StatementBody.TheVariants as st
use Rattle.name_statements.proofs.Impacts.{impact-refused, impact-so}
use Rattle.name_statements.proofs.Refused.{made-so}
use Rattle.name_analysis.proofs.impacts.impact.Goals as goal

pub returns-in-Ok : goal.returns-in-Ok
returns-in-Ok c =
    let held = c.args.catalog.now in
    let table = c.args.table in
    made-so held (st.Impact table c.args.condition c.args.query) (λ (whole : Whole). r.Impact table.text c.in-Ok.condition whole.answer)
    c.asked_about-whole.result c.impact_of.result
    (impact-so held table c.args.condition c.args.query c.in-Ok.condition c.in-Ok.ensures c.asked_about-whole.result c.asked_about-whole.ensures)
    c.impact_of.ensures.made c.impact_of.ensures.refused

pub returns-in-Err : goal.returns-in-Err
returns-in-Err c = impact-refused c.args.catalog.now c.args.table c.args.condition c.args.query c.in-Err.first c.in-Err.ensures
