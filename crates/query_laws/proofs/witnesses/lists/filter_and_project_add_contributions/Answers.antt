use Rattle.query_laws.proofs.NodeLists.{filter-lists, project-lists}
use Rattle.query_laws.proofs.witnesses.lists.filter_and_project_add_contributions.Goals as goal

pub returns-clause-filter : goal.returns-clause-filter
returns-clause-filter c = filter-lists

pub returns-clause-project : goal.returns-clause-project
returns-clause-project c = project-lists
