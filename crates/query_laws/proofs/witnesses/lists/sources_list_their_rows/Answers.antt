use Rattle.query_laws.proofs.NodeLists.{table-lists, single-lists, base-lists, provenance-lists}
use Rattle.query_laws.proofs.witnesses.lists.sources_list_their_rows.Goals as goal

pub returns-clause-table : goal.returns-clause-table
returns-clause-table c = table-lists

pub returns-clause-single : goal.returns-clause-single
returns-clause-single c = single-lists

pub returns-clause-base : goal.returns-clause-base
returns-clause-base c = base-lists

pub returns-clause-provenance : goal.returns-clause-provenance
returns-clause-provenance c = provenance-lists
