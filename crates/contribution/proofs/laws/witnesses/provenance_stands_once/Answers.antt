use Rattle.contribution.proofs.FirstColumns.{first_columns}
use Rattle.contribution.proofs.ListedRows.{provenance-once, provenance-pairs, provenance-faults}
use Rattle.contribution.proofs.laws.witnesses.provenance_stands_once.Goals as goal

pub returns-clause-once : goal.returns-clause-once
returns-clause-once c = provenance-once

pub returns-clause-pairs : goal.returns-clause-pairs
returns-clause-pairs c = provenance-pairs

pub returns-clause-faults : goal.returns-clause-faults
returns-clause-faults c = provenance-faults

pub returns-clause-first_columns : goal.returns-clause-first_columns
returns-clause-first_columns c = first_columns
