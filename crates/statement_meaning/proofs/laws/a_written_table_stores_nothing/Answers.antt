use Rattle.statement_meaning.proofs.StoredThen.{leaves-nothing, leaves-others}
use Rattle.statement_meaning.proofs.laws.a_written_table_stores_nothing.Goals as goal

pub returns-clause-forgotten : goal.returns-clause-forgotten
returns-clause-forgotten c = leaves-nothing

pub returns-clause-others : goal.returns-clause-others
returns-clause-others c = leaves-others
