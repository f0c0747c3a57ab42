use Rattle.bag_algebra.proofs.TablesRead.{reads_among-fit, reads_among-itself, reads_among-onward}
use Rattle.bag_algebra.proofs.laws.what_fits_a_query_fits_what_reads_its_tables.Goals as goal

pub returns-clause-fits : goal.returns-clause-fits
returns-clause-fits c = λ p q db among fitting. reads_among-fit p q db among fitting

pub returns-clause-itself : goal.returns-clause-itself
returns-clause-itself c = reads_among-itself

pub returns-clause-onward : goal.returns-clause-onward
returns-clause-onward c = reads_among-onward
