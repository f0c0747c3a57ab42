use Rattle.std.proofs.Common.{[], arith}
use Rattle.query_facts.specs.reached.Reach.{reach_of}
use Rattle.query_facts.proofs.Alike.{meaning-alike}
use Rattle.query_facts.proofs.reached.laws.a_query_reads_no_column_beyond_its_reach.Goals as goal

pub returns : goal.returns
returns c = λ q db row other env. meaning-alike q db [] row other env (reach_of q) (omega arith)
