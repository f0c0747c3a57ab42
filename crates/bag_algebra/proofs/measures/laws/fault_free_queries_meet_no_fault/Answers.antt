use Rattle.bag_algebra.proofs.NeverBad.{good-query}
use Rattle.bag_algebra.proofs.measures.laws.fault_free_queries_meet_no_fault.Goals as goal

pub returns : goal.returns
returns c = λ q db env w. good-query q w db env
