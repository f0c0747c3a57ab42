use Rattle.bag_algebra.proofs.BagLaws.{member_decides}
use Rattle.query_laws.proofs.laws.what_counts_is_a_member.Goals as goal

pub returns : goal.returns
returns c = λ t us. ((member_decides t us).1, (member_decides t us).0)
