use Rattle.std.proofs.Common.{ap, subst}
use Rattle.bag_algebra.proofs.Members.{IsIn}
use Rattle.bag_algebra.specs.Means.{chosen, good_value}
use Rattle.bag_algebra.proofs.MembersByIndex.{in-from_contains, contains-from_in}
use Rattle.query_laws.proofs.Contributed.{in-chosen, chosen-is, contributed, contributes-from, in-contributed}
use Rattle.query_laws.proofs.witnesses.sublinks.contributions_are_lists_of_chosen_rows.Goals as goal

pub returns-clause-chosen : goal.returns-clause-chosen
returns-clause-chosen c kind x bag v =
    (λ h. chosen-is x bag v kind (in-from_contains v (chosen kind x bag) h), λ k. contains-from_in v (chosen kind x bag) (in-chosen x bag v kind k))

pub returns-clause-contributions : goal.returns-clause-contributions
returns-clause-contributions c sub db env u x bag w tested good = (
  λ h. contributes-from db env u sub x bag w tested good (in-from_contains w (contributed db env u sub x) h),
  λ k. contains-from_in w (contributed db env u sub x) (subst (λ y. IsIn w (contributed db env u sub y)) (ap good_value tested) (in-contributed db env u sub w k)),
)
