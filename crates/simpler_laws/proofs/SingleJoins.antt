-- An inner join with the one row of no columns is the other side.
use Rattle.std.proofs.Common.{◌≡◌, true, [], ◌∷◌, ◌++◌, map, filter, append-nil, refl, sym, ap, ◌∙◌, subst}
use Rattle.perm_values.proofs.Steps.{by}
use Rattle.bag_algebra.specs.Bags.{Bag}
use Rattle.bag_algebra.specs.Kinds.{kinds_of}
use Rattle.bag_algebra.specs.Meaning.{meaning}
use Rattle.bag_algebra.specs.Outcome.{Outcome, Good, Bad, both}
use Rattle.bag_algebra.specs.Rewriting.{is_plain, Stands}
use Rattle.bag_algebra.specs.built.Forms.{EachTable-Join, WellFormed-Join}
use Rattle.bag_algebra.specs.built.Openings.{kinds_of-Join}
use Rattle.bag_algebra.specs.declared.query.JoinKind.TheVariants.{Inner}
use Rattle.bag_algebra.specs.declared.query.Query.{Query}
use Rattle.bag_algebra.specs.declared.query.Query.TheVariants.{Join, Single}
use Rattle.contribution.specs.Conjunctions.{all_hold}
use Rattle.rewrite_core.proofs.Itself.{stands-onward}
use Rattle.simpler_laws.proofs.Gathered.{paired_where, filter-all}
use Rattle.simpler_laws.proofs.InnerJoins.{meaning-join, stands-inner}
use Rattle.simpler_laws.proofs.TestedQueries.{stands-same}

-- ---- pairs

pairs-right : (us : Bag) → paired_where (λ x. true) us ([] ∷ []) ≡ us
pairs-right [] = refl
pairs-right (u ∷ us) = λ i. append-nil u i ∷ pairs-right us i

map-itself : (us : Bag) → map (λ v. [] ++ v) us ≡ us
map-itself [] = refl
map-itself (u ∷ us) = ap (λ vs. u ∷ vs) (map-itself us)

pairs-left : (vs : Bag) → paired_where (λ x. true) ([] ∷ []) vs ≡ vs
pairs-left vs = append-nil (map (λ v. [] ++ v) (filter (λ v. true) vs)) ∙ map-itself (filter (λ v. true) vs) ∙ filter-all vs

module _ (q : Query) (plain : is_plain q ≡ true) where
  right_dropped : (o : Outcome Bag) → both (paired_where (λ x. true)) o (Good ([] ∷ [])) ≡ o
  right_dropped (Good us) = ap Good (pairs-right us)
  right_dropped (Bad faults) = refl

  left_dropped : (o : Outcome Bag) → both (paired_where (λ x. true)) (Good ([] ∷ [])) o ≡ o
  left_dropped (Good us) = ap Good (pairs-left us)
  left_dropped (Bad faults) = refl

  without_right : Stands (Join Inner q Single (all_hold []) []) q
  without_right =
      stands-same (Join Inner q Single (all_hold []) []) q plain (sym (kinds_of-Join Inner q Single (all_hold []) [] ∙ append-nil (kinds_of q)))
      (λ outer f. (by (WellFormed-Join outer Inner q Single (all_hold []) []) f).left)
      (λ P h. (by (EachTable-Join P Inner q Single (all_hold []) []) h).0)
      (λ outer db env f h e. meaning-join q Single (all_hold []) db env refl ∙ right_dropped (meaning q db env))

  without_left : Stands (Join Inner Single q (all_hold []) []) q
  without_left =
      stands-same (Join Inner Single q (all_hold []) []) q plain (sym (kinds_of-Join Inner Single q (all_hold []) []))
      (λ outer f. (by (WellFormed-Join outer Inner Single q (all_hold []) []) f).right)
      (λ P h. (by (EachTable-Join P Inner Single q (all_hold []) []) h).1)
      (λ outer db env f h e. meaning-join Single q (all_hold []) db env refl ∙ left_dropped (meaning q db env))

pub stands-without_right : (q b r d : Query) → d ≡ Single → Stands q b → Stands r d → Stands (Join Inner q r (all_hold []) []) b
stands-without_right q b r d is s t =
    stands-onward (Join Inner q r (all_hold []) []) (Join Inner b Single (all_hold []) []) b
    (stands-inner q b r Single [] s (subst (Stands r) is t)) (without_right b s.plain)

pub stands-without_left : (q b r d : Query) → b ≡ Single → Stands q b → Stands r d → Stands (Join Inner q r (all_hold []) []) d
stands-without_left q b r d is s t =
    stands-onward (Join Inner q r (all_hold []) []) (Join Inner Single d (all_hold []) []) d
    (stands-inner q Single r d [] (subst (Stands q) is s) t) (without_left d t.plain)
