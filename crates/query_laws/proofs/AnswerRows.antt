-- Rows of answers, and the lists of a node's row.
use Rattle.std.proofs.Common.{◌≡◌, ◌↔◌, List, Contains, refl, sym, ap, ◌∙◌, subst}
use Rattle.bag_algebra.proofs.Columns.{in-with_lists}
use Rattle.bag_algebra.proofs.Members.{IsIn, in-member, member-in}
use Rattle.bag_algebra.specs.Bags.{Row, Bag}
use Rattle.bag_algebra.specs.built.Openings.{rows-with_lists}
use Rattle.bag_algebra.specs.Meaning.{Database, denote, meaning, witnesses}
use Rattle.bag_algebra.specs.Means.{Means, Witness, with_lists, good_rows}
use Rattle.bag_algebra.specs.Outcome.{Outcome, Good, Bad}
use Rattle.bag_algebra.specs.declared.query.Query.{Query}
use Rattle.contribution.proofs.EntriesAtPlaces.{from-lists}
use Rattle.bag_algebra.proofs.MembersByIndex.{in-from_contains, contains-from_in}
use Rattle.query_laws.specs.SublinkLists.{InAnswer}

pub answer-from : (q : Query) (db : Database) (env : List Row) (t : Row) → IsIn t (good_rows (meaning q db env)) → InAnswer q db env t
answer-from q db env t h = by_meaning (meaning q db env) refl h where
  by_meaning : (o : Outcome Bag) → meaning q db env ≡ o → IsIn t (good_rows o) → InAnswer q db env t
  by_meaning (Good bag) e h = record { bag = bag; good = e; row = in-member t bag h }
  by_meaning (Bad faults) e h = absurd h

pub answer-in : (q : Query) (db : Database) (env : List Row) (t : Row) → InAnswer q db env t → IsIn t (good_rows (meaning q db env))
answer-in q db env t a = subst (IsIn t) (sym (ap good_rows a.good)) (member-in t a.bag a.row)

-- w is a list of t exactly where t is in the node's answer and the node's own lists have w
module _ (q : Query) (db : Database) (env : List Row) (rows : Outcome Bag) (lists : Row → List Witness) (is : denote q db env ≡ with_lists rows lists) (t : Row) (w : Witness) where
  same_rows : meaning q db env ≡ rows
  same_rows = ap (λ (m : Means). m.rows) is ∙ rows-with_lists rows lists

  in_answer : InAnswer q db env t → IsIn w (lists t) → Contains (witnesses q db env t) w
  in_answer a h =
      let listed = in-with_lists a.bag lists t w (member-in t a.bag a.row) h in
      contains-from_in w (witnesses q db env t)
      (subst (λ (m : Means). IsIn w (m.lists t)) (sym is)
      (subst (λ o. IsIn w ((with_lists o lists).lists t)) (sym a.good ∙ same_rows) listed))

  pub listed-where : {P : Type 0} → (IsIn t (good_rows rows) → IsIn w (lists t) → P) → (P → IsIn w (lists t)) →
      Contains (witnesses q db env t) w ↔ (InAnswer q db env t × P)
  listed-where to from = (
    λ h.
        let found = from-lists rows lists t w (subst (λ (m : Means). IsIn w (m.lists t)) is (in-from_contains w (witnesses q db env t) h)) in
        (answer-from q db env t (subst (λ o. IsIn t (good_rows o)) (sym same_rows) found.0), to found.0 found.1),
    λ p. in_answer p.0 (from p.1),
  )
