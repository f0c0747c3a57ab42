-- The rows that an IMPACT answers are those that vanish, and the tables that a query reads are told by their identities.
use mathlib.Core.Bool.{true≢false}
use Rattle.std.proofs.Common.{◌≡◌, ◌≢◌, ◌∙◌, ◌==◌, ℕ, Bool, true, false, not, [], filter, Option, Decides, IsTrue, refl, sym, ap, subst}
use Rattle.std.proofs.lemmas.Bool.{eqb-true, eq-eqb}
use Rattle.bag_algebra.proofs.BagLaws.{member-filter}
use Rattle.bag_algebra.proofs.MembersByIndex.{contains-from_in, in-from_contains}
use Rattle.bag_algebra.proofs.Outcomes.{same_good}
use Rattle.bag_algebra.proofs.TablesRead.{each_table-told, each_table-from_told}
use Rattle.bag_algebra.proofs.Truths.{both-true, left-true, right-true}
use Rattle.bag_algebra.specs.Bags.{Row, Bag, member}
use Rattle.bag_algebra.specs.Meaning.{Database, meaning}
use Rattle.bag_algebra.specs.Outcome.{Outcome, Good, Bad}
use Rattle.bag_algebra.specs.TablesRead.{EachTable, TableRead, tables_read}
use Rattle.bag_algebra.specs.declared.expr.Expr.{Expr}
use Rattle.bag_algebra.specs.declared.query.Query.{Query}
use Rattle.contribution.proofs.SetsOfNodes.{any_in, from_any}
use Rattle.query_laws.proofs.Once.{holds_once-once}
use Rattle.query_laws.specs.Holding.{HoldsOnce}
use Rattle.query_laws.specs.SublinkLists.{InAnswer}
use Rattle.delete_impact.specs.vanishing.Doomed.{after_deletion}
use Rattle.delete_impact.specs.vanishing.Vanishing.{Vanishes}
use Rattle.statement_meaning.specs.Turns.{is_answered, reads, rows_lost}

-- ---- the rows

module _ (q : Query) (id : ℕ) (condition : Option Expr) (db : Database) where
  abbrev afterwards : Outcome Bag
  afterwards = meaning q (after_deletion id condition db) []

  abbrev is_lost : Row → Bool
  is_lost row = not (is_answered afterwards row)

  answered-then : (t : Row) (o : Outcome Bag) → afterwards ≡ o → Decides (is_answered o t) (InAnswer q (after_deletion id condition db) [] t)
  answered-then t (Good vs) e = (
    λ h. record { bag = vs; good = e; row = h },
    λ a. subst (λ bag. IsTrue (member t bag)) (same_good _ _ (sym a.good ∙ e)) a.row,
  )
  answered-then t (Bad faults) e = (λ h. absurd (true≢false (sym h)), λ a. absurd (good_bad a.bag (sym a.good ∙ e))) where
    good_bad : (bag : Bag) → Good bag ≡ Bad faults → ⊥
    good_bad bag e = cc e

  module _ (us : Bag) (good : meaning q db [] ≡ Good us) where
    decided : (t : Row) → Decides (member t (filter is_lost us)) (Vanishes q id condition db t)
    decided t = (
      λ e.
          let parts = sym (member-filter t is_lost us) ∙ e in
          record {
            before = record { bag = us; good = good; row = left-true (member t us) (is_lost t) parts };
            after = λ a. true≢false (sym (right-true (member t us) (is_lost t) parts) ∙ ap not ((answered-then t afterwards refl).1 a));
          },
      λ v.
          member-filter t is_lost us
          ∙ both-true (member t us) (is_lost t) (subst (λ bag. IsTrue (member t bag)) (same_good _ _ (sym v.before.good ∙ good)) v.before.row)
          (away v (is_answered afterwards t) refl),
    ) where
      away : Vanishes q id condition db t → (b : Bool) → is_answered afterwards t ≡ b → not b ≡ true
      away v true e = absurd (v.after ((answered-then t afterwards refl).0 e))
      away v false e = refl

    pub lost-vanish : HoldsOnce (Vanishes q id condition db) (rows_lost id condition q db us)
    lost-vanish = holds_once-once (Vanishes q id condition db) (filter is_lost us) decided

-- ---- the tables

module _ (id : ℕ) (q : Query) where
  abbrev is_it : TableRead → Bool
  is_it read = read.id == id

  pub reads-not : reads id q ≡ false → EachTable (λ other kinds. other ≢ id) q
  reads-not e =
      each_table-from_told (λ other kinds. other ≢ id) q
      (λ read there same. true≢false
      (sym (any_in is_it read (tables_read q) (in-from_contains read (tables_read q) there) (eq-eqb read.id id same)) ∙ e))

  pub reads-some : reads id q ≡ true → EachTable (λ other kinds. other ≢ id) q → ⊥
  reads-some e unread =
      let found = from_any is_it (tables_read q) e in
      each_table-told (λ other kinds. other ≢ id) q unread found.0 (contains-from_in found.0 (tables_read q) found.1) (eqb-true found.0.id id found.2)
