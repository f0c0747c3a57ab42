-- What becomes of an IMPACT that breaks no rule.
use Rattle.std.proofs.Common.{◌≡◌, ◌⊎◌, ◌∙◌, ℕ, Bool, true, false, cond, List, [], ◌∷◌, Option, refl, sym, ap, subst, inl, inr}
use Rattle.perm_values.specs.Rows.{printed_cmp}
use Rattle.bag_algebra.proofs.BagLaws.{same_bag-refl}
use Rattle.bag_algebra.proofs.Members.{IsIn, in-member}
use Rattle.bag_algebra.proofs.SortedBags.{same_bag-sorted}
use Rattle.bag_algebra.specs.Bags.{Bag, sorted}
use Rattle.bag_algebra.specs.Meaning.{Database, meaning}
use Rattle.bag_algebra.specs.Outcome.{Outcome, Faults, Good, Bad, both, each, has, union}
use Rattle.bag_algebra.specs.TableRows.{rows_in}
use Rattle.bag_algebra.specs.declared.expr.Expr.{Expr}
use Rattle.bag_algebra.specs.declared.query.Answer.{Answer}
use Rattle.bag_algebra.specs.declared.query.Query.{Query}
use Rattle.delete_impact.specs.vanishing.Doomed.{doomed_on}
use Rattle.delete_impact.specs.vanishing.Vanishing.{Vanishes}
use Rattle.null_logic.specs.declared.run_fault.RunFault.{RunFault}
use Rattle.perm_catalog.specs.Contents.{Contents}
use Rattle.query_laws.proofs.Limited.{ordered_once}
use Rattle.query_laws.proofs.Once.{holds_once-same}
use Rattle.query_laws.proofs.Outcomes.{from-union}
use Rattle.sql_tree.specs.declared.statement.Statement.{Statement}
use Rattle.statement_meaning.proofs.Asked.{asked-by_breaks}
use Rattle.statement_meaning.proofs.Lost.{lost-vanish}
use Rattle.statement_meaning.specs.Asking.{Settled, asked, asks}
use Rattle.statement_meaning.specs.Turns.{Accepted, Refused, Meets, answer_text, answered, identity_of, impact, on_good, reads, rows_before, rows_going, rows_lost}
use Rattle.statement_meaning.proofs.Answered.{listed-text, same_text}
use Rattle.statement_meaning.proofs.Provenance.{same_bag-holds}
use Rattle.statement_meaning.specs.laws.Lost.{AsksImpact, ListsLost, MeetsLost, of_query, of_condition}

-- ---- what it asks for

pub asked-impact : (c : Contents) (statement : Statement) (name : List ℕ) (condition : Option Expr) (answer : Answer) → AsksImpact c statement name condition answer
    → asked c statement ≡ Settled (impact c statement.at name condition answer)
asked-impact c statement name condition answer asked_for =
    asked-by_breaks c statement [] asked_for.whole ∙ ap (asks c statement.at) asked_for.is

-- ---- the rows

-- where both are good, the query is
pub before-good : (id : ℕ) (condition : Option Expr) (query : Query) (db : Database) (bag : Bag) → rows_before id condition query db ≡ Good bag
    → (meaning query db [] ≡ Good bag) × ((doomed : List Bool) × (rows_going id condition query db ≡ Good doomed))
before-good id condition query db bag = parts (meaning query db []) (rows_going id condition query db) where
  parts : (o : Outcome Bag) (p : Outcome (List Bool)) → both (λ rows doomed. rows) o p ≡ Good bag → (o ≡ Good bag) × ((doomed : List Bool) × (p ≡ Good doomed))
  parts (Good rows) (Good doomed) e = (e, (doomed, refl))
  parts (Good rows) (Bad g) e = absurd (cc e)
  parts (Bad f) (Good doomed) e = absurd (cc e)
  parts (Bad f) (Bad g) e = absurd (cc e)

-- the rows in their order, under a text that is written so
pub lost-listed : (answer : Answer) (id : ℕ) (condition : Option Expr) (db : Database) (bag : Bag) (text : List ℕ) → meaning answer.query db [] ≡ Good bag
    → answer_text answer (rows_lost id condition answer.query db bag) ≡ text → ListsLost answer id condition db text
lost-listed answer id condition db bag text good written =
    let lost : Bag = rows_lost id condition answer.query db bag in
    record {
      rows = sorted (printed_cmp answer.keys) lost;
      listed = record { ordered = (listed-text answer lost).ordered; written = sym written };
      vanish = same_bag-holds (Vanishes answer.query id condition db) lost (sorted (printed_cmp answer.keys) lost)
          (same_bag-sorted (printed_cmp answer.keys) lost) (lost-vanish answer.query id condition db bag good);
    }

pub good-impact : (c : Contents) (statement : Statement) (name : List ℕ) (condition : Option Expr) (answer : Answer) (bag : Bag)
    → AsksImpact c statement name condition answer → rows_before (identity_of c name) condition answer.query (rows_in c.rows) ≡ Good bag
    → (text : List ℕ) × ListsLost answer (identity_of c name) condition (rows_in c.rows) text × (asked c statement ≡ Settled (Accepted text c))
good-impact c statement name condition answer bag asked_for good =
    let id : ℕ = identity_of c name in
    let db : Database = rows_in c.rows in
    let lost : Bag = rows_lost id condition answer.query db bag in (
      answer_text answer lost,
      lost-listed answer id condition db bag (answer_text answer lost) (before-good id condition answer.query db bag good).0 refl,
      asked-impact c statement name condition answer asked_for
          ∙ ap (λ (o : Outcome Bag). Settled (on_good statement.at o (λ rows. answered c answer (rows_lost id condition answer.query db rows)))) good,
    )

pub bad-impact : (c : Contents) (statement : Statement) (name : List ℕ) (condition : Option Expr) (answer : Answer) (faults : Faults)
    → AsksImpact c statement name condition answer → rows_before (identity_of c name) condition answer.query (rows_in c.rows) ≡ Bad faults
    → asked c statement ≡ Settled (Refused (Meets faults statement.at))
bad-impact c statement name condition answer faults asked_for bad =
    asked-impact c statement name condition answer asked_for
    ∙ ap (λ (o : Outcome Bag). Settled (on_good statement.at o (λ rows. answered c answer (rows_lost (identity_of c name) condition answer.query (rows_in c.rows) rows)))) bad

pub one_lost_text : (answer : Answer) (id : ℕ) (condition : Option Expr) (db : Database) (text other : List ℕ) → ListsLost answer id condition db text
    → ListsLost answer id condition db other → text ≡ other
one_lost_text answer id condition db text other a b =
    same_text answer a.rows b.rows text other a.listed b.listed
    (ordered_once answer.keys a.rows a.rows b.rows (same_bag-refl a.rows) (holds_once-same (Vanishes answer.query id condition db) a.rows b.rows a.vanish b.vanish)
    a.listed.ordered b.listed.ordered)

-- ---- faults

module _ {X Y : Type 0} (f : X → Outcome Y) where
  first-good : (w x : X) (xs : List X) (ys : List Y) (o : Outcome Y) (p : Outcome (List Y)) → f w ≡ o → both (λ z zs. z ∷ zs) o p ≡ Good ys
      → ((others : List Y) → p ≡ Good others → IsIn x xs → (y : Y) × (f x ≡ Good y)) → IsIn x (w ∷ xs) → (y : Y) × (f x ≡ Good y)
  first-good w x xs ys (Good y) (Good others) here whole rest (inl same) = (y, ap f (sym same) ∙ here)
  first-good w x xs ys (Good y) (Good others) here whole rest (inr there) = rest others refl there
  first-good w x xs ys (Good y) (Bad h) here whole rest i = absurd (cc whole)
  first-good w x xs ys (Bad g) (Good others) here whole rest i = absurd (cc whole)
  first-good w x xs ys (Bad g) (Bad h) here whole rest i = absurd (cc whole)

  -- where all of them are good, each is
  pub each-good : (xs : List X) (ys : List Y) → each f xs ≡ Good ys → (x : X) → IsIn x xs → (y : Y) × (f x ≡ Good y)
  each-good [] ys e x there = absurd there
  each-good (w ∷ xs) ys e x there = first-good w x xs ys (f w) (each f xs) refl e (λ others rest i. each-good xs others rest x i) there

same_set : {Z : Type 0} (o : Outcome Z) (g h : Faults) → o ≡ Bad g → o ≡ Bad h → g ≡ h
same_set o g h e k = cc

module _ {X Y : Type 0} (f : X → Outcome Y) (fault : RunFault) where
  abbrev MeetsOn : List X → Type 0
  MeetsOn xs = (x : X) × IsIn x xs × (faults : Faults) × (f x ≡ Bad faults) × (has faults fault ≡ true)

  later : (x : X) (xs : List X) → MeetsOn xs → MeetsOn (x ∷ xs)
  later x xs met = (met.0, inr met.1, met.2, met.3, met.4)

  of_parts : (x : X) (xs : List X) (g h : Faults) → f x ≡ Bad g → (has h fault ≡ true → MeetsOn xs) → (has g fault ≡ true) ⊎ (has h fault ≡ true) → MeetsOn (x ∷ xs)
  of_parts x xs g h here rest (inl k) = (x, inl refl, g, here, k)
  of_parts x xs g h here rest (inr k) = later x xs (rest k)

  first-meets : (x : X) (xs : List X) (faults : Faults) (o : Outcome Y) (p : Outcome (List Y)) → f x ≡ o → both (λ y ys. y ∷ ys) o p ≡ Bad faults → has faults fault ≡ true
      → ((h : Faults) → p ≡ Bad h → has h fault ≡ true → MeetsOn xs) → MeetsOn (x ∷ xs)
  first-meets x xs faults (Good y) (Good ys) here whole some rest = absurd (cc whole)
  first-meets x xs faults (Good y) (Bad h) here whole some rest = later x xs (rest faults whole some)
  first-meets x xs faults (Bad g) (Good ys) here whole some rest =
      (x, inl refl, g, here, subst (λ (k : Faults). has k fault ≡ true) (sym (same_set (Bad g) g faults refl whole)) some)
  first-meets x xs faults (Bad g) (Bad h) here whole some rest =
      of_parts x xs g h here (λ k. rest h refl k)
      (from-union g h fault (subst (λ (k : Faults). has k fault ≡ true) (sym (same_set (Bad (union g h)) (union g h) faults refl whole)) some))

  -- a fault that is met on some of them is met on one of them
  each-meets : (xs : List X) (faults : Faults) → each f xs ≡ Bad faults → has faults fault ≡ true → MeetsOn xs
  each-meets [] faults e some = absurd (cc e)
  each-meets (x ∷ xs) faults e some = first-meets x xs faults (f x) (each f xs) refl e some (λ h rest k. each-meets xs h rest k)

-- a fault of an IMPACT is one of its query or of its condition
module _ (query : Query) (id : ℕ) (condition : Option Expr) (db : Database) (fault : RunFault) where
  going-meets : (b : Bool) (faults : Faults) → reads id query ≡ b → cond b (each (doomed_on condition) (db id)) (Good []) ≡ Bad faults → has faults fault ≡ true
      → MeetsLost query id condition db fault
  going-meets true faults read e some =
      let met = each-meets (doomed_on condition) fault (db id) faults e some in
      of_condition met.0 met.2 read (in-member met.0 (db id) met.1) met.3 met.4
  going-meets false faults read e some = absurd (cc e)

  of_two : (f g : Faults) → meaning query db [] ≡ Bad f → rows_going id condition query db ≡ Bad g → (has f fault ≡ true) ⊎ (has g fault ≡ true)
      → MeetsLost query id condition db fault
  of_two f g one other (inl k) = of_query f one k
  of_two f g one other (inr k) = going-meets (reads id query) g refl other k

  before-parts : (faults : Faults) (o : Outcome Bag) (p : Outcome (List Bool)) → meaning query db [] ≡ o → rows_going id condition query db ≡ p
      → both (λ rows doomed. rows) o p ≡ Bad faults → has faults fault ≡ true → MeetsLost query id condition db fault
  before-parts faults (Good rows) (Good doomed) one other whole some = absurd (cc whole)
  before-parts faults (Good rows) (Bad g) one other whole some =
      going-meets (reads id query) g refl other (subst (λ (k : Faults). has k fault ≡ true) (sym (same_set (Bad g) g faults refl whole)) some)
  before-parts faults (Bad f) (Good doomed) one other whole some = of_query faults (one ∙ whole) some
  before-parts faults (Bad f) (Bad g) one other whole some =
      of_two f g one other (from-union f g fault (subst (λ (k : Faults). has k fault ≡ true) (sym (same_set (Bad (union f g)) (union f g) faults refl whole)) some))

  pub before-meets : (faults : Faults) → rows_before id condition query db ≡ Bad faults → has faults fault ≡ true → MeetsLost query id condition db fault
  before-meets faults = before-parts faults (meaning query db []) (rows_going id condition query db) refl refl
