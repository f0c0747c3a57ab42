-- The query that answers is what it is to be.
use Rattle.std.proofs.Common.{◌≡◌, ◌⊎◌, inl, inr, ℕ, Bool, true, false, cond, not, ◌&&◌, List, [], ◌∷◌, ◌++◌, filter, Option, Some, None, Decides, Contains, IsTrue, Result, Ok, Err, IfOk, refl, sym, ap, ◌∙◌, subst, subst₂, append-nil}
use mathlib.Core.Bool.{true≢false}
use Rattle.perm_values.specs.declared.kind.Kind.{Kind}
use Rattle.perm_values.specs.declared.kind.Kind.TheVariants.{Boolean}
use Rattle.perm_values.specs.declared.no_memory.NoMemory.{NoMemory}
use Rattle.perm_values.specs.declared.value.Value.{Value}
use Rattle.bag_algebra.proofs.BagLaws.{member-filter}
use Rattle.bag_algebra.proofs.Closing.{query_within}
use Rattle.bag_algebra.proofs.Members.{IsIn, from-append, in-member, member-in}
use Rattle.bag_algebra.proofs.NeverBad.{good-value}
use Rattle.bag_algebra.proofs.Outcomes.{same_good, good-is}
use Rattle.bag_algebra.proofs.TablesRead.{each_table-told, each_table-from_told, reads_among-itself}
use Rattle.bag_algebra.proofs.Truths.{both-true, left-true, right-true}
use Rattle.bag_algebra.specs.Bags.{Row, Bag, member, once, union_of, except_of}
use Rattle.bag_algebra.specs.Expressions.{value}
use Rattle.bag_algebra.specs.FaultFree.{faultless}
use Rattle.bag_algebra.specs.Fits.{TablesFit}
use Rattle.bag_algebra.specs.Kinds.{kinds_of}
use Rattle.bag_algebra.specs.Meaning.{Database, denote, meaning}
use Rattle.bag_algebra.specs.Outcome.{Faults, Outcome, Good, Bad, and_then, both, each}
use Rattle.bag_algebra.specs.Rewriting.{is_plain}
use Rattle.bag_algebra.specs.TablesRead.{EachTable, tables_read}
use Rattle.bag_algebra.specs.WellFormed.{WellFormed, HasKind}
use Rattle.bag_algebra.specs.declared.expr.Expr.{Expr}
use Rattle.bag_algebra.specs.declared.query.Query.{Query}
use Rattle.bag_algebra.specs.declared.query.Query.TheVariants.{Union}
use Rattle.contribution.proofs.NodeQueries.{plain-chosen, formed-chosen}
use Rattle.contribution.proofs.Agreement.{joined_lists}
use Rattle.contribution.proofs.SetsOfRows.{Below, below_good}
use Rattle.contribution.proofs.SharedMembers.{Within}
use Rattle.contribution.specs.Conjunctions.{always, condition_or_true}
use Rattle.query_facts.specs.monotone.Monotone.{is_monotone}
use Rattle.query_laws.proofs.Once.{holds_once-once}
use Rattle.query_laws.specs.Holding.{HoldsOnce}
use Rattle.delete_impact.specs.vanishing.Doomed.{doomed_on, is_doomed, after_deletion, places_over}
use Rattle.delete_impact.specs.vanishing.Vanishing.{Vanishes}
use Rattle.delete_impact.proofs.Below.{below-within}
use Rattle.delete_impact.proofs.KeptQueries.{KeptRows}
use Rattle.delete_impact.proofs.VanishingRows.{kept-of}
use Rattle.delete_impact.specs.Answering.{adds_none, looked_through, lost, never, no_row_of, vanishing, with_faults}
use Rattle.delete_impact.specs.reduced.Reads.{Unread, IsRead, first_kinds}
use Rattle.delete_impact.specs.reduced.Hiding.{hides_none}
use Rattle.delete_impact.specs.reduced.Reduced.{behind, missing, missing_part, over_rows, reduced}
use Rattle.delete_impact.specs.reduced.Splitting.{splits}
use Rattle.delete_impact.specs.Impact.{IsImpact}
use Rattle.query_facts.specs.monotone.Conditions.{ConditionFits}
use Rattle.delete_impact.proofs.BothParts.{both-bad, parts-above}
use Rattle.delete_impact.proofs.Conditions.{each-item, emptied}
use Rattle.delete_impact.proofs.FewerFaults.{bad-above, fewer-below, fewer-part}
use Rattle.delete_impact.proofs.LookedThrough.{meaning-no_row, good-both, bad-both}
use Rattle.delete_impact.proofs.WithFaults.{either, plain-with_faults, tables-with_faults, formed-with_faults, meaning-with_faults}
use Rattle.delete_impact.proofs.reduced.BehindRows.{meaning-behind, kinds-behind, plain-behind, tables-behind, formed-behind}
use Rattle.delete_impact.proofs.reduced.MissingRows.{meaning-missing, meaning-missing_part, kinds-missing, kinds-missing_part, plain-missing, plain-missing_part, tables-missing, tables-missing_part, formed-missing, formed-missing_part}
use Rattle.delete_impact.proofs.reduced.ReadKinds.{none-unread, found-contained, found-is_read}
use Rattle.delete_impact.proofs.reduced.OverRowsForms.{plain-monotone, OnTables}
use Rattle.delete_impact.proofs.ReducedRows.{going-rows, reduced-rows, part_of}

-- ---- where the table isn't read

pub unread-impact : (q : Query) (id : ℕ) (condition : Option Expr) → is_monotone q ≡ true → WellFormed [] q → Unread id q → IsImpact q id condition (no_row_of q)
unread-impact q id condition m f unread =
    let formed = formed-chosen q never [] f (record { fitting = refl; gives = refl }) in
    record {
      plain = plain-chosen q never ∙ plain-monotone q m;
      closed = query_within [] (no_row_of q) 0 refl formed;
      formed = formed;
      kinds = refl;
      tables = (reads_among-itself q, tt);
      nothing = λ db us fits apart good. meaning-no_row q db ∙ ap emptied good;
      own_faults = λ db faults fits apart bad. meaning-no_row q db ∙ ap emptied bad;
      vanishing = λ db us fits read good. absurd (read unread);
      faults = λ db faults fits read bad. absurd (read unread);
    }

-- ---- where it is read

-- the condition, or TRUE, on the kinds of each table of the identity
pub fits-or_true : (q : Query) (id : ℕ) (condition : Option Expr) → ConditionFits id condition q → OnTables id (condition_or_true condition) q
fits-or_true q id None h = each_table-from_told (λ other own. other ≡ id → HasKind (own ∷ []) [] always Boolean) q (λ read there same. record { fitting = refl; gives = refl })
fits-or_true q id (Some condition) h = h

same-deletion : (id : ℕ) (condition : Option Expr) (db : Database) → after_deletion id (Some (condition_or_true condition)) db ≡ after_deletion id condition db
same-deletion id None db = refl
same-deletion id (Some condition) db = refl

good-under : {o : Outcome Bag} (us : Bag) → Below o (Good us) → (vs : Bag) × (o ≡ Good vs) × Within vs us
good-under us (below_good {us = vs} s) = (vs, refl, s)

same-looked : (condition : Option Expr) (us : Bag) → each (doomed_on (Some (condition_or_true condition))) us ≡ each (doomed_on condition) us
same-looked None us = refl
same-looked (Some condition) us = refl

module _ (q : Query) (id : ℕ) (given : Option Expr) (kinds : List Kind) (m : is_monotone q ≡ true) (f : WellFormed [] q)
    (on : ConditionFits id given q) (there : Contains (tables_read q) (record { id = id; kinds = kinds })) where
  abbrev test : Expr
  test = condition_or_true given

  abbrev rows : Query
  rows = with_faults q (kinds_of q) id kinds test

  abbrev others : Query
  others = reduced id test q

  on_tables : OnTables id test q
  on_tables = fits-or_true q id given on

  condition-formed : HasKind (kinds ∷ []) [] test Boolean
  condition-formed = each_table-told (λ other own. other ≡ id → HasKind (own ∷ []) [] test Boolean) q on_tables (record { id = id; kinds = kinds }) there refl

  abbrev going : Query
  going = over_rows id test q

  abbrev gap : Query
  gap = missing id test q

  abbrev gap_part : Query
  gap_part = missing_part id test q

  -- what holds of EXCEPT, over the rows that go and over all, and of EXCEPT behind the query
  all_ways : (P : Query → Type 0) → P gap_part → P gap → P (behind rows gap) → P (vanishing q id kinds test)
  all_ways P g h k = either P (adds_none test q) (lost id test q) (behind rows gap) (either P (splits id q) gap_part gap g h) k

  -- ---- forms

  formed-gap : WellFormed [] gap
  formed-gap = formed-missing id test q on_tables f

  formed-answer : WellFormed [] (vanishing q id kinds test)
  formed-answer =
      all_ways (WellFormed []) (formed-missing_part id test q on_tables f) formed-gap
      (formed-behind rows gap (formed-with_faults q id kinds test f condition-formed) formed-gap)

  kinds-answer : kinds_of (vanishing q id kinds test) ≡ kinds_of q
  kinds-answer = all_ways (λ r. kinds_of r ≡ kinds_of q) (kinds-missing_part id test q) (kinds-missing id test q) (kinds-behind rows gap ∙ kinds-missing id test q)

  plain-answer : is_plain (vanishing q id kinds test) ≡ true
  plain-answer =
      all_ways (λ r. is_plain r ≡ true) (plain-missing_part id test q m) (plain-missing id test q m)
      (plain-behind rows gap (plain-with_faults q id kinds test (plain-monotone q m)) (plain-missing id test q m))

  abbrev among : ℕ → List Kind → Type 0
  among other own = Contains (tables_read q) (record { id = other; kinds = own })

  tables-answer : EachTable among (vanishing q id kinds test)
  tables-answer =
      let of_gap = tables-missing id test q among (reads_among-itself q) in
      all_ways (EachTable among) (tables-missing_part id test q among (reads_among-itself q)) of_gap
      (tables-behind rows gap among (tables-with_faults q id kinds test among (reads_among-itself q) there) of_gap)

  -- ---- rows

  module _ (db : Database) where
    meaning-answer : meaning (behind rows gap) db [] ≡ and_then (meaning rows db []) (λ us. meaning gap db [])
    meaning-answer = meaning-behind rows gap formed-gap db

    module _ (calm : adds_none test q ≡ true) where
      free : faultless test ≡ true
      free = left-true (faultless test) (hides_none q) calm

      shown : hides_none q ≡ true
      shown = right-true (faultless test) (hides_none q) calm

      test-good : (u : Row) → IsIn u (db id) → (v : Value) × (value test u [] [] ≡ Good v)
      test-good u h = good-is (value test u [] []) (good-value test free u [] [])

      part-below : (part : Query) (passes : Row → Bool) → meaning part db [] ≡ meaning q (part_of id passes db) [] → Below (meaning part db []) (meaning q db [])
      part-below part passes is =
          subst (λ o. Below o (meaning q db [])) (sym is) (fewer-below db (part_of id passes db) (fewer-part id passes db) q m shown)

      others-below : Below (meaning others db []) (meaning q db [])
      others-below = part-below others (λ row. not (is_doomed (Some test) row)) (reduced-rows id test db test-good q m)

      going-below : Below (meaning going db []) (meaning q db [])
      going-below = part-below going (is_doomed (Some test)) (going-rows id test db test-good q m)

      both-above : splits id q ≡ true → Below (meaning q db []) (joined_lists (meaning going db []) (meaning others db []))
      both-above apart =
          subst₂ (λ o p. Below (meaning q db []) (joined_lists o p)) (sym (going-rows id test db test-good q m)) (sym (reduced-rows id test db test-good q m))
          (parts-above id (is_doomed (Some test)) db q m shown apart)

      module _ (faults : Faults) (e : meaning rows db [] ≡ Bad faults) where
        bad : meaning q db [] ≡ Bad faults
        bad = sym (ap (λ b. meaning (cond b q (Union true q (looked_through (kinds_of q) id kinds test))) db []) free) ∙ e

        calm-faults : meaning gap db [] ≡ Bad faults
        calm-faults =
            meaning-missing id test q db
            ∙ ap (λ o. both (except_of false) o (meaning others db [])) bad
            ∙ bad-above (except_of false) (meaning others db []) faults (subst (Below (meaning others db [])) bad others-below)

        part-faults : splits id q ≡ true → meaning gap_part db [] ≡ Bad faults
        part-faults apart =
            meaning-missing_part id test q db
            ∙ both-bad (except_of false) (meaning going db []) (meaning others db []) faults (subst (Below (meaning going db [])) bad going-below)
            (subst (Below (meaning others db [])) bad others-below) (subst (λ o. Below o (joined_lists (meaning going db []) (meaning others db []))) bad (both-above apart))

    lost-faults : (faults : Faults) → meaning rows db [] ≡ Bad faults → adds_none test q ≡ true → (apart : Bool) → splits id q ≡ apart → meaning (cond apart gap_part gap) db [] ≡ Bad faults
    lost-faults faults e calm true is = part-faults calm faults e is
    lost-faults faults e calm false is = calm-faults calm faults e

    faults-by : (faults : Faults) → meaning rows db [] ≡ Bad faults → (calm : Bool) → adds_none test q ≡ calm →
        meaning (cond calm (lost id test q) (behind rows gap)) db [] ≡ Bad faults
    faults-by faults e true is = lost-faults faults e is (splits id q) refl
    faults-by faults e false is = meaning-answer ∙ ap (λ o. and_then o (λ us. meaning gap db [])) e

  module _ (db : Database) (fits : TablesFit db q) where
    meaning-rows : meaning rows db [] ≡ both (union_of true) (meaning q db []) (emptied (each (doomed_on given) (db id)))
    meaning-rows =
        meaning-with_faults q id kinds test db ∙ ap (λ o. both (union_of true) (meaning q db []) (emptied o)) (same-looked given (db id))

    module _ (us : Bag) (good : meaning q db [] ≡ Good us) (flags : List Bool) (looked : each (doomed_on given) (db id) ≡ Good flags) where
      rows-good : meaning rows db [] ≡ Good us
      rows-good = meaning-rows ∙ (λ i. both (union_of true) (good i) (emptied (looked i))) ∙ ap Good (append-nil us)

      good-on_rows : (u : Row) → IsIn u (db id) → (v : Value) × (value test u [] [] ≡ Good v)
      good-on_rows u h = each-item (λ u. value test u [] []) (db id) flags (same-looked given (db id) ∙ looked) u h

      left : KeptRows given (places_over id q) (denote q db []).lists us (meaning q (after_deletion id given db) [])
      left = kept-of q id given db [] us m fits good

      others-good : meaning others db [] ≡ Good left.rows
      others-good = reduced-rows id test db good-on_rows q m ∙ ap (λ rest. meaning q rest []) (same-deletion id given db) ∙ left.good

      abbrev Answer : Query → Type 0
      Answer p = (ts : Bag) × (meaning p db [] ≡ Good ts) × HoldsOnce (Vanishes q id given db) ts

      -- what isn't left of some rows of the query, among which are all that aren't left
      module _ (some : Bag) (within : (t : Row) → IsIn t some → IsIn t us) (back : (t : Row) → IsIn t us → IsIn t some ⊎ IsIn t left.rows) where
        abbrev gone : Bag
        gone = filter (λ u. not (member u left.rows)) some

        decided : (t : Row) → Decides (member t gone) (Vanishes q id given db t)
        decided t = (
          λ e.
              let parts = sym (member-filter t (λ u. not (member u left.rows)) some) ∙ e in
              let here = left-true (member t some) (not (member t left.rows)) parts in
              let away = right-true (member t some) (not (member t left.rows)) parts in
              record {
                before = record { bag = us; good = good; row = in-member t us (within t (member-in t some here)) };
                after = λ a. true≢false (sym away ∙ ap not (subst (λ bag. IsTrue (member t bag)) (same_good _ _ (sym a.good ∙ left.good)) a.row));
              },
          λ v. member-filter t (λ u. not (member u left.rows)) some ∙ away v (member t left.rows) refl,
        ) where
          away : Vanishes q id given db t → (b : Bool) → member t left.rows ≡ b → (member t some && not (member t left.rows)) ≡ true
          away v true e = absurd (v.after (record { bag = left.rows; good = left.good; row = e }))
          away v false e = both-true (member t some) (not (member t left.rows)) (in-member t some (among_some (back t here))) (ap not e) where
            here : IsIn t us
            here = member-in t us (subst (λ bag. IsTrue (member t bag)) (same_good _ _ (sym v.before.good ∙ good)) v.before.row)

            among_some : IsIn t some ⊎ IsIn t left.rows → IsIn t some
            among_some (inl h) = h
            among_some (inr h) = absurd (true≢false (sym (in-member t left.rows h) ∙ e))

        answer-once : HoldsOnce (Vanishes q id given db) (once gone)
        answer-once = holds_once-once (Vanishes q id given db) gone decided

        answer-except : (p : Query) (o : Outcome Bag) → meaning p db [] ≡ both (except_of false) o (meaning others db []) → o ≡ Good some → Answer p
        answer-except p o is e = (once gone, is ∙ (λ i. both (except_of false) (e i) (others-good i)), answer-once)

      gap-answer : Answer gap
      gap-answer = answer-except us (λ t h. h) (λ t h. inl h) gap (meaning q db []) (meaning-missing id test q db) good

      behind-answer : Answer (behind rows gap)
      behind-answer = (gap-answer.0, meaning-answer db ∙ ap (λ o. and_then o (λ bag. meaning gap db [])) rows-good ∙ gap-answer.1, gap-answer.2)

      part-answer : adds_none test q ≡ true → splits id q ≡ true → Answer gap_part
      part-answer calm apart =
          let under = good-under us (subst (Below (meaning going db [])) good (going-below db calm)) in
          let above : Within us (under.0 ++ left.rows) =
          below-within (subst₂ Below good (λ i. joined_lists (under.1 i) (others-good i)) (both-above db calm apart)) in
          answer-except under.0 under.2.within (λ t h. from-append t under.0 left.rows (above.within t h)) gap_part (meaning going db []) (meaning-missing_part id test q db) under.1

      lost-answer : adds_none test q ≡ true → (apart : Bool) → splits id q ≡ apart → Answer (cond apart gap_part gap)
      lost-answer calm true is = part-answer calm is
      lost-answer calm false is = gap-answer

      answer-by : (calm : Bool) → adds_none test q ≡ calm → Answer (cond calm (lost id test q) (behind rows gap))
      answer-by true is = lost-answer is (splits id q) refl
      answer-by false is = behind-answer

  pub read-impact : IsRead id q → IsImpact q id given (vanishing q id kinds test)
  read-impact read = record {
    plain = plain-answer;
    closed = query_within [] (vanishing q id kinds test) 0 refl formed-answer;
    formed = formed-answer;
    kinds = kinds-answer;
    tables = tables-answer;
    nothing = λ db us fits unread good. absurd (read unread);
    own_faults = λ db faults fits unread bad. absurd (read unread);
    vanishing = λ db us fits read good.
        let parts = good-both (meaning q db []) (each (doomed_on given) (db id)) us good in
        answer-by db fits us parts.0 parts.1 parts.2 (adds_none test q) refl;
    faults = λ db faults fits read bad.
        faults-by db faults (meaning-rows db fits ∙ bad-both (meaning q db []) (each (doomed_on given) (db id)) faults bad) (adds_none test q) refl;
  }

-- ---- both

pub none-impact : (q : Query) (id : ℕ) (condition : Option Expr) → is_monotone q ≡ true → WellFormed [] q → first_kinds id q ≡ None → IsImpact q id condition (no_row_of q)
none-impact q id condition m f none = unread-impact q id condition m f (none-unread id q m none)

pub some-impact : (q : Query) (id : ℕ) (condition : Option Expr) (kinds : List Kind) → is_monotone q ≡ true → WellFormed [] q → ConditionFits id condition q →
    first_kinds id q ≡ Some kinds → IsImpact q id condition (vanishing q id kinds (condition_or_true condition))
some-impact q id condition kinds m f on some =
    read-impact q id condition kinds m f on (found-contained id kinds q some) (found-is_read id kinds q some)

-- ---- as the call says it

abbrev pub Answers : Query → ℕ → Option Expr → Query → Type 0
Answers q id condition p = IsTrue (is_monotone q) → WellFormed [] q → ConditionFits id condition q → IsImpact q id condition p

pub none-answers : (q : Query) (id : ℕ) (condition : Option Expr) (result : Result Query NoMemory) → first_kinds id q ≡ None → IfOk result (λ p. p ≡ no_row_of q) →
    IfOk result (Answers q id condition)
none-answers q id condition (Ok p) unread made = λ m f on. subst (IsImpact q id condition) (sym made) (none-impact q id condition m f unread)
none-answers q id condition (Err e) unread made = tt

pub some-answers : (q : Query) (id : ℕ) (condition : Option Expr) (kinds : List Kind) (tested : Expr) (result : Result Query NoMemory) → first_kinds id q ≡ Some kinds →
    tested ≡ condition_or_true condition → IfOk result (λ p. IsTrue (is_monotone q) → p ≡ vanishing q id kinds tested) → IfOk result (Answers q id condition)
some-answers q id condition kinds tested (Ok p) some is made =
    λ m f on. subst (IsImpact q id condition) (sym (made m ∙ ap (vanishing q id kinds) is)) (some-impact q id condition kinds m f on some)
some-answers q id condition kinds tested (Err e) some is made = tt
