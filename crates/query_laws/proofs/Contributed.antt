-- What the sublinks of a node contribute on a row, by membership.
use Rattle.std.proofs.Common.{◌≡◌, ◌⊎◌, inl, inr, Bool, true, false, cond, List, [], ◌∷◌, ◌++◌, filter, refl, sym, ap, ◌∙◌, subst, true≢false}
use Rattle.std.specs.List.{flat_map}
use Rattle.null_logic.specs.Comparison.{compare_values}
use Rattle.null_logic.specs.Logic.{is_true, truth_not, truth_of, value_of}
use Rattle.null_logic.specs.declared.compare.Compare.{Compare}
use Rattle.null_logic.specs.declared.compare.Compare.TheVariants.{Equal}
use Rattle.null_logic.specs.declared.truth.Truth.{Truth}
use Rattle.null_logic.specs.declared.truth.Truth.TheVariants.{True, False, Unknown}
use Rattle.perm_values.specs.declared.value.Value.{Value}
use Rattle.perm_values.specs.declared.value.Value.TheVariants.{Boolean}
use Rattle.bag_algebra.proofs.Members.{IsIn, in-flat_map, from-flat_map, in-filter, from-filter, in-member, member-in}
use Rattle.bag_algebra.specs.Bags.{Row, Bag}
use Rattle.bag_algebra.specs.Children.{subs_denote, subs_shape}
use Rattle.bag_algebra.specs.Kinds.{shape}
use Rattle.bag_algebra.specs.Meaning.{Database, denote, meaning, witnesses, optional_value}
use Rattle.bag_algebra.specs.Means.{Witness, good_rows, good_value, holds_of, is_some_row, some_of, all_of, comparisons, cell, chosen, sub_value, contribution_of, beside, all_empty}
use Rattle.bag_algebra.specs.Outcome.{Good}
use Rattle.bag_algebra.specs.declared.query.Query.{Query}
use Rattle.bag_algebra.specs.declared.query.SubKind.{SubKind}
use Rattle.bag_algebra.specs.declared.query.SubKind.TheVariants.{Exists, Any, All, Scalar}
use Rattle.bag_algebra.specs.declared.query.Sublink.{Sublink}
use Rattle.contribution.proofs.EntriesAtPlaces.{all_empty-append}
use Rattle.bag_algebra.proofs.MembersByIndex.{in-from_contains, contains-from_in}
use Rattle.contribution.proofs.TruthKept.{from-chosen}
use Rattle.query_laws.proofs.PairedLists.{OneOfEach, in-beside, from-beside}
use Rattle.query_laws.specs.ListsOfNodes.{Followed}
use Rattle.query_laws.specs.SublinkLists.{IsChosen, Contributes, by_row, by_no_row, EachContributes, no_sublink, one_more}
use Rattle.bag_algebra.proofs.Outcomes.{both-is, both_then-parts}
use Rattle.bag_algebra.proofs.TruthValues.{holds-truth}

-- ---- truths and the values that stand for them

is_true-is : (t : Truth) → is_true t ≡ true → t ≡ True
is_true-is True e = refl
is_true-is False e = absurd (true≢false (sym e))
is_true-is Unknown e = absurd (true≢false (sym e))

is_false-is : (t : Truth) → is_true (truth_not t) ≡ true → t ≡ False
is_false-is True e = absurd (true≢false (sym e))
is_false-is False e = refl
is_false-is Unknown e = absurd (true≢false (sym e))

abbrev denied_of : Value → Bool
denied_of v = is_true (truth_not (truth_of v))

denied-value_of : (t : Truth) → denied_of (value_of t) ≡ is_true (truth_not t)
denied-value_of True = refl
denied-value_of False = refl
denied-value_of Unknown = refl

told_true : (t : Truth) → Good (value_of t) ≡ Good (Boolean true) → is_true t ≡ true
told_true t e = sym (holds-truth t) ∙ ap (λ o. holds_of (good_value o)) e

told_false : (t : Truth) → Good (value_of t) ≡ Good (Boolean false) → is_true (truth_not t) ≡ true
told_false t e = sym (denied-value_of t) ∙ ap (λ o. denied_of (good_value o)) e

-- ---- the rows that contribute

abbrev compare_in : SubKind → Compare
compare_in Exists = Equal
compare_in (Any c) = c
compare_in (All c) = c
compare_in Scalar = Equal

in-choice : (v : Row) (test : Row → Bool) (bag : Bag) (b : Bool) → IsIn v bag → (b ≡ true → test v ≡ true) → IsIn v (cond b (filter test bag) bag)
in-choice v test bag true h t = in-filter test v bag h (t refl)
in-choice v test bag false h t = h

from-choice : (v : Row) (test : Row → Bool) (bag : Bag) (b : Bool) → b ≡ true → IsIn v (cond b (filter test bag) bag) → test v ≡ true
from-choice v test bag true e h = (from-filter test v bag h).1
from-choice v test bag false e h = absurd (true≢false (sym e))

module _ (x : Value) (bag : Bag) (v : Row) where
  pub in-chosen : (kind : SubKind) → IsChosen kind x bag v → IsIn v (chosen kind x bag)
  in-chosen Exists k = member-in v bag k.row
  in-chosen (Any c) k =
      in-choice v (λ row. is_true (compare_values c x (cell row))) bag (is_true (some_of (comparisons c x bag))) (member-in v bag k.row)
      (λ e. ap is_true (k.met c refl (ap (λ t. Good (value_of t)) (is_true-is (some_of (comparisons c x bag)) e))))
  in-chosen (All c) k =
      in-choice v (λ row. is_true (truth_not (compare_values c x (cell row)))) bag (is_true (truth_not (all_of (comparisons c x bag)))) (member-in v bag k.row)
      (λ e. ap (λ t. is_true (truth_not t)) (k.missed c refl (ap (λ t. Good (value_of t)) (is_false-is (all_of (comparisons c x bag)) e))))
  in-chosen Scalar k = member-in v bag k.row

  met-any : (c : Compare) → IsIn v (chosen (Any c) x bag) → sub_value (Any c) x bag ≡ Good (Boolean true) → compare_values c x (cell v) ≡ True
  met-any c h e =
      is_true-is (compare_values c x (cell v))
      (from-choice v (λ row. is_true (compare_values c x (cell row))) bag (is_true (some_of (comparisons c x bag))) (told_true (some_of (comparisons c x bag)) e) h)

  missed-all : (c : Compare) → IsIn v (chosen (All c) x bag) → sub_value (All c) x bag ≡ Good (Boolean false) → compare_values c x (cell v) ≡ False
  missed-all c h e =
      is_false-is (compare_values c x (cell v))
      (from-choice v (λ row. is_true (truth_not (compare_values c x (cell row)))) bag (is_true (truth_not (all_of (comparisons c x bag)))) (told_false (all_of (comparisons c x bag)) e) h)

  pub chosen-is : (kind : SubKind) → IsIn v (chosen kind x bag) → IsChosen kind x bag v
  chosen-is Exists h = record {
    row = in-member v bag h;
    met = λ c e. absurd (cc e);
    missed = λ c e. absurd (cc e);
  }
  chosen-is (Any c) h = record {
    row = in-member v bag (from-chosen (Any c) x bag v h);
    met = λ d e. subst (λ d. sub_value (Any c) x bag ≡ Good (Boolean true) → compare_values d x (cell v) ≡ True) (ap compare_in e) (met-any c h);
    missed = λ d e. absurd (cc e);
  }
  chosen-is (All c) h = record {
    row = in-member v bag (from-chosen (All c) x bag v h);
    met = λ d e. absurd (cc e);
    missed = λ d e. subst (λ d. sub_value (All c) x bag ≡ Good (Boolean false) → compare_values d x (cell v) ≡ False) (ap compare_in e) (missed-all c h);
  }
  chosen-is Scalar h = record {
    row = in-member v bag h;
    met = λ c e. absurd (cc e);
    missed = λ c e. absurd (cc e);
  }

-- ---- contributions

module _ (blank : Witness) (kind : SubKind) (x : Value) (lists : Row → List Witness) (c : Witness) where
  -- the lists of the chosen rows, or the blank
  abbrev chosen_lists : Bag → List Witness
  chosen_lists bag = cond (is_some_row bag) (flat_map lists (chosen kind x bag)) (blank ∷ [])

  from-chosen_lists : (bag : Bag) → IsIn c (chosen_lists bag) → ((v : Row) × IsIn v (chosen kind x bag) × IsIn c (lists v)) ⊎ ((bag ≡ []) × (blank ≡ c))
  from-chosen_lists [] (inl e) = inr (refl, e)
  from-chosen_lists [] (inr h) = absurd h
  from-chosen_lists (row ∷ rows) h = inl (from-flat_map lists c (chosen kind x (row ∷ rows)) h)

  in-chosen_lists : (bag : Bag) (v : Row) → IsIn v (chosen kind x bag) → IsIn c (lists v) → IsIn c (chosen_lists bag)
  in-chosen_lists [] v h g = absurd (from-chosen kind x [] v h)
  in-chosen_lists (row ∷ rows) v h g = in-flat_map lists c v (chosen kind x (row ∷ rows)) h g

module _ (db : Database) (env : List Row) (u : Row) where
  -- the left operand and the query of the sublink are good on the row
  pub record IsGoodSub (sub : Sublink) : Type 0 where
    pub x : Value
    pub bag : Bag
    pub tested : optional_value sub.tested env u ≡ Good x
    pub rows : meaning sub.query db (u ∷ env) ≡ Good bag

  abbrev pub AllGood : List Sublink → Type 0
  AllGood [] = Unit
  AllGood (sub ∷ subs) = IsGoodSub sub × AllGood subs

  -- where a node's sublinks have values on the row, each is good there
  pub all_good : (subs : List Sublink) (vs : List Value) → (subs_denote subs db env).answers u ≡ Good vs → AllGood subs
  all_good [] vs e = tt
  all_good (sub ∷ subs) vs e =
      let both = both-is (λ v vs. v ∷ vs) _ ((subs_denote subs db env).answers u) vs e in
      let first = both_then-parts (optional_value sub.tested env u) (meaning sub.query db (u ∷ env)) (sub_value sub.kind) both.0 both.2 in
      (record { x = first.0; bag = first.1; tested = first.2; rows = first.3 }, all_good subs both.1 both.3)

  abbrev pub contributed : Sublink → Value → List Witness
  contributed sub x = contribution_of (all_empty (shape sub.query)) sub.kind x (denote sub.query db (u ∷ env))

  pub contributes-from : (sub : Sublink) (x : Value) (bag : Bag) (c : Witness) → optional_value sub.tested env u ≡ Good x →
      meaning sub.query db (u ∷ env) ≡ Good bag → IsIn c (contributed sub x) → Contributes db env u sub c
  contributes-from sub x bag c tested good h =
      let blank = all_empty (shape sub.query) in
      let lists = witnesses sub.query db (u ∷ env) in
      elim (from-chosen_lists blank sub.kind x lists c bag (subst (λ rows. IsIn c (chosen_lists blank sub.kind x lists c rows)) (ap good_rows good) h)) [
        | inl row ↦ by_row x bag row.0 tested good (chosen-is x bag row.0 sub.kind row.1) (contains-from_in c (lists row.0) row.2)
        | inr none ↦ by_no_row (good ∙ ap Good none.0) none.1
      ]

  pub in-contributed : (sub : Sublink) (c : Witness) → Contributes db env u sub c → IsIn c (contributed sub (good_value (optional_value sub.tested env u)))
  in-contributed sub c (by_row x bag v tested good is_chosen listed) =
      let blank = all_empty (shape sub.query) in
      let lists = witnesses sub.query db (u ∷ env) in
      let here = in-chosen_lists blank sub.kind x lists c bag v (in-chosen x bag v sub.kind is_chosen) (in-from_contains c (lists v) listed) in
      subst (λ y. IsIn c (contributed sub y)) (sym (ap good_value tested))
      (subst (λ rows. IsIn c (chosen_lists blank sub.kind x lists c rows)) (sym (ap good_rows good)) here)
  in-contributed sub c (by_no_row good e) =
      let y = good_value (optional_value sub.tested env u) in
      let blank = all_empty (shape sub.query) in
      let lists = witnesses sub.query db (u ∷ env) in
      subst (λ rows. IsIn c (chosen_lists blank sub.kind y lists c rows)) (sym (ap good_rows good)) (inl e)

  pub each_contributes-from : (subs : List Sublink) (w : Witness) → AllGood subs → OneOfEach ((subs_denote subs db env).contributions u) w → EachContributes db env u subs w
  each_contributes-from [] w good e = subst (EachContributes db env u []) e no_sublink
  each_contributes-from (sub ∷ subs) w good one =
      let g = good.0 in
      subst (EachContributes db env u (sub ∷ subs)) one.4
      (one_more sub one.0
      (contributes-from sub g.x g.bag one.0 g.tested g.rows (subst (λ y. IsIn one.0 (contributed sub y)) (ap good_value g.tested) one.2))
      (each_contributes-from subs one.1 good.1 one.3))

  pub one_of_each : {subs : List Sublink} {w : Witness} → EachContributes db env u subs w → OneOfEach ((subs_denote subs db env).contributions u) w
  one_of_each no_sublink = refl
  one_of_each (one_more {rest = rest} sub c contributes more) = (c, rest, in-contributed sub c contributes, one_of_each more, refl)

  -- ---- a list of the row beside the contributions

  pub followed-from : (input : Query) (subs : List Sublink) (w : Witness) → AllGood subs →
      IsIn w (beside (witnesses input db env u) ((subs_denote subs db env).contributions u)) → Followed input subs db env u w
  followed-from input subs w good h =
      let found = from-beside w (witnesses input db env u) ((subs_denote subs db env).contributions u) h in record {
        list = found.0;
        contributions = found.1;
        is_list = contains-from_in found.0 (witnesses input db env u) found.2;
        contribute = each_contributes-from subs found.1 good found.3;
        whole = found.4;
      }

  pub in-followed : (input : Query) (subs : List Sublink) (w : Witness) → Followed input subs db env u w →
      IsIn w (beside (witnesses input db env u) ((subs_denote subs db env).contributions u))
  in-followed input subs w f =
      let lists = witnesses input db env u in
      let contributions = (subs_denote subs db env).contributions u in
      subst (λ x. IsIn x (beside lists contributions)) f.whole
      (in-beside f.list f.contributions lists contributions (in-from_contains f.list lists f.is_list) (one_of_each f.contribute))

-- nothing at the places of all sublinks
pub blank-is : (subs : List Sublink) (db : Database) (env : List Row) → (subs_denote subs db env).blank ≡ all_empty (subs_shape subs)
blank-is [] db env = refl
blank-is (sub ∷ subs) db env =
    ap (λ w. all_empty (shape sub.query) ++ w) (blank-is subs db env) ∙ sym (all_empty-append (shape sub.query) (subs_shape subs))
