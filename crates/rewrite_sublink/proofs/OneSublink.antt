-- The one lemma of a sublink on a row: where the sublink is good there, a candidate passes the test exactly where it is one of
-- its contributions, flattened; and the test is good on every candidate.
use Rattle.std.proofs.Common.{◌≡◌, ◌↔◌, ℕ, Bool, true, cond, List, [], ◌∷◌, ◌++◌, length, Option, None, Contains, IsTrue, append-nil, refl, sym, ap, ◌∙◌, subst}
use Rattle.std.specs.List.{list_any, flat_map, range_with_len}
use Rattle.perm_values.specs.Rows.{picked}
use Rattle.perm_values.specs.declared.kind.Kind.{Kind}
use Rattle.perm_values.specs.declared.value.Value.{Value}
use Rattle.perm_values.specs.declared.value.Value.TheVariants.{Null, Boolean}
use Rattle.bag_algebra.proofs.Members.{IsIn, in-member, member-in}
use Rattle.bag_algebra.proofs.TablesRead.{reads_among-fit}
use Rattle.bag_algebra.proofs.TruthValues.{holds-boolean}
use Rattle.bag_algebra.specs.Bags.{Row, Bag, member}
use Rattle.bag_algebra.specs.Children.{subs_denote}
use Rattle.bag_algebra.specs.Fits.{row_begins}
use Rattle.bag_algebra.specs.Kinds.{kinds_of, place_kinds, shape, width_of}
use Rattle.bag_algebra.specs.Meaning.{Database, meaning, witnesses, optional_value, condition_on}
use Rattle.bag_algebra.specs.Means.{Witness, flat, all_empty, cell, chosen, good_rows, good_value, is_met, is_some_row}
use Rattle.bag_algebra.specs.Outcome.{Outcome, Good}
use Rattle.bag_algebra.specs.declared.place.Place.{Place}
use Rattle.bag_algebra.specs.declared.query.Query.{Query}
use Rattle.bag_algebra.specs.declared.expr.Expr.{Expr}
use Rattle.bag_algebra.specs.declared.query.Sublink.{Sublink}
use Rattle.contribution.proofs.AddedColumns.{columns-added}
use Rattle.contribution.proofs.CrossBases.{meaning-cross_base, kinds_of-cross_base, formed-cross_base, tables-cross_base}
use Rattle.contribution.proofs.CrossedRows.{FlatAt}
use Rattle.contribution.proofs.EntriesAtPlaces.{blank-at}
use Rattle.contribution.proofs.ListsInBases.{lists-in_cross_base}
use Rattle.contribution.specs.Fitting.{Fitting}
use Rattle.contribution.specs.HeldRows.{held_rows}
use Rattle.rewrite_core.proofs.KeptRows.{row-width}
use Rattle.rewrite_core.proofs.Places.{at-between}
use Rattle.rewrite_core.specs.rewritings.Rewritten.{Beside}
use Rattle.rewrite_sublink.proofs.Contributing.{matching_rows, contributions, is_candidate, from-candidate, in-candidate}
use Rattle.rewrite_sublink.proofs.MatchingRows.{meaning-matching}
use Rattle.rewrite_sublink.proofs.SublinkRows as under
use Rattle.rewrite_sublink.proofs.TestValues.{passes_of, chosen-passing, test-value}
use Rattle.rewrite_sublink.specs.Candidates.{deciding, matching, test_condition, test_subs}
use Rattle.rewrite_sublink.proofs.Ready.{Ready, stand_of, base_of}
use Rattle.rewrite_sublink.proofs.Steps.{SubsFitting, HasValue}
use Rattle.query_laws.proofs.Contributed.{contributed, contributes-from, in-contributed}
use Rattle.query_laws.specs.SublinkLists.{Contributes, by_row, by_no_row}

-- a sublink of a node whose row begins with columns of these kinds
module _ {columns : List Kind} {outer : List (List Kind)} {db : Database} {env : List Row} {sub : Sublink} {tested : Option Expr} {s r : Query}
    (is : Ready sub tested s r) (f : SubsFitting columns outer (sub ∷ []) db env) where
  abbrev count : ℕ
  count = width_of (base_of is)

  abbrev own : ℕ
  own = width_of s

  abbrev places : List Place
  places = shape sub.query

  -- ---- the base

  abbrev pub base-rows : (found : Bag) × (meaning (base_of is) db env ≡ Good found) × ((u : Row) → IsTrue (member u found) ↔ FlatAt places (held_rows sub.query db None) u)
  base-rows = meaning-cross_base sub.query is.over db env

  base-fits : Fitting outer (base_of is) db env
  base-fits = record {
    formed = formed-cross_base sub.query (columns ∷ outer) outer f.form.query;
    tables = reads_among-fit (base_of is) sub.query db (tables-cross_base sub.query) f.tables.0;
    outer_rows = f.outer_rows;
  }

  pub candidate-width : (k : Row) → IsIn k base-rows.0 → length k ≡ count
  candidate-width k h = row-width outer (base_of is) db env base-fits base-rows.0 k base-rows.1 (in-member k base-rows.0 h)

  -- ---- widths

  pub own-is : length (kinds_of sub.query) ≡ own
  own-is = sym (ap length (is.stands.kinds (columns ∷ outer) f.form.query))

  pub count-is : length (place_kinds places) ≡ count
  count-is = sym (ap length (kinds_of-cross_base sub.query is.over))

  pub whole-is : width_of r ≡ length (kinds_of sub.query ++ place_kinds places)
  whole-is = ap length (is.rewritten.kinds (columns ∷ outer) f.form.query)

  module _ (b : Row) (begins : row_begins b columns ≡ true) (v : HasValue db env sub b) where
    abbrev parts : (x : Value) × (vs : Bag) × (optional_value sub.tested env b ≡ Good x) × (meaning sub.query db (b ∷ env) ≡ Good vs)
    parts = under.parts f b begins v

    abbrev x : Value
    x = parts.0

    abbrev vs : Bag
    vs = parts.1

    abbrev lists : Row → List Witness
    lists = witnesses sub.query db (b ∷ env)

    abbrev rewriting-rows : (rs : Bag) × (meaning r db (b ∷ env) ≡ Good rs) × Beside lists vs rs
    rewriting-rows = under.rewriting-rows f b begins v is.rewritten

    abbrev rs : Bag
    rs = rewriting-rows.0

    -- ---- the test

    abbrev passes : Value → Bool
    passes = passes_of sub.kind x

    abbrev decided : Bool
    decided = list_any (λ row. passes (cell row)) vs

    pub wide : (row : Row) → IsIn row vs → length row ≡ own
    wide row h = under.wide f b begins v row h ∙ own-is

    pub long : (row : Row) (w : Witness) → Contains (lists row) w → length (flat w) ≡ count
    long row w c = under.long f b begins v row w c ∙ count-is

    pub first : (row more : Row) → IsIn row vs → passes (cell (row ++ more)) ≡ passes (cell row)
    first = under.first f b begins v

    abbrev is_one : Row → Bool
    is_one k = is_candidate passes (kinds_of sub.query) places vs rs lists rewriting-rows.2 own count (width_of r) own-is count-is whole-is wide long first decided k

    abbrev all_contributions : List Witness
    all_contributions = contributions passes (kinds_of sub.query) places vs rs lists rewriting-rows.2 own count (width_of r) own-is count-is whole-is wide long first decided

    -- these are the contributions
    contributed-are : contributed db env b sub x ≡ all_contributions
    contributed-are =
        (λ i. cond (is_some_row (good_rows (parts.3 i))) (flat_map lists (chosen sub.kind x (good_rows (parts.3 i)))) (all_empty places ∷ []))
        ∙ ap (λ rows. cond (is_some_row vs) (flat_map lists rows) (all_empty places ∷ [])) (chosen-passing sub.kind x vs)

    abbrev pub test : ℕ → Row → Outcome Value
    test from z =
        condition_on (test_condition (deciding sub.kind)) env (subs_denote (test_subs (deciding sub.kind) (stand_of is) (matching count from own r)) db env) z

    module _ (from : ℕ) (from_is : length b ≡ from) where
      pub test-good : (k : Row) → length k ≡ count → test from (b ++ k) ≡ Good (Boolean (is_one k))
      test-good k e =
          let candidate : picked (range_with_len from count) (b ++ k) ≡ k =
          ap (λ xs. picked (range_with_len from count) (b ++ xs)) (sym (append-nil k)) ∙ at-between Null b k [] from count from_is e in
          let same = columns-added columns outer b k env begins in
          let found_there : meaning (matching count from own r) db ((b ++ k) ∷ env) ≡ Good (matching_rows k own count (width_of r) rs) =
          meaning-matching r db (b ++ k) env rs count from own (under.rewriting-there f b begins v is.rewritten (b ++ k) same) ∙ ap (λ c. Good (matching_rows c own count (width_of r) rs)) candidate in
          test-value tested s (matching count from own r) db env (b ++ k) x vs (matching_rows k own count (width_of r) rs) (under.tested-there f b begins v tested s is.same is.stands (b ++ k) same) found_there sub.kind
          (under.stand-value f b begins v tested s is.same is.stands (b ++ k) same)

      pub passing-contributes : (k : Row) → length k ≡ count → is_met (test from (b ++ k)) ≡ true → (c : Witness) × Contributes db env b sub c × (flat c ≡ k)
      passing-contributes k e met =
          let one : is_one k ≡ true = sym (holds-boolean (is_one k)) ∙ sym (ap is_met (test-good k e)) ∙ met in
          let c = from-candidate passes (kinds_of sub.query) places vs rs lists rewriting-rows.2 own count (width_of r) own-is count-is whole-is wide long first decided refl k one in
          (c.0, contributes-from db env b sub x vs c.0 parts.2 parts.3 (subst (IsIn c.0) (sym contributed-are) c.1), c.2)

      pub contributing-passes : (c : Witness) → length (flat c) ≡ count → Contributes db env b sub c → is_met (test from (b ++ flat c)) ≡ true
      contributing-passes c e h =
          let here : IsIn c (contributed db env b sub x) =
          subst (λ y. IsIn c (contributed db env b sub y)) (ap good_value parts.2) (in-contributed db env b sub c h) in
          ap is_met (test-good (flat c) e)
          ∙ holds-boolean (is_one (flat c))
          ∙ in-candidate passes (kinds_of sub.query) places vs rs lists rewriting-rows.2 own count (width_of r) own-is count-is whole-is wide long first decided refl c
          (subst (IsIn c) contributed-are here)

    -- each contribution is a candidate
    pub contributing-in_base : (c : Witness) → Contributes db env b sub c → IsIn (flat c) base-rows.0
    contributing-in_base c (by_row y bag row tested_good rows_good is_chosen listed) =
        let found = lists-in_cross_base sub.query is.over db (b ∷ env) env row c listed in
        member-in (flat c) base-rows.0 (subst (λ o. IsTrue (member (flat c) (good_rows o))) (sym found.1 ∙ base-rows.1) found.2)
    contributing-in_base c (by_no_row none e) =
        member-in (flat c) base-rows.0 ((base-rows.2 (flat c)).1 (all_empty places, (blank-at sub.query db None).stand, ap flat e))
