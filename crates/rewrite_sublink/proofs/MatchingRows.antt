-- What the query of the matching rows means under a candidate, of which kinds it is, and when it is well formed.
use Rattle.std.proofs.Common.{◌≡◌, ℕ, ◌+◌, Bool, true, false, cond, not, ◌||◌, List, [], ◌∷◌, ◌++◌, map, filter, length, append-nil, length-append, refl, sym, ap, ◌∙◌, arith, inl, inr}
use Rattle.std.proofs.lemmas.List.FromFn.{length-range_with_len}
use Rattle.std.specs.List.{list_any, range_with_len}
use Rattle.perm_values.specs.Rows.{picked, same_row}
use Rattle.perm_values.specs.declared.kind.Kind.{Kind}
use Rattle.perm_values.specs.declared.kind.Kind.TheVariants as kind
use Rattle.perm_values.specs.declared.value.Value.{Value}
use Rattle.perm_values.specs.declared.value.Value.TheVariants.{Boolean}
use Rattle.bag_algebra.proofs.Members.{IsIn}
use Rattle.bag_algebra.specs.Bags.{Row, Bag, nulls}
use Rattle.bag_algebra.specs.Kinds.{kinds_of, kinds_in, width_of}
use Rattle.bag_algebra.specs.Meaning.{Database, meaning, condition_on}
use Rattle.bag_algebra.specs.Means.{no_subs, holds_of, is_met, kept, joined_rows}
use Rattle.bag_algebra.specs.Outcome.{Outcome, Good, and_then, mapped, both, both_then, gather}
use Rattle.bag_algebra.specs.WellFormed.{WellFormed}
use Rattle.bag_algebra.specs.declared.query.JoinKind.TheVariants.{Left}
use Rattle.bag_algebra.specs.declared.query.Query.{Query}
use Rattle.bag_algebra.specs.declared.query.Query.TheVariants.{Single}
use Rattle.contribution.specs.Conjunctions.{always}
use Rattle.query_laws.proofs.Filtered.{put_before}
use Rattle.rewrite_core.proofs.Places.{at-between, within-range}
use Rattle.contribution.proofs.NodeQueries.{meaning-pairs, meaning-chosen, formed-pairs, formed-chosen}
use Rattle.rewrite_sublink.proofs.Contributing.{padded_rows, matching_rows}
use Rattle.contribution.proofs.SameTests.{tests-value, conjunction-formed}
use Rattle.rewrite_sublink.specs.Candidates.{same_as_outer, or_nulls, matching}

-- ---- conditions that are good on each row

kept-if : (condition : Row → Outcome Value) (u : Row) (b : Bool) → condition u ≡ Good (Boolean b) → kept condition u ≡ Good (cond b (u ∷ []) [])
kept-if condition u true e = ap (mapped (λ v. cond (holds_of v) (u ∷ []) [])) e
kept-if condition u false e = ap (mapped (λ v. cond (holds_of v) (u ∷ []) [])) e

pub gather-kept : (condition : Row → Outcome Value) (test : Row → Bool) (us : Bag) → ((u : Row) → IsIn u us → condition u ≡ Good (Boolean (test u))) →
    gather (kept condition) us ≡ Good (filter test us)
gather-kept condition test [] good = refl
gather-kept condition test (u ∷ us) good =
    (λ i. both (λ ys zs. ys ++ zs) (kept-if condition u (test u) (good u (inl refl)) i) (gather-kept condition test us (λ v h. good v (inr h)) i))
    ∙ ap Good (put_before (test u) u (filter test us))

-- ---- the rows, or one row of NULLs

module _ (condition : Row → Outcome Value) (holds : (u : Row) → condition u ≡ Good (Boolean true)) where
  all-kept : (us : Bag) → gather (kept condition) us ≡ Good us
  all-kept [] = refl
  all-kept (u ∷ us) = λ i. both (λ ys zs. ys ++ zs) (kept-if condition u true (holds u) i) (all-kept us i)

  joined-padded : (left_width width : ℕ) (rs : Bag) → joined_rows Left condition left_width width ([] ∷ []) rs ≡ Good (padded_rows width rs)
  joined-padded left_width width [] = refl
  joined-padded left_width width (r ∷ rs) =
      (λ i. mapped (λ pairs. pairs ++ map (λ u. u ++ nulls width) (cond (not (is_met (holds r i) || list_any (λ v. is_met (condition v)) rs)) ([] ∷ []) []) ++ [])
      (both (λ ys zs. ys ++ zs) (all-kept (r ∷ rs) i) (Good [])))
      ∙ ap Good (append-nil ((r ∷ rs) ++ [] ++ []) ∙ append-nil ((r ∷ rs) ++ []) ∙ append-nil (r ∷ rs))

module _ (rows : Query) (db : Database) (env : List Row) (rs : Bag) (good : meaning rows db env ≡ Good rs) where
  meaning-or_nulls : meaning (or_nulls rows) db env ≡ Good (padded_rows (width_of rows) rs)
  meaning-or_nulls =
      meaning-pairs Left Single rows always db env
      ∙ (λ i. both_then (Good ([] ∷ [])) (good i) (joined_rows Left (condition_on always env no_subs) 0 (width_of rows)))
      ∙ joined-padded (condition_on always env no_subs) (λ u. refl) 0 (width_of rows) rs

-- under a row whose columns from a place on are the candidate
pub meaning-matching : (rows : Query) (db : Database) (outer : Row) (env : List Row) (rs : Bag) (count from own : ℕ) → meaning rows db (outer ∷ env) ≡ Good rs →
    meaning (matching count from own rows) db (outer ∷ env) ≡ Good (matching_rows (picked (range_with_len from count) outer) own count (width_of rows) rs)
meaning-matching rows db outer env rs count from own good =
    let condition = condition_on (same_as_outer count from own) (outer ∷ env) no_subs in
    meaning-chosen (or_nulls rows) (same_as_outer count from own) db (outer ∷ env)
    ∙ ap (λ o. and_then o (gather (kept condition))) (meaning-or_nulls rows db (outer ∷ env) rs good)
    ∙ gather-kept condition (λ r. same_row (picked (range_with_len from count) outer) (picked (range_with_len own count) r)) (padded_rows (width_of rows) rs)
    (λ r h. tests-value r (outer ∷ env) [] 1 (range_with_len from count) (range_with_len own count)
    (length-range_with_len from count ∙ sym (length-range_with_len own count)))

-- ---- its form

pub formed-matching : (rows : Query) (first last : List Kind) (outer : List (List Kind)) (own_kinds candidate : List Kind) (count from own : ℕ) →
    kinds_of rows ≡ own_kinds ++ candidate → length first ≡ from → length candidate ≡ count → length own_kinds ≡ own → last ≡ candidate →
    WellFormed ((first ++ last) ∷ outer) rows → WellFormed ((first ++ last) ∷ outer) (matching count from own rows)
formed-matching rows first last outer own_kinds candidate count from own kinds_are e f g same w =
    let scopes = (first ++ last) ∷ outer in
    let whole : first ++ last ≡ first ++ (candidate ++ []) = ap (λ ks. first ++ ks) (same ∙ sym (append-nil candidate)) in
    let mine : kinds_of rows ≡ own_kinds ++ (candidate ++ []) = kinds_are ∙ ap (λ ks. own_kinds ++ ks) (sym (append-nil candidate)) in
    let wide : length (first ++ last) ≡ from + count = length-append first last ∙ (λ i. e i + (ap length same ∙ f) i) in
    let long : length (kinds_of rows) ≡ own + count = ap length kinds_are ∙ length-append own_kinds candidate ∙ (λ i. g i + f i) in
    formed-chosen (or_nulls rows) (same_as_outer count from own) scopes
    (formed-pairs Left Single rows always scopes tt w (record { fitting = refl; gives = refl }))
    (conjunction-formed (kinds_of rows) ((first ++ last) ∷ outer) [] 1 (first ++ last) refl (range_with_len from count) (range_with_len own count)
    (within-range (length (first ++ last)) from count (omega (arith, wide)))
    (within-range (length (kinds_of rows)) own count (omega (arith, long)))
    (ap (λ ks. kinds_in ks (range_with_len from count)) whole
    ∙ at-between kind.Text first candidate [] from count e f
    ∙ sym (at-between kind.Text own_kinds candidate [] own count g f)
    ∙ ap (λ ks. kinds_in ks (range_with_len own count)) (sym mine)))
