-- The columns of a query's rows and of their flattened lists, and what stands at consecutive places of rows and kinds.
use Rattle.std.proofs.Common.{◌≡◌, ℕ, ◌+◌, ◌-◌, List, [], ◌++◌, map, length, slice_index_or, refl, sym, ap, ◌∙◌, append-nil, arith, length-append}
use Rattle.std.specs.List.{range_with_len}
use Rattle.perm_values.specs.declared.kind.Kind.{Kind}
use Rattle.bag_algebra.proofs.Members.{IsIn, in-member}
use Rattle.bag_algebra.proofs.Widths.{places_width}
use Rattle.bag_algebra.specs.Bags.{Row, Bag}
use Rattle.bag_algebra.specs.Kinds.{kinds_of, place_kinds, shape, width_of}
use Rattle.bag_algebra.specs.Meaning.{Database, meaning}
use Rattle.bag_algebra.specs.Outcome.{Good}
use Rattle.bag_algebra.specs.WellFormed.{WellFormed}
use Rattle.bag_algebra.specs.Rewriting.{IsRewrite}
use Rattle.bag_algebra.specs.declared.query.Query.{Query}
use Rattle.contribution.specs.Fitting.{Fitting}
use Rattle.rewrite_core.proofs.KeptRows as kept
use Rattle.rewrite_core.proofs.Places.{at-between}

pub row-width : (outer : List (List Kind)) (q : Query) (db : Database) (env : List Row) → Fitting outer q db env → (us : Bag) → meaning q db env ≡ Good us →
    (t : Row) → IsIn t us → length t ≡ width_of q
row-width outer q db env fitting us good t here = kept.row-width outer q db env fitting us t good (in-member t us here)

-- ---- consecutive places

module _ {X : Type 0} (other : X) where
  -- what stands between
  pub between : (before middle after : List X) (start : ℕ) → length before ≡ start →
      map (λ place. slice_index_or (before ++ (middle ++ after)) place other) (range_with_len start (length middle)) ≡ middle
  between before middle after start e = at-between other before middle after start (length middle) e refl

  -- all of them
  pub from_start : (items : List X) → map (λ place. slice_index_or items place other) (range_with_len 0 (length items)) ≡ items
  from_start items =
      ap (λ whole. map (λ place. slice_index_or whole place other) (range_with_len 0 (length items))) (sym (append-nil items))
      ∙ between [] items [] 0 refl

  -- those behind the first
  pub behind : (before items : List X) (start : ℕ) → length before ≡ start →
      map (λ place. slice_index_or (before ++ items) place other) (range_with_len start (length items)) ≡ items
  behind before items start e =
      ap (λ whole. map (λ place. slice_index_or (before ++ whole) place other) (range_with_len start (length items))) (sym (append-nil items))
      ∙ between before items [] start e

-- ---- a rewriting's columns

module _ (q r : Query) (given : IsRewrite q r) (outer : List (List Kind)) (formed : WellFormed outer q) where
  pub width-rewriting : width_of r ≡ width_of q + places_width (shape q)
  width-rewriting = ap length (given.kinds outer formed) ∙ length-append (kinds_of q) (place_kinds (shape q))

  pub width-provenance : width_of r - width_of q ≡ places_width (shape q)
  width-provenance = let e = width-rewriting in omega arith
