-- The rows that are left, and these place by place.
use Rattle.std.proofs.Common.{◌≡◌, ℕ, zero, suc, ◌+◌, ◌≤◌, Bool, true, false, cond, not, List, [], ◌∷◌, ◌++◌, length, take, take_all, get_or, Option, None, Some, Result, Ok, Err, IsErrAnd, refl, sym, ap, ◌∙◌, subst, arith}
use Rattle.std.specs.Borrow.{Bor}
use Rattle.std.specs.Option.{option_copied}
use Rattle.std.specs.Prelude.{slice_get, filter}
use Rattle.perm_values.specs.Marked.{unmarked}
use Rattle.bag_algebra.specs.Bags.{Row, Bag}
use Rattle.bag_algebra.specs.Outcome.{Outcome, each}
use Rattle.row_values.specs.Answers.{Refuses}
use Rattle.row_values.specs.declared.error.ExecError.{ExecError}
use Rattle.row_values.proofs.Outcomes.{both_first, both_second}
use Rattle.row_nodes.specs.results.Screened.{GivesLeft, HasFlags, FlagsEach, is_out, left_before, left_by, row_left, rows_left}
use Rattle.row_nodes.specs.declared.results.screened.Screened.{Screened}

-- ---- what a filter gives

pub left_along : (o p : Outcome Bag) (r : Result Screened ExecError) → o ≡ p → GivesLeft p r → GivesLeft o r
left_along o p r e h = subst (λ q. GivesLeft q r) (sym e) h

-- an error that is handed on
pub left_passed : (o : Outcome Bag) (error : ExecError) (r : Result Screened ExecError) → IsErrAnd r (λ e. e ≡ error) → Refuses o error → GivesLeft o r
left_passed o error (Ok screened) h k = absurd h
left_passed o error (Err e) h k = subst (Refuses o) (sym h) k

-- by its parts
left_parts : (screened : Screened) (rows : Bag) (doomed : Option (List Bool)) → (screened.rows ≡ rows) × (screened.doomed ≡ doomed) → left_by doomed rows ≡ rows_left screened
left_parts screened rows doomed parts = λ i. left_by (sym parts.1 i) (sym parts.0 i)

pub whole_left : (screened : Screened) (rows : Bag) → (screened.rows ≡ rows) × (screened.doomed ≡ None) → rows ≡ rows_left screened
whole_left screened rows parts = left_parts screened rows None parts

pub flagged_left : (screened : Screened) (rows : Bag) (flags : List Bool) → (screened.rows ≡ rows) × (screened.doomed ≡ Some flags) → unmarked flags rows ≡ rows_left screened
flagged_left screened rows flags parts = left_parts screened rows (Some flags) parts

pub flagged_long : (screened : Screened) (rows : Bag) (flags : List Bool) → (screened.rows ≡ rows) × (screened.doomed ≡ Some flags) → length flags ≡ length rows → HasFlags screened
flagged_long screened rows flags parts long =
    subst (λ vs. FlagsEach screened.doomed vs) (sym parts.0) (subst (λ d. FlagsEach d rows) (sym parts.1) long)

unmarked-none : (flags : List Bool) → unmarked {X = Row} flags [] ≡ []
unmarked-none [] = refl
unmarked-none (f ∷ flags) = refl

-- a row that is there and isn't left out
there : (out : Bool) (found : Option Row) (u : Row) → cond out None found ≡ Some u → (out ≡ false) × (found ≡ Some u)
there true found u e = absurd (cc e)
there false found u e = (refl, e)

-- ---- one place more

one-more : (flags : List Bool) (rows : Bag) (at : ℕ) (u : Row) → get_or flags at true ≡ false → slice_get rows at ≡ Some u →
    unmarked flags (take (suc at) rows) ≡ unmarked flags (take at rows) ++ u ∷ []
one-more [] rows at u kept here = absurd (cc kept)
one-more (f ∷ flags) [] at u kept here = absurd (cc here)
one-more (f ∷ flags) (v ∷ rows) zero u kept here =
    ap (λ b. cond b (unmarked flags []) (v ∷ unmarked flags [])) kept ∙ ap (λ l. v ∷ l) (unmarked-none flags) ∙ (let same : v ≡ u = cc in ap (λ w. w ∷ []) same)
one-more (f ∷ flags) (v ∷ rows) (suc at) u kept here = by f (one-more flags rows at u kept here)
  where
    by : (b : Bool) → unmarked flags (take (suc at) rows) ≡ unmarked flags (take at rows) ++ u ∷ [] →
        cond b (unmarked flags (take (suc at) rows)) (v ∷ unmarked flags (take (suc at) rows)) ≡ cond b (unmarked flags (take at rows)) (v ∷ unmarked flags (take at rows)) ++ u ∷ []
    by true e = e
    by false e = ap (λ l. v ∷ l) e

taken-more : (rows : Bag) (at : ℕ) (u : Row) → slice_get rows at ≡ Some u → take (suc at) rows ≡ take at rows ++ u ∷ []
taken-more [] at u here = absurd (cc here)
taken-more (v ∷ rows) zero u here = let same : v ≡ u = cc in ap (λ w. w ∷ []) same
taken-more (v ∷ rows) (suc at) u here = ap (λ l. v ∷ l) (taken-more rows at u here)

left-more : (doomed : Option (List Bool)) (rows : Bag) (at : ℕ) (u : Row) → is_out doomed at ≡ false → slice_get rows at ≡ Some u →
    left_by doomed (take (suc at) rows) ≡ left_by doomed (take at rows) ++ u ∷ []
left-more None rows at u kept here = taken-more rows at u here
left-more (Some flags) rows at u kept here = one-more flags rows at u kept here

pub left_with : (screened : Screened) (at : ℕ) (u : Row) → row_left screened at ≡ Some u → left_before screened (at + 1) ≡ left_before screened at ++ u ∷ []
left_with screened at u here =
    let parts = there (is_out screened.doomed at) (slice_get screened.rows at) u here in
    let next : at + 1 ≡ suc at = omega arith in
    ap (left_before screened) next ∙ left-more screened.doomed screened.rows at u parts.0 parts.1

none-more : (flags : List Bool) (rows : Bag) (at : ℕ) → cond (get_or flags at true) None (slice_get rows at) ≡ None → unmarked flags (take (suc at) rows) ≡ unmarked flags (take at rows)
none-more [] rows at none = refl
none-more (f ∷ flags) [] zero none = refl
none-more (f ∷ flags) [] (suc at) none = refl
none-more (true ∷ flags) (v ∷ rows) zero none = unmarked-none flags
none-more (false ∷ flags) (v ∷ rows) zero none = absurd (cc none)
none-more (f ∷ flags) (v ∷ rows) (suc at) none = ap (λ l. cond f l (v ∷ l)) (none-more flags rows at none)

taken-none : (rows : Bag) (at : ℕ) → slice_get rows at ≡ None → take (suc at) rows ≡ take at rows
taken-none [] zero none = refl
taken-none [] (suc at) none = refl
taken-none (v ∷ rows) zero none = absurd (cc none)
taken-none (v ∷ rows) (suc at) none = ap (λ l. v ∷ l) (taken-none rows at none)

skipped : (doomed : Option (List Bool)) (rows : Bag) (at : ℕ) → cond (is_out doomed at) None (slice_get rows at) ≡ None → left_by doomed (take (suc at) rows) ≡ left_by doomed (take at rows)
skipped None rows at none = taken-none rows at none
skipped (Some flags) rows at none = none-more flags rows at none

pub left_without : (screened : Screened) (at : ℕ) → row_left screened at ≡ None → left_before screened (at + 1) ≡ left_before screened at
left_without screened at none =
    let next : at + 1 ≡ suc at = omega arith in
    ap (left_before screened) next ∙ skipped screened.doomed screened.rows at none

-- ---- all places

started : (doomed : Option (List Bool)) → left_by doomed [] ≡ []
started None = refl
started (Some flags) = unmarked-none flags

pub left_start : (screened : Screened) → left_before screened 0 ≡ []
left_start screened = started screened.doomed

pub left_all : (screened : Screened) (at : ℕ) → length screened.rows ≤ at → left_before screened at ≡ rows_left screened
left_all screened at behind = ap (left_by screened.doomed) (take_all at screened.rows behind)

-- what code answers where no row is there
pub no_row : (found : Option (Bor Row)) → ((r : Bor Row) → found ≡ Some r → ⊥) → option_copied found ≡ None
no_row None none = refl
no_row (Some r) none = absurd (none r refl)

-- ---- a row that refuses

module _ {Y : Type 0} (f : Row → Outcome Y) (u : Row) (error : ExecError) (refuses : Refuses (f u) error) where
  marked-item : (flags : List Bool) (rows : Bag) (at : ℕ) → get_or flags at true ≡ false → slice_get rows at ≡ Some u → Refuses (each f (unmarked flags rows)) error
  marked-item [] rows at kept here = absurd (cc kept)
  marked-item (g ∷ flags) [] at kept here = absurd (cc here)
  marked-item (true ∷ flags) (v ∷ rows) zero kept here = absurd (cc kept)
  marked-item (false ∷ flags) (v ∷ rows) zero kept here =
      let same : u ≡ v = cc in
      both_first _ (f v) (each f (unmarked flags rows)) error (subst (λ w. Refuses (f w) error) same refuses)
  marked-item (true ∷ flags) (v ∷ rows) (suc at) kept here = marked-item flags rows at kept here
  marked-item (false ∷ flags) (v ∷ rows) (suc at) kept here = both_second _ (f v) (each f (unmarked flags rows)) error (marked-item flags rows at kept here)

  there-item : (rows : Bag) (at : ℕ) → slice_get rows at ≡ Some u → Refuses (each f rows) error
  there-item [] at here = absurd (cc here)
  there-item (v ∷ rows) zero here =
      let same : u ≡ v = cc in
      both_first _ (f v) (each f rows) error (subst (λ w. Refuses (f w) error) same refuses)
  there-item (v ∷ rows) (suc at) here = both_second _ (f v) (each f rows) error (there-item rows at here)

  item-by : (doomed : Option (List Bool)) (rows : Bag) (at : ℕ) → is_out doomed at ≡ false → slice_get rows at ≡ Some u → Refuses (each f (left_by doomed rows)) error
  item-by None rows at kept here = there-item rows at here
  item-by (Some flags) rows at kept here = marked-item flags rows at kept here

  pub left_item : (screened : Screened) (at : ℕ) → row_left screened at ≡ Some u → Refuses (each f (rows_left screened)) error
  left_item screened at here =
      let parts = there (is_out screened.doomed at) (slice_get screened.rows at) u here in
      item-by screened.doomed screened.rows at parts.0 parts.1

-- ---- how many are left

unset-left : (flags : List Bool) (rows : Bag) → length flags ≡ length rows → length (filter not flags) ≡ length (unmarked flags rows)
unset-left [] rows same = refl
unset-left (f ∷ flags) [] same = absurd (omega arith)
unset-left (true ∷ flags) (v ∷ rows) same = unset-left flags rows (omega arith)
unset-left (false ∷ flags) (v ∷ rows) same = ap suc (unset-left flags rows (omega arith))

pub flagged_count : (screened : Screened) (flags : List Bool) → screened.doomed ≡ Some flags → HasFlags screened → length (filter not flags) ≡ length (rows_left screened)
flagged_count screened flags is has =
    unset-left flags screened.rows (subst (λ d. FlagsEach d screened.rows) is has) ∙ ap (λ d. length (left_by d screened.rows)) (sym is)
