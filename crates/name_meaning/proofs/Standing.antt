-- Kinds that stand in a row, part by part.
use Rattle.std.specs.Prelude.{◌≡◌, ℕ, suc, ◌+◌, List, [], ◌∷◌, ◌++◌, length, slice_get, Some}
use Rattle.std.proofs.Common.{refl, ap, ◌∙◌, subst, arith}
use Rattle.std.proofs.lemmas.List.{length-map, map-append}
use Rattle.perm_values.specs.declared.kind.Kind.{Kind}
use Rattle.bag_algebra.specs.Kinds.{aggregate_kinds}
use Rattle.bag_algebra.specs.declared.query.Aggr.{Aggr}
use Rattle.name_meaning.specs.Scopes.{group_count}
use Rattle.name_meaning.specs.declared.scope.Scope.{Scope}
use Rattle.name_meaning.specs.laws.Standing.{StandAt, own_row, AggregatesStand}

pub stand-append : (place : ℕ) (xs ys row : List Kind) → StandAt place (xs ++ ys) row → StandAt place xs row × StandAt (place + length xs) ys row
stand-append place [] ys row h = (tt, subst (λ p. StandAt p ys row) (let e : place ≡ place + 0 = omega arith in e) h)
stand-append place (x ∷ xs) ys row h =
    let rest = stand-append (suc place) xs ys row h.1 in
    let e : suc place + length xs ≡ place + suc (length xs) = omega arith in
    ((h.0, rest.0), subst (λ p. StandAt p ys row) e rest.1)

pub stand-by_index : (place : ℕ) (xs row : List Kind) → ((k : ℕ) (x : Kind) → slice_get xs k ≡ Some x → slice_get row (k + place) ≡ Some x) → StandAt place xs row
stand-by_index place [] row there = tt
stand-by_index place (x ∷ xs) row there = (
  (let e : place ≡ 0 + place = omega arith in ap (slice_get row) e ∙ there 0 x refl),
  stand-by_index (suc place) xs row (λ k y h. let e : k + suc place ≡ suc k + place = omega arith in ap (slice_get row) e ∙ there (suc k) y h),
)

slice_get-behind : (before ys : List Kind) (k : ℕ) → slice_get (before ++ ys) (k + length before) ≡ slice_get ys k
slice_get-behind [] ys k = let e : k + 0 ≡ k = omega arith in ap (slice_get ys) e
slice_get-behind (x ∷ before) ys k =
    let e : k + suc (length before) ≡ suc (k + length before) = omega arith in
    ap (slice_get (x ∷ before ++ ys)) e ∙ slice_get-behind before ys k

pub stand-behind : (before xs : List Kind) → StandAt (length before) xs (before ++ xs)
stand-behind before xs = stand-by_index (length before) xs (before ++ xs) (λ k x h. slice_get-behind before xs k ∙ h)

pub stand-whole : (xs : List Kind) → StandAt 0 xs xs
stand-whole xs = stand-behind [] xs

-- ---- aggregates

pub aggregates-append : (scopes : List Scope) (n : ℕ) (a b : List Aggr) (rows : List (List Kind)) → AggregatesStand scopes n (a ++ b) rows
    → AggregatesStand scopes n a rows × AggregatesStand scopes (n + length a) b rows
aggregates-append scopes n a b rows h =
    let kind : Aggr → Kind = λ (aggregate : Aggr). aggregate.kind in
    let place = group_count scopes + n in
    let split = stand-append place (aggregate_kinds a) (aggregate_kinds b) (own_row rows)
    (subst (λ kinds. StandAt place kinds (own_row rows)) (map-append kind a b) h) in
    let l = length-map a kind in
    let e : place + length a ≡ group_count scopes + (n + length a) = omega arith in
    (split.0, subst (λ p. StandAt p (aggregate_kinds b) (own_row rows)) (ap (λ m. place + m) l ∙ e) split.1)
