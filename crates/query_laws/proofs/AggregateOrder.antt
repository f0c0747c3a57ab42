-- An aggregate sees how often each value occurs.
use Rattle.std.proofs.Common.{◌≡◌, List, [], ◌∷◌, map, refl, ap, subst}
use Rattle.perm_values.specs.declared.value.Value.{Value}
use Rattle.bag_algebra.proofs.BagLaws.{Permuted, permuted-map, permuted-from_same_bag}
use Rattle.bag_algebra.specs.Means.{cell, aggregated}
use Rattle.bag_algebra.specs.declared.query.AggFn.{AggFn}
use Rattle.query_laws.specs.Aggregated.{occurrences}
use Rattle.query_laws.proofs.AggregateValues.{single, singles_counts}
use Rattle.bag_algebra.proofs.AggregateOrder.{aggregated-permuted}

-- ---- lists with the same occurrences

cells : (vs : List Value) → map cell (map single vs) ≡ vs
cells [] = refl
cells (v ∷ vs) = ap (λ l. v ∷ l) (cells vs)

permuted-from_occurrences : (vs ws : List Value) → ((v : Value) → occurrences v vs ≡ occurrences v ws) → Permuted vs ws
permuted-from_occurrences vs ws e =
    let rows : Permuted (map cell (map single vs)) (map cell (map single ws)) =
    permuted-map cell (permuted-from_same_bag (map single vs) (map single ws) (record { counts = singles_counts vs ws e })) in
    subst (λ l. Permuted l ws) (cells vs) (subst (Permuted (map cell (map single vs))) (cells ws) rows)

pub aggregated-same : (function : AggFn) (vs ws : List Value) → ((v : Value) → occurrences v vs ≡ occurrences v ws) → aggregated function vs ≡ aggregated function ws
aggregated-same function vs ws e = aggregated-permuted function (permuted-from_occurrences vs ws e)
