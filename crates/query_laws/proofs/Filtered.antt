-- The law of Filter.
use Rattle.std.proofs.Common.{◌≡◌, Bool, true, false, cond, [], ◌∷◌, ◌++◌, filter, refl, sym, ap, subst, ◌∙◌}
use Rattle.std.specs.List.{flat_map}
use Rattle.perm_values.specs.declared.value.Value.{Value}
use Rattle.bag_algebra.proofs.BagLaws.{count-filter}
use Rattle.bag_algebra.specs.Bags.{Row, Bag, count}
use Rattle.bag_algebra.specs.Means.{holds_of, is_met, kept, good_rows}
use Rattle.bag_algebra.specs.Outcome.{Outcome, Good, Bad, and_then, mapped, gather}
use Rattle.query_laws.specs.Nodes.{IsFiltered}
use Rattle.query_laws.proofs.Outcomes.{Over, over-gather, over-part, over_rows, gather-is, and_then-passes}

-- what a row keeps of itself
pub kept-rows : (condition : Row → Outcome Value) (u : Row) → good_rows (kept condition u) ≡ cond (is_met (condition u)) (u ∷ []) []
kept-rows condition u = by_case (condition u) where
  by_case : (o : Outcome Value) → good_rows (mapped (λ v. cond (holds_of v) (u ∷ []) []) o) ≡ cond (is_met o) (u ∷ []) []
  by_case (Good v) = refl
  by_case (Bad faults) = refl

pub put_before : (b : Bool) (u : Row) (us : Bag) → cond b (u ∷ []) [] ++ us ≡ cond b (u ∷ us) us
put_before true u us = refl
put_before false u us = refl

kept-filter : (condition : Row → Outcome Value) (us : Bag) → flat_map (λ u. good_rows (kept condition u)) us ≡ filter (λ u. is_met (condition u)) us
kept-filter condition [] = refl
kept-filter condition (u ∷ us) =
    (λ i. kept-rows condition u i ++ kept-filter condition us i) ∙ put_before (is_met (condition u)) u (filter (λ v. is_met (condition v)) us)

pub filtered : (condition : Row → Outcome Value) (input : Outcome Bag) → IsFiltered condition input (and_then input (gather (kept condition)))
filtered condition input = record {
  bad = and_then-passes input (gather (kept condition));
  evaluated = λ us e. over_rows condition us (and_then input (gather (kept condition)))
      (subst (λ o. Over condition us (and_then o (gather (kept condition)))) (sym e)
      (over-part (λ u v. cond (holds_of v) (u ∷ []) []) condition us (gather (kept condition) us) (over-gather (kept condition) us)));
  counts = λ us ts e a t.
      let whole : gather (kept condition) us ≡ Good ts = sym (ap (λ o. and_then o (gather (kept condition))) e) ∙ a in
      ap (count t) (gather-is (kept condition) us ts whole ∙ kept-filter condition us) ∙ count-filter t (λ u. is_met (condition u)) us;
}
