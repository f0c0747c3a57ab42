-- The law of Project.
use Rattle.std.proofs.Common.{◌≡◌, ◌+◌, [], ◌∷◌, sum_by, sym, ap, subst, ◌∙◌}
use Rattle.std.proofs.lemmas.List.Sums.{sum_by-cons}
use Rattle.perm_values.specs.Rows.{same_row}
use Rattle.bag_algebra.specs.Bags.{Row, Bag, count}
use Rattle.bag_algebra.specs.Means.{gives}
use Rattle.bag_algebra.specs.Outcome.{Outcome, Good, and_then, each}
use Rattle.query_laws.specs.Nodes.{IsProjected}
use Rattle.query_laws.proofs.Outcomes.{Over, over-each, over_rows, and_then-passes}
use Rattle.query_laws.proofs.Sums.{one_if, sum_by-passing, one_more}
use Rattle.bag_algebra.proofs.Outcomes.{same_good, both-is}

-- what the items give, row by row
pub given : (t : Row) (items : Row → Outcome Row) (us ts : Bag) → each items us ≡ Good ts → count t ts ≡ sum_by (λ u. one_if (gives t (items u))) us
given t items [] ts e = ap (count t) (sym (same_good [] ts e))
given t items (u ∷ us) ts e =
    let parts = both-is (λ y ys. y ∷ ys) (items u) (each items us) ts e in
    let y : Row = parts.0 in
    let ys : Bag = parts.1 in
    let given_here : same_row y t ≡ gives t (items u) = ap (gives t) (sym parts.2) in
    let further : count t ys ≡ sum_by (λ v. one_if (gives t (items v))) us = given t items us ys parts.3 in
    ap (count t) (sym parts.4) ∙ one_more (same_row y t) (count t ys) ∙ (λ i. one_if (given_here i) + further i)
    ∙ sym (sum_by-cons (λ v. one_if (gives t (items v))) u us)

pub projected : (items : Row → Outcome Row) (input : Outcome Bag) → IsProjected items input (and_then input (each items))
projected items input = record {
  bad = and_then-passes input (each items);
  evaluated = λ us e. over_rows items us (and_then input (each items))
      (subst (λ o. Over items us (and_then o (each items))) (sym e) (over-each items us));
  counts = λ us ts e a rows l t.
      let whole : each items us ≡ Good ts = sym (ap (λ o. and_then o (each items)) e) ∙ a in
      given t items us ts whole ∙ sum_by-passing (λ u. gives t (items u)) rows us l;
}
