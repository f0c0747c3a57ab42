-- The law of PROVENANCE.
use Rattle.std.proofs.Common.{◌≡◌, Decides, List, ◌++◌, sym, ap, subst, ◌∙◌}
use Rattle.std.specs.List.{flat_map, Contains}
use Rattle.bag_algebra.proofs.Members.{IsIn, in-map, from-map, in-flat_map, from-flat_map, member-in, in-member}
use Rattle.bag_algebra.specs.Bags.{Row, Bag, member, once}
use Rattle.bag_algebra.specs.Means.{Witness, flat, with_witnesses}
use Rattle.bag_algebra.specs.Outcome.{Outcome, mapped}
use Rattle.query_laws.specs.Holding.{InBag, HoldsOnce}
use Rattle.query_laws.specs.Nodes.{IsProvenance}
use Rattle.query_laws.proofs.Once.{holds_once-once}
use Rattle.query_laws.proofs.Outcomes.{in_bag-in, in-in_bag, good-good, mapped-passes}
use Rattle.bag_algebra.proofs.MembersByIndex.{in-from_contains, contains-from_in}
use Rattle.bag_algebra.proofs.Outcomes.{same_good}

-- ---- rows beside their lists

abbrev stands : (Row → List Witness) → Bag → Row → Type 0
stands lists us x = (t : Row) × (w : Witness) × InBag t us × Contains (lists t) w × (t ++ flat w ≡ x)

beside-decides : (lists : Row → List Witness) (us : Bag) (x : Row) → Decides (member x (flat_map (with_witnesses lists) us)) (stands lists us x)
beside-decides lists us x = (
  λ m. let row = from-flat_map (with_witnesses lists) x us (member-in x (flat_map (with_witnesses lists) us) m) in
      let list = from-map (λ w. row.0 ++ flat w) x (lists row.0) row.2 in
      (row.0, list.0, in-in_bag row.0 us row.1, contains-from_in list.0 (lists row.0) list.1, list.2),
  λ s. in-member x (flat_map (with_witnesses lists) us)
      (in-flat_map (with_witnesses lists) x s.0 us (in_bag-in s.0 us s.2)
      (subst (λ y. IsIn y (with_witnesses lists s.0)) s.4 (in-map (λ w. s.0 ++ flat w) s.1 (lists s.0) (in-from_contains s.1 (lists s.0) s.3)))),
)

pub provenance : (lists : Row → List Witness) (input : Outcome Bag) →
    IsProvenance lists input (mapped (λ bag. once (flat_map (with_witnesses lists) bag)) input)
provenance lists input = record {
  bad = mapped-passes input (λ bag. once (flat_map (with_witnesses lists) bag));
  good = λ us e. good-good _ (once (flat_map (with_witnesses lists) us)) (ap (mapped (λ bag. once (flat_map (with_witnesses lists) bag))) e);
  rows = λ us ts e whole.
      subst (HoldsOnce (stands lists us))
      (same_good (once (flat_map (with_witnesses lists) us)) ts (sym (ap (mapped (λ bag. once (flat_map (with_witnesses lists) bag))) e) ∙ whole))
      (holds_once-once (stands lists us) (flat_map (with_witnesses lists) us) (beside-decides lists us));
}
