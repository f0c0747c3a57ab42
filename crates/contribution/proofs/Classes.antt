-- The classes of a grouping: each row of the answer is of a class, whose group values are its first columns.
use Rattle.std.proofs.Common.{◌≡◌, ℕ, inl, inr, List, [], ◌∷◌, ◌++◌, map, take, length, refl, sym, ap, ◌∙◌}
use Rattle.perm_values.specs.Rows.{same_row, picked, value_at}
use Rattle.perm_values.specs.ValueLaws.{row_decides}
use Rattle.bag_algebra.proofs.Members.{IsIn, from-map, in-filter}
use Rattle.bag_algebra.specs.Bags.{Row, Bag}
use Rattle.bag_algebra.specs.Means.{good_row, good_rows, class_keys, class_of, class_row, aggregates_of, grouped}
use Rattle.bag_algebra.specs.Outcome.{Outcome, Good, Bad, mapped, each}
use Rattle.bag_algebra.specs.declared.query.AggFn.{AggFn}
use Rattle.contribution.proofs.BagMembers.{from-once}
use Rattle.contribution.proofs.GoodRows.{from-and_then, from-each}

-- a row of the answer: the group values of a class, and its aggregates
pub record OfClass (groups : List ℕ) (us : Bag) (t : Row) : Type 0 where
  pub key : Row
  pub aggregates : Row
  pub is_key : IsIn key (class_keys groups us)
  pub makes : key ++ aggregates ≡ t

from-mapped_row : (f : Row → Row) (o : Outcome Row) (t : Row) → mapped f o ≡ Good t → (vs : Row) × (f vs ≡ t)
from-mapped_row f (Good vs) t e = (vs, ap good_row e)
from-mapped_row f (Bad faults) t e = absurd (cc e)

pub from-grouped : (groups : List ℕ) (functions : List AggFn) (arguments : Row → Outcome Row) (us : Bag) (t : Row) →
    IsIn t (good_rows (grouped groups functions arguments us)) → OfClass groups us t
from-grouped groups functions arguments us t h =
    let from = from-each (class_row groups functions arguments us) t (class_keys groups us) (from-and_then (each arguments us) _ t h) in
    let made = from-mapped_row (λ vs. from.0 ++ vs) (aggregates_of functions 0 (map (λ u. good_row (arguments u)) (class_of groups from.0 us))) t from.2 in
    record { key = from.0; aggregates = made.0; is_key = from.1; makes = made.1 }

-- a class that isn't of no row has the group values of one of its rows
pub from-class_keys : (groups : List ℕ) (u : Row) (us : Bag) (key : Row) → IsIn key (class_keys groups (u ∷ us)) →
    (v : Row) × IsIn v (u ∷ us) × (picked groups v ≡ key)
from-class_keys [] u us key (inl e) = (u, inl refl, e)
from-class_keys [] u us key (inr h) = absurd h
from-class_keys (group ∷ groups) u us key h = from-map (picked (group ∷ groups)) key (u ∷ us) (from-once key (map (picked (group ∷ groups)) (u ∷ us)) h)

pub take-picked : (groups : List ℕ) (v more : Row) → take (length groups) (picked groups v ++ more) ≡ picked groups v
take-picked [] v more = refl
take-picked (group ∷ groups) v more = ap (λ l. value_at v group ∷ l) (take-picked groups v more)

-- the class of a row of the answer has a row
pub some_of_class : (groups : List ℕ) (u : Row) (us : Bag) (t : Row) → OfClass groups (u ∷ us) t →
    (v : Row) × IsIn v (u ∷ us) × IsIn v (class_of groups (take (length groups) t) (u ∷ us))
some_of_class groups u us t c =
    let from = from-class_keys groups u us c.key c.is_key in
    let same : picked groups from.0 ≡ take (length groups) t =
    sym (take-picked groups from.0 c.aggregates) ∙ ap (λ key. take (length groups) (key ++ c.aggregates)) from.2 ∙ ap (take (length groups)) c.makes in
    (from.0, from.1, in-filter (λ v. same_row (picked groups v) (take (length groups) t)) from.0 (u ∷ us) from.1 ((row_decides _ _).1 same))
