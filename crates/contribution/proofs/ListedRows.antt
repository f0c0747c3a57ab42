-- Only rows of good answers have witness lists.
use Rattle.std.proofs.Common.{◌≡◌, ◌≢◌, ◌↔◌, ◌≤◌, inl, List, [], ◌∷◌, ◌++◌, Contains, IsTrue, refl, sym, ap, ◌∙◌, subst}
use Rattle.std.specs.List.{flat_map}
use Rattle.bag_algebra.proofs.BagLaws.{count-once, at_most_one}
use Rattle.bag_algebra.proofs.Members.{IsIn, in-map, from-map, in-flat_map, from-flat_map, in-member, member-in}
use Rattle.bag_algebra.specs.Bags.{Row, Bag, member, count, once}
use Rattle.bag_algebra.specs.built.Openings.{rows-with_lists}
use Rattle.bag_algebra.specs.Children.{subs_denote, sublink_value}
use Rattle.bag_algebra.specs.Meaning.{Database, denote, meaning, witnesses, optional_value}
use Rattle.bag_algebra.specs.Means.{Means, Witness, with_lists, good_rows, flat, with_witnesses}
use Rattle.bag_algebra.specs.Outcome.{Outcome, Good, Bad, Faults, mapped, both_then, both, each}
use Rattle.bag_algebra.specs.built.Patterns.{BaseOf, FilterOf, ProjectOf, JoinOf, ApplyOf, UnionOf, IntersectOf, ExceptOf, DistinctOf, AggregateOf, LimitOf, ProvOf}
use Rattle.bag_algebra.specs.declared.query.Query.{Query}
use Rattle.bag_algebra.specs.declared.query.Query.TheVariants.{Table, Single}
use Rattle.bag_algebra.specs.declared.query.Sublink.{Sublink}
use Rattle.contribution.proofs.BagMembers.{from-once, in-once}
use Rattle.contribution.proofs.EntriesAtPlaces.{from-lists}
use Rattle.contribution.proofs.GoodRows.{good_rows-with_lists}
use Rattle.bag_algebra.proofs.MembersByIndex.{in-from_contains, contains-from_in}
use Rattle.contribution.proofs.NoRowLost.{none_lost}
use Rattle.contribution.proofs.TruthKept.{chosen-keeps_value}
use Rattle.contribution.specs.SublinkValues.{contributing_value}
use Rattle.bag_algebra.proofs.Outcomes.{answers-each}

pub record OnlyRows (m : Means) : Type 0 where
  pub row : (t : Row) (w : Witness) → IsIn w (m.lists t) → IsIn t (good_rows m.rows)

only_rows-with_lists : (rows : Outcome Bag) (lists : Row → List Witness) → OnlyRows (with_lists rows lists)
only_rows-with_lists rows lists = record {
  row = λ t w h. subst (IsIn t) (sym (good_rows-with_lists rows lists)) (from-lists rows lists t w h).0;
}

pub only_rows : (q : Query) (db : Database) (env : List Row) → OnlyRows (denote q db env)
only_rows (Table id kinds) db env = only_rows-with_lists (Good (db id)) (λ t. [] ∷ [])
only_rows Single db env = only_rows-with_lists (Good ([] ∷ [])) (λ t. [] ∷ [])
only_rows (BaseOf input places label) db env = only_rows-with_lists _ _
only_rows (FilterOf input condition _ subs) db env = only_rows-with_lists _ _
only_rows (ProjectOf input items _ subs) db env = only_rows-with_lists _ _
only_rows (JoinOf kind left right condition _ subs) db env = only_rows-with_lists _ _
only_rows (ApplyOf kind left right) db env = only_rows-with_lists _ _
only_rows (UnionOf all left right) db env = only_rows-with_lists _ _
only_rows (IntersectOf all left right) db env = only_rows-with_lists _ _
only_rows (ExceptOf all left right) db env = only_rows-with_lists _ _
only_rows (DistinctOf input) db env = only_rows-with_lists _ _
only_rows (AggregateOf input groups aggregates) db env = only_rows-with_lists _ _
only_rows (LimitOf input keys count) db env = only_rows-with_lists _ _
only_rows (ProvOf input) db env = only_rows-with_lists _ _

pub none-in : {X : Type 0} (xs : List X) → ((x : X) → IsIn x xs → ⊥) → xs ≡ []
none-in [] f = refl
none-in (x ∷ xs) f = absurd (f x (inl refl))

pub some-in : {X : Type 0} (xs : List X) → xs ≢ [] → (x : X) × IsIn x xs
some-in [] f = absurd (f refl)
some-in (x ∷ xs) f = (x, inl refl)

-- a row is in a good answer exactly where it has a list
pub row-listed : (q : Query) (db : Database) (env : List Row) (bag : Bag) (t : Row) → meaning q db env ≡ Good bag → IsTrue (member t bag) ↔ (witnesses q db env t ≢ [])
row-listed q db env bag t e = (
  λ h none.
      let l = (none_lost q db env).listed t (subst (IsIn t) (sym (ap good_rows e)) (member-in t bag h)) in
      subst (IsIn l.0) none l.1,
  λ some.
      let w = some-in (witnesses q db env t) some in
      in-member t bag (subst (IsIn t) (ap good_rows e) ((only_rows q db env).row t w.0 w.1)),
)

pub no_list-where_bad : (q : Query) (db : Database) (env : List Row) (faults : Faults) (t : Row) → meaning q db env ≡ Bad faults → witnesses q db env t ≡ []
no_list-where_bad q db env faults t e =
    none-in (witnesses q db env t) (λ w h. subst (IsIn t) (ap good_rows e) ((only_rows q db env).row t w h))

-- ---- sublinks

contributing-same : (sub : Sublink) (db : Database) (env : List Row) (u : Row) → sublink_value db env u sub ≡ contributing_value db env u sub
contributing-same sub db env u =
    λ i. both_then (optional_value sub.tested env u) (meaning sub.query db (u ∷ env)) (λ x bag. sym (chosen-keeps_value sub.kind x bag) i)

pub answers-of_contributing_rows : (subs : List Sublink) (db : Database) (env : List Row) (u : Row) → (subs_denote subs db env).answers u ≡ each (contributing_value db env u) subs
answers-of_contributing_rows [] db env u = refl
answers-of_contributing_rows (sub ∷ subs) db env u =
    λ i. both (λ v vs. v ∷ vs) (contributing-same sub db env u i) (answers-of_contributing_rows subs db env u i)

-- each sublink has its value over the contributing rows alone
pub contributing_rows-suffice : (subs : List Sublink) (db : Database) (env : List Row) (u : Row) →
    each (contributing_value db env u) subs ≡ each (sublink_value db env u) subs
contributing_rows-suffice subs db env u = sym (answers-of_contributing_rows subs db env u) ∙ answers-each subs db env u

-- ---- PROVENANCE

-- its rows before the repeated ones go
abbrev pub beside_lists : Query → Database → List Row → Bag → Bag
beside_lists q db env bag = flat_map (with_witnesses (witnesses q db env)) bag

provenance-meaning : (q : Query) (db : Database) (env : List Row) → meaning (ProvOf q) db env ≡ mapped (λ bag. once (beside_lists q db env bag)) (meaning q db env)
provenance-meaning q db env = rows-with_lists _ _

-- the rows of a good PROVENANCE are those of its good query, beside their lists
pub provenance-found : (q : Query) (db : Database) (env : List Row) (found : Bag) → meaning (ProvOf q) db env ≡ Good found →
    found ≡ once (beside_lists q db env (good_rows (meaning q db env)))
provenance-found q db env found e =
    by_meaning (meaning q db env) (sym (provenance-meaning q db env) ∙ e)
  where
    by_meaning : (o : Outcome Bag) → mapped (λ bag. once (beside_lists q db env bag)) o ≡ Good found → found ≡ once (beside_lists q db env (good_rows o))
    by_meaning (Good bag) h = sym (ap good_rows h)
    by_meaning (Bad faults) h = absurd (cc h)

pub provenance-once : (q : Query) (db : Database) (env : List Row) (found : Bag) (u : Row) → meaning (ProvOf q) db env ≡ Good found → count u found ≤ 1
provenance-once q db env found u e =
    let rows = beside_lists q db env (good_rows (meaning q db env)) in
    subst (λ n. n ≤ 1) (sym (ap (count u) (provenance-found q db env found e) ∙ count-once u rows)) (at_most_one (member u rows))

-- a row beside one of its flattened lists
abbrev pub IsPair : Query → Database → List Row → Bag → Row → Type 0
IsPair q db env bag u = (t : Row) × (w : Witness) × IsTrue (member t bag) × Contains (witnesses q db env t) w × (t ++ flat w ≡ u)

pub from-beside_lists : (q : Query) (db : Database) (env : List Row) (bag : Bag) (u : Row) → IsIn u (beside_lists q db env bag) → IsPair q db env bag u
from-beside_lists q db env bag u h =
    let row = from-flat_map (with_witnesses (witnesses q db env)) u bag h in
    let list = from-map (λ w. row.0 ++ flat w) u (witnesses q db env row.0) row.2 in
    (row.0, list.0, in-member row.0 bag row.1, contains-from_in list.0 (witnesses q db env row.0) list.1, list.2)

pub in-beside_lists : (q : Query) (db : Database) (env : List Row) (bag : Bag) (u : Row) → IsPair q db env bag u → IsIn u (beside_lists q db env bag)
in-beside_lists q db env bag u p =
    let listed = in-map (λ w. p.0 ++ flat w) p.1 (witnesses q db env p.0) (in-from_contains p.1 (witnesses q db env p.0) p.3) in
    in-flat_map (with_witnesses (witnesses q db env)) u p.0 bag (member-in p.0 bag p.2)
    (subst (λ r. IsIn r (with_witnesses (witnesses q db env) p.0)) p.4 listed)

pub provenance-pairs : (q : Query) (db : Database) (env : List Row) (bag found : Bag) (u : Row) → meaning q db env ≡ Good bag → meaning (ProvOf q) db env ≡ Good found →
    IsTrue (member u found) ↔ IsPair q db env bag u
provenance-pairs q db env bag found u e f =
    let is : found ≡ once (beside_lists q db env bag) = provenance-found q db env found f ∙ ap (λ o. once (beside_lists q db env (good_rows o))) e in (
      λ h. from-beside_lists q db env bag u (from-once u (beside_lists q db env bag) (subst (IsIn u) is (member-in u found h))),
      λ p. in-member u found (subst (IsIn u) (sym is) (in-once u (beside_lists q db env bag) (in-beside_lists q db env bag u p))),
    )

pub provenance-faults : (q : Query) (db : Database) (env : List Row) (faults : Faults) → (meaning (ProvOf q) db env ≡ Bad faults) ↔ (meaning q db env ≡ Bad faults)
provenance-faults q db env faults =
    (λ h. by_meaning (meaning q db env) (sym (provenance-meaning q db env) ∙ h), λ h. provenance-meaning q db env ∙ ap (mapped (λ bag. once (beside_lists q db env bag))) h)
  where
    by_meaning : (o : Outcome Bag) → mapped (λ bag. once (beside_lists q db env bag)) o ≡ Bad faults → o ≡ Bad faults
    by_meaning (Good bag) h = absurd (cc h)
    by_meaning (Bad g) h = h
