-- The rows of sources beside one another: one for each way to put a row or nothing at each place.
use Rattle.std.proofs.Common.{◌≡◌, ℕ, inl, inr, List, [], ◌∷◌, ◌++◌, map, length, Some, refl, sym, ap, ◌∙◌, append-nil}
use Rattle.std.proofs.lemmas.List.{length-map}
use Rattle.std.specs.List.{flat_map}
use Rattle.perm_values.specs.Rows.{picked, value_at}
use Rattle.perm_values.specs.declared.value.Value.{Value}
use Rattle.bag_algebra.proofs.Members.{IsIn, in-map, from-map, in-append_left, in-append_right, from-append, in-flat_map, from-flat_map, in-member, member-in}
use Rattle.bag_algebra.specs.Bags.{Row, Bag, nulls}
use Rattle.bag_algebra.specs.Kinds.{kinds_in, kind_in, width_of}
use Rattle.bag_algebra.specs.Meaning.{Database, meaning, condition_on}
use Rattle.bag_algebra.specs.Means.{Held, Empty, Witness, flat, no_subs, kept, met_pairs, joined_rows}
use Rattle.bag_algebra.specs.Outcome.{Outcome, Good, both, both_then, mapped, gather}
use Rattle.bag_algebra.specs.declared.place.Place.{Place}
use Rattle.bag_algebra.specs.declared.query.JoinKind.TheVariants.{Inner}
use Rattle.bag_algebra.specs.declared.query.Query.TheVariants.{Table, Single}
use Rattle.contribution.proofs.ColumnQueries.{meaning-columns}
use Rattle.contribution.proofs.EntriesAtPlaces.{Rows}
use Rattle.contribution.proofs.NullRows.{meaning-null_row}
use Rattle.contribution.specs.CrossBase.{source_query, crossed}
use Rattle.contribution.specs.Conjunctions.{always}
use Rattle.contribution.specs.HeldRows.{StandAt}
use Rattle.contribution.specs.declared.cross.TableSource.{TableSource}
use Rattle.bag_algebra.specs.built.Openings.{rows-with_lists}

-- what a source holds, restricted to its places
abbrev pub held_by : Database → TableSource → Bag
held_by db source = map (picked source.places) (db source.id)

abbrev pub source_width : TableSource → ℕ
source_width source = length (kinds_in source.kinds source.places)

abbrev pub source_rows : Database → TableSource → Bag
source_rows db source = held_by db source ++ (nulls (source_width source) ∷ [])

abbrev pub every_pair : Bag → Bag → Bag
every_pair us vs = flat_map (λ u. map (λ v. u ++ v) vs) us

abbrev pub crossed_rows : Database → List TableSource → Bag
crossed_rows db [] = [] ∷ []
crossed_rows db (source ∷ sources) = every_pair (source_rows db source) (crossed_rows db sources)

-- ---- the meaning

pub meaning-source_query : (source : TableSource) (db : Database) (env : List Row) → meaning (source_query source) db env ≡ Good (source_rows db source)
meaning-source_query source db env =
    rows-with_lists _ _
    ∙ (λ i. both (λ us vs. us ++ vs) (meaning-columns (Table source.id source.kinds) source.places db env i) (meaning-null_row (kinds_in source.kinds source.places) db env i))

gather-singles : (f : Row → Row) (us : Bag) → gather (λ u. Good (f u ∷ [])) us ≡ Good (map f us)
gather-singles f [] = refl
gather-singles f (u ∷ us) = ap (both (λ ys zs. ys ++ zs) (Good (f u ∷ []))) (gather-singles f us)

gather-goods : (f : Row → Outcome Bag) (g : Row → Bag) → ((u : Row) → f u ≡ Good (g u)) → (us : Bag) → gather f us ≡ Good (flat_map g us)
gather-goods f g good [] = refl
gather-goods f g good (u ∷ us) = λ i. both (λ ys zs. ys ++ zs) (good u i) (gather-goods f g good us i)

abbrev pub always_on : List Row → Row → Outcome Value
always_on env = condition_on always env no_subs

always_met : (env : List Row) (us vs : Bag) → met_pairs (always_on env) us vs ≡ Good (every_pair us vs)
always_met env us vs = gather-goods (λ u. gather (λ v. kept (always_on env) (u ++ v)) vs) (λ u. map (λ v. u ++ v) vs) (λ u. gather-singles (λ v. u ++ v) vs) us

pub all_pairs : (env : List Row) (left_width right_width : ℕ) (us vs : Bag) → joined_rows Inner (always_on env) left_width right_width us vs ≡ Good (every_pair us vs)
all_pairs env left_width right_width us vs =
    ap (mapped (λ pairs. pairs ++ [] ++ [])) (always_met env us vs) ∙ ap Good (append-nil (every_pair us vs ++ []) ∙ append-nil (every_pair us vs))

pub meaning-crossed : (sources : List TableSource) (db : Database) (env : List Row) → meaning (crossed sources Single) db env ≡ Good (crossed_rows db sources)
meaning-crossed [] db env = refl
meaning-crossed (source ∷ sources) db env =
    rows-with_lists _ _
    ∙ (λ i. both_then (meaning-source_query source db env i) (meaning-crossed sources db env i)
    (joined_rows Inner (always_on env) (width_of (source_query source)) (width_of (crossed sources Single))))
    ∙ all_pairs env (width_of (source_query source)) (width_of (crossed sources Single)) (source_rows db source) (crossed_rows db sources)

-- ---- the rows

-- sources over tables, with their places and what they hold
pub data Sourced (db : Database) : List Place → Rows → List TableSource → Type 0 where
  no_source : Sourced db [] [] []
  one_more : {places : List Place} {rows : Rows} {sources : List TableSource} (place : Place) (source : TableSource) →
      place.kinds ≡ kinds_in source.kinds source.places → Sourced db places rows sources →
      Sourced db (place ∷ places) (Some (held_by db source) ∷ rows) (source ∷ sources)

-- a list with an entry at each place, written out flat
abbrev pub FlatAt : List Place → Rows → Row → Type 0
FlatAt places rows u = (w : Witness) × StandAt places rows w × (flat w ≡ u)

picked-width : (source : TableSource) (a : Row) (rows : Bag) → IsIn a (map (picked source.places) rows) → length a ≡ source_width source
picked-width source a rows h =
    let from = from-map (picked source.places) a rows h in
    ap length (sym from.2) ∙ length-map source.places (value_at from.0) ∙ sym (length-map source.places (kind_in source.kinds))

pub flat-from_crossed : (db : Database) {places : List Place} {rows : Rows} {sources : List TableSource} → Sourced db places rows sources → (u : Row) →
    IsIn u (crossed_rows db sources) → FlatAt places rows u
flat-from_crossed db no_source u (inl e) = ([], tt, e)
flat-from_crossed db no_source u (inr h) = absurd h
flat-from_crossed db (one_more {sources = sources} place source same rest) u h =
    let first = from-flat_map (λ a. map (λ b. a ++ b) (crossed_rows db sources)) u (source_rows db source) h in
    let a = first.0 in
    let second = from-map (λ b. a ++ b) u (crossed_rows db sources) first.2 in
    let others = flat-from_crossed db rest second.0 second.1 in
    let e : a ++ flat others.0 ≡ u = ap (λ b. a ++ b) others.2 ∙ second.2 in
    elim (from-append a (held_by db source) (nulls (source_width source) ∷ []) first.1) [
      | inl here ↦ (
        Held a ∷ others.0,
        ((picked-width source a (db source.id) here ∙ sym (ap length same), in-member a (held_by db source) here), others.1),
        e,
      )
      | inr blank ↦ elim blank [
        | inl is ↦ (Empty (source_width source) ∷ others.0, (sym (ap length same), others.1), ap (λ row. row ++ flat others.0) is ∙ e)
        | inr none ↦ absurd none
      ]
    ]

pub crossed-from_flat : (db : Database) {places : List Place} {rows : Rows} {sources : List TableSource} → Sourced db places rows sources → (w : Witness) →
    StandAt places rows w → IsIn (flat w) (crossed_rows db sources)
crossed-from_flat db no_source [] s = inl refl
crossed-from_flat db no_source (entry ∷ entries) s = absurd s
crossed-from_flat db (one_more place source same rest) [] s = absurd s
crossed-from_flat db (one_more {sources = sources} place source same rest) (Held a ∷ entries) s =
    in-flat_map (λ a. map (λ b. a ++ b) (crossed_rows db sources)) (a ++ flat entries) a (source_rows db source)
    (in-append_left a (held_by db source) (nulls (source_width source) ∷ []) (member-in a (held_by db source) s.0.1))
    (in-map (λ b. a ++ b) (flat entries) (crossed_rows db sources) (crossed-from_flat db rest entries s.1))
crossed-from_flat db (one_more {sources = sources} place source same rest) (Empty width ∷ entries) s =
    let wide : width ≡ source_width source = s.0 ∙ ap length same in
    in-flat_map (λ a. map (λ b. a ++ b) (crossed_rows db sources)) (nulls width ++ flat entries) (nulls width) (source_rows db source)
    (in-append_right (nulls width) (held_by db source) (nulls (source_width source) ∷ []) (inl (ap nulls (sym wide))))
    (in-map (λ b. nulls width ++ b) (flat entries) (crossed_rows db sources) (crossed-from_flat db rest entries s.1))
