-- The rows of a grouped core have its GROUP BY columns and then its aggregates.
use Rattle.std.specs.Prelude.{◌≡◌, ℕ, zero, suc, ◌+◌, ◌<◌, List, [], ◌∷◌, ◌++◌, filter_map, length, nat_eq, position, slice_get, Option, Some, None, option_map}
use Rattle.std.proofs.Common.{refl, ap, sym, ◌∙◌, subst, arith, eqb-true}
use Rattle.std.proofs.lemmas.List.{length-map}
use Rattle.std.specs.List.{cons_option}
use Rattle.std.proofs.lemmas.List.Elements.{All-nil, All-cons}
use Rattle.std.proofs.lemmas.List.Quantifiers.{position-Some}
use Rattle.std.proofs.lemmas.Option.{none-some, slice_get-map, slice_get_within, slice_get-get_or, get_or_from_slice_get}
use Rattle.perm_values.specs.Rows.{PlacesWithin}
use Rattle.perm_values.specs.declared.kind.Kind.{Kind}
use Rattle.perm_values.specs.declared.kind.Kind.TheVariants.{Text}
use Rattle.bag_algebra.specs.Kinds.{kind_in, kinds_in, aggregate_kinds}
use Rattle.bag_algebra.specs.WellFormed.{column_kind}
use Rattle.bag_algebra.specs.declared.query.Aggr.{Aggr}
use Rattle.sql_tree.specs.declared.name.ColRef.{ColRef}
use Rattle.contribution.proofs.LongerKinds.{slice_get-longer}
use Rattle.name_meaning.specs.Cores.{group_found, group_place}
use Rattle.name_meaning.specs.declared.scope.Found.{Found}
use Rattle.name_meaning.specs.declared.scope.Found.TheVariants.{Absent as absent, Ambiguous as ambiguous, Column as found}
use Rattle.name_meaning.specs.declared.scope.Scope.{Scope}
use Rattle.name_meaning.specs.laws.Standing.{StandAt, HoldsScope, AggregatesStand}
use Rattle.name_meaning.proofs.FoundColumns.{look_up-kind}
use Rattle.name_meaning.proofs.Standing.{stand-behind}

-- ---- GROUP BY columns are columns of the core

in-one_row : (row : List Kind) (level place : ℕ) (kind : Kind) → column_kind (row ∷ []) level place ≡ Some kind → place < length row
in-one_row row zero place kind e = slice_get_within row place kind e
in-one_row row (suc level) place kind e = absurd (none-some kind e)

group_place-in : (own : Scope) (row : List Kind) (reference : ColRef) (place : ℕ) → HoldsScope own row → group_place own reference ≡ Some place
    → place < length row
group_place-in own row reference place hold e = chosen (group_found own reference) refl e where
  chosen : (is : Found) → group_found own reference ≡ is
      → elim is [ absent ↦ None | ambiguous ↦ None | found column ↦ column.place ] ≡ Some place → place < length row
  chosen absent f g = absurd (none-some place g)
  chosen ambiguous f g = absurd (none-some place g)
  chosen (found column) f g =
      in-one_row row column.level place column.kind (look_up-kind (own ∷ []) (row ∷ []) reference column place f g (hold, tt))

pub groups-in : (own : Scope) (row : List Kind) (groups : List ColRef) → HoldsScope own row → PlacesWithin (length row) (filter_map (group_place own) groups)
groups-in own row [] hold = All-nil _
groups-in own row (group ∷ groups) hold = chosen (group_place own group) refl (groups-in own row groups hold) where
  chosen : (place : Option ℕ) → group_place own group ≡ place → PlacesWithin (length row) (filter_map (group_place own) groups)
      → PlacesWithin (length row) (cons_option place (filter_map (group_place own) groups))
  chosen None e rest = rest
  chosen (Some place) e rest = All-cons (λ (place : ℕ). place < length row) place (filter_map (group_place own) groups)
      (group_place-in own row group place hold e) rest

-- ---- the rows of groups

group-kind : (row : List Kind) (groups : List ℕ) (place at : ℕ) (kind : Kind) → slice_get row place ≡ Some kind → position (nat_eq place) groups ≡ Some at
    → slice_get (kinds_in row groups) at ≡ Some kind
group-kind row groups place at kind e is =
    let there = position-Some (nat_eq place) groups at place is in
    let here : place ≡ _ = eqb-true place _ there.1 in
    slice_get-map (kind_in row) groups at
    ∙ ap (option_map (kind_in row)) (slice_get-get_or groups at place there.0 ∙ ap Some (sym here))
    ∙ ap Some (get_or_from_slice_get row place kind Text e)

pub grouped-holds : (own : Scope) (row more : List Kind) (groups : List ℕ) → HoldsScope (record own { groups = None }) row
    → HoldsScope (record own { groups = Some groups }) (kinds_in row groups ++ more)
grouped-holds own row more groups hold place at column is there =
    slice_get-longer (kinds_in row groups) more at column.kind (group-kind row groups place at column.kind (hold place place column is refl) there)

pub grouped-stand : (own : Scope) (outer : List Scope) (row : List Kind) (rows : List (List Kind)) (groups : List ℕ) (aggregates : List Aggr)
    → AggregatesStand (record own { groups = Some groups } ∷ outer) 0 aggregates ((kinds_in row groups ++ aggregate_kinds aggregates) ∷ rows)
grouped-stand own outer row rows groups aggregates =
    let l = length-map groups (kind_in row) in
    let e : length (kinds_in row groups) ≡ length groups + 0 = omega (arith, l) in
    subst (λ n. StandAt n (aggregate_kinds aggregates) (kinds_in row groups ++ aggregate_kinds aggregates)) e
    (stand-behind (kinds_in row groups) (aggregate_kinds aggregates))
