-- A place has as many names as columns, and so have all places of a well formed query.
use Rattle.std.specs.Prelude.{◌≡◌, ◌+◌, ℕ, List, [], ◌∷◌, ◌++◌, length}
use Rattle.std.proofs.Common.{refl, sym, ◌∙◌}
use Rattle.std.proofs.lemmas.List.{length-append, length-map}
use Rattle.perm_values.specs.declared.kind.Kind.{Kind}
use Rattle.bag_algebra.specs.Kinds.{kinds_of, kinds_in, kind_in, shape, sub_shape, place_kinds}
use Rattle.bag_algebra.specs.built.Patterns.{BaseOf, FilterOf, ProjectOf, JoinOf, ApplyOf, UnionOf, IntersectOf, ExceptOf, DistinctOf, AggregateOf, LimitOf, ProvOf}
use Rattle.bag_algebra.specs.PlaceNames.{label_names, names_behind, place_names, relations_of}
use Rattle.bag_algebra.specs.WellFormed.{WellFormed, SubsForm, label_width}
use Rattle.bag_algebra.specs.declared.place.Place.{Place}
use Rattle.bag_algebra.specs.declared.query.Label.{Label}
use Rattle.bag_algebra.specs.declared.query.Label.TheVariants.{Relation, External}
use Rattle.bag_algebra.specs.declared.query.Query.{Query, Row_of-Sublink, more_of-Sublink, end_of-Sublink}
use Rattle.bag_algebra.specs.declared.query.Query.TheVariants.{Table, Single}
use Rattle.contribution.proofs.WhereGood.{Every, every-append}

abbrev pub IsNamed : Place → Type 0
IsNamed place = label_width place.label ≡ length place.kinds

abbrev pub AreNamed : List Place → Type 0
AreNamed places = Every IsNamed places

length-label_names : (earlier : List (List ℕ)) (label : Label) → length (label_names earlier label) ≡ label_width label
length-label_names earlier (Relation name columns) = length-map columns _
length-label_names earlier (External columns) = refl

length-names_behind : (earlier : List (List ℕ)) (places : List Place) → AreNamed places → length (names_behind earlier places) ≡ length (place_kinds places)
length-names_behind earlier [] named = refl
length-names_behind earlier (place ∷ places) named =
    let behind = names_behind (earlier ++ relations_of place) places in
    length-append (label_names earlier place.label) behind
    ∙ (λ i. (length-label_names earlier place.label ∙ named.0) i + length-names_behind (earlier ++ relations_of place) places named.1 i)
    ∙ sym (length-append place.kinds (place_kinds places))

pub length-place_names : (places : List Place) → AreNamed places → length (place_names places) ≡ length (place_kinds places)
length-place_names places named = length-names_behind [] places named

pub named-base : (input : Query) (places : List ℕ) (label : Label) → label_width label ≡ length places
    → IsNamed (record { label = label; kinds = kinds_in (kinds_of input) places })
named-base input places label e = e ∙ sym (length-map places (kind_in (kinds_of input)))

mutual
  pub named-formed : (q : Query) (outer : List (List Kind)) → WellFormed outer q → AreNamed (shape q)
  named-formed (Table id kinds) outer f = tt
  named-formed Single outer f = tt
  named-formed (BaseOf input places label) outer f = (named-base input places label f.named, tt)
  named-formed (FilterOf input condition _ subs) outer f =
      every-append IsNamed (shape input) (sub_shape subs) (named-formed input outer f.input) (named-subs subs (kinds_of input ∷ outer) f.subs)
  named-formed (ProjectOf input items _ subs) outer f =
      every-append IsNamed (shape input) (sub_shape subs) (named-formed input outer f.input) (named-subs subs (kinds_of input ∷ outer) f.subs)
  named-formed (JoinOf kind left right condition _ subs) outer f =
      every-append IsNamed (shape left ++ shape right) (sub_shape subs)
      (every-append IsNamed (shape left) (shape right) (named-formed left outer f.left) (named-formed right outer f.right))
      (named-subs subs ((kinds_of left ++ kinds_of right) ∷ outer) f.subs)
  named-formed (ApplyOf kind left right) outer f =
      every-append IsNamed (shape left) (shape right) (named-formed left outer f.left) (named-formed right (kinds_of left ∷ outer) f.right)
  named-formed (UnionOf all left right) outer f =
      every-append IsNamed (shape left) (shape right) (named-formed left outer f.left_side) (named-formed right outer f.right_side)
  named-formed (IntersectOf all left right) outer f =
      every-append IsNamed (shape left) (shape right) (named-formed left outer f.left_side) (named-formed right outer f.right_side)
  named-formed (ExceptOf all left right) outer f =
      every-append IsNamed (shape left) (shape right) (named-formed left outer f.left_side) (named-formed right outer f.right_side)
  named-formed (DistinctOf input) outer f = named-formed input outer f
  named-formed (AggregateOf input groups aggregates) outer f = named-formed input outer f.input
  named-formed (LimitOf input keys count) outer f = named-formed input outer f.input
  named-formed (ProvOf input) outer f = tt

  named-subs : {m : _} (subs : Row_of-Sublink m) (scopes : List (List Kind)) → SubsForm scopes subs → AreNamed (sub_shape subs)
  named-subs end_of-Sublink scopes f = tt
  named-subs (more_of-Sublink kind tested query subs) scopes f =
      every-append IsNamed (shape query) (sub_shape subs) (named-formed query scopes f.query) (named-subs subs scopes f.others)
