-- The columns of provenance of a rewriting, or of some of its rows.
use Rattle.std.proofs.Common.{◌≡◌, ℕ, Bool, List, [], ◌++◌, map, filter, length, Contains, refl, sym, ap, ◌∙◌, subst, arith}
use Rattle.perm_values.specs.Rows.{picked}
use Rattle.perm_values.specs.declared.kind.Kind.{Kind}
use Rattle.perm_values.specs.declared.value.Value.{Value}
use Rattle.perm_values.specs.declared.value.Value.TheVariants.{Null}
use Rattle.bag_algebra.proofs.Members.{IsIn, in-map, from-map, in-filter, from-filter}
use Rattle.bag_algebra.specs.Bags.{Row, Bag}
use Rattle.bag_algebra.specs.ColumnItems.{column_items}
use Rattle.bag_algebra.specs.Kinds.{kinds_of, kinds_in, width_of}
use Rattle.bag_algebra.specs.Means.{Witness, flat}
use Rattle.bag_algebra.specs.Rewriting.{is_plain}
use Rattle.bag_algebra.specs.WellFormed.{WellFormed}
use Rattle.bag_algebra.specs.declared.query.Query.{Query}
use Rattle.bag_algebra.specs.declared.query.SubKind.{SubKind}
use Rattle.contribution.proofs.ColumnQueries.{kinds_of-columns, formed-columns}
use Rattle.contribution.proofs.NodeQueries.{plain-projected}
use Rattle.rewrite_core.proofs.FlatRows.{flattened}
use Rattle.rewrite_core.proofs.KeptRows.{kept-kinds}
use Rattle.rewrite_core.proofs.Places.{at-kept, kept-within}
use Rattle.rewrite_core.specs.rewritings.KeptColumns.{kept_places}
use Rattle.rewrite_core.specs.rewritings.Rewritten.{Beside}
use Rattle.lateral_rewrite.proofs.RightRows.{ChosenLists, is_chosen}
use Rattle.lateral_rewrite.specs.Dependent.{provenance_of}

module _ (q : Query) (own : ℕ) where
  abbrev places : List ℕ
  places = kept_places 0 own (width_of q)

  pub kinds-provenance : (first added : List Kind) → kinds_of q ≡ first ++ added → length first ≡ own → kinds_of (provenance_of q own) ≡ added
  kinds-provenance first added e wide =
      kinds_of-columns q places ∙ ap (λ ks. kinds_in ks (kept_places 0 own (length ks))) e ∙ kept-kinds [] first added 0 own refl wide

  pub formed-provenance : (outer : List (List Kind)) → WellFormed outer q → WellFormed outer (provenance_of q own)
  formed-provenance outer w = formed-columns q places (kept-within 0 own (width_of q) (omega arith)) outer w

  pub plain-provenance : is_plain (provenance_of q own) ≡ is_plain q
  plain-provenance = plain-projected q (column_items (kinds_of q) places)

-- of the rows rs beside the lists of vs, those that pass, without their own columns
module _ (kind : SubKind) (x : Value) (vs rs : Bag) (lists : Row → List Witness) (b : Beside lists vs rs) (own all : ℕ)
    (wide : (row : Row) → IsIn row vs → length row ≡ own)
    (whole : (row : Row) (w : Witness) → IsIn row vs → Contains (lists row) w → length (row ++ flat w) ≡ all)
    (passes : Row → Bool)
    (agree : (row : Row) (w : Witness) → IsIn row vs → Contains (lists row) w → passes (row ++ flat w) ≡ is_chosen kind x vs row) where
  abbrev move : Row → Row
  move = picked (kept_places 0 own all)

  moved : (row : Row) (w : Witness) → IsIn row vs → Contains (lists row) w → move (row ++ flat w) ≡ flat w
  moved row w h c = at-kept Null [] row (flat w) 0 own all refl (wide row h) (whole row w h c)

  pub chosen-lists : ChosenLists kind x vs lists (map move (filter passes rs))
  chosen-lists = record {
    there = λ row w h e c.
        subst (λ k. IsIn k (map move (filter passes rs))) (moved row w h c)
        (in-map move (row ++ flat w) (filter passes rs)
        (in-filter passes (row ++ flat w) rs ((flattened lists vs rs b).there row w h c) (agree row w h c ∙ e)));
    back = λ k h.
        let from = from-map move k (filter passes rs) h in
        let found = from-filter passes from.0 rs from.1 in
        let row = (flattened lists vs rs b).back from.0 found.0 in (
          row.0,
          row.1,
          row.2,
          sym (agree row.0 row.1 row.2 row.3) ∙ ap passes row.4 ∙ found.1,
          row.3,
          sym (moved row.0 row.1 row.2 row.3) ∙ ap move row.4 ∙ from.2,
        );
  }
