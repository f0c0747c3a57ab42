-- Over closed queries that have the columns of its tables a query is well formed where it was.
use Rattle.std.proofs.Common.{◌≡◌, ℕ, List, [], ◌∷◌, ◌++◌, length, sym, ◌∙◌, subst, subst₂}
use Rattle.perm_values.specs.Rows.{KeysWithin, PlacesWithin}
use Rattle.perm_values.specs.declared.kind.Kind.{Kind}
use Rattle.perm_values.specs.declared.kind.Kind.TheVariants.{Boolean}
use Rattle.bag_algebra.specs.Kinds.{kinds_of}
use Rattle.bag_algebra.specs.TablesRead.{EachTable, EachSubTable}
use Rattle.bag_algebra.specs.WellFormed.{WellFormed, SubsForm, HasKind, ItemsForm, AggregatesForm, sub_form}
use Rattle.bag_algebra.specs.built.Patterns.{BaseOf, FilterOf, ProjectOf, JoinOf, ApplyOf, UnionOf, IntersectOf, ExceptOf, DistinctOf, AggregateOf, LimitOf, ProvOf}
use Rattle.bag_algebra.specs.declared.query.Query.{Query, Row_of-Sublink, more_of-Sublink, end_of-Sublink}
use Rattle.bag_algebra.specs.declared.query.Query.TheVariants.{Table, Single}
use Rattle.contribution.specs.Longer.{more_lists}
use Rattle.contribution.proofs.LongerKinds.{well_formed-longer, longer-names}
use Rattle.query_laws.specs.replaced.OverQueries.{over_queries, sub_over_queries}
use Rattle.query_laws.proofs.KeptColumns.{Columns, SubColumns, kinds-over, sub_kinds-over}

-- what stands for each table is closed
abbrev Closed : (ℕ → List Kind → Query) → Query → Type 0
Closed at q = EachTable (λ id kinds. WellFormed [] (at id kinds)) q

abbrev SubClosed : (ℕ → List Kind → Query) → {m : _} → Row_of-Sublink m → Type 0
SubClosed at subs = EachSubTable (λ id kinds. WellFormed [] (at id kinds)) subs

module _ (at : ℕ → List Kind → Query) where
  same_kinds-over : (left right : Query) → Columns at left → Columns at right → kinds_of left ≡ kinds_of right →
      kinds_of (over_queries at left) ≡ kinds_of (over_queries at right)
  same_kinds-over left right h k e = kinds-over at left h ∙ e ∙ sym (kinds-over at right k)

  mutual
    pub formed-over : (q : Query) (outer : List (List Kind)) → Columns at q → Closed at q → WellFormed outer q → WellFormed outer (over_queries at q)
    formed-over (Table id kinds) outer h c f = well_formed-longer (at id kinds) [] outer (longer-names (more_lists outer)) c
    formed-over Single outer h c f = f
    formed-over (BaseOf input places label) outer h c f = record {
      input = formed-over input outer h c f.input;
      in_range = subst (λ kinds. PlacesWithin (length kinds) places) (sym (kinds-over at input h)) f.in_range;
      named = f.named;
    }
    formed-over (FilterOf input condition _ subs) outer h c f =
        let e = sym (kinds-over at input h.0) in record {
          input = formed-over input outer h.0 c.0 f.input;
          subs = subst (λ kinds. SubsForm (kinds ∷ outer) (sub_over_queries at subs)) e (subs_formed-over subs (kinds_of input ∷ outer) h.1 c.1 f.subs);
          condition = subst₂ (λ kinds of_subs. HasKind (kinds ∷ outer) of_subs condition Boolean) e (sym (sub_kinds-over at subs h.1)) f.condition;
        }
    formed-over (ProjectOf input items _ subs) outer h c f =
        let e = sym (kinds-over at input h.0) in record {
          input = formed-over input outer h.0 c.0 f.input;
          subs = subst (λ kinds. SubsForm (kinds ∷ outer) (sub_over_queries at subs)) e (subs_formed-over subs (kinds_of input ∷ outer) h.1 c.1 f.subs);
          items = subst₂ (λ kinds of_subs. ItemsForm (kinds ∷ outer) of_subs items) e (sym (sub_kinds-over at subs h.1)) f.items;
        }
    formed-over (JoinOf kind left right condition _ subs) outer h c f =
        let both = kinds_of left ++ kinds_of right in
        let e : both ≡ kinds_of (over_queries at left) ++ kinds_of (over_queries at right) =
        sym (λ i. kinds-over at left h.0 i ++ kinds-over at right h.1 i) in record {
          left = formed-over left outer h.0 c.0 f.left;
          right = formed-over right outer h.1 c.1 f.right;
          subs = subst (λ kinds. SubsForm (kinds ∷ outer) (sub_over_queries at subs)) e (subs_formed-over subs (both ∷ outer) h.2 c.2 f.subs);
          condition = subst₂ (λ kinds of_subs. HasKind (kinds ∷ outer) of_subs condition Boolean) e (sym (sub_kinds-over at subs h.2)) f.condition;
        }
    formed-over (ApplyOf kind left right) outer h c f = record {
      left = formed-over left outer h.0 c.0 f.left;
      right = subst (λ kinds. WellFormed (kinds ∷ outer) (over_queries at right)) (sym (kinds-over at left h.0))
          (formed-over right (kinds_of left ∷ outer) h.1 c.1 f.right);
      dependent = f.dependent;
    }
    formed-over (UnionOf all left right) outer h c f = record {
      left_side = formed-over left outer h.0 c.0 f.left_side;
      right_side = formed-over right outer h.1 c.1 f.right_side;
      same_kinds = same_kinds-over left right h.0 h.1 f.same_kinds;
    }
    formed-over (IntersectOf all left right) outer h c f = record {
      left_side = formed-over left outer h.0 c.0 f.left_side;
      right_side = formed-over right outer h.1 c.1 f.right_side;
      same_kinds = same_kinds-over left right h.0 h.1 f.same_kinds;
    }
    formed-over (ExceptOf all left right) outer h c f = record {
      left_side = formed-over left outer h.0 c.0 f.left_side;
      right_side = formed-over right outer h.1 c.1 f.right_side;
      same_kinds = same_kinds-over left right h.0 h.1 f.same_kinds;
    }
    formed-over (DistinctOf input) outer h c f = formed-over input outer h c f
    formed-over (AggregateOf input groups aggregates) outer h c f =
        let e = sym (kinds-over at input h) in record {
          input = formed-over input outer h c f.input;
          groups = subst (λ kinds. PlacesWithin (length kinds) groups) e f.groups;
          aggregates = subst (λ kinds. AggregatesForm (kinds ∷ outer) aggregates) e f.aggregates;
        }
    formed-over (LimitOf input keys count) outer h c f = record {
      input = formed-over input outer h c f.input;
      keys = subst (λ kinds. KeysWithin (length kinds) keys) (sym (kinds-over at input h)) f.keys;
      bound = f.bound;
    }
    formed-over (ProvOf input) outer h c f = formed-over input outer h c f

    pub subs_formed-over : {m : _} (subs : Row_of-Sublink m) (scopes : List (List Kind)) → SubColumns at subs → SubClosed at subs → SubsForm scopes subs →
        SubsForm scopes (sub_over_queries at subs)
    subs_formed-over end_of-Sublink scopes h c f = f
    subs_formed-over (more_of-Sublink kind tested query subs) scopes h c f = record {
      query = formed-over query scopes h.0 c.0 f.query;
      fitting = subst (sub_form kind tested scopes) (sym (kinds-over at query h.0)) f.fitting;
      others = subs_formed-over subs scopes h.1 c.1 f.others;
    }
