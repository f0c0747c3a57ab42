-- Spines of queries that the constructors of code make.
use Rattle.std.proofs.Common.{◌≡◌, ℕ, suc, ◌+◌, ◌<◌, ◌≤◌, true, false, not, ◌&&◌, ◌||◌, List, [], ◌∷◌, ◌++◌, length, drop, get_or, Option, Some, None, is_some, Result, Ok, Err, IfOk, append_assoc, append-nil, refl, sym, ap, ◌∙◌, subst, subst₂, arith}
use Rattle.std.proofs.lemmas.Bool.{and_parts, or_left}
use Rattle.std.proofs.lemmas.List.{drop_all}
use Rattle.perm_values.specs.declared.kind.Kind.{Kind}
use Rattle.perm_values.specs.declared.no_memory.NoMemory.{NoMemory}
use Rattle.bag_algebra.proofs.Rest.{from_here}
use Rattle.bag_algebra.proofs.Truths.{or_false}
use Rattle.bag_algebra.specs.built.Forms.{Filter_alone-is}
use Rattle.bag_algebra.specs.built.Openings.{row_of_subs, shape_of_subs, Filter-is, Project-is, Project_with-is}
use Rattle.bag_algebra.specs.built.Patterns.{BaseOf, FilterOf, ProjectOf, JoinOf, ApplyOf, UnionOf, IntersectOf, ExceptOf, DistinctOf, AggregateOf, LimitOf, ProvOf}
use Rattle.bag_algebra.specs.built.Scopes.{no_subs-row_of_subs}
use Rattle.bag_algebra.specs.Closed.{is_closed}
use Rattle.bag_algebra.specs.FaultFree.{fault_free, faultless, items_faultless}
use Rattle.bag_algebra.specs.Kinds.{kinds_of}
use Rattle.bag_algebra.specs.declared.expr.Expr.{Expr}
use Rattle.bag_algebra.specs.declared.expr.Item.{Item}
use Rattle.bag_algebra.specs.declared.query.Query.{Query, end_of-Sublink}
use Rattle.bag_algebra.specs.declared.query.Query.TheVariants.{Table, Single, Filter, Project}
use Rattle.bag_algebra.specs.declared.query.Sublink.{Sublink}
use Rattle.contribution.specs.ItemKinds.{column_of}
use Rattle.query_laws.specs.spines.PlacedColumns.{IsPlaced, ItemsPlaced}
use Rattle.query_laws.specs.spines.Spines.{IsSpine, IsSpineOf, closed, filtered, projected, MayFollow, is_base, is_spine, items_behind, selects, spine_over, spine_with}
use Rattle.query_laws.specs.declared.spines.spine.Spine.{Spine}

pub closed-is : (width : ℕ) (q base : Query) (items : List Item) → base ≡ q → items ≡ items_behind width (kinds_of q) → is_closed q ≡ true → fault_free q ≡ true →
    IsSpine width q (record { base = base; test = None; items = items })
closed-is width q base items e f c w =
    subst (IsSpine width q) (λ i. record { base = sym e i; test = None; items = sym f i }) (closed q c w)

pub filtered-is : (width : ℕ) (input : Query) (spine made : Spine) (condition other : Expr) → made ≡ spine_with spine other → IsPlaced spine.items condition other →
    MayFollow spine.test condition → IsSpine width input spine → IsSpine width (Filter input condition []) made
filtered-is width input spine made condition other e placed follows is =
    subst (λ q. IsSpine width q made) (sym (Filter_alone-is input condition))
    (subst (IsSpine width _) (sym e) (filtered input spine condition other is placed follows))

pub projected-is : (width : ℕ) (input : Query) (spine made : Spine) (items others : List Item) → made ≡ spine_over spine others → ItemsPlaced spine.items items others →
    items_faultless items ≡ true → IsSpine width input spine → IsSpine width (Project input items []) made
projected-is width input spine made items others e placed faultless is =
    subst (λ q. IsSpine width q made) (sym (Project-is input items))
    (subst (IsSpine width _) (sym e) (projected input spine items others is placed faultless))

-- ---- what is found

pub base-parts : (q : Query) → is_base q ≡ true → (is_closed q ≡ true) × (fault_free q ≡ true)
base-parts q e = and_parts (is_closed q) (fault_free q) e

-- a base is a spine, above which nothing is selected
base-spine : (q : Query) → is_base q ≡ true → is_spine q ≡ true
base-spine (Table id kinds) e = e
base-spine Single e = e
base-spine (BaseOf input places label) e = e
base-spine (FilterOf input condition form subs) e = or_left (is_base (FilterOf input condition form subs)) _ e
base-spine (ProjectOf input items form subs) e = or_left (is_base (ProjectOf input items form subs)) _ e
base-spine (JoinOf kind left right condition form subs) e = e
base-spine (ApplyOf kind left right) e = e
base-spine (UnionOf all left right) e = e
base-spine (IntersectOf all left right) e = e
base-spine (ExceptOf all left right) e = e
base-spine (DistinctOf input) e = e
base-spine (AggregateOf input groups aggregates) e = e
base-spine (LimitOf input keys count) e = e
base-spine (ProvOf input) e = e

base-selects : (q : Query) → is_base q ≡ true → selects q ≡ false
base-selects (Table id kinds) e = refl
base-selects Single e = refl
base-selects (BaseOf input places label) e = refl
base-selects (FilterOf input condition form subs) e = ap not e
base-selects (ProjectOf input items form subs) e = ap (λ b. not b && selects input) e
base-selects (JoinOf kind left right condition form subs) e = refl
base-selects (ApplyOf kind left right) e = refl
base-selects (UnionOf all left right) e = refl
base-selects (IntersectOf all left right) e = refl
base-selects (ExceptOf all left right) e = refl
base-selects (DistinctOf input) e = refl
base-selects (AggregateOf input groups aggregates) e = refl
base-selects (LimitOf input keys count) e = refl
base-selects (ProvOf input) e = refl

pub base-found : (width : ℕ) (q : Query) (spine : Spine) → is_base q ≡ true → IsSpine width q spine → spine.test ≡ None → IsSpineOf width q (Some spine)
base-found width q spine e is none = record {
  exact = sym (base-spine q e);
  spine = is;
  test = ap is_some none ∙ sym (base-selects q e);
}

-- nothing is found where there is no spine
pub none-found : (width : ℕ) (q : Query) → is_spine q ≡ false → IsSpineOf width q None
none-found width q e = record { exact = sym e; spine = tt; test = tt }

-- a query of another variant is a spine where it is a base
pub other-found : (width : ℕ) (q opened : Query) → q ≡ opened → is_spine opened ≡ is_base opened → is_base q ≡ false → IsSpineOf width q None
other-found width q opened is alike e = none-found width q (ap is_spine is ∙ alike ∙ ap is_base (sym is) ∙ e)

may_follow-is : (test : Option Expr) (condition : Expr) → (not (is_some test) || faultless condition) ≡ true → MayFollow test condition
may_follow-is None condition e = tt
may_follow-is (Some test) condition e = e

module _ (width : ℕ) (input : Query) (condition : Expr) (other : is_base (Filter input condition []) ≡ false) where
  abbrev opened : Query
  opened = FilterOf input condition [] end_of-Sublink

  base-is : is_base opened ≡ false
  base-is = ap is_base (sym (Filter_alone-is input condition)) ∙ other

  filter-spine : is_spine (Filter input condition []) ≡ (is_spine input && (not (selects input) || faultless condition))
  filter-spine = ap is_spine (Filter_alone-is input condition) ∙ ap (λ b. b || (is_spine input && (not (selects input) || faultless condition))) base-is

  filter-selects : selects (Filter input condition []) ≡ true
  filter-selects = ap selects (Filter_alone-is input condition) ∙ ap not base-is

  -- over no spine there is none
  pub filter-none : IsSpineOf width input None → IsSpineOf width (Filter input condition []) None
  filter-none found = none-found width (Filter input condition []) (filter-spine ∙ ap (λ b. b && (not (selects input) || faultless condition)) (sym found.exact))

  module _ (spine : Spine) (found : IsSpineOf width input (Some spine)) where
    follows-is : (not (is_some spine.test) || faultless condition) ≡ is_spine (Filter input condition [])
    follows-is =
        ap (λ b. not b || faultless condition) found.test
        ∙ sym (filter-spine ∙ ap (λ b. b && (not (selects input) || faultless condition)) (sym found.exact))

    pub filter-refused : (not (is_some spine.test) || faultless condition) ≡ false → IsSpineOf width (Filter input condition []) None
    filter-refused e = none-found width (Filter input condition []) (sym follows-is ∙ e)

    pub filter-found : (made : Spine) (placed : Expr) → made ≡ spine_with spine placed → IsPlaced spine.items condition placed →
        (not (is_some spine.test) || faultless condition) ≡ true → IsSpineOf width (Filter input condition []) (Some made)
    filter-found made placed e is follows = record {
      exact = sym (sym follows-is ∙ follows);
      spine = filtered-is width input spine made condition placed e is (may_follow-is spine.test condition follows) found.spine;
      test = ap (λ (s : Spine). is_some s.test) e ∙ sym filter-selects;
    }

module _ (width : ℕ) (input : Query) (items : List Item) (other : is_base (Project input items []) ≡ false) where
  abbrev projection : Query
  projection = ProjectOf input items [] end_of-Sublink

  projection-base : is_base projection ≡ false
  projection-base = ap is_base (sym (Project-is input items)) ∙ other

  project-spine : is_spine (Project input items []) ≡ (is_spine input && items_faultless items)
  project-spine = ap is_spine (Project-is input items) ∙ ap (λ b. b || (is_spine input && items_faultless items)) projection-base

  project-selects : selects (Project input items []) ≡ selects input
  project-selects = ap selects (Project-is input items) ∙ ap (λ b. not b && selects input) projection-base

  pub project-none : IsSpineOf width input None → IsSpineOf width (Project input items []) None
  project-none found = none-found width (Project input items []) (project-spine ∙ ap (λ b. b && items_faultless items) (sym found.exact))

  module _ (spine : Spine) (found : IsSpineOf width input (Some spine)) where
    faultless-is : items_faultless items ≡ is_spine (Project input items [])
    faultless-is = sym (project-spine ∙ ap (λ b. b && items_faultless items) (sym found.exact))

    pub project-refused : items_faultless items ≡ false → IsSpineOf width (Project input items []) None
    project-refused e = none-found width (Project input items []) (sym faultless-is ∙ e)

    pub project-found : (made : Spine) (placed : List Item) → made ≡ spine_over spine placed → ItemsPlaced spine.items items placed → items_faultless items ≡ true →
        IsSpineOf width (Project input items []) (Some made)
    project-found made placed e is faultless = record {
      exact = sym (sym faultless-is ∙ faultless);
      spine = projected-is width input spine made items placed e is faultless found.spine;
      test = ap (λ (s : Spine). is_some s.test) e ∙ found.test ∙ sym project-selects;
    }

-- with sublinks a selection or a projection is a spine where it is a base
pub filter-with_subs : (width : ℕ) (input : Query) (condition : Expr) (subs : List Sublink) → (subs ≡ [] → ⊥) → is_base (Filter input condition subs) ≡ false →
    IsSpineOf width (Filter input condition subs) None
filter-with_subs width input condition [] some e = absurd (some refl)
filter-with_subs width input condition (sub ∷ subs) some e =
    other-found width (Filter input condition (sub ∷ subs)) (FilterOf input condition (shape_of_subs (sub ∷ subs)) (row_of_subs (sub ∷ subs))) (Filter-is input condition (sub ∷ subs))
    (ap (λ b. is_base (FilterOf input condition (shape_of_subs (sub ∷ subs)) (row_of_subs (sub ∷ subs))) || (b && (is_spine input && (not (selects input) || faultless condition))))
    (no_subs-row_of_subs (sub ∷ subs)) ∙ or_false (is_base (FilterOf input condition (shape_of_subs (sub ∷ subs)) (row_of_subs (sub ∷ subs))))) e

pub project-with_subs : (width : ℕ) (input : Query) (items : List Item) (subs : List Sublink) → (subs ≡ [] → ⊥) → is_base (Project input items subs) ≡ false →
    IsSpineOf width (Project input items subs) None
project-with_subs width input items [] some e = absurd (some refl)
project-with_subs width input items (sub ∷ subs) some e =
    other-found width (Project input items (sub ∷ subs)) (ProjectOf input items (shape_of_subs (sub ∷ subs)) (row_of_subs (sub ∷ subs))) (Project_with-is input items (sub ∷ subs))
    (ap (λ b. is_base (ProjectOf input items (shape_of_subs (sub ∷ subs)) (row_of_subs (sub ∷ subs))) || (b && (is_spine input && items_faultless items)))
    (no_subs-row_of_subs (sub ∷ subs)) ∙ or_false (is_base (ProjectOf input items (shape_of_subs (sub ∷ subs)) (row_of_subs (sub ∷ subs))))) e

-- what is found of a node over what was found of its input
pub step-found : (node : Query → Query) (width : ℕ) (q input below : Query) (under : Option Spine) (spine : Spine) (result : Result (Option Spine) NoMemory) →
    q ≡ node input → is_base q ≡ false → below ≡ input → under ≡ Some spine → IsSpineOf width below under →
    IfOk result (λ found. (width : ℕ) (input : Query) → is_base (node input) ≡ false → IsSpineOf width input (Some spine) → IsSpineOf width (node input) found) →
    IfOk result (λ found. IsSpineOf width q found)
step-found node width q input below under spine (Ok found) is other e some given step =
    subst (λ n. IsSpineOf width n found) (sym is) (step width input (ap is_base (sym is) ∙ other) (subst₂ (λ n f. IsSpineOf width n f) e some given))
step-found node width q input below under spine (Err error) is other e some given step = tt

pub step-none : (node : Query → Query) (width : ℕ) (q input below : Query) (under : Option Spine) →
    (is_base (node input) ≡ false → IsSpineOf width input None → IsSpineOf width (node input) None) →
    q ≡ node input → is_base q ≡ false → below ≡ input → under ≡ None → IsSpineOf width below under → IsSpineOf width q None
step-none node width q input below under kept is other e lacking given =
    subst (λ n. IsSpineOf width n None) (sym is) (kept (ap is_base (sym is) ∙ other) (subst₂ (λ n f. IsSpineOf width n f) e lacking given))

-- ---- a loop that makes columns

pub behind-next : (made more : List Item) (place next at : ℕ) (kinds : List Kind) (kind : Kind) (whole : List Item) → at < length kinds → kind ≡ get_or kinds at kind →
    next ≡ place + 1 → more ≡ made ++ column_of kind place ∷ [] → made ++ items_behind place (drop at kinds) ≡ whole → more ++ items_behind next (drop (at + 1) kinds) ≡ whole
behind-next made more place next at kinds kind whole within is step added so_far =
    let further : next ≡ suc place = omega (arith, step) in
    (λ i. added i ++ items_behind (further i) (drop (at + 1) kinds))
    ∙ append_assoc made (column_of kind place ∷ []) (items_behind (suc place) (drop (at + 1) kinds))
    ∙ ap (λ items. made ++ items) (sym (from_here (items_behind place) kinds at kind within is))
    ∙ so_far

pub behind-done : (made : List Item) (place at : ℕ) (kinds : List Kind) (whole : List Item) → length kinds ≤ at → made ++ items_behind place (drop at kinds) ≡ whole → made ≡ whole
behind-done made place at kinds whole far so_far = sym (append-nil made) ∙ ap (λ rest. made ++ items_behind place rest) (sym (drop_all at kinds far)) ∙ so_far
