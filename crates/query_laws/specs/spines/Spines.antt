-- Right sides of dependent joins that ordinary joins serve: a tower of selections and projections without sublinks over a
-- query that reads no outer row and meets no fault.
use Rattle.std.specs.Prelude.{◌≡◌, ⊤, ℕ, suc, Bool, true, false, not, ◌&&◌, ◌||◌, ◌==◌, nat_le, is_some, IfSome, List, [], ◌∷◌, ◌++◌, Option, Some, None}
use Rattle.std.specs.List.{list_all}
use Rattle.null_logic.specs.declared.operator.Operator.TheVariants.{And}
use Rattle.perm_values.specs.declared.kind.Kind.{Kind}
use Rattle.bag_algebra.specs.Bags.{Row}
use Rattle.bag_algebra.specs.Closed.{is_closed}
use Rattle.bag_algebra.specs.FaultFree.{faultless, items_faultless, fault_free}
use Rattle.bag_algebra.specs.Kinds.{kinds_of, width_of}
use Rattle.bag_algebra.specs.Meaning.{Database, meaning}
use Rattle.bag_algebra.specs.Means.{keeps_left}
use Rattle.bag_algebra.specs.Rewriting.{SameRows, is_plain}
use Rattle.bag_algebra.specs.Scoped.{no_subs as has_none}
use Rattle.bag_algebra.specs.TablesRead.{ReadsAmong}
use Rattle.bag_algebra.specs.WellFormed.{WellFormed}
use Rattle.bag_algebra.specs.built.Patterns.{OpOf, ChainOf, CaseOf, IsNullOf, IsTruthOf, SameOf, BaseOf, FilterOf, ProjectOf, JoinOf, ApplyOf, UnionOf, IntersectOf, ExceptOf, DistinctOf, AggregateOf, LimitOf, ProvOf}
use Rattle.bag_algebra.specs.declared.expr.Expr.{Expr}
use Rattle.bag_algebra.specs.declared.expr.Expr.TheVariants.{Col, Lit, Op, Sub}
use Rattle.bag_algebra.specs.declared.expr.Item.{Item}
use Rattle.bag_algebra.specs.declared.query.JoinKind.{JoinKind}
use Rattle.bag_algebra.specs.declared.query.JoinKind.TheVariants.{Left}
use Rattle.bag_algebra.specs.declared.query.Query.{Query, end_of-Sublink}
use Rattle.bag_algebra.specs.declared.query.Query.TheVariants.{Table, Single}
use Rattle.contribution.specs.Conjunctions.{condition_or_true}
use Rattle.contribution.specs.Fitting.{Fitting}
use Rattle.contribution.specs.ItemKinds.{column_of}
use Rattle.query_laws.specs.spines.PlacedColumns.{IsPlaced, ItemsPlaced}
use Rattle.query_laws.specs.declared.spines.spine.Spine.{Spine}

-- the columns of a row of these kinds that stand behind so many others
abbrev pub items_behind : ℕ → List Kind → List Item
items_behind before [] = []
items_behind before (kind ∷ kinds) = column_of kind before ∷ items_behind (suc before) kinds

-- a test and one more
abbrev pub tests_with : Option Expr → Expr → Expr
tests_with None other = other
tests_with (Some test) other = Op And (test ∷ other ∷ [])

-- the spine with a test more, and with other items in the place of its own
abbrev pub spine_with : Spine → Expr → Spine
spine_with spine other = record { base = spine.base; test = Some (tests_with spine.test other); items = spine.items }

abbrev pub spine_over : Spine → List Item → Spine
spine_over spine items = record { base = spine.base; test = spine.test; items = items }

-- above a test a condition is looked at only where that is true, and in a join on every pair, so it has to be free of faults
abbrev pub MayFollow : Option Expr → Expr → Type 0
MayFollow None condition = ⊤
MayFollow (Some test) condition = faultless condition ≡ true

-- The query is this spine beside rows of so many columns: each row of it, under one of these rows, is what the items make of
-- that row and a row of the base on which the test is true.
pub data IsSpine (width : ℕ) : Query → Spine → Type 0 where
  closed : (q : Query) → is_closed q ≡ true → fault_free q ≡ true →
      IsSpine width q (record { base = q; test = None; items = items_behind width (kinds_of q) })
  filtered : (input : Query) (spine : Spine) (condition placed : Expr) → IsSpine width input spine →
      IsPlaced spine.items condition placed → MayFollow spine.test condition →
      IsSpine width (FilterOf input condition [] end_of-Sublink) (spine_with spine placed)
  projected : (input : Query) (spine : Spine) (items placed : List Item) → IsSpine width input spine →
      ItemsPlaced spine.items items placed → items_faultless items ≡ true →
      IsSpine width (ProjectOf input items [] end_of-Sublink) (spine_over spine placed)

-- ---- which queries are found to be spines

-- the query reads no outer row and meets no fault
abbrev pub is_base : Query → Bool
is_base q = is_closed q && fault_free q

-- a selection stands above the base
abbrev pub selects : Query → Bool
selects (Table id kinds) = false
selects Single = false
selects (BaseOf input places label) = false
selects (FilterOf input condition form subs) = not (is_base (FilterOf input condition form subs))
selects (ProjectOf input items form subs) = not (is_base (ProjectOf input items form subs)) && selects input
selects (JoinOf kind left right condition form subs) = false
selects (ApplyOf kind left right) = false
selects (UnionOf all left right) = false
selects (IntersectOf all left right) = false
selects (ExceptOf all left right) = false
selects (DistinctOf input) = false
selects (AggregateOf input groups aggregates) = false
selects (LimitOf input keys count) = false
selects (ProvOf input) = false

-- Bases are, and over what is one: projections without sublinks that can't fault, and selections without sublinks, which can't fault either
-- where a selection stands below. Above a LIMIT, and above whatever else isn't a base, there is none.
abbrev pub is_spine : Query → Bool
is_spine (Table id kinds) = is_base (Table id kinds)
is_spine Single = is_base Single
is_spine (BaseOf input places label) = is_base (BaseOf input places label)
is_spine (FilterOf input condition form subs) =
    is_base (FilterOf input condition form subs) || (has_none subs && (is_spine input && (not (selects input) || faultless condition)))
is_spine (ProjectOf input items form subs) = is_base (ProjectOf input items form subs) || (has_none subs && (is_spine input && items_faultless items))
is_spine (JoinOf kind left right condition form subs) = is_base (JoinOf kind left right condition form subs)
is_spine (ApplyOf kind left right) = is_base (ApplyOf kind left right)
is_spine (UnionOf all left right) = is_base (UnionOf all left right)
is_spine (IntersectOf all left right) = is_base (IntersectOf all left right)
is_spine (ExceptOf all left right) = is_base (ExceptOf all left right)
is_spine (DistinctOf input) = is_base (DistinctOf input)
is_spine (AggregateOf input groups aggregates) = is_base (AggregateOf input groups aggregates)
is_spine (LimitOf input keys count) = is_base (LimitOf input keys count)
is_spine (ProvOf input) = is_base (ProvOf input)

-- what is found of a query beside rows of so many columns: a spine of it exactly where it is one, with a test where a selection stands
-- above the base
pub record IsSpineOf (width : ℕ) (q : Query) (found : Option Spine) : Type 0 where
  pub exact : is_some found ≡ is_spine q
  pub spine : IfSome found (λ spine. IsSpine width q spine)
  pub test : IfSome found (λ (spine : Spine). is_some spine.test ≡ selects q)

-- a column behind so many others
abbrev pub is_behind : ℕ → Expr → Bool
is_behind width (Col level place) = (level == 0) && nat_le width place
is_behind width (Lit v kind) = false
is_behind width (OpOf op _ parts) = false
is_behind width (ChainOf first _ steps) = false
is_behind width (CaseOf _ arms otherwise) = false
is_behind width (Sub number) = false
is_behind width (IsNullOf part) = false
is_behind width (IsTruthOf truth part) = false
is_behind width (SameOf first second) = false

-- beside a row that meets no other the items have to be NULL, as columns of the base are
abbrev pub all_behind : ℕ → List Item → Bool
all_behind width items = list_all (λ (item : Item). is_behind width item.expr) items

abbrev pub Suits : JoinKind → ℕ → List Item → Type 0
Suits kind width items = keeps_left kind ≡ true → all_behind width items ≡ true

-- the rows of the left query, each beside what the items make of it and a row of the base
abbrev pub spine_join : JoinKind → Query → Spine → Query
spine_join kind left spine =
    ProjectOf (JoinOf kind left spine.base (condition_or_true spine.test) [] end_of-Sublink)
    (items_behind 0 (kinds_of left) ++ spine.items) [] end_of-Sublink

-- p is what the dependent join of the rows with the right query is that keeps left rows: of the same columns, plain where both
-- are, over their tables alone, well formed where that join is, and with the same rows or faults whatever fits that
pub record IsBeside (rows right p : Query) : Type 0 where
  pub kinds : kinds_of p ≡ kinds_of rows ++ kinds_of right
  pub plain : is_plain p ≡ (is_plain rows && is_plain right)
  pub tables : ReadsAmong p (ApplyOf Left rows right)
  pub formed : (outer : List (List Kind)) → WellFormed outer (ApplyOf Left rows right) → WellFormed outer p
  pub same : (outer : List (List Kind)) (db : Database) (env : List Row) → Fitting outer (ApplyOf Left rows right) db env →
      SameRows (meaning (ApplyOf Left rows right) db env) (meaning p db env)

-- p is the dependent join of the rows with the right query that keeps left rows, or the ordinary one with the base of a spine that the right
-- query is
pub data IsJoined (rows right : Query) : Query → Type 0 where
  dependent : IsJoined rows right (ApplyOf Left rows right)
  ordinary : (spine : Spine) → IsSpine (width_of rows) right spine → IsJoined rows right (spine_join Left rows spine)
