-- What is well formed under some outer kinds is well formed under outer kinds that name the same columns and more.
use Rattle.std.proofs.Common.{◌≡◌, ℕ, zero, suc, List, [], ◌∷◌, ◌++◌, slice_get, All, Option, Some, None}
use Rattle.perm_values.specs.declared.kind.Kind.{Kind}
use Rattle.perm_values.specs.declared.kind.Kind.TheVariants.{Integer, Boolean}
use Rattle.bag_algebra.specs.Kinds.{kinds_of}
use Rattle.bag_algebra.specs.built.Patterns.{OpOf, ChainOf, CaseOf, IsNullOf, IsTruthOf, SameOf, BaseOf, FilterOf, ProjectOf, JoinOf, ApplyOf, UnionOf, IntersectOf, ExceptOf, DistinctOf, AggregateOf, LimitOf, ProvOf}
use Rattle.bag_algebra.specs.WellFormed.{column_kind, HasKind, PartsHave, StepsHave, ArmsHave, number_of_parts, aggr_form, sub_form, sub_kinds, WellFormed, SubsForm}
use Rattle.bag_algebra.specs.declared.expr.Expr.{Expr, Row_of-Expr, Row_of-Arm, Row_of-ChainStep, more_of-Expr, end_of-Expr, more_of-Arm, end_of-Arm, more_of-ChainStep, end_of-ChainStep}
use Rattle.bag_algebra.specs.declared.expr.Expr.TheVariants.{Col, Lit, Sub}
use Rattle.bag_algebra.specs.declared.expr.Item.{Item}
use Rattle.bag_algebra.specs.declared.query.AggFn.{AggFn}
use Rattle.bag_algebra.specs.declared.query.AggFn.TheVariants.{CountRows, Count, CountDistinct, Sum, Min, Max}
use Rattle.bag_algebra.specs.declared.query.Aggr.{Aggr}
use Rattle.bag_algebra.specs.declared.query.Query.{Query, Row_of-Sublink, more_of-Sublink, end_of-Sublink}
use Rattle.bag_algebra.specs.declared.query.Query.TheVariants.{Table, Single}
use Rattle.bag_algebra.specs.declared.query.SubKind.{SubKind}
use Rattle.bag_algebra.specs.declared.query.SubKind.TheVariants as sub
use Rattle.bag_algebra.proofs.Forms.{alike-kept, op_form-kept}
use Rattle.contribution.specs.Longer.{Longer, more_lists, more_items}

-- each column of the first is named, with its kind, by the second
pub record NamesAlso (outer longer : List (List Kind)) : Type 0 where
  pub named : (level place : ℕ) (kind : Kind) → column_kind outer level place ≡ Some kind → column_kind longer level place ≡ Some kind

pub slice_get-longer : {X : Type 0} (items more : List X) (place : ℕ) (x : X) → slice_get items place ≡ Some x →
    slice_get (items ++ more) place ≡ Some x
slice_get-longer [] more place x e = cc
slice_get-longer (y ∷ items) more zero x e = e
slice_get-longer (y ∷ items) more (suc place) x e = slice_get-longer items more place x e

pub longer-names : {outer longer : List (List Kind)} → Longer outer longer → NamesAlso outer longer
longer-names l = record { named = at l } where
  at : {outer longer : List (List Kind)} → Longer outer longer → (level place : ℕ) (kind : Kind) → column_kind outer level place ≡ Some kind →
      column_kind longer level place ≡ Some kind
  at (more_lists further) level place kind e = cc
  at (more_items items more l) zero place kind e = slice_get-longer items more place kind e
  at (more_items items more l) (suc level) place kind e = at l level place kind e

-- the first columns of a longer row have their names
pub names-more : (kinds more : List Kind) (outer : List (List Kind)) → NamesAlso (kinds ∷ outer) ((kinds ++ more) ∷ outer)
names-more kinds more outer = record { named = at } where
  at : (level place : ℕ) (kind : Kind) → column_kind (kinds ∷ outer) level place ≡ Some kind → column_kind ((kinds ++ more) ∷ outer) level place ≡ Some kind
  at zero place kind e = slice_get-longer kinds more place kind e
  at (suc level) place kind e = e

-- beside the same columns of a node's own row
pub names-own : (kinds : List Kind) {outer longer : List (List Kind)} → NamesAlso outer longer → NamesAlso (kinds ∷ outer) (kinds ∷ longer)
names-own kinds {outer} {longer} n = record { named = at } where
  at : (level place : ℕ) (kind : Kind) → column_kind (kinds ∷ outer) level place ≡ Some kind → column_kind (kinds ∷ longer) level place ≡ Some kind
  at zero place kind e = e
  at (suc level) place kind e = n.named level place kind e

-- ---- expressions

module _ {scopes longer : List (List Kind)} (n : NamesAlso scopes longer) (subs : List Kind) where
  mutual
    pub has_kind-longer : (e : Expr) (k : Kind) → HasKind scopes subs e k → HasKind longer subs e k
    has_kind-longer (Col level place) k f = n.named level place k f
    has_kind-longer (Lit v own) k f = f
    has_kind-longer (OpOf o _ parts) k f = op_form-kept (λ l h. parts_have-longer parts l h) o (number_of_parts parts) k f
    has_kind-longer (ChainOf first _ steps) k f =
        record { number = f.number; level = f.level; first = has_kind-longer first Integer f.first; steps = steps_have-longer steps f.steps; gives = f.gives }
    has_kind-longer (CaseOf _ arms otherwise) k f = record { number = f.number; arms = arms_have-longer arms k f.arms; otherwise = has_kind-longer otherwise k f.otherwise }
    has_kind-longer (Sub number) k f = f
    has_kind-longer (IsNullOf part) k f = record { parts = alike-kept (λ l h. has_kind-longer part l h) f.parts; gives = f.gives }
    has_kind-longer (IsTruthOf truth part) k f = record { parts = has_kind-longer part Boolean f.parts; gives = f.gives }
    has_kind-longer (SameOf first second) k f =
        record { parts = alike-kept (λ l h. (has_kind-longer first l h.0, has_kind-longer second l h.1)) f.parts; gives = f.gives }

    parts_have-longer : {m : _} (parts : Row_of-Expr m) (k : Kind) → PartsHave scopes subs parts k → PartsHave longer subs parts k
    parts_have-longer end_of-Expr k f = tt
    parts_have-longer (more_of-Expr part parts) k f = (has_kind-longer part k f.0, parts_have-longer parts k f.1)

    steps_have-longer : {m : _} (steps : Row_of-ChainStep m) → StepsHave scopes subs steps → StepsHave longer subs steps
    steps_have-longer end_of-ChainStep f = tt
    steps_have-longer (more_of-ChainStep operation part steps) f = (has_kind-longer part Integer f.0, steps_have-longer steps f.1)

    arms_have-longer : {m : _} (arms : Row_of-Arm m) (k : Kind) → ArmsHave scopes subs arms k → ArmsHave longer subs arms k
    arms_have-longer end_of-Arm k f = tt
    arms_have-longer (more_of-Arm condition arm arms) k f =
        record { condition = has_kind-longer condition Boolean f.condition; arm = has_kind-longer arm k f.arm; others = arms_have-longer arms k f.others }

-- ---- parts of queries

pub all-kept : {X : Type 0} (P Q : X → Type 0) (xs : List X) → ((x : X) → P x → Q x) → All P xs → All Q xs
all-kept P Q xs keep h = λ k d i. keep _ (h k d i)

module _ {scopes longer : List (List Kind)} (n : NamesAlso scopes longer) where
  aggr_form-longer : (function : AggFn) (argument : Option Expr) (k : Kind) → aggr_form function argument scopes k →
      aggr_form function argument longer k
  aggr_form-longer CountRows None k f = f
  aggr_form-longer CountRows (Some argument) k f = f
  aggr_form-longer Count None k f = f
  aggr_form-longer Count (Some argument) k f = record { argument = alike-kept (λ l h. has_kind-longer n [] argument l h) f.argument; gives = f.gives }
  aggr_form-longer CountDistinct None k f = f
  aggr_form-longer CountDistinct (Some argument) k f = record { argument = alike-kept (λ l h. has_kind-longer n [] argument l h) f.argument; gives = f.gives }
  aggr_form-longer Sum None k f = f
  aggr_form-longer Sum (Some argument) k f = (has_kind-longer n [] argument Integer f.0, f.1)
  aggr_form-longer Min None k f = f
  aggr_form-longer Min (Some argument) k f = (has_kind-longer n [] argument k f.0, f.1)
  aggr_form-longer Max None k f = f
  aggr_form-longer Max (Some argument) k f = (has_kind-longer n [] argument k f.0, f.1)

  sub_form-longer : (kind : SubKind) (tested : Option Expr) (kinds : List Kind) → sub_form kind tested scopes kinds →
      sub_form kind tested longer kinds
  sub_form-longer sub.Exists None kinds f = f
  sub_form-longer sub.Exists (Some tested) kinds f = f
  sub_form-longer (sub.Any c) None kinds f = f
  sub_form-longer (sub.Any c) (Some tested) kinds f = record { column = f.column; one = f.one; compared = has_kind-longer n [] tested f.column f.compared }
  sub_form-longer (sub.All c) None kinds f = f
  sub_form-longer (sub.All c) (Some tested) kinds f = record { column = f.column; one = f.one; compared = has_kind-longer n [] tested f.column f.compared }
  sub_form-longer sub.Scalar None kinds f = f
  sub_form-longer sub.Scalar (Some tested) kinds f = f

-- ---- queries

mutual
  pub well_formed-longer : (q : Query) (outer longer : List (List Kind)) → NamesAlso outer longer → WellFormed outer q → WellFormed longer q
  well_formed-longer (Table id kinds) outer longer n f = f
  well_formed-longer Single outer longer n f = f
  well_formed-longer (BaseOf input places label) outer longer n f = record { input = well_formed-longer input outer longer n f.input; in_range = f.in_range; named = f.named }
  well_formed-longer (FilterOf input condition _ subs) outer longer n f = record {
    input = well_formed-longer input outer longer n f.input;
    subs = subs_form-longer subs (kinds_of input ∷ outer) (kinds_of input ∷ longer) (names-own (kinds_of input) n) f.subs;
    condition = has_kind-longer (names-own (kinds_of input) n) (sub_kinds subs) condition Boolean f.condition;
  }
  well_formed-longer (ProjectOf input items _ subs) outer longer n f = record {
    input = well_formed-longer input outer longer n f.input;
    subs = subs_form-longer subs (kinds_of input ∷ outer) (kinds_of input ∷ longer) (names-own (kinds_of input) n) f.subs;
    items = all-kept (λ (item : Item). HasKind (kinds_of input ∷ outer) (sub_kinds subs) item.expr item.kind) (λ (item : Item). HasKind (kinds_of input ∷ longer) (sub_kinds subs) item.expr item.kind) items
        (λ item h. has_kind-longer (names-own (kinds_of input) n) (sub_kinds subs) item.expr item.kind h) f.items;
  }
  well_formed-longer (JoinOf kind left right condition _ subs) outer longer n f = record {
    left = well_formed-longer left outer longer n f.left;
    right = well_formed-longer right outer longer n f.right;
    subs = subs_form-longer subs ((kinds_of left ++ kinds_of right) ∷ outer) ((kinds_of left ++ kinds_of right) ∷ longer)
        (names-own (kinds_of left ++ kinds_of right) n) f.subs;
    condition = has_kind-longer (names-own (kinds_of left ++ kinds_of right) n) (sub_kinds subs) condition Boolean f.condition;
  }
  well_formed-longer (ApplyOf kind left right) outer longer n f = record {
    left = well_formed-longer left outer longer n f.left;
    right = well_formed-longer right (kinds_of left ∷ outer) (kinds_of left ∷ longer) (names-own (kinds_of left) n) f.right;
    dependent = f.dependent;
  }
  well_formed-longer (UnionOf all left right) outer longer n f =
      record { left_side = well_formed-longer left outer longer n f.left_side; right_side = well_formed-longer right outer longer n f.right_side; same_kinds = f.same_kinds }
  well_formed-longer (IntersectOf all left right) outer longer n f =
      record { left_side = well_formed-longer left outer longer n f.left_side; right_side = well_formed-longer right outer longer n f.right_side; same_kinds = f.same_kinds }
  well_formed-longer (ExceptOf all left right) outer longer n f =
      record { left_side = well_formed-longer left outer longer n f.left_side; right_side = well_formed-longer right outer longer n f.right_side; same_kinds = f.same_kinds }
  well_formed-longer (DistinctOf input) outer longer n f = well_formed-longer input outer longer n f
  well_formed-longer (AggregateOf input groups aggregates) outer longer n f = record {
    input = well_formed-longer input outer longer n f.input;
    groups = f.groups;
    aggregates = all-kept (λ (aggregate : Aggr). aggr_form aggregate.function aggregate.argument (kinds_of input ∷ outer) aggregate.kind)
        (λ (aggregate : Aggr). aggr_form aggregate.function aggregate.argument (kinds_of input ∷ longer) aggregate.kind) aggregates
        (λ aggregate h. aggr_form-longer (names-own (kinds_of input) n) aggregate.function aggregate.argument aggregate.kind h) f.aggregates;
  }
  well_formed-longer (LimitOf input keys count) outer longer n f = record { input = well_formed-longer input outer longer n f.input; keys = f.keys; bound = f.bound }
  well_formed-longer (ProvOf input) outer longer n f = well_formed-longer input outer longer n f

  pub subs_form-longer : {m : _} (subs : Row_of-Sublink m) (scopes longer : List (List Kind)) → NamesAlso scopes longer → SubsForm scopes subs →
      SubsForm longer subs
  subs_form-longer end_of-Sublink scopes longer n f = tt
  subs_form-longer (more_of-Sublink kind tested query subs) scopes longer n f = record {
    query = well_formed-longer query scopes longer n f.query;
    fitting = sub_form-longer n kind tested (kinds_of query) f.fitting;
    others = subs_form-longer subs scopes longer n f.others;
  }
