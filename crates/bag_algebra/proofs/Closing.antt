-- A well formed query is closed exactly where it is well formed under no outer kinds.
use Rattle.std.proofs.Common.{◌≡◌, ℕ, zero, suc, ◌<◌, true, ◌&&◌, List, [], ◌∷◌, ◌++◌, length, Option, Some, None, sym, refl, ap, ◌∙◌, arith}
use Rattle.std.specs.Prelude.{slice_get, slice_index_or}
use Rattle.std.proofs.lemmas.List.Sums.{AllPass-from_list_all, list_all-from_AllPass}
use Rattle.std.proofs.lemmas.Bool.{le-leb, leb-true}
use Rattle.null_logic.specs.declared.operator.Operator.TheVariants as op
use Rattle.perm_values.specs.declared.kind.Kind.{Kind}
use Rattle.perm_values.specs.declared.kind.Kind.TheVariants.{Integer, Boolean}
use Rattle.bag_algebra.specs.Closed.{within_levels, parts_within, steps_within, arms_within, option_within, items_within, aggregates_within, reads_within, subs_read_within}
use Rattle.bag_algebra.specs.Kinds.{kinds_of}
use Rattle.bag_algebra.specs.built.Patterns.{OpOf, ChainOf, CaseOf, IsNullOf, IsTruthOf, SameOf, BaseOf, FilterOf, ProjectOf, JoinOf, ApplyOf, UnionOf, IntersectOf, ExceptOf, DistinctOf, AggregateOf, LimitOf, ProvOf}
use Rattle.bag_algebra.specs.WellFormed.{kind_at_place, column_kind, HasKind, PartsHave, StepsHave, ArmsHave, ItemsForm, aggr_form, AggregatesForm, sub_form, WellFormed, SubsForm}
use Rattle.bag_algebra.specs.declared.expr.Expr.{Expr, Row_of-Expr, Row_of-Arm, Row_of-ChainStep, more_of-Expr, end_of-Expr, more_of-Arm, end_of-Arm, more_of-ChainStep, end_of-ChainStep}
use Rattle.bag_algebra.specs.declared.expr.Expr.TheVariants.{Col, Lit, Sub}
use Rattle.bag_algebra.specs.declared.expr.Item.{Item}
use Rattle.bag_algebra.specs.declared.query.AggFn.{AggFn}
use Rattle.bag_algebra.specs.declared.query.AggFn.TheVariants.{CountRows, Count, CountDistinct, Sum, Min, Max}
use Rattle.bag_algebra.specs.declared.query.Aggr.{Aggr}
use Rattle.bag_algebra.specs.declared.query.Query.{Query, Row_of-Sublink, more_of-Sublink, end_of-Sublink}
use Rattle.bag_algebra.specs.declared.query.Query.TheVariants.{Table, Single}
use Rattle.bag_algebra.specs.declared.query.SubKind.{SubKind}
use Rattle.bag_algebra.specs.declared.query.SubKind.TheVariants as sub
use Rattle.bag_algebra.proofs.Truths.{both-true, left-true, right-true}
use Rattle.bag_algebra.proofs.Forms.{op_parts, op_form-kept}

-- ---- scopes

in_scopes : (scopes : List (List Kind)) (level place : ℕ) (kind : Kind) → column_kind scopes level place ≡ Some kind → level < length scopes
in_scopes [] level place kind h = absurd (cc h)
in_scopes (scope ∷ scopes) zero place kind h = omega arith
in_scopes (scope ∷ scopes) (suc level) place kind h = let below = in_scopes scopes level place kind h in omega arith

nearest : (scopes outer : List (List Kind)) (level : ℕ) → level < length scopes → slice_get (scopes ++ outer) level ≡ slice_get scopes level
nearest [] outer level h = absurd (omega arith)
nearest (scope ∷ scopes) outer zero h = refl
nearest (scope ∷ scopes) outer (suc level) h = nearest scopes outer level (omega arith)

-- ---- what is well formed in so many scopes reads no others

mutual
  pub expr_within : (scopes : List (List Kind)) (subs : List Kind) (e : Expr) (kind : Kind) (n : ℕ) → length scopes ≡ suc n →
      HasKind scopes subs e kind → within_levels e n ≡ true
  expr_within scopes subs (Col level place) kind n l h = le-leb level n (let below = in_scopes scopes level place kind h in omega arith)
  expr_within scopes subs (Lit v own) kind n l h = refl
  expr_within scopes subs (OpOf operator _ parts) kind n l h =
      let asked = op_parts operator _ (PartsHave scopes subs parts) kind h in all_within scopes subs parts asked.0 n l asked.1
  expr_within scopes subs (ChainOf first _ steps) kind n l h =
      both-true _ _ (expr_within scopes subs first Integer n l h.first) (all_steps_within scopes subs steps n l h.steps)
  expr_within scopes subs (CaseOf _ arms otherwise) kind n l h =
      both-true _ _ (all_arms_within scopes subs arms kind n l h.arms) (expr_within scopes subs otherwise kind n l h.otherwise)
  expr_within scopes subs (Sub number) kind n l h = refl
  expr_within scopes subs (IsNullOf part) kind n l h = expr_within scopes subs part h.parts.shared n l h.parts.parts
  expr_within scopes subs (IsTruthOf truth part) kind n l h = expr_within scopes subs part Boolean n l h.parts
  expr_within scopes subs (SameOf first second) kind n l h =
      both-true _ _ (expr_within scopes subs first h.parts.shared n l h.parts.parts.0) (expr_within scopes subs second h.parts.shared n l h.parts.parts.1)

  all_within : (scopes : List (List Kind)) (subs : List Kind) {m : _} (parts : Row_of-Expr m) (kind : Kind) (n : ℕ) → length scopes ≡ suc n →
      PartsHave scopes subs parts kind → parts_within parts n ≡ true
  all_within scopes subs end_of-Expr kind n l h = refl
  all_within scopes subs (more_of-Expr part parts) kind n l h =
      both-true _ _ (expr_within scopes subs part kind n l h.0) (all_within scopes subs parts kind n l h.1)

  all_steps_within : (scopes : List (List Kind)) (subs : List Kind) {m : _} (steps : Row_of-ChainStep m) (n : ℕ) → length scopes ≡ suc n →
      StepsHave scopes subs steps → steps_within steps n ≡ true
  all_steps_within scopes subs end_of-ChainStep n l h = refl
  all_steps_within scopes subs (more_of-ChainStep operation part steps) n l h =
      both-true _ _ (expr_within scopes subs part Integer n l h.0) (all_steps_within scopes subs steps n l h.1)

  all_arms_within : (scopes : List (List Kind)) (subs : List Kind) {m : _} (arms : Row_of-Arm m) (kind : Kind) (n : ℕ) → length scopes ≡ suc n →
      ArmsHave scopes subs arms kind → arms_within arms n ≡ true
  all_arms_within scopes subs end_of-Arm kind n l h = refl
  all_arms_within scopes subs (more_of-Arm condition arm arms) kind n l h =
      both-true _ _ (both-true _ _ (expr_within scopes subs condition Boolean n l h.condition) (expr_within scopes subs arm kind n l h.arm))
      (all_arms_within scopes subs arms kind n l h.others)

all_items_within : (scopes : List (List Kind)) (subs : List Kind) (items : List Item) (n : ℕ) → length scopes ≡ suc n →
    ItemsForm scopes subs items → items_within items n ≡ true
all_items_within scopes subs items n l h =
    list_all-from_AllPass (λ (item : Item). within_levels item.expr n) items
    (λ k d inside. expr_within scopes subs (slice_index_or items k d).expr (slice_index_or items k d).kind n l (h k d inside))

argument_within : (function : AggFn) (argument : Option Expr) (scopes : List (List Kind)) (kind : Kind) (n : ℕ) → length scopes ≡ suc n →
    aggr_form function argument scopes kind → option_within argument n ≡ true
argument_within CountRows None scopes kind n l h = refl
argument_within CountRows (Some argument) scopes kind n l h = absurd h
argument_within Count None scopes kind n l h = absurd h
argument_within Count (Some argument) scopes kind n l h = expr_within scopes [] argument h.argument.shared n l h.argument.parts
argument_within CountDistinct None scopes kind n l h = absurd h
argument_within CountDistinct (Some argument) scopes kind n l h = expr_within scopes [] argument h.argument.shared n l h.argument.parts
argument_within Sum None scopes kind n l h = absurd h
argument_within Sum (Some argument) scopes kind n l h = expr_within scopes [] argument Integer n l h.0
argument_within Min None scopes kind n l h = absurd h
argument_within Min (Some argument) scopes kind n l h = expr_within scopes [] argument kind n l h.0
argument_within Max None scopes kind n l h = absurd h
argument_within Max (Some argument) scopes kind n l h = expr_within scopes [] argument kind n l h.0

all_aggregates_within : (scopes : List (List Kind)) (aggregates : List Aggr) (n : ℕ) → length scopes ≡ suc n →
    AggregatesForm scopes aggregates → aggregates_within aggregates n ≡ true
all_aggregates_within scopes aggregates n l h =
    list_all-from_AllPass (λ (aggregate : Aggr). option_within aggregate.argument n) aggregates
    (λ k d inside. let aggregate = slice_index_or aggregates k d in argument_within aggregate.function aggregate.argument scopes aggregate.kind n l (h k d inside))

tested_within : (kind : SubKind) (tested : Option Expr) (scopes : List (List Kind)) (kinds : List Kind) (n : ℕ) → length scopes ≡ suc n →
    sub_form kind tested scopes kinds → option_within tested n ≡ true
tested_within sub.Exists None scopes kinds n l h = refl
tested_within sub.Exists (Some tested) scopes kinds n l h = absurd h
tested_within (sub.Any c) None scopes kinds n l h = absurd h
tested_within (sub.Any c) (Some tested) scopes kinds n l h = expr_within scopes [] tested h.column n l h.compared
tested_within (sub.All c) None scopes kinds n l h = absurd h
tested_within (sub.All c) (Some tested) scopes kinds n l h = expr_within scopes [] tested h.column n l h.compared
tested_within sub.Scalar None scopes kinds n l h = refl
tested_within sub.Scalar (Some tested) scopes kinds n l h = absurd h

mutual
  pub query_within : (outer : List (List Kind)) (q : Query) (n : ℕ) → length outer ≡ n → WellFormed outer q → reads_within q n ≡ true
  query_within outer (Table id kinds) n l h = refl
  query_within outer Single n l h = refl
  query_within outer (BaseOf input places label) n l h = query_within outer input n l h.input
  query_within outer (FilterOf input condition _ subs) n l h =
      both-true _ _ (both-true _ _ (query_within outer input n l h.input) (expr_within (kinds_of input ∷ outer) _ condition Boolean n (ap suc l) h.condition))
      (all_subs_within (kinds_of input ∷ outer) subs n (ap suc l) h.subs)
  query_within outer (ProjectOf input items _ subs) n l h =
      both-true _ _ (both-true _ _ (query_within outer input n l h.input) (all_items_within (kinds_of input ∷ outer) _ items n (ap suc l) h.items))
      (all_subs_within (kinds_of input ∷ outer) subs n (ap suc l) h.subs)
  query_within outer (JoinOf kind left right condition _ subs) n l h =
      both-true _ _
      (both-true _ _ (both-true _ _ (query_within outer left n l h.left) (query_within outer right n l h.right))
      (expr_within ((kinds_of left ++ kinds_of right) ∷ outer) _ condition Boolean n (ap suc l) h.condition))
      (all_subs_within ((kinds_of left ++ kinds_of right) ∷ outer) subs n (ap suc l) h.subs)
  query_within outer (ApplyOf kind left right) n l h =
      both-true _ _ (query_within outer left n l h.left) (query_within (kinds_of left ∷ outer) right (suc n) (ap suc l) h.right)
  query_within outer (UnionOf all left right) n l h = both-true _ _ (query_within outer left n l h.left_side) (query_within outer right n l h.right_side)
  query_within outer (IntersectOf all left right) n l h = both-true _ _ (query_within outer left n l h.left_side) (query_within outer right n l h.right_side)
  query_within outer (ExceptOf all left right) n l h = both-true _ _ (query_within outer left n l h.left_side) (query_within outer right n l h.right_side)
  query_within outer (DistinctOf input) n l h = query_within outer input n l h
  query_within outer (AggregateOf input groups aggregates) n l h =
      both-true _ _ (query_within outer input n l h.input) (all_aggregates_within (kinds_of input ∷ outer) aggregates n (ap suc l) h.aggregates)
  query_within outer (LimitOf input keys count) n l h = query_within outer input n l h.input
  query_within outer (ProvOf input) n l h = query_within outer input n l h

  all_subs_within : (scopes : List (List Kind)) {m : _} (subs : Row_of-Sublink m) (n : ℕ) → length scopes ≡ suc n →
      SubsForm scopes subs → subs_read_within subs n ≡ true
  all_subs_within scopes end_of-Sublink n l h = refl
  all_subs_within scopes (more_of-Sublink kind tested query subs) n l h =
      both-true _ _ (both-true _ _ (tested_within kind tested scopes (kinds_of query) n l h.fitting) (query_within scopes query (suc n) l h.query))
      (all_subs_within scopes subs n l h.others)

-- ---- what reads no scopes but the first ones is well formed in these alone

module _ (outer : List (List Kind)) where
  mutual
    pub expr_inside : (scopes : List (List Kind)) (subs : List Kind) (e : Expr) (kind : Kind) (n : ℕ) → length scopes ≡ suc n →
        within_levels e n ≡ true → HasKind (scopes ++ outer) subs e kind → HasKind scopes subs e kind
    expr_inside scopes subs (Col level place) kind n l w h =
        let within = leb-true level n w in
        ap (λ scope. kind_at_place scope place) (sym (nearest scopes outer level (omega arith))) ∙ h
    expr_inside scopes subs (Lit v own) kind n l w h = h
    expr_inside scopes subs (OpOf operator _ parts) kind n l w h =
        op_form-kept (λ shared. all_inside scopes subs parts shared n l w) operator _ kind h
    expr_inside scopes subs (ChainOf first _ steps) kind n l w h =
        record { number = h.number; level = h.level; first = expr_inside scopes subs first Integer n l (left-true _ _ w) h.first; steps = all_steps_inside scopes subs steps n l (right-true _ _ w) h.steps; gives = h.gives }
    expr_inside scopes subs (CaseOf _ arms otherwise) kind n l w h =
        record { number = h.number; arms = all_arms_inside scopes subs arms kind n l (left-true _ _ w) h.arms; otherwise = expr_inside scopes subs otherwise kind n l (right-true _ _ w) h.otherwise }
    expr_inside scopes subs (Sub number) kind n l w h = h
    expr_inside scopes subs (IsNullOf part) kind n l w h =
        record { parts = record { shared = h.parts.shared; parts = expr_inside scopes subs part h.parts.shared n l w h.parts.parts }; gives = h.gives }
    expr_inside scopes subs (IsTruthOf truth part) kind n l w h = record { parts = expr_inside scopes subs part Boolean n l w h.parts; gives = h.gives }
    expr_inside scopes subs (SameOf first second) kind n l w h =
        record {
          parts = record {
            shared = h.parts.shared;
            parts = (expr_inside scopes subs first h.parts.shared n l (left-true _ _ w) h.parts.parts.0, expr_inside scopes subs second h.parts.shared n l (right-true _ _ w) h.parts.parts.1);
          };
          gives = h.gives;
        }

    all_inside : (scopes : List (List Kind)) (subs : List Kind) {m : _} (parts : Row_of-Expr m) (kind : Kind) (n : ℕ) → length scopes ≡ suc n →
        parts_within parts n ≡ true → PartsHave (scopes ++ outer) subs parts kind → PartsHave scopes subs parts kind
    all_inside scopes subs end_of-Expr kind n l w h = h
    all_inside scopes subs (more_of-Expr part parts) kind n l w h =
        (expr_inside scopes subs part kind n l (left-true _ _ w) h.0, all_inside scopes subs parts kind n l (right-true _ _ w) h.1)

    all_steps_inside : (scopes : List (List Kind)) (subs : List Kind) {m : _} (steps : Row_of-ChainStep m) (n : ℕ) → length scopes ≡ suc n →
        steps_within steps n ≡ true → StepsHave (scopes ++ outer) subs steps → StepsHave scopes subs steps
    all_steps_inside scopes subs end_of-ChainStep n l w h = h
    all_steps_inside scopes subs (more_of-ChainStep operation part steps) n l w h =
        (expr_inside scopes subs part Integer n l (left-true _ _ w) h.0, all_steps_inside scopes subs steps n l (right-true _ _ w) h.1)

    all_arms_inside : (scopes : List (List Kind)) (subs : List Kind) {m : _} (arms : Row_of-Arm m) (kind : Kind) (n : ℕ) → length scopes ≡ suc n →
        arms_within arms n ≡ true → ArmsHave (scopes ++ outer) subs arms kind → ArmsHave scopes subs arms kind
    all_arms_inside scopes subs end_of-Arm kind n l w h = h
    all_arms_inside scopes subs (more_of-Arm condition arm arms) kind n l w h =
        record {
          condition = expr_inside scopes subs condition Boolean n l (left-true _ _ (left-true _ _ w)) h.condition;
          arm = expr_inside scopes subs arm kind n l (right-true (within_levels condition n) _ (left-true _ _ w)) h.arm;
          others = all_arms_inside scopes subs arms kind n l (right-true _ _ w) h.others;
        }

  all_items_inside : (scopes : List (List Kind)) (subs : List Kind) (items : List Item) (n : ℕ) → length scopes ≡ suc n →
      items_within items n ≡ true → ItemsForm (scopes ++ outer) subs items → ItemsForm scopes subs items
  all_items_inside scopes subs items n l w h k d inside =
      let item = slice_index_or items k d in
      expr_inside scopes subs item.expr item.kind n l (AllPass-from_list_all (λ (i : Item). within_levels i.expr n) items w k d inside) (h k d inside)

  argument_inside : (function : AggFn) (argument : Option Expr) (scopes : List (List Kind)) (kind : Kind) (n : ℕ) → length scopes ≡ suc n →
      option_within argument n ≡ true → aggr_form function argument (scopes ++ outer) kind → aggr_form function argument scopes kind
  argument_inside CountRows None scopes kind n l w h = h
  argument_inside CountRows (Some argument) scopes kind n l w h = h
  argument_inside Count None scopes kind n l w h = h
  argument_inside Count (Some argument) scopes kind n l w h =
      record { argument = record { shared = h.argument.shared; parts = expr_inside scopes [] argument h.argument.shared n l w h.argument.parts }; gives = h.gives }
  argument_inside CountDistinct None scopes kind n l w h = h
  argument_inside CountDistinct (Some argument) scopes kind n l w h =
      record { argument = record { shared = h.argument.shared; parts = expr_inside scopes [] argument h.argument.shared n l w h.argument.parts }; gives = h.gives }
  argument_inside Sum None scopes kind n l w h = h
  argument_inside Sum (Some argument) scopes kind n l w h = (expr_inside scopes [] argument Integer n l w h.0, h.1)
  argument_inside Min None scopes kind n l w h = h
  argument_inside Min (Some argument) scopes kind n l w h = (expr_inside scopes [] argument kind n l w h.0, h.1)
  argument_inside Max None scopes kind n l w h = h
  argument_inside Max (Some argument) scopes kind n l w h = (expr_inside scopes [] argument kind n l w h.0, h.1)

  all_aggregates_inside : (scopes : List (List Kind)) (aggregates : List Aggr) (n : ℕ) → length scopes ≡ suc n →
      aggregates_within aggregates n ≡ true → AggregatesForm (scopes ++ outer) aggregates → AggregatesForm scopes aggregates
  all_aggregates_inside scopes aggregates n l w h k d inside =
      let aggregate = slice_index_or aggregates k d in
      argument_inside aggregate.function aggregate.argument scopes aggregate.kind n l
      (AllPass-from_list_all (λ (a : Aggr). option_within a.argument n) aggregates w k d inside) (h k d inside)

  tested_inside : (kind : SubKind) (tested : Option Expr) (scopes : List (List Kind)) (kinds : List Kind) (n : ℕ) → length scopes ≡ suc n →
      option_within tested n ≡ true → sub_form kind tested (scopes ++ outer) kinds → sub_form kind tested scopes kinds
  tested_inside sub.Exists None scopes kinds n l w h = h
  tested_inside sub.Exists (Some tested) scopes kinds n l w h = h
  tested_inside (sub.Any c) None scopes kinds n l w h = h
  tested_inside (sub.Any c) (Some tested) scopes kinds n l w h =
      record { column = h.column; one = h.one; compared = expr_inside scopes [] tested h.column n l w h.compared }
  tested_inside (sub.All c) None scopes kinds n l w h = h
  tested_inside (sub.All c) (Some tested) scopes kinds n l w h =
      record { column = h.column; one = h.one; compared = expr_inside scopes [] tested h.column n l w h.compared }
  tested_inside sub.Scalar None scopes kinds n l w h = h
  tested_inside sub.Scalar (Some tested) scopes kinds n l w h = h

  mutual
    pub query_inside : (inner : List (List Kind)) (q : Query) (n : ℕ) → length inner ≡ n → reads_within q n ≡ true →
        WellFormed (inner ++ outer) q → WellFormed inner q
    query_inside inner (Table id kinds) n l w h = h
    query_inside inner Single n l w h = h
    query_inside inner (BaseOf input places label) n l w h =
        record { input = query_inside inner input n l w h.input; in_range = h.in_range; named = h.named }
    query_inside inner (FilterOf input condition _ subs) n l w h =
        record {
          input = query_inside inner input n l (left-true _ _ (left-true _ _ w)) h.input;
          subs = all_subs_inside (kinds_of input ∷ inner) subs n (ap suc l) (right-true _ _ w) h.subs;
          condition = expr_inside (kinds_of input ∷ inner) _ condition Boolean n (ap suc l) (right-true (reads_within input n) _ (left-true _ _ w)) h.condition;
        }
    query_inside inner (ProjectOf input items _ subs) n l w h =
        record {
          input = query_inside inner input n l (left-true _ _ (left-true _ _ w)) h.input;
          subs = all_subs_inside (kinds_of input ∷ inner) subs n (ap suc l) (right-true _ _ w) h.subs;
          items = all_items_inside (kinds_of input ∷ inner) _ items n (ap suc l) (right-true (reads_within input n) _ (left-true _ _ w)) h.items;
        }
    query_inside inner (JoinOf kind first second condition _ subs) n l w h =
        let inputs = left-true _ _ (left-true _ _ w) in
        record {
          left = query_inside inner first n l (left-true _ _ inputs) h.left;
          right = query_inside inner second n l (right-true (reads_within first n) _ inputs) h.right;
          subs = all_subs_inside ((kinds_of first ++ kinds_of second) ∷ inner) subs n (ap suc l) (right-true _ _ w) h.subs;
          condition = expr_inside ((kinds_of first ++ kinds_of second) ∷ inner) _ condition Boolean n (ap suc l)
              (right-true (reads_within first n && reads_within second n) _ (left-true _ _ w)) h.condition;
        }
    query_inside inner (ApplyOf kind first second) n l w h =
        record {
          left = query_inside inner first n l (left-true _ _ w) h.left;
          right = query_inside (kinds_of first ∷ inner) second (suc n) (ap suc l) (right-true (reads_within first n) _ w) h.right;
          dependent = h.dependent;
        }
    query_inside inner (UnionOf all first second) n l w h =
        record { left_side = query_inside inner first n l (left-true _ _ w) h.left_side; right_side = query_inside inner second n l (right-true _ _ w) h.right_side; same_kinds = h.same_kinds }
    query_inside inner (IntersectOf all first second) n l w h =
        record { left_side = query_inside inner first n l (left-true _ _ w) h.left_side; right_side = query_inside inner second n l (right-true _ _ w) h.right_side; same_kinds = h.same_kinds }
    query_inside inner (ExceptOf all first second) n l w h =
        record { left_side = query_inside inner first n l (left-true _ _ w) h.left_side; right_side = query_inside inner second n l (right-true _ _ w) h.right_side; same_kinds = h.same_kinds }
    query_inside inner (DistinctOf input) n l w h = query_inside inner input n l w h
    query_inside inner (AggregateOf input groups aggregates) n l w h =
        record {
          input = query_inside inner input n l (left-true _ _ w) h.input;
          groups = h.groups;
          aggregates = all_aggregates_inside (kinds_of input ∷ inner) aggregates n (ap suc l) (right-true _ _ w) h.aggregates;
        }
    query_inside inner (LimitOf input keys count) n l w h = record { input = query_inside inner input n l w h.input; keys = h.keys; bound = h.bound }
    query_inside inner (ProvOf input) n l w h = query_inside inner input n l w h

    all_subs_inside : (scopes : List (List Kind)) {m : _} (subs : Row_of-Sublink m) (n : ℕ) → length scopes ≡ suc n →
        subs_read_within subs n ≡ true → SubsForm (scopes ++ outer) subs → SubsForm scopes subs
    all_subs_inside scopes end_of-Sublink n l w h = h
    all_subs_inside scopes (more_of-Sublink kind tested query subs) n l w h =
        let own = left-true _ _ w in
        record {
          query = query_inside scopes query (suc n) l (right-true (option_within tested n) _ own) h.query;
          fitting = tested_inside kind tested scopes (kinds_of query) n l (left-true _ _ own) h.fitting;
          others = all_subs_inside scopes subs n l (right-true _ _ w) h.others;
        }
