-- A query is well formed under all outer kinds that agree on the columns that it reads.
use Rattle.std.proofs.Common.{◌≡◌, subst, ℕ, zero, suc, ◌≤◌, ◌<◌, max, cond, List, [], ◌∷◌, ◌++◌, length, Option, Some, None, refl, sym, ◌∙◌, arith}
use Rattle.std.specs.Prelude.{slice_index_or}
use Rattle.perm_values.specs.declared.kind.Kind.{Kind}
use Rattle.perm_values.specs.declared.kind.Kind.TheVariants.{Integer, Boolean}
use Rattle.bag_algebra.proofs.Forms.{op_form-kept}
use Rattle.bag_algebra.specs.Kinds.{kinds_of}
use Rattle.bag_algebra.specs.built.Patterns.{OpOf, ChainOf, CaseOf, IsNullOf, IsTruthOf, SameOf, BaseOf, FilterOf, ProjectOf, JoinOf, ApplyOf, UnionOf, IntersectOf, ExceptOf, DistinctOf, AggregateOf, LimitOf, ProvOf}
use Rattle.bag_algebra.specs.WellFormed.{column_kind, HasKind, PartsHave, StepsHave, ArmsHave, ItemsForm, aggr_form, AggregatesForm, sub_form, WellFormed, SubsForm}
use Rattle.bag_algebra.specs.declared.expr.Expr.{Expr, Row_of-Expr, Row_of-Arm, Row_of-ChainStep, more_of-Expr, end_of-Expr, more_of-Arm, end_of-Arm, more_of-ChainStep, end_of-ChainStep}
use Rattle.bag_algebra.specs.declared.expr.Expr.TheVariants.{Col, Lit, Sub}
use Rattle.bag_algebra.specs.declared.expr.Item.{Item}
use Rattle.bag_algebra.specs.declared.query.AggFn.{AggFn}
use Rattle.bag_algebra.specs.declared.query.AggFn.TheVariants.{CountRows, Count, CountDistinct, Sum, Min, Max}
use Rattle.bag_algebra.specs.declared.query.Aggr.{Aggr}
use Rattle.bag_algebra.specs.declared.query.Query.{Query, Row_of-Sublink, more_of-Sublink, end_of-Sublink}
use Rattle.bag_algebra.specs.declared.query.Query.TheVariants.{Table, Single}
use Rattle.bag_algebra.specs.declared.query.SubKind.{SubKind}
use Rattle.bag_algebra.specs.declared.query.SubKind.TheVariants as sub
use Rattle.query_facts.specs.reached.Reach.{greatest, column_reach, expr_reach, parts_reach, steps_reach, arms_reach, option_reach, items_reach, aggregates_reach, query_reach, subs_reach}
use Rattle.query_facts.proofs.Alike.{max-left, max-right, one_level}

-- what is within a number where the greatest of all is
one_within : {X : Type 0} (f : X → ℕ) (xs : List X) (n : ℕ) → greatest f xs ≤ n → (k : ℕ) (d : X) → k < length xs → f (slice_index_or xs k d) ≤ n
one_within f [] n h k d inside = absurd (omega arith)
one_within f (x ∷ xs) n h zero d inside = max-left (f x) (greatest f xs) n h
one_within f (x ∷ xs) n h (suc k) d inside = one_within f xs n (max-right (f x) (greatest f xs) n h) k d (omega arith)

-- the scopes have the same kinds, but for what is behind the first n columns of the scope at the level
abbrev pub AlikeKinds : ℕ → ℕ → List (List Kind) → List (List Kind) → Type 0
AlikeKinds level n scopes others = (own place : ℕ) → column_reach own place level ≤ n → column_kind scopes own place ≡ column_kind others own place

one_further : (level n : ℕ) (kinds : List Kind) (scopes others : List (List Kind)) → AlikeKinds level n scopes others →
    AlikeKinds (suc level) n (kinds ∷ scopes) (kinds ∷ others)
one_further level n kinds scopes others same zero place h = refl
one_further level n kinds scopes others same (suc own) place h = same own place (subst (λ b. cond b (suc place) 0 ≤ n) (one_level own level) h)

-- ---- expressions

module _ (level n : ℕ) (scopes others : List (List Kind)) (same : AlikeKinds level n scopes others) where
  mutual
    expr-alike : (e : Expr) (subs : List Kind) (kind : Kind) → expr_reach e level ≤ n → HasKind scopes subs e kind → HasKind others subs e kind
    expr-alike (Col own place) subs kind w h = sym (same own place w) ∙ h
    expr-alike (Lit v own) subs kind w h = h
    expr-alike (OpOf operator _ parts) subs kind w h = op_form-kept (λ shared. parts-alike parts subs shared w) operator _ kind h
    expr-alike (ChainOf first _ steps) subs kind w h =
        record {
          number = h.number;
          level = h.level;
          first = expr-alike first subs Integer (max-left (expr_reach first level) (steps_reach steps level) n w) h.first;
          steps = steps-alike steps subs (max-right (expr_reach first level) (steps_reach steps level) n w) h.steps;
          gives = h.gives;
        }
    expr-alike (CaseOf _ arms otherwise) subs kind w h =
        record {
          number = h.number;
          arms = arms-alike arms subs kind (max-left (arms_reach arms level) (expr_reach otherwise level) n w) h.arms;
          otherwise = expr-alike otherwise subs kind (max-right (arms_reach arms level) (expr_reach otherwise level) n w) h.otherwise;
        }
    expr-alike (Sub number) subs kind w h = h
    expr-alike (IsNullOf part) subs kind w h =
        record { parts = record { shared = h.parts.shared; parts = expr-alike part subs h.parts.shared w h.parts.parts }; gives = h.gives }
    expr-alike (IsTruthOf truth part) subs kind w h = record { parts = expr-alike part subs Boolean w h.parts; gives = h.gives }
    expr-alike (SameOf first second) subs kind w h =
        record {
          parts = record {
            shared = h.parts.shared;
            parts = (
              expr-alike first subs h.parts.shared (max-left (expr_reach first level) (expr_reach second level) n w) h.parts.parts.0,
              expr-alike second subs h.parts.shared (max-right (expr_reach first level) (expr_reach second level) n w) h.parts.parts.1,
            );
          };
          gives = h.gives;
        }

    parts-alike : {m : _} (parts : Row_of-Expr m) (subs : List Kind) (kind : Kind) → parts_reach parts level ≤ n → PartsHave scopes subs parts kind →
        PartsHave others subs parts kind
    parts-alike end_of-Expr subs kind w h = h
    parts-alike (more_of-Expr part parts) subs kind w h = (
      expr-alike part subs kind (max-left (expr_reach part level) (parts_reach parts level) n w) h.0,
      parts-alike parts subs kind (max-right (expr_reach part level) (parts_reach parts level) n w) h.1,
    )

    steps-alike : {m : _} (steps : Row_of-ChainStep m) (subs : List Kind) → steps_reach steps level ≤ n → StepsHave scopes subs steps → StepsHave others subs steps
    steps-alike end_of-ChainStep subs w h = h
    steps-alike (more_of-ChainStep operation part steps) subs w h = (
      expr-alike part subs Integer (max-left (expr_reach part level) (steps_reach steps level) n w) h.0,
      steps-alike steps subs (max-right (expr_reach part level) (steps_reach steps level) n w) h.1,
    )

    arms-alike : {m : _} (arms : Row_of-Arm m) (subs : List Kind) (kind : Kind) → arms_reach arms level ≤ n → ArmsHave scopes subs arms kind →
        ArmsHave others subs arms kind
    arms-alike end_of-Arm subs kind w h = h
    arms-alike (more_of-Arm condition arm arms) subs kind w h =
        let own = max-left (max (expr_reach condition level) (expr_reach arm level)) (arms_reach arms level) n w in
        record {
          condition = expr-alike condition subs Boolean (max-left (expr_reach condition level) (expr_reach arm level) n own) h.condition;
          arm = expr-alike arm subs kind (max-right (expr_reach condition level) (expr_reach arm level) n own) h.arm;
          others = arms-alike arms subs kind (max-right (max (expr_reach condition level) (expr_reach arm level)) (arms_reach arms level) n w) h.others;
        }

  items-alike : (items : List Item) (subs : List Kind) → items_reach items level ≤ n → ItemsForm scopes subs items → ItemsForm others subs items
  items-alike items subs w h k d inside =
      let item = slice_index_or items k d in
      expr-alike item.expr subs item.kind (one_within (λ (i : Item). expr_reach i.expr level) items n w k d inside) (h k d inside)

  argument-alike : (function : AggFn) (argument : Option Expr) (kind : Kind) → option_reach argument level ≤ n → aggr_form function argument scopes kind →
      aggr_form function argument others kind
  argument-alike CountRows None kind w h = h
  argument-alike CountRows (Some argument) kind w h = h
  argument-alike Count None kind w h = h
  argument-alike Count (Some argument) kind w h =
      record { argument = record { shared = h.argument.shared; parts = expr-alike argument [] h.argument.shared w h.argument.parts }; gives = h.gives }
  argument-alike CountDistinct None kind w h = h
  argument-alike CountDistinct (Some argument) kind w h =
      record { argument = record { shared = h.argument.shared; parts = expr-alike argument [] h.argument.shared w h.argument.parts }; gives = h.gives }
  argument-alike Sum None kind w h = h
  argument-alike Sum (Some argument) kind w h = (expr-alike argument [] Integer w h.0, h.1)
  argument-alike Min None kind w h = h
  argument-alike Min (Some argument) kind w h = (expr-alike argument [] kind w h.0, h.1)
  argument-alike Max None kind w h = h
  argument-alike Max (Some argument) kind w h = (expr-alike argument [] kind w h.0, h.1)

  aggregates-alike : (aggregates : List Aggr) → aggregates_reach aggregates level ≤ n → AggregatesForm scopes aggregates → AggregatesForm others aggregates
  aggregates-alike aggregates w h k d inside =
      let aggregate = slice_index_or aggregates k d in
      argument-alike aggregate.function aggregate.argument aggregate.kind
      (one_within (λ (a : Aggr). option_reach a.argument level) aggregates n w k d inside) (h k d inside)

  tested-alike : (kind : SubKind) (tested : Option Expr) (kinds : List Kind) → option_reach tested level ≤ n → sub_form kind tested scopes kinds →
      sub_form kind tested others kinds
  tested-alike sub.Exists None kinds w h = h
  tested-alike sub.Exists (Some tested) kinds w h = h
  tested-alike (sub.Any c) None kinds w h = h
  tested-alike (sub.Any c) (Some tested) kinds w h =
      record { column = h.column; one = h.one; compared = expr-alike tested [] h.column w h.compared }
  tested-alike (sub.All c) None kinds w h = h
  tested-alike (sub.All c) (Some tested) kinds w h =
      record { column = h.column; one = h.one; compared = expr-alike tested [] h.column w h.compared }
  tested-alike sub.Scalar None kinds w h = h
  tested-alike sub.Scalar (Some tested) kinds w h = h

-- ---- queries

mutual
  pub formed-alike : (q : Query) (level n : ℕ) (outer others : List (List Kind)) → query_reach q (suc level) ≤ n → AlikeKinds level n outer others →
      WellFormed outer q → WellFormed others q
  formed-alike (Table id kinds) level n outer others w same h = h
  formed-alike Single level n outer others w same h = h
  formed-alike (BaseOf input places label) level n outer others w same h =
      record { input = formed-alike input level n outer others w same h.input; in_range = h.in_range; named = h.named }
  formed-alike (FilterOf input condition _ subs) level n outer others w same h =
      let beyond = suc level in
      let own = max-left (max (query_reach input beyond) (expr_reach condition beyond)) (subs_reach subs beyond) n w in
      let further = one_further level n (kinds_of input) outer others same in
      record {
        input = formed-alike input level n outer others (max-left (query_reach input beyond) (expr_reach condition beyond) n own) same h.input;
        subs = subs-alike subs level n (kinds_of input) outer others (max-right (max (query_reach input beyond) (expr_reach condition beyond)) (subs_reach subs beyond) n w) same h.subs;
        condition = expr-alike beyond n (kinds_of input ∷ outer) (kinds_of input ∷ others) further condition _ Boolean
            (max-right (query_reach input beyond) (expr_reach condition beyond) n own) h.condition;
      }
  formed-alike (ProjectOf input items _ subs) level n outer others w same h =
      let beyond = suc level in
      let own = max-left (max (query_reach input beyond) (items_reach items beyond)) (subs_reach subs beyond) n w in
      let further = one_further level n (kinds_of input) outer others same in
      record {
        input = formed-alike input level n outer others (max-left (query_reach input beyond) (items_reach items beyond) n own) same h.input;
        subs = subs-alike subs level n (kinds_of input) outer others (max-right (max (query_reach input beyond) (items_reach items beyond)) (subs_reach subs beyond) n w) same h.subs;
        items = items-alike beyond n (kinds_of input ∷ outer) (kinds_of input ∷ others) further items _
            (max-right (query_reach input beyond) (items_reach items beyond) n own) h.items;
      }
  formed-alike (JoinOf kind first second condition _ subs) level n outer others w same h =
      let beyond = suc level in
      let inputs = max (query_reach first beyond) (query_reach second beyond) in
      let own = max-left (max inputs (expr_reach condition beyond)) (subs_reach subs beyond) n w in
      let sides = max-left inputs (expr_reach condition beyond) n own in
      let kinds = kinds_of first ++ kinds_of second in
      record {
        left = formed-alike first level n outer others (max-left (query_reach first beyond) (query_reach second beyond) n sides) same h.left;
        right = formed-alike second level n outer others (max-right (query_reach first beyond) (query_reach second beyond) n sides) same h.right;
        subs = subs-alike subs level n kinds outer others (max-right (max inputs (expr_reach condition beyond)) (subs_reach subs beyond) n w) same h.subs;
        condition = expr-alike beyond n (kinds ∷ outer) (kinds ∷ others) (one_further level n kinds outer others same) condition _ Boolean
            (max-right inputs (expr_reach condition beyond) n own) h.condition;
      }
  formed-alike (ApplyOf kind first second) level n outer others w same h =
      let here = query_reach first (suc level) in
      let inside = query_reach second (suc (suc level)) in
      record {
        left = formed-alike first level n outer others (max-left here inside n w) same h.left;
        right = formed-alike second (suc level) n (kinds_of first ∷ outer) (kinds_of first ∷ others) (max-right here inside n w)
            (one_further level n (kinds_of first) outer others same) h.right;
        dependent = h.dependent;
      }
  formed-alike (UnionOf all first second) level n outer others w same h =
      record {
        left_side = formed-alike first level n outer others (max-left (query_reach first (suc level)) (query_reach second (suc level)) n w) same h.left_side;
        right_side = formed-alike second level n outer others (max-right (query_reach first (suc level)) (query_reach second (suc level)) n w) same h.right_side;
        same_kinds = h.same_kinds;
      }
  formed-alike (IntersectOf all first second) level n outer others w same h =
      record {
        left_side = formed-alike first level n outer others (max-left (query_reach first (suc level)) (query_reach second (suc level)) n w) same h.left_side;
        right_side = formed-alike second level n outer others (max-right (query_reach first (suc level)) (query_reach second (suc level)) n w) same h.right_side;
        same_kinds = h.same_kinds;
      }
  formed-alike (ExceptOf all first second) level n outer others w same h =
      record {
        left_side = formed-alike first level n outer others (max-left (query_reach first (suc level)) (query_reach second (suc level)) n w) same h.left_side;
        right_side = formed-alike second level n outer others (max-right (query_reach first (suc level)) (query_reach second (suc level)) n w) same h.right_side;
        same_kinds = h.same_kinds;
      }
  formed-alike (DistinctOf input) level n outer others w same h = formed-alike input level n outer others w same h
  formed-alike (AggregateOf input groups aggregates) level n outer others w same h =
      record {
        input = formed-alike input level n outer others (max-left (query_reach input (suc level)) (aggregates_reach aggregates (suc level)) n w) same h.input;
        groups = h.groups;
        aggregates = aggregates-alike (suc level) n (kinds_of input ∷ outer) (kinds_of input ∷ others) (one_further level n (kinds_of input) outer others same) aggregates
            (max-right (query_reach input (suc level)) (aggregates_reach aggregates (suc level)) n w) h.aggregates;
      }
  formed-alike (LimitOf input keys count) level n outer others w same h =
      record { input = formed-alike input level n outer others w same h.input; keys = h.keys; bound = h.bound }
  formed-alike (ProvOf input) level n outer others w same h = formed-alike input level n outer others w same h

  subs-alike : {m : _} (subs : Row_of-Sublink m) (level n : ℕ) (kinds : List Kind) (outer others : List (List Kind)) → subs_reach subs (suc level) ≤ n →
      AlikeKinds level n outer others → SubsForm (kinds ∷ outer) subs → SubsForm (kinds ∷ others) subs
  subs-alike end_of-Sublink level n kinds outer others w same h = h
  subs-alike (more_of-Sublink kind tested query subs) level n kinds outer others w same h =
      let here = option_reach tested (suc level) in
      let inside = query_reach query (suc (suc level)) in
      let own = max-left (max here inside) (subs_reach subs (suc level)) n w in
      let further = one_further level n kinds outer others same in
      record {
        query = formed-alike query (suc level) n (kinds ∷ outer) (kinds ∷ others) (max-right here inside n own) further h.query;
        fitting = tested-alike (suc level) n (kinds ∷ outer) (kinds ∷ others) further kind tested (kinds_of query) (max-left here inside n own) h.fitting;
        others = subs-alike subs level n kinds outer others (max-right (max here inside) (subs_reach subs (suc level)) n w) same h.others;
      }
