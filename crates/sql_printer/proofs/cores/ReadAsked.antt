-- Sublinks as they are read: EXISTS, a value, and a left operand beside a query.
use Rattle.std.proofs.Common.{◌≡◌, ℕ, ◌+◌, true, cond, not, List, [], ◌∷◌, ◌++◌, length, Option, Some, None, refl, ap, ◌∙◌}
use Rattle.std.proofs.lemmas.Option.{none-some}
use Rattle.null_logic.specs.declared.operator.Operator.TheVariants as op
use Rattle.perm_values.specs.declared.kind.Kind.{Kind}
use Rattle.perm_values.specs.declared.kind.Kind.TheVariants as kinds
use Rattle.bag_algebra.specs.WellFormed.{ArmsHave, HasKind, PartsHave, StepsHave}
use Rattle.bag_algebra.specs.built.Patterns.{OpOf, ChainOf, CaseOf, IsNullOf, IsTruthOf, SameOf}
use Rattle.bag_algebra.specs.declared.expr.Expr.{Expr, Row_of-Expr, Row_of-Arm, Row_of-ChainStep, more_of-Expr, end_of-Expr, more_of-Arm, end_of-Arm, more_of-ChainStep, end_of-ChainStep}
use Rattle.bag_algebra.specs.declared.expr.Expr.TheVariants.{Col, Lit, Chain, Case, Same, Sub, IsNull}
use Rattle.bag_algebra.specs.declared.query.Query.{Query}
use Rattle.bag_algebra.specs.declared.query.SubKind.{SubKind}
use Rattle.bag_algebra.specs.declared.query.SubKind.TheVariants as ask
use Rattle.perm_catalog.specs.Contents.{Contents}
use Rattle.sql_tree.specs.declared.expression.ExprTree.{ExprTree}
use Rattle.sql_tree.specs.declared.query.QueryTree.{QueryTree}
use Rattle.name_meaning.proofs.Forms.{means-exists, means-scalar}
use Rattle.name_meaning.specs.Meanings.{QueryMeant, Surroundings, broken, broken_if, is_whole, means_at, settled, unites}
use Rattle.name_meaning.specs.Sublinks.{around_of, breaking, exists_meant, first_kind, in_tested, is_one_column, scalar_meant, tested_built, tested_kind, tested_looked, tested_meant, tested_unlooked}
use Rattle.name_meaning.specs.Trees.{part_of, query_of}
use Rattle.name_meaning.specs.declared.rule.Rule.TheVariants as rule
use Rattle.tree_texts.specs.Forms as f
use Rattle.tree_texts.specs.Forms.{QueryForm}
use Rattle.tree_texts.specs.Trees.{IsExpr, IsQuery, exists_tree, scalar_tree}
use Rattle.sql_printer.specs.rows.PrintedExpressions.{asked_in, asked_in_arms, printed_arms, printed_expr, printed_operator, printed_parts, printed_steps, printed_test}
use Rattle.sql_printer.specs.expressions.Reading.{IsRead, built}
use Rattle.sql_printer.proofs.expressions.ReadParts.{read-same, read-seen, same-itself}
use Rattle.sql_printer.specs.cores.Queries.{QueryRead, out_columns}

-- ---- what has no sublinks is printed alike wherever it stands

module _ (scopes : List (List Kind)) (unread : List ℕ) where
  mutual
    pub printed-anywhere : (e : Expr) (kind : Kind) → HasKind scopes [] e kind → (n m : ℕ) → printed_expr unread n e ≡ printed_expr unread m e
    printed-anywhere (Col level place) kind h n m = refl
    printed-anywhere (Lit v own) kind h n m = refl
    printed-anywhere (OpOf op.And _ parts) kind h n m = ap (printed_operator op.And) (parts-anywhere parts kinds.Boolean h.parts n m)
    printed-anywhere (OpOf op.Or _ parts) kind h n m = ap (printed_operator op.Or) (parts-anywhere parts kinds.Boolean h.parts n m)
    printed-anywhere (OpOf op.Not _ parts) kind h n m = ap (printed_operator op.Not) (parts-anywhere parts kinds.Boolean h.parts n m)
    printed-anywhere (OpOf op.Negate _ parts) kind h n m = ap (printed_operator op.Negate) (parts-anywhere parts kinds.Integer h.parts n m)
    printed-anywhere (OpOf (op.Compare c) _ parts) kind h n m = ap (printed_operator (op.Compare c)) (parts-anywhere parts h.parts.shared h.parts.parts n m)
    printed-anywhere (OpOf (op.Arith c) _ parts) kind h n m = absurd h
    printed-anywhere (OpOf op.Like _ parts) kind h n m = ap (printed_operator op.Like) (parts-anywhere parts kinds.Text h.parts n m)
    printed-anywhere (OpOf op.Between _ parts) kind h n m = ap (printed_operator op.Between) (parts-anywhere parts h.parts.shared h.parts.parts n m)
    printed-anywhere (OpOf op.InList _ parts) kind h n m = ap (printed_operator op.InList) (parts-anywhere parts h.parts.shared h.parts.parts n m)
    printed-anywhere (OpOf op.Coalesce _ parts) kind h n m = ap (printed_operator op.Coalesce) (parts-anywhere parts kind h.parts n m)
    printed-anywhere (OpOf op.NullIf _ parts) kind h n m = ap (printed_operator op.NullIf) (parts-anywhere parts kind h.parts n m)
    printed-anywhere (ChainOf first _ steps) kind h n m =
        λ i. Chain (printed-anywhere first kinds.Integer h.first n m i) (steps-anywhere steps h.steps (n + length (asked_in first)) (m + length (asked_in first)) i)
    printed-anywhere (CaseOf _ arms otherwise) kind h n m =
        λ i. Case (arms-anywhere arms kind h.arms n m i) (printed-anywhere otherwise kind h.otherwise (n + length (asked_in_arms arms)) (m + length (asked_in_arms arms)) i)
    printed-anywhere (Sub number) kind h n m = absurd (none-some kind h)
    printed-anywhere (IsNullOf part) kind h n m = ap IsNull (printed-anywhere part h.parts.shared h.parts.parts n m)
    printed-anywhere (IsTruthOf t part) kind h n m = ap (printed_test t) (printed-anywhere part kinds.Boolean h.parts n m)
    printed-anywhere (SameOf first second) kind h n m =
        λ i. Same (printed-anywhere first h.parts.shared h.parts.parts.0 n m i)
        (printed-anywhere second h.parts.shared h.parts.parts.1 (n + length (asked_in first)) (m + length (asked_in first)) i)

    parts-anywhere : {k : _} (parts : Row_of-Expr k) (kind : Kind) → PartsHave scopes [] parts kind → (n m : ℕ) → printed_parts unread n parts ≡ printed_parts unread m parts
    parts-anywhere end_of-Expr kind h n m = refl
    parts-anywhere (more_of-Expr part parts) kind h n m =
        λ i. printed-anywhere part kind h.0 n m i ∷ parts-anywhere parts kind h.1 (n + length (asked_in part)) (m + length (asked_in part)) i

    steps-anywhere : {k : _} (steps : Row_of-ChainStep k) → StepsHave scopes [] steps → (n m : ℕ) → printed_steps unread n steps ≡ printed_steps unread m steps
    steps-anywhere end_of-ChainStep h n m = refl
    steps-anywhere (more_of-ChainStep operation part steps) h n m =
        λ i. record { op = operation; part = printed-anywhere part kinds.Integer h.0 n m i }
        ∷ steps-anywhere steps h.1 (n + length (asked_in part)) (m + length (asked_in part)) i

    arms-anywhere : {k : _} (arms : Row_of-Arm k) (kind : Kind) → ArmsHave scopes [] arms kind → (n m : ℕ) → printed_arms unread n arms ≡ printed_arms unread m arms
    arms-anywhere end_of-Arm kind h n m = refl
    arms-anywhere (more_of-Arm condition arm arms) kind h n m =
        λ i. record {
          condition = printed-anywhere condition kinds.Boolean h.condition n m i;
          value = printed-anywhere arm kind h.arm (n + length (asked_in condition)) (m + length (asked_in condition)) i;
        } ∷ arms-anywhere arms kind h.others (n + length (asked_in condition) + length (asked_in arm)) (m + length (asked_in condition) + length (asked_in arm)) i

-- ---- queries of sublinks

module _ (c : Contents) (here : Surroundings) (standing : here.sublinks ≡ true) (q : QueryForm) (names : List (List ℕ)) (columns : List Kind) (query : Query)
    (read : (tree : QueryTree) → IsQuery q tree → QueryRead ((query_of c tree).means (around_of here)) names columns query) where
  abbrev inner_query : QueryTree → QueryMeant
  inner_query tree = (query_of c tree).means (around_of here)

  pub exists-read : {tree : ExprTree} → IsExpr (f.exists q) tree
      → IsRead ((part_of c tree).means here) kinds.Boolean (λ n. Sub n) (record { kind = ask.Exists; tested = None; query = query } ∷ [])
  unfolding means_at
  exists-read {tree = tree} (exists_tree {x = y} d is) =
      let m = inner_query y in
      let r = read y d in
      read-same ((part_of c tree).means here) (exists_meant here (query_of c y).at m) kinds.Boolean (λ n. Sub n) (record { kind = ask.Exists; tested = None; query = query } ∷ [])
      (means-exists c here tree y is ∙ ap (λ b. cond b (exists_meant here (query_of c y).at m) (breaking rule.MisplacedSublink tree.at (Some kinds.Boolean))) standing)
      (record {
        breaks = r.breaks;
        kind_is = refl;
        make = λ wanted before. ap (λ made. built (Sub before.subs) (record { kind = ask.Exists; tested = None; query = made } ∷ [])) (r.make []);
      })

  -- of one column
  module _ (name : List ℕ) (kind : Kind) (named : names ≡ name ∷ []) (one : columns ≡ kind ∷ []) where
    one_column-is : (tree : QueryTree) → IsQuery q tree → (inner_query tree).columns ≡ Some (record { name = name; kind = Some kind } ∷ [])
    one_column-is tree d = (read tree d).columns ∙ (λ i. Some (out_columns (named i) (one i)))

    first_kind-is : (tree : QueryTree) → IsQuery q tree → first_kind (inner_query tree) ≡ Some kind
    first_kind-is tree d =
        λ i. cond (is_whole ((read tree d).breaks i)) (elim (one_column-is tree d i) as (λ _. Option Kind) [ None ↦ None | Some found ↦ elim found as (λ _. Option Kind) [ [] ↦ None | first ∷ more ↦ first.kind ] ]) None

    pub scalar-read : {tree : ExprTree} → IsExpr (f.scalar q) tree
        → IsRead ((part_of c tree).means here) kind (λ n. Sub n) (record { kind = ask.Scalar; tested = None; query = query } ∷ [])
    unfolding means_at
    scalar-read {tree = tree} (scalar_tree {x = y} d is) =
        let m = inner_query y in
        let r = read y d in
        let at = (query_of c y).at in
        read-same ((part_of c tree).means here) (scalar_meant here at m) kind (λ n. Sub n) (record { kind = ask.Scalar; tested = None; query = query } ∷ [])
        (means-scalar c here tree y is ∙ ap (λ b. cond b (scalar_meant here at m) (breaking rule.MisplacedSublink tree.at None)) standing)
        (record {
          breaks = λ i. r.breaks i ++ broken_if (not (is_one_column (one_column-is y d i))) rule.UnfitWidth at;
          kind_is = first_kind-is y d;
          make = λ wanted before. ap (λ made. built (Sub before.subs) (record { kind = ask.Scalar; tested = None; query = made } ∷ [])) (r.make (settled (first_kind m) wanted ∷ []));
        })

    -- beside a left operand, which has no sublinks
    pub looked-read : (sub : SubKind) (x : ExprTree) (y : QueryTree) (at : ℕ) (made : ℕ → Expr) (e : Expr) → IsQuery q y
        → IsRead ((part_of c x).means (in_tested here)) kind made [] → ((n : ℕ) → made n ≡ e)
        → IsRead (tested_meant here at sub (part_of c x) (query_of c y)) kinds.Boolean (λ n. Sub n) (record { kind = sub; tested = Some e; query = query } ∷ [])
    looked-read sub x y at made e d own same =
        let m = inner_query y in
        let r = read y d in
        let part = (part_of c x).means (in_tested here) in
        let query_at = (query_of c y).at in
        let common = tested_kind part m in
        read-same (tested_meant here at sub (part_of c x) (query_of c y)) (tested_looked sub part query_at m) kinds.Boolean (λ n. Sub n)
        (record { kind = sub; tested = Some e; query = query } ∷ [])
        (ap (λ b. cond b (tested_looked sub part query_at m) (tested_unlooked at part)) standing)
        (record {
          breaks = (λ i. own.breaks i ++ r.breaks i ++ cond (is_one_column (one_column-is y d i))
              (broken_if (not (unites (read-seen part kind made [] own i) (first_kind-is y d i))) rule.UnfitKind query_at) (broken rule.UnfitWidth query_at ∷ []))
              ∙ ap (λ b. broken_if (not b) rule.UnfitKind query_at) (same-itself kind);
          kind_is = refl;
          make = λ wanted before.
              (λ i. tested_built sub common (own.make common before i) before m)
              ∙ (λ i. built (Sub before.subs) (record { kind = sub; tested = Some (same before.subs i); query = r.make (common ∷ []) i } ∷ []));
        })
