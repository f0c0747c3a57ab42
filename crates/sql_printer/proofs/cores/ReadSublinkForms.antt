-- The form of each sublink is read as the sublink.
use Rattle.std.proofs.Common.{◌≡◌, ℕ, suc, Bool, true, false, cond, List, [], ◌∷◌, ◌++◌, Option, Some, None, option_map, refl, sym, ap, subst, ◌∙◌, arith}
use Rattle.std.specs.Fmt.{decimal}
use Rattle.null_logic.specs.declared.compare.Compare.{Compare}
use Rattle.null_logic.specs.declared.compare.Compare.TheVariants as compare
use Rattle.perm_values.specs.declared.kind.Kind.{Kind}
use Rattle.perm_values.specs.declared.kind.Kind.TheVariants as kinds
use Rattle.bag_algebra.specs.Kinds.{kind_in}
use Rattle.bag_algebra.specs.WellFormed.{HasKind, sub_form, sub_kind}
use Rattle.bag_algebra.specs.declared.expr.Expr.{Expr}
use Rattle.bag_algebra.specs.declared.expr.Expr.TheVariants.{Sub}
use Rattle.bag_algebra.specs.declared.query.Query.{Query}
use Rattle.bag_algebra.specs.declared.query.SubKind.{SubKind}
use Rattle.bag_algebra.specs.declared.query.SubKind.TheVariants as ask
use Rattle.perm_catalog.specs.Contents.{Contents}
use Rattle.sql_tree.specs.declared.expression.ExprTree.{ExprTree}
use Rattle.sql_tree.specs.declared.query.QueryTree.{QueryTree}
use Rattle.name_meaning.proofs.Forms.{means-inquery, means-quantified}
use Rattle.name_meaning.specs.Expressions.{in_kind}
use Rattle.name_meaning.specs.Meanings.{Surroundings, means_at}
use Rattle.name_meaning.specs.Sublinks.{around_of, in_tested, tested_meant}
use Rattle.name_meaning.specs.Trees.{part_of, query_of}
use Rattle.tree_texts.specs.Forms as f
use Rattle.tree_texts.specs.Forms.{QueryForm}
use Rattle.tree_texts.specs.Trees.{IsCompound, IsExpr, IsQuery, all_tree, any_tree, in_query_tree}
use Rattle.query_texts.specs.forms.ShownExpressions.{shown_expr}
use Rattle.query_texts.specs.forms.ShownQueries.{all_of, any_of, asked, tested_part}
use Rattle.sql_printer.specs.rows.Printed.{taken}
use Rattle.sql_printer.specs.rows.PrintedExpressions.{asked_in, printed_expr}
use Rattle.sql_printer.specs.rows.Writable.{Writable, WritableOption}
use Rattle.sql_printer.proofs.rows.AskedNumbers.{Below, asked-below}
use Rattle.sql_printer.proofs.rows.ShownRows.{shown_kinds}
use Rattle.sql_printer.specs.expressions.Reading.{Finds, IsRead}
use Rattle.sql_printer.specs.expressions.Scopes.{marks}
use Rattle.sql_printer.proofs.expressions.ReadExpressions.{expr-read}
use Rattle.sql_printer.proofs.expressions.ReadForms.{inside}
use Rattle.sql_printer.proofs.expressions.ReadParts.{read-same}
use Rattle.sql_printer.specs.cores.Queries.{QueryRead}
use Rattle.sql_printer.proofs.cores.ReadAsked.{exists-read, looked-read, printed-anywhere, scalar-read}
use Rattle.sql_printer.proofs.cores.ReadConditions.{SubRead, sublinks-found}
use Rattle.sql_printer.proofs.cores.ReadFroms.{listed_names}

pub none_taken : (numbers : List ℕ) → Below 0 numbers → taken [] numbers ≡ []
none_taken [] below = refl
none_taken (number ∷ numbers) below = let within = below.0 in absurd (omega (arith, within))

module _ (c : Contents) (depth : ℕ) (scopes : List (List Kind)) (unread : List ℕ) (here : Surroundings) (finds : Finds (marks depth) scopes unread here.scopes)
    (outside : here.argument ≡ false) (standing : here.sublinks ≡ true) (q : QueryForm) (own : List Kind) (query : Query)
    (read : (tree : QueryTree) → IsQuery q tree → QueryRead ((query_of c tree).means (around_of here)) (listed_names (suc depth) 1 own) (shown_kinds own) query) where
  -- a left operand
  operand-read : (part : Expr) (kind : Kind) → HasKind scopes [] part kind → Writable part → {tree : ExprTree} → IsExpr (shown_expr (marks depth) [] part) tree
      → IsRead ((part_of c tree).means (in_tested here)) kind (λ n. printed_expr unread n part) []
  operand-read part kind h w {tree = tree} d =
      subst (IsRead ((part_of c tree).means (in_tested here)) kind (λ n. printed_expr unread n part)) (none_taken (asked_in part) (asked-below scopes [] part kind h))
      (expr-read c (marks depth) [] [] scopes [] unread (in_tested here) finds (sublinks-found c (in_tested here) [] [] [] tt) outside part kind h w d)

  module _ (part : Expr) (kind : Kind) (h : HasKind scopes [] part kind) (w : Writable part) (one : own ≡ kind ∷ []) where
    beside-operand : (sub : SubKind) (x : ExprTree) (y : QueryTree) (at : ℕ) → IsExpr (shown_expr (marks depth) [] part) x → IsQuery q y
        → IsRead (tested_meant here at sub (part_of c x) (query_of c y)) kinds.Boolean (λ n. Sub n) (record { kind = sub; tested = Some (printed_expr unread 0 part); query = query } ∷ [])
    beside-operand sub x y at d e =
        looked-read c here standing q (listed_names (suc depth) 1 own) (shown_kinds own) query read (marks (suc depth) ++ decimal 1) kind (ap (listed_names (suc depth) 1) one)
        (ap shown_kinds one) sub x y at (λ n. printed_expr unread n part) (printed_expr unread 0 part) e (operand-read part kind h w d)
        (λ n. printed-anywhere scopes unread part kind h n 0)

    abbrev Result : SubKind → ExprTree → Type 0
    Result sub tree = IsRead ((part_of c tree).means here) kinds.Boolean (λ n. Sub n) (record { kind = sub; tested = Some (printed_expr unread 0 part); query = query } ∷ [])

    in-read : (negated : Bool) (sub : SubKind) → sub ≡ in_kind negated (cond negated compare.NotEqual compare.Equal) → {tree : ExprTree}
        → IsCompound (f.in_query negated (shown_expr (marks depth) [] part) q) tree → Result sub tree
    unfolding means_at
    in-read negated sub same {tree = tree} (in_query_tree {x = x} {y = y} d e is) =
        read-same ((part_of c tree).means here) (tested_meant here tree.at sub (part_of c x) (query_of c y)) kinds.Boolean (λ n. Sub n)
        (record { kind = sub; tested = Some (printed_expr unread 0 part); query = query } ∷ [])
        (means-inquery c here tree negated x y is ∙ ap (λ k. tested_meant here tree.at k (part_of c x) (query_of c y)) (sym same)) (beside-operand sub x y tree.at d e)

    any-read : (op : Compare) {tree : ExprTree} → IsCompound (f.any op (shown_expr (marks depth) [] part) q) tree → Result (ask.Any op) tree
    unfolding means_at
    any-read op {tree = tree} (any_tree {x = x} {y = y} d e is) =
        read-same ((part_of c tree).means here) (tested_meant here tree.at (ask.Any op) (part_of c x) (query_of c y)) kinds.Boolean (λ n. Sub n)
        (record { kind = ask.Any op; tested = Some (printed_expr unread 0 part); query = query } ∷ [])
        (means-quantified c here tree false op x y is) (beside-operand (ask.Any op) x y tree.at d e)

    all-read : (op : Compare) {tree : ExprTree} → IsCompound (f.all op (shown_expr (marks depth) [] part) q) tree → Result (ask.All op) tree
    unfolding means_at
    all-read op {tree = tree} (all_tree {x = x} {y = y} d e is) =
        read-same ((part_of c tree).means here) (tested_meant here tree.at (ask.All op) (part_of c x) (query_of c y)) kinds.Boolean (λ n. Sub n)
        (record { kind = ask.All op; tested = Some (printed_expr unread 0 part); query = query } ∷ [])
        (means-quantified c here tree true op x y is) (beside-operand (ask.All op) x y tree.at d e)

    in_parentheses : (sub : SubKind) (tree inner : ExprTree) → (part_of c tree).means here ≡ (part_of c inner).means here → Result sub inner → Result sub tree
    in_parentheses sub tree inner is r =
        read-same ((part_of c tree).means here) ((part_of c inner).means here) kinds.Boolean (λ n. Sub n)
        (record { kind = sub; tested = Some (printed_expr unread 0 part); query = query } ∷ []) is r

    any_of-read : (op : Compare) {tree : ExprTree} → IsExpr (any_of op (shown_expr (marks depth) [] part) q) tree → Result (ask.Any op) tree
    any_of-read compare.Equal {tree = tree} d = let i = inside c here d in in_parentheses (ask.Any compare.Equal) tree i.inner i.is (in-read false (ask.Any compare.Equal) refl i.compound)
    any_of-read compare.NotEqual {tree = tree} d = let i = inside c here d in in_parentheses (ask.Any compare.NotEqual) tree i.inner i.is (any-read compare.NotEqual i.compound)
    any_of-read compare.Less {tree = tree} d = let i = inside c here d in in_parentheses (ask.Any compare.Less) tree i.inner i.is (any-read compare.Less i.compound)
    any_of-read compare.LessEqual {tree = tree} d = let i = inside c here d in in_parentheses (ask.Any compare.LessEqual) tree i.inner i.is (any-read compare.LessEqual i.compound)
    any_of-read compare.Greater {tree = tree} d = let i = inside c here d in in_parentheses (ask.Any compare.Greater) tree i.inner i.is (any-read compare.Greater i.compound)
    any_of-read compare.GreaterEqual {tree = tree} d = let i = inside c here d in in_parentheses (ask.Any compare.GreaterEqual) tree i.inner i.is (any-read compare.GreaterEqual i.compound)

    all_of-read : (op : Compare) {tree : ExprTree} → IsExpr (all_of op (shown_expr (marks depth) [] part) q) tree → Result (ask.All op) tree
    all_of-read compare.Equal {tree = tree} d = let i = inside c here d in in_parentheses (ask.All compare.Equal) tree i.inner i.is (all-read compare.Equal i.compound)
    all_of-read compare.NotEqual {tree = tree} d = let i = inside c here d in in_parentheses (ask.All compare.NotEqual) tree i.inner i.is (in-read true (ask.All compare.NotEqual) refl i.compound)
    all_of-read compare.Less {tree = tree} d = let i = inside c here d in in_parentheses (ask.All compare.Less) tree i.inner i.is (all-read compare.Less i.compound)
    all_of-read compare.LessEqual {tree = tree} d = let i = inside c here d in in_parentheses (ask.All compare.LessEqual) tree i.inner i.is (all-read compare.LessEqual i.compound)
    all_of-read compare.Greater {tree = tree} d = let i = inside c here d in in_parentheses (ask.All compare.Greater) tree i.inner i.is (all-read compare.Greater i.compound)
    all_of-read compare.GreaterEqual {tree = tree} d = let i = inside c here d in in_parentheses (ask.All compare.GreaterEqual) tree i.inner i.is (all-read compare.GreaterEqual i.compound)

  -- each kind of sublink
  pub sublink-read : (kind : SubKind) (tested : Option Expr) → sub_form kind tested scopes own → WritableOption tested
      → SubRead c here (asked kind (tested_part (marks depth) tested) q) (record { kind = kind; tested = option_map (printed_expr unread 0) tested; query = query }) (sub_kind kind own)
  sublink-read ask.Exists None form w tree d = exists-read c here standing q (listed_names (suc depth) 1 own) (shown_kinds own) query read d
  sublink-read ask.Exists (Some part) form w tree d = absurd form
  sublink-read (ask.Any op) None form w tree d = absurd form
  sublink-read (ask.Any op) (Some part) form w tree d = any_of-read part form.column form.compared w form.one op d
  sublink-read (ask.All op) None form w tree d = absurd form
  sublink-read (ask.All op) (Some part) form w tree d = all_of-read part form.column form.compared w form.one op d
  sublink-read ask.Scalar None form w tree d =
      subst (λ k. IsRead ((part_of c tree).means here) k (λ n. Sub n) (record { kind = ask.Scalar; tested = None; query = query } ∷ [])) (ap (λ all. kind_in all 0) (sym form.one))
      (scalar-read c here standing q (listed_names (suc depth) 1 own) (shown_kinds own) query read (marks (suc depth) ++ decimal 1) form.column (ap (listed_names (suc depth) 1) form.one)
      (ap shown_kinds form.one) d)
  sublink-read ask.Scalar (Some part) form w tree d = absurd form
