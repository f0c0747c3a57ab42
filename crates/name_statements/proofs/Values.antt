-- Values of INSERT and the condition of DELETE, made alone.
use Rattle.std.specs.Prelude.{◌≡◌, ℕ, zero, suc, ◌+◌, ◌<◌, ◌≤◌, min, Bool, true, false, cond, nat_eq, List, [], ◌∷◌, ◌++◌, length, flat_map, IfOk, IsOkAnd, Some, Result, Ok, Err}
use Rattle.std.proofs.Common.{refl, ap, sym, subst, ◌∙◌, drop, get_or, append_assoc, append-nil, arith, inl, inr}
use Rattle.std.proofs.lemmas.Bool.{cases_lt}
use Rattle.std.proofs.Math.ListN.{drop_of_length-le}
use Rattle.bag_algebra.specs.declared.expr.Expr.{Expr}
use Rattle.name_statements.proofs.Broken.{value-before, value_break}
use Rattle.name_meaning.specs.nodes.Makes.{Makes, before_of, nothing_found}
use Rattle.name_meaning.specs.declared.nodes.within.Within.{Within}
use Rattle.name_meaning.specs.Meanings.{Meant, Surroundings, broken, means_at}
use Rattle.name_meaning.specs.Statements.{bare, condition_made, delete_breaks, made_alone, row_breaks, row_made, table_scope, values_breaks}
use Rattle.name_meaning.specs.Trees.{part_of}
use Rattle.name_meaning.specs.declared.answer.Break.{Break}
use Rattle.perm_catalog.specs.Contents.{Contents}
use Rattle.perm_values.specs.declared.kind.Kind.{Kind}
use Rattle.perm_values.specs.declared.kind.Kind.TheVariants as kind
use Rattle.perm_values.proofs.Lists.{front-none, back-none, dropped}
use Rattle.perm_catalog.specs.Columns.{column_kinds}
use Rattle.perm_catalog.specs.declared.column.Column.{Column}
use Rattle.perm_catalog.specs.declared.entries.TableEntry.{TableEntry}
use Rattle.sql_tree.specs.declared.expression.ExprTree.{ExprTree}
use Rattle.sql_tree.specs.declared.name.Name.{Name}
use Rattle.sql_tree.specs.declared.statement.ValuesRow.{ValuesRow}
use Rattle.name_meaning.specs.declared.rule.Rule.TheVariants as rule

-- ---- one value

-- what is made behind nothing
pub alone-is : (may : Bool) (m : Meant) (kind : Kind) (made : Expr) (old new : Within) → Makes may m kind made old new → old ≡ nothing_found → m.breaks ≡ []
    → made ≡ made_alone kind m
alone-is may m kind made old new makes nothing none =
    (makes.makes none).expr ∙ ap (λ (found : Within). (m.make kind (before_of found)).expr) nothing

-- the condition of DELETE
pub condition-alone : (c : Contents) (name : Name) (tree : ExprTree) (table : TableEntry) (here : Surroundings) (may : Bool) (made : Expr) (old new : Within)
    → Makes may (means_at (part_of c tree) here) kind.Boolean made old new → old ≡ nothing_found → here ≡ bare (table_scope name table ∷ [])
    → delete_breaks c name (Some tree) table ≡ [] → made ≡ condition_made c name tree table
condition-alone c name tree table here may made old new makes nothing same none =
    let m = means_at (part_of c tree) (bare (table_scope name table ∷ [])) in
    alone-is may m kind.Boolean made old new (subst (λ (h : Surroundings). Makes may (means_at (part_of c tree) h) kind.Boolean made old new) same makes) nothing
    (front-none m.breaks _ none)

-- ---- one of several that break nothing

drop-none : {X : Type 0} (f : X → List Break) (i : ℕ) (xs : List X) → flat_map f xs ≡ [] → flat_map f (drop i xs) ≡ []
drop-none f zero xs none = none
drop-none f (suc i) [] none = refl
drop-none f (suc i) (x ∷ xs) none = drop-none f i xs (back-none (f x) (flat_map f xs) none)

pub each-none : {X : Type 0} (f : X → List Break) (xs : List X) (i : ℕ) (x : X) → i < length xs → x ≡ get_or xs i x → flat_map f xs ≡ [] → f x ≡ []
each-none f xs i x within e none =
    front-none (f x) (flat_map f (drop (i + 1) xs)) (sym (ap (flat_map f) (dropped xs i x within e)) ∙ drop-none f i xs none)

-- ---- a row of values

pub row-whole : (c : Contents) (kinds : List Kind) (row : ValuesRow) → row_breaks c kinds row ≡ [] → values_breaks c kinds row.values ≡ []
row-whole c kinds row none = chosen (nat_eq (length row.values) (length kinds)) none where
  chosen : (b : Bool) → cond b (values_breaks c kinds row.values) (broken rule.UnfitWidth row.at ∷ []) ≡ [] → values_breaks c kinds row.values ≡ []
  chosen true none = none
  chosen false none = absurd (cc)

pub record RowSoFar (c : Contents) (columns : List Column) (values : List ExprTree) (at : ℕ) (made : List Expr) : Type 0 where
  pub so_far : row_made c (column_kinds columns) values ≡ made ++ row_made c (column_kinds (drop at columns)) (drop at values)
  pub whole : values_breaks c (column_kinds (drop at columns)) (drop at values) ≡ []

pub row-start : (c : Contents) (columns : List Column) (values : List ExprTree) (made : List Expr) → made ≡ [] → values_breaks c (column_kinds columns) values ≡ []
    → RowSoFar c columns values 0 made
row-start c columns values made nothing none = record {
  so_far = ap (λ (before : List Expr). before ++ row_made c (column_kinds columns) values) (sym nothing);
  whole = none;
}

module _ (c : Contents) (columns : List Column) (values : List ExprTree) (at : ℕ) (column : Column) (tree : ExprTree) (here : Surroundings) (made : List Expr) where
  abbrev pub own : Meant
  own = means_at (part_of c tree) (bare [])

  pub value-whole : here ≡ bare [] → at < length columns → column ≡ get_or columns at column → at < length values → tree ≡ get_or values at tree
      → RowSoFar c columns values at made → (means_at (part_of c tree) here).breaks ≡ []
  value-whole same within e within_too f row =
      subst (λ (h : Surroundings). (means_at (part_of c tree) h).breaks ≡ []) (sym same)
      (front-none own.breaks _ (front-none (value_break c column.kind tree) _ (sym (value-before c columns values at column tree within e within_too f) ∙ row.whole)))

  pub row-step : (new : List Expr) (expr : Expr) → here ≡ bare [] → at < length columns → column ≡ get_or columns at column → at < length values → tree ≡ get_or values at tree
      → RowSoFar c columns values at made → expr ≡ made_alone column.kind (means_at (part_of c tree) here) → new ≡ made ++ expr ∷ []
      → RowSoFar c columns values (at + 1) new
  row-step new expr same within e within_too f row is put = record {
    so_far =
        row.so_far
        ∙ (λ i. made ++ row_made c (column_kinds (dropped columns at column within e i)) (dropped values at tree within_too f i))
        ∙ sym (append_assoc made (made_alone column.kind own ∷ []) (row_made c (column_kinds (drop (at + 1) columns)) (drop (at + 1) values)))
        ∙ ap (λ (before : List Expr). before ++ row_made c (column_kinds (drop (at + 1) columns)) (drop (at + 1) values))
        (ap (λ (one : Expr). made ++ one ∷ []) (sym (is ∙ ap (λ (h : Surroundings). made_alone column.kind (means_at (part_of c tree) h)) same)) ∙ sym put);
    whole = back-none (value_break c column.kind tree) _ (sym (value-before c columns values at column tree within e within_too f) ∙ row.whole);
  }

  pub row-more : {E : Type 0} (new : List Expr) (value : Result Expr E) → here ≡ bare [] → at < length columns → column ≡ get_or columns at column → at < length values
      → tree ≡ get_or values at tree → RowSoFar c columns values at made → IfOk value (λ (expr : Expr). expr ≡ made_alone column.kind (means_at (part_of c tree) here))
      → IsOkAnd value (λ (expr : Expr). new ≡ made ++ expr ∷ []) → RowSoFar c columns values (at + 1) new
  row-more new (Ok expr) same within e within_too f row is put = row-step new expr same within e within_too f row is put
  row-more new (Err lack) same within e within_too f row is put = absurd put

no-values : (c : Contents) (kinds : List Kind) → row_made c kinds [] ≡ []
no-values c [] = refl
no-values c (k ∷ ks) = refl

row-none : (c : Contents) (columns : List Column) (values : List ExprTree) (at n : ℕ) → n ≡ min (length values) (length columns) → n ≤ at
    → row_made c (column_kinds (drop at columns)) (drop at values) ≡ []
row-none c columns values at n least past =
    elim (cases_lt (length values) (length columns)) [
      | inl shorter ↦
          ap (λ (more : List ExprTree). row_made c (column_kinds (drop at columns)) more) (drop_of_length-le values (omega (arith, shorter, least, past)))
          ∙ no-values c (column_kinds (drop at columns))
      | inr longer ↦ ap (λ (more : List Column). row_made c (column_kinds more) (drop at values)) (drop_of_length-le columns (omega (arith, longer, least, past)))
    ]

pub row-end : (c : Contents) (columns : List Column) (values : List ExprTree) (at n : ℕ) (made : List Expr) → n ≡ min (length values) (length columns) → n ≤ at
    → RowSoFar c columns values at made → made ≡ row_made c (column_kinds columns) values
row-end c columns values at n made least past row =
    sym (row.so_far ∙ ap (λ (behind : List Expr). made ++ behind) (row-none c columns values at n least past) ∙ append-nil made)
