-- A sublink on a row where it has a value: the rows of its query and of a rewriting of that, and what stands for it, under the
-- row and under one that agrees with it on the columns.
use Rattle.std.proofs.Common.{◌≡◌, true, List, [], ◌∷◌, ◌++◌, length, Option, Some, None, Contains, refl, sym, ap, ◌∙◌, subst, arith}
use Rattle.std.proofs.lemmas.Bool.{and_from}
use Rattle.perm_values.specs.declared.kind.Kind.{Kind}
use Rattle.perm_values.specs.declared.value.Value.{Value}
use Rattle.bag_algebra.proofs.BagLaws.{permuted-from_same_bag}
use Rattle.bag_algebra.proofs.Members.{IsIn, in-member}
use Rattle.bag_algebra.proofs.Outcomes.{both_then-parts}
use Rattle.bag_algebra.specs.Bags.{Row, Bag}
use Rattle.bag_algebra.specs.Fits.{env_fits, row_begins}
use Rattle.bag_algebra.specs.Kinds.{kinds_of, place_kinds, shape, width_of}
use Rattle.bag_algebra.specs.Meaning.{Database, meaning, witnesses, optional_value}
use Rattle.bag_algebra.specs.Means.{Means, Witness, flat, cell, sub_value}
use Rattle.bag_algebra.specs.Outcome.{Outcome, Good, Bad, both_then}
use Rattle.bag_algebra.specs.Rewriting.{IsRewrite, SameRows, Stands}
use Rattle.bag_algebra.specs.WellFormed.{sub_form}
use Rattle.bag_algebra.specs.declared.expr.Expr.{Expr}
use Rattle.bag_algebra.specs.declared.query.Query.{Query}
use Rattle.bag_algebra.specs.declared.query.SubKind.{SubKind}
use Rattle.bag_algebra.specs.declared.query.SubKind.TheVariants.{Exists, Any, All, Scalar}
use Rattle.bag_algebra.specs.declared.query.Sublink.{Sublink}
use Rattle.contribution.proofs.Growth.{denote-same, tested-same}
use Rattle.contribution.proofs.OrderOfQueries.{sub_value-permuted}
use Rattle.contribution.specs.Fitting.{Fitting}
use Rattle.contribution.specs.SameColumns.{SameColumns}
use Rattle.query_laws.proofs.SameExpressions.{optional-same}
use Rattle.query_laws.specs.SameExpressions.{SameOptional}
use Rattle.rewrite_core.proofs.JoinedOutcomes.{Related}
use Rattle.rewrite_core.proofs.KeptRewriting.{rewriting-related}
use Rattle.rewrite_core.proofs.KeptRows.{row-width, list-width}
use Rattle.rewrite_core.specs.rewritings.Rewritten.{Beside}
use Rattle.rewrite_sublink.proofs.Steps.{SubsFitting, HasValue}
use Rattle.rewrite_sublink.proofs.TestValues.{passes_of}

same-answer : (kind : SubKind) (x : Value) (vs : Bag) (o : Outcome Bag) → SameRows (Good vs) o → both_then (Good x) o (sub_value kind) ≡ sub_value kind x vs
same-answer kind x vs (Good ss) s = sym (sub_value-permuted kind x (permuted-from_same_bag vs ss s))
same-answer kind x vs (Bad f) s = absurd s

pub good-related : (R : Bag → Bag → Type 0) (vs : Bag) (o : Outcome Bag) → Related R (Good vs) o → (rs : Bag) × (o ≡ Good rs) × R vs rs
good-related R vs (Good rs) r = (rs, refl, r)
good-related R vs (Bad f) r = absurd r

cell-first : (v more : Row) → length v ≡ 1 → cell (v ++ more) ≡ cell v
cell-first [] more e = absurd (omega (arith, e))
cell-first (y ∷ v) more e = refl

-- what is compared stands in the row's first column
passes-first : (kind : SubKind) (tested : Option Expr) (scopes : List (List Kind)) (kinds : List Kind) → sub_form kind tested scopes kinds → (x : Value) (v more : Row) →
    length v ≡ length kinds → passes_of kind x (cell (v ++ more)) ≡ passes_of kind x (cell v)
passes-first Exists tested scopes kinds f x v more e = refl
passes-first (Any c) None scopes kinds f x v more e = absurd f
passes-first (Any c) (Some tested) scopes kinds f x v more e = ap (passes_of (Any c) x) (cell-first v more (e ∙ ap length f.one))
passes-first (All c) None scopes kinds f x v more e = absurd f
passes-first (All c) (Some tested) scopes kinds f x v more e = ap (passes_of (All c) x) (cell-first v more (e ∙ ap length f.one))
passes-first Scalar tested scopes kinds f x v more e = refl

module _ {columns : List Kind} {outer : List (List Kind)} {db : Database} {env : List Row} {sub : Sublink} (f : SubsFitting columns outer (sub ∷ []) db env)
    (b : Row) (begins : row_begins b columns ≡ true) (v : HasValue db env sub b) where
  -- the left operand, and the rows of the query
  pub parts : (x : Value) × (vs : Bag) × (optional_value sub.tested env b ≡ Good x) × (meaning sub.query db (b ∷ env) ≡ Good vs)
  parts = both_then-parts (optional_value sub.tested env b) (meaning sub.query db (b ∷ env)) (sub_value sub.kind) v.0 v.1

  abbrev pub x : Value
  x = parts.0

  abbrev pub vs : Bag
  vs = parts.1

  abbrev pub lists : Row → List Witness
  lists = witnesses sub.query db (b ∷ env)

  pub inner : Fitting (columns ∷ outer) sub.query db (b ∷ env)
  inner = record { formed = f.form.query; tables = f.tables.0; outer_rows = and_from (row_begins b columns) (env_fits env outer) begins f.outer_rows }

  pub wide : (row : Row) → IsIn row vs → length row ≡ width_of sub.query
  wide row h = row-width (columns ∷ outer) sub.query db (b ∷ env) inner vs row parts.3 (in-member row vs h)

  pub long : (row : Row) (w : Witness) → Contains (lists row) w → length (flat w) ≡ length (place_kinds (shape sub.query))
  long row w c = list-width (columns ∷ outer) sub.query db (b ∷ env) inner row w c

  pub first : (row more : Row) → IsIn row vs → passes_of sub.kind x (cell (row ++ more)) ≡ passes_of sub.kind x (cell row)
  first row more h = passes-first sub.kind sub.tested (columns ∷ outer) (kinds_of sub.query) f.form.fitting x row more (wide row h)

  module _ {r : Query} (rewritten : IsRewrite sub.query r) where
    pub rewriting-rows : (rs : Bag) × (meaning r db (b ∷ env) ≡ Good rs) × Beside lists vs rs
    rewriting-rows =
        good-related (Beside lists) vs (meaning r db (b ∷ env))
        (subst (λ o. Related (Beside lists) o (meaning r db (b ∷ env))) parts.3 (rewriting-related (columns ∷ outer) sub.query r db (b ∷ env) inner rewritten))

    pub rewriting-there : (z : Row) → SameColumns (columns ∷ outer) (b ∷ env) (z ∷ env) → meaning r db (z ∷ env) ≡ Good rewriting-rows.0
    rewriting-there z same =
        sym (ap (λ (m : Means). m.rows) (denote-same r (columns ∷ outer) db (b ∷ env) (z ∷ env) (rewritten.formed (columns ∷ outer) f.form.query) same)) ∙ rewriting-rows.1

  module _ (tested : Option Expr) (s : Query) (alike : SameOptional sub.tested tested) (stands : Stands sub.query s) (z : Row)
      (same : SameColumns (columns ∷ outer) (b ∷ env) (z ∷ env)) where
    pub tested-there : optional_value tested env z ≡ Good x
    tested-there =
        sym (optional-same sub.tested tested alike env z)
        ∙ sym (tested-same (columns ∷ outer) b z env env same sub.kind sub.tested (kinds_of sub.query) f.form.fitting)
        ∙ parts.2

    stand-rows : SameRows (Good vs) (meaning s db (z ∷ env))
    stand-rows =
        subst (SameRows (Good vs)) (ap (λ (m : Means). m.rows) (denote-same s (columns ∷ outer) db (b ∷ env) (z ∷ env) (stands.formed (columns ∷ outer) f.form.query) same))
        (subst (λ o. SameRows o (meaning s db (b ∷ env))) parts.3 (stands.rows (columns ∷ outer) db (b ∷ env) f.form.query f.tables.0 inner.outer_rows))

    pub stand-value : both_then (optional_value tested env z) (meaning s db (z ∷ env)) (sub_value sub.kind) ≡ sub_value sub.kind x vs
    stand-value =
        ap (λ o. both_then o (meaning s db (z ∷ env)) (sub_value sub.kind)) tested-there
        ∙ same-answer sub.kind x vs (meaning s db (z ∷ env)) stand-rows
