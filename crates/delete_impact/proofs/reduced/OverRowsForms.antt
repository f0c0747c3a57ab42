-- A monotone query over some rows of a table: its columns, its form and the tables that it reads.
use Rattle.std.proofs.Common.{◌≡◌, ℕ, Bool, true, false, cond, ◌==◌, ◌&&◌, List, [], ◌∷◌, refl, sym, subst}
use mathlib.Core.Bool.{true≢false}
use Rattle.std.proofs.lemmas.Bool.{eqb-true}
use Rattle.null_logic.specs.declared.truth.Truth.TheVariants.{True, False}
use Rattle.perm_values.specs.declared.kind.Kind.{Kind}
use Rattle.perm_values.specs.declared.kind.Kind.TheVariants.{Boolean}
use Rattle.bag_algebra.proofs.TablesRead.{each_table-kept, each_table-from_told}
use Rattle.bag_algebra.proofs.Truths.{both-true, left-true, right-true}
use Rattle.bag_algebra.specs.Kinds.{kinds_of}
use Rattle.bag_algebra.specs.Rewriting.{is_plain, subs_plain}
use Rattle.bag_algebra.specs.Scoped.{no_subs}
use Rattle.bag_algebra.specs.TablesRead.{EachTable}
use Rattle.bag_algebra.specs.WellFormed.{WellFormed, HasKind}
use Rattle.bag_algebra.specs.built.Openings.{IsTruth-is}
use Rattle.bag_algebra.specs.built.Patterns.{BaseOf, FilterOf, ProjectOf, JoinOf, ApplyOf, UnionOf, IntersectOf, ExceptOf, DistinctOf, AggregateOf, LimitOf, ProvOf}
use Rattle.bag_algebra.specs.declared.expr.Expr.{Expr}
use Rattle.bag_algebra.specs.declared.expr.Expr.TheVariants.{IsTruth}
use Rattle.bag_algebra.specs.declared.query.JoinKind.TheVariants.{Inner, Left, Right, Full}
use Rattle.bag_algebra.specs.declared.query.Query.{Query, Row_of-Sublink, more_of-Sublink, end_of-Sublink}
use Rattle.bag_algebra.specs.declared.query.Query.TheVariants.{Table, Single}
use Rattle.query_facts.specs.monotone.Monotone.{is_monotone, is_relation, is_whole_table}
use Rattle.query_facts.proofs.Nodes.{whole_table-is}
use Rattle.query_laws.specs.replaced.OverQueries.{over_queries, sub_over_queries, HasColumns}
use Rattle.query_laws.proofs.KeptColumns.{kinds-over}
use Rattle.query_laws.proofs.KeptForms.{formed-over}
use Rattle.query_laws.proofs.OwnTables.{over-own_tables}
use Rattle.query_laws.proofs.TablesInPlace.{each_table-over}
use Rattle.delete_impact.specs.reduced.Reduced.{not_true, rows_of, over_rows}

-- ---- plain

module _ (at : ℕ → List Kind → Query) (plain : (id : ℕ) (kinds : List Kind) → is_plain (at id kinds) ≡ true) where
  plain-subs : {m : _} (subs : Row_of-Sublink m) → no_subs subs ≡ true → subs_plain (sub_over_queries at subs) ≡ true
  plain-subs end_of-Sublink e = refl
  plain-subs (more_of-Sublink kind tested query subs) e = absurd (true≢false (sym e))

  plain-source : (input : Query) → ((id : ℕ) × (kinds : List Kind) × (input ≡ Table id kinds)) → is_plain (over_queries at input) ≡ true
  plain-source input table = subst (λ source. is_plain (over_queries at source) ≡ true) (sym table.2) (plain table.0 table.1)

  pub plain-over : (q : Query) → is_monotone q ≡ true → is_plain (over_queries at q) ≡ true
  plain-over (Table id kinds) m = plain id kinds
  plain-over Single m = refl
  plain-over (BaseOf input places label) m = plain-source input (whole_table-is input places (right-true (is_relation label) (is_whole_table input places) m))
  plain-over (FilterOf input condition _ subs) m =
      both-true (is_plain (over_queries at input)) (subs_plain (sub_over_queries at subs)) (plain-over input (right-true (no_subs subs) (is_monotone input) m))
      (plain-subs subs (left-true (no_subs subs) (is_monotone input) m))
  plain-over (ProjectOf input items _ subs) m =
      both-true (is_plain (over_queries at input)) (subs_plain (sub_over_queries at subs)) (plain-over input (right-true (no_subs subs) (is_monotone input) m))
      (plain-subs subs (left-true (no_subs subs) (is_monotone input) m))
  plain-over (JoinOf Inner left right condition _ subs) m =
      let none = left-true (no_subs subs) (is_monotone left && is_monotone right) m in
      let sides = right-true (no_subs subs) (is_monotone left && is_monotone right) m in
      both-true (is_plain (over_queries at left) && is_plain (over_queries at right)) (subs_plain (sub_over_queries at subs))
      (both-true (is_plain (over_queries at left)) (is_plain (over_queries at right)) (plain-over left (left-true (is_monotone left) (is_monotone right) sides))
      (plain-over right (right-true (is_monotone left) (is_monotone right) sides))) (plain-subs subs none)
  plain-over (JoinOf Left left right condition _ subs) m = absurd (true≢false (sym m))
  plain-over (JoinOf Right left right condition _ subs) m = absurd (true≢false (sym m))
  plain-over (JoinOf Full left right condition _ subs) m = absurd (true≢false (sym m))
  plain-over (ApplyOf kind left right) m = absurd (true≢false (sym m))
  plain-over (UnionOf all left right) m =
      both-true (is_plain (over_queries at left)) (is_plain (over_queries at right)) (plain-over left (left-true (is_monotone left) (is_monotone right) m))
      (plain-over right (right-true (is_monotone left) (is_monotone right) m))
  plain-over (IntersectOf all left right) m = absurd (true≢false (sym m))
  plain-over (ExceptOf all left right) m = absurd (true≢false (sym m))
  plain-over (DistinctOf input) m = plain-over input m
  plain-over (AggregateOf input groups aggregates) m = absurd (true≢false (sym m))
  plain-over (LimitOf input keys count) m = absurd (true≢false (sym m))
  plain-over (ProvOf input) m = absurd (true≢false (sym m))

pub plain-monotone : (q : Query) → is_monotone q ≡ true → is_plain q ≡ true
plain-monotone q m =
    subst (λ p. is_plain p ≡ true) (over-own_tables Table q (each_table-from_told _ q (λ read h. refl))) (plain-over Table (λ id kinds. refl) q m)

-- ---- over the rows that meet a condition

not_true-formed : (scopes : List (List Kind)) (subs : List Kind) (e : Expr) → HasKind scopes subs e Boolean → HasKind scopes subs (not_true e) Boolean
not_true-formed scopes subs e h =
    subst (λ test. HasKind scopes subs test Boolean) (sym (IsTruth-is False (IsTruth True e)))
    (record { parts = subst (λ test. HasKind scopes subs test Boolean) (sym (IsTruth-is True e)) (record { parts = h; gives = refl }); gives = refl })

module _ (id : ℕ) (condition : Expr) where
  abbrev pub OnTables : Query → Type 0
  OnTables q = EachTable (λ other kinds. other ≡ id → HasKind (kinds ∷ []) [] condition Boolean) q

  pub not_true-on_tables : (q : Query) → OnTables q → EachTable (λ other kinds. other ≡ id → HasKind (kinds ∷ []) [] (not_true condition) Boolean) q
  not_true-on_tables q on =
      each_table-kept _ (λ other kinds. other ≡ id → HasKind (kinds ∷ []) [] (not_true condition) Boolean)
      (λ other kinds has same. not_true-formed (kinds ∷ []) [] condition (has same)) q on

  columns-where : (other : ℕ) (own : List Kind) (b : Bool) → HasColumns own (cond b (FilterOf (Table other own) condition [] end_of-Sublink) (Table other own))
  columns-where other own true = record { columns = refl; places = refl }
  columns-where other own false = record { columns = refl; places = refl }

  columns-rows : (q : Query) → EachTable (λ other own. HasColumns own (rows_of id condition other own)) q
  columns-rows q = each_table-from_told _ q (λ read h. columns-where read.id read.kinds (read.id == id))

  formed-where : (other : ℕ) (own : List Kind) (b : Bool) → (other == id) ≡ b → (other ≡ id → HasKind (own ∷ []) [] condition Boolean) →
      WellFormed [] (cond b (FilterOf (Table other own) condition [] end_of-Sublink) (Table other own))
  formed-where other own true e f = record { input = tt; subs = tt; condition = f (eqb-true other id e) }
  formed-where other own false e f = tt

  pub formed-over_rows : (q : Query) → OnTables q → WellFormed [] q → WellFormed [] (over_rows id condition q)
  formed-over_rows q on f =
      formed-over (rows_of id condition) q [] (columns-rows q)
      (each_table-kept _ (λ other own. WellFormed [] (rows_of id condition other own)) (λ other own has. formed-where other own (other == id) refl has) q on) f

  pub kinds-over_rows : (q : Query) → kinds_of (over_rows id condition q) ≡ kinds_of q
  kinds-over_rows q = kinds-over (rows_of id condition) q (columns-rows q)

  plain-where : (other : ℕ) (own : List Kind) (b : Bool) → is_plain (cond b (FilterOf (Table other own) condition [] end_of-Sublink) (Table other own)) ≡ true
  plain-where other own true = refl
  plain-where other own false = refl

  pub plain-over_rows : (q : Query) → is_monotone q ≡ true → is_plain (over_rows id condition q) ≡ true
  plain-over_rows q m = plain-over (rows_of id condition) (λ other own. plain-where other own (other == id)) q m

  module _ (P : ℕ → List Kind → Type 0) where
    tables-where : (other : ℕ) (own : List Kind) (b : Bool) → P other own → EachTable P (cond b (FilterOf (Table other own) condition [] end_of-Sublink) (Table other own))
    tables-where other own true p = (p, tt)
    tables-where other own false p = p

    pub tables-over_rows : (q : Query) → EachTable P q → EachTable P (over_rows id condition q)
    tables-over_rows q h =
        each_table-over (rows_of id condition) P q
        (each_table-kept _ (λ other own. EachTable P (rows_of id condition other own)) (λ other own p. tables-where other own (other == id) p) q h)
