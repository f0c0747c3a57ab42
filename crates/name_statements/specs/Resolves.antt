-- What the code answers of a statement: what it resolves to where it breaks nothing, and otherwise the first break.
use Rattle.std.specs.Prelude.{◌≡◌, ℕ, true, cond, List, [], ◌++◌, length, Option, option_map, Result, Ok, Err}
use Rattle.perm_catalog.specs.Contents.{Contents}
use Rattle.bag_algebra.specs.declared.expr.Expr.{Expr}
use Rattle.bag_algebra.specs.declared.query.Query.{Query}
use Rattle.name_meaning.specs.nodes.Makes.{MakesQuery}
use Rattle.name_inside.specs.Held.{inside_in}
use Rattle.name_inside.specs.declared.gathered.Gathered.{Gathered}
use Rattle.query_facts.specs.monotone.Monotone.{is_monotone}
use Rattle.perm_catalog.specs.declared.entries.TableEntry.{TableEntry}
use Rattle.sql_tree.specs.declared.expression.ExprTree.{ExprTree}
use Rattle.sql_tree.specs.declared.name.Name.{Name}
use Rattle.sql_tree.specs.declared.statement.StatementBody.{StatementBody}
use Rattle.name_meaning.specs.Froms.{names_of}
use Rattle.name_meaning.specs.Meanings.{QueryMeant, broken_if, is_whole}
use Rattle.name_meaning.specs.Scopes.{KnownColumn}
use Rattle.name_meaning.specs.Statements.{answer_of, columns_of, condition_made, delete_breaks, has_boolean, impact_breaks, limit_breaks, name_breaks, query_limits, repeats, resolved_body, size_limit, stored_columns, table_limit, width_limit}
use Rattle.name_meaning.specs.declared.answer.Break.{Break}
use Rattle.name_meaning.specs.declared.answer.Resolved.{Resolved}
use Rattle.name_seen_parts.specs.Seen.{FirstOr}
use Rattle.name_seen_parts.specs.declared.refusal.Refusal.{Refusal}
use Rattle.name_statements.specs.declared.queries.Whole.{Whole}
use Rattle.name_meaning.specs.declared.rule.Rule.TheVariants as rule

pub record IsResolved (breaks : List Break) (wanted made : Resolved) : Type 0 where
  pub whole : breaks ≡ []
  pub is : made ≡ wanted

abbrev pub Resolves : List Break → Resolved → Result Resolved Refusal → Type 0
Resolves breaks wanted result = FirstOr breaks (IsResolved breaks wanted) result

-- the breaks of what a statement asks for
abbrev pub body_breaks : Contents → StatementBody → List Break
body_breaks c body = cond (is_whole (name_breaks c body)) (limit_breaks c body) (name_breaks c body)

abbrev pub ResolvesBody : Contents → StatementBody → Result Resolved Refusal → Type 0
ResolvesBody c body result = Resolves (body_breaks c body) (resolved_body c body) result

-- what a statement is made of, where it resolves to what is made of that
abbrev pub ResolvesBy : {A : Type 0} → Contents → StatementBody → (A → Resolved) → Result A Refusal → Type 0
ResolvesBy c body make (Ok part) = ResolvesBody c body (Ok (make part))
ResolvesBy c body make (Err refusal) = ResolvesBody c body (Err refusal)

-- what the columns of a query at this offset break as those of a table
abbrev pub stored_breaks : Name → ℕ → List KnownColumn → List Break
stored_breaks name at columns =
    broken_if (repeats (names_of columns)) rule.RepeatedColumn at ++ broken_if (has_boolean columns) rule.UnfitKind at ++ table_limit name (length columns)

-- ---- a query that breaks nothing

pub record IsWhole (at : ℕ) (m : QueryMeant) (whole : Whole) : Type 0 where
  pub within : query_limits at m ≡ []
  pub answer : whole.answer ≡ answer_of m
  pub places : whole.places ≡ m.places
  pub columns : whole.columns ≡ stored_columns (columns_of m)
  pub names : whole.names ≡ m.inside.names

abbrev pub WholeSeen : ℕ → QueryMeant → Result Whole Refusal → Type 0
WholeSeen at m result = FirstOr (query_limits at m) (IsWhole at m) result

-- ---- what stands inside a query that breaks nothing, none of it too wide

pub record IsInside (m : QueryMeant) (found : Gathered) : Type 0 where
  pub inside : inside_in found ≡ m.inside
  pub narrow : width_limit found.queries ≡ []

abbrev pub InsideSeen : ℕ → QueryMeant → Result Gathered Refusal → Type 0
InsideSeen at m result = FirstOr (query_limits at m) (IsInside m) result

-- ---- a query that breaks nothing, made, with what stands inside it

pub record IsWithin (at : ℕ) (m : QueryMeant) (made : Query) (found : Gathered) : Type 0 where
  pub inside : inside_in found ≡ m.inside
  pub narrow : width_limit found.queries ≡ []
  pub makes : MakesQuery m [] made
  pub small : size_limit at made ≡ []

abbrev pub WithinSeen : ℕ → QueryMeant → Result (Query × Gathered) Refusal → Type 0
WithinSeen at m result = FirstOr (query_limits at m) (λ both. IsWithin at m both.0 both.1) result

-- ---- the query of IMPACT

-- its own breaks, then whether it is monotone, then the limits
abbrev pub asked_breaks : ℕ → QueryMeant → List Break
asked_breaks at m = cond (is_whole (impact_breaks m.breaks at m)) (query_limits at m) (impact_breaks m.breaks at m)

pub record IsMonotoneMade (m : QueryMeant) (made : Query) : Type 0 where
  pub makes : MakesQuery m [] made
  pub monotone : is_monotone made ≡ true

abbrev pub MonotoneSeen : ℕ → QueryMeant → Result Query Refusal → Type 0
MonotoneSeen at m result = FirstOr (asked_breaks at m) (IsMonotoneMade m) result

pub record IsAsked (at : ℕ) (m : QueryMeant) (whole : Whole) : Type 0 where
  pub none : m.breaks ≡ []
  pub monotone : is_monotone (m.make []) ≡ true
  pub is : IsWhole at m whole

abbrev pub AskedSeen : ℕ → QueryMeant → Result Whole Refusal → Type 0
AskedSeen at m result = FirstOr (asked_breaks at m) (IsAsked at m) result

-- ---- the condition of DELETE and of IMPACT

pub record IsConditionMade (c : Contents) (name : Name) (condition : Option ExprTree) (table : TableEntry) (made : Option Expr) : Type 0 where
  pub whole : delete_breaks c name condition table ≡ []
  pub is : made ≡ option_map (λ (tree : ExprTree). condition_made c name tree table) condition

abbrev pub ConditionSeen : Contents → Name → Option ExprTree → TableEntry → Result (Option Expr) Refusal → Type 0
ConditionSeen c name condition table result = FirstOr (delete_breaks c name condition table) (IsConditionMade c name condition table) result
