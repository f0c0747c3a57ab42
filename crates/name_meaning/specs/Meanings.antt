-- What a part of a statement means where it stands: its breaks in their order, its kinds, and what it resolves to.
use Rattle.std.specs.Prelude.{ℕ, Bool, true, false, cond, List, [], ◌∷◌, ◌++◌, Option, Some, None}
use Rattle.perm_values.specs.declared.key.Key.{Key}
use Rattle.perm_values.specs.declared.kind.Kind.{Kind}
use Rattle.perm_values.specs.declared.kind.Kind.TheVariants.{Integer, Text, Boolean}
use Rattle.bag_algebra.specs.declared.expr.Expr.{Expr}
use Rattle.bag_algebra.specs.declared.query.Aggr.{Aggr}
use Rattle.bag_algebra.specs.declared.query.Query.{Query}
use Rattle.bag_algebra.specs.declared.query.Sublink.{Sublink}
use Rattle.name_meaning.specs.declared.answer.Break.{Break}
use Rattle.name_meaning.specs.declared.scope.Scope.{Scope}
use Rattle.name_meaning.specs.declared.rule.Rule.{Rule}

abbrev pub broken : Rule → ℕ → Break
broken rule at = record { rule = rule; at = at }

-- this break alone, where it is one
abbrev pub broken_if : Bool → Rule → ℕ → List Break
broken_if is_broken rule at = cond is_broken (broken rule at ∷ []) []

abbrev pub is_whole : List Break → Bool
is_whole [] = true
is_whole (first ∷ more) = false

-- the queries in the order of their first tokens, each with its number of columns; the tables and views that are named
pub record Inside : Type 0 where
  pub queries : List (ℕ × ℕ)
  pub names : List (List ℕ)

abbrev pub nothing_inside : Inside
nothing_inside = record { queries = []; names = [] }

abbrev pub both_inside : Inside → Inside → Inside
both_inside a b = record { queries = a.queries ++ b.queries; names = a.names ++ b.names }

-- ---- expressions

-- where an expression stands: the scopes from the inside out, and whether an aggregate or a sublink may stand here;
-- `argument`: in an argument of an aggregate
pub record Surroundings : Type 0 where
  pub scopes : List Scope
  pub aggregates : Bool
  pub sublinks : Bool
  pub argument : Bool

-- how many sublinks and aggregates of the clause stand before
pub record Before : Type 0 where
  pub subs : ℕ
  pub aggregates : ℕ

pub record Built : Type 0 where
  pub expr : Expr
  pub subs : List Sublink
  pub aggregates : List Aggr

-- no kind is the kind Any; such an expression is made at the kind that is wanted of it
pub record Meant : Type 0 where
  pub breaks : List Break
  pub kind : Option Kind
  pub inside : Inside
  pub make : Kind → Before → Built

-- what breaks counts as Any in what stands around it
abbrev pub seen_kind : Meant → Option Kind
seen_kind m = cond (is_whole m.breaks) m.kind None

-- an expression with its offset, whether an aggregate of its own core stands in it, and the name that it gives a column
pub record Part : Type 0 where
  pub at : ℕ
  pub aggregating : Bool
  pub called : Option (List ℕ)
  pub means : Surroundings → Meant

-- what an expression means where it stands; a word that proofs open where they need it
unfoldable pub means_at : Part → Surroundings → Meant
means_at part here = part.means here

-- ---- queries

-- where a query stands: the scopes around its cores, and whether the word PROVENANCE may stand behind its first SELECT
pub record Around : Type 0 where
  pub outer : List Scope
  pub may_ask : Bool

pub record OutColumn : Type 0 where
  pub name : List ℕ
  pub kind : Option Kind

-- the columns where they are known; the places of the provenance columns, exactly where provenance is asked for; the
-- keys of ORDER BY; the query with its columns of kind Any at the kinds that are wanted of them
pub record QueryMeant : Type 0 where
  pub breaks : List Break
  pub columns : Option (List OutColumn)
  pub places : Option (List ℕ)
  pub keys : List Key
  pub inside : Inside
  pub make : List Kind → Query

pub record QueryPart : Type 0 where
  pub at : ℕ
  pub means : Around → QueryMeant

-- what a query means where it stands
unfoldable pub query_means_at : QueryPart → Around → QueryMeant
query_means_at query around = query.means around

-- ---- kinds

abbrev pub is_same_kind : Kind → Kind → Bool
is_same_kind Integer Integer = true
is_same_kind Integer Text = false
is_same_kind Integer Boolean = false
is_same_kind Text Integer = false
is_same_kind Text Text = true
is_same_kind Text Boolean = false
is_same_kind Boolean Integer = false
is_same_kind Boolean Text = false
is_same_kind Boolean Boolean = true

-- Any unites with every kind, and a kind with itself
abbrev pub unites : Option Kind → Option Kind → Bool
unites None other = true
unites (Some kind) None = true
unites (Some kind) (Some other) = is_same_kind kind other

abbrev pub united_kind : Option Kind → Option Kind → Option Kind
united_kind None other = other
united_kind (Some kind) other = Some kind

-- Any takes the kind that is wanted
abbrev pub settled : Option Kind → Kind → Kind
settled None wanted = wanted
settled (Some kind) wanted = kind
