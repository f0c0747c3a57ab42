-- What a query is read as, and how the columns of one that was printed are called.
use Rattle.std.specs.Prelude.{◌≡◌, ℕ, suc, List, [], ◌∷◌, ◌++◌, Some, None}
use Rattle.std.specs.Fmt.{decimal}
use Rattle.perm_values.specs.declared.kind.Kind.{Kind}
use Rattle.bag_algebra.specs.declared.query.Query.{Query}
use Rattle.perm_catalog.specs.Contents.{Contents}
use Rattle.sql_tree.specs.declared.query.Core.{Core}
use Rattle.sql_tree.specs.declared.query.QueryTree.{QueryTree}
use Rattle.name_meaning.specs.Meanings.{Around, OutColumn, QueryMeant}
use Rattle.name_meaning.specs.Trees.{core_of, query_of}
use Rattle.tree_texts.specs.Forms.{CoreForm, QueryForm}
use Rattle.tree_texts.specs.Trees.{IsCore, IsQuery}
use Rattle.sql_printer.specs.expressions.Scopes.{marks}

abbrev pub out_columns : List (List ℕ) → List Kind → List OutColumn
out_columns [] kinds = []
out_columns (name ∷ names) [] = []
out_columns (name ∷ names) (kind ∷ kinds) = record { name = name; kind = Some kind } ∷ out_columns names kinds

-- a query breaks nothing, has these columns and is made to this query; it asks for no provenance
pub record QueryRead (m : QueryMeant) (names : List (List ℕ)) (kinds : List Kind) (q : Query) : Type 0 where
  pub breaks : m.breaks ≡ []
  pub columns : m.columns ≡ Some (out_columns names kinds)
  pub places : m.places ≡ None
  pub make : (wanted : List Kind) → m.make wanted ≡ q

-- each tree of a query's form is read as this query
abbrev pub FormRead : Contents → Around → List (List ℕ) → List Kind → QueryForm → Query → Type 0
FormRead c around names kinds form q = (tree : QueryTree) → IsQuery form tree → QueryRead ((query_of c tree).means around) names kinds q

-- and each tree of a core's form
abbrev pub CoreFormRead : Contents → Around → List (List ℕ) → List Kind → CoreForm → Query → Type 0
CoreFormRead c around names kinds form q = (tree : Core) → IsCore form tree → QueryRead ((core_of c tree).means around) names kinds q

-- names that are numbered from a number on
abbrev pub numbered_names : ℕ → ℕ → List Kind → List (List ℕ)
numbered_names depth number [] = []
numbered_names depth number (kind ∷ more) = (marks depth ++ decimal number) ∷ numbered_names depth (suc number) more
