-- When a text says what an answer means.
use Rattle.std.specs.Prelude.{◌≡◌, ℕ, Bool, true, not, ◌||◌, List, [], ◌∷◌, ◌++◌, Some, codes}
use Rattle.std.specs.List.{list_all}
use Rattle.std.specs.Option.{option_map}
use Rattle.sql_lexer.specs.declared.token.Token.{Token}
use Rattle.sql_tree.specs.grammar.Building.{is}
use Rattle.sql_tree.specs.grammar.Symbols as n
use Rattle.sql_tree.specs.declared.grammar.sort.Sort.TheVariants as s
use Rattle.sql_parser.specs.Texts.{IsTextOf}
use Rattle.sql_tree.specs.declared.query.QueryTree.{QueryTree}
use Rattle.sql_tree.specs.declared.statement.Script.{Script}
use Rattle.sql_tree.specs.declared.statement.StatementBody.TheVariants.{Select}
use Rattle.bag_algebra.specs.Fits.{bag_fits}
use Rattle.bag_algebra.specs.Meaning.{Database, meaning}
use Rattle.bag_algebra.specs.Rewriting.{is_plain, SameRows}
use Rattle.bag_algebra.specs.declared.query.Answer.{Answer}
use Rattle.perm_catalog.specs.Changes.{table_named}
use Rattle.perm_catalog.specs.Columns.{column_kinds}
use Rattle.perm_catalog.specs.Contents.{Contents}
use Rattle.perm_catalog.specs.declared.entries.TableEntry.{TableEntry}
use Rattle.name_meaning.specs.Statements.{answer_of, name_breaks, query_meant}

-- the database gives each table of the catalog rows of its kinds
abbrev pub GivesTables : Contents → Database → Type 0
GivesTables c db = (name : List ℕ) (table : TableEntry) → table_named c name ≡ Some table
    → bag_fits (db table.id) (column_kinds table.columns) ≡ true

-- the same columns and keys, and on every such database the same rows, as often, or the same faults
pub record MeansTheSame (c : Contents) (answer other : Answer) : Type 0 where
  pub names : answer.names ≡ other.names
  pub keys : answer.keys ≡ other.keys
  pub rows : (db : Database) → GivesTables c db → SameRows (meaning answer.query db []) (meaning other.query db [])

-- neither PROVENANCE nor BASERELATION
abbrev pub is_plain_word : Token → Bool
is_plain_word token = not (is token s.Provenance || is token s.BaseRelation)

-- what a query is read as over the catalog
abbrev pub read_as : Contents → QueryTree → Answer
read_as c tree = answer_of (query_meant c tree)

-- a script whose one statement is the query, with the offset of its first token
abbrev pub one_select : ℕ → QueryTree → Script
one_select at tree = record { statements = record { at = at; body = Select tree } ∷ [] }

-- no view, and no table but with the columns that the catalog's table of its name has
pub record AreTablesOf (c tables : Contents) : Type 0 where
  pub no_view : tables.views ≡ []
  pub columns : (name : List ℕ) (table : TableEntry) → table_named tables name ≡ Some table
      → option_map (λ (own : TableEntry). own.columns) (table_named c name) ≡ Some table.columns

-- the query names tables of the catalog, and no view: it breaks no rule where there is nothing but such tables
pub record NamesTables (c : Contents) (tree : QueryTree) : Type 0 where
  pub tables : Contents
  pub are : AreTablesOf c tables
  pub whole : name_breaks tables (Select tree) ≡ []

-- the text is one query without these words, ended by `;` and a newline, which names tables alone, breaks no rule of names and
-- kinds, and is read as what is without PROVENANCE and means the same
pub record Explains (c : Contents) (answer : Answer) (text : List ℕ) : Type 0 where
  pub start : ℕ
  pub tree : QueryTree
  pub spelled : IsTextOf n.ScriptOf text (one_select start tree)
  pub plain : list_all is_plain_word spelled.tokens ≡ true
  pub front : List ℕ
  pub ended : text ≡ front ++ codes ";\n"
  pub tables : NamesTables c tree
  pub whole : name_breaks c (Select tree) ≡ []
  pub plainly : is_plain (read_as c tree).query ≡ true
  pub means : MeansTheSame c answer (read_as c tree)
