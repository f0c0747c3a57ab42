-- How the columns that a query gives are called, and what tables are called.
use Rattle.std.specs.Prelude.{ℕ, Bool, List, [], ◌∷◌, ◌==◌, Option, find, unwrap_or}
use Rattle.tree_texts.specs.expressions.Names.{column_name}
use Rattle.query_texts.specs.declared.clauses.tables.TableNames.{TableNames}

-- what the columns of a query begin with that stands in no other
abbrev pub outermost : List ℕ
outermost = 99 ∷ []

-- of a query within another
abbrev pub deeper : List ℕ → List ℕ
deeper prefix = 99 ∷ prefix

-- how the columns that a query gives are called: by a prefix, and numbers from the first on
pub record Naming : Type 0 where
  pub prefix : List ℕ
  pub first : ℕ

abbrev pub naming : List ℕ → ℕ → Naming
naming prefix first = record { prefix = prefix; first = first }

abbrev pub own : List ℕ → Naming
own prefix = naming prefix 1

-- a query without columns gives one, which is read nowhere
abbrev pub unread : List ℕ → List ℕ
unread prefix = column_name prefix 0 0

-- what the names of the sources of a FROM begin with: the first is called so, any other by the number of its first column too
abbrev pub source_prefix : List ℕ
source_prefix = 116 ∷ []

-- ---- what tables are called

abbrev pub has_id : ℕ → TableNames → Bool
has_id id table = table.id == id

abbrev pub table_of : List TableNames → ℕ → Option TableNames
table_of tables id = find (has_id id) tables

-- a table that has no names has empty ones
abbrev pub nameless : ℕ → TableNames
nameless id = record { id = id; name = []; columns = [] }

abbrev pub names_of : List TableNames → ℕ → TableNames
names_of tables id = unwrap_or (table_of tables id) (nameless id)
