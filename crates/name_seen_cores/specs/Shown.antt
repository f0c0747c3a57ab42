-- The columns that `*` and `x.*` show, and the names of columns.
use Rattle.std.specs.Prelude.{ℕ, List, [], ◌++◌, map, filter, Option, Some, codes, decimal}
use Rattle.std.specs.Option.{option_map_or}
use Rattle.perm_catalog.specs.Contents.{Contents}
use Rattle.sql_tree.specs.declared.expression.ExprTree.{ExprTree}
use Rattle.name_meaning.specs.Meanings.{OutColumn}
use Rattle.name_meaning.specs.Trees.{part_of}
use Rattle.name_meaning.specs.declared.scope.Scope.{Scope}
use Rattle.name_meaning.specs.declared.scope.ScopeColumn.{ScopeColumn}
use Rattle.name_seen_parts.specs.Stars.{is_of}

abbrev pub shown : ScopeColumn → OutColumn
shown column = record { name = column.name; kind = Some column.kind }

abbrev pub columns_shown : Option ℕ → Scope → List OutColumn
columns_shown item scope = map shown (filter (is_of item) scope.columns)

-- a column without a name of its own is named by its position
abbrev pub numbered : ℕ → List ℕ
numbered position = codes "column" ++ decimal position

abbrev pub name_or : ℕ → Option (List ℕ) → List ℕ
name_or position called = option_map_or (λ name. name) called (numbered position)

abbrev pub called_at : Contents → ℕ → ExprTree → List ℕ
called_at c position tree = name_or position (part_of c tree).called
