-- What is tried at a place: a text for each sort of tokens that the grammar tells apart.
use Rattle.std.specs.Borrow.{Bor}
use Rattle.std.specs.List.{list_any}
use Rattle.std.specs.Prelude.{ℕ, Bool, List, [], ◌∷◌, codes, map}
use Rattle.std.specs.Str.{bytes_eq, str_to_ascii_lowercase}
use Rattle.sql_tree.specs.declared.grammar.sort.Sort.{Sort}

-- the texts of a table
abbrev pub texts_of : List (Bor (List ℕ)) → List (List ℕ)
texts_of table = map (λ text. text.now) table

-- a name, a number and a text
abbrev pub values : List (List ℕ)
values = codes "x" ∷ codes "1" ∷ codes "''" ∷ []

-- the reserved words, those first that begin a statement or a clause
abbrev pub words : List (List ℕ)
words =
    codes "SELECT" ∷ codes "FROM" ∷ codes "WHERE" ∷ codes "GROUP" ∷ codes "HAVING" ∷ codes "ORDER" ∷ codes "LIMIT" ∷
    codes "CREATE" ∷ codes "INSERT" ∷ codes "DELETE" ∷ codes "DROP" ∷ codes "TABLE" ∷ codes "INTO" ∷ codes "VALUES" ∷
    codes "AS" ∷ codes "ON" ∷ codes "BY" ∷ codes "JOIN" ∷ codes "AND" ∷ codes "OR" ∷ codes "NOT" ∷ codes "IS" ∷
    codes "IN" ∷ codes "BETWEEN" ∷ codes "LIKE" ∷ codes "NULL" ∷ codes "CASE" ∷ codes "WHEN" ∷ codes "THEN" ∷
    codes "ELSE" ∷ codes "END" ∷ codes "EXISTS" ∷ codes "CAST" ∷ codes "TRUE" ∷ codes "FALSE" ∷ codes "UNKNOWN" ∷
    codes "DISTINCT" ∷ codes "ALL" ∷ codes "ANY" ∷ codes "SOME" ∷ codes "ASC" ∷ codes "DESC" ∷ codes "UNION" ∷
    codes "INTERSECT" ∷ codes "EXCEPT" ∷ codes "LEFT" ∷ codes "RIGHT" ∷ codes "FULL" ∷ codes "INNER" ∷
    codes "OUTER" ∷ codes "CROSS" ∷ codes "PROVENANCE" ∷ codes "BASERELATION" ∷ []

-- the words that may be names
abbrev pub names : List (List ℕ)
names =
    codes "COPY" ∷ codes "EXPLAIN" ∷ codes "SHOW" ∷ codes "IMPACT" ∷ codes "VIEW" ∷ codes "REWRITE" ∷ codes "FRESH" ∷
    codes "HEADER" ∷ codes "OF" ∷ codes "LATERAL" ∷ codes "INTEGER" ∷ codes "TEXT" ∷ codes "INT" ∷ codes "BIGINT" ∷
    codes "BOOLEAN" ∷ codes "COUNT" ∷ codes "SUM" ∷ codes "MIN" ∷ codes "MAX" ∷ codes "COALESCE" ∷ codes "NULLIF" ∷ []

abbrev pub operators : List (List ℕ)
operators =
    codes "=" ∷ codes "<>" ∷ codes "<" ∷ codes "<=" ∷ codes ">" ∷ codes ">=" ∷ codes "+" ∷ codes "-" ∷ codes "*" ∷
    codes "/" ∷ codes "%" ∷ []

abbrev pub marks : List (List ℕ)
marks = codes "(" ∷ codes ")" ∷ codes "," ∷ codes "." ∷ codes ";" ∷ []

-- one of the texts, in small letters, is what the grammar's entry is for
abbrev pub is_tried : List (List ℕ) → List ℕ × Sort → Bool
is_tried texts entry = list_any (bytes_eq entry.0) (map str_to_ascii_lowercase texts)
