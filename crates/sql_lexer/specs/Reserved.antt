-- The words that are names only where they are quoted: keywords of ISO/IEC 9075-2, and BASERELATION and PROVENANCE of
-- Glavic and Alonso (ICDE 2009). They are in lower case, as a word is held.
use Rattle.std.specs.Prelude.{ℕ, List, [], ◌∷◌, Contains, codes}

abbrev pub reserved_words : List (List ℕ)
reserved_words =
    codes "all" ∷ codes "and" ∷ codes "any" ∷ codes "as" ∷ codes "asc" ∷ codes "baserelation" ∷
    codes "between" ∷ codes "by" ∷ codes "case" ∷ codes "cast" ∷ codes "create" ∷ codes "cross" ∷
    codes "delete" ∷ codes "desc" ∷ codes "distinct" ∷ codes "drop" ∷ codes "else" ∷ codes "end" ∷
    codes "except" ∷ codes "exists" ∷ codes "false" ∷ codes "from" ∷ codes "full" ∷ codes "group" ∷
    codes "having" ∷ codes "in" ∷ codes "inner" ∷ codes "insert" ∷ codes "intersect" ∷ codes "into" ∷
    codes "is" ∷ codes "join" ∷ codes "left" ∷ codes "like" ∷ codes "limit" ∷ codes "not" ∷ codes "null" ∷
    codes "on" ∷ codes "or" ∷ codes "order" ∷ codes "outer" ∷ codes "provenance" ∷ codes "right" ∷
    codes "select" ∷ codes "some" ∷ codes "table" ∷ codes "then" ∷ codes "true" ∷ codes "union" ∷
    codes "unknown" ∷ codes "values" ∷ codes "when" ∷ codes "where" ∷ []

abbrev pub IsReserved : List ℕ → Type 0
IsReserved word = Contains reserved_words word
