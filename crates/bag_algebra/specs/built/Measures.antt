-- The measures of the children of a node, on plain lists of them.
use Rattle.std.specs.Prelude.{ℕ, ◌+◌, max, List, [], ◌∷◌}
use Rattle.bag_algebra.specs.Measures.{height_of, size_of}
use Rattle.bag_algebra.specs.declared.query.Query.{Query}
use Rattle.bag_algebra.specs.declared.query.Sublink.{Sublink}

-- the highest of the queries
abbrev pub inputs_height : List Query → ℕ
inputs_height [] = 0
inputs_height (query ∷ queries) = max (height_of query) (inputs_height queries)

-- the highest of the sublinks' queries
abbrev pub subs_height : List Sublink → ℕ
subs_height [] = 0
subs_height (sub ∷ subs) = max (height_of sub.query) (subs_height subs)

-- the operators of the queries
abbrev pub inputs_size : List Query → ℕ
inputs_size [] = 0
inputs_size (query ∷ queries) = size_of query + inputs_size queries

-- the operators of the sublinks' queries
abbrev pub subs_size : List Sublink → ℕ
subs_size [] = 0
subs_size (sub ∷ subs) = size_of sub.query + subs_size subs
