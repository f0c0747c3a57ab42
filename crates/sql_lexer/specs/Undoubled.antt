-- What stands between two quotes.
use Rattle.std.specs.Prelude.{ℕ, if◌then◌else◌, ◌==◌, List, [], ◌∷◌}

-- the characters between quotes, of which each quote among them is written twice
unfoldable pub undoubled : ℕ → List ℕ → List ℕ
undoubled quote [] = []
undoubled quote (b ∷ []) = b ∷ []
undoubled quote (b ∷ c ∷ rest) = if b == quote then b ∷ undoubled quote rest else b ∷ undoubled quote (c ∷ rest)
