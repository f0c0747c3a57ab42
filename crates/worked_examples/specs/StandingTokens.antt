-- What is said of tokens that could stand, worked out.
use Rattle.std.specs.Prelude.{◌≡◌, ◌++◌, [], ◌∷◌, refl, codes}
use Rattle.refusal_tokens.specs.Hints.{line, standing_list}

-- behind FROM
one-by-one : standing_list (codes "x" ∷ []) [] [] (codes "(" ∷ []) ≡ codes ", a name, ("
one-by-one = refl

-- eight are told one by one
eight : standing_list (codes "1" ∷ codes "''" ∷ []) (codes "ON" ∷ codes "AS" ∷ []) (codes "=" ∷ []) (codes "," ∷ codes "." ∷ codes ";" ∷ [])
    ≡ codes ", a number, a text, ON, AS, =, a comma, a point, a semicolon"
eight = refl

-- of more the kinds of words and of operators, with three examples at most
kinds : standing_list (codes "x" ∷ codes "1" ∷ codes "''" ∷ []) (codes "NOT" ∷ codes "NULL" ∷ codes "CASE" ∷ codes "EXISTS" ∷ [])
    (codes "-" ∷ codes "*" ∷ []) (codes "(" ∷ [])
    ≡ codes ", a name, a number, a text, a word such as NOT or NULL or CASE, an operator such as - or *, ("
kinds = refl

-- a kind of which nothing could stand isn't told
no-words : standing_list [] [] (codes "=" ∷ codes "<>" ∷ codes "<" ∷ codes "<=" ∷ codes ">" ∷ codes ">=" ∷ codes "+" ∷ []) (codes ")" ∷ codes ";" ∷ [])
    ≡ codes ", an operator such as = or <> or <, ), a semicolon"
no-words = refl

one-line : line (codes ", BY") ≡ codes "hint: here could stand: BY\n"
one-line = refl

no-line : line [] ≡ []
no-line = refl
