-- The names that a script makes, and which of them are spelt nearly like one that is refused. No bytes stand for no name.
use Rattle.std.specs.Prelude.{ℕ, nat_lt, Bool, not, ◌&&◌, ◌||◌, cond, List, [], ◌∷◌, ◌++◌, length, take, drop, codes}
use Rattle.std.specs.Str.{bytes_eq}
use Rattle.refusal_hints.specs.Advice.{or_else}
use Rattle.refusal_hints.specs.Distance.{is_near}
use Rattle.refusal_hints.specs.Words.{pieces, word_at}

abbrev pub is_maker : List ℕ → Bool
is_maker word = bytes_eq word (codes "table") || bytes_eq word (codes "view") || bytes_eq word (codes "as")

abbrev pub is_kind : List ℕ → Bool
is_kind word = bytes_eq word (codes "integer") || bytes_eq word (codes "int") || bytes_eq word (codes "bigint") || bytes_eq word (codes "text")

-- of two words that stand one behind the other: the second, where the first is TABLE, VIEW or AS; otherwise the first, where the second
-- is a kind of columns
abbrev pub made_name : List ℕ → List ℕ → List ℕ
made_name before word = cond (is_maker before) word (cond (is_kind word) before [])

-- the names that pieces of a script make behind a word
abbrev pub names : List ℕ → List (List ℕ) → List (List ℕ)
names before [] = []
names before (piece ∷ pieces) = made_name before piece ∷ names (or_else piece before) pieces

-- the word behind a point that stands right behind the word at a place
abbrev pub column_at : List ℕ → ℕ → List ℕ
column_at script at =
    let behind = drop (length (word_at script at)) (drop at script) in
    cond (bytes_eq (take 1 behind) (codes ".")) (word_at behind 1) []

-- a name that is spelt nearly like one of two words, and is neither of these nor of two names that were found
abbrev pub is_wanted : List ℕ → List ℕ → List ℕ → List ℕ → List ℕ → Bool
is_wanted item column found more name =
    nat_lt 0 (length name) && (is_near item name || is_near column name)
    && not (bytes_eq name item || bytes_eq name column || bytes_eq name found || bytes_eq name more)

-- the first of some names that is wanted
abbrev pub first_wanted : (List ℕ → Bool) → List (List ℕ) → List ℕ
first_wanted wanted [] = []
first_wanted wanted (name ∷ names) = cond (wanted name) name (first_wanted wanted names)

-- the first name of the script that is spelt nearly like what stands at a place, besides two
abbrev pub near_name : List ℕ → ℕ → List ℕ → List ℕ → List ℕ
near_name script at found more =
    first_wanted (is_wanted (word_at script at) (column_at script at) found more) (names [] (pieces script))

abbrev pub listed : List ℕ → List ℕ
listed name = cond (nat_lt 0 (length name)) (codes ", " ++ name) []

abbrev pub listing : List ℕ → List ℕ → List ℕ → List ℕ
listing first second third =
    cond (nat_lt 0 (length first)) (codes "names that are spelt nearly so: " ++ first ++ listed second ++ listed third) []

-- at most three names that are spelt nearly like what stands at a place, in the order of their first appearance
abbrev pub near_names : List ℕ → ℕ → List ℕ
near_names script at =
    let first = near_name script at [] [] in
    let second = near_name script at first [] in
    listing first second (near_name script at first second)
