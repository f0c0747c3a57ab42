-- How deep a script nests: parentheses and CASEs that are open, of which 64 may be at once.
use Rattle.std.specs.Prelude.{ℕ, ◌+◌, ◌-◌, nat_lt, if◌then◌else◌, List, [], ◌∷◌, Option, Some, None}
use Rattle.sql_lexer.specs.declared.token.Token.{Token}
use Rattle.sql_tree.specs.grammar.Sorts.{sort_of, same_sort}
use Rattle.sql_tree.specs.declared.grammar.sort.Sort.{Sort}
use Rattle.sql_tree.specs.declared.grammar.sort.Sort.TheVariants as s

-- one more open where a token opens, one less, if there is one, where it closes
abbrev pub after : Sort → Sort → Sort → ℕ → ℕ
after opening closing sort open_now =
    if same_sort sort opening then open_now + 1 else (if same_sort sort closing then open_now - 1 else open_now)

-- the offset of the first token that opens more than a number of parentheses and CASEs, where some are open before
abbrev pub first_beyond : ℕ → ℕ → ℕ → List Token → Option ℕ
first_beyond limit parentheses cases [] = None
first_beyond limit parentheses cases (t ∷ ts) =
    let p = after s.Opening s.Closing (sort_of t) parentheses in
    let c = after s.Case s.End (sort_of t) cases in
    if nat_lt limit (p + c) then Some t.start else first_beyond limit p c ts

abbrev pub too_deep : List Token → Option ℕ
too_deep tokens = first_beyond 64 0 0 tokens
