-- What a person is advised where a script is refused.
use Rattle.std.specs.Prelude.{ℕ, ◌-◌, ◌==◌, nat_lt, cond, ◌||◌, List, [], ◌∷◌, length, take, drop, map, codes}
use Rattle.std.specs.Char.{to_ascii_lowercase}
use Rattle.refusal_hints.specs.Advice.{advice_in, first_advice, or_else}
use Rattle.refusal_hints.specs.Names.{near_names}
use Rattle.refusal_hints.specs.Tables.{name_texts, statement_words, texts}
use Rattle.refusal_hints.specs.Words.{pieces, statement_before, word_at, word_before}

-- capital letters count as small ones
abbrev pub small : List ℕ → List ℕ
small script = map to_ascii_lowercase script

-- a break of spelling: the first of these that the table has: the word at the place; the two bytes that begin there, or one before; the
-- word just before; the byte at the place. Otherwise the first word of the statement in front of the place that the second table has
abbrev pub spelling_advice : List ℕ → ℕ → List ℕ
spelling_advice script at =
    or_else
    (or_else
    (or_else (advice_in texts (word_at script at))
    (or_else (advice_in texts (take 2 (drop at script))) (advice_in texts (take 2 (drop (at - 1) script)))))
    (or_else (advice_in texts (word_before script at)) (advice_in texts (take 1 (drop at script)))))
    (first_advice statement_words (pieces (statement_before script at)))

abbrev pub fault_advice : ℕ → List ℕ
fault_advice code =
    cond (code == 30) (codes "x / NULLIF(y, 0) is NULL where y is 0")
    (cond (code == 32) (codes "MAX or MIN in the subquery gives one value, and IN and EXISTS take any number of rows") [])

-- what is advised whatever the script says
abbrev pub code_advice : ℕ → List ℕ
code_advice code =
    cond (code == 1) (codes "save the script as UTF-8")
    (cond (code == 12) (codes "write its item of FROM before it, as in item.column")
    (cond (code == 15) (codes "give it another name, as in FROM r x, r y")
    (cond (code == 20) (codes "kinds are never changed: '1' is a text, 1 an integer, 1 = 1 a truth value")
    (cond (code == 23) (codes "a condition on an aggregate stands in HAVING") (fault_advice code)))))

-- at a place, of a script in small letters
abbrev pub place_advice : ℕ → List ℕ → ℕ → List ℕ
place_advice code script at = cond (nat_lt code 10) (or_else (spelling_advice script at) (code_advice code)) (code_advice code)

-- a name that isn't there: what the third table has of the word or the byte at the place; otherwise names that are spelt nearly so
abbrev pub name_advice : List ℕ → ℕ → List ℕ
name_advice script at =
    or_else (or_else (advice_in name_texts (word_at script at)) (advice_in name_texts (take 1 (drop at script)))) (near_names script at)

-- where the script is refused with the code of this number at an offset
abbrev pub script_hint : ℕ → List ℕ → ℕ → List ℕ
script_hint code script at = cond ((code == 10) || (code == 11)) (name_advice (small script) at) (place_advice code (small script) at)
