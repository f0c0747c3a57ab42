-- Advice, looked up by a text.
use Rattle.std.specs.Prelude.{ℕ, ◌==◌, cond, List, [], ◌∷◌, length}
use Rattle.std.specs.Str.{bytes_eq}
use Rattle.refusal_hints.specs.declared.advice.Advised.{Advised}

-- a text in small letters, and what a person may do where the script is refused at it
pub record Row : Type 0 where
  pub text : List ℕ
  pub advice : List ℕ

abbrev pub row : List ℕ → List ℕ → Row
row text advice = record { text = text; advice = advice }

abbrev pub row_of : Advised → Row
row_of advised = row advised.text.now advised.advice.now

-- the advice of the first row of a text; none where no row is of it
abbrev pub advice_in : List Row → List ℕ → List ℕ
advice_in [] text = []
advice_in (row ∷ rows) text = cond (bytes_eq row.text text) row.advice (advice_in rows text)

-- the first, or where it is empty the second
abbrev pub or_else : List ℕ → List ℕ → List ℕ
or_else first second = cond (length first == 0) second first

-- the advice of the first of these texts that has some
abbrev pub first_advice : List Row → List (List ℕ) → List ℕ
first_advice rows [] = []
first_advice rows (text ∷ texts) = or_else (advice_in rows text) (first_advice rows texts)
