-- Each script is split into tokens or refused.
use Rattle.std.proofs.Common.{◌≡◌, ◌⊎◌, inl, inr, ◌≤◌, ◌<◌, ℕ, zero, suc, ◌+◌, true, false, List, [], ◌++◌, length, take, drop, refl, sym, ap, subst, ◌∙◌, ⊎_elim, arith}
use Rattle.std.specs.Str.{IsUtf8, is_utf8}
use Rattle.std.proofs.lemmas.Bool.{cases_Bool}
use Rattle.std.proofs.lemmas.List.{length-drop, take_all}
use Rattle.std.proofs.lemmas.Str.{IsUtf8-nil, IsUtf8-from_is_utf8, is_utf8-from_IsUtf8}
use Rattle.sql_lexer.specs.declared.token.Token.{Token}
use Rattle.sql_lexer.specs.declared.lex_error.LexError.{LexError}
use Rattle.sql_lexer.specs.declared.lex_error.LexError.TheVariants.{NotUtf8, BadCharacter, Unterminated, NumberRange, NoMemory}
use Rattle.sql_lexer.specs.Lexes.{LexesTo, nothing, Lexes, StopsFor, Refuses}
use Rattle.sql_lexer.specs.Reading.{Front, Nothing, Ends, Refused, next}
use Rattle.sql_lexer.proofs.Sound.{IsRead, is_read}
use Rattle.sql_lexer.proofs.OneReading.{turn, all_read, stops}

abbrev Answer : List ℕ → Type 0
Answer bytes = ((ts : List Token) × Lexes bytes ts) ⊎ ((e : LexError) × Refuses bytes e)

refuses : (bytes : List ℕ) (e : LexError) → StopsFor bytes e → Refuses bytes e
refuses bytes (NotUtf8 place) s = absurd s.wrong
refuses bytes (BadCharacter place) s = s
refuses bytes (Unterminated place) s = s
refuses bytes (NumberRange place) s = s
refuses bytes NoMemory s = absurd s.wrong

-- the bytes that are left bound the turns
module _ (bytes : List ℕ) (utf8 : IsUtf8 bytes) where
  abbrev Goes : ℕ → Type 0
  Goes turns = (at : ℕ) (tokens : List Token) → length bytes ≤ at + turns → at ≤ length bytes → LexesTo 0 bytes tokens at (drop at bytes) → Answer bytes

  whole : (at : ℕ) (tokens : List Token) → at ≤ length bytes → length bytes ≤ at → LexesTo 0 bytes tokens at (drop at bytes) → Answer bytes
  whole at tokens within past d = inl (tokens, all_read bytes at tokens utf8 within past d)

  one_turn : (turns : ℕ) → Goes turns → (at : ℕ) (tokens : List Token) (front : Front) → length bytes ≤ at + suc turns → at ≤ length bytes
      → LexesTo 0 bytes tokens at (drop at bytes) → next at (drop at bytes) ≡ front → Answer bytes
  one_turn turns go at tokens Nothing left within d e =
      let none : drop at bytes ≡ [] = subst (IsRead at (drop at bytes)) e (is_read at (drop at bytes)) in
      whole at tokens within (omega (arith, ap length none, length-drop at bytes)) d
  one_turn turns go at tokens (Ends end found) left within d e =
      let t = turn bytes at end tokens found within d e in go end (tokens ++ found) (omega (arith, t.goes)) t.within t.lexes
  one_turn turns go at tokens (Refused error) left within d e = inr (error, refuses bytes error (stops bytes at tokens error utf8 d e))

  answer : (turns : ℕ) → Goes turns
  answer zero at tokens left within d = whole at tokens within (omega arith) d
  answer (suc turns) at tokens left within d = one_turn turns (answer turns) at tokens (next at (drop at bytes)) left within d refl

-- where bytes are no text, a front of them is the longest that is one
abbrev IsLongest : List ℕ → ℕ → ℕ → Type 0
IsLongest bytes most n = (n ≤ most) × IsUtf8 (take n bytes) × ((m : ℕ) → n < m → m ≤ most → IsUtf8 (take m bytes) → ⊥)

longest : (bytes : List ℕ) (most : ℕ) → (n : ℕ) × IsLongest bytes most n
longest bytes zero = (0, (omega arith, IsUtf8-nil, λ m lt le utf8. omega arith))
longest bytes (suc most) =
    ⊎_elim (λ is. (suc most, (omega arith, IsUtf8-from_is_utf8 _ is, λ m lt le utf8. omega arith)))
    (λ other. let l = longest bytes most in (
      l.0,
      (
        omega (arith, l.1.0),
        l.1.1,
        λ m lt le utf8.
            ⊎_elim (λ same. let is = is_utf8-from_IsUtf8 (take (suc most) bytes) (subst (λ k. IsUtf8 (take k bytes)) same utf8) in
            let both : true ≡ false = sym is ∙ other in absurd (cc))
            (λ less. l.1.2 m lt less utf8) (last m most le),
      ),
    ))
    (cases_Bool (is_utf8 (take (suc most) bytes))) where
      last : (m most : ℕ) → m ≤ suc most → (m ≡ suc most) ⊎ (m ≤ most)
      last m most le = grind arith

no_text : (bytes : List ℕ) → (IsUtf8 bytes → ⊥) → Answer bytes
no_text bytes not =
    let l = longest bytes (length bytes) in
    let all : (m : ℕ) → length bytes ≤ m → IsUtf8 (take m bytes) → ⊥ = λ m le utf8. not (subst IsUtf8 (take_all m bytes le) utf8) in
    let short : l.0 < length bytes = ⊎_elim (λ is. is) (λ past. absurd (all l.0 past l.1.1)) (side l.0 (length bytes)) in
    inr (
      NotUtf8 l.0,
      (
        not,
        record {
          short = short;
          front = l.1.1;
          longest = λ m lt utf8. ⊎_elim (λ less. l.1.2 m lt (omega arith) utf8) (λ past. all m past utf8) (side m (length bytes));
        },
      ),
    ) where
      side : (m n : ℕ) → (m < n) ⊎ (n ≤ m)
      side m n = grind arith

pub either : (bytes : List ℕ) → Answer bytes
either bytes =
    ⊎_elim (λ is. let utf8 = IsUtf8-from_is_utf8 bytes is in answer bytes utf8 (length bytes) 0 [] (omega arith) (omega arith) nothing)
    (λ other. no_text bytes (λ utf8. let both : true ≡ false = sym (is_utf8-from_IsUtf8 bytes utf8) ∙ other in absurd (cc)))
    (cases_Bool (is_utf8 bytes))
