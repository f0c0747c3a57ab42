-- The pieces of a script, one more or the last one.
use Rattle.std.proofs.Common.{◌≡◌, ◌∙◌, ◌<◌, ◌≤◌, ◌+◌, ℕ, suc, Bool, true, false, cond, not, List, [], ◌∷◌, length, take, drop, ◌⊎◌, inl, inr, refl, sym, ap, arith}
use Rattle.std.specs.Prelude.{◌==◌}
use Rattle.std.specs.List.{prefix_len, onto_first}
use Rattle.std.proofs.lemmas.Bool.{cases_lt}
use Rattle.std.proofs.lemmas.List.{take_all}
use Rattle.std.proofs.lemmas.List.Splits.{slice_split_first, slice_split-cons_no}
use Rattle.refusal_hints.specs.Advice.{advice_in, first_advice, or_else}
use Rattle.refusal_hints.specs.Names.{first_wanted, made_name, names}
use Rattle.refusal_hints.specs.Tables.{statement_words}
use Rattle.refusal_hints.specs.Words.{is_of_word, is_other, pieces}

pub pieces_more : (bytes : List ℕ) → prefix_len is_of_word bytes < length bytes →
    pieces bytes ≡ take (prefix_len is_of_word bytes) bytes ∷ pieces (drop (prefix_len is_of_word bytes + 1) bytes)
pieces_more bytes more = slice_split_first is_other bytes 0 more

pub pieces_last : (bytes : List ℕ) → length bytes ≤ prefix_len is_of_word bytes → pieces bytes ≡ bytes ∷ []
pieces_last [] last = refl
pieces_last (byte ∷ bytes) last = by (is_other byte) refl (λ less. pieces_last bytes less)
  where
    by : (other : Bool) → is_other byte ≡ other → (length bytes ≤ prefix_len is_of_word bytes → pieces bytes ≡ bytes ∷ []) →
        pieces (byte ∷ bytes) ≡ (byte ∷ bytes) ∷ []
    by true e rest =
        let none : suc (length bytes) ≤ 0 = rw e at last in absurd (omega (arith, none))
    by false e rest =
        let less : suc (length bytes) ≤ 1 + prefix_len is_of_word bytes = rw e at last in
        slice_split-cons_no is_other byte bytes e ∙ ap (onto_first byte) (rest (omega (arith, less)))

-- the first piece, and the others
pub record Parts (bytes : List ℕ) : Type 0 where
  pub others : List (List ℕ)
  pub whole : pieces bytes ≡ take (prefix_len is_of_word bytes) bytes ∷ others

parts : (bytes : List ℕ) → Parts bytes
parts bytes = by (cases_lt (prefix_len is_of_word bytes) (length bytes))
  where
    by : (prefix_len is_of_word bytes < length bytes) ⊎ (length bytes ≤ prefix_len is_of_word bytes) → Parts bytes
    by (inl more) = record { others = pieces (drop (prefix_len is_of_word bytes + 1) bytes); whole = pieces_more bytes more }
    by (inr last) = record {
      others = [];
      whole = pieces_last bytes last ∙ ap (λ piece. piece ∷ []) (sym (take_all (prefix_len is_of_word bytes) bytes last));
    }

-- the advice for the words of a statement: that of the first word, that of the others, or none
pub advice_found : (bytes : List ℕ) → (length (advice_in statement_words (take (prefix_len is_of_word bytes) bytes)) == 0) ≡ false →
    first_advice statement_words (pieces bytes) ≡ advice_in statement_words (take (prefix_len is_of_word bytes) bytes)
advice_found bytes some =
    let found = parts bytes in ap (first_advice statement_words) found.whole ∙ rw some refl

pub advice_further : (bytes : List ℕ) → (length (advice_in statement_words (take (prefix_len is_of_word bytes) bytes)) == 0) ≡ true →
    prefix_len is_of_word bytes < length bytes →
    first_advice statement_words (pieces bytes) ≡ first_advice statement_words (pieces (drop (prefix_len is_of_word bytes + 1) bytes))
advice_further bytes none more = ap (first_advice statement_words) (pieces_more bytes more) ∙ rw none refl

pub advice_nowhere : (bytes : List ℕ) → (length (advice_in statement_words (take (prefix_len is_of_word bytes) bytes)) == 0) ≡ true →
    length bytes ≤ prefix_len is_of_word bytes → first_advice statement_words (pieces bytes) ≡ []
advice_nowhere bytes none last =
    let all : take (prefix_len is_of_word bytes) bytes ≡ bytes = take_all (prefix_len is_of_word bytes) bytes last in
    let same : (length (advice_in statement_words bytes) == 0) ≡ true = rw all at none in
    ap (first_advice statement_words) (pieces_last bytes last) ∙ rw same refl

-- and the names that a script makes
pub wanted_found : (wanted : List ℕ → Bool) (before bytes : List ℕ) → wanted (made_name before (take (prefix_len is_of_word bytes) bytes)) ≡ true →
    first_wanted wanted (names before (pieces bytes)) ≡ made_name before (take (prefix_len is_of_word bytes) bytes)
wanted_found wanted before bytes some =
    let found = parts bytes in ap (λ p. first_wanted wanted (names before p)) found.whole ∙ rw some refl

pub wanted_further : (wanted : List ℕ → Bool) (before bytes : List ℕ) → wanted (made_name before (take (prefix_len is_of_word bytes) bytes)) ≡ false →
    prefix_len is_of_word bytes < length bytes →
    first_wanted wanted (names before (pieces bytes))
    ≡ first_wanted wanted (names (or_else (take (prefix_len is_of_word bytes) bytes) before) (pieces (drop (prefix_len is_of_word bytes + 1) bytes)))
wanted_further wanted before bytes none more = ap (λ p. first_wanted wanted (names before p)) (pieces_more bytes more) ∙ rw none refl

pub wanted_nowhere : (wanted : List ℕ → Bool) (before bytes : List ℕ) → wanted (made_name before (take (prefix_len is_of_word bytes) bytes)) ≡ false →
    length bytes ≤ prefix_len is_of_word bytes → first_wanted wanted (names before (pieces bytes)) ≡ []
wanted_nowhere wanted before bytes none last =
    let all : take (prefix_len is_of_word bytes) bytes ≡ bytes = take_all (prefix_len is_of_word bytes) bytes last in
    let same : wanted (made_name before bytes) ≡ false = rw all at none in
    ap (λ p. first_wanted wanted (names before p)) (pieces_last bytes last) ∙ rw same refl
