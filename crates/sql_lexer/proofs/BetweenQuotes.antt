-- What stands between quotes, read byte by byte.
use Rattle.std.proofs.Common.{◌≡◌, ◌≢◌, ℕ, ◌+◌, ◌<◌, ◌≤◌, Bool, true, false, List, [], ◌∷◌, ◌++◌, length, drop, get_or, Option, Some, None, refl, sym, ap, ◌∙◌, ⊎_elim, arith, add_assoc, append_assoc, eq-eqb}
use Rattle.std.specs.Prelude.{nat_eq, option_map}
use Rattle.std.proofs.lemmas.Bool.Decides.{nat_tests}
use Rattle.std.proofs.lemmas.Bool.{eqb-true, cases_Bool}
use Rattle.std.proofs.lemmas.List.{drop_more, drop_all, append-nil, length-drop}
use Rattle.sql_lexer.specs.Bytes.{next_is, doubled}
use Rattle.sql_lexer.specs.Reading.{Unquoted, before, closing, unquoted}

pub before-before : (a b : List ℕ) (m n : ℕ) (found : Option Unquoted) → before a m (before b n found) ≡ before (a ++ b) (m + n) found
before-before a b m n None = refl
before-before a b m n (Some found) = rw (append_assoc a b found.inside, add_assoc m n found.len) refl

pub unquoted_nil : (quote : ℕ) → unquoted quote [] ≡ None
unfolding unquoted
unquoted_nil quote = refl

pub unquoted_other : (quote b : ℕ) (rest : List ℕ) → nat_eq b quote ≡ false → unquoted quote (b ∷ rest) ≡ before (b ∷ []) 1 (unquoted quote rest)
unfolding unquoted
unquoted_other quote b [] e = rw e refl
unquoted_other quote b (c ∷ rest) e = rw e refl

pub unquoted_pair : (quote b c : ℕ) (rest : List ℕ) → nat_eq b quote ≡ true → nat_eq c quote ≡ true
    → unquoted quote (b ∷ c ∷ rest) ≡ before (quote ∷ []) 2 (unquoted quote rest)
unfolding unquoted
unquoted_pair quote b c rest e f = rw (e, f) refl

pub unquoted_closes : (quote b : ℕ) (rest : List ℕ) → nat_eq b quote ≡ true → next_is (λ c. nat_eq c quote) rest ≡ false
    → unquoted quote (b ∷ rest) ≡ Some closing
unfolding unquoted
unquoted_closes quote b [] e f = rw e refl
unquoted_closes quote b (c ∷ rest) e f = rw (e, f) refl

-- the step of a loop that has found something in front of a place
pub at_other : (quote at : ℕ) (rest inside : List ℕ) → at < length rest → get_or rest at 0 ≢ quote
    → before (inside ++ get_or rest at 0 ∷ []) (at + 1) (unquoted quote (drop (at + 1) rest)) ≡ before inside at (unquoted quote (drop at rest))
at_other quote at rest inside lt other =
    rw (drop_more rest at 0 lt)
    (sym (before-before inside (get_or rest at 0 ∷ []) at 1 (unquoted quote (drop (at + 1) rest)))
    ∙ ap (before inside at) (sym (unquoted_other quote (get_or rest at 0) (drop (at + 1) rest) (grind (arith, nat_tests)))))

next_some : (p : ℕ → Bool) (rest : List ℕ) → next_is p rest ≡ true → (0 < length rest) × (p (get_or rest 0 0) ≡ true)
next_some p [] e = absurd (cc)
next_some p (b ∷ rest) e = (omega arith, e)

pub at_pair : (quote at : ℕ) (rest inside : List ℕ) → at < length rest → get_or rest at 0 ≡ quote → next_is (λ c. nat_eq c quote) (drop (at + 1) rest) ≡ true
    → (at + 2 ≤ length rest) × (before (inside ++ quote ∷ []) (at + 2) (unquoted quote (drop (at + 2) rest)) ≡ before inside at (unquoted quote (drop at rest)))
at_pair quote at rest inside lt is next =
    let some = next_some (λ c. nat_eq c quote) (drop (at + 1) rest) next in
    let lt2 : at + 1 < length rest = omega (arith, length-drop (at + 1) rest, some.0) in
    let cut = drop_more rest (at + 1) 0 lt2 in
    let two : (at + 1) + 1 ≡ at + 2 = omega arith in
    let head : nat_eq (get_or rest (at + 1) 0) quote ≡ true = rw cut at some.1 in (
      omega arith,
      rw (drop_more rest at 0 lt, cut, two)
          (sym (before-before inside (quote ∷ []) at 2 (unquoted quote (drop (at + 2) rest)))
          ∙ ap (before inside at) (sym (unquoted_pair quote (get_or rest at 0) (get_or rest (at + 1) 0) (drop (at + 2) rest) (grind (arith, nat_tests)) head))),
    )

pub at_close : (quote at : ℕ) (rest inside : List ℕ) → at < length rest → get_or rest at 0 ≡ quote → next_is (λ c. nat_eq c quote) (drop (at + 1) rest) ≡ false
    → before inside at (unquoted quote (drop at rest)) ≡ Some (record { inside = inside; len = at + 1 })
at_close quote at rest inside lt is next =
    rw (drop_more rest at 0 lt, unquoted_closes quote (get_or rest at 0) (drop (at + 1) rest) (grind (arith, nat_tests)) next, append-nil) refl

pub at_end : (quote at : ℕ) (rest inside : List ℕ) → length rest ≤ at → before inside at (unquoted quote (drop at rest)) ≡ None
unfolding unquoted
at_end quote at rest inside past = rw (drop_all at rest past) refl

-- how many bytes go up to and with the quote that closes, whatever was found in front of a place
abbrev pub len_of : Option Unquoted → Option ℕ
len_of found = option_map (λ f. f.len) found

pub len_behind : (front : List ℕ) (len : ℕ) (found : Option Unquoted) → len_of (before [] len found) ≡ len_of (before front len found)
len_behind front len None = refl
len_behind front len (Some found) = refl

-- a quote is written twice, and any other byte once
pub doubled_quote : (quote : ℕ) (inside : List ℕ) → doubled quote (quote ∷ inside) ≡ quote ∷ quote ∷ doubled quote inside
doubled_quote quote inside = rw (eq-eqb quote quote refl) refl

pub doubled_other : (quote b : ℕ) (inside : List ℕ) → nat_eq b quote ≡ false → doubled quote (b ∷ inside) ≡ b ∷ doubled quote inside
doubled_other quote b inside other = rw other refl

-- what was found stands in front of a quote that closes, and where nothing was found all quotes come in pairs
abbrev pub Says : ℕ → List ℕ → Option Unquoted → Type 0
Says quote rest None = (inside : List ℕ) × (rest ≡ doubled quote inside)
Says quote rest (Some found) = (after : List ℕ) × (rest ≡ doubled quote found.inside ++ quote ∷ after)
    × (next_is (λ c. nat_eq c quote) after ≡ false) × (found.len ≡ length (doubled quote found.inside) + 1)

says_pair : (quote : ℕ) (rest : List ℕ) (found : Option Unquoted) → Says quote rest found → Says quote (quote ∷ quote ∷ rest) (before (quote ∷ []) 2 found)
says_pair quote rest None s = (quote ∷ s.0, rw (doubled_quote quote s.0) (ap (λ r. quote ∷ quote ∷ r) s.1))
says_pair quote rest (Some found) s =
    (s.0, rw (doubled_quote quote found.inside) (ap (λ r. quote ∷ quote ∷ r) s.1), s.2, rw (doubled_quote quote found.inside) (omega (arith, s.3)))

says_other : (quote b : ℕ) (rest : List ℕ) (found : Option Unquoted) → nat_eq b quote ≡ false → Says quote rest found → Says quote (b ∷ rest) (before (b ∷ []) 1 found)
says_other quote b rest None other s = (b ∷ s.0, rw (doubled_other quote b s.0 other) (ap (λ r. b ∷ r) s.1))
says_other quote b rest (Some found) other s =
    (s.0, rw (doubled_other quote b found.inside other) (ap (λ r. b ∷ r) s.1), s.2, rw (doubled_other quote b found.inside other) (omega (arith, s.3)))

says_close : (quote b : ℕ) (rest : List ℕ) → b ≡ quote → next_is (λ c. nat_eq c quote) rest ≡ false → Says quote (b ∷ rest) (Some closing)
says_close quote b rest e stop = (rest, ap (λ q. q ∷ rest) e, stop, refl)

pub says : (quote : ℕ) (rest : List ℕ) → Says quote rest (unquoted quote rest)
says quote [] = let s : Says quote [] None = ([], refl) in rw (unquoted_nil quote) s
says quote (b ∷ []) =
    ⊎_elim (λ is. rw (unquoted_closes quote b [] is refl) (says_close quote b [] (eqb-true _ _ is) refl))
    (λ other. rw (unquoted_other quote b [] other) (says_other quote b [] (unquoted quote []) other (says quote []))) (cases_Bool (nat_eq b quote))
says quote (b ∷ c ∷ rest) =
    ⊎_elim (λ is. ⊎_elim
    (λ twice. rw (unquoted_pair quote b c rest is twice, eqb-true b quote is, eqb-true c quote twice) (says_pair quote rest (unquoted quote rest) (says quote rest)))
    (λ stop. rw (unquoted_closes quote b (c ∷ rest) is stop) (says_close quote b (c ∷ rest) (eqb-true _ _ is) stop)) (cases_Bool (nat_eq c quote)))
    (λ other. rw (unquoted_other quote b (c ∷ rest) other) (says_other quote b (c ∷ rest) (unquoted quote (c ∷ rest)) other (says quote (c ∷ rest))))
    (cases_Bool (nat_eq b quote))

-- the other way round
pub unquoted_found : (quote : ℕ) (inside after : List ℕ) → next_is (λ c. nat_eq c quote) after ≡ false
    → unquoted quote (doubled quote inside ++ quote ∷ after) ≡ Some (record { inside = inside; len = length (doubled quote inside) + 1 })
unquoted_found quote [] after stop = unquoted_closes quote quote after (eq-eqb quote quote refl) stop
unquoted_found quote (b ∷ inside) after stop =
    ⊎_elim (λ is. rw (eqb-true b quote is, doubled_quote quote inside, unquoted_pair quote quote quote (doubled quote inside ++ quote ∷ after) (eq-eqb quote quote refl) (eq-eqb quote quote refl), unquoted_found quote inside after stop) (ap (λ n. Some (record { inside = quote ∷ inside; len = n })) (omega arith)))
    (λ other. rw (doubled_other quote b inside other, unquoted_other quote b (doubled quote inside ++ quote ∷ after) other, unquoted_found quote inside after stop) (ap (λ n. Some (record { inside = b ∷ inside; len = n })) (omega arith)))
    (cases_Bool (nat_eq b quote))

pub unquoted_none : (quote : ℕ) (inside : List ℕ) → unquoted quote (doubled quote inside) ≡ None
unquoted_none quote [] = unquoted_nil quote
unquoted_none quote (b ∷ inside) =
    ⊎_elim (λ is. rw (eqb-true b quote is, doubled_quote quote inside, unquoted_pair quote quote quote (doubled quote inside) (eq-eqb quote quote refl) (eq-eqb quote quote refl), unquoted_none quote inside) refl)
    (λ other. rw (doubled_other quote b inside other, unquoted_other quote b (doubled quote inside) other, unquoted_none quote inside) refl)
    (cases_Bool (nat_eq b quote))
