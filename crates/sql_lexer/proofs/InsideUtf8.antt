-- What stands between the quotes of a text that is UTF-8 is UTF-8.
use Rattle.std.proofs.Common.{◌≡◌, ◌≢◌, ◌⊎◌, inl, inr, eq-eqb, ℕ, suc, ◌-◌, take, drop, add-zero, ◌<◌, true, false, List, [], ◌∷◌, ◌++◌, length, get_or, Some, refl, sym, ap, subst, ◌∙◌, ⊎_elim, arith}
use Rattle.std.specs.Prelude.{nat_eq}
use Rattle.std.specs.Str.{IsUtf8}
use Rattle.std.proofs.Math.Utf8.{scalar, scalars, encode, encodes}
use Rattle.std.proofs.lemmas.Bool.{eqb-true, cases_Bool, and_parts}
use Rattle.std.proofs.lemmas.List.{append-nil, length-append, get_or-drop, take_rest}
use Rattle.std.proofs.lemmas.Str.{encode_ascii, encode_same, inside_one, IsUtf8-nil, IsUtf8-append, IsUtf8-encode, IsUtf8-past_char, IsUtf8-drop, IsCharBoundary-before_ascii}
use Rattle.sql_lexer.specs.Bytes.{doubled}
use Rattle.sql_lexer.specs.Reading.{Unquoted, unquoted}
use Rattle.sql_lexer.proofs.BetweenQuotes.{doubled_quote, doubled_other, Says, says}
use Rattle.sql_lexer.proofs.Ascii.{one_utf8}

-- bytes without a quote at the front stand before the quotes are doubled too
strip : (quote : ℕ) (front inside after more : List ℕ) → ((k : ℕ) → k < length front → get_or front k 0 ≢ quote)
    → front ++ more ≡ doubled quote inside ++ quote ∷ after
    → (left : List ℕ) × (inside ≡ front ++ left) × (more ≡ doubled quote left ++ quote ∷ after)
strip quote [] inside after more clean e = (inside, refl, e)
strip quote (b ∷ front) [] after more clean e = let is : b ≡ quote = cc in absurd (clean 0 (omega arith) is)
strip quote (b ∷ front) (c ∷ inside) after more clean e =
    ⊎_elim (λ is. let f = rw (eqb-true c quote is, doubled_quote quote inside) at e in let same : b ≡ quote = cc in absurd (clean 0 (omega arith) same))
    (λ other. let f = rw (doubled_other quote c inside other) at e in
    let same : b ≡ c = cc in
    let rest : front ++ more ≡ doubled quote inside ++ quote ∷ after = cc in
    let s = strip quote front inside after more (λ k lt. clean (suc k) (omega arith)) rest in
    (s.0, sym (ap (λ x. x ∷ inside) same) ∙ ap (λ r. b ∷ r) s.1, s.2))
    (cases_Bool (nat_eq c quote))

pub clean_char : (quote c : ℕ) → quote < 128 → (c ≡ quote → ⊥) → (k : ℕ) → k < length (encode c) → get_or (encode c) k 0 ≢ quote
clean_char quote c low other k lt is =
    other (inside_one c [] (encode c) k (sym (append-nil (encode c))) lt (omega (arith, is)) ∙ is)

nonempty : (quote : ℕ) (inside after : List ℕ) → [] ≡ doubled quote inside ++ quote ∷ after → ⊥
nonempty quote inside after e = omega (arith, ap length e, length-append (doubled quote inside) (quote ∷ after))

-- the first character is the quote, which stands there twice, or it stands so before the quotes are doubled
step : (quote c : ℕ) (more inside after : List ℕ) → quote < 128 → 0 < length inside → encode c ++ more ≡ doubled quote inside ++ quote ∷ after
    → ((left : List ℕ) × (inside ≡ quote ∷ left) × (more ≡ quote ∷ (doubled quote left ++ quote ∷ after)))
    ⊎ ((left : List ℕ) × (inside ≡ encode c ++ left) × (more ≡ doubled quote left ++ quote ∷ after))
step quote c more [] after low some e = absurd (omega arith)
step quote c more (b ∷ inside) after low some e =
    ⊎_elim
    (λ is. let f = rw (eqb-true c quote is, encode_ascii quote low) at e in
    ⊎_elim (λ same. let g = rw (eqb-true b quote same, doubled_quote quote inside) at f in
    let left : more ≡ quote ∷ (doubled quote inside ++ quote ∷ after) = cc in
    inl (inside, ap (λ q. q ∷ inside) (eqb-true b quote same), left))
    (λ other. let g = rw (doubled_other quote b inside other) at f in
    let same : b ≡ quote = cc in
    let both : true ≡ false = sym (eq-eqb b quote same) ∙ other in absurd (cc))
    (cases_Bool (nat_eq b quote)))
    (λ other. inr (strip quote (encode c) (b ∷ inside) after more (clean_char quote c low (λ same. let both : true ≡ false = sym (eq-eqb c quote same) ∙ other in absurd (cc))) e))
    (cases_Bool (nat_eq c quote))

after_quote : (quote d : ℕ) (more left after : List ℕ) → quote < 128 → encode d ++ more ≡ quote ∷ (doubled quote left ++ quote ∷ after)
    → more ≡ doubled quote left ++ quote ∷ after
after_quote quote d more left after low e =
    (encode_same d quote more (doubled quote left ++ quote ∷ after) (rw (encode_ascii quote low) e)).1

pub inside_utf8 : (quote : ℕ) (cs inside after : List ℕ) → quote < 128 → scalars cs ≡ true → encodes cs ≡ doubled quote inside ++ quote ∷ after → IsUtf8 inside
inside_utf8 quote cs [] after low each e = IsUtf8-nil
inside_utf8 quote [] (b ∷ inside) after low each e = absurd (nonempty quote (b ∷ inside) after e)
inside_utf8 quote (c ∷ []) (b ∷ inside) after low each e =
    ⊎_elim (λ s. let f : [] ≡ quote ∷ (doubled quote s.0 ++ quote ∷ after) = s.2 in absurd (cc))
    (λ s. absurd (nonempty quote s.0 after s.2))
    (step quote c [] (b ∷ inside) after low (omega arith) e)
inside_utf8 quote (c ∷ d ∷ cs) (b ∷ inside) after low each e =
    let first = and_parts (scalar c) (scalars (d ∷ cs)) each in
    ⊎_elim
    (λ s. rw s.1 (IsUtf8-append (quote ∷ []) s.0 (one_utf8 quote low)
    (inside_utf8 quote cs s.0 after low (and_parts (scalar d) (scalars cs) first.1).1 (after_quote quote d (encodes cs) s.0 after low s.2))))
    (λ s. rw s.1 (IsUtf8-append (encode c) s.0 (IsUtf8-encode c first.0) (inside_utf8 quote (d ∷ cs) s.0 after low first.1 s.2)))
    (step quote c (encode d ++ encodes cs) (b ∷ inside) after low (omega arith) e)

-- so is what is found behind an opening quote
pub found_utf8 : (quote : ℕ) (rest : List ℕ) (found : Unquoted) → quote < 128 → IsUtf8 (quote ∷ rest) → unquoted quote rest ≡ Some found → IsUtf8 found.inside
found_utf8 quote rest found low utf8 is =
    let s : Says quote rest (Some found) = subst (Says quote rest) is (says quote rest) in
    let behind : IsUtf8 rest = IsUtf8-past_char (quote ∷ rest) rest quote utf8 (rw (encode_ascii quote low) refl) in
    inside_utf8 quote behind.0 found.inside s.0 low behind.1.0 (behind.1.1 ∙ s.1)

-- a text that is UTF-8 may be cut in front of an ASCII byte
pub behind_utf8 : (bytes : List ℕ) (at : ℕ) → IsUtf8 bytes → at < length bytes → get_or (drop at bytes) 0 0 < 128 → IsUtf8 (drop at bytes)
behind_utf8 bytes at utf8 within low = IsUtf8-drop bytes at utf8 (IsCharBoundary-before_ascii bytes at within (rw (get_or-drop, add-zero) at low))

-- a text is its first byte and the rest
pub whole : (text : List ℕ) → 0 < length text → get_or text 0 0 ∷ take (length text - 1) (drop 1 text) ≡ text
whole [] some = absurd (omega arith)
whole (b ∷ rest) some = ap (λ r. b ∷ r) (take_rest (b ∷ rest) 1)
