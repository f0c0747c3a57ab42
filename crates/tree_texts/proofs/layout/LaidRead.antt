-- Tokens are read again whatever blanks stand behind each, and where none do, if the token can't go on into what follows.
use Rattle.std.proofs.Common.{◌≡◌, ◌<◌, ◌≤◌, ℕ, zero, suc, ◌+◌, ◌-◌, true, false, List, [], ◌∷◌, ◌++◌, length, get_or, take, add-zero, zero-add, refl, sym, ap, subst, ◌∙◌, arith}
use Rattle.std.specs.List.{list_all, AllByRecursion}
use Rattle.std.specs.Str.{IsUtf8}
use Rattle.std.proofs.Math.Seq.{take-append_seam, get_or-append_seam}
use Rattle.std.proofs.lemmas.Bool.{and_parts}
use Rattle.std.proofs.lemmas.Bool.Decides.{nat_tests}
use Rattle.std.proofs.lemmas.List.{length-append, append-nil}
use Rattle.std.proofs.lemmas.Str.{IsUtf8-nil, IsUtf8-append, IsUtf8-take}
use Rattle.sql_lexer.specs.declared.token.Token.{Token}
use Rattle.sql_lexer.specs.Bytes.{is_blank, next_is}
use Rattle.sql_lexer.specs.Lexes.{goes_on, Spells, IsToken, blank, token, LexesTo, nothing, piece, Lexes}
use Rattle.sql_lexer.proofs.Ascii.{one_utf8}
use Rattle.sql_lexer.proofs.Spans.{spanned}
use Rattle.tree_texts.specs.Standing.{Span, Places, at_span, standing, CanStand}
use Rattle.tree_texts.specs.Texts.{shown, shown_tokens}
use Rattle.tree_texts.proofs.Shown.{shifted, shown_is_read}

abbrev pub IsLaid : List Token → List ℕ → Type 0
IsLaid [] text = text ≡ []
IsLaid (t ∷ tokens) text =
    (gap : List ℕ) × (more : List ℕ) × (list_all is_blank gap ≡ true) × (next_is (goes_on t.kind (shown t)) (gap ++ more) ≡ false)
    × (text ≡ shown t ++ (gap ++ more)) × IsLaid tokens more

-- ---- a token and its gap

abbrev span_of : ℕ → Token → Span
span_of at t = record { start = at; end = at + length (shown t) }

shown_spells : (t : Token) → CanStand t → Spells t.kind (shown t) (at_span (span_of 0 t) t).spelled t.number
shown_spells t can =
    let text = shown_tokens (t ∷ []) in
    let whole : text ≡ shown t ++ 32 ∷ [] = append-nil (shown t ++ 32 ∷ []) in
    let width : 0 + length (shown t) - 0 ≡ length (shown t) = omega arith in
    let front : take (0 + length (shown t) - 0) text ≡ shown t =
    ap (λ n. take n text) width ∙ ap (take (length (shown t))) whole ∙ take-append_seam (shown t) (32 ∷ []) in
    subst (λ bytes. Spells t.kind bytes (at_span (span_of 0 t) t).spelled t.number) front
    (spanned text (shown_is_read (t ∷ []) (can, tt)).whole refl).0.spells

is_token : (at : ℕ) (t : Token) → CanStand t → IsToken at (shown t) (at_span (span_of at t) t)
is_token at t can = record { start = refl; end = refl; spells = shown_spells t can }

blanks_read : (at stop : ℕ) (gap more rest : List ℕ) (tokens : List Token) → list_all is_blank gap ≡ true
    → LexesTo (at + length gap) more tokens stop rest → LexesTo at (gap ++ more) tokens stop rest
blanks_read at stop [] more rest tokens all inner = subst (λ n. LexesTo n more tokens stop rest) (add-zero at) inner
blanks_read at stop (b ∷ gap) more rest tokens all inner =
    let parts = and_parts (is_blank b) (list_all is_blank gap) all in
    let on : at + length (b ∷ gap) ≡ at + 1 + length gap = omega arith in
    piece {bytes = b ∷ []} refl (blank parts.0)
    (blanks_read (at + 1) stop gap more rest tokens parts.1 (subst (λ n. LexesTo n more tokens stop rest) on inner))

-- ---- all tokens

abbrev places_of : (at : ℕ) (tokens : List Token) (text : List ℕ) → IsLaid tokens text → Places
places_of at [] text laid i = record { start = at; end = at }
places_of at (t ∷ tokens) text laid zero = span_of at t
places_of at (t ∷ tokens) text laid (suc i) = places_of (at + length (shown t) + length laid.0) tokens laid.1 laid.5 i

read_laid : (at : ℕ) (tokens : List Token) (text : List ℕ) → AllByRecursion CanStand tokens → (laid : IsLaid tokens text)
    → LexesTo at text (standing (places_of at tokens text laid) 0 tokens) (at + length text) []
read_laid at [] text all laid =
    subst (λ xs. LexesTo at xs [] (at + length xs) []) (sym laid) (subst (λ n. LexesTo at [] [] n []) (sym (add-zero at)) nothing)
read_laid at (t ∷ tokens) text all laid =
    let gap = laid.0 in
    let more = laid.1 in
    let next = at + length (shown t) + length gap in
    let places = places_of at (t ∷ tokens) text laid in
    let first = at_span (span_of at t) t in
    let others : standing (places_of next tokens more laid.5) 0 tokens ≡ standing places 1 tokens = sym (shifted places 0 tokens) in
    let ends : next + length more ≡ at + length text = omega (arith, ap length laid.4, length-append (shown t) (gap ++ more), length-append gap more) in
    subst (λ n. LexesTo at text (first ∷ standing places 1 tokens) n []) ends
    (piece laid.4 (token (is_token at t all.0) laid.3)
    (blanks_read (at + length (shown t)) (next + length more) gap more [] (standing places 1 tokens) laid.2
    (subst (λ ts. LexesTo next more ts (next + length more) []) others (read_laid next tokens more all.1 laid.5))))

-- ---- UTF-8

blank_small : (b : ℕ) → is_blank b ≡ true → b < 128
blank_small b is = grind (arith, nat_tests)

-- what is UTF-8 with a blank behind it is so without
without_blank : (bytes : List ℕ) → IsUtf8 (bytes ++ 32 ∷ []) → IsUtf8 bytes
without_blank bytes utf8 =
    let at : get_or (bytes ++ 32 ∷ []) (length bytes) 0 ≡ 32 = get_or-append_seam bytes 32 [] 0 in
    let within : length bytes ≤ length (bytes ++ 32 ∷ []) = omega (arith, length-append bytes (32 ∷ [])) in
    subst IsUtf8 (take-append_seam bytes (32 ∷ []))
    (IsUtf8-take (bytes ++ 32 ∷ []) (length bytes) utf8 (within, λ below high. absurd (omega (arith, at, high))))

shown_utf8 : (t : Token) → CanStand t → IsUtf8 (shown t)
shown_utf8 t can = without_blank (shown t) (subst IsUtf8 (append-nil (shown t ++ 32 ∷ [])) (shown_is_read (t ∷ []) (can, tt)).utf8)

blanks_utf8 : (gap : List ℕ) → list_all is_blank gap ≡ true → IsUtf8 gap
blanks_utf8 [] all = IsUtf8-nil
blanks_utf8 (b ∷ gap) all =
    let parts = and_parts (is_blank b) (list_all is_blank gap) all in
    IsUtf8-append (b ∷ []) gap (one_utf8 b (blank_small b parts.0)) (blanks_utf8 gap parts.1)

laid_utf8 : (tokens : List Token) (text : List ℕ) → AllByRecursion CanStand tokens → IsLaid tokens text → IsUtf8 text
laid_utf8 [] text all laid = subst IsUtf8 (sym laid) IsUtf8-nil
laid_utf8 (t ∷ tokens) text all laid =
    subst IsUtf8 (sym laid.4)
    (IsUtf8-append (shown t) (laid.0 ++ laid.1) (shown_utf8 t all.0)
    (IsUtf8-append laid.0 laid.1 (blanks_utf8 laid.0 laid.2) (laid_utf8 tokens laid.1 all.1 laid.5)))

pub laid_is_read : (tokens : List Token) (text : List ℕ) → AllByRecursion CanStand tokens → IsLaid tokens text
    → (places : Places) × Lexes text (standing places 0 tokens)
laid_is_read tokens text all laid =
    let places = places_of 0 tokens text laid in
    let found = standing places 0 tokens in (
      places,
      record {
        utf8 = laid_utf8 tokens text all laid;
        whole = subst (λ n. LexesTo 0 text found n []) (zero-add (length text)) (read_laid 0 tokens text all laid);
      },
    )
