-- A script is split in one way only, and a loop that reads one piece after another finds it.
use Rattle.std.proofs.Common.{◌≡◌, ◌≤◌, ◌<◌, ℕ, ◌+◌, List, [], ◌∷◌, ◌++◌, length, take, drop, Option, Some, None, Err, refl, sym, ap, subst, ◌∙◌, arith, append_assoc}
use Rattle.std.specs.Str.{IsUtf8}
use Rattle.std.proofs.lemmas.List.{length-append, length-drop, append-nil, drop-drop, drop_all}
use Rattle.std.proofs.Math.Seq.{take-append_seam, drop-append_seam}
use Rattle.sql_lexer.specs.declared.token.Token.{Token}
use Rattle.sql_lexer.specs.declared.token.TokenKind.{TokenKind}
use Rattle.sql_lexer.specs.declared.token.TokenKind.TheVariants.{Word, Quoted, Number, Text, Symbol}
use Rattle.sql_lexer.specs.declared.lex_error.LexError.{LexError}
use Rattle.sql_lexer.specs.declared.lex_error.LexError.TheVariants.{NotUtf8, BadCharacter, Unterminated, NumberRange, NoMemory}
use Rattle.sql_lexer.specs.Bytes.{in_quotes}
use Rattle.sql_lexer.specs.Lexes.{Spells, IsToken, Piece, token, LexesTo, nothing, piece, Lexes, IsWrong, StopsFor, MayRefuse, BeginsWithTokens}
use Rattle.sql_lexer.specs.Reading.{Front, Nothing, Ends, Refused, next, Reads}
use Rattle.sql_lexer.proofs.Sound.{IsRead, is_read}
use Rattle.sql_lexer.proofs.Complete.{piece_reads, wrong_reads}

-- lists of one length in front of the same list are the same
same_cut : (a b c d : List ℕ) → length a ≡ length c → a ++ b ≡ c ++ d → (a ≡ c) × (b ≡ d)
same_cut a b c d len e = (
  sym (take-append_seam a b) ∙ ap (λ n. take n (a ++ b)) len ∙ ap (take (length c)) e ∙ take-append_seam c d,
  sym (drop-append_seam a b) ∙ ap (λ n. drop n (a ++ b)) len ∙ ap (drop (length c)) e ∙ drop-append_seam c d,
)

-- how a reading ends: nothing is left, or what is left is refused
abbrev pub Final : ℕ → List ℕ → Option LexError → Type 0
Final at rest None = rest ≡ []
Final at rest (Some error) = IsWrong at rest error

abbrev front_of : Option LexError → Front
front_of None = Nothing
front_of (Some error) = Refused error

nothing_reads : (at : ℕ) → next at [] ≡ Nothing
unfolding next
nothing_reads at = refl

final_reads : (at : ℕ) (rest : List ℕ) (outcome : Option LexError) → Final at rest outcome → next at rest ≡ front_of outcome
final_reads at rest None e = ap (next at) e ∙ nothing_reads at
final_reads at rest (Some error) w = wrong_reads at rest error w

one_final : (a b : Option LexError) → front_of a ≡ front_of b → a ≡ b
one_final None None e = refl
one_final None (Some error) e = absurd (cc)
one_final (Some error) None e = absurd (cc)
one_final (Some a) (Some b) e = let same : a ≡ b = cc in ap (λ error. Some error) same

not_both : (outcome : Option LexError) (end : ℕ) (found : List Token) → front_of outcome ≡ Ends end found → ⊥
not_both None end found e = absurd (cc)
not_both (Some error) end found e = absurd (cc)

ends_parts : {m n : ℕ} {ts us : List Token} → Ends m ts ≡ Ends n us → (m ≡ n) × (ts ≡ us)
ends_parts e = (cc, cc)

pub one_outcome : {at s t : ℕ} {text r q : List ℕ} {ts us : List Token} (a b : Option LexError)
    → LexesTo at text ts s r → LexesTo at text us t q → Final s r a → Final t q b → (ts ≡ us) × (a ≡ b)
one_outcome a b (nothing {at} {text}) nothing f g = (refl, one_final a b (sym (final_reads at text a f) ∙ final_reads at text b g))
one_outcome a b (nothing {at} {text}) (piece e p d) f g =
    absurd (not_both a _ _ (sym (final_reads at text a f) ∙ ap (next at) e ∙ piece_reads p))
one_outcome a b (piece {at = at} {text = text} e p d) nothing f g =
    absurd (not_both b _ _ (sym (final_reads at text b g) ∙ ap (next at) e ∙ piece_reads p))
one_outcome a b (piece {at = at} {bytes = bytes} {more = more} e p d) (piece {bytes = bytes'} {more = more'} e' p' d') f g =
    let same = ends_parts (sym (piece_reads p) ∙ ap (next at) (sym e ∙ e') ∙ piece_reads p') in
    let cut = same_cut bytes more bytes' more' (omega (arith, same.0)) (sym e ∙ e') in
    let rest = one_outcome a b d (rw (cut.0, cut.1) d') f g in
    (rw (same.1, rest.0) refl, rest.1)

-- a piece more
pub further : {at stop : ℕ} {text rest : List ℕ} {tokens found : List Token} (bytes more : List ℕ) → LexesTo at text tokens stop rest
    → rest ≡ bytes ++ more → Piece stop bytes more found → LexesTo at text (tokens ++ found) (stop + length bytes) more
further {found = found} bytes more (nothing {at = at} {text = text}) e p =
    subst (λ ts. LexesTo at text ts (at + length bytes) more) (append-nil found) (piece e p nothing)
further {found = found} bytes more (piece {at = at} {stop = stop} {text = text} {found = first} {tokens = tokens} e p d) f q =
    subst (λ ts. LexesTo at text ts (stop + length bytes) more) (sym (append_assoc first tokens found)) (piece e p (further bytes more d f q))

spelled_some : (kind : TokenKind) (spelled : List ℕ) (number : _) → Spells kind [] spelled number → ⊥
spelled_some Word spelled number s = s.0
spelled_some Quoted spelled number s = let e : [] ≡ in_quotes 34 spelled = s.0 in absurd (cc)
spelled_some Number spelled number s = s.0
spelled_some Text spelled number s = let e : [] ≡ in_quotes 39 spelled = s.0 in absurd (cc)
spelled_some Symbol spelled number s = let e : None ≡ Some spelled = s.0 in absurd (cc)

pub token_some : {at : ℕ} (bytes : List ℕ) (t : Token) → IsToken at bytes t → 0 < length bytes
token_some (b ∷ bytes) t is = omega arith
token_some [] t is = absurd (spelled_some t.kind t.spelled t.number is.spells)

piece_some : {at : ℕ} (bytes : List ℕ) {rest : List ℕ} {found : List Token} → Piece at bytes rest found → 0 < length bytes
piece_some (b ∷ bytes) p = omega arith
piece_some [] (token {token = t} is stop) = token_some [] t is

-- a turn of the loop
pub record Turn (bytes : List ℕ) (at end : ℕ) (tokens : List Token) : Type 0 where
  pub goes : at < end
  pub within : end ≤ length bytes
  pub lexes : LexesTo 0 bytes tokens end (drop end bytes)

pub turn : (bytes : List ℕ) (at end : ℕ) (tokens found : List Token) → at ≤ length bytes → LexesTo 0 bytes tokens at (drop at bytes)
    → next at (drop at bytes) ≡ Ends end found → Turn bytes at end (tokens ++ found)
turn bytes at end tokens found within d e =
    let r : IsRead at (drop at bytes) (Ends end found) = subst (IsRead at (drop at bytes)) e (is_read at (drop at bytes)) in
    let len : length (drop at bytes) ≡ length r.0 + length r.1 = ap length r.2 ∙ length-append r.0 r.1 in
    let behind : r.1 ≡ drop end bytes = sym (drop-append_seam r.0 r.1) ∙ ap (drop (length r.0)) (sym r.2) ∙ drop-drop (length r.0) at bytes ∙ ap (λ n. drop n bytes) (sym r.3) in
    record {
      goes = omega (arith, r.3, piece_some r.0 r.4);
      within = omega (arith, r.3, len, length-drop at bytes);
      lexes = subst (λ rest. LexesTo 0 bytes (tokens ++ found) end rest) behind (subst (λ n. LexesTo 0 bytes (tokens ++ found) n r.1) (sym r.3) (further r.0 r.1 d r.2 r.4));
    }

-- its end
pub all_read : (bytes : List ℕ) (at : ℕ) (tokens : List Token) → IsUtf8 bytes → at ≤ length bytes → length bytes ≤ at → LexesTo 0 bytes tokens at (drop at bytes) → Lexes bytes tokens
all_read bytes at tokens utf8 within past d =
    let is : at ≡ length bytes = omega arith in
    record { utf8 = utf8; whole = subst (λ rest. LexesTo 0 bytes tokens (length bytes) rest) (drop_all at bytes past) (subst (λ n. LexesTo 0 bytes tokens n (drop at bytes)) is d) }

-- its failures
pub stops : (bytes : List ℕ) (at : ℕ) (tokens : List Token) (error : LexError) → IsUtf8 bytes → LexesTo 0 bytes tokens at (drop at bytes)
    → next at (drop at bytes) ≡ Refused error → StopsFor bytes error
stops bytes at tokens error utf8 d e =
    record { utf8 = utf8; front = tokens; place = at; rest = drop at bytes; lexes = d; wrong = subst (IsRead at (drop at bytes)) e (is_read at (drop at bytes)) }

pub may_refuse : (bytes : List ℕ) (at : ℕ) (tokens : List Token) (error : LexError) → IsUtf8 bytes → LexesTo 0 bytes tokens at (drop at bytes)
    → Reads (Err error) (next at (drop at bytes)) → MayRefuse bytes error
may_refuse bytes at tokens (NotUtf8 place) utf8 d e = absurd (stops bytes at tokens (NotUtf8 place) utf8 d e).wrong
may_refuse bytes at tokens (BadCharacter place) utf8 d e = stops bytes at tokens (BadCharacter place) utf8 d e
may_refuse bytes at tokens (Unterminated place) utf8 d e = stops bytes at tokens (Unterminated place) utf8 d e
may_refuse bytes at tokens (NumberRange place) utf8 d e = stops bytes at tokens (NumberRange place) utf8 d e
may_refuse bytes at tokens NoMemory utf8 d e = tt

-- a token stands there
abbrev pub IsFound : Front → Type 0
IsFound Nothing = ⊥
IsFound (Ends end []) = ⊥
IsFound (Ends end (t ∷ more)) = Unit {0}
IsFound (Refused error) = ⊥

-- where a token stands, a front of the script is split into tokens
pub begins_with_found : (bytes : List ℕ) (at : ℕ) (tokens : List Token) → IsUtf8 bytes → at ≤ length bytes → LexesTo 0 bytes tokens at (drop at bytes)
    → (front : Front) → next at (drop at bytes) ≡ front → IsFound front → BeginsWithTokens bytes
begins_with_found bytes at tokens utf8 within d Nothing e f = absurd f
begins_with_found bytes at tokens utf8 within d (Refused error) e f = absurd f
begins_with_found bytes at tokens utf8 within d (Ends end []) e f = absurd f
begins_with_found bytes at tokens utf8 within d (Ends end (t ∷ more)) e f =
    let further = turn bytes at end tokens (t ∷ more) within d e in
    record {
      utf8 = utf8;
      front = tokens ++ t ∷ more;
      place = end;
      rest = drop end bytes;
      lexes = further.lexes;
      some = omega (arith, length-append tokens (t ∷ more));
    }

-- want of memory is no reading
pub none_out : (front : Front) (error : LexError) → Reads (Err error) front → error ≡ NoMemory → ⊥
none_out front (NotUtf8 place) r e = absurd cc
none_out front (BadCharacter place) r e = absurd cc
none_out front (Unterminated place) r e = absurd cc
none_out front (NumberRange place) r e = absurd cc
none_out front NoMemory r e = r
