-- A script has one list of tokens or one refusal.
use Rattle.std.proofs.Common.{◌≡◌, ℕ, List, Some, None, Result, Ok, Err, IfOk, IfErr, refl, sym, ap, ◌∙◌}
use Rattle.std.proofs.lemmas.Str.{utf8_valid_len-IsValidUpTo}
use Rattle.sql_lexer.specs.declared.token.Token.{Token}
use Rattle.sql_lexer.specs.declared.lex_error.LexError.{LexError}
use Rattle.sql_lexer.specs.declared.lex_error.LexError.TheVariants.{NotUtf8, BadCharacter, Unterminated, NumberRange, NoMemory}
use Rattle.sql_lexer.specs.Lexes.{Lexes, StopsFor, Refuses, MayRefuse, GivesList, GivesRefusal}
use Rattle.sql_lexer.proofs.OneReading.{one_outcome}

pub one_list : (bytes : List ℕ) (ts us : List Token) → Lexes bytes ts → Lexes bytes us → ts ≡ us
one_list bytes ts us l m = (one_outcome None None l.whole m.whole refl refl).0

list_or_stop : (bytes : List ℕ) (ts : List Token) (error : LexError) → Lexes bytes ts → StopsFor bytes error → ⊥
list_or_stop bytes ts error l s = let e : None ≡ Some error = (one_outcome None (Some error) l.whole s.lexes refl s.wrong).1 in absurd (cc)

pub list_or_refusal : (bytes : List ℕ) (ts : List Token) (error : LexError) → Lexes bytes ts → Refuses bytes error → ⊥
list_or_refusal bytes ts (NotUtf8 place) l r = r.0 l.utf8
list_or_refusal bytes ts (BadCharacter place) l r = list_or_stop bytes ts (BadCharacter place) l r
list_or_refusal bytes ts (Unterminated place) l r = list_or_stop bytes ts (Unterminated place) l r
list_or_refusal bytes ts (NumberRange place) l r = list_or_stop bytes ts (NumberRange place) l r
list_or_refusal bytes ts NoMemory l r = r

one_stop : (bytes : List ℕ) (d e : LexError) → StopsFor bytes d → StopsFor bytes e → d ≡ e
one_stop bytes d e s t = let same : Some d ≡ Some e = (one_outcome (Some d) (Some e) s.lexes t.lexes s.wrong t.wrong).1 in cc

stop_first : (bytes : List ℕ) (d e : LexError) → StopsFor bytes d → Refuses bytes e → d ≡ e
stop_first bytes d (NotUtf8 place) s r = absurd (r.0 s.utf8)
stop_first bytes d (BadCharacter place) s r = one_stop bytes d (BadCharacter place) s r
stop_first bytes d (Unterminated place) s r = one_stop bytes d (Unterminated place) s r
stop_first bytes d (NumberRange place) s r = one_stop bytes d (NumberRange place) s r
stop_first bytes d NoMemory s r = absurd r

pub one_refusal : (bytes : List ℕ) (d e : LexError) → Refuses bytes d → Refuses bytes e → d ≡ e
one_refusal bytes (NotUtf8 m) (NotUtf8 n) r q =
    ap NotUtf8 (sym (utf8_valid_len-IsValidUpTo bytes m r.1) ∙ utf8_valid_len-IsValidUpTo bytes n q.1)
one_refusal bytes (NotUtf8 m) (BadCharacter n) r q = absurd (r.0 q.utf8)
one_refusal bytes (NotUtf8 m) (Unterminated n) r q = absurd (r.0 q.utf8)
one_refusal bytes (NotUtf8 m) (NumberRange n) r q = absurd (r.0 q.utf8)
one_refusal bytes (NotUtf8 m) NoMemory r q = absurd q
one_refusal bytes (BadCharacter m) e r q = stop_first bytes (BadCharacter m) e r q
one_refusal bytes (Unterminated m) e r q = stop_first bytes (Unterminated m) e r q
one_refusal bytes (NumberRange m) e r q = stop_first bytes (NumberRange m) e r q
one_refusal bytes NoMemory e r q = absurd r

-- what a right answer rules out
pub gives_list : (bytes : List ℕ) (result : Result (List Token) LexError) → IfOk result (λ tokens. Lexes bytes tokens) → IfErr result (MayRefuse bytes)
    → (list : List Token) → Lexes bytes list → GivesList result list
gives_list bytes (Ok tokens) ok err list l = one_list bytes tokens list ok l
gives_list bytes (Err (NotUtf8 place)) ok err list l = absurd (list_or_refusal bytes list (NotUtf8 place) l err)
gives_list bytes (Err (BadCharacter place)) ok err list l = absurd (list_or_refusal bytes list (BadCharacter place) l err)
gives_list bytes (Err (Unterminated place)) ok err list l = absurd (list_or_refusal bytes list (Unterminated place) l err)
gives_list bytes (Err (NumberRange place)) ok err list l = absurd (list_or_refusal bytes list (NumberRange place) l err)
gives_list bytes (Err NoMemory) ok err list l = refl

pub gives_refusal : (bytes : List ℕ) (result : Result (List Token) LexError) → IfOk result (λ tokens. Lexes bytes tokens) → IfErr result (MayRefuse bytes)
    → (refusal : LexError) → Refuses bytes refusal → GivesRefusal result refusal
gives_refusal bytes (Ok tokens) ok err refusal r = list_or_refusal bytes tokens refusal ok r
gives_refusal bytes (Err (NotUtf8 place)) ok err refusal r = one_refusal bytes (NotUtf8 place) refusal err r
gives_refusal bytes (Err (BadCharacter place)) ok err refusal r = one_refusal bytes (BadCharacter place) refusal err r
gives_refusal bytes (Err (Unterminated place)) ok err refusal r = one_refusal bytes (Unterminated place) refusal err r
gives_refusal bytes (Err (NumberRange place)) ok err refusal r = one_refusal bytes (NumberRange place) refusal err r
gives_refusal bytes (Err NoMemory) ok err refusal r = tt
