-- Bytes without tokens are misspelled, and bytes that are misspelled are no script.
use Rattle.std.proofs.Common.{◌≡◌, ◌∙◌, ℕ, List, length, Err, sym, ap, subst}
use Rattle.std.proofs.lemmas.Option.{none-some}
use Rattle.sql_lexer.specs.Lexes.{Lexes, Refuses, MayRefuse}
use Rattle.sql_lexer.specs.declared.token.Token.{Token}
use Rattle.sql_lexer.specs.declared.lex_error.LexError.{LexError}
use Rattle.sql_lexer.specs.declared.lex_error.LexError.TheVariants.{NotUtf8, BadCharacter, Unterminated, NumberRange, NoMemory}
use Rattle.sql_parser.specs.Nesting as nesting
use Rattle.sql_parser.specs.Spells.{Spells, IsUnexpected}
use Rattle.sql_tree.specs.declared.statement.Script.{Script}
use Rattle.perm_engine.specs.meaning.Scripts.{IsReading, IsScriptOf, IsMisspelled, no_tokens, not_utf8, bad_character, unterminated, number_range, unexpected, too_deep}
use Rattle.name_meaning.specs.declared.answer.Break.{Break}

pub IsReading-no_tokens : (bytes : List ℕ) (error : LexError) → MayRefuse bytes error → IsReading bytes (Err (no_tokens error))
IsReading-no_tokens bytes (NotUtf8 at) h = not_utf8 h
IsReading-no_tokens bytes (BadCharacter at) h = bad_character h
IsReading-no_tokens bytes (Unterminated at) h = unterminated h
IsReading-no_tokens bytes (NumberRange at) h = number_range h
IsReading-no_tokens bytes NoMemory h = tt

-- by the laws of tokens and of trees
pub misspelled-no_script : ((bytes : List ℕ) (ts us : List Token) → Lexes bytes ts → Lexes bytes us → ts ≡ us) →
    ((bytes : List ℕ) (ts : List Token) (error : LexError) → Lexes bytes ts → Refuses bytes error → ⊥) →
    ((tokens : List Token) (length at : ℕ) (script : Script) → IsUnexpected tokens length at → Spells tokens script → ⊥) →
    (bytes : List ℕ) (script : Script) (b : Break) → IsScriptOf bytes script → IsMisspelled bytes b → ⊥
misspelled-no_script one lexed parsed bytes script b s (not_utf8 {at = n} h) = lexed bytes s.tokens (NotUtf8 n) s.lexes h
misspelled-no_script one lexed parsed bytes script b s (bad_character {at = n} h) = lexed bytes s.tokens (BadCharacter n) s.lexes h
misspelled-no_script one lexed parsed bytes script b s (unterminated {at = n} h) = lexed bytes s.tokens (Unterminated n) s.lexes h
misspelled-no_script one lexed parsed bytes script b s (number_range {at = n} h) = lexed bytes s.tokens (NumberRange n) s.lexes h
misspelled-no_script one lexed parsed bytes script b s (unexpected {at = n} {tokens = ts} lexes shallow h) =
    parsed ts (length bytes) n script h (subst (λ us. Spells us script) (one bytes s.tokens ts s.lexes lexes) s.spells)
misspelled-no_script one lexed parsed bytes script b s (too_deep {at = n} {tokens = ts} lexes deep) =
    none-some n (sym s.shallow ∙ ap nesting.too_deep (one bytes s.tokens ts s.lexes lexes) ∙ deep)
