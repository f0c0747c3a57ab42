-- Which script the bytes of a file are, or why they are none.
use Rattle.std.specs.Prelude.{◌≡◌, ℕ, List, length, Some, None, Result, Ok, Err}
use Rattle.sql_lexer.specs.Lexes.{Lexes, Refuses}
use Rattle.sql_lexer.specs.declared.lex_error.LexError.{LexError}
use Rattle.sql_lexer.specs.declared.lex_error.LexError.TheVariants as lexing
use Rattle.sql_lexer.specs.declared.lex_error.LexError.TheVariants.{NotUtf8, BadCharacter, Unterminated, NumberRange}
use Rattle.sql_lexer.specs.declared.token.Token.{Token}
use Rattle.sql_parser.specs.Nesting as nesting
use Rattle.sql_parser.specs.Spells.{Spells, IsUnexpected}
use Rattle.sql_tree.specs.declared.statement.Script.{Script}
use Rattle.name_meaning.specs.declared.answer.Break.{Break}
use Rattle.name_seen_parts.specs.declared.refusal.Refusal.{Refusal}
use Rattle.name_seen_parts.specs.declared.refusal.Refusal.TheVariants.{Break as Broken, NoMemory}
use Rattle.name_meaning.specs.declared.rule.Rule.TheVariants as rule
use Rattle.name_meaning.specs.declared.rule.Rule.{Rule}

-- the bytes are split into tokens that nest within bounds and spell the script
pub record IsScriptOf (bytes : List ℕ) (script : Script) : Type 0 where
  pub tokens : List Token
  pub lexes : Lexes bytes tokens
  pub shallow : nesting.too_deep tokens ≡ None
  pub spells : Spells tokens script

-- a rule that is broken at an offset
abbrev pub break_at : Rule → ℕ → Break
break_at which at = record { rule = which; at = at }

-- why the bytes are no script: no tokens, then nesting, then the first token that is wrong
pub data IsMisspelled (bytes : List ℕ) : Break → Type 0 where
  not_utf8 : {at : ℕ} → Refuses bytes (NotUtf8 at) → IsMisspelled bytes (break_at rule.NotText at)
  bad_character : {at : ℕ} → Refuses bytes (BadCharacter at) → IsMisspelled bytes (break_at rule.StrayCharacter at)
  unterminated : {at : ℕ} → Refuses bytes (Unterminated at) → IsMisspelled bytes (break_at rule.OpenText at)
  number_range : {at : ℕ} → Refuses bytes (NumberRange at) → IsMisspelled bytes (break_at rule.LongNumber at)
  unexpected : {at : ℕ} {tokens : List Token} → Lexes bytes tokens → nesting.too_deep tokens ≡ None
      → IsUnexpected tokens (length bytes) at → IsMisspelled bytes (break_at rule.UnexpectedToken at)
  too_deep : {at : ℕ} {tokens : List Token} → Lexes bytes tokens → nesting.too_deep tokens ≡ Some at
      → IsMisspelled bytes (break_at rule.DeepNesting at)

-- the refusal of bytes that have no tokens
abbrev pub no_tokens : LexError → Refusal
no_tokens (NotUtf8 at) = Broken (break_at rule.NotText at)
no_tokens (BadCharacter at) = Broken (break_at rule.StrayCharacter at)
no_tokens (Unterminated at) = Broken (break_at rule.OpenText at)
no_tokens (NumberRange at) = Broken (break_at rule.LongNumber at)
no_tokens lexing.NoMemory = NoMemory

-- the script, or why there is none
abbrev pub IsReading : List ℕ → Result Script Refusal → Type 0
IsReading bytes (Ok script) = IsScriptOf bytes script
IsReading bytes (Err (Broken b)) = IsMisspelled bytes b
IsReading bytes (Err NoMemory) = Unit {0}
