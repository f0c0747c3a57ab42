-- Bytes that are no script have one break.
use Rattle.std.proofs.Common.{◌≡◌, ◌∙◌, ◌⊎◌, ℕ, List, length, Option, Some, None, refl, sym, ap, subst, inl, inr}
use Rattle.sql_lexer.specs.Lexes.{Lexes, Refuses}
use Rattle.sql_lexer.specs.declared.token.Token.{Token}
use Rattle.sql_lexer.specs.declared.lex_error.LexError.{LexError}
use Rattle.sql_lexer.specs.declared.lex_error.LexError.TheVariants.{NotUtf8, BadCharacter, Unterminated, NumberRange, NoMemory}
use Rattle.sql_parser.specs.Nesting as nesting
use Rattle.sql_parser.specs.Spells.{Spells, IsUnexpected}
use Rattle.sql_tree.specs.declared.statement.Script.{Script}
use Rattle.name_meaning.specs.declared.answer.Break.{Break}
use Rattle.perm_engine.specs.meaning.Scripts.{IsScriptOf, IsMisspelled, break_at, not_utf8, bad_character, unterminated, number_range, unexpected, too_deep}
use Rattle.name_meaning.specs.declared.rule.Rule.TheVariants as rule
use Rattle.name_meaning.specs.declared.rule.Rule.{Rule}

-- the rule that a refusal of tokens names; want of memory names none, so any serves
abbrev rule_of : LexError → Rule
rule_of (NotUtf8 at) = rule.NotText
rule_of (BadCharacter at) = rule.StrayCharacter
rule_of (Unterminated at) = rule.OpenText
rule_of (NumberRange at) = rule.LongNumber
rule_of NoMemory = rule.NotText

abbrev place_of : LexError → ℕ
place_of (NotUtf8 at) = at
place_of (BadCharacter at) = at
place_of (Unterminated at) = at
place_of (NumberRange at) = at
place_of NoMemory = 0

abbrev break_of : LexError → Break
break_of e = break_at (rule_of e) (place_of e)

-- why bytes are misspelled: their tokens are refused, or there are tokens, which nest too deeply or of which one is unexpected
data Why (bytes : List ℕ) (b : Break) : Type 0 where
  refused : (e : LexError) → Refuses bytes e → b ≡ break_of e → Why bytes b
  wrong : (tokens : List Token) (at : ℕ) → Lexes bytes tokens → nesting.too_deep tokens ≡ None → IsUnexpected tokens (length bytes) at → b ≡ break_at rule.UnexpectedToken at → Why bytes b
  deep : (tokens : List Token) (at : ℕ) → Lexes bytes tokens → nesting.too_deep tokens ≡ Some at → b ≡ break_at rule.DeepNesting at → Why bytes b

why : (bytes : List ℕ) (b : Break) → IsMisspelled bytes b → Why bytes b
why bytes b (not_utf8 {at = n} h) = refused (NotUtf8 n) h refl
why bytes b (bad_character {at = n} h) = refused (BadCharacter n) h refl
why bytes b (unterminated {at = n} h) = refused (Unterminated n) h refl
why bytes b (number_range {at = n} h) = refused (NumberRange n) h refl
why bytes b (unexpected {at = n} {tokens = ts} lexes shallow h) = wrong ts n lexes shallow h refl
why bytes b (too_deep {at = n} {tokens = ts} lexes nested) = deep ts n lexes nested refl

none≢some : (at : ℕ) → None ≡ Some at → ⊥
none≢some at e = absurd cc

same_place : (m n : ℕ) → Some m ≡ Some n → m ≡ n
same_place m n e = cc

module _ (one_list : (bytes : List ℕ) (ts us : List Token) → Lexes bytes ts → Lexes bytes us → ts ≡ us)
    (one_refusal : (bytes : List ℕ) (d e : LexError) → Refuses bytes d → Refuses bytes e → d ≡ e)
    (not_both : (bytes : List ℕ) (ts : List Token) (e : LexError) → Lexes bytes ts → Refuses bytes e → ⊥)
    (one_offset : (tokens : List Token) (size m n : ℕ) → IsUnexpected tokens size m → IsUnexpected tokens size n → m ≡ n) where
  same : (bytes : List ℕ) (a b : Break) → Why bytes a → Why bytes b → a ≡ b
  same bytes a b (refused d h p) (refused e k q) = p ∙ ap break_of (one_refusal bytes d e h k) ∙ sym q
  same bytes a b (refused d h p) (wrong us n l shallow k q) = absurd (not_both bytes us d l h)
  same bytes a b (refused d h p) (deep us n l nested q) = absurd (not_both bytes us d l h)
  same bytes a b (wrong ts m l shallow h p) (refused e k q) = absurd (not_both bytes ts e l k)
  same bytes a b (wrong ts m l shallow h p) (wrong us n l' shallow' k q) =
      p ∙ ap (break_at rule.UnexpectedToken) (one_offset us (length bytes) m n (subst (λ vs. IsUnexpected vs (length bytes) m) (one_list bytes ts us l l') h) k) ∙ sym q
  same bytes a b (wrong ts m l shallow h p) (deep us n l' nested q) =
      absurd (none≢some n (sym shallow ∙ ap nesting.too_deep (one_list bytes ts us l l') ∙ nested))
  same bytes a b (deep ts m l nested p) (refused e k q) = absurd (not_both bytes ts e l k)
  same bytes a b (deep ts m l nested p) (wrong us n l' shallow k q) =
      absurd (none≢some m (sym shallow ∙ ap nesting.too_deep (one_list bytes us ts l' l) ∙ nested))
  same bytes a b (deep ts m l nested p) (deep us n l' nested' q) =
      p ∙ ap (break_at rule.DeepNesting) (same_place m n (sym nested ∙ ap nesting.too_deep (one_list bytes ts us l l') ∙ nested')) ∙ sym q

  pub same_break : (bytes : List ℕ) (a b : Break) → IsMisspelled bytes a → IsMisspelled bytes b → a ≡ b
  same_break bytes a b h k = same bytes a b (why bytes a h) (why bytes b k)

-- ---- a script or a break

abbrev pub Spelled : List ℕ → Type 0
Spelled bytes = ((script : Script) × IsScriptOf bytes script) ⊎ ((b : Break) × IsMisspelled bytes b)

by_refusal : (bytes : List ℕ) (e : LexError) → Refuses bytes e → Spelled bytes
by_refusal bytes (NotUtf8 at) h = inr (break_at rule.NotText at, not_utf8 h)
by_refusal bytes (BadCharacter at) h = inr (break_at rule.StrayCharacter at, bad_character h)
by_refusal bytes (Unterminated at) h = inr (break_at rule.OpenText at, unterminated h)
by_refusal bytes (NumberRange at) h = inr (break_at rule.LongNumber at, number_range h)
by_refusal bytes NoMemory h = absurd h

by_depth : (bytes : List ℕ) (tokens : List Token) → Lexes bytes tokens
    → ((script : Script) × Spells tokens script) ⊎ ((at : ℕ) × IsUnexpected tokens (length bytes) at) → (depth : Option ℕ) → nesting.too_deep tokens ≡ depth → Spelled bytes
by_depth bytes tokens lexes spelled (Some at) e = inr (break_at rule.DeepNesting at, too_deep lexes e)
by_depth bytes tokens lexes (inl (script, spells)) None e = inl (script, record { tokens = tokens; lexes = lexes; shallow = e; spells = spells })
by_depth bytes tokens lexes (inr (at, wrongly)) None e = inr (break_at rule.UnexpectedToken at, unexpected lexes e wrongly)

pub spelled_or_not : ((bytes : List ℕ) → ((ts : List Token) × Lexes bytes ts) ⊎ ((e : LexError) × Refuses bytes e))
    → ((tokens : List Token) (size : ℕ) → ((script : Script) × Spells tokens script) ⊎ ((at : ℕ) × IsUnexpected tokens size at)) → (bytes : List ℕ) → Spelled bytes
spelled_or_not lexed parsed bytes = by_tokens (lexed bytes) where
  by_tokens : ((ts : List Token) × Lexes bytes ts) ⊎ ((e : LexError) × Refuses bytes e) → Spelled bytes
  by_tokens (inl (ts, lexes)) = by_depth bytes ts lexes (parsed ts (length bytes)) (nesting.too_deep ts) refl
  by_tokens (inr (e, refuses)) = by_refusal bytes e refuses
