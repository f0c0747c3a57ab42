-- Tokens begin a script exactly where none of them is unexpected, but their end may be.
use Rattle.std.proofs.Common.{◌≡◌, ◌∙◌, ℕ, List, [], ◌∷◌, ◌++◌, length, Some, None, refl, sym, subst, arith, append-nil, append_assoc}
use Rattle.std.specs.List.{AllByRecursion}
use Rattle.sql_lexer.specs.Lexes.{Lexes, MayRefuse, Refuses}
use Rattle.sql_lexer.specs.Printing.{IsSpanned}
use Rattle.sql_lexer.specs.declared.lex_error.LexError.{LexError}
use Rattle.sql_lexer.specs.declared.lex_error.LexError.TheVariants.{NotUtf8, BadCharacter, Unterminated, NumberRange, NoMemory}
use Rattle.sql_lexer.specs.declared.token.Token.{Token}
use Rattle.sql_parser.specs.Nesting.{too_deep}
use Rattle.sql_parser.specs.Spells.{Spells, IsUnexpected, offset_in}
use Rattle.sql_tree.specs.declared.statement.Script.{Script}
use Rattle.sql_tree.specs.grammar.FirstWrong.{IsBegun, IsWrongAt}
use Rattle.sql_tree.specs.grammar.Grammar.{sql}
use Rattle.sql_tree.specs.grammar.Rules.{symbol, Spelled}
use Rattle.sql_tree.specs.grammar.Symbols.{ScriptOf}
use Rattle.refusal_tokens.specs.Begins.{BeginsScript}

abbrev Begun : List Token → Type 0
Begun tokens = IsBegun sql (symbol ScriptOf) tokens

-- what begins a script is begun before
begun_before : (us vs : List Token) → Begun (us ++ vs) → Begun us
begun_before us vs begun =
    (vs ++ begun.0, begun.1, subst (λ l. Spelled sql (symbol ScriptOf) l begun.1) (append_assoc us vs begun.0) begun.2)

amid : (P : Token → Type 0) (before : List Token) (t : Token) (rest : List Token) → AllByRecursion P (before ++ t ∷ rest) → P t
amid P [] t rest all = all.0
amid P (u ∷ before) t rest all = amid P before t rest all.1

end_begun : (bytes : List ℕ) (tokens before wrong : List Token) (at : ℕ) → AllByRecursion (IsSpanned bytes) tokens → tokens ≡ before ++ wrong
    → Begun before → at ≡ offset_in (length bytes) wrong → at ≡ length bytes → Begun tokens
end_begun bytes tokens before [] at all splits begun offset end = subst Begun (sym (splits ∙ append-nil before)) begun
end_begun bytes tokens before (t ∷ rest) at all splits begun offset end =
    let spanned = amid (IsSpanned bytes) before t rest (subst (AllByRecursion (IsSpanned bytes)) splits all) in
    let within = spanned.within in
    let some = spanned.some in
    absurd (omega (arith, within, some, offset, end))

begun_end : (length : ℕ) (tokens before wrong : List Token) (at : ℕ) → tokens ≡ before ++ wrong → IsWrongAt sql (symbol ScriptOf) before wrong
    → at ≡ offset_in length wrong → Begun tokens → at ≡ length
begun_end length tokens before [] at splits refuted offset begun = offset
begun_end length tokens before (t ∷ rest) at splits refuted offset begun =
    absurd (refuted (begun_before (before ++ t ∷ []) rest (subst Begun (splits ∙ sym (append_assoc before (t ∷ []) rest)) begun)))

module _ (bytes : List ℕ) (tokens : List Token) (lexes : Lexes bytes tokens)
    (one_list : (us vs : List Token) → Lexes bytes us → Lexes bytes vs → us ≡ vs) where
  pub spelled_begins : (script : Script) → too_deep tokens ≡ None → Spells tokens script → BeginsScript bytes
  spelled_begins script shallow spelled = record {
    tokens = tokens;
    lexes = lexes;
    shallow = shallow;
    begun = ([], script, subst (λ l. Spells l script) (sym (append-nil tokens)) spelled);
  }

  pub end_begins : (at : ℕ) → AllByRecursion (IsSpanned bytes) tokens → too_deep tokens ≡ None → IsUnexpected tokens (length bytes) at
      → at ≡ length bytes → BeginsScript bytes
  end_begins at all shallow unexpected end = record {
    tokens = tokens;
    lexes = lexes;
    shallow = shallow;
    begun = end_begun bytes tokens unexpected.first.before unexpected.wrong at all unexpected.first.splits unexpected.first.begun unexpected.offset end;
  }

  pub begins_end : (at : ℕ) → IsUnexpected tokens (length bytes) at → BeginsScript bytes → at ≡ length bytes
  begins_end at unexpected begins =
      begun_end (length bytes) tokens unexpected.first.before unexpected.wrong at unexpected.first.splits unexpected.first.wrong unexpected.offset
      (subst Begun (one_list begins.tokens tokens begins.lexes lexes) begins.begun)

  pub deep_begins_not : (at : ℕ) → too_deep tokens ≡ Some at → BeginsScript bytes → ⊥
  deep_begins_not at deep begins =
      let shallow : too_deep tokens ≡ None = subst (λ l. too_deep l ≡ None) (one_list begins.tokens tokens begins.lexes lexes) begins.shallow in
      absurd cc

-- what is refused, and not for want of memory, has no tokens
pub has_none : (bytes : List ℕ) (error : LexError) → (error ≡ NoMemory → ⊥) → MayRefuse bytes error
    → ((ts : List Token) (e : LexError) → Lexes bytes ts → Refuses bytes e → ⊥) → (ts : List Token) → Lexes bytes ts → ⊥
has_none bytes (NotUtf8 at) known refused not_both ts lexes = not_both ts (NotUtf8 at) lexes refused
has_none bytes (BadCharacter at) known refused not_both ts lexes = not_both ts (BadCharacter at) lexes refused
has_none bytes (Unterminated at) known refused not_both ts lexes = not_both ts (Unterminated at) lexes refused
has_none bytes (NumberRange at) known refused not_both ts lexes = not_both ts (NumberRange at) lexes refused
has_none bytes NoMemory known refused not_both ts lexes = known refl
