-- What is computed from a text is what it spells, and it spells nothing else.
use Rattle.std.proofs.Common.{◌≡◌, ℕ, zero, suc, ◌<◌, ◌+◌, ◌-◌, Bool, true, false, cond, List, [], ◌∷◌, ◌++◌, length, drop, Option, Some, None, refl, sym, ap, subst, ◌∙◌, arith}
use Rattle.std.specs.List.{list_all}
use Rattle.std.specs.Str.{IsAscii}
use Rattle.std.proofs.lemmas.Bool.{ltb-true, and_parts}
use Rattle.std.proofs.lemmas.List.{length-append}
use Rattle.std.proofs.lemmas.Str.{IsUtf8-from_ascii}
use Rattle.std.proofs.Math.Seq.{drop-append_seam}
use Rattle.sql_lexer.specs.declared.token.Token.{Token}
use Rattle.sql_lexer.specs.Lexes.{Piece, LexesTo, nothing, piece, Lexes}
use Rattle.sql_lexer.specs.Reading.{Front, Nothing, Ends, Refused, next}
use Rattle.sql_lexer.proofs.OneAnswer.{one_list}
use Rattle.sql_lexer.proofs.Sound.{IsRead, is_read}
use Rattle.sql_tree.specs.grammar.Cursors.{reading}
use Rattle.sql_tree.specs.grammar.Descent.{Parsed, Taken, Stopped}
use Rattle.sql_tree.specs.grammar.Grammar.{sql}
use Rattle.sql_tree.specs.grammar.Rules.{symbol, Spelled}
use Rattle.sql_tree.specs.grammar.Symbols.{Symbol, Tree}
use Rattle.sql_tree.specs.grammar.Tables.{sql_tables}
use Rattle.sql_tree.proofs.Decided.{goes_on, decided}
use Rattle.sql_tree.proofs.Exact.{one_value, whole-spelled}
use Rattle.sql_parser.specs.Texts.{IsTextOf, is_ascii, before, turned, split, tokens_in, whole, tree_of, tree_in}

abbrev Splits : (ℕ → List ℕ → Option (List Token)) → Type 0
Splits others = (at : ℕ) (text : List ℕ) (tokens : List Token) → others at text ≡ Some tokens → LexesTo at text tokens (at + length text) []

first : (at end : ℕ) (text bytes more : List ℕ) (found : List Token) (others : ℕ → List ℕ → Option (List Token)) → Splits others
    → text ≡ bytes ++ more → end ≡ at + length bytes → Piece at bytes more found
    → (tokens : List Token) → before found (others end (drop (end - at) text)) ≡ Some tokens → LexesTo at text tokens (at + length text) []
first at end text bytes more found others splits e f p tokens g =
    let behind : drop (end - at) text ≡ more = ap (λ k. drop k text) (omega (arith, f)) ∙ ap (drop (length bytes)) e ∙ drop-append_seam bytes more in
    by_rest (others end more) refl (sym (ap (λ l. before found (others end l)) behind) ∙ g)
  where
    by_rest : (o : Option (List Token)) → others end more ≡ o → before found o ≡ Some tokens → LexesTo at text tokens (at + length text) []
    by_rest None h g = absurd cc
    by_rest (Some us) h g =
        let same : found ++ us ≡ tokens = cc in
        let rest : LexesTo (at + length bytes) more us (at + length bytes + length more) [] = subst (λ k. LexesTo k more us (k + length more) []) f (splits end more us h) in
        let ends : at + length bytes + length more ≡ at + length text = omega (arith, ap length e, length-append bytes more) in
        subst (λ l. LexesTo at text l (at + length text) []) same (piece e p (subst (λ k. LexesTo (at + length bytes) more us k []) ends rest))

by_front : (at : ℕ) (text : List ℕ) (tokens : List Token) (others : ℕ → List ℕ → Option (List Token)) → Splits others
    → (front : Front) → IsRead at text front → turned others at text front ≡ Some tokens → LexesTo at text tokens (at + length text) []
by_front at text tokens others splits Nothing r e =
    let none : [] ≡ tokens = cc in
    let ends : at ≡ at + length text = omega (arith, ap length r) in
    subst (λ l. LexesTo at text l (at + length text) []) none
    (subst (λ l. LexesTo at text [] (at + length text) l) r (subst (λ k. LexesTo at text [] k text) ends nothing))
by_front at text tokens others splits (Ends end found) r e = first at end text r.0 r.1 found others splits r.2 r.3 r.4 tokens e
by_front at text tokens others splits (Refused error) r e = absurd cc

split-lexes : (turns : ℕ) → Splits (split turns)
unfolding split
split-lexes zero at text tokens e = absurd cc
split-lexes (suc turns) at text tokens e = by_front at text tokens (split turns) (split-lexes turns) (next at text) (is_read at text) e

-- bytes that are all ASCII
low : (b : ℕ) → is_ascii b ≡ true → b < 128
low b e = ltb-true b 128 e

all-ascii : (bytes : List ℕ) → list_all is_ascii bytes ≡ true → IsAscii bytes
all-ascii [] all i = omega arith
all-ascii (b ∷ bytes) all zero = low b (and_parts (is_ascii b) (list_all is_ascii bytes) all).0
all-ascii (b ∷ bytes) all (suc i) = all-ascii bytes (and_parts (is_ascii b) (list_all is_ascii bytes) all).1 i

-- the tokens of a text are those that it is split into
pub tokens-lex : (text : List ℕ) (tokens : List Token) → tokens_in text ≡ Some tokens → Lexes text tokens
unfolding tokens_in
tokens-lex text tokens e = by_test (list_all is_ascii text) refl e where
  by_test : (b : Bool) → list_all is_ascii text ≡ b → cond b (split (suc (length text)) 0 text) None ≡ Some tokens → Lexes text tokens
  by_test true ascii e = record {
    utf8 = IsUtf8-from_ascii text (all-ascii text ascii);
    whole = subst (λ k. LexesTo 0 text tokens k []) (omega arith) (split-lexes (suc (length text)) 0 text tokens e);
  }
  by_test false ascii e = absurd cc

whole-taken : {X : Type 0} (o : Parsed Token X) (x : X) → whole o ≡ Some x → o ≡ Taken x []
whole-taken (Taken y []) x e = let same : y ≡ x = cc in ap (λ z. Taken z []) same
whole-taken (Taken y (t ∷ rest)) x e = absurd cc
whole-taken (Stopped rest) x e = absurd cc

-- a text spells the tree that is read from it
pub text-spelled : (n : Symbol) (text : List ℕ) (tree : Tree n) → tree_in n text ≡ Some tree → IsTextOf n text tree
unfolding tree_in reading
text-spelled n text tree e = by_tokens (tokens_in text) refl e where
  by_tokens : (o : Option (List Token)) → tokens_in text ≡ o → tree_of n o ≡ Some tree → IsTextOf n text tree
  by_tokens None h e = absurd cc
  by_tokens (Some tokens) h e = record {
    tokens = tokens;
    lexes = tokens-lex text tokens h;
    spelled = whole-spelled sql sql_tables goes_on decided n tokens tree (whole-taken (reading n tokens) tree e);
  }

pub one_tree : (n : Symbol) (text : List ℕ) (x y : Tree n) → IsTextOf n text x → IsTextOf n text y → x ≡ y
one_tree n text x y a b =
    one_value sql sql_tables goes_on decided n a.tokens x y a.spelled
    (subst (λ ts. Spelled sql (symbol n) ts y) (one_list text b.tokens a.tokens b.lexes a.lexes) b.spelled)
