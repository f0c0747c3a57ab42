-- What stands in front of a place, and the line that is said of it.
use Rattle.std.proofs.Common.{◌≡◌, ◌∙◌, ◌≤◌, ◌<◌, ◌+◌, ℕ, Bool, true, false, cond, List, [], ◌∷◌, length, drop, take, reverse, get_or, find, Some, Result, Ok, Err, IfOk, refl, ap, subst, sym}
use Rattle.std.proofs.lemmas.List.{reverse-append, take_more}
use Rattle.std.specs.Option.{option_map_or}
use Rattle.std.specs.Borrow.{Bor}
use Rattle.sql_lexer.specs.Lexes.{Lexes}
use Rattle.sql_lexer.specs.declared.token.Token.{Token}
use Rattle.refusal_tokens.specs.Fronts.{IsFront, is_semicolon, statement_start}
use Rattle.refusal_tokens.specs.Hints.{IsLine, said, limit, line, standing_list}
use Rattle.refusal_tokens.specs.Standing.{AreThose, AreWords}
use Rattle.refusal_tokens.specs.Tables.{marks, operators, texts_of, values}

pub front_is : (script before front : List ℕ) (at start : ℕ) (tokens : List Token) → before ≡ take at script → Lexes before tokens
    → start ≡ statement_start tokens → front ≡ drop start before → IsFront script at front
front_is script before front at start tokens e lexes f behind = record {
  tokens = tokens;
  lexes = subst (λ b. Lexes b tokens) e lexes;
  behind = behind ∙ ap (λ s. drop s before) f ∙ ap (drop (statement_start tokens)) e;
}

module _ {E : Type 0} (script front : List ℕ) (at : ℕ) (is : IsFront script at front) (short : length front ≤ limit) where
  pub line_said : (values' words' operators' marks' v w o m : List (Bor (List ℕ))) (list list' : List ℕ) (r : Result (List ℕ) E)
      → AreThose front values (texts_of values') → AreWords front (texts_of words') → AreThose front operators (texts_of operators')
      → AreThose front marks (texts_of marks') → v ≡ values' → w ≡ words' → o ≡ operators' → m ≡ marks'
      → list ≡ standing_list (texts_of v) (texts_of w) (texts_of o) (texts_of m) → list' ≡ list
      → IfOk r (λ made. made ≡ line list') → IfOk r (λ hint. IsLine script at hint)
  line_said values' words' operators' marks' v w o m list list' (Ok made) a b c d p q s t e f g =
      subst (IsLine script at) (sym (g ∙ ap line (f ∙ e)))
      (said {front = front} {found_values = texts_of v} {found_words = texts_of w} {found_operators = texts_of o} {found_marks = texts_of m} is short
      (subst (λ l. AreThose front values (texts_of l)) (sym p) a) (subst (λ l. AreWords front (texts_of l)) (sym q) b)
      (subst (λ l. AreThose front operators (texts_of l)) (sym s) c) (subst (λ l. AreThose front marks (texts_of l)) (sym t) d))
  line_said values' words' operators' marks' v w o m list list' (Err error) a b c d p q s t e f g = g

-- behind one token more the statement stands behind it, where it is a semicolon
pub start_more : (tokens : List Token) (i : ℕ) (d : Token) → i < length tokens
    → statement_start (take (i + 1) tokens) ≡ cond (is_semicolon (get_or tokens i d)) (get_or tokens i d).end (statement_start (take i tokens))
start_more tokens i d below =
    ap statement_start (take_more tokens i d below)
    ∙ ap (λ l. option_map_or (λ (t : Token). t.end) (find is_semicolon l) 0) (reverse-append (take i tokens) (get_or tokens i d ∷ []))
    ∙ by_test (is_semicolon (get_or tokens i d))
  where
    by_test : (b : Bool) → option_map_or (λ (t : Token). t.end) (cond b (Some (get_or tokens i d)) (find is_semicolon (reverse (take i tokens)))) 0
        ≡ cond b (get_or tokens i d).end (statement_start (take i tokens))
    by_test true = refl
    by_test false = refl
