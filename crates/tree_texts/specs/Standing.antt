-- A plan wherever its tokens stand: blanks are free between tokens, so each token may stand anywhere in the text.
use Rattle.std.specs.Prelude.{ℕ, suc, ◌+◌, List, [], ◌∷◌, length, Some, None}
use Rattle.std.proofs.Common.{inl, inr}
use Rattle.std.specs.Str.{IsUtf8}
use Rattle.sql_lexer.specs.Printing.{plain_spelled, IsSpellable}
use Rattle.sql_lexer.specs.declared.token.Token.{Token}
use Rattle.sql_tree.specs.grammar.Grammar.{SqlRule, Given, build}
use Rattle.tree_texts.specs.plans.Blanks.{blank_value}
use Rattle.tree_texts.specs.plans.Plans.{Plan, a_word, a_choice, a_token, both, before, behind, first, second, front_first, front_second, absent, present, no_more, one_more, one_last, at_start, as_symbol, tokens_of}
use Rattle.tree_texts.specs.plans.Written.{token_for}

pub record Span : Type 0 where
  pub start : ℕ
  pub end : ℕ

-- where the tokens of a text stand, by their number
abbrev pub Places : Type 0
Places = ℕ → Span

-- a token where it stands
abbrev pub at_span : Span → Token → Token
at_span span token = record {
  kind = token.kind;
  start = span.start;
  end = span.end;
  spelled = plain_spelled token.kind token.spelled token.number;
  number = token.number;
}

-- tokens from a number on
abbrev pub standing : Places → ℕ → List Token → List Token
standing places i [] = []
standing places i (t ∷ tokens) = at_span (places i) t ∷ standing places (suc i) tokens

-- what a rule gives, where the first token of its plan has this number
abbrev pub given : Places → ℕ → {rule : SqlRule} → Plan rule → Given rule
given places i (a_word written) = tt
given places i (a_choice {sort = sort} written is) = at_span (places i) (token_for sort)
given places i (a_token t is) = at_span (places i) t
given places i (both p q) = (given places i p, given places (i + length (tokens_of p)) q)
given places i (before p b) = (given places i p, blank_value b)
given places i (behind b p) = (blank_value b, given places i p)
given places i (first p) = inl (given places i p)
given places i (second p) = inr (given places i p)
given places i (front_first p) = inl (given places i p)
given places i (front_second p) = inr (given places i p)
given places i absent = None
given places i (present p) = Some (given places i p)
given places i no_more = []
given places i (one_more p q) = given places i p ∷ given places (i + length (tokens_of p)) q
given places i (one_last p) = given places i p ∷ []
given places i (at_start p) = ((places i).start, given places i p)
given places i (as_symbol {n = n} p) = build n (given places i p)

-- the number of the token behind a plan whose first token has a number
abbrev pub past : ℕ → {rule : SqlRule} → Plan rule → ℕ
past i p = i + length (tokens_of p)

-- a token that can be written, of characters
abbrev pub CanStand : Token → Type 0
CanStand t = IsSpellable t × IsUtf8 t.spelled

-- each token that the plan chooses can be written
abbrev pub Sound : {rule : SqlRule} → Plan rule → Type 0
Sound (a_word written) = Unit {0}
Sound (a_choice written is) = Unit {0}
Sound (a_token t is) = CanStand t
Sound (both p q) = Sound p × Sound q
Sound (before p b) = Sound p
Sound (behind b p) = Sound p
Sound (first p) = Sound p
Sound (second p) = Sound p
Sound (front_first p) = Sound p
Sound (front_second p) = Sound p
Sound absent = Unit {0}
Sound (present p) = Sound p
Sound no_more = Unit {0}
Sound (one_more p q) = Sound p × Sound q
Sound (one_last p) = Sound p
Sound (at_start p) = Sound p
Sound (as_symbol p) = Sound p
