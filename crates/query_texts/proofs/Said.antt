-- The pieces of a plan are the text of its tokens.
use Rattle.std.proofs.Common.{◌≡◌, ◌∙◌, List, [], ◌∷◌, ◌++◌, refl, ap₂, append-nil}
use Rattle.std.proofs.lemmas.Grind.{flat_map-append}
use Rattle.sql_lexer.specs.declared.token.Token.{Token}
use Rattle.sql_tree.specs.grammar.Grammar.{SqlRule}
use Rattle.tree_texts.specs.plans.Plans.{Plan, a_word, a_choice, a_token, both, before, behind, first, second, front_first, front_second, absent, present, no_more, one_more, one_last, at_start, as_symbol, tokens_of}
use Rattle.tree_texts.specs.plans.Written.{token_for}
use Rattle.tree_texts.specs.Texts.{shown, shown_tokens}
use Rattle.query_texts.specs.forms.Pieces.{said}

shown_both : (us vs : List Token) → shown_tokens (us ++ vs) ≡ shown_tokens us ++ shown_tokens vs
shown_both us vs = flat_map-append (λ token. shown token ++ 32 ∷ []) us vs

pub said_is : {rule : SqlRule} (p : Plan rule) → shown_tokens (tokens_of p) ≡ said p
said_is (a_word {sort = sort} written) = append-nil (shown (token_for sort) ++ 32 ∷ [])
said_is (a_choice {sort = sort} written is) = append-nil (shown (token_for sort) ++ 32 ∷ [])
said_is (a_token t is) = append-nil (shown t ++ 32 ∷ [])
said_is (both p q) = shown_both (tokens_of p) (tokens_of q) ∙ ap₂ (λ a b. a ++ b) (said_is p) (said_is q)
said_is (before p b) = said_is p
said_is (behind b p) = said_is p
said_is (first p) = said_is p
said_is (second p) = said_is p
said_is (front_first p) = said_is p
said_is (front_second p) = said_is p
said_is absent = refl
said_is (present p) = said_is p
said_is no_more = refl
said_is (one_more p q) = shown_both (tokens_of p) (tokens_of q) ∙ ap₂ (λ a b. a ++ b) (said_is p) (said_is q)
said_is (one_last p) = said_is p
said_is (at_start p) = said_is p
said_is (as_symbol p) = said_is p
