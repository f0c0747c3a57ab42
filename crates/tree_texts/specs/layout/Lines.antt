-- A script in lines.
use Rattle.std.specs.Prelude.{◌≡◌, ℕ, List, [], ◌∷◌, ◌++◌, codes}
use Rattle.sql_lexer.specs.Lexes.{Lexes}
use Rattle.sql_lexer.specs.declared.token.Token.{Token}
use Rattle.sql_tree.specs.declared.grammar.sort.Sort.TheVariants.{Semicolon}
use Rattle.tree_texts.specs.plans.Written.{token_for}
use Rattle.tree_texts.specs.Standing.{Places, standing}

-- the text is split into these tokens and `;`, wherever they stand, and ends with `;` and a newline
pub record EndsScript (tokens : List Token) (text : List ℕ) : Type 0 where
  pub places : Places
  pub split : Lexes text (standing places 0 (tokens ++ token_for Semicolon ∷ []))
  pub front : List ℕ
  pub ended : text ≡ front ++ codes ";\n"
