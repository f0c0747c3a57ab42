-- The text of a form.
use Rattle.std.specs.Prelude.{◌≡◌, ℕ, true, List}
use Rattle.std.specs.List.{list_all}
use Rattle.sql_tree.specs.grammar.Symbols as n
use Rattle.sql_parser.specs.Texts.{IsTextOf}
use Rattle.sql_tree.specs.declared.query.QueryTree.{QueryTree}
use Rattle.tree_texts.specs.Forms.{QueryForm}
use Rattle.tree_texts.specs.Trees.{IsQuery}
use Rattle.statement_meaning.specs.explains.Explains.{is_plain_word, one_select}

-- the text is one query of the form, without the words PROVENANCE and BASERELATION
pub record IsTextOfForm (form : QueryForm) (text : List ℕ) : Type 0 where
  pub start : ℕ
  pub tree : QueryTree
  pub is : IsQuery form tree
  pub spelled : IsTextOf n.ScriptOf text (one_select start tree)
  pub plain : list_all is_plain_word spelled.tokens ≡ true
