-- What a text is read as, when it is to explain what another does.
use Rattle.std.specs.Prelude.{◌≡◌, ℕ, true, List, [], ◌∷◌, ◌++◌, Option, Some, None, codes}
use Rattle.std.specs.List.{list_all}
use Rattle.statement_meaning.specs.explains.Explains.{Explains, NamesTables, is_plain_word, one_select}
use Rattle.bag_algebra.specs.Rewriting.{is_plain}
use Rattle.bag_algebra.specs.declared.query.Answer.{Answer}
use Rattle.name_meaning.specs.Statements.{name_breaks}
use Rattle.name_meaning.specs.declared.answer.Resolved.{Resolved}
use Rattle.name_meaning.specs.declared.answer.Resolved.TheVariants as r
use Rattle.perm_catalog.specs.Contents.{Contents}
use Rattle.sql_tree.specs.grammar.Symbols as n
use Rattle.sql_parser.specs.Texts.{IsTextOf}
use Rattle.sql_tree.specs.declared.query.QueryTree.{QueryTree}
use Rattle.sql_tree.specs.declared.statement.Script.{Script}
use Rattle.sql_tree.specs.declared.statement.Statement.{Statement}
use Rattle.sql_tree.specs.declared.statement.StatementBody.TheVariants.{Explain, Select}

-- the statement that asks what the query means
abbrev pub explain_of : ℕ → QueryTree → Statement
explain_of at tree = record { at = at; body = Explain tree }

-- the script is one query, and the statement asks what it means
pub record IsOnly (script : Script) (statement : Statement) : Type 0 where
  pub start : ℕ
  pub tree : QueryTree
  pub one : script ≡ one_select start tree
  pub asks : statement ≡ explain_of start tree

abbrev pub OnlyQuery : Script → Option Statement → Type 0
OnlyQuery script None = Unit {0}
OnlyQuery script (Some statement) = IsOnly script statement

-- the text is one query without PROVENANCE and BASERELATION, ended by `;` and a newline, and the statement asks what it means
pub record IsPlainText (text : List ℕ) (statement : Statement) : Type 0 where
  pub start : ℕ
  pub tree : QueryTree
  pub spelled : IsTextOf n.ScriptOf text (one_select start tree)
  pub plain : list_all is_plain_word spelled.tokens ≡ true
  pub front : List ℕ
  pub ended : text ≡ front ++ codes ";\n"
  pub asks : statement ≡ explain_of start tree

abbrev pub PlainText : List ℕ → Option Statement → Type 0
PlainText text None = Unit {0}
PlainText text (Some statement) = IsPlainText text statement

-- the text is one query, which breaks no rule of names and kinds
pub record IsWholeText (c : Contents) (text : List ℕ) : Type 0 where
  pub start : ℕ
  pub tree : QueryTree
  pub spelled : IsTextOf n.ScriptOf text (one_select start tree)
  pub whole : name_breaks c (Select tree) ≡ []

-- the text is one query, which names tables of the catalog alone
pub record NamesTablesText (c : Contents) (text : List ℕ) : Type 0 where
  pub start : ℕ
  pub tree : QueryTree
  pub spelled : IsTextOf n.ScriptOf text (one_select start tree)
  pub tables : NamesTables c tree

-- the text explains whatever the other does
abbrev pub SaysAs : Contents → List ℕ → List ℕ → Type 0
SaysAs c text other = (answer : Answer) → Explains c answer other → Explains c answer text

abbrev pub ReadAgain : Contents → List ℕ → Option (List ℕ) → Type 0
ReadAgain c text None = Unit {0}
ReadAgain c text (Some other) = SaysAs c text other

-- the answer is without PROVENANCE, and the text explains it
abbrev pub SaidIn : Contents → Answer → Option (List ℕ) → Type 0
SaidIn c answer None = Unit {0}
SaidIn c answer (Some text) = (is_plain answer.query ≡ true) × Explains c answer text

-- what the statement asks for is without PROVENANCE, and the text explains it
abbrev pub SaidOf : Contents → Resolved → Option (List ℕ) → Type 0
SaidOf c resolved None = Unit {0}
SaidOf c (r.CreateTable name columns) (Some text) = ⊥
SaidOf c (r.CreateTableAs name columns answer places) (Some text) = ⊥
SaidOf c (r.CreateView name entry) (Some text) = ⊥
SaidOf c (r.Copy name kinds file null_field header) (Some text) = ⊥
SaidOf c (r.Insert name rows) (Some text) = ⊥
SaidOf c (r.Delete name condition) (Some text) = ⊥
SaidOf c (r.DropTable name) (Some text) = ⊥
SaidOf c (r.DropView name) (Some text) = ⊥
SaidOf c (r.Select answer) (Some text) = ⊥
SaidOf c (r.Explain answer) (Some text) = SaidIn c answer (Some text)
SaidOf c (r.ShowFresh name) (Some text) = ⊥
SaidOf c (r.Impact name condition answer) (Some text) = ⊥
