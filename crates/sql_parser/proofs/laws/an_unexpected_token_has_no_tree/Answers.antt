use Rattle.std.proofs.Common.{List, [], ◌∷◌, ◌++◌, subst, sym, append-nil, append_assoc}
use Rattle.sql_lexer.specs.declared.token.Token.{Token}
use Rattle.sql_tree.specs.grammar.FirstWrong.{IsWrongAt}
use Rattle.sql_tree.specs.grammar.Grammar.{sql}
use Rattle.sql_tree.specs.grammar.Rules.{symbol}
use Rattle.sql_parser.specs.Spells.{Spells}
use Rattle.sql_tree.specs.grammar.Symbols.{ScriptOf}
use Rattle.sql_tree.specs.declared.statement.Script.{Script}
use Rattle.sql_parser.proofs.laws.an_unexpected_token_has_no_tree.Goals as goal

none : (before wrong : List Token) (script : Script) → IsWrongAt sql (symbol ScriptOf) before wrong → Spells (before ++ wrong) script → ⊥
none before [] script refuted spelled = refuted script (subst (λ l. Spells l script) (append-nil before) spelled)
none before (t ∷ rest) script refuted spelled = refuted (rest, script, subst (λ l. Spells l script) (sym (append_assoc before (t ∷ []) rest)) spelled)

pub returns : goal.returns
returns c = λ tokens length at script unexpected spelled.
    none unexpected.first.before unexpected.wrong script unexpected.first.wrong
    (subst (λ l. Spells l script) unexpected.first.splits spelled)
