use Rattle.sql_tree.specs.grammar.Grammar.{sql}
use Rattle.sql_tree.specs.grammar.Symbols.{ScriptOf}
use Rattle.sql_tree.specs.grammar.Tables.{sql_tables}
use Rattle.sql_tree.proofs.Decided.{goes_on, decided}
use Rattle.sql_tree.proofs.Exact.{one_value}
use Rattle.sql_parser.proofs.laws.a_script_has_one_tree.Goals as goal

pub returns : goal.returns
returns c = λ tokens a b. one_value sql sql_tables goes_on decided ScriptOf tokens a b
