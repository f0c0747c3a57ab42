use Rattle.sql_parser.proofs.Regularity.{script-regular}
use Rattle.sql_tree.proofs.TokenNumbers.{token-numbers}
use Rattle.sql_parser.proofs.laws.a_spelled_script_is_regular.Goals as goal

pub returns : goal.returns
returns c = λ bytes tokens script lexes spelled. script-regular (token-numbers lexes.whole) spelled
