use Rattle.sql_lexer.proofs.Classes.{single_ascii}
use Rattle.sql_lexer.proofs.Ascii.{one_utf8}
use Rattle.sql_lexer.proofs.Fronts.{first_of}
use Rattle.sql_lexer.proofs.symbols.single.Goals as goal

pub symbol-requires-clause-utf8 : goal.symbol-requires-clause-utf8
symbol-requires-clause-utf8 c = rw (first_of c.args.text.now c.requires.nonempty) (one_utf8 _ (single_ascii _ (cc)))
