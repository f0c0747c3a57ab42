-- A script that is read is the one that the tokens spell, and otherwise the cursor stands at the first wrong token.
use Rattle.std.proofs.Common.{◌≡◌, ℕ, List, [], ◌∷◌, None, Result, Ok, Err, refl}
use Rattle.sql_lexer.specs.declared.token.Token.{Token}
use Rattle.sql_tree.specs.grammar.Cursors.{reading, Reads}
use Rattle.sql_parser.specs.built.Ending.{ended}
use Rattle.sql_tree.specs.grammar.Grammar.{sql}
use Rattle.sql_parser.specs.Nesting.{too_deep}
use Rattle.sql_parser.specs.Spells.{Parses}
use Rattle.sql_tree.specs.grammar.Symbols.{ScriptOf}
use Rattle.sql_tree.specs.grammar.Tables.{sql_tables}
use Rattle.sql_tree.specs.declared.grammar.unread.Unread.{Unread}
use Rattle.sql_tree.specs.declared.grammar.unread.Unread.TheVariants as unread
use Rattle.sql_tree.specs.declared.statement.Script.{Script}
use Rattle.sql_tree.proofs.Decided.{goes_on, decided}
use Rattle.sql_tree.proofs.Exact.{whole-spelled, stopped-wrong, left-wrong}
use Rattle.sql_tree.proofs.Samples.{samples}

pub parses : (tokens : List Token) (length : ℕ) → too_deep tokens ≡ None → (read : Result Script Unread) (rest : List Token)
    → Reads read (reading ScriptOf tokens) rest → Parses tokens length (ended read rest length)
unfolding reading
parses tokens length shallow (Ok script) [] e = (shallow, whole-spelled sql sql_tables goes_on decided ScriptOf tokens script e)
parses tokens length shallow (Ok script) (t ∷ rest) e = (
  shallow,
  record {
    wrong = t ∷ rest;
    first = left-wrong sql sql_tables goes_on decided samples ScriptOf tokens rest t script e;
    offset = refl;
  },
)
parses tokens length shallow (Err unread.Unexpected) rest e = (
  shallow,
  record {
    wrong = rest;
    first = stopped-wrong sql sql_tables goes_on decided samples ScriptOf tokens rest e;
    offset = refl;
  },
)
parses tokens length shallow (Err unread.NoMemory) rest e = shallow
