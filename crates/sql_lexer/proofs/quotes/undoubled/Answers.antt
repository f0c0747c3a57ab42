use Rattle.std.proofs.Common.{sym, ◌∙◌, subst}
use Rattle.std.specs.Str.{IsUtf8}
use Rattle.sql_lexer.proofs.Undoubling.{none_doubled}
use Rattle.sql_lexer.proofs.quotes.undoubled.Goals as goal

pub text_of-requires-else-contains : goal.text_of-requires-else-contains
text_of-requires-else-contains c =
    subst IsUtf8 (none_doubled c.args.quote c.args.inside.now (sym c.contains.ensures.value ∙ c.if-contains.false)) c.requires

pub returns-else-contains : goal.returns-else-contains
returns-else-contains c =
    rw (none_doubled c.args.quote c.args.inside.now (sym c.contains.ensures.value ∙ c.if-contains.false)) c.text_of-else-contains.ensures
