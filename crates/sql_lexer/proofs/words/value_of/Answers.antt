use Rattle.std.proofs.Common.{w64}
use Rattle.std.proofs.lemmas.Int.{to_z-of_z}
use Rattle.sql_lexer.proofs.Ascii.{digits_utf8}
use Rattle.sql_lexer.proofs.Numbers.{in_range, out_of_range}
use Rattle.sql_lexer.proofs.words.value_of.Goals as goal

pub as_text-requires : goal.as_text-requires
as_text-requires c = digits_utf8 c.args.digits.now c.requires.1

pub returns-in-Ok : goal.returns-in-Ok
returns-in-Ok c =
    rw (to_z-of_z w64 c.in-Ok.value (rw c.in-Ok.ensures.value.0.1 c.in-Ok.ensures.value.0.0.1))
    (in_range c.as_text.result.now c.args.digits.now c.parse.result c.as_text.ensures c.requires.1 c.parse.ensures.value.0 c.in-Ok.value c.in-Ok.is)

pub returns-in-Err : goal.returns-in-Err
returns-in-Err c =
    out_of_range c.as_text.result.now c.args.digits.now c.parse.result c.as_text.ensures c.requires.1 c.parse.ensures.value.0 c.in-Err.field-0 c.requires.0 c.in-Err.is
