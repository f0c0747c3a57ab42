use Rattle.std.specs.List.{AllByRecursion}
use Rattle.std.specs.Str.{IsUtf8}
use Rattle.sql_printer.proofs.forms.OpenedExpressions.{owed-here}
use Rattle.sql_printer.proofs.forms.characters.see_names.Goals as goal

pub loop-name-preserved : goal.loop-name-preserved
loop-name-preserved c = λ rest.
    owed-here (AllByRecursion IsUtf8) c.args.names.now c.loop-name.name-index c.name-item.result c.loop-name-test.true c.name-item.is
    c.loop-name.invariant (c.bytes-bytes.ensures.utf8, rest)
