use Rattle.sql_printer.proofs.explained.ReadBack.{named-where}
use Rattle.sql_printer.proofs.explained.reading.names_tables.Goals as goal

pub is_whole-does-requires : goal.is_whole-does-requires
is_whole-does-requires c = c.in_ok-alone.ensures.sound

pub returns : goal.returns
returns c =
    named-where c.args.catalog.now c.in_ok-alone.alone c.args.text.now c.in_ok-alone.ensures c.is_whole-does.result c.is_whole-does.ensures
