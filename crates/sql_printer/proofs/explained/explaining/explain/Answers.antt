use Rattle.sql_printer.proofs.explained.Explained.{chosen, plain-held, plain-sound}
use Rattle.sql_printer.proofs.explained.explaining.explain.Goals as goal

pub print-requires : goal.print-requires
print-requires c = record {
  sound = c.requires.sound;
  formed = plain-sound c.args.catalog.now c.args.answer.now c.in_ok-simplest.simplest c.requires c.in_ok-simplest.ensures;
  plain = c.in_ok-simplest.ensures.query.plain;
  held = plain-held c.args.catalog.now c.args.answer.now c.in_ok-simplest.simplest c.requires c.in_ok-simplest.ensures;
}

pub returns : goal.returns
returns c =
    chosen c.args.catalog.now c.args.answer.now c.in_ok-simplest.simplest c.requires c.in_ok-simplest.ensures
    c.a_text_explains_all_that_means_the_same.ensures c.in_ok-text.text c.in_ok-text.ensures c.readable_text-said.result c.readable_text-said.ensures
