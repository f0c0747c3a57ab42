use Rattle.std.proofs.Common.{◌≡◌, ◌≤◌, length, arith, rules}
use Rattle.sql_tree.specs.grammar.Descent.{Taken}
use Rattle.sql_tree.proofs.Listing.{listed-first}
use Rattle.sql_tree.proofs.grammar.lists.list_of.Goals as goal

pub list_from-requires : goal.list_from-requires
list_from-requires g c =
    let fewer : length c.item.new.arg2 ≤ length c.args.cursor.now = search rules in
    record { callable = λ old within. c.requires.callable old (omega (arith, within, fewer)); fewer = c.requires.fewer }

pub returns-clause-given : goal.returns-clause-given
returns-clause-given g c = λ reading reader.
    let e : reading c.args.cursor.now ≡ Taken c.in_ok-first.first c.item.new.arg2 = search rules in
    rw (listed-first c.args.separator reading c.args.cursor.now c.item.new.arg2 c.in_ok-first.first e) (c.list_from.ensures.given reading reader)
