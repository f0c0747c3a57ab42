use Rattle.std.proofs.Common.{sym, ◌∙◌}
use Rattle.name_seen_cores.proofs.Starred.{table_star-whole}
use Rattle.name_seen_cores.proofs.listing.add_table_star.Goals as goal

pub returns-in_ok-add_columns-in-Some : goal.returns-in_ok-add_columns-in-Some
returns-in_ok-add_columns-in-Some c = λ facts.
    table_star-whole c.args.scope.now c.args.table.now c.in-Some.number c.args.columns.now c.add_columns.new.columns facts
    (sym c.item_number.ensures ∙ c.in-Some.is) (sym c.table_star.ensures ∙ c.in_ok-table_star.was) c.in_ok-add_columns-in-Some.ensures
