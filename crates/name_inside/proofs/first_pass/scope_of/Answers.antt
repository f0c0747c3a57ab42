use Rattle.sql_tree.specs.declared.query.Core.{out-Core}
use Rattle.name_meaning.specs.Froms.{from_all}
use Rattle.name_seen_parts.specs.Standing.{around_of}
use Rattle.name_made_parts.specs.Cored.{select_parts, source_parts, having_part}
use Rattle.name_inside.proofs.Cores.{scope-found}
use Rattle.name_inside.proofs.first_pass.scope_of.Goals as goal

pub returns-in-None : goal.returns-in-None
returns-in-None c = rw (c.as_slice.ensures, c.in-None.is) at c.in_ok-scope_or_none.ensures

pub returns-in_ok-scope-in-Some : goal.returns-in_ok-scope-in-Some
returns-in_ok-scope-in-Some c =
    let held = c.args.around.now.catalog.now in
    let core = c.args.core.now in
    scope-found (from_all (around_of c.args.around.now).outer (source_parts held core)) (out-Core core).groups (having_part held core) (select_parts held core) c.in-Some.own
    c.in_ok-scope-in-Some.scope (rw (c.as_slice.ensures, c.in-Some.is) at c.in_ok-scope_or_none.ensures) (c.in_ok-scope-in-Some.ensures held)
