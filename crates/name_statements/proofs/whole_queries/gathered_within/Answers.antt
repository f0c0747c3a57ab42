use Rattle.name_seen_parts.specs.Standing.{around_of}
use Rattle.name_meaning.specs.Meanings.{query_means_at}
use Rattle.name_meaning.specs.Trees.{query_of}
use Rattle.name_statements.proofs.whole_queries.gathered_within.Goals as goal

pub returns-in-Ok : goal.returns-in-Ok
returns-in-Ok c =
    let held = c.args.around.now.catalog.now in
    let place = around_of c.args.around.now in
    c.low_enough.ensures (query_means_at (query_of held c.args.query.now) place) c.requires.whole (c.query_height.ensures.high held place c.requires.sound) c.in-Ok.ensures

pub returns-in-Err : goal.returns-in-Err
returns-in-Err c = c.in-Err.ensures
