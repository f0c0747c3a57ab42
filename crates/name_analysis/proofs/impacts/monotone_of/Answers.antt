use Rattle.name_seen_parts.specs.Standing.{around_of}
use Rattle.name_meaning.specs.Meanings.{query_means_at}
use Rattle.name_meaning.specs.Trees.{query_of}
use Rattle.name_statements.proofs.Impacts.{monotone-refuses}
use Rattle.name_analysis.proofs.impacts.monotone_of.Goals as goal

pub monotone_with-requires-clause-made : goal.monotone_with-requires-clause-made
monotone_with-requires-clause-made c =
    c.in-Ok.ensures (query_means_at (query_of c.args.around.now.catalog.now c.args.query.now) (around_of c.args.around.now)) c.requires.seen.whole c.query_made-made.ensures

pub returns-in-Ok : goal.returns-in-Ok
returns-in-Ok c = c.monotone_with.ensures (rw (c.as_slice.ensures, c.as_slice-order.ensures) at c.keys_of-keys.ensures)

pub returns-in-Err : goal.returns-in-Err
returns-in-Err c =
    let m = query_means_at (query_of c.args.around.now.catalog.now c.args.query.now) (around_of c.args.around.now) in
    monotone-refuses c.args.query.now.at m c.in-Err.refusal (c.in-Err.ensures m c.requires.seen.whole c.query_made-made.ensures)
