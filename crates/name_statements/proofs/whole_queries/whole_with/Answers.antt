use Rattle.name_seen_parts.specs.Standing.{around_of}
use Rattle.name_meaning.specs.Meanings.{query_means_at}
use Rattle.name_meaning.specs.Trees.{query_of}
use Rattle.name_statements.proofs.Wholes.{whole_made, with-keys}
use Rattle.name_statements.proofs.whole_queries.whole_with.Goals as goal

pub returns-in_ok-with_shown-in-Ok : goal.returns-in_ok-with_shown-in-Ok
returns-in_ok-with_shown-in-Ok c = λ keyed makes.
    let m = query_means_at (query_of c.args.around.now.catalog.now c.args.query.now) (around_of c.args.around.now) in
    let is = c.in-Ok.ensures m c.requires.seen.whole c.requires.inside makes in
    whole_made c.args.around.now.catalog.now (around_of c.args.around.now) c.args.query.now c.in-Ok.gathered c.in-Ok.made c.args.shown
    c.in_ok-with_shown-in-Ok.field-0 is.inside is.narrow c.requires.seen is.makes is.small
    (with-keys c.in-Ok.made c.args.shown c.in-Ok.gathered c.args.query.now.order c.args.keys c.in_ok-with_shown-in-Ok.field-0 keyed c.in_ok-with_shown-in-Ok.ensures)
