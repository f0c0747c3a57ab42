use Rattle.std.proofs.Common.{subst}
use Rattle.name_seen_parts.specs.Standing.{around_of}
use Rattle.name_meaning.specs.Meanings.{query_means_at}
use Rattle.name_meaning.specs.Trees.{query_of}
use Rattle.name_statements.specs.Resolves.{InsideSeen}
use Rattle.name_statements.proofs.Impacts.{inside-asked, whole-asked}
use Rattle.name_statements.proofs.monotone.monotone_with.Goals as goal

pub returns-in-Ok : goal.returns-in-Ok
returns-in-Ok c = λ keyed.
    whole-asked c.args.query.now.at (query_means_at (query_of c.args.around.now.catalog.now c.args.query.now) (around_of c.args.around.now)) c.args.made
    c.whole_with.result c.requires.seen.whole c.requires.made (c.whole_with.ensures keyed c.requires.made.makes)

pub returns-in-Err : goal.returns-in-Err
returns-in-Err c = λ keyed.
    let m = query_means_at (query_of c.args.around.now.catalog.now c.args.query.now) (around_of c.args.around.now) in
    inside-asked c.args.query.now.at m c.args.made c.in-Err.refusal c.requires.seen.whole c.requires.made
    (subst (InsideSeen c.args.query.now.at m) c.in-Err.is c.requires.inside)
