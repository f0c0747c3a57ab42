use Rattle.perm_values.proofs.Results.{where_made}
use Rattle.bag_algebra.specs.Kinds.{width_of}
use Rattle.lateral_rewrite.specs.Dependent.{provenance_of}
use Rattle.rewrite_move.proofs.MovedRows.{StandBeside, all-moved, matched-untested, stand_beside}
use Rattle.rewrite_move.proofs.contributions.beside_matched.Goals as goal
use Rattle.rewrite_move.specs.Moved.{Like, matched}

pub returns-in-None : goal.returns-in-None
returns-in-None c whole l =
    where_made (StandBeside c.args.rows (provenance_of c.args.rewriting.now (width_of c.args.standing.now.query)))
    (Like (matched c.args.choice c.args.standing.now.tested whole c.args.standing.now c.args.rewriting.now)) c.beside_all.result
    (λ p is. matched-untested whole c.args.standing.now c.args.rewriting.now p c.args.choice c.in-None.is
    (all-moved whole c.args.rows l c.args.rewriting.now c.requires.plain p (width_of c.args.standing.now.query) is))
    (stand_beside c.args.rows (provenance_of c.args.rewriting.now (width_of c.args.standing.now.query)) c.beside_all.result c.beside_all.ensures.beside c.beside_all.ensures.joined)
