use Rattle.std.proofs.Common.{sym, ◌∙◌}
use Rattle.perm_values.proofs.Results.{where_made}
use Rattle.bag_algebra.specs.Kinds.{width_of}
use Rattle.lateral_rewrite.specs.Dependent.{contributed, provenance_of}
use Rattle.rewrite_move.proofs.MovedRows.{StandBeside, all-moved, contributed-none, contributed-untested, stand_beside}
use Rattle.rewrite_move.proofs.contributions.beside_compared.Goals as goal
use Rattle.rewrite_move.specs.Moved.{Like}

pub returns-in-None : goal.returns-in-None
returns-in-None c whole l =
    where_made (StandBeside c.args.rows (provenance_of c.args.rewriting.now (width_of c.args.standing.now.query)))
    (Like (contributed whole c.args.standing.now c.args.rewriting.now)) c.beside_all.result
    (λ p is. contributed-none whole c.args.standing.now c.args.rewriting.now p (sym c.choice_of.ensures ∙ c.in-None.is)
    (all-moved whole c.args.rows l c.args.rewriting.now c.requires.plain p (width_of c.args.standing.now.query) is))
    (stand_beside c.args.rows (provenance_of c.args.rewriting.now (width_of c.args.standing.now.query)) c.beside_all.result c.beside_all.ensures.beside c.beside_all.ensures.joined)

pub returns-in-None-tested : goal.returns-in-None-tested
returns-in-None-tested c whole l =
    where_made (StandBeside c.args.rows (provenance_of c.args.rewriting.now (width_of c.args.standing.now.query)))
    (Like (contributed whole c.args.standing.now c.args.rewriting.now)) c.beside_all-in-None-tested.result
    (λ p is. contributed-untested whole c.args.standing.now c.args.rewriting.now p c.in-Some.choice (sym c.choice_of.ensures ∙ c.in-Some.is) c.in-None-tested.is
    (all-moved whole c.args.rows l c.args.rewriting.now c.requires.plain p (width_of c.args.standing.now.query) is))
    (stand_beside c.args.rows (provenance_of c.args.rewriting.now (width_of c.args.standing.now.query)) c.beside_all-in-None-tested.result c.beside_all-in-None-tested.ensures.beside c.beside_all-in-None-tested.ensures.joined)
