use Rattle.std.proofs.Common.{◌≡◌, true}
use Rattle.bag_algebra.specs.Rewriting.{is_plain, Stands}
use Rattle.perm_values.proofs.Results.{where_made}
use Rattle.plain_queries.proofs.plain.first_query.Goals as goal

pub folded-requires : goal.folded-requires
folded-requires c =
    where_made (λ p. Stands c.args.query.now p) (λ p. is_plain p ≡ true) c.eliminate.result (λ p s. s.plain) c.eliminate.ensures.stands

pub returns-clause-stands : goal.returns-clause-stands
returns-clause-stands c = c.folded.ensures.stands c.args.query.now c.eliminate.ensures.stands
