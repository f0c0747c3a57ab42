use Rattle.std.proofs.Common.{◌≡◌, true}
use Rattle.bag_algebra.specs.Rewriting.{is_plain, Stands}
use Rattle.perm_values.proofs.Results.{where_made}
use Rattle.perm_values.proofs.Taken.{opened}
use Rattle.rewrite_core.proofs.Itself.{stands-onward}
use Rattle.plain_queries.proofs.plain.folded.Goals as goal

pub folded_query-folded-requires : goal.folded_query-folded-requires
folded_query-folded-requires c = opened (λ b. is_plain b ≡ true) c.args.query _ c.in_ok-plain.was c.requires

pub returns-clause-stands : goal.returns-clause-stands
returns-clause-stands c q h =
    where_made (λ p. Stands c.in_ok-plain.plain p) (λ p. Stands q p) c.folded_query-folded.result
    (λ p s. stands-onward q c.in_ok-plain.plain p (opened (λ b. Stands q b) c.args.query _ c.in_ok-plain.was h) s) c.folded_query-folded.ensures.stands
