use Rattle.std.proofs.Common.{◌≡◌, true}
use Rattle.bag_algebra.specs.Rewriting.{Stands}
use Rattle.folded_literals.specs.Simple.{is_simple}
use Rattle.plain_queries.proofs.plain.plain_query.Given as goal

abbrev pub invariant-rounds : goal.invariant-rounds
invariant-rounds l = Stands l.query l.simple × (is_simple l.simple ≡ true)
