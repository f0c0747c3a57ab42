use Rattle.std.proofs.Common.{◌≡◌, true}
use Rattle.perm_values.proofs.Results.{where_made}
use Rattle.bag_algebra.specs.Rewriting.{is_plain, Stands}
use Rattle.rewrite_core.proofs.Itself.{stands-onward}
use Rattle.simplifier.proofs.passes.simplify.Goals as goal

pub lowered_tests-requires : goal.lowered_tests-requires
lowered_tests-requires c =
    where_made (λ p. Stands c.args.query p) (λ p. is_plain p ≡ true) c.folded_query-folded.result (λ p s. s.plain) c.folded_query-folded.ensures.stands

pub folded_again-requires : goal.folded_again-requires
folded_again-requires c =
    where_made (λ p. Stands c.args.query p) (λ p. is_plain p ≡ true) c.lowered_tests.result (λ p s. s.plain)
    (c.lowered_tests.ensures c.args.query c.folded_query-folded.ensures.stands)

pub returns-clause-stands : goal.returns-clause-stands
returns-clause-stands c = c.folded_again.ensures.stands c.args.query (c.lowered_tests.ensures c.args.query c.folded_query-folded.ensures.stands)

pub returns-clause-onward : goal.returns-clause-onward
returns-clause-onward c q s =
    where_made (λ p. Stands c.args.query p) (λ p. Stands q p) c.folded_again.result (λ p t. stands-onward q c.args.query p s t)
    (c.folded_again.ensures.stands c.args.query (c.lowered_tests.ensures c.args.query c.folded_query-folded.ensures.stands))
