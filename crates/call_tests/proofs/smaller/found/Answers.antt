use Rattle.std.specs.Bool.{IsTrue}
use Rattle.perm_values.proofs.Results.{where_made}
use Rattle.bag_algebra.specs.Rewriting.{is_plain}
use Rattle.call_tests.proofs.smaller.found.Goals as goal

pub returns : goal.returns
returns c = where_made _ (λ p. IsTrue (is_plain p)) c.eliminate-plain.result (λ p s. s.plain) c.eliminate-plain.ensures.stands
