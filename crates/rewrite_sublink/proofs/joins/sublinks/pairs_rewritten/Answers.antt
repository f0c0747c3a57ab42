use Rattle.std.proofs.Common.{◌≡◌, IfOk, subst₂}
use Rattle.bag_algebra.specs.declared.query.Query.{Query}
use Rattle.perm_values.proofs.Taken.{opened}
use Rattle.rewrite_core.specs.rewritings.OpenSublinks.{NoOpenSublink}
use Rattle.rewrite_sublink.proofs.joins.sublinks.pairs_rewritten.Goals as goal

pub returns-clause-none_open : goal.returns-clause-none_open
returns-clause-none_open c =
    subst₂ (λ (lefts : Query) (rights : Query). IfOk c.join.result (λ p. NoOpenSublink lefts → NoOpenSublink rights → NoOpenSublink p))
    (opened (λ (q : Query). q ≡ c.args.left_rewriting.now) c.copy.result _ c.in_ok-left_copy.ensures.first_was c.copy.ensures)
    (opened (λ (q : Query). q ≡ c.args.right_rewriting.now) c.copy-2.result _ c.in_ok-left_copy.ensures.second_was c.copy-2.ensures)
    c.join.ensures.none_open
