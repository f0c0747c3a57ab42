use Rattle.std.proofs.Common.{◌≡◌, ◌∙◌, All, IfOk, length, sym, ap, subst₂}
use Rattle.bag_algebra.specs.Rewriting.{IsRewrite}
use Rattle.bag_algebra.specs.declared.query.Query.TheVariants.{Filter}
use Rattle.contribution.proofs.NodeQueries.{of_made}
use Rattle.rewrite_core.proofs.ClosedSublinks.{closed-Filter}
use Rattle.rewrite_core.specs.rewritings.OpenSublinks.{IsClosedSublink, NoOpenSublink}
use Rattle.rewrite_sublink.proofs.Lengths.{stand-length, rewritten-length}
use Rattle.lateral_rewrite.proofs.ClosedContributions.{all-contributed-closed}
use Rattle.lateral_rewrite.proofs.WholeRules.{filter-whole}
use Rattle.lateral_rewrite.proofs.rules.filter_lateral.Goals as goal
use Rattle.lateral_rewrite.specs.Dependent.{all_contributed}

pub with_contributions-requires : goal.with_contributions-requires
with_contributions-requires c = record {
  rewritten =
      sym (stand-length c.args.subs.now c.args.standing.now c.requires.standing)
      ∙ rewritten-length c.args.subs.now c.args.sub_rewritings c.requires.rewritten
      ∙ sym (ap length c.as_slice.ensures);
}

pub returns-clause-rewrites : goal.returns-clause-rewrites
returns-clause-rewrites c =
    of_made (IsRewrite (Filter c.args.input.now c.args.condition.now c.args.subs.now)) c.with_contributions.result
    (all_contributed (Filter c.args.rewriting c.args.condition.now c.args.standing.now) c.args.standing.now c.args.sub_rewritings)
    (subst₂ (λ rows rewritings. IfOk c.with_contributions.result (λ p. p ≡ all_contributed rows c.args.standing.now rewritings))
    c.in_ok-rows.ensures c.as_slice.ensures c.with_contributions.ensures)
    (filter-whole c.args.input.now c.args.rewriting c.args.condition.now c.args.subs.now c.args.standing.now c.args.sub_rewritings c.requires.input
    c.requires.standing c.requires.rewritten)

pub returns-clause-none_open : goal.returns-clause-none_open
returns-clause-none_open c =
    let standing = c.args.standing.now in
    let rows = Filter c.args.rewriting c.args.condition.now standing in
    of_made (λ p. NoOpenSublink c.args.rewriting → All IsClosedSublink standing → All NoOpenSublink c.args.sub_rewritings → NoOpenSublink p)
    c.with_contributions.result (all_contributed rows standing c.args.sub_rewritings)
    (subst₂ (λ rows rewritings. IfOk c.with_contributions.result (λ p. p ≡ all_contributed rows standing rewritings))
    c.in_ok-rows.ensures c.as_slice.ensures c.with_contributions.ensures)
    (λ h s k. all-contributed-closed rows standing c.args.sub_rewritings (closed-Filter c.args.rewriting c.args.condition.now standing h s) s k)
