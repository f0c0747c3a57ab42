use Rattle.std.proofs.Common.{◌≡◌, [], All, List, arith, sym, subst}
use Rattle.std.proofs.lemmas.Grind.{common_steps}
use Rattle.std.proofs.lemmas.List.{nil_from_length}
use Rattle.bag_algebra.specs.Rewriting.{IsRewrite}
use Rattle.bag_algebra.specs.declared.query.Query.{Query}
use Rattle.bag_algebra.specs.declared.query.Query.TheVariants.{Filter}
use Rattle.bag_algebra.specs.declared.query.Sublink.{Sublink}
use Rattle.perm_values.proofs.Taken.{opened}
use Rattle.rewrite_core.proofs.ClosedSublinks.{parts-Filter}
use Rattle.rewrite_core.specs.rewritings.OpenSublinks.{IsClosedSublink}
use Rattle.rewrite_driver.proofs.MadeQueries.{both_made}
use Rattle.rewrite_driver.proofs.rules.filter_rule.Goals as goal
use Rattle.rewrite_driver.specs.KeptClosed.{RewritesClosed, SubsStandClosed, SubsTracedClosed}

pub filter-requires : goal.filter-requires
filter-requires c =
    (opened (λ (r : Query). RewritesClosed c.args.input.now r) c.args.rewriting _ c.in_ok-rewriting.ensures.first_was c.requires.rewritten).rewrites

pub returns-then-is_empty : goal.returns-then-is_empty
returns-then-is_empty c =
    let none : c.args.subs.now ≡ [] = nil_from_length c.args.subs.now (grind (arith, common_steps, c.is_empty.ensures, c.if-is_empty.true)) in
    let given = opened (λ (r : Query). RewritesClosed c.args.input.now r) c.args.rewriting _ c.in_ok-rewriting.ensures.first_was c.requires.rewritten in
    both_made _ _ (λ p. RewritesClosed (Filter c.args.input.now c.args.condition.now c.args.subs.now) p) c.filter.result c.filter.ensures.rewrites c.filter.ensures.none_open
    (λ p r n. record {
      rewrites = subst (λ subs. IsRewrite (Filter c.args.input.now c.args.condition.now subs) p) (sym none) r;
      none_open = λ h. let parts = parts-Filter c.args.input.now c.args.condition.now c.args.subs.now h in n (given.none_open parts.0);
    })

pub filter_traced-requires-clause-input : goal.filter_traced-requires-clause-input
filter_traced-requires-clause-input c =
    (opened (λ (r : Query). RewritesClosed c.args.input.now r) c.args.rewriting _ c.in_ok-rewriting.ensures.first_was c.requires.rewritten).rewrites

pub filter_traced-requires-clause-standing : goal.filter_traced-requires-clause-standing
filter_traced-requires-clause-standing c =
    rw c.as_slice.ensures ((opened (λ (others : List Sublink). SubsStandClosed c.args.subs.now others) c.args.plain _ c.in_ok-rewriting.ensures.second_was c.requires.subs_stand).stand)

pub filter_traced-requires-clause-traced : goal.filter_traced-requires-clause-traced
filter_traced-requires-clause-traced c =
    (opened (λ (rs : List Query). SubsTracedClosed c.args.subs.now rs) c.args.rewritings _ c.in_ok-rewriting.ensures.third_was c.requires.subs_rewritten).traced

pub returns : goal.returns
returns c =
    let given = opened (λ (r : Query). RewritesClosed c.args.input.now r) c.args.rewriting _ c.in_ok-rewriting.ensures.first_was c.requires.rewritten in
    let stand = opened (λ (others : List Sublink). SubsStandClosed c.args.subs.now others) c.args.plain _ c.in_ok-rewriting.ensures.second_was c.requires.subs_stand in
    let traced = opened (λ (rs : List Query). SubsTracedClosed c.args.subs.now rs) c.args.rewritings _ c.in_ok-rewriting.ensures.third_was c.requires.subs_rewritten in
    both_made _ _ (λ p. RewritesClosed (Filter c.args.input.now c.args.condition.now c.args.subs.now) p) c.filter_traced.result c.filter_traced.ensures.rewrites c.filter_traced.ensures.none_open
    (λ p r n. record {
      rewrites = r;
      none_open = λ h.
          let parts = parts-Filter c.args.input.now c.args.condition.now c.args.subs.now h in
          n (given.none_open parts.0) (subst (λ (others : List Sublink). All IsClosedSublink others) (sym c.as_slice.ensures) (stand.none_open parts.1))
          (traced.none_open parts.1);
    })
