use Rattle.std.proofs.Common.{◌≡◌, [], All, List, arith, sym, subst}
use Rattle.std.proofs.lemmas.Grind.{common_steps}
use Rattle.std.proofs.lemmas.List.{nil_from_length}
use Rattle.bag_algebra.specs.Rewriting.{IsRewrite}
use Rattle.bag_algebra.specs.declared.query.Query.{Query}
use Rattle.bag_algebra.specs.declared.query.Query.TheVariants.{Join}
use Rattle.bag_algebra.specs.declared.query.Sublink.{Sublink}
use Rattle.perm_values.proofs.Taken.{opened}
use Rattle.rewrite_core.proofs.ClosedSublinks.{parts-Join}
use Rattle.rewrite_core.specs.rewritings.OpenSublinks.{IsClosedSublink}
use Rattle.rewrite_driver.proofs.MadeQueries.{both_made}
use Rattle.rewrite_driver.proofs.rules.join_rule.Goals as goal
use Rattle.rewrite_driver.specs.KeptClosed.{RewritesClosed, SubsStandClosed, SubsTracedClosed}

pub join-requires-clause-left : goal.join-requires-clause-left
join-requires-clause-left c =
    (opened (λ (r : Query). RewritesClosed c.args.left.now r) c.args.lefts _ c.in_ok-lefts.ensures.first_was c.requires.left).rewrites

pub join-requires-clause-right : goal.join-requires-clause-right
join-requires-clause-right c =
    (opened (λ (r : Query). RewritesClosed c.args.right.now r) c.args.rights _ c.in_ok-lefts.ensures.second_was c.requires.right).rewrites

pub returns-then-is_empty : goal.returns-then-is_empty
returns-then-is_empty c =
    let none : c.args.subs.now ≡ [] = nil_from_length c.args.subs.now (grind (arith, common_steps, c.is_empty.ensures, c.if-is_empty.true)) in
    let left = opened (λ (r : Query). RewritesClosed c.args.left.now r) c.args.lefts _ c.in_ok-lefts.ensures.first_was c.requires.left in
    let right = opened (λ (r : Query). RewritesClosed c.args.right.now r) c.args.rights _ c.in_ok-lefts.ensures.second_was c.requires.right in
    both_made _ _ (λ p. RewritesClosed (Join c.args.kind c.args.left.now c.args.right.now c.args.condition.now c.args.subs.now) p) c.join.result c.join.ensures.rewrites c.join.ensures.none_open
    (λ p r n. record {
      rewrites = subst (λ subs. IsRewrite (Join c.args.kind c.args.left.now c.args.right.now c.args.condition.now subs) p) (sym none) r;
      none_open = λ h.
          let parts = parts-Join c.args.kind c.args.left.now c.args.right.now c.args.condition.now c.args.subs.now h in
          n (left.none_open parts.0) (right.none_open parts.1);
    })

pub join_traced-requires-clause-left : goal.join_traced-requires-clause-left
join_traced-requires-clause-left c =
    (opened (λ (r : Query). RewritesClosed c.args.left.now r) c.args.lefts _ c.in_ok-lefts.ensures.first_was c.requires.left).rewrites

pub join_traced-requires-clause-right : goal.join_traced-requires-clause-right
join_traced-requires-clause-right c =
    (opened (λ (r : Query). RewritesClosed c.args.right.now r) c.args.rights _ c.in_ok-lefts.ensures.second_was c.requires.right).rewrites

pub join_traced-requires-clause-subs_stand : goal.join_traced-requires-clause-subs_stand
join_traced-requires-clause-subs_stand c =
    rw c.as_slice.ensures ((opened (λ (others : List Sublink). SubsStandClosed c.args.subs.now others) c.args.plain _ c.in_ok-lefts.ensures.third_was c.requires.subs_stand).stand)

pub join_traced-requires-clause-subs_rewritten : goal.join_traced-requires-clause-subs_rewritten
join_traced-requires-clause-subs_rewritten c =
    (opened (λ (rs : List Query). SubsTracedClosed c.args.subs.now rs) c.args.rewritings _ c.in_ok-lefts.ensures.fourth_was c.requires.subs_rewritten).traced

pub returns : goal.returns
returns c =
    let left = opened (λ (r : Query). RewritesClosed c.args.left.now r) c.args.lefts _ c.in_ok-lefts.ensures.first_was c.requires.left in
    let right = opened (λ (r : Query). RewritesClosed c.args.right.now r) c.args.rights _ c.in_ok-lefts.ensures.second_was c.requires.right in
    let stand = opened (λ (others : List Sublink). SubsStandClosed c.args.subs.now others) c.args.plain _ c.in_ok-lefts.ensures.third_was c.requires.subs_stand in
    let traced = opened (λ (rs : List Query). SubsTracedClosed c.args.subs.now rs) c.args.rewritings _ c.in_ok-lefts.ensures.fourth_was c.requires.subs_rewritten in
    both_made _ _ (λ p. RewritesClosed (Join c.args.kind c.args.left.now c.args.right.now c.args.condition.now c.args.subs.now) p) c.join_traced.result c.join_traced.ensures.rewrites c.join_traced.ensures.none_open
    (λ p r n. record {
      rewrites = r;
      none_open = λ h.
          let parts = parts-Join c.args.kind c.args.left.now c.args.right.now c.args.condition.now c.args.subs.now h in
          n (left.none_open parts.0) (right.none_open parts.1)
          (subst (λ (others : List Sublink). All IsClosedSublink others) (sym c.as_slice.ensures) (stand.none_open parts.2)) (traced.none_open parts.2);
    })
