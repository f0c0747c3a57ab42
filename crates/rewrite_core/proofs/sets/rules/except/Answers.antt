use Rattle.std.proofs.Common.{sym, ◌∙◌, subst}
use Rattle.bag_algebra.specs.built.Openings.{Except-is}
use Rattle.bag_algebra.specs.Rewriting.{IsRewrite, Stands}
use Rattle.bag_algebra.specs.declared.query.JoinKind.TheVariants.{Left}
use Rattle.bag_algebra.specs.declared.query.Query.{Query}
use Rattle.bag_algebra.specs.declared.query.Query.TheVariants.{Except}
use Rattle.rewrite_core.specs.rewritings.KeptColumns.{columns_kept, differs_from_first, pairs_of}
use Rattle.rewrite_core.specs.rewritings.OpenSublinks.{NoOpenSublink}
use Rattle.contribution.proofs.NodeQueries.{of_made}
use Rattle.rewrite_core.proofs.ExceptRows.{except-made}
use Rattle.rewrite_core.specs.OtherRows.{remaining}
use Rattle.rewrite_core.proofs.sets.rules.except.Goals as goal

pub returns-clause-rewrites : goal.returns-clause-rewrites
returns-clause-rewrites c =
    let plain = Except c.args.all c.args.left c.args.right in
    let given = c.in-Ok.ensures.columns in
    of_made (λ p. (l r : Query) → Stands l c.args.left → IsRewrite l c.args.left_rewriting → Stands r c.args.right → IsRewrite r c.args.right_rewriting →
    IsRewrite (Except c.args.all l r) p) c.beside_others.result _ c.beside_others.ensures
    (λ l r s p z o.
    subst (IsRewrite (Except c.args.all l r))
    (λ i. columns_kept
    (pairs_of Left
    (((λ j. remaining plain c.args.left_rewriting (sym given.own j) (sym given.kept j)) ∙ sym c.in-Ok.ensures.rows) i)
    c.args.right_rewriting (differs_from_first (sym given.own i) (sym given.right i))) (sym given.kept i) (sym given.left_out i))
    (except-made c.args.all l r c.args.left c.args.right c.args.left_rewriting c.args.right_rewriting s z p o))

pub returns-clause-none_open : goal.returns-clause-none_open
returns-clause-none_open c =
    of_made (λ p. NoOpenSublink c.args.left → NoOpenSublink c.args.left_rewriting → NoOpenSublink c.args.right → NoOpenSublink c.args.right_rewriting →
    NoOpenSublink p) c.beside_others.result _ c.beside_others.ensures
    (λ l p r o.
    let plain = subst (λ (q : Query). NoOpenSublink q) (sym (Except-is c.args.all c.args.left c.args.right)) (l, r) in
    ((subst (λ (q : Query). NoOpenSublink q) (sym c.in-Ok.ensures.rows) (p, plain, tt), o, tt), tt))
