use Rattle.std.proofs.Common.{◌≡◌, ◌∙◌, [], IfOk, subst₂}
use Rattle.bag_algebra.specs.built.Openings.{Apply-is}
use Rattle.bag_algebra.specs.built.Patterns.{ProjectOf}
use Rattle.bag_algebra.specs.ColumnItems.{column_items}
use Rattle.bag_algebra.specs.Kinds.{kinds_of}
use Rattle.bag_algebra.specs.Rewriting.{IsRewrite}
use Rattle.bag_algebra.specs.declared.query.Query.{end_of-Sublink}
use Rattle.bag_algebra.specs.declared.query.Query.TheVariants.{Apply}
use Rattle.contribution.proofs.NodeQueries.{of_made}
use Rattle.rewrite_core.specs.rewritings.OpenSublinks.{NoOpenSublink}
use Rattle.lateral_rewrite.proofs.ApplyRows.{rewrite-Apply}
use Rattle.lateral_rewrite.proofs.joins.apply.Goals as goal
use Rattle.lateral_rewrite.specs.Applied.{applied}

pub returns-clause-rewrites : goal.returns-clause-rewrites
returns-clause-rewrites c =
    of_made (IsRewrite (Apply c.args.kind c.args.left.now c.args.right.now)) c.regroup.result
    (applied c.args.kind c.args.left.now c.args.left_rewriting c.args.right.now c.args.right_rewriting)
    (subst₂ (λ pairs order. IfOk c.regroup.result (λ p. p ≡ ProjectOf pairs (column_items (kinds_of pairs) order) [] end_of-Sublink))
    (c.in_ok-pairs.ensures ∙ Apply-is c.args.kind c.args.left_rewriting c.args.right_rewriting) (c.as_slice.ensures ∙ c.in-Ok.ensures) c.regroup.ensures.made)
    (rewrite-Apply c.args.kind c.args.left.now c.args.left_rewriting c.args.right.now c.args.right_rewriting c.requires.left c.requires.right)

pub returns-clause-none_open : goal.returns-clause-none_open
returns-clause-none_open c =
    of_made (λ p. NoOpenSublink c.args.left_rewriting → NoOpenSublink c.args.right_rewriting → NoOpenSublink p) c.regroup.result
    (applied c.args.kind c.args.left.now c.args.left_rewriting c.args.right.now c.args.right_rewriting)
    (subst₂ (λ pairs order. IfOk c.regroup.result (λ p. p ≡ ProjectOf pairs (column_items (kinds_of pairs) order) [] end_of-Sublink))
    (c.in_ok-pairs.ensures ∙ Apply-is c.args.kind c.args.left_rewriting c.args.right_rewriting) (c.as_slice.ensures ∙ c.in-Ok.ensures) c.regroup.ensures.made)
    (λ g h. ((g, h), tt))
