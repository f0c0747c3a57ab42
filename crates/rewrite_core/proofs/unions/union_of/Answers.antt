use Rattle.std.proofs.Common.{◌≡◌, ℕ, ◌∙◌, true, List, [], ◌∷◌, IfOk, subst}
use Rattle.perm_values.specs.declared.kind.Kind.{Kind}
use Rattle.bag_algebra.specs.Kinds.{width_of}
use Rattle.bag_algebra.specs.built.Patterns.{UnionOf}
use Rattle.bag_algebra.specs.Rewriting.{IsRewrite}
use Rattle.bag_algebra.specs.declared.query.Query.{Query}
use Rattle.bag_algebra.specs.declared.query.Query.TheVariants.{Union}
use Rattle.contribution.proofs.NodeQueries.{of_made}
use Rattle.rewrite_core.specs.rewritings.OpenSublinks.{NoOpenSublink}
use Rattle.rewrite_core.proofs.UnionRows.{rewrite-Union}
use Rattle.rewrite_core.specs.UnionColumns.{padded_behind, provenance_kinds}
use Rattle.rewrite_core.proofs.unions.union_of.Goals as goal

padded-closed : (q : Query) (first : ℕ) (kinds : List Kind) → NoOpenSublink q → NoOpenSublink (padded_behind q first kinds)
padded-closed q first [] h = h
padded-closed q first (kind ∷ kinds) h = (h, tt)

pub returns-clause-rewrites : goal.returns-clause-rewrites
returns-clause-rewrites c =
    of_made (λ p. IsRewrite (Union c.args.all c.args.left.now c.args.right.now) p) c.both_padded.result _
    (subst (λ added. IfOk c.both_padded.result (λ p. p ≡ UnionOf true (padded_behind c.args.left_rewriting (width_of c.args.left_rewriting) added)
    (padded_behind c.args.right_rewriting (width_of c.args.right.now) (provenance_kinds c.args.left.now c.args.left_rewriting))))
    (c.as_slice.ensures ∙ c.in-Ok.ensures) c.both_padded.ensures)
    (rewrite-Union c.args.all c.args.left.now c.args.left_rewriting c.args.right.now c.args.right_rewriting c.requires.left c.requires.right)

pub returns-clause-none_open : goal.returns-clause-none_open
returns-clause-none_open c =
    of_made (λ p. NoOpenSublink c.args.left_rewriting → NoOpenSublink c.args.right_rewriting → NoOpenSublink p) c.both_padded.result _
    (subst (λ added. IfOk c.both_padded.result (λ p. p ≡ UnionOf true (padded_behind c.args.left_rewriting (width_of c.args.left_rewriting) added)
    (padded_behind c.args.right_rewriting (width_of c.args.right.now) (provenance_kinds c.args.left.now c.args.left_rewriting))))
    (c.as_slice.ensures ∙ c.in-Ok.ensures) c.both_padded.ensures)
    (λ g h. (
      padded-closed c.args.left_rewriting (width_of c.args.left_rewriting) (provenance_kinds c.args.right.now c.args.right_rewriting) g,
      padded-closed c.args.right_rewriting (width_of c.args.right.now) (provenance_kinds c.args.left.now c.args.left_rewriting) h,
    ))
