use Rattle.std.proofs.Common.{◌≡◌, ◌∙◌, All, IfOk, length, sym, ap, subst}
use Rattle.bag_algebra.specs.Kinds.{width_of}
use Rattle.bag_algebra.specs.Rewriting.{IsRewrite}
use Rattle.bag_algebra.specs.declared.query.Query.TheVariants.{Project}
use Rattle.contribution.proofs.NodeQueries.{of_made}
use Rattle.rewrite_core.proofs.ClosedSublinks.{closed-Project}
use Rattle.rewrite_core.specs.rewritings.OpenSublinks.{IsClosedSublink, NoOpenSublink}
use Rattle.rewrite_sublink.proofs.Lengths.{stand-length, rewritten-length}
use Rattle.rewrite_sublink.specs.Candidates.{answer_columns, beside_row}
use Rattle.lateral_rewrite.proofs.ClosedContributions.{all-contributed-closed}
use Rattle.lateral_rewrite.proofs.WholeRules.{project-whole}
use Rattle.lateral_rewrite.proofs.rules.project_lateral.Goals as goal
use Rattle.lateral_rewrite.specs.Dependent.{all_contributed}

pub items_with-requires : goal.items_with-requires
items_with-requires c = record {
  rewritten =
      sym (stand-length c.args.subs.now c.args.standing.now c.requires.standing)
      ∙ rewritten-length c.args.subs.now c.args.sub_rewritings c.requires.rewritten
      ∙ sym (ap length c.as_slice-rewritings.ensures);
}

pub returns-clause-rewrites : goal.returns-clause-rewrites
returns-clause-rewrites c =
    let r = c.args.rewriting in
    let subs = c.args.subs.now in
    let standing = c.args.standing.now in
    of_made (IsRewrite (Project c.args.input.now c.args.items.now subs)) c.items_with.result
    (answer_columns (all_contributed (Project r (beside_row r c.args.items.now) standing) standing c.args.sub_rewritings) (width_of c.args.input.now) (width_of r) (length c.args.items.now))
    (subst (λ rewritings. IfOk c.items_with.result (λ q. q ≡
    answer_columns (all_contributed (Project r (beside_row r c.args.items.now) standing) standing rewritings) (width_of c.args.input.now) (width_of r) (length c.args.items.now)))
    c.as_slice-rewritings.ensures c.items_with.ensures)
    (project-whole c.args.input.now r c.args.items.now subs standing c.args.sub_rewritings c.requires.input c.requires.standing c.requires.rewritten)

pub returns-clause-none_open : goal.returns-clause-none_open
returns-clause-none_open c =
    let r = c.args.rewriting in
    let standing = c.args.standing.now in
    let rows = Project r (beside_row r c.args.items.now) standing in
    of_made (λ p. NoOpenSublink r → All IsClosedSublink standing → All NoOpenSublink c.args.sub_rewritings → NoOpenSublink p) c.items_with.result
    (answer_columns (all_contributed rows standing c.args.sub_rewritings) (width_of c.args.input.now) (width_of r) (length c.args.items.now))
    (subst (λ rewritings. IfOk c.items_with.result (λ q. q ≡
    answer_columns (all_contributed rows standing rewritings) (width_of c.args.input.now) (width_of r) (length c.args.items.now)))
    c.as_slice-rewritings.ensures c.items_with.ensures)
    (λ h s k. (all-contributed-closed rows standing c.args.sub_rewritings (closed-Project r (beside_row r c.args.items.now) standing h s) s k, tt))
