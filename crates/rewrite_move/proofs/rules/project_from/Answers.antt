use Rattle.std.proofs.Common.{◌≡◌, sym, subst, subst₂, length, All, IfOk}
use Rattle.bag_algebra.specs.Kinds.{width_of}
use Rattle.bag_algebra.specs.Rewriting.{IsRewrite}
use Rattle.bag_algebra.specs.declared.query.Query.TheVariants.{Project}
use Rattle.contribution.proofs.NodeQueries.{of_made}
use Rattle.contribution.specs.Conjunctions.{always}
use Rattle.rewrite_core.proofs.ClosedSublinks.{closed-Project}
use Rattle.rewrite_core.specs.rewritings.OpenSublinks.{IsClosedSublink, NoOpenSublink}
use Rattle.rewrite_move.proofs.ClosedMoves.{all-moved-closed}
use Rattle.rewrite_move.proofs.WholeRules.{project-rewrites, own-items-like}
use Rattle.rewrite_move.proofs.rules.project_from.Goals as goal
use Rattle.rewrite_move.specs.Moved.{Like, SubsFrom, all_moved}
use Rattle.rewrite_sublink.specs.Candidates.{answer_columns, beside_row}

pub with_all_contributions-requires : goal.with_all_contributions-requires
with_all_contributions-requires c = record {
  plain = subst (λ rows. Like rows rows) (sym c.in_ok-rows.ensures)
      (own-items-like c.args.origin c.args.input.now c.args.rewriting c.requires.input c.args.subs.now c.args.standing.now c.args.sub_rewritings c.requires.standing c.requires.given c.args.items.now);
  standing = c.requires.standing;
  given = subst (SubsFrom c.args.origin c.args.subs.now) (sym c.as_slice.ensures) c.requires.given;
}

pub returns-clause-rewrites : goal.returns-clause-rewrites
returns-clause-rewrites c =
    of_made (IsRewrite (Project c.args.input.now c.args.items.now c.args.subs.now)) c.answer_columns.result
    (answer_columns c.in_ok-whole.whole (width_of c.args.input.now) (width_of c.args.rewriting) (length c.args.items.now))
    (subst₂ (λ own row. IfOk c.answer_columns.result (λ p. p ≡ answer_columns c.in_ok-whole.whole own row (length c.args.items.now)))
    c.in-Ok.ensures.columns c.in-Ok-exact_width.ensures.columns c.answer_columns.ensures)
    (project-rewrites c.args.origin c.args.input.now c.args.rewriting c.requires.input c.args.subs.now c.args.standing.now c.args.sub_rewritings c.requires.standing c.requires.given
    c.args.items.now c.in_ok-whole.whole
    (subst₂ (λ rows rewritings. Like (all_moved c.args.origin always 0 rows c.args.subs.now c.args.standing.now rewritings) c.in_ok-whole.whole) c.in_ok-rows.ensures c.as_slice.ensures c.in_ok-whole.ensures))

pub returns-clause-none_open : goal.returns-clause-none_open
returns-clause-none_open c =
    let r = c.args.rewriting in
    let standing = c.args.standing.now in
    let rows = Project r (beside_row r c.args.items.now) standing in
    let like : Like (all_moved c.args.origin always 0 rows c.args.subs.now standing c.args.sub_rewritings) c.in_ok-whole.whole =
    subst₂ (λ rows rewritings. Like (all_moved c.args.origin always 0 rows c.args.subs.now standing rewritings) c.in_ok-whole.whole) c.in_ok-rows.ensures c.as_slice.ensures
    c.in_ok-whole.ensures in
    of_made (λ p. NoOpenSublink r → All IsClosedSublink standing → All NoOpenSublink c.args.sub_rewritings → NoOpenSublink p) c.answer_columns.result
    (answer_columns c.in_ok-whole.whole (width_of c.args.input.now) (width_of r) (length c.args.items.now))
    (subst₂ (λ own row. IfOk c.answer_columns.result (λ p. p ≡ answer_columns c.in_ok-whole.whole own row (length c.args.items.now)))
    c.in-Ok.ensures.columns c.in-Ok-exact_width.ensures.columns c.answer_columns.ensures)
    (λ h s k. (
      like.none_open (all-moved-closed c.args.origin always 0 rows c.args.subs.now standing c.args.sub_rewritings
          (closed-Project r (beside_row r c.args.items.now) standing h s) s k),
      tt,
    ))
