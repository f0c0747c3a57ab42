use Rattle.std.proofs.Common.{sym, subst, subst₂, All, IfOk}
use Rattle.perm_values.proofs.Results.{where_made}
use Rattle.bag_algebra.specs.Rewriting.{IsRewrite}
use Rattle.bag_algebra.specs.declared.query.Query.TheVariants.{Filter}
use Rattle.rewrite_core.proofs.ClosedSublinks.{closed-Filter}
use Rattle.rewrite_core.specs.rewritings.OpenSublinks.{IsClosedSublink, NoOpenSublink}
use Rattle.rewrite_move.proofs.ClosedMoves.{all-moved-closed}
use Rattle.rewrite_move.proofs.WholeRules.{filter-rewrites, own-rows-like}
use Rattle.rewrite_move.proofs.rules.filter_from.Goals as goal
use Rattle.rewrite_move.specs.Moved.{Like, SubsFrom, all_moved}

pub with_contributions-requires : goal.with_contributions-requires
with_contributions-requires c = record {
  plain = subst (λ rows. Like rows rows) (sym c.in_ok-rows.ensures)
      (own-rows-like c.args.origin c.args.input.now c.args.rewriting c.requires.input c.args.subs.now c.args.standing.now c.args.sub_rewritings c.requires.standing c.requires.given c.args.condition.now);
  standing = c.requires.standing;
  given = subst (SubsFrom c.args.origin c.args.subs.now) (sym c.as_slice.ensures) c.requires.given;
}

pub returns-clause-rewrites : goal.returns-clause-rewrites
returns-clause-rewrites c =
    where_made (Like (all_moved c.args.origin c.args.condition.now 0 (Filter c.args.rewriting c.args.condition.now c.args.standing.now) c.args.subs.now c.args.standing.now c.args.sub_rewritings))
    (IsRewrite (Filter c.args.input.now c.args.condition.now c.args.subs.now)) c.with_contributions.result
    (λ p l. filter-rewrites c.args.origin c.args.input.now c.args.rewriting c.requires.input c.args.subs.now c.args.standing.now c.args.sub_rewritings c.requires.standing c.requires.given
    c.args.condition.now p l)
    (subst₂ (λ rows rewritings. IfOk c.with_contributions.result (λ p. Like (all_moved c.args.origin c.args.condition.now 0 rows c.args.subs.now c.args.standing.now rewritings) p))
    c.in_ok-rows.ensures c.as_slice.ensures c.with_contributions.ensures)

pub returns-clause-none_open : goal.returns-clause-none_open
returns-clause-none_open c =
    let standing = c.args.standing.now in
    let rows = Filter c.args.rewriting c.args.condition.now standing in
    where_made (Like (all_moved c.args.origin c.args.condition.now 0 rows c.args.subs.now standing c.args.sub_rewritings))
    (λ p. NoOpenSublink c.args.rewriting → All IsClosedSublink standing → All NoOpenSublink c.args.sub_rewritings → NoOpenSublink p) c.with_contributions.result
    (λ p l h s k. l.none_open (all-moved-closed c.args.origin c.args.condition.now 0 rows c.args.subs.now standing c.args.sub_rewritings
    (closed-Filter c.args.rewriting c.args.condition.now standing h s) s k))
    (subst₂ (λ rows rewritings. IfOk c.with_contributions.result (λ p. Like (all_moved c.args.origin c.args.condition.now 0 rows c.args.subs.now standing rewritings) p))
    c.in_ok-rows.ensures c.as_slice.ensures c.with_contributions.ensures)
