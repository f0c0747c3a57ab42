use Rattle.std.proofs.Common.{◌∷◌, ◌++◌, [], sym, subst}
use Rattle.bag_algebra.specs.Rewriting.{Stands}
use Rattle.bag_algebra.specs.declared.query.Query.{Query}
use Rattle.query_laws.proofs.SameExpressions.{optional-itself}
use Rattle.query_laws.specs.SameExpressions.{SameOptional}
use Rattle.perm_values.proofs.Results.{appended}
use Rattle.perm_values.proofs.Taken.{opened}
use Rattle.rewrite_core.specs.rewritings.OpenSublinks.{NoOpenSublink}
use Rattle.rewrite_driver.proofs.SublinkLists.{kept-more}
use Rattle.rewrite_driver.proofs.sublinks.add_standing.Goals as goal
use Rattle.rewrite_driver.specs.KeptClosed.{StandsClosed, SubsStandClosed}

pub returns : goal.returns
returns c subs h k =
    let given = opened (λ (b : Query). StandsClosed c.args.sub.now.query b) c.args.query _ c.in_ok-query.was k in
    appended (SubsStandClosed (subs ++ c.args.sub.now ∷ [])) _ _ _ c.push.ensures.ok (kept-more subs _ c.args.sub.now _ h (record {
      kind = sym c.in_ok-other.ensures.kind_kept;
      tested = subst (SameOptional c.args.sub.now.tested) (sym c.in_ok-other.ensures.tested_kept) (optional-itself c.args.sub.now.tested);
      query = subst (λ b. Stands c.args.sub.now.query b) (sym c.in_ok-other.ensures.over) given.stands;
    }) (λ own. subst (λ (b : Query). NoOpenSublink b) (sym c.in_ok-other.ensures.over) (given.none_open own)))
