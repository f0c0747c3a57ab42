use Rattle.std.proofs.Common.{◌∷◌, ◌++◌, [], sym, subst}
use Rattle.bag_algebra.specs.Rewriting.{Stands}
use Rattle.query_laws.proofs.SameExpressions.{optional-itself}
use Rattle.query_laws.proofs.StandingSublinks.{stand-more}
use Rattle.query_laws.specs.SameExpressions.{SameOptional}
use Rattle.query_laws.specs.Standing.{SubsStand}
use Rattle.perm_values.proofs.Results.{appended}
use Rattle.perm_values.proofs.Taken.{opened}
use Rattle.simpler_laws.proofs.standing.sublinks.add_standing.Goals as goal

pub returns : goal.returns
returns c subs h k =
    appended (SubsStand (subs ++ c.args.sub.now ∷ [])) _ _ _ c.push.ensures.ok (stand-more subs _ c.args.sub.now _ h (record {
      kind = sym c.in_ok-other.ensures.kind_kept;
      tested = subst (SameOptional c.args.sub.now.tested) (sym c.in_ok-other.ensures.tested_kept) (optional-itself c.args.sub.now.tested);
      query = subst (λ b. Stands c.args.sub.now.query b) (sym c.in_ok-other.ensures.over) (opened (λ b. Stands c.args.sub.now.query b) c.args.query _ c.in_ok-query.was k);
    }))
