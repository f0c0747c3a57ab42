use Rattle.std.proofs.Common.{[], ◌∷◌, sym, subst}
use Rattle.bag_algebra.specs.Rewriting.{Stands}
use Rattle.perm_values.proofs.Results.{where_made}
use Rattle.query_laws.proofs.SameExpressions.{optional-itself}
use Rattle.query_laws.specs.SameExpressions.{SameOptional}
use Rattle.query_laws.specs.Standing.{SubsStand}
use Rattle.call_tests.proofs.rewritten.standing.Goals as goal

pub returns : goal.returns
returns c =
    let sub = c.args.sub.now in
    where_made _ (λ others. SubsStand (sub ∷ []) others) c.only_item.result (λ others e.
    subst (SubsStand (sub ∷ [])) (sym e) (
      record {
        kind = sym c.in_ok-other.ensures.kind_kept;
        tested = subst (SameOptional sub.tested) (sym c.in_ok-other.ensures.tested_kept) (optional-itself sub.tested);
        query = subst (λ b. Stands sub.query b) (sym c.in_ok-other.ensures.over) c.in_ok-plain.ensures.stands;
      },
      tt,
    )) c.only_item.ensures
