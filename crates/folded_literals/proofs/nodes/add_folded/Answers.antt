use Rattle.std.proofs.Common.{◌≡◌, true, List, ◌∷◌, ◌++◌, [], sym, ap, ◌∙◌, subst}
use Rattle.bag_algebra.specs.Rewriting.{Stands}
use Rattle.bag_algebra.specs.declared.query.Sublink.{Sublink}
use Rattle.query_laws.specs.Standing.{SubsStand}
use Rattle.perm_values.proofs.Results.{appended}
use Rattle.perm_values.proofs.Taken.{opened}
use Rattle.query_laws.proofs.StandingSublinks.{stand-more}
use Rattle.folded_literals.proofs.SimpleNodes.{sublinks-simple}
use Rattle.folded_literals.specs.Simple.{is_simple}
use Rattle.folded_literals.specs.built.Simple.{all_simple}
use Rattle.folded_literals.proofs.nodes.add_folded.Goals as goal

pub returns-clause-stand : goal.returns-clause-stand
returns-clause-stand c subs h k =
    appended (SubsStand (subs ++ c.args.sub.now ∷ [])) _ _ _ c.push.ensures.ok (stand-more subs _ c.args.sub.now _ h (record {
      kind = sym c.in_ok-other.ensures.kind_kept;
      tested = c.in_ok-other.ensures.tested_same;
      query = subst (λ b. Stands c.args.sub.now.query b) (sym c.in_ok-other.ensures.over) (opened (λ b. Stands c.args.sub.now.query b) c.args.query _ c.in_ok-query.was k);
    }))

pub returns-clause-simple : goal.returns-clause-simple
returns-clause-simple c h k =
    appended (λ (others : List Sublink). all_simple others ≡ true) _ _ _ c.push.ensures.ok
    (sublinks-simple c.args.others.now c.in_ok-other.other h c.in_ok-other.ensures.tested_settled
    (ap is_simple c.in_ok-other.ensures.over ∙ opened (λ b. is_simple b ≡ true) c.args.query _ c.in_ok-query.was k))
