use Rattle.std.proofs.Common.{Result, IfOk, sym, subst}
use Rattle.perm_values.specs.declared.no_memory.NoMemory.{NoMemory}
use Rattle.bag_algebra.specs.Rewriting.{IsRewrite}
use Rattle.bag_algebra.specs.built.Openings.{Distinct-is}
use Rattle.bag_algebra.specs.declared.query.Query.{Query}
use Rattle.bag_algebra.specs.declared.query.Query.TheVariants.{Distinct}
use Rattle.perm_values.proofs.Taken.{opened}
use Rattle.rewrite_driver.proofs.ClosedNodes.{along}
use Rattle.rewrite_driver.proofs.rules.distinct_rule.Goals as goal
use Rattle.rewrite_driver.specs.KeptClosed.{RewritesClosed}

pub distinct-requires : goal.distinct-requires
distinct-requires c =
    (opened (λ (r : Query). RewritesClosed c.args.input.now r) c.args.rewriting _ c.in_ok-rewriting.was c.requires).rewrites

pub returns-clause-rewrites : goal.returns-clause-rewrites
returns-clause-rewrites c =
    let node = Distinct c.args.input.now in
    let given = opened (λ (r : Query). RewritesClosed c.args.input.now r) c.args.rewriting _ c.in_ok-rewriting.was c.requires in
    subst (λ (made : Result Query NoMemory). IfOk made (λ p. RewritesClosed node p)) (sym c.distinct.ensures.itself) (record {
      rewrites = opened (λ (p : Query). IsRewrite node p) c.distinct.result _ c.distinct.ensures.itself c.distinct.ensures.rewrites;
      none_open = λ h. given.none_open (along (Distinct-is c.args.input.now) h);
    })
