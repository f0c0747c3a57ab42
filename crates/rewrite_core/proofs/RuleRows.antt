-- The rows of a rewriting, as they stand beside the lists.
use Rattle.std.proofs.Common.{◌≡◌, true, List, sym, subst}
use Rattle.perm_values.specs.declared.kind.Kind.{Kind}
use Rattle.bag_algebra.specs.Bags.{Row}
use Rattle.bag_algebra.specs.built.Openings.{Prov-is}
use Rattle.bag_algebra.specs.Fits.{TablesFit, env_fits}
use Rattle.bag_algebra.specs.Meaning.{Database, meaning, witnesses}
use Rattle.bag_algebra.specs.built.Patterns.{ProvOf}
use Rattle.bag_algebra.specs.Rewriting.{IsRewrite, SameSet}
use Rattle.bag_algebra.specs.WellFormed.{WellFormed}
use Rattle.bag_algebra.specs.declared.query.Query.{Query}
use Rattle.rewrite_core.proofs.BesideLists.{rewritten-from_same, same-from_rewritten}
use Rattle.rewrite_core.specs.rewritings.Rewritten.{Rewritten}

module _ (q p : Query) (db : Database) (env : List Row) where
  pub beside-from_rewrite : IsRewrite q p → (outer : List (List Kind)) → WellFormed outer q → TablesFit db q → env_fits env outer ≡ true →
      Rewritten (witnesses q db env) (meaning q db env) (meaning p db env)
  beside-from_rewrite r outer formed fitting env_fitting =
      rewritten-from_same q p db env
      (subst (λ n. SameSet (meaning n db env) (meaning p db env)) (sym (Prov-is q)) (r.rows outer db env formed fitting env_fitting))

  pub rows-from_beside : Rewritten (witnesses q db env) (meaning q db env) (meaning p db env) → SameSet (meaning (ProvOf q) db env) (meaning p db env)
  rows-from_beside r = subst (λ n. SameSet (meaning n db env) (meaning p db env)) (Prov-is q) (same-from_rewritten q p db env r)
