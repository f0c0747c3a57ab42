-- The distinct rows of a rewriting stand for the query's PROVENANCE, in which each row stands once.
use Rattle.std.proofs.Common.{◌≡◌, true, List, sym, ap, ◌∙◌, subst}
use Rattle.perm_values.specs.declared.kind.Kind.{Kind}
use Rattle.bag_algebra.proofs.BagLaws.{member-once, once-same_members}
use Rattle.bag_algebra.specs.Bags.{Row, Bag, once}
use Rattle.bag_algebra.specs.built.Openings.{Prov-is, Distinct-is, meaning-Distinct, meaning-Prov}
use Rattle.bag_algebra.specs.Fits.{TablesFit, env_fits}
use Rattle.bag_algebra.specs.Kinds.{kinds_of, shape}
use Rattle.bag_algebra.specs.Meaning.{Database, meaning}
use Rattle.bag_algebra.specs.Outcome.{Outcome, Good, Bad, mapped}
use Rattle.bag_algebra.specs.Rewriting.{IsRewrite, Stands, SameRows, SameSet}
use Rattle.bag_algebra.specs.TablesRead.{ReadsAmong}
use Rattle.bag_algebra.specs.WellFormed.{WellFormed}
use Rattle.bag_algebra.specs.declared.query.Query.{Query}
use Rattle.bag_algebra.specs.declared.query.Query.TheVariants.{Distinct, Prov}
use Rattle.query_laws.proofs.Inputs.{across}
use Rattle.bag_algebra.specs.built.Scopes.{is_plain-Distinct}
use Rattle.rewrite_core.proofs.WithoutPlaces.{rewrite-without_places}

-- bags in which each row stands once are the same where their sets are
once-same_set : (make : Bag → Bag) (o s : Outcome Bag) → SameSet (mapped (λ bag. once (make bag)) o) s →
    SameRows (mapped (λ bag. once (make bag)) o) (mapped once s)
once-same_set make (Good us) (Good vs) same = once-same_members (make us) vs (λ t. sym (member-once t (make us)) ∙ same t)
once-same_set make (Good us) (Bad g) same = same
once-same_set make (Bad f) (Good vs) same = same
once-same_set make (Bad f) (Bad g) same = same

module _ (q p : Query) (rewrite : IsRewrite q p) where
  formed-input : (outer : List (List Kind)) → WellFormed outer (Prov q) → WellFormed outer q
  formed-input outer f = subst (λ n. WellFormed outer n) (Prov-is q) f

  prov-rows : (outer : List (List Kind)) (db : Database) (env : List Row) → WellFormed outer (Prov q) → TablesFit db (Prov q) → env_fits env outer ≡ true →
      SameRows (meaning (Prov q) db env) (meaning (Distinct p) db env)
  prov-rows outer db env formed fits env_fitting =
      let same = rewrite.rows outer db env (formed-input outer formed) (subst (λ n. TablesFit db n) (Prov-is q) fits) env_fitting in
      let once_each = subst (λ n. SameSet (meaning n db env) (meaning p db env)) (sym (Prov-is q)) same in
      across (meaning-Prov db env q) (meaning-Distinct db env p)
      (once-same_set _ (meaning q db env) (meaning p db env) (subst (λ o. SameSet o (meaning p db env)) (meaning-Prov db env q) once_each))

  prov-tables : ReadsAmong (Distinct p) (Prov q)
  prov-tables =
      subst (λ n. ReadsAmong (Distinct p) n) (sym (Prov-is q)) (subst (λ n. ReadsAmong n q) (sym (Distinct-is p)) rewrite.tables)

  pub stands-Prov : Stands (Prov q) (Distinct p)
  stands-Prov = record {
    plain = is_plain-Distinct p ∙ rewrite.plain;
    kinds = λ outer f. ap kinds_of (Distinct-is p) ∙ rewrite.kinds outer (formed-input outer f) ∙ sym (ap kinds_of (Prov-is q));
    formed = λ outer f. subst (λ n. WellFormed outer n) (sym (Distinct-is p)) (rewrite.formed outer (formed-input outer f));
    tables = prov-tables;
    rows = prov-rows;
  }

  -- PROVENANCE has no places of its own
  pub rewrite-Prov : IsRewrite (Prov q) (Distinct p)
  rewrite-Prov = rewrite-without_places (Prov q) (Distinct p) (ap shape (Prov-is q)) stands-Prov
