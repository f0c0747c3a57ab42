-- A query with tests on its rows: what it means, when it is well formed, and what it reads.
use Rattle.std.proofs.Common.{◌≡◌, ℕ, true, ◌&&◌, List, [], ◌∷◌, ◌++◌, filter, refl, sym, ap, ◌∙◌, subst, Contains}
use Rattle.std.proofs.lemmas.List.Folds.{list_all-append}
use Rattle.std.specs.Prelude.{⊤}
use Rattle.perm_values.specs.declared.kind.Kind.{Kind}
use Rattle.perm_values.specs.declared.kind.Kind.TheVariants as kind
use Rattle.perm_values.proofs.Steps.{by}
use Rattle.bag_algebra.proofs.NeverBad.{good-value}
use Rattle.bag_algebra.proofs.Outcomes.{same_rows-itself}
use Rattle.bag_algebra.proofs.TablesRead.{reads_among-itself}
use Rattle.bag_algebra.proofs.Truths.{and_true, both-true}
use Rattle.bag_algebra.specs.Bags.{Row, Bag}
use Rattle.bag_algebra.specs.Expressions.{value}
use Rattle.bag_algebra.specs.FaultFree.{faultless}
use Rattle.bag_algebra.specs.Fits.{TablesFit, env_fits}
use Rattle.bag_algebra.specs.Kinds.{kinds_of}
use Rattle.bag_algebra.specs.Meaning.{Database, meaning, condition_on}
use Rattle.bag_algebra.specs.Means.{is_met, no_subs}
use Rattle.bag_algebra.specs.Outcome.{Outcome, Good, Bad, mapped}
use Rattle.bag_algebra.specs.Rewriting.{is_plain, SameRows, Stands}
use Rattle.bag_algebra.specs.TablesRead.{EachTable, tables_read}
use Rattle.bag_algebra.specs.WellFormed.{WellFormed}
use Rattle.bag_algebra.specs.built.FaultFree.{all_parts_faultless}
use Rattle.bag_algebra.specs.built.Forms.{AllHave, EachTable-Filter, WellFormed-Filter}
use Rattle.bag_algebra.specs.built.Openings.{Filter-is, meaning-Filter}
use Rattle.bag_algebra.specs.built.Scopes.{is_plain-Filter}
use Rattle.bag_algebra.specs.declared.expr.Expr.{Expr}
use Rattle.bag_algebra.specs.declared.query.Query.{Query}
use Rattle.bag_algebra.specs.declared.query.Query.TheVariants.{Filter}
use Rattle.contribution.specs.Conjunctions.{all_hold}
use Rattle.contribution.proofs.SameTests.{all_hold-faultless}
use Rattle.query_laws.proofs.SameExpressions.{same-itself}
use Rattle.query_laws.proofs.StandingNodes.{stands-Filter}
use Rattle.simpler_laws.proofs.Gathered.{filter-all, filter-good, filter-twice, mapped-twice}
use Rattle.simpler_laws.proofs.Testing.{all_hold-formed, all_hold-met, all_hold-opened, conjuncts-faultless, conjuncts-formed, conjuncts-met, have-append}
use Rattle.simpler_laws.specs.Conjuncts.{conjuncts}
use Rattle.simpler_laws.specs.Tested.{hold, tested}

same_outcomes : (o p : Outcome Bag) → o ≡ p → SameRows o p
same_outcomes o p e = subst (SameRows o) e (same_rows-itself o)

-- what stands for a query by meaning the very same, with the same kinds wherever the query is well formed
pub stands-equal : (n m : Query) → is_plain m ≡ true → ((outer : List (List Kind)) → WellFormed outer n → kinds_of m ≡ kinds_of n) →
    ((outer : List (List Kind)) → WellFormed outer n → WellFormed outer m) →
    ((P : ℕ → List Kind → Type 0) → EachTable P n → EachTable P m) →
    ((outer : List (List Kind)) (db : Database) (env : List Row) → WellFormed outer n → TablesFit db n → env_fits env outer ≡ true →
    meaning n db env ≡ meaning m db env) →
    Stands n m
stands-equal n m plain kinds formed tables rows = record {
  plain = plain;
  kinds = kinds;
  formed = formed;
  tables = tables (λ id kinds. Contains (tables_read n) (record { id = id; kinds = kinds })) (reads_among-itself n);
  rows = λ outer db env f h e. same_outcomes (meaning n db env) (meaning m db env) (rows outer db env f h e);
}

-- what stands for a query by meaning the very same
pub stands-same : (n m : Query) → is_plain m ≡ true → kinds_of m ≡ kinds_of n → ((outer : List (List Kind)) → WellFormed outer n → WellFormed outer m) →
    ((P : ℕ → List Kind → Type 0) → EachTable P n → EachTable P m) →
    ((outer : List (List Kind)) (db : Database) (env : List Row) → WellFormed outer n → TablesFit db n → env_fits env outer ≡ true →
    meaning n db env ≡ meaning m db env) →
    Stands n m
stands-same n m plain kinds formed tables rows = stands-equal n m plain (λ outer f. kinds) formed tables rows

-- ---- a filter without sublinks whose condition can't fault

pub meaning-filter : (q : Query) (condition : Expr) (db : Database) (env : List Row) → faultless condition ≡ true →
    meaning (Filter q condition []) db env ≡ mapped (filter (λ u. is_met (value condition u env []))) (meaning q db env)
meaning-filter q condition db env h =
    meaning-Filter db env q condition [] ∙ filter-good (condition_on condition env no_subs) (λ u. good-value condition h u env []) (meaning q db env)

module _ (q : Query) where
  pub kinds-tested : (tests : List Expr) → kinds_of (tested q tests) ≡ kinds_of q
  kinds-tested [] = refl
  kinds-tested (test ∷ tests) = ap kinds_of (Filter-is q (all_hold (test ∷ tests)) [])

  pub plain-tested : (tests : List Expr) → is_plain (tested q tests) ≡ is_plain q
  plain-tested [] = refl
  plain-tested (test ∷ tests) = is_plain-Filter q (all_hold (test ∷ tests)) [] ∙ and_true (is_plain q)

  pub tables-tested : (tests : List Expr) (P : ℕ → List Kind → Type 0) → EachTable P q → EachTable P (tested q tests)
  tables-tested [] P h = h
  tables-tested (test ∷ tests) P h = by (sym (EachTable-Filter P q (all_hold (test ∷ tests)) [])) (h, tt)

  pub tables-untested : (tests : List Expr) (P : ℕ → List Kind → Type 0) → EachTable P (tested q tests) → EachTable P q
  tables-untested [] P h = h
  tables-untested (test ∷ tests) P h = (by (EachTable-Filter P q (all_hold (test ∷ tests)) []) h).0

  module _ (outer : List (List Kind)) where
    pub formed-tested : (tests : List Expr) → WellFormed outer q → AllHave (kinds_of q ∷ outer) [] tests kind.Boolean → WellFormed outer (tested q tests)
    formed-tested [] w h = w
    formed-tested (test ∷ tests) w h =
        by (sym (WellFormed-Filter outer q (all_hold (test ∷ tests)) []))
        (record { input = w; subs = tt; condition = all_hold-formed (kinds_of q ∷ outer) [] (test ∷ tests) h })

    pub formed-untested : (tests : List Expr) → WellFormed outer (tested q tests) → WellFormed outer q × AllHave (kinds_of q ∷ outer) [] tests kind.Boolean
    formed-untested [] w = (w, tt)
    formed-untested (test ∷ tests) w =
        let f = by (WellFormed-Filter outer q (all_hold (test ∷ tests)) []) w in
        (f.input, all_hold-opened (kinds_of q ∷ outer) [] (test ∷ tests) f.condition)

  pub meaning-tested : (tests : List Expr) (db : Database) (env : List Row) → all_parts_faultless tests ≡ true →
      meaning (tested q tests) db env ≡ mapped (filter (hold tests env [])) (meaning q db env)
  meaning-tested [] db env h = untouched (meaning q db env) where
    untouched : (o : Outcome Bag) → o ≡ mapped (filter (λ u. true)) o
    untouched (Good us) = ap Good (sym (filter-all us))
    untouched (Bad faults) = refl
  meaning-tested (test ∷ tests) db env h =
      meaning-filter q (all_hold (test ∷ tests)) db env (all_hold-faultless (test ∷ tests) h)
      ∙ (λ i. mapped (filter (λ u. all_hold-met u env [] (test ∷ tests) i)) (meaning q db env))

-- ---- what stands for the query, with the tests

pub stands-tested : (q b : Query) (tests : List Expr) → Stands q b → Stands (tested q tests) (tested b tests)
stands-tested q b [] s = s
stands-tested q b (test ∷ tests) s = stands-Filter q b s (all_hold (test ∷ tests)) (all_hold (test ∷ tests)) (same-itself (all_hold (test ∷ tests))) [] [] tt

-- ---- a filter is tests of its input

module _ (q : Query) (condition : Expr) (tests : List Expr) (plain : is_plain q ≡ true) (calm : faultless condition ≡ true) (safe : all_parts_faultless tests ≡ true) where
  abbrev all_tests : List Expr
  all_tests = conjuncts condition ++ tests

  pub all-faultless : all_parts_faultless (conjuncts condition ++ tests) ≡ true
  all-faultless =
      list_all-append faultless (conjuncts condition) tests
      ∙ both-true (all_parts_faultless (conjuncts condition)) (all_parts_faultless tests) (conjuncts-faultless condition calm) safe

  same-rows : (db : Database) (env : List Row) → meaning (tested (Filter q condition []) tests) db env ≡ meaning (tested q all_tests) db env
  same-rows db env =
      meaning-tested (Filter q condition []) tests db env safe
      ∙ ap (mapped (filter (hold tests env []))) (meaning-filter q condition db env calm)
      ∙ mapped-twice (filter (hold tests env [])) (filter (λ u. is_met (value condition u env []))) (meaning q db env)
      ∙ (λ i. mapped (λ us. filter-twice (λ u. is_met (value condition u env [])) (hold tests env []) us i) (meaning q db env))
      ∙ (λ i. mapped (filter (λ u. sym (conjuncts-met u env [] condition) i && hold tests env [] u)) (meaning q db env))
      ∙ (λ i. mapped (filter (λ u. sym (list_all-append (λ test. is_met (value test u env [])) (conjuncts condition) tests) i)) (meaning q db env))
      ∙ sym (meaning-tested q all_tests db env all-faultless)

  pub stands-filtered : Stands (tested (Filter q condition []) tests) (tested q (conjuncts condition ++ tests))
  stands-filtered =
      stands-same (tested (Filter q condition []) tests) (tested q all_tests) (plain-tested q all_tests ∙ plain)
      (kinds-tested q all_tests ∙ sym (kinds-tested (Filter q condition []) tests ∙ ap kinds_of (Filter-is q condition [])))
      (λ outer f.
      let g = formed-untested (Filter q condition []) outer tests f in
      let inside = by (WellFormed-Filter outer q condition []) g.0 in
      formed-tested q outer all_tests inside.input
      (have-append (kinds_of q ∷ outer) [] (conjuncts condition) tests kind.Boolean (conjuncts-formed (kinds_of q ∷ outer) [] condition inside.condition)
      (by (λ i. AllHave (kinds_of (Filter-is q condition [] i) ∷ outer) [] tests kind.Boolean) g.1)))
      (λ P h. tables-tested q all_tests P (by (EachTable-Filter P q condition []) (tables-untested (Filter q condition []) tests P h)).0)
      (λ outer db env f h e. same-rows db env)
