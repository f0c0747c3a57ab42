-- A filter with sublinks that can't fault: its conjuncts that need no sublink are tests below it.
use Rattle.std.proofs.Common.{◌≡◌, ℕ, Bool, true, false, ◌&&◌, ◌-◌, ◌^◌, List, [], ◌∷◌, ◌++◌, filter, refl, sym, ap, ◌∙◌, subst, true≢false}
use Rattle.std.proofs.lemmas.List.Folds.{list_all-append}
use Rattle.std.proofs.lemmas.Bool.{and_from}
use Rattle.perm_values.specs.declared.kind.Kind.{Kind}
use Rattle.perm_values.specs.declared.kind.Kind.TheVariants as kind
use Rattle.perm_values.specs.declared.value.Value.{Value}
use Rattle.perm_values.proofs.Steps.{by}
use Rattle.bag_algebra.proofs.NeverBad.{good-value, good-answers}
use Rattle.bag_algebra.proofs.Truths.{both-true}
use Rattle.bag_algebra.specs.Bags.{Row}
use Rattle.bag_algebra.specs.Children.{subs_denote}
use Rattle.bag_algebra.specs.Expressions.{value}
use Rattle.bag_algebra.specs.FaultFree.{faultless}
use Rattle.bag_algebra.specs.Kinds.{kinds_of}
use Rattle.bag_algebra.specs.Meaning.{Database, meaning, condition_on}
use Rattle.bag_algebra.specs.Means.{is_met}
use Rattle.bag_algebra.specs.Outcome.{Outcome, Good, Bad, is_good, and_then, mapped}
use Rattle.bag_algebra.specs.Rewriting.{is_plain, Stands}
use Rattle.bag_algebra.specs.WellFormed.{WellFormed}
use Rattle.bag_algebra.specs.built.FaultFree.{all_fault_free, all_parts_faultless}
use Rattle.bag_algebra.specs.built.Forms.{AllHave, AllSubsForm, subs_kinds, EachTable-Filter, WellFormed-Filter}
use Rattle.bag_algebra.specs.built.Openings.{Filter-is, meaning-Filter}
use Rattle.bag_algebra.specs.built.Scopes.{all_plain, is_plain-Filter}
use Rattle.bag_algebra.specs.declared.expr.Expr.{Expr}
use Rattle.bag_algebra.specs.declared.query.Query.{Query}
use Rattle.bag_algebra.specs.declared.query.Query.TheVariants.{Filter}
use Rattle.bag_algebra.specs.declared.query.Sublink.{Sublink}
use Rattle.contribution.proofs.SameTests.{all_hold-faultless}
use Rattle.contribution.proofs.WhereGood.{Every}
use Rattle.contribution.specs.Conjunctions.{all_hold}
use Rattle.rewrite_core.proofs.Itself.{stands-onward}
use Rattle.simpler_laws.proofs.Gathered.{filter-good, filter-twice, mapped-twice}
use Rattle.simpler_laws.proofs.Parting.{two-halves, passed, faultless-passed, have-passed}
use Rattle.simpler_laws.proofs.Reading.{value-read, kind-read}
use Rattle.simpler_laws.proofs.TestedQueries.{stands-same, kinds-tested, plain-tested, tables-tested, tables-untested, formed-tested, formed-untested, meaning-tested}
use Rattle.simpler_laws.proofs.Testing.{all_hold-formed, all_hold-met, conjuncts-faultless, conjuncts-formed, conjuncts-met, have-append}
use Rattle.simpler_laws.specs.Conjuncts.{conjuncts}
use Rattle.simpler_laws.specs.Parts.{is_bound, is_free, IsParted}
use Rattle.simpler_laws.specs.Tested.{hold, tested}
use Rattle.simpler_laws.specs.declared.filters.Parts.{Parts}

-- ---- truths

last-first : (a b c : Bool) → ((a && b) && c) ≡ ((a && c) && b)
last-first true true true = refl
last-first true true false = refl
last-first true false true = refl
last-first true false false = refl
last-first false b c = refl

-- ---- tests that need no sublink

hold-free : (tests : List Expr) → Every (λ test. is_free test ≡ true) tests → (env : List Row) (answers : List Value) (u : Row) →
    hold tests env answers u ≡ hold tests env [] u
hold-free [] h env answers u = refl
hold-free (test ∷ tests) h env answers u =
    λ i. is_met (value-read true 0 (2 ^ 64 - 1) u u (λ place w. refl) env answers [] test h.0 i) && hold-free tests h.1 env answers u i

have-free : (kinds : List Kind) (outer : List (List Kind)) (subs : List Kind) (k : Kind) (tests : List Expr) → Every (λ test. is_free test ≡ true) tests →
    AllHave (kinds ∷ outer) subs tests k → AllHave (kinds ∷ outer) [] tests k
have-free kinds outer subs k [] h g = tt
have-free kinds outer subs k (test ∷ tests) h g =
    (kind-read true 0 (2 ^ 64 - 1) kinds kinds (λ place w. refl) outer subs [] test k h.0 g.0, have-free kinds outer subs k tests h.1 g.1)

-- ---- the filter

module _ (q : Query) (condition : Expr) (subs : List Sublink) (tests : List Expr) (parts : Parts) (is : IsParted condition tests parts)
    (plain : is_plain q ≡ true) (plain_subs : all_plain subs ≡ true) (calm : faultless condition ≡ true) (quiet : all_fault_free subs ≡ true)
    (safe : all_parts_faultless tests ≡ true) where
  abbrev whole : Query
  whole = Filter q condition subs

  abbrev parted : Query
  parted = Filter (tested q parts.below) (all_hold parts.above) subs

  abbrev free : List Expr
  free = filter is_free (conjuncts condition)

  pub below-faultless : all_parts_faultless parts.below ≡ true
  below-faultless =
      subst (λ es. all_parts_faultless es ≡ true) (sym is.below)
      (list_all-append faultless (filter is_free (conjuncts condition)) tests
      ∙ both-true (all_parts_faultless (filter is_free (conjuncts condition))) (all_parts_faultless tests)
      (faultless-passed is_free (conjuncts condition) (conjuncts-faultless condition calm)) safe)

  above-faultless : all_parts_faultless parts.above ≡ true
  above-faultless = subst (λ es. all_parts_faultless es ≡ true) (sym is.above) (faultless-passed is_bound (conjuncts condition) (conjuncts-faultless condition calm))

  module _ (db : Database) (env : List Row) where
    abbrev on : Expr → Row → Outcome Value
    on e = condition_on e env (subs_denote subs db env)

    good-on : (e : Expr) → faultless e ≡ true → (u : Row) → is_good (on e u) ≡ true
    good-on e h u = then-good ((subs_denote subs db env).answers u) (good-answers subs quiet db env u) where
      then-good : (o : Outcome (List Value)) → is_good o ≡ true → is_good (and_then o (value e u env)) ≡ true
      then-good (Good answers) k = good-value e h u env answers
      then-good (Bad faults) k = k

    meaning-on : (input : Query) (e : Expr) → faultless e ≡ true → meaning (Filter input e subs) db env ≡ mapped (filter (λ u. is_met (on e u))) (meaning input db env)
    meaning-on input e h = meaning-Filter db env input e subs ∙ filter-good (on e) (good-on e h) (meaning input db env)

    met-parted : (u : Row) → (is_met (on condition u) && hold tests env [] u) ≡ (hold parts.below env [] u && is_met (on (all_hold parts.above) u))
    met-parted u = by_answers ((subs_denote subs db env).answers u) (good-answers subs quiet db env u) where
      by_answers : (o : Outcome (List Value)) → is_good o ≡ true →
          (is_met (and_then o (value condition u env)) && hold tests env [] u) ≡ (hold parts.below env [] u && is_met (and_then o (value (all_hold parts.above) u env)))
      by_answers (Good answers) k =
          (λ i. (sym (conjuncts-met u env answers condition) ∙ two-halves (λ test. is_met (value test u env answers)) is_free (conjuncts condition)) i && hold tests env [] u)
          ∙ (λ i. (hold-free (filter is_free (conjuncts condition)) (passed is_free (conjuncts condition)) env answers u i && hold (filter is_bound (conjuncts condition)) env answers u)
          && hold tests env [] u)
          ∙ last-first (hold (filter is_free (conjuncts condition)) env [] u) (hold (filter is_bound (conjuncts condition)) env answers u) (hold tests env [] u)
          ∙ (λ i. (sym (list_all-append (λ test. is_met (value test u env [])) (filter is_free (conjuncts condition)) tests) ∙ ap (λ es. hold es env [] u) (sym is.below)) i
          && (ap (λ es. hold es env answers u) (sym is.above) ∙ sym (all_hold-met u env answers parts.above)) i)
      by_answers (Bad faults) k = absurd (true≢false (sym k))

    rows-parted : meaning (tested whole tests) db env ≡ meaning parted db env
    rows-parted =
        meaning-tested whole tests db env safe
        ∙ ap (mapped (filter (hold tests env []))) (meaning-on q condition calm)
        ∙ mapped-twice (filter (hold tests env [])) (filter (λ u. is_met (on condition u))) (meaning q db env)
        ∙ (λ i. mapped (λ us. filter-twice (λ u. is_met (on condition u)) (hold tests env []) us i) (meaning q db env))
        ∙ (λ i. mapped (filter (λ u. met-parted u i)) (meaning q db env))
        ∙ (λ i. mapped (λ us. sym (filter-twice (hold parts.below env []) (λ u. is_met (on (all_hold parts.above) u)) us) i) (meaning q db env))
        ∙ sym (mapped-twice (filter (λ u. is_met (on (all_hold parts.above) u))) (filter (hold parts.below env [])) (meaning q db env))
        ∙ ap (mapped (filter (λ u. is_met (on (all_hold parts.above) u)))) (sym (meaning-tested q parts.below db env below-faultless))
        ∙ sym (meaning-on (tested q parts.below) (all_hold parts.above) (all_hold-faultless parts.above above-faultless))

  kinds-filter : (p : Query) (e : Expr) → kinds_of (Filter p e subs) ≡ kinds_of p
  kinds-filter p e = ap kinds_of (Filter-is p e subs)

  formed-parted : (outer : List (List Kind)) → WellFormed outer (tested whole tests) → WellFormed outer parted
  formed-parted outer f =
      let g = formed-untested whole outer tests f in
      let inside = by (WellFormed-Filter outer q condition subs) g.0 in
      let all_have = conjuncts-formed (kinds_of q ∷ outer) (subs_kinds subs) condition inside.condition in
      let of_free : AllHave (kinds_of q ∷ outer) [] (filter is_free (conjuncts condition)) kind.Boolean =
      have-free (kinds_of q) outer (subs_kinds subs) kind.Boolean (filter is_free (conjuncts condition)) (passed is_free (conjuncts condition))
      (have-passed (kinds_of q ∷ outer) (subs_kinds subs) kind.Boolean is_free (conjuncts condition) all_have) in
      let of_below : AllHave (kinds_of q ∷ outer) [] parts.below kind.Boolean =
      by (λ i. AllHave (kinds_of q ∷ outer) [] (sym is.below i) kind.Boolean)
      (have-append (kinds_of q ∷ outer) [] (filter is_free (conjuncts condition)) tests kind.Boolean of_free
      (by (λ i. AllHave (kinds-filter q condition i ∷ outer) [] tests kind.Boolean) g.1)) in
      let of_above : AllHave (kinds_of q ∷ outer) (subs_kinds subs) parts.above kind.Boolean =
      by (λ i. AllHave (kinds_of q ∷ outer) (subs_kinds subs) (sym is.above i) kind.Boolean)
      (have-passed (kinds_of q ∷ outer) (subs_kinds subs) kind.Boolean is_bound (conjuncts condition) all_have) in
      let same = sym (kinds-tested q parts.below) in
      by (sym (WellFormed-Filter outer (tested q parts.below) (all_hold parts.above) subs)) (record {
        input = formed-tested q outer parts.below inside.input of_below;
        subs = by (λ i. AllSubsForm (same i ∷ outer) subs) inside.subs;
        condition = all_hold-formed _ (subs_kinds subs) parts.above (by (λ i. AllHave (same i ∷ outer) (subs_kinds subs) parts.above kind.Boolean) of_above);
      })

  stands-parted : Stands (tested whole tests) parted
  stands-parted =
      stands-same (tested whole tests) parted
      (is_plain-Filter (tested q parts.below) (all_hold parts.above) subs
      ∙ and_from (is_plain (tested q parts.below)) (all_plain subs) (plain-tested q parts.below ∙ plain) plain_subs)
      (kinds-filter (tested q parts.below) (all_hold parts.above) ∙ kinds-tested q parts.below ∙ sym (kinds-tested whole tests ∙ kinds-filter q condition))
      formed-parted
      (λ P h.
      let g = by (EachTable-Filter P q condition subs) (tables-untested whole tests P h) in
      by (sym (EachTable-Filter P (tested q parts.below) (all_hold parts.above) subs)) (tables-tested q parts.below P g.0, g.1))
      (λ outer db env f h e. rows-parted db env)

  pub stands-above : (p : Query) → Stands parted p → Stands (tested whole tests) p
  stands-above p s = stands-onward (tested whole tests) parted p stands-parted s
