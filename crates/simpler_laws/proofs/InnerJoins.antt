-- Tests of the pairs of an inner join: those of one side below it on that side, the others in its condition.
use Rattle.std.proofs.Common.{◌≡◌, ℕ, true, ◌&&◌, List, [], ◌∷◌, ◌++◌, filter, refl, sym, ap, ◌∙◌, subst}
use Rattle.std.proofs.lemmas.List.Folds.{list_all-append}
use Rattle.std.proofs.lemmas.Bool.{and_from}
use Rattle.std.specs.Prelude.{⊤}
use Rattle.perm_values.specs.declared.kind.Kind.{Kind}
use Rattle.perm_values.specs.declared.kind.Kind.TheVariants as kind
use Rattle.perm_values.proofs.Steps.{by}
use Rattle.bag_algebra.proofs.NeverBad.{good-value}
use Rattle.bag_algebra.specs.Bags.{Row}
use Rattle.bag_algebra.specs.Expressions.{value}
use Rattle.bag_algebra.specs.FaultFree.{faultless}
use Rattle.bag_algebra.specs.Fits.{TablesFit, env_fits}
use Rattle.bag_algebra.specs.Kinds.{kinds_of, width_of}
use Rattle.bag_algebra.specs.Meaning.{Database, meaning, condition_on}
use Rattle.bag_algebra.specs.Means.{is_met, no_subs}
use Rattle.bag_algebra.specs.Outcome.{mapped, both}
use Rattle.bag_algebra.specs.Rewriting.{is_plain, Stands}
use Rattle.bag_algebra.specs.WellFormed.{WellFormed}
use Rattle.bag_algebra.specs.built.FaultFree.{all_parts_faultless}
use Rattle.bag_algebra.specs.built.Forms.{AllHave, EachTable-Join, WellFormed-Join}
use Rattle.bag_algebra.specs.built.Openings.{Join-is, meaning-Join}
use Rattle.bag_algebra.specs.built.Scopes.{is_plain-Join}
use Rattle.bag_algebra.specs.declared.expr.Expr.{Expr}
use Rattle.bag_algebra.specs.declared.query.JoinKind.TheVariants.{Inner}
use Rattle.bag_algebra.specs.declared.query.Query.{Query}
use Rattle.bag_algebra.specs.declared.query.Query.TheVariants.{Join}
use Rattle.contribution.proofs.QueryKinds.{denote-fits}
use Rattle.contribution.proofs.RowKinds.{RowFits, row_fits-length}
use Rattle.contribution.proofs.SameTests.{all_hold-faultless}
use Rattle.contribution.specs.Conjunctions.{all_hold}
use Rattle.query_laws.proofs.SameExpressions.{same-itself}
use Rattle.query_laws.proofs.StandingNodes.{stands-Join}
use Rattle.rewrite_core.proofs.Itself.{stands-onward}
use Rattle.simpler_laws.proofs.Gathered.{paired_where, filter-paired, paired-decided, join-good, mapped-both, both-same}
use Rattle.simpler_laws.proofs.Parting.{three-parts, two-halves, passed, faultless-passed, faultless-moved, have-passed, left-hold, right-hold, left-have, right-have}
use Rattle.simpler_laws.proofs.TestedQueries.{stands-same, kinds-tested, plain-tested, tables-tested, tables-untested, formed-tested, formed-untested, meaning-tested, all-faultless}
use Rattle.simpler_laws.proofs.Testing.{all_hold-formed, all_hold-met, conjuncts-formed, conjuncts-met, have-append}
use Rattle.simpler_laws.specs.Conjuncts.{conjuncts}
use Rattle.simpler_laws.specs.Sides.{is_around, is_left, is_own, is_right, is_right_alone, is_of_both, IsSplit}
use Rattle.simpler_laws.specs.Tested.{hold, tested}
use Rattle.simpler_laws.specs.declared.pairs.Sides.{Sides}

pub meaning-join : (q r : Query) (condition : Expr) (db : Database) (env : List Row) → faultless condition ≡ true →
    meaning (Join Inner q r condition []) db env ≡ both (paired_where (λ x. is_met (value condition x env []))) (meaning q db env) (meaning r db env)
meaning-join q r condition db env h =
    meaning-Join db env Inner q r condition []
    ∙ join-good (condition_on condition env no_subs) (λ x. good-value condition h x env []) (width_of q) (width_of r) (meaning q db env) (meaning r db env)

-- ---- a join whose tests are split

module _ (q r : Query) (condition : Expr) (tests : List Expr) (sides : Sides) (split : IsSplit (width_of q) (width_of r) (conjuncts condition ++ tests) sides)
    (plain_left : is_plain q ≡ true) (plain_right : is_plain r ≡ true) (calm : faultless condition ≡ true) (safe : all_parts_faultless tests ≡ true) where
  abbrev all_tests : List Expr
  all_tests = conjuncts condition ++ tests

  abbrev whole : Query
  whole = Join Inner q r condition []

  abbrev parted : Query
  parted = Join Inner (tested q sides.left) (tested r sides.right) (all_hold sides.both) []

  abbrev others : List Expr
  others = filter (is_of_both (width_of q) (width_of r)) (conjuncts condition ++ tests)

  every-faultless : all_parts_faultless (conjuncts condition ++ tests) ≡ true
  every-faultless = all-faultless q condition tests plain_left calm safe

  pub left-faultless : all_parts_faultless sides.left ≡ true
  left-faultless = subst (λ es. all_parts_faultless es ≡ true) (sym split.of_left) (faultless-passed (is_left (width_of q)) (conjuncts condition ++ tests) every-faultless)

  pub right-faultless : all_parts_faultless sides.right ≡ true
  right-faultless =
      faultless-moved _ _ sides.right split.of_right (faultless-passed (is_right_alone (width_of q) (width_of r)) (conjuncts condition ++ tests) every-faultless)

  others-faultless : all_parts_faultless (filter (is_of_both (width_of q) (width_of r)) (conjuncts condition ++ tests)) ≡ true
  others-faultless = faultless-passed (is_of_both (width_of q) (width_of r)) (conjuncts condition ++ tests) every-faultless

  both-faultless : all_parts_faultless sides.both ≡ true
  both-faultless = subst (λ es. all_parts_faultless es ≡ true) (sym split.of_both) (faultless-passed is_own others others-faultless)

  around-faultless : all_parts_faultless sides.around ≡ true
  around-faultless = subst (λ es. all_parts_faultless es ≡ true) (sym split.of_outer) (faultless-passed is_around others others-faultless)

  -- ---- rows

  module _ (env : List Row) where
    pair-decided : (u v : Row) → RowFits (kinds_of q) u → RowFits (kinds_of r) v →
        hold (conjuncts condition ++ tests) env [] (u ++ v)
        ≡ (hold sides.left env [] u && (hold sides.right env [] v && (is_met (value (all_hold sides.both) (u ++ v) env []) && hold sides.around env [] (u ++ v))))
    pair-decided u v f g =
        let wide = row_fits-length u (kinds_of q) f.fit in
        let broad = row_fits-length v (kinds_of r) g.fit in
        let everything = conjuncts condition ++ tests in
        three-parts (λ test. is_met (value test (u ++ v) env [])) (is_left (width_of q)) (is_right (width_of q) (width_of r)) everything
        ∙ (λ i.
        (left-hold (width_of q) (width_of r) u v wide broad env (filter (is_left (width_of q)) everything) (passed (is_left (width_of q)) everything)
        ∙ ap (λ es. hold es env [] u) (sym split.of_left)) i
        && (right-hold (width_of q) (width_of r) u v wide broad env (filter (is_right_alone (width_of q) (width_of r)) everything) sides.right split.of_right
        (passed (is_right_alone (width_of q) (width_of r)) everything) i
        && (two-halves (λ test. is_met (value test (u ++ v) env [])) is_own others
        ∙ (λ j. (ap (λ es. hold es env [] (u ++ v)) (sym split.of_both) ∙ sym (all_hold-met (u ++ v) env [] sides.both)) j
        && ap (λ es. hold es env [] (u ++ v)) (sym split.of_outer) j)) i))

    pair-tests : (x : Row) → (is_met (value condition x env []) && hold tests env [] x) ≡ hold (conjuncts condition ++ tests) env [] x
    pair-tests x =
        (λ i. sym (conjuncts-met x env [] condition) i && hold tests env [] x)
        ∙ sym (list_all-append (λ test. is_met (value test x env [])) (conjuncts condition) tests)

  module _ (outer : List (List Kind)) (db : Database) (env : List Row) (formed_left : WellFormed outer q) (formed_right : WellFormed outer r)
      (fits_left : TablesFit db q) (fits_right : TablesFit db r) (fitting : env_fits env outer ≡ true) where
    rows-parted : meaning (tested whole tests) db env ≡ meaning (tested parted sides.around) db env
    rows-parted =
        meaning-tested whole tests db env safe
        ∙ ap (mapped (filter (hold tests env []))) (meaning-join q r condition db env calm)
        ∙ mapped-both (filter (hold tests env [])) (paired_where (λ x. is_met (value condition x env []))) (meaning q db env) (meaning r db env)
        ∙ (λ i. both (λ us vs. filter-paired (λ x. is_met (value condition x env [])) (hold tests env []) us vs i) (meaning q db env) (meaning r db env))
        ∙ (λ i. both (paired_where (λ x. pair-tests env x i)) (meaning q db env) (meaning r db env))
        ∙ both-same (RowFits (kinds_of q)) (RowFits (kinds_of r)) (paired_where (hold (conjuncts condition ++ tests) env []))
        (paired_where (λ x. is_met (value (all_hold sides.both) x env []) && hold sides.around env [] x)) (filter (hold sides.left env [])) (filter (hold sides.right env []))
        (paired-decided (RowFits (kinds_of q)) (RowFits (kinds_of r)) (hold (conjuncts condition ++ tests) env []) (hold sides.left env []) (hold sides.right env [])
        (λ x. is_met (value (all_hold sides.both) x env []) && hold sides.around env [] x) (pair-decided env))
        (meaning q db env) (meaning r db env)
        (denote-fits q outer db env formed_left fits_left fitting).rows (denote-fits r outer db env formed_right fits_right fitting).rows
        ∙ (λ i. both (paired_where (λ x. is_met (value (all_hold sides.both) x env []) && hold sides.around env [] x))
        (sym (meaning-tested q sides.left db env left-faultless) i) (sym (meaning-tested r sides.right db env right-faultless) i))
        ∙ (λ i. both (λ us vs. sym (filter-paired (λ x. is_met (value (all_hold sides.both) x env [])) (hold sides.around env []) us vs) i)
        (meaning (tested q sides.left) db env) (meaning (tested r sides.right) db env))
        ∙ sym (mapped-both (filter (hold sides.around env [])) (paired_where (λ x. is_met (value (all_hold sides.both) x env [])))
        (meaning (tested q sides.left) db env) (meaning (tested r sides.right) db env))
        ∙ ap (mapped (filter (hold sides.around env [])))
        (sym (meaning-join (tested q sides.left) (tested r sides.right) (all_hold sides.both) db env (all_hold-faultless sides.both both-faultless)))
        ∙ sym (meaning-tested parted sides.around db env around-faultless)

  -- ---- kinds

  kinds-whole : kinds_of whole ≡ kinds_of q ++ kinds_of r
  kinds-whole = ap kinds_of (Join-is Inner q r condition [])

  kinds-sides : kinds_of q ++ kinds_of r ≡ kinds_of (tested q sides.left) ++ kinds_of (tested r sides.right)
  kinds-sides = λ i. sym (kinds-tested q sides.left) i ++ sym (kinds-tested r sides.right) i

  kinds-parted : kinds_of parted ≡ kinds_of q ++ kinds_of r
  kinds-parted = ap kinds_of (Join-is Inner (tested q sides.left) (tested r sides.right) (all_hold sides.both) []) ∙ sym kinds-sides

  formed-parted : (outer : List (List Kind)) → WellFormed outer (tested whole tests) → WellFormed outer (tested parted sides.around)
  formed-parted outer f =
      let g = formed-untested whole outer tests f in
      let inside = by (WellFormed-Join outer Inner q r condition []) g.0 in
      let lefts = kinds_of q in
      let rights = kinds_of r in
      let all_have : AllHave ((lefts ++ rights) ∷ outer) [] (conjuncts condition ++ tests) kind.Boolean =
      have-append ((lefts ++ rights) ∷ outer) [] (conjuncts condition) tests kind.Boolean (conjuncts-formed ((lefts ++ rights) ∷ outer) [] condition inside.condition)
      (by (λ i. AllHave (kinds-whole i ∷ outer) [] tests kind.Boolean) g.1) in
      let of_left : AllHave (lefts ∷ outer) [] sides.left kind.Boolean =
      by (λ i. AllHave (lefts ∷ outer) [] (sym split.of_left i) kind.Boolean)
      (left-have lefts rights outer kind.Boolean (filter (is_left (width_of q)) (conjuncts condition ++ tests)) (passed (is_left (width_of q)) (conjuncts condition ++ tests))
      (have-passed ((lefts ++ rights) ∷ outer) [] kind.Boolean (is_left (width_of q)) (conjuncts condition ++ tests) all_have)) in
      let of_right : AllHave (rights ∷ outer) [] sides.right kind.Boolean =
      right-have lefts rights outer kind.Boolean (filter (is_right_alone (width_of q) (width_of r)) (conjuncts condition ++ tests)) sides.right split.of_right
      (passed (is_right_alone (width_of q) (width_of r)) (conjuncts condition ++ tests))
      (have-passed ((lefts ++ rights) ∷ outer) [] kind.Boolean (is_right_alone (width_of q) (width_of r)) (conjuncts condition ++ tests) all_have) in
      let of_others : AllHave ((lefts ++ rights) ∷ outer) [] others kind.Boolean =
      have-passed ((lefts ++ rights) ∷ outer) [] kind.Boolean (is_of_both (width_of q) (width_of r)) (conjuncts condition ++ tests) all_have in
      let of_both : AllHave ((lefts ++ rights) ∷ outer) [] sides.both kind.Boolean =
      by (λ i. AllHave ((lefts ++ rights) ∷ outer) [] (sym split.of_both i) kind.Boolean) (have-passed ((lefts ++ rights) ∷ outer) [] kind.Boolean is_own others of_others) in
      let of_outer : AllHave ((lefts ++ rights) ∷ outer) [] sides.around kind.Boolean =
      by (λ i. AllHave ((lefts ++ rights) ∷ outer) [] (sym split.of_outer i) kind.Boolean) (have-passed ((lefts ++ rights) ∷ outer) [] kind.Boolean is_around others of_others) in
      let joined : WellFormed outer parted = by (sym (WellFormed-Join outer Inner (tested q sides.left) (tested r sides.right) (all_hold sides.both) [])) (record {
        left = formed-tested q outer sides.left inside.left of_left;
        right = formed-tested r outer sides.right inside.right of_right;
        subs = tt;
        condition = all_hold-formed _ [] sides.both (by (λ i. AllHave (kinds-sides i ∷ outer) [] sides.both kind.Boolean) of_both);
      }) in
      formed-tested parted outer sides.around joined (by (λ i. AllHave (sym kinds-parted i ∷ outer) [] sides.around kind.Boolean) of_outer)

  -- ---- all of it

  plain-parted : is_plain parted ≡ true
  plain-parted =
      is_plain-Join Inner (tested q sides.left) (tested r sides.right) (all_hold sides.both) []
      ∙ and_from (is_plain (tested q sides.left) && is_plain (tested r sides.right)) true
      (and_from (is_plain (tested q sides.left)) (is_plain (tested r sides.right)) (plain-tested q sides.left ∙ plain_left) (plain-tested r sides.right ∙ plain_right)) refl

  stands-parted : Stands (tested whole tests) (tested parted sides.around)
  stands-parted =
      stands-same (tested whole tests) (tested parted sides.around) (plain-tested parted sides.around ∙ plain-parted)
      (kinds-tested parted sides.around ∙ kinds-parted ∙ sym (kinds-tested whole tests ∙ kinds-whole))
      formed-parted
      (λ P h.
      let g = by (EachTable-Join P Inner q r condition []) (tables-untested whole tests P h) in
      tables-tested parted sides.around P (by (sym (EachTable-Join P Inner (tested q sides.left) (tested r sides.right) (all_hold sides.both) []))
      (tables-tested q sides.left P g.0, tables-tested r sides.right P g.1, tt)))
      (λ outer db env f h e.
      let inside = by (WellFormed-Join outer Inner q r condition []) (formed-untested whole outer tests f).0 in
      let tables = by (EachTable-Join _ Inner q r condition []) (tables-untested whole tests _ h) in
      rows-parted outer db env inside.left inside.right tables.0 tables.1 e)

  pub stands-split : (p : Query) → Stands (tested parted sides.around) p → Stands (tested whole tests) p
  stands-split p s = stands-onward (tested whole tests) (tested parted sides.around) p stands-parted s

pub stands-inner : (q b r d : Query) (tests : List Expr) → Stands q b → Stands r d → Stands (Join Inner q r (all_hold tests) []) (Join Inner b d (all_hold tests) [])
stands-inner q b r d tests s t = stands-Join q b s r d t Inner (all_hold tests) (all_hold tests) (same-itself (all_hold tests)) [] [] tt
