-- What a condition forces on a sublink holds wherever the condition is true.
use Rattle.std.proofs.Common.{◌≡◌, ◌≢◌, ◌⊎◌, inl, inr, ℕ, suc, ◌+◌, Bool, true, false, cond, ◌==◌, List, [], ◌∷◌, Option, Some, None, refl, sym, ap, ◌∙◌, subst, arith}
use Rattle.std.specs.Prelude.{⊤}
use Rattle.std.proofs.lemmas.Bool.Decides.{eqb_tells}
use Rattle.null_logic.specs.Logic.{truth_and, truth_or, truth_not, truth_of, value_of, is_true, known}
use Rattle.null_logic.specs.declared.operator.Operator.{Operator}
use Rattle.null_logic.specs.declared.operator.Operator.TheVariants as op
use Rattle.null_logic.specs.declared.truth.Truth.{Truth}
use Rattle.null_logic.specs.declared.truth.Truth.TheVariants.{True, False, Unknown}
use Rattle.perm_values.specs.Rows.{value_at}
use Rattle.perm_values.specs.Values.{is_null}
use Rattle.perm_values.specs.declared.value.Value.{Value}
use Rattle.perm_values.specs.declared.value.Value.TheVariants.{Boolean}
use Rattle.bag_algebra.proofs.Outcomes.{both-is, mapped-is, same_good, then-is}
use Rattle.bag_algebra.proofs.TruthValues.{truth_of-value}
use Rattle.bag_algebra.specs.Bags.{Row}
use Rattle.bag_algebra.specs.built.Patterns.{OpOf, ChainOf, CaseOf, IsNullOf, IsTruthOf, SameOf}
use Rattle.bag_algebra.specs.Children.{subs_denote}
use Rattle.bag_algebra.specs.Expressions.{value, values, has_truth, operate, all_true, some_true}
use Rattle.bag_algebra.specs.Meaning.{Database, condition_on}
use Rattle.bag_algebra.specs.Means.{is_met}
use Rattle.bag_algebra.specs.Outcome.{Outcome, Good, Bad, and_then}
use Rattle.bag_algebra.specs.declared.expr.Expr.{Expr, Row_of-Expr, more_of-Expr, end_of-Expr}
use Rattle.bag_algebra.specs.declared.expr.Expr.TheVariants.{Col, Lit, Sub}
use Rattle.bag_algebra.specs.declared.query.Sublink.{Sublink}
use Rattle.rewrite_move.specs.ForcedTruths.{HasTruth, first_of, forced, forces, if_false, if_true, of_first, of_others, parts_forced}

-- ---- operators

-- the first part has one truth, and each other part another, as far as they are known
abbrev PartsHave : (first others : Option Truth) → List Value → Type 0
PartsHave first others [] = ⊤
PartsHave first others (v ∷ vs) = HasTruth first v × PartsHave others others vs

nothing : (vs : List Value) → PartsHave None None vs
nothing [] = tt
nothing (v ∷ vs) = (tt, nothing vs)

both-true : (a b : Truth) → is_true (truth_and a b) ≡ true → (is_true a ≡ true) × (is_true b ≡ true)
both-true True True e = (refl, refl)
both-true True False e = absurd (cc e)
both-true True Unknown e = absurd (cc e)
both-true False True e = absurd (cc e)
both-true False False e = absurd (cc e)
both-true False Unknown e = absurd (cc e)
both-true Unknown True e = absurd (cc e)
both-true Unknown False e = absurd (cc e)
both-true Unknown Unknown e = absurd (cc e)

both-false : (a b : Truth) → is_true (truth_not (truth_or a b)) ≡ true → (is_true (truth_not a) ≡ true) × (is_true (truth_not b) ≡ true)
both-false True True e = absurd (cc e)
both-false True False e = absurd (cc e)
both-false True Unknown e = absurd (cc e)
both-false False True e = absurd (cc e)
both-false False False e = (refl, refl)
both-false False Unknown e = absurd (cc e)
both-false Unknown True e = absurd (cc e)
both-false Unknown False e = absurd (cc e)
both-false Unknown Unknown e = absurd (cc e)

parts-true : (vs : List Value) → is_true (all_true vs) ≡ true → PartsHave (Some True) (Some True) vs
parts-true [] e = tt
parts-true (v ∷ vs) e = let parts = both-true (truth_of v) (all_true vs) e in (parts.0, parts-true vs parts.1)

parts-false : (vs : List Value) → is_true (truth_not (some_true vs)) ≡ true → PartsHave (Some False) (Some False) vs
parts-false [] e = tt
parts-false (v ∷ vs) e = let parts = both-false (truth_of v) (some_true vs) e in (parts.0, parts-false vs parts.1)

true-of : (t : Truth) (v : Value) → value_of t ≡ v → has_truth True v ≡ true → is_true t ≡ true
true-of t v is h = ap is_true (sym (truth_of-value t) ∙ ap truth_of is) ∙ h

false-of : (t : Truth) (v : Value) → value_of t ≡ v → has_truth False v ≡ true → is_true (truth_not t) ≡ true
false-of t v is h = ap (λ t. is_true (truth_not t)) (sym (truth_of-value t) ∙ ap truth_of is) ∙ h

not-has : (truth t : Truth) (a : Value) → truth_of a ≡ t → has_truth truth (value_of (truth_not t)) ≡ true → has_truth (truth_not truth) a ≡ true
not-has True True a e h = absurd (cc h)
not-has True False a e h = ap (λ t. is_true (truth_not t)) e
not-has True Unknown a e h = absurd (cc h)
not-has False True a e h = ap is_true e
not-has False False a e h = absurd (cc h)
not-has False Unknown a e h = absurd (cc h)
not-has Unknown True a e h = absurd (cc h)
not-has Unknown False a e h = absurd (cc h)
not-has Unknown Unknown a e h = ap (λ t. is_null (value_of t)) e

and-tells : (told : Option Truth) (vs : List Value) (v : Value) → value_of (all_true vs) ≡ v → HasTruth told v → PartsHave (if_true told True) (if_true told True) vs
and-tells None vs v is h = nothing vs
and-tells (Some True) vs v is h = parts-true vs (true-of (all_true vs) v is h)
and-tells (Some False) vs v is h = nothing vs
and-tells (Some Unknown) vs v is h = nothing vs

or-tells : (told : Option Truth) (vs : List Value) (v : Value) → value_of (some_true vs) ≡ v → HasTruth told v → PartsHave (if_false told False) (if_false told False) vs
or-tells None vs v is h = nothing vs
or-tells (Some True) vs v is h = nothing vs
or-tells (Some False) vs v is h = parts-false vs (false-of (some_true vs) v is h)
or-tells (Some Unknown) vs v is h = nothing vs

not-tells : (told : Option Truth) (vs : List Value) (v : Value) → operate op.Not vs ≡ Good v → HasTruth told v → PartsHave (of_first op.Not told) None vs
not-tells told [] v e h = tt
not-tells None (a ∷ vs) v e h = (tt, nothing vs)
not-tells (Some truth) (a ∷ vs) v e h =
    (not-has truth (truth_of a) a refl (ap (has_truth truth) (same_good (value_of (truth_not (truth_of a))) v e) ∙ h), nothing vs)

operator-tells : (operator : Operator) (told : Option Truth) (vs : List Value) (v : Value) → operate operator vs ≡ Good v → HasTruth told v →
    PartsHave (of_first operator told) (of_others operator told) vs
operator-tells op.And told vs v e h = and-tells told vs v (same_good (value_of (all_true vs)) v e) h
operator-tells op.Or told vs v e h = or-tells told vs v (same_good (value_of (some_true vs)) v e) h
operator-tells op.Not told vs v e h = not-tells told vs v e h
operator-tells op.Negate told vs v e h = nothing vs
operator-tells (op.Compare c) told vs v e h = nothing vs
operator-tells (op.Arith c) told vs v e h = nothing vs
operator-tells op.Like told vs v e h = nothing vs
operator-tells op.Between told vs v e h = nothing vs
operator-tells op.InList told vs v e h = nothing vs
operator-tells op.Coalesce told vs v e h = nothing vs
operator-tells op.NullIf told vs v e h = nothing vs

truth-tells : (told : Option Truth) (truth : Truth) (w v : Value) → Boolean (has_truth truth w) ≡ v → HasTruth told v → HasTruth (if_true told truth) w
truth-tells None truth w v is h = tt
truth-tells (Some True) truth w v is h = same-known (has_truth truth w) (ap (has_truth True) is ∙ h) where
  same-known : (b : Bool) → is_true (known b) ≡ true → b ≡ true
  same-known true e = refl
  same-known false e = absurd (cc e)
truth-tells (Some False) truth w v is h = tt
truth-tells (Some Unknown) truth w v is h = tt

-- ---- expressions

first-has : (first other : Option Truth) (v : Value) → HasTruth first v → HasTruth other v → HasTruth (first_of first other) v
first-has None other v h k = k
first-has (Some truth) other v h k = h

own-has : (told : Option Truth) (number at : ℕ) (answers : List Value) (v : Value) → value_at answers number ≡ v → HasTruth told v →
    HasTruth (cond (number == at) told None) (value_at answers at)
own-has told number at answers v e h = by_number (eqb_tells number at) where
  by_number : (((number == at) ≡ true) × (number ≡ at)) ⊎ (((number == at) ≡ false) × (number ≢ at)) → HasTruth (cond (number == at) told None) (value_at answers at)
  by_number (inl same) =
      subst (λ b. HasTruth (cond b told None) (value_at answers at)) (sym same.0) (subst (HasTruth told) (sym e ∙ ap (value_at answers) same.1) h)
  by_number (inr other) = subst (λ b. HasTruth (cond b told None) (value_at answers at)) (sym other.0) tt

module _ (u : Row) (env : List Row) (answers : List Value) (at : ℕ) where
  mutual
    forced-has : (e : Expr) (told : Option Truth) (v : Value) → value e u env answers ≡ Good v → HasTruth told v → HasTruth (forced told e at) (value_at answers at)
    forced-has (Col level place) told v e h = tt
    forced-has (Lit w kind) told v e h = tt
    forced-has (OpOf operator shape parts) told v e h =
        let found = then-is (values parts u env answers) (operate operator) v e in
        parts-have parts (of_first operator told) (of_others operator told) found.0 found.1 (operator-tells operator told found.0 v found.2 h)
    forced-has (ChainOf first shape steps) told v e h = tt
    forced-has (CaseOf shape arms otherwise) told v e h = tt
    forced-has (Sub number) told v e h = own-has told number at answers v (same_good (value_at answers number) v e) h
    forced-has (IsNullOf part) told v e h = tt
    forced-has (IsTruthOf truth part) told v e h =
        let found = mapped-is (λ w. Boolean (has_truth truth w)) (value part u env answers) v e in
        forced-has part (if_true told truth) found.0 found.1 (truth-tells told truth found.0 v found.2 h)
    forced-has (SameOf first second) told v e h = tt

    parts-have : {m : _} (parts : Row_of-Expr m) (first others : Option Truth) (vs : List Value) → values parts u env answers ≡ Good vs → PartsHave first others vs →
        HasTruth (parts_forced first others parts at) (value_at answers at)
    parts-have end_of-Expr first others vs e h = tt
    parts-have (more_of-Expr part parts) first others vs e h =
        let found = both-is (λ v vs. v ∷ vs) (value part u env answers) (values parts u env answers) vs e in
        let each : PartsHave first others (found.0 ∷ found.1) = subst (PartsHave first others) (sym found.4) h in
        first-has (forced first part at) (parts_forced others others parts at) (value_at answers at)
        (forced-has part first found.0 found.2 each.0) (parts-have parts others others found.1 found.3 each.1)

  pub forces-right : (condition : Expr) → is_met (value condition u env answers) ≡ true → HasTruth (forces condition at) (value_at answers at)
  forces-right condition met = by_value (value condition u env answers) refl met where
    by_value : (o : Outcome Value) → value condition u env answers ≡ o → is_met o ≡ true → HasTruth (forces condition at) (value_at answers at)
    by_value (Good v) e met = forced-has condition (Some True) v e met
    by_value (Bad faults) e met = absurd (cc met)

-- ---- the sublinks of a node, from a number on

abbrev pub Held : Expr → ℕ → List Value → Type 0
Held condition at [] = ⊤
Held condition at (v ∷ vs) = HasTruth (forces condition at) v × Held condition (suc at) vs

held-from : (condition : Expr) (at : ℕ) (vs : List Value) → ((i : ℕ) → HasTruth (forces condition (i + at)) (value_at vs i)) → Held condition at vs
held-from condition at [] h = tt
held-from condition at (v ∷ vs) h =
    let here : 0 + at ≡ at = omega arith in
    (subst (λ n. HasTruth (forces condition n) v) here (h 0), held-from condition (suc at) vs (λ i. let next : suc i + at ≡ i + suc at = omega arith in subst (λ n. HasTruth (forces condition n) (value_at vs i)) next (h (suc i))))

-- where a condition is true the sublinks have values with what it forces
pub met-held : (condition : Expr) (subs : List Sublink) (db : Database) (env : List Row) (b : Row) → is_met (condition_on condition env (subs_denote subs db env) b) ≡ true →
    (values : List Value) × ((subs_denote subs db env).answers b ≡ Good values) × Held condition 0 values
met-held condition subs db env b met = by_answers ((subs_denote subs db env).answers b) refl met where
  by_answers : (o : Outcome (List Value)) → (subs_denote subs db env).answers b ≡ o → is_met (and_then o (value condition b env)) ≡ true →
      (values : List Value) × ((subs_denote subs db env).answers b ≡ Good values) × Held condition 0 values
  by_answers (Good values) e met = (
    values,
    e,
    held-from condition 0 values (λ i. let same : i ≡ i + 0 = omega arith in
        subst (λ n. HasTruth (forces condition n) (value_at values i)) same (forces-right b env values i condition met)),
  )
  by_answers (Bad faults) e met = absurd (cc met)
