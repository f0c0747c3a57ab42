-- Tests taken together are true where each is; so are the conjuncts of a condition.
use Rattle.std.proofs.Common.{◌≡◌, ◌≤◌, ℕ, true, false, ◌&&◌, List, [], ◌∷◌, ◌++◌, refl, sym, ap, subst, ◌∙◌, true≢false, arith}
use Rattle.std.proofs.lemmas.List.Folds.{list_all-append}
use Rattle.std.specs.Prelude.{⊤}
use Rattle.null_logic.specs.Logic.{truth_and, truth_of, value_of, is_true}
use Rattle.null_logic.specs.declared.operator.Operator.TheVariants as op
use Rattle.null_logic.specs.declared.truth.Truth.{Truth}
use Rattle.null_logic.specs.declared.truth.Truth.TheVariants.{True, False, Unknown}
use Rattle.perm_values.specs.declared.kind.Kind.{Kind}
use Rattle.perm_values.specs.declared.kind.Kind.TheVariants as kind
use Rattle.perm_values.specs.declared.value.Value.{Value}
use Rattle.perm_values.specs.declared.value.Value.TheVariants.{Null, Integer, Text, Boolean}
use Rattle.bag_algebra.proofs.BagLaws.{and_false}
use Rattle.bag_algebra.proofs.Truths.{and_true, left-true, right-true, both-true}
use Rattle.bag_algebra.specs.Bags.{Row}
use Rattle.bag_algebra.specs.Children.{part_values}
use Rattle.bag_algebra.specs.Expressions.{value, values, operate, all_true}
use Rattle.bag_algebra.specs.FaultFree.{faultless, parts_faultless}
use Rattle.bag_algebra.specs.Means.{is_met}
use Rattle.bag_algebra.specs.Outcome.{Outcome, Good, Bad, and_then, both}
use Rattle.bag_algebra.specs.WellFormed.{HasKind, PartsHave}
use Rattle.bag_algebra.specs.built.FaultFree.{all_parts_faultless}
use Rattle.bag_algebra.specs.built.Forms.{AllHave, parts_have-built, parts_have-opened, number_of_parts-built}
use Rattle.bag_algebra.specs.built.Openings.{value-Op}
use Rattle.bag_algebra.specs.built.Patterns.{OpOf, ChainOf, CaseOf, IsNullOf, IsTruthOf, SameOf}
use Rattle.bag_algebra.specs.declared.expr.Expr.{Expr, Row_of-Expr, more_of-Expr, end_of-Expr}
use Rattle.bag_algebra.specs.declared.expr.Expr.TheVariants.{Col, Lit, Sub}
use Rattle.contribution.specs.Conjunctions.{all_hold}
use Rattle.simpler_laws.specs.Conjuncts.{conjuncts, parts_conjuncts}
use Rattle.simpler_laws.specs.Tested.{hold}

-- ---- AND

and-truths : (s t : Truth) → is_true (truth_of (value_of (truth_and s t))) ≡ (is_true s && is_true (truth_of (value_of t)))
and-truths True True = refl
and-truths True False = refl
and-truths True Unknown = refl
and-truths False True = refl
and-truths False False = refl
and-truths False Unknown = refl
and-truths Unknown True = refl
and-truths Unknown False = refl
and-truths Unknown Unknown = refl

-- AND of one more part is true where the part is and AND of the others is
and-step : (o : Outcome Value) (p : Outcome (List Value)) →
    is_met (and_then (both (λ v vs. v ∷ vs) o p) (operate op.And)) ≡ (is_met o && is_met (and_then p (operate op.And)))
and-step (Good v) (Good vs) = and-truths (truth_of v) (all_true vs)
and-step (Good v) (Bad h) = and_false (is_true (truth_of v))
and-step (Bad g) (Good vs) = refl
and-step (Bad g) (Bad h) = refl

module _ (u : Row) (env : List Row) (subs : List Value) where
  and-met : (parts : List Expr) → is_met (and_then (part_values parts u env subs) (operate op.And)) ≡ hold parts env subs u
  and-met [] = refl
  and-met (part ∷ parts) = and-step (value part u env subs) (part_values parts u env subs) ∙ ap (λ b. is_met (value part u env subs) && b) (and-met parts)

  pub all_hold-met : (tests : List Expr) → is_met (value (all_hold tests) u env subs) ≡ hold tests env subs u
  all_hold-met [] = refl
  all_hold-met (test ∷ []) = sym (and_true (is_met (value test u env subs)))
  all_hold-met (test ∷ other ∷ tests) = ap is_met (value-Op u env subs op.And (test ∷ other ∷ tests)) ∙ and-met (test ∷ other ∷ tests)

module _ (scopes : List (List Kind)) (subs : List Kind) where
  pub all_hold-formed : (tests : List Expr) → AllHave scopes subs tests kind.Boolean → HasKind scopes subs (all_hold tests) kind.Boolean
  all_hold-formed [] h = record { fitting = refl; gives = refl }
  all_hold-formed (test ∷ []) h = h.0
  all_hold-formed (test ∷ other ∷ tests) h = record {
    number = subst (λ n. 2 ≤ n) (sym (number_of_parts-built (test ∷ other ∷ tests))) (omega arith);
    parts = parts_have-built scopes subs (test ∷ other ∷ tests) kind.Boolean h;
    gives = refl;
  }

  pub all_hold-opened : (tests : List Expr) → HasKind scopes subs (all_hold tests) kind.Boolean → AllHave scopes subs tests kind.Boolean
  all_hold-opened [] h = tt
  all_hold-opened (test ∷ []) h = (h, tt)
  all_hold-opened (test ∷ other ∷ tests) h = parts_have-opened scopes subs (test ∷ other ∷ tests) kind.Boolean h.parts

-- ---- lists of tests

pub have-append : (scopes : List (List Kind)) (subs : List Kind) (es fs : List Expr) (k : Kind) → AllHave scopes subs es k → AllHave scopes subs fs k →
    AllHave scopes subs (es ++ fs) k
have-append scopes subs [] fs k h g = g
have-append scopes subs (e ∷ es) fs k h g = (h.0, have-append scopes subs es fs k h.1 g)

-- ---- the conjuncts of a condition

module _ (u : Row) (env : List Row) (subs : List Value) where
  alone-met : (e : Expr) → hold (e ∷ []) env subs u ≡ is_met (value e u env subs)
  alone-met e = and_true (is_met (value e u env subs))

  mutual
    pub conjuncts-met : (e : Expr) → hold (conjuncts e) env subs u ≡ is_met (value e u env subs)
    conjuncts-met (Col level place) = alone-met (Col level place)
    conjuncts-met (Lit Null k) = refl
    conjuncts-met (Lit (Integer a) k) = refl
    conjuncts-met (Lit (Text a) k) = refl
    conjuncts-met (Lit (Boolean true) k) = refl
    conjuncts-met (Lit (Boolean false) k) = refl
    conjuncts-met (OpOf op.And shape parts) = parts-met parts
    conjuncts-met (OpOf op.Or shape parts) = alone-met (OpOf op.Or shape parts)
    conjuncts-met (OpOf op.Not shape parts) = alone-met (OpOf op.Not shape parts)
    conjuncts-met (OpOf op.Negate shape parts) = alone-met (OpOf op.Negate shape parts)
    conjuncts-met (OpOf (op.Compare c) shape parts) = alone-met (OpOf (op.Compare c) shape parts)
    conjuncts-met (OpOf (op.Arith c) shape parts) = alone-met (OpOf (op.Arith c) shape parts)
    conjuncts-met (OpOf op.Like shape parts) = alone-met (OpOf op.Like shape parts)
    conjuncts-met (OpOf op.Between shape parts) = alone-met (OpOf op.Between shape parts)
    conjuncts-met (OpOf op.InList shape parts) = alone-met (OpOf op.InList shape parts)
    conjuncts-met (OpOf op.Coalesce shape parts) = alone-met (OpOf op.Coalesce shape parts)
    conjuncts-met (OpOf op.NullIf shape parts) = alone-met (OpOf op.NullIf shape parts)
    conjuncts-met (ChainOf first shape steps) = alone-met (ChainOf first shape steps)
    conjuncts-met (CaseOf shape arms otherwise) = alone-met (CaseOf shape arms otherwise)
    conjuncts-met (Sub number) = alone-met (Sub number)
    conjuncts-met (IsNullOf part) = alone-met (IsNullOf part)
    conjuncts-met (IsTruthOf truth part) = alone-met (IsTruthOf truth part)
    conjuncts-met (SameOf first second) = alone-met (SameOf first second)

    parts-met : {m : _} (parts : Row_of-Expr m) → hold (parts_conjuncts parts) env subs u ≡ is_met (and_then (values parts u env subs) (operate op.And))
    parts-met end_of-Expr = refl
    parts-met (more_of-Expr part parts) =
        list_all-append (λ test. is_met (value test u env subs)) (conjuncts part) (parts_conjuncts parts)
        ∙ (λ i. conjuncts-met part i && parts-met parts i)
        ∙ sym (and-step (value part u env subs) (values parts u env subs))

alone-faultless : (e : Expr) → faultless e ≡ true → all_parts_faultless (e ∷ []) ≡ true
alone-faultless e h = and_true (faultless e) ∙ h

mutual
  pub conjuncts-faultless : (e : Expr) → faultless e ≡ true → all_parts_faultless (conjuncts e) ≡ true
  conjuncts-faultless (Col level place) h = refl
  conjuncts-faultless (Lit Null k) h = refl
  conjuncts-faultless (Lit (Integer a) k) h = refl
  conjuncts-faultless (Lit (Text a) k) h = refl
  conjuncts-faultless (Lit (Boolean true) k) h = refl
  conjuncts-faultless (Lit (Boolean false) k) h = refl
  conjuncts-faultless (OpOf op.And shape parts) h = parts_conjuncts-faultless parts h
  conjuncts-faultless (OpOf op.Or shape parts) h = alone-faultless (OpOf op.Or shape parts) h
  conjuncts-faultless (OpOf op.Not shape parts) h = alone-faultless (OpOf op.Not shape parts) h
  conjuncts-faultless (OpOf op.Negate shape parts) h = alone-faultless (OpOf op.Negate shape parts) h
  conjuncts-faultless (OpOf (op.Compare c) shape parts) h = alone-faultless (OpOf (op.Compare c) shape parts) h
  conjuncts-faultless (OpOf (op.Arith c) shape parts) h = alone-faultless (OpOf (op.Arith c) shape parts) h
  conjuncts-faultless (OpOf op.Like shape parts) h = alone-faultless (OpOf op.Like shape parts) h
  conjuncts-faultless (OpOf op.Between shape parts) h = alone-faultless (OpOf op.Between shape parts) h
  conjuncts-faultless (OpOf op.InList shape parts) h = alone-faultless (OpOf op.InList shape parts) h
  conjuncts-faultless (OpOf op.Coalesce shape parts) h = alone-faultless (OpOf op.Coalesce shape parts) h
  conjuncts-faultless (OpOf op.NullIf shape parts) h = alone-faultless (OpOf op.NullIf shape parts) h
  conjuncts-faultless (ChainOf first shape steps) h = alone-faultless (ChainOf first shape steps) h
  conjuncts-faultless (CaseOf shape arms otherwise) h = alone-faultless (CaseOf shape arms otherwise) h
  conjuncts-faultless (Sub number) h = refl
  conjuncts-faultless (IsNullOf part) h = alone-faultless (IsNullOf part) h
  conjuncts-faultless (IsTruthOf truth part) h = alone-faultless (IsTruthOf truth part) h
  conjuncts-faultless (SameOf first second) h = alone-faultless (SameOf first second) h

  parts_conjuncts-faultless : {m : _} (parts : Row_of-Expr m) → parts_faultless parts ≡ true → all_parts_faultless (parts_conjuncts parts) ≡ true
  parts_conjuncts-faultless end_of-Expr h = refl
  parts_conjuncts-faultless (more_of-Expr part parts) h =
      list_all-append faultless (conjuncts part) (parts_conjuncts parts)
      ∙ both-true (all_parts_faultless (conjuncts part)) (all_parts_faultless (parts_conjuncts parts))
      (conjuncts-faultless part (left-true (faultless part) (parts_faultless parts) h))
      (parts_conjuncts-faultless parts (right-true (faultless part) (parts_faultless parts) h))

module _ (scopes : List (List Kind)) (subs : List Kind) where
  mutual
    pub conjuncts-formed : (e : Expr) → HasKind scopes subs e kind.Boolean → AllHave scopes subs (conjuncts e) kind.Boolean
    conjuncts-formed (Col level place) h = (h, tt)
    conjuncts-formed (Lit Null k) h = (h, tt)
    conjuncts-formed (Lit (Integer a) k) h = (h, tt)
    conjuncts-formed (Lit (Text a) k) h = (h, tt)
    conjuncts-formed (Lit (Boolean true) k) h = tt
    conjuncts-formed (Lit (Boolean false) k) h = (h, tt)
    conjuncts-formed (OpOf op.And shape parts) h = parts_conjuncts-formed parts h.parts
    conjuncts-formed (OpOf op.Or shape parts) h = (h, tt)
    conjuncts-formed (OpOf op.Not shape parts) h = (h, tt)
    conjuncts-formed (OpOf op.Negate shape parts) h = (h, tt)
    conjuncts-formed (OpOf (op.Compare c) shape parts) h = (h, tt)
    conjuncts-formed (OpOf (op.Arith c) shape parts) h = (h, tt)
    conjuncts-formed (OpOf op.Like shape parts) h = (h, tt)
    conjuncts-formed (OpOf op.Between shape parts) h = (h, tt)
    conjuncts-formed (OpOf op.InList shape parts) h = (h, tt)
    conjuncts-formed (OpOf op.Coalesce shape parts) h = (h, tt)
    conjuncts-formed (OpOf op.NullIf shape parts) h = (h, tt)
    conjuncts-formed (ChainOf first shape steps) h = (h, tt)
    conjuncts-formed (CaseOf shape arms otherwise) h = (h, tt)
    conjuncts-formed (Sub number) h = (h, tt)
    conjuncts-formed (IsNullOf part) h = (h, tt)
    conjuncts-formed (IsTruthOf truth part) h = (h, tt)
    conjuncts-formed (SameOf first second) h = (h, tt)

    parts_conjuncts-formed : {m : _} (parts : Row_of-Expr m) → PartsHave scopes subs parts kind.Boolean → AllHave scopes subs (parts_conjuncts parts) kind.Boolean
    parts_conjuncts-formed end_of-Expr h = tt
    parts_conjuncts-formed (more_of-Expr part parts) h =
        have-append scopes subs (conjuncts part) (parts_conjuncts parts) kind.Boolean (conjuncts-formed part h.0) (parts_conjuncts-formed parts h.1)
