-- Chains and CASE over parts that are read.
use Rattle.std.proofs.Common.{◌≡◌, ℕ, ◌+◌, false, List, [], ◌∷◌, ◌++◌, length, map, flat_map, Some, None, refl, sym, ap, subst}
use Rattle.null_logic.specs.declared.operator.Operator.TheVariants as x
use Rattle.perm_values.specs.declared.kind.Kind.{Kind}
use Rattle.perm_values.specs.declared.kind.Kind.TheVariants.{Integer, Boolean}
use Rattle.bag_algebra.specs.declared.expr.Arm.{Arm}
use Rattle.bag_algebra.specs.declared.expr.ChainStep.{ChainStep}
use Rattle.bag_algebra.specs.declared.expr.Expr.{Expr}
use Rattle.bag_algebra.specs.declared.expr.Expr.TheVariants.{Chain, Case}
use Rattle.bag_algebra.specs.declared.query.Sublink.{Sublink}
use Rattle.name_meaning.specs.Expressions.{ArmPart, StepPart, arm_operands, arms_made, case_made, case_meant, chain_gives, chain_made, first_of, rest_made, step_operand, steps_made}
use Rattle.name_meaning.specs.Meanings.{Part, Surroundings, united_kind}
use Rattle.name_meaning.specs.Operands.{Operand, given_kind, need_of, operand, united}
use Rattle.name_meaning.specs.declared.need.Gives.{Gives}
use Rattle.name_meaning.specs.declared.need.Gives.TheVariants.{Always as always, Common as common}
use Rattle.name_meaning.specs.declared.need.Need.{Need}
use Rattle.name_meaning.specs.declared.need.Need.TheVariants.{OfKind as of_kind, Alike as alike}
use Rattle.sql_printer.specs.expressions.Reading.{IsRead}
use Rattle.sql_printer.proofs.expressions.ReadForms.{arith-row, chain_meant}
use Rattle.sql_printer.proofs.expressions.ReadParts.{AreRead, Meets, node-read, none-read, one-read, read-seen}

module _ (here : Surroundings) where
  -- ---- chains

  pub record StepsRead (steps : List StepPart) (made : ℕ → List ChainStep) (subs : List Sublink) : Type 0 where
    pub operands : AreRead Integer (map (step_operand here) steps) (λ n. map (λ (step : ChainStep). step.part) (made n)) subs
    pub whole : (n : ℕ) → steps_made steps (map (λ (step : ChainStep). step.part) (made n)) ≡ made n

  pub no_steps-read : StepsRead [] (λ n. []) []
  no_steps-read = record { operands = none-read Integer; whole = λ n. refl }

  meets-arith : (need : Need) → need ≡ of_kind Integer → Meets need Integer Integer
  meets-arith need e = subst (λ n. Meets n Integer Integer) (sym e) refl

  pub step-read : (step : StepPart) (steps : List StepPart) (made : ℕ → Expr) (others : ℕ → List ChainStep) (subs more : List Sublink) (count : ℕ)
      → IsRead (step.part.means here) Integer made subs → StepsRead steps others more → length subs ≡ count
      → StepsRead (step ∷ steps) (λ n. record { op = step.op; part = made n } ∷ others (n + count)) (subs ++ more)
  step-read step steps made others subs more count r rest is = record {
    operands = one-read Integer Integer (step_operand here step) (map (step_operand here) steps) made
        (λ n. map (λ (step : ChainStep). step.part) (others n)) subs more count r (meets-arith (need_of (x.Arith step.op) false) (arith-row step.op).0) rest.operands is;
    whole = λ n. ap (λ ss. record { op = step.op; part = made n } ∷ ss) (rest.whole (n + count));
  }

  pub chain-read : (first : Part) (step : StepPart) (steps : List StepPart) (made : ℕ → Expr) (others : ℕ → List ChainStep) (subs more : List Sublink) (count : ℕ)
      → IsRead (first.means here) Integer made subs → StepsRead (step ∷ steps) others more → length subs ≡ count
      → IsRead (chain_meant here first (step ∷ steps)) Integer (λ n. Chain (made n) (others (n + count))) (subs ++ more)
  chain-read first step steps made others subs more count r rest is =
      let all = step ∷ steps in
      let need = need_of (x.Arith step.op) false in
      let os = operand here need first ∷ map (step_operand here) all in
      let read = node-read (chain_gives all) (chain_made all) os Integer Integer
      (λ n. made n ∷ map (λ (step : ChainStep). step.part) (others (n + count))) (subs ++ more)
      (one-read Integer Integer (operand here need first) (map (step_operand here) all) made (λ n. map (λ (step : ChainStep). step.part) (others n)) subs more count r
      (meets-arith need (arith-row step.op).0) rest.operands is)
      (given-arith (chain_gives all) os (arith-row step.op).1) in
      subst (λ m. IsRead (chain_meant here first all) Integer m (subs ++ more)) (λ i n. Chain (made n) (rest.whole (n + count) i)) read
    where
      given-arith : (gives : Gives) (os : List Operand) → gives ≡ always Integer → given_kind gives os ≡ Some Integer
      given-arith gives os e = ap (λ g. given_kind g os) e

  -- ---- CASE

  pub record ArmsRead (shared : Kind) (arms : List ArmPart) (last : Operand) (made : ℕ → List Arm) (otherwise : ℕ → Expr) (subs : List Sublink) : Type 0 where
    pub exprs : ℕ → List Expr
    pub operands : AreRead shared (flat_map (arm_operands here) arms ++ last ∷ []) exprs subs
    pub arms_are : (n : ℕ) → arms_made arms (exprs n) ≡ made n
    pub rest_is : (n : ℕ) → first_of (rest_made arms (exprs n)) ≡ otherwise n
    pub common : united (flat_map (arm_operands here) arms ++ last ∷ []) ≡ Some shared

  pub no_arms-read : (shared : Kind) (last : Part) (made : ℕ → Expr) (subs : List Sublink) → IsRead (last.means here) shared made subs
      → ArmsRead shared [] (operand here alike last) (λ n. []) made (subs ++ [])
  no_arms-read shared last made subs r = record {
    exprs = λ n. made n ∷ [];
    operands = one-read shared shared (operand here alike last) [] made (λ n. []) subs [] (length subs) r refl (none-read shared) refl;
    arms_are = λ n. refl;
    rest_is = λ n. refl;
    common = ap (λ found. united_kind found None) (read-seen (last.means here) shared made subs r);
  }

  pub arm-read : (shared : Kind) (arm : ArmPart) (arms : List ArmPart) (last : Operand) (test chosen : ℕ → Expr) (others : ℕ → List Arm) (otherwise : ℕ → Expr)
      (first second more : List Sublink) (count next : ℕ) → IsRead (arm.condition.means here) Boolean test first → IsRead (arm.value.means here) shared chosen second
      → ArmsRead shared arms last others otherwise more → length first ≡ count → length second ≡ next
      → ArmsRead shared (arm ∷ arms) last (λ n. record { condition = test n; value = chosen (n + count) } ∷ others (n + count + next)) (λ n. otherwise (n + count + next))
      (first ++ (second ++ more))
  arm-read shared arm arms last test chosen others otherwise first second more count next r s rest is are = record {
    exprs = λ n. test n ∷ chosen (n + count) ∷ rest.exprs (n + count + next);
    operands =
        one-read shared Boolean (operand here (of_kind Boolean) arm.condition) (operand here alike arm.value ∷ (flat_map (arm_operands here) arms ++ last ∷ []))
        test (λ n. chosen n ∷ rest.exprs (n + next)) first (second ++ more) count r refl
        (one-read shared shared (operand here alike arm.value) (flat_map (arm_operands here) arms ++ last ∷ []) chosen rest.exprs second more next s refl rest.operands are)
        is;
    arms_are = λ n. ap (λ more. record { condition = test n; value = chosen (n + count) } ∷ more) (rest.arms_are (n + count + next));
    rest_is = λ n. rest.rest_is (n + count + next);
    common = ap (λ found. united_kind found (united (flat_map (arm_operands here) arms ++ last ∷ []))) (read-seen (arm.value.means here) shared chosen second s);
  }

  pub case-read : (shared : Kind) (arms : List ArmPart) (last : Part) (made : ℕ → List Arm) (otherwise : ℕ → Expr) (subs : List Sublink)
      → ArmsRead shared arms (operand here alike last) made otherwise subs
      → IsRead (case_meant here arms (Some last)) shared (λ n. Case (made n) (otherwise n)) subs
  case-read shared arms last made otherwise subs all =
      let os = flat_map (arm_operands here) arms ++ operand here alike last ∷ [] in
      subst (λ m. IsRead (case_meant here arms (Some last)) shared m subs) (λ i n. Case (all.arms_are n i) (all.rest_is n i))
      (node-read common (case_made arms) os shared shared all.exprs subs all.operands all.common)
