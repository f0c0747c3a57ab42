-- Lists of operands, gone through one after the other.
use Rattle.std.specs.Prelude.{◌≡◌, ℕ, ◌+◌, ◌<◌, false, List, [], ◌∷◌, ◌++◌, length, map, flat_map, slice_get, Option, Some, None, Result, Ok, Err}
use Rattle.std.proofs.Common.{refl, ap, sym, subst, ◌∙◌, take, get_or, append_assoc, append-nil}
use Rattle.null_logic.specs.declared.operator.Operator.TheVariants as x
use Rattle.perm_catalog.specs.Contents.{Contents}
use Rattle.perm_values.specs.declared.kind.Kind.{Kind}
use Rattle.perm_values.specs.declared.kind.Kind.TheVariants as kind
use Rattle.perm_values.proofs.Lists.{taken}
use Rattle.sql_tree.specs.declared.expression.ArmTree.{ArmTree}
use Rattle.sql_tree.specs.declared.expression.ExprStep.{ExprStep}
use Rattle.name_meaning.specs.Expressions.{StepPart, step_operand, arm_operands, else_operand, first_need, chain_gives}
use Rattle.name_meaning.specs.Meanings.{Surroundings}
use Rattle.name_meaning.specs.Operands.{Operand, operand, need_of, gives_of}
use Rattle.name_meaning.specs.Trees.{part_of, step_of, arm_of}
use Rattle.name_meaning.specs.declared.need.Gives.TheVariants.{Common as common}
use Rattle.name_meaning.specs.declared.need.Need.TheVariants.{OfKind as of_kind, Alike as alike, Free as free}
use Rattle.name_meaning.proofs.Equations.{token, exprstep-record, armtree-record}
use Rattle.name_meaning.proofs.FactsOf.{both_facts-none}
use Rattle.name_seen_parts.specs.Seen.{with_operand}
use Rattle.name_seen_parts.specs.declared.operands.Operands.{Operands}
use Rattle.name_seen_parts.specs.declared.refusal.Refusal.{Refusal}
use Rattle.name_seen_cores.specs.from.Added.{facts_in}
use Rattle.name_seen_cores.specs.Expressed.{OperandsBehind}
use Rattle.name_seen_cores.specs.declared.from.facts.Facts.{Facts as Gathered}
use Rattle.name_seen_cores.proofs.Behind.{behind-both}

-- ---- loops

pub mapped-behind : {X Y Z : Type 0} (g : Y → Z) (p : X → Y) (xs : List X) (x : X) → map g (map p (xs ++ x ∷ [])) ≡ map g (map p xs) ++ g (p x) ∷ []
mapped-behind g p [] x = refl
mapped-behind g p (y ∷ xs) x = ap (λ (zs : List _). g (p y) ∷ zs) (mapped-behind g p xs x)

pub mapped-more : {X Y : Type 0} (g : Y → Operand) (p : X → Y) (xs : List X) (i : ℕ) (x : X) (q r s : Result Operands Refusal) (old middle new : Gathered)
    → i < length xs → x ≡ get_or xs i x → OperandsBehind (map g (map p (take i xs))) q old middle r → OperandsBehind (g (p x) ∷ []) r middle new s
    → OperandsBehind (map g (map p (take (i + 1) xs))) q old new s
mapped-more g p xs i x q r s old middle new within e so_far one =
    subst (λ os. OperandsBehind os q old new s)
    (sym (ap (λ (ys : List _). map g (map p ys)) (taken xs i x within e) ∙ mapped-behind g p (take i xs) x)) (behind-both (map g (map p (take i xs))) (g (p x) ∷ []) q r s old middle new so_far one)

pub flat-behind : {X Y Z : Type 0} (g : Y → List Z) (p : X → Y) (xs : List X) (x : X)
    → flat_map g (map p (xs ++ x ∷ [])) ≡ flat_map g (map p xs) ++ g (p x)
flat-behind g p [] x = append-nil (g (p x))
flat-behind g p (y ∷ xs) x =
    ap (λ (zs : List _). g (p y) ++ zs) (flat-behind g p xs x) ∙ sym (append_assoc (g (p y)) (flat_map g (map p xs)) (g (p x)))

pub flat-more : {X Y : Type 0} (g : Y → List Operand) (p : X → Y) (xs : List X) (i : ℕ) (x : X) (q r s : Result Operands Refusal) (old middle new : Gathered)
    → i < length xs → x ≡ get_or xs i x → OperandsBehind (flat_map g (map p (take i xs))) q old middle r → OperandsBehind (g (p x)) r middle new s
    → OperandsBehind (flat_map g (map p (take (i + 1) xs))) q old new s
flat-more g p xs i x q r s old middle new within e so_far one =
    subst (λ os. OperandsBehind os q old new s)
    (sym (ap (λ (ys : List _). flat_map g (map p ys)) (taken xs i x within e) ∙ flat-behind g p (take i xs) x)) (behind-both (flat_map g (map p (take i xs))) (g (p x)) q r s old middle new so_far one)

-- ---- steps and arms

pub step-is : (c : Contents) (here : Surroundings) (step : ExprStep)
    → operand here (need_of (x.Arith step.op) false) (part_of c step.part) ≡ step_operand here (step_of c step)
unfolding token
step-is c here step = ap (step_operand here) (sym (exprstep-record c step.op step.part))

pub arm-is : (c : Contents) (here : Surroundings) (arm : ArmTree)
    → (operand here (of_kind kind.Boolean) (part_of c arm.condition) ∷ operand here alike (part_of c arm.value) ∷ []) ≡ arm_operands here (arm_of c arm)
unfolding token
arm-is c here arm = ap (arm_operands here) (sym (armtree-record c arm.condition arm.value))

pub first-step-needs : (c : Contents) (step : ExprStep) (steps : List ExprStep) → need_of (x.Arith step.op) false ≡ first_need (map (step_of c) (step ∷ steps))
unfolding token
first-step-needs c step steps = ap (λ (s : StepPart). need_of (x.Arith s.op) false) (sym (exprstep-record c step.op step.part))

pub first-step-gives : (c : Contents) (step : ExprStep) (steps : List ExprStep) → gives_of (x.Arith step.op) false ≡ chain_gives (map (step_of c) (step ∷ steps))
unfolding token
first-step-gives c step steps = ap (λ (s : StepPart). gives_of (x.Arith s.op) false) (sym (exprstep-record c step.op step.part))

pub needs-none : (c : Contents) (steps : List ExprStep) → None ≡ slice_get steps 0 → free ≡ first_need (map (step_of c) steps)
needs-none c [] e = refl
needs-none c (step ∷ steps) e = absurd (cc)

pub needs-some : (c : Contents) (steps : List ExprStep) (first : ExprStep) → Some first ≡ slice_get steps 0
    → need_of (x.Arith first.op) false ≡ first_need (map (step_of c) steps)
needs-some c [] first e = absurd (cc)
needs-some c (step ∷ steps) first e =
    let same : first ≡ step = cc in
    ap (λ (s : ExprStep). need_of (x.Arith s.op) false) same ∙ first-step-needs c step steps

pub gives-none : (c : Contents) (steps : List ExprStep) → None ≡ slice_get steps 0 → common ≡ chain_gives (map (step_of c) steps)
gives-none c [] e = refl
gives-none c (step ∷ steps) e = absurd (cc)

pub gives-some : (c : Contents) (steps : List ExprStep) (first : ExprStep) → Some first ≡ slice_get steps 0
    → gives_of (x.Arith first.op) false ≡ chain_gives (map (step_of c) steps)
gives-some c [] first e = absurd (cc)
gives-some c (step ∷ steps) first e =
    let same : first ≡ step = cc in
    ap (λ (s : ExprStep). gives_of (x.Arith s.op) false) same ∙ first-step-gives c step steps

-- ---- a CASE without ELSE

any-kept : (common : Option Kind) (unfit : Option ℕ)
    → with_operand alike 0 None (record { common = common; unfit = unfit }) ≡ record { common = common; unfit = unfit }
any-kept None unfit = refl
any-kept (Some kind) unfit = refl

pub without-else : (here : Surroundings) (r : Result Operands Refusal) (facts : Gathered) → OperandsBehind (else_operand here None ∷ []) r facts facts r
without-else here (Ok so_far) facts = record {
  found = ap Ok (any-kept so_far.common so_far.unfit);
  adds = λ wanted before. sym (both_facts-none (facts_in facts));
}
without-else here (Err refusal) facts = refl
