-- What an expression of one form is made of, its parts made where they stand.
use Rattle.std.specs.Prelude.{◌≡◌, ℕ, ◌+◌, Bool, false, List, [], ◌∷◌, ◌++◌, map, flat_map, length}
use Rattle.std.proofs.Common.{refl, ap, sym, subst, ◌∙◌, arith, append_assoc, length-append}
use Rattle.std.proofs.lemmas.Grind.{flat_map-append}
use Rattle.std.proofs.lemmas.List.{map-append}
use Rattle.null_logic.specs.declared.arith.Arith.{Arith}
use Rattle.null_logic.specs.declared.arith.Arith.TheVariants as op
use Rattle.null_logic.specs.declared.operator.Operator.TheVariants as x
use Rattle.bag_algebra.specs.declared.expr.Arm.{Arm}
use Rattle.bag_algebra.specs.declared.expr.ChainStep.{ChainStep}
use Rattle.bag_algebra.specs.declared.expr.Expr.{Expr}
use Rattle.bag_algebra.specs.declared.expr.Expr.TheVariants.{Chain, Case}
use Rattle.perm_values.specs.declared.kind.Kind.{Kind}
use Rattle.perm_values.specs.declared.kind.Kind.TheVariants as kind
use Rattle.perm_values.proofs.Lists.{back-none}
use Rattle.perm_catalog.specs.Contents.{Contents}
use Rattle.sql_tree.specs.declared.expression.ExprStep.{ExprStep}
use Rattle.name_meaning.specs.Trees.{step_of}
use Rattle.name_meaning.specs.Expressions.{StepPart, ArmPart, arm_operands, case_made, arms_made, rest_made, chain_gives, chain_made, first_need, first_of, step_operand, steps_made}
use Rattle.name_meaning.specs.Meanings.{Built, Meant, Part, Surroundings, means_at, settled}
use Rattle.name_meaning.specs.Operands.{Operand, alike_wanted, need_of, node, operand, united, wanted_of}
use Rattle.name_meaning.specs.Sublinks.{built_alone}
use Rattle.name_meaning.specs.declared.answer.Break.{Break}
use Rattle.name_meaning.specs.declared.need.Gives.{Gives}
use Rattle.name_meaning.specs.declared.need.Gives.TheVariants.{Common}
use Rattle.name_meaning.specs.declared.need.Need.{Need}
use Rattle.name_meaning.specs.declared.need.Need.TheVariants.{OfKind, Alike}
use Rattle.name_meaning.specs.nodes.Makes.{before_of, with_found, arm_exprs, Makes, MakesMore, MakesSteps, MakesArms}
use Rattle.name_meaning.specs.declared.nodes.within.Within.{Within}
use Rattle.name_meaning.proofs.Parts.{with-nothing, none-more, one-more, more-more, node-made}

-- ---- what needs no part

pub alone-made : (may_link : Bool) (m : Meant) (wanted : Kind) (e : Expr) (w : Within)
    → m.make wanted (before_of w) ≡ built_alone e → Makes may_link m wanted e w w
alone-made may_link m wanted e w is =
    record {
      makes = λ _. record {
        expr = ap (λ (b : Built). b.expr) (sym is);
        found = sym (with-nothing w) ∙ ap (λ (b : Built). with_found w b.subs b.aggregates) (sym is);
      };
      unlinked = λ _. refl;
    }

-- what breaks is not looked at
pub broken-made : (m : Meant) (wanted : Kind) (e : Expr) (w : Within) (earlier : List Break) (last : Break)
    → m.breaks ≡ earlier ++ last ∷ [] → (may_link : Bool) → Makes may_link m wanted e w w
broken-made m wanted e w earlier last some may_link =
    record {
      makes = λ whole. let none : last ∷ [] ≡ [] = back-none earlier (last ∷ []) (sym some ∙ whole) in absurd (cc);
      unlinked = λ _. refl;
    }

-- ---- one part

-- an operand is its part where it stands
pub part-made : (may_link : Bool) (part : Part) (here : Surroundings) (wanted : Kind) (e : Expr) (old new : Within)
    → Makes may_link (means_at part here) wanted e old new → Makes may_link (part.means here) wanted e old new
unfolding means_at
part-made may_link part here wanted e old new made = made

pub operand-one : (may_link : Bool) (alike : Kind) (need : Need) (part : Part) (here : Surroundings) (es : List Expr) (e : Expr) (old new : Within)
    → Makes may_link (means_at part here) (wanted_of alike need) e old new
    → MakesMore may_link alike (operand here need part ∷ []) es (es ++ e ∷ []) old new
operand-one may_link alike need part here es e old new made =
    one-more may_link alike (operand here need part) es e old new (part-made may_link part here (wanted_of alike need) e old new made)

-- a node over one operand
pub single-made : (may_link : Bool) (gives : Gives) (assembled : List Expr → Expr) (need : Need) (part : Part) (here : Surroundings) (wanted kind : Kind) (e : Expr) (old new : Within)
    → ((alike : Kind) → wanted_of alike need ≡ kind)
    → Makes may_link (means_at part here) kind e old new
    → Makes may_link (node gives assembled (operand here need part ∷ [])) wanted (assembled (e ∷ [])) old new
single-made may_link gives assembled need part here wanted kind e old new same made =
    let os = operand here need part ∷ [] in
    let alike = settled (united os) (alike_wanted gives wanted) in
    node-made may_link gives assembled os wanted (e ∷ []) old new
    (operand-one may_link alike need part here [] e old new (subst (λ (k : Kind). Makes may_link (means_at part here) k e old new) (sym (same alike)) made))

-- ---- several parts

pub two-more : (may_link : Bool) (alike : Kind) (a b : Operand) (p q r : List Expr) (w x y : Within)
    → MakesMore may_link alike (a ∷ []) p q w x → MakesMore may_link alike (b ∷ []) q r x y → MakesMore may_link alike (a ∷ b ∷ []) p r w y
two-more may_link alike a b p q r w x y first second = more-more may_link alike (a ∷ []) (b ∷ []) p q r w x y first second

pub three-more : (may_link : Bool) (alike : Kind) (a b c : Operand) (p q r s : List Expr) (w x y z : Within)
    → MakesMore may_link alike (a ∷ []) p q w x → MakesMore may_link alike (b ∷ []) q r x y → MakesMore may_link alike (c ∷ []) r s y z
    → MakesMore may_link alike (a ∷ b ∷ c ∷ []) p s w z
three-more may_link alike a b c p q r s w x y z first second third =
    more-more may_link alike (a ∷ b ∷ []) (c ∷ []) p r s w y z (two-more may_link alike a b p q r w x y first second) third

-- the same behind others
pub behind-others : (may_link : Bool) (alike : Kind) (os : List Operand) (p es : List Expr) (old new : Within)
    → MakesMore may_link alike os [] es old new → MakesMore may_link alike os p (p ++ es) old new
behind-others may_link alike os p es old new made =
    record {
      makes = λ whole. let built = made.makes whole in record { exprs = ap (λ (es : List Expr). p ++ es) built.exprs; found = built.found };
      unlinked = made.unlinked;
    }

-- ---- chains

arith-need : (op : Arith) → need_of (x.Arith op) false ≡ OfKind kind.Integer
arith-need op.Add = refl
arith-need op.Subtract = refl
arith-need op.Multiply = refl
arith-need op.Divide = refl
arith-need op.Remainder = refl

pub no-step : (alike : Kind) → wanted_of alike (first_need []) ≡ kind.Text
no-step alike = refl

pub first-step : (alike : Kind) (step : StepPart) (steps : List StepPart) → wanted_of alike (first_need (step ∷ steps)) ≡ kind.Integer
first-step alike step steps = ap (wanted_of alike) (arith-need step.op)

-- a chain's first operand takes the kind that its first step needs
pub start-none : (c : Contents) (alike : Kind) (steps : List ExprStep) → steps ≡ [] → kind.Text ≡ wanted_of alike (first_need (map (step_of c) steps))
start-none c alike steps is = sym (ap (λ (steps : List ExprStep). wanted_of alike (first_need (map (step_of c) steps))) is)

pub start-some : (c : Contents) (alike : Kind) (steps : List ExprStep) → (steps ≡ [] → ⊥) → kind.Integer ≡ wanted_of alike (first_need (map (step_of c) steps))
start-some c alike [] some = absurd (some refl)
start-some c alike (step ∷ steps) some = sym (first-step alike (step_of c step) (map (step_of c) steps))

pub step-wanted : (alike : Kind) (op : Arith) → wanted_of alike (need_of (x.Arith op) false) ≡ kind.Integer
step-wanted alike op = ap (wanted_of alike) (arith-need op)

pub no-steps-made : (may_link : Bool) (alike : Kind) (here : Surroundings) (w : Within) → MakesSteps may_link alike here [] [] w w
no-steps-made may_link alike here w = record { parts = none-more may_link alike [] w; ops = refl }

-- one more step
pub next-step-made : (may_link : Bool) (alike : Kind) (here : Surroundings) (steps : List StepPart) (step : StepPart) (made : List ChainStep) (part : Expr) (a b c : Within)
    → MakesSteps may_link alike here steps made a b → Makes may_link (means_at step.part here) kind.Integer part b c
    → MakesSteps may_link alike here (steps ++ step ∷ []) (made ++ record { op = step.op; part = part } ∷ []) a c
next-step-made may_link alike here steps step made part a b c before this =
    let es = map (λ (step : ChainStep). step.part) made in
    let one = operand-one may_link alike (need_of (x.Arith step.op) false) step.part here es part b c
    (subst (λ (k : Kind). Makes may_link (means_at step.part here) k part b c) (sym (step-wanted alike step.op)) this) in
    let all = more-more may_link alike (map (step_operand here) steps) (step_operand here step ∷ []) [] es (es ++ part ∷ []) a b c before.parts one in
    record {
      parts = subst (λ (os : List Operand). MakesMore may_link alike os [] (map (λ (step : ChainStep). step.part) (made ++ record { op = step.op; part = part } ∷ [])) a c)
          (sym (map-append (step_operand here) steps (step ∷ [])))
          (subst (λ (es : List Expr). MakesMore may_link alike (map (step_operand here) steps ++ step_operand here step ∷ []) [] es a c)
          (sym (map-append (λ (step : ChainStep). step.part) made (record { op = step.op; part = part } ∷ []))) all);
      ops = map-append (λ (step : ChainStep). step.op) made (record { op = step.op; part = part } ∷ [])
          ∙ ap (λ (ops : List Arith). ops ++ step.op ∷ []) before.ops
          ∙ sym (map-append (λ (step : StepPart). step.op) steps (step ∷ []));
    }

steps-same : (steps : List StepPart) (made : List ChainStep) → map (λ (step : ChainStep). step.op) made ≡ map (λ (step : StepPart). step.op) steps
    → steps_made steps (map (λ (step : ChainStep). step.part) made) ≡ made
steps-same [] [] same = refl
steps-same [] (m ∷ made) same = absurd (cc)
steps-same (s ∷ steps) [] same = absurd (cc)
steps-same (s ∷ steps) (m ∷ made) same =
    let op : s.op ≡ m.op = cc in
    let rest : map (λ (step : ChainStep). step.op) made ≡ map (λ (step : StepPart). step.op) steps = cc in
    ap (λ (op : Arith). record { op = op; part = m.part } ∷ steps_made steps (map (λ (step : ChainStep). step.part) made)) op
    ∙ ap (λ (made : List ChainStep). m ∷ made) (steps-same steps made rest)

pub whole-chain : (may_link : Bool) (here : Surroundings) (part : Part) (steps : List StepPart) (wanted start : Kind) (first : Expr) (made : List ChainStep) (a b c : Within)
    → ((alike : Kind) → start ≡ wanted_of alike (first_need steps))
    → Makes may_link (means_at part here) start first a b
    → ((alike : Kind) → MakesSteps may_link alike here steps made b c)
    → Makes may_link (node (chain_gives steps) (chain_made steps) (operand here (first_need steps) part ∷ map (step_operand here) steps)) wanted (Chain first made) a c
whole-chain may_link here part steps wanted start first made a b c starts one more =
    let os = operand here (first_need steps) part ∷ map (step_operand here) steps in
    let alike = settled (united os) (alike_wanted (chain_gives steps) wanted) in
    let es = map (λ (step : ChainStep). step.part) made in
    let head = operand-one may_link alike (first_need steps) part here [] first a b
    (subst (λ (k : Kind). Makes may_link (means_at part here) k first a b) (starts alike) one) in
    let rest = behind-others may_link alike (map (step_operand here) steps) (first ∷ []) es b c (more alike).parts in
    subst (λ (made : List ChainStep). Makes may_link (node (chain_gives steps) (chain_made steps) os) wanted (Chain first made) a c)
    (steps-same steps made (more alike).ops)
    (node-made may_link (chain_gives steps) (chain_made steps) os wanted (first ∷ es) a c
    (more-more may_link alike (operand here (first_need steps) part ∷ []) (map (step_operand here) steps) [] (first ∷ []) (first ∷ es) a b c head rest))

-- ---- arms

pub no-arms-made : (may_link : Bool) (alike : Kind) (here : Surroundings) (w : Within) → MakesArms may_link alike here [] [] w w
no-arms-made may_link alike here w = record { parts = none-more may_link alike [] w; paired = refl }

pub next-arm-made : (may_link : Bool) (alike : Kind) (here : Surroundings) (arms : List ArmPart) (arm : ArmPart) (made : List Arm) (condition value : Expr) (a b c d : Within)
    → MakesArms may_link alike here arms made a b
    → Makes may_link (means_at arm.condition here) kind.Boolean condition b c → Makes may_link (means_at arm.value here) alike value c d
    → MakesArms may_link alike here (arms ++ arm ∷ []) (made ++ record { condition = condition; value = value } ∷ []) a d
next-arm-made may_link alike here arms arm made condition value a b c d before first second =
    let es = flat_map arm_exprs made in
    let one = operand-one may_link alike (OfKind kind.Boolean) arm.condition here es condition b c first in
    let two = operand-one may_link alike Alike arm.value here (es ++ condition ∷ []) value c d second in
    let pair = two-more may_link alike (operand here (OfKind kind.Boolean) arm.condition) (operand here Alike arm.value) es (es ++ condition ∷ []) ((es ++ condition ∷ []) ++ value ∷ []) b c d one two in
    let all = more-more may_link alike (flat_map (arm_operands here) arms) (arm_operands here arm) [] es ((es ++ condition ∷ []) ++ value ∷ []) a b d before.parts pair in
    let exprs : (es ++ condition ∷ []) ++ value ∷ [] ≡ flat_map arm_exprs (made ++ record { condition = condition; value = value } ∷ []) =
    append_assoc es (condition ∷ []) (value ∷ []) ∙ sym (flat_map-append arm_exprs made (record { condition = condition; value = value } ∷ [])) in
    let operands : flat_map (arm_operands here) arms ++ arm_operands here arm ≡ flat_map (arm_operands here) (arms ++ arm ∷ []) =
    sym (flat_map-append (arm_operands here) arms (arm ∷ [])) in
    record {
      parts = subst (λ (os : List Operand). MakesMore may_link alike os [] (flat_map arm_exprs (made ++ record { condition = condition; value = value } ∷ [])) a d) operands
          (subst (λ (es : List Expr). MakesMore may_link alike (flat_map (arm_operands here) arms ++ arm_operands here arm) [] es a d) exprs all);
      paired = length-append made (record { condition = condition; value = value } ∷ []) ∙ ap (λ (n : ℕ). n + 1) before.paired ∙ sym (length-append arms (arm ∷ []));
    }

arms-same : (arms : List ArmPart) (made : List Arm) (rest : List Expr) → length made ≡ length arms → arms_made arms (flat_map arm_exprs made ++ rest) ≡ made
arms-same [] [] rest same = refl
arms-same [] (m ∷ made) rest same = absurd (cc)
arms-same (a ∷ arms) [] rest same = absurd (cc)
arms-same (a ∷ arms) (m ∷ made) rest same =
    let fewer : length made ≡ length arms = omega arith in
    ap (λ (made : List Arm). m ∷ made) (arms-same arms made rest fewer)

rest-same : (arms : List ArmPart) (made : List Arm) (rest : List Expr) → length made ≡ length arms → rest_made arms (flat_map arm_exprs made ++ rest) ≡ rest
rest-same [] [] rest same = refl
rest-same [] (m ∷ made) rest same = absurd (cc)
rest-same (a ∷ arms) [] rest same = absurd (cc)
rest-same (a ∷ arms) (m ∷ made) rest same = let fewer : length made ≡ length arms = omega arith in rest-same arms made rest fewer

pub whole-case : (may_link : Bool) (alike : Kind) (here : Surroundings) (arms : List ArmPart) (last : Operand) (wanted : Kind) (made : List Arm) (otherwise : Expr) (a b c : Within)
    → alike ≡ settled (united (flat_map (arm_operands here) arms ++ last ∷ [])) wanted
    → MakesArms may_link alike here arms made a b → Makes may_link last.meant (wanted_of alike last.need) otherwise b c
    → Makes may_link (node Common (case_made arms) (flat_map (arm_operands here) arms ++ last ∷ [])) wanted (Case made otherwise) a c
whole-case may_link alike here arms last wanted made otherwise a b c is before this =
    let es = flat_map arm_exprs made in
    let os = flat_map (arm_operands here) arms ++ last ∷ [] in
    let all = more-more may_link alike (flat_map (arm_operands here) arms) (last ∷ []) [] es (es ++ otherwise ∷ []) a b c before.parts (one-more may_link alike last es otherwise b c this) in
    let assembled : case_made arms (es ++ otherwise ∷ []) ≡ Case made otherwise =
    ap (λ (made : List Arm). Case made (first_of (rest_made arms (es ++ otherwise ∷ [])))) (arms-same arms made (otherwise ∷ []) before.paired)
    ∙ ap (λ (rest : List Expr). Case made (first_of rest)) (rest-same arms made (otherwise ∷ []) before.paired) in
    subst (λ (e : Expr). Makes may_link (node Common (case_made arms) os) wanted e a c) assembled
    (node-made may_link Common (case_made arms) os wanted (es ++ otherwise ∷ []) a c
    (subst (λ (k : Kind). MakesMore may_link k os [] (es ++ otherwise ∷ []) a c) is all))
