-- The facts of an expression's sublinks, whatever is wanted of it and whatever stands before it.
use Rattle.std.specs.Prelude.{◌≡◌, ℕ, Bool, true, false, cond, List, [], ◌∷◌, ◌++◌, map, flat_map, Option, Some, None}
use Rattle.std.proofs.Common.{refl, ap, sym, ◌∙◌, subst}
use Rattle.null_logic.specs.declared.operator.Operator.{Operator}
use Rattle.perm_values.specs.declared.kind.Kind.{Kind}
use Rattle.bag_algebra.specs.declared.expr.Expr.{Expr}
use Rattle.bag_algebra.specs.declared.query.SubKind.{SubKind}
use Rattle.bag_algebra.specs.declared.query.SubKind.TheVariants.{Exists, Scalar}
use Rattle.bag_algebra.specs.declared.query.Sublink.{Sublink}
use Rattle.sql_tree.specs.declared.expression.AggWord.{AggWord}
use Rattle.contribution.proofs.WhereGood.{Every, every-append}
use Rattle.name_meaning.specs.Meanings.{Surroundings, Before, Built, Meant, Part, QueryMeant, QueryPart, settled}
use Rattle.name_meaning.specs.Operands.{Operand, operand, node, need_of, gives_of, operated, made_parts, behind, wanted_of, alike_wanted, united}
use Rattle.name_meaning.specs.Expressions.{known, null_meant, StepPart, ArmPart, step_operand, arm_operands, else_operand, case_made, case_meant}
use Rattle.name_meaning.specs.Sublinks.{column_meant, breaking, aggregate_meant, around_of, exists_meant, scalar_meant, first_kind, in_tested, tested_kind, tested_meant, tested_looked, tested_unlooked, if_standing}
use Rattle.name_meaning.specs.declared.need.Gives.{Gives}
use Rattle.name_meaning.specs.declared.need.Gives.TheVariants.{Common as common}
use Rattle.name_meaning.specs.declared.need.Need.{Need}
use Rattle.name_meaning.specs.declared.scope.Found.{Found}
use Rattle.name_meaning.specs.declared.scope.Found.TheVariants.{Absent as absent, Ambiguous as ambiguous, Column as found}
use Rattle.name_meaning.specs.laws.Facts.{Facts, facts_of, no_facts, both_facts, sub_facts}
use Rattle.name_meaning.proofs.Every.{every-map, every-flat_map}
use Rattle.name_meaning.proofs.FactsOf.{sub_facts-append}
use Rattle.name_meaning.proofs.NamedPlaces.{IsNamed, AreNamed}
use Rattle.name_meaning.proofs.Kept.{GoodQuery}
use Rattle.name_meaning.specs.declared.rule.Rule.TheVariants as rule
use Rattle.name_meaning.specs.declared.rule.Rule.{Rule}

-- `Sound`: what the names of places rest on
module _ (Sound : Type 0) where
  pub record GoodMeant (m : Meant) : Type 0 where
    pub steady : (w v : Kind) (n k : Before) → sub_facts (m.make w n).subs ≡ sub_facts (m.make v k).subs
    pub named : Sound → (w : Kind) (n : Before) → AreNamed (sub_facts (m.make w n).subs).places

  abbrev pub GoodPart : Part → Type 0
  GoodPart part = (here : Surroundings) → GoodMeant (part.means here)

  abbrev pub GoodOperand : Operand → Type 0
  GoodOperand o = GoodMeant o.meant

  -- ---- what has no sublinks

  pub good-known : (kind : Kind) (e : Expr) → GoodMeant (known kind e)
  good-known kind e = record { steady = λ w v n k. refl; named = λ sound w n. tt }

  pub good-null : GoodMeant null_meant
  good-null = record { steady = λ w v n k. refl; named = λ sound w n. tt }

  pub good-breaking : (which : Rule) (at : ℕ) (kind : Option Kind) → GoodMeant (breaking which at kind)
  good-breaking which at kind = record { steady = λ w v n k. refl; named = λ sound w n. tt }

  pub good-column : (here : Surroundings) (at : ℕ) (is : Found) → GoodMeant (column_meant here at is)
  good-column here at absent = good-breaking rule.UnknownColumn at None
  good-column here at ambiguous = good-breaking rule.AmbiguousColumn at None
  good-column here at (found column) = record { steady = λ w v n k. refl; named = λ sound w n. tt }

  pub good-aggregate : (here : Surroundings) (at : ℕ) (word : AggWord) (argument : Option Part) → GoodMeant (aggregate_meant here at word argument)
  good-aggregate here at word None = record { steady = λ w v n k. refl; named = λ sound w n. tt }
  good-aggregate here at word (Some argument) = record { steady = λ w v n k. refl; named = λ sound w n. tt }

  -- ---- operands

  steady-parts : (a b : Kind) (os : List Operand) (n k : Before) → Every GoodOperand os
      → sub_facts (made_parts a os n).subs ≡ sub_facts (made_parts b os k).subs
  steady-parts a b [] n k h = refl
  steady-parts a b (o ∷ os) n k h =
      let first : Built = o.meant.make (wanted_of a o.need) n in
      let other : Built = o.meant.make (wanted_of b o.need) k in
      let after = behind n first.subs first.aggregates in
      let after_other = behind k other.subs other.aggregates in
      sub_facts-append first.subs (made_parts a os after).subs
      ∙ (λ i. both_facts (h.0.steady (wanted_of a o.need) (wanted_of b o.need) n k i) (steady-parts a b os after after_other h.1 i))
      ∙ sym (sub_facts-append other.subs (made_parts b os after_other).subs)

  pub named-both : (xs ys : List Sublink) → AreNamed (sub_facts xs).places → AreNamed (sub_facts ys).places → AreNamed (sub_facts (xs ++ ys)).places
  named-both xs ys f g = subst (λ (facts : Facts). AreNamed facts.places) (sym (sub_facts-append xs ys))
      (every-append IsNamed (sub_facts xs).places (sub_facts ys).places f g)

  named-parts : Sound → (a : Kind) (os : List Operand) (n : Before) → Every GoodOperand os → AreNamed (sub_facts (made_parts a os n).subs).places
  named-parts sound a [] n h = tt
  named-parts sound a (o ∷ os) n h =
      let first : Built = o.meant.make (wanted_of a o.need) n in
      let after = behind n first.subs first.aggregates in
      named-both first.subs (made_parts a os after).subs (h.0.named sound (wanted_of a o.need) n) (named-parts sound a os after h.1)

  pub good-node : (gives : Gives) (assembled : List Expr → Expr) (os : List Operand) → Every GoodOperand os → GoodMeant (node gives assembled os)
  good-node gives assembled os h = record {
    steady = λ w v n k. steady-parts (settled (united os) (alike_wanted gives w)) (settled (united os) (alike_wanted gives v)) os n k h;
    named = λ sound w n. named-parts sound (settled (united os) (alike_wanted gives w)) os n h;
  }

  pub good-operands : (here : Surroundings) (need : Need) (parts : List Part) → Every GoodPart parts → Every GoodOperand (map (operand here need) parts)
  good-operands here need parts h = every-map GoodPart GoodOperand (operand here need) (λ part good. good here) parts h

  pub good-operated : (op : Operator) (prefix : Bool) (assembled : List Expr → Expr) (here : Surroundings) (parts : List Part)
      → Every GoodPart parts → GoodMeant (operated op prefix assembled here parts)
  good-operated op prefix assembled here parts h =
      good-node (gives_of op prefix) assembled (map (operand here (need_of op prefix)) parts) (good-operands here (need_of op prefix) parts h)

  abbrev pub GoodStep : StepPart → Type 0
  GoodStep step = GoodPart step.part

  abbrev pub GoodArm : ArmPart → Type 0
  GoodArm arm = GoodPart arm.condition × GoodPart arm.value

  pub good-steps : (here : Surroundings) (steps : List StepPart) → Every GoodStep steps → Every GoodOperand (map (step_operand here) steps)
  good-steps here steps h = every-map GoodStep GoodOperand (step_operand here) (λ step good. good here) steps h

  good-arms : (here : Surroundings) (arms : List ArmPart) → Every GoodArm arms → Every GoodOperand (flat_map (arm_operands here) arms)
  good-arms here arms h = every-flat_map GoodArm GoodOperand (arm_operands here) (λ arm good. (good.0 here, (good.1 here, tt))) arms h

  pub good-case : (here : Surroundings) (arms : List ArmPart) (otherwise : Option Part) → Every GoodArm arms → GoodOperand (else_operand here otherwise)
      → GoodMeant (case_meant here arms otherwise)
  good-case here arms otherwise h o = good-node common (case_made arms) (flat_map (arm_operands here) arms ++ else_operand here otherwise ∷ [])
      (every-append GoodOperand (flat_map (arm_operands here) arms) (else_operand here otherwise ∷ []) (good-arms here arms h) (o, tt))

  -- ---- sublinks

  pub good-if_standing : (here : Surroundings) (at : ℕ) (kind : Option Kind) (m : Meant) → GoodMeant m → GoodMeant (if_standing here at kind m)
  good-if_standing here at kind m good = chosen here.sublinks where
    chosen : (b : Bool) → GoodMeant (cond b m (breaking rule.MisplacedSublink at kind))
    chosen true = good
    chosen false = good-breaking rule.MisplacedSublink at kind

  abbrev one_sub : SubKind → Option Expr → QueryMeant → List Kind → Facts
  one_sub sub tested q wanted = sub_facts (record { kind = sub; tested = tested; query = q.make wanted } ∷ [])

  same-sub : (sub : SubKind) (s t : Option Expr) (q : QueryMeant) (w v : List Kind) → GoodQuery Sound q → one_sub sub s q w ≡ one_sub sub t q v
  same-sub sub s t q w v good = ap (λ (facts : Facts). both_facts facts no_facts) (good.steady w v)

  named-sub : (sub : SubKind) (tested : Option Expr) (q : QueryMeant) (w : List Kind) → GoodQuery Sound q → Sound → AreNamed (one_sub sub tested q w).places
  named-sub sub tested q w good sound = every-append IsNamed (facts_of (q.make w)).places [] (good.named sound w) tt

  pub good-exists : (here : Surroundings) (at : ℕ) (q : QueryMeant) → GoodQuery Sound q → GoodMeant (exists_meant here at q)
  good-exists here at q good = record { steady = λ w v n k. refl; named = λ sound w n. named-sub Exists None q [] good sound }

  pub good-scalar : (here : Surroundings) (at : ℕ) (q : QueryMeant) → GoodQuery Sound q → GoodMeant (scalar_meant here at q)
  good-scalar here at q good = record {
    steady = λ w v n k. same-sub Scalar None None q (settled (first_kind q) w ∷ []) (settled (first_kind q) v ∷ []) good;
    named = λ sound w n. named-sub Scalar None q (settled (first_kind q) w ∷ []) good sound;
  }

  good-tested_looked : (sub : SubKind) (tested : Meant) (at : ℕ) (q : QueryMeant) → GoodQuery Sound q → GoodMeant (tested_looked sub tested at q)
  good-tested_looked sub tested at q good = record {
    steady = λ w v n k.
        same-sub sub (Some (tested.make (tested_kind tested q) n).expr) (Some (tested.make (tested_kind tested q) k).expr) q
        (tested_kind tested q ∷ []) (tested_kind tested q ∷ []) good;
    named = λ sound w n. named-sub sub (Some (tested.make (tested_kind tested q) n).expr) q (tested_kind tested q ∷ []) good sound;
  }

  good-tested_unlooked : (at : ℕ) (tested : Meant) → GoodMeant tested → GoodMeant (tested_unlooked at tested)
  good-tested_unlooked at tested good = record { steady = good.steady; named = good.named }

  pub good-tested : (here : Surroundings) (at : ℕ) (sub : SubKind) (part : Part) (query : QueryPart) → GoodPart part
      → GoodQuery Sound (query.means (around_of here)) → GoodMeant (tested_meant here at sub part query)
  good-tested here at sub part query good inner = chosen here.sublinks where
    chosen : (b : Bool) → GoodMeant (cond b (tested_looked sub (part.means (in_tested here)) query.at (query.means (around_of here)))
        (tested_unlooked at (part.means (in_tested here))))
    chosen true = good-tested_looked sub (part.means (in_tested here)) query.at (query.means (around_of here)) inner
    chosen false = good-tested_unlooked at (part.means (in_tested here)) (good (in_tested here))
