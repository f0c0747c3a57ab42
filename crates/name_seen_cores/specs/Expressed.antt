-- What the code answers of an expression: its kind and the facts of its sublinks, or its first break.
use Rattle.std.specs.Prelude.{◌≡◌, ℕ, List, Option, Result, Ok, Err}
use Rattle.perm_values.specs.declared.kind.Kind.{Kind}
use Rattle.name_meaning.specs.Meanings.{Before, Meant}
use Rattle.name_meaning.specs.Operands.{Operand, made_parts}
use Rattle.name_meaning.specs.declared.answer.Break.{Break}
use Rattle.name_meaning.specs.declared.need.Gives.{Gives}
use Rattle.name_meaning.specs.declared.need.Need.{Need}
use Rattle.name_meaning.specs.laws.Facts.{both_facts, sub_facts}
use Rattle.name_seen_parts.specs.Seen.{seen, with_operand, operands_seen, whole_of}
use Rattle.name_seen_parts.specs.declared.operands.Operands.{Operands}
use Rattle.name_seen_parts.specs.declared.refusal.Refusal.{Refusal}
use Rattle.name_seen_parts.specs.declared.refusal.Refusal.TheVariants.{Break as Broken, NoMemory}
use Rattle.name_seen_cores.specs.from.Added.{facts_in}
use Rattle.name_seen_cores.specs.declared.from.facts.Facts.{Facts as Gathered}

-- ---- an expression

-- behind the facts so far stand those of its sublinks, of whatever kind it is made and whatever stands before it
pub record KindSeen (m : Meant) (old new : Gathered) (kind : Option Kind) : Type 0 where
  pub found : seen m ≡ Ok kind
  pub adds : (wanted : Kind) (before : Before) → facts_in new ≡ both_facts (facts_in old) (sub_facts (m.make wanted before).subs)

abbrev pub ExpressionSeen : Meant → Gathered → Gathered → Result (Option Kind) Refusal → Type 0
ExpressionSeen m old new (Ok kind) = KindSeen m old new kind
ExpressionSeen m old new (Err (Broken first)) = seen m ≡ Err first
ExpressionSeen m old new (Err NoMemory) = Unit {0}

-- ---- operands from the left

pub record OperandsWhole (os : List Operand) (so_far : Operands) (old new : Gathered) (all : Operands) : Type 0 where
  pub found : operands_seen so_far os ≡ Ok all
  pub adds : (alike : Kind) (before : Before) → facts_in new ≡ both_facts (facts_in old) (sub_facts (made_parts alike os before).subs)

abbrev pub OperandsSeen : List Operand → Operands → Gathered → Gathered → Result Operands Refusal → Type 0
OperandsSeen os so_far old new (Ok all) = OperandsWhole os so_far old new all
OperandsSeen os so_far old new (Err (Broken first)) = operands_seen so_far os ≡ Err first
OperandsSeen os so_far old new (Err NoMemory) = Unit {0}

-- operands behind others, where these were answered
abbrev pub OperandsBehind : List Operand → Result Operands Refusal → Gathered → Gathered → Result Operands Refusal → Type 0
OperandsBehind os (Ok so_far) old new result = OperandsSeen os so_far old new result
OperandsBehind os (Err refusal) old new result = result ≡ Err refusal

abbrev pub answered : {X : Type 0} → Result X Break → Result X Refusal
answered (Ok x) = Ok x
answered (Err first) = Err (Broken first)

-- the kind of a node over operands that were answered
abbrev pub kind_over : Gives → Result Operands Refusal → Result (Option Kind) Refusal
kind_over gives (Ok operands) = answered (whole_of gives operands)
kind_over gives (Err refusal) = Err refusal

-- one more operand of what was answered
abbrev pub operands_with : Operands → Need → ℕ → Result (Option Kind) Refusal → Result Operands Refusal
operands_with so_far need at (Ok kind) = Ok (with_operand need at kind so_far)
operands_with so_far need at (Err refusal) = Err refusal
