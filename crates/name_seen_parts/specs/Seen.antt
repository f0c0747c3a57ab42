-- What the code finds of a part that may break: its first break, or its kind where there is none.
use Rattle.std.specs.Prelude.{◌≡◌, ℕ, Bool, cond, ◌||◌, is_some, List, [], ◌∷◌, Option, Some, None, Result, Ok, Err}
use Rattle.perm_values.specs.declared.kind.Kind.{Kind}
use Rattle.name_meaning.specs.Meanings.{Meant, broken, unites, united_kind}
use Rattle.name_meaning.specs.Operands.{Operand}
use Rattle.name_meaning.specs.declared.answer.Break.{Break}
use Rattle.name_meaning.specs.declared.need.Gives.{Gives}
use Rattle.name_meaning.specs.declared.need.Gives.TheVariants.{Always, Common}
use Rattle.name_meaning.specs.declared.need.Need.{Need}
use Rattle.name_meaning.specs.declared.need.Need.TheVariants.{OfKind, Alike, Free}
use Rattle.name_seen_parts.specs.declared.operands.Operands.{Operands}
use Rattle.name_seen_parts.specs.declared.refusal.Refusal.{Refusal}
use Rattle.name_seen_parts.specs.declared.refusal.Refusal.TheVariants.{Break as Broken, NoMemory}
use Rattle.name_meaning.specs.declared.rule.Rule.TheVariants as rule

abbrev pub first_or : {X : Type 0} → List Break → X → Result X Break
first_or [] value = Ok value
first_or (first ∷ more) value = Err first

-- a call's result where something has these breaks: a value that is this, where there are none, or the first of them; want
-- of memory says nothing
abbrev pub FirstOr : {X : Type 0} → List Break → (X → Type 0) → Result X Refusal → Type 0
FirstOr breaks is (Ok x) = is x
FirstOr breaks is (Err (Broken first)) = first_or breaks (tt {0}) ≡ Err first
FirstOr breaks is (Err NoMemory) = Unit {0}

abbrev pub seen : Meant → Result (Option Kind) Break
seen m = first_or m.breaks m.kind

-- it breaks nothing and is of this kind
abbrev pub IsSeenAs : Option Kind → Meant → Type 0
IsSeenAs kind m = m ≡ record m { breaks = []; kind = kind }

-- ---- operands

abbrev pub no_operand : Operands
no_operand = record { common = None; unfit = None }

-- the first that doesn't fit stays the first
abbrev pub fitted : Bool → ℕ → Operands → Operands
fitted fits at so_far = cond (fits || is_some so_far.unfit) so_far (record so_far { unfit = Some at })

abbrev pub with_operand : Need → ℕ → Option Kind → Operands → Operands
with_operand (OfKind kind) at seen so_far = fitted (unites (Some kind) seen) at so_far
with_operand Alike at seen so_far =
    record { common = united_kind so_far.common seen; unfit = (fitted (unites so_far.common seen) at so_far).unfit }
with_operand Free at seen so_far = so_far

abbrev pub kind_given : Gives → Option Kind → Option Kind
kind_given (Always kind) common = Some kind
kind_given Common common = common

abbrev pub unfit_or : {X : Type 0} → Option ℕ → X → Result X Break
unfit_or None value = Ok value
unfit_or (Some at) value = Err (broken rule.UnfitKind at)

abbrev pub whole_of : Gives → Operands → Result (Option Kind) Break
whole_of gives operands = unfit_or operands.unfit (kind_given gives operands.common)

abbrev pub after : {X Y : Type 0} → Result X Break → (X → Result Y Break) → Result Y Break
after (Ok x) next = next x
after (Err first) next = Err first

-- operands seen from the left
abbrev pub operands_seen : Operands → List Operand → Result Operands Break
operands_seen so_far [] = Ok so_far
operands_seen so_far (o ∷ os) = after (seen o.meant) (λ kind. operands_seen (with_operand o.need o.at kind so_far) os)
