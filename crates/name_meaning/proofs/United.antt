-- What operands are united to, one after the other.
use Rattle.std.specs.Prelude.{◌≡◌, List, [], ◌∷◌, ◌++◌, Option, Some, None}
use Rattle.std.proofs.Common.{refl, ap, sym, ◌∙◌}
use Rattle.perm_values.specs.declared.kind.Kind.{Kind}
use Rattle.name_meaning.specs.Expressions.{ArmPart, arm_operands, else_operand}
use Rattle.name_meaning.specs.Meanings.{Surroundings, Part, means_at, seen_kind, united_kind}
use Rattle.name_meaning.specs.Operands.{Operand, united, united_from, seen_of, operand}
use Rattle.name_meaning.specs.declared.need.Need.{Need}
use Rattle.name_meaning.specs.declared.need.Need.TheVariants.{OfKind, Alike, Free}
use Rattle.name_meaning.proofs.Uniting.{united-assoc}

-- any is none on the right
pub united-none : (kind : Option Kind) → united_kind kind None ≡ kind
united-none None = refl
united-none (Some kind) = refl

first-united : (need : Need) (found : Option Kind) (rest : Option Kind) → united_from need found rest ≡ united_kind (united_from need found None) rest
first-united (OfKind kind) found rest = refl
first-united Alike found rest = ap (λ (kind : Option Kind). united_kind kind rest) (sym (united-none found))
first-united Free found rest = refl

pub united-append : (os more : List Operand) → united (os ++ more) ≡ united_kind (united os) (united more)
united-append [] more = refl
united-append (o ∷ os) more =
    first-united o.need (seen_of o) (united (os ++ more))
    ∙ ap (united_kind (united_from o.need (seen_of o) None)) (united-append os more)
    ∙ sym (united-assoc (united_from o.need (seen_of o) None) (united os) (united more))
    ∙ ap (λ (kind : Option Kind). united_kind kind (united more)) (sym (first-united o.need (seen_of o) (united os)))

-- ---- single operands

pub one-alike : (here : Surroundings) (part : Part) → united (operand here Alike part ∷ []) ≡ seen_kind (means_at part here)
unfolding means_at
one-alike here part = united-none (seen_kind (part.means here))

pub next-alike : (so_far : Option Kind) (os : List Operand) (o : Operand) (before after : Option Kind)
    → before ≡ united_kind so_far (united os) → after ≡ united_kind before (united (o ∷ [])) → after ≡ united_kind so_far (united (os ++ o ∷ []))
next-alike so_far os o before after first this =
    this ∙ ap (λ (kind : Option Kind). united_kind kind (united (o ∷ []))) first ∙ united-assoc so_far (united os) (united (o ∷ []))
    ∙ ap (united_kind so_far) (sym (united-append os (o ∷ [])))

-- of an arm the value alone is to be alike
pub arm-alike : (here : Surroundings) (arm : ArmPart) → united (arm_operands here arm) ≡ united (operand here Alike arm.value ∷ [])
arm-alike here arm = refl

pub no-else : (here : Surroundings) (os : List Operand) → united (os ++ else_operand here None ∷ []) ≡ united os
no-else here os = united-append os (else_operand here None ∷ []) ∙ united-none (united os)
