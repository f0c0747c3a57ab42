-- Operands that fit what is needed of them take the kinds that are wanted of them.
use Rattle.std.specs.Prelude.{◌≡◌, ⊤, ℕ, Bool, true, false, cond, List, [], ◌∷◌, Option, Some, None}
use Rattle.std.proofs.Common.{refl, ap, sym, ◌∙◌, subst, true≢false}
use Rattle.std.proofs.lemmas.Option.{none-some}
use Rattle.std.specs.List.{AllByRecursion as Every}
use Rattle.perm_values.specs.declared.kind.Kind.{Kind}
use Rattle.perm_values.specs.declared.kind.Kind.TheVariants.{Integer, Text, Boolean}
use Rattle.name_meaning.specs.Meanings.{is_same_kind, unites, united_kind, settled}
use Rattle.name_meaning.specs.Operands.{Operand, seen_of, unfit_from, first_unfit, united_from, united, wanted_of}
use Rattle.name_meaning.specs.declared.need.Need.{Need}
use Rattle.name_meaning.specs.declared.need.Need.TheVariants.{OfKind as of_kind, Alike as alike, Free as free}
use Rattle.name_meaning.proofs.Uniting.{united-assoc}

pub same_kind : (k l : Kind) → is_same_kind k l ≡ true → k ≡ l
same_kind Integer Integer e = refl
same_kind Integer Text e = absurd (true≢false (sym e))
same_kind Integer Boolean e = absurd (true≢false (sym e))
same_kind Text Integer e = absurd (true≢false (sym e))
same_kind Text Text e = refl
same_kind Text Boolean e = absurd (true≢false (sym e))
same_kind Boolean Integer e = absurd (true≢false (sym e))
same_kind Boolean Text e = absurd (true≢false (sym e))
same_kind Boolean Boolean e = refl

-- what unites with a kind takes it
pub settled-of_kind : (k : Kind) (found : Option Kind) → unites (Some k) found ≡ true → settled found k ≡ k
settled-of_kind k None e = refl
settled-of_kind k (Some l) e = sym (same_kind k l e)

settled-alike : (so_far found rest : Option Kind) (wanted : Kind) → unites so_far found ≡ true
    → settled found (settled (united_kind so_far (united_kind found rest)) wanted) ≡ settled (united_kind so_far (united_kind found rest)) wanted
settled-alike None None rest wanted e = refl
settled-alike None (Some k) rest wanted e = refl
settled-alike (Some l) None rest wanted e = refl
settled-alike (Some l) (Some k) rest wanted e = sym (same_kind l k e)

-- an operand of the kind `found` takes what its need wants of it, where those that are to be alike take this kind
abbrev pub takes : Kind → Need → Option Kind → Type 0
takes alike_kind (of_kind k) found = settled found k ≡ k
takes alike_kind alike found = settled found alike_kind ≡ alike_kind
takes alike_kind free found = ⊤

abbrev pub Fits : Kind → Operand → Type 0
Fits alike_kind o = takes alike_kind o.need (seen_of o)

cond-none : (b : Bool) (o : Option ℕ) (at : ℕ) → cond b o (Some at) ≡ None → (b ≡ true) × (o ≡ None)
cond-none true o at e = (refl, e)
cond-none false o at e = absurd (none-some at (sym e))

fits-more : (need : Need) (at : ℕ) (found so_far : Option Kind) (os : List Operand) (wanted : Kind)
    → ((common : Option Kind) → first_unfit common os ≡ None → Every (Fits (settled (united_kind common (united os)) wanted)) os)
    → unfit_from need at found so_far (λ common. first_unfit common os) ≡ None
    → takes (settled (united_kind so_far (united_from need found (united os))) wanted) need found
    × Every (Fits (settled (united_kind so_far (united_from need found (united os))) wanted)) os
fits-more (of_kind k) at found so_far os wanted more e =
    let parts = cond-none (unites (Some k) found) (first_unfit so_far os) at e in
    (settled-of_kind k found parts.0, more so_far parts.1)
fits-more alike at found so_far os wanted more e =
    let parts = cond-none (unites so_far found) (first_unfit (united_kind so_far found) os) at e in (
      settled-alike so_far found (united os) wanted parts.0,
      subst (λ k. Every (Fits (settled k wanted)) os) (united-assoc so_far found (united os)) (more (united_kind so_far found) parts.1),
    )
fits-more free at found so_far os wanted more e = (tt, more so_far e)

pub fits-operands : (so_far : Option Kind) (os : List Operand) (wanted : Kind) → first_unfit so_far os ≡ None
    → Every (Fits (settled (united_kind so_far (united os)) wanted)) os
fits-operands so_far [] wanted e = tt
fits-operands so_far (o ∷ os) wanted e =
    fits-more o.need o.at (seen_of o) so_far os wanted (λ common none. fits-operands common os wanted none) e

-- ---- the kinds that operands are made at

abbrev pub taken : Kind → Need → Option Kind → Kind
taken alike_kind (of_kind k) own = k
taken alike_kind alike own = alike_kind
taken alike_kind free own = settled own Text

abbrev pub taken_kinds : Kind → List Operand → List Kind
taken_kinds alike_kind [] = []
taken_kinds alike_kind (o ∷ os) = taken alike_kind o.need o.meant.kind ∷ taken_kinds alike_kind os

pub taken-settled : (alike_kind : Kind) (need : Need) (own found : Option Kind) → found ≡ own → takes alike_kind need found
    → settled own (wanted_of alike_kind need) ≡ taken alike_kind need own
taken-settled alike_kind (of_kind k) own found e h = ap (λ o. settled o k) (sym e) ∙ h
taken-settled alike_kind alike own found e h = ap (λ o. settled o alike_kind) (sym e) ∙ h
taken-settled alike_kind free own found e h = refl
