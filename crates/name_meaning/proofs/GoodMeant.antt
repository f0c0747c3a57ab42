-- What an expression makes of its operands is well formed where they are.
use Rattle.std.specs.Prelude.{◌≡◌, ⊤, ℕ, false, List, [], ◌∷◌, ◌++◌, Option, Some, None}
use Rattle.std.proofs.Common.{refl, subst}
use Rattle.std.specs.List.{AllByRecursion as Every}
use Rattle.perm_values.specs.declared.kind.Kind.{Kind}
use Rattle.perm_values.proofs.Lists.{front-none, back-none}
use Rattle.bag_algebra.specs.WellFormed.{HasKind}
use Rattle.bag_algebra.specs.declared.expr.Expr.{Expr}
use Rattle.name_meaning.specs.Meanings.{Surroundings, Before, Built, Meant, Part, seen_kind, settled}
use Rattle.name_meaning.specs.Operands.{Operand, node, made_parts, BuiltParts, behind, wanted_of, alike_wanted, united, given_kind, parts_breaks, unfit_break, first_unfit}
use Rattle.name_meaning.specs.declared.need.Gives.{Gives}
use Rattle.name_meaning.specs.declared.need.Gives.TheVariants.{Always as always, Common as common}
use Rattle.name_meaning.specs.laws.Formed.{IsFormed, IsFormedExpr}
use Rattle.name_meaning.proofs.FormedParts.{formed-none, formed-map, formed-both}
use Rattle.name_meaning.proofs.Needs.{Fits, fits-operands, taken, taken_kinds, taken-settled}
use Rattle.name_meaning.proofs.Every.{whole-kind}

-- an expression that breaks nothing is made to one that is well formed and has its kind, at any wanted kind and behind whatever
-- stands before it
abbrev pub GoodMeant : Surroundings → Meant → Type 0
GoodMeant here m = m.breaks ≡ [] → (wanted : Kind) (before : Before) → IsFormedExpr here before (m.make wanted before) (settled m.kind wanted)

-- no aggregate is made of it
abbrev pub IsPlain : Meant → Type 0
IsPlain m = (wanted : Kind) (before : Before) → (m.make wanted before).aggregates ≡ []

pub record GoodPart (part : Part) : Type 0 where
  pub formed : (here : Surroundings) → GoodMeant here (part.means here)
  pub plain : part.aggregating ≡ false → (here : Surroundings) → IsPlain (part.means here)

abbrev pub GoodOperand : Surroundings → Operand → Type 0
GoodOperand here o = GoodMeant here o.meant

-- ---- expressions of these kinds

abbrev pub HaveKinds : List (List Kind) → List Kind → List Expr → List Kind → Type 0
HaveKinds rows subs [] [] = ⊤
HaveKinds rows subs [] (k ∷ ks) = ⊥
HaveKinds rows subs (e ∷ es) [] = ⊥
HaveKinds rows subs (e ∷ es) (k ∷ ks) = HasKind rows subs e k × HaveKinds rows subs es ks

formed-parts : (here : Surroundings) (kind : Kind) (os : List Operand) (n : Before) → Every (GoodOperand here) os → parts_breaks os ≡ []
    → Every (Fits kind) os → IsFormed here n (made_parts kind os n).subs (made_parts kind os n).aggregates
    (λ (rows : List (List Kind)) (subs : List Kind). HaveKinds rows subs (made_parts kind os n).exprs (taken_kinds kind os))
formed-parts here kind [] n good whole fits = formed-none here n _ (λ rows subs hold. tt)
formed-parts here kind (o ∷ os) n good whole fits =
    let first : Built = o.meant.make (wanted_of kind o.need) n in
    let rest : BuiltParts = made_parts kind os (behind n first.subs first.aggregates) in
    let own = front-none o.meant.breaks (parts_breaks os) whole in
    let is : settled o.meant.kind (wanted_of kind o.need) ≡ taken kind o.need o.meant.kind =
    taken-settled kind o.need o.meant.kind (seen_kind o.meant) (whole-kind o.meant own) fits.0 in
    formed-map here n (first.subs ++ rest.subs) (first.aggregates ++ rest.aggregates) _ _
    (λ rows subs h. (subst (HasKind rows subs first.expr) is h.0, h.1))
    (formed-both here n first.subs rest.subs first.aggregates rest.aggregates
    (λ (rows : List (List Kind)) (subs : List Kind). HasKind rows subs first.expr (settled o.meant.kind (wanted_of kind o.need)))
    (λ (rows : List (List Kind)) (subs : List Kind). HaveKinds rows subs rest.exprs (taken_kinds kind os))
    (good.0 own (wanted_of kind o.need) n)
    (formed-parts here kind os (behind n first.subs first.aggregates) good.1 (back-none o.meant.breaks (parts_breaks os) whole) fits.1))

unfit-none : (o : Option ℕ) → unfit_break o ≡ [] → o ≡ None
unfit-none None e = refl
unfit-none (Some at) e = cc e

-- ---- nodes

abbrev pub given : Gives → Kind → Kind
given (always kind) alike_kind = kind
given common alike_kind = alike_kind

given-settled : (gives : Gives) (os : List Operand) (wanted : Kind)
    → given gives (settled (united os) (alike_wanted gives wanted)) ≡ settled (given_kind gives os) wanted
given-settled (always kind) os wanted = refl
given-settled common os wanted = refl

pub good-node : (here : Surroundings) (gives : Gives) (assembled : List Expr → Expr) (os : List Operand) → Every (GoodOperand here) os
    → ((kind : Kind) (rows : List (List Kind)) (subs : List Kind) (es : List Expr) → HaveKinds rows subs es (taken_kinds kind os)
    → HasKind rows subs (assembled es) (given gives kind))
    → GoodMeant here (node gives assembled os)
good-node here gives assembled os good made whole wanted n =
    let none = unfit-none (first_unfit None os) (back-none (parts_breaks os) (unfit_break (first_unfit None os)) whole) in
    let kind : Kind = settled (united os) (alike_wanted gives wanted) in
    let parts : BuiltParts = made_parts kind os n in
    formed-map here n parts.subs parts.aggregates _ _
    (λ rows subs h. subst (HasKind rows subs (assembled parts.exprs)) (given-settled gives os wanted) (made kind rows subs parts.exprs h))
    (formed-parts here kind os n good (front-none (parts_breaks os) (unfit_break (first_unfit None os)) whole)
    (fits-operands None os (alike_wanted gives wanted) none))

-- ---- operands without aggregates

abbrev pub PlainOperand : Operand → Type 0
PlainOperand o = IsPlain o.meant

plain-parts : (kind : Kind) (os : List Operand) (n : Before) → Every PlainOperand os → (made_parts kind os n).aggregates ≡ []
plain-parts kind [] n h = refl
plain-parts kind (o ∷ os) n h =
    let first : Built = o.meant.make (wanted_of kind o.need) n in
    λ i. h.0 (wanted_of kind o.need) n i ++ plain-parts kind os (behind n first.subs first.aggregates) h.1 i

pub plain-node : (gives : Gives) (assembled : List Expr → Expr) (os : List Operand) → Every PlainOperand os → IsPlain (node gives assembled os)
plain-node gives assembled os h wanted n = plain-parts (settled (united os) (alike_wanted gives wanted)) os n h
