-- What holds of each of a list, and lists that are empty in all their parts.
use Rattle.std.specs.Prelude.{◌≡◌, true, cond, None, List, [], ◌∷◌, map, Bool, false, ℕ, not}
use Rattle.std.proofs.Common.{refl, ap, sym, true≢false}
use Rattle.std.specs.List.{flat_map}
use Rattle.contribution.proofs.WhereGood.{Every, every-append}
use Rattle.name_meaning.specs.Meanings.{Meant, is_whole, seen_kind, broken_if}
use Rattle.name_meaning.specs.declared.answer.Break.{Break}
use Rattle.name_meaning.specs.declared.rule.Rule.{Rule}

pub every-map : {X Y : Type 0} (P : X → Type 0) (Q : Y → Type 0) (f : X → Y) (keep : (x : X) → P x → Q (f x)) (xs : List X)
    → Every P xs → Every Q (map f xs)
every-map P Q f keep [] h = tt
every-map P Q f keep (x ∷ xs) h = (keep x h.0, every-map P Q f keep xs h.1)

pub every-flat_map : {X Y : Type 0} (P : X → Type 0) (Q : Y → Type 0) (f : X → List Y) (keep : (x : X) → P x → Every Q (f x)) (xs : List X)
    → Every P xs → Every Q (flat_map f xs)
every-flat_map P Q f keep [] h = tt
every-flat_map P Q f keep (x ∷ xs) h = every-append Q (f x) (flat_map f xs) (keep x h.0) (every-flat_map P Q f keep xs h.1)

-- values with a proof beside each
pub every-proved : {X Y : Type 0} (P : Y → Type 0) (f : X → Y) (xs : List ((x : X) × P (f x))) → Every P (map f (map (λ e. e.0) xs))
every-proved P f [] = tt
every-proved P f (e ∷ xs) = (e.1, every-proved P f xs)

-- ---- what breaks nothing

pub whole-none : (breaks : List Break) → is_whole breaks ≡ true → breaks ≡ []
whole-none [] e = refl
whole-none (b ∷ bs) e = absurd (true≢false (sym e))

pub none-whole : (breaks : List Break) → breaks ≡ [] → is_whole breaks ≡ true
none-whole breaks e = ap is_whole e

pub whole-kind : (m : Meant) → m.breaks ≡ [] → seen_kind m ≡ m.kind
whole-kind m e = ap (λ (breaks : List Break). cond (is_whole breaks) m.kind None) e

pub unbroken : (b : Bool) (which : Rule) (at : ℕ) → broken_if (not b) which at ≡ [] → b ≡ true
unbroken true which at e = refl
unbroken false which at e = cc e

pub unbroken-not : (b : Bool) (which : Rule) (at : ℕ) → broken_if b which at ≡ [] → b ≡ false
unbroken-not true which at e = cc e
unbroken-not false which at e = refl
