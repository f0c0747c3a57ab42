-- Outcomes, one after another.
use Rattle.std.proofs.Common.{◌≡◌, Bool, true, false, cond, List, inl, inr, refl, ◌∙◌}
use Rattle.sql_lexer.specs.declared.token.Token.{Token}
use Rattle.sql_tree.specs.grammar.Building.{one_of}
use Rattle.sql_tree.specs.grammar.Descent.{Parsed, Taken, Stopped, and_then, mapped}

pub fused : {X Y Z : Type 0} (f : Y → Z) (g : X → Y) (o : Parsed Token X) → mapped f (mapped g o) ≡ mapped (λ x. f (g x)) o
fused f g (Taken x rest) = refl
fused f g (Stopped rest) = refl

pub pushed : {X Y Z : Type 0} (f : Y → Z) (o : Parsed Token X) (next : X → List Token → Parsed Token Y)
    → mapped f (and_then o next) ≡ and_then o (λ x rest. mapped f (next x rest))
pushed f (Taken x rest) next = refl
pushed f (Stopped rest) next = refl

pub pulled : {X Y Z : Type 0} (g : X → Y) (o : Parsed Token X) (next : Y → List Token → Parsed Token Z)
    → and_then (mapped g o) next ≡ and_then o (λ x rest. next (g x) rest)
pulled g (Taken x rest) next = refl
pulled g (Stopped rest) next = refl

pub nested : {X Y Z : Type 0} (o : Parsed Token X) (next : X → List Token → Parsed Token Y) (last : Y → List Token → Parsed Token Z)
    → and_then (and_then o next) last ≡ and_then o (λ x rest. and_then (next x rest) last)
nested (Taken x rest) next last = refl
nested (Stopped rest) next last = refl

pub itself : {X : Type 0} (o : Parsed Token X) → mapped (λ x. x) o ≡ o
itself (Taken x rest) = refl
itself (Stopped rest) = refl

-- the first of two alternatives, or what the other makes
pub chosen : {X Y : Type 0} (b : Bool) (f : Y → X) (o q : Parsed Token X) (p : Parsed Token Y) → mapped f p ≡ q
    → mapped (one_of f) (cond b (mapped inl o) (mapped inr p)) ≡ cond b o q
chosen true f o q p e = fused (one_of f) inl o ∙ itself o
chosen false f o q p e = fused (one_of f) inr p ∙ e
