-- Lists that are gone through from the left.
use Rattle.std.specs.Prelude.{◌≡◌, ℕ, ◌+◌, ◌<◌, List, [], ◌∷◌, length, map, flat_map}
use Rattle.std.proofs.Common.{ap, sym, subst, ◌∙◌, take, get_or}
use Rattle.perm_values.proofs.Lists.{taken}
use Rattle.name_inside.specs.Held.{Adds, Held}
use Rattle.name_inside.specs.declared.gathered.Gathered.{Gathered}
use Rattle.name_inside.proofs.Over.{adds-both}
use Rattle.name_seen_cores.proofs.Forms.{mapped-behind, flat-behind}

pub mapped-more : {X Y : Type 0} (g : Y → Held) (p : X → Y) (xs : List X) (i : ℕ) (x : X) {old middle new : Gathered} → i < length xs → x ≡ get_or xs i x
    → Adds (map g (map p (take i xs))) old middle → Adds (g (p x) ∷ []) middle new → Adds (map g (map p (take (i + 1) xs))) old new
mapped-more g p xs i x {old = old} {new = new} within e so_far one =
    subst (λ (hs : List Held). Adds hs old new) (sym (ap (λ (ys : List _). map g (map p ys)) (taken xs i x within e) ∙ mapped-behind g p (take i xs) x)) (adds-both so_far one)

pub flat-more : {X Y : Type 0} (g : Y → List Held) (p : X → Y) (xs : List X) (i : ℕ) (x : X) {old middle new : Gathered} → i < length xs → x ≡ get_or xs i x
    → Adds (flat_map g (map p (take i xs))) old middle → Adds (g (p x)) middle new → Adds (flat_map g (map p (take (i + 1) xs))) old new
flat-more g p xs i x {old = old} {new = new} within e so_far one =
    subst (λ (hs : List Held). Adds hs old new) (sym (ap (λ (ys : List _). flat_map g (map p ys)) (taken xs i x within e) ∙ flat-behind g p (take i xs) x)) (adds-both so_far one)
