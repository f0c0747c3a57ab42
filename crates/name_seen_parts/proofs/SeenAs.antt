-- What is known of a part whose kind was found.
use Rattle.std.specs.Prelude.{◌≡◌, List, [], ◌∷◌, Option, Ok}
use Rattle.std.proofs.Common.{refl, ap, ◌∙◌}
use Rattle.perm_values.specs.declared.kind.Kind.{Kind}
use Rattle.name_meaning.specs.Meanings.{Meant}
use Rattle.name_meaning.specs.declared.answer.Break.{Break}
use Rattle.name_seen_parts.specs.Seen.{first_or, seen, IsSeenAs}

by-breaks : (m : Meant) (kind : Option Kind) (breaks : List Break) → m.breaks ≡ breaks → first_or breaks m.kind ≡ Ok kind → IsSeenAs kind m
by-breaks m kind [] none found =
    let same : m.kind ≡ kind = cc in
    ap (λ (breaks : List Break). record m { breaks = breaks }) none ∙ ap (λ (k : Option Kind). record m { breaks = []; kind = k }) same
by-breaks m kind (first ∷ more) some found = absurd (cc)

-- a part whose kind was found breaks nothing and has that kind
pub seen-as : (m : Meant) (kind : Option Kind) → seen m ≡ Ok kind → IsSeenAs kind m
seen-as m kind found = by-breaks m kind m.breaks refl found
