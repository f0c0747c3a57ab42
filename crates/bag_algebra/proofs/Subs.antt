-- A list of sublinks that code finds empty has none.
use Rattle.std.proofs.Common.{◌≡◌, Bool, true, false, List, [], ◌∷◌, refl}
use Rattle.std.specs.Prelude.{◌↔◌, IsTrue}
use Rattle.bag_algebra.specs.built.Scopes.{without_subs}
use Rattle.bag_algebra.specs.declared.query.Sublink.{Sublink}

pub found_none : (found : Bool) (subs : List Sublink) → (IsTrue found ↔ (subs ≡ [])) → found ≡ without_subs subs
found_none true [] h = refl
found_none false [] h = absurd (cc (h.1 refl))
found_none true (sub ∷ subs) h = absurd (cc (h.0 refl))
found_none false (sub ∷ subs) h = refl
