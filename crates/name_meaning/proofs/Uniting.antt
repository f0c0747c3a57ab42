-- Kinds that unite.
use Rattle.std.specs.Prelude.{◌≡◌, Option, Some, None}
use Rattle.std.proofs.Common.{refl}
use Rattle.perm_values.specs.declared.kind.Kind.{Kind}
use Rattle.name_meaning.specs.Meanings.{united_kind}

pub united-assoc : (a b c : Option Kind) → united_kind (united_kind a b) c ≡ united_kind a (united_kind b c)
united-assoc None b c = refl
united-assoc (Some k) b c = refl
