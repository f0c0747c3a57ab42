-- NULL fits each kind.
use Rattle.std.proofs.Common.{◌≡◌, true, refl}
use Rattle.perm_values.specs.Values.{fits}
use Rattle.perm_values.specs.declared.kind.Kind.{Kind}
use Rattle.perm_values.specs.declared.kind.Kind.TheVariants.{Integer, Text, Boolean}
use Rattle.perm_values.specs.declared.value.Value.TheVariants.{Null}

pub null-fits : (kind : Kind) → fits Null kind ≡ true
null-fits Integer = refl
null-fits Text = refl
null-fits Boolean = refl
