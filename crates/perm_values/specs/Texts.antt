-- The two places where a text lies. No public clause cites this module.
use Rattle.std.specs.Prelude.{ℕ, List}
use Rattle.std.specs.String.{string_bytes}
use Rattle.perm_values.specs.declared.text.Text.{Text}
use Rattle.perm_values.specs.declared.text.Text.TheVariants.{Short, Long}

abbrev pub text_bytes : Text → List ℕ
text_bytes (Short short) = short
text_bytes (Long long) = string_bytes long.value
