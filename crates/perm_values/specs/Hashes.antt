-- What a value feeds a hasher.
use Rattle.std.specs.Prelude.{◌++◌}
use Rattle.std.specs.Hash as fed
use Rattle.std.specs.Hash.{HashWrites}
use Rattle.perm_values.specs.declared.value.Value.{Value}
use Rattle.perm_values.specs.declared.value.Value.TheVariants.{Null, Integer, Text, Boolean}

-- the rank of the kind, then the value's own writes
abbrev pub hash_of_value : Value → HashWrites
hash_of_value Null = fed.u8 3
hash_of_value (Integer a) = fed.u8 0 ++ fed.i64 a
hash_of_value (Text a) = fed.u8 1 ++ fed.str a
hash_of_value (Boolean a) = fed.u8 2 ++ fed.bool a
