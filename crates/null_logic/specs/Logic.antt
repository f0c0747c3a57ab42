-- Three-valued logic: the tables of AND, OR and NOT (Kleene; ISO/IEC 9075-2, 'boolean value expression').
use Rattle.std.specs.Prelude.{Bool, true, false}
use Rattle.null_logic.specs.declared.truth.Truth.{Truth}
use Rattle.null_logic.specs.declared.truth.Truth.TheVariants.{True, False, Unknown}
use Rattle.perm_values.specs.declared.value.Value.{Value}
use Rattle.perm_values.specs.declared.value.Value.TheVariants.{Null, Integer, Text, Boolean}

abbrev pub truth_and : Truth → Truth → Truth
truth_and True True = True
truth_and True False = False
truth_and True Unknown = Unknown
truth_and False True = False
truth_and False False = False
truth_and False Unknown = False
truth_and Unknown True = Unknown
truth_and Unknown False = False
truth_and Unknown Unknown = Unknown

abbrev pub truth_or : Truth → Truth → Truth
truth_or True True = True
truth_or True False = True
truth_or True Unknown = True
truth_or False True = True
truth_or False False = False
truth_or False Unknown = Unknown
truth_or Unknown True = True
truth_or Unknown False = Unknown
truth_or Unknown Unknown = Unknown

abbrev pub truth_not : Truth → Truth
truth_not True = False
truth_not False = True
truth_not Unknown = Unknown

abbrev pub is_true : Truth → Bool
is_true True = true
is_true False = false
is_true Unknown = false

-- what is known to hold or not
abbrev pub known : Bool → Truth
known true = True
known false = False

-- NULL is unknown; so is what is no boolean
abbrev pub truth_of : Value → Truth
truth_of Null = Unknown
truth_of (Integer a) = Unknown
truth_of (Text a) = Unknown
truth_of (Boolean a) = known a

abbrev pub value_of : Truth → Value
value_of True = Boolean true
value_of False = Boolean false
value_of Unknown = Null
