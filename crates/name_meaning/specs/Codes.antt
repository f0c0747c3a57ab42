-- The number of each rule, which an error line shows.
use Rattle.std.specs.Prelude.{ℕ}
use Rattle.name_meaning.specs.declared.rule.Rule.{Rule}
use Rattle.name_meaning.specs.declared.rule.Rule.TheVariants as rule

abbrev pub code_of : Rule → ℕ
code_of rule.NotText = 1
code_of rule.StrayCharacter = 2
code_of rule.OpenText = 3
code_of rule.LongNumber = 4
code_of rule.UnexpectedToken = 5
code_of rule.DeepNesting = 6
code_of rule.UnknownRelation = 10
code_of rule.UnknownColumn = 11
code_of rule.AmbiguousColumn = 12
code_of rule.TakenName = 13
code_of rule.RepeatedColumn = 14
code_of rule.RepeatedItem = 15
code_of rule.UsedByView = 16
code_of rule.NumbersSpent = 17
code_of rule.UnfitKind = 20
code_of rule.UnfitWidth = 21
code_of rule.UngroupedColumn = 22
code_of rule.MisplacedAggregate = 23
code_of rule.MisplacedSublink = 24
code_of rule.MisplacedProvenance = 25
code_of rule.TooManyColumns = 26
code_of rule.TooLarge = 27
code_of rule.NotMonotone = 28
code_of rule.UnbuiltForm = 29
