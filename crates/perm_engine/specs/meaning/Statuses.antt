-- The statuses of runs as numbers.
use Rattle.std.specs.Prelude.{ℕ}
use Rattle.perm_engine.specs.declared.meaning.status.Status.{Status}
use Rattle.perm_engine.specs.declared.meaning.status.Status.TheVariants as status

-- the exit status of the program
abbrev pub number_of : Status → ℕ
number_of status.Done = 0
number_of status.Usage = 2
number_of status.Syntax = 3
number_of status.Refused = 4
number_of status.RunFault = 5
number_of status.BadData = 6
number_of status.ReadFault = 7
number_of status.WriteFault = 8
number_of status.NoMemory = 9
