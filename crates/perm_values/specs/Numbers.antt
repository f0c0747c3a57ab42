-- The numbers of 64 bits that the program counts by: identities, versions, counts of bytes and of faults.
use Rattle.std.specs.Prelude.{ℕ, ◌-◌, ◌^◌}

-- the last of them, beyond which nothing is counted
abbrev pub last_number : ℕ
last_number = 2 ^ 64 - 1
