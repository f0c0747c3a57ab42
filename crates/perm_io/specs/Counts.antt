-- Counters of 64 bits that only rise and stay at their last value, and counts of faults.
use Rattle.std.specs.Prelude.{◌≡◌, ◌⊎◌, ℕ, ◌+◌, ◌<◌, ◌≤◌, Bool, true, false, min}
use Rattle.perm_values.specs.Numbers.{last_number}

-- so many more, but a counter stays at its last value
abbrev pub raised : ℕ → ℕ → ℕ
raised count more = min (count + more) last_number

-- one more, but a counter at its last value stays there
abbrev pub next_count : ℕ → ℕ
next_count count = raised count 1

-- the count rose, or stands at its last value
pub record HasRisen (before now : ℕ) : Type 0 where
  pub never_falls : before ≤ now
  pub cause : (before < now) ⊎ (now ≡ last_number)

-- the count of faults over a call: it rose where the call failed, or stands at its last value, and else stands still
abbrev pub CountsFault : ℕ → ℕ → Bool → Type 0
CountsFault before now true = HasRisen before now
CountsFault before now false = now ≡ before
