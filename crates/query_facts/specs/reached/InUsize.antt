-- Numbers as code holds them.
use Rattle.std.specs.Prelude.{ℕ, cond, nat_lt, ◌^◌, Option, Some, None}

-- the number, or nothing where no `usize` holds it
abbrev pub in_usize : ℕ → Option ℕ
in_usize n = cond (nat_lt n (2 ^ 64)) (Some n) None
