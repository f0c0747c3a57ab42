-- What is kept of bytes that went through.
use Rattle.std.specs.Prelude.{ℕ, ◌-◌, List, drop, length}

-- so many bytes at the end, or all
abbrev pub last_of : ℕ → List ℕ → List ℕ
last_of count bytes = drop (length bytes - count) bytes
