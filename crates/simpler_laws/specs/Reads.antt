-- Which columns of its own row an expression reads.
use Rattle.std.specs.Prelude.{ℕ, nat_lt, Bool, true, false, cond, not, ◌&&◌}
use Rattle.bag_algebra.specs.built.Patterns.{OpOf, ChainOf, CaseOf, IsNullOf, IsTruthOf, SameOf}
use Rattle.bag_algebra.specs.declared.expr.Expr.{Expr, Row_of-Expr, Row_of-Arm, more_of-Expr, end_of-Expr, more_of-Arm, end_of-Arm}
use Rattle.bag_algebra.specs.declared.expr.Expr.TheVariants.{Col, Lit, Sub}

-- the place is one of those from the first on, before the last
abbrev pub is_between : ℕ → ℕ → ℕ → Bool
is_between from to place = not (nat_lt place from) && nat_lt place to

-- the expression holds no chain and no sublink, and reads of its own row the columns at places from the one on, before the
-- other, and no others; outer rows it reads only where it may
abbrev mutual
  pub reads_only : Bool → ℕ → ℕ → Expr → Bool
  reads_only outer from to (Col level place) = cond (nat_lt 0 level) outer (is_between from to place)
  reads_only outer from to (Lit v kind) = true
  reads_only outer from to (OpOf op _ parts) = parts_read_only outer from to parts
  reads_only outer from to (ChainOf first _ steps) = false
  reads_only outer from to (CaseOf _ arms otherwise) = arms_read_only outer from to arms && reads_only outer from to otherwise
  reads_only outer from to (Sub number) = false
  reads_only outer from to (IsNullOf part) = reads_only outer from to part
  reads_only outer from to (IsTruthOf truth part) = reads_only outer from to part
  reads_only outer from to (SameOf first second) = reads_only outer from to first && reads_only outer from to second

  pub parts_read_only : Bool → ℕ → ℕ → {m : _} → Row_of-Expr m → Bool
  parts_read_only outer from to end_of-Expr = true
  parts_read_only outer from to (more_of-Expr part parts) = reads_only outer from to part && parts_read_only outer from to parts

  pub arms_read_only : Bool → ℕ → ℕ → {m : _} → Row_of-Arm m → Bool
  arms_read_only outer from to end_of-Arm = true
  arms_read_only outer from to (more_of-Arm condition arm arms) =
      (reads_only outer from to condition && reads_only outer from to arm) && arms_read_only outer from to arms
