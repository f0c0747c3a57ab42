-- Where NULLs stand in the rows of a union.
use Rattle.std.specs.Prelude.{ℕ}
use Rattle.rewrite_core.specs.declared.rewritings.unions.UnionSide.{UnionSide}
use Rattle.rewrite_core.specs.declared.rewritings.unions.UnionSide.TheVariants.{Left, Right}

-- how many columns of a side's rewriting, of so many in all, stand before the NULLs for the other side's provenance: that of the left
-- side comes before that of the right one
abbrev pub before_nulls : UnionSide → (own all : ℕ) → ℕ
before_nulls Left own all = all
before_nulls Right own all = own
