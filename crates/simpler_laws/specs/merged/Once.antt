-- Queries whose topmost node has no row twice.
use Rattle.std.specs.Prelude.{◌≡◌, Bool, true, false, not, Result, Ok}
use Rattle.perm_values.specs.declared.no_memory.NoMemory.{NoMemory}
use Rattle.bag_algebra.specs.declared.query.Query.{Query}
use Rattle.bag_algebra.specs.declared.query.Query.TheVariants.{Table, Single, Distinct, Base', Filter', Project', Join', Apply', Union', Intersect', Except', Distinct', Aggregate', Limit', Prov'}

-- set operations without ALL, DISTINCT, groups, and the one row
abbrev pub gives_once : Query → Bool
gives_once (Table id kinds) = false
gives_once Single = true
gives_once (Base' _ input places label) = false
gives_once (Filter' _ input condition _ subs) = false
gives_once (Project' _ input items _ subs) = false
gives_once (Join' kind _ left _ right condition _ subs) = false
gives_once (Apply' kind _ left _ right) = false
gives_once (Union' all _ left _ right) = not all
gives_once (Intersect' all _ left _ right) = not all
gives_once (Except' all _ left _ right) = not all
gives_once (Distinct' _ input) = true
gives_once (Aggregate' _ input groups aggregates) = true
gives_once (Limit' _ input keys count) = false
gives_once (Prov' _ input) = false

-- the distinct rows of what a call gave: that itself, or a DISTINCT over it where it may have a row twice
pub data IsMadeOnce (given : Result Query NoMemory) (p : Query) : Type 0 where
  itself : given ≡ Ok p → IsMadeOnce given p
  over : (input : Query) → given ≡ Ok input → gives_once input ≡ false → p ≡ Distinct input → IsMadeOnce given p
