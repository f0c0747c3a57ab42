-- A node that is made of what calls gave.
use Rattle.std.specs.Prelude.{◌≡◌, Result, Ok}
use Rattle.perm_values.specs.declared.no_memory.NoMemory.{NoMemory}
use Rattle.bag_algebra.specs.declared.query.Query.{Query}

pub record IsMadeOf (given : Result Query NoMemory) (node : Query → Query) (p : Query) : Type 0 where
  pub input : Query
  pub was : given ≡ Ok input
  pub is : p ≡ node input

pub record IsMadeOfBoth (left right : Result Query NoMemory) (node : Query → Query → Query) (p : Query) : Type 0 where
  pub first : Query
  pub second : Query
  pub first_was : left ≡ Ok first
  pub second_was : right ≡ Ok second
  pub is : p ≡ node first second
