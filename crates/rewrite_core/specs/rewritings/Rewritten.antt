-- Rows beside the witness lists of other rows: what a rewriting's rows are, apart from how often each stands there (after
-- Glavic and Alonso, ICDE 2009).
use Rattle.std.specs.Prelude.{◌≡◌, List, ◌++◌, Contains, IsTrue}
use Rattle.bag_algebra.specs.Bags.{Row, Bag, member}
use Rattle.bag_algebra.specs.Means.{Witness, flat}
use Rattle.bag_algebra.specs.Outcome.{Outcome, Good, Bad}

-- x is a row of the bag followed by one of its lists, flattened
pub record RowBeside (lists : Row → List Witness) (us : Bag) (x : Row) : Type 0 where
  pub origin : Row
  pub list : Witness
  pub row : IsTrue (member origin us)
  pub is_list : Contains (lists origin) list
  pub whole : origin ++ flat list ≡ x

-- a list of the row
pub record SomeList (ws : List Witness) : Type 0 where
  pub list : Witness
  pub is_list : Contains ws list

-- each row of us has a list; beside each of its lists it is in vs; and nothing else is
pub record Beside (lists : Row → List Witness) (us vs : Bag) : Type 0 where
  pub covers : (t : Row) → IsTrue (member t us) → SomeList (lists t)
  pub there : (t : Row) (w : Witness) → IsTrue (member t us) → Contains (lists t) w → IsTrue (member (t ++ flat w) vs)
  pub back : (x : Row) → IsTrue (member x vs) → RowBeside lists us x

-- the same set of faults, or the rows beside their lists
abbrev pub Rewritten : (Row → List Witness) → Outcome Bag → Outcome Bag → Type 0
Rewritten lists (Good us) (Good vs) = Beside lists us vs
Rewritten lists (Good us) (Bad g) = ⊥
Rewritten lists (Bad f) (Good vs) = ⊥
Rewritten lists (Bad f) (Bad g) = f ≡ g
