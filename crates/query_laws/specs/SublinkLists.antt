-- Rows of answers, and what the sublinks of a node contribute on a row (Glavic and Alonso, EDBT 2009; that comparisons
-- which are unknown choose all rows is this project's own).
use Rattle.std.specs.Prelude.{◌≡◌, true, false, List, [], ◌∷◌, ◌++◌, Contains, IsTrue}
use Rattle.null_logic.specs.Comparison.{compare_values}
use Rattle.null_logic.specs.declared.compare.Compare.{Compare}
use Rattle.null_logic.specs.declared.truth.Truth.TheVariants.{True, False}
use Rattle.perm_values.specs.declared.value.Value.{Value}
use Rattle.perm_values.specs.declared.value.Value.TheVariants.{Boolean}
use Rattle.bag_algebra.specs.Bags.{Row, Bag, member}
use Rattle.bag_algebra.specs.Kinds.{shape}
use Rattle.bag_algebra.specs.Meaning.{Database, meaning, witnesses, optional_value}
use Rattle.bag_algebra.specs.Means.{Witness, sub_value, cell, all_empty}
use Rattle.bag_algebra.specs.Outcome.{Good}
use Rattle.bag_algebra.specs.declared.query.Query.{Query}
use Rattle.bag_algebra.specs.declared.query.SubKind.{SubKind}
use Rattle.bag_algebra.specs.declared.query.SubKind.TheVariants.{Any, All}
use Rattle.bag_algebra.specs.declared.query.Sublink.{Sublink}

-- the query is good, and the row is in its answer
pub record InAnswer (q : Query) (db : Database) (env : List Row) (t : Row) : Type 0 where
  pub bag : Bag
  pub good : meaning q db env ≡ Good bag
  pub row : IsTrue (member t bag)

-- a row of the sublink's query that contributes: one that compares true where the sublink is a true ANY, one that
-- compares false where it is a false ALL, and otherwise any row
pub record IsChosen (kind : SubKind) (x : Value) (bag : Bag) (v : Row) : Type 0 where
  pub row : IsTrue (member v bag)
  pub met : (c : Compare) → kind ≡ Any c → sub_value kind x bag ≡ Good (Boolean true) → compare_values c x (cell v) ≡ True
  pub missed : (c : Compare) → kind ≡ All c → sub_value kind x bag ≡ Good (Boolean false) → compare_values c x (cell v) ≡ False

-- a contribution of the sublink on the row u of its node: a list of a row that contributes; nothing at every place where
-- its query has no row
pub data Contributes (db : Database) (env : List Row) (u : Row) (sub : Sublink) (c : Witness) : Type 0 where
  by_row : (x : Value) (bag : Bag) (v : Row) → optional_value sub.tested env u ≡ Good x → meaning sub.query db (u ∷ env) ≡ Good bag →
      IsChosen sub.kind x bag v → Contains (witnesses sub.query db (u ∷ env) v) c → Contributes db env u sub c
  by_no_row : meaning sub.query db (u ∷ env) ≡ Good [] → all_empty (shape sub.query) ≡ c → Contributes db env u sub c

-- one contribution of each sublink, in the order of their numbers
pub data EachContributes (db : Database) (env : List Row) (u : Row) : List Sublink → Witness → Type 0 where
  no_sublink : EachContributes db env u [] []
  one_more : {subs : List Sublink} {rest : Witness} (sub : Sublink) (c : Witness) → Contributes db env u sub c →
      EachContributes db env u subs rest → EachContributes db env u (sub ∷ subs) (c ++ rest)
