-- What may stand in an EXISTS in the place of its query, of which nobody reads the columns.
use Rattle.std.specs.Prelude.{◌≡◌, ⊤, true, List, [], ◌∷◌}
use Rattle.perm_values.specs.declared.kind.Kind.{Kind}
use Rattle.bag_algebra.specs.Bags.{Row}
use Rattle.bag_algebra.specs.FaultFree.{items_faultless}
use Rattle.bag_algebra.specs.Meaning.{Database, meaning}
use Rattle.bag_algebra.specs.Means.{is_some_row}
use Rattle.bag_algebra.specs.Outcome.{mapped}
use Rattle.bag_algebra.specs.Rewriting.{is_plain}
use Rattle.bag_algebra.specs.TablesRead.{ReadsAmong}
use Rattle.bag_algebra.specs.WellFormed.{WellFormed}
use Rattle.bag_algebra.specs.declared.expr.Item.{Item}
use Rattle.bag_algebra.specs.declared.query.Query.{Query}
use Rattle.bag_algebra.specs.declared.query.Query.TheVariants.{Project}
use Rattle.bag_algebra.specs.declared.query.SubKind.TheVariants.{Exists}
use Rattle.bag_algebra.specs.declared.query.Sublink.{Sublink}
use Rattle.query_laws.specs.Standing.{SubsStand}
use Rattle.folded_literals.specs.Simple.{is_simple}

-- a projection without sublinks to items that can't fault
pub record IsUnread (query : Query) : Type 0 where
  pub input : Query
  pub items : List Item
  pub is : query ≡ Project input items []
  pub calm : items_faultless items ≡ true

-- b has a row exactly where q has one, and the same faults; it may have columns of other kinds
pub record StandsUnread (q b : Query) : Type 0 where
  pub plain : is_plain q ≡ true → is_plain b ≡ true
  pub simple : is_simple q ≡ true → is_simple b ≡ true
  pub formed : (outer : List (List Kind)) → WellFormed outer q → WellFormed outer b
  pub tables : ReadsAmong b q
  pub rows : (db : Database) (env : List Row) → mapped is_some_row (meaning q db env) ≡ mapped is_some_row (meaning b db env)

-- the sublink itself, or an EXISTS over what stands unread for its query
pub data IsBared (sub other : Sublink) : Type 0 where
  itself : sub ≡ other → IsBared sub other
  unread : sub.kind ≡ Exists → sub.kind ≡ other.kind → sub.tested ≡ other.tested → StandsUnread sub.query other.query → IsBared sub other

-- one by one
abbrev pub AllBared : List Sublink → List Sublink → Type 0
AllBared [] [] = ⊤
AllBared [] (other ∷ others) = ⊥
AllBared (sub ∷ subs) [] = ⊥
AllBared (sub ∷ subs) (other ∷ others) = IsBared sub other × AllBared subs others

-- what is bared of sublinks that stand for others
pub record SubsStandBared (subs others : List Sublink) : Type 0 where
  pub between : List Sublink
  pub stand : SubsStand subs between
  pub bared : AllBared between others
