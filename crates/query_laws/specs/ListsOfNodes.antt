-- What the witness lists of a row are, node by node: each relation says of a row t of the node's answer that w is one of
-- its lists (Glavic and Alonso, ICDE 2009 and EDBT 2009; those of EXCEPT are this project's own).
use Rattle.std.specs.Prelude.{◌≡◌, ◌≢◌, ℕ, List, [], ◌∷◌, ◌++◌, take, length, Contains, IsTrue}
use Rattle.perm_values.specs.Rows.{picked}
use Rattle.bag_algebra.specs.Bags.{Row, nulls}
use Rattle.bag_algebra.specs.Children.{subs_denote, subs_shape}
use Rattle.bag_algebra.specs.Kinds.{shape, width_of}
use Rattle.bag_algebra.specs.Meaning.{Database, meaning, witnesses, condition_on, items_on}
use Rattle.bag_algebra.specs.Means.{Witness, all_empty, is_met, keeps_left, keeps_right}
use Rattle.bag_algebra.specs.Outcome.{Good}
use Rattle.bag_algebra.specs.declared.expr.Expr.{Expr}
use Rattle.bag_algebra.specs.declared.expr.Item.{Item}
use Rattle.bag_algebra.specs.declared.query.JoinKind.{JoinKind}
use Rattle.bag_algebra.specs.declared.query.Query.{Query}
use Rattle.bag_algebra.specs.declared.query.Sublink.{Sublink}
use Rattle.query_laws.specs.SublinkLists.{InAnswer, EachContributes}

-- ---- Filter and Project

-- a list of the input's row u, followed by one contribution of each sublink on u
pub record Followed (input : Query) (subs : List Sublink) (db : Database) (env : List Row) (u : Row) (w : Witness) : Type 0 where
  pub list : Witness
  pub contributions : Witness
  pub is_list : Contains (witnesses input db env u) list
  pub contribute : EachContributes db env u subs contributions
  pub whole : list ++ contributions ≡ w

-- so it is for an input row of which the items make t
pub record ProjectList (input : Query) (items : List Item) (subs : List Sublink) (db : Database) (env : List Row) (t : Row) (w : Witness) : Type 0 where
  pub origin : Row
  pub there : InAnswer input db env origin
  pub makes : items_on items env (subs_denote subs db env) origin ≡ Good t
  pub followed : Followed input subs db env origin w

-- ---- Join

-- the condition, after the sublinks, is true on the pair
abbrev pub Meets : Expr → List Sublink → Database → List Row → Row → Row → Type 0
Meets condition subs db env u v = IsTrue (is_met (condition_on condition env (subs_denote subs db env) (u ++ v)))

-- a pair that meets the condition has each list of its left row, then each of its right row, then one contribution of
-- each sublink; an unmatched row of a kept side has each of its lists at its own side's places and nothing at all others
pub data JoinList (kind : JoinKind) (left right : Query) (condition : Expr) (subs : List Sublink) (db : Database) (env : List Row) (t : Row) (w : Witness) : Type 0 where
  of_pair : (u v : Row) (l r contributions : Witness) → InAnswer left db env u → InAnswer right db env v → u ++ v ≡ t →
      Meets condition subs db env u v → Contains (witnesses left db env u) l → Contains (witnesses right db env v) r →
      EachContributes db env (u ++ v) subs contributions → l ++ r ++ contributions ≡ w →
      JoinList kind left right condition subs db env t w
  left_alone : (u : Row) (l : Witness) → IsTrue (keeps_left kind) → InAnswer left db env u → u ++ nulls (width_of right) ≡ t →
      ((v : Row) → InAnswer right db env v → Meets condition subs db env u v → ⊥) → Contains (witnesses left db env u) l →
      l ++ all_empty (shape right) ++ all_empty (subs_shape subs) ≡ w →
      JoinList kind left right condition subs db env t w
  right_alone : (v : Row) (r : Witness) → IsTrue (keeps_right kind) → InAnswer right db env v → nulls (width_of left) ++ v ≡ t →
      ((u : Row) → InAnswer left db env u → Meets condition subs db env u v → ⊥) → Contains (witnesses right db env v) r →
      all_empty (shape left) ++ r ++ all_empty (subs_shape subs) ≡ w →
      JoinList kind left right condition subs db env t w

-- ---- Apply

-- a left row beside a right row under it has each list of the one, then each of the other; a left row without right rows,
-- where the kind keeps it, has each of its lists with nothing on the right
pub data ApplyList (kind : JoinKind) (left right : Query) (db : Database) (env : List Row) (t : Row) (w : Witness) : Type 0 where
  of_right_row : (u v : Row) (l r : Witness) → InAnswer left db env u → InAnswer right db (u ∷ env) v → u ++ v ≡ t →
      Contains (witnesses left db env u) l → Contains (witnesses right db (u ∷ env) v) r → l ++ r ≡ w →
      ApplyList kind left right db env t w
  of_no_right_row : (u : Row) (l : Witness) → IsTrue (keeps_left kind) → InAnswer left db env u → meaning right db (u ∷ env) ≡ Good [] →
      u ++ nulls (width_of right) ≡ t → Contains (witnesses left db env u) l → l ++ all_empty (shape right) ≡ w →
      ApplyList kind left right db env t w

-- ---- set operations

-- a list of t on the left with nothing on the right, or one on the right with nothing on the left
pub data UnionList (left right : Query) (db : Database) (env : List Row) (t : Row) (w : Witness) : Type 0 where
  from_left : (l : Witness) → Contains (witnesses left db env t) l → l ++ all_empty (shape right) ≡ w → UnionList left right db env t w
  from_right : (r : Witness) → Contains (witnesses right db env t) r → all_empty (shape left) ++ r ≡ w → UnionList left right db env t w

-- a list of t on the left, then one on the right
pub record IntersectList (left right : Query) (db : Database) (env : List Row) (t : Row) (w : Witness) : Type 0 where
  pub l : Witness
  pub r : Witness
  pub is_left : Contains (witnesses left db env t) l
  pub is_right : Contains (witnesses right db env t) r
  pub whole : l ++ r ≡ w

-- a list of t on the left, then one of a right row that isn't t, or nothing where there is no such row
pub data ExceptList (left right : Query) (db : Database) (env : List Row) (t : Row) (w : Witness) : Type 0 where
  of_other : (v : Row) (l r : Witness) → Contains (witnesses left db env t) l → InAnswer right db env v → v ≢ t →
      Contains (witnesses right db env v) r → l ++ r ≡ w → ExceptList left right db env t w
  of_no_other : (l : Witness) → Contains (witnesses left db env t) l → ((v : Row) → InAnswer right db env v → v ≡ t) →
      l ++ all_empty (shape right) ≡ w → ExceptList left right db env t w

-- ---- Aggregate

-- a list of an input row with t's group values; nothing at every place where the input has no row
pub data AggregateList (input : Query) (groups : List ℕ) (db : Database) (env : List Row) (t : Row) (w : Witness) : Type 0 where
  of_class : (u : Row) → InAnswer input db env u → picked groups u ≡ take (length groups) t → Contains (witnesses input db env u) w →
      AggregateList input groups db env t w
  of_no_row : meaning input db env ≡ Good [] → all_empty (shape input) ≡ w → AggregateList input groups db env t w
