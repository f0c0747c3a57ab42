-- Rows of a bag beside each of their flattened lists, as what is in another bag.
use Rattle.std.proofs.Common.{◌≡◌, true, List, ◌++◌, Contains}
use Rattle.perm_values.specs.declared.kind.Kind.{Kind}
use Rattle.bag_algebra.proofs.Members.{IsIn, in-member, member-in}
use Rattle.bag_algebra.specs.Bags.{Row, Bag}
use Rattle.bag_algebra.specs.Fits.{row_begins}
use Rattle.bag_algebra.specs.Kinds.{kinds_of}
use Rattle.bag_algebra.specs.Meaning.{Database, meaning, witnesses}
use Rattle.bag_algebra.specs.Means.{Witness, flat}
use Rattle.bag_algebra.specs.Outcome.{Good}
use Rattle.bag_algebra.specs.declared.query.Query.{Query}
use Rattle.contribution.proofs.QueryKinds.{rows_have-kinds}
use Rattle.contribution.proofs.RowKinds.{RowFits}
use Rattle.contribution.proofs.ValueKinds.{fits-begins}
use Rattle.contribution.proofs.WhereGood.{each-in}
use Rattle.contribution.specs.Fitting.{Fitting}
use Rattle.rewrite_core.proofs.JoinedOutcomes.{answer-listed}
use Rattle.rewrite_core.specs.rewritings.Rewritten.{Beside}

-- the rows of a query's answer begin with its columns
pub row-begins : (outer : List (List Kind)) (q : Query) (db : Database) (env : List Row) → Fitting outer q db env → (us : Bag) → meaning q db env ≡ Good us →
    (t : Row) → IsIn t us → row_begins t (kinds_of q) ≡ true
row-begins outer q db env fitting us good t here =
    fits-begins t (kinds_of q) (each-in (RowFits (kinds_of q)) t us (rows_have-kinds outer q db env us fitting good) here).fit

-- beside each of its lists each row is there, and nothing else is
pub record Flattened (lists : Row → List Witness) (us vs : Bag) : Type 0 where
  pub there : (t : Row) (w : Witness) → IsIn t us → Contains (lists t) w → IsIn (t ++ flat w) vs
  pub back : (x : Row) → IsIn x vs → (t : Row) × (w : Witness) × IsIn t us × Contains (lists t) w × (t ++ flat w ≡ x)

-- a row of the first bag beside one of its lists
pub record Stands_beside (lists : Row → List Witness) (vs : Bag) (t : Row) : Type 0 where
  pub list : Witness
  pub is_list : Contains (lists t) list
  pub row : IsIn (t ++ flat list) vs

module _ (lists : Row → List Witness) (us vs : Bag) (b : Beside lists us vs) where
  pub flattened : Flattened lists us vs
  flattened = record {
    there = λ t w i c. member-in (t ++ flat w) vs (b.there t w (in-member t us i) c);
    back = λ x i. let r = b.back x (in-member x vs i) in (r.origin, r.list, member-in r.origin us r.row, r.is_list, r.whole);
  }

  pub stands_beside : (t : Row) → IsIn t us → Stands_beside lists vs t
  stands_beside t i =
      let some = b.covers t (in-member t us i) in
      record { list = some.list; is_list = some.is_list; row = flattened.there t some.list i some.is_list }

-- every row of a good answer has a list
pub beside-flattened : (n : Query) (db : Database) (env : List Row) (ts zs : Bag) → meaning n db env ≡ Good ts → Flattened (witnesses n db env) ts zs →
    Beside (witnesses n db env) ts zs
beside-flattened n db env ts zs good f = record {
  covers = answer-listed n db env ts good;
  there = λ t w h c. in-member (t ++ flat w) zs (f.there t w (member-in t ts h) c);
  back = λ x h.
      let r = f.back x (member-in x zs h) in
      record { origin = r.0; list = r.1; row = in-member r.0 ts r.2; is_list = r.3; whole = r.4 };
}
