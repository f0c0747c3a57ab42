-- What stands for a query's PROVENANCE is a rewriting of the query; one sublink over tables.
use Rattle.std.proofs.Common.{◌≡◌, true, [], ◌∷◌, ◌&&◌, refl, sym, subst}
use Rattle.std.specs.Bool.{IsTrue}
use Rattle.bag_algebra.proofs.BagLaws.{member-same_bag}
use Rattle.bag_algebra.specs.Bags.{Bag}
use Rattle.bag_algebra.specs.Outcome.{Outcome, Good, Bad}
use Rattle.bag_algebra.specs.Rewriting.{IsRewrite, Stands, SameRows, SameSet}
use Rattle.bag_algebra.specs.Scoped.{over_tables}
use Rattle.bag_algebra.specs.built.Patterns.{ProvOf}
use Rattle.bag_algebra.specs.built.Scopes.{all_over_tables}
use Rattle.bag_algebra.specs.declared.query.Query.{Query}
use Rattle.bag_algebra.specs.declared.query.Sublink.{Sublink}

same_set-of_rows : (o s : Outcome Bag) → SameRows o s → SameSet o s
same_set-of_rows (Good us) (Good vs) same = λ t. member-same_bag t us vs same
same_set-of_rows (Good us) (Bad g) same = same
same_set-of_rows (Bad f) (Good vs) same = same
same_set-of_rows (Bad f) (Bad g) same = same

pub rewrites-where_stands : (q p : Query) → Stands (ProvOf q) p → IsRewrite q p
rewrites-where_stands q p s = record {
  plain = s.plain;
  kinds = s.kinds;
  formed = s.formed;
  tables = s.tables;
  rows = λ outer db env formed fits outer_rows. same_set-of_rows _ _ (s.rows outer db env formed fits outer_rows);
}

pub only-over_tables : (sub : Sublink) → true ≡ over_tables sub.query → IsTrue (all_over_tables (sub ∷ []))
only-over_tables sub e = subst (λ b. IsTrue (b && true)) e refl
