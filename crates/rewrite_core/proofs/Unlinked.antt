-- Lists of rows where the node has no sublinks: nothing follows the input's lists.
use Rattle.std.proofs.Common.{◌≡◌, List, [], ◌++◌, Contains, refl, sym, ap, ◌∙◌, subst, append-nil}
use Rattle.bag_algebra.specs.Bags.{Row}
use Rattle.bag_algebra.specs.Meaning.{Database, witnesses}
use Rattle.bag_algebra.specs.Means.{Witness}
use Rattle.bag_algebra.specs.declared.query.Query.{Query}
use Rattle.query_laws.specs.ListsOfNodes.{Followed}
use Rattle.query_laws.specs.SublinkLists.{EachContributes, no_sublink}

pub none-contribute : {db : Database} {env : List Row} {u : Row} {w : Witness} → EachContributes db env u [] w → [] ≡ w
none-contribute no_sublink = refl

module _ (q : Query) (db : Database) (env : List Row) (t : Row) (w : Witness) where
  pub followed-listed : Followed q [] db env t w → Contains (witnesses q db env t) w
  followed-listed f =
      let same : f.list ≡ w = sym (append-nil f.list) ∙ ap (λ more. f.list ++ more) (none-contribute f.contribute) ∙ f.whole in
      subst (Contains (witnesses q db env t)) same f.is_list

  pub listed-followed : Contains (witnesses q db env t) w → Followed q [] db env t w
  listed-followed c = record { list = w; contributions = []; is_list = c; contribute = no_sublink; whole = append-nil w }
