-- The first columns of PROVENANCE are the rows of its query.
use Rattle.std.proofs.Common.{◌≡◌, ◌↔◌, ℕ, List, ◌++◌, IsTrue, length, take, sym, ap, ◌∙◌, subst}
use Rattle.std.proofs.Math.Seq.{take-append_seam}
use Rattle.perm_values.specs.declared.kind.Kind.{Kind}
use Rattle.bag_algebra.proofs.Members.{member-in}
use Rattle.bag_algebra.specs.Bags.{Row, Bag, member}
use Rattle.bag_algebra.specs.Kinds.{width_of}
use Rattle.bag_algebra.specs.Meaning.{Database, meaning, witnesses}
use Rattle.bag_algebra.specs.Means.{flat}
use Rattle.bag_algebra.specs.Outcome.{Good}
use Rattle.bag_algebra.specs.built.Patterns.{ProvOf}
use Rattle.bag_algebra.specs.declared.query.Query.{Query}
use Rattle.contribution.proofs.ListedRows.{row-listed, some-in, provenance-pairs}
use Rattle.bag_algebra.proofs.MembersByIndex.{contains-from_in, all-at}
use Rattle.contribution.proofs.QueryKinds.{rows_have-width}
use Rattle.contribution.specs.Fitting.{Fitting}

cut-off : (width : ℕ) (t more : Row) → length t ≡ width → take width (t ++ more) ≡ t
cut-off width t more e = subst (λ n. take n (t ++ more) ≡ t) e (take-append_seam t more)

module _ (outer : List (List Kind)) (q : Query) (db : Database) (env : List Row) (bag found : Bag) (fitting : Fitting outer q db env)
    (good : meaning q db env ≡ Good bag) (provenance : meaning (ProvOf q) db env ≡ Good found) where
  width : (t : Row) → IsTrue (member t bag) → length t ≡ width_of q
  width t h = all-at (λ row. length row ≡ width_of q) bag t (rows_have-width outer q db env bag fitting good) (member-in t bag h)

  pub first_columns : (t : Row) → IsTrue (member t bag) ↔ ((u : Row) × IsTrue (member u found) × (take (width_of q) u ≡ t))
  first_columns t = (
    λ h.
        let list = some-in (witnesses q db env t) ((row-listed q db env bag t good).0 h) in
        let u = t ++ flat list.0 in (
          u,
          (provenance-pairs q db env bag found u good provenance).1 (t, list.0, h, contains-from_in list.0 (witnesses q db env t) list.1, λ i. u),
          cut-off (width_of q) t (flat list.0) (width t h),
        ),
    λ front.
        let pair = (provenance-pairs q db env bag found front.0 good provenance).0 front.1 in
        let same : pair.0 ≡ t =
        sym (cut-off (width_of q) pair.0 (flat pair.1) (width pair.0 pair.2)) ∙ ap (take (width_of q)) pair.4 ∙ front.2 in
        subst (λ r. IsTrue (member r bag)) same pair.2,
  )
