-- The flattened witness lists of a query whose sources are over tables are rows of its cross base.
use Rattle.std.proofs.Common.{◌≡◌, List, Contains, None, IsTrue, true, refl}
use Rattle.bag_algebra.specs.Bags.{Row, Bag, member}
use Rattle.bag_algebra.specs.Meaning.{Database, meaning, witnesses}
use Rattle.bag_algebra.specs.Means.{Witness, flat}
use Rattle.bag_algebra.specs.Outcome.{Good}
use Rattle.bag_algebra.specs.Scoped.{over_tables}
use Rattle.bag_algebra.specs.declared.query.Query.{Query}
use Rattle.contribution.proofs.CrossBases.{meaning-cross_base}
use Rattle.contribution.proofs.EntriesAtPlaces.{all-at}
use Rattle.bag_algebra.proofs.MembersByIndex.{in-from_contains}
use Rattle.contribution.specs.CrossBase.{cross_base_of}

pub lists-in_cross_base : (q : Query) → over_tables q ≡ true → (db : Database) (env other : List Row) (t : Row) (w : Witness) → Contains (witnesses q db env t) w →
    (found : Bag) × (meaning (cross_base_of q) db other ≡ Good found) × IsTrue (member (flat w) found)
lists-in_cross_base q e db env other t w h =
    let base = meaning-cross_base q e db other in
    let at = ((all-at q db None env (record { same = tt })).all t).each w (in-from_contains w (witnesses q db env t) h) in
    (base.0, base.1, (base.2 (flat w)).1 (w, at.stand, refl))
