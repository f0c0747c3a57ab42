-- What stands for a node's sublinks is as many sublinks, and their rewritings are as many queries.
use Rattle.std.proofs.Common.{◌≡◌, List, [], ◌∷◌, length, suc, refl, ap}
use Rattle.bag_algebra.specs.declared.query.Query.{Query}
use Rattle.bag_algebra.specs.declared.query.Sublink.{Sublink}
use Rattle.query_laws.specs.Standing.{SubsStand}
use Rattle.rewrite_sublink.specs.SubRewritings.{SubsRewritten}

pub stand-length : (subs standing : List Sublink) → SubsStand subs standing → length subs ≡ length standing
stand-length [] [] s = refl
stand-length [] (stand ∷ standing) s = absurd s
stand-length (sub ∷ subs) [] s = absurd s
stand-length (sub ∷ subs) (stand ∷ standing) s = ap suc (stand-length subs standing s.1)

pub rewritten-length : (subs : List Sublink) (rewritings : List Query) → SubsRewritten subs rewritings → length subs ≡ length rewritings
rewritten-length [] [] r = refl
rewritten-length [] (p ∷ ps) r = absurd r
rewritten-length (sub ∷ subs) [] r = absurd r
rewritten-length (sub ∷ subs) (p ∷ ps) r = ap suc (rewritten-length subs ps r.1)
