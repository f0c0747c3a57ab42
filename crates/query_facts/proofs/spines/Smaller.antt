-- The inputs of a node have fewer operators than the node.
use Rattle.std.proofs.Common.{◌≡◌, ◌<◌, List, [], ◌∷◌, sym, arith}
use Rattle.bag_algebra.specs.Inputs.{inputs_of}
use Rattle.bag_algebra.specs.Measures.{size_of}
use Rattle.bag_algebra.specs.declared.query.Query.{Query}
use Rattle.bag_algebra.proofs.Smaller.{inputs-smaller}

pub second_smaller : (query left right : Query) → inputs_of query ≡ left ∷ right ∷ [] → size_of right < size_of query
second_smaller query left right are = omega (arith, inputs-smaller query (left ∷ right ∷ []) (sym are))
