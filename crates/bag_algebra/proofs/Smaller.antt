-- What a recursion over queries goes by: the children of a node have fewer operators than the node.
use Rattle.std.proofs.Common.{◌≡◌, ℕ, zero, suc, ◌<◌, ◌≤◌, List, [], ◌∷◌, length, get_or, Some, sym, ap, ◌∙◌, arith}
use Rattle.bag_algebra.specs.built.Measures.{inputs_size, subs_size}
use Rattle.bag_algebra.specs.Inputs.{inputs_of, first_of, sublinks_of}
use Rattle.bag_algebra.specs.Measures.{size_of}
use Rattle.bag_algebra.specs.declared.query.Query.{Query}
use Rattle.bag_algebra.specs.declared.query.Sublink.{Sublink}
use Rattle.bag_algebra.proofs.ByChildren.{size_of-node}

pub inputs-smaller : (query : Query) (inputs : List Query) → inputs ≡ inputs_of query → inputs_size inputs < size_of query
inputs-smaller query inputs are = omega (arith, size_of-node query, ap inputs_size are)

pub first_smaller : (query input taken : Query) (rest : List Query) → taken ≡ input → inputs_of query ≡ input ∷ rest → size_of taken < size_of query
first_smaller query input taken rest is are = omega (arith, ap size_of is, inputs-smaller query (input ∷ rest) (sym are))

pub first_given : (query input taken : Query) (rest : List Query) → taken ≡ input → inputs_of query ≡ input ∷ rest → Some taken ≡ first_of (inputs_of query)
first_given query input taken rest is are = ap Some is ∙ sym (ap first_of are)

pub sublinks-smaller : (query : Query) (subs : List Sublink) → subs ≡ sublinks_of query → subs_size subs < size_of query
sublinks-smaller query subs are = omega (arith, size_of-node query, ap subs_size are)

pub sublink-smaller : (subs : List Sublink) (i : ℕ) (sub : Sublink) → i < length subs → sub ≡ get_or subs i sub → size_of sub.query ≤ subs_size subs
sublink-smaller [] i sub within is = absurd (omega arith)
sublink-smaller (first ∷ subs) zero sub within is = omega (arith, ap (λ (s : Sublink). size_of s.query) is)
sublink-smaller (first ∷ subs) (suc i) sub within is = omega (arith, sublink-smaller subs i sub (omega arith) is)

pub ruleset smaller = (inputs-smaller, sublinks-smaller, sublink-smaller)
