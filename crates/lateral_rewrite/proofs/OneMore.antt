-- One sublink more, as the loop takes them.
use Rattle.std.proofs.Common.{◌≡◌, ℕ, ◌+◌, ◌<◌, ◌≤◌, List, length, drop, get_or, sym, ap}
use Rattle.std.proofs.lemmas.List.{drop_all}
use Rattle.perm_values.proofs.Lists.{dropped}
use Rattle.bag_algebra.specs.declared.query.Query.{Query}
use Rattle.bag_algebra.specs.declared.query.Sublink.{Sublink}
use Rattle.lateral_rewrite.specs.Dependent.{all_contributed, contributed}

pub next : (whole : Query) (standing : List Sublink) (rewritings : List Query) (at : ℕ) (stand : Sublink) (rewriting : Query) →
    at < length standing → at < length rewritings → stand ≡ get_or standing at stand → rewriting ≡ get_or rewritings at rewriting →
    all_contributed (contributed whole stand rewriting) (drop (at + 1) standing) (drop (at + 1) rewritings) ≡ all_contributed whole (drop at standing) (drop at rewritings)
next whole standing rewritings at stand rewriting h k e d =
    sym (λ i. all_contributed whole (dropped standing at stand h e i) (dropped rewritings at rewriting k d i))

pub last : (whole : Query) (standing : List Sublink) (rewritings : List Query) (at : ℕ) → length standing ≤ at →
    all_contributed whole (drop at standing) (drop at rewritings) ≡ whole
last whole standing rewritings at h = ap (λ standing. all_contributed whole standing (drop at rewritings)) (drop_all at standing h)
