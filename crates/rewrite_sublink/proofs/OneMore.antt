-- One sublink more, as the loop takes them.
use Rattle.std.proofs.Common.{◌≡◌, ℕ, zero, suc, ◌+◌, ◌<◌, ◌≤◌, true, List, [], ◌∷◌, length, drop, get_or, sym, ap, ◌∙◌, arith}
use Rattle.std.proofs.lemmas.List.{drop_all}
use Rattle.perm_values.proofs.Lists.{dropped}
use Rattle.bag_algebra.proofs.Truths.{left-true, right-true}
use Rattle.bag_algebra.specs.Scoped.{over_tables}
use Rattle.bag_algebra.specs.declared.query.Query.{Query}
use Rattle.bag_algebra.specs.declared.query.Sublink.{Sublink}
use Rattle.contribution.specs.CrossBase.{cross_base_of}
use Rattle.bag_algebra.specs.built.Scopes.{all_over_tables}
use Rattle.rewrite_sublink.specs.Candidates.{all_contributed, contributed}

pub next : (whole : Query) (subs standing : List Sublink) (rewritings : List Query) (at : ℕ) (sub stand : Sublink) (rewriting : Query) →
    at < length subs → at < length standing → at < length rewritings →
    sub ≡ get_or subs at sub → stand ≡ get_or standing at stand → rewriting ≡ get_or rewritings at rewriting →
    all_contributed (contributed whole (cross_base_of sub.query) stand rewriting) (drop (at + 1) subs) (drop (at + 1) standing) (drop (at + 1) rewritings)
    ≡ all_contributed whole (drop at subs) (drop at standing) (drop at rewritings)
next whole subs standing rewritings at sub stand rewriting h g k e f d =
    sym (λ i. all_contributed whole (dropped subs at sub h e i) (dropped standing at stand g f i) (dropped rewritings at rewriting k d i))

pub last : (whole : Query) (subs standing : List Sublink) (rewritings : List Query) (at : ℕ) → length subs ≤ at →
    all_contributed whole (drop at subs) (drop at standing) (drop at rewritings) ≡ whole
last whole subs standing rewritings at h = ap (λ subs. all_contributed whole subs (drop at standing) (drop at rewritings)) (drop_all at subs h)

pub over-at : (subs : List Sublink) (at : ℕ) (sub : Sublink) → all_over_tables subs ≡ true → at < length subs → sub ≡ get_or subs at sub → over_tables sub.query ≡ true
over-at [] at sub over h e = absurd (omega (arith, h))
over-at (s ∷ subs) zero sub over h e = ap (λ (sub : Sublink). over_tables sub.query) e ∙ left-true (over_tables s.query) (all_over_tables subs) over
over-at (s ∷ subs) (suc at) sub over h e = over-at subs at sub (right-true (over_tables s.query) (all_over_tables subs) over) (omega (arith, h)) e
