-- Rewritings of what is traced of a sublink, which calls made.
use Rattle.std.proofs.Common.{◌≡◌, Result, IfOk, sym, subst}
use Rattle.perm_values.specs.declared.no_memory.NoMemory.{NoMemory}
use Rattle.perm_values.proofs.Results.{where_made}
use Rattle.bag_algebra.specs.declared.query.Query.{Query}
use Rattle.bag_algebra.specs.declared.query.SubKind.{SubKind}
use Rattle.bag_algebra.specs.declared.query.Sublink.{Sublink}
use Rattle.rewrite_driver.specs.KeptClosed.{RewritesClosed}
use Rattle.rewrite_move.specs.Traced.{below_by, below_groups, traced_of}

pub traced_here : (q : Query) (result : Result Query NoMemory) → below_groups q ≡ q → IfOk result (λ p. RewritesClosed q p) → IfOk result (λ p. RewritesClosed (below_groups q) p)
traced_here q result here given =
    where_made (λ p. RewritesClosed q p) (λ p. RewritesClosed (below_groups q) p) result (λ p r. subst (λ n. RewritesClosed n p) (sym here) r) given

pub traced_below : (q input : Query) (result : Result Query NoMemory) → below_groups q ≡ below_groups input →
    IfOk result (λ p. RewritesClosed (below_groups input) p) → IfOk result (λ p. RewritesClosed (below_groups q) p)
traced_below q input result below given =
    where_made (λ p. RewritesClosed (below_groups input) p) (λ p. RewritesClosed (below_groups q) p) result (λ p r. subst (λ n. RewritesClosed n p) (sym below) r) given

pub kind_traced : (sub : Sublink) (kind : SubKind) (result : Result Query NoMemory) → sub.kind ≡ kind → IfOk result (λ p. RewritesClosed (below_by kind sub.query) p) →
    IfOk result (λ p. RewritesClosed (traced_of sub) p)
kind_traced sub kind result is given =
    where_made (λ p. RewritesClosed (below_by kind sub.query) p) (λ p. RewritesClosed (traced_of sub) p) result (λ p r. subst (λ k. RewritesClosed (below_by k sub.query) p) (sym is) r) given
