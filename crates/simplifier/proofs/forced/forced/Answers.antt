use Rattle.std.proofs.Common.{sym, ap, ◌∙◌, subst}
use Rattle.bag_algebra.proofs.Truths.{left-true, right-true}
use Rattle.bag_algebra.specs.Rewriting.{is_plain, Stands}
use Rattle.bag_algebra.specs.built.Scopes.{all_plain, is_plain-Project}
use Rattle.bag_algebra.specs.declared.query.Query.TheVariants.{Project}
use Rattle.contribution.proofs.NodeQueries.{of_made}
use Rattle.perm_values.proofs.Taken.{opened}
use Rattle.query_laws.proofs.SameExpressions.{items-themselves}
use Rattle.query_laws.proofs.StandingNodes.{stands-Project}
use Rattle.rewrite_core.proofs.Itself.{stands-itself, stands-onward}
use Rattle.simplifier.proofs.BaredNodes.{themselves}
use Rattle.simplifier.proofs.forced.forced.Goals as goal

pub returns-in-Ok-joined : goal.returns-in-Ok-joined
returns-in-Ok-joined c q h =
    let parts = c.in-Ok.field-0 in
    let taken = c.in_ok-query.field-0 in
    let is = sym c.in-Ok.ensures.parts in
    let s = opened (λ b. Stands q b) c.args.query _ c.in_ok-query.was h in
    let plain = sym (is_plain-Project parts.input parts.items parts.subs) ∙ ap is_plain is ∙ s.plain in
    let rows = c.in-Ok-joined.ensures parts.input (stands-itself parts.input (left-true (is_plain parts.input) (all_plain parts.subs) plain)) in
    of_made (λ p. Stands q p) c.project.result _ c.project.ensures
    (stands-onward q taken (Project c.in-Ok-joined.rows parts.items parts.subs) s
    (subst (λ n. Stands n (Project c.in-Ok-joined.rows parts.items parts.subs)) is
    (stands-Project parts.input c.in-Ok-joined.rows rows parts.items parts.items (items-themselves parts.items) parts.subs parts.subs (themselves parts.subs (right-true (is_plain parts.input) (all_plain parts.subs) plain)))))
