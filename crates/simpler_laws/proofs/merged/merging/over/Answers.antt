use Rattle.std.proofs.Common.{◌≡◌, [], IfSome, subst}
use Rattle.bag_algebra.specs.Rewriting.{Stands}
use Rattle.bag_algebra.specs.declared.query.Query.TheVariants.{Project}
use Rattle.contribution.proofs.NodeQueries.{of_made}
use Rattle.query_laws.proofs.SameExpressions.{items-themselves}
use Rattle.query_laws.proofs.StandingNodes.{stands-Project}
use Rattle.simpler_laws.proofs.MergedProjects.{stands-over}
use Rattle.simpler_laws.specs.merged.Substituted.{IsMerged}
use Rattle.simpler_laws.proofs.merged.merging.over.Goals as goal

pub returns-in-Some : goal.returns-in-Some
returns-in-Some c q originals s t =
    of_made (λ p. Stands (Project q c.args.items originals) p) c.project.result _ c.project.ensures
    (stands-over q c.args.input c.input_of.result c.args.items _ c.in-Some.made c.args.subs _ originals c.as_slice.ensures c.as_slice-2.ensures
    (subst (λ found. IfSome found (λ made. (c.as_slice-2.result.now ≡ []) × IsMerged c.args.input c.as_slice.result.now made)) c.in-Some.is c.in-Ok.ensures)
    c.input_of.ensures s t)

pub returns-in-None : goal.returns-in-None
returns-in-None c q originals s t =
    of_made (λ p. Stands (Project q c.args.items originals) p) c.project-in-None.result _ c.project-in-None.ensures
    (stands-Project q c.args.input s c.args.items c.args.items (items-themselves c.args.items) originals c.args.subs t)
