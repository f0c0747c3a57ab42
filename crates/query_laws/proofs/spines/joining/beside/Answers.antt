use Rattle.std.proofs.Common.{subst, IfSome}
use Rattle.std.specs.Prelude.{IsTrue}
use Rattle.bag_algebra.specs.Kinds.{width_of}
use Rattle.bag_algebra.specs.declared.query.Query.TheVariants.{Apply}
use Rattle.contribution.proofs.NodeQueries.{of_made}
use Rattle.query_laws.proofs.Besides.{beside-spine, beside-itself, joined-spine, joined-itself}
use Rattle.query_laws.specs.spines.Spines.{IsBeside, IsJoined, IsSpine, all_behind, spine_join}
use Rattle.query_laws.proofs.spines.joining.beside.Goals as goal

pub returns-in-Some-clause-beside : goal.returns-in-Some-clause-beside
returns-in-Some-clause-beside c =
    of_made (IsBeside c.args.rows c.args.right) c.join_spine.result (spine_join c.outwards.result c.args.rows c.in-Some.spine) c.join_spine.ensures
    (beside-spine c.args.rows c.args.right c.outwards.result c.in-Some.spine c.outwards.ensures
    (subst (λ found. IfSome found (λ spine. IsSpine (width_of c.args.rows) c.args.right spine × IsTrue (all_behind (width_of c.args.rows) spine.items))) c.in-Some.is
    c.in-Ok.ensures))

pub returns-in-Some-clause-joined : goal.returns-in-Some-clause-joined
returns-in-Some-clause-joined c =
    of_made (IsJoined c.args.rows c.args.right) c.join_spine.result (spine_join c.outwards.result c.args.rows c.in-Some.spine) c.join_spine.ensures
    (joined-spine c.args.rows c.args.right c.outwards.result c.in-Some.spine c.outwards.ensures
    (subst (λ found. IfSome found (λ spine. IsSpine (width_of c.args.rows) c.args.right spine × IsTrue (all_behind (width_of c.args.rows) spine.items))) c.in-Some.is
    c.in-Ok.ensures))

pub returns-in-None-clause-beside : goal.returns-in-None-clause-beside
returns-in-None-clause-beside c =
    of_made (IsBeside c.args.rows c.args.right) c.apply.result (Apply c.outwards-in-None.result c.args.rows c.args.right) c.apply.ensures
    (beside-itself c.args.rows c.args.right c.outwards-in-None.result c.outwards-in-None.ensures)

pub returns-in-None-clause-joined : goal.returns-in-None-clause-joined
returns-in-None-clause-joined c =
    of_made (IsJoined c.args.rows c.args.right) c.apply.result (Apply c.outwards-in-None.result c.args.rows c.args.right) c.apply.ensures
    (joined-itself c.args.rows c.args.right c.outwards-in-None.result c.outwards-in-None.ensures)
