use Rattle.std.proofs.Common.{IfOk, subst}
use Rattle.rewrite_move.proofs.contributions.beside_all.Goals as goal
use Rattle.query_laws.specs.spines.Spines.{IsBeside, IsJoined}

pub returns-clause-beside : goal.returns-clause-beside
returns-clause-beside c = subst (λ right. IfOk c.beside.result (λ p. IsBeside c.args.rows right p)) c.in-Ok.ensures c.beside.ensures.beside

pub returns-clause-joined : goal.returns-clause-joined
returns-clause-joined c = subst (λ right. IfOk c.beside.result (λ p. IsJoined c.args.rows right p)) c.in-Ok.ensures c.beside.ensures.joined
