use Rattle.std.proofs.Common.{subst₂}
use Rattle.contribution.proofs.NodeQueries.{of_made}
use Rattle.rewrite_core.specs.rewritings.KeptColumns.{columns_kept}
use Rattle.rewrite_move.proofs.MovedRows.{matching-moved}
use Rattle.rewrite_move.proofs.known.beside_matching.Goals as goal
use Rattle.rewrite_move.specs.Moved.{Like, matching_beside}
use Rattle.query_laws.specs.spines.Spines.{IsBeside, IsJoined}

pub returns : goal.returns
returns c whole l =
    of_made (Like (matching_beside c.args.choice c.args.operand.now whole c.args.standing.now c.args.rewriting.now)) c.columns_kept.result
    (columns_kept c.in_ok-pairs.pairs c.in-Ok.place 1) c.columns_kept.ensures
    (matching-moved whole c.args.rows l c.args.rewriting.now c.requires.plain c.args.choice c.args.operand.now c.args.standing.now c.in_ok-pairs.pairs c.in-Ok.place
    c.in-Ok.ensures.columns (
      subst₂ (λ left right. IsBeside left right c.in_ok-pairs.pairs) c.in-Ok-with_operand.ensures c.in-Ok-matching_provenance.ensures c.in_ok-pairs.ensures.beside,
      subst₂ (λ left right. IsJoined left right c.in_ok-pairs.pairs) c.in-Ok-with_operand.ensures c.in-Ok-matching_provenance.ensures c.in_ok-pairs.ensures.joined,
    ))
