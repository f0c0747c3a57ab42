use Rattle.std.proofs.Common.{subst₂}
use Rattle.contribution.proofs.NodeQueries.{of_made}
use Rattle.lateral_rewrite.specs.Dependent.{chosen_beside}
use Rattle.rewrite_core.specs.rewritings.KeptColumns.{columns_kept}
use Rattle.rewrite_move.proofs.MovedRows.{chosen-moved}
use Rattle.rewrite_move.proofs.contributions.beside_chosen.Goals as goal
use Rattle.rewrite_move.specs.Moved.{Like}
use Rattle.query_laws.specs.spines.Spines.{IsBeside, IsJoined}

pub returns : goal.returns
returns c whole l =
    of_made (Like (chosen_beside c.args.choice c.args.operand.now whole c.args.standing.now c.args.rewriting.now)) c.columns_kept.result
    (columns_kept c.in_ok-pairs.pairs c.in-Ok.place 2) c.columns_kept.ensures
    (chosen-moved whole c.args.rows l c.args.rewriting.now c.requires.plain c.args.choice c.args.operand.now c.args.standing.now c.in_ok-pairs.pairs c.in-Ok.place
    c.requires.query c.in-Ok.ensures.columns (
      subst₂ (λ left right. IsBeside left right c.in_ok-pairs.pairs) c.in-Ok-valued.ensures c.in-Ok-chosen_provenance.ensures c.in_ok-pairs.ensures.beside,
      subst₂ (λ left right. IsJoined left right c.in_ok-pairs.pairs) c.in-Ok-valued.ensures c.in-Ok-chosen_provenance.ensures c.in_ok-pairs.ensures.joined,
    ))
