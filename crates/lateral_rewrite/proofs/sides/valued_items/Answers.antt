use Rattle.std.proofs.Common.{◌≡◌, ◌∙◌, IfOk, subst}
use Rattle.rewrite_sublink.specs.Candidates.{beside_row}
use Rattle.lateral_rewrite.proofs.sides.valued_items.Goals as goal

pub returns : goal.returns
returns c =
    subst (λ items. IfOk c.beside_row.result (λ all. all ≡ beside_row c.args.rows.now items)) (c.as_slice.ensures ∙ c.in_ok-items.ensures) c.beside_row.ensures
