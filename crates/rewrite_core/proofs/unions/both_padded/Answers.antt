use Rattle.std.proofs.Common.{◌≡◌, ◌∙◌, true, IfOk, subst₂}
use Rattle.bag_algebra.specs.Kinds.{width_of}
use Rattle.bag_algebra.specs.built.Patterns.{UnionOf}
use Rattle.rewrite_core.specs.UnionColumns.{padded_behind}
use Rattle.rewrite_core.proofs.unions.both_padded.Goals as goal

pub returns : goal.returns
returns c =
    subst₂ (λ side added. IfOk c.beside.result (λ p. p ≡ UnionOf true side (padded_behind c.args.right_rewriting (width_of c.args.right.now) added)))
    c.in-Ok-padded.ensures (c.as_slice.ensures ∙ c.in-Ok.ensures) c.beside.ensures
