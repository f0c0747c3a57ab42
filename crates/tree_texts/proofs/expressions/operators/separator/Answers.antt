use Rattle.std.proofs.Common.{◌∙◌, [], cond, nat_eq, ap}
use Rattle.tree_texts.proofs.Counted.{separator-is}
use Rattle.tree_texts.proofs.expressions.operators.separator.Goals as goal

pub returns : goal.returns
returns c =
    let first = c.args.first.now in
    let later = c.args.later.now in
    c.either.ensures
    ∙ ap (λ t. cond (nat_eq c.args.number 0) [] t) (c.either-behind.ensures ∙ ap (λ b. cond b first later) c.is_one.ensures)
    ∙ separator-is first later c.args.number
