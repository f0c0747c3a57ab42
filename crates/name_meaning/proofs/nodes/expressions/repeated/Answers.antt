use Rattle.std.proofs.Common.{◌≡◌, ◌∷◌, [], ap, sym, ◌∙◌}
use Rattle.perm_values.proofs.Results.{where_made}
use Rattle.bag_algebra.specs.declared.expr.Expr.{Expr}
use Rattle.bag_algebra.specs.declared.expr.Expr.TheVariants.{Op}
use Rattle.name_meaning.specs.Expressions.{times}
use Rattle.name_meaning.proofs.Times.{times-odd, times-even}
use Rattle.name_meaning.proofs.nodes.expressions.repeated.Goals as goal

pub returns-then-count-eq1 : goal.returns-then-count-eq1
returns-then-count-eq1 c =
    rw c.in_ok-part.was (c.in_ok-once.ensures ∙ sym (times-odd c.args.op c.args.count c.in_ok-part.part c.if-count-eq1.true))

pub returns : goal.returns
returns c =
    let op = c.args.op in
    let part = c.in_ok-part.part in
    let even = times-even op c.args.count part c.if-count-eq1.false c.if-count-eq0.false in
    rw c.in_ok-part.was
    (where_made (λ made. made ≡ Op op (c.in_ok-once.once ∷ [])) (λ made. made ≡ times op c.args.count part) c.on_one-2.result
    (λ made is. is ∙ ap (λ (once : Expr). Op op (once ∷ [])) c.in_ok-once.ensures ∙ sym even) c.on_one-2.ensures)
