use Rattle.refusal_tokens.proofs.Choosing.{added, one_less}
use Rattle.refusal_tokens.proofs.standing.add_standing.Goals as goal

pub returns-then-could : goal.returns-then-could
returns-then-could c = added _ c.args.front.now _ _ c.args.text c.push.ensures.ok (c.in_ok-could.ensures.0 c.if-could.true)

pub returns : goal.returns
returns c = λ texts a. one_less c.args.front.now c.args.text.now a (λ stands.
    let yes = c.in_ok-could.ensures.1 stands in
    let no = c.if-could.false in
    absurd cc)
