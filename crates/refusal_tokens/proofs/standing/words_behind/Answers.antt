use Rattle.refusal_tokens.proofs.Choosing.{words_more}
use Rattle.refusal_tokens.proofs.standing.words_behind.Goals as goal

pub returns : goal.returns
returns c =
    words_more c.args.front.now c.in_ok-could_stand.field-0 _ _ _ c.if-branch.false c.in_ok-could_stand.ensures c.in_ok-append.ensures.ok
    c.in_ok-those.ensures c.in_ok-those_of.ensures
