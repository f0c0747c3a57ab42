use Rattle.std.proofs.Common.{[]}
use Rattle.simplifier.proofs.Unread.{unread-below, unread-itself, unread-onward}
use Rattle.simplifier.proofs.bare.+below.Goals as goal

pub returns-then-is_unread : goal.returns-then-is_unread
returns-then-is_unread t c =
    let unread = c.is_unread.ensures c.if-is_unread.true in
    unread-onward c.args.query c.input_of.result c.below.result
    (unread-below c.args.query c.input_of.result unread (c.input_of.ensures unread.input unread.items [] unread.is)) c.below.ensures

pub returns : goal.returns
returns t c = unread-itself c.args.query
