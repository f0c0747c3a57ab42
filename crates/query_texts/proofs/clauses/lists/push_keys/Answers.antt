use Rattle.std.proofs.Common.{◌+◌, refl}
use Rattle.tree_texts.proofs.Pieces.{rest_at, rest_end}
use Rattle.query_texts.specs.clauses.ClauseTexts.{key_text, key_texts}
use Rattle.query_texts.proofs.clauses.lists.push_keys.Goals as goal

pub loop-number-preserved : goal.loop-number-preserved
loop-number-preserved c =
    let number = c.loop-number.number in
    rest_at (key_texts number) (key_texts (number + 1)) (key_text number) _ c.loop-number.draft _ c.args.keys.now number _
    c.loop-number-test.true refl c.loop-number.invariant c.in_ok-push_key.ensures

pub returns : goal.returns
returns c =
    rest_end (key_texts c.loop-number.number) _ c.loop-number.draft c.args.keys.now c.loop-number.number c.loop-number-test.false refl
    c.loop-number.invariant
