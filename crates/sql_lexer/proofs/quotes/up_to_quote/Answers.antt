use Rattle.std.proofs.Common.{[], ◌∷◌, ◌++◌, ◌+◌, drop, get_or, ◌∙◌, arith, sym, ap}
use Rattle.std.proofs.lemmas.List.{take_rest}
use Rattle.sql_lexer.specs.Reading.{unquoted}
use Rattle.sql_lexer.proofs.BetweenQuotes.{at_other, at_pair, at_close, at_end, len_of, len_behind}
use Rattle.sql_lexer.proofs.quotes.up_to_quote.Goals as goal

pub loop-at-preserved-then-byte-quote : goal.loop-at-preserved-then-byte-quote
loop-at-preserved-then-byte-quote c =
    let quote = c.args.quote in
    let rest = c.args.rest.now in
    let at = c.loop-at.at in
    record {
      within = omega arith;
      same = len_behind ([] ++ get_or rest at 0 ∷ []) (at + 1) (unquoted quote (drop (at + 1) rest)) ∙ ap len_of (at_other quote at rest [] c.loop-at-test.true c.if-byte-quote.true)
          ∙ c.loop-at.invariant.same;
    }

pub loop-at-preserved : goal.loop-at-preserved
loop-at-preserved c =
    let quote = c.args.quote in
    let rest = c.args.rest.now in
    let at = c.loop-at.at in
    let pair = at_pair quote at rest [] c.loop-at-test.true c.if-byte-quote.false (rw take_rest at (sym c.begins_with.ensures.value ∙ c.if-begins_with.true)) in
    record {
      within = pair.0;
      same = len_behind ([] ++ quote ∷ []) (at + 2) (unquoted quote (drop (at + 2) rest)) ∙ ap len_of pair.1 ∙ c.loop-at.invariant.same;
    }

pub returns-else-begins_with-clause-value : goal.returns-else-begins_with-clause-value
returns-else-begins_with-clause-value c =
    let close = at_close c.args.quote c.loop-at.at c.args.rest.now [] c.loop-at-test.true c.if-byte-quote.false (rw take_rest at (sym c.begins_with.ensures.value ∙ c.if-begins_with.false)) in
    sym (ap len_of close) ∙ c.loop-at.invariant.same

pub returns-clause-value : goal.returns-clause-value
returns-clause-value c = sym (ap len_of (at_end c.args.quote c.loop-at.at c.args.rest.now [] c.loop-at-test.false)) ∙ c.loop-at.invariant.same
