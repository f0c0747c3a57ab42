use Rattle.std.proofs.Common.{◌≡◌, ◌<◌, true, List, length, Err, arith, rules, sym, ◌∙◌}
use Rattle.std.proofs.lemmas.Result.{err_from_is_err_and}
use Rattle.sql_lexer.specs.declared.token.Token.{Token}
use Rattle.sql_tree.specs.grammar.Cursors.{Reads, sees}
use Rattle.sql_tree.specs.grammar.Descent.{Parsed, Taken}
use Rattle.sql_tree.specs.grammar.Lists.{all_of}
use Rattle.sql_tree.proofs.Listing.{Takes, Within-next, Within-stopped, Within-done, fails-on}
use Rattle.sql_tree.proofs.grammar.repeats.all_items.Goals as goal

takes_of : {X : Type 0} (reading : List Token → Parsed Token X) →
    ((old : List Token) (x : X) (new : List Token) → reading old ≡ Taken x new → length new < length old) → Takes reading
takes_of reading fewer = record { fewer = fewer }

pub returns-in_err-item-clause-given : goal.returns-in_err-item-clause-given
returns-in_err-item-clause-given g c = λ reading reader.
    let whole = all_of c.args.sorts.now reading c.args.cursor.now in
    let p = err_from_is_err_and c.from_residual.result c.from_residual.ensures.1 in
    let seen : sees c.args.sorts.now c.loop-found.cursor ≡ true = sym c.sees_any.ensures ∙ c.loop-found-test.true in
    let e : Reads (Err c.in_err-item.field-0.0) (reading c.loop-found.cursor) c.item.new.arg2 = search rules in
    rw (p.1, p.2) (fails-on c.in_err-item.field-0.0 (reading c.loop-found.cursor) whole c.item.new.arg2
    (λ stopped. Within-stopped c.args.sorts.now reading (takes_of reading reader.fewer) whole c.loop-found.found c.loop-found.cursor c.item.new.arg2
    seen stopped (c.loop-found.invariant.within reading reader)) e)

pub loop-found-preserved : goal.loop-found-preserved
loop-found-preserved g c =
    let seen : sees c.args.sorts.now c.loop-found.cursor ≡ true = sym c.sees_any.ensures ∙ c.loop-found-test.true in
    let less : length c.item.new.arg2 < length c.loop-found.cursor = search rules in
    record {
      within = λ reading reader.
          let e : reading c.loop-found.cursor ≡ Taken c.in_ok-item.field-0 c.item.new.arg2 = search rules in
          rw c.in_ok-push.ensures.ok (Within-next c.args.sorts.now reading (takes_of reading reader.fewer) (all_of c.args.sorts.now reading c.args.cursor.now)
          c.loop-found.found c.loop-found.cursor c.item.new.arg2 c.in_ok-item.field-0 seen e (c.loop-found.invariant.within reading reader));
      fewer = omega (arith, less);
    }

pub returns-clause-given : goal.returns-clause-given
returns-clause-given g c = λ reading reader.
    Within-done c.args.sorts.now reading (all_of c.args.sorts.now reading c.args.cursor.now) c.loop-found.found c.loop-found.cursor
    (sym c.sees_any.ensures ∙ c.loop-found-test.false) (c.loop-found.invariant.within reading reader)
