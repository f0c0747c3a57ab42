use Rattle.std.proofs.Common.{◌≡◌, ◌≤◌, true, List, [], ◌∷◌, length, Err, arith, rules, sym, ◌∙◌}
use Rattle.std.proofs.lemmas.Result.{err_from_is_err_and}
use Rattle.sql_lexer.specs.declared.token.Token.{Token}
use Rattle.sql_tree.specs.grammar.Cursors.{Reads, sees, past}
use Rattle.sql_tree.specs.grammar.Descent.{Parsed, Taken}
use Rattle.sql_tree.specs.grammar.Lists.{more_listed}
use Rattle.sql_tree.proofs.Listing.{Keeps, Amid-next, Amid-stopped, Amid-done, fails-on}
use Rattle.sql_tree.proofs.grammar.lists.list_from.Goals as goal

keeps_of : {X : Type 0} (reading : List Token → Parsed Token X) →
    ((old : List Token) (x : X) (new : List Token) → reading old ≡ Taken x new → length new ≤ length old) → Keeps reading
keeps_of reading fewer = record { fewer = fewer }

pub returns-in_err-item-clause-given : goal.returns-in_err-item-clause-given
returns-in_err-item-clause-given g c = λ reading reader.
    let whole = more_listed c.args.separator reading c.args.first c.args.cursor.now in
    let p = err_from_is_err_and c.from_residual-in_err-item.result c.from_residual-in_err-item.ensures.1 in
    let seen : sees (c.args.separator ∷ []) c.loop-separator.cursor ≡ true = sym c.sees.ensures ∙ c.loop-separator-test.true in
    let passed : past c.args.separator c.loop-separator.cursor ≡ Taken tt c.past.new.self = c.in_ok-past.ensures.given in
    let e : Reads (Err c.in_err-item.field-0.0) (reading c.past.new.self) c.item.new.arg2 = search rules in
    rw (p.1, p.2) (fails-on c.in_err-item.field-0.0 (reading c.past.new.self) whole c.item.new.arg2
    (λ stopped. Amid-stopped c.args.separator reading (keeps_of reading reader.fewer) whole c.loop-separator.found c.loop-separator.cursor c.past.new.self
    c.item.new.arg2 seen passed stopped (c.loop-separator.invariant.amid reading reader)) e)

pub loop-separator-preserved : goal.loop-separator-preserved
loop-separator-preserved g c =
    let seen : sees (c.args.separator ∷ []) c.loop-separator.cursor ≡ true = sym c.sees.ensures ∙ c.loop-separator-test.true in
    let passed : past c.args.separator c.loop-separator.cursor ≡ Taken tt c.past.new.self = c.in_ok-past.ensures.given in
    let less = c.in_ok-past.ensures.fewer in
    let fewer : length c.item.new.arg2 ≤ length c.past.new.self = search rules in
    record {
      amid = λ reading reader.
          let e : reading c.past.new.self ≡ Taken c.in_ok-item.field-0 c.item.new.arg2 = search rules in
          rw c.in_ok-push-2.ensures.ok (Amid-next c.args.separator reading (keeps_of reading reader.fewer) (more_listed c.args.separator reading c.args.first c.args.cursor.now)
          c.loop-separator.found c.loop-separator.cursor c.past.new.self c.item.new.arg2 c.in_ok-item.field-0 seen passed e
          (c.loop-separator.invariant.amid reading reader));
      within = omega (arith, fewer, less);
    }

pub returns-clause-given : goal.returns-clause-given
returns-clause-given g c = λ reading reader.
    Amid-done c.args.separator reading (more_listed c.args.separator reading c.args.first c.args.cursor.now) c.loop-separator.found c.loop-separator.cursor
    (sym c.sees.ensures ∙ c.loop-separator-test.false) (c.loop-separator.invariant.amid reading reader)
