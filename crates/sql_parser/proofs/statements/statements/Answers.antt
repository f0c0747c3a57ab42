use Rattle.std.proofs.Common.{◌≡◌, ◌≤◌, true, [], ◌∷◌, ◌++◌, length, Err, sym, ap, subst, ◌∙◌, arith}
use Rattle.std.proofs.lemmas.Result.{err_from_is_err_and}
use Rattle.sql_tree.specs.grammar.Building.{present}
use Rattle.sql_tree.specs.grammar.Cursors.{Reads, past, sees}
use Rattle.sql_tree.specs.grammar.Descent.{Taken}
use Rattle.sql_tree.specs.grammar.Lists.{listed}
use Rattle.sql_tree.specs.declared.grammar.sort.Sort.TheVariants.{Semicolon}
use Rattle.sql_tree.proofs.Listing.{fails-on}
use Rattle.sql_parser.specs.built.Statements.{optional_statement, statements}
use Rattle.sql_parser.proofs.Keeping.{Keeping, keeping-first, keeping-next, keeping-stopped, keeping-done}
use Rattle.sql_parser.proofs.statements.statements.Goals as goal

pub loop-cursor-init : goal.loop-cursor-init
loop-cursor-init c =
    let whole = listed Semicolon optional_statement c.args.cursor.now in
    let first = c.in_ok-optional_statement.field-0 in
    let e : optional_statement c.args.cursor.now ≡ Taken first c.optional_statement.new.cursor = c.in_ok-optional_statement.ensures.given in
    let kept : c.keep.new.kept ≡ present (first ∷ []) = c.in_ok-keep.ensures ∙ ap (λ l. l ++ present (first ∷ [])) c.new-kept.ensures in
    record {
      keeping = subst (λ l. Keeping whole l c.optional_statement.new.cursor) (sym kept) (keeping-first c.args.cursor.now c.optional_statement.new.cursor first e);
      within = c.in_ok-optional_statement.ensures.fewer;
    }

pub returns-in_err-optional_statement-2-clause-given : goal.returns-in_err-optional_statement-2-clause-given
returns-in_err-optional_statement-2-clause-given c =
    let whole = listed Semicolon optional_statement c.args.cursor.now in
    let unread = c.in_err-optional_statement-2.field-0.0 in
    let rest = c.optional_statement-in-loop-cursor.new.cursor in
    let p = err_from_is_err_and c.from_residual-in_err-optional_statement-2.result c.from_residual-in_err-optional_statement-2.ensures.1 in
    let seen : sees (Semicolon ∷ []) c.loop-cursor.cursor ≡ true = sym c.sees.ensures ∙ c.loop-cursor-test.true in
    let passed : past Semicolon c.loop-cursor.cursor ≡ Taken tt c.past.new.self = c.in_ok-past.ensures.given in
    let e : Reads (Err unread) (optional_statement c.past.new.self) rest = c.in_err-optional_statement-2.ensures.given in
    rw (p.1, p.2) (fails-on unread (optional_statement c.past.new.self) (statements c.args.cursor.now) rest
    (λ stopped. keeping-stopped whole c.loop-cursor.kept c.loop-cursor.cursor c.past.new.self rest seen passed stopped c.loop-cursor.invariant.keeping) e)

pub loop-cursor-preserved : goal.loop-cursor-preserved
loop-cursor-preserved c =
    let whole = listed Semicolon optional_statement c.args.cursor.now in
    let found = c.in_ok-optional_statement-2.field-0 in
    let rest = c.optional_statement-in-loop-cursor.new.cursor in
    let seen : sees (Semicolon ∷ []) c.loop-cursor.cursor ≡ true = sym c.sees.ensures ∙ c.loop-cursor-test.true in
    let passed : past Semicolon c.loop-cursor.cursor ≡ Taken tt c.past.new.self = c.in_ok-past.ensures.given in
    let e : optional_statement c.past.new.self ≡ Taken found rest = c.in_ok-optional_statement-2.ensures.given in
    let kept : c.keep-in-loop-cursor.new.kept ≡ c.loop-cursor.kept ++ present (found ∷ []) = c.in_ok-keep-2.ensures in
    let less = c.in_ok-past.ensures.fewer in
    let fewer : length rest ≤ length c.past.new.self = c.in_ok-optional_statement-2.ensures.fewer in
    record {
      keeping = subst (λ l. Keeping whole l rest) (sym kept)
          (keeping-next whole c.loop-cursor.kept c.loop-cursor.cursor c.past.new.self rest found seen passed e c.loop-cursor.invariant.keeping);
      within = omega (arith, fewer, less, c.loop-cursor.invariant.within);
    }

pub returns-clause-given : goal.returns-clause-given
returns-clause-given c =
    keeping-done (listed Semicolon optional_statement c.args.cursor.now) c.loop-cursor.kept c.loop-cursor.cursor
    (sym c.sees.ensures ∙ c.loop-cursor-test.false) c.loop-cursor.invariant.keeping
