use Rattle.std.proofs.Common.{[], ◌∷◌, drop, arith}
use Rattle.std.proofs.lemmas.List.{append-nil}
use Rattle.std.proofs.lemmas.Result.{err_from_is_err_and}
use Rattle.sql_lexer.specs.Lexes.{nothing}
use Rattle.sql_lexer.specs.Reading.{next}
use Rattle.sql_lexer.proofs.OneReading.{turn, may_refuse, begins_with_found, none_out}
use Rattle.sql_lexer.proofs.split.split.Goals as goal

pub loop-at-init : goal.loop-at-init
loop-at-init c = (omega arith, rw c.new-found.ensures nothing)

pub returns-in_err-end-clause-refused : goal.returns-in_err-end-clause-refused
returns-in_err-end-clause-refused c =
    let p = err_from_is_err_and c.from_residual.result c.from_residual.ensures.1 in
    rw (p.1, p.2) (may_refuse c.args.bytes.now c.loop-at.at c.loop-at.found c.in_err-end.field-0.0 c.requires c.loop-at.invariant.1 c.in_err-end.ensures)

pub returns-in_err-end-clause-memory : goal.returns-in_err-end-clause-memory
returns-in_err-end-clause-memory c =
    let p = err_from_is_err_and c.from_residual.result c.from_residual.ensures.1 in
    rw (p.1, p.2) (λ e. absurd (none_out (next c.loop-at.at (drop c.loop-at.at c.args.bytes.now)) c.in_err-end.field-0.0 c.in_err-end.ensures cc))

pub returns-in_err-push-in-Found-clause-memory : goal.returns-in_err-push-in-Found-clause-memory
returns-in_err-push-in-Found-clause-memory c = λ e.
    begins_with_found c.args.bytes.now c.loop-at.at c.loop-at.found c.requires c.loop-at.invariant.0 c.loop-at.invariant.1 _ (rw c.in-Found.is at c.in_ok-end.ensures) tt

pub loop-at-smaller-in-Skipped : goal.loop-at-smaller-in-Skipped
loop-at-smaller-in-Skipped c =
    let t = turn c.args.bytes.now c.loop-at.at c.in-Skipped.end c.loop-at.found [] c.loop-at.invariant.0 c.loop-at.invariant.1 (rw c.in-Skipped.is at c.in_ok-end.ensures) in
    omega (arith, t.goes, t.within)

pub loop-at-preserved-in-Skipped : goal.loop-at-preserved-in-Skipped
loop-at-preserved-in-Skipped c =
    let t = turn c.args.bytes.now c.loop-at.at c.in-Skipped.end c.loop-at.found [] c.loop-at.invariant.0 c.loop-at.invariant.1 (rw c.in-Skipped.is at c.in_ok-end.ensures) in
    (t.within, rw append-nil at t.lexes)

pub loop-at-smaller : goal.loop-at-smaller
loop-at-smaller c =
    let t = turn c.args.bytes.now c.loop-at.at c.in-Found.token.end c.loop-at.found (c.in-Found.token ∷ []) c.loop-at.invariant.0 c.loop-at.invariant.1 (rw c.in-Found.is at c.in_ok-end.ensures) in
    rw c.end-at.ensures (omega (arith, t.goes, t.within))

pub loop-at-preserved : goal.loop-at-preserved
loop-at-preserved c =
    let t = turn c.args.bytes.now c.loop-at.at c.in-Found.token.end c.loop-at.found (c.in-Found.token ∷ []) c.loop-at.invariant.0 c.loop-at.invariant.1 (rw c.in-Found.is at c.in_ok-end.ensures) in
    rw c.end-at.ensures (t.within, rw c.in_ok-push-in-Found.ensures.ok t.lexes)
