use Rattle.std.proofs.Common.{◌∙◌, length, ap, sym, arith}
use Rattle.std.proofs.lemmas.List.{take_all}
use Rattle.std.specs.Io.KnownBytes.{append_known}
use Rattle.perm_engine.proofs.meaning.Lines.{cut-short, finished}
use Rattle.perm_engine.proofs.meaning.stopping.finish.Goals as goal

pub returns-in-Ok-flush-clause-ends : goal.returns-in-Ok-flush-clause-ends
returns-in-Ok-flush-clause-ends g c = λ stop line said.
    finished stop c.args.line.now c.args.status _ line said c.requires (c.in-Ok-flush.ensures.written ∙ c.in-Ok.ensures.whole) c.in-Ok-flush.ensures.flushed
    (c.in-Ok-flush.ensures.faults ∙ c.in-Ok.ensures.faults)

pub returns-in-Err-flush-clause-ends : goal.returns-in-Err-flush-clause-ends
returns-in-Err-flush-clause-ends g c = λ stop line said.
    cut-short stop c.args.line.now _ (length c.args.line.now) line (omega arith)
    (c.in-Err-flush.ensures.written ∙ c.in-Ok.ensures.whole ∙ ap (append_known (g.K.Sink.told c.args.out.now).written) (sym (take_all (length c.args.line.now) c.args.line.now (omega arith))))
    (rw (← c.in-Ok.ensures.faults) c.in-Err-flush.ensures.faults)

pub returns-in-Err-clause-ends : goal.returns-in-Err-clause-ends
returns-in-Err-clause-ends g c = λ stop line said.
    cut-short stop c.args.line.now _ c.in-Err.ensures.prefix.0 line (omega (arith, c.in-Err.ensures.prefix.1)) c.in-Err.ensures.prefix.2 c.in-Err.ensures.faults
