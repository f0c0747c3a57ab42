use Rattle.std.proofs.Common.{◌≡◌, ◌+◌, ◌++◌, drop, append-nil, sym, ap, ◌∙◌}
use Rattle.bag_algebra.proofs.Rest.{from_here}
use Rattle.bag_algebra.specs.Inputs.{given}
use Rattle.bag_algebra.specs.TablesRead.{tables_read}
use Rattle.stored_provenance.specs.Reads.{with_reads, inputs_read, sublinks_read}
use Rattle.stored_provenance.proofs.Reading.{with_reads-append, tables_read-node, on_ok}
use Rattle.stored_provenance.proofs.kept.+keep_reads.Goals as goal

pub keep_inputs-returns-in_ok-keep_reads-in-Two : goal.keep_inputs-returns-in_ok-keep_reads-in-Two
keep_inputs-returns-in_ok-keep_reads-in-Two t c =
    on_ok c.keep_reads-in-Two-2.result
    (λ kept. kept
    ∙ ap (with_reads c.args.catalog.now (tables_read c.in-Two.right.now)) c.in_ok-keep_reads-in-Two.ensures
    ∙ sym (with_reads-append c.args.catalog.now (tables_read c.in-Two.left.now) (tables_read c.in-Two.right.now) c.args.kept.now)
    ∙ ap (λ reads. with_reads c.args.catalog.now (tables_read c.in-Two.left.now ++ reads) c.args.kept.now) (sym (append-nil (tables_read c.in-Two.right.now)))
    ∙ ap (λ inputs. with_reads c.args.catalog.now (inputs_read (given inputs)) c.args.kept.now) (sym c.in-Two.is))
    c.keep_reads-in-Two-2.ensures

pub keep_reads-returns : goal.keep_reads-returns
keep_reads-returns t c =
    on_ok c.keep_sublinks.result
    (λ kept. kept
    ∙ ap (with_reads c.args.catalog.now (sublinks_read c.sublinks.result.now)) c.in_ok-keep_inputs.ensures
    ∙ sym (with_reads-append c.args.catalog.now (inputs_read (given c.inputs.result)) (sublinks_read c.sublinks.result.now) c.args.kept.now)
    ∙ (λ i. with_reads c.args.catalog.now (inputs_read (c.inputs.ensures i) ++ sublinks_read (c.sublinks.ensures i)) c.args.kept.now)
    ∙ ap (λ reads. with_reads c.args.catalog.now reads c.args.kept.now) (sym (tables_read-node c.args.query.now c.in_default.not-Table)))
    c.keep_sublinks.ensures

pub keep_sublinks-loop-sub-preserved : goal.keep_sublinks-loop-sub-preserved
keep_sublinks-loop-sub-preserved t c =
    ap (with_reads c.args.catalog.now (sublinks_read (drop (c.loop-sub.sub-index + 1) c.args.subs.now))) c.in_ok-keep_reads.ensures
    ∙ sym (with_reads-append c.args.catalog.now (tables_read c.sub-item.result.query) (sublinks_read (drop (c.loop-sub.sub-index + 1) c.args.subs.now)) c.loop-sub.kept)
    ∙ sym (from_here (λ subs. with_reads c.args.catalog.now (sublinks_read subs) c.loop-sub.kept) c.args.subs.now c.loop-sub.sub-index c.sub-item.result c.loop-sub-test.true c.sub-item.is)
    ∙ c.loop-sub.invariant
