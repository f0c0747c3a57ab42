use Rattle.std.proofs.Common.{◌+◌, ◌++◌, drop, append-nil, sym, ap, ◌∙◌}
use Rattle.bag_algebra.proofs.Rest.{from_here}
use Rattle.bag_algebra.specs.Inputs.{given}
use Rattle.bag_algebra.specs.TablesRead.{tables_read}
use Rattle.stored_provenance.specs.Reads.{inputs_read, sublinks_read}
use Rattle.stored_provenance.proofs.Reading.{tables_read-node, on_ok}
use Rattle.sql_printer.specs.Called.{with_reads}
use Rattle.sql_printer.proofs.NamedTables.{with_reads-append}
use Rattle.sql_printer.proofs.naming.+add_reads.Goals as goal

pub add_inputs-returns-in_ok-add_reads-in-Two : goal.add_inputs-returns-in_ok-add_reads-in-Two
add_inputs-returns-in_ok-add_reads-in-Two t c =
    on_ok c.add_reads-in-Two-2.result
    (λ tables. tables
    ∙ ap (with_reads c.args.catalog.now (tables_read c.in-Two.right.now)) c.in_ok-add_reads-in-Two.ensures
    ∙ sym (with_reads-append c.args.catalog.now (tables_read c.in-Two.left.now) (tables_read c.in-Two.right.now) c.args.tables.now)
    ∙ ap (λ reads. with_reads c.args.catalog.now (tables_read c.in-Two.left.now ++ reads) c.args.tables.now) (sym (append-nil (tables_read c.in-Two.right.now)))
    ∙ ap (λ inputs. with_reads c.args.catalog.now (inputs_read (given inputs)) c.args.tables.now) (sym c.in-Two.is))
    c.add_reads-in-Two-2.ensures

pub add_reads-returns : goal.add_reads-returns
add_reads-returns t c =
    on_ok c.add_sublinks.result
    (λ tables. tables
    ∙ ap (with_reads c.args.catalog.now (sublinks_read c.sublinks.result.now)) c.in_ok-add_inputs.ensures
    ∙ sym (with_reads-append c.args.catalog.now (inputs_read (given c.inputs.result)) (sublinks_read c.sublinks.result.now) c.args.tables.now)
    ∙ (λ i. with_reads c.args.catalog.now (inputs_read (c.inputs.ensures i) ++ sublinks_read (c.sublinks.ensures i)) c.args.tables.now)
    ∙ ap (λ reads. with_reads c.args.catalog.now reads c.args.tables.now) (sym (tables_read-node c.args.query.now c.in_default.not-Table)))
    c.add_sublinks.ensures

pub add_sublinks-loop-sub-preserved : goal.add_sublinks-loop-sub-preserved
add_sublinks-loop-sub-preserved t c =
    ap (with_reads c.args.catalog.now (sublinks_read (drop (c.loop-sub.sub-index + 1) c.args.subs.now))) c.in_ok-add_reads.ensures
    ∙ sym (with_reads-append c.args.catalog.now (tables_read c.sub-item.result.query) (sublinks_read (drop (c.loop-sub.sub-index + 1) c.args.subs.now)) c.loop-sub.tables)
    ∙ sym (from_here (λ subs. with_reads c.args.catalog.now (sublinks_read subs) c.loop-sub.tables) c.args.subs.now c.loop-sub.sub-index c.sub-item.result c.loop-sub-test.true c.sub-item.is)
    ∙ c.loop-sub.invariant
