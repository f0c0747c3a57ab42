use Rattle.std.proofs.Common.{◌≡◌, ap, ◌∙◌}
use Rattle.bag_algebra.specs.TablesRead.{tables_read}
use Rattle.stored_provenance.specs.Reads.{with_reads}
use Rattle.stored_provenance.proofs.KeptOnce.{query-kept}
use Rattle.stored_provenance.proofs.kept.kept_of.Goals as goal

pub returns : goal.returns
returns c =
    c.in_ok-keep_reads.ensures
    ∙ ap (with_reads c.args.catalog.now (tables_read c.args.query.now)) c.new-kept.ensures
    ∙ query-kept c.args.catalog.now c.args.query.now
