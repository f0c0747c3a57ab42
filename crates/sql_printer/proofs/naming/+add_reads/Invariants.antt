use Rattle.std.proofs.Common.{◌≡◌, ◌*◌, suc, drop}
use Rattle.bag_algebra.specs.built.Measures.{inputs_size, subs_size}
use Rattle.bag_algebra.specs.Inputs.{given}
use Rattle.bag_algebra.specs.Measures.{size_of}
use Rattle.stored_provenance.specs.Reads.{sublinks_read}
use Rattle.sql_printer.specs.Called.{with_reads}
use Rattle.sql_printer.proofs.naming.+add_reads.Given as goal

abbrev pub decreases-add_reads : goal.decreases-add_reads
decreases-add_reads l = 2 * size_of l.query.now

abbrev pub decreases-add_inputs : goal.decreases-add_inputs
decreases-add_inputs l = suc (2 * inputs_size (given l.inputs))

abbrev pub decreases-add_sublinks : goal.decreases-add_sublinks
decreases-add_sublinks l = suc (2 * subs_size l.subs.now)

-- what is named, and then what the rest reads, is what all of them read
abbrev pub invariant-add_sublinks-loop-sub : goal.invariant-add_sublinks-loop-sub
invariant-add_sublinks-loop-sub l =
    with_reads l.catalog (sublinks_read (drop l.sub-index l.subs)) l.tables ≡ with_reads l.catalog (sublinks_read l.subs) l.initial.tables
