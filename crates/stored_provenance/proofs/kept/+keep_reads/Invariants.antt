use Rattle.std.proofs.Common.{◌≡◌, ◌*◌, suc, drop}
use Rattle.bag_algebra.specs.built.Measures.{inputs_size, subs_size}
use Rattle.bag_algebra.specs.Inputs.{given}
use Rattle.bag_algebra.specs.Measures.{size_of}
use Rattle.stored_provenance.specs.Reads.{with_reads, sublinks_read}
use Rattle.stored_provenance.proofs.kept.+keep_reads.Given as goal

abbrev pub decreases-keep_reads : goal.decreases-keep_reads
decreases-keep_reads l = 2 * size_of l.query.now

abbrev pub decreases-keep_inputs : goal.decreases-keep_inputs
decreases-keep_inputs l = suc (2 * inputs_size (given l.inputs))

abbrev pub decreases-keep_sublinks : goal.decreases-keep_sublinks
decreases-keep_sublinks l = suc (2 * subs_size l.subs.now)

-- what is kept, and then what the rest reads, is what all of them read
abbrev pub invariant-keep_sublinks-loop-sub : goal.invariant-keep_sublinks-loop-sub
invariant-keep_sublinks-loop-sub l =
    with_reads l.catalog (sublinks_read (drop l.sub-index l.subs)) l.kept ≡ with_reads l.catalog (sublinks_read l.subs) l.initial.kept
