use Rattle.std.proofs.Common.{◌≡◌, ◌*◌, suc, drop}
use Rattle.bag_algebra.specs.built.Measures.{inputs_size, subs_size}
use Rattle.bag_algebra.specs.built.Scopes.{all_over_tables}
use Rattle.bag_algebra.specs.Inputs.{given}
use Rattle.bag_algebra.specs.Measures.{size_of}
use Rattle.bag_algebra.proofs.measures.scopes.+over_tables.Given as goal

abbrev pub decreases-over_tables : goal.decreases-over_tables
decreases-over_tables l = 2 * size_of l.query.now

abbrev pub decreases-inputs_over_tables : goal.decreases-inputs_over_tables
decreases-inputs_over_tables l = suc (2 * inputs_size (given l.inputs))

abbrev pub decreases-all_over_tables : goal.decreases-all_over_tables
decreases-all_over_tables l = suc (2 * subs_size l.subs.now)

-- the sublinks that are left decide
abbrev pub invariant-all_over_tables-loop-sub : goal.invariant-all_over_tables-loop-sub
invariant-all_over_tables-loop-sub l = all_over_tables l.subs ≡ all_over_tables (drop l.sub-index l.subs)
