use Rattle.bag_algebra.specs.Fits.{bag_fits}
use Rattle.query_laws.proofs.TablesInPlace.{tables-over, each_table-over}
use Rattle.query_laws.proofs.replaced.each_table.queries_in_place_of_tables_are_read.Goals as goal
use Rattle.std.proofs.Common.{◌≡◌, true}

pub returns-clause-tables : goal.returns-clause-tables
returns-clause-tables c = tables-over

pub returns-clause-fitting : goal.returns-clause-fitting
returns-clause-fitting c at q db h = each_table-over at (λ id kinds. bag_fits (db id) kinds ≡ true) q h
