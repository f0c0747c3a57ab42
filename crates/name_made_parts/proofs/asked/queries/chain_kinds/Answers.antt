use Rattle.std.specs.Prelude.{◌≡◌, []}
use Rattle.perm_values.proofs.Results.{where_made}
use Rattle.name_meaning.specs.Cores.{settle}
use Rattle.name_meaning.specs.Trees.{set_of_tree}
use Rattle.name_seen_parts.specs.Columns.{columns_of}
use Rattle.name_seen_parts.specs.Standing.{around_of}
use Rattle.name_made_parts.specs.AskedColumns.{Settles}
use Rattle.name_made_parts.proofs.Querying.{settles-so}
use Rattle.name_made_parts.proofs.asked.queries.chain_kinds.Goals as goal

pub returns : goal.returns
returns c =
    let m = (set_of_tree c.args.around.now.catalog.now c.args.tree.now).means (around_of c.args.around.now) in
    where_made (λ kinds. kinds ≡ settle (columns_of c.as_slice.result.now) c.args.wanted.now) (λ kinds. m.breaks ≡ [] → Settles m c.args.wanted.now kinds) c.settled_kinds.result
    (λ kinds is whole. settles-so m (columns_of c.in_ok-columns.columns) c.args.wanted.now kinds whole (c.in_ok-columns.ensures whole) (rw c.as_slice.ensures at is))
    c.settled_kinds.ensures
