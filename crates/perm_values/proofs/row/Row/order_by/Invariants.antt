use Rattle.std.proofs.Common.{◌≡◌, drop}
use Rattle.perm_values.specs.Rows.{printed_cmp}
use Rattle.perm_values.proofs.row.Row.order_by.Given as goal

-- the keys so far leave the rows tied
abbrev pub invariant-loop-key : goal.invariant-loop-key
invariant-loop-key l = printed_cmp l.keys l.self l.other ≡ printed_cmp (drop l.key-index l.keys) l.self l.other
