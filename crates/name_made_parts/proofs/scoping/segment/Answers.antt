use Rattle.std.proofs.Common.{refl}
use Rattle.name_made_parts.proofs.Segmented.{segment-is}
use Rattle.name_made_parts.proofs.scoping.segment.Goals as goal

pub returns : goal.returns
returns c = λ items stands counted.
    segment-is c.args.scope.now _ items c.args.first c.args.count stands counted
    (rw (c.in_ok-items.ensures, c.in_ok-columns.ensures, c.as_slice.ensures, c.as_slice-2.ensures) refl)
