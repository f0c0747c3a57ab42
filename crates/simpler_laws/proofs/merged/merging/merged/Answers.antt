use Rattle.simpler_laws.proofs.MergedProjects.{merged-items}
use Rattle.simpler_laws.proofs.merged.merging.merged.Goals as goal

pub returns-in_ok-items_over-in-Project : goal.returns-in_ok-items_over-in-Project
returns-in_ok-items_over-in-Project c =
    let clear = c.can_merge.ensures c.if-not-can_merge.false in (
      clear.0,
      merged-items c.args.input.now c.in-Project.input c.in-Project.lower c.args.items.now _ c.as_slice-below.result.now c.in-Project.others c.as_slice.result.now
          c.in-Project.is c.as_slice-below.ensures c.as_slice.ensures clear.1 c.in_ok-items_over-in-Project.ensures,
    )
