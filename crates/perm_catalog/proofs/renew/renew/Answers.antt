use Rattle.std.proofs.Common.{◌≡◌, Some, sym, ap, ◌∙◌}
use Rattle.std.specs.Option.{option_copied_mut}
use Rattle.perm_catalog.specs.Changes.{named, renewed}
use Rattle.perm_catalog.proofs.Named.{set_value-changed}
use Rattle.perm_catalog.proofs.renew.renew.Goals as goal

pub returns-in-Some : goal.returns-in-Some
returns-in-Some c =
    let found : named c.args.entries.now.entries c.args.name.now ≡ Some c.in-Some.entry.now = sym (sym (ap option_copied_mut c.in-Some.is) ∙ c.get_mut.ensures.value) in
    rw c.take.ensures.after
    ((c.get_mut.follows.holds (renewed c.args.version c.in-Some.entry.now)).0
    ∙ set_value-changed (renewed c.args.version) c.args.name.now c.in-Some.entry.now c.args.entries.now.entries found)
