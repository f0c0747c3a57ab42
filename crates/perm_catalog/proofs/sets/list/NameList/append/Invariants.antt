use Rattle.std.proofs.Common.{◌≡◌, ◌++◌, take}
use Rattle.perm_catalog.proofs.sets.list.NameList.append.Given as goal

abbrev pub invariant-loop-name : goal.invariant-loop-name
invariant-loop-name l = l.self ≡ l.initial.self ++ take l.name-index l.name-items
