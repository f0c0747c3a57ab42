use Rattle.std.proofs.Common.{◌≡◌, ◌++◌, take}
use Rattle.contribution.specs.CrossBase.{subs_table_sources}
use Rattle.contribution.proofs.cross.+add_sources.Given as goal

abbrev pub invariant-add_sub_sources-loop-sub : goal.invariant-add_sub_sources-loop-sub
invariant-add_sub_sources-loop-sub l = l.found ≡ l.initial.found ++ subs_table_sources (take l.sub-index l.subs)
