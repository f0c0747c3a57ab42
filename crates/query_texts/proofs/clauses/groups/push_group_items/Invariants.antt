use Rattle.std.proofs.Common.{◌≡◌, ◌++◌, drop}
use Rattle.query_texts.specs.clauses.ClauseTexts.{group_items}
use Rattle.query_texts.proofs.clauses.groups.push_group_items.Given as goal

abbrev pub invariant-loop-number : goal.invariant-loop-number
invariant-loop-number l = l.fn.draft ++ group_items l.prefix 0 l.groups ≡ l.draft ++ group_items l.prefix l.number (drop l.number l.groups)
