use Rattle.std.proofs.Common.{◌≡◌, ◌≤◌, ◌+◌, drop}
use Rattle.sql_parser.specs.Nesting.{first_beyond, too_deep}
use Rattle.sql_parser.proofs.nesting.too_deep.Given as goal

abbrev pub invariant-loop-token : goal.invariant-loop-token
invariant-loop-token l = record {
  beyond : first_beyond 64 l.parentheses l.cases (drop l.token-index l.token-items) ≡ too_deep l.fn.tokens;
  within : l.parentheses + l.cases ≤ 64;
}
