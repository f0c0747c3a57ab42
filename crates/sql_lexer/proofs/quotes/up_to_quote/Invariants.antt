use Rattle.std.proofs.Common.{◌≡◌, ◌≤◌, ◌-◌, [], length, drop}
use Rattle.std.specs.Prelude.{option_map}
use Rattle.sql_lexer.specs.Reading.{before, unquoted}
use Rattle.sql_lexer.proofs.quotes.up_to_quote.Given as goal

abbrev pub invariant-loop-at : goal.invariant-loop-at
invariant-loop-at l = record {
  within : l.at ≤ length l.rest;
  same : option_map (λ found. found.len) (before [] l.at (unquoted l.quote (drop l.at l.rest))) ≡ option_map (λ found. found.len) (unquoted l.quote l.rest);
}

abbrev pub decreases-loop-at : goal.decreases-loop-at
decreases-loop-at l = length l.rest - l.at
