use Rattle.std.specs.Prelude.{ℕ, Option}
use Rattle.std.specs.List.{filter}
use Rattle.std.proofs.Common.{ap, ◌∙◌, take, drop, arith}
use Rattle.std.proofs.Math.ListN.{drop_of_length-le}
use Rattle.std.proofs.lemmas.List.FromFn.{length-enumerate_from}
use Rattle.name_meaning.specs.Scopes.{is_meant, placed}
use Rattle.name_seen_parts.proofs.Matches.{none-behind, none-below}
use Rattle.name_seen_parts.proofs.named.places_of.Goals as goal

pub returns-in-None-clause-behind : goal.returns-in-None-clause-behind
returns-in-None-clause-behind c = λ name.
    ap (filter (is_meant c.args.item name))
    (drop_of_length-le (placed c.args.scope.now) (rw length-enumerate_from (omega (arith, c.len.ensures))))

pub returns-in-Some-clause-before : goal.returns-in-Some-clause-before
returns-in-Some-clause-before c = λ name.
    ap (λ (item : Option ℕ). filter (is_meant item name) (take c.of_item.result.0 (placed c.args.scope.now))) c.in-Some.is
    ∙ none-below c.in-Some.number name 0 c.args.scope.now.columns c.of_item.result.0 c.of_item.ensures.before

pub returns-in-Some-clause-behind : goal.returns-in-Some-clause-behind
returns-in-Some-clause-behind c = λ name.
    ap (λ (item : Option ℕ). filter (is_meant item name) (drop c.of_item.result.1 (placed c.args.scope.now))) c.in-Some.is
    ∙ none-behind c.in-Some.number name 0 c.args.scope.now.columns c.of_item.result.1 c.of_item.ensures.behind
