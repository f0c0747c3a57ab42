use Rattle.std.proofs.Common.{◌≡◌, drop, not}
use Rattle.std.specs.List.{list_all}
use Rattle.query_laws.specs.spines.Spines.{is_spine}
use Rattle.rewrite_move.proofs.dependent.no_spines.Given as goal

abbrev pub invariant-loop-query : goal.invariant-loop-query
invariant-loop-query l = list_all (λ q. not (is_spine q)) l.queries ≡ list_all (λ q. not (is_spine q)) (drop l.query-index l.queries)
