use Rattle.std.specs.Prelude.{nat_lt}
use Rattle.std.proofs.Common.{ap, ◌∙◌}
use Rattle.rewrite_driver.proofs.MadeQueries.{is_some-length}
use Rattle.rewrite_driver.specs.Places.{is_some_place}
use Rattle.rewrite_driver.proofs.driver.has_places.Goals as goal

pub returns : goal.returns
returns c =
    ap (λ n. nat_lt 0 n) c.len.ensures.value ∙ is_some-length c.in_ok-list.list.places ∙ ap is_some_place c.in_ok-list.ensures.places
