use Rattle.name_made_parts.proofs.asked.cores.scope_grouped.Goals as goal

pub returns : goal.returns
returns c = λ held.
    let places = rw c.in_ok-own.ensures.second_was at (c.places_of_groups-groups.ensures held) in
    rw (c.in_ok-own.ensures.first_kept, places) at c.grouped.ensures
