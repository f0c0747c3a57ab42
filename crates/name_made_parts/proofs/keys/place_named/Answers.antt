use Rattle.std.specs.Prelude.{ℕ, Option}
use Rattle.std.specs.Option.{option_map_or}
use Rattle.std.proofs.Common.{ap, sym, ◌∙◌}
use Rattle.name_made_parts.proofs.Listing.{position-mapped}
use Rattle.name_made_parts.proofs.keys.place_named.Goals as goal

pub returns-in-None : goal.returns-in-None
returns-in-None c =
    ap (λ (place : Option ℕ). option_map_or {T = ℕ} {U = ℕ} (λ place. place) place 0)
    (sym c.in-None.is ∙ c.position_of.ensures ∙ position-mapped c.args.name.now c.args.columns.now)

pub returns-in-Some : goal.returns-in-Some
returns-in-Some c =
    ap (λ (place : Option ℕ). option_map_or {T = ℕ} {U = ℕ} (λ place. place) place 0)
    (sym c.in-Some.is ∙ c.position_of.ensures ∙ position-mapped c.args.name.now c.args.columns.now)
