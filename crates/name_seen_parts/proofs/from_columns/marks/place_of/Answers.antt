use Rattle.std.specs.Prelude.{ℕ, Option}
use Rattle.std.specs.Option.{option_map_or}
use Rattle.std.proofs.Common.{ap, sym, ◌∙◌}
use Rattle.name_meaning.specs.Froms.{named_so}
use Rattle.name_seen_parts.proofs.KnownNames.{position-named}
use Rattle.name_seen_parts.proofs.from_columns.marks.place_of.Goals as goal

pub returns-in-Some : goal.returns-in-Some
returns-in-Some c =
    ap (λ (found : Option ℕ). option_map_or (λ place. place) found 0)
    (sym c.in-Some.is ∙ c.first_named.ensures ∙ position-named (named_so c.args.name.now) c.args.columns.now)

pub returns-in-None : goal.returns-in-None
returns-in-None c =
    ap (λ (found : Option ℕ). option_map_or (λ place. place) found 0)
    (sym c.in-None.is ∙ c.first_named.ensures ∙ position-named (named_so c.args.name.now) c.args.columns.now)
