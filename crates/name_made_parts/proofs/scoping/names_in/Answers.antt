use Rattle.std.specs.Prelude.{List, ◌++◌, Option, ℕ}
use Rattle.std.proofs.Common.{ap, sym, ◌∙◌, take, drop}
use Rattle.std.proofs.lemmas.List.{take_all}
use Rattle.name_made_parts.specs.Segments.{name_in}
use Rattle.name_made_parts.proofs.Segmented.{names-more, no-names}
use Rattle.name_made_parts.proofs.scoping.names_in.Goals as goal

pub loop-place-init : goal.loop-place-init
loop-place-init c = c.none-found.ensures ∙ no-names c.args.first c.args.count

pub loop-place-preserved : goal.loop-place-preserved
loop-place-preserved c =
    c.in_ok-add_name.ensures
    ∙ ap (λ (found : List (List ℕ)). found ++ name_in c.back_in.result c.index-names-place.result) c.loop-place.invariant
    ∙ ap (λ (back : Option ℕ). take c.args.count (drop c.args.first (take c.loop-place.place c.args.names.now)) ++ name_in back c.index-names-place.result) c.back_in.ensures
    ∙ sym (names-more c.args.first c.args.count c.args.names.now c.loop-place.place c.index-names-place.result c.loop-place-test.true c.index-names-place.is)

pub returns : goal.returns
returns c =
    c.loop-place.invariant
    ∙ ap (λ (names : List (List ℕ)). take c.args.count (drop c.args.first names)) (take_all c.loop-place.place c.args.names.now c.loop-place-test.false)
