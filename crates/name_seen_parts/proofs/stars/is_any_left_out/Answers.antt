use Rattle.std.proofs.Common.{List, ap, sym, ◌∙◌, take}
use Rattle.std.specs.Prelude.{Bool, ◌||◌, filter}
use Rattle.std.specs.List.{list_any}
use Rattle.std.proofs.lemmas.List.{take_all}
use Rattle.std.proofs.lemmas.List.FromFn.{length-enumerate_from}
use Rattle.name_meaning.specs.Items.{is_ungrouped}
use Rattle.name_meaning.specs.Scopes.{Placed, placed}
use Rattle.name_seen_parts.specs.Stars.{is_in_item}
use Rattle.name_seen_parts.proofs.AnyColumns.{any-more, columns-are}
use Rattle.name_seen_parts.proofs.stars.is_any_left_out.Goals as goal

pub loop-place-preserved : goal.loop-place-preserved
loop-place-preserved c =
    let before = list_any (is_ungrouped c.args.scope.now) (filter (is_in_item c.args.item) (take c.loop-place.place (placed c.args.scope.now))) in
    ap (λ (so_far : Bool). so_far || c.is_left_out-left_out.result) c.loop-place.invariant
    ∙ ap (λ (this : Bool). before || this) c.is_left_out-left_out.ensures
    ∙ sym (any-more (is_ungrouped c.args.scope.now) (is_in_item c.args.item) c.args.scope.now.columns c.loop-place.place c.index-columns-place.result
    (rw c.as_slice-columns.ensures at c.loop-place-test.true) (rw c.as_slice-columns.ensures at c.index-columns-place.is))

pub returns : goal.returns
returns c =
    c.loop-place.invariant
    ∙ ap (λ (columns : List Placed). list_any (is_ungrouped c.args.scope.now) (filter (is_in_item c.args.item) columns))
    (take_all c.loop-place.place (placed c.args.scope.now) (rw length-enumerate_from (rw c.as_slice-columns.ensures at c.loop-place-test.false)))
    ∙ ap (list_any (is_ungrouped c.args.scope.now)) (columns-are c.args.item c.args.scope.now)
