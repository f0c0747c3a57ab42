use Rattle.std.proofs.Common.{◌++◌, ◌∷◌, [], List, cond, take, ap, sym, ◌∙◌, append_assoc}
use Rattle.std.specs.Prelude.{map, filter}
use Rattle.std.proofs.lemmas.List.{map-append, take_all}
use Rattle.std.proofs.lemmas.List.FromFn.{length-enumerate_from}
use Rattle.bag_algebra.specs.declared.expr.Item.{Item}
use Rattle.name_meaning.specs.Items.{column_item}
use Rattle.name_meaning.specs.Scopes.{Placed, placed}
use Rattle.name_seen_parts.specs.Stars.{is_in_item}
use Rattle.name_seen_parts.proofs.AnyColumns.{columns-are}
use Rattle.name_seen_parts.proofs.Matches.{filtered-more}
use Rattle.name_made_parts.proofs.stars.add_columns.Goals as goal

pub loop-place-preserved : goal.loop-place-preserved
loop-place-preserved c =
    let scope = c.args.scope.now in
    let column = c.index-columns-place.result in
    let place = c.loop-place.place in
    let before = filter (is_in_item c.args.item) (take place (placed scope)) in
    let this = cond (is_in_item c.args.item (place, column)) ((place, column) ∷ []) [] in
    c.in_ok-add_column.ensures
    ∙ ap (λ (items : List Item). items ++ map (column_item scope) this) c.loop-place.invariant
    ∙ append_assoc c.args.items.now (map (column_item scope) before) (map (column_item scope) this)
    ∙ ap (λ (more : List Item). c.args.items.now ++ more) (sym (map-append (column_item scope) before this))
    ∙ ap (λ (columns : List Placed). c.args.items.now ++ map (column_item scope) columns)
    (sym (filtered-more (is_in_item c.args.item) scope.columns place column (rw c.as_slice-columns.ensures at c.loop-place-test.true) (rw c.as_slice-columns.ensures at c.index-columns-place.is)))

pub returns : goal.returns
returns c =
    let scope = c.args.scope.now in
    c.loop-place.invariant
    ∙ ap (λ (columns : List Placed). c.args.items.now ++ map (column_item scope) (filter (is_in_item c.args.item) columns))
    (take_all c.loop-place.place (placed scope) (rw length-enumerate_from (rw c.as_slice-columns.ensures at c.loop-place-test.false)))
    ∙ ap (λ (columns : List Placed). c.args.items.now ++ map (column_item scope) columns) (columns-are c.args.item scope)
