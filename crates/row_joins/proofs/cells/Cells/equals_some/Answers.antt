use Rattle.std.proofs.Common.{◌≡◌, ◌&&◌, ◌||◌, ap, ◌∙◌}
use Rattle.row_joins.specs.Agreeing.{agree, key_of}
use Rattle.row_joins.specs.Hashed.{is_some_place}
use Rattle.row_joins.specs.Places.{places_of}
use Rattle.row_joins.specs.declared.keys.Side.TheVariants.{Left}
use Rattle.row_joins.proofs.Among.{among}
use Rattle.row_joins.proofs.cells.Cells.equals_some.Goals as goal

pub returns : goal.returns
returns c = λ rows are.
    let key : c.in_ok-key.key ≡ key_of Left c.args.self.now.columns c.in_ok-row.row = rw c.as_slice.ensures at c.in_ok-key.ensures in
    let places = c.agreeing_places.ensures c.args.self.now.columns c.in_ok-row.row rows are.finds key in
    c.truth_of.ensures
    ∙ among c.args.tested.now rows c.is_some_place-found.result c.args.self.now.some_null c.args.self.now.some_row c.is_unknown-unknown.result
    (c.is_some_place-found.ensures ∙ ap is_some_place places ∙ (λ i. is_some_place (places_of (agree (are.columns_are i) (c.in_ok-row.ensures i)) rows)))
    are.nulls_are are.rows_are
    (c.is_unknown-unknown.ensures ∙ ap (λ b. c.args.self.now.some_null || (c.args.self.now.some_row && b)) c.is_null.ensures)
