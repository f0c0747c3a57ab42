-- What a join is, by whether its subquery sees the row on the left.
use Rattle.std.specs.Prelude.{◌≡◌, Bool, true, false, cond, List, [], ◌++◌}
use Rattle.std.proofs.Common.{refl, ap}
use Rattle.perm_values.proofs.Lists.{front-none}
use Rattle.sql_tree.specs.Regular.{is_lateral}
use Rattle.name_meaning.specs.Froms.{FromMeant, ItemMeant, JoinPart, applied, beside_items, both_known, in_from, join_item, joined, joined_item, on_meant, optional_breaks, scope_items}
use Rattle.name_meaning.specs.declared.scope.Scope.{Scope}

-- one that isn't lateral
abbrev pub plainly : List Scope → FromMeant → JoinPart → ItemMeant → FromMeant
plainly outer left step m = joined left step.word step.condition m (on_meant outer (both_known left.items (scope_items m)) step.condition)

abbrev pub plain_item : List Scope → FromMeant → JoinPart → ItemMeant
plain_item outer left step = step.item.means (in_from outer) left.names

abbrev pub lateral_item : List Scope → FromMeant → JoinPart → ItemMeant
lateral_item outer left step = step.item.means (beside_items left.items outer) left.names

module _ (outer : List Scope) (left : FromMeant) (step : JoinPart) where
  abbrev of_word : Bool → FromMeant
  of_word lateral =
      let m = step.item.means (cond lateral (beside_items left.items outer) (in_from outer)) left.names in
      cond lateral (applied left step.word m) (plainly outer left step m)

  pub join-plain : is_lateral step.word ≡ false
      → join_item outer left step (joined_item outer left step) ≡ plainly outer left step (plain_item outer left step)
  join-plain e = ap of_word e

  pub join-lateral : is_lateral step.word ≡ true
      → join_item outer left step (joined_item outer left step) ≡ applied left step.word (lateral_item outer left step)
  join-lateral e = ap of_word e

module _ (outer : List Scope) (left : FromMeant) (step : JoinPart) (m : ItemMeant) where
  abbrev joined_so : Bool → FromMeant
  joined_so lateral = cond lateral (applied left step.word m) (plainly outer left step m)

  pub join-items : (join_item outer left step m).items ≡ both_known left.items (scope_items m)
  join-items = by_word (is_lateral step.word) where
    by_word : (lateral : Bool) → (joined_so lateral).items ≡ both_known left.items (scope_items m)
    by_word true = refl
    by_word false = refl

  pub join-begins : (join_item outer left step m).breaks ≡ [] → left.breaks ≡ []
  join-begins = by_word (is_lateral step.word) where
    by_word : (lateral : Bool) → (joined_so lateral).breaks ≡ [] → left.breaks ≡ []
    by_word true whole = front-none left.breaks m.breaks whole
    by_word false whole =
        front-none left.breaks m.breaks (front-none (left.breaks ++ m.breaks)
        (optional_breaks step.condition (on_meant outer (both_known left.items (scope_items m)) step.condition)) whole)
