-- What a SELECT list keeps: the kinds of its columns, and the facts of its sublinks.
use Rattle.std.specs.Prelude.{◌≡◌, ℕ, Bool, true, false, List, [], ◌∷◌, ◌++◌, map, length, take, drop, Option, Some, None}
use Rattle.std.proofs.Common.{refl, ap, sym, ◌∙◌}
use Rattle.std.specs.Option.{option_map_or}
use Rattle.std.proofs.lemmas.List.{map-append}
use Rattle.perm_values.specs.declared.kind.Kind.{Kind}
use Rattle.perm_values.specs.declared.kind.Kind.TheVariants as kind
use Rattle.perm_values.proofs.Lists.{front-none, back-none}
use Rattle.bag_algebra.specs.Kinds.{item_kinds}
use Rattle.bag_algebra.specs.declared.expr.Item.{Item}
use Rattle.sql_tree.specs.declared.name.Name.{Name}
use Rattle.contribution.proofs.WhereGood.{Every}
use Rattle.name_meaning.specs.Items.{Titled, Made, SelectMeant, SelectPart, titled, column_item, columns_meant, no_columns, star_meant, table_star_meant, first_wanted, value_meant, all_known, width_of_item, made_items, items_breaks}
use Rattle.name_meaning.specs.Meanings.{Surroundings, Before, Meant, seen_kind, settled}
use Rattle.name_meaning.specs.Operands.{behind}
use Rattle.name_meaning.specs.Scopes.{Placed, placed, item_columns}
use Rattle.name_meaning.specs.declared.scope.Scope.{Scope}
use Rattle.name_meaning.specs.laws.Facts.{both_facts, sub_facts}
use Rattle.name_meaning.proofs.Every.{whole-kind}
use Rattle.name_meaning.proofs.FactsOf.{sub_facts-append}
use Rattle.name_meaning.proofs.NamedPlaces.{AreNamed}
use Rattle.name_meaning.proofs.SettledKinds.{settle_titles, settle_titles-append}
use Rattle.name_meaning.proofs.SteadyMeant.{GoodMeant, named-both}
use Rattle.name_meaning.proofs.KindsOf.{with_known}

-- the columns are known, and what is made has their kinds
pub record SelectIsKnown (m : SelectMeant) : Type 0 where
  pub titles : List Titled
  pub are : m.columns ≡ Some titles
  pub kinds : (w : List Kind) (n : Before) → item_kinds (m.make w n).items ≡ settle_titles titles w

-- the same of a list
pub record ListIsKnown (ms : List SelectMeant) : Type 0 where
  pub titles : List Titled
  pub are : all_known ms ≡ Some titles
  pub kinds : (w : List Kind) (n : Before) → item_kinds (made_items ms w n).items ≡ settle_titles titles w

kinds-columns : (scope : Scope) (columns : List Placed) (w : List Kind) → item_kinds (map (column_item scope) columns) ≡ settle_titles (map titled columns) w
kinds-columns scope [] w = refl
kinds-columns scope (c ∷ columns) [] = ap (λ (kinds : List Kind). c.1.kind ∷ kinds) (kinds-columns scope columns [])
kinds-columns scope (c ∷ columns) (k ∷ ks) = ap (λ (kinds : List Kind). c.1.kind ∷ kinds) (kinds-columns scope columns ks)

kinds-value : (name : Option (List ℕ)) (own found : Option Kind) (w : List Kind) → found ≡ own
    → settled own (first_wanted w) ∷ [] ≡ settle_titles (record { name = name; kind = found } ∷ []) w
kinds-value name own found [] e = ap (λ (k : Option Kind). settled k kind.Text ∷ []) (sym e)
kinds-value name own found (w ∷ ws) e = ap (λ (k : Option Kind). settled k w ∷ []) (sym e)

joined-kinds : (m : SelectMeant) (ms : List SelectMeant) (item : SelectIsKnown m) (list : ListIsKnown ms) (w : List Kind) (n : Before)
    → item_kinds (made_items (m ∷ ms) w n).items ≡ settle_titles (item.titles ++ list.titles) w
joined-kinds m ms item list w n =
    let width = width_of_item m in
    let first : Made = m.make (take width w) n in
    let rest : Made = made_items ms (drop width w) (behind n first.subs first.aggregates) in
    map-append (λ (i : Item). i.kind) first.items rest.items
    ∙ (λ i. item.kinds (take width w) n i ++ list.kinds (drop width w) (behind n first.subs first.aggregates) i)
    ∙ ap (λ (size : ℕ). settle_titles item.titles (take size w) ++ settle_titles list.titles (drop size w))
    (ap (λ (columns : Option (List Titled)). option_map_or length columns 0) item.are)
    ∙ sym (settle_titles-append item.titles list.titles w)

joined-known : (m : SelectMeant) (ms : List SelectMeant) (item : SelectIsKnown m) (list : ListIsKnown ms) → all_known (m ∷ ms) ≡ Some (item.titles ++ list.titles)
joined-known m ms item list =
    λ i. with_known (item.are i) (list.are i)

module _ (Sound : Type 0) where
  pub record GoodSelect (m : SelectMeant) : Type 0 where
    pub known : m.breaks ≡ [] → SelectIsKnown m
    pub steady : (w v : List Kind) (n k : Before) → sub_facts (m.make w n).subs ≡ sub_facts (m.make v k).subs
    pub named : Sound → (w : List Kind) (n : Before) → AreNamed (sub_facts (m.make w n).subs).places

  abbrev pub GoodItem : SelectPart → Type 0
  GoodItem item = (has_from : Bool) (scope : Scope) (here : Surroundings) → GoodSelect (item.means has_from scope here)

  good-columns : (scope : Scope) (at : ℕ) (columns : List Placed) → GoodSelect (columns_meant scope at columns)
  good-columns scope at columns = record {
    known = λ whole. record { titles = map titled columns; are = refl; kinds = λ w n. kinds-columns scope columns w };
    steady = λ w v n k. refl;
    named = λ sound w n. tt;
  }

  good-no_columns : (at : ℕ) → GoodSelect (no_columns at)
  good-no_columns at = record { known = λ whole. absurd (cc whole); steady = λ w v n k. refl; named = λ sound w n. tt }

  pub good-star : (has_from : Bool) (scope : Scope) (at : ℕ) → GoodSelect (star_meant has_from scope at)
  good-star true scope at = good-columns scope at (placed scope)
  good-star false scope at = good-no_columns at

  pub good-table_star : (scope : Scope) (table : Name) → GoodSelect (table_star_meant scope table)
  good-table_star scope table = chosen (item_columns table.text scope) where
    chosen : (columns : Option (List Placed)) → GoodSelect (option_map_or (columns_meant scope table.at) columns (no_columns table.at))
    chosen None = good-no_columns table.at
    chosen (Some columns) = good-columns scope table.at columns

  pub good-value : (name : Option (List ℕ)) (m : Meant) → GoodMeant Sound m → GoodSelect (value_meant name m)
  good-value name m good = record {
    known = λ whole. record {
      titles = record { name = name; kind = seen_kind m } ∷ [];
      are = refl;
      kinds = λ w n. kinds-value name m.kind (seen_kind m) w (whole-kind m whole);
    };
    steady = λ w v n k. good.steady (settled m.kind (first_wanted w)) (settled m.kind (first_wanted v)) n k;
    named = λ sound w n. good.named sound (settled m.kind (first_wanted w)) n;
  }

  pub known-list : (ms : List SelectMeant) → Every GoodSelect ms → items_breaks ms ≡ [] → ListIsKnown ms
  known-list [] h whole = record { titles = []; are = refl; kinds = λ w n. refl }
  known-list (m ∷ ms) h whole =
      let item : SelectIsKnown m = h.0.known (front-none m.breaks (items_breaks ms) whole) in
      let list : ListIsKnown ms = known-list ms h.1 (back-none m.breaks (items_breaks ms) whole) in
      record { titles = item.titles ++ list.titles; are = joined-known m ms item list; kinds = λ w n. joined-kinds m ms item list w n }

  pub steady-list : (ms : List SelectMeant) (w v : List Kind) (n k : Before) → Every GoodSelect ms
      → sub_facts (made_items ms w n).subs ≡ sub_facts (made_items ms v k).subs
  steady-list [] w v n k h = refl
  steady-list (m ∷ ms) w v n k h =
      let width = width_of_item m in
      let first : Made = m.make (take width w) n in
      let other : Made = m.make (take width v) k in
      let after = behind n first.subs first.aggregates in
      let after_other = behind k other.subs other.aggregates in
      sub_facts-append first.subs (made_items ms (drop width w) after).subs
      ∙ (λ i. both_facts (h.0.steady (take width w) (take width v) n k i) (steady-list ms (drop width w) (drop width v) after after_other h.1 i))
      ∙ sym (sub_facts-append other.subs (made_items ms (drop width v) after_other).subs)

  pub named-list : Sound → (ms : List SelectMeant) (w : List Kind) (n : Before) → Every GoodSelect ms → AreNamed (sub_facts (made_items ms w n).subs).places
  named-list sound [] w n h = tt
  named-list sound (m ∷ ms) w n h =
      let width = width_of_item m in
      let first : Made = m.make (take width w) n in
      let after = behind n first.subs first.aggregates in
      named-both Sound first.subs (made_items ms (drop width w) after).subs (h.0.named sound (take width w) n) (named-list sound ms (drop width w) after h.1)
