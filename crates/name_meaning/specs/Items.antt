-- What a SELECT list means: its columns, with `*` and `x.*` expanded.
use Rattle.std.specs.Prelude.{ℕ, suc, Bool, false, cond, List, [], ◌∷◌, ◌++◌, map, flat_map, length, take, drop, is_none, Option, Some, None, option_map, codes, decimal}
use Rattle.std.specs.List.{list_any}
use Rattle.std.specs.Option.{option_map_or}
use Rattle.perm_values.specs.declared.kind.Kind.{Kind}
use Rattle.perm_values.specs.declared.kind.Kind.TheVariants as kind
use Rattle.bag_algebra.specs.declared.expr.Expr.TheVariants.{Col}
use Rattle.bag_algebra.specs.declared.expr.Item.{Item}
use Rattle.bag_algebra.specs.declared.query.Aggr.{Aggr}
use Rattle.bag_algebra.specs.declared.query.Sublink.{Sublink}
use Rattle.sql_tree.specs.declared.expression.ExprBody.TheOpen.{SelectItem-F}
use Rattle.sql_tree.specs.declared.name.Name.{Name}
use Rattle.name_meaning.specs.Meanings.{Inside, nothing_inside, both_inside, Surroundings, Before, Built, Meant, seen_kind, Part, OutColumn, broken, broken_if, settled}
use Rattle.name_meaning.specs.Operands.{behind}
use Rattle.name_meaning.specs.Scopes.{Placed, placed, item_columns, place_among}
use Rattle.name_meaning.specs.Sublinks.{null_at}
use Rattle.name_meaning.specs.declared.answer.Break.{Break}
use Rattle.name_meaning.specs.declared.scope.Scope.{Scope}
use Rattle.name_meaning.specs.declared.rule.Rule.TheVariants as rule

-- a column of the list; without a name of its own it is named by its position
pub record Titled : Type 0 where
  pub name : Option (List ℕ)
  pub kind : Option Kind

pub record Made : Type 0 where
  pub items : List Item
  pub subs : List Sublink
  pub aggregates : List Aggr

-- an item of the list; no columns, where they aren't known
pub record SelectMeant : Type 0 where
  pub breaks : List Break
  pub columns : Option (List Titled)
  pub inside : Inside
  pub make : List Kind → Before → Made

-- `means`: whether there is a FROM, the core's own scope, and where the list stands
pub record SelectPart : Type 0 where
  pub aggregating : Bool
  pub means : Bool → Scope → Surroundings → SelectMeant

-- ---- several columns

abbrev pub titled : Placed → Titled
titled column = record { name = Some column.1.name; kind = Some column.1.kind }

-- the column in the core's rows
abbrev pub column_item : Scope → Placed → Item
column_item scope column = record {
  expr = option_map_or (Col 0) (place_among scope.groups column.0) (null_at column.1.kind);
  kind = column.1.kind;
}

abbrev pub is_ungrouped : Scope → Placed → Bool
is_ungrouped scope column = is_none (place_among scope.groups column.0)

-- all of these columns; in a grouped core each is one of its GROUP BY columns
abbrev pub columns_meant : Scope → ℕ → List Placed → SelectMeant
columns_meant scope at columns = record {
  breaks = broken_if (list_any (is_ungrouped scope) columns) rule.UngroupedColumn at;
  columns = Some (map titled columns);
  inside = nothing_inside;
  make = λ wanted before. record { items = map (column_item scope) columns; subs = []; aggregates = [] };
}

abbrev pub no_columns : ℕ → SelectMeant
no_columns at = record {
  breaks = broken rule.UnknownColumn at ∷ [];
  columns = None;
  inside = nothing_inside;
  make = λ wanted before. record { items = []; subs = []; aggregates = [] };
}

abbrev pub star_meant : Bool → Scope → ℕ → SelectMeant
star_meant has_from scope at = cond has_from (columns_meant scope at (placed scope)) (no_columns at)

-- the item x is one of the core itself
abbrev pub table_star_meant : Scope → Name → SelectMeant
table_star_meant scope table = option_map_or (columns_meant scope table.at) (item_columns table.text scope) (no_columns table.at)

-- ---- an expression

abbrev pub first_wanted : List Kind → Kind
first_wanted [] = kind.Text
first_wanted (k ∷ ks) = k

abbrev pub value_made : Kind → Built → Made
value_made kind built = record {
  items = record { expr = built.expr; kind = kind } ∷ [];
  subs = built.subs;
  aggregates = built.aggregates;
}

abbrev pub value_meant : Option (List ℕ) → Meant → SelectMeant
value_meant name m = record {
  breaks = m.breaks;
  columns = Some (record { name = name; kind = seen_kind m } ∷ []);
  inside = m.inside;
  make = λ wanted before. value_made (settled m.kind (first_wanted wanted)) (m.make (settled m.kind (first_wanted wanted)) before);
}

-- the name after AS, or else the one that the expression gives
abbrev pub title : Option Name → Part → Option (List ℕ)
title None part = part.called
title (Some name) part = Some name.text

abbrev pub item_step : {B S F A U C Q W G J K I : Type 0} → SelectItem-F B I S F A U Part C Q W G J K → SelectPart
item_step (SelectItem-F.Star at) = record { aggregating = false; means = λ has_from scope here. star_meant has_from scope at }
item_step (SelectItem-F.TableStar table) = record { aggregating = false; means = λ has_from scope here. table_star_meant scope table }
item_step (SelectItem-F.Value expr name) = record {
  aggregating = expr.aggregating;
  means = λ has_from scope here. value_meant (title name expr) (expr.means here);
}

-- ---- the list

abbrev pub all_known : List SelectMeant → Option (List Titled)
all_known [] = Some []
all_known (m ∷ ms) = elim m.columns [
  | None ↦ None
  | Some columns ↦ option_map (λ more. columns ++ more) (all_known ms)
]

abbrev pub width_of_item : SelectMeant → ℕ
width_of_item m = option_map_or length m.columns 0

abbrev pub made_before : Made → Made → Made
made_before first rest = record {
  items = first.items ++ rest.items;
  subs = first.subs ++ rest.subs;
  aggregates = first.aggregates ++ rest.aggregates;
}

-- the items made from the left, each at the kinds that are wanted of its columns
abbrev pub made_items : List SelectMeant → List Kind → Before → Made
made_items [] wanted before = record { items = []; subs = []; aggregates = [] }
made_items (m ∷ ms) wanted before =
    let first = m.make (take (width_of_item m) wanted) before in
    made_before first (made_items ms (drop (width_of_item m) wanted) (behind before first.subs first.aggregates))

-- a column without a name is `column` and its position from 1
abbrev pub named_from : ℕ → List Titled → List OutColumn
named_from n [] = []
named_from n (column ∷ columns) =
    record { name = option_map_or (λ name. name) column.name (codes "column" ++ decimal n); kind = column.kind } ∷ named_from (suc n) columns

abbrev pub items_breaks : List SelectMeant → List Break
items_breaks ms = flat_map (λ (m : SelectMeant). m.breaks) ms

abbrev pub items_inside : List SelectMeant → Inside
items_inside [] = nothing_inside
items_inside (m ∷ ms) = both_inside m.inside (items_inside ms)
