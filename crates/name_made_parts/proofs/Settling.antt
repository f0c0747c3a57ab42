-- The columns of a SELECT list are made alike at the wanted kinds and at those to which these settle.
use Rattle.std.specs.Prelude.{◌≡◌, ℕ, suc, Bool, true, false, cond, List, [], ◌∷◌, ◌++◌, length, map, take, drop, Option, Some, None, option_map}
use Rattle.std.specs.Option.{option_map_or}
use Rattle.std.proofs.Common.{refl, ap, sym, ◌∙◌}
use Rattle.std.proofs.Math.Seq.{take-append_seam, drop-append_seam}
use Rattle.perm_catalog.specs.Contents.{Contents}
use Rattle.perm_values.specs.declared.kind.Kind.{Kind}
use Rattle.perm_values.specs.declared.kind.Kind.TheVariants as kind
use Rattle.perm_values.proofs.Lists.{front-none, back-none}
use Rattle.sql_tree.specs.declared.expression.ExprBody.TheOpen.{SelectItem-F}
use Rattle.sql_tree.specs.declared.name.Name.{Name}
use Rattle.sql_tree.specs.declared.query.SelectItem.{SelectItem, out-SelectItem}
use Rattle.name_meaning.specs.Cores.{settle_known}
use Rattle.name_meaning.specs.Items.{Titled, Made, SelectMeant, all_known, columns_meant, first_wanted, item_step, items_breaks, made_before, made_items, named_from, no_columns, star_meant, table_star_meant, titled, value_meant, value_made, width_of_item}
use Rattle.name_meaning.specs.Meanings.{Before, Meant, Surroundings, is_whole, seen_kind, settled}
use Rattle.name_meaning.specs.Operands.{behind}
use Rattle.name_meaning.specs.Scopes.{Placed, item_columns, placed}
use Rattle.name_meaning.specs.Trees.{item_of}
use Rattle.name_meaning.specs.declared.answer.Break.{Break}
use Rattle.name_meaning.specs.declared.scope.Scope.{Scope}
use Rattle.name_meaning.proofs.Equations.{SelectItemFrame}
use Rattle.name_meaning.proofs.KindsOf.{with_known}
use Rattle.name_made_parts.specs.Cored.{items_meant}
use Rattle.name_meaning.proofs.Opened.{shown_item, opened_item}
use Rattle.name_meaning.proofs.SettledKinds.{settled-twice, settle_titles, settle-named, settle_titles-append}

-- ---- items

-- its columns are known, and it is made alike at the kinds to which the wanted ones settle
pub record IsSettling (m : SelectMeant) : Type 0 where
  pub titles : List Titled
  pub are : m.columns ≡ Some titles
  pub same : (w : List Kind) (n : Before) → m.make (settle_titles titles w) n ≡ m.make w n

abbrev pub Settling : SelectMeant → Type 0
Settling m = m.breaks ≡ [] → IsSettling m

-- ---- single items

columns-settle : (scope : Scope) (at : ℕ) (columns : List Placed) → Settling (columns_meant scope at columns)
columns-settle scope at columns = λ whole. record { titles = map titled columns; are = refl; same = λ w n. refl }

nothing-settles : (at : ℕ) → Settling (no_columns at)
nothing-settles at = λ whole. absurd (cc whole)

star-settles : (has_from : Bool) (scope : Scope) (at : ℕ) → Settling (star_meant has_from scope at)
star-settles true scope at = columns-settle scope at (placed scope)
star-settles false scope at = nothing-settles at

table-star-settles : (scope : Scope) (table : Name) → Settling (table_star_meant scope table)
table-star-settles scope table = chosen (item_columns table.text scope) where
  chosen : (columns : Option (List Placed)) → Settling (option_map_or (columns_meant scope table.at) columns (no_columns table.at))
  chosen None = nothing-settles table.at
  chosen (Some columns) = columns-settle scope table.at columns

first-settled : (name : Option (List ℕ)) (own found : Option Kind) (w : List Kind) → found ≡ own
    → settled own (first_wanted (settle_titles (record { name = name; kind = found } ∷ []) w)) ≡ settled own (first_wanted w)
first-settled name own found [] e = ap (λ (k : Option Kind). settled own (settled k kind.Text)) e ∙ settled-twice own kind.Text
first-settled name own found (k ∷ ks) e = ap (λ (found : Option Kind). settled own (settled found k)) e ∙ settled-twice own k

value-settles : (name : Option (List ℕ)) (m : Meant) → Settling (value_meant name m)
value-settles name m = λ whole.
    let found : seen_kind m ≡ m.kind = ap (λ (breaks : List Break). cond (is_whole breaks) m.kind None) whole in
    record {
      titles = record { name = name; kind = seen_kind m } ∷ [];
      are = refl;
      same = λ w n. ap (λ (k : Kind). value_made k (m.make k n)) (first-settled name m.kind (seen_kind m) w found);
    }

step-settles : (frame : SelectItemFrame) (has_from : Bool) (scope : Scope) (here : Surroundings) → Settling ((item_step frame).means has_from scope here)
step-settles (SelectItem-F.Star at) has_from scope here = star-settles has_from scope at
step-settles (SelectItem-F.TableStar table) has_from scope here = table-star-settles scope table
step-settles (SelectItem-F.Value expr name) has_from scope here = value-settles _ (expr.means here)

item-settles : (c : Contents) (item : SelectItem) (has_from : Bool) (scope : Scope) (here : Surroundings) → Settling ((item_of c item).means has_from scope here)
item-settles c item has_from scope here =
    rw (opened_item c item) (step-settles (shown_item c (out-SelectItem item)) has_from scope here)

-- ---- the list

length-settled : (titles : List Titled) (w : List Kind) → length (settle_titles titles w) ≡ length titles
length-settled [] w = refl
length-settled (title ∷ titles) [] = ap suc (length-settled titles [])
length-settled (title ∷ titles) (k ∷ ks) = ap suc (length-settled titles ks)

pub record ListSettles (ms : List SelectMeant) : Type 0 where
  pub titles : List Titled
  pub are : all_known ms ≡ Some titles
  pub same : (w : List Kind) (n : Before) → made_items ms (settle_titles titles w) n ≡ made_items ms w n

both-settle : (m : SelectMeant) (ms : List SelectMeant) (item : IsSettling m) (list : ListSettles ms) (w : List Kind) (n : Before)
    → made_items (m ∷ ms) (settle_titles (item.titles ++ list.titles) w) n ≡ made_items (m ∷ ms) w n
both-settle m ms item list w n =
    let width = width_of_item m in
    let wide : width ≡ length item.titles = ap (λ (columns : Option (List Titled)). option_map_or length columns 0) item.are in
    let first = settle_titles item.titles (take (length item.titles) w) in
    let rest = settle_titles list.titles (drop (length item.titles) w) in
    let size : width ≡ length first = wide ∙ sym (length-settled item.titles (take (length item.titles) w)) in
    let front : take width (first ++ rest) ≡ first = ap (λ (k : ℕ). take k (first ++ rest)) size ∙ take-append_seam first rest in
    let back : drop width (first ++ rest) ≡ rest = ap (λ (k : ℕ). drop k (first ++ rest)) size ∙ drop-append_seam first rest in
    let made : m.make (take width (settle_titles (item.titles ++ list.titles) w)) n ≡ m.make (take width w) n =
    ap (λ (kinds : List Kind). m.make (take width kinds) n) (settle_titles-append item.titles list.titles w)
    ∙ ap (λ (kinds : List Kind). m.make kinds n) front ∙ item.same (take (length item.titles) w) n
    ∙ ap (λ (k : ℕ). m.make (take k w) n) (sym wide) in
    ap (λ (first : Made). made_before first (made_items ms (drop width (settle_titles (item.titles ++ list.titles) w)) (behind n first.subs first.aggregates))) made
    ∙ ap (λ (kinds : List Kind). made_before (m.make (take width w) n) (made_items ms kinds (behind n (m.make (take width w) n).subs (m.make (take width w) n).aggregates)))
    (ap (drop width) (settle_titles-append item.titles list.titles w) ∙ back)
    ∙ ap (made_before (m.make (take width w) n)) (list.same (drop (length item.titles) w) (behind n (m.make (take width w) n).subs (m.make (take width w) n).aggregates))
    ∙ ap (λ (k : ℕ). made_before (m.make (take width w) n) (made_items ms (drop k w) (behind n (m.make (take width w) n).subs (m.make (take width w) n).aggregates))) (sym wide)

pub list-settles : (c : Contents) (items : List SelectItem) (has_from : Bool) (scope : Scope) (here : Surroundings)
    → items_breaks (items_meant has_from scope here (map (item_of c) items)) ≡ [] → ListSettles (items_meant has_from scope here (map (item_of c) items))
list-settles c [] has_from scope here whole = record { titles = []; are = refl; same = λ w n. refl }
list-settles c (tree ∷ trees) has_from scope here whole =
    let m = (item_of c tree).means has_from scope here in
    let ms = items_meant has_from scope here (map (item_of c) trees) in
    let item = item-settles c tree has_from scope here (front-none m.breaks (items_breaks ms) whole) in
    let list = list-settles c trees has_from scope here (back-none m.breaks (items_breaks ms) whole) in
    record { titles = item.titles ++ list.titles; are = λ i. with_known (item.are i) (list.are i); same = λ w n. both-settle m ms item list w n }

-- the list of a core is made at the kinds to which the wanted ones settle
pub settled-list : (ms : List SelectMeant) (wanted : List Kind) (before : Before) → ListSettles ms
    → made_items ms (settle_known (option_map (named_from 1) (all_known ms)) wanted) before ≡ made_items ms wanted before
settled-list ms wanted before list =
    ap (λ (known : Option (List Titled)). made_items ms (settle_known (option_map (named_from 1) known) wanted) before) list.are
    ∙ ap (λ (kinds : List Kind). made_items ms kinds before) (settle-named 1 list.titles wanted)
    ∙ list.same wanted before
