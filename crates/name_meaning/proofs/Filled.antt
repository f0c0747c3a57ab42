-- Columns that are known are never none: a table, a view and a subquery have one, and so has each item of a SELECT list.
use Rattle.std.specs.Prelude.{◌≡◌, ◌≢◌, ⊤, ℕ, zero, suc, ◌+◌, ◌<◌, Bool, true, false, cond, List, [], ◌∷◌, ◌++◌, map, filter, length, nat_eq, ℤ, Option, Some, None, option_map}
use Rattle.std.proofs.Common.{refl, sym, subst, true≢false, eq-eqb, arith}
use Rattle.std.proofs.lemmas.List.{length-map}
use Rattle.std.proofs.lemmas.List.Quantifiers.{position-Some}
use Rattle.std.proofs.lemmas.Option.{none-some}
use Rattle.std.specs.Cmp.Lexicographic.{pointwise}
use Rattle.std.specs.List.{enumerate_from, AllByRecursion as Every}
use Rattle.std.specs.Option.{option_map_or}
use Rattle.perm_values.specs.declared.kind.Kind.{Kind}
use Rattle.bag_algebra.specs.Kinds.{kinds_of}
use Rattle.bag_algebra.specs.declared.query.Query.{Query}
use Rattle.perm_catalog.specs.Changes.{table_named, view_named}
use Rattle.perm_catalog.specs.Contents.{Contents}
use Rattle.perm_catalog.specs.Sound.{IsSound}
use Rattle.perm_catalog.specs.declared.column.Column.{Column}
use Rattle.perm_catalog.specs.declared.entries.TableEntry.{TableEntry}
use Rattle.perm_catalog.specs.declared.entries.ViewEntry.{ViewEntry}
use Rattle.sql_tree.specs.Regular.{IsFilled, is_lateral}
use Rattle.sql_tree.specs.declared.expression.ExprBody.TheOpen.{SelectItem-F}
use Rattle.sql_tree.specs.declared.name.ColRef.{ColRef}
use Rattle.sql_tree.specs.declared.name.Name.{Name}
use Rattle.sql_tree.specs.declared.query.OrderTree.{OrderTree}
use Rattle.contribution.proofs.WhereGood.{every-append}
use Rattle.name_meaning.proofs.Equations.{SelectItemFrame}
use Rattle.name_meaning.specs.Cores.{BodyPart, core_over, core_unlooked, core_seen, group_scope, has_some, word_breaks}
use Rattle.name_meaning.specs.Froms.{FromItemPart, FromMeant, FromPart, ItemMeant, JoinPart, SourcePart, named as named_source, inner as inner_source, beside_from, both_known, applied, first_item, from_all, from_more, join_all, join_item, joined, joined_around, joined_item, on_meant, scope_items, named_columns, read_named, read_nothing, read_of, read_table, read_view, settled_columns, in_clause}
use Rattle.name_meaning.specs.Items.{SelectMeant, SelectPart, Titled, all_known, columns_meant, item_step, named_from, no_columns, titled}
use Rattle.name_meaning.specs.Meanings.{Around, OutColumn, Part, QueryMeant, Surroundings, is_whole}
use Rattle.name_meaning.specs.Queries.{SetStepPart, columns_so_far, asks_provenance, keys_of, limited, plain_query, columns_with_provenance, query_with_provenance, provenance_columns, query_seen, set_chain, set_joined, united_columns, may_not_ask}
use Rattle.name_meaning.specs.Scopes.{KnownColumn, Placed, ScopeItem, columns_from, is_of_item, item_columns, item_number, numbered_columns, placed, scope_of}
use Rattle.name_meaning.specs.declared.answer.Break.{Break}
use Rattle.name_meaning.specs.declared.scope.Scope.{Scope}
use Rattle.name_meaning.specs.declared.scope.ScopeColumn.{ScopeColumn}
use Rattle.name_meaning.proofs.KindsOf.{with_known}

-- ---- lists

pub filled-map : {X Y : Type 0} (f : X → Y) (xs : List X) → IsFilled xs → IsFilled (map f xs)
filled-map f [] h = h
filled-map f (x ∷ xs) h = tt

pub filled-length : {X : Type 0} (xs : List X) → IsFilled xs → 0 < length xs
filled-length [] h = absurd h
filled-length (x ∷ xs) h = omega arith

filled-append : {X : Type 0} (xs ys : List X) → IsFilled xs → IsFilled (xs ++ ys)
filled-append [] ys h = absurd h
filled-append (x ∷ xs) ys h = tt

some-filled : {X : Type 0} (xs : List X) → xs ≢ [] → IsFilled xs
some-filled [] h = absurd (h refl)
some-filled (x ∷ xs) h = tt

-- where the list is known, something stands in it
abbrev pub Shown : {X : Type 0} → Option (List X) → Type 0
Shown None = ⊤
Shown (Some xs) = IsFilled xs

shown-under : {X Y : Type 0} (f : List X → List Y) → ((xs : List X) → IsFilled xs → IsFilled (f xs)) → (o : Option (List X)) → Shown o
    → Shown (option_map f o)
shown-under f keep None h = tt
shown-under f keep (Some xs) h = keep xs h

-- ---- what an item of FROM reads

named-filled : (names : List (List ℕ)) (kinds : List Kind) → 0 < length kinds → length names ≡ length kinds → IsFilled (named_columns names kinds)
named-filled [] [] some same = absurd (omega (arith, some))
named-filled [] (k ∷ kinds) some same = absurd (omega (arith, same))
named-filled (name ∷ names) [] some same = absurd (omega (arith, some))
named-filled (name ∷ names) (k ∷ kinds) some same = tt

settled-filled : (columns : List OutColumn) → IsFilled columns → IsFilled (settled_columns columns)
settled-filled [] h = h
settled-filled (column ∷ columns) h = tt

abbrev pub FilledSource : SourcePart → Type 0
FilledSource (named_source name) = ⊤
FilledSource (inner_source query) = (around : Around) → Shown (query.means around).columns

abbrev pub FilledItem : FromItemPart → Type 0
FilledItem item = (around : Around) (earlier : List (List ℕ)) → Shown (item.means around earlier).columns

module _ (c : Contents) (sound : IsSound c) where
  shown-named : (name : Name) → Shown (read_named c name).columns
  shown-named name = as_table (table_named c name.text) refl where
    as_view : (view : Option ViewEntry) → view_named c name.text ≡ view → Shown (option_map_or (read_view name.text) view (read_nothing name)).columns
    as_view None e = tt
    as_view (Some view) e =
        let is = (sound.views name.text view e).answer in
        named-filled view.answer.names (kinds_of view.answer.query) is.some is.named

    as_table : (table : Option TableEntry) → table_named c name.text ≡ table
        → Shown (option_map_or (read_table name.text) table (option_map_or (read_view name.text) (view_named c name.text) (read_nothing name))).columns
    as_table None e = as_view (view_named c name.text) refl
    as_table (Some table) e =
        filled-map (λ (column : Column). record { name = column.name; kind = column.kind }) table.columns
        (some-filled table.columns (sound.tables name.text table e).columns.some)

  pub shown-read_of : (around : Around) (source : SourcePart) → FilledSource source
      → Shown (read_of c around source).columns
  shown-read_of around (named_source name) h = shown-named name
  shown-read_of around (inner_source query) h = shown-under settled_columns settled-filled (query.means around).columns (h around)

-- ---- FROM

abbrev pub HasColumn : ScopeItem → Type 0
HasColumn item = IsFilled item.columns

-- where the items are known there is one, and each has a column
abbrev pub ShownItems : Option (List ScopeItem) → Type 0
ShownItems None = ⊤
ShownItems (Some items) = IsFilled items × Every HasColumn items

-- the same of a core, which may have no FROM
abbrev pub ShownFrom : Bool → Option (List ScopeItem) → Type 0
ShownFrom has_from None = ⊤
ShownFrom has_from (Some items) = (has_from ≡ true → IsFilled items) × Every HasColumn items

abbrev pub FilledFrom : FromPart → Type 0
FilledFrom part = (outer : List Scope) (earlier : List (List ℕ)) → ShownItems (part.means outer earlier).items

shown-item : (name : List ℕ) (columns : Option (List KnownColumn)) → Shown columns
    → ShownItems (option_map (λ (known : List KnownColumn). record { name = name; columns = known } ∷ []) columns)
shown-item name None h = tt
shown-item name (Some columns) h = (tt, (h, tt))

shown-both : (left right : Option (List ScopeItem)) → ShownItems left → ShownItems right → ShownItems (both_known left right)
shown-both None right h k = tt
shown-both (Some left) None h k = tt
shown-both (Some left) (Some right) h k = (filled-append left right h.0, every-append HasColumn left right h.1 k.1)

pub shown-first : (earlier : List (List ℕ)) (m : ItemMeant) → Shown m.columns → ShownItems (first_item earlier m).items
shown-first earlier m h = shown-item m.name m.columns h

shown-join_item : (outer : List Scope) (left : FromMeant) (step : JoinPart) (m : ItemMeant) → ShownItems left.items → Shown m.columns
    → ShownItems (join_item outer left step m).items
shown-join_item outer left step m l h = by_word (is_lateral step.word) where
  both : ShownItems (both_known left.items (scope_items m))
  both = shown-both left.items (scope_items m) l (shown-item m.name m.columns h)

  by_word : (lateral : Bool) → ShownItems (cond lateral (applied left step.word m)
      (joined left step.word step.condition m (on_meant outer (both_known left.items (scope_items m)) step.condition))).items
  by_word true = both
  by_word false = both

pub shown-join_all : (outer : List Scope) (left : FromMeant) (steps : List JoinPart) → ShownItems left.items
    → Every (λ (step : JoinPart). FilledItem step.item) steps → ShownItems (join_all outer left steps).items
shown-join_all outer left [] l h = l
shown-join_all outer left (step ∷ steps) l h =
    let m : ItemMeant = joined_item outer left step in
    shown-join_all outer (join_item outer left step m) steps
    (shown-join_item outer left step m l (h.0 (joined_around step.word outer left.items) left.names)) h.1

shown-more : (outer : List Scope) (left : FromMeant) (parts : List FromPart) → ShownItems left.items → Every FilledFrom parts
    → ShownItems (from_more outer left parts).items
shown-more outer left [] l h = l
shown-more outer left (part ∷ parts) l h =
    let right : FromMeant = part.means outer left.names in
    shown-more outer (beside_from left right) parts (shown-both left.items right.items l (h.0 outer left.names)) h.1

some-from : (items : Option (List ScopeItem)) → ShownItems items → ShownFrom true items
some-from None h = tt
some-from (Some items) h = (λ e. h.0, h.1)

pub shown-from_all : (outer : List Scope) (parts : List FromPart) → Every FilledFrom parts
    → ShownFrom (has_some parts) (from_all outer parts).items
shown-from_all outer [] h = (λ e. absurd (true≢false (sym e)), tt)
shown-from_all outer (part ∷ parts) h =
    some-from (from_all outer (part ∷ parts)).items (shown-more outer (part.means outer []) parts (h.0 outer []) h.1)

-- ---- the columns of a scope

placed-filled : (at : ℕ) (columns : List ScopeColumn) → IsFilled columns → IsFilled (enumerate_from at columns)
placed-filled at [] h = h
placed-filled at (column ∷ columns) h = tt

scope-filled : (items : List ScopeItem) → IsFilled items → Every HasColumn items → IsFilled (columns_from 0 items)
scope-filled [] h each = h
scope-filled (item ∷ items) h each =
    filled-append (numbered_columns 0 item.columns) (columns_from 1 items) (filled-map _ item.columns each.0)

-- a column that passes, first or further behind
filter-first : {X : Type 0} (test : X → Bool) (x : X) (xs : List X) → test x ≡ true → IsFilled (filter test (x ∷ xs))
filter-first test x xs e = chosen (test x) e where
  chosen : (b : Bool) → b ≡ true → IsFilled (cond b (x ∷ filter test xs) (filter test xs))
  chosen true f = tt
  chosen false f = absurd (true≢false (sym f))

filter-behind : (test : Placed → Bool) (front back : List ScopeColumn) (at : ℕ) → ((n : ℕ) → IsFilled (filter test (enumerate_from n back)))
    → IsFilled (filter test (enumerate_from at (front ++ back)))
filter-behind test [] back at h = h at
filter-behind test (column ∷ front) back at h = chosen (test (at, column)) (filter-behind test front back (at + 1) h) where
  chosen : (b : Bool) → IsFilled (filter test (enumerate_from (at + 1) (front ++ back)))
      → IsFilled (cond b ((at, column) ∷ filter test (enumerate_from (at + 1) (front ++ back))) (filter test (enumerate_from (at + 1) (front ++ back))))
  chosen true found = tt
  chosen false found = found

-- the columns of the item k behind the first, whose number this is
own-columns : (items : List ScopeItem) (first k at : ℕ) → Every HasColumn items → k < length items
    → IsFilled (filter (is_of_item (first + k)) (enumerate_from at (columns_from first items)))
own-columns [] first k at each within = absurd (omega arith)
own-columns (item ∷ items) first zero at each within = own item.columns each.0 where
  own : (columns : List KnownColumn) → IsFilled columns
      → IsFilled (filter (is_of_item (first + 0)) (enumerate_from at (numbered_columns first columns ++ columns_from (suc first) items)))
  own [] h = absurd h
  own (column ∷ columns) h =
      filter-first (is_of_item (first + 0)) (at, record { item = first; name = column.name; kind = column.kind })
      (enumerate_from (at + 1) (numbered_columns first columns ++ columns_from (suc first) items)) (eq-eqb (first + 0) first (omega arith))
own-columns (item ∷ items) first (suc k) at each within =
    let same : suc first + k ≡ first + suc k = omega arith in
    subst (λ n. IsFilled (filter (is_of_item n) (enumerate_from at (numbered_columns first item.columns ++ columns_from (suc first) items)))) same
    (filter-behind (is_of_item (suc first + k)) (numbered_columns first item.columns) (columns_from (suc first) items) at
    (λ n. own-columns items (suc first) k n each.1 (omega arith)))

-- an item that is named has a column
shown-item_columns : (items : List ScopeItem) → Every HasColumn items → (name : List ℕ) → Shown (item_columns name (scope_of items))
shown-item_columns items each name = chosen (item_number name (scope_of items)) refl where
  chosen : (number : Option ℕ) → item_number name (scope_of items) ≡ number
      → Shown (option_map (λ number. filter (is_of_item number) (placed (scope_of items))) number)
  chosen None e = tt
  chosen (Some number) e =
      let among = (position-Some (pointwise nat_eq name) (scope_of items).items number [] e).0 in
      let long = length-map items (λ (item : ScopeItem). item.name) in
      let same : 0 + number ≡ number = omega arith in
      subst (λ n. IsFilled (filter (is_of_item n) (placed (scope_of items)))) same
      (own-columns items 0 number 0 each (omega (arith, among, long)))

-- ---- SELECT lists

-- in a scope where `*` and `x.*` give a column
abbrev pub FilledSelect : SelectPart → Type 0
FilledSelect item = (has_from : Bool) (scope : Scope) (here : Surroundings) → (has_from ≡ true → IsFilled (placed scope))
    → ((name : List ℕ) → Shown (item_columns name scope)) → Shown (item.means has_from scope here).columns

pub filled-item_step : (frame : SelectItemFrame) → FilledSelect (item_step frame)
filled-item_step (SelectItem-F.Star at) true scope here all each = filled-map titled (placed scope) (all refl)
filled-item_step (SelectItem-F.Star at) false scope here all each = tt
filled-item_step (SelectItem-F.TableStar table) has_from scope here all each = chosen (item_columns table.text scope) (each table.text) where
  chosen : (columns : Option (List Placed)) → Shown columns → Shown (option_map_or (columns_meant scope table.at) columns (no_columns table.at)).columns
  chosen None h = tt
  chosen (Some columns) h = filled-map titled columns h
filled-item_step (SelectItem-F.Value expr name) has_from scope here all each = tt

shown-list : (first rest : Option (List Titled)) → Shown first → Shown (with_known first rest)
shown-list None rest h = tt
shown-list (Some columns) None h = tt
shown-list (Some columns) (Some more) h = filled-append columns more h

named_from-filled : (columns : List Titled) → IsFilled columns → IsFilled (named_from 1 columns)
named_from-filled [] h = h
named_from-filled (column ∷ columns) h = tt

-- ---- a core

abbrev pub FilledBody : BodyPart → Type 0
FilledBody body = (around : Around) → Shown (body.means around).columns

shown-core_over : (outer : List Scope) (words : List Break) (input : FromMeant) (has_from is_distinct : Bool) (items : List SelectPart)
    (condition : Option Part) (groups : List ColRef) (having : Option Part) (scope_items : List ScopeItem)
    → ShownFrom has_from (Some scope_items) → IsFilled items → Every FilledSelect items
    → Shown (core_over outer words input has_from is_distinct items condition groups having scope_items).columns
shown-core_over outer words input has_from is_distinct [] condition groups having scope_items from filled each = absurd filled
shown-core_over outer words input has_from is_distinct (item ∷ items) condition groups having scope_items from filled each =
    let own : Scope = scope_of scope_items in
    let grouped : Scope = group_scope own groups having (item ∷ items) in
    let here : Surroundings = in_clause grouped outer true in
    let list : List SelectMeant = map (λ (part : SelectPart). part.means has_from grouped here) items in
    shown-under (named_from 1) named_from-filled (with_known (item.means has_from grouped here).columns (all_known list))
    (shown-list (item.means has_from grouped here).columns (all_known list)
    (each.0 has_from grouped here (λ e. placed-filled 0 own.columns (scope-filled scope_items (from.0 e) from.1)) (shown-item_columns scope_items from.1)))

known-items : (has_from : Bool) (found : Option (List ScopeItem)) (items : List ScopeItem) → found ≡ Some items → ShownFrom has_from found
    → ShownFrom has_from (Some (option_map_or (λ (known : List ScopeItem). known) found []))
known-items has_from None items e h = absurd (none-some items e)
known-items has_from (Some known) items e h = h

pub shown-core_seen : (around : Around) (word : Option ℕ) (input : FromMeant) (has_from is_distinct : Bool) (items : List SelectPart)
    (condition : Option Part) (groups : List ColRef) (having : Option Part)
    → (is_whole input.breaks ≡ true → (known : List ScopeItem) × (input.items ≡ Some known)) → ShownFrom has_from input.items
    → IsFilled items → Every FilledSelect items → Shown (core_seen around word input has_from is_distinct items condition groups having).columns
shown-core_seen around word input has_from is_distinct items condition groups having known from filled each = chosen (is_whole input.breaks) known where
  chosen : (b : Bool) → (b ≡ true → (found : List ScopeItem) × (input.items ≡ Some found)) → Shown (cond b
      (core_over around.outer (word_breaks around word) input has_from is_distinct items condition groups having
      (option_map_or (λ found. found) input.items []))
      (core_unlooked (word_breaks around word) input)).columns
  chosen true are =
      let found = are refl in
      shown-core_over around.outer (word_breaks around word) input has_from is_distinct items condition groups having
      (option_map_or (λ (is : List ScopeItem). is) input.items []) (known-items has_from input.items found.0 found.1 from) filled each
  chosen false are = tt

-- ---- queries

united-filled : (left right : List OutColumn) → IsFilled left → IsFilled (united_columns left right)
united-filled [] right h = h
united-filled (l ∷ left) [] h = tt
united-filled (l ∷ left) (r ∷ right) h = tt

shown-so_far : (left right : Option (List OutColumn)) → Shown left → Shown (columns_so_far left right)
shown-so_far None right h = tt
shown-so_far (Some left) None h = h
shown-so_far (Some left) (Some right) h = united-filled left right h

pub shown-chain : (around : Around) (left : QueryMeant) (steps : List SetStepPart) → Shown left.columns → Shown (set_chain around left steps).columns
shown-chain around left [] h = h
shown-chain around left (step ∷ steps) h =
    let right : QueryMeant = step.operand.means (may_not_ask around) in
    shown-chain around (set_joined left step right) steps (shown-so_far left.columns right.columns h)

shown-with_provenance : (body : QueryMeant) (query : Query) → Shown body.columns → Shown (columns_with_provenance body query)
shown-with_provenance body query h = chosen (is_whole body.breaks) where
  chosen : (b : Bool) → Shown (cond b (option_map (λ columns. columns ++ provenance_columns query) body.columns) body.columns)
  chosen true =
      shown-under (λ (columns : List OutColumn). columns ++ provenance_columns query) (λ columns. filled-append columns (provenance_columns query)) body.columns h
  chosen false = h

pub shown-query_seen : (around : Around) (at : ℕ) (body : BodyPart) (order : List OrderTree) (limit : Option ℤ) → FilledBody body
    → Shown (query_seen around at body order limit).columns
shown-query_seen around at body order limit h = chosen (asks_provenance around body) where
  chosen : (b : Bool) → Shown (cond b
      (query_with_provenance at (body.means around) order limit
      (limited limit (keys_of (body.means around).columns order) ((body.means around).make [])))
      (plain_query at (body.means around) order limit)).columns
  chosen true =
      let m : QueryMeant = body.means around in
      shown-with_provenance m (limited limit (keys_of m.columns order) (m.make [])) (h around)
  chosen false = h around
