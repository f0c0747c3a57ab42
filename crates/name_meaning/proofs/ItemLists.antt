-- The items of a SELECT list made one after the other are the list made.
use Rattle.std.specs.Prelude.{◌≡◌, ℕ, ◌+◌, Bool, true, false, List, [], ◌∷◌, ◌++◌, map, length, take, drop, filter, Option, Some, None, option_map}
use Rattle.std.specs.Option.{option_map_or}
use Rattle.std.proofs.Common.{refl, ap, sym, subst, ◌∙◌, arith, append_assoc, length-append}
use Rattle.std.proofs.lemmas.List.{append-nil, drop-drop, length-map}
use Rattle.bag_algebra.specs.declared.expr.Expr.{Expr}
use Rattle.bag_algebra.specs.declared.expr.Item.{Item}
use Rattle.bag_algebra.specs.declared.query.Aggr.{Aggr}
use Rattle.bag_algebra.specs.declared.query.Sublink.{Sublink}
use Rattle.perm_values.specs.declared.kind.Kind.{Kind}
use Rattle.perm_values.proofs.Lists.{front-none, back-none}
use Rattle.sql_tree.specs.declared.name.Name.{Name}
use Rattle.name_meaning.specs.Items.{SelectMeant, Made, column_item, columns_meant, first_wanted, items_breaks, made_before, made_items, no_columns, star_meant, table_star_meant, titled, value_made, value_meant, width_of_item}
use Rattle.name_meaning.specs.Meanings.{Before, Meant, broken, seen_kind, settled}
use Rattle.name_meaning.specs.Operands.{behind}
use Rattle.name_meaning.specs.Scopes.{Placed, placed, item_number, is_of_item}
use Rattle.name_meaning.specs.declared.answer.Break.{Break}
use Rattle.name_meaning.specs.declared.scope.Scope.{Scope}
use Rattle.name_meaning.specs.nodes.Listed.{widths, AreListed, MakesItems}
use Rattle.name_meaning.specs.nodes.Makes.{before_of, with_found, Makes}
use Rattle.name_meaning.specs.declared.nodes.within.Within.{Within}
use Rattle.name_meaning.proofs.Parts.{with-nothing, with-both, before-with, behind-nothing, behind-both}
use Rattle.name_meaning.specs.declared.rule.Rule.TheVariants as rule
use Rattle.name_meaning.proofs.Every.{whole-kind}

breaks-append : (ms more : List SelectMeant) → items_breaks (ms ++ more) ≡ items_breaks ms ++ items_breaks more
breaks-append [] more = refl
breaks-append (m ∷ ms) more =
    ap (λ (rest : List Break). m.breaks ++ rest) (breaks-append ms more) ∙ sym (append_assoc m.breaks (items_breaks ms) (items_breaks more))

widths-append : (ms more : List SelectMeant) → widths (ms ++ more) ≡ widths ms + widths more
widths-append [] more = omega arith
widths-append (m ∷ ms) more = let rest = widths-append ms more in omega (arith, rest)

first-of-both : (first a b : Made) → made_before first (made_before a b) ≡ made_before (made_before first a) b
first-of-both first a b =
    ap (λ (items : List Item). record { items = items; subs = first.subs ++ (a.subs ++ b.subs); aggregates = first.aggregates ++ (a.aggregates ++ b.aggregates) })
    (sym (append_assoc first.items a.items b.items))
    ∙ ap (λ (subs : List Sublink). record { items = (first.items ++ a.items) ++ b.items; subs = subs; aggregates = first.aggregates ++ (a.aggregates ++ b.aggregates) })
    (sym (append_assoc first.subs a.subs b.subs))
    ∙ ap (λ (aggregates : List Aggr). record { items = (first.items ++ a.items) ++ b.items; subs = (first.subs ++ a.subs) ++ b.subs; aggregates = aggregates })
    (sym (append_assoc first.aggregates a.aggregates b.aggregates))

items-append : (ms more : List SelectMeant) (wanted : List Kind) (before : Before)
    → made_items (ms ++ more) wanted before
    ≡ made_before (made_items ms wanted before)
    (made_items more (drop (widths ms) wanted) (behind before (made_items ms wanted before).subs (made_items ms wanted before).aggregates))
items-append [] more wanted before = ap (made_items more wanted) (sym (behind-nothing before))
items-append (m ∷ ms) more wanted before =
    let first = m.make (take (width_of_item m) wanted) before in
    let later = drop (width_of_item m) wanted in
    let rest = made_items ms later (behind before first.subs first.aggregates) in
    ap (made_before first) (items-append ms more later (behind before first.subs first.aggregates))
    ∙ first-of-both first rest (made_items more (drop (widths ms) later) (behind (behind before first.subs first.aggregates) rest.subs rest.aggregates))
    ∙ ap (λ (kinds : List Kind). made_before (made_before first rest) (made_items more kinds (behind (behind before first.subs first.aggregates) rest.subs rest.aggregates)))
    (drop-drop (widths ms) (width_of_item m) wanted)
    ∙ ap (λ (b : Before). made_before (made_before first rest) (made_items more (drop (widths (m ∷ ms)) wanted) b))
    (behind-both before first.subs rest.subs first.aggregates rest.aggregates)

pub none-listed : (may_link : Bool) (wanted : List Kind) (items : List Item) (w : Within) → MakesItems may_link [] wanted items items w w
none-listed may_link wanted items w =
    let same : length items ≡ length items + 0 = omega arith in
    record {
      makes = λ _. record { items = sym (append-nil items); found = sym (with-nothing w) };
      wide = λ _. same;
      unlinked = λ _. refl;
    }

pub more-listed : (may_link : Bool) (ms more : List SelectMeant) (wanted : List Kind) (p q r : List Item) (a b c : Within)
    → MakesItems may_link ms wanted p q a b → MakesItems may_link more (drop (widths ms) wanted) q r b c → MakesItems may_link (ms ++ more) wanted p r a c
more-listed may_link ms more wanted p q r a b c first second =
    let apart = λ (whole : items_breaks (ms ++ more) ≡ []). sym (breaks-append ms more) ∙ whole in
    let later = drop (widths ms) wanted in
    record {
      makes = λ whole.
          let made = made_items ms wanted (before_of a) in
          let one = first.makes (front-none (items_breaks ms) (items_breaks more) (apart whole)) in
          let two = second.makes (back-none (items_breaks ms) (items_breaks more) (apart whole)) in
          let at : before_of b ≡ behind (before_of a) made.subs made.aggregates = ap before_of one.found ∙ before-with a made.subs made.aggregates in
          let rest = made_items more later (behind (before_of a) made.subs made.aggregates) in
          let all : made_before made rest ≡ made_items (ms ++ more) wanted (before_of a) = sym (items-append ms more wanted (before_of a)) in
          record {
            items = two.items ∙ ap (λ (b : Before). q ++ (made_items more later b).items) at ∙ ap (λ (q : List Item). q ++ rest.items) one.items
                ∙ append_assoc p made.items rest.items ∙ ap (λ (made : Made). p ++ made.items) all;
            found = two.found ∙ ap (λ (before : Before). with_found b (made_items more later before).subs (made_items more later before).aggregates) at
                ∙ ap (λ (w : Within). with_found w rest.subs rest.aggregates) one.found ∙ with-both a made.subs rest.subs made.aggregates rest.aggregates
                ∙ ap (λ (made : Made). with_found a made.subs made.aggregates) all;
          };
      wide = λ whole.
          let one = first.wide (front-none (items_breaks ms) (items_breaks more) (apart whole)) in
          let two = second.wide (back-none (items_breaks ms) (items_breaks more) (apart whole)) in
          let both = widths-append ms more in
          omega (arith, one, two, both);
      unlinked = λ none. second.unlinked none ∙ first.unlinked none;
    }

-- ---- single items

one-listed : (may_link : Bool) (m : SelectMeant) (wanted : List Kind) (p q : List Item) (old new : Within)
    → (m.breaks ≡ [] → AreListed (m.make (take (width_of_item m) wanted) (before_of old)) p q old new)
    → (m.breaks ≡ [] → length q ≡ length p + width_of_item m) → (may_link ≡ false → new.subs ≡ old.subs)
    → MakesItems may_link (m ∷ []) wanted p q old new
one-listed may_link m wanted p q old new makes wide unlinked =
    let first = m.make (take (width_of_item m) wanted) (before_of old) in
    record {
      makes = λ whole.
          let listed = makes (front-none m.breaks [] whole) in
          record {
            items = listed.items ∙ ap (λ (items : List Item). p ++ items) (sym (append-nil first.items));
            found = listed.found ∙ ap (λ (subs : List Sublink). with_found old subs first.aggregates) (sym (append-nil first.subs))
                ∙ ap (λ (aggregates : List Aggr). with_found old (first.subs ++ []) aggregates) (sym (append-nil first.aggregates));
          };
      wide = λ whole. let one = wide (front-none m.breaks [] whole) in omega (arith, one);
      unlinked = unlinked;
    }

-- all of these columns, which add no sublink
pub columns-listed : (may_link : Bool) (scope : Scope) (at : ℕ) (columns : List Placed) (wanted : List Kind) (p : List Item) (w : Within)
    → MakesItems may_link (columns_meant scope at columns ∷ []) wanted p (p ++ map (column_item scope) columns) w w
columns-listed may_link scope at columns wanted p w =
    let added : length (p ++ map (column_item scope) columns) ≡ length p + length (map titled columns) =
    length-append p (map (column_item scope) columns) ∙ ap (λ (n : ℕ). length p + n) (length-map columns (column_item scope) ∙ sym (length-map columns titled)) in
    one-listed may_link (columns_meant scope at columns) wanted p (p ++ map (column_item scope) columns) w w
    (λ _. record { items = refl; found = sym (with-nothing w) }) (λ _. added) (λ _. refl)

-- what breaks is not listed
pub broken-listed : (may_link : Bool) (m : SelectMeant) (wanted : List Kind) (p : List Item) (w : Within) (first : Break) (more : List Break)
    → m.breaks ≡ first ∷ more → MakesItems may_link (m ∷ []) wanted p p w w
broken-listed may_link m wanted p w first more some =
    one-listed may_link m wanted p p w w (λ whole. let never : first ∷ more ≡ [] = sym some ∙ whole in absurd (cc))
    (λ whole. let never : first ∷ more ≡ [] = sym some ∙ whole in absurd (cc)) (λ _. refl)

-- ---- an expression

abbrev pub value_kind : Meant → List Kind → Kind
value_kind m wanted = settled (seen_kind m) (first_wanted wanted)

first-taken : (wanted : List Kind) → first_wanted (take 1 wanted) ≡ first_wanted wanted
first-taken [] = refl
first-taken (k ∷ ks) = refl

pub value-listed : (may_link : Bool) (name : Option (List ℕ)) (m : Meant) (wanted : List Kind) (kind : Kind) (e : Expr) (p : List Item) (old new : Within)
    → kind ≡ value_kind m wanted → Makes may_link m kind e old new
    → MakesItems may_link (value_meant name m ∷ []) wanted p (p ++ record { expr = e; kind = kind } ∷ []) old new
value-listed may_link name m wanted kind e p old new is made =
    one-listed may_link (value_meant name m) wanted p (p ++ record { expr = e; kind = kind } ∷ []) old new
    (λ whole.
    let same : kind ≡ settled m.kind (first_wanted (take 1 wanted)) =
    is ∙ ap (λ (k : Option Kind). settled k (first_wanted wanted)) (whole-kind m whole) ∙ ap (settled m.kind) (sym (first-taken wanted)) in
    subst (λ (k : Kind). AreListed (value_made k (m.make k (before_of old))) p (p ++ record { expr = e; kind = kind } ∷ []) old new) same
    (let built = made.makes whole in
    record { items = ap (λ (e : Expr). p ++ record { expr = e; kind = kind } ∷ []) built.expr; found = built.found }))
    (λ whole. length-append p (record { expr = e; kind = kind } ∷ []))
    made.unlinked

-- ---- stars

pub star-listed : (may_link : Bool) (has_from : Bool) (scope : Scope) (at : ℕ) (wanted : List Kind) (p : List Item) (w : Within)
    → MakesItems may_link (star_meant has_from scope at ∷ []) wanted p (p ++ map (column_item scope) (placed scope)) w w
star-listed may_link true scope at wanted p w = columns-listed may_link scope at (placed scope) wanted p w
star-listed may_link false scope at wanted p w =
    one-listed may_link (no_columns at) wanted p (p ++ map (column_item scope) (placed scope)) w w
    (λ whole. absurd (cc)) (λ whole. absurd (cc)) (λ _. refl)

abbrev of_number : Scope → Name → Option ℕ → SelectMeant
of_number scope table number = option_map_or (columns_meant scope table.at) (option_map (λ number. filter (is_of_item number) (placed scope)) number) (no_columns table.at)

pub table-star-listed : (may_link : Bool) (scope : Scope) (table : Name) (number : ℕ) (wanted : List Kind) (p : List Item) (w : Within)
    → Some number ≡ item_number table.text scope
    → MakesItems may_link (table_star_meant scope table ∷ []) wanted p (p ++ map (column_item scope) (filter (is_of_item number) (placed scope))) w w
table-star-listed may_link scope table number wanted p w is =
    subst (λ (number' : Option ℕ). MakesItems may_link (of_number scope table number' ∷ []) wanted p (p ++ map (column_item scope) (filter (is_of_item number) (placed scope))) w w) is
    (columns-listed may_link scope table.at (filter (is_of_item number) (placed scope)) wanted p w)

pub no-table-listed : (may_link : Bool) (scope : Scope) (table : Name) (wanted : List Kind) (p : List Item) (w : Within)
    → None ≡ item_number table.text scope → MakesItems may_link (table_star_meant scope table ∷ []) wanted p p w w
no-table-listed may_link scope table wanted p w is =
    subst (λ (number : Option ℕ). MakesItems may_link (of_number scope table number ∷ []) wanted p p w w) is
    (broken-listed may_link (no_columns table.at) wanted p w (broken rule.UnknownColumn table.at) [] refl)
