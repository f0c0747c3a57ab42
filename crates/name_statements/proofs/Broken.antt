-- The first break of names and values, gone through from the left.
use Rattle.std.specs.Prelude.{◌≡◌, ℕ, ◌+◌, ◌<◌, Bool, true, false, not, ◌||◌, List, [], ◌∷◌, ◌++◌, length, Option, Some, Result, Ok, Err, ◌≤◌, flat_map}
use Rattle.std.proofs.Common.{refl, true≢false, ap, sym, subst, ◌∙◌, drop, take, get_or, ◌-◌, arith, length-drop}
use Rattle.std.proofs.lemmas.Bool.{or_left, or_right, or_from, not-true, not-false}
use Rattle.std.proofs.lemmas.List.{map_more, reverse-append, take-append-drop, take_all}
use Rattle.std.proofs.lemmas.List.Folds.{list_any-append}
use Rattle.std.specs.Cmp.Lexicographic.{bytes_decides}
use Rattle.std.specs.List.{list_any}
use mathlib.Core.List.{reverse}
use Rattle.perm_values.specs.declared.kind.Kind.{Kind}
use Rattle.perm_values.specs.declared.kind.Kind.TheVariants.{Integer, Text, Boolean}
use Rattle.perm_catalog.specs.Columns.{column_kinds}
use Rattle.perm_catalog.specs.Contents.{Contents}
use Rattle.perm_catalog.specs.declared.column.Column.{Column}
use Rattle.sql_tree.specs.declared.expression.ExprTree.{ExprTree}
use Rattle.sql_tree.specs.declared.statement.ColumnDef.{ColumnDef}
use Rattle.name_meaning.specs.Froms.{condition_breaks, named_so, names_of, settled_columns}
use Rattle.name_meaning.specs.Meanings.{Meant, Surroundings, broken, broken_if, is_same_kind, means_at, seen_kind, settled, unites}
use Rattle.name_meaning.specs.Statements.{bare, has_boolean, repeated_columns, repeats, value_breaks, values_breaks}
use Rattle.name_meaning.specs.Trees.{part_of}
use Rattle.name_meaning.specs.declared.answer.Break.{Break}
use Rattle.name_meaning.specs.declared.scope.Scope.{Scope}
use Rattle.name_seen_parts.proofs.Arms.{part-at}
use Rattle.name_seen_parts.proofs.Attributed.{any-reversed}
use Rattle.name_seen_parts.specs.Seen.{first_or, seen}
use Rattle.name_seen_parts.specs.declared.refusal.Refusal.{Refusal}
use Rattle.name_seen_parts.specs.declared.refusal.Refusal.TheVariants.{Break as Broken, NoMemory}
use Rattle.name_seen_parts.specs.Told.{Tells}
use Rattle.std.proofs.Math.ListN.{drop_of_length-le}
use Rattle.perm_values.proofs.Lists.{taken, dropped}
use Rattle.bag_algebra.proofs.Truths.{left-false, right-false}
use Rattle.name_seen_parts.specs.Columns.{columns_of}
use Rattle.name_seen_parts.specs.declared.clauses.column.ShownColumn.{ShownColumn}
use Rattle.name_seen_parts.proofs.Firsts.{first-stays, flat-first}
use Rattle.perm_catalog.specs.sets.Named.{is_named}
use Rattle.name_statements.specs.Earlier.{column_break, is_defined, is_shown, texts_of}
use Rattle.name_meaning.specs.declared.rule.Rule.TheVariants as rule

-- ---- the order of names is of no account

any-texts : (test : List ℕ → Bool) (columns : List ColumnDef) → list_any (λ (column : ColumnDef). test column.name.text) columns ≡ list_any test (texts_of columns)
any-texts test [] = refl
any-texts test (column ∷ columns) = ap (λ b. test column.name.text || b) (any-texts test columns)

pub any-named : (test : List ℕ → Bool) (columns : List ColumnDef)
    → list_any (λ (column : ColumnDef). test column.name.text) columns ≡ list_any test (reverse (texts_of columns))
any-named test columns = any-texts test columns ∙ sym (any-reversed test (texts_of columns))

-- ---- columns of CREATE TABLE

texts-more : (columns : List ColumnDef) (at : ℕ) (column : ColumnDef) → at < length columns → column ≡ get_or columns at column
    → reverse (texts_of (take (at + 1) columns)) ≡ column.name.text ∷ reverse (texts_of (take at columns))
texts-more columns at column within e =
    ap reverse (map_more (λ (column : ColumnDef). column.name.text) columns at column within ∙ ap (λ (column : ColumnDef). texts_of (take at columns) ++ column.name.text ∷ []) (sym e))
    ∙ reverse-append (texts_of (take at columns)) (column.name.text ∷ [])

column-found : (earlier : List ColumnDef) (column : ColumnDef)
    → broken_if (list_any (named_so column.name.text) (reverse (texts_of earlier))) rule.RepeatedColumn column.name.at ≡ column_break earlier column
column-found earlier column = ap (λ (b : Bool). broken_if b rule.RepeatedColumn column.name.at) (sym (any-named (named_so column.name.text) earlier))

pub columns-step : (columns : List ColumnDef) (at : ℕ) (column : ColumnDef) → at < length columns → column ≡ get_or columns at column
    → column_break (take at columns) column ≡ []
    → repeated_columns (reverse (texts_of (take at columns))) (drop at columns)
    ≡ repeated_columns (reverse (texts_of (take (at + 1) columns))) (drop (at + 1) columns)
columns-step columns at column within e none =
    ap (repeated_columns (reverse (texts_of (take at columns)))) (dropped columns at column within e)
    ∙ ap (λ (breaks : List Break). breaks ++ repeated_columns (column.name.text ∷ reverse (texts_of (take at columns))) (drop (at + 1) columns))
    (column-found (take at columns) column ∙ none)
    ∙ ap (λ (earlier : List (List ℕ)). repeated_columns earlier (drop (at + 1) columns)) (sym (texts-more columns at column within e))

pub columns-first : (columns : List ColumnDef) (at : ℕ) (column : ColumnDef) (first : Break) → at < length columns → column ≡ get_or columns at column
    → first_or (column_break (take at columns) column) (tt {0}) ≡ Err first
    → first_or (repeated_columns (reverse (texts_of (take at columns))) (drop at columns)) (tt {0}) ≡ Err first
columns-first columns at column first within e broken =
    ap (λ (more : List ColumnDef). first_or (repeated_columns (reverse (texts_of (take at columns))) more) (tt {0})) (dropped columns at column within e)
    ∙ ap (λ (breaks : List Break). first_or (breaks ++ repeated_columns (column.name.text ∷ reverse (texts_of (take at columns))) (drop (at + 1) columns)) (tt {0}))
    (column-found (take at columns) column)
    ∙ first-stays (column_break (take at columns) column)
    (repeated_columns (column.name.text ∷ reverse (texts_of (take at columns))) (drop (at + 1) columns)) (tt {0}) (tt {0}) first broken

-- the same of the names so far in a set
pub texts-behind : (columns : List ColumnDef) (at : ℕ) (column : ColumnDef) (keys : List (List ℕ)) → at < length columns → column ≡ get_or columns at column
    → keys ≡ texts_of (take at columns) → keys ++ column.name.text ∷ [] ≡ texts_of (take (at + 1) columns)
texts-behind columns at column keys within e are =
    ap (λ (names : List (List ℕ)). names ++ column.name.text ∷ []) are
    ∙ sym (map_more (λ (column : ColumnDef). column.name.text) columns at column within
    ∙ ap (λ (column : ColumnDef). texts_of (take at columns) ++ column.name.text ∷ []) (sym e))

column-told : (earlier : List ColumnDef) (column : ColumnDef) (keys : List (List ℕ)) (is_new : Bool) → keys ≡ texts_of earlier
    → is_new ≡ not (is_named keys column.name.text) → is_new ≡ not (is_defined earlier column.name.text)
column-told earlier column keys is_new are told =
    told ∙ ap (λ (names : List (List ℕ)). not (is_named names column.name.text)) are
    ∙ ap not (sym (any-texts (named_so column.name.text) earlier))

pub column-new : (earlier : List ColumnDef) (column : ColumnDef) (keys : List (List ℕ)) (is_new : Bool) → keys ≡ texts_of earlier
    → is_new ≡ not (is_named keys column.name.text) → is_new ≡ true → column_break earlier column ≡ []
column-new earlier column keys is_new are told new =
    ap (λ (b : Bool). broken_if b rule.RepeatedColumn column.name.at)
    (not-true (is_defined earlier column.name.text) (sym (column-told earlier column keys is_new are told) ∙ new))

pub column-repeated : (earlier : List ColumnDef) (column : ColumnDef) (keys : List (List ℕ)) (is_new : Bool) → keys ≡ texts_of earlier
    → is_new ≡ not (is_named keys column.name.text) → is_new ≡ false
    → first_or (column_break earlier column) (tt {0}) ≡ Err (broken rule.RepeatedColumn column.name.at)
column-repeated earlier column keys is_new are told old =
    ap (λ (b : Bool). first_or (broken_if b rule.RepeatedColumn column.name.at) (tt {0}))
    (not-false (is_defined earlier column.name.text) (sym (column-told earlier column keys is_new are told) ∙ old))

-- ---- the columns of a query

abbrev pub shown_names : List ShownColumn → List (List ℕ)
shown_names columns = names_of (settled_columns (columns_of columns))

any-shown : (test : List ℕ → Bool) (columns : List ShownColumn) → list_any (λ (column : ShownColumn). test column.name) columns ≡ list_any test (shown_names columns)
any-shown test [] = refl
any-shown test (column ∷ columns) = ap (λ b. test column.name || b) (any-shown test columns)

pub all-behind : (columns : List ShownColumn) (k : ℕ) → take (length columns - k) (drop k columns) ≡ drop k columns
all-behind columns k = take_all (length columns - k) (drop k columns) (omega (arith, length-drop k columns))

pub repeats-at : (columns : List ShownColumn) (at : ℕ) (column : ShownColumn) (b : Bool) → at < length columns → column ≡ get_or columns at column
    → b ≡ is_shown (drop (at + 1) columns) column.name
    → repeats (names_of (settled_columns (columns_of (drop at columns)))) ≡ (b || repeats (names_of (settled_columns (columns_of (drop (at + 1) columns)))))
repeats-at columns at column b within e is =
    ap (λ (more : List ShownColumn). repeats (shown_names more)) (dropped columns at column within e)
    ∙ ap (λ (found : Bool). found || repeats (shown_names (drop (at + 1) columns)))
    (sym (is ∙ any-shown (named_so column.name) (drop (at + 1) columns)))

-- the same of the names so far in a set
pub shown-append : (columns more : List ShownColumn) → shown_names (columns ++ more) ≡ shown_names columns ++ shown_names more
shown-append [] more = refl
shown-append (column ∷ columns) more = ap (λ (names : List (List ℕ)). column.name ∷ names) (shown-append columns more)

pub shown-behind : (columns : List ShownColumn) (at : ℕ) (column : ShownColumn) (keys : List (List ℕ)) → at < length columns
    → column ≡ get_or columns at column → keys ≡ shown_names (take at columns) → keys ++ column.name ∷ [] ≡ shown_names (take (at + 1) columns)
shown-behind columns at column keys within e are =
    ap (λ (names : List (List ℕ)). names ++ column.name ∷ []) are ∙ sym (shown-append (take at columns) (column ∷ []))
    ∙ ap shown_names (sym (taken columns at column within e))

named-back : (a b : List ℕ) → named_so a b ≡ true → named_so b a ≡ true
named-back a b e = (bytes_decides b a).1 (sym ((bytes_decides a b).0 e))

other-back : (a b : List ℕ) → named_so a b ≡ false → named_so b a ≡ false
other-back a b e = by (named_so b a) refl where
  by : (is : Bool) → named_so b a ≡ is → is ≡ false
  by true same = absurd (true≢false (sym (named-back b a same) ∙ e))
  by false other = refl

new-repeats : (names : List (List ℕ)) (name : List ℕ) → list_any (named_so name) names ≡ false → repeats names ≡ false
    → repeats (names ++ name ∷ []) ≡ false
new-repeats [] name new none = refl
new-repeats (first ∷ names) name new none =
    let apart = other-back name first (left-false (named_so name first) (list_any (named_so name) names) new) in
    let among = left-false (list_any (named_so first) names) (repeats names) none in
    or_from (list_any (named_so first) (names ++ name ∷ [])) (repeats (names ++ name ∷ []))
    (list_any-append (named_so first) names (name ∷ [])
    ∙ or_from (list_any (named_so first) names) (named_so first name || false) among (or_from (named_so first name) false apart refl))
    (new-repeats names name (right-false (named_so name first) (list_any (named_so name) names) new)
    (right-false (list_any (named_so first) names) (repeats names) none))

old-repeats : (names : List (List ℕ)) (name : List ℕ) (more : List (List ℕ)) → list_any (named_so name) names ≡ true
    → repeats (names ++ name ∷ more) ≡ true
old-repeats [] name more old = absurd (true≢false (sym old))
old-repeats (first ∷ names) name more old = by (old-repeats names name more) (named_so name first) refl old where
  among : List (List ℕ)
  among = names ++ name ∷ more

  by : (list_any (named_so name) names ≡ true → repeats among ≡ true) → (is : Bool) → named_so name first ≡ is
      → (is || list_any (named_so name) names) ≡ true → (list_any (named_so first) among || repeats among) ≡ true
  by later true same found = or_left (list_any (named_so first) among) (repeats among)
      (list_any-append (named_so first) names (name ∷ more) ∙ or_right (list_any (named_so first) names) (named_so first name || list_any (named_so first) more)
      (or_left (named_so first name) (list_any (named_so first) more) (named-back name first same)))
  by later false other found = or_right (list_any (named_so first) among) (repeats among) (later found)

pub names-new : (columns : List ShownColumn) (at : ℕ) (column : ShownColumn) (keys : List (List ℕ)) (is_new : Bool) → at < length columns
    → column ≡ get_or columns at column → keys ≡ shown_names (take at columns) → is_new ≡ not (is_named keys column.name) → is_new ≡ true
    → repeats (shown_names (take at columns)) ≡ false → repeats (shown_names (take (at + 1) columns)) ≡ false
names-new columns at column keys is_new within e are told new none =
    let names = shown_names (take at columns) in
    ap repeats (sym (shown-behind columns at column names within e refl))
    ∙ new-repeats names column.name (ap (λ (known : List (List ℕ)). is_named known column.name) (sym are)
    ∙ not-true (is_named keys column.name) (sym told ∙ new)) none

pub names-repeat : (columns : List ShownColumn) (at : ℕ) (column : ShownColumn) (keys : List (List ℕ)) (is_new : Bool) → at < length columns
    → column ≡ get_or columns at column → keys ≡ shown_names (take at columns) → is_new ≡ not (is_named keys column.name) → is_new ≡ false
    → repeats (shown_names columns) ≡ true
names-repeat columns at column keys is_new within e are told old =
    let names = shown_names (take at columns) in
    let rest = drop (at + 1) columns in
    ap (λ (all : List ShownColumn). repeats (shown_names all)) (sym (take-append-drop at columns))
    ∙ ap repeats (shown-append (take at columns) (drop at columns))
    ∙ ap (λ (more : List ShownColumn). repeats (names ++ shown_names more)) (dropped columns at column within e)
    ∙ old-repeats names column.name (shown_names rest) (ap (λ (known : List (List ℕ)). is_named known column.name) (sym are)
    ∙ not-false (is_named keys column.name) (sym told ∙ old))

holds-first : (kind : Kind) (b : Bool) → is_same_kind kind Boolean ≡ b → (found : Bool) → elim kind [ Integer ↦ found | Text ↦ found | Boolean ↦ true ] ≡ (b || found)
holds-first Integer b e found = ap (λ (c : Bool). c || found) e
holds-first Text b e found = ap (λ (c : Bool). c || found) e
holds-first Boolean b e found = ap (λ (c : Bool). c || found) e

pub boolean-at : (columns : List ShownColumn) (at : ℕ) (column : ShownColumn) (b : Bool) → at < length columns → column ≡ get_or columns at column
    → b ≡ is_same_kind (settled column.kind Text) Boolean
    → has_boolean (settled_columns (columns_of (drop at columns))) ≡ (b || has_boolean (settled_columns (columns_of (drop (at + 1) columns))))
boolean-at columns at column b within e is =
    ap (λ (more : List ShownColumn). has_boolean (settled_columns (columns_of more))) (dropped columns at column within e)
    ∙ holds-first (settled column.kind Text) b (sym is) (has_boolean (settled_columns (columns_of (drop (at + 1) columns))))

-- ---- values

kinds-dropped : (columns : List Column) (at : ℕ) (column : Column) → at < length columns → column ≡ get_or columns at column
    → column_kinds (drop at columns) ≡ column.kind ∷ column_kinds (drop (at + 1) columns)
kinds-dropped columns at column within e = ap column_kinds (dropped columns at column within e)

abbrev pub value_break : Contents → Kind → ExprTree → List Break
value_break c kind tree = value_breaks kind tree.at (means_at (part_of c tree) (bare []))

-- the first value and those behind it
pub value-before : (c : Contents) (columns : List Column) (values : List ExprTree) (at : ℕ) (column : Column) (tree : ExprTree)
    → at < length columns → column ≡ get_or columns at column → at < length values → tree ≡ get_or values at tree
    → values_breaks c (column_kinds (drop at columns)) (drop at values)
    ≡ value_break c column.kind tree ++ values_breaks c (column_kinds (drop (at + 1) columns)) (drop (at + 1) values)
value-before c columns values at column tree within e within_too f =
    (λ i. values_breaks c (kinds-dropped columns at column within e i) (dropped values at tree within_too f i))
    ∙ ap (λ n. value_breaks column.kind n (means_at (part_of c tree) (bare [])) ++ values_breaks c (column_kinds (drop (at + 1) columns)) (drop (at + 1) values)) (part-at c tree)

pub value-step : (c : Contents) (columns : List Column) (values : List ExprTree) (at : ℕ) (column : Column) (tree : ExprTree)
    → at < length columns → column ≡ get_or columns at column → at < length values → tree ≡ get_or values at tree
    → value_break c column.kind tree ≡ []
    → values_breaks c (column_kinds (drop at columns)) (drop at values) ≡ values_breaks c (column_kinds (drop (at + 1) columns)) (drop (at + 1) values)
value-step c columns values at column tree within e within_too f none =
    value-before c columns values at column tree within e within_too f
    ∙ ap (λ (breaks : List Break). breaks ++ values_breaks c (column_kinds (drop (at + 1) columns)) (drop (at + 1) values)) none

pub value-first : (c : Contents) (columns : List Column) (values : List ExprTree) (at : ℕ) (column : Column) (tree : ExprTree) (first : Break)
    → at < length columns → column ≡ get_or columns at column → at < length values → tree ≡ get_or values at tree
    → first_or (value_break c column.kind tree) (tt {0}) ≡ Err first
    → first_or (values_breaks c (column_kinds (drop at columns)) (drop at values)) (tt {0}) ≡ Err first
value-first c columns values at column tree first within e within_too f broken =
    ap (λ (breaks : List Break). first_or breaks (tt {0})) (value-before c columns values at column tree within e within_too f)
    ∙ first-stays (value_break c column.kind tree) (values_breaks c (column_kinds (drop (at + 1) columns)) (drop (at + 1) values)) (tt {0}) (tt {0}) first broken

-- the kind of a value that breaks nothing is that which is seen
pub kind-seen : (m : Meant) (found : Option Kind) → seen m ≡ Ok found → (m.breaks ≡ []) × (seen_kind m ≡ found)
kind-seen m found e = of m.breaks refl where
  of : (breaks : List Break) → m.breaks ≡ breaks → (m.breaks ≡ []) × (seen_kind m ≡ found)
  of [] none =
      let told : first_or m.breaks m.kind ≡ Ok m.kind = ap (λ (bs : List Break). first_or bs m.kind) none in
      let same : m.kind ≡ found = cc (e, told) in
      (none, ap (λ (bs : List Break). seen_kind (record m { breaks = bs })) none ∙ same)
  of (b ∷ bs) some =
      let told : first_or m.breaks m.kind ≡ Err b = ap (λ (breaks : List Break). first_or breaks m.kind) some in
      absurd (cc (e, told))

pub value-told : (kind : Kind) (at : ℕ) (m : Meant) (found : Option Kind) → seen m ≡ Ok found
    → value_breaks kind at m ≡ broken_if (not (unites (Some kind) found)) rule.UnfitKind at
value-told kind at m found e =
    let are = kind-seen m found e in
    ap (λ (breaks : List Break). breaks ++ broken_if (not (unites (Some kind) (seen_kind m))) rule.UnfitKind at) are.0
    ∙ ap (λ (k : Option Kind). broken_if (not (unites (Some kind) k)) rule.UnfitKind at) are.1

pub value-refused : (kind : Kind) (at : ℕ) (m : Meant) (refusal : Refusal) → Tells (seen m) (Err refusal)
    → Tells (first_or (value_breaks kind at m) (tt {0})) (Err refusal)
value-refused kind at m (Broken first) e =
    first-stays m.breaks (broken_if (not (unites (Some kind) (seen_kind m))) rule.UnfitKind at) m.kind (tt {0}) first e
value-refused kind at m NoMemory e = tt

-- ---- refusals stay

pub rows-refused : {X : Type 0} (f : X → List Break) (rows : List X) (i : ℕ) (row : X) (refusal : Refusal) → i < length rows → row ≡ get_or rows i row
    → Tells (first_or (f row) (tt {0})) (Err refusal) → flat_map f rows ≡ flat_map f (drop i rows)
    → Tells (first_or (flat_map f rows) (tt {0})) (Err refusal)
rows-refused f rows i row (Broken first) within e broken same =
    ap (λ (breaks : List Break). first_or breaks (tt {0})) same ∙ flat-first f rows i row (tt {0}) (tt {0}) first within e broken
rows-refused f rows i row NoMemory within e broken same = tt

pub values-refused : (c : Contents) (columns : List Column) (values : List ExprTree) (at : ℕ) (column : Column) (tree : ExprTree) (refusal : Refusal)
    → at < length columns → column ≡ get_or columns at column → at < length values → tree ≡ get_or values at tree
    → Tells (first_or (value_break c column.kind tree) (tt {0})) (Err refusal)
    → values_breaks c (column_kinds columns) values ≡ values_breaks c (column_kinds (drop at columns)) (drop at values)
    → Tells (first_or (values_breaks c (column_kinds columns) values) (tt {0})) (Err refusal)
values-refused c columns values at column tree (Broken first) within e within_too f broken same =
    ap (λ (breaks : List Break). first_or breaks (tt {0})) same ∙ value-first c columns values at column tree first within e within_too f broken
values-refused c columns values at column tree NoMemory within e within_too f broken same = tt

-- nothing is left at the end
pub values-end : (c : Contents) (columns : List Column) (values : List ExprTree) (at : ℕ) → length values ≤ at
    → values_breaks c (column_kinds columns) values ≡ values_breaks c (column_kinds (drop at columns)) (drop at values)
    → first_or (values_breaks c (column_kinds columns) values) (tt {0}) ≡ Ok (tt {0})
values-end c columns values at past same =
    ap (λ (breaks : List Break). first_or breaks (tt {0})) (same
    ∙ ap (values_breaks c (column_kinds (drop at columns))) (drop_of_length-le values past) ∙ no-values (column_kinds (drop at columns))) where
      no-values : (kinds : List Kind) → values_breaks c kinds [] ≡ []
      no-values [] = refl
      no-values (kind ∷ kinds) = refl

-- ---- the condition of DELETE

pub condition-told : (c : Contents) (tree : ExprTree) (scopes : List Scope) (here : Surroundings) (kind : Result (Option Kind) Refusal) (result : Result (Unit {0}) Refusal)
    → here ≡ bare scopes
    → ((meant : Meant) → Tells (seen meant) kind → Tells (first_or (condition_breaks tree.at meant) (tt {0})) result)
    → Tells (seen (means_at (part_of c tree) here)) kind
    → Tells (first_or (condition_breaks (part_of c tree).at (means_at (part_of c tree) (bare scopes))) (tt {0})) result
condition-told c tree scopes here kind result same so told =
    subst (λ (at : ℕ). Tells (first_or (condition_breaks at (means_at (part_of c tree) (bare scopes))) (tt {0})) result) (sym (part-at c tree))
    (so (means_at (part_of c tree) (bare scopes)) (subst (λ (h : Surroundings). Tells (seen (means_at (part_of c tree) h)) kind) same told))
