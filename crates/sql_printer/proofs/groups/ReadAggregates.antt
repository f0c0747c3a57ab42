-- SELECT lists of grouped columns and aggregates as they are read.
use Rattle.std.proofs.Common.{◌≡◌, ◌≢◌, ℕ, suc, ◌+◌, ◌<◌, Bool, true, cond, not, List, [], ◌∷◌, ◌++◌, length, map, Some, None, refl, sym, ap, subst, ◌∙◌, arith}
use Rattle.std.specs.List.{range_with_len}
use Rattle.std.specs.Prelude.{drop, slice_get, take}
use Rattle.perm_values.specs.declared.kind.Kind.{Kind}
use Rattle.perm_values.specs.declared.kind.Kind.TheVariants as kinds
use Rattle.bag_algebra.specs.Kinds.{aggregate_kinds}
use Rattle.bag_algebra.specs.declared.expr.Expr.{Expr}
use Rattle.bag_algebra.specs.declared.expr.Expr.TheVariants.{Col}
use Rattle.bag_algebra.specs.declared.expr.Item.{Item}
use Rattle.bag_algebra.specs.declared.query.AggFn.{AggFn}
use Rattle.bag_algebra.specs.declared.query.AggFn.TheVariants as agg
use Rattle.bag_algebra.specs.declared.query.Aggr.{Aggr}
use Rattle.perm_catalog.specs.Contents.{Contents}
use Rattle.sql_tree.specs.declared.expression.AggWord.{AggWord}
use Rattle.sql_tree.specs.declared.expression.AggWord.TheVariants as word
use Rattle.sql_tree.specs.declared.expression.ExprBody.TheVariants as e
use Rattle.sql_tree.specs.declared.expression.ExprTree.{ExprTree}
use Rattle.sql_tree.specs.declared.query.SelectItem.{SelectItem}
use Rattle.name_meaning.proofs.Equations.{exprbody-aggregate-none, exprbody-aggregate-some, exprtree-record, token}
use Rattle.name_meaning.proofs.Forms.{means-aggregate-none, means-aggregate-some}
use Rattle.name_meaning.specs.Expressions.{Body}
use Rattle.name_meaning.specs.Items.{Made, SelectPart, all_known, first_wanted, items_breaks, made_before, made_items, value_made, value_meant, width_of_item}
use Rattle.name_meaning.specs.Meanings.{Before, Meant, Part, Surroundings, broken_if, is_same_kind, is_whole, means_at, seen_kind, settled, unites}
use Rattle.name_meaning.specs.Operands.{behind}
use Rattle.name_meaning.specs.Scopes.{group_count}
use Rattle.name_meaning.specs.Sublinks.{aggregate_kind, aggregated, argument_wanted, function_of, in_argument, nothing_before, rows_counted, takes_kind}
use Rattle.name_meaning.specs.Trees.{body_of, item_of, part_of}
use Rattle.name_meaning.specs.declared.rule.Rule.TheVariants as rule
use Rattle.name_meaning.specs.declared.scope.Scope.{Scope}
use Rattle.tree_texts.specs.Forms as f
use Rattle.tree_texts.specs.Forms.{ExprForm}
use Rattle.tree_texts.specs.Trees.{AreItems, IsExpr, IsItem, an_item_tree, count_distinct_tree, count_rows_tree, count_tree, folded_tree, item_tree, no_item_trees}
use Rattle.query_texts.specs.forms.ShownQueries as writing
use Rattle.query_texts.specs.forms.ShownQueries.{named_from, own_column}
use Rattle.sql_printer.specs.rows.Printed as printing
use Rattle.sql_printer.specs.rows.Printed.{argument_at, columns_from, counted}
use Rattle.sql_printer.proofs.rows.AskedNumbers.{get-below}
use Rattle.sql_printer.specs.expressions.Reading.{IsRead}
use Rattle.sql_printer.specs.expressions.Scopes.{marks}
use Rattle.sql_printer.proofs.expressions.ReadParts.{read-seen}
use Rattle.sql_printer.specs.cores.Queries.{numbered_names}
use Rattle.sql_printer.proofs.cores.ReadLists.{item_at, known-next, named_part, part-is, seen_in, titles}

-- ---- one expression over groups

-- it breaks nothing, its kind is known, and behind so many aggregates it is made to this expression with these aggregates of its own
pub record GroupRead (m : Meant) (kind : Kind) (made : ℕ → Expr) (aggregates : List Aggr) : Type 0 where
  pub breaks : m.breaks ≡ []
  pub kind_is : m.kind ≡ Some kind
  pub make : (wanted : Kind) (before : Before) → m.make wanted before ≡ record { expr = made before.aggregates; subs = []; aggregates = aggregates }

pub plain-group : (m : Meant) (kind : Kind) (x : Expr) → IsRead m kind (λ n. x) [] → GroupRead m kind (λ n. x) []
plain-group m kind x r = record { breaks = r.breaks; kind_is = r.kind_is; make = λ wanted before. r.make wanted before }

group-same : (m other : Meant) (kind : Kind) (made : ℕ → Expr) (aggregates : List Aggr) → m ≡ other → GroupRead other kind made aggregates → GroupRead m kind made aggregates
group-same m other kind made aggregates same r = subst (λ x. GroupRead x kind made aggregates) (sym same) r

-- the kind of the argument, and what is given of it
abbrev pub FitsArgument : AggFn → Kind → Kind → Type 0
FitsArgument agg.CountRows own kind = kind ≡ kinds.Integer
FitsArgument agg.Count own kind = kind ≡ kinds.Integer
FitsArgument agg.CountDistinct own kind = kind ≡ kinds.Integer
FitsArgument agg.Sum own kind = (own ≡ kinds.Integer) × (kind ≡ kinds.Integer)
FitsArgument agg.Min own kind = (own ≡ kind) × (kind ≢ kinds.Boolean)
FitsArgument agg.Max own kind = (own ≡ kind) × (kind ≢ kinds.Boolean)

abbrev pub aggr_at : AggFn → ℕ → Kind → Aggr
aggr_at function place kind = record { function = function; argument = argument_at function place; kind = kind }

ordered : (kind : Kind) → kind ≢ kinds.Boolean → not (is_same_kind kinds.Boolean kind) ≡ true
ordered kinds.Integer apart = refl
ordered kinds.Text apart = refl
ordered kinds.Boolean apart = absurd (apart refl)

module _ (c : Contents) (here : Surroundings) (allowed : here.aggregates ≡ true) where
  abbrev pub behind_groups : ℕ → Expr
  behind_groups n = Col 0 (group_count here.scopes + n)

  pub rows-read : (tree : ExprTree) → IsExpr f.count_rows tree → GroupRead ((part_of c tree).means here) kinds.Integer behind_groups (counted ∷ [])
  unfolding means_at
  rows-read tree (count_rows_tree is) =
      group-same ((part_of c tree).means here) (rows_counted here tree.at word.CountRows) kinds.Integer behind_groups (counted ∷ [])
      (means-aggregate-none c here tree word.CountRows is)
      (record {
        breaks = ap (λ b. broken_if (not b) rule.MisplacedAggregate tree.at) allowed;
        kind_is = refl;
        make = λ wanted before. refl;
      })

  of_column-read : (w : AggWord) (place : ℕ) (own kind : Kind) (tree x : ExprTree) → tree.body ≡ e.Aggregate w (Some x)
      → IsRead ((part_of c x).means (in_argument here)) own (λ n. Col 0 place) [] → takes_kind w (Some own) ≡ true → aggregate_kind w (Some own) ≡ kind
      → GroupRead ((part_of c tree).means here) kind behind_groups (record { function = function_of w; argument = Some (Col 0 place); kind = kind } ∷ [])
  unfolding means_at
  of_column-read w place own kind tree x is r takes gives =
      let m = (part_of c x).means (in_argument here) in
      let seen : seen_kind m ≡ Some own = read-seen m own (λ n. Col 0 place) [] r in
      let taken : takes_kind w (seen_kind m) ≡ true = ap (takes_kind w) seen ∙ takes in
      let given : aggregate_kind w (seen_kind m) ≡ kind = ap (aggregate_kind w) seen ∙ gives in
      group-same ((part_of c tree).means here) (aggregated here tree.at w (part_of c x).at m) kind behind_groups
      (record { function = function_of w; argument = Some (Col 0 place); kind = kind } ∷ []) (means-aggregate-some c here tree w x is)
      (record {
        breaks = λ i. r.breaks i ++ broken_if (not (allowed i)) rule.MisplacedAggregate tree.at ++ broken_if (not (taken i)) rule.UnfitKind (part_of c x).at;
        kind_is = ap Some given;
        make = λ wanted before. λ i. record {
          expr = behind_groups before.aggregates;
          subs = [];
          aggregates = record { function = function_of w; argument = Some (r.make (argument_wanted w) nothing_before i).expr; kind = given i } ∷ [];
        };
      })

  pub aggregate-read : (function : AggFn) (name : List ℕ) (place : ℕ) (own kind : Kind) → FitsArgument function own kind
      → ((tree : ExprTree) → IsExpr (f.column (f.bare name)) tree → IsRead ((part_of c tree).means (in_argument here)) own (λ n. Col 0 place) [])
      → (tree : ExprTree) → IsExpr (writing.aggregated function (f.bare name)) tree
      → GroupRead ((part_of c tree).means here) kind behind_groups (aggr_at function place kind ∷ [])
  aggregate-read agg.CountRows name place own kind fits argument tree d =
      subst (λ k. GroupRead ((part_of c tree).means here) k behind_groups (aggr_at agg.CountRows place k ∷ [])) (sym fits) (rows-read tree d)
  aggregate-read agg.Count name place own kind fits argument tree (count_tree {x = x} d is) =
      of_column-read word.Count place own kind tree x is (argument x d) refl (sym fits)
  aggregate-read agg.CountDistinct name place own kind fits argument tree (count_distinct_tree {x = x} d is) =
      of_column-read word.CountDistinct place own kind tree x is (argument x d) refl (sym fits)
  aggregate-read agg.Sum name place own kind fits argument tree (folded_tree {x = x} d is) =
      of_column-read word.Sum place own kind tree x is (argument x d) (ap (λ k. unites (Some kinds.Integer) (Some k)) fits.0) (sym fits.1)
  aggregate-read agg.Min name place own kind fits argument tree (folded_tree {x = x} d is) =
      of_column-read word.Min place own kind tree x is (argument x d) (ordered own (subst (λ k. k ≢ kinds.Boolean) (sym fits.0) fits.1)) fits.0
  aggregate-read agg.Max name place own kind fits argument tree (folded_tree {x = x} d is) =
      of_column-read word.Max place own kind tree x is (argument x d) (ordered own (subst (λ k. k ≢ kinds.Boolean) (sym fits.0) fits.1)) fits.0

-- ---- where an aggregate stands

module _ (c : Contents) where
  pub counts : (tree : ExprTree) (w : AggWord) → tree.body ≡ e.Aggregate w None → (part_of c tree).aggregating ≡ true
  unfolding token
  counts tree w is =
      ap (λ (p : Part). p.aggregating) (exprtree-record c tree.at tree.body) ∙ ap (λ (b : Body). b.aggregating) (ap (body_of c) is ∙ exprbody-aggregate-none c w)

  pub folds : (tree : ExprTree) (w : AggWord) (x : ExprTree) → tree.body ≡ e.Aggregate w (Some x) → (part_of c tree).aggregating ≡ true
  unfolding token
  folds tree w x is =
      ap (λ (p : Part). p.aggregating) (exprtree-record c tree.at tree.body) ∙ ap (λ (b : Body). b.aggregating) (ap (body_of c) is ∙ exprbody-aggregate-some c w x)

-- ---- lists

abbrev pub made_with : List Item → List Aggr → Made
made_with items aggregates = record { items = items; subs = []; aggregates = aggregates }

pub record GroupedList (has_from : Bool) (scope : Scope) (here : Surroundings) (parts : List SelectPart) (names : List (List ℕ)) (all : List Kind)
    (made : ℕ → List Item) (aggregates : List Aggr) : Type 0 where
  pub breaks : items_breaks (seen_in has_from scope here parts) ≡ []
  pub known : all_known (seen_in has_from scope here parts) ≡ Some (titles names all)
  pub make : (wanted : List Kind) (before : Before) → made_items (seen_in has_from scope here parts) wanted before ≡ made_with (made before.aggregates) aggregates

made-next : (own : Made) (items : List Item) (aggregates : List Aggr) (rest : Before → Made) (others : ℕ → List Item) (more : List Aggr) (before : Before)
    → own ≡ made_with items aggregates → ((b : Before) → rest b ≡ made_with (others b.aggregates) more)
    → made_before own (rest (behind before own.subs own.aggregates)) ≡ made_with (items ++ others (before.aggregates + length aggregates)) (aggregates ++ more)
made-next own items aggregates rest others more before is all =
    ap (λ (m : Made). made_before m (rest (behind before m.subs m.aggregates))) is ∙ ap (made_before (made_with items aggregates)) (all (behind before [] aggregates))

value-made : (m : Meant) (kind : Kind) (made : ℕ → Expr) (aggregates : List Aggr) → GroupRead m kind made aggregates → (name : List ℕ) (wanted : List Kind) (before : Before)
    → (value_meant (Some name) m).make wanted before ≡ made_with (item_at kind (made before.aggregates) ∷ []) aggregates
value-made m kind made aggregates r name wanted before =
    (λ i. value_made (settled (r.kind_is i) (first_wanted wanted)) (m.make (settled (r.kind_is i) (first_wanted wanted)) before))
    ∙ ap (value_made kind) (r.make kind before)

value-seen : (m : Meant) (kind : Kind) → m.breaks ≡ [] → m.kind ≡ Some kind → seen_kind m ≡ Some kind
value-seen m kind whole is = λ i. cond (is_whole (whole i)) (is i) None

module _ (c : Contents) (has_from : Bool) (scope : Scope) (here : Surroundings) where
  first-grouped : (tree : ExprTree) (parts : List SelectPart) (name : List ℕ) (names : List (List ℕ)) (kind : Kind) (all : List Kind) (made : ℕ → Expr)
      (others : ℕ → List Item) (aggregates more : List Aggr) (count : ℕ) → GroupRead ((part_of c tree).means here) kind made aggregates
      → GroupedList has_from scope here parts names all others more → length aggregates ≡ count
      → GroupedList has_from scope here (named_part c has_from scope here tree name ∷ parts) (name ∷ names) (kind ∷ all) (λ n. item_at kind (made n) ∷ others (n + count)) (aggregates ++ more)
  first-grouped tree parts name names kind all made others aggregates more count r rest is =
      let own = (part_of c tree).means here in
      let m = value_meant (Some name) own in
      let ms = seen_in has_from scope here parts in
      record {
        breaks = λ i. r.breaks i ++ rest.breaks i;
        known = known-next m ms (record { name = Some name; kind = Some kind } ∷ []) (titles names all)
            (ap (λ found. Some (record { name = Some name; kind = found } ∷ [])) (value-seen own kind r.breaks r.kind_is)) rest.known;
        make = λ wanted before.
            made-next (m.make (take (width_of_item m) wanted) before) (item_at kind (made before.aggregates) ∷ []) aggregates
            (made_items ms (drop (width_of_item m) wanted)) others more before
            (value-made own kind made aggregates r name (take (width_of_item m) wanted) before) (rest.make (drop (width_of_item m) wanted))
            ∙ (λ i. made_with (item_at kind (made before.aggregates) ∷ others (before.aggregates + is i)) (aggregates ++ more));
      }

  pub grouped_item-read : {a : ExprForm} {name : List ℕ} {item : SelectItem} (items : List SelectItem) (names : List (List ℕ)) (kind : Kind) (all : List Kind) (made : ℕ → Expr)
      (others : ℕ → List Item) (aggregates more : List Aggr) (count : ℕ) → IsItem a name item
      → ((tree : ExprTree) → IsExpr a tree → GroupRead ((part_of c tree).means here) kind made aggregates)
      → GroupedList has_from scope here (map (item_of c) items) names all others more → length aggregates ≡ count
      → GroupedList has_from scope here (map (item_of c) (item ∷ items)) (name ∷ names) (kind ∷ all) (λ n. item_at kind (made n) ∷ others (n + count)) (aggregates ++ more)
  grouped_item-read {name = name} {item = item} items names kind all made others aggregates more count (item_tree {x = x} alias d named is) read rest same =
      let list : ℕ → List Item = λ n. item_at kind (made n) ∷ others (n + count) in
      let part_named : item_of c item ≡ named_part c has_from scope here x name =
      ap (item_of c) is ∙ part-is c has_from scope here x alias ∙ ap (named_part c has_from scope here x) named in
      subst (λ part. GroupedList has_from scope here (part ∷ map (item_of c) items) (name ∷ names) (kind ∷ all) list (aggregates ++ more)) (sym part_named)
      (first-grouped x (map (item_of c) items) name names kind all made others aggregates more count (read x d) rest same)

  pub no_groups-read : GroupedList has_from scope here [] [] [] (λ n. []) []
  no_groups-read = record { breaks = refl; known = refl; make = λ wanted before. refl }

-- ---- aggregates of the columns below, and grouped columns before them

abbrev pub named_columns : List ℕ → ℕ → ℕ → List ExprForm
named_columns prefix number count = map f.column (map (own_column prefix) (range_with_len number count))

-- the argument of each is the column of its place
abbrev pub Fitting : List Kind → ℕ → List Aggr → Type 0
Fitting below place [] = Unit {0}
Fitting below place (aggregate ∷ aggregates) =
    ((own : Kind) × (slice_get below place ≡ Some own) × FitsArgument aggregate.function own aggregate.kind) × Fitting below (suc place) aggregates

-- the columns of the query below, as arguments or as grouped columns
abbrev pub ColumnsRead : Contents → Surroundings → ℕ → List Kind → ℕ → Type 0
ColumnsRead c here depth below count = (place : ℕ) (kind : Kind) → place < count → slice_get below place ≡ Some kind → (tree : ExprTree)
    → IsExpr (f.column (own_column (marks depth) (place + 1))) tree → IsRead ((part_of c tree).means here) kind (λ m. Col 0 place) []

module _ (c : Contents) (has_from : Bool) (scope : Scope) (here : Surroundings) (allowed : here.aggregates ≡ true) (depth : ℕ) (below : List Kind) (n : ℕ)
    (grouped : group_count here.scopes ≡ n) (arguments : ColumnsRead c (in_argument here) depth below (length below)) where
  pub aggregates-read : (place out first : ℕ) (aggregates : List Aggr) → Fitting below place aggregates → {trees : List SelectItem}
      → AreItems (named_from (marks out) first (writing.aggregates_from (marks depth) (place + 1) aggregates)) trees
      → GroupedList has_from scope here (map (item_of c) trees) (numbered_names out first (aggregate_kinds aggregates)) (aggregate_kinds aggregates)
      (λ b. columns_from (n + b) (aggregate_kinds aggregates)) (printing.aggregates_from place aggregates)
  aggregates-read place out first [] fits no_item_trees = no_groups-read c has_from scope here
  aggregates-read place out first (aggregate ∷ aggregates) fits (an_item_tree {item = item} {items = trees} d ds) =
      let next : first + 1 ≡ suc first = omega arith in
      let later : place + 1 ≡ suc place = omega arith in
      let on : (b : ℕ) → n + (b + 1) ≡ suc (n + b) = λ b. omega arith in
      let more = aggregate_kinds aggregates in
      let read = arguments place fits.0.0 (get-below below place fits.0.0 fits.0.1) fits.0.1 in
      let rest = aggregates-read (suc place) out (suc first) aggregates fits.1
      (subst (λ m. AreItems (named_from (marks out) (suc first) (writing.aggregates_from (marks depth) (m + 1) aggregates)) trees) later
      (subst (λ m. AreItems (named_from (marks out) m (writing.aggregates_from (marks depth) (place + 1 + 1) aggregates)) trees) next ds)) in
      subst (λ (list : ℕ → List Item). GroupedList has_from scope here (map (item_of c) (item ∷ trees)) (numbered_names out first (aggregate.kind ∷ more)) (aggregate.kind ∷ more) list
      (printing.aggregates_from place (aggregate ∷ aggregates))) (λ i b. item_at aggregate.kind (Col 0 (grouped i + b)) ∷ columns_from (on b i) more)
      (grouped_item-read c has_from scope here trees (numbered_names out (suc first) more) aggregate.kind more (behind_groups c here allowed) (λ b. columns_from (n + b) more)
      (aggr_at aggregate.function place aggregate.kind ∷ []) (printing.aggregates_from (suc place) aggregates) 1 d
      (λ tree x. aggregate-read c here allowed aggregate.function _ place fits.0.0 aggregate.kind fits.0.2 read tree x) rest refl)

  module _ (columns : ColumnsRead c here depth below n) where
    pub groups-read : (place out first : ℕ) (all : List Kind) (aggregates : List Aggr) → place + length all ≡ n
        → ((i : ℕ) (kind : Kind) → slice_get all i ≡ Some kind → slice_get below (place + i) ≡ Some kind) → Fitting below n aggregates → {trees : List SelectItem}
        → AreItems (named_from (marks out) first (named_columns (marks depth) (place + 1) (length all) ++ writing.aggregates_from (marks depth) (n + 1) aggregates)) trees
        → GroupedList has_from scope here (map (item_of c) trees) (numbered_names out first (all ++ aggregate_kinds aggregates)) (all ++ aggregate_kinds aggregates)
        (λ b. columns_from place all ++ columns_from (n + b) (aggregate_kinds aggregates)) (printing.aggregates_from n aggregates)
    groups-read place out first [] aggregates full kinds_are fits d = aggregates-read n out first aggregates fits d
    groups-read place out first (kind ∷ all) aggregates full kinds_are fits (an_item_tree {item = item} {items = trees} d ds) =
        let next : first + 1 ≡ suc first = omega arith in
        let later : place + 1 ≡ suc place = omega arith in
        let none : (b : ℕ) → b + 0 ≡ b = λ b. omega arith in
        let at_place : place + 0 ≡ place = omega arith in
        let more = aggregate_kinds aggregates in
        let forms : ℕ → List ExprForm = λ number. named_columns (marks depth) number (length all) ++ writing.aggregates_from (marks depth) (n + 1) aggregates in
        let is : slice_get below place ≡ Some kind = sym (ap (slice_get below) at_place) ∙ kinds_are 0 kind refl in
        let rest = groups-read (suc place) out (suc first) all aggregates (omega (arith, full))
        (λ i k e. let on : suc place + i ≡ place + suc i = omega arith in ap (slice_get below) on ∙ kinds_are (suc i) k e) fits
        (subst (λ m. AreItems (named_from (marks out) (suc first) (forms (m + 1))) trees) later (subst (λ m. AreItems (named_from (marks out) m (forms (place + 1 + 1))) trees) next ds)) in
        subst (λ (list : ℕ → List Item). GroupedList has_from scope here (map (item_of c) (item ∷ trees)) (numbered_names out first ((kind ∷ all) ++ more)) ((kind ∷ all) ++ more) list
        (printing.aggregates_from n aggregates)) (λ i b. item_at kind (Col 0 place) ∷ (columns_from (suc place) all ++ columns_from (n + none b i) more))
        (grouped_item-read c has_from scope here trees (numbered_names out (suc first) (all ++ more)) kind (all ++ more) (λ m. Col 0 place)
        (λ b. columns_from (suc place) all ++ columns_from (n + b) more) [] (printing.aggregates_from n aggregates) 0 d
        (λ tree x. plain-group ((part_of c tree).means here) kind (Col 0 place) (columns place kind (omega (arith, full)) is tree x)) rest refl)
