-- The form of a query can be written where the query can be printed.
use Rattle.std.proofs.Common.{ℕ, ◌<◌, ◌^◌, ◌+◌, Bool, true, false, cond, List, [], ◌∷◌, ◌++◌, length, map, Option, Some, None, arith}
use Rattle.std.specs.List.{AllByRecursion, find, range_with_len}
use Rattle.std.specs.Prelude.{unwrap_or}
use Rattle.std.specs.Str.{IsAscii, IsUtf8}
use Rattle.std.proofs.lemmas.List.Elements.{All-head, All-tail}
use Rattle.std.proofs.lemmas.Str.{IsUtf8-from_ascii, IsUtf8-nil}
use Rattle.std.proofs.lemmas.Str.Ascii.{IsAscii-cons, IsAscii-nil}
use Rattle.perm_values.specs.Rows.{KeysWithin}
use Rattle.perm_values.specs.declared.key.Key.{Key}
use Rattle.perm_values.specs.declared.kind.Kind.TheVariants as kinds
use Rattle.bag_algebra.specs.Kinds.{kinds_of, width_of}
use Rattle.bag_algebra.specs.WellFormed.{SubsForm, WellFormed}
use Rattle.bag_algebra.specs.built.Patterns.{BaseOf, FilterOf, ProjectOf, JoinOf, ApplyOf, UnionOf, IntersectOf, ExceptOf, DistinctOf, AggregateOf, LimitOf, ProvOf}
use Rattle.bag_algebra.specs.declared.expr.Expr.{Expr}
use Rattle.bag_algebra.specs.declared.expr.Item.{Item}
use Rattle.bag_algebra.specs.declared.query.AggFn.{AggFn}
use Rattle.bag_algebra.specs.declared.query.AggFn.TheVariants as agg
use Rattle.bag_algebra.specs.declared.query.Aggr.{Aggr}
use Rattle.bag_algebra.specs.declared.query.Query.{Query, Row_of-Sublink, more_of-Sublink, end_of-Sublink}
use Rattle.bag_algebra.specs.declared.query.Query.TheVariants.{Table, Single}
use Rattle.perm_values.specs.declared.kind.Kind.{Kind}
use Rattle.tree_texts.specs.Fits.{FitsColumn, FitsCondition, FitsCore, FitsExpr, FitsFrom, FitsItems, FitsJoins, FitsKey, FitsQuery}
use Rattle.tree_texts.specs.Forms as f
use Rattle.tree_texts.specs.Forms.{ConditionForm, CoreForm, ExprForm, JoinForms, QueryForm}
use Rattle.query_texts.specs.clauses.Chains.{is_chained}
use Rattle.query_texts.specs.clauses.Keys.{all_keys}
use Rattle.query_texts.specs.clauses.Names.{Naming, deeper, has_id, names_of, nameless, naming, outermost, own, source_prefix}
use Rattle.query_texts.specs.clauses.Unused.{items_use, spare, used_in}
use Rattle.query_texts.specs.declared.clauses.tables.TableNames.{TableNames}
use Rattle.tree_texts.specs.expressions.Words.{is_any}
use Rattle.query_texts.specs.forms.ShownExpressions.{beside, shown_expr}
use Rattle.query_texts.specs.forms.ShownQueries.{Chain, Framed, Listed, a_block, a_select, a_whole, aggregated, aggregates_from, alone, argument, arguments, apart_unless, below_groups, called, called_from, columns, copied, framed, grouped_columns, in_groups, joined, joined_to, just, key_form, listed, named_from, of_table, one, own_column, projected, selected, shown, shown_answer, source_name, sources, stays, sub_forms, tested_by, tested_part, then_joins}
use Rattle.sql_printer.specs.rows.Writable.{Writable, WritableAggregates, WritableItems, WritableOption}
use Rattle.sql_printer.proofs.rows.KeyColumns.{all_keys-within}
use Rattle.sql_printer.specs.forms.Printable.{AreCharacters, Printable, PrintableSubs}
use Rattle.sql_printer.proofs.forms.FitsExpressions.{AllFit, fits-asked, fits-beside, fits-name, fits-shown, fits-tested}
use Rattle.sql_printer.proofs.forms.PrintableNodes.{printable-short}

-- ---- names

sources-ascii : IsAscii source_prefix
sources-ascii = IsAscii-cons 116 [] (omega arith) IsAscii-nil

first-name : IsUtf8 source_prefix
first-name = IsUtf8-from_ascii source_prefix sources-ascii

deeper-ascii : (prefix : List ℕ) → IsAscii prefix → IsAscii (deeper prefix)
deeper-ascii prefix ascii = IsAscii-cons 99 prefix (omega arith) ascii

outermost-ascii : IsAscii outermost
outermost-ascii = deeper-ascii [] IsAscii-nil

named : (tables : List TableNames) (id : ℕ) → AllByRecursion AreCharacters tables → AreCharacters (names_of tables id)
named [] id all = record { name = IsUtf8-nil; columns = tt }
named (table ∷ tables) id all = by (has_id id table) (named tables id all.1)
  where
    by : (b : Bool) → AreCharacters (names_of tables id) → AreCharacters (unwrap_or (cond b (Some table) (find (has_id id) tables)) (nameless id))
    by true later = all.0
    by false later = later

-- ---- lists

append-fits : (forms others : List ExprForm) → AllFit forms → AllFit others → AllFit (forms ++ others)
append-fits [] others p q = q
append-fits (form ∷ forms) others p q = (p.0, append-fits forms others p.1 q)

spare-fits : (used : ℕ → Bool) (number : ℕ) (forms : List ExprForm) → AllFit forms → AllFit (spare used number forms)
spare-fits used number [] p = tt
spare-fits used number (form ∷ forms) p = by (used number) (spare-fits used (number + 1) forms p.1)
  where
    by : (b : Bool) → AllFit (spare used (number + 1) forms) → AllFit (cond b (spare used (number + 1) forms) (form ∷ spare used (number + 1) forms))
    by true later = later
    by false later = (p.0, later)

abbrev FitsListed : Listed → Type 0
FitsListed list = FitsExpr list.first × IsUtf8 list.name × FitsItems list.more

items-fit : (prefix : List ℕ) → IsAscii prefix → (number : ℕ) (forms : List ExprForm) → AllFit forms → FitsItems (named_from prefix number forms)
items-fit prefix ascii number [] p = tt
items-fit prefix ascii number (form ∷ forms) p = (p.0, fits-name prefix ascii 0 number, items-fit prefix ascii (number + 1) forms p.1)

listed-fits : (out : Naming) → IsAscii out.prefix → (nothing : ExprForm) → FitsExpr nothing → (forms : List ExprForm) → AllFit forms
    → FitsListed (listed out nothing forms)
listed-fits out ascii nothing p [] q = (p, fits-name out.prefix ascii 0 0, tt)
listed-fits out ascii nothing p (form ∷ forms) q = (q.0, fits-name out.prefix ascii 0 out.first, items-fit out.prefix ascii (out.first + 1) forms q.1)

table-columns-fit : (names : List (List ℕ)) → AllByRecursion IsUtf8 names → AllFit (map (λ name. f.column (f.bare name)) names)
table-columns-fit [] p = tt
table-columns-fit (name ∷ names) p = (p.0, table-columns-fit names p.1)

-- ---- numbers

keys-fit : (width : ℕ) (keys : List Key) → 1 + width < 2 ^ 63 → KeysWithin width keys → AllByRecursion FitsKey (map key_form keys)
keys-fit width [] short within = tt
keys-fit width (key ∷ keys) short within =
    let here : key.place < width = All-head (λ (k : Key). k.place < width) key keys within in
    (omega (arith, here, short), keys-fit width keys short (All-tail (λ (k : Key). k.place < width) key keys within))

-- ---- parts of a node

module _ (prefix : List ℕ) (ascii : IsAscii prefix) where
  own-columns-fit : (numbers : List ℕ) → AllByRecursion FitsColumn (map (own_column prefix) numbers)
  own-columns-fit [] = tt
  own-columns-fit (number ∷ numbers) = (fits-name prefix ascii 0 number, own-columns-fit numbers)

  some-columns-fit : (numbers : List ℕ) → AllFit (map f.column (map (own_column prefix) numbers))
  some-columns-fit [] = tt
  some-columns-fit (number ∷ numbers) = (fits-name prefix ascii 0 number, some-columns-fit numbers)

  columns-fit : (count : ℕ) → AllFit (columns prefix count)
  columns-fit count = some-columns-fit (range_with_len 1 count)

  grouped-fit : (groups : List ℕ) → AllFit (grouped_columns prefix groups)
  grouped-fit [] = tt
  grouped-fit (place ∷ groups) = (fits-name prefix ascii 0 (place + 1), grouped-fit groups)

  argument-fits : (part : Option Expr) → WritableOption part → FitsExpr (argument prefix part)
  argument-fits None w = omega arith
  argument-fits (Some part) w = fits-shown prefix ascii [] tt part w

  arguments-fit : (aggregates : List Aggr) → WritableAggregates aggregates → AllFit (arguments prefix aggregates)
  arguments-fit [] w = tt
  arguments-fit (aggregate ∷ aggregates) w = (argument-fits aggregate.argument w.0, arguments-fit aggregates w.1)

  aggregated-fits : (function : AggFn) (number : ℕ) → FitsExpr (aggregated function (own_column prefix number))
  aggregated-fits agg.CountRows number = tt
  aggregated-fits agg.Count number = fits-name prefix ascii 0 number
  aggregated-fits agg.CountDistinct number = fits-name prefix ascii 0 number
  aggregated-fits agg.Sum number = fits-name prefix ascii 0 number
  aggregated-fits agg.Min number = fits-name prefix ascii 0 number
  aggregated-fits agg.Max number = fits-name prefix ascii 0 number

  aggregates-fit : (number : ℕ) (aggregates : List Aggr) → AllFit (aggregates_from prefix number aggregates)
  aggregates-fit number [] = tt
  aggregates-fit number (aggregate ∷ aggregates) = (aggregated-fits aggregate.function number, aggregates-fit (number + 1) aggregates)

  projections-fit : (forms : List ExprForm) → AllFit forms → (items : List Item) → WritableItems items
      → AllFit (map (λ (item : Item). shown_expr prefix forms item.expr) items)
  projections-fit forms all [] w = tt
  projections-fit forms all (item ∷ items) w = (fits-shown prefix ascii forms all item.expr w.0, projections-fit forms all items w.1)

  tested-fits : (forms : List ExprForm) → AllFit forms → (condition : Expr) → Writable condition → FitsExpr (tested_by prefix forms condition)
  tested-fits forms all condition w =
      fits-beside kinds.Boolean (spare (used_in condition) 0 forms) (shown_expr prefix forms condition)
      (spare-fits (used_in condition) 0 forms all) (fits-shown prefix ascii forms all condition w)

-- ---- sources

just-fits : (q : QueryForm) → FitsQuery q → FitsFrom (sources (just q))
just-fits q p = ((p, first-name), tt)

then-fit : (more last : JoinForms) → FitsJoins more → FitsJoins last → FitsJoins (then_joins more last)
then-fit f.no_joins last p q = q
then-fit (f.a_join kind right on more) last p q = (p.0, p.1, then-fit more last p.2 q)
then-fit (f.a_lateral stays right name more) last p q = (p.0, p.1, then-fit more last p.2 q)

joined-fit : (chain : Chain) (last : JoinForms) → FitsFrom (sources chain) → FitsJoins last → FitsFrom (sources (joined_to chain last))
joined-fit chain last p q = (p.0, then-fit chain.more last p.1 q)

-- ---- a query in each of its forms

record Fits (form : Framed) : Type 0 where
  pub whole : (out : Naming) → IsAscii out.prefix → FitsQuery (form.whole out)
  pub core : (distinct : Bool) (out : Naming) → IsAscii out.prefix → FitsCore (form.core distinct out)
  pub block : FitsFrom (sources form.block)
  pub test : FitsCondition form.test
  pub from : FitsFrom (sources form.from)

module _ (prefix : List ℕ) (ascii : IsAscii prefix) where
  copied-fits : (count : ℕ) (chain : Chain) (test : ConditionForm) → FitsFrom (sources chain) → FitsCondition test → (distinct : Bool) (out : Naming) → IsAscii out.prefix
      → FitsCore (copied prefix count chain test distinct out)
  copied-fits count chain test p q distinct out to =
      let list = listed-fits out to one (omega arith) (columns prefix count) (columns-fit prefix ascii count) in
      (list.0, list.1, list.2, p, q, tt, tt)

  whole-fits : (count : ℕ) (whole : Naming → QueryForm) → ((out : Naming) → IsAscii out.prefix → FitsQuery (whole out)) → Fits (a_whole prefix count whole)
  whole-fits count whole fit =
      let over = just-fits (whole (own prefix)) (fit (own prefix) ascii) in
      record { whole = fit; core = copied-fits count (just (whole (own prefix))) f.no_condition over tt; block = over; test = tt; from = over }

  apart-fits : (count : ℕ) (chained : Bool) (form : Framed) → Fits form → Fits (apart_unless prefix count chained form)
  apart-fits count true form fit = fit
  apart-fits count false form fit = whole-fits count form.whole fit.whole

  select-fits : (core : Bool → Naming → CoreForm) → ((distinct : Bool) (out : Naming) → IsAscii out.prefix → FitsCore (core distinct out)) → Fits (a_select prefix core)
  select-fits core fit =
      let over = just-fits (alone (core false (own prefix))) (fit false (own prefix) ascii, (tt, tt)) in
      record { whole = λ out to. (fit false out to, (tt, tt)); core = fit; block = over; test = tt; from = over }

  block-fits : (count : ℕ) (followed : Bool) (chain : Chain) (test : ConditionForm) → FitsFrom (sources chain) → FitsCondition test
      → Fits (a_block prefix count followed chain test)
  block-fits count followed chain test p q =
      let form = copied prefix count chain test in
      let fit = copied-fits count chain test p q in
      record {
        whole = λ out to. (fit false out to, (tt, tt));
        core = fit;
        block = p;
        test = q;
        from = by followed (just (alone (form false (own prefix)))) (just-fits (alone (form false (own prefix))) (fit false (own prefix) ascii, (tt, tt)));
      }
    where
      by : (b : Bool) (other : Chain) → FitsFrom (sources other) → FitsFrom (sources (cond b chain other))
      by true other o = p
      by false other o = o

  projected-fits : (out : Naming) → IsAscii out.prefix → (forms unused : List ExprForm) → AllFit forms → AllFit unused → (items : List Item) → WritableItems items
      → FitsListed (projected prefix out forms unused items)
  projected-fits out to forms unused all spared [] w =
      listed-fits out to (beside kinds.Integer unused one) (fits-beside kinds.Integer unused one spared (omega arith)) [] tt
  projected-fits out to forms unused all spared (item ∷ items) w =
      listed-fits out to one (omega arith)
      (beside item.kind unused (shown_expr prefix forms item.expr) ∷ map (λ (item : Item). shown_expr prefix forms item.expr) items) (
        fits-beside item.kind unused (shown_expr prefix forms item.expr) spared (fits-shown prefix ascii forms all item.expr w.0),
        projections-fit prefix ascii forms all items w.1,
      )

  groups-fit : (out : Naming) → IsAscii out.prefix → (groups : List ℕ) (aggregates : List Aggr) (chain : Chain) (test : ConditionForm) → WritableAggregates aggregates
      → FitsFrom (sources chain) → FitsCondition test → FitsCore (in_groups prefix out groups aggregates chain test)
  groups-fit out to groups aggregates chain test w p q =
      let below = listed-fits (own prefix) ascii one (omega arith) (grouped_columns prefix groups ++ arguments prefix aggregates)
      (append-fits (grouped_columns prefix groups) (arguments prefix aggregates) (grouped-fit prefix ascii groups) (arguments-fit prefix ascii aggregates w)) in
      let list = listed-fits out to f.count_rows tt (columns prefix (length groups) ++ aggregates_from prefix (length groups + 1) aggregates)
      (append-fits (columns prefix (length groups)) (aggregates_from prefix (length groups + 1) aggregates) (columns-fit prefix ascii (length groups))
      (aggregates-fit prefix ascii (length groups + 1) aggregates)) in (
        list.0,
        list.1,
        list.2,
        just-fits (below_groups prefix groups aggregates chain test) ((below.0, below.1, below.2, p, q, tt, tt), (tt, tt)),
        tt,
        own-columns-fit prefix ascii (range_with_len 1 (length groups)),
        tt,
      )

-- ---- queries

module _ (tables : List TableNames) (all : AllByRecursion AreCharacters tables) where
  mutual
    framed-fits : (prefix : List ℕ) → IsAscii prefix → (q : Query) (outer : List (List Kind)) → WellFormed outer q → Printable q → Fits (framed tables prefix q)
    framed-fits prefix ascii (Table id kinds) outer form p =
        let table = named tables id all in
        select-fits prefix ascii (of_table (names_of tables id)) (λ distinct out to.
        let list = listed-fits out to one (omega arith) (map (λ name. f.column (f.bare name)) (names_of tables id).columns)
        (table-columns-fit (names_of tables id).columns table.columns) in
        (list.0, list.1, list.2, (table.name, tt), tt, tt, tt))
    framed-fits prefix ascii Single outer form p =
        select-fits prefix ascii (λ distinct out. selected distinct (listed out one []) f.no_from f.no_condition []) (λ distinct out to.
        let list = listed-fits out to one (omega arith) [] tt in
        (list.0, list.1, list.2, tt, tt, tt, tt))
    framed-fits prefix ascii (BaseOf input places label) outer form p =
        whole-fits prefix ascii (width_of input) (framed tables prefix input).whole (framed-fits prefix ascii input outer form.input p.1).whole
    framed-fits prefix ascii (FilterOf input condition _ subs) outer form p =
        let forms = sub_forms tables prefix subs in
        block-fits prefix ascii (width_of input) false (framed tables prefix input).from (f.condition (tested_by prefix forms condition))
        (framed-fits prefix ascii input outer form.input p.2).from
        (tested-fits prefix ascii forms (subs-fit prefix ascii subs (kinds_of input ∷ outer) form.subs p.3) condition p.1)
    framed-fits prefix ascii (ProjectOf input items _ subs) outer form p =
        let forms = sub_forms tables prefix subs in
        let fit = subs-fit prefix ascii subs (kinds_of input ∷ outer) form.subs p.3 in
        let below = framed tables prefix input in
        let given = framed-fits prefix ascii input outer form.input p.2 in
        let unused = spare (items_use items) 0 forms in
        select-fits prefix ascii (λ distinct out. selected distinct (projected prefix out forms unused items) (sources below.block) below.test []) (λ distinct out to.
        let list = projected-fits prefix ascii out to forms unused fit (spare-fits (items_use items) 0 forms fit) items p.1 in
        (list.0, list.1, list.2, given.block, given.test, tt, tt))
    framed-fits prefix ascii (JoinOf kind left right condition _ subs) outer form p =
        let forms = sub_forms tables prefix subs in
        let chained = is_chained kind in
        let count = length (kinds_of left ++ kinds_of right) in
        let first = apart_unless prefix (width_of left) chained (framed tables prefix left) in
        let second = (framed tables prefix right).whole (naming prefix (width_of left + 1)) in
        let last = f.a_join (joined kind) (f.subquery second (source_name (width_of left + 1))) (tested_by prefix forms condition) f.no_joins in
        apart-fits prefix ascii count chained (a_block prefix count (is_any (width_of right)) (joined_to first.from last) f.no_condition)
        (block-fits prefix ascii count (is_any (width_of right)) (joined_to first.from last) f.no_condition
        (joined-fit first.from last (apart-fits prefix ascii (width_of left) chained (framed tables prefix left) (framed-fits prefix ascii left outer form.left p.2)).from (
          (
            (framed-fits prefix ascii right outer form.right p.3).whole (naming prefix (width_of left + 1)) ascii,
            fits-name source_prefix sources-ascii 0 (width_of left + 1),
          ),
          tested-fits prefix ascii forms (subs-fit prefix ascii subs ((kinds_of left ++ kinds_of right) ∷ outer) form.subs p.4) condition p.1,
          tt,
        )) tt)
    framed-fits prefix ascii (ApplyOf kind left right) outer form p =
        let first = framed tables prefix left in
        let second = (framed tables (deeper prefix) right).whole (naming prefix (width_of left + 1)) in
        let last = f.a_lateral (stays kind) second (source_name (width_of left + 1)) f.no_joins in
        block-fits prefix ascii (length (kinds_of left ++ kinds_of right)) (is_any (width_of right)) (joined_to first.from last) f.no_condition
        (joined-fit first.from last (framed-fits prefix ascii left outer form.left p.1).from (
          (framed-fits (deeper prefix) (deeper-ascii prefix ascii) right (kinds_of left ∷ outer) form.right p.2).whole (naming prefix (width_of left + 1)) ascii,
          fits-name source_prefix sources-ascii 0 (width_of left + 1),
          tt,
        )) tt
    framed-fits prefix ascii (UnionOf every left right) outer form p =
        let first = framed-fits prefix ascii left outer form.left_side p.1 in
        let second = framed-fits prefix ascii right outer form.right_side p.2 in
        whole-fits prefix ascii (width_of left) (framed tables prefix (UnionOf every left right)).whole
        (λ out to. (first.core false out to, second.core false out to, tt, (tt, tt)))
    framed-fits prefix ascii (IntersectOf every left right) outer form p =
        let first = framed-fits prefix ascii left outer form.left_side p.1 in
        let second = framed-fits prefix ascii right outer form.right_side p.2 in
        whole-fits prefix ascii (width_of left) (framed tables prefix (IntersectOf every left right)).whole
        (λ out to. (first.core false out to, second.core false out to, tt, (tt, tt)))
    framed-fits prefix ascii (ExceptOf every left right) outer form p =
        let first = framed-fits prefix ascii left outer form.left_side p.1 in
        let second = framed-fits prefix ascii right outer form.right_side p.2 in
        whole-fits prefix ascii (width_of left) (framed tables prefix (ExceptOf every left right)).whole
        (λ out to. (first.core false out to, second.core false out to, tt, (tt, tt)))
    framed-fits prefix ascii (DistinctOf input) outer form p =
        let given = framed-fits prefix ascii input outer form p.1 in
        whole-fits prefix ascii (width_of input) (framed tables prefix (DistinctOf input)).whole (λ out to. (given.core true out to, (tt, tt)))
    framed-fits prefix ascii (AggregateOf input groups aggregates) outer form p =
        let below = framed tables prefix input in
        let given = framed-fits prefix ascii input outer form.input p.2 in
        whole-fits prefix ascii (width_of (AggregateOf input groups aggregates)) (framed tables prefix (AggregateOf input groups aggregates)).whole
        (λ out to. (groups-fit prefix ascii out to groups aggregates below.block below.test p.1 given.block given.test, (tt, tt)))
    framed-fits prefix ascii (LimitOf input keys count) outer form p =
        let given = framed-fits prefix ascii input outer form.input p.1 in
        whole-fits prefix ascii (width_of input) (framed tables prefix (LimitOf input keys count)).whole (λ out to. (
          given.core false out to,
          (keys-fit (width_of input) (all_keys (width_of input) keys) p.0 (all_keys-within (width_of input) keys form.keys), form.bound),
        ))
    framed-fits prefix ascii (ProvOf input) outer form p =
        whole-fits prefix ascii (width_of (ProvOf input)) (framed tables prefix input).whole (framed-fits prefix ascii input outer form p.1).whole

    subs-fit : (prefix : List ℕ) → IsAscii prefix → {m : _} (subs : Row_of-Sublink m) (scopes : List (List Kind)) → SubsForm scopes subs
        → PrintableSubs subs → AllFit (sub_forms tables prefix subs)
    subs-fit prefix ascii end_of-Sublink scopes form p = tt
    subs-fit prefix ascii (more_of-Sublink kind tested query subs) scopes form p = (
      fits-asked kind (tested_part prefix tested) (shown tables (deeper prefix) (own (deeper prefix)) query) (fits-tested prefix ascii tested p.0.0)
          ((framed-fits (deeper prefix) (deeper-ascii prefix ascii) query scopes form.query p.0.1).whole (own (deeper prefix)) (deeper-ascii prefix ascii)),
      subs-fit prefix ascii subs scopes form.others p.1,
    )

  -- ---- answers

  called-fit : (number : ℕ) (names : List (List ℕ)) → AllByRecursion IsUtf8 names → FitsItems (called_from number names)
  called-fit number [] p = tt
  called-fit number (name ∷ names) p = (fits-name outermost outermost-ascii 0 number, p.0, called-fit (number + 1) names p.1)

  called-fits : (names : List (List ℕ)) → AllByRecursion IsUtf8 names → FitsListed (called names)
  called-fits [] p = listed-fits (own outermost) outermost-ascii one (omega arith) [] tt
  called-fits (name ∷ names) p = (fits-name outermost outermost-ascii 0 1, p.0, called-fit 2 names p.1)

  pub answer-fits : (q : Query) (names : List (List ℕ)) (keys : List Key) → WellFormed [] q → Printable q
      → AllByRecursion IsUtf8 names → KeysWithin (width_of q) keys → FitsQuery (shown_answer tables q names keys)
  answer-fits q names keys form p named_so within =
      let list = called-fits names named_so in
      let given = framed-fits outermost outermost-ascii q [] form p in
      ((list.0, list.1, list.2, given.block, given.test, tt, tt), (keys-fit (width_of q) keys (printable-short q p) within, tt))
