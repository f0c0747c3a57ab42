-- How queries are printed: one SELECT for a block of SQL. Columns are named by their place, so names of tables and of their columns stand
-- at tables alone.
use Rattle.std.specs.Prelude.{ℕ, ◌+◌, Bool, true, false, cond, List, [], ◌∷◌, ◌++◌, map, length, Option, Some, None}
use Rattle.std.specs.List.{range_with_len}
use Rattle.null_logic.specs.declared.compare.Compare.{Compare}
use Rattle.null_logic.specs.declared.compare.Compare.TheVariants as compare
use Rattle.perm_values.specs.declared.key.Key.{Key}
use Rattle.perm_values.specs.declared.kind.Kind.TheVariants as kinds
use Rattle.bag_algebra.specs.Kinds.{kinds_of, width_of}
use Rattle.bag_algebra.specs.built.Patterns.{BaseOf, FilterOf, ProjectOf, JoinOf, ApplyOf, UnionOf, IntersectOf, ExceptOf, DistinctOf, AggregateOf, LimitOf, ProvOf}
use Rattle.bag_algebra.specs.declared.expr.Expr.{Expr}
use Rattle.bag_algebra.specs.declared.expr.Item.{Item}
use Rattle.bag_algebra.specs.declared.query.AggFn.{AggFn}
use Rattle.bag_algebra.specs.declared.query.AggFn.TheVariants as agg
use Rattle.bag_algebra.specs.declared.query.Aggr.{Aggr}
use Rattle.bag_algebra.specs.declared.query.JoinKind.{JoinKind}
use Rattle.bag_algebra.specs.declared.query.JoinKind.TheVariants as join
use Rattle.bag_algebra.specs.declared.query.Query.{Query, Row_of-Sublink, more_of-Sublink, end_of-Sublink}
use Rattle.bag_algebra.specs.declared.query.Query.TheVariants.{Table, Single}
use Rattle.bag_algebra.specs.declared.query.SubKind.{SubKind}
use Rattle.bag_algebra.specs.declared.query.SubKind.TheVariants as ask
use Rattle.tree_texts.specs.Forms as f
use Rattle.tree_texts.specs.Forms.{ExprForm, ItemForms, SourceForm, JoinForms, FromForm, ConditionForm, ColumnForm, CoreForm, QueryForm, KeyForm, Joined, enclosed}
use Rattle.tree_texts.specs.expressions.Names.{column_name}
use Rattle.query_texts.specs.clauses.Chains.{is_chained}
use Rattle.query_texts.specs.clauses.Keys.{all_keys}
use Rattle.query_texts.specs.clauses.Names.{Naming, naming, own, unread, outermost, deeper, names_of, source_prefix}
use Rattle.tree_texts.specs.expressions.Words.{is_any}
use Rattle.query_texts.specs.forms.ShownExpressions.{shown_expr, unsaid, beside}
use Rattle.query_texts.specs.clauses.Unused.{used_in, items_use, spare}
use Rattle.query_texts.specs.declared.clauses.tables.TableNames.{TableNames}

-- ---- columns

abbrev pub own_column : List ℕ → ℕ → ColumnForm
own_column prefix number = f.bare (column_name prefix 0 number)

-- the first columns of a node's own row, so many of them
abbrev pub own_columns : List ℕ → ℕ → List ColumnForm
own_columns prefix count = map (own_column prefix) (range_with_len 1 count)

-- ---- SELECT lists

-- the first item with its name, and the others
pub record Listed : Type 0 where
  pub first : ExprForm
  pub name : List ℕ
  pub more : ItemForms

abbrev pub named_from : List ℕ → ℕ → List ExprForm → ItemForms
named_from prefix number [] = f.no_items
named_from prefix number (a ∷ more) = f.an_item a (column_name prefix 0 number) (named_from prefix (number + 1) more)

-- columns by their numbers; where there is none, one that is read nowhere
abbrev pub listed : Naming → ExprForm → List ExprForm → Listed
listed out nothing [] = record { first = nothing; name = unread out.prefix; more = f.no_items }
listed out nothing (a ∷ more) =
    record { first = a; name = column_name out.prefix 0 out.first; more = named_from out.prefix (out.first + 1) more }

abbrev pub one : ExprForm
one = f.integer 1

abbrev pub columns : List ℕ → ℕ → List ExprForm
columns prefix count = map f.column (own_columns prefix count)

-- ---- what a SELECT is made of

abbrev pub selected : Bool → Listed → FromForm → ConditionForm → List ColumnForm → CoreForm
selected distinct list origin test groups =
    f.select distinct list.first list.name list.more origin test groups f.no_condition

abbrev pub alone : CoreForm → QueryForm
alone core = f.one core [] None

-- ---- sources

abbrev pub first_source : QueryForm → SourceForm
first_source q = f.subquery q source_prefix

-- sources of a FROM: a first one, and others that are joined
pub record Chain : Type 0 where
  pub first : SourceForm
  pub more : JoinForms

abbrev pub sources : Chain → FromForm
sources chain = f.from chain.first chain.more

abbrev pub just : QueryForm → Chain
just q = record { first = first_source q; more = f.no_joins }

abbrev pub then_joins : JoinForms → JoinForms → JoinForms
then_joins f.no_joins last = last
then_joins (f.a_join kind right on more) last = f.a_join kind right on (then_joins more last)
then_joins (f.a_lateral stays q name more) last = f.a_lateral stays q name (then_joins more last)

abbrev pub joined_to : Chain → JoinForms → Chain
joined_to chain last = record { first = chain.first; more = then_joins chain.more last }

-- the name of the source whose columns begin with a number
abbrev pub source_name : ℕ → List ℕ
source_name number = column_name source_prefix 0 number

-- ---- what a query is shown as

pub record Framed : Type 0 where
  -- by itself, with its columns called so
  pub whole : Naming → QueryForm
  -- one SELECT that gives its columns, with DISTINCT or not
  pub core : Bool → Naming → CoreForm
  -- FROM and WHERE that give its columns
  pub block : Chain
  pub test : ConditionForm
  -- FROM that gives its columns, and that joins may follow
  pub from : Chain

-- all columns of a FROM with a WHERE
abbrev pub copied : List ℕ → ℕ → Chain → ConditionForm → Bool → Naming → CoreForm
copied prefix count chain test distinct out = selected distinct (listed out one (columns prefix count)) (sources chain) test []

-- what is shown by itself alone
abbrev pub a_whole : List ℕ → ℕ → (Naming → QueryForm) → Framed
a_whole prefix count whole = record {
  whole = whole;
  core = copied prefix count (just (whole (own prefix))) f.no_condition;
  block = just (whole (own prefix));
  test = f.no_condition;
  from = just (whole (own prefix));
}

-- one SELECT
abbrev pub a_select : List ℕ → (Bool → Naming → CoreForm) → Framed
a_select prefix core = record {
  whole = λ out. alone (core false out);
  core = core;
  block = just (alone (core false (own prefix)));
  test = f.no_condition;
  from = just (alone (core false (own prefix)));
}

-- FROM and WHERE that give so many columns, and that joins may follow or not
abbrev pub a_block : List ℕ → ℕ → Bool → Chain → ConditionForm → Framed
a_block prefix count followed chain test = record {
  whole = λ out. alone (copied prefix count chain test false out);
  core = copied prefix count chain test;
  block = chain;
  test = test;
  from = cond followed chain (just (alone (copied prefix count chain test false (own prefix))));
}

-- what is shown by itself alone, unless it may stand in one FROM with others
abbrev pub apart_unless : List ℕ → ℕ → Bool → Framed → Framed
apart_unless prefix count chained form = cond chained form (a_whole prefix count form.whole)

-- ---- nodes

abbrev pub of_table : TableNames → Bool → Naming → CoreForm
of_table table distinct out =
    selected distinct (listed out one (map (λ name. f.column (f.bare name)) table.columns)) (f.from (f.table table.name) f.no_joins) f.no_condition []

abbrev pub tested_by : List ℕ → List ExprForm → Expr → ExprForm
tested_by prefix subs condition = beside kinds.Boolean (spare (used_in condition) 0 subs) (shown_expr prefix subs condition)

-- the sublinks that no item uses stand beside the first
abbrev pub projected : List ℕ → Naming → List ExprForm → List ExprForm → List Item → Listed
projected prefix out subs unused [] = listed out (beside kinds.Integer unused one) []
projected prefix out subs unused (item ∷ items) =
    listed out one (beside item.kind unused (shown_expr prefix subs item.expr) ∷ map (λ (item : Item). shown_expr prefix subs item.expr) items)

abbrev pub joined : JoinKind → Joined
joined join.Inner = f.inner
joined join.Left = f.left
joined join.Right = f.right
joined join.Full = f.full

-- whether a row on the left stays where the right side has none
abbrev pub stays : JoinKind → Bool
stays join.Inner = false
stays join.Left = true
stays join.Right = false
stays join.Full = false

-- ---- groups: the arguments are columns of the query below

abbrev pub argument : List ℕ → Option Expr → ExprForm
argument prefix None = one
argument prefix (Some part) = shown_expr prefix [] part

abbrev pub aggregated : AggFn → ColumnForm → ExprForm
aggregated agg.CountRows c = f.count_rows
aggregated agg.Count c = f.count (f.column c)
aggregated agg.CountDistinct c = f.count_distinct (f.column c)
aggregated agg.Sum c = f.folded f.sum (f.column c)
aggregated agg.Min c = f.folded f.least (f.column c)
aggregated agg.Max c = f.folded f.greatest (f.column c)

abbrev pub grouped_columns : List ℕ → List ℕ → List ExprForm
grouped_columns prefix groups = map (λ place. f.column (own_column prefix (place + 1))) groups

abbrev pub arguments : List ℕ → List Aggr → List ExprForm
arguments prefix aggregates = map (λ (aggregate : Aggr). argument prefix aggregate.argument) aggregates

-- the aggregates of the columns from a number on
abbrev pub aggregates_from : List ℕ → ℕ → List Aggr → List ExprForm
aggregates_from prefix number [] = []
aggregates_from prefix number (aggregate ∷ aggregates) =
    aggregated aggregate.function (own_column prefix number) ∷ aggregates_from prefix (number + 1) aggregates

-- what is grouped, over a FROM with a WHERE
abbrev pub below_groups : List ℕ → List ℕ → List Aggr → Chain → ConditionForm → QueryForm
below_groups prefix groups aggregates chain test =
    alone (selected false (listed (own prefix) one (grouped_columns prefix groups ++ arguments prefix aggregates)) (sources chain) test [])

-- without groups and aggregates there is one row all the same, which COUNT gives
abbrev pub in_groups : List ℕ → Naming → List ℕ → List Aggr → Chain → ConditionForm → CoreForm
in_groups prefix out groups aggregates chain test =
    selected false (listed out f.count_rows (columns prefix (length groups) ++ aggregates_from prefix (length groups + 1) aggregates))
    (sources (just (below_groups prefix groups aggregates chain test))) f.no_condition (own_columns prefix (length groups))

-- ---- order

abbrev pub key_form : Key → KeyForm
key_form key = record { position = key.place + 1; descending = key.descending }

-- ---- sublinks

-- SQLite has IN and NOT IN in place of ANY and ALL
abbrev pub any_of : Compare → ExprForm → QueryForm → ExprForm
any_of compare.Equal a q = enclosed (f.in_query false a q)
any_of compare.NotEqual a q = enclosed (f.any compare.NotEqual a q)
any_of compare.Less a q = enclosed (f.any compare.Less a q)
any_of compare.LessEqual a q = enclosed (f.any compare.LessEqual a q)
any_of compare.Greater a q = enclosed (f.any compare.Greater a q)
any_of compare.GreaterEqual a q = enclosed (f.any compare.GreaterEqual a q)

abbrev pub all_of : Compare → ExprForm → QueryForm → ExprForm
all_of compare.Equal a q = enclosed (f.all compare.Equal a q)
all_of compare.NotEqual a q = enclosed (f.in_query true a q)
all_of compare.Less a q = enclosed (f.all compare.Less a q)
all_of compare.LessEqual a q = enclosed (f.all compare.LessEqual a q)
all_of compare.Greater a q = enclosed (f.all compare.Greater a q)
all_of compare.GreaterEqual a q = enclosed (f.all compare.GreaterEqual a q)

abbrev pub tested_part : List ℕ → Option Expr → ExprForm
tested_part prefix None = unsaid
tested_part prefix (Some part) = shown_expr prefix [] part

abbrev pub asked : SubKind → ExprForm → QueryForm → ExprForm
asked ask.Exists a q = f.exists q
asked (ask.Any c) a q = any_of c a q
asked (ask.All c) a q = all_of c a q
asked ask.Scalar a q = f.scalar q

-- ---- queries

-- the form of a query whose own columns begin with a prefix; PROVENANCE is taken out before
abbrev mutual
  pub framed : List TableNames → List ℕ → Query → Framed
  framed tables prefix (Table id kinds) = a_select prefix (of_table (names_of tables id))
  framed tables prefix Single = a_select prefix (λ distinct out. selected distinct (listed out one []) f.no_from f.no_condition [])
  framed tables prefix (BaseOf input places label) = a_whole prefix (width_of input) (framed tables prefix input).whole
  framed tables prefix (FilterOf input condition _ subs) =
      a_block prefix (width_of input) false (framed tables prefix input).from
      (f.condition (tested_by prefix (sub_forms tables prefix subs) condition))
  framed tables prefix (ProjectOf input items _ subs) =
      let forms = sub_forms tables prefix subs in
      let below = framed tables prefix input in
      a_select prefix (λ distinct out.
      selected distinct (projected prefix out forms (spare (items_use items) 0 forms) items) (sources below.block) below.test [])
  framed tables prefix (JoinOf kind left right condition _ subs) =
      apart_unless prefix (length (kinds_of left ++ kinds_of right)) (is_chained kind)
      (a_block prefix (length (kinds_of left ++ kinds_of right)) (is_any (width_of right))
      (joined_to (apart_unless prefix (width_of left) (is_chained kind) (framed tables prefix left)).from
      (f.a_join (joined kind)
      (f.subquery ((framed tables prefix right).whole (naming prefix (width_of left + 1))) (source_name (width_of left + 1)))
      (tested_by prefix (sub_forms tables prefix subs) condition) f.no_joins)) f.no_condition)
  framed tables prefix (ApplyOf kind left right) =
      a_block prefix (length (kinds_of left ++ kinds_of right)) (is_any (width_of right))
      (joined_to (framed tables prefix left).from
      (f.a_lateral (stays kind) ((framed tables (deeper prefix) right).whole (naming prefix (width_of left + 1)))
      (source_name (width_of left + 1)) f.no_joins)) f.no_condition
  framed tables prefix (UnionOf all left right) =
      a_whole prefix (width_of left) (λ out.
      f.united ((framed tables prefix left).core false out) f.union all ((framed tables prefix right).core false out) f.no_unions [] None)
  framed tables prefix (IntersectOf all left right) =
      a_whole prefix (width_of left) (λ out.
      f.intersected ((framed tables prefix left).core false out) all ((framed tables prefix right).core false out) f.no_intersects [] None)
  framed tables prefix (ExceptOf all left right) =
      a_whole prefix (width_of left) (λ out.
      f.united ((framed tables prefix left).core false out) f.except all ((framed tables prefix right).core false out) f.no_unions [] None)
  framed tables prefix (DistinctOf input) = a_whole prefix (width_of input) (λ out. alone ((framed tables prefix input).core true out))
  framed tables prefix (AggregateOf input groups aggregates) =
      a_whole prefix (width_of (AggregateOf input groups aggregates)) (λ out.
      alone (in_groups prefix out groups aggregates (framed tables prefix input).block (framed tables prefix input).test))
  framed tables prefix (LimitOf input keys count) =
      a_whole prefix (width_of input) (λ out.
      f.one ((framed tables prefix input).core false out) (map key_form (all_keys (width_of input) keys)) (Some count))
  framed tables prefix (ProvOf input) = a_whole prefix (width_of (ProvOf input)) (framed tables prefix input).whole

  -- the forms of a node's sublinks, by their numbers
  pub sub_forms : List TableNames → List ℕ → {m : _} → Row_of-Sublink m → List ExprForm
  sub_forms tables prefix end_of-Sublink = []
  sub_forms tables prefix (more_of-Sublink kind tested query subs) =
      asked kind (tested_part prefix tested) ((framed tables (deeper prefix) query).whole (own (deeper prefix))) ∷ sub_forms tables prefix subs

abbrev pub shown : List TableNames → List ℕ → Naming → Query → QueryForm
shown tables prefix out q = (framed tables prefix q).whole out

-- ---- answers

abbrev pub called_from : ℕ → List (List ℕ) → ItemForms
called_from number [] = f.no_items
called_from number (name ∷ names) = f.an_item (f.column (own_column outermost number)) name (called_from (number + 1) names)

abbrev pub called : List (List ℕ) → Listed
called [] = listed (own outermost) one []
called (name ∷ names) = record { first = f.column (own_column outermost 1); name = name; more = called_from 2 names }

-- a query with the names of its columns and the order of its rows
abbrev pub shown_answer : List TableNames → Query → List (List ℕ) → List Key → QueryForm
shown_answer tables q names keys =
    let below = framed tables outermost q in
    f.one (selected false (called names) (sources below.block) below.test []) (map key_form keys) None
