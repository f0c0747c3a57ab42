-- What the text of a query is made of: SELECT lists, conditions, joins, groups, keys, and what stands around the query of a sublink.
use Rattle.std.specs.Prelude.{ℕ, zero, suc, ◌+◌, Bool, true, false, List, [], ◌∷◌, ◌++◌, length, Option, Some, None, codes}
use Rattle.std.specs.List.{flat_map, range_with_len}
use Rattle.null_logic.specs.declared.compare.Compare.{Compare}
use Rattle.null_logic.specs.declared.compare.Compare.TheVariants as compare
use Rattle.perm_values.specs.declared.key.Key.{Key}
use Rattle.perm_values.specs.declared.kind.Kind.{Kind}
use Rattle.perm_values.specs.declared.kind.Kind.TheVariants as kinds
use Rattle.bag_algebra.specs.declared.expr.Expr.{Expr}
use Rattle.bag_algebra.specs.declared.expr.Item.{Item}
use Rattle.bag_algebra.specs.declared.query.AggFn.{AggFn}
use Rattle.bag_algebra.specs.declared.query.AggFn.TheVariants as agg
use Rattle.bag_algebra.specs.declared.query.Aggr.{Aggr}
use Rattle.bag_algebra.specs.declared.query.JoinKind.{JoinKind}
use Rattle.bag_algebra.specs.declared.query.JoinKind.TheVariants as join
use Rattle.bag_algebra.specs.declared.query.SubKind.{SubKind}
use Rattle.bag_algebra.specs.declared.query.SubKind.TheVariants as ask
use Rattle.query_texts.specs.clauses.Keys.{all_keys}
use Rattle.query_texts.specs.clauses.Names.{Naming, own, source_prefix, outermost}
use Rattle.query_texts.specs.clauses.Unused.{used_in, items_use, spare}
use Rattle.query_texts.specs.declared.clauses.tables.TableNames.{TableNames}
use Rattle.tree_texts.specs.expressions.ExpressionTexts.{expr_bytes}
use Rattle.tree_texts.specs.expressions.Words.{name_text, number_text, reference_text, null_text, unsaid_text, unless_none}

-- ---- SELECT lists

-- what stands before the item of a number
abbrev pub comma : ℕ → List ℕ
comma zero = []
comma (suc number) = codes ", "

-- AS and the name of the item of a number
abbrev pub as_text : Naming → ℕ → List ℕ
as_text out number = codes "AS " ++ reference_text out.prefix 0 (out.first + number)

abbrev pub item_text : Naming → ℕ → List ℕ → List ℕ
item_text out number text = comma number ++ (text ++ as_text out number)

-- a list without items has one that is read nowhere
abbrev pub unread_text : List ℕ → List ℕ → ℕ → List ℕ
unread_text prefix word zero = word ++ (codes "AS " ++ reference_text prefix 0 0)
unread_text prefix word (suc count) = []

-- the columns of a node's own row, so many of them
abbrev pub column_item : List ℕ → Naming → ℕ → List ℕ
column_item prefix out number = item_text out number (reference_text prefix 0 (number + 1))

abbrev pub column_items : List ℕ → Naming → ℕ → List ℕ
column_items prefix out count = flat_map (column_item prefix out) (range_with_len 0 count)

abbrev pub columns_text : List ℕ → Naming → ℕ → List ℕ
columns_text prefix out count = unread_text out.prefix (codes "1 ") count ++ column_items prefix out count

abbrev pub named_items : Naming → ℕ → List (List ℕ) → List ℕ
named_items out number [] = []
named_items out number (name ∷ names) = item_text out number (name_text name) ++ named_items out (number + 1) names

-- ---- clauses

abbrev pub over_text : List ℕ → List ℕ
over_text q = codes "FROM ( " ++ (q ++ codes ") AS \"t\" ")

-- the columns of a table
abbrev pub listed_text : Naming → List ℕ → List (List ℕ) → List ℕ
listed_text out name columns =
    unread_text out.prefix (codes "1 ") (length columns) ++ (named_items out 0 columns ++ (codes "FROM " ++ name_text name))

abbrev pub table_text : Naming → TableNames → List ℕ
table_text out table = listed_text out table.name table.columns

-- ---- expressions beside which unused sublinks stand

abbrev pub never_text : Kind → List ℕ → List ℕ
never_text kind sub = codes "WHEN ( ( " ++ (sub ++ (codes "IS NULL ) IS NULL ) THEN " ++ null_text kind))

abbrev pub nevers_text : Kind → List (List ℕ) → List ℕ
nevers_text kind unused = flat_map (never_text kind) unused

abbrev pub beside_front : Kind → List (List ℕ) → List ℕ
beside_front kind unused =
    unless_none (length unused) (codes "CASE ") ++ (nevers_text kind unused ++ unless_none (length unused) (codes "ELSE "))

abbrev pub beside_back : List (List ℕ) → List ℕ
beside_back unused = unless_none (length unused) (codes "END ")

abbrev pub beside_text : Kind → List (List ℕ) → List ℕ → List ℕ
beside_text kind unused text = beside_front kind unused ++ (text ++ beside_back unused)

abbrev pub condition_text : List ℕ → List (List ℕ) → Expr → List ℕ
condition_text prefix subs condition =
    beside_text kinds.Boolean (spare (used_in condition) 0 subs) (expr_bytes prefix subs condition)

abbrev pub where_text : List ℕ → List (List ℕ) → Expr → List ℕ
where_text prefix subs condition = codes "WHERE " ++ condition_text prefix subs condition

abbrev pub expr_items : List ℕ → Naming → List (List ℕ) → ℕ → List Item → List ℕ
expr_items prefix out subs number [] = []
expr_items prefix out subs number (item ∷ items) =
    item_text out number (expr_bytes prefix subs item.expr) ++ expr_items prefix out subs (number + 1) items

-- the sublinks that no item uses stand beside the first
abbrev pub projected_text : List ℕ → Naming → List (List ℕ) → List (List ℕ) → List Item → List ℕ
projected_text prefix out subs unused [] = unread_text out.prefix (beside_text kinds.Integer unused (codes "1 ")) 0
projected_text prefix out subs unused (item ∷ items) =
    beside_text item.kind unused (expr_bytes prefix subs item.expr) ++ (as_text out 0 ++ expr_items prefix out subs 1 items)

abbrev pub projecting_text : List ℕ → Naming → List (List ℕ) → List Item → List ℕ
projecting_text prefix out subs items = projected_text prefix out subs (spare (items_use items) 0 subs) items

-- ---- joins

abbrev pub join_text : JoinKind → List ℕ
join_text join.Inner = codes "JOIN ( "
join_text join.Left = codes "LEFT JOIN ( "
join_text join.Right = codes "RIGHT JOIN ( "
join_text join.Full = codes "FULL JOIN ( "

abbrev pub lateral_text : JoinKind → List ℕ
lateral_text join.Inner = codes "CROSS JOIN LATERAL ( "
lateral_text join.Left = codes "LEFT JOIN LATERAL ( "
lateral_text join.Right = codes "CROSS JOIN LATERAL ( "
lateral_text join.Full = codes "CROSS JOIN LATERAL ( "

-- behind what stands there for each row
abbrev pub lateral_on : JoinKind → List ℕ
lateral_on join.Inner = []
lateral_on join.Left = codes "ON TRUE "
lateral_on join.Right = []
lateral_on join.Full = []

-- AS and the name of the source whose columns begin with a number
abbrev pub source_text : ℕ → List ℕ
source_text number = codes ") AS " ++ reference_text source_prefix 0 number

-- the query on the right, and what it is joined on
abbrev pub beside_joined : JoinKind → ℕ → List ℕ → List ℕ
beside_joined kind number q = join_text kind ++ (q ++ (source_text number ++ codes "ON "))

abbrev pub beside_lateral : JoinKind → ℕ → List ℕ → List ℕ
beside_lateral kind number q = lateral_text kind ++ (q ++ (source_text number ++ lateral_on kind))

abbrev pub set_text : List ℕ → Bool → List ℕ
set_text word true = word ++ codes "ALL "
set_text word false = word

-- ---- groups

abbrev pub argument_text : List ℕ → Option Expr → List ℕ
argument_text prefix None = codes "1 "
argument_text prefix (Some part) = expr_bytes prefix [] part

-- an aggregate of a column
abbrev pub folded_text : List ℕ → List ℕ → List ℕ
folded_text word column = word ++ (column ++ codes ") ")

abbrev pub aggregated_text : AggFn → List ℕ → List ℕ
aggregated_text agg.CountRows column = codes "COUNT ( * ) "
aggregated_text agg.Count column = folded_text (codes "COUNT ( ") column
aggregated_text agg.CountDistinct column = folded_text (codes "COUNT ( DISTINCT ") column
aggregated_text agg.Sum column = folded_text (codes "SUM ( ") column
aggregated_text agg.Min column = folded_text (codes "MIN ( ") column
aggregated_text agg.Max column = folded_text (codes "MAX ( ") column

abbrev pub group_items : List ℕ → ℕ → List ℕ → List ℕ
group_items prefix number [] = []
group_items prefix number (place ∷ places) = item_text (own prefix) number (reference_text prefix 0 (place + 1)) ++ group_items prefix (number + 1) places

abbrev pub argument_items : List ℕ → ℕ → List Aggr → List ℕ
argument_items prefix number [] = []
argument_items prefix number (aggregate ∷ aggregates) =
    item_text (own prefix) number (argument_text prefix aggregate.argument) ++ argument_items prefix (number + 1) aggregates

abbrev pub aggregate_items : List ℕ → Naming → ℕ → List Aggr → List ℕ
aggregate_items prefix out number [] = []
aggregate_items prefix out number (aggregate ∷ aggregates) =
    item_text out number (aggregated_text aggregate.function (reference_text prefix 0 (number + 1))) ++ aggregate_items prefix out (number + 1) aggregates

-- what is grouped: the columns that are, and the arguments
abbrev pub below_text : List ℕ → List ℕ → List Aggr → List ℕ
below_text prefix groups aggregates =
    codes "SELECT " ++ (unread_text prefix (codes "1 ") (length groups + length aggregates)
    ++ (group_items prefix 0 groups ++ argument_items prefix (length groups) aggregates))

abbrev pub grouped_column : List ℕ → ℕ → List ℕ
grouped_column prefix number = comma number ++ reference_text prefix 0 (number + 1)

abbrev pub grouped_columns : List ℕ → ℕ → List ℕ
grouped_columns prefix count = flat_map (grouped_column prefix) (range_with_len 0 count)

abbrev pub grouped_text : List ℕ → ℕ → List ℕ
grouped_text prefix count = unless_none count (codes "GROUP BY ") ++ grouped_columns prefix count

abbrev pub above_text : List ℕ → Naming → ℕ → List Aggr → List ℕ
above_text prefix out count aggregates =
    codes "SELECT " ++ (unread_text out.prefix (codes "COUNT ( * ) ") (count + length aggregates)
    ++ (column_items prefix out count ++ aggregate_items prefix out count aggregates))

-- over what stands behind a SELECT list
abbrev pub groups_text : List ℕ → Naming → List ℕ → List Aggr → List ℕ → List ℕ
groups_text prefix out groups aggregates rows =
    above_text prefix out (length groups) aggregates
    ++ (over_text (below_text prefix groups aggregates ++ rows) ++ grouped_text prefix (length groups))

-- ---- order

abbrev pub direction_text : Bool → List ℕ
direction_text true = codes "DESC "
direction_text false = []

abbrev pub key_text : ℕ → Key → List ℕ
key_text number key = comma number ++ (number_text (key.place + 1) ++ direction_text key.descending)

abbrev pub key_texts : ℕ → List Key → List ℕ
key_texts number [] = []
key_texts number (key ∷ keys) = key_text number key ++ key_texts (number + 1) keys

abbrev pub ordered_text : List Key → List ℕ
ordered_text keys = unless_none (length keys) (codes "ORDER BY ") ++ key_texts 0 keys

-- the order that a LIMIT takes rows in, of so many columns
abbrev pub order_text : List Key → ℕ → List ℕ
order_text keys count = ordered_text (all_keys count keys)

abbrev pub limited_text : List Key → ℕ → ℕ → List ℕ
limited_text keys columns count = order_text keys columns ++ (codes "LIMIT " ++ number_text count)

-- ---- sublinks

abbrev pub any_text : Compare → List ℕ
any_text compare.Equal = codes "IN ( "
any_text compare.NotEqual = codes "<> ANY ( "
any_text compare.Less = codes "< ANY ( "
any_text compare.LessEqual = codes "<= ANY ( "
any_text compare.Greater = codes "> ANY ( "
any_text compare.GreaterEqual = codes ">= ANY ( "

abbrev pub all_text : Compare → List ℕ
all_text compare.Equal = codes "= ALL ( "
all_text compare.NotEqual = codes "NOT IN ( "
all_text compare.Less = codes "< ALL ( "
all_text compare.LessEqual = codes "<= ALL ( "
all_text compare.Greater = codes "> ALL ( "
all_text compare.GreaterEqual = codes ">= ALL ( "

abbrev pub part_text : List ℕ → Option Expr → List ℕ
part_text prefix None = unsaid_text
part_text prefix (Some part) = expr_bytes prefix [] part

-- what ANY and ALL compare
abbrev pub tested_text : List ℕ → Option Expr → List ℕ → List ℕ
tested_text prefix tested word = codes "( " ++ (part_text prefix tested ++ word)

-- what stands before the query of a sublink, and behind it
abbrev pub asking_text : List ℕ → SubKind → Option Expr → List ℕ
asking_text prefix ask.Exists tested = codes "EXISTS ( "
asking_text prefix (ask.Any c) tested = tested_text prefix tested (any_text c)
asking_text prefix (ask.All c) tested = tested_text prefix tested (all_text c)
asking_text prefix ask.Scalar tested = codes "( "

abbrev pub asked_back : SubKind → List ℕ
asked_back ask.Exists = codes ") "
asked_back (ask.Any c) = codes ") ) "
asked_back (ask.All c) = codes ") ) "
asked_back ask.Scalar = codes ") "

abbrev pub asked_text : List ℕ → SubKind → Option Expr → List ℕ → List ℕ
asked_text prefix kind tested q = asking_text prefix kind tested ++ (q ++ asked_back kind)

-- ---- answers

abbrev pub called_item : ℕ → List ℕ → List ℕ
called_item number name = comma number ++ (reference_text outermost 0 (number + 1) ++ (codes "AS " ++ name_text name))

abbrev pub called_items : ℕ → List (List ℕ) → List ℕ
called_items number [] = []
called_items number (name ∷ names) = called_item number name ++ called_items (number + 1) names
