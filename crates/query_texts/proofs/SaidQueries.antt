-- What the form of a query says is its text.
use Rattle.std.proofs.Common.{◌≡◌, ◌∙◌, ℕ, suc, ◌+◌, Bool, true, false, List, [], ◌∷◌, ◌++◌, map, refl, sym, ap, ap₂, append_assoc, append-nil, arith, true≢false}
use Rattle.std.proofs.lemmas.List.{length-append, length-map, map-append}
use Rattle.std.specs.Prelude.{codes, length, cond, Option, Some, None}
use Rattle.null_logic.specs.declared.compare.Compare.{Compare}
use Rattle.null_logic.specs.declared.compare.Compare.TheVariants as compare
use Rattle.perm_values.specs.declared.key.Key.{Key}
use Rattle.perm_values.specs.declared.kind.Kind.TheVariants as kinds
use Rattle.bag_algebra.specs.Kinds.{kinds_of, width_of}
use Rattle.bag_algebra.specs.built.Patterns.{BaseOf, FilterOf, ProjectOf, JoinOf, ApplyOf, UnionOf, IntersectOf, ExceptOf, DistinctOf, AggregateOf, LimitOf, ProvOf}
use Rattle.bag_algebra.specs.declared.expr.Expr.{Expr}
use Rattle.bag_algebra.specs.declared.expr.Item.{Item}
use Rattle.bag_algebra.specs.declared.query.Aggr.{Aggr}
use Rattle.bag_algebra.specs.declared.query.JoinKind.{JoinKind}
use Rattle.bag_algebra.specs.declared.query.JoinKind.TheVariants as join
use Rattle.bag_algebra.specs.declared.query.Query.{Query, Row_of-Sublink, more_of-Sublink, end_of-Sublink}
use Rattle.bag_algebra.specs.declared.query.Query.TheVariants.{Table, Single}
use Rattle.bag_algebra.specs.declared.query.SubKind.{SubKind}
use Rattle.bag_algebra.specs.declared.query.SubKind.TheVariants as ask
use Rattle.tree_texts.specs.plans.Levels.{expression}
use Rattle.tree_texts.specs.FormPlans as plan
use Rattle.tree_texts.specs.Forms as f
use Rattle.tree_texts.specs.Forms.{ExprForm, FromForm, ConditionForm, CoreForm, QueryForm, JoinForms}
use Rattle.tree_texts.specs.Phrases.{maybe_distinct, joining, joining_lateral, grouped, ordered}
use Rattle.query_texts.specs.QueryTexts as texts
use Rattle.query_texts.specs.QueryTexts.{Written, written, select, sub_texts, answer_bytes}
use Rattle.query_texts.specs.clauses.Chains.{is_chained}
use Rattle.query_texts.specs.clauses.Keys.{all_keys}
use Rattle.query_texts.specs.clauses.Names.{Naming, naming, own, deeper, names_of, outermost}
use Rattle.query_texts.specs.forms.ShownExpressions.{shown_expr, beside}
use Rattle.query_texts.specs.forms.ShownQueries.{own_columns, Listed, listed, one, columns, selected, alone, Chain, sources, just, then_joins, joined_to, source_name, Framed, copied, a_whole, a_select, a_block, apart_unless, of_table, tested_by, projected, joined, stays, in_groups, below_groups, aggregates_from, arguments, grouped_columns, key_form, any_of, all_of, tested_part, asked, framed, sub_forms, called, shown_answer}
use Rattle.query_texts.specs.clauses.Unused.{used_in, items_use, spare}
use Rattle.query_texts.specs.declared.clauses.tables.TableNames.{TableNames}
use Rattle.query_texts.specs.forms.Pieces.{said, expr_said, query_said}
use Rattle.query_texts.specs.clauses.ClauseTexts.{as_text, item_text, unread_text, columns_text, named_items, over_text, table_text, beside_text, beside_joined, beside_lateral, source_text, condition_text, where_text, expr_items, projected_text, projecting_text, set_text, below_text, groups_text, any_text, all_text, part_text, asked_text, ordered_text, called_items}
use Rattle.tree_texts.specs.expressions.Words.{is_any, name_text, number_text, reference_text}
use Rattle.query_texts.proofs.SaidClauses.{beside_said, grouped_said, order_said, called_said}
use Rattle.query_texts.proofs.SaidExpressions.{expression_said}
use Rattle.query_texts.proofs.SaidLists.{list_said, items_said, listed_said, items_append, one_said, columns_length, columns_said, names_said, groups_said, arguments_said, aggregates_said}

-- ---- SELECT

-- what a SELECT without groups says
select_said : (distinct : Bool) (list : Listed) (origin : FromForm) (test : ConditionForm) → said (plan.core (selected distinct list origin test []))
    ≡ codes "SELECT " ++ (said (maybe_distinct distinct) ++ (list_said list ++ (said (plan.sources origin) ++ said (plan.where_clause test))))
select_said distinct list origin test =
    ap (λ t. codes "SELECT " ++ (said (maybe_distinct distinct) ++ (list_said list ++ (said (plan.sources origin) ++ t))))
    (append-nil (said (plan.where_clause test)))

alone_said : (core : CoreForm) → query_said (alone core) ≡ said (plan.core core)
alone_said core = append-nil (said (plan.core core))

just_said : (q : QueryForm) → said (plan.sources (sources (just q))) ≡ over_text (query_said q)
just_said q = ap (λ t. codes "FROM ( " ++ t) (append-nil (query_said q ++ codes ") AS \"t\" "))

nested_said : (q : QueryForm) → said (plan.nested q) ≡ query_said q
nested_said (f.one first keys number) = refl
nested_said (f.united first kind every right more keys number) = refl
nested_said (f.intersected first every right more keys number) = refl

spare_map : (used : ℕ → Bool) (number : ℕ) (forms : List ExprForm) → map expr_said (spare used number forms) ≡ spare used number (map expr_said forms)
spare_map used number [] = refl
spare_map used number (form ∷ forms) =
    elim (used number) as (λ b. map expr_said (cond b (spare used (number + 1) forms) (form ∷ spare used (number + 1) forms))
    ≡ cond b (spare used (number + 1) (map expr_said forms)) (expr_said form ∷ spare used (number + 1) (map expr_said forms))) [
      | true ↦ spare_map used (number + 1) forms
      | false ↦ ap (λ texts. expr_said form ∷ texts) (spare_map used (number + 1) forms)
    ]

module _ (prefix : List ℕ) where
  columns_list : (out : Naming) (count : ℕ) → list_said (listed out one (columns prefix count)) ≡ columns_text prefix out count
  columns_list out count =
      listed_said out one (columns prefix count)
      ∙ ap (λ word. unread_text out.prefix word (length (columns prefix count)) ++ items_said out 0 (map expr_said (columns prefix count))) one_said
      ∙ ap₂ (λ n t. unread_text out.prefix (codes "1 ") n ++ t) (columns_length prefix 1 count) (columns_said prefix out 0 count)

  condition_said : (forms : List ExprForm) (condition : Expr) → expr_said (tested_by prefix forms condition) ≡ condition_text prefix (map expr_said forms) condition
  condition_said forms condition =
      beside_said kinds.Boolean (spare (used_in condition) 0 forms) (shown_expr prefix forms condition)
      ∙ ap₂ (beside_text kinds.Boolean) (spare_map (used_in condition) 0 forms) (expression_said prefix forms condition)

  items_of : (out : Naming) (forms : List ExprForm) (number : ℕ) (items : List Item)
      → items_said out number (map expr_said (map (λ (item : Item). shown_expr prefix forms item.expr) items))
      ≡ expr_items prefix out (map expr_said forms) number items
  items_of out forms number [] = refl
  items_of out forms number (item ∷ items) =
      ap₂ (λ text rest. item_text out number text ++ rest) (expression_said prefix forms item.expr) (items_of out forms (number + 1) items)

  projected_said : (out : Naming) (forms unused : List ExprForm) (items : List Item)
      → list_said (projected prefix out forms unused items) ≡ projected_text prefix out (map expr_said forms) (map expr_said unused) items
  projected_said out forms unused [] =
      append-nil (unread_text out.prefix (expr_said (beside kinds.Integer unused one)) 0)
      ∙ ap (λ word. unread_text out.prefix word 0) (beside_said kinds.Integer unused one ∙ ap (beside_text kinds.Integer (map expr_said unused)) one_said)
  projected_said out forms unused (item ∷ items) =
      let first = beside item.kind unused (shown_expr prefix forms item.expr) in
      listed_said out one (first ∷ map (λ (item : Item). shown_expr prefix forms item.expr) items)
      ∙ ap (λ rest. (expr_said first ++ as_text out 0) ++ rest) (items_of out forms 1 items)
      ∙ append_assoc (expr_said first) (as_text out 0) (expr_items prefix out (map expr_said forms) 1 items)
      ∙ ap (λ t. t ++ (as_text out 0 ++ expr_items prefix out (map expr_said forms) 1 items))
      (beside_said item.kind unused (shown_expr prefix forms item.expr) ∙ ap (beside_text item.kind (map expr_said unused)) (expression_said prefix forms item.expr))

-- ---- joins

joins_said : (more last : JoinForms) → said (plan.joins (then_joins more last)) ≡ said (plan.joins more) ++ said (plan.joins last)
joins_said f.no_joins last = refl
joins_said (f.a_join kind right on more) last =
    ap (λ t. said (joining kind (plan.source right) (expression (plan.expr on))) ++ t) (joins_said more last)
    ∙ sym (append_assoc (said (joining kind (plan.source right) (expression (plan.expr on)))) (said (plan.joins more)) (said (plan.joins last)))
joins_said (f.a_lateral stays q name more) last =
    ap (λ t. said (joining_lateral stays (plan.query q) name) ++ t) (joins_said more last)
    ∙ sym (append_assoc (said (joining_lateral stays (plan.query q) name)) (said (plan.joins more)) (said (plan.joins last)))

chain_said : (chain : Chain) (last : JoinForms)
    → said (plan.sources (sources (joined_to chain last))) ≡ said (plan.sources (sources chain)) ++ said (plan.joins last)
chain_said chain last =
    let first = said (plan.source chain.first) in
    ap (λ t. codes "FROM " ++ (first ++ t)) (joins_said chain.more last)
    ∙ ap (λ t. codes "FROM " ++ t) (sym (append_assoc first (said (plan.joins chain.more)) (said (plan.joins last))))

join_regroup : (word q name on : List ℕ) → (word ++ ((q ++ name) ++ (codes "ON " ++ on))) ++ [] ≡ (word ++ (q ++ (name ++ codes "ON "))) ++ on
join_regroup word q name on =
    append-nil (word ++ ((q ++ name) ++ (codes "ON " ++ on)))
    ∙ ap (λ t. word ++ t) (append_assoc q name (codes "ON " ++ on)
    ∙ ap (λ t. q ++ t) (sym (append_assoc name (codes "ON ") on)) ∙ sym (append_assoc q (name ++ codes "ON ") on))
    ∙ sym (append_assoc word (q ++ (name ++ codes "ON ")) on)

-- a join behind other sources
join_said : (kind : JoinKind) (number : ℕ) (right : QueryForm) (on : ExprForm)
    → said (plan.joins (f.a_join (joined kind) (f.subquery right (source_name number)) on f.no_joins)) ≡ beside_joined kind number (query_said right) ++ expr_said on
join_said join.Inner number right on = join_regroup (codes "JOIN ( ") (query_said right) (source_text number) (expr_said on)
join_said join.Left number right on = join_regroup (codes "LEFT JOIN ( ") (query_said right) (source_text number) (expr_said on)
join_said join.Right number right on = join_regroup (codes "RIGHT JOIN ( ") (query_said right) (source_text number) (expr_said on)
join_said join.Full number right on = join_regroup (codes "FULL JOIN ( ") (query_said right) (source_text number) (expr_said on)

crossed : (q name : List ℕ) → (codes "CROSS JOIN LATERAL ( " ++ (q ++ name)) ++ [] ≡ codes "CROSS JOIN LATERAL ( " ++ (q ++ (name ++ []))
crossed q name = append-nil (codes "CROSS JOIN LATERAL ( " ++ (q ++ name)) ∙ ap (λ t. codes "CROSS JOIN LATERAL ( " ++ (q ++ t)) (sym (append-nil name))

lateral_said : (kind : JoinKind) (number : ℕ) (right : QueryForm) → said (plan.joins (f.a_lateral (stays kind) right (source_name number) f.no_joins))
    ≡ beside_lateral kind number (query_said right)
lateral_said join.Inner number right = crossed (query_said right) (source_text number)
lateral_said join.Left number right =
    append-nil (codes "LEFT JOIN LATERAL ( " ++ ((query_said right ++ source_text number) ++ codes "ON TRUE "))
    ∙ ap (λ t. codes "LEFT JOIN LATERAL ( " ++ t) (append_assoc (query_said right) (source_text number) (codes "ON TRUE "))
lateral_said join.Right number right = crossed (query_said right) (source_text number)
lateral_said join.Full number right = crossed (query_said right) (source_text number)

-- ---- set operations

set_regroup : (a b : List ℕ) → a ++ ((b ++ []) ++ []) ≡ a ++ b
set_regroup a b = ap (λ t. a ++ t) (append-nil (b ++ []) ∙ append-nil b)

union_said : (all : Bool) (left right : CoreForm) → query_said (f.united left f.union all right f.no_unions [] None)
    ≡ said (plan.core left) ++ (set_text (codes "UNION ") all ++ said (plan.core right))
union_said true left right = set_regroup (said (plan.core left)) (codes "UNION ALL " ++ said (plan.core right))
union_said false left right = set_regroup (said (plan.core left)) (codes "UNION " ++ said (plan.core right))

except_said : (all : Bool) (left right : CoreForm) → query_said (f.united left f.except all right f.no_unions [] None)
    ≡ said (plan.core left) ++ (set_text (codes "EXCEPT ") all ++ said (plan.core right))
except_said true left right = set_regroup (said (plan.core left)) (codes "EXCEPT ALL " ++ said (plan.core right))
except_said false left right = set_regroup (said (plan.core left)) (codes "EXCEPT " ++ said (plan.core right))

intersect_said : (all : Bool) (left right : CoreForm) → query_said (f.intersected left all right f.no_intersects [] None)
    ≡ said (plan.core left) ++ (set_text (codes "INTERSECT ") all ++ said (plan.core right))
intersect_said true left right = set_regroup (said (plan.core left)) (codes "INTERSECT ALL " ++ said (plan.core right))
intersect_said false left right = set_regroup (said (plan.core left)) (codes "INTERSECT " ++ said (plan.core right))

-- ---- tables and groups

single_said : (distinct : Bool) (out : Naming) → said (plan.core (selected distinct (listed out one []) f.no_from f.no_condition []))
    ≡ codes "SELECT " ++ (said (maybe_distinct distinct) ++ unread_text out.prefix (codes "1 ") 0)
single_said distinct out =
    let unread : List ℕ = unread_text out.prefix (expr_said one) 0 in
    select_said distinct (listed out one []) f.no_from f.no_condition
    ∙ ap (λ t. codes "SELECT " ++ (said (maybe_distinct distinct) ++ t)) (append-nil (unread ++ []) ∙ append-nil unread)
    ∙ ap (λ word. codes "SELECT " ++ (said (maybe_distinct distinct) ++ unread_text out.prefix word 0)) one_said

names_length : (names : List (List ℕ)) → length (map (λ name. f.column (f.bare name)) names) ≡ length names
names_length [] = refl
names_length (name ∷ names) = ap suc (names_length names)

table_said : (table : TableNames) (distinct : Bool) (out : Naming)
    → said (plan.core (of_table table distinct out)) ≡ codes "SELECT " ++ (said (maybe_distinct distinct) ++ table_text out table)
table_said table distinct out =
    let names : List ExprForm = map (λ name. f.column (f.bare name)) table.columns in
    let unread : List ℕ = unread_text out.prefix (codes "1 ") (length table.columns) in
    select_said distinct (listed out one names) (f.from (f.table table.name) f.no_joins) f.no_condition
    ∙ ap₂ (λ l n. codes "SELECT " ++ (said (maybe_distinct distinct) ++ (l ++ (codes "FROM " ++ n))))
    (listed_said out one names
    ∙ ap (λ word. unread_text out.prefix word (length names) ++ items_said out 0 (map expr_said names)) one_said
    ∙ ap₂ (λ n t. unread_text out.prefix (codes "1 ") n ++ t) (names_length table.columns) (names_said outermost out 0 table.columns))
    (append-nil (name_text table.name ++ []) ∙ append-nil (name_text table.name))
    ∙ ap (λ t. codes "SELECT " ++ (said (maybe_distinct distinct) ++ t))
    (append_assoc unread (named_items out 0 table.columns) (codes "FROM " ++ name_text table.name))

groups_length : (prefix places : List ℕ) → length (grouped_columns prefix places) ≡ length places
groups_length prefix [] = refl
groups_length prefix (place ∷ places) = ap suc (groups_length prefix places)

arguments_length : (prefix : List ℕ) (aggregates : List Aggr) → length (arguments prefix aggregates) ≡ length aggregates
arguments_length prefix [] = refl
arguments_length prefix (aggregate ∷ aggregates) = ap suc (arguments_length prefix aggregates)

aggregates_length : (prefix : List ℕ) (number : ℕ) (aggregates : List Aggr) → length (aggregates_from prefix number aggregates) ≡ length aggregates
aggregates_length prefix number [] = refl
aggregates_length prefix number (aggregate ∷ aggregates) = ap suc (aggregates_length prefix (number + 1) aggregates)

-- two lists of items, one behind the other
both_listed : (out : Naming) (nothing : ExprForm) (forms more : List ExprForm) (n m : ℕ) → length forms ≡ n → length more ≡ m
    → list_said (listed out nothing (forms ++ more))
    ≡ unread_text out.prefix (expr_said nothing) (n + m) ++ (items_said out 0 (map expr_said forms) ++ items_said out n (map expr_said more))
both_listed out nothing forms more n m is_n is_m =
    let all : length (forms ++ more) ≡ n + m = length-append forms more ∙ ap₂ (λ a b. a + b) is_n is_m in
    let behind : 0 + length (map expr_said forms) ≡ n = omega (arith, length-map forms expr_said, is_n) in
    listed_said out nothing (forms ++ more)
    ∙ ap₂ (λ k t. unread_text out.prefix (expr_said nothing) k ++ t) all
    (ap (items_said out 0) (map-append expr_said forms more) ∙ items_append out 0 (map expr_said forms) (map expr_said more)
    ∙ ap (λ k. items_said out 0 (map expr_said forms) ++ items_said out k (map expr_said more)) behind)

below_said : (prefix : List ℕ) (groups : List ℕ) (aggregates : List Aggr) (chain : Chain) (test : ConditionForm)
    → query_said (below_groups prefix groups aggregates chain test)
    ≡ below_text prefix groups aggregates ++ (said (plan.sources (sources chain)) ++ said (plan.where_clause test))
below_said prefix groups aggregates chain test =
    let list = listed (own prefix) one (grouped_columns prefix groups ++ arguments prefix aggregates) in
    alone_said (selected false list (sources chain) test []) ∙ select_said false list (sources chain) test
    ∙ ap (λ l. codes "SELECT " ++ (l ++ (said (plan.sources (sources chain)) ++ said (plan.where_clause test))))
    (both_listed (own prefix) one (grouped_columns prefix groups) (arguments prefix aggregates) (length groups) (length aggregates)
    (groups_length prefix groups) (arguments_length prefix aggregates)
    ∙ ap (λ word. unread_text prefix word (length groups + length aggregates)
    ++ (items_said (own prefix) 0 (map expr_said (grouped_columns prefix groups))
    ++ items_said (own prefix) (length groups) (map expr_said (arguments prefix aggregates)))) one_said
    ∙ ap₂ (λ a b. unread_text prefix (codes "1 ") (length groups + length aggregates) ++ (a ++ b)) (groups_said prefix 0 groups)
    (arguments_said prefix (length groups) aggregates))

groups_regroup : (l s g : List ℕ) → (codes "SELECT " ++ (l ++ (s ++ (g ++ [])))) ++ [] ≡ (codes "SELECT " ++ l) ++ (s ++ g)
groups_regroup l s g =
    append-nil (codes "SELECT " ++ (l ++ (s ++ (g ++ [])))) ∙ ap (λ t. codes "SELECT " ++ (l ++ (s ++ t))) (append-nil g)

in_groups_said : (prefix : List ℕ) (out : Naming) (groups : List ℕ) (aggregates : List Aggr) (chain : Chain) (test : ConditionForm)
    → query_said (alone (in_groups prefix out groups aggregates chain test))
    ≡ groups_text prefix out groups aggregates (said (plan.sources (sources chain)) ++ said (plan.where_clause test))
in_groups_said prefix out groups aggregates chain test =
    let list = listed out f.count_rows (columns prefix (length groups) ++ aggregates_from prefix (length groups + 1) aggregates) in
    let below = below_groups prefix groups aggregates chain test in
    groups_regroup (list_said list) (said (plan.sources (sources (just below)))) (said (grouped (own_columns prefix (length groups))))
    ∙ ap₂ (λ l t. (codes "SELECT " ++ l) ++ t)
    (both_listed out f.count_rows (columns prefix (length groups)) (aggregates_from prefix (length groups + 1) aggregates) (length groups) (length aggregates)
    (columns_length prefix 1 (length groups)) (aggregates_length prefix (length groups + 1) aggregates)
    ∙ ap₂ (λ a b. unread_text out.prefix (codes "COUNT ( * ) ") (length groups + length aggregates) ++ (a ++ b)) (columns_said prefix out 0 (length groups))
    (aggregates_said prefix out (length groups) aggregates))
    (ap₂ (λ s g. s ++ g) (just_said below ∙ ap over_text (below_said prefix groups aggregates chain test)) (grouped_said prefix (length groups)))

-- ---- sublinks

asked_regroup : (a word q : List ℕ) → codes "( " ++ ((a ++ (word ++ (q ++ codes ") "))) ++ codes ") ") ≡ (codes "( " ++ (a ++ word)) ++ (q ++ codes ") ) ")
asked_regroup a word q =
    ap (λ t. codes "( " ++ t) (append_assoc a (word ++ (q ++ codes ") ")) (codes ") ")
    ∙ ap (λ t. a ++ t) (append_assoc word (q ++ codes ") ") (codes ") ") ∙ ap (λ t. word ++ t) (append_assoc q (codes ") ") (codes ") ")))
    ∙ sym (append_assoc a word (q ++ codes ") ) ")))

any_said : (c : Compare) (a : ExprForm) (q : QueryForm)
    → expr_said (any_of c a q) ≡ codes "( " ++ ((expr_said a ++ (any_text c ++ (said (plan.nested q) ++ codes ") "))) ++ codes ") ")
any_said compare.Equal a q = refl
any_said compare.NotEqual a q = refl
any_said compare.Less a q = refl
any_said compare.LessEqual a q = refl
any_said compare.Greater a q = refl
any_said compare.GreaterEqual a q = refl

all_said : (c : Compare) (a : ExprForm) (q : QueryForm)
    → expr_said (all_of c a q) ≡ codes "( " ++ ((expr_said a ++ (all_text c ++ (said (plan.nested q) ++ codes ") "))) ++ codes ") ")
all_said compare.Equal a q = refl
all_said compare.NotEqual a q = refl
all_said compare.Less a q = refl
all_said compare.LessEqual a q = refl
all_said compare.Greater a q = refl
all_said compare.GreaterEqual a q = refl

part_said : (prefix : List ℕ) (tested : Option Expr) → expr_said (tested_part prefix tested) ≡ part_text prefix tested
part_said prefix None = refl
part_said prefix (Some part) = expression_said prefix [] part

asked_said : (prefix : List ℕ) (kind : SubKind) (tested : Option Expr) (q : QueryForm)
    → expr_said (asked kind (tested_part prefix tested) q) ≡ asked_text prefix kind tested (query_said q)
asked_said prefix ask.Exists tested q = ap (λ t. codes "EXISTS ( " ++ (t ++ codes ") ")) (nested_said q)
asked_said prefix (ask.Any c) tested q =
    any_said c (tested_part prefix tested) q
    ∙ ap₂ (λ a t. codes "( " ++ ((a ++ (any_text c ++ (t ++ codes ") "))) ++ codes ") ")) (part_said prefix tested) (nested_said q)
    ∙ asked_regroup (part_text prefix tested) (any_text c) (query_said q)
asked_said prefix (ask.All c) tested q =
    all_said c (tested_part prefix tested) q
    ∙ ap₂ (λ a t. codes "( " ++ ((a ++ (all_text c ++ (t ++ codes ") "))) ++ codes ") ")) (part_said prefix tested) (nested_said q)
    ∙ asked_regroup (part_text prefix tested) (all_text c) (query_said q)
asked_said prefix ask.Scalar tested q = ap (λ t. codes "( " ++ (t ++ codes ") ")) (nested_said q)

-- ---- what a query is shown as says what it is written as

pub record Says (w : Written) (form : Framed) : Type 0 where
  pub whole : (out : Naming) → query_said (form.whole out) ≡ w.whole out
  pub core : (distinct : Bool) (out : Naming) → said (plan.core (form.core distinct out)) ≡ codes "SELECT " ++ (said (maybe_distinct distinct) ++ w.listed out)
  pub block : said (plan.sources (sources form.block)) ++ said (plan.where_clause form.test) ≡ w.block
  pub from : said (plan.sources (sources form.from)) ≡ w.from

module _ (prefix : List ℕ) where
  -- all columns over a FROM with a WHERE
  copied_said : (count : ℕ) (chain : Chain) (test : ConditionForm) (block : List ℕ)
      → said (plan.sources (sources chain)) ++ said (plan.where_clause test) ≡ block → (distinct : Bool) (out : Naming)
      → said (plan.core (copied prefix count chain test distinct out))
      ≡ codes "SELECT " ++ (said (maybe_distinct distinct) ++ (columns_text prefix out count ++ block))
  copied_said count chain test block is distinct out =
      select_said distinct (listed out one (columns prefix count)) (sources chain) test
      ∙ ap₂ (λ l b. codes "SELECT " ++ (said (maybe_distinct distinct) ++ (l ++ b))) (columns_list prefix out count) is

  whole_says : (count : ℕ) (whole : Naming → List ℕ) (form : Naming → QueryForm) → ((out : Naming) → query_said (form out) ≡ whole out)
      → Says (texts.a_whole prefix count whole) (a_whole prefix count form)
  whole_says count whole form is =
      let over = just_said (form (own prefix)) ∙ ap over_text (is (own prefix)) in
      let block = append-nil (said (plan.sources (sources (just (form (own prefix)))))) ∙ over in
      record {
        whole = is;
        core = copied_said count (just (form (own prefix))) f.no_condition (over_text (whole (own prefix))) block;
        block = block;
        from = over;
      }

  apart_says : (count : ℕ) (chained : Bool) (w : Written) (form : Framed) → Says w form
      → Says (texts.apart_unless prefix count chained w) (apart_unless prefix count chained form)
  apart_says count true w form is = is
  apart_says count false w form is = whole_says count w.whole form.whole is.whole

  select_says : (listed : Naming → List ℕ) (form : Bool → Naming → CoreForm)
      → ((distinct : Bool) (out : Naming) → said (plan.core (form distinct out)) ≡ codes "SELECT " ++ (said (maybe_distinct distinct) ++ listed out))
      → Says (texts.a_select prefix listed) (a_select prefix form)
  select_says listed form is =
      let whole : (out : Naming) → query_said (alone (form false out)) ≡ select (listed out) = λ out. alone_said (form false out) ∙ is false out in
      let over = just_said (alone (form false (own prefix))) ∙ ap over_text (whole (own prefix)) in
      record {
        whole = whole;
        core = is;
        block = append-nil (said (plan.sources (sources (just (alone (form false (own prefix))))))) ∙ over;
        from = over;
      }

  block_says : (count : ℕ) (followed : Bool) (block : List ℕ) (chain : Chain) (test : ConditionForm)
      → said (plan.sources (sources chain)) ++ said (plan.where_clause test) ≡ block → (followed ≡ true → said (plan.sources (sources chain)) ≡ block)
      → Says (texts.a_block prefix count followed block) (a_block prefix count followed chain test)
  block_says count followed block chain test is alone_is =
      let whole : (out : Naming) → query_said (alone (copied prefix count chain test false out)) ≡ select (columns_text prefix out count ++ block) =
      λ out. alone_said (copied prefix count chain test false out) ∙ copied_said count chain test block is false out in
      record {
        whole = whole;
        core = copied_said count chain test block is;
        block = is;
        from = either (over_text (select (columns_text prefix (own prefix) count ++ block))) (just (alone (copied prefix count chain test false (own prefix))))
            followed alone_is (just_said (alone (copied prefix count chain test false (own prefix))) ∙ ap over_text (whole (own prefix)));
      }
    where
      either : (over : List ℕ) (other : Chain) (b : Bool) → (b ≡ true → said (plan.sources (sources chain)) ≡ block)
          → said (plan.sources (sources other)) ≡ over → said (plan.sources (sources (cond b chain other))) ≡ cond b block over
      either over other true first second = first refl
      either over other false first second = second

  -- a FROM that joins follow, where it ends in one
  joined_says : (count : ℕ) (followed : Bool) (chain : Chain) (last : JoinForms) (from text : List ℕ) → said (plan.sources (sources chain)) ≡ from
      → said (plan.joins last) ≡ text
      → Says (texts.a_block prefix count followed (from ++ text)) (a_block prefix count followed (joined_to chain last) f.no_condition)
  joined_says count followed chain last from text first second =
      let all = chain_said chain last ∙ ap₂ (λ a b. a ++ b) first second in
      block_says count followed (from ++ text) (joined_to chain last) f.no_condition (append-nil (said (plan.sources (sources (joined_to chain last)))) ∙ all)
      (λ is. all)

condition_is : (prefix : List ℕ) (forms : List ExprForm) (texts : List (List ℕ)) (condition : Expr) → map expr_said forms ≡ texts
    → expr_said (tested_by prefix forms condition) ≡ condition_text prefix texts condition
condition_is prefix forms texts condition subs = condition_said prefix forms condition ∙ ap (λ ts. condition_text prefix ts condition) subs

-- ---- queries

module _ (tables : List TableNames) where
  mutual
    pub form_says : (prefix : List ℕ) (q : Query) → Says (written tables prefix q) (framed tables prefix q)
    form_says prefix (Table id kinds) = select_says prefix (λ out. table_text out (names_of tables id)) (of_table (names_of tables id)) (table_said (names_of tables id))
    form_says prefix Single =
        select_says prefix (λ out. unread_text out.prefix (codes "1 ") 0) (λ distinct out. selected distinct (listed out one []) f.no_from f.no_condition [])
        single_said
    form_says prefix (BaseOf input places label) =
        whole_says prefix (width_of input) (written tables prefix input).whole (framed tables prefix input).whole (form_says prefix input).whole
    form_says prefix (FilterOf input condition _ subs) =
        let forms = sub_forms tables prefix subs in
        let test = f.condition (tested_by prefix forms condition) in
        let text = where_text prefix (sub_texts tables prefix subs) condition in
        block_says prefix (width_of input) false ((written tables prefix input).from ++ text) (framed tables prefix input).from test
        (ap₂ (λ s c. s ++ (codes "WHERE " ++ c)) (form_says prefix input).from
        (condition_is prefix forms (sub_texts tables prefix subs) condition (subs_said prefix subs)))
        (λ is. absurd (true≢false (sym is)))
    form_says prefix (ProjectOf input items _ subs) =
        let forms = sub_forms tables prefix subs in
        let below = framed tables prefix input in
        let unused = spare (items_use items) 0 forms in
        select_says prefix (λ out. projecting_text prefix out (sub_texts tables prefix subs) items ++ (written tables prefix input).block)
        (λ distinct out. selected distinct (projected prefix out forms unused items) (sources below.block) below.test [])
        (λ distinct out.
        select_said distinct (projected prefix out forms unused items) (sources below.block) below.test
        ∙ ap₂ (λ l s. codes "SELECT " ++ (said (maybe_distinct distinct) ++ (l ++ s)))
        (projected_said prefix out forms unused items
        ∙ ap (λ unused. projected_text prefix out (map expr_said forms) unused items) (spare_map (items_use items) 0 forms)
        ∙ ap (λ texts. projected_text prefix out texts (spare (items_use items) 0 texts) items) (subs_said prefix subs))
        (form_says prefix input).block)
    form_says prefix (JoinOf kind left right condition _ subs) =
        let number = width_of left + 1 in
        let right_side = naming prefix (width_of left + 1) in
        let forms = sub_forms tables prefix subs in
        let on = tested_by prefix forms condition in
        let q = (framed tables prefix right).whole right_side in
        let chained = is_chained kind in
        let first = apart_unless prefix (width_of left) chained (framed tables prefix left) in
        let text = texts.apart_unless prefix (width_of left) chained (written tables prefix left) in
        let last = f.a_join (joined kind) (f.subquery q (source_name number)) on f.no_joins in
        let joins = beside_joined kind number ((written tables prefix right).whole right_side) ++ condition_text prefix (sub_texts tables prefix subs) condition in
        let count = length (kinds_of left ++ kinds_of right) in
        apart_says prefix count chained (texts.a_block prefix count (is_any (width_of right)) (text.from ++ joins))
        (a_block prefix count (is_any (width_of right)) (joined_to first.from last) f.no_condition)
        (joined_says prefix count (is_any (width_of right)) first.from last text.from joins
        (apart_says prefix (width_of left) chained (written tables prefix left) (framed tables prefix left) (form_says prefix left)).from
        (join_said kind number q on
        ∙ ap₂ (λ r c. beside_joined kind number r ++ c) ((form_says prefix right).whole right_side)
        (condition_is prefix forms (sub_texts tables prefix subs) condition (subs_said prefix subs))))
    form_says prefix (ApplyOf kind left right) =
        let number = width_of left + 1 in
        let right_side = naming prefix (width_of left + 1) in
        let q = (framed tables (deeper prefix) right).whole right_side in
        joined_says prefix (length (kinds_of left ++ kinds_of right)) (is_any (width_of right)) (framed tables prefix left).from
        (f.a_lateral (stays kind) q (source_name number) f.no_joins) (written tables prefix left).from
        (beside_lateral kind number ((written tables (deeper prefix) right).whole right_side))
        (form_says prefix left).from
        (lateral_said kind number q ∙ ap (beside_lateral kind number) ((form_says (deeper prefix) right).whole right_side))
    form_says prefix (UnionOf all left right) =
        whole_says prefix (width_of left) (written tables prefix (UnionOf all left right)).whole (framed tables prefix (UnionOf all left right)).whole
        (λ out. union_said all ((framed tables prefix left).core false out) ((framed tables prefix right).core false out)
        ∙ ap₂ (λ a b. a ++ (set_text (codes "UNION ") all ++ b)) ((form_says prefix left).core false out) ((form_says prefix right).core false out))
    form_says prefix (IntersectOf all left right) =
        whole_says prefix (width_of left) (written tables prefix (IntersectOf all left right)).whole (framed tables prefix (IntersectOf all left right)).whole
        (λ out. intersect_said all ((framed tables prefix left).core false out) ((framed tables prefix right).core false out)
        ∙ ap₂ (λ a b. a ++ (set_text (codes "INTERSECT ") all ++ b)) ((form_says prefix left).core false out) ((form_says prefix right).core false out))
    form_says prefix (ExceptOf all left right) =
        whole_says prefix (width_of left) (written tables prefix (ExceptOf all left right)).whole (framed tables prefix (ExceptOf all left right)).whole
        (λ out. except_said all ((framed tables prefix left).core false out) ((framed tables prefix right).core false out)
        ∙ ap₂ (λ a b. a ++ (set_text (codes "EXCEPT ") all ++ b)) ((form_says prefix left).core false out) ((form_says prefix right).core false out))
    form_says prefix (DistinctOf input) =
        whole_says prefix (width_of input) (written tables prefix (DistinctOf input)).whole (framed tables prefix (DistinctOf input)).whole
        (λ out. alone_said ((framed tables prefix input).core true out) ∙ (form_says prefix input).core true out)
    form_says prefix (AggregateOf input groups aggregates) =
        let below = framed tables prefix input in
        whole_says prefix (width_of (AggregateOf input groups aggregates)) (written tables prefix (AggregateOf input groups aggregates)).whole
        (framed tables prefix (AggregateOf input groups aggregates)).whole
        (λ out. in_groups_said prefix out groups aggregates below.block below.test ∙ ap (groups_text prefix out groups aggregates) (form_says prefix input).block)
    form_says prefix (LimitOf input keys count) =
        whole_says prefix (width_of input) (written tables prefix (LimitOf input keys count)).whole (framed tables prefix (LimitOf input keys count)).whole
        (λ out. ap₂ (λ a o. a ++ (o ++ (codes "LIMIT " ++ number_text count))) ((form_says prefix input).core false out) (order_said (all_keys (width_of input) keys)))
    form_says prefix (ProvOf input) =
        whole_says prefix (width_of (ProvOf input)) (written tables prefix input).whole (framed tables prefix input).whole (form_says prefix input).whole

    subs_said : (prefix : List ℕ) {m : _} (subs : Row_of-Sublink m) → map expr_said (sub_forms tables prefix subs) ≡ sub_texts tables prefix subs
    subs_said prefix end_of-Sublink = refl
    subs_said prefix (more_of-Sublink kind tested query subs) =
        ap₂ (λ text texts. text ∷ texts)
        (asked_said prefix kind tested ((framed tables (deeper prefix) query).whole (own (deeper prefix)))
        ∙ ap (asked_text prefix kind tested) ((form_says (deeper prefix) query).whole (own (deeper prefix))))
        (subs_said prefix subs)

  -- ---- answers

  answer_list : (names : List (List ℕ)) → list_said (called names) ≡ unread_text outermost (codes "1 ") (length names) ++ called_items 0 names
  answer_list [] = ap (λ word. unread_text outermost word 0 ++ []) one_said
  answer_list (name ∷ names) =
      let reference : List ℕ = reference_text outermost 0 1 in
      ap (λ rest. (reference ++ (codes "AS " ++ name_text name)) ++ rest) (called_said 1 names refl)

  answer_regroup : (u c s w o : List ℕ)
      → (codes "SELECT " ++ ((u ++ c) ++ (s ++ w))) ++ (o ++ []) ≡ codes "SELECT " ++ (u ++ (c ++ ((s ++ w) ++ o)))
  answer_regroup u c s w o =
      ap (λ o. (codes "SELECT " ++ ((u ++ c) ++ (s ++ w))) ++ o) (append-nil o)
      ∙ ap (λ t. codes "SELECT " ++ t) (append_assoc (u ++ c) (s ++ w) o ∙ append_assoc u c ((s ++ w) ++ o))

  pub answer_said : (q : Query) (names : List (List ℕ)) (keys : List Key) → query_said (shown_answer tables q names keys) ≡ answer_bytes tables q names keys
  answer_said q names keys =
      let below = framed tables outermost q in
      let unread = unread_text outermost (codes "1 ") (length names) in
      let origin = said (plan.sources (sources below.block)) in
      let test = said (plan.where_clause below.test) in
      ap (λ c. c ++ (said (ordered (map key_form keys)) ++ [])) (select_said false (called names) (sources below.block) below.test)
      ∙ ap₂ (λ l o. (codes "SELECT " ++ (l ++ (origin ++ test))) ++ (o ++ [])) (answer_list names) (order_said keys)
      ∙ answer_regroup unread (called_items 0 names) origin test (ordered_text keys)
      ∙ ap (λ b. codes "SELECT " ++ (unread ++ (called_items 0 names ++ (b ++ ordered_text keys))))
      (form_says outermost q).block
