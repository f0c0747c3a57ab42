-- A FROM with a WHERE as it is read, a SELECT over it, and what a query is read as in each of its forms.
use Rattle.std.proofs.Common.{◌≡◌, ℕ, suc, ◌+◌, Bool, false, true, cond, List, [], ◌∷◌, ◌++◌, length, map, Option, Some, None, option_map, refl, sym, ap, subst, ◌∙◌, arith}
use Rattle.std.proofs.lemmas.List.{length-append}
use Rattle.std.specs.Prelude.{slice_get}
use Rattle.perm_values.specs.declared.kind.Kind.{Kind}
use Rattle.perm_values.specs.declared.kind.Kind.TheVariants as kinds
use Rattle.bag_algebra.specs.Kinds.{item_kinds}
use Rattle.bag_algebra.specs.WellFormed.{HasKind, ItemsForm}
use Rattle.bag_algebra.specs.declared.expr.Expr.{Expr}
use Rattle.bag_algebra.specs.declared.expr.Item.{Item}
use Rattle.bag_algebra.specs.declared.query.JoinKind.{JoinKind}
use Rattle.bag_algebra.specs.declared.query.Query.{Query}
use Rattle.bag_algebra.specs.declared.query.Query.TheVariants.{Apply, Filter, Join, Project}
use Rattle.bag_algebra.specs.declared.query.Sublink.{Sublink}
use Rattle.perm_catalog.specs.Contents.{Contents}
use Rattle.sql_tree.specs.declared.expression.ExprTree.{ExprTree}
use Rattle.sql_tree.specs.declared.query.Core.{Core}
use Rattle.sql_tree.specs.declared.query.QueryTree.{QueryTree}
use Rattle.sql_tree.specs.declared.query.SelectItem.{SelectItem}
use Rattle.sql_tree.specs.declared.source.FromTree.{FromTree}
use Rattle.name_meaning.specs.Cores.{distinct_if, has_some}
use Rattle.name_meaning.specs.Froms.{from_all, in_clause, in_from}
use Rattle.name_meaning.specs.Items.{SelectPart}
use Rattle.name_meaning.specs.Meanings.{Around, Surroundings}
use Rattle.name_meaning.specs.Scopes.{ScopeItem, scope_of}
use Rattle.name_meaning.specs.Trees.{from_of, item_of, part_of, query_of}
use Rattle.name_meaning.specs.declared.scope.Scope.{Scope}
use Rattle.tree_texts.specs.Forms as f
use Rattle.tree_texts.specs.Forms.{ConditionForm, CoreForm, ExprForm, QueryForm}
use Rattle.tree_texts.specs.Trees.{AreItems, AreSources, IsCondition, IsCore, IsExpr, IsItem, IsQuery, condition_tree, no_condition_tree}
use Rattle.query_texts.specs.clauses.Names.{Naming, naming, own as own_naming}
use Rattle.query_texts.specs.clauses.Unused.{items_use, spare}
use Rattle.tree_texts.specs.expressions.Words.{is_any}
use Rattle.query_texts.specs.forms.ShownQueries as writing
use Rattle.query_texts.specs.forms.ShownQueries.{Chain, Framed, Listed, alone, copied, joined, joined_to, just, projected, selected, source_name, sources, stays, tested_by}
use Rattle.sql_printer.specs.rows.Printed as printing
use Rattle.sql_printer.specs.rows.Printed.{Readings, asked_by, columns_from, condition_subs, first_beside, idle, idle_in, lateral_kind, listed, or_unread, printed_condition, taken, unread_item, unread_of}
use Rattle.sql_printer.specs.rows.PrintedExpressions.{printed_expr}
use Rattle.sql_printer.specs.rows.Writable.{Writable, WritableItems}
use Rattle.sql_printer.proofs.rows.ShownRows.{shown_kinds}
use Rattle.sql_printer.specs.expressions.Scopes.{Few, IsPrintedScope, ScopesAre, marks}
use Rattle.sql_printer.proofs.cores.OpenedCores.{core_over_parts, opened-select}
use Rattle.sql_printer.proofs.expressions.PlainShown.{AllPlain}
use Rattle.sql_printer.proofs.cores.ReadChains.{ChainRead, Extended, chain-from, extended, join-extended, just-read, lateral-extended, one_more}
use Rattle.sql_printer.proofs.cores.ReadConditions.{SubsRead, beside_from, condition-first, condition-read}
use Rattle.sql_printer.proofs.cores.ReadCopies.{columns-listed}
use Rattle.sql_printer.proofs.cores.ReadCores.{Condition, FromRead, TestRead, WhereRead, core-read, tested}
use Rattle.sql_printer.specs.cores.Queries.{QueryRead}
use Rattle.sql_printer.proofs.cores.ReadFroms.{listed_names}
use Rattle.sql_printer.proofs.cores.ReadItems.{projected-read}
use Rattle.sql_printer.proofs.cores.ReadLaterals.{beside}
use Rattle.sql_printer.proofs.cores.ReadLists.{ListRead}
use Rattle.sql_printer.proofs.cores.ReadQueries.{CoreRead, alone-read}
use Rattle.sql_printer.proofs.expressions.ReadScopes.{finds}

-- ---- FROM and WHERE

-- a FROM with a WHERE, whose columns are these behind so many that nothing reads
pub record BlockRead (c : Contents) (depth : ℕ) (above : List Scope) (own : List Kind) (front : ℕ) (chain : Chain) (test : ConditionForm) (q : Query) : Type 0 where
  pub items : List ScopeItem
  pub scope : IsPrintedScope depth front own (scope_of items)
  pub base : Query
  pub from : (trees : List FromTree) → AreSources (sources chain) trees → FromRead (from_all above (map (from_of c) trees)) items base
  pub condition : Option Condition
  pub holds : (x : Option ExprTree) → IsCondition test x → WhereRead (in_clause (scope_of items) above false) (option_map (part_of c) x) condition
  pub is : tested condition base ≡ q

module _ (c : Contents) (depth : ℕ) (above : List Scope) where
  none-holds : (here : Surroundings) {x : Option ExprTree} → IsCondition f.no_condition x → WhereRead here (option_map (part_of c) x) None
  none-holds here no_condition_tree = tt

  -- without WHERE
  pub chain-block : (own : List Kind) (front : ℕ) (chain : Chain) (q : Query) → ChainRead c depth above own front chain q
      → BlockRead c depth above own front chain f.no_condition q
  chain-block own front chain q r = record {
    items = r.items;
    scope = r.ends.is;
    base = q;
    from = λ trees d. chain-from c depth above chain r.items q (λ item steps e es. (r.read item steps e es).from) d;
    condition = None;
    holds = λ x d. none-holds (in_clause (scope_of r.items) above false) d;
    is = refl;
  }

  pub extended-block : (left right : List Kind) (front : ℕ) (chain : Chain) (q : Query) → Extended c depth above left right front chain q
      → BlockRead c depth above (left ++ right) front chain f.no_condition q
  extended-block left right front chain q r = record {
    items = r.items;
    scope = r.scope;
    base = q;
    from = λ trees d. chain-from c depth above chain r.items q r.read d;
    condition = None;
    holds = λ x d. none-holds (in_clause (scope_of r.items) above false) d;
    is = refl;
  }

-- ---- conditions over its sources

module _ (c : Contents) (depth : ℕ) (above : List Scope) (outer : List (List Kind)) (unread : List ℕ) (own : List Kind) (front : ℕ) (items : List ScopeItem)
    (scope : IsPrintedScope (suc depth) front own (scope_of items)) (s : ScopesAre depth outer unread above) (forms : List ExprForm) (asked : List Sublink) (all : List Kind)
    (sublinks : (here : Surroundings) → here.scopes ≡ scope_of items ∷ above → here.argument ≡ false → here.sublinks ≡ true → SubsRead c here forms asked all)
    (condition : Expr) (h : HasKind (own ∷ outer) all condition kinds.Boolean) (w : Writable condition) where
  -- in WHERE and in ON
  pub clause-read : {x : ExprTree} → IsExpr (tested_by (marks (suc depth)) forms condition) x
      → TestRead ((part_of c x).means (in_clause (scope_of items) above false))
      (record { expr = printed_condition (front ∷ unread) asked condition; subs = condition_subs asked condition })
  clause-read d =
      let here = in_clause (scope_of items) above false in
      let found = finds (suc depth) (own ∷ outer) (front ∷ unread) (scope_of items ∷ above) (scope, s) in
      record {
        made = λ n. beside_from n kinds.Boolean (length (idle_in condition asked)) (printed_expr (front ∷ unread) (n + length (idle_in condition asked)) condition);
        read = condition-read c (marks (suc depth)) forms asked (own ∷ outer) all (front ∷ unread) here found (sublinks here refl refl refl) refl condition h w d;
        first = condition-first c (marks (suc depth)) forms asked (own ∷ outer) all (front ∷ unread) here found (sublinks here refl refl refl) refl condition;
      }

  where-holds : {x : Option ExprTree} → IsCondition (f.condition (tested_by (marks (suc depth)) forms condition)) x
      → WhereRead (in_clause (scope_of items) above false) (option_map (part_of c) x)
      (Some (record { expr = printed_condition (front ∷ unread) asked condition; subs = condition_subs asked condition }))
  where-holds (condition_tree d) = clause-read d

  pub filter-block : (chain : Chain) (q : Query) → ((trees : List FromTree) → AreSources (sources chain) trees → FromRead (from_all above (map (from_of c) trees)) items q)
      → BlockRead c (suc depth) above own front chain (f.condition (tested_by (marks (suc depth)) forms condition))
      (Filter q (printed_condition (front ∷ unread) asked condition) (condition_subs asked condition))
  filter-block chain q read = record {
    items = items;
    scope = scope;
    base = q;
    from = read;
    condition = Some (record { expr = printed_condition (front ∷ unread) asked condition; subs = condition_subs asked condition });
    holds = λ x d. where-holds d;
    is = refl;
  }

-- ---- a SELECT over it

-- a list that is read as these items
pub record Lists (has_from : Bool) (scope : Scope) (here : Surroundings) (parts : List SelectPart) (names : List (List ℕ)) (own : List Kind) (items : List Item) (subs : List Sublink) : Type 0 where
  pub made : ℕ → List Item
  pub read : ListRead has_from scope here parts names own made subs
  pub whole : made 0 ≡ items

module _ (c : Contents) (depth : ℕ) (around : Around) (own : List Kind) (front : ℕ) (chain : Chain) (test : ConditionForm) (q : Query)
    (block : BlockRead c depth around.outer own front chain test q) where
  abbrev pub here_in_list : Surroundings
  here_in_list = in_clause (scope_of block.items) around.outer true

  pub select-read : (distinct : Bool) (list : Listed) (names : List (List ℕ)) (given : List Kind) (items : List Item) (subs : List Sublink)
      → ((has_from : Bool) (item : SelectItem) (more : List SelectItem) → IsItem list.first list.name item → AreItems list.more more
      → Lists has_from (scope_of block.items) here_in_list (map (item_of c) (item ∷ more)) names given items subs)
      → (tree : Core) → IsCore (selected distinct list (sources chain) test []) tree → CoreRead c around names given (distinct_if distinct (Project q items subs)) tree
  select-read distinct list names given items subs read tree d =
      let o = opened-select c d in
      let p = o.core in
      let has = has_some (map (from_of c) p.sources) in
      let l = read has p.item p.items p.first p.rest in (
        p.unasked,
        subst (λ m. QueryRead m names given (distinct_if distinct (Project q items subs))) (sym (p.means around))
            (subst (λ made. QueryRead (core_over_parts c distinct (p.item ∷ p.items) p.sources o.tested around) names given (distinct_if distinct (Project q made subs))) l.whole
            (subst (λ input. QueryRead (core_over_parts c distinct (p.item ∷ p.items) p.sources o.tested around) names given (distinct_if distinct (Project input (l.made 0) subs))) block.is
            (core-read around (from_all around.outer (map (from_of c) p.sources)) has distinct (map (item_of c) (p.item ∷ p.items)) (option_map (part_of c) o.tested)
            block.items block.base (block.from p.sources p.from) block.condition names given l.made subs (block.holds o.tested o.condition_is) l.read))),
      )

module _ (c : Contents) (depth : ℕ) (outer : List (List Kind)) (unread : List ℕ) where
  -- all its columns
  pub copied-read : (around : Around) (own : List Kind) (front : ℕ) (chain : Chain) (test : ConditionForm) (q : Query)
      → BlockRead c (suc depth) around.outer own front chain test q → ScopesAre depth outer unread around.outer → (distinct : Bool) (out first : ℕ) (tree : Core)
      → IsCore (copied (marks (suc depth)) (length own) chain test distinct (naming (marks out) first)) tree
      → CoreRead c around (listed_names out first own) (shown_kinds own) (distinct_if distinct (listed own front q)) tree
  copied-read around own front chain test q block s distinct out first tree d =
      let items = or_unread unread_item (columns_from front own) in
      select-read c (suc depth) around own front chain test q block distinct (writing.listed (naming (marks out) first) writing.one (writing.columns (marks (suc depth)) (length own)))
      (listed_names out first own) (shown_kinds own) items []
      (λ has item more e es. record {
        made = λ n. items;
        read = columns-listed c has (scope_of block.items) (in_clause (scope_of block.items) around.outer true) (suc depth) own outer (front ∷ unread)
            (finds (suc depth) (own ∷ outer) (front ∷ unread) (scope_of block.items ∷ around.outer) (block.scope, s)) refl out first own
            (λ i kind same. let none : 0 + i ≡ i = omega arith in ap (slice_get own) none ∙ same) e es;
        whole = refl;
      }) tree d

  -- items over it
  pub projection-read : (around : Around) (own : List Kind) (front : ℕ) (chain : Chain) (test : ConditionForm) (q : Query)
      (block : BlockRead c (suc depth) around.outer own front chain test q) → ScopesAre depth outer unread around.outer
      → (forms : List ExprForm) (asked : List Sublink) (all : List Kind)
      → ((here : Surroundings) → here.scopes ≡ scope_of block.items ∷ around.outer → here.argument ≡ false → here.sublinks ≡ true → SubsRead c here forms asked all)
      → (items : List Item) → ItemsForm (own ∷ outer) all items → WritableItems items → AllPlain forms → AllPlain (spare (items_use items) 0 forms)
      → (distinct : Bool) (out first : ℕ) (tree : Core)
      → IsCore (selected distinct (projected (marks (suc depth)) (naming (marks out) first) forms (spare (items_use items) 0 forms) items) (sources chain) test []) tree
      → CoreRead c around (listed_names out first (item_kinds items)) (shown_kinds (item_kinds items)) (distinct_if distinct (printing.projected (front ∷ unread) asked items q)) tree
  projection-read around own front chain test q block s forms asked all sublinks items h w plain unused distinct out first tree d =
      let here = in_clause (scope_of block.items) around.outer true in
      let found = finds (suc depth) (own ∷ outer) (front ∷ unread) (scope_of block.items ∷ around.outer) (block.scope, s) in
      select-read c (suc depth) around own front chain test q block distinct (projected (marks (suc depth)) (naming (marks out) first) forms (spare (items_use items) 0 forms) items)
      (listed_names out first (item_kinds items)) (shown_kinds (item_kinds items)) (first_beside (front ∷ unread) (length (idle (items_use items) (length asked))) items)
      (taken asked (idle (items_use items) (length asked) ++ asked_by items))
      (λ has item more e es.
      let p = projected-read c (marks (suc depth)) forms asked (own ∷ outer) all (front ∷ unread) here found (sublinks here refl refl refl) refl plain has (scope_of block.items) items h w unused out first e es in
      record { made = p.made; read = p.read; whole = p.whole }) tree d

  -- ---- a query in each of its forms

  pub record FramedRead (own : List Kind) (form : Framed) (r : Readings) : Type 0 where
    pub whole : (around : Around) → ScopesAre depth outer unread around.outer → (out first : ℕ) (tree : QueryTree) → IsQuery (form.whole (naming (marks out) first)) tree
        → QueryRead ((query_of c tree).means around) (listed_names out first own) (shown_kinds own) r.whole
    pub core : Few own → (around : Around) → ScopesAre depth outer unread around.outer → (distinct : Bool) (out first : ℕ) (tree : Core)
        → IsCore (form.core distinct (naming (marks out) first)) tree → CoreRead c around (listed_names out first own) (shown_kinds own) (distinct_if distinct r.core) tree
    pub block : Few own → (above : List Scope) → ScopesAre depth outer unread above → BlockRead c (suc depth) above own r.before form.block form.test r.block
    pub from : Few own → (above : List Scope) → ScopesAre depth outer unread above → ChainRead c (suc depth) above own r.from_before form.from r.from

  -- a query by itself, in FROM
  over-read : (own : List Kind) (form : Naming → QueryForm) (q : Query)
      → ((around : Around) → ScopesAre depth outer unread around.outer → (out first : ℕ) (tree : QueryTree) → IsQuery (form (naming (marks out) first)) tree
      → QueryRead ((query_of c tree).means around) (listed_names out first own) (shown_kinds own) q)
      → Few own → (above : List Scope) → ScopesAre depth outer unread above
      → ChainRead c (suc depth) above own (unread_of own) (just (form (own_naming (marks (suc depth))))) q
  over-read own form q read few above s =
      just-read c (suc depth) above own few (form (own_naming (marks (suc depth)))) q (λ t d. read (in_from above) s (suc depth) 1 t d)

  pub whole-form : (own : List Kind) (form : Naming → QueryForm) (q : Query)
      → ((around : Around) → ScopesAre depth outer unread around.outer → (out first : ℕ) (tree : QueryTree) → IsQuery (form (naming (marks out) first)) tree
      → QueryRead ((query_of c tree).means around) (listed_names out first own) (shown_kinds own) q)
      → FramedRead own (writing.a_whole (marks (suc depth)) (length own) form) (printing.a_whole own q)
  whole-form own form q read =
      let chain = just (form (own_naming (marks (suc depth)))) in
      let from = over-read own form q read in
      record {
        whole = read;
        core = λ few around s distinct out first tree d.
            copied-read around own (unread_of own) chain f.no_condition q (chain-block c (suc depth) around.outer own (unread_of own) chain q (from few around.outer s)) s distinct out first tree d;
        block = λ few above s. chain-block c (suc depth) above own (unread_of own) chain q (from few above s);
        from = from;
      }

  pub apart-form : (own : List Kind) (chained : Bool) (form : Framed) (r : Readings) → FramedRead own form r
      → FramedRead own (writing.apart_unless (marks (suc depth)) (length own) chained form) (printing.apart_unless own chained r)
  apart-form own true form r read = read
  apart-form own false form r read = whole-form own form.whole r.whole read.whole

  -- a core alone
  single-read : (own : List Kind) (form : Bool → Naming → CoreForm) (q : Query)
      → ((around : Around) → ScopesAre depth outer unread around.outer → (distinct : Bool) (out first : ℕ) (tree : Core) → IsCore (form distinct (naming (marks out) first)) tree
      → CoreRead c around (listed_names out first own) (shown_kinds own) (distinct_if distinct q) tree)
      → (around : Around) → ScopesAre depth outer unread around.outer → (out first : ℕ) (tree : QueryTree) → IsQuery (alone (form false (naming (marks out) first))) tree
      → QueryRead ((query_of c tree).means around) (listed_names out first own) (shown_kinds own) q
  single-read own form q read around s out first tree d =
      alone-read c around (form false (naming (marks out) first)) (listed_names out first own) (shown_kinds own) q (λ core e. read around s false out first core e) tree d

  pub select-form : (own : List Kind) (form : Bool → Naming → CoreForm) (q : Query)
      → ((around : Around) → ScopesAre depth outer unread around.outer → (distinct : Bool) (out first : ℕ) (tree : Core) → IsCore (form distinct (naming (marks out) first)) tree
      → CoreRead c around (listed_names out first own) (shown_kinds own) (distinct_if distinct q) tree)
      → FramedRead own (writing.a_select (marks (suc depth)) form) (printing.a_select own q)
  select-form own form q read =
      let whole = single-read own form q read in
      let chain = just (alone (form false (own_naming (marks (suc depth))))) in
      let from = over-read own (λ out. alone (form false out)) q whole in
      record {
        whole = whole;
        core = λ few around s distinct out first tree d. read around s distinct out first tree d;
        block = λ few above s. chain-block c (suc depth) above own (unread_of own) chain q (from few above s);
        from = from;
      }

  pub block-form : (own : List Kind) (followed : Bool) (chain : Chain) (test : ConditionForm) (front : ℕ) (q : Query)
      → ((above : List Scope) → ScopesAre depth outer unread above → BlockRead c (suc depth) above own front chain test q)
      → (followed ≡ true → (above : List Scope) → ScopesAre depth outer unread above → ChainRead c (suc depth) above own front chain q)
      → FramedRead own (writing.a_block (marks (suc depth)) (length own) followed chain test) (printing.a_block own followed front q)
  block-form own followed chain test front q block follows =
      let form = copied (marks (suc depth)) (length own) chain test in
      let read : (around : Around) → ScopesAre depth outer unread around.outer → (distinct : Bool) (out first : ℕ) (tree : Core) → IsCore (form distinct (naming (marks out) first)) tree
      → CoreRead c around (listed_names out first own) (shown_kinds own) (distinct_if distinct (listed own front q)) tree =
      λ around s distinct out first tree d. copied-read around own front chain test q (block around.outer s) s distinct out first tree d in
      let whole = single-read own form (listed own front q) read in
      record {
        whole = whole;
        core = λ few around s distinct out first tree d. read around s distinct out first tree d;
        block = λ few above s. block above s;
        from = λ few above s. either followed above (λ e. follows e above s) (over-read own (λ out. alone (form false out)) (listed own front q) whole few above s);
      }
    where
      either : {other : Chain} (b : Bool) (above : List Scope) → (b ≡ true → ChainRead c (suc depth) above own front chain q)
          → ChainRead c (suc depth) above own (unread_of own) other (listed own front q)
          → ChainRead c (suc depth) above own (cond b front (unread_of own)) (cond b chain other) (cond b q (listed own front q))
      either true above first second = first refl
      either false above first second = second

  -- ---- joins

  few-left : (left right : List Kind) → Few (left ++ right) → Few left
  few-left left right bound = let wide = length-append left right in omega (arith, bound, wide)

  -- what sees these sources
  abbrev pub SubsOver : List Kind → ℕ → List ExprForm → List Sublink → List Kind → Type 0
  SubsOver own front forms asked all = (above : List Scope) → ScopesAre depth outer unread above → (items : List ScopeItem) → IsPrintedScope (suc depth) front own (scope_of items)
      → (here : Surroundings) → here.scopes ≡ scope_of items ∷ above → here.argument ≡ false → here.sublinks ≡ true → SubsRead c here forms asked all

  module _ (left right : List Kind) (bound : Few (left ++ right)) (lf : Framed) (lr : Readings) (first : FramedRead left lf lr) where
    pub join-form : (rf : Framed) (rr : Readings) → FramedRead right rf rr → (kind : JoinKind) (forms : List ExprForm) (asked : List Sublink) (all : List Kind)
        → SubsOver (left ++ right) lr.from_before forms asked all
        → (condition : Expr) → HasKind ((left ++ right) ∷ outer) all condition kinds.Boolean → Writable condition
        → FramedRead (left ++ right) (writing.a_block (marks (suc depth)) (length (left ++ right)) (is_any (length right))
        (joined_to lf.from (f.a_join (joined kind) (f.subquery (rf.whole (naming (marks (suc depth)) (length left + 1))) (source_name (length left + 1)))
        (tested_by (marks (suc depth)) forms condition) f.no_joins)) f.no_condition)
        (printing.a_block (left ++ right) (is_any (length right)) lr.from_before
        (Join kind lr.from rr.whole (printed_condition (lr.from_before ∷ unread) asked condition) (condition_subs asked condition)))
    join-form rf rr second kind forms asked all sublinks condition h w =
        let front = lr.from_before in
        let form = rf.whole (naming (marks (suc depth)) (length left + 1)) in
        let on = tested_by (marks (suc depth)) forms condition in
        let chain = joined_to lf.from (f.a_join (joined kind) (f.subquery form (source_name (length left + 1))) on f.no_joins) in
        let test : Condition = record { expr = printed_condition (front ∷ unread) asked condition; subs = condition_subs asked condition } in
        let q = Join kind lr.from rr.whole test.expr test.subs in
        let extended_by : (above : List Scope) → ScopesAre depth outer unread above → Extended c (suc depth) above left right front chain q =
        λ above s.
        let before = first.from (few-left left right bound) above s in
        let items = one_more (suc depth) before.items left right in
        let scope = extended (suc depth) front before.items left before.ends right bound in
        join-extended c (suc depth) above left right bound front lf.from lr.from before kind form on rr.whole test
        (λ t d. second.whole (in_from above) s (suc depth) (length left + 1) t d)
        (λ x d. clause-read c depth above outer unread (left ++ right) front items scope s forms asked all (λ here scopes outside standing. sublinks above s items scope here scopes outside standing)
        condition h w d) in
        block-form (left ++ right) (is_any (length right)) chain f.no_condition front q
        (λ above s. extended-block c (suc depth) above left right front chain q (extended_by above s)) (λ any above s. (extended_by above s).follows any)

    -- what a dependent join's right side sees
    pub apply-form : (rf : Framed) (rr : Readings)
        → ((around : Around) → ScopesAre (suc depth) (left ∷ outer) (lr.from_before ∷ unread) around.outer → (out first : ℕ) (tree : QueryTree) → IsQuery (rf.whole (naming (marks out) first)) tree
        → QueryRead ((query_of c tree).means around) (listed_names out first right) (shown_kinds right) rr.whole)
        → (kind : JoinKind)
        → FramedRead (left ++ right) (writing.a_block (marks (suc depth)) (length (left ++ right)) (is_any (length right))
        (joined_to lf.from (f.a_lateral (stays kind) (rf.whole (naming (marks (suc depth)) (length left + 1))) (source_name (length left + 1)) f.no_joins)) f.no_condition)
        (printing.a_block (left ++ right) (is_any (length right)) lr.from_before (Apply (lateral_kind kind) lr.from rr.whole))
    apply-form rf rr second kind =
        let front = lr.from_before in
        let form = rf.whole (naming (marks (suc depth)) (length left + 1)) in
        let chain = joined_to lf.from (f.a_lateral (stays kind) form (source_name (length left + 1)) f.no_joins) in
        let q = Apply (lateral_kind kind) lr.from rr.whole in
        let extended_by : (above : List Scope) → ScopesAre depth outer unread above → Extended c (suc depth) above left right front chain q =
        λ above s.
        let before = first.from (few-left left right bound) above s in
        lateral-extended c (suc depth) above left right bound front lf.from lr.from before kind form rr.whole
        (λ t d. second (beside before.items above) (before.ends.is, s) (suc depth) (length left + 1) t d) in
        block-form (left ++ right) (is_any (length right)) chain f.no_condition front q
        (λ above s. extended-block c (suc depth) above left right front chain q (extended_by above s)) (λ any above s. (extended_by above s).follows any)
