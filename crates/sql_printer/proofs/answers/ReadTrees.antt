-- The tree of a query's form is read as what is printed of the query: each node over its inputs and sublinks.
use Rattle.std.proofs.Common.{◌≡◌, ℕ, zero, suc, ◌+◌, Bool, true, false, cond, List, [], ◌∷◌, ◌++◌, length, map, Some, None, refl, sym, ap, subst, arith, true≢false}
use Rattle.std.proofs.lemmas.Option.{none-some}
use Rattle.perm_values.specs.Rows.{KeysWithin}
use Rattle.perm_values.specs.declared.key.Key.{Key}
use Rattle.perm_values.specs.declared.kind.Kind.{Kind}
use Rattle.bag_algebra.specs.Kinds.{kinds_in, kinds_of, item_kinds}
use Rattle.bag_algebra.specs.TablesRead.{EachSubTable, EachTable}
use Rattle.bag_algebra.specs.WellFormed.{SubsForm, WellFormed, column_kind, sub_kinds}
use Rattle.bag_algebra.specs.built.Patterns.{BaseOf, FilterOf, ProjectOf, JoinOf, ApplyOf, UnionOf, IntersectOf, ExceptOf, DistinctOf, AggregateOf, LimitOf, ProvOf}
use Rattle.bag_algebra.specs.declared.query.Aggr.{Aggr}
use Rattle.bag_algebra.specs.declared.query.Query.{Query, Row_of-Sublink, more_of-Sublink, end_of-Sublink}
use Rattle.bag_algebra.specs.declared.query.Query.TheVariants.{Distinct, Except, Filter, Intersect, Join, Limit, Single, Table, Union}
use Rattle.perm_catalog.specs.Contents.{Contents}
use Rattle.sql_tree.specs.declared.query.Core.{Core}
use Rattle.sql_tree.specs.declared.source.FromTree.{FromTree}
use Rattle.name_meaning.specs.Cores.{distinct_if, has_some}
use Rattle.name_meaning.specs.Froms.{from_all, in_clause}
use Rattle.name_meaning.specs.Meanings.{Around, Surroundings}
use Rattle.name_meaning.specs.Queries.{may_not_ask}
use Rattle.name_meaning.specs.Scopes.{scope_of}
use Rattle.name_meaning.specs.Sublinks.{around_of}
use Rattle.name_meaning.specs.Trees.{from_of, item_of}
use Rattle.tree_texts.specs.Forms as f
use Rattle.tree_texts.specs.Forms.{ExprForm}
use Rattle.tree_texts.specs.Trees.{AreSources, IsCore, no_source_trees}
use Rattle.query_texts.specs.clauses.Chains.{is_chained}
use Rattle.query_texts.specs.clauses.Keys.{all_keys}
use Rattle.query_texts.specs.clauses.Names.{deeper, names_of, naming, own as own_naming}
use Rattle.query_texts.specs.clauses.Unused.{items_use, spare}
use Rattle.query_texts.specs.declared.clauses.tables.TableNames.{TableNames}
use Rattle.tree_texts.specs.expressions.Words.{is_any}
use Rattle.query_texts.specs.forms.ShownQueries as writing
use Rattle.query_texts.specs.forms.ShownQueries.{Framed, framed, joined, joined_to, listed, of_table, one, projected, selected, shown, source_name, sources, sub_forms, tested_by, tested_part}
use Rattle.sql_printer.specs.rows.Printed as printing
use Rattle.sql_printer.specs.rows.Printed.{Readings, condition_subs, printed, printed_condition, printed_subs, readings}
use Rattle.sql_printer.specs.rows.Writable.{WritableQuery, WritableSubs}
use Rattle.sql_printer.proofs.rows.KeyColumns.{all_keys-within}
use Rattle.sql_printer.proofs.rows.ShownRows.{shown_kinds}
use Rattle.sql_printer.specs.expressions.Scopes.{Few, ScopesAre, marks}
use Rattle.sql_printer.specs.answers.ReadAs.{IsNamed, Narrow, NarrowSubs, source_in}
use Rattle.sql_printer.proofs.cores.OpenedCores.{opened-plain}
use Rattle.sql_printer.proofs.expressions.PlainShown.{AllPlain, plain-asked, plain-tested}
use Rattle.sql_printer.proofs.expressions.PlainTrees.{Plain}
use Rattle.sql_printer.specs.cores.Queries.{QueryRead, numbered_names, out_columns}
use Rattle.sql_printer.proofs.cores.ReadBlocks.{FramedRead, apart-form, apply-form, block-form, filter-block, join-form, projection-read, select-form, whole-form}
use Rattle.sql_printer.proofs.cores.ReadChains.{chain-from}
use Rattle.sql_printer.proofs.cores.ReadConditions.{SubsRead}
use Rattle.sql_printer.proofs.cores.ReadCopies.{columns-listed}
use Rattle.sql_printer.proofs.cores.ReadCores.{FromRead, core-read}
use Rattle.sql_printer.proofs.cores.ReadFroms.{listed_names}
use Rattle.sql_printer.proofs.groups.ReadGroups.{in_groups-read}
use Rattle.sql_printer.proofs.cores.ReadQueries.{CoreRead, alone-read, one-read}
use Rattle.sql_printer.proofs.expressions.ReadScopes.{finds}
use Rattle.sql_printer.proofs.cores.ReadSets.{intersected-read, united-read}
use Rattle.sql_printer.proofs.cores.ReadSublinkForms.{sublink-read}
use Rattle.sql_printer.proofs.answers.ReadTableCores.{table-read}

-- ---- forms without aggregates

plain-spare : (used : ℕ → Bool) (start : ℕ) (forms : List ExprForm) → AllPlain forms → AllPlain (spare used start forms)
plain-spare used start [] p = tt
plain-spare used start (a ∷ forms) p = either (used start) a (spare used (start + 1) forms) p.0 (plain-spare used (start + 1) forms p.1)
  where
    either : (b : Bool) (a : ExprForm) (more : List ExprForm) → Plain a → AllPlain more → AllPlain (cond b more (a ∷ more))
    either true a more p q = q
    either false a more p q = (p, q)

plain-sub_forms : (tables : List TableNames) (prefix : List ℕ) {m : _} (subs : Row_of-Sublink m) → AllPlain (sub_forms tables prefix subs)
plain-sub_forms tables prefix end_of-Sublink = tt
plain-sub_forms tables prefix (more_of-Sublink kind tested query subs) =
    (plain-asked kind (tested_part prefix tested) (shown tables (deeper prefix) (own_naming (deeper prefix)) query) (plain-tested prefix tested), plain-sub_forms tables prefix subs)

-- ---- one core

-- no FROM
single-read : (c : Contents) (around : Around) (distinct : Bool) (out first : ℕ) (tree : Core)
    → IsCore (selected distinct (listed (naming (marks out) first) one []) f.no_from f.no_condition []) tree
    → CoreRead c around (listed_names out first []) (shown_kinds []) (distinct_if distinct (printing.listed [] 0 Single)) tree
single-read c around distinct out first tree d =
    let o = opened-plain c d in
    let has = has_some (map (from_of c) o.sources) in
    let scope = scope_of [] in
    let here = in_clause scope around.outer true in
    let list = columns-listed c has scope here 0 [] [] [] (λ level place kind e reference none named. absurd (no_columns level place kind e)) refl out first [] (λ i kind e. absurd (none-some kind e)) o.first o.rest in
    let from = nothing-read o.sources o.from in (
      o.unasked,
      subst (λ m. QueryRead m (listed_names out first []) (shown_kinds []) (distinct_if distinct (printing.listed [] 0 Single))) (sym (o.means around))
          (core-read around (from_all around.outer (map (from_of c) o.sources)) has distinct (map (item_of c) (o.item ∷ o.items)) None [] Single from None
          (listed_names out first []) (shown_kinds []) (λ n. printing.or_unread printing.unread_item (printing.columns_from 0 [])) [] tt list),
    )
  where
    no_columns : (level place : ℕ) (kind : Kind) → column_kind ([] ∷ []) level place ≡ Some kind → ⊥
    no_columns zero place kind e = none-some kind e
    no_columns (suc level) place kind e = none-some kind e

    nothing-read : (trees : List FromTree) → AreSources f.no_from trees → FromRead (from_all around.outer (map (from_of c) trees)) [] Single
    nothing-read [] no_source_trees = record { breaks = refl; items_are = refl; query_is = refl }
    nothing-read (first ∷ more) d = elim d [ ]

-- ---- the right side of a set operation

right-core : (c : Contents) (depth : ℕ) (outer : List (List Kind)) (unread : List ℕ) (around : Around) (left right : List Kind) → left ≡ right → Few left
    → ScopesAre depth outer unread around.outer → (form : Framed) (r : Readings) → FramedRead c depth outer unread right form r → (out first : ℕ) (tree : Core)
    → IsCore (form.core false (naming (marks out) first)) tree → CoreRead c around (listed_names out first left) (shown_kinds left) r.core tree
right-core c depth outer unread around left right same few s form r read out first tree d =
    subst (λ own. CoreRead c around (listed_names out first own) (shown_kinds own) r.core tree) (sym same) (read.core (subst Few same few) around s false out first tree d)

-- ---- keys, which are columns of what is given

length-columns : (names : List (List ℕ)) (kinds : List Kind) → length names ≡ length kinds → length (out_columns names kinds) ≡ length kinds
length-columns [] [] e = refl
length-columns [] (kind ∷ kinds) e = absurd (omega (arith, e))
length-columns (name ∷ names) [] e = absurd (omega (arith, e))
length-columns (name ∷ names) (kind ∷ kinds) e = ap suc (length-columns names kinds (omega (arith, e)))

length-numbered : (out first : ℕ) (kinds : List Kind) → length (numbered_names out first kinds) ≡ length kinds
length-numbered out first [] = refl
length-numbered out first (kind ∷ kinds) = ap suc (length-numbered out (suc first) kinds)

keys-within : (own : List Kind) (out first : ℕ) (keys : List Key) → KeysWithin (length own) keys
    → KeysWithin (length (out_columns (listed_names out first own) (shown_kinds own))) (all_keys (length own) keys)
keys-within [] out first [] h = λ k d within. absurd (omega (arith, within))
keys-within [] out first (key ∷ keys) h = let low = h 0 key (omega arith) in absurd (omega (arith, low))
keys-within (kind ∷ own) out first keys h =
    let count = length-columns (numbered_names out first (kind ∷ own)) (kind ∷ own) (length-numbered out first (kind ∷ own)) in
    subst (λ n. KeysWithin n (all_keys (length (kind ∷ own)) keys)) (sym count) (all_keys-within (length (kind ∷ own)) keys h)

-- ---- all nodes

module _ (c : Contents) (tables : List TableNames) where
  abbrev source : ℕ → List Kind → Query
  source = source_in c tables

  abbrev Reads : ℕ → List (List Kind) → List ℕ → Query → Type 0
  Reads depth outer unread q = FramedRead c depth outer unread (kinds_of q) (framed tables (marks (suc depth)) q) (readings source outer unread q)

  mutual
    pub query-read : (q : Query) (depth : ℕ) (outer : List (List Kind)) (unread : List ℕ) → WellFormed outer q → WritableQuery q → EachTable (IsNamed c tables) q → Narrow q
        → Reads depth outer unread q
    query-read (Table id kinds) depth outer unread form w named narrow =
        select-form c depth outer unread kinds (of_table (names_of tables id)) (printing.listed kinds 0 (source id kinds))
        (λ around s distinct out first tree d. table-read c tables id kinds named around distinct out first tree d)
    query-read Single depth outer unread form w named narrow =
        select-form c depth outer unread [] (λ distinct out. selected distinct (listed out one []) f.no_from f.no_condition []) (printing.listed [] 0 Single)
        (λ around s distinct out first tree d. single-read c around distinct out first tree d)
    query-read (BaseOf input places label) depth outer unread form w named narrow =
        whole-form c depth outer unread (kinds_of input) (framed tables (marks (suc depth)) input).whole (readings source outer unread input).whole
        (query-read input depth outer unread form.input w named narrow).whole
    query-read (FilterOf input condition shape subs) depth outer unread form w named narrow =
        let own = kinds_of input in
        let prefix = marks (suc depth) in
        let below = query-read input depth outer unread form.input w.0 named.0 narrow.1 in
        let r = readings source outer unread input in
        let front = r.from_before in
        let chain = (framed tables prefix input).from in
        let asked = printed_subs source (own ∷ outer) (front ∷ unread) subs in
        let forms = sub_forms tables prefix subs in
        block-form c depth outer unread own false chain (f.condition (tested_by prefix forms condition)) front
        (Filter r.from (printed_condition (front ∷ unread) asked condition) (condition_subs asked condition))
        (λ above s. let from = below.from narrow.0 above s in
        filter-block c depth above outer unread own front from.items from.ends.is s forms asked (sub_kinds subs)
        (λ here scopes outside standing. subs-read subs (suc depth) (own ∷ outer) (front ∷ unread) here
        (subst (ScopesAre (suc depth) (own ∷ outer) (front ∷ unread)) (sym scopes) (from.ends.is, s)) outside standing form.subs w.2 named.1 narrow.2)
        condition form.condition w.1 chain r.from (λ trees d. chain-from c (suc depth) above chain from.items r.from (λ item steps e es. (from.read item steps e es).from) d))
        (λ any. absurd (true≢false (sym any)))
    query-read (ProjectOf input items shape subs) depth outer unread form w named narrow =
        let own = kinds_of input in
        let prefix = marks (suc depth) in
        let below = query-read input depth outer unread form.input w.0 named.0 narrow.1 in
        let r = readings source outer unread input in
        let given = framed tables prefix input in
        let front = r.before in
        let asked = printed_subs source (own ∷ outer) (front ∷ unread) subs in
        let forms = sub_forms tables prefix subs in
        let plain = plain-sub_forms tables prefix subs in
        select-form c depth outer unread (item_kinds items)
        (λ distinct out. selected distinct (projected prefix out forms (spare (items_use items) 0 forms) items) (sources given.block) given.test [])
        (printing.projected (front ∷ unread) asked items r.block)
        (λ around s distinct out first tree d. let block = below.block narrow.0 around.outer s in
        projection-read c depth outer unread around own front given.block given.test r.block block s forms asked (sub_kinds subs)
        (λ here scopes outside standing. subs-read subs (suc depth) (own ∷ outer) (front ∷ unread) here
        (subst (ScopesAre (suc depth) (own ∷ outer) (front ∷ unread)) (sym scopes) (block.scope, s)) outside standing form.subs w.2 named.1 narrow.2)
        items form.items w.1 plain (plain-spare (items_use items) 0 forms plain) distinct out first tree d)
    query-read (JoinOf kind left right condition shape subs) depth outer unread form w named narrow =
        let lefts = kinds_of left in
        let rights = kinds_of right in
        let prefix = marks (suc depth) in
        let chained = is_chained kind in
        let lr = printing.apart_unless lefts chained (readings source outer unread left) in
        let rr = readings source outer unread right in
        let scopes = (lefts ++ rights) ∷ outer in
        let fronts = lr.from_before ∷ unread in
        let lf = writing.apart_unless prefix (length lefts) chained (framed tables prefix left) in
        let forms = sub_forms tables prefix subs in
        let asked = printed_subs source scopes fronts subs in
        let number = length lefts + 1 in
        let last = f.a_join (joined kind) (f.subquery ((framed tables prefix right).whole (naming prefix number)) (source_name number)) (tested_by prefix forms condition) f.no_joins in
        apart-form c depth outer unread (lefts ++ rights) chained
        (writing.a_block prefix (length (lefts ++ rights)) (is_any (length rights)) (joined_to lf.from last) f.no_condition)
        (printing.a_block (lefts ++ rights) (is_any (length rights)) lr.from_before
        (Join kind lr.from rr.whole (printed_condition fronts asked condition) (condition_subs asked condition)))
        (join-form c depth outer unread lefts rights narrow.0 lf lr
        (apart-form c depth outer unread lefts chained (framed tables prefix left) (readings source outer unread left)
        (query-read left depth outer unread form.left w.0 named.0 narrow.1))
        (framed tables prefix right) rr (query-read right depth outer unread form.right w.1 named.1 narrow.2)
        kind forms asked (sub_kinds subs)
        (λ above s items scope here same outside standing. subs-read subs (suc depth) scopes fronts here
        (subst (ScopesAre (suc depth) scopes fronts) (sym same) (scope, s)) outside standing form.subs w.3 named.2 narrow.3)
        condition form.condition w.2)
    query-read (ApplyOf kind left right) depth outer unread form w named narrow =
        let lefts = kinds_of left in
        let rights = kinds_of right in
        let prefix = marks (suc depth) in
        let lr = readings source outer unread left in
        apply-form c depth outer unread lefts rights narrow.0 (framed tables prefix left) lr (query-read left depth outer unread form.left w.0 named.0 narrow.1)
        (framed tables (deeper prefix) right) (readings source (lefts ∷ outer) (lr.from_before ∷ unread) right)
        (query-read right (suc depth) (lefts ∷ outer) (lr.from_before ∷ unread) form.right w.1 named.1 narrow.2).whole kind
    query-read (UnionOf all left right) depth outer unread form w named narrow =
        let r = query-read right depth outer unread form.right_side w.1 named.1 narrow.2 in
        let l = query-read left depth outer unread form.left_side w.0 named.0 narrow.1 in
        whole-form c depth outer unread (kinds_of left) (framed tables (marks (suc depth)) (UnionOf all left right)).whole
        (Union all (readings source outer unread left).core (readings source outer unread right).core)
        (λ around s out first tree d. united-read c around (listed_names out first (kinds_of left)) (shown_kinds (kinds_of left)) (readings source outer unread left).core
        (readings source outer unread right).core _ _ (λ core e. l.core narrow.0 around s false out first core e)
        (λ core e. right-core c depth outer unread (may_not_ask around) (kinds_of left) (kinds_of right) form.same_kinds narrow.0 s (framed tables (marks (suc depth)) right)
        (readings source outer unread right) r out first core e) f.union all d)
    query-read (IntersectOf all left right) depth outer unread form w named narrow =
        let r = query-read right depth outer unread form.right_side w.1 named.1 narrow.2 in
        let l = query-read left depth outer unread form.left_side w.0 named.0 narrow.1 in
        whole-form c depth outer unread (kinds_of left) (framed tables (marks (suc depth)) (IntersectOf all left right)).whole
        (Intersect all (readings source outer unread left).core (readings source outer unread right).core)
        (λ around s out first tree d. intersected-read c around (listed_names out first (kinds_of left)) (shown_kinds (kinds_of left)) (readings source outer unread left).core
        (readings source outer unread right).core _ _ (λ core e. l.core narrow.0 around s false out first core e)
        (λ core e. right-core c depth outer unread (may_not_ask around) (kinds_of left) (kinds_of right) form.same_kinds narrow.0 s (framed tables (marks (suc depth)) right)
        (readings source outer unread right) r out first core e) all d)
    query-read (ExceptOf all left right) depth outer unread form w named narrow =
        let r = query-read right depth outer unread form.right_side w.1 named.1 narrow.2 in
        let l = query-read left depth outer unread form.left_side w.0 named.0 narrow.1 in
        whole-form c depth outer unread (kinds_of left) (framed tables (marks (suc depth)) (ExceptOf all left right)).whole
        (Except all (readings source outer unread left).core (readings source outer unread right).core)
        (λ around s out first tree d. united-read c around (listed_names out first (kinds_of left)) (shown_kinds (kinds_of left)) (readings source outer unread left).core
        (readings source outer unread right).core _ _ (λ core e. l.core narrow.0 around s false out first core e)
        (λ core e. right-core c depth outer unread (may_not_ask around) (kinds_of left) (kinds_of right) form.same_kinds narrow.0 s (framed tables (marks (suc depth)) right)
        (readings source outer unread right) r out first core e) f.except all d)
    query-read (DistinctOf input) depth outer unread form w named narrow =
        let below = query-read input depth outer unread form w named narrow.1 in
        let r = readings source outer unread input in
        whole-form c depth outer unread (kinds_of input) (framed tables (marks (suc depth)) (DistinctOf input)).whole (Distinct r.core)
        (λ around s out first tree d. alone-read c around _ (listed_names out first (kinds_of input)) (shown_kinds (kinds_of input)) (Distinct r.core)
        (λ core e. below.core narrow.0 around s true out first core e) tree d)
    query-read (AggregateOf input groups aggregates) depth outer unread form w named narrow =
        let own = kinds_of input in
        let prefix = marks (suc depth) in
        let below = query-read input depth outer unread form.input w.0 named narrow.2 in
        let r = readings source outer unread input in
        let given = framed tables prefix input in
        let all = kinds_in own groups ++ map (λ (aggregate : Aggr). aggregate.kind) aggregates in
        whole-form c depth outer unread all (framed tables prefix (AggregateOf input groups aggregates)).whole
        (printing.in_groups (own ∷ outer) (r.before ∷ unread) r.before groups aggregates own r.block)
        (λ around s out first tree d. alone-read c around _ (listed_names out first all) (shown_kinds all)
        (printing.in_groups (own ∷ outer) (r.before ∷ unread) r.before groups aggregates own r.block)
        (λ core e. in_groups-read c depth outer unread around own r.before s given.block given.test r.block (below.block narrow.0 around.outer s)
        groups aggregates form.groups form.aggregates w.1 narrow.1 out first core e) tree d)
    query-read (LimitOf input keys count) depth outer unread form w named narrow =
        let own = kinds_of input in
        let below = query-read input depth outer unread form.input w named narrow.1 in
        let r = readings source outer unread input in
        whole-form c depth outer unread own (framed tables (marks (suc depth)) (LimitOf input keys count)).whole (Limit r.core (all_keys (length own) keys) count)
        (λ around s out first tree d.
        (one-read c (all_keys (length own) keys) (Some count) around (listed_names out first own) (shown_kinds own) r.core (keys-within own out first keys form.keys)
        d (λ core e. below.core narrow.0 around s false out first core e)).0)
    query-read (ProvOf input) depth outer unread form w named narrow = absurd w

    subs-read : {m : _} (subs : Row_of-Sublink m) (depth : ℕ) (scopes : List (List Kind)) (unread : List ℕ) (here : Surroundings) → ScopesAre depth scopes unread here.scopes
        → here.argument ≡ false → here.sublinks ≡ true → SubsForm scopes subs → WritableSubs subs → EachSubTable (IsNamed c tables) subs → NarrowSubs subs
        → SubsRead c here (sub_forms tables (marks depth) subs) (printed_subs source scopes unread subs) (sub_kinds subs)
    subs-read end_of-Sublink depth scopes unread here s outside standing form w named narrow = tt
    subs-read (more_of-Sublink kind tested query subs) depth scopes unread here s outside standing form w named narrow = (
      sublink-read c depth scopes unread here (finds depth scopes unread here.scopes s) outside standing (shown tables (marks (suc depth)) (own_naming (marks (suc depth))) query)
          (kinds_of query) (printed source scopes unread query)
          (λ t g. (query-read query depth scopes unread form.query w.1 named.0 narrow.0).whole (around_of here) s (suc depth) 1 t g) kind tested form.fitting w.0,
      subs-read subs depth scopes unread here s outside standing form.others w.2 named.1 narrow.1,
    )
