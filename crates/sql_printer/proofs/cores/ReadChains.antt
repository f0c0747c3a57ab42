-- A FROM that joins may follow, as it is read: its last columns are numbered from 1 on, and the names of its sources are apart.
use Rattle.std.proofs.Common.{◌≡◌, ℕ, suc, ◌+◌, ◌<◌, ◌^◌, true, false, cond, ◌||◌, List, [], ◌∷◌, ◌++◌, length, map, Some, None, refl, sym, ap, subst, ◌∙◌, true≢false, append-nil, append_assoc, arith}
use Rattle.std.proofs.lemmas.List.{length-append, map-append}
use Rattle.std.proofs.lemmas.List.Folds.{list_any-append}
use Rattle.std.specs.Fmt.{decimal}
use Rattle.std.specs.List.{list_any}
use Rattle.std.specs.Str.Parse.{digits_value}
use Rattle.std.proofs.lemmas.Fmt.{decimal_injective, decimal_is_IsNumeral}
use Rattle.perm_values.specs.declared.kind.Kind.{Kind}
use Rattle.perm_values.specs.declared.kind.Kind.TheVariants as kinds
use Rattle.bag_algebra.specs.declared.query.JoinKind.{JoinKind}
use Rattle.bag_algebra.specs.declared.query.Query.{Query}
use Rattle.bag_algebra.specs.declared.query.Query.TheVariants.{Apply, Join}
use Rattle.perm_catalog.specs.Contents.{Contents}
use Rattle.sql_tree.specs.declared.expression.ExprTree.{ExprTree}
use Rattle.sql_tree.specs.declared.query.QueryTree.{QueryTree}
use Rattle.sql_tree.specs.declared.source.FromItem.{FromItem}
use Rattle.sql_tree.specs.declared.source.FromTree.{FromTree, roll-FromTree}
use Rattle.sql_tree.specs.declared.source.JoinStep.{JoinStep}
use Rattle.sql_tree.specs.declared.source.ScopeMark.TheVariants.{Plain}
use Rattle.name_meaning.proofs.Equations.{fromtree-record, token}
use Rattle.name_meaning.proofs.Joins.{joins-so-far, columns_from-append}
use Rattle.name_meaning.specs.Froms.{FromMeant, FromPart, ItemMeant, applied, beside_items, both_known, first_item, from_all, in_from, in_on, item_meant, join_all, join_item, joined as joined_by, joined_item, named_so, on_meant, read_query, scope_items, named_columns}
use Rattle.name_meaning.specs.Meanings.{QueryMeant, broken_if}
use Rattle.name_meaning.specs.Scopes.{ScopeItem, numbered_columns, scope_of}
use Rattle.name_meaning.specs.Trees.{from_item_of, from_of, join_of, part_of, query_of}
use Rattle.name_meaning.specs.declared.rule.Rule.TheVariants as rule
use Rattle.name_meaning.specs.declared.scope.Scope.{Scope}
use Rattle.name_meaning.specs.declared.scope.ScopeColumn.{ScopeColumn}
use Rattle.tree_texts.specs.Forms as f
use Rattle.tree_texts.specs.Forms.{ExprForm, JoinForms, QueryForm}
use Rattle.tree_texts.specs.Trees as tree
use Rattle.tree_texts.specs.Trees.{AreJoins, AreSources, IsExpr, IsQuery, IsSource, a_join_tree, a_lateral_tree, no_join_trees, source_trees, subquery_tree}
use Rattle.query_texts.specs.clauses.Names.{source_prefix}
use Rattle.tree_texts.specs.expressions.Words.{is_any}
use Rattle.query_texts.specs.forms.ShownQueries.{Chain, joined, joined_to, just, source_name, sources, stays, then_joins}
use Rattle.sql_printer.specs.rows.Printed.{lateral_kind, unread_of}
use Rattle.sql_printer.proofs.rows.ShownRows.{shown_kinds}
use Rattle.sql_printer.proofs.cores.ReadCores.{Condition, FromRead, TestRead}
use Rattle.sql_printer.specs.cores.Queries.{QueryRead, numbered_names}
use Rattle.sql_printer.proofs.cores.ReadFroms.{item-is, item_of_query, listed_names, numbered-columns, query_item-read}
use Rattle.sql_printer.proofs.cores.ReadJoins.{join-known, numbered-append, step-on, words-plain}
use Rattle.sql_printer.proofs.cores.ReadLaterals.{beside, step-lateral, words-kind, words-lateral}
use Rattle.sql_printer.specs.expressions.Scopes.{IsPrintedScope, Numbered, marks}
use Rattle.sql_printer.proofs.expressions.ReadScopes.{differ, tail-same}

-- ---- names of sources

-- that of a number isn't the first one's
first-apart : (number : ℕ) → 0 < number → number < 2 ^ 64 → named_so (source_name number) source_prefix ≡ false
first-apart number low small = differ (source_name number) source_prefix (λ e.
    let none : decimal number ≡ [] = tail-same 116 (decimal number) [] e in
    let value : 0 ≡ number = ap (digits_value 10) (sym none) ∙ (decimal_is_IsNumeral number small).1 in
    omega (arith, low, value))

-- nor that of another number
others-apart : (number other : ℕ) → other < number → number < 2 ^ 64 → named_so (source_name number) (source_name other) ≡ false
others-apart number other low small = differ (source_name number) (source_name other) (λ e.
    let same = decimal_injective number other small (omega (arith, low, small)) (tail-same 116 (decimal number) (decimal other) e) in
    omega (arith, low, same))

-- ---- scopes whose last columns are numbered

pub record Ending (depth front : ℕ) (kinds : List Kind) (scope : Scope) : Type 0 where
  pub is : IsPrintedScope depth front kinds scope
  pub none_behind : is.back ≡ []

-- over one query
pub one-ends : (depth : ℕ) (name : List ℕ) (all : List Kind) → 1 + length all < 2 ^ 64
    → Ending depth (unread_of all) all (scope_of (item_of_query name (listed_names depth 1 all) (shown_kinds all) ∷ []))
one-ends depth name [] bound = record {
  is = record {
    unread = record { item = 0; name = marks depth ++ decimal 0; kind = kinds.Integer } ∷ [];
    own = [];
    back = [];
    columns = refl;
    before = (refl, tt);
    count = refl;
    numbered = tt;
    behind = tt;
    ungrouped = refl;
    bound = bound;
  };
  none_behind = refl;
}
one-ends depth name (kind ∷ more) bound = record {
  is = record {
    unread = [];
    own = numbered_columns 0 (named_columns (numbered_names depth 1 (kind ∷ more)) (kind ∷ more));
    back = [];
    columns = refl;
    before = tt;
    count = refl;
    numbered = numbered-columns depth 1 0 (kind ∷ more);
    behind = tt;
    ungrouped = refl;
    bound = bound;
  };
  none_behind = refl;
}

-- behind such a scope stand the columns of one more query
abbrev pub one_more : ℕ → List ScopeItem → List Kind → List Kind → List ScopeItem
one_more depth items left right =
    items ++ item_of_query (source_name (length left + 1)) (listed_names depth (length left + 1) right) (shown_kinds right) ∷ []

module _ (depth front : ℕ) (items : List ScopeItem) (left : List Kind) (s : Ending depth front left (scope_of items)) where
  last-columns : (ys : List ScopeColumn) → (scope_of items).columns ++ ys ≡ s.is.unread ++ (s.is.own ++ ys)
  last-columns ys =
      ap (λ cs. cs ++ ys) s.is.columns ∙ ap (λ back. (s.is.unread ++ (s.is.own ++ back)) ++ ys) s.none_behind
      ∙ ap (λ own. (s.is.unread ++ own) ++ ys) (append-nil s.is.own) ∙ append_assoc s.is.unread s.is.own ys

  pub extended : (right : List Kind) → 1 + length (left ++ right) < 2 ^ 64 → IsPrintedScope depth front (left ++ right) (scope_of (one_more depth items left right))
  extended [] bound = record {
    unread = s.is.unread;
    own = s.is.own;
    back = record { item = 0 + length items; name = marks depth ++ decimal 0; kind = kinds.Integer } ∷ [];
    columns = columns_from-append 0 items (item_of_query (source_name (length left + 1)) (listed_names depth (length left + 1) []) (shown_kinds []) ∷ [])
        ∙ last-columns (record { item = 0 + length items; name = marks depth ++ decimal 0; kind = kinds.Integer } ∷ []);
    before = s.is.before;
    count = s.is.count;
    numbered = subst (λ all. Numbered depth 1 all s.is.own) (sym (append-nil left)) s.is.numbered;
    behind = (refl, tt);
    ungrouped = refl;
    bound = bound;
  }
  extended (kind ∷ right) bound =
      let number = length left + 1 in
      let turned : number ≡ 1 + length left = omega arith in
      let ys = numbered_columns (0 + length items) (named_columns (numbered_names depth number (kind ∷ right)) (kind ∷ right)) in
      record {
        unread = s.is.unread;
        own = s.is.own ++ ys;
        back = [];
        columns = columns_from-append 0 items (item_of_query (source_name number) (listed_names depth number (kind ∷ right)) (shown_kinds (kind ∷ right)) ∷ [])
            ∙ ap (λ more. (scope_of items).columns ++ more) (append-nil ys) ∙ last-columns ys ∙ ap (λ own. s.is.unread ++ own) (sym (append-nil (s.is.own ++ ys)));
        before = s.is.before;
        count = s.is.count;
        numbered = numbered-append depth 1 left (kind ∷ right) s.is.own ys s.is.numbered
            (subst (λ n. Numbered depth n (kind ∷ right) ys) turned (numbered-columns depth number (0 + length items) (kind ∷ right)));
        behind = tt;
        ungrouped = refl;
        bound = bound;
      }

  pub extended-ends : (right : List Kind) → 1 + length (left ++ right) < 2 ^ 64 → is_any (length right) ≡ true
      → Ending depth front (left ++ right) (scope_of (one_more depth items left right))
  unfolding extended
  extended-ends [] bound any = absurd (true≢false (sym any))
  extended-ends (kind ∷ right) bound any = record { is = extended (kind ∷ right) bound; none_behind = refl }

-- ---- the trees of joins

record Split (more last : JoinForms) (steps : List JoinStep) : Type 0 where
  front : List JoinStep
  back : List JoinStep
  is : steps ≡ front ++ back
  first : AreJoins more front
  second : AreJoins last back

split : (more last : JoinForms) {steps : List JoinStep} → AreJoins (then_joins more last) steps → Split more last steps
split f.no_joins last {steps = steps} d = record { front = []; back = steps; is = refl; first = no_join_trees; second = d }
split (f.a_join kind right on more) last (a_join_tree {step = step} source d is ds) =
    let rest = split more last ds in
    record {
      front = step ∷ rest.front;
      back = rest.back;
      is = ap (λ steps. step ∷ steps) rest.is;
      first = a_join_tree source d is rest.first;
      second = rest.second;
    }
split (f.a_lateral stays q name more) last (a_lateral_tree {step = step} item is d source named called mark ds) =
    let rest = split more last ds in
    record {
      front = step ∷ rest.front;
      back = rest.back;
      is = ap (λ steps. step ∷ steps) rest.is;
      first = a_lateral_tree item is d source named called mark rest.first;
      second = rest.second;
    }

module _ (c : Contents) (depth : ℕ) (above : List Scope) where
  -- what a tree of FROM means
  abbrev pub chain_meant : FromItem → List JoinStep → FromMeant
  chain_meant item steps = join_all above (first_item [] ((from_item_of c item).means (in_from above) [])) (map (join_of c) steps)

  from-meant : (item : FromItem) (steps : List JoinStep)
      → from_all above (map (from_of c) (roll-FromTree (record { first = item; joins = steps }) ∷ [])) ≡ chain_meant item steps
  unfolding token
  from-meant item steps = ap (λ (part : FromPart). part.means above []) (fromtree-record c item steps)

  abbrev step_meant : FromMeant → JoinStep → FromMeant
  step_meant m step = join_item above m (join_of c step) (joined_item above m (join_of c step))

  one-more-meant : (item : FromItem) (steps : List JoinStep) (step : JoinStep) → chain_meant item (steps ++ step ∷ []) ≡ step_meant (chain_meant item steps) step
  one-more-meant item steps step =
      let start = first_item [] ((from_item_of c item).means (in_from above) []) in
      ap (join_all above start) (map-append (join_of c) steps (step ∷ [])) ∙ joins-so-far above start (map (join_of c) steps) (join_of c step ∷ [])

  -- it is read as a query with these items, whose names are those of lower numbers
  pub record Joinable (own : List Kind) (items : List ScopeItem) (q : Query) (m : FromMeant) : Type 0 where
    pub from : FromRead m items q
    pub fresh : (number : ℕ) → length own < number → number < 2 ^ 64 → list_any (named_so (source_name number)) m.names ≡ false

  -- sources whose columns are these, behind so many that nothing reads
  pub record ChainRead (own : List Kind) (front : ℕ) (chain : Chain) (q : Query) : Type 0 where
    pub items : List ScopeItem
    pub ends : Ending depth front own (scope_of items)
    pub read : (item : FromItem) (steps : List JoinStep) → IsSource chain.first item → AreJoins chain.more steps → Joinable own items q (chain_meant item steps)

  pub chain-from : (chain : Chain) (items : List ScopeItem) (q : Query)
      → ((item : FromItem) (steps : List JoinStep) → IsSource chain.first item → AreJoins chain.more steps → FromRead (chain_meant item steps) items q)
      → {trees : List FromTree} → AreSources (sources chain) trees → FromRead (from_all above (map (from_of c) trees)) items q
  chain-from chain items q read (source_trees {item = item} {steps = steps} d ds is) =
      subst (λ t. FromRead (from_all above (map (from_of c) (t ∷ []))) items q) (sym is)
      (subst (λ m. FromRead m items q) (sym (from-meant item steps)) (read item steps d ds))

  -- ---- one subquery

  pub just-read : (own : List Kind) → 1 + length own < 2 ^ 64 → (form : QueryForm) (q : Query)
      → ((tree : QueryTree) → IsQuery form tree → QueryRead ((query_of c tree).means (in_from above)) (listed_names depth 1 own) (shown_kinds own) q)
      → ChainRead own (unread_of own) (just form) q
  just-read own bound form q input =
      let items = item_of_query source_prefix (listed_names depth 1 own) (shown_kinds own) ∷ [] in
      record { items = items; ends = one-ends depth source_prefix own bound; read = λ item steps d ds. first d ds }
    where
      first : {item : FromItem} {steps : List JoinStep} → IsSource (just form).first item → AreJoins (just form).more steps
          → Joinable own (item_of_query source_prefix (listed_names depth 1 own) (shown_kinds own) ∷ []) q (chain_meant item steps)
      first {item = item} (subquery_tree {tree = t} {alias = alias} d source named called mark) no_join_trees =
          let m = (query_of c t).means (in_from above) in
          let items = item_of_query source_prefix (listed_names depth 1 own) (shown_kinds own) ∷ [] in
          let is : first_item [] ((from_item_of c item).means (in_from above) []) ≡ first_item [] (item_meant item.at Plain [] source_prefix source_prefix (read_query m)) =
          ap (first_item []) (item-is c above (in_from above) [] item t alias source named mark ∙ (λ i. item_meant item.at Plain [] (called i) (called i) (read_query m))) in
          subst (Joinable own items q) (sym is) (record {
            from = query_item-read item.at source_prefix source_prefix m (listed_names depth 1 own) (shown_kinds own) q (input t d);
            fresh = λ number low small. ap (λ b. b || false) (first-apart number (omega (arith, low)) small);
          })

  -- ---- one more source

  -- an item that is joined, whose query is read
  module _ (names : List (List ℕ)) (left right : List Kind) (at : ℕ) (m : QueryMeant) (r : Query)
      (second : QueryRead m (listed_names depth (length left + 1) right) (shown_kinds right) r) where
    abbrev last_item : ItemMeant
    last_item = item_meant at Plain names (source_name (length left + 1)) (source_name (length left + 1)) (read_query m)

    last-breaks : list_any (named_so (source_name (length left + 1))) names ≡ false → last_item.breaks ≡ []
    last-breaks fresh = λ i. second.breaks i ++ broken_if (fresh i) rule.RepeatedItem at ++ []

    last-items : scope_items last_item
        ≡ Some (item_of_query (source_name (length left + 1)) (listed_names depth (length left + 1) right) (shown_kinds right) ∷ [])
    last-items = (query_item-read at (source_name (length left + 1)) (source_name (length left + 1)) m (listed_names depth (length left + 1) right) (shown_kinds right) r second).items_are

    last-query : last_item.query ≡ r
    last-query = (query_item-read at (source_name (length left + 1)) (source_name (length left + 1)) m (listed_names depth (length left + 1) right) (shown_kinds right) r second).query_is

  -- names that are apart from later ones
  fresh-more : (left right : List Kind) → is_any (length right) ≡ true → (names : List (List ℕ))
      → ((number : ℕ) → length left < number → number < 2 ^ 64 → list_any (named_so (source_name number)) names ≡ false)
      → (number : ℕ) → length (left ++ right) < number → number < 2 ^ 64
      → list_any (named_so (source_name number)) (names ++ source_name (length left + 1) ∷ []) ≡ false
  fresh-more left [] any names fresh number low small = absurd (true≢false (sym any))
  fresh-more left (kind ∷ right) any names fresh number low small =
      let wide : length (left ++ kind ∷ right) ≡ length left + suc (length right) = length-append left (kind ∷ right) in
      let first = fresh number (omega (arith, low, wide)) small in
      let second = others-apart number (length left + 1) (omega (arith, low, wide)) small in
      list_any-append (named_so (source_name number)) names (source_name (length left + 1) ∷ []) ∙ (λ i. first i || (second i || false))

  -- what such a FROM and one more source are read as; others follow where that has columns
  pub record Extended (left right : List Kind) (front : ℕ) (chain : Chain) (q : Query) : Type 0 where
    pub items : List ScopeItem
    pub scope : IsPrintedScope depth front (left ++ right) (scope_of items)
    pub read : (item : FromItem) (steps : List JoinStep) → IsSource chain.first item → AreJoins chain.more steps → FromRead (chain_meant item steps) items q
    pub follows : is_any (length right) ≡ true → ChainRead (left ++ right) front chain q

  module _ (left right : List Kind) (bound : 1 + length (left ++ right) < 2 ^ 64) (front : ℕ) (chain : Chain) (l : Query) (before : ChainRead left front chain l) where
    abbrev number : ℕ
    number = length left + 1

    abbrev both_items : List ScopeItem
    both_items = one_more depth before.items left right

    number-small : number < 2 ^ 64
    number-small = let wide = length-append left right in omega (arith, bound, wide)

    -- from how one more step is read
    extend : (last : JoinForms) (q : Query)
        → ((steps : List JoinStep) → AreJoins last steps → (step : JoinStep) × (steps ≡ step ∷ [])
        × ((m : FromMeant) → Joinable left before.items l m → FromRead (step_meant m step) both_items q × ((step_meant m step).names ≡ m.names ++ source_name number ∷ [])))
        → Extended left right front (joined_to chain last) q
    extend last q one = record {
      items = both_items;
      scope = extended depth front before.items left before.ends right bound;
      read = λ item steps d ds. (whole d ds).0;
      follows = λ any. record {
        items = both_items;
        ends = extended-ends depth front before.items left before.ends right bound any;
        read = λ item steps d ds. record {
          from = (whole d ds).0;
          fresh = λ n low small. (whole d ds).1 any n low small;
        };
      };
    }
      where
        whole : {item : FromItem} {steps : List JoinStep} → IsSource chain.first item → AreJoins (then_joins chain.more last) steps
            → FromRead (chain_meant item steps) both_items q
            × (is_any (length right) ≡ true → (n : ℕ) → length (left ++ right) < n → n < 2 ^ 64 → list_any (named_so (source_name n)) (chain_meant item steps).names ≡ false)
        whole {item = item} {steps = steps} d ds =
            let parts = split chain.more last ds in
            let inner = before.read item parts.front d parts.first in
            let step = one parts.back parts.second in
            let m = chain_meant item parts.front in
            let result = step.2 m inner in
            let is : chain_meant item steps ≡ step_meant m step.0 =
            ap (chain_meant item) (parts.is ∙ ap (λ back. parts.front ++ back) step.1) ∙ one-more-meant item parts.front step.0 in (
              subst (λ meant. FromRead meant both_items q) (sym is) result.0,
              λ any n low small. ap (λ (meant : FromMeant). list_any (named_so (source_name n)) meant.names) is ∙ ap (list_any (named_so (source_name n))) result.1
                  ∙ fresh-more left right any m.names inner.fresh n low small,
            )

    -- a join on a condition
    pub join-extended : (kind : JoinKind) (second : QueryForm) (on : ExprForm) (r : Query) (test : Condition)
        → ((t : QueryTree) → IsQuery second t → QueryRead ((query_of c t).means (in_from above)) (listed_names depth number right) (shown_kinds right) r)
        → ((x : ExprTree) → IsExpr on x → TestRead ((part_of c x).means (in_on both_items above)) test)
        → Extended left right front (joined_to chain (f.a_join (joined kind) (f.subquery second (source_name number)) on f.no_joins)) (Join kind l r test.expr test.subs)
    join-extended kind second on r test input tested = extend (f.a_join (joined kind) (f.subquery second (source_name number)) on f.no_joins) (Join kind l r test.expr test.subs) (λ steps d. one d)
      where
        one : {steps : List JoinStep} → AreJoins (f.a_join (joined kind) (f.subquery second (source_name number)) on f.no_joins) steps → (step : JoinStep) × (steps ≡ step ∷ [])
            × ((m : FromMeant) → Joinable left before.items l m
            → FromRead (step_meant m step) both_items (Join kind l r test.expr test.subs) × ((step_meant m step).names ≡ m.names ++ source_name number ∷ []))
        one (a_join_tree {item = other} {x = x} {step = step} (subquery_tree {tree = b} {alias = name} e origin titled said plain) g is no_join_trees) = (
          step,
          refl,
          λ m inner.
              let word = tree.join_of (joined kind) in
              let m2 = (query_of c b).means (in_from above) in
              let S = last_item m.names left right other.at m2 r (input b e) in
              let second_is : (from_item_of c other).means (in_from above) m.names ≡ S =
              item-is c above (in_from above) m.names other b name origin titled plain ∙ (λ i. item_meant other.at Plain m.names (said i) (said i) (read_query m2)) in
              let known : both_known m.items (scope_items S) ≡ Some both_items = λ i. both_known (inner.from.items_are i) (last-items m.names left right other.at m2 r (input b e) i) in
              let result = joined_by m word (Some (part_of c x)) S (on_meant above (both_known m.items (scope_items S)) (Some (part_of c x))) in
              let meant : step_meant m step ≡ result =
              (λ i. let part = (ap (join_of c) is ∙ step-on c above word other x) i in join_item above m part (joined_item above m part))
              ∙ (λ i. let o = (from_item_of c other).means (cond (words-plain kind i) (beside_items m.items above) (in_from above)) m.names in
              cond (words-plain kind i) (applied m word o) (joined_by m word (Some (part_of c x)) o (on_meant above (both_known m.items (scope_items o)) (Some (part_of c x)))))
              ∙ ap (λ o. joined_by m word (Some (part_of c x)) o (on_meant above (both_known m.items (scope_items o)) (Some (part_of c x)))) second_is in (
                subst (λ meant. FromRead meant both_items (Join kind l r test.expr test.subs)) (sym meant)
                    (join-known c above kind m S both_items l r (part_of c x) test inner.from.breaks
                    (last-breaks m.names left right other.at m2 r (input b e) (inner.fresh number (omega arith) number-small)) known inner.from.query_is
                    (last-query m.names left right other.at m2 r (input b e)) (tested x g)),
                ap (λ (meant : FromMeant). meant.names) meant,
              ),
        )

    -- a dependent join
    pub lateral-extended : (kind : JoinKind) (second : QueryForm) (r : Query)
        → ((t : QueryTree) → IsQuery second t → QueryRead ((query_of c t).means (beside before.items above)) (listed_names depth number right) (shown_kinds right) r)
        → Extended left right front (joined_to chain (f.a_lateral (stays kind) second (source_name number) f.no_joins)) (Apply (lateral_kind kind) l r)
    lateral-extended kind second r input = extend (f.a_lateral (stays kind) second (source_name number) f.no_joins) (Apply (lateral_kind kind) l r) (λ steps d. one d)
      where
        one : {steps : List JoinStep} → AreJoins (f.a_lateral (stays kind) second (source_name number) f.no_joins) steps → (step : JoinStep) × (steps ≡ step ∷ [])
            × ((m : FromMeant) → Joinable left before.items l m
            → FromRead (step_meant m step) both_items (Apply (lateral_kind kind) l r) × ((step_meant m step).names ≡ m.names ++ source_name number ∷ []))
        one (a_lateral_tree {tree = b} {alias = name} {step = step} other is e origin titled said plain no_join_trees) = (
          step,
          refl,
          λ m inner.
              let word = tree.lateral_of (stays kind) in
              let m2 = (query_of c b).means (beside before.items above) in
              let S = last_item m.names left right other.at m2 r (input b e) in
              let second_is : (from_item_of c other).means (beside_items m.items above) m.names ≡ S =
              ap (λ found. (from_item_of c other).means (beside_items found above) m.names) inner.from.items_are
              ∙ item-is c above (beside before.items above) m.names other b name origin titled plain ∙ (λ i. item_meant other.at Plain m.names (said i) (said i) (read_query m2)) in
              let known : both_known m.items (scope_items S) ≡ Some both_items = λ i. both_known (inner.from.items_are i) (last-items m.names left right other.at m2 r (input b e) i) in
              let meant : step_meant m step ≡ applied m word S =
              (λ i. let part = (ap (join_of c) is ∙ step-lateral c above word other) i in join_item above m part (joined_item above m part))
              ∙ (λ i. let o = (from_item_of c other).means (cond (words-lateral (stays kind) i) (beside_items m.items above) (in_from above)) m.names in
              cond (words-lateral (stays kind) i) (applied m word o) (joined_by m word None o (on_meant above (both_known m.items (scope_items o)) None)))
              ∙ ap (applied m word) second_is in
              let result : FromRead (applied m word S) both_items (Apply (lateral_kind kind) l r) = record {
                breaks = λ i. inner.from.breaks i ++ last-breaks m.names left right other.at m2 r (input b e) (inner.fresh number (omega arith) number-small) i;
                items_are = known;
                query_is = λ i. Apply (words-kind kind i) (inner.from.query_is i) (last-query m.names left right other.at m2 r (input b e) i);
              } in (
                subst (λ meant. FromRead meant both_items (Apply (lateral_kind kind) l r)) (sym meant) result,
                ap (λ (meant : FromMeant). meant.names) meant,
              ),
        )
