-- Queries, set operations, cores and FROM are no lower than what their parts say.
use Rattle.std.specs.Prelude.{◌≡◌, ◌≤◌, ◌<◌, ◌+◌, ℕ, ℤ, suc, max, Bool, true, false, cond, List, [], ◌∷◌, ◌++◌, length, map, flat_map, take, Option, Some, None, option_map}
use Rattle.std.proofs.Common.{ap, arith, get_or, refl, subst, sym, true≢false, ◌∙◌}
use Rattle.std.proofs.lemmas.List.{length-map, length-take}
use Rattle.std.specs.Option.{option_map_or}
use Rattle.bag_algebra.specs.Measures.{height_of}
use Rattle.bag_algebra.specs.built.Measures.{subs_height}
use Rattle.bag_algebra.specs.built.Openings.{Prov-is}
use Rattle.bag_algebra.specs.declared.query.JoinKind.TheVariants as join
use Rattle.perm_catalog.specs.Contents.{Contents}
use Rattle.perm_catalog.specs.Sound.{IsSound}
use Rattle.perm_values.specs.declared.kind.Kind.{Kind}
use Rattle.perm_values.proofs.Lists.{front-none, back-none, map-taken}
use Rattle.sql_tree.specs.Regular.{is_lateral}
use Rattle.sql_tree.specs.declared.name.ColRef.{ColRef}
use Rattle.sql_tree.specs.declared.query.Core.{Core, out-Core}
use Rattle.sql_tree.specs.declared.query.OrderTree.{OrderTree}
use Rattle.sql_tree.specs.declared.query.QueryTree.{QueryTree}
use Rattle.sql_tree.specs.declared.query.SetStep.{SetStep}
use Rattle.sql_tree.specs.declared.query.SetTree.{SetTree}
use Rattle.sql_tree.specs.declared.query.SetTree.TheVariants as set
use Rattle.sql_tree.specs.declared.source.FromItem.{FromItem}
use Rattle.sql_tree.specs.declared.source.FromSource.TheVariants as source
use Rattle.sql_tree.specs.declared.source.FromTree.{FromTree}
use Rattle.sql_tree.specs.declared.source.JoinStep.{JoinStep, out-JoinStep}
use Rattle.sql_tree.specs.declared.source.ScopeMark.{ScopeMark}
use Rattle.contribution.specs.Conjunctions.{always}
use Rattle.name_meaning.proofs.Equations.{token, fromsource-inner}
use Rattle.name_meaning.proofs.Opened.{core-is, opened_from_item}
use Rattle.name_meaning.specs.Cores.{BodyPart, ClausesMeant, before_list, clause_breaks, core_clauses, core_over, core_seen, core_unlooked, group_break, group_scope, has_some, list_columns, optional_built, settle_known, word_breaks}
use Rattle.name_meaning.specs.Froms.{FromItemPart, FromMeant, FromPart, ItemMeant, JoinPart, SourcePart, applied, beside_from, both_known, first_item, from_all, in_clause, in_from, in_on, item_meant, join_all, join_item, join_kind, joined_item, label_of, names_of, on_built, on_meant, optional_breaks, optional_meant, read_names, read_of, read_query, scope_items, scope_name, settled_columns}
use Rattle.name_meaning.specs.Items.{SelectPart, items_breaks, made_items}
use Rattle.name_meaning.specs.Meanings.{Around, Meant, OutColumn, Part, QueryMeant, is_whole, query_means_at}
use Rattle.name_meaning.specs.Queries.{SetStepPart, asks_provenance, columns_so_far, keys_breaks, keys_of, limited, may_not_ask, operand_breaks, plain_query, query_seen, query_with_provenance, set_chain, set_joined}
use Rattle.name_meaning.specs.Scopes.{KnownColumn, ScopeItem, scope_of}
use Rattle.name_meaning.specs.Trees.{core_of, from_item_of, from_of, item_of, join_of, part_of, query_of, set_of_tree, set_step_of, source_of}
use Rattle.name_meaning.specs.declared.scope.Scope.{Scope}
use Rattle.name_meaning.proofs.Every.{none-whole, whole-none}
use Rattle.name_meaning.proofs.Joins.{joins-behind}
use Rattle.name_meaning.proofs.Lateral.{join-lateral, join-plain, lateral_item, plain_item, plainly}
use Rattle.name_meaning.proofs.Trees.{item-known}
use Rattle.name_meaning.specs.laws.Known.{ItemIsKnown}
use Rattle.name_made_parts.proofs.Sourcing.{join-fields}
use Rattle.name_made_parts.specs.Cored.{items_meant}
use Rattle.name_seen_cores.proofs.Opened.{chain-means, paren-means, query-means, set-is, step-operand}
use Rattle.name_seen_cores.proofs.Queried.{chain-behind}
use Rattle.name_seen_parts.proofs.Scoping.{all-behind}
use Rattle.name_inside.proofs.heights.Nodes.{core-high, external-high, height-Apply, height-Join, limited-high, marked-high, set-high}
use Rattle.name_inside.specs.heights.High.{FromHigh, ItemHigh, ListHigh, OptionalHigh, QueryHigh}

-- ---- queries

seen-high : (n : ℕ) (around : Around) (at : ℕ) (body : BodyPart) (order : List OrderTree) (limit : Option ℤ) → QueryHigh n (body.means around)
    → QueryHigh n (query_seen around at body order limit)
seen-high n around at body order limit high = chosen (asks_provenance around body) where
  m : QueryMeant
  m = body.means around

  below : m.breaks ++ keys_breaks m.columns order ≡ [] → (wanted : List Kind) → n ≤ height_of (limited limit (keys_of m.columns order) (m.make wanted))
  below none wanted =
      limited-high n limit (keys_of m.columns order) (m.make wanted) (high (front-none m.breaks (keys_breaks m.columns order) none) wanted)

  chosen : (b : Bool) → QueryHigh n (cond b
      (let m = body.means around in query_with_provenance at m order limit (limited limit (keys_of m.columns order) (m.make [])))
      (plain_query at (body.means around) order limit))
  chosen true = λ none wanted.
      omega (arith, below none wanted, ap height_of (Prov-is (limited limit (keys_of m.columns order) (m.make wanted))))
  chosen false = below

pub query-high : (c : Contents) (around : Around) (tree : QueryTree) (n : ℕ) → QueryHigh n ((set_of_tree c tree.body).means around)
    → QueryHigh n (query_means_at (query_of c tree) around)
query-high c around tree n high =
    subst (QueryHigh n) (sym (query-means c tree around)) (seen-high n around tree.at (set_of_tree c tree.body) tree.order tree.limit high)

-- ---- set operations

module _ (c : Contents) (around : Around) (tree : SetTree) (n : ℕ) where
  pub core-set : (core : Core) → tree ≡ set.Core core → QueryHigh n ((core_of c core).means around) → QueryHigh n ((set_of_tree c tree).means around)
  core-set core is high = subst (λ (body : BodyPart). QueryHigh n (body.means around)) (sym (set-is c tree core is)) high

  pub paren-set : (query : QueryTree) → tree ≡ set.Paren query → QueryHigh n (query_means_at (query_of c query) (may_not_ask around))
      → QueryHigh n ((set_of_tree c tree).means around)
  paren-set query is high = subst (QueryHigh n) (sym (paren-means c tree query around is)) high

  pub chain-set : (first : SetTree) (steps : List SetStep) → tree ≡ set.Chain first steps
      → QueryHigh n (set_chain around ((set_of_tree c first).means around) (map (set_step_of c) steps)) → QueryHigh n ((set_of_tree c tree).means around)
  chain-set first steps is high = subst (QueryHigh n) (sym (chain-means c tree first steps around is)) high

joined-high : (n a b : ℕ) (left : QueryMeant) (step : SetStepPart) (right : QueryMeant) → n ≤ suc (max a b) → QueryHigh a left → QueryHigh b right
    → QueryHigh n (set_joined left step right)
joined-high n a b left step right within on_left on_right none wanted =
    let operands = front-none (left.breaks ++ right.breaks) (operand_breaks step.at left.columns right.columns) none in
    let at : List Kind = settle_known (columns_so_far left.columns right.columns) wanted in
    let first = on_left (front-none left.breaks right.breaks operands) at in
    let second = on_right (back-none left.breaks right.breaks operands) at in
    set-high n step.word step.all (left.make at) (right.make at) (omega (arith, within, first, second))

-- one more operand of a chain
pub chain-high : (c : Contents) (around : Around) (left : QueryMeant) (steps : List SetStep) (i : ℕ) (step : SetStep) (n a b : ℕ)
    → i < length steps → step ≡ get_or steps i step → n ≤ suc (max a b) → QueryHigh a (set_chain around left (map (set_step_of c) (take i steps)))
    → QueryHigh b ((set_of_tree c step.operand).means (may_not_ask around))
    → QueryHigh n (set_chain around left (map (set_step_of c) (take (i + 1) steps)))
chain-high c around left steps i step n a b within is bound so_far one =
    let before = set_chain around left (map (set_step_of c) (take i steps)) in
    let part = set_step_of c step in
    subst (QueryHigh n) (sym (ap (set_chain around left) (map-taken (set_step_of c) steps i step within is)
    ∙ chain-behind around left (map (set_step_of c) (take i steps)) part))
    (joined-high n a b before part (part.operand.means (may_not_ask around)) bound so_far
    (subst (λ (body : BodyPart). QueryHigh b (body.means (may_not_ask around))) (sym (step-operand c step)) one))

-- ---- cores

module _ (n a b c d : ℕ) (around : Around) (word : Option ℕ) (input : FromMeant) (has_from is_distinct : Bool) (items : List SelectPart) (condition : Option Part)
    (groups : List ColRef) (having : Option Part) where
  abbrev known_items : List ScopeItem
  known_items = option_map_or (λ known. known) input.items []

  abbrev own : Scope
  own = scope_of known_items

  abbrev grouped : Scope
  grouped = group_scope own groups having items

  abbrev clauses : ClausesMeant
  clauses = core_clauses (in_clause own around.outer false) (in_clause grouped around.outer true) grouped has_from input condition having items

  looked-high : n ≤ suc (max (max (max a b) c) d) → input.breaks ≡ [] → FromHigh a input → OptionalHigh b condition → OptionalHigh c having
      → ListHigh d (items_meant has_from grouped (in_clause grouped around.outer true) items)
      → QueryHigh n (core_over around.outer (word_breaks around word) input has_from is_distinct items condition groups having known_items)
  looked-high within whole from of_where of_having listed none wanted =
      let all = back-none (word_breaks around word) (clause_breaks own condition groups having clauses) none in
      let in_list = back-none ((optional_breaks condition clauses.where_meant ++ flat_map (group_break own) groups) ++ optional_breaks having clauses.having_meant)
      (items_breaks clauses.list) all in
      let before = front-none ((optional_breaks condition clauses.where_meant ++ flat_map (group_break own) groups) ++ optional_breaks having clauses.having_meant)
      (items_breaks clauses.list) all in
      let in_having = back-none (optional_breaks condition clauses.where_meant ++ flat_map (group_break own) groups) (optional_breaks having clauses.having_meant) before in
      let first = front-none (optional_breaks condition clauses.where_meant ++ flat_map (group_break own) groups) (optional_breaks having clauses.having_meant) before in
      let in_where = front-none (optional_breaks condition clauses.where_meant) (flat_map (group_break own) groups) first in
      core-high input.query clauses.where_meant clauses.groups clauses.having_meant
      (made_items clauses.list (settle_known (list_columns clauses) wanted) (before_list clauses)) is_distinct n a b c d within
      (from whole).high (of_where (in_clause own around.outer false) in_where) (of_having (in_clause grouped around.outer true) in_having)
      (listed in_list (settle_known (list_columns clauses) wanted) (before_list clauses))

  core_seen-high : n ≤ suc (max (max (max a b) c) d) → FromHigh a input → OptionalHigh b condition → OptionalHigh c having
      → ListHigh d (items_meant has_from grouped (in_clause grouped around.outer true) items)
      → QueryHigh n (core_seen around word input has_from is_distinct items condition groups having)
  core_seen-high within from of_where of_having listed = chosen (is_whole input.breaks) refl where
    chosen : (b : Bool) → is_whole input.breaks ≡ b → QueryHigh n (cond b
        (core_over around.outer (word_breaks around word) input has_from is_distinct items condition groups having known_items)
        (core_unlooked (word_breaks around word) input))
    chosen true e = looked-high within (whole-none input.breaks e) from of_where of_having listed
    chosen false e = λ none wanted.
        absurd (true≢false (sym (none-whole input.breaks (back-none (word_breaks around word) input.breaks none)) ∙ e))

-- of what FROM, WHERE, HAVING and the list say
pub core-tree : (c : Contents) (around : Around) (core : Core) (n from of_where of_having listed : ℕ) → n ≤ suc (max (max (max from of_where) of_having) listed)
    → FromHigh from (from_all around.outer (map (from_of c) (out-Core core).sources)) → OptionalHigh of_where (option_map (part_of c) (out-Core core).condition)
    → OptionalHigh of_having (option_map (part_of c) (out-Core core).having)
    → ((has_from : Bool) (scope : Scope) → ListHigh listed (items_meant has_from scope (in_clause scope around.outer true) (map (item_of c) (out-Core core).items)))
    → QueryHigh n ((core_of c core).means around)
core-tree c around core n from of_where of_having listed within one two three four =
    let frame = out-Core core in
    let sources = map (from_of c) frame.sources in
    let items = map (item_of c) frame.items in
    let condition = option_map (part_of c) frame.condition in
    let having = option_map (part_of c) frame.having in
    let input = from_all around.outer sources in
    subst (λ (body : BodyPart). QueryHigh n (body.means around)) (sym (core-is c core))
    (core_seen-high n from of_where of_having listed around frame.provenance input (has_some sources) frame.distinct items condition frame.groups having within one two three
    (four (has_some sources) (group_scope (scope_of (option_map_or (λ known. known) input.items [])) frame.groups having items)))

-- ---- items of FROM

read-high : (n : ℕ) (m : QueryMeant) (at : ℕ) (mark : ScopeMark) (earlier : List (List ℕ)) (name label : List ℕ) → QueryHigh n m
    → ItemHigh n (item_meant at mark earlier name label (read_query m))
read-high n m at mark earlier name label high none =
    let whole = front-none m.breaks _ (front-none _ _ none) in
    marked-high n mark label (read_names (read_query m)) (read_query m) (high whole [])
    (external-high n (m.make []) (option_map_or (λ (columns : List OutColumn). names_of (settled_columns columns)) m.columns []) m.places (high whole []))

pub inner-item : (c : Contents) (around : Around) (earlier : List (List ℕ)) (item : FromItem) (query : QueryTree) (n : ℕ) → item.source ≡ source.Inner query
    → QueryHigh n (query_means_at (query_of c query) around) → ItemHigh n ((from_item_of c item).means around earlier)
unfolding token query_means_at
inner-item c around earlier item query n is high =
    let name = scope_name (source_of c item.source) item.alias in
    let label = label_of (source_of c item.source) item.alias in
    subst (ItemHigh n) (sym (ap (λ (part : FromItemPart). part.means around earlier) (opened_from_item c item)
    ∙ ap (λ (part : SourcePart). item_meant item.at item.mark earlier name label (read_of c around part)) (ap (source_of c) is ∙ fromsource-inner c query)))
    (read-high n ((query_of c query).means around) item.at item.mark earlier name label high)

pub any-item : (m : ItemMeant) → ItemHigh 0 m
any-item m none = omega arith

-- ---- joins

abbrev one_item : ItemMeant → List KnownColumn → ScopeItem
one_item m columns = record { name = m.name; columns = columns }

item-there : (m : ItemMeant) (columns : List KnownColumn) → m.columns ≡ Some columns → scope_items m ≡ Some (one_item m columns ∷ [])
item-there m columns known =
    ap (λ (cs : Option (List KnownColumn)). option_map (λ (columns : List KnownColumn). record { name = m.name; columns = columns } ∷ []) cs) known

on-subs : (m : Option Meant) → (on_built m).subs ≡ (optional_built m).subs
on-subs None = refl
on-subs (Some m) = refl

module _ (n a b d : ℕ) (outer : List Scope) (left : FromMeant) (step : JoinPart) (before : FromHigh a left)
    (item : (around : Around) (earlier : List (List ℕ)) → ItemHigh b (step.item.means around earlier))
    (there : (around : Around) (earlier : List (List ℕ)) → (step.item.means around earlier).breaks ≡ [] → ItemIsKnown (step.item.means around earlier)) where
  abbrev Joined : Type 0
  Joined = FromHigh n (join_item outer left step (joined_item outer left step))

  lateral-high : is_lateral step.word ≡ true → n ≤ suc (max a b) → Joined
  lateral-high lateral within = subst (FromHigh n) (sym (join-lateral outer left step lateral)) high where
    m : ItemMeant
    m = lateral_item outer left step

    high : FromHigh n (applied left step.word m)
    high none =
        let first = before (front-none left.breaks m.breaks none) in
        let whole = back-none left.breaks m.breaks none in
        let known = there _ left.names whole in
        let fits = item-there m known.columns known.known in
        record {
          items = first.items ++ one_item m known.columns ∷ [];
          known = λ i. both_known (first.known i) (fits i);
          high = omega (arith, within, first.high, item _ left.names whole, height-Apply (join_kind step.word) left.query m.query);
        }

  plain-high : is_lateral step.word ≡ false → n ≤ suc (max (max a b) d) → OptionalHigh d step.condition → Joined
  plain-high plain within on_condition = subst (FromHigh n) (sym (join-plain outer left step plain)) high where
    m : ItemMeant
    m = plain_item outer left step

    on : Option Meant
    on = on_meant outer (both_known left.items (scope_items m)) step.condition

    high : FromHigh n (plainly outer left step m)
    high none =
        let operands = front-none (left.breaks ++ m.breaks) (optional_breaks step.condition on) none in
        let first = before (front-none left.breaks m.breaks operands) in
        let whole = back-none left.breaks m.breaks operands in
        let known = there _ left.names whole in
        let fits = item-there m known.columns known.known in
        let items = first.items ++ one_item m known.columns ∷ [] in
        let both : both_known left.items (scope_items m) ≡ Some items = λ i. both_known (first.known i) (fits i) in
        let seen : on ≡ optional_meant (in_on items outer) step.condition =
        ap (λ (known : Option (List ScopeItem)). on_meant outer known step.condition) both in
        let third = on_condition (in_on items outer)
        (ap (optional_breaks step.condition) (sym seen) ∙ back-none (left.breaks ++ m.breaks) (optional_breaks step.condition on) none) in
        record {
          items = items;
          known = both;
          high = omega (
            arith,
            within,
            first.high,
            item _ left.names whole,
            third,
            ap (λ (m : Option Meant). subs_height (optional_built m).subs) seen,
            ap subs_height (on-subs on),
            height-Join (join_kind step.word) left.query m.query (on_built on).expr (on_built on).subs,
          );
        }

module _ (c : Contents) (sound : IsSound c) (outer : List Scope) (left : FromMeant) (step : JoinStep) where
  abbrev part : JoinPart
  part = record {
    word = (out-JoinStep step).word;
    item = from_item_of c (out-JoinStep step).item;
    condition = option_map (part_of c) (out-JoinStep step).condition;
  }

  abbrev JoinedTree : ℕ → Type 0
  JoinedTree n = FromHigh n (join_item outer left (join_of c step) (joined_item outer left (join_of c step)))

  as-fields : (n : ℕ) → FromHigh n (join_item outer left part (joined_item outer left part)) → JoinedTree n
  as-fields n high = subst (λ (p : JoinPart). FromHigh n (join_item outer left p (joined_item outer left p))) (sym (join-fields c step)) high

  pub lateral-tree : (n a b : ℕ) → is_lateral (out-JoinStep step).word ≡ true → n ≤ suc (max a b) → FromHigh a left
      → ((around : Around) (earlier : List (List ℕ)) → ItemHigh b ((from_item_of c (out-JoinStep step).item).means around earlier)) → JoinedTree n
  lateral-tree n a b lateral within before item =
      as-fields n (lateral-high n a b 0 outer left part before item
      (λ around earlier whole. item-known c (out-JoinStep step).item around earlier sound whole) lateral within)

  pub plain-tree : (n a b d : ℕ) → is_lateral (out-JoinStep step).word ≡ false → n ≤ suc (max (max a b) d) → FromHigh a left
      → ((around : Around) (earlier : List (List ℕ)) → ItemHigh b ((from_item_of c (out-JoinStep step).item).means around earlier))
      → OptionalHigh d (option_map (part_of c) (out-JoinStep step).condition) → JoinedTree n
  plain-tree n a b d plain within before item on =
      as-fields n (plain-high n a b d outer left part before item
      (λ around earlier whole. item-known c (out-JoinStep step).item around earlier sound whole) plain within on)

pub first-high : (c : Contents) (outer : List Scope) (earlier : List (List ℕ)) (item : FromItem) (n : ℕ) → IsSound c
    → ItemHigh n ((from_item_of c item).means (in_from outer) earlier) → FromHigh n (first_item earlier ((from_item_of c item).means (in_from outer) earlier))
first-high c outer earlier item n sound high none =
    let m = (from_item_of c item).means (in_from outer) earlier in
    let known = item-known c item (in_from outer) earlier sound none in
    record { items = one_item m known.columns ∷ []; known = item-there m known.columns known.known; high = high none }

-- one more join of a source
pub joins-high : (c : Contents) (outer : List Scope) (left : FromMeant) (joins : List JoinStep) (i : ℕ) (step : JoinStep) (n : ℕ) → i < length joins
    → step ≡ get_or joins i step
    → FromHigh n (join_item outer (join_all outer left (map (join_of c) (take i joins))) (join_of c step)
    (joined_item outer (join_all outer left (map (join_of c) (take i joins))) (join_of c step)))
    → FromHigh n (join_all outer left (map (join_of c) (take (i + 1) joins)))
joins-high c outer left joins i step n within is high =
    subst (FromHigh n) (sym (ap (join_all outer left) (map-taken (join_of c) joins i step within is)
    ∙ joins-behind outer left (map (join_of c) (take i joins)) (join_of c step))) high

-- ---- sources

beside-high : (n a b : ℕ) (left right : FromMeant) → n ≤ suc (max a b) → FromHigh a left → FromHigh b right → FromHigh n (beside_from left right)
beside-high n a b left right within one two none =
    let first = one (front-none left.breaks right.breaks none) in
    let second = two (back-none left.breaks right.breaks none) in
    record {
      items = first.items ++ second.items;
      known = λ i. both_known (first.known i) (second.known i);
      high = omega (arith, within, first.high, second.high, height-Join join.Inner left.query right.query always []);
    }

less-high : (n b : ℕ) (m : FromMeant) → n ≤ b → FromHigh b m → FromHigh n m
less-high n b m within high none =
    let held = high none in
    record { items = held.items; known = held.known; high = omega (arith, within, held.high) }

-- one more source, of as many before
more-high : (outer : List Scope) (parts : List FromPart) (part : FromPart) (before n a b : ℕ) → length parts ≡ before → (before ≡ 0 → n ≤ b)
    → n ≤ suc (max a b) → FromHigh a (from_all outer parts) → ((earlier : List (List ℕ)) → FromHigh b (part.means outer earlier))
    → FromHigh n (from_all outer (parts ++ part ∷ []))
more-high outer [] part before n a b counted alone within left right = less-high n b (part.means outer []) (alone (sym counted)) (right [])
more-high outer (first ∷ parts) part before n a b counted alone within left right =
    let names = (from_all outer (first ∷ parts)).names in
    subst (FromHigh n) (sym (all-behind outer first parts part))
    (beside-high n a b (from_all outer (first ∷ parts)) (part.means outer names) within left (right names))

pub sources-high : (c : Contents) (outer : List Scope) (sources : List FromTree) (i : ℕ) (source : FromTree) (n a b : ℕ) → i < length sources
    → source ≡ get_or sources i source → (i ≡ 0 → n ≤ b) → n ≤ suc (max a b) → FromHigh a (from_all outer (map (from_of c) (take i sources)))
    → ((earlier : List (List ℕ)) → FromHigh b ((from_of c source).means outer earlier))
    → FromHigh n (from_all outer (map (from_of c) (take (i + 1) sources)))
sources-high c outer sources i source n a b within is alone bound left right =
    let parts = map (from_of c) (take i sources) in
    let counted : length parts ≡ i = omega (arith, within, length-map (take i sources) (from_of c), length-take i sources) in
    subst (λ (all : List FromPart). FromHigh n (from_all outer all)) (sym (map-taken (from_of c) sources i source within is))
    (more-high outer parts (from_of c source) i n a b counted alone bound left right)

pub no-sources : (outer : List Scope) → FromHigh 0 (from_all outer [])
no-sources outer none = record { items = []; known = refl; high = omega arith }
