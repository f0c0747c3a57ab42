-- Over which parts queries, set operations, cores and FROM are.
use Rattle.std.specs.Prelude.{◌≡◌, ℕ, ℤ, Bool, true, false, cond, List, [], ◌∷◌, ◌++◌, map, flat_map, Option, Some, None, option_map, length, ◌+◌, ◌<◌}
use Rattle.std.proofs.Common.{refl, ap, sym, subst, ◌∙◌, true≢false, take, get_or}
use Rattle.std.specs.Option.{option_map_or}
use Rattle.perm_values.proofs.Lists.{front-none, back-none, map-taken}
use Rattle.bag_algebra.specs.declared.query.Query.{Query}
use Rattle.perm_catalog.specs.Contents.{Contents}
use Rattle.sql_tree.specs.declared.name.ColRef.{ColRef}
use Rattle.sql_tree.specs.declared.name.Name.{Name}
use Rattle.sql_tree.specs.declared.query.Core.{Core, out-Core}
use Rattle.sql_tree.specs.declared.query.OrderTree.{OrderTree}
use Rattle.sql_tree.specs.declared.query.QueryTree.{QueryTree}
use Rattle.sql_tree.specs.declared.query.SelectItem.{SelectItem}
use Rattle.sql_tree.specs.declared.query.SelectItem.TheVariants as i
use Rattle.sql_tree.specs.declared.query.SetStep.{SetStep}
use Rattle.sql_tree.specs.declared.query.SetTree.{SetTree}
use Rattle.sql_tree.specs.declared.query.SetTree.TheVariants as set
use Rattle.sql_tree.specs.declared.expression.ExprTree.{ExprTree}
use Rattle.sql_tree.specs.declared.source.FromItem.{FromItem}
use Rattle.sql_tree.specs.declared.source.FromSource.TheVariants as source
use Rattle.sql_tree.specs.declared.source.FromTree.{FromTree}
use Rattle.sql_tree.specs.declared.source.JoinStep.{JoinStep, out-JoinStep}
use Rattle.sql_tree.specs.declared.source.ScopeMark.{ScopeMark}
use Rattle.name_meaning.proofs.Equations.{token, selectitem-star, selectitem-tablestar, selectitem-value, fromsource-named, fromsource-inner}
use Rattle.name_meaning.specs.Cores.{BodyPart, ClausesMeant, clause_breaks, core_clauses, core_over, core_seen, core_unlooked, group_break, group_scope, has_some, word_breaks}
use Rattle.name_meaning.specs.Froms.{FromMeant, FromPart, ItemMeant, JoinPart, Read, SourcePart, beside_from, both_known, first_item, from_all, from_more, in_on, item_meant, join_all, label_of, optional_breaks, on_meant, read_named, read_of, scope_items, scope_name, table_columns, applied, beside_items, in_from, in_clause, optional_inside, optional_meant, no_from}
use Rattle.name_meaning.proofs.Lateral.{join-lateral, join-plain, lateral_item, plain_item, plainly}
use Rattle.sql_tree.specs.Regular.{is_lateral}
use Rattle.sql_tree.specs.declared.source.JoinWord.{JoinWord}
use Rattle.name_meaning.specs.Items.{SelectPart, columns_meant, items_breaks, items_inside, no_columns, star_meant, table_star_meant}
use Rattle.name_meaning.specs.Meanings.{Around, Inside, Meant, Part, QueryMeant, Surroundings, both_inside, is_whole, means_at, query_means_at}
use Rattle.name_meaning.specs.Queries.{SetStepPart, count_columns, asks_provenance, keys_breaks, keys_of, limited, operand_breaks, plain_query, query_with_provenance, query_seen, set_chain, set_joined, may_not_ask}
use Rattle.name_meaning.specs.Scopes.{KnownColumn, Placed, ScopeItem, item_columns, scope_of}
use Rattle.name_meaning.specs.Trees.{core_of, from_item_of, from_of, item_of, join_of, part_of, query_of, set_of_tree, set_step_of, source_of}
use Rattle.name_meaning.specs.declared.answer.Break.{Break}
use Rattle.name_meaning.specs.declared.scope.Scope.{Scope}
use Rattle.name_meaning.proofs.Every.{whole-none, none-whole}
use Rattle.name_meaning.proofs.Joins.{joins-behind}
use Rattle.name_meaning.proofs.Opened.{core-is, opened_from_item}
use Rattle.name_inside.specs.Held.{Adds, Held, all_breaks, all_inside, clauses_of, held_at, held_clauses, held_from, held_item, held_items, held_operand, held_optional, held_query, held_read, held_select, inside_in, query_alone, AddsItem, AddsJoin, FromAdded, IsOwn}
use Rattle.name_inside.specs.Passed.{HasScope, HasWidth, IsReadAs, PutsRead}
use Rattle.name_inside.specs.declared.gathered.Gathered.{Gathered}
use Rattle.name_inside.proofs.Over.{IsOver, adds-alike, adds-both, adds-broken, adds-nothing, adds-over, adds-this, breaks-append, breaks-one, inside-append, inside-one, over-alike, over-front, over-pair, over-self}
use Rattle.name_seen_cores.proofs.Opened.{set-is, paren-means, chain-means, step-operand, query-means}
use Rattle.name_made_parts.specs.Cored.{select_parts, source_parts, condition_part, having_part}
use Rattle.name_made_parts.specs.Sources.{IsScope}
use Rattle.name_made_parts.proofs.Sourcing.{join-fields}
use Rattle.name_seen_parts.proofs.Scoping.{more-behind, scope-beside-is}
use Rattle.name_seen_parts.specs.Scopes.{item_scope, scope_beside}
use Rattle.name_seen_parts.specs.Standing.{around_beside}
use Rattle.perm_catalog.specs.declared.column.Column.{Column}

-- ---- set operations

joined-over : (left : QueryMeant) (step : SetStepPart) (right : QueryMeant) → IsOver (held_query (set_joined left step right)) (held_query left ∷ held_query right ∷ [])
joined-over left step right = over-pair (held_query (set_joined left step right)) (held_query left) (held_query right)
    (λ none. front-none (left.breaks ++ right.breaks) (operand_breaks step.at left.columns right.columns) none) (λ none. refl)

chain-over : (around : Around) (left : QueryMeant) (steps : List SetStepPart)
    → IsOver (held_query (set_chain around left steps)) (held_query left ∷ map (held_operand around) steps)
chain-over around left [] = over-self (held_query left)
chain-over around left (step ∷ steps) =
    let right = step.operand.means (may_not_ask around) in
    over-front (held_query left ∷ held_query right ∷ []) (map (held_operand around) steps)
    (chain-over around (set_joined left step right) steps) (joined-over left step right)

module _ (c : Contents) (around : Around) (tree : SetTree) where
  pub core-stands : (core : Core) → tree ≡ set.Core core → held_query ((set_of_tree c tree).means around) ≡ held_query ((core_of c core).means around)
  core-stands core is = ap (λ (body : BodyPart). held_query (body.means around)) (set-is c tree core is)

  pub paren-stands : (query : QueryTree) → tree ≡ set.Paren query
      → held_query ((set_of_tree c tree).means around) ≡ held_query (query_means_at (query_of c query) (may_not_ask around))
  paren-stands query is = ap held_query (paren-means c tree query around is)

  pub chain-stands : (first : SetTree) (steps : List SetStep) → tree ≡ set.Chain first steps
      → IsOver (held_query ((set_of_tree c tree).means around)) (held_query ((set_of_tree c first).means around) ∷ map (held_operand around) (map (set_step_of c) steps))
  chain-stands first steps is = over-alike (ap held_query (chain-means c tree first steps around is))
      (chain-over around ((set_of_tree c first).means around) (map (set_step_of c) steps))

operand-stands : (c : Contents) (around : Around) (step : SetStep)
    → held_operand around (set_step_of c step) ≡ held_query ((set_of_tree c step.operand).means (may_not_ask around))
operand-stands c around step = ap (λ (body : BodyPart). held_query (body.means (may_not_ask around))) (step-operand c step)

pub operand-adds : (c : Contents) (around : Around) (step : SetStep) {old new : Gathered}
    → Adds (held_query ((set_of_tree c step.operand).means (may_not_ask around)) ∷ []) old new → Adds (held_operand around (set_step_of c step) ∷ []) old new
operand-adds c around step {old = old} {new = new} added = subst (λ (h : Held). Adds (h ∷ []) old new) (sym (operand-stands c around step)) added

-- ---- a query

-- the query itself, with as many columns
abbrev pub held_alone : ℕ → QueryMeant → Held
held_alone at m = record { breaks = m.breaks; inside = query_alone at (count_columns m.columns) }

plain-over : (at : ℕ) (m : QueryMeant) (order : List OrderTree) (limit : Option ℤ)
    → IsOver (held_query (plain_query at m order limit)) (held_alone at (plain_query at m order limit) ∷ held_query m ∷ [])
plain-over at m order limit =
    let whole = plain_query at m order limit in
    over-pair (held_query whole) (held_alone at whole) (held_query m)
    (λ none. (λ i. none i ++ front-none m.breaks (keys_breaks m.columns order) none i)) (λ none. refl)

with_provenance-over : (at : ℕ) (m : QueryMeant) (order : List OrderTree) (limit : Option ℤ) (query : Query)
    → IsOver (held_query (query_with_provenance at m order limit query)) (held_alone at (query_with_provenance at m order limit query) ∷ held_query m ∷ [])
with_provenance-over at m order limit query =
    let whole = query_with_provenance at m order limit query in
    over-pair (held_query whole) (held_alone at whole) (held_query m)
    (λ none. (λ i. none i ++ front-none m.breaks (keys_breaks m.columns order) none i)) (λ none. refl)

seen-over : (around : Around) (at : ℕ) (body : BodyPart) (order : List OrderTree) (limit : Option ℤ)
    → IsOver (held_query (query_seen around at body order limit)) (held_alone at (query_seen around at body order limit) ∷ held_query (body.means around) ∷ [])
seen-over around at body order limit = chosen (asks_provenance around body) where
  chosen : (b : Bool) → IsOver (held_query (cond b
      (let m = body.means around in query_with_provenance at m order limit (limited limit (keys_of m.columns order) (m.make [])))
      (plain_query at (body.means around) order limit)))
      (held_alone at (cond b
      (let m = body.means around in query_with_provenance at m order limit (limited limit (keys_of m.columns order) (m.make [])))
      (plain_query at (body.means around) order limit))
      ∷ held_query (body.means around) ∷ [])
  chosen true =
      let m = body.means around in
      with_provenance-over at m order limit (limited limit (keys_of m.columns order) (m.make []))
  chosen false = plain-over at (body.means around) order limit

pub query-adds : (c : Contents) (around : Around) (tree : QueryTree) (width : ℕ) (old middle new : Gathered)
    → HasWidth (query_means_at (query_of c tree) around) (Some width) → inside_in middle ≡ both_inside (inside_in old) (query_alone tree.at width)
    → Adds (held_query ((set_of_tree c tree.body).means around) ∷ []) middle new
    → Adds (held_query (query_means_at (query_of c tree) around) ∷ []) old new
query-adds c around tree width old middle new wide first body = adds-over
    (subst (λ (m : QueryMeant). IsOver (held_query m) (held_alone tree.at m ∷ held_query ((set_of_tree c tree.body).means around) ∷ []))
    (sym (query-means c tree around)) (seen-over around tree.at (set_of_tree c tree.body) tree.order tree.limit))
    (adds-both (adds-this (λ none. first ∙ ap (λ n. both_inside (inside_in old) (query_alone tree.at n)) (sym (wide none)))) body)

-- ---- FROM

optional-none : (here : Surroundings) (part : Option Part) → optional_breaks part (optional_meant here part) ≡ [] → all_breaks (held_optional here part) ≡ []
unfolding means_at
optional-none here None none = refl
optional-none here (Some part) none = breaks-one (held_at here part) ∙ front-none (part.means here).breaks _ none

optional-inside : (here : Surroundings) (part : Option Part) → optional_inside (optional_meant here part) ≡ all_inside (held_optional here part)
unfolding means_at
optional-inside here None = refl
optional-inside here (Some part) = sym (inside-one (held_at here part))

beside-over : (left right : FromMeant) → IsOver (held_from (beside_from left right)) (held_from left ∷ held_from right ∷ [])
beside-over left right = over-pair (held_from (beside_from left right)) (held_from left) (held_from right) (λ none. none) (λ none. refl)

lateral-over : (left : FromMeant) (word : JoinWord) (m : ItemMeant) → IsOver (held_from (applied left word m)) (held_from left ∷ held_item m ∷ [])
lateral-over left word m = over-pair (held_from (applied left word m)) (held_from left) (held_item m) (λ none. none) (λ none. refl)

join-over : (outer : List Scope) (left : FromMeant) (step : JoinPart) (m : ItemMeant) (items : List ScopeItem)
    → both_known left.items (scope_items m) ≡ Some items
    → IsOver (held_from (plainly outer left step m)) (held_from left ∷ (held_item m ∷ held_optional (in_on items outer) step.condition))
join-over outer left step m items known =
    let here = in_on items outer in
    let on = on_meant outer (both_known left.items (scope_items m)) step.condition in
    let same : on ≡ optional_meant here step.condition = ap (λ (known : Option (List ScopeItem)). on_meant outer known step.condition) known in
    record {
      breaks = λ none.
          let operands = front-none (left.breaks ++ m.breaks) (optional_breaks step.condition on) none in
          let conditions = optional-none here step.condition
          (subst (λ (m : Option Meant). optional_breaks step.condition m ≡ []) same (back-none (left.breaks ++ m.breaks) (optional_breaks step.condition on) none)) in
          λ i. front-none left.breaks m.breaks operands i ++ (back-none left.breaks m.breaks operands i ++ conditions i);
      inside = λ none. ap (both_inside left.inside) (ap (both_inside m.inside) (ap optional_inside same ∙ optional-inside here step.condition));
    }

-- what an item reads comes in scope behind the items before it
record Wider (left : FromMeant) (m : ItemMeant) (wider : Scope) : Type 0 where
  items : List ScopeItem
  known : both_known left.items (scope_items m) ≡ Some items
  is : wider ≡ scope_of items

abbrev one_item : List ℕ → List Column → ScopeItem
one_item name columns = record { name = name; columns = table_columns columns }

wider-by : (left : FromMeant) (m : ItemMeant) (read : Option (List ℕ × List Column)) (own wider : Scope) → IsOwn left own → m.breaks ≡ [] → IsReadAs m read
    → PutsRead read own wider → Wider left m wider
wider-by left m None own wider before none reads puts = absurd (reads none)
wider-by left m (Some read) own wider before none reads puts =
    let is = reads none in
    let item = one_item m.name read.1 in
    let fits : scope_items m ≡ Some (item ∷ []) =
    ap (λ (cs : Option (List KnownColumn)). option_map (λ (columns : List KnownColumn). record { name = m.name; columns = columns } ∷ []) cs) is.known in
    record {
      items = before.items ++ item ∷ [];
      known = λ i. both_known (before.known i) (fits i);
      is = puts ∙ (λ i. scope_beside (before.is i) (item_scope (sym is.name_is i) read.1)) ∙ scope-beside-is before.items (item ∷ []);
    }

pub first-added : (earlier : List (List ℕ)) (m : ItemMeant) (read : Option (List ℕ × List Column)) (own wider : Scope) (old new : Gathered) → own ≡ scope_of []
    → Adds (held_item m ∷ []) old new → IsReadAs m read → PutsRead read own wider → FromAdded (first_item earlier m) old new wider
first-added earlier m read own wider old new nothing added reads puts = record { adds = added; own_is = by-read read reads puts } where
  by-read : (read : Option (List ℕ × List Column)) → IsReadAs m read → PutsRead read own wider → m.breaks ≡ [] → IsOwn (first_item earlier m) wider
  by-read None reads puts none = absurd (reads none)
  by-read (Some read) reads puts none =
      let is = reads none in
      let item = one_item m.name read.1 in
      record {
        items = item ∷ [];
        known = ap (λ (cs : Option (List KnownColumn)). option_map (λ (columns : List KnownColumn). record { name = m.name; columns = columns } ∷ []) cs) is.known;
        is = puts ∙ (λ i. scope_beside (nothing i) (item_scope (sym is.name_is i) read.1)) ∙ scope-beside-is [] (item ∷ []);
      }

-- one more join, whose condition sees the items up to its own
join-added : (outer : List Scope) (step : JoinPart) (read : Option (List ℕ × List Column)) (own wider : Scope) (middle items_in new : Gathered)
    → is_lateral step.word ≡ false → ((names : List (List ℕ)) → Adds (held_item (step.item.means (in_from outer) names) ∷ []) middle items_in)
    → ((names : List (List ℕ)) → IsReadAs (step.item.means (in_from outer) names) read) → PutsRead read own wider
    → Adds (held_optional (in_clause wider outer false) step.condition) items_in new → AddsJoin outer step own wider middle new
join-added outer step read own wider middle items_in new plain item reads puts on left old so_far =
    subst (λ (m : FromMeant). FromAdded m old new wider) (sym (join-plain outer left step plain)) (record { adds = added; own_is = own-is }) where
      m : ItemMeant
      m = plain_item outer left step

      whole : FromMeant
      whole = plainly outer left step m

      operands : whole.breaks ≡ [] → left.breaks ++ m.breaks ≡ []
      operands none =
          front-none (left.breaks ++ m.breaks) (optional_breaks step.condition (on_meant outer (both_known left.items (scope_items m)) step.condition)) none

      is-wider : whole.breaks ≡ [] → Wider left m wider
      is-wider none =
          wider-by left m read own wider (so_far.own_is (front-none left.breaks m.breaks (operands none))) (back-none left.breaks m.breaks (operands none))
          (reads left.names) puts

      own-is : whole.breaks ≡ [] → IsOwn whole wider
      own-is none = let w = is-wider none in record { items = w.items; known = w.known; is = w.is }

      added : Adds (held_from whole ∷ []) old new
      added = record {
        adds = λ none.
            let w = is-wider (sym (breaks-one (held_from whole)) ∙ none) in
            (adds-over (join-over outer left step m w.items w.known)
            (adds-both so_far.adds (adds-both (item left.names)
            (subst (λ (s : Scope). Adds (held_optional (in_clause s outer false) step.condition) items_in new) w.is on)))).adds none;
      }

-- a lateral subquery, which sees the items before it
lateral-added : (outer : List Scope) (step : JoinPart) (own wider : Scope) (middle new : Gathered) → is_lateral step.word ≡ true
    → AddsItem (around_beside (own ∷ outer)) step.item own wider middle new → AddsJoin outer step own wider middle new
lateral-added outer step own wider middle new lateral item left old so_far =
    subst (λ (m : FromMeant). FromAdded m old new wider) (sym (join-lateral outer left step lateral)) (record { adds = added; own_is = own-is }) where
      m : ItemMeant
      m = lateral_item outer left step

      whole : FromMeant
      whole = applied left step.word m

      -- where the items before it are known, these are in scope
      place-is : left.breaks ≡ [] → around_beside (own ∷ outer) ≡ beside_items left.items outer
      place-is none =
          let before = so_far.own_is none in
          ap (λ (s : Scope). around_beside (s ∷ outer)) before.is ∙ ap (λ (known : Option (List ScopeItem)). beside_items known outer) (sym before.known)

      own-is : whole.breaks ≡ [] → IsOwn whole wider
      own-is none =
          let first = front-none left.breaks m.breaks none in
          let w = wider-by left m item.read own wider (so_far.own_is first) (back-none left.breaks m.breaks none)
          (subst (λ (place : Around). IsReadAs (step.item.means place left.names) item.read) (place-is first) (item.reads left.names)) item.puts in
          record { items = w.items; known = w.known; is = w.is }

      added : Adds (held_from whole ∷ []) old new
      added = record {
        adds = λ none.
            let first = front-none left.breaks m.breaks (sym (breaks-one (held_from whole)) ∙ none) in
            (adds-over (lateral-over left step.word m)
            (adds-both so_far.adds
            (subst (λ (place : Around). Adds (held_item (step.item.means place left.names) ∷ []) middle new) (place-is first) (item.adds left.names)))).adds none;
      }

module _ (c : Contents) (outer : List Scope) (left : FromMeant) (joins : List JoinStep) (i : ℕ) (step : JoinStep) (own wider : Scope)
    {old middle new : Gathered} where
  pub step-added : i < length joins → step ≡ get_or joins i step → FromAdded (join_all outer left (map (join_of c) (take i joins))) old middle own
      → AddsJoin outer (join_of c step) own wider middle new → FromAdded (join_all outer left (map (join_of c) (take (i + 1) joins))) old new wider
  step-added within is so_far adds =
      subst (λ (m : FromMeant). FromAdded m old new wider)
      (sym (ap (join_all outer left) (map-taken (join_of c) joins i step within is) ∙ joins-behind outer left (map (join_of c) (take i joins)) (join_of c step)))
      (adds (join_all outer left (map (join_of c) (take i joins))) old so_far)

-- ---- parts before and behind commas

pub no-sources : (outer : List Scope) (old : Gathered) → Adds (held_from (from_all outer []) ∷ []) old old
no-sources outer old = adds-nothing old (record { breaks = λ none. refl; inside = λ none. refl })

alone-over : (m : FromMeant) → IsOver (held_from m) (held_from no_from ∷ held_from m ∷ [])
alone-over m = over-pair (held_from m) (held_from no_from) (held_from m) (λ none. none) (λ none. refl)

pub source-more : (outer : List Scope) (parts : List FromPart) (part : FromPart) (old middle new : Gathered)
    → Adds (held_from (from_all outer parts) ∷ []) old middle → ((names : List (List ℕ)) → Adds (held_from (part.means outer names) ∷ []) middle new)
    → Adds (held_from (from_all outer (parts ++ part ∷ [])) ∷ []) old new
source-more outer [] part old middle new so_far added = adds-over (alone-over (part.means outer [])) (adds-both so_far (added []))
source-more outer (first ∷ parts) part old middle new so_far added =
    let left = from_more outer (first.means outer []) parts in
    let right = part.means outer left.names in
    adds-alike (ap held_from (more-behind outer (first.means outer []) parts part))
    (adds-over (beside-over left right) (adds-both so_far (added left.names)))

module _ (c : Contents) where
  abbrev fields : JoinStep → JoinPart
  fields step = record {
    word = (out-JoinStep step).word;
    item = from_item_of c (out-JoinStep step).item;
    condition = option_map (part_of c) (out-JoinStep step).condition;
  }

  pub join-tree : (outer : List Scope) (step : JoinStep) (read : Option (List ℕ × List Column)) (own wider : Scope) (middle items_in new : Gathered)
      → is_lateral (out-JoinStep step).word ≡ false
      → ((names : List (List ℕ)) → Adds (held_item ((from_item_of c (out-JoinStep step).item).means (in_from outer) names) ∷ []) middle items_in)
      → ((names : List (List ℕ)) → IsReadAs ((from_item_of c (out-JoinStep step).item).means (in_from outer) names) read) → PutsRead read own wider
      → Adds (held_optional (in_clause wider outer false) (option_map (part_of c) (out-JoinStep step).condition)) items_in new
      → AddsJoin outer (join_of c step) own wider middle new
  join-tree outer step read own wider middle items_in new plain item reads puts on =
      subst (λ (part : JoinPart). AddsJoin outer part own wider middle new) (sym (join-fields c step))
      (join-added outer (fields step) read own wider middle items_in new plain item reads puts on)

  pub lateral-tree : (outer : List Scope) (step : JoinStep) (own wider : Scope) (middle new : Gathered) → is_lateral (out-JoinStep step).word ≡ true
      → AddsItem (around_beside (own ∷ outer)) (from_item_of c (out-JoinStep step).item) own wider middle new → AddsJoin outer (join_of c step) own wider middle new
  lateral-tree outer step own wider middle new lateral item =
      subst (λ (part : JoinPart). AddsJoin outer part own wider middle new) (sym (join-fields c step))
      (lateral-added outer (fields step) own wider middle new lateral item)

  item-over : (at : ℕ) (mark : ScopeMark) (earlier : List (List ℕ)) (name label : List ℕ) (read : Read)
      → IsOver (held_item (item_meant at mark earlier name label read)) (held_read read ∷ [])
  item-over at mark earlier name label read = record {
    breaks = λ none. breaks-one (held_read read) ∙ front-none read.breaks _ (front-none _ _ none);
    inside = λ none. sym (inside-one (held_read read));
  }

  module _ (around : Around) (names : List (List ℕ)) (item : FromItem) where
    item-stands : IsOver (held_item ((from_item_of c item).means around names)) (held_read (read_of c around (source_of c item.source)) ∷ [])
    item-stands = over-alike (ap (λ part. held_item (part.means around names)) (opened_from_item c item))
        (item-over item.at item.mark names (scope_name (source_of c item.source) item.alias) (label_of (source_of c item.source) item.alias)
        (read_of c around (source_of c item.source)))

    pub named-adds : (name read : Name) (old new : Gathered) → item.source ≡ source.Named name → read ≡ name
        → Adds (held_read (read_named c read) ∷ []) old new
        → Adds (held_item ((from_item_of c item).means around names) ∷ []) old new
    unfolding token
    named-adds name read old new is same added = adds-over item-stands
        (subst (λ (r : Read). Adds (held_read r ∷ []) old new)
        (ap (read_named c) same ∙ sym (ap (read_of c around) (ap (source_of c) is ∙ fromsource-named c name))) added)

    pub inner-adds : (query read : QueryTree) (old new : Gathered) → item.source ≡ source.Inner query → read ≡ query
        → Adds (held_query (query_means_at (query_of c read) around) ∷ []) old new
        → Adds (held_item ((from_item_of c item).means around names) ∷ []) old new
    unfolding token query_means_at
    inner-adds query read old new is same added = adds-over item-stands
        (subst (λ (h : Held). Adds (h ∷ []) old new)
        (ap (λ (q : QueryTree). held_query (query_means_at (query_of c q) around)) same
        ∙ sym (ap (λ (part : SourcePart). held_read (read_of c around part)) (ap (source_of c) is ∙ fromsource-inner c query))) added)

-- ---- the SELECT list

star-over : (has_from : Bool) (scope : Scope) (at : ℕ) → IsOver (held_select (star_meant has_from scope at)) []
star-over true scope at = record { breaks = λ none. refl; inside = λ none. refl }
star-over false scope at = record { breaks = λ none. refl; inside = λ none. refl }

table_star-over : (scope : Scope) (table : Name) → IsOver (held_select (table_star_meant scope table)) []
table_star-over scope table = chosen (item_columns table.text scope) where
  chosen : (columns : Option (List Placed)) → IsOver (held_select (option_map_or (columns_meant scope table.at) columns (no_columns table.at))) []
  chosen None = record { breaks = λ none. refl; inside = λ none. refl }
  chosen (Some columns) = record { breaks = λ none. refl; inside = λ none. refl }

module _ (c : Contents) (has_from : Bool) (scope : Scope) (here : Surroundings) (item : SelectItem) where
  abbrev item_held : Held
  item_held = held_select ((item_of c item).means has_from scope here)

  abbrev as_held : SelectPart → Held
  as_held part = held_select (part.means has_from scope here)

  pub star-adds : (at : ℕ) (old : Gathered) → item ≡ i.Star at → Adds (held_items has_from scope here (item_of c item ∷ [])) old old
  unfolding token
  star-adds at old is = adds-nothing old (over-alike (ap as_held (ap (item_of c) is ∙ selectitem-star c at)) (star-over has_from scope at))

  pub table_star-adds : (table : Name) (old : Gathered) → item ≡ i.TableStar table → Adds (held_items has_from scope here (item_of c item ∷ [])) old old
  unfolding token
  table_star-adds table old is =
      adds-nothing old (over-alike (ap as_held (ap (item_of c) is ∙ selectitem-tablestar c table)) (table_star-over scope table))

  pub value-adds : (expr : ExprTree) (name : Option Name) (old new : Gathered) → item ≡ i.Value expr name
      → Adds (held_at here (part_of c expr) ∷ []) old new → Adds (held_items has_from scope here (item_of c item ∷ [])) old new
  unfolding token means_at
  value-adds expr name old new is added =
      subst (λ (h : Held). Adds (h ∷ []) old new) (sym (ap as_held (ap (item_of c) is ∙ selectitem-value c expr name))) added

-- ---- cores

list-breaks : (has_from : Bool) (scope : Scope) (here : Surroundings) (items : List SelectPart)
    → all_breaks (held_items has_from scope here items) ≡ items_breaks (map (λ (item : SelectPart). item.means has_from scope here) items)
list-breaks has_from scope here [] = refl
list-breaks has_from scope here (item ∷ items) = ap (λ (bs : List Break). (item.means has_from scope here).breaks ++ bs) (list-breaks has_from scope here items)

list-inside : (has_from : Bool) (scope : Scope) (here : Surroundings) (items : List SelectPart)
    → items_inside (map (λ (item : SelectPart). item.means has_from scope here) items) ≡ all_inside (held_items has_from scope here items)
list-inside has_from scope here [] = refl
list-inside has_from scope here (item ∷ items) = ap (both_inside (item.means has_from scope here).inside) (list-inside has_from scope here items)

appended-none : (hs ks : List Held) → all_breaks hs ≡ [] → all_breaks ks ≡ [] → all_breaks (hs ++ ks) ≡ []
appended-none hs ks e f = breaks-append hs ks ∙ (λ i. e i ++ f i)

four-inside : (hs ks ls ms : List Held) (a b c d : Inside) → a ≡ all_inside hs → b ≡ all_inside ks → c ≡ all_inside ls → d ≡ all_inside ms
    → both_inside a (both_inside b (both_inside c d)) ≡ all_inside (hs ++ (ks ++ (ls ++ ms)))
four-inside hs ks ls ms a b c d e f g h =
    (λ i. both_inside (e i) (both_inside (f i) (both_inside (g i) (h i))))
    ∙ ap (λ (rest : Inside). both_inside (all_inside hs) (both_inside (all_inside ks) rest)) (sym (inside-append ls ms))
    ∙ ap (both_inside (all_inside hs)) (sym (inside-append ks (ls ++ ms)))
    ∙ sym (inside-append hs (ks ++ (ls ++ ms)))

module _ (around : Around) (word : Option ℕ) (has_from is_distinct : Bool) (items : List SelectPart) (sources : List FromPart)
    (condition : Option Part) (groups : List ColRef) (having : Option Part) where
  abbrev input : FromMeant
  input = from_all around.outer sources

  abbrev known_items : List ScopeItem
  known_items = option_map_or (λ (known : List ScopeItem). known) input.items []

  abbrev plain_scope : Scope
  plain_scope = scope_of known_items

  abbrev wide_scope : Scope
  wide_scope = group_scope plain_scope groups having items

  abbrev where_here : Surroundings
  where_here = in_clause plain_scope around.outer false

  abbrev list_here : Surroundings
  list_here = in_clause wide_scope around.outer true

  abbrev seen_clauses : ClausesMeant
  seen_clauses = core_clauses where_here list_here wide_scope has_from input condition having items

  looked-over : input.breaks ≡ []
      → IsOver (held_query (core_over around.outer (word_breaks around word) input has_from is_distinct items condition groups having known_items))
      (held_clauses around wide_scope has_from items sources condition having)
  looked-over from_none = record {
    breaks = λ none.
        let clauses : clause_breaks plain_scope condition groups having seen_clauses ≡ [] = back-none (word_breaks around word) _ none in
        let listed : items_breaks seen_clauses.list ≡ [] = back-none _ (items_breaks seen_clauses.list) clauses in
        let before : (optional_breaks condition seen_clauses.where_meant ++ flat_map (group_break plain_scope) groups) ++ optional_breaks having seen_clauses.having_meant ≡ [] =
        front-none _ (items_breaks seen_clauses.list) clauses in
        appended-none (held_items has_from wide_scope list_here items) _ (list-breaks has_from wide_scope list_here items ∙ listed)
        (appended-none (held_from input ∷ []) (held_optional where_here condition ++ held_optional list_here having) (breaks-one (held_from input) ∙ from_none)
        (appended-none (held_optional where_here condition) (held_optional list_here having)
        (optional-none where_here condition (front-none _ (flat_map (group_break plain_scope) groups) (front-none _ (optional_breaks having seen_clauses.having_meant) before)))
        (optional-none list_here having (back-none _ (optional_breaks having seen_clauses.having_meant) before))));
    inside = λ none.
        four-inside (held_items has_from wide_scope list_here items) (held_from input ∷ [])
        (held_optional where_here condition) (held_optional list_here having)
        (items_inside seen_clauses.list) input.inside (optional_inside seen_clauses.where_meant) (optional_inside seen_clauses.having_meant)
        (list-inside has_from wide_scope list_here items) (sym (inside-one (held_from input)))
        (optional-inside where_here condition) (optional-inside list_here having);
  }

  core_seen-over : (scope : Scope) → HasScope input groups having items (Some scope)
      → IsOver (held_query (core_seen around word input has_from is_distinct items condition groups having))
      (held_clauses around scope has_from items sources condition having)
  core_seen-over scope is = chosen (is_whole input.breaks) refl where
    chosen : (b : Bool) → is_whole input.breaks ≡ b
        → IsOver (held_query (cond b
        (core_over around.outer (word_breaks around word) input has_from is_distinct items condition groups having known_items)
        (core_unlooked (word_breaks around word) input)))
        (held_clauses around scope has_from items sources condition having)
    chosen true e =
        let from_none : input.breaks ≡ [] = whole-none input.breaks e in
        subst (λ (s : Scope). IsOver (held_query (core_over around.outer (word_breaks around word) input has_from is_distinct items condition groups having known_items))
        (held_clauses around s has_from items sources condition having)) (sym (is from_none)) (looked-over from_none)
    chosen false e = record {
      breaks = λ none. absurd (true≢false (sym (none-whole input.breaks (back-none (word_breaks around word) input.breaks none)) ∙ e));
      inside = λ none. absurd (true≢false (sym (none-whole input.breaks (back-none (word_breaks around word) input.breaks none)) ∙ e));
    }

  core_seen-broken : HasScope input groups having items None
      → (held_query (core_seen around word input has_from is_distinct items condition groups having)).breaks ≡ [] → ⊥
  core_seen-broken broken = chosen (is_whole input.breaks) refl where
    chosen : (b : Bool) → is_whole input.breaks ≡ b
        → (held_query (cond b
        (core_over around.outer (word_breaks around word) input has_from is_distinct items condition groups having known_items)
        (core_unlooked (word_breaks around word) input))).breaks ≡ [] → ⊥
    chosen true e none = broken (whole-none input.breaks e)
    chosen false e none = broken (back-none (word_breaks around word) input.breaks none)

module _ (c : Contents) (around : Around) (core : Core) where
  abbrev seen_core : QueryMeant
  seen_core = core_seen around (out-Core core).provenance (from_all around.outer (source_parts c core))
      (has_some (source_parts c core)) (out-Core core).distinct (select_parts c core) (condition_part c core) (out-Core core).groups (having_part c core)

  core-stands-so : (core_of c core).means around ≡ seen_core
  core-stands-so = ap (λ (body : BodyPart). body.means around) (core-is c core)

  abbrev Found : Option Scope → Type 0
  Found found = HasScope (from_all around.outer (source_parts c core)) (out-Core core).groups (having_part c core) (select_parts c core) found

  pub core-adds : (found : Option Scope) (scope : Scope) (old new : Gathered) → Found found → found ≡ Some scope
      → Adds (clauses_of c around scope core) old new → Adds (held_query ((core_of c core).means around) ∷ []) old new
  core-adds found scope old new is some added = adds-over
      (over-alike (ap held_query core-stands-so)
      (core_seen-over around (out-Core core).provenance (has_some (source_parts c core)) (out-Core core).distinct (select_parts c core) (source_parts c core)
      (condition_part c core) (out-Core core).groups (having_part c core) scope (subst Found some is))) added

  pub core-broken : (found : Option Scope) (old : Gathered) → Found found → found ≡ None → Adds (held_query ((core_of c core).means around) ∷ []) old old
  core-broken found old is none = adds-broken old
      (λ whole. core_seen-broken around (out-Core core).provenance (has_some (source_parts c core)) (out-Core core).distinct (select_parts c core) (source_parts c core)
      (condition_part c core) (out-Core core).groups (having_part c core) (subst Found none is) (ap (λ (m : QueryMeant). m.breaks) (sym core-stands-so) ∙ whole))

-- what the scope of FROM is behind GROUP BY
pub scope-found : (input : FromMeant) (groups : List ColRef) (having : Option Part) (items : List SelectPart) (own scope : Scope) → IsScope input own
    → scope ≡ group_scope own groups having items → HasScope input groups having items (Some scope)
scope-found input groups having items own scope found is whole =
    is ∙ ap (λ (own : Scope). group_scope own groups having items)
    (found.scope_is ∙ ap (λ (known : Option (List ScopeItem)). scope_of (option_map_or (λ known. known) known [])) (sym found.known))

-- the clauses of a core one after the other
pub clauses-adds : (c : Contents) (around : Around) (scope : Scope) (core : Core) (in_list in_where : Surroundings) (items : List SelectItem) (sources : List FromTree)
    (old first second third new : Gathered) → in_list ≡ in_clause scope around.outer true
    → in_where ≡ in_clause (record scope { groups = None }) around.outer false
    → items ≡ (out-Core core).items → sources ≡ (out-Core core).sources
    → ((has_from : Bool) (sight : Scope) → Adds (held_items has_from sight in_list (map (item_of c) items)) old first)
    → Adds (held_from (from_all around.outer (map (from_of c) sources)) ∷ []) first second
    → Adds (held_optional in_where (condition_part c core)) second third → Adds (held_optional in_list (having_part c core)) third new
    → Adds (clauses_of c around scope core) old new
clauses-adds c around scope core in_list in_where items sources old first second third new list_is where_is same same_too listed from condition having =
    adds-both
    (subst (λ (here : Surroundings). Adds (held_items (has_some (source_parts c core)) scope here (select_parts c core)) old first) list_is
    (subst (λ (items : List SelectItem). Adds (held_items (has_some (source_parts c core)) scope in_list (map (item_of c) items)) old first) same
    (listed (has_some (source_parts c core)) scope)))
    (adds-both (subst (λ (sources : List FromTree). Adds (held_from (from_all around.outer (map (from_of c) sources)) ∷ []) first second) same_too from)
    (adds-both (subst (λ (here : Surroundings). Adds (held_optional here (condition_part c core)) second third) where_is condition)
    (subst (λ (here : Surroundings). Adds (held_optional here (having_part c core)) third new) list_is having)))
