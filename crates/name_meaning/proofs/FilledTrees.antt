-- Every regular query has a column, where its columns are known.
use Rattle.std.specs.Prelude.{List, [], ◌∷◌, map, Option}
use Rattle.std.proofs.Common.{sym, subst}
use Rattle.std.specs.List.{AllByRecursion as Every}
use Rattle.perm_catalog.specs.Contents.{Contents}
use Rattle.perm_catalog.specs.Sound.{IsSound}
use Rattle.sql_tree.specs.Regular.{IsFilled, RegularQuery, RegularSetLayer, RegularCore, RegularFrom, RegularJoin, RegularFromItem, RegularSourceLayer, SetLayer, SourceLayer, regular_query, regular_set_core, regular_set_paren, regular_set_chain, regular_core, regular_from, regular_join_step, regular_from_item, regular_named, regular_inner}
use Rattle.sql_tree.specs.declared.name.Name.{Name}
use Rattle.sql_tree.specs.declared.query.Core.{Core, out-Core}
use Rattle.sql_tree.specs.declared.query.QueryTree.{QueryTree}
use Rattle.sql_tree.specs.declared.query.SelectItem.{SelectItem, out-SelectItem}
use Rattle.sql_tree.specs.declared.source.FromItem.{FromItem}
use Rattle.sql_tree.specs.declared.source.FromTree.{FromTree, out-FromTree}
use Rattle.sql_tree.specs.declared.source.JoinStep.{JoinStep}
use Rattle.name_meaning.specs.Cores.{BodyPart, has_some}
use Rattle.name_meaning.specs.Froms.{JoinPart, first_item, from_all, in_from, source_step}
use Rattle.name_meaning.specs.Meanings.{Around, QueryPart}
use Rattle.name_meaning.specs.Queries.{set_step, may_not_ask}
use Rattle.name_meaning.specs.Trees.{core_of, from_item_of, from_of, item_of, join_of, query_of, set_of_tree, set_step_of, source_of}
use Rattle.name_meaning.proofs.Every.{whole-none}
use Rattle.name_meaning.proofs.Filled.{FilledBody, FilledFrom, FilledItem, FilledSelect, FilledSource, Shown, filled-item_step, filled-map, shown-chain, shown-core_seen, shown-first, shown-from_all, shown-join_all, shown-query_seen, shown-read_of}
use Rattle.name_meaning.proofs.Froms.{GoodFromPart, good-from_all}
use Rattle.name_meaning.proofs.Opened.{opened_core, opened_from, opened_from_item, opened_item, opened_join, opened_query, opened_set, opened_source, shown_core, shown_item, shown_set, shown_source}
use Rattle.name_meaning.proofs.FormedTrees.{all-meant, good-from}

module _ (c : Contents) (sound : IsSound c) where
  filled-select : (item : SelectItem) → FilledSelect (item_of c item)
  filled-select item = subst FilledSelect (sym (opened_item c item)) (filled-item_step (shown_item c (out-SelectItem item)))

  filled-list : (items : List SelectItem) → Every FilledSelect (map (item_of c) items)
  filled-list [] = tt
  filled-list (item ∷ items) = (filled-select item, filled-list items)

  core-of_parts : (core : Core) → IsFilled (out-Core core).items → Every FilledFrom (shown_core c (out-Core core)).sources
      → Every GoodFromPart (shown_core c (out-Core core)).sources → FilledBody (core_of c core)
  core-of_parts core items sources good around =
      let frame = shown_core c (out-Core core) in
      let input = from_all around.outer frame.sources in
      subst (λ (body : BodyPart). Shown (body.means around).columns) (sym (opened_core c core))
      (shown-core_seen around frame.provenance input (has_some frame.sources) frame.distinct frame.items frame.condition frame.groups frame.having
      (λ whole. let from = good-from_all around.outer frame.sources good (whole-none input.breaks whole) in (from.items, from.known))
      (shown-from_all around.outer frame.sources sources)
      (filled-map (item_of c) (out-Core core).items items) (filled-list (out-Core core).items))

  item-of_source : (item : FromItem) → FilledSource (source_of c item.source) → FilledItem (from_item_of c item)
  item-of_source item filled = subst FilledItem (sym (opened_from_item c item))
      (λ around earlier. shown-read_of c sound around (source_of c item.source) filled)

  abbrev FilledJoin : JoinPart → Type 0
  FilledJoin step = FilledItem step.item

  -- ---- the recursion over what makes a tree regular

  mutual
    pub filled-query : {tree : QueryTree} → RegularQuery tree → (around : Around) → Shown ((query_of c tree).means around).columns
    filled-query (regular_query {tree = tree} body order limit) around =
        subst (λ (query : QueryPart). Shown (query.means around).columns) (sym (opened_query c tree))
        (shown-query_seen around tree.at (set_of_tree c tree.body) tree.order tree.limit
        (subst FilledBody (sym (opened_set c tree.body)) (filled-set body)))

    filled-set : {layer : SetLayer} → RegularSetLayer layer → FilledBody (set_step (shown_set c layer))
    filled-set (regular_set_core core) around = filled-core core around
    filled-set (regular_set_paren {query = query} q) around = filled-query q (may_not_ask around)
    filled-set (regular_set_chain {first = first} {steps = steps} regular filled each) around =
        shown-chain around ((set_of_tree c first).means around) (map (set_step_of c) steps)
        (subst FilledBody (sym (opened_set c first)) (filled-set regular) around)

    filled-core : {core : Core} → RegularCore core → FilledBody (core_of c core)
    filled-core (regular_core {core = core} filled items sources condition having) =
        let layer = out-Core core in
        core-of_parts core filled
        (all-meant FilledFrom (from_of c) layer.sources (λ tree in_sources. filled-from (sources tree in_sources)))
        (all-meant GoodFromPart (from_of c) layer.sources (λ tree in_sources. good-from c sound (sources tree in_sources)))

    filled-from : {tree : FromTree} → RegularFrom tree → FilledFrom (from_of c tree)
    filled-from (regular_from {tree = tree} first joins) =
        let layer = out-FromTree tree in
        let item : FilledItem (from_item_of c layer.first) = filled-from_item first in
        let steps : Every FilledJoin (map (join_of c) layer.joins) =
        all-meant FilledJoin (join_of c) layer.joins (λ step in_joins. filled-join (joins step in_joins)) in
        subst FilledFrom (sym (opened_from c tree))
        (λ outer earlier. shown-join_all outer (first_item earlier ((from_item_of c layer.first).means (in_from outer) earlier))
        (map (join_of c) layer.joins) (shown-first earlier ((from_item_of c layer.first).means (in_from outer) earlier) (item (in_from outer) earlier)) steps)

    filled-join : {step : JoinStep} → RegularJoin step → FilledJoin (join_of c step)
    filled-join (regular_join_step {step = step} same lateral item condition) =
        subst FilledJoin (sym (opened_join c step)) (filled-from_item item)

    filled-from_item : {item : FromItem} → RegularFromItem item → FilledItem (from_item_of c item)
    filled-from_item (regular_from_item {item = item} regular mark) =
        item-of_source item (subst FilledSource (sym (opened_source c item.source)) (filled-source regular))

    filled-source : {layer : SourceLayer} {alias : Option Name} → RegularSourceLayer layer alias → FilledSource (source_step (shown_source c layer))
    filled-source regular_named = tt
    filled-source (regular_inner {query = query} q) = λ around. filled-query q around
