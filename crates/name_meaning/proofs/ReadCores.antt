-- What holds of each table of the catalog holds of each that cores and set operations read.
use Rattle.std.specs.Prelude.{⊤, ℕ, ℤ, Bool, true, false, cond, List, [], ◌∷◌, ◌++◌, nat_abs, Option, Some, None}
use Rattle.std.proofs.Common.{append_assoc, subst}
use Rattle.std.specs.Option.{option_map_or}
use Rattle.perm_values.specs.declared.key.Key.{Key}
use Rattle.perm_values.specs.declared.kind.Kind.{Kind}
use Rattle.perm_values.specs.declared.kind.Kind.TheVariants as kind
use Rattle.bag_algebra.specs.TablesRead.{EachTable}
use Rattle.bag_algebra.specs.declared.query.Aggr.{Aggr}
use Rattle.bag_algebra.specs.declared.query.Query.{Query}
use Rattle.bag_algebra.specs.declared.query.Query.TheVariants.{Project}
use Rattle.sql_tree.specs.declared.name.ColRef.{ColRef}
use Rattle.sql_tree.specs.declared.query.OrderTree.{OrderTree}
use Rattle.sql_tree.specs.declared.query.SetWord.{SetWord}
use Rattle.sql_tree.specs.declared.query.SetWord.TheVariants as word
use Rattle.contribution.proofs.WhereGood.{Every}
use Rattle.name_meaning.specs.Cores.{BodyPart, settle_known, optional_built, group_scope, filtered, aggregated_input, distinct_if, ClausesMeant, list_columns, before_list, core_unlooked, core_clauses, core_over, word_breaks, core_seen}
use Rattle.name_meaning.specs.Froms.{FromMeant, in_clause, optional_meant, optional_inside}
use Rattle.name_meaning.specs.Items.{Made, SelectPart, made_items, items_inside}
use Rattle.name_meaning.specs.Meanings.{Surroundings, Part, Around, Built, QueryMeant, is_whole}
use Rattle.name_meaning.specs.Queries.{SetStepPart, set_of, columns_so_far, set_joined, may_not_ask, set_chain, keys_of, limited, plain_query, query_with_provenance, asks_provenance, query_seen}
use Rattle.name_meaning.specs.Scopes.{ScopeItem, scope_of}
use Rattle.name_meaning.specs.Sublinks.{nothing_before}
use Rattle.name_meaning.specs.declared.answer.Break.{Break}
use Rattle.name_meaning.specs.declared.scope.Scope.{Scope}
use Rattle.name_meaning.proofs.Every.{every-map}
use Rattle.name_meaning.proofs.ReadMeant.{QueryReads, PartReads, SelectReads, ItemReads, reads-list}
use Rattle.name_meaning.proofs.ReadNodes.{Grows, wide-left, wide-right, subs-left, subs-right, reads-Filter, reads-Project, reads-Union, reads-Intersect, reads-Except, reads-Distinct, reads-Aggregate, reads-Limit, reads-Prov}

module _ (P : ℕ → List Kind → Type 0) where
  reads-aggregated : (input : Query) (groups : Option (List ℕ)) (aggregates : List Aggr) → EachTable P input → EachTable P (aggregated_input input groups aggregates)
  reads-aggregated input None aggregates h = h
  reads-aggregated input (Some groups) aggregates h = reads-Aggregate P input groups aggregates h

  reads-distinct_if : (is_distinct : Bool) (query : Query) → EachTable P query → EachTable P (distinct_if is_distinct query)
  reads-distinct_if true query h = reads-Distinct P query h
  reads-distinct_if false query h = h

  reads-set : (op : SetWord) (all : Bool) (left right : Query) → EachTable P left → EachTable P right → EachTable P (set_of op all left right)
  reads-set word.Union all left right f g = reads-Union P all left right f g
  reads-set word.Except all left right f g = reads-Except P all left right f g
  reads-set word.Intersect all left right f g = reads-Intersect P all left right f g

  reads-limited : (limit : Option ℤ) (keys : List Key) (query : Query) → EachTable P query → EachTable P (limited limit keys query)
  reads-limited None keys query h = h
  reads-limited (Some n) keys query h = reads-Limit P query keys (nat_abs n) h

module _ (P : List (List ℕ) → ℕ → List Kind → Type 0) (g : Grows P) where
  -- ---- the clauses of a core

  abbrev pub OptionalReads : Option Part → Type 0
  OptionalReads None = ⊤
  OptionalReads (Some part) = PartReads P g part

  -- in all that stands before, and then in the condition
  reads-filtered : (here : Surroundings) (input : Query) (names : List (List ℕ)) (condition : Option Part) → OptionalReads condition → EachTable (P names) input
      → EachTable (P (names ++ (optional_inside (optional_meant here condition)).names)) (filtered input (optional_meant here condition))
  reads-filtered here input names None good h = wide-left P g names [] input h
  reads-filtered here input names (Some part) good h =
      let own : List (List ℕ) = (part.means here).inside.names in
      let built : Built = optional_built (Some (part.means here)) in
      reads-Filter (P (names ++ own)) input built.expr built.subs (wide-left P g names own input h)
      (subs-right P g names own built.subs (good here kind.Boolean nothing_before))

  reads-core_over : (outer : List Scope) (words : List Break) (input : FromMeant) (has_from is_distinct : Bool) (items : List SelectPart)
      (condition : Option Part) (groups : List ColRef) (having : Option Part) (scope_items : List ScopeItem)
      → EachTable (P input.inside.names) input.query → Every (ItemReads P g) items → OptionalReads condition → OptionalReads having
      → QueryReads P g (core_over outer words input has_from is_distinct items condition groups having scope_items)
  reads-core_over outer words input has_from is_distinct items condition groups having scope_items from good_items good_condition good_having w =
      let own : Scope = scope_of scope_items in
      let grouped : Scope = group_scope own groups having items in
      let here : Surroundings = in_clause own outer false in
      let grouped_here : Surroundings = in_clause grouped outer true in
      let k : ClausesMeant = core_clauses here grouped_here grouped has_from input condition having items in
      let list : Made = made_items k.list (settle_known (list_columns k) w) (before_list k) in
      let aggregates : List Aggr = (optional_built k.having_meant).aggregates ++ list.aggregates in
      let kept : Query = filtered input.query k.where_meant in
      let rows : Query = aggregated_input kept k.groups aggregates in
      let of_items : List (List ℕ) = (items_inside k.list).names in
      let of_input : List (List ℕ) = input.inside.names in
      let of_where : List (List ℕ) = (optional_inside k.where_meant).names in
      let of_having : List (List ℕ) = (optional_inside k.having_meant).names in
      let below : List (List ℕ) = of_input ++ (of_where ++ of_having) in
      let kept_reads = reads-filtered here input.query of_input condition good_condition from in
      let rows_read = reads-aggregated (P (of_input ++ of_where)) kept k.groups aggregates kept_reads in
      let chosen : Query = filtered rows k.having_meant in
      let chosen_read : EachTable (P ((of_input ++ of_where) ++ of_having)) chosen = reads-filtered grouped_here rows (of_input ++ of_where) having good_having rows_read in
      let moved : EachTable (P below) chosen = subst (λ (names : List (List ℕ)). EachTable (P names) chosen) (append_assoc of_input of_where of_having) chosen_read in
      let listed : Every (SelectReads P g) k.list =
      every-map (ItemReads P g) (SelectReads P g) (λ (item : SelectPart). item.means has_from grouped grouped_here)
      (λ item good. good has_from grouped grouped_here) items good_items in
      let list_read = reads-list P g k.list (settle_known (list_columns k) w) (before_list k) listed in
      reads-distinct_if (P (of_items ++ below)) is_distinct (Project chosen list.items list.subs)
      (reads-Project (P (of_items ++ below)) chosen list.items list.subs (wide-right P g of_items below chosen moved) (subs-left P g of_items below list.subs list_read))

  pub reads-core_seen : (around : Around) (at : Option ℕ) (input : FromMeant) (has_from is_distinct : Bool) (items : List SelectPart)
      (condition : Option Part) (groups : List ColRef) (having : Option Part)
      → EachTable (P input.inside.names) input.query → Every (ItemReads P g) items → OptionalReads condition → OptionalReads having
      → QueryReads P g (core_seen around at input has_from is_distinct items condition groups having)
  reads-core_seen around at input has_from is_distinct items condition groups having from good_items good_condition good_having =
      chosen (is_whole input.breaks) where
        chosen : (b : Bool) → QueryReads P g (cond b
            (core_over around.outer (word_breaks around at) input has_from is_distinct items condition groups having
            (option_map_or (λ known. known) input.items []))
            (core_unlooked (word_breaks around at) input))
        chosen true = reads-core_over around.outer (word_breaks around at) input has_from is_distinct items condition groups having
            (option_map_or (λ known. known) input.items []) from good_items good_condition good_having
        chosen false = λ w. tt

  -- ---- queries

  abbrev pub BodyReads : BodyPart → Type 0
  BodyReads body = (around : Around) → QueryReads P g (body.means around)

  abbrev pub SetStepReads : SetStepPart → Type 0
  SetStepReads step = BodyReads step.operand

  reads-joined : (left right : QueryMeant) (step : SetStepPart) → QueryReads P g left → QueryReads P g right → QueryReads P g (set_joined left step right)
  reads-joined left right step l r w =
      let at : List Kind = settle_known (columns_so_far left.columns right.columns) w in
      let of_left : List (List ℕ) = left.inside.names in
      let of_right : List (List ℕ) = right.inside.names in
      reads-set (P (of_left ++ of_right)) step.word step.all (left.make at) (right.make at) (wide-left P g of_left of_right (left.make at) (l at))
      (wide-right P g of_left of_right (right.make at) (r at))

  pub reads-chain : (around : Around) (left : QueryMeant) (steps : List SetStepPart) → QueryReads P g left → Every SetStepReads steps
      → QueryReads P g (set_chain around left steps)
  reads-chain around left [] l h = l
  reads-chain around left (step ∷ steps) l h =
      let right : QueryMeant = step.operand.means (may_not_ask around) in
      reads-chain around (set_joined left step right) steps (reads-joined left right step l (h.0 (may_not_ask around))) h.1

  reads-plain_query : (at : ℕ) (body : QueryMeant) (order : List OrderTree) (limit : Option ℤ) → QueryReads P g body
      → QueryReads P g (plain_query at body order limit)
  reads-plain_query at body order limit good w = reads-limited (P body.inside.names) limit (keys_of body.columns order) (body.make w) (good w)

  reads-query_with_provenance : (at : ℕ) (body : QueryMeant) (order : List OrderTree) (limit : Option ℤ) (query : Query) → QueryReads P g body
      → QueryReads P g (query_with_provenance at body order limit query)
  reads-query_with_provenance at body order limit query good w =
      reads-Prov (P body.inside.names) (limited limit (keys_of body.columns order) (body.make w))
      (reads-limited (P body.inside.names) limit (keys_of body.columns order) (body.make w) (good w))

  pub reads-query_seen : (around : Around) (at : ℕ) (body : BodyPart) (order : List OrderTree) (limit : Option ℤ) → BodyReads body
      → QueryReads P g (query_seen around at body order limit)
  reads-query_seen around at body order limit good = chosen (asks_provenance around body) where
    chosen : (b : Bool) → QueryReads P g (cond b
        (query_with_provenance at (body.means around) order limit
        (limited limit (keys_of (body.means around).columns order) ((body.means around).make [])))
        (plain_query at (body.means around) order limit))
    chosen true = reads-query_with_provenance at (body.means around) order limit
        (limited limit (keys_of (body.means around).columns order) ((body.means around).make []))
        (good around)
    chosen false = reads-plain_query at (body.means around) order limit (good around)
