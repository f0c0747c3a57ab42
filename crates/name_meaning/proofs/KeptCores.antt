-- What a core keeps: the kinds of its columns, and its facts.
use Rattle.std.specs.Prelude.{◌≡◌, ⊤, ℕ, Bool, true, false, cond, List, [], ◌∷◌, ◌++◌, flat_map, Option, Some, None, option_map}
use Rattle.std.proofs.Common.{refl, ap, sym, ◌∙◌, subst}
use Rattle.std.specs.Option.{option_map_or}
use Rattle.perm_values.specs.declared.kind.Kind.{Kind}
use Rattle.perm_values.specs.declared.kind.Kind.TheVariants as kind
use Rattle.perm_values.proofs.Lists.{back-none}
use Rattle.bag_algebra.specs.built.Openings.{kinds_of-Project, kinds_of-Distinct}
use Rattle.bag_algebra.specs.Kinds.{kinds_of, item_kinds}
use Rattle.bag_algebra.specs.declared.query.Aggr.{Aggr}
use Rattle.bag_algebra.specs.declared.query.Query.{Query}
use Rattle.bag_algebra.specs.declared.query.Query.TheVariants.{Project}
use Rattle.sql_tree.specs.declared.name.ColRef.{ColRef}
use Rattle.contribution.proofs.WhereGood.{Every, every-append}
use Rattle.name_meaning.specs.Cores.{settle, settle_known, optional_built, group_break, group_scope, filtered, aggregated_input, distinct_if, core_query, ClausesMeant, list_columns, before_list, clauses_query, core_meant, core_unlooked, core_clauses, clause_breaks, core_over, word_breaks, core_seen}
use Rattle.name_meaning.specs.Froms.{FromMeant, in_clause, optional_meant, optional_breaks}
use Rattle.name_meaning.specs.Items.{Made, SelectPart, made_items, named_from, items_breaks}
use Rattle.name_meaning.specs.Meanings.{Surroundings, Meant, Part, Around, OutColumn, is_whole}
use Rattle.name_meaning.specs.Scopes.{ScopeItem, scope_of}
use Rattle.name_meaning.specs.Sublinks.{nothing_before}
use Rattle.name_meaning.specs.declared.answer.Break.{Break}
use Rattle.name_meaning.specs.declared.scope.Scope.{Scope}
use Rattle.name_meaning.specs.laws.Facts.{Facts, facts_of, both_facts, sub_facts}
use Rattle.name_meaning.proofs.Every.{every-map}
use Rattle.name_meaning.proofs.FactsOf.{facts-Filter, facts-Project, facts-aggregated, facts-distinct_if}
use Rattle.name_meaning.proofs.Kept.{GoodQuery}
use Rattle.name_meaning.proofs.KeptItems.{ListIsKnown, GoodSelect, GoodItem, known-list, steady-list, named-list}
use Rattle.name_meaning.proofs.NamedPlaces.{IsNamed, AreNamed}
use Rattle.name_meaning.proofs.SettledKinds.{settle-twice, settle-named}
use Rattle.name_meaning.proofs.SteadyMeant.{GoodMeant, GoodPart}

-- ---- kinds

kinds-distinct_if : (is_distinct : Bool) (query : Query) → kinds_of (distinct_if is_distinct query) ≡ kinds_of query
kinds-distinct_if true query = kinds_of-Distinct query
kinds-distinct_if false query = refl

kinds-core : (input : Query) (condition : Option Meant) (groups : Option (List ℕ)) (having : Option Meant) (list : Made) (is_distinct : Bool)
    → kinds_of (core_query input condition groups having list is_distinct) ≡ item_kinds list.items
kinds-core input condition groups having list is_distinct =
    let aggregates : List Aggr = (optional_built having).aggregates ++ list.aggregates in
    let rows : Query = aggregated_input (filtered input condition) groups aggregates in
    kinds-distinct_if is_distinct (Project (filtered rows having) list.items list.subs)
    ∙ kinds_of-Project (filtered rows having) list.items list.subs

-- a list that is known, at the kinds that are wanted of it
kinds-clauses : (k : ClausesMeant) (list : ListIsKnown k.list) (is_distinct : Bool) (wanted : List Kind)
    → kinds_of (clauses_query k is_distinct wanted) ≡ settle (named_from 1 list.titles) wanted
kinds-clauses k list is_distinct wanted =
    let columns : List OutColumn = named_from 1 list.titles in
    let known : list_columns k ≡ Some columns = ap (option_map (named_from 1)) list.are in
    kinds-core k.input.query k.where_meant k.groups k.having_meant (made_items k.list (settle_known (list_columns k) wanted) (before_list k)) is_distinct
    ∙ list.kinds (settle_known (list_columns k) wanted) (before_list k)
    ∙ sym (settle-named 1 list.titles (settle_known (list_columns k) wanted))
    ∙ ap (λ (c : Option (List OutColumn)). settle columns (settle_known c wanted)) known
    ∙ settle-twice columns wanted

-- ---- facts

abbrev filter_facts : Facts → Option Meant → Facts
filter_facts facts None = facts
filter_facts facts (Some m) = both_facts facts (sub_facts (optional_built (Some m)).subs)

facts-filtered : (input : Query) (condition : Option Meant) → facts_of (filtered input condition) ≡ filter_facts (facts_of input) condition
facts-filtered input None = refl
facts-filtered input (Some m) = facts-Filter input (optional_built (Some m)).expr (optional_built (Some m)).subs

-- those of FROM, WHERE, HAVING and the list, in this order
abbrev pub core_facts : Facts → Option Meant → Option Meant → Facts → Facts
core_facts input condition having list = both_facts (filter_facts (filter_facts input condition) having) list

pub facts-core : (input : Query) (condition : Option Meant) (groups : Option (List ℕ)) (having : Option Meant) (list : Made) (is_distinct : Bool)
    → facts_of (core_query input condition groups having list is_distinct) ≡ core_facts (facts_of input) condition having (sub_facts list.subs)
facts-core input condition groups having list is_distinct =
    let aggregates : List Aggr = (optional_built having).aggregates ++ list.aggregates in
    let rows : Query = aggregated_input (filtered input condition) groups aggregates in
    facts-distinct_if is_distinct (Project (filtered rows having) list.items list.subs)
    ∙ facts-Project (filtered rows having) list.items list.subs
    ∙ ap (λ (facts : Facts). both_facts facts (sub_facts list.subs))
    (facts-filtered rows having ∙ ap (λ (facts : Facts). filter_facts facts having) (facts-aggregated (filtered input condition) groups aggregates ∙ facts-filtered input condition))

pub never-whole : (breaks : List Break) → breaks ≡ [] → is_whole breaks ≡ false → ⊥
never-whole [] e f = cc f
never-whole (b ∷ bs) e f = cc e

module _ (Sound : Type 0) where
  abbrev pub GoodOptional : Option Meant → Type 0
  GoodOptional None = ⊤
  GoodOptional (Some m) = GoodMeant Sound m

  abbrev pub GoodOptionalPart : Option Part → Type 0
  GoodOptionalPart None = ⊤
  GoodOptionalPart (Some part) = GoodPart Sound part

  -- FROM, whose places are named, and the clauses
  pub record GoodClauses (k : ClausesMeant) : Type 0 where
    pub input : Sound → AreNamed (facts_of k.input.query).places
    pub condition : GoodOptional k.where_meant
    pub having : GoodOptional k.having_meant
    pub list : Every (GoodSelect Sound) k.list

  named-filter : Sound → (facts : Facts) (condition : Option Meant) → AreNamed facts.places → GoodOptional condition → AreNamed (filter_facts facts condition).places
  named-filter sound facts None named good = named
  named-filter sound facts (Some m) named good =
      every-append IsNamed facts.places (sub_facts (m.make kind.Boolean nothing_before).subs).places named (good.named sound kind.Boolean nothing_before)

  abbrev list_made : ClausesMeant → List Kind → Made
  list_made k wanted = made_items k.list (settle_known (list_columns k) wanted) (before_list k)

  named-clauses : Sound → (k : ClausesMeant) (is_distinct : Bool) (wanted : List Kind) → GoodClauses k → AreNamed (facts_of (clauses_query k is_distinct wanted)).places
  named-clauses sound k is_distinct wanted good =
      let input : Facts = facts_of k.input.query in
      let condition = named-filter sound input k.where_meant (good.input sound) good.condition in
      let having = named-filter sound (filter_facts input k.where_meant) k.having_meant condition good.having in
      subst (λ (facts : Facts). AreNamed facts.places)
      (sym (facts-core k.input.query k.where_meant k.groups k.having_meant (list_made k wanted) is_distinct))
      (every-append IsNamed (filter_facts (filter_facts input k.where_meant) k.having_meant).places (sub_facts (list_made k wanted).subs).places having
      (named-list Sound sound k.list (settle_known (list_columns k) wanted) (before_list k) good.list))

  steady-clauses : (k : ClausesMeant) (is_distinct : Bool) (w v : List Kind) → GoodClauses k → facts_of (clauses_query k is_distinct w) ≡ facts_of (clauses_query k is_distinct v)
  steady-clauses k is_distinct w v good =
      facts-core k.input.query k.where_meant k.groups k.having_meant (list_made k w) is_distinct
      ∙ ap (core_facts (facts_of k.input.query) k.where_meant k.having_meant)
      (steady-list Sound k.list (settle_known (list_columns k) w) (settle_known (list_columns k) v) (before_list k) (before_list k) good.list)
      ∙ sym (facts-core k.input.query k.where_meant k.groups k.having_meant (list_made k v) is_distinct)

  -- ---- the whole

  pub good-core_meant : (words clauses : List Break) (k : ClausesMeant) (is_distinct : Bool) → GoodClauses k
      → (clauses ≡ [] → items_breaks k.list ≡ []) → GoodQuery Sound (core_meant words clauses k is_distinct)
  good-core_meant words clauses k is_distinct good listed = record {
    known = λ sound whole.
        let list : ListIsKnown k.list = known-list Sound k.list good.list (listed (back-none words clauses whole)) in
        record {
          columns = named_from 1 list.titles;
          known = ap (option_map (named_from 1)) list.are;
          kinds = λ wanted. kinds-clauses k list is_distinct wanted;
        };
    steady = λ w v. steady-clauses k is_distinct w v good;
    named = λ sound w. named-clauses sound k is_distinct w good;
  }

  pub good-core_unlooked : (words : List Break) (input : FromMeant) → is_whole input.breaks ≡ false → GoodQuery Sound (core_unlooked words input)
  good-core_unlooked words input broken = record {
    known = λ sound whole. absurd (never-whole input.breaks (back-none words input.breaks whole) broken);
    steady = λ w v. refl;
    named = λ sound w. tt;
  }

  good-optional : (here : Surroundings) (part : Option Part) → GoodOptionalPart part → GoodOptional (optional_meant here part)
  good-optional here None good = tt
  good-optional here (Some part) good = good here

  pub good-core_over : (outer : List Scope) (words : List Break) (input : FromMeant) (has_from is_distinct : Bool) (items : List SelectPart)
      (condition : Option Part) (groups : List ColRef) (having : Option Part) (scope_items : List ScopeItem)
      → (Sound → AreNamed (facts_of input.query).places) → Every (GoodItem Sound) items → GoodOptionalPart condition → GoodOptionalPart having
      → GoodQuery Sound (core_over outer words input has_from is_distinct items condition groups having scope_items)
  good-core_over outer words input has_from is_distinct items condition groups having scope_items from good_items good_condition good_having =
      let own : Scope = scope_of scope_items in
      let grouped : Scope = group_scope own groups having items in
      let here : Surroundings = in_clause own outer false in
      let grouped_here : Surroundings = in_clause grouped outer true in
      let k : ClausesMeant = core_clauses here grouped_here grouped has_from input condition having items in
      let front = (optional_breaks condition k.where_meant ++ flat_map (group_break own) groups) ++ optional_breaks having k.having_meant in
      let good : GoodClauses k = record {
        input = from;
        condition = good-optional here condition good_condition;
        having = good-optional grouped_here having good_having;
        list = every-map (GoodItem Sound) (GoodSelect Sound) (λ (item : SelectPart). item.means has_from grouped grouped_here)
            (λ item g. g has_from grouped grouped_here) items good_items;
      } in
      good-core_meant words (clause_breaks own condition groups having k) k is_distinct good (λ whole. back-none front (items_breaks k.list) whole)

  pub good-core_seen : (around : Around) (word : Option ℕ) (input : FromMeant) (has_from is_distinct : Bool) (items : List SelectPart)
      (condition : Option Part) (groups : List ColRef) (having : Option Part)
      → (Sound → AreNamed (facts_of input.query).places) → Every (GoodItem Sound) items → GoodOptionalPart condition → GoodOptionalPart having
      → GoodQuery Sound (core_seen around word input has_from is_distinct items condition groups having)
  good-core_seen around word input has_from is_distinct items condition groups having from good_items good_condition good_having =
      chosen (is_whole input.breaks) refl where
        chosen : (b : Bool) → is_whole input.breaks ≡ b → GoodQuery Sound (cond b
            (core_over around.outer (word_breaks around word) input has_from is_distinct items condition groups having
            (option_map_or (λ known. known) input.items []))
            (core_unlooked (word_breaks around word) input))
        chosen true e = good-core_over around.outer (word_breaks around word) input has_from is_distinct items condition groups having
            (option_map_or (λ known. known) input.items []) from good_items good_condition good_having
        chosen false e = good-core_unlooked (word_breaks around word) input e
