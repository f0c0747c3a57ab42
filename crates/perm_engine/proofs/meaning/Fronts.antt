-- Without the word PROVENANCE behind its first SELECT, a query is resolved to no PROVENANCE.
use Rattle.std.specs.Prelude.{◌≡◌, ◌≢◌, ⊤, ℕ, ℤ, Bool, true, false, cond, List, [], ◌∷◌, ◌++◌, Option, Some, None}
use Rattle.std.proofs.Common.{◌∙◌, refl, sym, ap, true≢false}
use Rattle.std.specs.Option.{option_map_or}
use Rattle.perm_catalog.specs.Contents.{Contents}
use Rattle.perm_values.specs.declared.key.Key.{Key}
use Rattle.perm_values.specs.declared.kind.Kind.{Kind}
use Rattle.bag_algebra.specs.built.Openings.{Distinct-is, Except-is, Intersect-is, Limit-is, Project_with-is, Prov-is, Union-is}
use Rattle.bag_algebra.specs.built.Patterns.{BaseOf, FilterOf, ProjectOf, JoinOf, ApplyOf, UnionOf, IntersectOf, ExceptOf, DistinctOf, AggregateOf, LimitOf, ProvOf}
use Rattle.bag_algebra.specs.declared.expr.Item.{Item}
use Rattle.bag_algebra.specs.declared.query.Query.{Query}
use Rattle.bag_algebra.specs.declared.query.Query.TheVariants.{Table, Single, Project, Prov}
use Rattle.bag_algebra.specs.declared.query.Sublink.{Sublink}
use Rattle.sql_tree.specs.declared.expression.ExprBody.TheOpen.{SetTree-F}
use Rattle.sql_tree.specs.declared.name.ColRef.{ColRef}
use Rattle.sql_tree.specs.declared.query.OrderTree.{OrderTree}
use Rattle.sql_tree.specs.declared.query.SetTree.{SetTree}
use Rattle.sql_tree.specs.declared.query.SetWord.{SetWord}
use Rattle.sql_tree.specs.declared.query.SetWord.TheVariants as word
use Rattle.name_meaning.proofs.Induction.{AreKept, CoreParts, SetParts, kept-set}
use Rattle.name_meaning.proofs.Equations.{CoreFrame, QueryTreeFrame, SetTreeFrame}
use Rattle.name_meaning.specs.Cores.{BodyPart, ClausesMeant, aggregated_input, before_list, clauses_query, core_clauses, core_over, core_step, core_unlooked, distinct_if, filtered, group_scope, has_some, list_columns, optional_built, settle_known, word_breaks}
use Rattle.name_meaning.specs.Froms.{FromMeant, from_all, in_clause}
use Rattle.name_meaning.specs.Items.{Made, SelectPart, made_items}
use Rattle.name_meaning.specs.Meanings.{Around, Part, QueryMeant, QueryPart, is_whole}
use Rattle.name_meaning.specs.Queries.{SetStepPart, asks_provenance, keys_of, limited, may_not_ask, query_seen, query_step, set_chain, set_joined, set_of, set_step}
use Rattle.name_meaning.specs.Scopes.{ScopeItem, scope_of}
use Rattle.name_meaning.specs.Trees.{set_of_tree}
use Rattle.name_meaning.specs.declared.answer.Break.{Break}
use Rattle.name_meaning.specs.declared.scope.Scope.{Scope}

-- the node at the front of a query asks for provenance
abbrev pub in_front : Query → Bool
in_front (Table id kinds) = false
in_front Single = false
in_front (BaseOf input places label) = false
in_front (FilterOf input condition shape subs) = false
in_front (ProjectOf input items shape subs) = false
in_front (JoinOf kind left right condition shape subs) = false
in_front (ApplyOf kind left right) = false
in_front (UnionOf all left right) = false
in_front (IntersectOf all left right) = false
in_front (ExceptOf all left right) = false
in_front (DistinctOf input) = false
in_front (AggregateOf input groups aggregates) = false
in_front (LimitOf input keys count) = false
in_front (ProvOf input) = true

abbrev pub IsPlain : Query → Type 0
IsPlain query = in_front query ≡ false

pub plain-front : (query q : Query) → IsPlain query → query ≢ Prov q
plain-front query q plain e = true≢false (sym (ap in_front (e ∙ Prov-is q)) ∙ plain)

-- ---- what is made of clauses

projected : (is_distinct : Bool) (input : Query) (items : List Item) (subs : List Sublink) → IsPlain (distinct_if is_distinct (Project input items subs))
projected true input items subs = ap in_front (Distinct-is (Project input items subs))
projected false input items subs = ap in_front (Project_with-is input items subs)

combined : (which : SetWord) (all : Bool) (left right : Query) → IsPlain (set_of which all left right)
combined word.Union all left right = ap in_front (Union-is all left right)
combined word.Except all left right = ap in_front (Except-is all left right)
combined word.Intersect all left right = ap in_front (Intersect-is all left right)

cut : (limit : Option ℤ) (keys : List Key) (query : Query) → IsPlain query → IsPlain (limited limit keys query)
cut None keys query plain = plain
cut (Some n) keys query plain = ap in_front (Limit-is query keys _)

clauses-plain : (k : ClausesMeant) (is_distinct : Bool) (wanted : List Kind) → IsPlain (clauses_query k is_distinct wanted)
clauses-plain k is_distinct wanted =
    let list : Made = made_items k.list (settle_known (list_columns k) wanted) (before_list k) in
    let rows : Query = aggregated_input (filtered k.input.query k.where_meant) k.groups ((optional_built k.having_meant).aggregates ++ list.aggregates) in
    projected is_distinct (filtered rows k.having_meant) list.items list.subs

-- ---- at whatever kinds are wanted

abbrev MadePlain : QueryMeant → Type 0
MadePlain m = (wanted : List Kind) → IsPlain (m.make wanted)

chained : (around : Around) (left : QueryMeant) (steps : List SetStepPart) → MadePlain left → MadePlain (set_chain around left steps)
chained around left [] plain = plain
chained around left (step ∷ steps) plain =
    chained around (set_joined left step (step.operand.means (may_not_ask around))) steps (λ wanted. combined step.word step.all _ _)

if-whole : (whole : Bool) (over unlooked : QueryMeant) → MadePlain over → MadePlain unlooked → MadePlain (cond whole over unlooked)
if-whole true over unlooked plain other = plain
if-whole false over unlooked plain other = other

over-plain : (outer : List Scope) (words : List Break) (input : FromMeant) (has_from is_distinct : Bool) (items : List SelectPart)
    (condition : Option Part) (groups : List ColRef) (having : Option Part) (scope_items : List ScopeItem)
    → MadePlain (core_over outer words input has_from is_distinct items condition groups having scope_items)
over-plain outer words input has_from is_distinct items condition groups having scope_items =
    let own : Scope = scope_of scope_items in
    let grouped : Scope = group_scope own groups having items in
    clauses-plain (core_clauses (in_clause own outer false) (in_clause grouped outer true) grouped has_from input condition having items) is_distinct

abbrev BodyPlain : BodyPart → Type 0
BodyPlain part = (around : Around) → MadePlain (part.means around)

-- where the word may not stand
abbrev QueryPlain : QueryPart → Type 0
QueryPlain part = (around : Around) → around.may_ask ≡ false → MadePlain (part.means around)

pub seen-plain : (around : Around) (at : ℕ) (body : BodyPart) (order : List OrderTree) (limit : Option ℤ) → asks_provenance around body ≡ false
    → BodyPlain body → MadePlain (query_seen around at body order limit)
seen-plain around at body order limit none plain wanted = rw none (cut limit (keys_of (body.means around).columns order) ((body.means around).make wanted) (plain around wanted))

not_asked : (around : Around) (body : BodyPart) → around.may_ask ≡ false → asks_provenance around body ≡ false
not_asked around body e = rw e refl

module _ (c : Contents) where
  abbrev Nothing : {X : Type 0} → X → Type 0
  Nothing x = ⊤

  abbrev PartsOfSet : SetTreeFrame → Type 0
  PartsOfSet = SetParts c Nothing Nothing BodyPlain Nothing Nothing Nothing Nothing BodyPlain QueryPlain Nothing Nothing Nothing Nothing

  abbrev PartsOfCore : CoreFrame → Type 0
  PartsOfCore = CoreParts c Nothing Nothing BodyPlain Nothing Nothing Nothing Nothing BodyPlain QueryPlain Nothing Nothing Nothing Nothing

  plain-set : (frame : SetTreeFrame) → PartsOfSet frame → BodyPlain (set_step frame)
  plain-set (SetTree-F.Core core) h around = h around
  plain-set (SetTree-F.«SetTree::Paren» query) h around = h (may_not_ask around) refl
  plain-set (SetTree-F.«SetTree::Chain» first steps) h around = chained around (first.means around) steps (h.0 around)

  plain-core : (frame : CoreFrame) → BodyPlain (core_step frame)
  plain-core frame around =
      let input : FromMeant = from_all around.outer frame.sources in
      if-whole (is_whole input.breaks)
      (core_over around.outer (word_breaks around frame.provenance) input (has_some frame.sources) frame.distinct frame.items
      frame.condition frame.groups frame.having (option_map_or (λ (known : List ScopeItem). known) input.items []))
      (core_unlooked (word_breaks around frame.provenance) input)
      (over-plain around.outer (word_breaks around frame.provenance) input (has_some frame.sources) frame.distinct frame.items
      frame.condition frame.groups frame.having (option_map_or (λ (known : List ScopeItem). known) input.items []))
      (λ wanted. refl)

  plain-query : (frame : QueryTreeFrame) → BodyPlain frame.body → QueryPlain (query_step frame)
  plain-query frame body around none = seen-plain around frame.at frame.body frame.order frame.limit (not_asked around frame.body none) body

  kept : AreKept c Nothing Nothing BodyPlain Nothing Nothing Nothing Nothing BodyPlain QueryPlain Nothing Nothing Nothing Nothing
  kept = record {
    body = λ frame h. tt;
    item = λ frame h. tt;
    set = plain-set;
    source = λ frame h. tt;
    arm = λ frame condition value. tt;
    step = λ frame part. tt;
    part = λ frame body. tt;
    core = λ frame h. plain-core frame;
    query = plain-query;
    set_operand = λ frame operand. tt;
    from_item = λ frame source. tt;
    from_tree = λ frame first joins. tt;
    join = λ frame item condition. tt;
  }

  pub set-plain : (tree : SetTree) → BodyPlain (set_of_tree c tree)
  set-plain = kept-set c Nothing Nothing BodyPlain Nothing Nothing Nothing Nothing BodyPlain QueryPlain Nothing Nothing Nothing Nothing kept
