-- What a query is made of, its body made.
use Rattle.std.specs.Prelude.{◌≡◌, ℕ, ℤ, Bool, true, false, cond, List, [], ◌∷◌, ◌++◌, map, Option, Some, None}
use Rattle.std.proofs.Common.{refl, ap, sym, subst, ◌∙◌}
use Rattle.bag_algebra.specs.declared.query.Query.{Query}
use Rattle.bag_algebra.specs.declared.query.Query.TheVariants.{Prov}
use Rattle.perm_catalog.specs.Contents.{Contents}
use Rattle.perm_values.specs.declared.key.Key.{Key}
use Rattle.perm_values.specs.declared.kind.Kind.{Kind}
use Rattle.perm_values.proofs.Lists.{front-none}
use Rattle.sql_tree.specs.declared.query.Core.{Core}
use Rattle.sql_tree.specs.declared.query.OrderTree.{OrderTree}
use Rattle.sql_tree.specs.declared.query.QueryTree.{QueryTree}
use Rattle.sql_tree.specs.declared.query.SetStep.{SetStep}
use Rattle.sql_tree.specs.declared.query.SetTree.{SetTree}
use Rattle.sql_tree.specs.declared.query.SetTree.TheVariants as set
use Rattle.name_meaning.specs.Cores.{BodyPart, settle, settle_known}
use Rattle.name_meaning.specs.Meanings.{Around, OutColumn, QueryMeant, query_means_at}
use Rattle.name_meaning.specs.Queries.{SetStepPart, asks_provenance, keys_breaks, keys_of, limited, query_seen, set_chain, set_joined, set_of, may_not_ask}
use Rattle.name_meaning.specs.Trees.{core_of, query_of, set_of_tree, set_step_of}
use Rattle.name_meaning.proofs.Equations.{token, querytree-record, settree-chain, settree-core, settree-paren, setstep-record}
use Rattle.name_meaning.proofs.SettledKinds.{settle-twice}
use Rattle.name_meaning.specs.nodes.Chained.{Serves}
use Rattle.name_meaning.specs.nodes.Makes.{MakesQuery}
use Rattle.name_made_parts.specs.AskedColumns.{Settles}

-- ---- the kinds of a chain

settled-known : (columns : Option (List OutColumn)) (wanted : List Kind) → settle_known columns (settle_known columns wanted) ≡ settle_known columns wanted
settled-known None wanted = refl
settled-known (Some columns) wanted = settle-twice columns wanted

pub settles-so : (m : QueryMeant) (columns : List OutColumn) (wanted kinds : List Kind) → m.breaks ≡ [] → m.columns ≡ Some columns → kinds ≡ settle columns wanted
    → Settles m wanted kinds
settles-so m columns wanted kinds whole known is =
    let same : kinds ≡ settle_known m.columns wanted = is ∙ sym (ap (λ (k : Option (List OutColumn)). settle_known k wanted) known) in
    record {
      serves = record {
        whole = whole;
        columns = columns;
        known = known;
        serves = ap (settle_known m.columns) same ∙ settled-known m.columns wanted ∙ sym same;
      };
      settled = same;
    }

-- a chain with a step is made alike at the kinds to which the wanted ones settle
pub chain-settled : (around : Around) (left : QueryMeant) (step : SetStepPart) (steps : List SetStepPart) (wanted : List Kind)
    → (set_chain around left (step ∷ steps)).make (settle_known (set_chain around left (step ∷ steps)).columns wanted) ≡ (set_chain around left (step ∷ steps)).make wanted
chain-settled around left step [] wanted =
    let right = step.operand.means (may_not_ask around) in
    ap (λ (kinds : List Kind). set_of step.word step.all (left.make kinds) (right.make kinds)) (settled-known (set_joined left step right).columns wanted)
chain-settled around left step (next ∷ steps) wanted = chain-settled around (set_joined left step (step.operand.means (may_not_ask around))) next steps wanted

-- ---- trees

pub chain-made : (c : Contents) (around : Around) (tree first : SetTree) (steps : List SetStep) (wanted kinds : List Kind) (query : Query)
    → tree ≡ set.Chain first steps → (steps ≡ [] → ⊥)
    → (((set_of_tree c tree).means around).breaks ≡ [] → Settles ((set_of_tree c tree).means around) wanted kinds)
    → (Serves (set_chain around ((set_of_tree c first).means around) (map (set_step_of c) steps)) kinds
    → query ≡ (set_chain around ((set_of_tree c first).means around) (map (set_step_of c) steps)).make kinds)
    → MakesQuery ((set_of_tree c tree).means around) wanted query
unfolding token
chain-made c around tree first steps wanted kinds query is some settles makes =
    let m = set_chain around ((set_of_tree c first).means around) (map (set_step_of c) steps) in
    let same : (set_of_tree c tree).means around ≡ m = ap (λ (body : BodyPart). body.means around) (ap (set_of_tree c) is ∙ settree-chain c first steps) in
    record {
      makes = λ whole.
          let settled = subst (λ (m : QueryMeant). Settles m wanted kinds) same (settles whole) in
          makes settled.serves ∙ ap m.make settled.settled ∙ alike steps some ∙ ap (λ (m : QueryMeant). m.make wanted) (sym same);
    } where
      alike : (steps : List SetStep) → (steps ≡ [] → ⊥)
          → (set_chain around ((set_of_tree c first).means around) (map (set_step_of c) steps)).make (settle_known (set_chain around ((set_of_tree c first).means around) (map (set_step_of c) steps)).columns wanted)
          ≡ (set_chain around ((set_of_tree c first).means around) (map (set_step_of c) steps)).make wanted
      alike [] some = absurd (some refl)
      alike (step ∷ steps) some = chain-settled around ((set_of_tree c first).means around) (set_step_of c step) (map (set_step_of c) steps) wanted

pub chain-of-one : (c : Contents) (around : Around) (tree first : SetTree) (steps : List SetStep) (wanted : List Kind) (query : Query)
    → tree ≡ set.Chain first steps → steps ≡ [] → MakesQuery ((set_of_tree c first).means around) wanted query → MakesQuery ((set_of_tree c tree).means around) wanted query
unfolding token
chain-of-one c around tree first steps wanted query is none makes =
    let same : (set_of_tree c tree).means around ≡ (set_of_tree c first).means around =
    ap (λ (body : BodyPart). body.means around) (ap (set_of_tree c) is ∙ settree-chain c first steps)
    ∙ ap (λ (steps : List SetStep). set_chain around ((set_of_tree c first).means around) (map (set_step_of c) steps)) none in
    subst (λ (m : QueryMeant). MakesQuery m wanted query) (sym same) makes

pub core-is : (c : Contents) (around : Around) (tree : SetTree) (core : Core) (wanted : List Kind) (query : Query) → tree ≡ set.Core core
    → MakesQuery ((core_of c core).means around) wanted query → MakesQuery ((set_of_tree c tree).means around) wanted query
unfolding token
core-is c around tree core wanted query is makes =
    subst (λ (body : BodyPart). MakesQuery (body.means around) wanted query) (sym (ap (set_of_tree c) is ∙ settree-core c core)) makes

pub paren-is : (c : Contents) (around : Around) (tree : SetTree) (inner : QueryTree) (wanted : List Kind) (query : Query) → tree ≡ set.Paren inner
    → MakesQuery (query_means_at (query_of c inner) (may_not_ask around)) wanted query → MakesQuery ((set_of_tree c tree).means around) wanted query
unfolding token query_means_at
paren-is c around tree inner wanted query is makes =
    subst (λ (body : BodyPart). MakesQuery (body.means around) wanted query) (sym (ap (set_of_tree c) is ∙ settree-paren c inner)) makes

pub step-is : (c : Contents) (step : SetStep) → set_step_of c step ≡ record { word = step.word; all = step.all; at = step.at; operand = set_of_tree c step.operand }
unfolding token
step-is c step = setstep-record c step.word step.all step.at step.operand

-- ---- queries

abbrev pub inside : Bool → Around → Around
inside with_provenance around = record { outer = around.outer; may_ask = around.may_ask }

of-provenance : (around : Around) (at : ℕ) (body : BodyPart) (order : List OrderTree) (limit : Option ℤ) (wanted : List Kind) (with_provenance : Bool) (keys : List Key) (made query : Query)
    → asks_provenance around body ≡ with_provenance
    → ((q : Query) → (body.means (inside with_provenance around)).breaks ≡ [] → limited limit keys q ≡ limited limit (keys_of (body.means (inside with_provenance around)).columns order) q)
    → MakesQuery (body.means (inside with_provenance around)) wanted made
    → query ≡ cond with_provenance (Prov (limited limit keys made)) (limited limit keys made)
    → MakesQuery (query_seen around at body order limit) wanted query
of-provenance around at body order limit wanted true keys made query asks keyed makes is =
    let m = body.means (inside true around) in
    rw asks
    (record {
      makes = λ whole.
          let own = front-none m.breaks (keys_breaks m.columns order) whole in
          is ∙ ap Prov (keyed made own) ∙ ap (λ (q : Query). Prov (limited limit (keys_of m.columns order) q)) (makes.makes own);
    })
of-provenance around at body order limit wanted false keys made query asks keyed makes is =
    let m = body.means (inside false around) in
    rw asks
    (record {
      makes = λ whole.
          let own = front-none m.breaks (keys_breaks m.columns order) whole in
          is ∙ keyed made own ∙ ap (λ (q : Query). limited limit (keys_of m.columns order) q) (makes.makes own);
    })

pub query-is : (c : Contents) (around : Around) (tree : QueryTree) (wanted : List Kind) (with_provenance : Bool) (keys : List Key) (made query : Query)
    → with_provenance ≡ asks_provenance around (set_of_tree c tree.body)
    → ((q : Query) → ((set_of_tree c tree.body).means (inside with_provenance around)).breaks ≡ []
    → limited tree.limit keys q ≡ limited tree.limit (keys_of ((set_of_tree c tree.body).means (inside with_provenance around)).columns tree.order) q)
    → MakesQuery ((set_of_tree c tree.body).means (inside with_provenance around)) wanted made
    → query ≡ cond with_provenance (Prov (limited tree.limit keys made)) (limited tree.limit keys made)
    → MakesQuery (query_means_at (query_of c tree) around) wanted query
unfolding token query_means_at
query-is c around tree wanted with_provenance keys made query asks keyed makes is =
    rw (querytree-record c tree.at tree.body tree.order tree.limit)
    (of-provenance around tree.at (set_of_tree c tree.body) tree.order tree.limit wanted with_provenance keys made query (sym asks) keyed makes is)
