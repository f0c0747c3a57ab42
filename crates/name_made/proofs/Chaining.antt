-- One more step of a chain of set operations, made at the kinds of the whole.
use Rattle.std.specs.Prelude.{◌≡◌, ℕ, ◌+◌, ◌<◌, List, [], ◌∷◌, ◌++◌, length, map, take, drop}
use Rattle.std.proofs.Common.{ap, sym, subst, ◌∙◌, get_or}
use Rattle.std.proofs.lemmas.List.{map-append, take-append-drop}
use Rattle.bag_algebra.specs.declared.query.Query.{Query}
use Rattle.perm_catalog.specs.Contents.{Contents}
use Rattle.perm_values.specs.declared.kind.Kind.{Kind}
use Rattle.perm_values.proofs.Lists.{map-taken}
use Rattle.sql_tree.specs.declared.query.SetStep.{SetStep}
use Rattle.name_meaning.specs.Meanings.{Around, QueryMeant}
use Rattle.name_meaning.specs.Queries.{SetStepPart, set_chain, set_joined, set_of, may_not_ask}
use Rattle.name_meaning.specs.Trees.{set_of_tree, set_step_of}
use Rattle.name_meaning.specs.nodes.Chained.{Serves}
use Rattle.name_meaning.specs.nodes.Makes.{MakesQuery}
use Rattle.name_meaning.proofs.Chains.{chain-append, joined-made, serves-so-far}
use Rattle.name_made_parts.proofs.Querying.{step-is}

-- a chain made on what stands before it, where these kinds serve the whole
abbrev pub ChainMade : Contents → Around → List SetStep → List Kind → Query → Query → Type 0
ChainMade c around steps kinds first made = (meant : QueryMeant) → MakesQuery meant kinds first
    → Serves (set_chain around meant (map (set_step_of c) steps)) kinds → made ≡ (set_chain around meant (map (set_step_of c) steps)).make kinds

pub chain-step : (c : Contents) (around : Around) (meant : QueryMeant) (kinds : List Kind) (steps : List SetStep) (i : ℕ) (step : SetStep) (before operand after : Query)
    → i < length steps → step ≡ get_or steps i step
    → Serves (set_chain around meant (map (set_step_of c) steps)) kinds
    → MakesQuery (set_chain around meant (map (set_step_of c) (take i steps))) kinds before
    → MakesQuery ((set_of_tree c step.operand).means (may_not_ask around)) kinds operand
    → after ≡ set_of step.word step.all before operand
    → MakesQuery (set_chain around meant (map (set_step_of c) (take (i + 1) steps))) kinds after
chain-step c around meant kinds steps i step before operand after within is serves of_left of_right made =
    let left = set_chain around meant (map (set_step_of c) (take i steps)) in
    let part = set_step_of c step in
    let right = part.operand.means (may_not_ask around) in
    let joined : set_chain around meant (map (set_step_of c) (take (i + 1) steps)) ≡ set_joined left part right =
    ap (set_chain around meant) (map-taken (set_step_of c) steps i step within is) ∙ chain-append around meant (map (set_step_of c) (take i steps)) (part ∷ []) in
    let whole : map (set_step_of c) steps ≡ map (set_step_of c) (take (i + 1) steps) ++ map (set_step_of c) (drop (i + 1) steps) =
    ap (map (set_step_of c)) (sym (take-append-drop (i + 1) steps)) ∙ map-append (set_step_of c) (take (i + 1) steps) (drop (i + 1) steps) in
    let so_far : Serves (set_chain around meant (map (set_step_of c) (take (i + 1) steps))) kinds =
    serves-so-far around (set_chain around meant (map (set_step_of c) (take (i + 1) steps))) (map (set_step_of c) (drop (i + 1) steps)) kinds
    (subst (λ (m : QueryMeant). Serves m kinds)
    (ap (set_chain around meant) whole ∙ chain-append around meant (map (set_step_of c) (take (i + 1) steps)) (map (set_step_of c) (drop (i + 1) steps))) serves) in
    let of_right : MakesQuery right kinds operand =
    subst (λ (s : SetStepPart). MakesQuery (s.operand.means (may_not_ask around)) kinds operand) (sym (step-is c step)) of_right in
    subst (λ (m : QueryMeant). MakesQuery m kinds after) (sym joined)
    (record {
      makes = λ none.
          made ∙ ap (λ (s : SetStepPart). set_of s.word s.all before operand) (sym (step-is c step))
          ∙ joined-made left part right kinds before operand (subst (λ (m : QueryMeant). Serves m kinds) joined so_far) of_left of_right;
    })
