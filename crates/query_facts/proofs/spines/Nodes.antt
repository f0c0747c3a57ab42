-- Whether a query is monotone, where its topmost node is one of a monotone query.
use Rattle.std.proofs.Common.{◌≡◌, ℕ, true, false, ◌&&◌, List, [], ◌∷◌, sym, ap, ◌∙◌}
use Rattle.std.proofs.Math.Bool.{and-false}
use Rattle.std.specs.List.{list_all}
use mathlib.Core.Bool.{true≢false}
use Rattle.bag_algebra.specs.Inputs.{inputs_of}
use Rattle.bag_algebra.specs.built.Openings.{Base-is}
use Rattle.bag_algebra.specs.declared.query.Label.{Label}
use Rattle.bag_algebra.specs.declared.query.Query.{Query}
use Rattle.bag_algebra.specs.declared.query.Query.TheVariants.{Base}
use Rattle.bag_algebra.proofs.Truths.{and_true}
use Rattle.query_facts.specs.monotone.Monotone.{is_monotone, own_monotone}
use Rattle.query_facts.proofs.Nodes.{is_monotone-node}

no_source : (query : Query) → own_monotone query ≡ true → (input : Query) (places : List ℕ) (label : Label) → query ≡ Base input places label → ⊥
no_source query own input places label is = true≢false (sym own ∙ ap own_monotone (is ∙ Base-is input places label))

-- it is monotone where all inputs are
by_inputs : (query : Query) (inputs : List Query) → own_monotone query ≡ true → inputs ≡ inputs_of query → is_monotone query ≡ list_all is_monotone inputs
by_inputs query inputs own are =
    is_monotone-node query (no_source query own) ∙ ap (λ b. b && list_all is_monotone (inputs_of query)) own ∙ ap (list_all is_monotone) (sym are)

pub no_inputs : (query : Query) → own_monotone query ≡ true → [] ≡ inputs_of query → true ≡ is_monotone query
no_inputs query own are = sym (by_inputs query [] own are)

pub one_input : (query input : Query) → own_monotone query ≡ true → input ∷ [] ≡ inputs_of query → is_monotone input ≡ is_monotone query
one_input query input own are = sym (by_inputs query (input ∷ []) own are ∙ and_true (is_monotone input))

pub left_input : (query left right : Query) → own_monotone query ≡ true → left ∷ right ∷ [] ≡ inputs_of query → true ≡ is_monotone right
    → is_monotone left ≡ is_monotone query
left_input query left right own are monotone =
    sym (by_inputs query (left ∷ right ∷ []) own are ∙ ap (λ b. is_monotone left && (b && true)) (sym monotone) ∙ and_true (is_monotone left))

pub right_fails : (query left right : Query) → own_monotone query ≡ true → left ∷ right ∷ [] ≡ inputs_of query → false ≡ is_monotone right
    → false ≡ is_monotone query
right_fails query left right own are fails =
    sym (by_inputs query (left ∷ right ∷ []) own are ∙ ap (λ b. is_monotone left && (b && true)) (sym fails) ∙ and-false (is_monotone left))

pub ruleset along = (no_inputs, one_input, left_input, right_fails)
