-- The numbers of relations, place by place.
use Rattle.std.proofs.Common.{◌≡◌, ◌≤◌, ℕ, ◌+◌, Bool, true, false, cond, List, [], ◌∷◌, ◌++◌, length, unwrap_or, nat_eq, count_by, flat_map, take, length-append, length-take, refl, sym, ap, ◌∙◌, arith}
use Rattle.std.proofs.lemmas.List.Sums.{count_by-le-length, sum_by_push}
use Rattle.std.specs.Cmp.Lexicographic.{pointwise, nat_list_eq_equiv, bytes_decides}
use Rattle.perm_values.proofs.Steps.{unwrap-cond}
use Rattle.bag_algebra.specs.PlaceNames.{relations_of}
use Rattle.bag_algebra.specs.declared.place.Place.{Place}
use Rattle.bag_algebra.specs.declared.query.Label.{Label}
use Rattle.bag_algebra.specs.declared.query.Label.TheVariants.{Relation, External}
use Rattle.contribution.specs.RelationNumbers.{Numbers, HasPut, earlier_places}

abbrev same : List ℕ → List ℕ → Bool
same = pointwise nat_eq

pub none_yet : Numbers [] []
none_yet = record { numbers = λ name. refl }

-- one more of a name
one_more : (names : List (List ℕ)) (name : List ℕ) (number : ℕ) → number ≡ count_by (same name) names + 1 → (q : List ℕ)
    → cond (same name q) number (count_by (same q) names) ≡ count_by (same q) (names ++ name ∷ [])
one_more names name number e q = by (same name q) refl
  where
    more : count_by (same q) (names ++ name ∷ []) ≡ count_by (same q) names + cond (same name q) 1 0
    more = sum_by_push (λ n. cond (same q n) 1 0) names name ∙ ap (λ b. count_by (same q) names + cond b 1 0) (nat_list_eq_equiv.symm q name)

    by : (b : Bool) → same name q ≡ b → cond b number (count_by (same q) names) ≡ count_by (same q) (names ++ name ∷ [])
    by true f = e ∙ ap (λ n. count_by (same n) names + 1) ((bytes_decides name q).0 f) ∙ sym (more ∙ ap (λ b. count_by (same q) names + cond b 1 0) f)
    by false f = sym (more ∙ ap (λ b. count_by (same q) names + cond b 1 0) f ∙ omega arith)

pub numbers_more : (old new : List (List ℕ × ℕ)) (names : List (List ℕ)) (name : List ℕ) (number : ℕ) → HasPut old new name number → Numbers old names
    → number ≡ count_by (pointwise nat_eq name) names + 1 → Numbers new (names ++ name ∷ [])
numbers_more old new names name number p h e = record {
  numbers = λ q.
      ap (λ o. unwrap_or o 0) (p.put q)
      ∙ unwrap-cond _ (same name q) number
      ∙ ap (λ m. cond (same name q) number m) (h.numbers q)
      ∙ one_more names name number e q;
}

relation_or_none : (label : Label) (place : Place) → place.label ≡ label → length (relations_of place) ≤ 1
relation_or_none (Relation name columns) place e = rw e (omega arith)
relation_or_none (External columns) place e = rw e (omega arith)

-- a place is of one relation at most
few_relations : (places : List Place) → length (flat_map relations_of places) ≤ length places
few_relations [] = omega arith
few_relations (place ∷ places) =
    let one = relation_or_none place.label place refl in
    let rest = few_relations places in
    let both = length-append (relations_of place) (flat_map relations_of places) in
    omega arith

pub at_most : (places : List Place) (i : ℕ) (label : Label) (n : ℕ)
    → n ≡ earlier_places (flat_map relations_of (take i places)) label → n ≤ i
at_most places i label n e = by label e
  where
    some : (name : List ℕ) → n ≡ count_by (same name) (flat_map relations_of (take i places)) → n ≤ i
    some name e =
        let counted = count_by-le-length (same name) (flat_map relations_of (take i places)) in
        let few = few_relations (take i places) in
        let taken = length-take i places in
        omega arith

    by : (label : Label) → n ≡ earlier_places (flat_map relations_of (take i places)) label → n ≤ i
    by (Relation name columns) e = some name e
    by (External columns) e = omega arith
