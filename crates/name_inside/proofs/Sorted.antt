-- Names put in order, from the last.
use Rattle.std.specs.Prelude.{◌≡◌, ℕ, suc, ◌+◌, ◌-◌, ◌<◌, ◌≤◌, List, [], ◌∷◌, length}
use Rattle.std.proofs.Common.{ap, sym, ◌∙◌, drop, get_or, drop-cons}
use Rattle.name_meaning.specs.Statements.{all_noted, noted}

pub record NotedFrom (names : List (List ℕ)) (left : ℕ) (sorted : List (List ℕ)) : Type 0 where
  pub within : left ≤ length names
  pub noted_so : sorted ≡ all_noted (drop left names)

pub noted-before : (names : List (List ℕ)) (left : ℕ) (name : List ℕ) (before after : List (List ℕ)) → left < length names → name ≡ get_or names left name
    → before ≡ all_noted (drop (suc left) names) → after ≡ noted name before → after ≡ all_noted (drop left names)
noted-before names left name before after within e so_far one =
    one ∙ ap (noted name) so_far ∙ ap (λ (n : List ℕ). noted n (all_noted (drop (suc left) names))) e
    ∙ ap all_noted (sym (drop-cons names left name within))
