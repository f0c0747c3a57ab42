-- What is made of simple queries is simple.
use Rattle.std.proofs.Common.{◌≡◌, true, ◌&&◌, not, Result, IfOk, ap, ◌∙◌}
use Rattle.perm_values.proofs.Results.{where_made}
use Rattle.perm_values.proofs.Taken.{opened}
use Rattle.perm_values.specs.declared.no_memory.NoMemory.{NoMemory}
use Rattle.bag_algebra.specs.declared.query.Query.{Query}
use Rattle.simpler_laws.specs.standing.Made.{IsMadeOf, IsMadeOfBoth}
use Rattle.simpler_laws.specs.merged.Once.{IsMadeOnce, itself, over}
use Rattle.folded_literals.specs.Simple.{is_simple}
use Rattle.folded_literals.specs.built.Simple.{simple-Distinct}

abbrev Simple : Query → Type 0
Simple p = is_simple p ≡ true

module _ (result : Result Query NoMemory) where
  pub both-simple : (node : Query → Query → Query) → ((b d : Query) → is_simple (node b d) ≡ (is_simple b && is_simple d)) → (left right : Result Query NoMemory) →
      IfOk left (λ b. is_simple b ≡ true) → IfOk right (λ d. is_simple d ≡ true) → IfOk result (IsMadeOfBoth left right node) → IfOk result (λ p. is_simple p ≡ true)
  both-simple node opens left right h k =
      where_made (IsMadeOfBoth left right node) Simple result (λ p made.
      let first : is_simple made.first ≡ true = opened Simple left made.first made.first_was h in
      let second : is_simple made.second ≡ true = opened Simple right made.second made.second_was k in
      ap is_simple made.is ∙ opens made.first made.second ∙ (λ i. first i && second i))

  pub one-simple : (node : Query → Query) → ((b : Query) → is_simple (node b) ≡ is_simple b) → (input : Result Query NoMemory) →
      IfOk input (λ b. is_simple b ≡ true) → IfOk result (IsMadeOf input node) → IfOk result (λ p. is_simple p ≡ true)
  one-simple node opens input h =
      where_made (IsMadeOf input node) Simple result
      (λ p made. ap is_simple made.is ∙ opens made.input ∙ opened Simple input made.input made.was h)

once : (input : Result Query NoMemory) (p : Query) → IfOk input Simple → IsMadeOnce input p → is_simple p ≡ true
once input p h (itself was) = opened Simple input p was h
once input p h (over b was twice is) =
    let simple : is_simple b ≡ true = opened Simple input b was h in
    ap is_simple is ∙ simple-Distinct b ∙ (λ i. simple i && not (twice i))

pub once-simple : (input result : Result Query NoMemory) → IfOk input (λ b. is_simple b ≡ true) → IfOk result (IsMadeOnce input) →
    IfOk result (λ p. is_simple p ≡ true)
once-simple input result h = where_made (IsMadeOnce input) Simple result (λ p made. once input p h made)
