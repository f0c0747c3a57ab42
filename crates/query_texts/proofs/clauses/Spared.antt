-- The sublinks that aren't used, one after another.
use Rattle.std.proofs.Common.{◌≡◌, ◌∙◌, ℕ, ◌+◌, ◌<◌, Bool, true, false, cond, List, [], ◌∷◌, ◌++◌, length, get_or, drop, refl, ap}
use Rattle.tree_texts.proofs.Pieces.{rest_next}
use Rattle.query_texts.specs.clauses.Unused.{spare}

spare_step : {X : Type 0} (used : Bool) (x : X) (rest : List X) → cond used rest (x ∷ rest) ≡ cond used [] (x ∷ []) ++ rest
spare_step true x rest = refl
spare_step false x rest = refl

pub spare_next : {X : Type 0} (used : ℕ → Bool) (flag : Bool) (start now after : List X) (xs : List X) (i : ℕ) (x : X)
    → i < length xs → x ≡ get_or xs i x → flag ≡ used i → start ≡ now ++ spare used i (drop i xs)
    → after ≡ now ++ cond flag [] (x ∷ []) → start ≡ after ++ spare used (i + 1) (drop (i + 1) xs)
spare_next used flag start now after xs i x within is tested before joined =
    rest_next (spare used i) (spare used (i + 1)) (λ y. cond (used i) [] (y ∷ [])) start now after xs i x within is
    (spare_step (used i) x (spare used (i + 1) (drop (i + 1) xs))) before (joined ∙ ap (λ b. now ++ cond b [] (x ∷ [])) tested)
