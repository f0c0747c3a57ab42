-- A name that is new stands behind the others.
use Rattle.std.specs.Prelude.{◌≡◌, Bool, true, not, if◌then◌else◌, List, [], ◌∷◌, ◌++◌}
use Rattle.std.proofs.Common.{ap, sym, ◌∙◌}
use Rattle.std.proofs.lemmas.Bool.{not-true}
use Rattle.std.specs.List.{list_any}
use Rattle.indexmap.specs.IndexSet.{insert_key}

pub pushed : {K : Type 0} (eq : K → K → Bool) (keys : List K) (key : K) (is_new : Bool) → is_new ≡ not (list_any (eq key) keys) → is_new ≡ true
    → insert_key eq keys key ≡ keys ++ key ∷ []
pushed eq keys key is_new told fresh =
    ap (λ (b : Bool). if b then keys else keys ++ key ∷ []) (not-true (list_any (eq key) keys) (sym told ∙ fresh))
