-- The last of regular statements is regular.
use Rattle.std.proofs.Common.{◌≡◌, List, [], ◌∷◌, ◌++◌, Option, None, Some, arith, refl, subst}
use Rattle.std.proofs.lemmas.List.Elements.{Contains-append_right}
use Rattle.std.specs.Prelude.{Contains, IfSome, MatchOption}
use Rattle.sql_tree.specs.Regular.{Each, RegularStatement}
use Rattle.sql_tree.specs.declared.statement.Statement.{Statement}

pub last-regular : (old new : List Statement) (found : Option Statement) → Each RegularStatement old →
    MatchOption found ((old ≡ []) × (new ≡ [])) (λ last. old ≡ new ++ last ∷ []) → IfSome found (λ last. RegularStatement last)
last-regular old new None each is = tt
last-regular old new (Some last) each is =
    subst (Each RegularStatement) is each last (Contains-append_right new (last ∷ []) last (0, omega arith, refl))
