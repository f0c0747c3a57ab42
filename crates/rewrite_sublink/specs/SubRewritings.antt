-- When queries are rewritings of the queries of sublinks.
use Rattle.std.specs.Prelude.{⊤, List, [], ◌∷◌}
use Rattle.bag_algebra.specs.Rewriting.{IsRewrite}
use Rattle.bag_algebra.specs.declared.query.Query.{Query}
use Rattle.bag_algebra.specs.declared.query.Sublink.{Sublink}

-- one by one
abbrev pub SubsRewritten : List Sublink → List Query → Type 0
SubsRewritten [] [] = ⊤
SubsRewritten [] (p ∷ ps) = ⊥
SubsRewritten (sub ∷ subs) [] = ⊥
SubsRewritten (sub ∷ subs) (p ∷ ps) = IsRewrite sub.query p × SubsRewritten subs ps
