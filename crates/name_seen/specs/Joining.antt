-- What the code answers of the joins of a source.
use Rattle.std.specs.Prelude.{◌≡◌, ℕ, List, map, Result}
use Rattle.perm_catalog.specs.Contents.{Contents}
use Rattle.sql_tree.specs.declared.query.Core.{Core, out-Core}
use Rattle.name_meaning.specs.Froms.{FromMeant, from_all}
use Rattle.name_meaning.specs.Meanings.{Around}
use Rattle.name_meaning.specs.Trees.{from_of}
use Rattle.name_meaning.specs.declared.scope.Scope.{Scope}
use Rattle.name_seen_parts.specs.Seen.{FirstOr}
use Rattle.name_seen_parts.specs.declared.refusal.Refusal.{Refusal}
use Rattle.name_seen_cores.specs.from.Queried.{FromWhole}
use Rattle.name_seen_cores.specs.declared.from.facts.Facts.{Facts as Gathered}

-- a source up to some join, in scope
abbrev pub JoinSeen : FromMeant → List (List ℕ) → Gathered → Gathered → Scope → Result Unit Refusal → Type 0
JoinSeen m earlier old new scope result = FirstOr m.breaks (λ done. FromWhole m earlier old new scope) result

-- all of a core's FROM
abbrev pub input_of : Contents → Core → Around → FromMeant
input_of c tree around = from_all around.outer (map (from_of c) (out-Core tree).sources)
