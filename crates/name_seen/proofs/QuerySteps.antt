-- Set operations and queries, whose parts were answered or refused.
use Rattle.std.specs.Prelude.{◌≡◌, ℕ, ℤ, Bool, true, false, cond, List, [], ◌++◌, Option, Result, Err}
use Rattle.std.proofs.Common.{refl, ap, sym, subst, ◌∙◌}
use Rattle.perm_catalog.specs.Contents.{Contents}
use Rattle.perm_catalog.specs.Sound.{IsSound}
use Rattle.sql_tree.specs.declared.query.OrderTree.{OrderTree}
use Rattle.sql_tree.specs.declared.query.QueryTree.{QueryTree}
use Rattle.name_meaning.specs.Cores.{BodyPart}
use Rattle.name_meaning.specs.Meanings.{Around, QueryMeant, query_means_at}
use Rattle.name_meaning.specs.Queries.{asks_provenance, keys_breaks, query_seen}
use Rattle.name_meaning.specs.Trees.{query_of, set_of_tree}
use Rattle.name_meaning.specs.laws.Known.{HasItsKinds}
use Rattle.name_meaning.proofs.Trees.{query-known}
use Rattle.name_seen_parts.specs.declared.refusal.Refusal.{Refusal}
use Rattle.name_seen_parts.specs.declared.refusal.Refusal.TheVariants.{Break as Broken, NoMemory}
use Rattle.name_seen_parts.proofs.Firsts.{first-stays}
use Rattle.name_seen_cores.specs.from.Queried.{ColumnsSeen, QuerySeen}
use Rattle.name_seen_cores.specs.declared.from.facts.Facts.{Facts as Gathered}
use Rattle.name_seen_cores.specs.declared.from.shown.QueryShown.{QueryShown}
use Rattle.name_seen_cores.specs.Behind.{query_behind}
use Rattle.name_seen_cores.proofs.Opened.{query-means}

-- a query that was refused, in parentheses
pub paren-refused : (m : QueryMeant) (old new : Gathered) (refusal : Refusal) → QuerySeen m (Err refusal) → ColumnsSeen m old new (Err refusal)
paren-refused m old new (Broken b) broken = broken
paren-refused m old new NoMemory broken = tt

-- a query whose body was refused
body-refused : (asking : Bool) (at : ℕ) (body : QueryMeant) (order : List OrderTree) (limit : Option ℤ) (old new : Gathered) (refusal : Refusal)
    → ColumnsSeen body old new (Err refusal) → QuerySeen (query_behind asking at body order limit) (Err refusal)
body-refused false at body order limit old new (Broken b) broken = first-stays body.breaks (keys_breaks body.columns order) (tt {0}) (tt {0}) b broken
body-refused true at body order limit old new (Broken b) broken = first-stays body.breaks (keys_breaks body.columns order) (tt {0}) (tt {0}) b broken
body-refused asking at body order limit old new NoMemory broken = tt

behind-is : (around : Around) (at : ℕ) (body : BodyPart) (order : List OrderTree) (limit : Option ℤ) (asking : Bool) → asking ≡ asks_provenance around body
    → query_seen around at body order limit ≡ query_behind asking at (body.means around) order limit
behind-is around at body order limit asking is =
    ap (λ (b : Bool). cond b (query_behind true at (body.means around) order limit) (query_behind false at (body.means around) order limit)) (sym is)
    ∙ by-asking asking where
      by-asking : (b : Bool) → cond b (query_behind true at (body.means around) order limit) (query_behind false at (body.means around) order limit)
          ≡ query_behind b at (body.means around) order limit
      by-asking true = refl
      by-asking false = refl

module _ (c : Contents) (tree : QueryTree) (around : Around) (asking : Bool) where
  -- the query over its body
  abbrev pub body_meant : QueryMeant
  body_meant = (set_of_tree c tree.body).means around

  abbrev pub meant : QueryMeant
  meant = query_behind asking tree.at body_meant tree.order tree.limit

  pub meant-is : asking ≡ asks_provenance around (set_of_tree c tree.body) → query_means_at (query_of c tree) around ≡ meant
  meant-is is = query-means c tree around ∙ behind-is around tree.at (set_of_tree c tree.body) tree.order tree.limit asking is

  pub kinds-known : asking ≡ asks_provenance around (set_of_tree c tree.body) → IsSound c → meant.breaks ≡ [] → HasItsKinds meant
  kinds-known is sound whole =
      subst HasItsKinds (meant-is is) (query-known c tree around sound (ap (λ (m : QueryMeant). m.breaks) (meant-is is) ∙ whole))

  pub query-refused : asking ≡ asks_provenance around (set_of_tree c tree.body) → (old new : Gathered) (refusal : Refusal) → ColumnsSeen body_meant old new (Err refusal)
      → QuerySeen (query_means_at (query_of c tree) around) (Err refusal)
  query-refused is old new refusal broken =
      subst (λ (m : QueryMeant). QuerySeen m (Err refusal)) (sym (meant-is is)) (body-refused asking tree.at body_meant tree.order tree.limit old new refusal broken)

  pub query-answered : asking ≡ asks_provenance around (set_of_tree c tree.body) → (result : Result QueryShown Refusal) → QuerySeen meant result
      → QuerySeen (query_means_at (query_of c tree) around) result
  query-answered is result shown = subst (λ (m : QueryMeant). QuerySeen m result) (sym (meant-is is)) shown
