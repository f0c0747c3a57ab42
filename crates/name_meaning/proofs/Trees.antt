-- The laws of the meaning of every tree.
use Rattle.std.specs.Prelude.{◌≡◌, ℕ, List, []}
use Rattle.perm_values.specs.declared.kind.Kind.{Kind}
use Rattle.perm_catalog.specs.Contents.{Contents}
use Rattle.perm_catalog.specs.Sound.{IsSound}
use Rattle.sql_tree.specs.declared.expression.ExprTree.{ExprTree}
use Rattle.sql_tree.specs.declared.query.Core.{Core}
use Rattle.sql_tree.specs.declared.query.QueryTree.{QueryTree}
use Rattle.sql_tree.specs.declared.query.SetTree.{SetTree}
use Rattle.sql_tree.specs.declared.source.FromItem.{FromItem}
use Rattle.sql_tree.specs.declared.source.FromTree.{FromTree}
use Rattle.name_meaning.specs.Meanings.{Surroundings, Before, Around, means_at, query_means_at}
use Rattle.name_meaning.specs.Trees.{part_of, query_of, set_of_tree, core_of, from_item_of, from_of}
use Rattle.name_meaning.specs.declared.scope.Scope.{Scope}
use Rattle.name_meaning.specs.laws.Facts.{facts_of, sub_facts}
use Rattle.name_meaning.specs.laws.Known.{HasItsKinds, ItemIsKnown, FromIsKnown}
use Rattle.name_meaning.proofs.KeptTrees.{good-part_tree, good-query_tree, good-set_tree, good-core_tree, good-from_item_tree, good-from_tree}

-- ---- kinds

pub query-known : (c : Contents) (tree : QueryTree) (around : Around) → IsSound c → (query_means_at (query_of c tree) around).breaks ≡ []
    → HasItsKinds (query_means_at (query_of c tree) around)
unfolding query_means_at
query-known c tree around sound whole = (good-query_tree c tree around).known sound whole

pub set-known : (c : Contents) (tree : SetTree) (around : Around) → IsSound c → ((set_of_tree c tree).means around).breaks ≡ []
    → HasItsKinds ((set_of_tree c tree).means around)
set-known c tree around sound whole = (good-set_tree c tree around).known sound whole

pub core-known : (c : Contents) (tree : Core) (around : Around) → IsSound c → ((core_of c tree).means around).breaks ≡ []
    → HasItsKinds ((core_of c tree).means around)
core-known c tree around sound whole = (good-core_tree c tree around).known sound whole

pub item-known : (c : Contents) (tree : FromItem) (around : Around) (earlier : List (List ℕ)) → IsSound c
    → ((from_item_of c tree).means around earlier).breaks ≡ [] → ItemIsKnown ((from_item_of c tree).means around earlier)
item-known c tree around earlier sound whole = (good-from_item_tree c tree around earlier).known sound whole

pub from-known : (c : Contents) (tree : FromTree) (outer : List Scope) (earlier : List (List ℕ)) → IsSound c
    → ((from_of c tree).means outer earlier).breaks ≡ [] → FromIsKnown ((from_of c tree).means outer earlier)
from-known c tree outer earlier sound whole = (good-from_tree c tree outer earlier).known sound whole

-- ---- facts

pub part-steady : (c : Contents) (tree : ExprTree) (here : Surroundings) (wanted other : Kind) (before earlier : Before)
    → sub_facts ((means_at (part_of c tree) here).make wanted before).subs ≡ sub_facts ((means_at (part_of c tree) here).make other earlier).subs
unfolding means_at
part-steady c tree here wanted other before earlier = (good-part_tree c tree here).steady wanted other before earlier

pub query-steady : (c : Contents) (tree : QueryTree) (around : Around) (wanted : List Kind)
    → facts_of ((query_means_at (query_of c tree) around).make wanted) ≡ facts_of ((query_means_at (query_of c tree) around).make [])
unfolding query_means_at
query-steady c tree around wanted = (good-query_tree c tree around).steady wanted []

pub set-steady : (c : Contents) (tree : SetTree) (around : Around) (wanted : List Kind)
    → facts_of (((set_of_tree c tree).means around).make wanted) ≡ facts_of (((set_of_tree c tree).means around).make [])
set-steady c tree around wanted = (good-set_tree c tree around).steady wanted []

pub core-steady : (c : Contents) (tree : Core) (around : Around) (wanted : List Kind)
    → facts_of (((core_of c tree).means around).make wanted) ≡ facts_of (((core_of c tree).means around).make [])
core-steady c tree around wanted = (good-core_tree c tree around).steady wanted []
