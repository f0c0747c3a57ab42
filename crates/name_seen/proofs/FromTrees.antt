-- What trees of FROM mean, of what their parts mean.
use Rattle.std.specs.Prelude.{◌≡◌, ℕ, List, ◌∷◌, ◌++◌, map, Option, Err, []}
use Rattle.std.proofs.Common.{ap, sym, ◌∙◌}
use Rattle.perm_catalog.specs.Contents.{Contents}
use Rattle.sql_tree.specs.declared.expression.ExprTree.{ExprTree}
use Rattle.sql_tree.specs.declared.name.Name.{Name}
use Rattle.sql_tree.specs.declared.query.QueryTree.{QueryTree}
use Rattle.sql_tree.specs.declared.source.FromItem.{FromItem}
use Rattle.sql_tree.specs.declared.source.FromSource.{FromSource}
use Rattle.sql_tree.specs.declared.source.FromSource.TheVariants as source
use Rattle.sql_tree.specs.declared.source.FromTree.{FromTree, out-FromTree}
use Rattle.sql_tree.specs.declared.expression.ExprBody.TheViews.{roll-out-FromTree}
use Rattle.sql_tree.specs.declared.source.JoinStep.{JoinStep, out-JoinStep}
use Rattle.sql_tree.specs.declared.source.ScopeMark.{ScopeMark}
use Rattle.name_meaning.specs.Froms.{FromItemPart, FromMeant, FromPart, JoinPart, Read, SourcePart, beside_items, first_item, in_from, item_meant, join_all, label_of, read_named, read_of, read_query, scope_name}
use Rattle.name_meaning.specs.Meanings.{Around, QueryMeant, query_means_at}
use Rattle.name_meaning.specs.Trees.{from_item_of, from_of, join_of, query_of, source_of}
use Rattle.name_meaning.specs.Scopes.{ScopeItem}
use Rattle.name_meaning.specs.declared.scope.Scope.{Scope}
use Rattle.name_meaning.proofs.Lateral.{lateral_item}
use Rattle.name_seen_parts.specs.Standing.{around_beside}
use Rattle.name_meaning.proofs.Equations.{token, fromitem-record, fromsource-inner, fromsource-named, fromtree-record}
use Rattle.name_seen_parts.specs.declared.refusal.Refusal.{Refusal}
use Rattle.name_seen_parts.specs.declared.refusal.Refusal.TheVariants.{Break as Broken, NoMemory}
use Rattle.name_seen_cores.specs.from.Queried.{FromWhole, QuerySeen}
use Rattle.name_seen_cores.specs.declared.from.facts.Facts.{Facts as Gathered}
use Rattle.name_seen_cores.specs.from.Readings.{ItemSeen, ReadSeen}
use Rattle.name_seen_cores.specs.Behind.{optional_part}
use Rattle.name_seen_parts.proofs.Firsts.{first-stays_first}
use Rattle.name_meaning.proofs.Opened.{join-is}

pub from-means : (c : Contents) (tree : FromTree) (outer : List Scope) (earlier : List (List ℕ))
    → (from_of c tree).means outer earlier
    ≡ join_all outer (first_item earlier ((from_item_of c (out-FromTree tree).first).means (in_from outer) earlier)) (map (join_of c) (out-FromTree tree).joins)
unfolding token
from-means c tree outer earlier =
    ap (λ (t : FromTree). (from_of c t).means outer earlier) (sym (roll-out-FromTree tree))
    ∙ ap (λ (part : FromPart). part.means outer earlier) (fromtree-record c (out-FromTree tree).first (out-FromTree tree).joins)

pub item-means : (c : Contents) (item : FromItem) (around : Around) (earlier : List (List ℕ))
    → (from_item_of c item).means around earlier
    ≡ item_meant item.at item.mark earlier (scope_name (source_of c item.source) item.alias) (label_of (source_of c item.source) item.alias)
    (read_of c around (source_of c item.source))
unfolding token
item-means c item around earlier =
    ap (λ (part : FromItemPart). part.means around earlier) (fromitem-record c item.at item.source item.alias item.mark)

pub named-read : (c : Contents) (around : Around) (tree : FromSource) (name : Name) → tree ≡ source.Named name
    → read_of c around (source_of c tree) ≡ read_named c name
unfolding token
named-read c around tree name is =
    ap (λ (s : FromSource). read_of c around (source_of c s)) is
    ∙ ap (λ (part : SourcePart). read_of c around part) (fromsource-named c name)

pub inner-read : (c : Contents) (around : Around) (tree : FromSource) (query : QueryTree) → tree ≡ source.Inner query
    → read_of c around (source_of c tree) ≡ read_query (query_means_at (query_of c query) around)
unfolding token query_means_at
inner-read c around tree query is =
    ap (λ (s : FromSource). read_of c around (source_of c s)) is
    ∙ ap (λ (part : SourcePart). read_of c around part) (fromsource-inner c query)

-- the item of a join, behind the items before it
pub joined-item : (c : Contents) (step : JoinStep) (around : Around) (names held : List (List ℕ)) → names ≡ held
    → (join_of c step).item.means around names ≡ (from_item_of c (out-JoinStep step).item).means around held
joined-item c step around names held same =
    ap (λ (part : JoinPart). part.item.means around names) (join-is c step)
    ∙ ap (λ (earlier : List (List ℕ)). (from_item_of c (out-JoinStep step).item).means around earlier) same

pub joined-word : (c : Contents) (step : JoinStep) → (join_of c step).word ≡ (out-JoinStep step).word
joined-word c step = ap (λ (part : JoinPart). part.word) (join-is c step)

pub joined-condition : (c : Contents) (step : JoinStep) (condition : Option ExprTree) → (out-JoinStep step).condition ≡ condition
    → (join_of c step).condition ≡ optional_part c condition
joined-condition c step condition is = ap (λ (part : JoinPart). part.condition) (join-is c step) ∙ ap (optional_part c) is

pub read-refused : (m : QueryMeant) (refusal : Refusal) → QuerySeen m (Err refusal) → ReadSeen (read_query m) (Err refusal)
read-refused m (Broken b) broken = broken
read-refused m NoMemory broken = tt

-- what was refused of what an item reads is refused of the item
pub item-refused : (at : ℕ) (mark : ScopeMark) (earlier : List (List ℕ)) (name label : List ℕ) (read : Read) (scope wider : Scope) (old new : Gathered) (refusal : Refusal)
    → ReadSeen read (Err refusal) → ItemSeen (item_meant at mark earlier name label read) scope old new wider (Err refusal)
item-refused at mark earlier name label read scope wider old new (Broken b) broken = first-stays_first read.breaks _ _ (tt {0}) (tt {0}) b broken
item-refused at mark earlier name label read scope wider old new NoMemory broken = tt

-- the item of a lateral join, whose subquery sees the items in scope
pub lateral-means : (c : Contents) (step : JoinStep) (outer : List Scope) (left : FromMeant) (earlier : List (List ℕ)) (before old : Gathered) (scope : Scope)
    (names : List (List ℕ)) → names ≡ earlier ++ scope.items → FromWhole left earlier before old scope
    → lateral_item outer left (join_of c step) ≡ (from_item_of c (out-JoinStep step).item).means (around_beside (scope ∷ outer)) names
lateral-means c step outer left earlier before old scope names held first =
    joined-item c step (beside_items left.items outer) left.names names (first.names ∙ sym held)
    ∙ ap (λ (around : Around). (from_item_of c (out-JoinStep step).item).means around names)
    (ap (λ (known : Option (List ScopeItem)). beside_items known outer) first.known ∙ ap (λ (s : Scope). around_beside (s ∷ outer)) (sym first.scope_is))
