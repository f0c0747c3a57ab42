-- What the second pass makes of FROM.
use Rattle.std.specs.Prelude.{◌≡◌, ℕ, suc, List, [], ◌∷◌, ◌++◌, length, Option, Some, None}
use Rattle.std.specs.Option.{option_map_or}
use Rattle.bag_algebra.specs.declared.query.JoinKind.{JoinKind}
use Rattle.bag_algebra.specs.declared.query.JoinKind.TheVariants as join
use Rattle.bag_algebra.specs.declared.query.Query.{Query}
use Rattle.bag_algebra.specs.declared.query.Query.TheVariants.{Join}
use Rattle.perm_catalog.specs.Changes.{view_named}
use Rattle.perm_catalog.specs.Contents.{Contents}
use Rattle.sql_tree.specs.declared.name.Name.{Name}
use Rattle.sql_tree.specs.declared.source.FromTree.{FromTree, out-FromTree}
use Rattle.contribution.specs.Conjunctions.{always}
use Rattle.name_meaning.specs.Froms.{FromItemPart, FromMeant, FromPart, ItemMeant, JoinPart, beside_items, from_all, join_item, on_meant, Read, read_names, read_nothing, read_query, read_view, joined_item}
use Rattle.name_meaning.specs.Meanings.{Part, QueryMeant}
use Rattle.name_meaning.specs.Scopes.{ScopeItem, scope_of}
use Rattle.name_meaning.specs.declared.scope.Scope.{Scope}
use Rattle.name_made_parts.specs.declared.shown.ShownNames.{ShownNames}
use Rattle.name_made_parts.specs.Cored.{Keeps}
use Rattle.name_meaning.specs.declared.nodes.cores.Condition.{Condition}
use Rattle.name_made_parts.specs.declared.asked.cores.MadeCondition.{MadeCondition}

abbrev pub text_of : Name → List ℕ
text_of name = name.text

-- a name that is no table's
abbrev pub read_viewed : Contents → Name → Read
read_viewed c name = option_map_or (read_view name.text) (view_named c name.text) (read_nothing name)

abbrev pub join_count : FromTree → ℕ
join_count tree = length (out-FromTree tree).joins

-- what is behind a comma, beside what is before it
abbrev pub beside_left : Option Query → Query → Query
beside_left None right = right
beside_left (Some left) right = Join join.Inner left right always []

-- what the query of a subquery shows, if it breaks nothing
pub record IsShown (m : QueryMeant) (shown : ShownNames) : Type 0 where
  pub names : shown.names ≡ read_names (read_query m)
  pub places : shown.places ≡ m.places

abbrev pub Shows : QueryMeant → ShownNames → Type 0
Shows m shown = m.breaks ≡ [] → IsShown m shown

-- the scope of all its items, whose columns are known
pub record IsScope (m : FromMeant) (scope : Scope) : Type 0 where
  pub whole : m.breaks ≡ []
  pub items : List ScopeItem
  pub known : m.items ≡ Some items
  pub scope_is : scope ≡ scope_of items

-- none, where it breaks
abbrev pub IsScopeOf : FromMeant → Option Scope → Type 0
IsScopeOf m None = m.breaks ≡ [] → ⊥
IsScopeOf m (Some scope) = IsScope m scope

-- its items are known, and stand in the scope behind as many others
pub record StandsIn (items : Option (List ScopeItem)) (first : ℕ) (scope : Scope) : Type 0 where
  pub before : List ScopeItem
  pub own : List ScopeItem
  pub after : List ScopeItem
  pub known : items ≡ Some own
  pub scope_is : record scope { groups = None } ≡ scope_of (before ++ (own ++ after))
  pub at : length before ≡ first

-- a part of FROM made, where it breaks nothing and its items stand there in the scope
abbrev pub MakesFrom : FromMeant → ℕ → Scope → Query → Type 0
MakesFrom m first scope made = m.breaks ≡ [] → StandsIn m.items first scope → made ≡ m.query

-- an item made, where it breaks nothing
abbrev pub MakesSource : ItemMeant → Query → Type 0
MakesSource m made = m.breaks ≡ [] → made ≡ m.query

-- a condition of ON made, where it breaks nothing and its items stand there in the scope
abbrev pub MakesOn : List Scope → Option Part → ℕ → ℕ → Scope → MadeCondition → Type 0
MakesOn outer condition first count scope kept = (items : List ScopeItem) → StandsIn (Some items) first scope → length items ≡ count
    → Keeps (on_meant outer (Some items) condition) kept

-- a condition that is kept; TRUE, if there is none
abbrev pub kept_or_yes : Option Condition → Condition
kept_or_yes None = record { expr = always; subs = [] }
kept_or_yes (Some condition) = condition

abbrev pub join_on_kept : JoinKind → Query → Query → MadeCondition → Query
join_on_kept kind left right kept = Join kind left right (kept_or_yes kept.condition).expr (kept_or_yes kept.condition).subs

-- an item made whose subquery sees as many items, where it breaks nothing and they stand there in the scope
abbrev pub MakesBeside : List Scope → FromItemPart → ℕ → ℕ → Scope → Query → Type 0
MakesBeside outer item first before scope made = (items : List ScopeItem) → StandsIn (Some items) first scope → length items ≡ before
    → (earlier : List (List ℕ)) → MakesSource (item.means (beside_items (Some items) outer) earlier) made

-- one more join made, behind as many items
abbrev pub MakesJoin : List Scope → JoinPart → ℕ → ℕ → Scope → Query → Query → Type 0
MakesJoin outer step first before scope whole made = (left : FromMeant)
    → ((items : List ScopeItem) → left.items ≡ Some items → length items ≡ before) → whole ≡ left.query
    → MakesFrom (join_item outer left step (joined_item outer left step)) first scope made

-- what is before a comma, if anything is
abbrev pub left_of : List FromPart → FromMeant → Option Query
left_of [] m = None
left_of (part ∷ parts) m = Some m.query

-- parts of FROM made so far, and how many items they have
pub record SourcesMade (outer : List Scope) (parts : List FromPart) (scope : Scope) (made : Option Query) (count : ℕ) : Type 0 where
  pub makes : (from_all outer parts).breaks ≡ [] → StandsIn (from_all outer parts).items 0 scope
      → made ≡ left_of parts (from_all outer parts)
  pub counts : (items : List ScopeItem) → (from_all outer parts).items ≡ Some items → length items ≡ count

-- joins of a `from` made so far
pub record JoinsMade (m : FromMeant) (first : ℕ) (scope : Scope) (made : Query) (joins : ℕ) : Type 0 where
  pub makes : MakesFrom m first scope made
  pub counts : (items : List ScopeItem) → m.items ≡ Some items → length items ≡ suc joins
