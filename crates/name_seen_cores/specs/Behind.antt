-- What the code finds of the clauses of a core behind its FROM, and of a query behind its body.
use Rattle.std.specs.Prelude.{◌≡◌, ℕ, ℤ, Bool, true, false, List, [], ◌++◌, flat_map, length, map, Option, Some, option_map, Result, Ok, Err}
use Rattle.std.specs.List.{range_with_len}
use Rattle.bag_algebra.specs.Kinds.{place_kinds}
use Rattle.bag_algebra.specs.PlaceNames.{place_names}
use Rattle.perm_catalog.specs.Contents.{Contents}
use Rattle.sql_tree.specs.declared.expression.ExprTree.{ExprTree}
use Rattle.sql_tree.specs.declared.name.ColRef.{ColRef}
use Rattle.sql_tree.specs.declared.query.Core.{Core, out-Core}
use Rattle.sql_tree.specs.declared.query.OrderTree.{OrderTree}
use Rattle.name_meaning.specs.Cores.{core_over, group_break, group_scope, has_some, optional_built}
use Rattle.name_meaning.specs.Froms.{FromMeant, named_columns, optional_breaks}
use Rattle.name_meaning.specs.Items.{SelectPart}
use Rattle.name_meaning.specs.Meanings.{Around, Meant, Part, QueryMeant}
use Rattle.name_meaning.specs.Queries.{keys_of, limited, operand_break, out_column, plain_query, query_with_provenance, united_columns}
use Rattle.name_meaning.specs.Scopes.{ScopeItem}
use Rattle.name_meaning.specs.Trees.{from_of, item_of, part_of}
use Rattle.name_meaning.specs.declared.scope.Scope.{Scope}
use Rattle.name_meaning.specs.laws.Facts.{both_facts, no_facts, sub_facts}
use Rattle.name_seen_parts.specs.Seen.{FirstOr, first_or}
use Rattle.name_seen_parts.specs.declared.refusal.Refusal.{Refusal}
use Rattle.name_seen_parts.specs.declared.refusal.Refusal.TheVariants.{Break as Broken, NoMemory}
use Rattle.name_seen_parts.specs.Columns.{columns_of}
use Rattle.name_seen_parts.specs.declared.clauses.column.ShownColumn.{ShownColumn}
use Rattle.name_seen_cores.specs.from.Added.{facts_in}
use Rattle.name_seen_cores.specs.declared.from.facts.Facts.{Facts as Gathered}
use Rattle.name_seen_cores.specs.declared.from.shown.QueryShown.{QueryShown}

-- ---- the clauses of a core

abbrev pub optional_part : Contents → Option ExprTree → Option Part
optional_part c tree = option_map (part_of c) tree

-- a condition, where there is one; its facts come behind those so far
pub record ConditionWhole (part : Option Part) (m : Option Meant) (old new : Gathered) : Type 0 where
  pub whole : optional_breaks part m ≡ []
  pub adds : facts_in new ≡ both_facts (facts_in old) (sub_facts (optional_built m).subs)

abbrev pub ConditionSeen : Option Part → Option Meant → Gathered → Gathered → Result Unit Refusal → Type 0
ConditionSeen part m old new result = FirstOr (optional_breaks part m) (λ done. ConditionWhole part m old new) result

-- the scope behind GROUP BY
pub record GroupsWhole (own : Scope) (groups : List ColRef) (having : Option Part) (items : List SelectPart) (scope : Scope) : Type 0 where
  pub whole : flat_map (group_break own) groups ≡ []
  pub scope_is : scope ≡ group_scope own groups having items

abbrev pub GroupsSeen : Scope → List ColRef → Option Part → List SelectPart → Result Scope Refusal → Type 0
GroupsSeen own groups having items result = FirstOr (flat_map (group_break own) groups) (GroupsWhole own groups having items) result

abbrev pub is_aggregating : SelectPart → Bool
is_aggregating item = item.aggregating

-- a core over these items, the word PROVENANCE at its place
abbrev pub core_behind : Contents → Core → Around → FromMeant → List ScopeItem → QueryMeant
core_behind c tree around input items = core_over around.outer [] input (has_some (map (from_of c) (out-Core tree).sources)) (out-Core tree).distinct
    (map (item_of c) (out-Core tree).items) (optional_part c (out-Core tree).condition) (out-Core tree).groups (optional_part c (out-Core tree).having) items

-- ---- set operations

-- the columns so far united with those of one more operand
abbrev pub OperandUnited : ℕ → List ShownColumn → List ShownColumn → Result (List ShownColumn) Refusal → Type 0
OperandUnited at left right (Ok columns) =
    (operand_break at (columns_of left) (columns_of right) ≡ []) × (columns_of columns ≡ united_columns (columns_of left) (columns_of right))
OperandUnited at left right (Err (Broken first)) = first_or (operand_break at (columns_of left) (columns_of right)) (tt {0}) ≡ Err first
OperandUnited at left right (Err NoMemory) = ⊥

-- ---- a query

-- the query over its body, which asks for provenance or not
abbrev pub query_behind : Bool → ℕ → QueryMeant → List OrderTree → Option ℤ → QueryMeant
query_behind false at body order limit = plain_query at body order limit
query_behind true at body order limit = query_with_provenance at body order limit (limited limit (keys_of body.columns order) (body.make []))

-- the columns of its places, behind those of a query with these columns and facts
pub record PlacesBehind (columns : List ShownColumn) (facts : Gathered) (query : QueryShown) : Type 0 where
  pub shown : columns_of query.columns ≡ columns_of columns ++ map out_column (named_columns (place_names facts.places) (place_kinds facts.places))
  pub places : query.places ≡ Some (range_with_len (length columns) (length (place_kinds facts.places)))
  pub none_traced : facts_in query.facts ≡ no_facts
