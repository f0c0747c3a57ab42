-- Pieces of rules that have functions of their own.
use Rattle.std.specs.Prelude.{ℕ, ℤ, Bool, List, [], ◌∷◌, ◌++◌, Option, is_some, option_map}
use Rattle.std.proofs.Common.{inl}
use Rattle.sql_lexer.specs.declared.token.Token.{Token}
use Rattle.sql_tree.specs.grammar.Building as b
use Rattle.sql_tree.specs.grammar.Building.{Word}
use Rattle.sql_tree.specs.grammar.Cursors.{reading, past, one}
use Rattle.sql_tree.specs.grammar.Descent.{Parsed, and_then, mapped, begins_with, step}
use Rattle.sql_tree.specs.grammar.Grammar.{SqlRule, Given, sql, in_parentheses, derived, lateral, left_joined as left_joined_rule, crossed as crossed_rule}
use Rattle.sql_tree.specs.grammar.Lists.{all_of, listed}
use Rattle.sql_tree.specs.grammar.Sorts.{names}
use Rattle.sql_tree.specs.grammar.Rules.{word, token, ◌then◌, optional, placed, symbol}
use Rattle.sql_tree.specs.grammar.Symbols as n
use Rattle.sql_tree.specs.grammar.Tables.{join_begins, sql_tables}
use Rattle.sql_tree.specs.declared.grammar.sort.Sort.{Sort}
use Rattle.sql_tree.specs.declared.grammar.sort.Sort.TheVariants as s
use Rattle.sql_tree.specs.declared.name.ColRef.{ColRef}
use Rattle.sql_tree.specs.declared.name.Name.{Name}
use Rattle.sql_tree.specs.declared.source.FromItem.{FromItem}
use Rattle.sql_tree.specs.declared.source.FromSource.{FromSource}
use Rattle.sql_tree.specs.declared.source.FromTree.{FromTree}
use Rattle.sql_tree.specs.declared.source.JoinStep.{JoinStep}
use Rattle.sql_tree.specs.declared.query.OrderKey.{OrderKey}
use Rattle.sql_tree.specs.declared.query.OrderKey.TheVariants.{Named}
use Rattle.sql_tree.specs.declared.query.OrderTree.{OrderTree}
use Rattle.sql_tree.specs.declared.expression.ExprTree.{ExprTree}
use Rattle.sql_tree.specs.declared.query.Core.{Core, roll-Core}
use Rattle.sql_tree.specs.declared.query.SelectItem.{SelectItem}
use Rattle.sql_tree.specs.declared.query.SelectItem.TheVariants.{TableStar}
use Rattle.sql_tree.specs.declared.query.SetStep.{SetStep}
use Rattle.sql_tree.specs.declared.query.SetTree.{SetTree}
use Rattle.sql_tree.specs.declared.query.SetTree.TheVariants.{Paren}

abbrev pub by : (r : SqlRule) → List Token → Parsed Token (Given r)
by r tokens = step sql sql_tables reading r tokens

-- a word that may stand there
abbrev pub word_at : Sort → List Token → Parsed Token (Option Word)
word_at sort tokens = by (optional (word sort)) tokens

-- whether it stands there; it is passed
abbrev pub passes : Sort → List Token → Parsed Token Bool
passes sort tokens = mapped is_some (word_at sort tokens)

-- between parentheses
abbrev pub between : {X : Type 0} → (List Token → Parsed Token X) → List Token → Parsed Token X
between one tokens =
    and_then (past s.Opening tokens) (λ opening first. and_then (one first) (λ x rest. mapped (λ closing. x) (past s.Closing rest)))

-- the direction of a key
abbrev pub direction : List Token → Parsed Token Bool
direction tokens = mapped b.is_descending (by (optional (token (s.Asc ∷ s.Desc ∷ []))) tokens)

abbrev pub ordered : ℕ → OrderKey → List Token → Parsed Token OrderTree
ordered at key tokens = mapped (λ descending. record { at = at; key = key; descending = descending }) (direction tokens)

abbrev pub named_key : List Token → Parsed Token OrderTree
named_key tokens = and_then (one names tokens) (λ t rest. ordered t.start (Named t.spelled) rest)

abbrev pub keys : List Token → Parsed Token (List OrderTree)
keys tokens = listed s.Comma (reading n.Key) tokens

abbrev pub columns : List Token → Parsed Token (List ColRef)
columns tokens = listed s.Comma (reading n.ColumnOf) tokens

-- ---- FROM

abbrev pub attributes : List Token → Parsed Token (List Name)
attributes tokens = mapped (λ v. v.1.1.0) (by (word s.Provenance then in_parentheses (symbol n.Names)) tokens)

abbrev pub named_source : List Token → Parsed Token (FromSource × Option Name)
named_source tokens = mapped (λ v. b.aliased (inl v)) (by (symbol n.NameOf then symbol n.Alias) tokens)

abbrev pub inner_source : List Token → Parsed Token (FromSource × Option Name)
inner_source tokens =
    mapped b.derived (by derived tokens)

abbrev pub joined_on : List Token → Parsed Token JoinStep
joined_on tokens = mapped b.joined_on (by (symbol n.JoinKind then symbol n.Source then word s.On then symbol n.Expr) tokens)

abbrev pub lateral_item : List Token → Parsed Token FromItem
lateral_item tokens = mapped b.lateral (by lateral tokens)

-- what stands behind LEFT JOIN, and behind CROSS JOIN
abbrev pub left_joined : List Token → Parsed Token JoinStep
left_joined tokens = mapped b.left_joined (by left_joined_rule tokens)

abbrev pub crossed : List Token → Parsed Token JoinStep
crossed tokens = mapped b.crossed (by crossed_rule tokens)

abbrev pub joins : List Token → Parsed Token (List JoinStep)
joins tokens = all_of (join_begins ++ (s.Left ∷ s.Cross ∷ [])) (reading n.Join) tokens

abbrev pub from_list : List Token → Parsed Token (List FromTree)
from_list tokens = listed s.Comma (reading n.From) tokens

-- ---- queries

abbrev pub intersections : List Token → Parsed Token (List SetStep)
intersections tokens = all_of (s.Intersect ∷ []) (reading n.IntersectStep) tokens

abbrev pub unions : List Token → Parsed Token (List SetStep)
unions tokens = all_of (s.Union ∷ s.Except ∷ []) (reading n.UnionStep) tokens

abbrev pub ends : List Token → Parsed Token (List OrderTree × Option ℤ)
ends tokens = and_then (reading n.Order tokens) (λ order rest. mapped (λ limit. (order, limit)) (reading n.Limit rest))

abbrev pub unions_on : List Token → Parsed Token (List SetStep × (List OrderTree × Option ℤ))
unions_on tokens = and_then (unions tokens) (λ steps rest. mapped (λ v. (steps, v)) (ends rest))

abbrev pub query_rest : List Token → Parsed Token (List SetStep × (List SetStep × (List OrderTree × Option ℤ)))
query_rest tokens = and_then (intersections tokens) (λ steps rest. mapped (λ v. (steps, v)) (unions_on rest))

abbrev pub parenthesised : List Token → Parsed Token SetTree
parenthesised tokens = mapped (λ v. Paren v.1.0) (by (in_parentheses (symbol n.Query)) tokens)

-- ---- SELECT

abbrev pub provenance : List Token → Parsed Token (Option ℕ)
provenance tokens = mapped (λ found. option_map (λ p. p.0) found) (by (optional (placed (word s.Provenance))) tokens)

abbrev pub items : List Token → Parsed Token (List SelectItem)
items tokens = listed s.Comma (reading n.Item) tokens

abbrev pub table_star : List Token → Parsed Token SelectItem
table_star tokens = mapped (λ v. TableStar (b.name_of v.0)) (by (token names then word s.Dot then word s.Star) tokens)

abbrev pub groups_on : List Token → Parsed Token (List ColRef × Option ExprTree)
groups_on tokens = and_then (reading n.Groups tokens) (λ x rest. mapped (λ v. (x, v)) (reading n.Having rest))

abbrev pub condition_on : List Token → Parsed Token (Option ExprTree × (List ColRef × Option ExprTree))
condition_on tokens = and_then (reading n.Condition tokens) (λ x rest. mapped (λ v. (x, v)) (groups_on rest))

abbrev pub sources_on : List Token → Parsed Token (List FromTree × (Option ExprTree × (List ColRef × Option ExprTree)))
sources_on tokens = and_then (reading n.Sources tokens) (λ x rest. mapped (λ v. (x, v)) (condition_on rest))

abbrev pub items_on : List Token → Parsed Token (List SelectItem × (List FromTree × (Option ExprTree × (List ColRef × Option ExprTree))))
items_on tokens = and_then (reading n.Items tokens) (λ x rest. mapped (λ v. (x, v)) (sources_on rest))

abbrev pub core_of : ℕ → Option ℕ → Bool → List SelectItem × (List FromTree × (Option ExprTree × (List ColRef × Option ExprTree))) → Core
core_of at provenance distinct (list, (sources, (condition, (groups, having)))) = roll-Core (record {
  at = at;
  provenance = provenance;
  distinct = distinct;
  items = list;
  sources = sources;
  condition = condition;
  groups = groups;
  having = having;
})

abbrev pub sees_table_star : List Token → Bool
sees_table_star tokens = begins_with sql sql_tables (names ∷ (s.Dot ∷ []) ∷ (s.Star ∷ []) ∷ []) tokens

-- whether a token of these sorts stands next, and one of those behind it
abbrev pub sees_pair : List Sort → List Sort → List Token → Bool
sees_pair sorts behind tokens = begins_with sql sql_tables (sorts ∷ behind ∷ []) tokens
