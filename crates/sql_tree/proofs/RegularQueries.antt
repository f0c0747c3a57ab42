-- What the rules of queries build of regular parts is regular.
use Rattle.std.proofs.Common.{◌≡◌, ℕ, inl, inr, Bool, true, false, List, [], ◌∷◌, Some, None, refl, sym, subst, ◌∙◌}
use Rattle.std.specs.Prelude.{if◌then◌else◌, option_map, is_some}
use Rattle.sql_tree.specs.grammar.Building as b
use Rattle.sql_tree.specs.grammar.Symbols as n
use Rattle.sql_tree.specs.declared.grammar.sort.Sort.TheVariants as s
use Rattle.sql_tree.proofs.Holding.{none-each, none-there, some-there}
use Rattle.sql_tree.proofs.RegularTrees.{Builds, items-each}
use Rattle.sql_tree.proofs.Made as made
use Rattle.sql_tree.specs.Regular.{Each, IsTokenNumber, RegularOrder, RegularExpr, RegularSet, RegularSetStep, RegularQuery, RegularFrom, RegularFromItem, RegularJoin, RegularItem, has_condition, is_lateral, IsSubquery, IsLateralItem, regular_query, regular_set_step, regular_from_item}
use Rattle.sql_tree.specs.declared.query.SetStep.{SetStep}
use Rattle.sql_tree.specs.declared.query.SetTree.{SetTree}
use Rattle.sql_tree.specs.declared.expression.ExprTree.{ExprTree}
use Rattle.sql_tree.specs.declared.name.Name.{Name}
use Rattle.sql_tree.specs.declared.query.QueryTree.{QueryTree}
use Rattle.sql_tree.specs.declared.source.FromItem.{FromItem}
use Rattle.sql_tree.specs.declared.source.FromSource.TheVariants.{Inner, outs-Inner}
use Rattle.sql_tree.specs.declared.source.JoinWord.{JoinWord}
use Rattle.sql_tree.specs.declared.source.JoinWord.TheVariants.{Left, Right, Full, Cross, CrossLateral, LeftLateral}
use Rattle.sql_tree.specs.declared.source.ScopeMark.TheVariants.{Plain}

-- ---- set operations

pub query-builds : Builds n.Query
query-builds v h = h.1 v.0 v.1.0 h.0

pub inner-builds : Builds n.Inner
inner-builds v h = h.1 v.0 (b.core_operand v.1.0) (made.set_core-regular v.1.0 h.0)

pub in_parentheses-builds : Builds n.InParentheses
in_parentheses-builds v h = h.1.0

pub operand-builds : Builds n.Operand
operand-builds (inl core) h = made.set_core-regular core h
operand-builds (inr (opening, (query, closing))) h = made.set_paren-regular query h.1.0

chain-regular : (first : SetTree) (steps : List SetStep) → RegularSet first → Each RegularSetStep steps → RegularSet (b.set_chain (first, steps))
chain-regular first [] p each = p
chain-regular first (step ∷ steps) p each = made.set_chain-regular first (step ∷ steps) p tt each

pub query_rest-builds : Builds n.QueryRest
query_rest-builds (intersections, (unions, (order, limit))) h = λ at first p.
    regular_query
    (chain-regular (b.set_chain (first, intersections)) unions (chain-regular first intersections p h.0) h.1.0)
    h.1.1.0 h.1.1.1

pub term-builds : Builds n.Term
term-builds (first, steps) (p, each) = chain-regular first steps p each

pub intersect_step-builds : Builds n.IntersectStep
intersect_step-builds (intersect, (all, (at, operand))) h = regular_set_step h.1.1

pub union_step-builds : Builds n.UnionStep
union_step-builds (union, (all, (at, operand))) h = regular_set_step h.1.1

pub order-builds : Builds n.Order
order-builds None h = none-each RegularOrder
order-builds (Some (order, (by, (key, more)))) h = items-each RegularOrder key more h.1.1.0 h.1.1.1

pub key-builds : Builds n.Key
key-builds (inl t, direction) h = tt
key-builds (inr t, direction) h = h.0.1.0

pub limit-builds : Builds n.Limit
limit-builds None h = none-there IsTokenNumber
limit-builds (Some (limit, t)) h = some-there IsTokenNumber t.number h.1.1

-- ---- a SELECT

pub core-builds : Builds n.CoreOf
core-builds (at, (select, (provenance, (distinct, (list, (sources, (condition, (groups, having)))))))) h =
    made.core-regular at (option_map (λ p. p.0) provenance) (is_some distinct) list sources condition groups having
    h.1.1.1.0.0 h.1.1.1.0.1 h.1.1.1.1.0 h.1.1.1.1.1.0 h.1.1.1.1.1.1.1

pub items-builds : Builds n.Items
items-builds (item, more) (p, each) = (tt, items-each RegularItem item more p each)

pub item-builds : Builds n.Item
item-builds (inl star) h = made.star-regular star.start
item-builds (inr (inl (table, (dot, star)))) h = made.table_star-regular (b.name_of table)
item-builds (inr (inr value)) h = h

pub item_value-builds : Builds n.ItemValue
item_value-builds (expr, name) h = made.value-regular expr name h.0

pub sources-builds : Builds n.Sources
sources-builds None h = none-each RegularFrom
sources-builds (Some (from, (first, more))) h = items-each RegularFrom first more h.1.0 h.1.1

pub condition-builds : Builds n.Condition
condition-builds None h = none-there RegularExpr
condition-builds (Some (where_word, part)) h = some-there RegularExpr part h.1

pub having-builds : Builds n.Having
having-builds None h = none-there RegularExpr
having-builds (Some (having, part)) h = some-there RegularExpr part h.1

-- ---- FROM

pub from-builds : Builds n.From
from-builds (first, joins) h = made.from-regular first joins h.0 h.1

on-regular : (operation : JoinWord) (item : FromItem) (condition : ExprTree) → true ≡ has_condition operation → is_lateral operation ≡ false
    → RegularFromItem item → RegularExpr condition → RegularJoin (b.joined_on (operation, (item, (tt, condition))))
on-regular operation item condition same free i c =
    made.join-regular operation item (Some condition) same (λ e. let no : true ≡ false = sym e ∙ free in absurd cc) i (some-there RegularExpr condition c)

pub join-builds : Builds n.Join
join-builds (inl (operation, (item, (on, condition)))) h = on-regular operation item condition h.0.0 h.0.1 h.1.0 h.1.1.1
join-builds (inr (inl left)) h = h
join-builds (inr (inr cross)) h = h

abbrev IsPlainJoin : JoinWord → Type 0
IsPlainJoin word = (true ≡ has_condition word) × (is_lateral word ≡ false)

outer-conditional : (right : Bool) → IsPlainJoin (if right then Right else Full)
outer-conditional true = (refl, refl)
outer-conditional false = (refl, refl)

pub join_kind-builds : Builds n.JoinKind
join_kind-builds (inl inner) h = (refl, refl)
join_kind-builds (inr (t, outer)) h = outer-conditional (b.is t s.Right)

lateral-regular : (at : ℕ) (query : QueryTree) (name : Name) → RegularQuery query
    → RegularFromItem (record { at = at; source = Inner query; alias = Some name; mark = Plain })
lateral-regular at query name q = regular_from_item (made.inner-regular query name q) tt

-- a lateral item is a subquery without a mark
lateral-is : (at : ℕ) (query : QueryTree) (name : Name) → IsLateralItem (record { at = at; source = Inner query; alias = Some name; mark = Plain })
lateral-is at query name = (subst IsSubquery (sym (outs-Inner query)) tt, refl)

pub left_join-builds : Builds n.LeftJoin
left_join-builds (left, (outer, (join_word, inl ((word, (at, (opening, (query, (closing, (as_word, name)))))), (on, true_word))))) h =
    made.join-regular LeftLateral (b.lateral (word, (at, (opening, (query, (closing, (as_word, name))))))) None refl (λ _. lateral-is at query name)
    (lateral-regular at query name h.1.1.1.0.1.1.0) (none-there RegularExpr)
left_join-builds (left, (outer, (join_word, inr (item, (on, condition))))) h = on-regular Left item condition refl refl h.1.1.1.0 h.1.1.1.1.1

pub cross_join-builds : Builds n.CrossJoin
cross_join-builds (cross, (join_word, inl (word, (at, (opening, (query, (closing, (as_word, name)))))))) h =
    made.join-regular CrossLateral (b.lateral (word, (at, (opening, (query, (closing, (as_word, name))))))) None refl (λ _. lateral-is at query name)
    (lateral-regular at query name h.1.1.1.1.0) (none-there RegularExpr)
cross_join-builds (cross, (join_word, inr item)) h = made.join-regular Cross item None refl (λ e. absurd cc) h.1.1 (none-there RegularExpr)

pub source-builds : Builds n.Source
source-builds ((at, (read, name)), scope) h = regular_from_item h.0 h.1

pub aliased-builds : Builds n.Aliased
aliased-builds (inl (table, name)) h = made.named-regular table name
aliased-builds (inr (opening, (query, (closing, (as_word, name))))) h = made.inner-regular query name h.1.0

pub mark-builds : Builds n.Mark
mark-builds None h = tt
mark-builds (Some (inl base)) h = tt
mark-builds (Some (inr (provenance, (opening, (attributes, closing))))) h = h.1.1.0
