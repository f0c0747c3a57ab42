-- The nodes of the syntax tree, made of what the rules of the grammar give.
use Rattle.std.specs.Prelude.{ℕ, ◌==◌, ℤ, Bool, true, false, if◌then◌else◌, List, [], ◌∷◌, map, length, Option, Some, None, is_some, option_map, ◌⊎◌}
use Rattle.std.proofs.Common.{inl, inr}
use Rattle.null_logic.specs.declared.arith.Arith.{Arith}
use Rattle.null_logic.specs.declared.arith.Arith.TheVariants as arith
use Rattle.null_logic.specs.declared.compare.Compare.{Compare}
use Rattle.null_logic.specs.declared.compare.Compare.TheVariants as compare
use Rattle.null_logic.specs.declared.operator.Operator.{Operator}
use Rattle.null_logic.specs.declared.truth.Truth.{Truth}
use Rattle.null_logic.specs.declared.truth.Truth.TheVariants as truth
use Rattle.perm_values.specs.declared.kind.Kind.{Kind}
use Rattle.perm_values.specs.declared.kind.Kind.TheVariants as kind
use Rattle.sql_lexer.specs.declared.token.Token.{Token}
use Rattle.sql_tree.specs.grammar.Sorts.{sort_of, same_sort}
use Rattle.sql_tree.specs.declared.grammar.sort.Sort.{Sort}
use Rattle.sql_tree.specs.declared.grammar.sort.Sort.TheVariants as s
use Rattle.sql_tree.specs.declared.expression.AggWord.{AggWord}
use Rattle.sql_tree.specs.declared.expression.AggWord.TheVariants as word
use Rattle.sql_tree.specs.declared.expression.ArmTree.{ArmTree}
use Rattle.sql_tree.specs.declared.expression.ExprBody.{ExprBody}
use Rattle.sql_tree.specs.declared.expression.ExprBody.TheVariants as e
use Rattle.sql_tree.specs.declared.expression.ExprStep.{ExprStep}
use Rattle.sql_tree.specs.declared.expression.ExprTree.{ExprTree}
use Rattle.sql_tree.specs.declared.name.ColRef.{ColRef}
use Rattle.sql_tree.specs.declared.name.Name.{Name}
use Rattle.sql_tree.specs.declared.query.Core.{Core, roll-Core}
use Rattle.sql_tree.specs.declared.query.OrderKey.TheVariants.{Named as named_key, Position}
use Rattle.sql_tree.specs.declared.query.OrderTree.{OrderTree}
use Rattle.sql_tree.specs.declared.query.QueryTree.{QueryTree}
use Rattle.sql_tree.specs.declared.query.SelectItem.{SelectItem}
use Rattle.sql_tree.specs.declared.query.SelectItem.TheVariants.{Star, TableStar, Value}
use Rattle.sql_tree.specs.declared.query.SetStep.{SetStep}
use Rattle.sql_tree.specs.declared.query.SetTree.{SetTree}
use Rattle.sql_tree.specs.declared.query.SetTree.TheVariants as set
use Rattle.sql_tree.specs.declared.query.SetWord.{SetWord}
use Rattle.sql_tree.specs.declared.query.SetWord.TheVariants.{Union, Except, Intersect}
use Rattle.sql_tree.specs.declared.source.FromItem.{FromItem}
use Rattle.sql_tree.specs.declared.source.FromSource.{FromSource}
use Rattle.sql_tree.specs.declared.source.FromSource.TheVariants as source
use Rattle.sql_tree.specs.declared.source.FromTree.{FromTree, roll-FromTree}
use Rattle.sql_tree.specs.declared.source.JoinStep.{JoinStep, roll-JoinStep}
use Rattle.sql_tree.specs.declared.source.JoinWord.{JoinWord}
use Rattle.sql_tree.specs.declared.source.JoinWord.TheVariants as join
use Rattle.sql_tree.specs.declared.source.ScopeMark.{ScopeMark}
use Rattle.sql_tree.specs.declared.source.ScopeMark.TheVariants as mark
use Rattle.sql_tree.specs.declared.statement.ColumnDef.{ColumnDef}
use Rattle.sql_tree.specs.declared.statement.Script.{Script}
use Rattle.sql_tree.specs.declared.statement.Statement.{Statement}
use Rattle.sql_tree.specs.declared.statement.StatementBody.{StatementBody}
use Rattle.sql_tree.specs.declared.statement.StatementBody.TheVariants as st
use Rattle.sql_tree.specs.declared.statement.ValuesRow.{ValuesRow}

-- a word of the grammar says no more than that it stands there
abbrev pub Word : Type 0
Word = Unit {0}

-- one and more, each behind a comma
abbrev pub items : {X : Type 0} → X × List (Word × X) → List X
items (x, more) = x ∷ map (λ m. m.1) more

-- the first of some alternatives, or what the others make
abbrev pub one_of : {X Y : Type 0} → (Y → X) → X ⊎ Y → X
one_of others (inl x) = x
one_of others (inr y) = others y

-- those that are there
abbrev pub present : {X : Type 0} → List (Option X) → List X
present [] = []
present (None ∷ xs) = present xs
present (Some x ∷ xs) = x ∷ present xs

-- ---- words that tokens choose

abbrev pub is : Token → Sort → Bool
is token sort = same_sort (sort_of token) sort

abbrev pub kind_of : Token → Kind
kind_of t = if is t s.Text then kind.Text else (if is t s.Boolean then kind.Boolean else kind.Integer)

abbrev pub comparison_of : Token → Compare
comparison_of t =
    if is t s.Equal then compare.Equal
    else (if is t s.NotEqual then compare.NotEqual
    else (if is t s.Less then compare.Less
    else (if is t s.LessEqual then compare.LessEqual
    else (if is t s.Greater then compare.Greater else compare.GreaterEqual))))

abbrev pub arith_of : Token → Arith
arith_of t =
    if is t s.Plus then arith.Add
    else (if is t s.Minus then arith.Subtract
    else (if is t s.Star then arith.Multiply
    else (if is t s.Slash then arith.Divide else arith.Remainder)))

abbrev pub truth_of : Token → Truth
truth_of t = if is t s.True then truth.True else (if is t s.False then truth.False else truth.Unknown)

abbrev pub aggregate_of : Token → AggWord
aggregate_of t = if is t s.Sum then word.Sum else (if is t s.Min then word.Min else word.Max)

abbrev pub outer_of : Token → JoinWord
outer_of t = if is t s.Right then join.Right else join.Full

abbrev pub literal_of : Token → ExprBody
literal_of t =
    if is t s.Digits then e.Integer t.number
    else (if is t s.Literal then e.Text t.spelled
    else (if is t s.True then e.Truth true
    else (if is t s.False then e.Truth false else e.Null)))

-- ---- names

abbrev pub name_of : Token → Name
name_of t = record { text = t.spelled; at = t.start }

abbrev pub reference : Name → Option Name → ColRef
reference name None = record { at = name.at; table = None; name = name }
reference name (Some column) = record { at = name.at; table = Some name; name = column }

-- ---- expressions

abbrev pub node : ℕ → ExprBody → ExprTree
node at body = record { at = at; body = body }

-- parts with an operator between them; one part is itself
abbrev pub connected : Operator → List ExprTree → ExprTree
connected op [] = node 0 (e.Logic op [])
connected op (part ∷ []) = part
connected op (part ∷ other ∷ more) = node part.at (e.Logic op (part ∷ other ∷ more))

abbrev pub logic : Operator → ExprTree × List (Word × ExprTree) → ExprTree
logic op parts = connected op (items parts)

abbrev pub chain : ExprTree × List ExprStep → ExprTree
chain (first, []) = first
chain (first, step ∷ steps) = node first.at (e.Chain first (step ∷ steps))

abbrev pub step_of : Token × ExprTree → ExprStep
step_of (op, part) = record { op = arith_of op; part = part }

-- under as many NOTs; none leave the part as it is
abbrev pub negated : ℕ → ℕ → ExprTree → ExprTree
negated at count part = if count == 0 then part else node at (e.Nots count part)

abbrev pub nots : ℕ × (List Word × ExprTree) → ExprTree
nots (at, (words, part)) = negated at (length words) part

-- under as many signs; none leave the part as it is
abbrev pub signed : ℕ → ℕ → ExprTree → ExprTree
signed at count part = if count == 0 then part else node at (e.Signs count part)

abbrev pub signs : ℕ × (List Word × ExprTree) → ExprTree
signs (at, (minuses, part)) = signed at (length minuses) part

-- what stands behind a part, or nothing
abbrev pub continued : {X : Type 0} → X × Option (X → X) → X
continued (part, None) = part
continued (part, Some behind) = behind part

abbrev pub is_test : Option Word × (Token ⊎ (Token ⊎ (Word × (Word × ExprTree)))) → ExprTree → ExprTree
is_test (negated, inl null) part = node part.at (e.IsNull (is_some negated) part)
is_test (negated, inr (inl t)) part = node part.at (e.IsTruth (is_some negated) (truth_of t) part)
is_test (negated, inr (inr (distinct, (from, second)))) part = node part.at (e.IsDistinct (is_some negated) part second)

abbrev pub comparison : Token × ((Token × QueryTree) ⊎ ExprTree) → ExprTree → ExprTree
comparison (op, inl (quantifier, query)) part =
    node part.at (e.Quantified (is quantifier s.All) (comparison_of op) part query)
comparison (op, inr second) part = node part.at (e.Compared (comparison_of op) part second)

-- [NOT] before LIKE, BETWEEN or IN, behind a part
abbrev pub ranged : ExprTree × Option (Option Word × (Bool → ExprTree → ExprTree)) → ExprTree
ranged (part, None) = part
ranged (part, Some (negated, range)) = range (is_some negated) part

abbrev pub range : (Word × ExprTree) ⊎ ((Word × (ExprTree × (Word × ExprTree))) ⊎ (Word × (Bool → ExprTree → ExprTree))) →
    Bool → ExprTree → ExprTree
range (inl (like, pattern)) negated part = node part.at (e.Like negated part pattern)
range (inr (inl (between, (low, (and, high))))) negated part = node part.at (e.Between negated part low high)
range (inr (inr (in_word, members))) negated part = members negated part

abbrev pub members : Word × ((QueryTree ⊎ List ExprTree) × Word) → Bool → ExprTree → ExprTree
members (opening, (inl query, closing)) negated part = node part.at (e.InQuery negated part query)
members (opening, (inr list, closing)) negated part = node part.at (e.InList negated part list)

-- ---- the bodies of expressions

-- any of the ten alternatives
abbrev pub alternatives :
    ExprBody ⊎ (ExprBody ⊎ (ExprBody ⊎ (ExprBody ⊎ (ExprBody ⊎ (ExprBody ⊎ (ExprBody ⊎ (ExprBody ⊎ (ExprBody ⊎ ExprBody)))))))) → ExprBody
alternatives = one_of (one_of (one_of (one_of (one_of (one_of (one_of (one_of (one_of (λ last. last)))))))))

abbrev pub arm : Word × (ExprTree × (Word × ExprTree)) → ArmTree
arm (when, (condition, (then_word, value))) = record { condition = condition; value = value }

abbrev pub in_parentheses : Word × ((QueryTree ⊎ ExprTree) × Word) → ExprBody
in_parentheses (opening, (inl query, closing)) = e.Scalar query
in_parentheses (opening, (inr part, closing)) = e.Paren part

abbrev pub column : Token × Option Name → ExprBody
column (t, name) = e.Column (reference (name_of t) name)

-- a function's word, with its arguments in parentheses or as a name
abbrev pub called : {X : Type 0} → (Token → X → ExprBody) → Token × ((Word × (X × Word)) ⊎ Option Name) → ExprBody
called function (t, inl (opening, (arguments, closing))) = function t arguments
called function (t, inr name) = column (t, name)

abbrev pub counted : Token ⊎ (Option Word × ExprTree) → ExprBody
counted (inl star) = e.Aggregate word.CountRows None
counted (inr (None, part)) = e.Aggregate word.Count (Some part)
counted (inr (Some distinct, part)) = e.Aggregate word.CountDistinct (Some part)

abbrev pub aggregate : Token → ExprTree → ExprBody
aggregate t part = e.Aggregate (aggregate_of t) (Some part)

abbrev pub null_if : Token → ExprTree × (Word × ExprTree) → ExprBody
null_if t (part, (comma, second)) = e.NullIf part second

-- ---- queries

abbrev pub set_chain : SetTree × List SetStep → SetTree
set_chain (first, []) = first
set_chain (first, step ∷ steps) = set.Chain first (step ∷ steps)

abbrev pub set_word : Token → SetWord
set_word t = if is t s.Union then Union else Except

abbrev pub set_step : SetWord → Option Word → ℕ × SetTree → SetStep
set_step operation all (at, operand) = record { word = operation; all = is_some all; at = at; operand = operand }

abbrev pub query_rest : List SetStep × (List SetStep × (List OrderTree × Option ℤ)) → ℕ → SetTree → QueryTree
query_rest (intersections, (unions, (order, limit))) at first = record {
  at = at;
  body = set_chain (set_chain (first, intersections), unions);
  order = order;
  limit = limit;
}

abbrev pub operand : Core ⊎ (Word × (QueryTree × Word)) → SetTree
operand (inl core) = set.Core core
operand (inr (opening, (query, closing))) = set.Paren query

abbrev pub core_operand : Core → SetTree
core_operand core = set.Core core

abbrev pub intersect : SetWord
intersect = Intersect

abbrev pub is_descending : Option Token → Bool
is_descending None = false
is_descending (Some direction) = is direction s.Desc

abbrev pub key : (Token ⊎ Token) × Option Token → OrderTree
key (inl t, direction) = record { at = t.start; key = named_key t.spelled; descending = is_descending direction }
key (inr t, direction) = record { at = t.start; key = Position t.number; descending = is_descending direction }

abbrev pub listed_behind : {X : Type 0} → Option (Word × (Word × (X × List (Word × X)))) → List X
listed_behind None = []
listed_behind (Some (first, (second, list))) = items list

abbrev pub limit : Option (Word × Token) → Option ℤ
limit None = None
limit (Some (limit_word, t)) = Some t.number

abbrev pub clause : {X : Type 0} → Option (Word × X) → Option X
clause None = None
clause (Some (word, x)) = Some x

abbrev pub core :
    ℕ × (Word × (Option (ℕ × Word) × (Option Word × (List SelectItem × (List FromTree × (Option ExprTree × (List ColRef × Option ExprTree))))))) → Core
core (at, (select, (provenance, (distinct, (list, (sources, (condition, (groups, having)))))))) = roll-Core (record {
  at = at;
  provenance = option_map (λ p. p.0) provenance;
  distinct = is_some distinct;
  items = list;
  sources = sources;
  condition = condition;
  groups = groups;
  having = having;
})

abbrev pub item : Token ⊎ ((Token × (Word × Word)) ⊎ SelectItem) → SelectItem
item (inl star) = Star star.start
item (inr (inl (table, (dot, star)))) = TableStar (name_of table)
item (inr (inr value)) = value

abbrev pub item_value : ExprTree × Option Name → SelectItem
item_value (expr, name) = Value expr name

abbrev pub alias : Option ((Word × Name) ⊎ Name) → Option Name
alias None = None
alias (Some (inl (as_word, name))) = Some name
alias (Some (inr name)) = Some name

abbrev pub sources : Option (Word × (FromTree × List (Word × FromTree))) → List FromTree
sources None = []
sources (Some (from, list)) = items list

abbrev pub from_tree : FromItem × List JoinStep → FromTree
from_tree (first, joins) = roll-FromTree (record { first = first; joins = joins })

abbrev pub joined_on : JoinWord × (FromItem × (Word × ExprTree)) → JoinStep
joined_on (operation, (source, (on, condition))) = roll-JoinStep (record { word = operation; item = source; condition = Some condition })

abbrev pub joined_freely : JoinWord → FromItem → JoinStep
joined_freely operation source = roll-JoinStep (record { word = operation; item = source; condition = None })

abbrev pub join_step : (JoinWord × (FromItem × (Word × ExprTree))) ⊎ (JoinStep ⊎ JoinStep) → JoinStep
join_step (inl v) = joined_on v
join_step (inr (inl left)) = left
join_step (inr (inr cross)) = cross

-- a query in parentheses, with its name
abbrev pub Derived : Type 0
Derived = Word × (QueryTree × (Word × (Option Word × Name)))

abbrev pub derived : Derived → FromSource × Option Name
derived (opening, (query, (closing, (as_word, name)))) = (source.Inner query, Some name)

-- a lateral item has no mark
abbrev pub lateral : Word × (ℕ × Derived) → FromItem
lateral (lateral_word, (at, v)) = record { at = at; source = (derived v).0; alias = (derived v).1; mark = mark.Plain }

abbrev pub left_joined : ((Word × (ℕ × Derived)) × (Word × Word)) ⊎ (FromItem × (Word × ExprTree)) → JoinStep
left_joined (inl (v, (on, true_word))) = joined_freely join.LeftLateral (lateral v)
left_joined (inr v) = joined_on (join.Left, v)

abbrev pub crossed : (Word × (ℕ × Derived)) ⊎ FromItem → JoinStep
crossed (inl v) = joined_freely join.CrossLateral (lateral v)
crossed (inr source) = joined_freely join.Cross source

abbrev pub join_word : (Option Word × Word) ⊎ (Token × (Option Word × Word)) → JoinWord
join_word (inl inner) = join.Inner
join_word (inr (t, outer)) = outer_of t

abbrev pub from_item : (ℕ × (FromSource × Option Name)) × ScopeMark → FromItem
from_item ((at, (source, name)), scope) = record { at = at; source = source; alias = name; mark = scope }

abbrev pub aliased : (Name × Option Name) ⊎ Derived → FromSource × Option Name
aliased (inl (table, name)) = (source.Named table, name)
aliased (inr v) = derived v

abbrev pub scope_mark : Option (Word ⊎ (Word × (Word × (List Name × Word)))) → ScopeMark
scope_mark None = mark.Plain
scope_mark (Some (inl base)) = mark.BaseRelation
scope_mark (Some (inr (provenance, (opening, (attributes, closing))))) = mark.External attributes

-- ---- statements

abbrev pub script : Option Statement × List (Word × Option Statement) → Script
script (first, more) = record { statements = present (first ∷ map (λ m. m.1) more) }

abbrev pub statement : ℕ × StatementBody → Statement
statement (at, body) = record { at = at; body = body }

abbrev pub create_table : Word × (Name × (List ColumnDef ⊎ (Word × QueryTree))) → StatementBody
create_table (table_word, (table, inl columns)) = st.CreateTable table columns
create_table (table_word, (table, inr (as_word, query))) = st.CreateTableAs table query

abbrev pub create_view : Word × (Name × (Word × QueryTree)) → StatementBody
create_view (view_word, (view, (as_word, query))) = st.CreateView view query

abbrev pub column_def : Name × Kind → ColumnDef
column_def (name, kind) = record { name = name; kind = kind }

-- the field that stands for NULL; none is the empty one
abbrev pub null_field : Option (Word × Token) → List ℕ
null_field None = []
null_field (Some (null, t)) = t.spelled

abbrev pub copy : Word × (Name × (Word × (Token × (Option Word × Option (Word × Token))))) → StatementBody
copy (copy_word, (table, (from, (file, (header, null))))) = st.Copy table file.spelled (is_some header) (null_field null)

abbrev pub insert : Word × (Word × (Name × (Word × (ValuesRow × List (Word × ValuesRow))))) → StatementBody
insert (insert_word, (into, (table, (values, rows)))) = st.Insert table (items rows)

abbrev pub row : ℕ × (Word × (List ExprTree × Word)) → ValuesRow
row (at, (opening, (values, closing))) = record { at = at; values = values }

abbrev pub delete : Word × (Word × (Name × Option ExprTree)) → StatementBody
delete (delete_word, (from, (table, condition))) = st.Delete table condition

abbrev pub impact : Word × (Word × (Word × (Name × (Option ExprTree × (Word × QueryTree))))) → StatementBody
impact (impact_word, (delete_word, (from, (table, (condition, (of_word, query)))))) = st.Impact table condition query

abbrev pub drop_what : Word × ((Word × Name) ⊎ (Word × Name)) → StatementBody
drop_what (drop_word, inl (table_word, table)) = st.DropTable table
drop_what (drop_word, inr (view_word, view)) = st.DropView view
