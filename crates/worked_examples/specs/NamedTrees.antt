-- Words to write syntax trees by, with the offsets of their tokens.
use Rattle.std.specs.Prelude.{ℕ, suc, ◌+◌, ℤ, pos, Bool, false, List, [], length, Option, Some, None}
use Rattle.null_logic.specs.declared.arith.Arith.{Arith}
use Rattle.perm_values.specs.declared.kind.Kind.{Kind}
use Rattle.sql_tree.specs.declared.expression.ArmTree.{ArmTree}
use Rattle.sql_tree.specs.declared.expression.ExprBody.{ExprBody}
use Rattle.sql_tree.specs.declared.expression.ExprBody.TheOpen.{Core-F}
use Rattle.sql_tree.specs.declared.expression.ExprBody.TheVariants as e
use Rattle.sql_tree.specs.declared.expression.ExprStep.{ExprStep}
use Rattle.sql_tree.specs.declared.expression.ExprTree.{ExprTree}
use Rattle.sql_tree.specs.declared.name.ColRef.{ColRef}
use Rattle.sql_tree.specs.declared.name.Name.{Name}
use Rattle.sql_tree.specs.declared.query.Core.{Core, roll-Core}
use Rattle.sql_tree.specs.declared.query.OrderKey.{OrderKey}
use Rattle.sql_tree.specs.declared.query.OrderTree.{OrderTree}
use Rattle.sql_tree.specs.declared.query.QueryTree.{QueryTree}
use Rattle.sql_tree.specs.declared.query.SelectItem.{SelectItem}
use Rattle.sql_tree.specs.declared.query.SelectItem.TheVariants as i
use Rattle.sql_tree.specs.declared.query.SetStep.{SetStep}
use Rattle.sql_tree.specs.declared.query.SetTree.{SetTree}
use Rattle.sql_tree.specs.declared.query.SetTree.TheVariants as set
use Rattle.sql_tree.specs.declared.query.SetWord.{SetWord}
use Rattle.sql_tree.specs.declared.source.FromItem.{FromItem}
use Rattle.sql_tree.specs.declared.source.FromSource.{FromSource}
use Rattle.sql_tree.specs.declared.source.FromSource.TheVariants as source
use Rattle.sql_tree.specs.declared.source.FromTree.{FromTree, roll-FromTree}
use Rattle.sql_tree.specs.declared.source.JoinStep.{JoinStep, roll-JoinStep}
use Rattle.sql_tree.specs.declared.source.JoinWord.{JoinWord}
use Rattle.sql_tree.specs.declared.source.ScopeMark.{ScopeMark}
use Rattle.sql_tree.specs.declared.source.ScopeMark.TheVariants as mark
use Rattle.sql_tree.specs.declared.statement.ColumnDef.{ColumnDef}
use Rattle.sql_tree.specs.declared.statement.Statement.{Statement}
use Rattle.sql_tree.specs.declared.statement.StatementBody.{StatementBody}
use Rattle.sql_tree.specs.declared.statement.ValuesRow.{ValuesRow}

-- ---- expressions

abbrev pub name : ℕ → List ℕ → Name
name at text = record { text = text; at = at }

abbrev pub reference : ℕ → List ℕ → ColRef
reference at text = record { at = at; table = None; name = name at text }

-- `x.a`, with no blank in it
abbrev pub reference_of : ℕ → List ℕ → List ℕ → ColRef
reference_of at table text = record { at = at; table = Some (name at table); name = name (suc (at + length table)) text }

abbrev pub expr : ℕ → ExprBody → ExprTree
expr at body = record { at = at; body = body }

abbrev pub column : ℕ → List ℕ → ExprTree
column at text = expr at (e.Column (reference at text))

abbrev pub column_of : ℕ → List ℕ → List ℕ → ExprTree
column_of at table text = expr at (e.Column (reference_of at table text))

abbrev pub number : ℕ → ℕ → ExprTree
number at value = expr at (e.Integer (pos value))

abbrev pub text : ℕ → List ℕ → ExprTree
text at value = expr at (e.Text value)

abbrev pub null : ℕ → ExprTree
null at = expr at e.Null

abbrev pub step : Arith → ExprTree → ExprStep
step op part = record { op = op; part = part }

abbrev pub arm : ExprTree → ExprTree → ArmTree
arm condition value = record { condition = condition; value = value }

-- ---- FROM

abbrev pub reads : ℕ → FromSource → Option Name → ScopeMark → FromItem
reads at source alias mark = record { at = at; source = source; alias = alias; mark = mark }

-- a table or view, as it is
abbrev pub table : ℕ → List ℕ → FromItem
table at text = reads at (source.Named (name at text)) None mark.Plain

abbrev pub join : JoinWord → FromItem → Option ExprTree → JoinStep
join word item condition = roll-JoinStep (record { word = word; item = item; condition = condition })

abbrev pub from : FromItem → List JoinStep → FromTree
from first joins = roll-FromTree (record { first = first; joins = joins })

-- ---- queries

abbrev pub Clauses : Type 0
Clauses = Core-F ExprBody SelectItem SetTree FromSource ArmTree ExprStep ExprTree Core QueryTree SetStep FromItem FromTree JoinStep

abbrev pub item : ExprTree → SelectItem
item tree = i.Value tree None

-- a SELECT list and a FROM; the other clauses are set behind
abbrev pub select : ℕ → List SelectItem → List FromTree → Clauses
select at items sources =
    record { at = at; provenance = None; distinct = false; items = items; sources = sources; condition = None; groups = []; having = None }

abbrev pub core : Clauses → SetTree
core clauses = set.Core (roll-Core clauses)

abbrev pub operand : SetWord → Bool → ℕ → SetTree → SetStep
operand word all at tree = record { word = word; all = all; at = at; operand = tree }

abbrev pub key : ℕ → OrderKey → Bool → OrderTree
key at named descending = record { at = at; key = named; descending = descending }

abbrev pub ordered : ℕ → SetTree → List OrderTree → Option ℤ → QueryTree
ordered at body order limit = record { at = at; body = body; order = order; limit = limit }

abbrev pub query : ℕ → SetTree → QueryTree
query at body = ordered at body [] None

-- ---- statements

abbrev pub statement : StatementBody → Statement
statement body = record { at = 0; body = body }

abbrev pub defined : Name → Kind → ColumnDef
defined name kind = record { name = name; kind = kind }

abbrev pub values : ℕ → List ExprTree → ValuesRow
values at exprs = record { at = at; values = exprs }
