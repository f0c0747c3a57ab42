-- The next token decides each choice of the grammar of the SQL.
use Rattle.std.proofs.Common.{◌≡◌, true, false, ◌&&◌, List, [], ◌∷◌, ◌++◌, refl, sym, subst, arith}
use Rattle.sql_lexer.specs.declared.token.Token.{Token}
use Rattle.sql_tree.specs.grammar.Rules.{token, ◌then◌, word, symbol}
use Rattle.sql_tree.specs.grammar.Descent.{fronts}
use Rattle.sql_tree.specs.grammar.Grammar.{SqlRule, sql, body, lateral}
use Rattle.sql_tree.specs.grammar.Sorts.{names, same_sort}
use Rattle.sql_tree.specs.grammar.Symbols as n
use Rattle.sql_tree.specs.grammar.Symbols.{Symbol}
use Rattle.sql_tree.specs.grammar.Tables.{empty, begins, sql_tables, statement_begins, join_begins}
use Rattle.sql_tree.specs.declared.grammar.sort.Sort.{Sort}
use Rattle.sql_tree.specs.declared.grammar.sort.Sort.TheVariants as s
use Rattle.sql_tree.proofs.Begins.{both_true, has}
use Rattle.sql_tree.proofs.Complete.{IsDecided}
use Rattle.sql_tree.proofs.Fine.{extends, fine, EndsBefore, IsFine, IsShut, within, within-law}
use Rattle.sql_tree.proofs.Shut.{value-stops, source-taken, joined-stops}
use Rattle.sql_tree.proofs.TablesHold.{told, has_begins, has_falls}

abbrev primary_goes_on : List Sort
primary_goes_on = s.Dot ∷ s.Opening ∷ []

abbrev product_goes_on : List Sort
product_goes_on = s.Star ∷ s.Slash ∷ s.Percent ∷ primary_goes_on

abbrev sum_goes_on : List Sort
sum_goes_on = s.Plus ∷ s.Minus ∷ product_goes_on

abbrev ranged_goes_on : List Sort
ranged_goes_on = s.Not ∷ s.Like ∷ s.Between ∷ s.In ∷ sum_goes_on

abbrev compared_goes_on : List Sort
compared_goes_on = s.Equal ∷ s.NotEqual ∷ s.Less ∷ s.LessEqual ∷ s.Greater ∷ s.GreaterEqual ∷ ranged_goes_on

abbrev test_goes_on : List Sort
test_goes_on = s.Is ∷ compared_goes_on

abbrev both_goes_on : List Sort
both_goes_on = s.And ∷ test_goes_on

abbrev expression_goes_on : List Sort
expression_goes_on = s.Or ∷ both_goes_on

abbrev item_goes_on : List Sort
item_goes_on = s.As ∷ names ++ expression_goes_on

abbrev source_goes_on : List Sort
source_goes_on = s.BaseRelation ∷ s.Provenance ∷ s.As ∷ names

abbrev from_goes_on : List Sort
from_goes_on = s.Left ∷ s.Cross ∷ join_begins ++ source_goes_on ++ expression_goes_on

abbrev core_goes_on : List Sort
core_goes_on = s.Comma ∷ s.From ∷ s.Where ∷ s.Group ∷ s.Having ∷ from_goes_on

abbrev query_goes_on : List Sort
query_goes_on = s.Intersect ∷ s.Union ∷ s.Except ∷ s.Order ∷ s.Asc ∷ s.Desc ∷ s.Limit ∷ core_goes_on

-- the sorts with which a word of each symbol may go on
abbrev pub goes_on : Symbol → List Sort
goes_on n.ScriptOf = s.Semicolon ∷ statement_begins ++ (s.Header ∷ s.Null ∷ query_goes_on)
goes_on n.StatementOf = s.Header ∷ s.Null ∷ query_goes_on
goes_on n.Create = query_goes_on
goes_on n.CreateTable = query_goes_on
goes_on n.CreateView = query_goes_on
goes_on n.Columns = []
goes_on n.Column = []
goes_on n.ColumnKind = []
goes_on n.Copy = s.Header ∷ s.Null ∷ []
goes_on n.Insert = s.Comma ∷ []
goes_on n.Row = []
goes_on n.Delete = s.Where ∷ expression_goes_on
goes_on n.Drop = []
goes_on n.Explain = query_goes_on
goes_on n.Show = []
goes_on n.Impact = query_goes_on
goes_on n.NameOf = []
goes_on n.Names = s.Comma ∷ []
goes_on n.Qualified = s.Dot ∷ []
goes_on n.ColumnOf = s.Dot ∷ []
goes_on n.Query = query_goes_on
goes_on n.Inner = query_goes_on
goes_on n.InParentheses = []
goes_on n.Operand = core_goes_on
goes_on n.QueryRest = query_goes_on
goes_on n.Term = s.Intersect ∷ core_goes_on
goes_on n.IntersectStep = core_goes_on
goes_on n.UnionStep = s.Intersect ∷ core_goes_on
goes_on n.Order = s.Order ∷ s.Comma ∷ s.Asc ∷ s.Desc ∷ []
goes_on n.Key = s.Asc ∷ s.Desc ∷ []
goes_on n.Limit = s.Limit ∷ []
goes_on n.CoreOf = core_goes_on
goes_on n.Items = s.Comma ∷ item_goes_on
goes_on n.Item = item_goes_on
goes_on n.ItemValue = item_goes_on
goes_on n.Alias = s.As ∷ names
goes_on n.Sources = s.From ∷ s.Comma ∷ from_goes_on
goes_on n.Condition = s.Where ∷ expression_goes_on
goes_on n.Groups = s.Group ∷ s.Comma ∷ s.Dot ∷ []
goes_on n.Having = s.Having ∷ expression_goes_on
goes_on n.From = from_goes_on
goes_on n.Join = expression_goes_on ++ source_goes_on
goes_on n.JoinKind = []
goes_on n.LeftJoin = expression_goes_on
goes_on n.CrossJoin = s.Opening ∷ source_goes_on
goes_on n.Source = source_goes_on
goes_on n.Aliased = s.As ∷ names
goes_on n.Mark = s.BaseRelation ∷ s.Provenance ∷ []
goes_on n.Expr = expression_goes_on
goes_on n.Exprs = s.Comma ∷ expression_goes_on
goes_on n.Both = both_goes_on
goes_on n.Negated = test_goes_on
goes_on n.Test = test_goes_on
goes_on n.IsTest = compared_goes_on
goes_on n.Compared = compared_goes_on
goes_on n.Comparison = ranged_goes_on
goes_on n.Ranged = ranged_goes_on
goes_on n.Range = sum_goes_on
goes_on n.Members = []
goes_on n.Sum = sum_goes_on
goes_on n.SumStep = product_goes_on
goes_on n.Product = product_goes_on
goes_on n.ProductStep = primary_goes_on
goes_on n.Sign = primary_goes_on
goes_on n.Primary = primary_goes_on
goes_on n.Literal = []
goes_on n.Cast = []
goes_on n.CastKind = []
goes_on n.Case = []
goes_on n.Arm = expression_goes_on
goes_on n.Otherwise = s.Else ∷ expression_goes_on
goes_on n.Exists = []
goes_on n.Parentheses = []
goes_on n.Count = primary_goes_on
goes_on n.Counted = expression_goes_on
goes_on n.Aggregate = primary_goes_on
goes_on n.Coalesce = primary_goes_on
goes_on n.NullIf = primary_goes_on
goes_on n.Reference = s.Dot ∷ []

extends-within : (n : Symbol) → within same_sort (extends empty begins goes_on (body n)) (goes_on n) ≡ true
unfolding same_sort
extends-within n.ScriptOf = refl
extends-within n.StatementOf = refl
extends-within n.Create = refl
extends-within n.CreateTable = refl
extends-within n.CreateView = refl
extends-within n.Columns = refl
extends-within n.Column = refl
extends-within n.ColumnKind = refl
extends-within n.Copy = refl
extends-within n.Insert = refl
extends-within n.Row = refl
extends-within n.Delete = refl
extends-within n.Drop = refl
extends-within n.Explain = refl
extends-within n.Show = refl
extends-within n.Impact = refl
extends-within n.NameOf = refl
extends-within n.Names = refl
extends-within n.Qualified = refl
extends-within n.ColumnOf = refl
extends-within n.Query = refl
extends-within n.Inner = refl
extends-within n.InParentheses = refl
extends-within n.Operand = refl
extends-within n.QueryRest = refl
extends-within n.Term = refl
extends-within n.IntersectStep = refl
extends-within n.UnionStep = refl
extends-within n.Order = refl
extends-within n.Key = refl
extends-within n.Limit = refl
extends-within n.CoreOf = refl
extends-within n.Items = refl
extends-within n.Item = refl
extends-within n.ItemValue = refl
extends-within n.Alias = refl
extends-within n.Sources = refl
extends-within n.Condition = refl
extends-within n.Groups = refl
extends-within n.Having = refl
extends-within n.From = refl
extends-within n.Join = refl
extends-within n.JoinKind = refl
extends-within n.LeftJoin = refl
extends-within n.CrossJoin = refl
extends-within n.Source = refl
extends-within n.Aliased = refl
extends-within n.Mark = refl
extends-within n.Expr = refl
extends-within n.Exprs = refl
extends-within n.Both = refl
extends-within n.Negated = refl
extends-within n.Test = refl
extends-within n.IsTest = refl
extends-within n.Compared = refl
extends-within n.Comparison = refl
extends-within n.Ranged = refl
extends-within n.Range = refl
extends-within n.Members = refl
extends-within n.Sum = refl
extends-within n.SumStep = refl
extends-within n.Product = refl
extends-within n.ProductStep = refl
extends-within n.Sign = refl
extends-within n.Primary = refl
extends-within n.Literal = refl
extends-within n.Cast = refl
extends-within n.CastKind = refl
extends-within n.Case = refl
extends-within n.Arm = refl
extends-within n.Otherwise = refl
extends-within n.Exists = refl
extends-within n.Parentheses = refl
extends-within n.Count = refl
extends-within n.Counted = refl
extends-within n.Aggregate = refl
extends-within n.Coalesce = refl
extends-within n.NullIf = refl
extends-within n.Reference = refl

abbrev name_dot_star : SqlRule
name_dot_star = token names then word s.Dot then word s.Star

-- the tokens of `name . *` begin no value
item-shut : IsShut sql sql_tables goes_on name_dot_star (symbol n.ItemValue)
item-shut [] e = absurd cc
item-shut (t ∷ []) e = let parts = both_true {a = has sql sql_tables names t} {b = false} e in absurd cc
item-shut (t ∷ u ∷ []) e =
    let parts = both_true {a = has sql sql_tables names t} {b = has sql sql_tables (s.Dot ∷ []) u && false} e in
    let more = both_true {a = has sql sql_tables (s.Dot ∷ []) u} {b = false} parts.1 in
    absurd cc
item-shut (t ∷ u ∷ v ∷ rest) e =
    let parts = both_true {a = has sql sql_tables names t} {b = has sql sql_tables (s.Dot ∷ []) u && (has sql sql_tables (s.Star ∷ []) v && true)} e in
    let more = both_true {a = has sql sql_tables (s.Dot ∷ []) u} {b = has sql sql_tables (s.Star ∷ []) v && true} parts.1 in
    let last = both_true {a = has sql sql_tables (s.Star ∷ []) v} {b = true} more.1 in
    subst (EndsBefore sql sql_tables goes_on (fronts name_dot_star) (t ∷ u ∷ v ∷ rest)) (sym (value-stops t u v rest parts.0 more.0 last.0)) (omega arith)

-- LATERAL and a parenthesis begin no source
cross-shut : IsShut sql sql_tables goes_on lateral (symbol n.Source)
cross-shut [] e = absurd cc
cross-shut (t ∷ []) e = let parts = both_true {a = has sql sql_tables (s.Lateral ∷ []) t} {b = false} e in absurd cc
cross-shut (t ∷ u ∷ rest) e =
    let parts = both_true {a = has sql sql_tables (s.Lateral ∷ []) t} {b = has sql sql_tables (s.Opening ∷ []) u && true} e in
    let last = both_true {a = has sql sql_tables (s.Opening ∷ []) u} {b = true} parts.1 in
    subst (EndsBefore sql sql_tables goes_on (fronts lateral) (t ∷ u ∷ rest)) (sym (source-taken t u rest parts.0 last.0)) (omega arith, last.0)

abbrev lateral_on : SqlRule
lateral_on = lateral then word s.On then word s.True

abbrev source_on : SqlRule
source_on = symbol n.Source then word s.On then symbol n.Expr

left-shut : IsShut sql sql_tables goes_on lateral_on source_on
left-shut [] e = absurd cc
left-shut (t ∷ []) e = let parts = both_true {a = has sql sql_tables (s.Lateral ∷ []) t} {b = false} e in absurd cc
left-shut (t ∷ u ∷ rest) e =
    let parts = both_true {a = has sql sql_tables (s.Lateral ∷ []) t} {b = has sql sql_tables (s.Opening ∷ []) u && true} e in
    let last = both_true {a = has sql sql_tables (s.Opening ∷ []) u} {b = true} parts.1 in
    subst (EndsBefore sql sql_tables goes_on (fronts lateral_on) (t ∷ u ∷ rest)) (sym (joined-stops t u rest parts.0 last.0)) (omega arith)

star-fine : IsFine sql sql_tables goes_on name_dot_star
unfolding same_sort
star-fine = fine sql sql_tables goes_on name_dot_star refl

lateral-fine : IsFine sql sql_tables goes_on lateral
unfolding same_sort
lateral-fine = fine sql sql_tables goes_on lateral refl

lateral_on-fine : IsFine sql sql_tables goes_on lateral_on
unfolding same_sort
lateral_on-fine = fine sql sql_tables goes_on lateral_on refl

joined-fine : IsFine sql sql_tables goes_on source_on
unfolding same_sort
joined-fine = fine sql sql_tables goes_on source_on refl

all_fine : (n : Symbol) → IsFine sql sql_tables goes_on (body n)
unfolding same_sort
all_fine n.ScriptOf = fine sql sql_tables goes_on (body n.ScriptOf) refl
all_fine n.StatementOf = fine sql sql_tables goes_on (body n.StatementOf) refl
all_fine n.Create = fine sql sql_tables goes_on (body n.Create) refl
all_fine n.CreateTable = fine sql sql_tables goes_on (body n.CreateTable) refl
all_fine n.CreateView = fine sql sql_tables goes_on (body n.CreateView) refl
all_fine n.Columns = fine sql sql_tables goes_on (body n.Columns) refl
all_fine n.Column = fine sql sql_tables goes_on (body n.Column) refl
all_fine n.ColumnKind = fine sql sql_tables goes_on (body n.ColumnKind) refl
all_fine n.Copy = fine sql sql_tables goes_on (body n.Copy) refl
all_fine n.Insert = fine sql sql_tables goes_on (body n.Insert) refl
all_fine n.Row = fine sql sql_tables goes_on (body n.Row) refl
all_fine n.Delete = fine sql sql_tables goes_on (body n.Delete) refl
all_fine n.Drop = fine sql sql_tables goes_on (body n.Drop) refl
all_fine n.Explain = fine sql sql_tables goes_on (body n.Explain) refl
all_fine n.Show = fine sql sql_tables goes_on (body n.Show) refl
all_fine n.Impact = fine sql sql_tables goes_on (body n.Impact) refl
all_fine n.NameOf = fine sql sql_tables goes_on (body n.NameOf) refl
all_fine n.Names = fine sql sql_tables goes_on (body n.Names) refl
all_fine n.Qualified = fine sql sql_tables goes_on (body n.Qualified) refl
all_fine n.ColumnOf = fine sql sql_tables goes_on (body n.ColumnOf) refl
all_fine n.Query = fine sql sql_tables goes_on (body n.Query) refl
all_fine n.Inner = fine sql sql_tables goes_on (body n.Inner) refl
all_fine n.InParentheses = fine sql sql_tables goes_on (body n.InParentheses) refl
all_fine n.Operand = fine sql sql_tables goes_on (body n.Operand) refl
all_fine n.QueryRest = fine sql sql_tables goes_on (body n.QueryRest) refl
all_fine n.Term = fine sql sql_tables goes_on (body n.Term) refl
all_fine n.IntersectStep = fine sql sql_tables goes_on (body n.IntersectStep) refl
all_fine n.UnionStep = fine sql sql_tables goes_on (body n.UnionStep) refl
all_fine n.Order = fine sql sql_tables goes_on (body n.Order) refl
all_fine n.Key = fine sql sql_tables goes_on (body n.Key) refl
all_fine n.Limit = fine sql sql_tables goes_on (body n.Limit) refl
all_fine n.CoreOf = fine sql sql_tables goes_on (body n.CoreOf) refl
all_fine n.Items = fine sql sql_tables goes_on (body n.Items) refl
all_fine n.Item = (tt, (star-fine, tt, item-shut), refl, refl)
all_fine n.ItemValue = fine sql sql_tables goes_on (body n.ItemValue) refl
all_fine n.Alias = fine sql sql_tables goes_on (body n.Alias) refl
all_fine n.Sources = fine sql sql_tables goes_on (body n.Sources) refl
all_fine n.Condition = fine sql sql_tables goes_on (body n.Condition) refl
all_fine n.Groups = fine sql sql_tables goes_on (body n.Groups) refl
all_fine n.Having = fine sql sql_tables goes_on (body n.Having) refl
all_fine n.From = fine sql sql_tables goes_on (body n.From) refl
all_fine n.Join = fine sql sql_tables goes_on (body n.Join) refl
all_fine n.JoinKind = fine sql sql_tables goes_on (body n.JoinKind) refl
all_fine n.LeftJoin = (tt, ((tt, refl), (tt, (lateral_on-fine, joined-fine, left-shut), refl), refl), refl)
all_fine n.CrossJoin = (tt, (tt, (lateral-fine, tt, cross-shut), refl), refl)
all_fine n.Source = fine sql sql_tables goes_on (body n.Source) refl
all_fine n.Aliased = fine sql sql_tables goes_on (body n.Aliased) refl
all_fine n.Mark = fine sql sql_tables goes_on (body n.Mark) refl
all_fine n.Expr = fine sql sql_tables goes_on (body n.Expr) refl
all_fine n.Exprs = fine sql sql_tables goes_on (body n.Exprs) refl
all_fine n.Both = fine sql sql_tables goes_on (body n.Both) refl
all_fine n.Negated = fine sql sql_tables goes_on (body n.Negated) refl
all_fine n.Test = fine sql sql_tables goes_on (body n.Test) refl
all_fine n.IsTest = fine sql sql_tables goes_on (body n.IsTest) refl
all_fine n.Compared = fine sql sql_tables goes_on (body n.Compared) refl
all_fine n.Comparison = fine sql sql_tables goes_on (body n.Comparison) refl
all_fine n.Ranged = fine sql sql_tables goes_on (body n.Ranged) refl
all_fine n.Range = fine sql sql_tables goes_on (body n.Range) refl
all_fine n.Members = fine sql sql_tables goes_on (body n.Members) refl
all_fine n.Sum = fine sql sql_tables goes_on (body n.Sum) refl
all_fine n.SumStep = fine sql sql_tables goes_on (body n.SumStep) refl
all_fine n.Product = fine sql sql_tables goes_on (body n.Product) refl
all_fine n.ProductStep = fine sql sql_tables goes_on (body n.ProductStep) refl
all_fine n.Sign = fine sql sql_tables goes_on (body n.Sign) refl
all_fine n.Primary = fine sql sql_tables goes_on (body n.Primary) refl
all_fine n.Literal = fine sql sql_tables goes_on (body n.Literal) refl
all_fine n.Cast = fine sql sql_tables goes_on (body n.Cast) refl
all_fine n.CastKind = fine sql sql_tables goes_on (body n.CastKind) refl
all_fine n.Case = fine sql sql_tables goes_on (body n.Case) refl
all_fine n.Arm = fine sql sql_tables goes_on (body n.Arm) refl
all_fine n.Otherwise = fine sql sql_tables goes_on (body n.Otherwise) refl
all_fine n.Exists = fine sql sql_tables goes_on (body n.Exists) refl
all_fine n.Parentheses = fine sql sql_tables goes_on (body n.Parentheses) refl
all_fine n.Count = fine sql sql_tables goes_on (body n.Count) refl
all_fine n.Counted = fine sql sql_tables goes_on (body n.Counted) refl
all_fine n.Aggregate = fine sql sql_tables goes_on (body n.Aggregate) refl
all_fine n.Coalesce = fine sql sql_tables goes_on (body n.Coalesce) refl
all_fine n.NullIf = fine sql sql_tables goes_on (body n.NullIf) refl
all_fine n.Reference = fine sql sql_tables goes_on (body n.Reference) refl

ends : (n : Symbol) (t : Token) → has sql sql_tables (goes_on n) t ≡ false → has sql sql_tables (extends empty begins goes_on (body n)) t ≡ false
ends n t e = within-law sql sql_tables told (extends empty begins goes_on (body n)) (goes_on n) t (extends-within n) e

pub decided : IsDecided sql sql_tables goes_on
decided = record { told = told; has_begins = has_begins; falls = has_falls; fine = all_fine; ends = ends }
