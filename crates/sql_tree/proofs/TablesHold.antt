-- The tables of the grammar are those of its rules.
use Rattle.std.proofs.Common.{◌≡◌, ◌<◌, true, refl, sym, subst, ◌∙◌, arith, rules}
use Rattle.std.specs.Cmp.{IsEquivalence, on_equiv, nat_eq_equiv}
use denote.Enum.Bare.{same_true, true_same}
use denote.Enum.Declared.{tag_of}
use Rattle.sql_tree.specs.contracts.grammar.sort.Sort.{the_type}
use Rattle.sql_tree.specs.grammar.Descent.{nullable, starts}
use Rattle.sql_tree.specs.grammar.Grammar.{sql, body}
use Rattle.sql_tree.specs.grammar.Sorts.{same_sort}
use Rattle.sql_tree.specs.grammar.Symbols as n
use Rattle.sql_tree.specs.grammar.Symbols.{Symbol, rank}
use Rattle.sql_tree.specs.grammar.Tables.{empty, begins, sql_tables}
use Rattle.sql_tree.proofs.Sound.{IsTold}
use Rattle.sql_tree.proofs.Begins.{HasBegins, has}
use Rattle.sql_tree.proofs.Depth.{Falls, below}

empty-is : (n : Symbol) → nullable empty (body n) ≡ empty n
empty-is n.ScriptOf = refl
empty-is n.StatementOf = refl
empty-is n.Create = refl
empty-is n.CreateTable = refl
empty-is n.CreateView = refl
empty-is n.Columns = refl
empty-is n.Column = refl
empty-is n.ColumnKind = refl
empty-is n.Copy = refl
empty-is n.Insert = refl
empty-is n.Row = refl
empty-is n.Delete = refl
empty-is n.Drop = refl
empty-is n.Explain = refl
empty-is n.Show = refl
empty-is n.Impact = refl
empty-is n.NameOf = refl
empty-is n.Names = refl
empty-is n.Qualified = refl
empty-is n.ColumnOf = refl
empty-is n.Query = refl
empty-is n.Inner = refl
empty-is n.InParentheses = refl
empty-is n.Operand = refl
empty-is n.QueryRest = refl
empty-is n.Term = refl
empty-is n.IntersectStep = refl
empty-is n.UnionStep = refl
empty-is n.Order = refl
empty-is n.Key = refl
empty-is n.Limit = refl
empty-is n.CoreOf = refl
empty-is n.Items = refl
empty-is n.Item = refl
empty-is n.ItemValue = refl
empty-is n.Alias = refl
empty-is n.Sources = refl
empty-is n.Condition = refl
empty-is n.Groups = refl
empty-is n.Having = refl
empty-is n.From = refl
empty-is n.Join = refl
empty-is n.JoinKind = refl
empty-is n.LeftJoin = refl
empty-is n.CrossJoin = refl
empty-is n.Source = refl
empty-is n.Aliased = refl
empty-is n.Mark = refl
empty-is n.Expr = refl
empty-is n.Exprs = refl
empty-is n.Both = refl
empty-is n.Negated = refl
empty-is n.Test = refl
empty-is n.IsTest = refl
empty-is n.Compared = refl
empty-is n.Comparison = refl
empty-is n.Ranged = refl
empty-is n.Range = refl
empty-is n.Members = refl
empty-is n.Sum = refl
empty-is n.SumStep = refl
empty-is n.Product = refl
empty-is n.ProductStep = refl
empty-is n.Sign = refl
empty-is n.Primary = refl
empty-is n.Literal = refl
empty-is n.Cast = refl
empty-is n.CastKind = refl
empty-is n.Case = refl
empty-is n.Arm = refl
empty-is n.Otherwise = refl
empty-is n.Exists = refl
empty-is n.Parentheses = refl
empty-is n.Count = refl
empty-is n.Counted = refl
empty-is n.Aggregate = refl
empty-is n.Coalesce = refl
empty-is n.NullIf = refl
empty-is n.Reference = refl

begins-is : (n : Symbol) → starts empty begins (body n) ≡ begins n
begins-is n.ScriptOf = refl
begins-is n.StatementOf = refl
begins-is n.Create = refl
begins-is n.CreateTable = refl
begins-is n.CreateView = refl
begins-is n.Columns = refl
begins-is n.Column = refl
begins-is n.ColumnKind = refl
begins-is n.Copy = refl
begins-is n.Insert = refl
begins-is n.Row = refl
begins-is n.Delete = refl
begins-is n.Drop = refl
begins-is n.Explain = refl
begins-is n.Show = refl
begins-is n.Impact = refl
begins-is n.NameOf = refl
begins-is n.Names = refl
begins-is n.Qualified = refl
begins-is n.ColumnOf = refl
begins-is n.Query = refl
begins-is n.Inner = refl
begins-is n.InParentheses = refl
begins-is n.Operand = refl
begins-is n.QueryRest = refl
begins-is n.Term = refl
begins-is n.IntersectStep = refl
begins-is n.UnionStep = refl
begins-is n.Order = refl
begins-is n.Key = refl
begins-is n.Limit = refl
begins-is n.CoreOf = refl
begins-is n.Items = refl
begins-is n.Item = refl
begins-is n.ItemValue = refl
begins-is n.Alias = refl
begins-is n.Sources = refl
begins-is n.Condition = refl
begins-is n.Groups = refl
begins-is n.Having = refl
begins-is n.From = refl
begins-is n.Join = refl
begins-is n.JoinKind = refl
begins-is n.LeftJoin = refl
begins-is n.CrossJoin = refl
begins-is n.Source = refl
begins-is n.Aliased = refl
begins-is n.Mark = refl
begins-is n.Expr = refl
begins-is n.Exprs = refl
begins-is n.Both = refl
begins-is n.Negated = refl
begins-is n.Test = refl
begins-is n.IsTest = refl
begins-is n.Compared = refl
begins-is n.Comparison = refl
begins-is n.Ranged = refl
begins-is n.Range = refl
begins-is n.Members = refl
begins-is n.Sum = refl
begins-is n.SumStep = refl
begins-is n.Product = refl
begins-is n.ProductStep = refl
begins-is n.Sign = refl
begins-is n.Primary = refl
begins-is n.Literal = refl
begins-is n.Cast = refl
begins-is n.CastKind = refl
begins-is n.Case = refl
begins-is n.Arm = refl
begins-is n.Otherwise = refl
begins-is n.Exists = refl
begins-is n.Parentheses = refl
begins-is n.Count = refl
begins-is n.Counted = refl
begins-is n.Aggregate = refl
begins-is n.Coalesce = refl
begins-is n.NullIf = refl
begins-is n.Reference = refl

-- the test of sorts tells them apart
pub told : IsTold sql
unfolding same_sort
told = record { sound = λ a b e. same_true the_type (search rules) a b e; complete = λ a. true_same the_type a a refl }

sorts-equiv : IsEquivalence same_sort
unfolding same_sort
sorts-equiv = on_equiv (tag_of the_type) nat_eq_equiv

pub has_begins : HasBegins sql sql_tables
has_begins = record {
  same = sorts-equiv;
  empty = λ n e. sym (empty-is n) ∙ e;
  begins = λ n t e. subst (λ sorts. has sql sql_tables sorts t ≡ true) (begins-is n) e;
}

falls : (n : Symbol) → below empty rank (rank n) (body n) ≡ true
falls n.ScriptOf = refl
falls n.StatementOf = refl
falls n.Create = refl
falls n.CreateTable = refl
falls n.CreateView = refl
falls n.Columns = refl
falls n.Column = refl
falls n.ColumnKind = refl
falls n.Copy = refl
falls n.Insert = refl
falls n.Row = refl
falls n.Delete = refl
falls n.Drop = refl
falls n.Explain = refl
falls n.Show = refl
falls n.Impact = refl
falls n.NameOf = refl
falls n.Names = refl
falls n.Qualified = refl
falls n.ColumnOf = refl
falls n.Query = refl
falls n.Inner = refl
falls n.InParentheses = refl
falls n.Operand = refl
falls n.QueryRest = refl
falls n.Term = refl
falls n.IntersectStep = refl
falls n.UnionStep = refl
falls n.Order = refl
falls n.Key = refl
falls n.Limit = refl
falls n.CoreOf = refl
falls n.Items = refl
falls n.Item = refl
falls n.ItemValue = refl
falls n.Alias = refl
falls n.Sources = refl
falls n.Condition = refl
falls n.Groups = refl
falls n.Having = refl
falls n.From = refl
falls n.Join = refl
falls n.JoinKind = refl
falls n.LeftJoin = refl
falls n.CrossJoin = refl
falls n.Source = refl
falls n.Aliased = refl
falls n.Mark = refl
falls n.Expr = refl
falls n.Exprs = refl
falls n.Both = refl
falls n.Negated = refl
falls n.Test = refl
falls n.IsTest = refl
falls n.Compared = refl
falls n.Comparison = refl
falls n.Ranged = refl
falls n.Range = refl
falls n.Members = refl
falls n.Sum = refl
falls n.SumStep = refl
falls n.Product = refl
falls n.ProductStep = refl
falls n.Sign = refl
falls n.Primary = refl
falls n.Literal = refl
falls n.Cast = refl
falls n.CastKind = refl
falls n.Case = refl
falls n.Arm = refl
falls n.Otherwise = refl
falls n.Exists = refl
falls n.Parentheses = refl
falls n.Count = refl
falls n.Counted = refl
falls n.Aggregate = refl
falls n.Coalesce = refl
falls n.NullIf = refl
falls n.Reference = refl

ranked : (n : Symbol) → rank n < 14
ranked n.ScriptOf = omega arith
ranked n.StatementOf = omega arith
ranked n.Create = omega arith
ranked n.CreateTable = omega arith
ranked n.CreateView = omega arith
ranked n.Columns = omega arith
ranked n.Column = omega arith
ranked n.ColumnKind = omega arith
ranked n.Copy = omega arith
ranked n.Insert = omega arith
ranked n.Row = omega arith
ranked n.Delete = omega arith
ranked n.Drop = omega arith
ranked n.Explain = omega arith
ranked n.Show = omega arith
ranked n.Impact = omega arith
ranked n.NameOf = omega arith
ranked n.Names = omega arith
ranked n.Qualified = omega arith
ranked n.ColumnOf = omega arith
ranked n.Query = omega arith
ranked n.Inner = omega arith
ranked n.InParentheses = omega arith
ranked n.Operand = omega arith
ranked n.QueryRest = omega arith
ranked n.Term = omega arith
ranked n.IntersectStep = omega arith
ranked n.UnionStep = omega arith
ranked n.Order = omega arith
ranked n.Key = omega arith
ranked n.Limit = omega arith
ranked n.CoreOf = omega arith
ranked n.Items = omega arith
ranked n.Item = omega arith
ranked n.ItemValue = omega arith
ranked n.Alias = omega arith
ranked n.Sources = omega arith
ranked n.Condition = omega arith
ranked n.Groups = omega arith
ranked n.Having = omega arith
ranked n.From = omega arith
ranked n.Join = omega arith
ranked n.JoinKind = omega arith
ranked n.LeftJoin = omega arith
ranked n.CrossJoin = omega arith
ranked n.Source = omega arith
ranked n.Aliased = omega arith
ranked n.Mark = omega arith
ranked n.Expr = omega arith
ranked n.Exprs = omega arith
ranked n.Both = omega arith
ranked n.Negated = omega arith
ranked n.Test = omega arith
ranked n.IsTest = omega arith
ranked n.Compared = omega arith
ranked n.Comparison = omega arith
ranked n.Ranged = omega arith
ranked n.Range = omega arith
ranked n.Members = omega arith
ranked n.Sum = omega arith
ranked n.SumStep = omega arith
ranked n.Product = omega arith
ranked n.ProductStep = omega arith
ranked n.Sign = omega arith
ranked n.Primary = omega arith
ranked n.Literal = omega arith
ranked n.Cast = omega arith
ranked n.CastKind = omega arith
ranked n.Case = omega arith
ranked n.Arm = omega arith
ranked n.Otherwise = omega arith
ranked n.Exists = omega arith
ranked n.Parentheses = omega arith
ranked n.Count = omega arith
ranked n.Counted = omega arith
ranked n.Aggregate = omega arith
ranked n.Coalesce = omega arith
ranked n.NullIf = omega arith
ranked n.Reference = omega arith

pub has_falls : Falls sql sql_tables
has_falls = record { ranked = ranked; falls = falls }
