-- Every tree that tokens spell is regular, where no token's number is negative.
use Rattle.std.proofs.Common.{List}
use Rattle.sql_lexer.specs.declared.token.Token.{Token}
use Rattle.sql_tree.specs.grammar.Grammar.{sql}
use Rattle.sql_parser.specs.Spells.{Spells}
use Rattle.sql_tree.specs.grammar.Symbols as n
use Rattle.sql_tree.specs.grammar.Symbols.{Symbol}
use Rattle.sql_tree.proofs.Holding.{spelled-holds}
use Rattle.sql_tree.proofs.RegularExpressions.{expr-builds, exprs-builds, both-builds, negated-builds, test-builds, is_test-builds, compared-builds, comparison-builds, ranged-builds, range-builds, members-builds, sum-builds, product-builds, sum_step-builds, product_step-builds, sign-builds, primary-builds, literal-builds, cast-builds, case-builds, arm-builds, otherwise-builds, exists-builds, parentheses-builds, count-builds, counted-builds, aggregate-builds, coalesce-builds, null_if-builds, reference-builds}
use Rattle.sql_tree.proofs.RegularQueries.{query-builds, inner-builds, in_parentheses-builds, operand-builds, query_rest-builds, term-builds, intersect_step-builds, union_step-builds, order-builds, key-builds, limit-builds, core-builds, items-builds, item-builds, item_value-builds, sources-builds, condition-builds, having-builds, from-builds, join-builds, join_kind-builds, left_join-builds, cross_join-builds, source-builds, aliased-builds, mark-builds}
use Rattle.sql_tree.proofs.RegularStatements.{script-builds, statement-builds, create-builds, create_table-builds, create_view-builds, columns-builds, column-builds, column_kind-builds, copy-builds, insert-builds, row-builds, delete-builds, drop-builds, explain-builds, impact-builds, names-builds}
use Rattle.sql_tree.proofs.RegularTrees.{RegularOf, Builds}
use Rattle.sql_tree.proofs.TokenNumbers.{HasNumber}
use Rattle.sql_tree.specs.Regular.{Each, Regular}
use Rattle.sql_tree.specs.declared.statement.Script.{Script}

builds : (symbol : Symbol) → Builds symbol
builds n.ScriptOf = script-builds
builds n.StatementOf = statement-builds
builds n.Create = create-builds
builds n.CreateTable = create_table-builds
builds n.CreateView = create_view-builds
builds n.Columns = columns-builds
builds n.Column = column-builds
builds n.ColumnKind = column_kind-builds
builds n.Copy = copy-builds
builds n.Insert = insert-builds
builds n.Row = row-builds
builds n.Delete = delete-builds
builds n.Drop = drop-builds
builds n.Explain = explain-builds
builds n.Show = λ v h. tt
builds n.Impact = impact-builds
builds n.NameOf = λ v h. tt
builds n.Names = names-builds
builds n.Qualified = λ v h. tt
builds n.ColumnOf = λ v h. tt
builds n.Query = query-builds
builds n.Inner = inner-builds
builds n.InParentheses = in_parentheses-builds
builds n.Operand = operand-builds
builds n.QueryRest = query_rest-builds
builds n.Term = term-builds
builds n.IntersectStep = intersect_step-builds
builds n.UnionStep = union_step-builds
builds n.Order = order-builds
builds n.Key = key-builds
builds n.Limit = limit-builds
builds n.CoreOf = core-builds
builds n.Items = items-builds
builds n.Item = item-builds
builds n.ItemValue = item_value-builds
builds n.Alias = λ v h. tt
builds n.Sources = sources-builds
builds n.Condition = condition-builds
builds n.Groups = λ v h. tt
builds n.Having = having-builds
builds n.From = from-builds
builds n.Join = join-builds
builds n.JoinKind = join_kind-builds
builds n.LeftJoin = left_join-builds
builds n.CrossJoin = cross_join-builds
builds n.Source = source-builds
builds n.Aliased = aliased-builds
builds n.Mark = mark-builds
builds n.Expr = expr-builds
builds n.Exprs = exprs-builds
builds n.Both = both-builds
builds n.Negated = negated-builds
builds n.Test = test-builds
builds n.IsTest = is_test-builds
builds n.Compared = compared-builds
builds n.Comparison = comparison-builds
builds n.Ranged = ranged-builds
builds n.Range = range-builds
builds n.Members = members-builds
builds n.Sum = sum-builds
builds n.SumStep = sum_step-builds
builds n.Product = product-builds
builds n.ProductStep = product_step-builds
builds n.Sign = sign-builds
builds n.Primary = primary-builds
builds n.Literal = literal-builds
builds n.Cast = cast-builds
builds n.CastKind = λ v h. tt
builds n.Case = case-builds
builds n.Arm = arm-builds
builds n.Otherwise = otherwise-builds
builds n.Exists = exists-builds
builds n.Parentheses = parentheses-builds
builds n.Count = count-builds
builds n.Counted = counted-builds
builds n.Aggregate = aggregate-builds
builds n.Coalesce = coalesce-builds
builds n.NullIf = null_if-builds
builds n.Reference = reference-builds

pub script-regular : {tokens : List Token} {script : Script} → Each HasNumber tokens → Spells tokens script → Regular script
script-regular fair spelled = spelled-holds sql HasNumber RegularOf builds fair spelled
