-- Every symbol of the grammar and every sort of token stands in some worked text: those of `LongTexts.antt`, and some of
-- `Trees.antt`.
use Rattle.std.specs.Prelude.{◌≡◌, ℕ, not, nat_eq, List, [], ◌∷◌, ◌++◌, map, filter, Option, Some, None, codes, refl}
use Rattle.std.specs.List.{flat_map, range_with_len}
use Rattle.std.proofs.Common.{inl, inr}
use Rattle.sql_lexer.specs.declared.token.Token.{Token}
use Rattle.sql_tree.specs.grammar.Descent.{Tables, read, reading_to, repeated}
use Rattle.sql_tree.specs.grammar.Grammar.{SqlRule, body}
use Rattle.sql_tree.specs.grammar.Rules.{word, token, ◌then◌, ◌or◌, front, optional, many, placed, symbol, Value, Grammar}
use Rattle.sql_tree.specs.grammar.Sorts.{reserved, free, symbols, sort_of, same_sort, word_sort, symbol_sort}
use Rattle.sql_tree.specs.grammar.Symbols as n
use Rattle.sql_tree.specs.grammar.Symbols.{Symbol}
use Rattle.sql_tree.specs.grammar.Tables.{sql_tables}
use Rattle.sql_tree.specs.declared.grammar.sort.Sort.{Sort}
use Rattle.sql_tree.specs.declared.grammar.sort.Sort.TheVariants as s
use Rattle.sql_parser.specs.Texts.{tokens_in, whole}
use Rattle.worked_examples.specs.LongTexts.{clauses, statements, parts}

abbrev texts : List (Symbol × List ℕ)
texts =
    (n.Query, clauses) ∷ (n.ScriptOf, statements) ∷ (n.Exprs, parts)
    ∷ (n.Expr, codes "- 1 * 2") ∷ (n.Expr, codes "1 + 2 * 3 - 4") ∷ (n.Expr, codes "(a + 1) * 2") ∷ (n.Expr, codes "a OR b AND c")
    ∷ (n.Expr, codes "NOT a = b") ∷ (n.Expr, codes "a < b IS FALSE") ∷ (n.Expr, codes "a IS NOT DISTINCT FROM b")
    ∷ (n.Expr, codes "a BETWEEN 1 AND 2 AND b") ∷ (n.Expr, codes "a NOT LIKE 'it''s'") ∷ (n.Expr, codes "a NOT IN (1, 2)")
    ∷ (n.Expr, codes "a = ANY (SELECT 1)") ∷ (n.Expr, codes "a >= ALL (SELECT 1)")
    ∷ (n.Expr, codes "CASE WHEN a THEN 1 WHEN b THEN 2 ELSE c END")
    ∷ (n.Query, codes "SELECT 1 UNION SELECT 2 INTERSECT SELECT 3") ∷ (n.Query, codes "SELECT 1 EXCEPT ALL SELECT 2 UNION SELECT 3")
    ∷ (n.Query, codes "SELECT * FROM r x LEFT JOIN s ON a ORDER BY 1 DESC LIMIT 2")
    ∷ (n.Query, codes "SELECT * FROM r CROSS JOIN LATERAL (SELECT a) x") ∷ []

-- ---- sorts

abbrev sorts : Option (List Token) → List Sort
sorts None = []
sorts (Some tokens) = map sort_of tokens

abbrev every_sort : List Sort
every_sort = s.Plain ∷ s.Quoted ∷ s.Digits ∷ s.Literal ∷ map (λ entry. entry.1) (reserved ++ free ++ symbols)

-- the sorts that aren't among the first ones
abbrev unseen_sorts : List Sort → List Sort → List Sort
unseen_sorts [] left = left
unseen_sorts (sort ∷ seen) left = unseen_sorts seen (filter (λ other. not (same_sort sort other)) left)

no-sort_is_unseen : unseen_sorts (flat_map (λ (text : Symbol × List ℕ). sorts (tokens_in text.1)) texts) every_sort ≡ []
unfolding tokens_in same_sort word_sort symbol_sort
no-sort_is_unseen = refl

-- ---- symbols

-- the symbols in what a rule gave, where a symbol gives those that were read for it
abbrev collected : (r : SqlRule) → Value Token (λ _. List Symbol) r → List Symbol
collected (word sort) v = []
collected (token sorts) v = []
collected (r then q) v = collected r v.0 ++ collected q v.1
collected (r or q) (inl v) = collected r v
collected (r or q) (inr v) = collected q v
collected (front r q) (inl v) = collected r v
collected (front r q) (inr v) = collected q v
collected (optional r) None = []
collected (optional r) (Some v) = collected r v
collected (many r) vs = flat_map (collected r) vs
collected (placed r) v = collected r v.1
collected (symbol _) v = v

-- the grammar with its rules, whose trees are the symbols that were read
abbrev traced : Grammar
traced = record {
  Token = Token;
  Sort = Sort;
  Symbol = Symbol;
  sort = sort_of;
  offset = λ t. t.start;
  same = same_sort;
  Tree = λ _. List Symbol;
  body = body;
  build = λ one v. one ∷ collected (body one) v;
}

abbrev traced_tables : Tables traced
traced_tables = record { empty = sql_tables.empty; begins = sql_tables.begins; rank = sql_tables.rank; ranks = sql_tables.ranks }

abbrev taken : Option (List Symbol) → List Symbol
taken None = []
taken (Some names) = names

abbrev read_in : Symbol → Option (List Token) → List Symbol
read_in one None = []
read_in one (Some tokens) = taken (whole (read traced traced_tables one tokens))

-- each symbol has a number of its own, from 0
abbrev number : Symbol → ℕ
number n.ScriptOf = 0
number n.StatementOf = 1
number n.Create = 2
number n.CreateTable = 3
number n.CreateView = 4
number n.Columns = 5
number n.Column = 6
number n.ColumnKind = 7
number n.Copy = 8
number n.Insert = 9
number n.Row = 10
number n.Delete = 11
number n.Drop = 12
number n.Explain = 13
number n.Show = 14
number n.NameOf = 15
number n.Names = 16
number n.Qualified = 17
number n.ColumnOf = 18
number n.Query = 19
number n.Inner = 20
number n.InParentheses = 21
number n.Operand = 22
number n.QueryRest = 23
number n.Term = 24
number n.IntersectStep = 25
number n.UnionStep = 26
number n.Order = 27
number n.Key = 28
number n.Limit = 29
number n.CoreOf = 30
number n.Items = 31
number n.Item = 32
number n.ItemValue = 33
number n.Alias = 34
number n.Sources = 35
number n.Condition = 36
number n.Groups = 37
number n.Having = 38
number n.From = 39
number n.Join = 40
number n.JoinKind = 41
number n.Source = 42
number n.Aliased = 43
number n.Mark = 44
number n.Expr = 45
number n.Exprs = 46
number n.Both = 47
number n.Negated = 48
number n.Test = 49
number n.IsTest = 50
number n.Compared = 51
number n.Comparison = 52
number n.Ranged = 53
number n.Range = 54
number n.Members = 55
number n.Sum = 56
number n.SumStep = 57
number n.Product = 58
number n.ProductStep = 59
number n.Sign = 60
number n.Primary = 61
number n.Literal = 62
number n.Cast = 63
number n.CastKind = 64
number n.Case = 65
number n.Arm = 66
number n.Otherwise = 67
number n.Exists = 68
number n.Parentheses = 69
number n.Count = 70
number n.Counted = 71
number n.Aggregate = 72
number n.Coalesce = 73
number n.NullIf = 74
number n.Reference = 75
number n.Impact = 76
number n.LeftJoin = 77
number n.CrossJoin = 78

-- the numbers that no symbol has
abbrev unseen_numbers : List Symbol → List ℕ → List ℕ
unseen_numbers [] left = left
unseen_numbers (name ∷ seen) left = unseen_numbers seen (filter (λ k. not (nat_eq (number name) k)) left)

no-symbol_is_unseen : unseen_numbers (flat_map (λ (text : Symbol × List ℕ). read_in text.0 (tokens_in text.1)) texts) (range_with_len 0 79) ≡ []
unfolding tokens_in read reading_to repeated word_sort symbol_sort same_sort
no-symbol_is_unseen = refl
