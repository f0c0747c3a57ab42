-- At which level the grammar reads which operators, beside the table of operators: both are computed, from the rules and
-- from the rows.
use Rattle.std.specs.Prelude.{◌≡◌, ℕ, pos, suc, ◌==◌, Bool, true, false, cond, List, [], ◌∷◌, ◌++◌, map, length, Option, Some, None, is_some}
use Rattle.std.proofs.Common.{inl, inr}
use Rattle.std.specs.List.{AllByRecursion, filter, flat_map, list_all}
use Rattle.std.specs.Str.{str_to_ascii_lowercase}
use Rattle.null_logic.specs.Operators.{Entry, operator_table}
use Rattle.null_logic.specs.declared.operator.Operator.{Operator}
use Rattle.null_logic.specs.declared.operator.Operator.TheVariants as op
use Rattle.sql_lexer.specs.Bytes.{is_single}
use Rattle.sql_lexer.specs.Lexes.{Lexes}
use Rattle.sql_lexer.specs.declared.token.Token.{Token}
use Rattle.sql_lexer.specs.declared.token.TokenKind.{TokenKind}
use Rattle.sql_lexer.specs.declared.token.TokenKind.TheVariants as kind
use Rattle.sql_tree.specs.grammar.Building as b
use Rattle.sql_tree.specs.grammar.Descent.{starts}
use Rattle.sql_tree.specs.grammar.Grammar.{SqlRule, body, build}
use Rattle.sql_tree.specs.grammar.Rules.{word, token, ◌then◌, ◌or◌, front, optional, many, placed, symbol}
use Rattle.sql_tree.specs.grammar.Sorts.{sort_of}
use Rattle.sql_tree.specs.grammar.Symbols as n
use Rattle.sql_tree.specs.grammar.Symbols.{Symbol}
use Rattle.sql_tree.specs.grammar.Tables.{empty, begins}
use Rattle.sql_tree.specs.declared.grammar.sort.Sort.{Sort}
use Rattle.sql_tree.specs.declared.grammar.sort.Sort.TheVariants as s
use Rattle.sql_tree.specs.declared.expression.ExprBody.TheVariants as e
use Rattle.sql_tree.specs.declared.expression.ExprTree.{ExprTree}

-- ---- the table

abbrev pub rows_at : ℕ → List Entry
rows_at level = filter (λ row. row.0 == level) operator_table

abbrev pub kind_by : List ℕ → TokenKind
kind_by [] = kind.Symbol
kind_by (first ∷ others) = cond (is_single first) kind.Symbol kind.Word

-- the token that spells a row, alone in a text: a word is held in lower case
abbrev pub token_of : Entry → Token
token_of row = record { kind = kind_by row.1; start = 0; end = length row.1; spelled = str_to_ascii_lowercase row.1; number = pos 0 }

abbrev pub sort_in : Entry → Sort
sort_in row = sort_of (token_of row)

-- ---- the grammar

-- the symbol that reads a level; a primary is what the tightest operators stand at
abbrev pub level_of : Symbol → Option ℕ
level_of n.Expr = Some 1
level_of n.Both = Some 2
level_of n.Negated = Some 3
level_of n.Test = Some 4
level_of n.Compared = Some 5
level_of n.Ranged = Some 6
level_of n.Sum = Some 7
level_of n.Product = Some 8
level_of n.Sign = Some 9
level_of n.Primary = Some 10
level_of _ = None

-- those whose operators the table has, and their levels
abbrev pub levels : List (ℕ × Symbol)
levels =
    (1, n.Expr) ∷ (2, n.Both) ∷ (3, n.Negated) ∷ (5, n.Compared) ∷ (6, n.Ranged) ∷ (7, n.Sum) ∷ (8, n.Product) ∷ (9, n.Sign) ∷ []

abbrev pub is_optional : SqlRule → Bool
is_optional (optional r) = true
is_optional _ = false

-- the sorts with which a part begins. A word that may be absent is no operator, as NOT before LIKE
abbrev pub firsts : SqlRule → List Sort
firsts (word sort) = sort ∷ []
firsts (token sorts) = sorts
firsts (r then other) = cond (is_optional r) (firsts other) (firsts r)
firsts (r or other) = firsts r ++ firsts other
firsts (front r other) = firsts r ++ firsts other
firsts (optional r) = firsts r
firsts (many r) = firsts r
firsts (placed r) = firsts r
firsts (symbol n) = starts empty begins (body n)

-- the sorts of the operators in a rule: with them begins what may be absent, before or behind an operand
abbrev pub operators_in : SqlRule → List Sort
operators_in (word sort) = []
operators_in (token sorts) = []
operators_in (r then other) = operators_in r ++ operators_in other
operators_in (r or other) = operators_in r ++ operators_in other
operators_in (front r other) = operators_in r ++ operators_in other
operators_in (optional r) = firsts r
operators_in (many r) = firsts r
operators_in (placed r) = operators_in r
operators_in (symbol n) = []

-- whether a rule begins with what may be absent: the operators stand before the operand
abbrev pub stands_before : SqlRule → Bool
stands_before (word sort) = false
stands_before (token sorts) = false
stands_before (r then other) = stands_before r
stands_before (r or other) = false
stands_before (front r other) = false
stands_before (optional r) = true
stands_before (many r) = true
stands_before (placed r) = stands_before r
stands_before (symbol n) = false

abbrev pub symbols_in : SqlRule → List Symbol
symbols_in (word sort) = []
symbols_in (token sorts) = []
symbols_in (r then other) = symbols_in r ++ symbols_in other
symbols_in (r or other) = symbols_in r ++ symbols_in other
symbols_in (front r other) = symbols_in r ++ symbols_in other
symbols_in (optional r) = symbols_in r
symbols_in (many r) = symbols_in r
symbols_in (placed r) = symbols_in r
symbols_in (symbol n) = n ∷ []

-- what stands behind an operand has a symbol of its own at some levels: its symbols stand for it
abbrev pub opened : Symbol → List Symbol
opened n = cond (is_some (level_of n)) (n ∷ []) (symbols_in (body n))

-- the levels of the operands; a list or a query in parentheses has none
abbrev pub operands_of : Symbol → List ℕ
operands_of n = b.present (map level_of (flat_map opened (symbols_in (body n))))

-- there are operands, and each is of the next level
abbrev pub are_next : ℕ → List ℕ → Bool
are_next level [] = false
are_next level (first ∷ others) = list_all (λ l. l == suc level) (first ∷ others)

-- ---- the law

-- the token of a row makes the row's operator where it decides on it, and otherwise the level does, or the alternative that
-- the token begins
abbrev pub Makes : Token → Operator → Type 0
Makes t (op.Arith a) = b.arith_of t ≡ a
Makes t (op.Compare c) = b.comparison_of t ≡ c
Makes t op.Or = build n.Expr ≡ b.logic op.Or
Makes t op.And = build n.Both ≡ b.logic op.And
Makes t op.Not = (sort_of t ≡ s.Not) × (build n.Negated ≡ b.nots)
Makes t op.Negate = (sort_of t ≡ s.Minus) × (build n.Sign ≡ b.signs)
Makes t op.Like =
    (sort_of t ≡ s.Like)
    × ((pattern part : ExprTree) (negated : Bool) → build n.Range (inl (tt, pattern)) negated part ≡ b.node part.at (e.Like negated part pattern))
Makes t op.Between =
    (sort_of t ≡ s.Between)
    × ((low high part : ExprTree) (negated : Bool)
    → build n.Range (inr (inl (tt, (low, (tt, high))))) negated part ≡ b.node part.at (e.Between negated part low high))
Makes t op.InList =
    (sort_of t ≡ s.In)
    × ((list : List ExprTree) (part : ExprTree) (negated : Bool)
    → build n.Range (inr (inr (tt, build n.Members (tt, (inr list, tt))))) negated part ≡ b.node part.at (e.InList negated part list))
Makes t op.Coalesce = Unit {0}
Makes t op.NullIf = Unit {0}

pub record AreReadByTable : Type 0 where
  -- each row is spelled by one token, which makes the row's operator
  pub spelled : AllByRecursion (λ row. Lexes row.1 (token_of row ∷ [])) operator_table
  pub made : AllByRecursion (λ row. Makes (token_of row) row.5) operator_table
  -- at each level the grammar reads exactly the operators of the rows there, in their order
  pub operators : map (λ l. operators_in (body l.1)) levels ≡ map (λ l. map sort_in (rows_at l.0)) levels
  -- and every row is at one of these levels; it stands before its operand where the level's operators do
  pub rows : flat_map (λ l. rows_at l.0) levels ≡ operator_table
  pub before : flat_map (λ l. map (λ row. stands_before (body l.1)) (rows_at l.0)) levels ≡ map (λ row. row.2) operator_table
  -- level 4 is IS
  pub fourth : operators_in (body n.Test) ≡ s.Is ∷ []
  -- each operand is of the next level
  pub operands : list_all (λ l. are_next l.0 (operands_of l.1)) ((4, n.Test) ∷ levels) ≡ true
  pub numbered : map (λ l. level_of l.1) levels ≡ map (λ l. Some l.0) levels
