-- Plans of names and literals, and of expressions without an operator at a level.
use Rattle.std.specs.Prelude.{ℕ, pos, List, [], refl}
use Rattle.sql_lexer.specs.declared.token.Token.{Token}
use Rattle.sql_lexer.specs.declared.token.TokenKind.TheVariants.{Quoted, Number}
use Rattle.sql_tree.specs.grammar.Rules.{symbol}
use Rattle.sql_tree.specs.grammar.Symbols as n
use Rattle.tree_texts.specs.plans.Blanks.{Blank, left_out, none, both_blank, blank_symbol}
use Rattle.tree_texts.specs.plans.Plans.{Plan, here, there, a_word, a_token, both, before, behind, first, second, at_start, as_symbol}
use Rattle.tree_texts.specs.plans.Written.{token_of}

-- ---- names and literals

-- a name, in quotes
abbrev pub a_name : List ℕ → Plan (symbol n.NameOf)
a_name text = as_symbol (a_token (token_of Quoted text) (there here))

abbrev pub number_token : ℕ → Token
number_token number = record { kind = Number; start = 0; end = 0; spelled = []; number = pos number }

abbrev pub a_number : ℕ → Plan (symbol n.Literal)
a_number number = as_symbol (a_token (number_token number) here)

-- a column by its name alone
abbrev pub a_column : List ℕ → Plan (symbol n.Reference)
a_column name = as_symbol (before (a_token (token_of Quoted name) (there here)) (blank_symbol left_out))

-- ---- what stands alone at a level

abbrev pub literal : Plan (symbol n.Literal) → Plan (symbol n.Primary)
literal p = as_symbol (at_start (first p))

abbrev pub reference : Plan (symbol n.Reference) → Plan (symbol n.Primary)
reference p = as_symbol (at_start (second (second (second (second (second (second (second (second (second p))))))))))

abbrev pub to_sign : Plan (symbol n.Primary) → Plan (symbol n.Sign)
to_sign p = as_symbol (at_start (behind none p))

abbrev pub to_product : Plan (symbol n.Sign) → Plan (symbol n.Product)
to_product p = as_symbol (before p none)

abbrev pub to_sum : Plan (symbol n.Product) → Plan (symbol n.Sum)
to_sum p = as_symbol (before p none)

abbrev pub to_ranged : Plan (symbol n.Sum) → Plan (symbol n.Ranged)
to_ranged p = as_symbol (before p left_out)

abbrev pub to_compared : Plan (symbol n.Ranged) → Plan (symbol n.Compared)
to_compared p = as_symbol (before p left_out)

abbrev pub to_test : Plan (symbol n.Compared) → Plan (symbol n.Test)
to_test p = as_symbol (before p left_out)

abbrev pub to_negated : Plan (symbol n.Test) → Plan (symbol n.Negated)
to_negated p = as_symbol (at_start (behind none p))

abbrev pub to_both : Plan (symbol n.Negated) → Plan (symbol n.Both)
to_both p = as_symbol (before p none)

abbrev pub to_expr : Plan (symbol n.Both) → Plan (symbol n.Expr)
to_expr p = as_symbol (before p none)

abbrev pub operand : Plan (symbol n.Primary) → Plan (symbol n.Ranged)
operand p = to_ranged (to_sum (to_product (to_sign p)))

abbrev pub tested : Plan (symbol n.Compared) → Plan (symbol n.Expr)
tested p = to_expr (to_both (to_negated (to_test p)))

abbrev pub expression : Plan (symbol n.Primary) → Plan (symbol n.Expr)
expression p = tested (to_compared (operand p))

-- an expression in parentheses
abbrev pub parens : Plan (symbol n.Expr) → Plan (symbol n.Primary)
parens p =
    as_symbol (at_start (second (second (second (second (first
    (as_symbol (both (a_word refl) (both (second p) (a_word refl))))))))))

-- ---- queries

-- no set operation, no ORDER BY and no LIMIT behind an operand
abbrev pub no_rest : Blank (symbol n.QueryRest)
no_rest = blank_symbol (both_blank none (both_blank none (both_blank (blank_symbol left_out) (blank_symbol left_out))))

abbrev pub query : Plan (symbol n.Operand) → Plan (symbol n.Query)
query p = as_symbol (at_start (before p no_rest))

abbrev pub inner : Plan (symbol n.CoreOf) → Plan (symbol n.Inner)
inner p = as_symbol (at_start (before p no_rest))

abbrev pub core : Plan (symbol n.CoreOf) → Plan (symbol n.Operand)
core p = as_symbol (first p)

-- a query in parentheses
abbrev pub enclosed : Plan (symbol n.Query) → Plan (symbol n.Operand)
enclosed p = as_symbol (second (both (a_word refl) (both p (a_word refl))))

abbrev pub in_parentheses : Plan (symbol n.Inner) → Plan (symbol n.InParentheses)
in_parentheses p = as_symbol (both (a_word refl) (both p (a_word refl)))
