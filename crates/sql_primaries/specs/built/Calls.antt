-- What stands in a primary.
use Rattle.std.specs.Prelude.{Bool, true, false, Some, None, List, [], ◌∷◌, cond}
use Rattle.sql_lexer.specs.declared.token.Token.{Token}
use Rattle.sql_tree.specs.grammar.Building as b
use Rattle.sql_tree.specs.grammar.Building.{Word}
use Rattle.sql_tree.specs.grammar.Cursors.{reading, sees, one}
use Rattle.sql_tree.specs.grammar.Descent.{Parsed, and_then, mapped}
use Rattle.sql_tree.specs.grammar.Lists.{all_of}
use Rattle.sql_tree.specs.grammar.built.Pieces.{between, by, passes}
use Rattle.sql_tree.specs.grammar.Rules.{word, symbol, ◌then◌}
use Rattle.sql_tree.specs.grammar.built.Sequences.{value_before}
use Rattle.sql_tree.specs.grammar.Symbols as n
use Rattle.sql_tree.specs.grammar.Tables.{begins}
use Rattle.sql_tree.specs.declared.grammar.sort.Sort.{Sort}
use Rattle.sql_tree.specs.declared.grammar.sort.Sort.TheVariants as s
use Rattle.sql_tree.specs.declared.expression.ArmTree.{ArmTree}
use Rattle.sql_tree.specs.declared.expression.AggWord.{AggWord}
use Rattle.sql_tree.specs.declared.expression.AggWord.TheVariants as agg
use Rattle.sql_tree.specs.declared.expression.ExprBody.{ExprBody}
use Rattle.sql_tree.specs.declared.expression.ExprBody.TheVariants.{Aggregate, Coalesce, NullIf, Scalar, Paren}
use Rattle.sql_tree.specs.declared.expression.ExprTree.{ExprTree}

-- the column of a function's word that no parenthesis follows
abbrev pub named : Token → List Token → Parsed Token ExprBody
named t tokens = mapped (λ name. b.column (t, name)) (reading n.Qualified tokens)

-- a function's word, with its arguments in parentheses or as a name
abbrev pub called : List Sort → (Token → List Token → Parsed Token ExprBody) → List Token → Parsed Token ExprBody
called sorts arguments tokens =
    and_then (one sorts tokens) (λ t rest. cond (sees (s.Opening ∷ []) rest) (arguments t rest) (named t rest))

abbrev pub count_word : Bool → AggWord
count_word true = agg.CountDistinct
count_word false = agg.Count

abbrev pub count_rows : List Token → Parsed Token ExprBody
count_rows tokens = mapped (λ star. Aggregate agg.CountRows None) (one (s.Star ∷ []) tokens)

abbrev pub count_values : List Token → Parsed Token ExprBody
count_values tokens =
    and_then (passes s.Distinct tokens) (λ distinct rest. mapped (λ part. Aggregate (count_word distinct) (Some part)) (reading n.Expr rest))

-- an expression before this word
abbrev pub before : Sort → List Token → Parsed Token ExprTree
before sort tokens = and_then (reading n.Expr tokens) (λ part rest. value_before sort part rest)

-- two expressions with this word between them
abbrev pub pair_of : Sort → List Token → Parsed Token (ExprTree × ExprTree)
pair_of sort tokens = and_then (before sort tokens) (λ first rest. mapped (λ second. (first, second)) (reading n.Expr rest))

abbrev pub enclosed : List Token → Parsed Token ExprTree
enclosed tokens = between (reading n.Expr) tokens

abbrev pub count_arguments : List Token → Parsed Token ExprBody
count_arguments tokens = between (reading n.Counted) tokens

abbrev pub aggregate_of : Token → List Token → Parsed Token ExprBody
aggregate_of t tokens = mapped (b.aggregate t) (enclosed tokens)

abbrev pub enclosed_list : List Token → Parsed Token (List ExprTree)
enclosed_list tokens = between (reading n.Exprs) tokens

abbrev pub coalesce_of : List Token → Parsed Token ExprBody
coalesce_of tokens = mapped Coalesce (enclosed_list tokens)

abbrev pub two_parts : List Token → Parsed Token (ExprTree × (Word × ExprTree))
two_parts tokens = by (symbol n.Expr then word s.Comma then symbol n.Expr) tokens

abbrev pub null_if_of : List Token → Parsed Token ExprBody
null_if_of tokens = mapped (λ v. NullIf v.0 v.1.1) (between two_parts tokens)

-- a query or an expression, which stands between parentheses
abbrev pub inside : List Token → Parsed Token ExprBody
inside tokens = cond (sees (s.Select ∷ []) tokens) (mapped Scalar (reading n.Inner tokens)) (mapped Paren (reading n.Expr tokens))

-- WHEN .. THEN .., once at least
abbrev pub arms : List Token → Parsed Token (List ArmTree)
arms tokens = and_then (reading n.Arm tokens) (λ arm rest. mapped (λ more. arm ∷ more) (all_of (s.When ∷ []) (reading n.Arm) rest))

-- what stands in a primary, by its first token
abbrev pub primary_body : List Token → Parsed Token ExprBody
primary_body tokens =
    cond (sees (begins n.Literal) tokens) (reading n.Literal tokens)
    (cond (sees (begins n.Cast) tokens) (reading n.Cast tokens)
    (cond (sees (begins n.Case) tokens) (reading n.Case tokens)
    (cond (sees (begins n.Exists) tokens) (reading n.Exists tokens)
    (cond (sees (begins n.Parentheses) tokens) (reading n.Parentheses tokens)
    (cond (sees (begins n.Count) tokens) (reading n.Count tokens)
    (cond (sees (begins n.Aggregate) tokens) (reading n.Aggregate tokens)
    (cond (sees (begins n.Coalesce) tokens) (reading n.Coalesce tokens)
    (cond (sees (begins n.NullIf) tokens) (reading n.NullIf tokens)
    (reading n.Reference tokens)))))))))
