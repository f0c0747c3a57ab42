-- Predicates without their first part, as functions of it.
use Rattle.std.specs.Prelude.{Bool, false, List, [], ◌∷◌, cond}
use Rattle.std.proofs.Common.{inl, inr}
use Rattle.null_logic.specs.declared.compare.Compare.{Compare}
use Rattle.sql_lexer.specs.declared.token.Token.{Token}
use Rattle.sql_tree.specs.grammar.Building as b
use Rattle.sql_tree.specs.grammar.Building.{node}
use Rattle.sql_tree.specs.grammar.Cursors.{reading, sees, one}
use Rattle.sql_tree.specs.grammar.Descent.{Parsed, mapped}
use Rattle.sql_tree.specs.grammar.built.Pieces.{by}
use Rattle.sql_tree.specs.grammar.Rules.{word, token, symbol, ◌then◌}
use Rattle.sql_tree.specs.grammar.Symbols as n
use Rattle.sql_tree.specs.declared.grammar.sort.Sort.{Sort}
use Rattle.sql_tree.specs.declared.grammar.sort.Sort.TheVariants as s
use Rattle.sql_levels.specs.declared.tail.Tail.{Tail}
use Rattle.sql_levels.specs.declared.tail.Tail.TheVariants as tail
use Rattle.sql_tree.specs.declared.expression.ExprBody.{ExprBody}
use Rattle.sql_tree.specs.declared.expression.ExprBody.TheVariants as e
use Rattle.sql_tree.specs.declared.expression.ExprTree.{ExprTree}
use Rattle.sql_tree.specs.declared.query.QueryTree.{QueryTree}

abbrev pub body : Tail → Bool → ExprTree → ExprBody
body tail.Null negated part = e.IsNull negated part
body (tail.Truth truth) negated part = e.IsTruth negated truth part
body (tail.Distinct second) negated part = e.IsDistinct negated part second
body (tail.Quantified every op query) negated part = e.Quantified every op part query
body (tail.Compared op second) negated part = e.Compared op part second
body (tail.Like pattern) negated part = e.Like negated part pattern
body (tail.Between low high) negated part = e.Between negated part low high
body (tail.InQuery query) negated part = e.InQuery negated part query
body (tail.InList list) negated part = e.InList negated part list

abbrev pub on : Tail → Bool → ExprTree → ExprTree
on t negated part = node part.at (body t negated part)

-- behind IS
abbrev pub behind : Bool × Tail → ExprTree → ExprTree
behind t part = on t.1 t.0 part

-- behind a comparison's first part
abbrev pub compared : Tail → ExprTree → ExprTree
compared t part = on t false part

-- behind [NOT]
abbrev pub ranged : Tail → Bool → ExprTree → ExprTree
ranged t negated part = on t negated part

-- ---- the tails, as they are read

abbrev pub truths : List Sort
truths = s.True ∷ s.False ∷ s.Unknown ∷ []

abbrev pub quantifiers : List Sort
quantifiers = s.Any ∷ s.Some ∷ s.All ∷ []

abbrev pub ranges : List Sort
ranges = s.Not ∷ s.Like ∷ s.Between ∷ s.In ∷ []

abbrev pub null_tail : List Token → Parsed Token Tail
null_tail tokens = mapped (λ t. tail.Null) (one (s.Null ∷ []) tokens)

abbrev pub truth_tail : List Token → Parsed Token Tail
truth_tail tokens = mapped (λ t. tail.Truth (b.truth_of t)) (one truths tokens)

abbrev pub distinct_tail : List Token → Parsed Token Tail
distinct_tail tokens = mapped (λ v. tail.Distinct v.1.1) (by (word s.Distinct then word s.From then symbol n.Compared) tokens)

-- what stands behind IS [NOT]
abbrev pub is_tail : List Token → Parsed Token Tail
is_tail tokens = cond (sees (s.Null ∷ []) tokens) (null_tail tokens) (cond (sees truths tokens) (truth_tail tokens) (distinct_tail tokens))

-- a comparison with each row of a query
abbrev pub quantified : Compare → List Token → Parsed Token Tail
quantified op tokens = mapped (λ v. tail.Quantified (b.is v.0 s.All) op v.1) (by (token quantifiers then symbol n.InParentheses) tokens)

-- a comparison with a value
abbrev pub second : Compare → List Token → Parsed Token Tail
second op tokens = mapped (λ part. tail.Compared op part) (reading n.Ranged tokens)

abbrev pub like : List Token → Parsed Token (Bool → ExprTree → ExprTree)
like tokens = mapped (λ v. b.range (inl v)) (by (word s.Like then symbol n.Sum) tokens)

abbrev pub bounds : List Token → Parsed Token (Bool → ExprTree → ExprTree)
bounds tokens = mapped (λ v. b.range (inr (inl v))) (by (word s.Between then symbol n.Sum then word s.And then symbol n.Sum) tokens)

abbrev pub within : List Token → Parsed Token (Bool → ExprTree → ExprTree)
within tokens = mapped (λ v. b.range (inr (inr v))) (by (word s.In then symbol n.Members) tokens)

abbrev pub in_query : QueryTree → Bool → ExprTree → ExprTree
in_query query = ranged (tail.InQuery query)

abbrev pub in_list : List ExprTree → Bool → ExprTree → ExprTree
in_list list = ranged (tail.InList list)

-- a query or a list, which stands between parentheses
abbrev pub among : List Token → Parsed Token (Bool → ExprTree → ExprTree)
among tokens = cond (sees (s.Select ∷ []) tokens) (mapped in_query (reading n.Inner tokens)) (mapped in_list (reading n.Exprs tokens))
