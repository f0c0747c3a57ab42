-- Worked examples of the grammar: texts and their trees, with the offset of each node, written out by hand.
use Rattle.std.specs.Prelude.{◌≡◌, ℕ, ◌+◌, pos, true, false, List, [], ◌∷◌, Option, Some, None, codes, refl}
use Rattle.null_logic.specs.declared.arith.Arith.TheVariants as arith
use Rattle.null_logic.specs.declared.compare.Compare.TheVariants as compare
use Rattle.null_logic.specs.declared.operator.Operator.TheVariants.{And, Or}
use Rattle.null_logic.specs.declared.truth.Truth.TheVariants as truth
use Rattle.sql_tree.specs.grammar.Symbols as n
use Rattle.sql_tree.specs.declared.expression.AggWord.TheVariants.{CountDistinct}
use Rattle.sql_tree.specs.declared.expression.ExprBody.TheVariants as e
use Rattle.sql_tree.specs.declared.expression.ExprTree.{ExprTree}
use Rattle.sql_tree.specs.declared.name.Name.{Name}
use Rattle.sql_tree.specs.declared.query.Core.{roll-Core}
use Rattle.sql_tree.specs.declared.query.OrderKey.TheVariants.{Position}
use Rattle.sql_tree.specs.declared.query.QueryTree.{QueryTree}
use Rattle.sql_tree.specs.declared.query.SelectItem.{SelectItem}
use Rattle.sql_tree.specs.declared.query.SelectItem.TheVariants as item
use Rattle.sql_tree.specs.declared.query.SetTree.{SetTree}
use Rattle.sql_tree.specs.declared.query.SetTree.TheVariants as set
use Rattle.sql_tree.specs.declared.query.SetWord.TheVariants.{Union, Except, Intersect}
use Rattle.sql_tree.specs.declared.source.FromItem.{FromItem}
use Rattle.sql_tree.specs.declared.source.FromSource.TheVariants as source
use Rattle.sql_tree.specs.declared.source.FromTree.{FromTree, roll-FromTree}
use Rattle.sql_tree.specs.declared.source.JoinStep.{JoinStep, roll-JoinStep}
use Rattle.sql_tree.specs.declared.source.JoinWord.{JoinWord}
use Rattle.sql_tree.specs.declared.source.JoinWord.TheVariants.{Left, Cross, CrossLateral, LeftLateral}
use Rattle.sql_tree.specs.declared.source.ScopeMark.TheVariants.{Plain}
use Rattle.sql_tree.specs.declared.statement.StatementBody.TheVariants.{DropTable}
use Rattle.sql_parser.specs.Texts.{tree_in}
use Rattle.worked_examples.specs.NamedTrees.{name, expr, column, number as int, operand as step, query}

-- ---- nodes, each at its offset

abbrev pub a : ℕ → ExprTree
a at = column at (codes "a")

abbrev pub b : ℕ → ExprTree
b at = column at (codes "b")

abbrev pub c : ℕ → ExprTree
c at = column at (codes "c")

abbrev pub selecting : ℕ → SelectItem → List FromTree → SetTree
selecting at one sources = set.Core (roll-Core (record {
  at = at;
  provenance = None;
  distinct = false;
  items = one ∷ [];
  sources = sources;
  condition = None;
  groups = [];
  having = None;
}))

-- SELECT and a number
abbrev pub select : ℕ → ExprTree → SetTree
select at part = selecting at (item.Value part None) []

abbrev pub source_at : ℕ → List ℕ → Option Name → FromItem
source_at at table alias = record { at = at; source = source.Named (name at table); alias = alias; mark = Plain }

-- ---- expressions

-- operators of one level stand in one chain, from the left
example-chain : tree_in n.Expr (codes "1 - 2 - 3")
    ≡ Some (expr 0 (e.Chain (int 0 1) (record { op = arith.Subtract; part = int 4 2 } ∷ record { op = arith.Subtract; part = int 8 3 } ∷ [])))
unfolding tree_in
example-chain = refl

example-levels : tree_in n.Expr (codes "1 + 2 * 3 - 4")
    ≡ Some (expr 0 (e.Chain (int 0 1) (
    record { op = arith.Add; part = expr 4 (e.Chain (int 4 2) (record { op = arith.Multiply; part = int 8 3 } ∷ [])) }
    ∷ record { op = arith.Subtract; part = int 12 4 } ∷ [])))
unfolding tree_in
example-levels = refl

-- a sign binds tighter than all of them
example-sign : tree_in n.Expr (codes "- 1 * 2")
    ≡ Some (expr 0 (e.Chain (expr 0 (e.Signs 1 (int 2 1))) (record { op = arith.Multiply; part = int 6 2 } ∷ [])))
unfolding tree_in
example-sign = refl

example-parentheses : tree_in n.Expr (codes "(a + 1) * 2")
    ≡ Some (expr 0 (e.Chain (expr 0 (e.Paren (expr 1 (e.Chain (a 1) (record { op = arith.Add; part = int 5 1 } ∷ []))))) (record { op = arith.Multiply; part = int 10 2 } ∷ [])))
unfolding tree_in
example-parentheses = refl

-- AND binds tighter than OR, and NOT tighter than AND
example-or : tree_in n.Expr (codes "a OR b AND c") ≡ Some (expr 0 (e.Logic Or (a 0 ∷ expr 5 (e.Logic And (b 5 ∷ c 11 ∷ [])) ∷ [])))
unfolding tree_in
example-or = refl

example-and : tree_in n.Expr (codes "NOT NOT a AND b") ≡ Some (expr 0 (e.Logic And (expr 0 (e.Nots 2 (a 8)) ∷ b 14 ∷ [])))
unfolding tree_in
example-and = refl

-- a comparison binds tighter than NOT, and than IS
example-not : tree_in n.Expr (codes "NOT a = b") ≡ Some (expr 0 (e.Nots 1 (expr 4 (e.Compared compare.Equal (a 4) (b 8)))))
unfolding tree_in
example-not = refl

example-is : tree_in n.Expr (codes "a < b IS FALSE") ≡ Some (expr 0 (e.IsTruth false truth.False (expr 0 (e.Compared compare.Less (a 0) (b 4)))))
unfolding tree_in
example-is = refl

example-null : tree_in n.Expr (codes "a IS NOT NULL") ≡ Some (expr 0 (e.IsNull true (a 0)))
unfolding tree_in
example-null = refl

example-distinct : tree_in n.Expr (codes "a IS NOT DISTINCT FROM b") ≡ Some (expr 0 (e.IsDistinct true (a 0) (b 23)))
unfolding tree_in
example-distinct = refl

-- the first AND behind BETWEEN is its own
example-between : tree_in n.Expr (codes "a BETWEEN 1 AND 2 AND b")
    ≡ Some (expr 0 (e.Logic And (expr 0 (e.Between false (a 0) (int 10 1) (int 16 2)) ∷ b 22 ∷ [])))
unfolding tree_in
example-between = refl

example-like : tree_in n.Expr (codes "a NOT LIKE 'it''s'") ≡ Some (expr 0 (e.Like true (a 0) (expr 11 (e.Text (codes "it's")))))
unfolding tree_in
example-like = refl

example-list : tree_in n.Expr (codes "a NOT IN (1, 2)") ≡ Some (expr 0 (e.InList true (a 0) (int 10 1 ∷ int 13 2 ∷ [])))
unfolding tree_in
example-list = refl

-- one parenthesis behind IN holds a query, two hold a list of one query
example-query : tree_in n.Expr (codes "a IN (SELECT 1)") ≡ Some (expr 0 (e.InQuery false (a 0) (query 6 (select 6 (int 13 1)))))
unfolding tree_in
example-query = refl

example-scalar : tree_in n.Expr (codes "a IN ((SELECT 1))") ≡ Some (expr 0 (e.InList false (a 0) (expr 6 (e.Scalar (query 7 (select 7 (int 14 1)))) ∷ [])))
unfolding tree_in
example-scalar = refl

example-any : tree_in n.Expr (codes "a = ANY (SELECT 1)") ≡ Some (expr 0 (e.Quantified false compare.Equal (a 0) (query 9 (select 9 (int 16 1)))))
unfolding tree_in
example-any = refl

example-all : tree_in n.Expr (codes "a >= ALL (SELECT 1)") ≡ Some (expr 0 (e.Quantified true compare.GreaterEqual (a 0) (query 10 (select 10 (int 17 1)))))
unfolding tree_in
example-all = refl

example-case : tree_in n.Expr (codes "CASE WHEN a THEN 1 WHEN b THEN 2 ELSE c END")
    ≡ Some (expr 0 (e.Case (record { condition = a 10; value = int 17 1 } ∷ record { condition = b 24; value = int 31 2 } ∷ []) (Some (c 38))))
unfolding tree_in
example-case = refl

-- a function's word is one where a parenthesis follows it, and otherwise a name
example-count : tree_in n.Expr (codes "COUNT(DISTINCT x.a)")
    ≡ Some (expr 0 (e.Aggregate CountDistinct (Some (expr 15 (e.Column (record { at = 15; table = Some (name 15 (codes "x")); name = name 17 (codes "a") }))))))
unfolding tree_in
example-count = refl

example-name : tree_in n.Expr (codes "Count") ≡ Some (column 0 (codes "count"))
unfolding tree_in
example-name = refl

-- ---- queries and scripts

-- INTERSECT binds tighter than UNION
example-intersect : tree_in n.Query (codes "SELECT 1 UNION SELECT 2 INTERSECT SELECT 3")
    ≡ Some (query 0 (set.Chain (select 0 (int 7 1)) (
    step Union false 15 (set.Chain (select 15 (int 22 2)) (step Intersect false 34 (select 34 (int 41 3)) ∷ [])) ∷ [])))
unfolding tree_in
example-intersect = refl

-- UNION and EXCEPT stand in one chain, from the left
example-union : tree_in n.Query (codes "SELECT 1 EXCEPT ALL SELECT 2 UNION SELECT 3")
    ≡ Some (query 0 (set.Chain (select 0 (int 7 1)) (step Except true 20 (select 20 (int 27 2)) ∷ step Union false 35 (select 35 (int 42 3)) ∷ [])))
unfolding tree_in
example-union = refl

example-operand : tree_in n.Query (codes "(SELECT 1 UNION SELECT 2) INTERSECT SELECT 3")
    ≡ Some (query 0 (set.Chain
    (set.Paren (query 1 (set.Chain (select 1 (int 8 1)) (step Union false 16 (select 16 (int 23 2)) ∷ []))))
    (step Intersect false 36 (select 36 (int 43 3)) ∷ [])))
unfolding tree_in
example-operand = refl

example-join : tree_in n.Query (codes "SELECT * FROM r x LEFT JOIN s ON a ORDER BY 1 DESC LIMIT 2")
    ≡ Some (record {
      at = 0;
      body = selecting 0 (item.Star 7) (roll-FromTree (record {
        first = source_at 14 (codes "r") (Some (name 16 (codes "x")));
        joins = roll-JoinStep (record { word = Left; item = source_at 28 (codes "s") None; condition = Some (a 33) }) ∷ [];
      }) ∷ []);
      order = record { at = 44; key = Position (pos 1); descending = true } ∷ [];
      limit = Some (pos 2);
    })
unfolding tree_in
example-join = refl

abbrev joined_freely : JoinWord → FromItem → JoinStep
joined_freely word item = roll-JoinStep (record { word = word; item = item; condition = None })

-- a query as an item, which selects the column `a`
abbrev derived : ℕ → Name → FromItem
derived at alias = record { at = at; source = source.Inner (query (at + 1) (select (at + 1) (a (at + 8)))); alias = Some alias; mark = Plain }

abbrev all_of : FromItem → List JoinStep → QueryTree
all_of first joins = query 0 (selecting 0 (item.Star 7) (roll-FromTree (record { first = first; joins = joins }) ∷ []))

-- a lateral item stands at its parenthesis
example-cross_lateral : tree_in n.Query (codes "SELECT * FROM r CROSS JOIN LATERAL (SELECT a) x")
    ≡ Some (all_of (source_at 14 (codes "r") None) (joined_freely CrossLateral (derived 35 (name 46 (codes "x"))) ∷ []))
unfolding tree_in
example-cross_lateral = refl

example-left_lateral : tree_in n.Query (codes "SELECT * FROM r LEFT OUTER JOIN LATERAL (SELECT a) AS x ON TRUE")
    ≡ Some (all_of (source_at 14 (codes "r") None) (joined_freely LeftLateral (derived 40 (name 54 (codes "x"))) ∷ []))
unfolding tree_in
example-left_lateral = refl

-- no other condition than TRUE stands behind it
example-lateral_condition : tree_in n.Query (codes "SELECT * FROM r LEFT JOIN LATERAL (SELECT a) x ON a") ≡ None
unfolding tree_in
example-lateral_condition = refl

-- where no parenthesis follows LATERAL, it is a name
example-lateral_name : tree_in n.Query (codes "SELECT * FROM r CROSS JOIN lateral LEFT JOIN lateral x ON a")
    ≡ Some (all_of (source_at 14 (codes "r") None) (joined_freely Cross (source_at 27 (codes "lateral") None)
    ∷ roll-JoinStep (record { word = Left; item = source_at 45 (codes "lateral") (Some (name 53 (codes "x"))); condition = Some (a 58) }) ∷ []))
unfolding tree_in
example-lateral_name = refl

-- and so are IMPACT and OF
example-free_words : tree_in n.Query (codes "SELECT impact FROM of lateral")
    ≡ Some (query 0 (selecting 0 (item.Value (column 7 (codes "impact")) None)
    (roll-FromTree (record { first = source_at 19 (codes "of") (Some (name 22 (codes "lateral"))); joins = [] }) ∷ [])))
unfolding tree_in
example-free_words = refl

-- empty statements leave nothing behind
example-script : tree_in n.ScriptOf (codes "; DROP TABLE t;;")
    ≡ Some (record { statements = record { at = 2; body = DropTable (name 13 (codes "t")) } ∷ [] })
unfolding tree_in
example-script = refl
