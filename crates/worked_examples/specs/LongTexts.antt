-- Worked trees of long texts, which reach with those of `Trees.antt` every symbol of the grammar and every sort of token.
use Rattle.std.specs.Prelude.{◌≡◌, ℕ, pos, true, false, List, [], ◌∷◌, Some, None, codes, refl}
use Rattle.null_logic.specs.declared.arith.Arith.TheVariants as arith
use Rattle.null_logic.specs.declared.compare.Compare.TheVariants as compare
use Rattle.null_logic.specs.declared.truth.Truth.TheVariants as truth
use Rattle.perm_values.specs.declared.kind.Kind.TheVariants as kind
use Rattle.sql_tree.specs.grammar.Symbols as n
use Rattle.sql_parser.specs.Texts.{tree_in}
use Rattle.sql_tree.specs.declared.expression.AggWord.TheVariants as word
use Rattle.sql_tree.specs.declared.expression.ExprBody.TheVariants as e
use Rattle.sql_tree.specs.declared.expression.ExprTree.{ExprTree}
use Rattle.sql_tree.specs.declared.query.Core.{roll-Core}
use Rattle.sql_tree.specs.declared.query.OrderKey.TheVariants.{Named, Position}
use Rattle.sql_tree.specs.declared.query.SelectItem.TheVariants as item
use Rattle.sql_tree.specs.declared.query.SetTree.TheVariants as set
use Rattle.sql_tree.specs.declared.query.SetWord.TheVariants.{Union, Intersect}
use Rattle.sql_tree.specs.declared.source.FromItem.{FromItem}
use Rattle.sql_tree.specs.declared.source.FromSource.TheVariants as source
use Rattle.sql_tree.specs.declared.source.FromTree.{roll-FromTree}
use Rattle.sql_tree.specs.declared.source.JoinStep.{JoinStep, roll-JoinStep}
use Rattle.sql_tree.specs.declared.source.JoinWord.{JoinWord}
use Rattle.sql_tree.specs.declared.source.JoinWord.TheVariants.{Inner, Right, Full, Cross}
use Rattle.sql_tree.specs.declared.source.ScopeMark.TheVariants as mark
use Rattle.sql_tree.specs.declared.statement.StatementBody.TheVariants as st
use Rattle.worked_examples.specs.NamedTrees.{name, expr, column, number as int, operand as step, query}
use Rattle.worked_examples.specs.Trees.{a, b, c, select, source_at}

abbrev joined : JoinWord → FromItem → ExprTree → JoinStep
joined word item condition = roll-JoinStep (record { word = word; item = item; condition = Some condition })

-- every clause of a SELECT, every mark and, but for LEFT, every join
abbrev pub clauses : List ℕ
clauses = codes "SELECT PROVENANCE DISTINCT *, t.*, a AS x, b y FROM r AS t INNER JOIN s ON a RIGHT OUTER JOIN s ON b FULL JOIN s ON c CROSS JOIN (SELECT 1) AS u BASERELATION, q PROVENANCE (m, n) JOIN s v ON a WHERE a GROUP BY a, t.b HAVING c ORDER BY a ASC, 2 DESC LIMIT 3"

tree-of_clauses : tree_in n.Query clauses
    ≡ Some (record {
      at = 0;
      body = set.Core (roll-Core (record {
        at = 0;
        provenance = Some 7;
        distinct = true;
        items = item.Star 27 ∷ item.TableStar (name 30 (codes "t")) ∷ item.Value (a 35) (Some (name 40 (codes "x"))) ∷ item.Value (b 43) (Some (name 45 (codes "y"))) ∷ [];
        sources = roll-FromTree (record {
          first = source_at 52 (codes "r") (Some (name 57 (codes "t")));
          joins = joined Inner (source_at 70 (codes "s") None) (a 75) ∷ joined Right (source_at 94 (codes "s") None) (b 99) ∷ joined Full (source_at 111 (codes "s") None) (c 116)
              ∷ roll-JoinStep (record {
                word = Cross;
                item = record { at = 129; source = source.Inner (query 130 (select 130 (int 137 1))); alias = Some (name 143 (codes "u")); mark = mark.BaseRelation };
                condition = None;
              }) ∷ [];
        }) ∷ roll-FromTree (record {
          first = record { at = 159; source = source.Named (name 159 (codes "q")); alias = None; mark = mark.External (name 173 (codes "m") ∷ name 176 (codes "n") ∷ []) };
          joins = joined Inner (source_at 184 (codes "s") (Some (name 186 (codes "v")))) (a 191) ∷ [];
        }) ∷ [];
        condition = Some (a 199);
        groups = record { at = 210; table = None; name = name 210 (codes "a") } ∷ record { at = 213; table = Some (name 213 (codes "t")); name = name 215 (codes "b") } ∷ [];
        having = Some (c 224);
      }));
      order = record { at = 235; key = Named (codes "a"); descending = false } ∷ record { at = 242; key = Position (pos 2); descending = true } ∷ [];
      limit = Some (pos 3);
    })
unfolding tree_in
tree-of_clauses = refl

-- every statement
abbrev pub statements : List ℕ
statements = codes "CREATE TABLE t (a INTEGER, b INT, c BIGINT, d TEXT); CREATE TABLE \"T\" AS SELECT 1; CREATE VIEW v AS SELECT 1; COPY t FROM 'f' HEADER NULL '-'; COPY t FROM 'f'; INSERT INTO t VALUES (1, 'x'), (NULL, TRUE); DELETE FROM t WHERE a; DELETE FROM t; DROP TABLE t; DROP VIEW v; EXPLAIN REWRITE SELECT 1; SHOW FRESH t; SELECT 1; IMPACT DELETE FROM t WHERE a OF SELECT 1; IMPACT DELETE FROM of OF SELECT 1"

tree-of_statements : tree_in n.ScriptOf statements
    ≡ Some (record {
      statements =
          record { at = 0; body = st.CreateTable (name 13 (codes "t")) (record { name = name 16 (codes "a"); kind = kind.Integer } ∷ record { name = name 27 (codes "b"); kind = kind.Integer } ∷ record { name = name 34 (codes "c"); kind = kind.Integer } ∷ record { name = name 44 (codes "d"); kind = kind.Text } ∷ []) }
          ∷ record { at = 53; body = st.CreateTableAs (name 66 (codes "T")) (query 73 (select 73 (int 80 1))) }
          ∷ record { at = 83; body = st.CreateView (name 95 (codes "v")) (query 100 (select 100 (int 107 1))) }
          ∷ record { at = 110; body = st.Copy (name 115 (codes "t")) (codes "f") true (codes "-") }
          ∷ record { at = 143; body = st.Copy (name 148 (codes "t")) (codes "f") false [] }
          ∷ record { at = 160; body = st.Insert (name 172 (codes "t")) (record { at = 181; values = int 182 1 ∷ expr 185 (e.Text (codes "x")) ∷ [] } ∷ record { at = 191; values = expr 192 e.Null ∷ expr 198 (e.Truth true) ∷ [] } ∷ []) }
          ∷ record { at = 205; body = st.Delete (name 217 (codes "t")) (Some (a 225)) }
          ∷ record { at = 228; body = st.Delete (name 240 (codes "t")) None }
          ∷ record { at = 243; body = st.DropTable (name 254 (codes "t")) }
          ∷ record { at = 257; body = st.DropView (name 267 (codes "v")) }
          ∷ record { at = 270; body = st.Explain (query 286 (select 286 (int 293 1))) }
          ∷ record { at = 296; body = st.ShowFresh (name 307 (codes "t")) }
          ∷ record { at = 310; body = st.Select (query 310 (select 310 (int 317 1))) }
          ∷ record { at = 320; body = st.Impact (name 339 (codes "t")) (Some (a 347)) (query 352 (select 352 (int 359 1))) }
          ∷ record { at = 362; body = st.Impact (name 381 (codes "of")) None (query 387 (select 387 (int 394 1))) } ∷ [];
    })
unfolding tree_in
tree-of_statements = refl

-- functions, CAST, quantifiers and tests; a function's word without a parenthesis is a name
abbrev pub parts : List ℕ
parts = codes "COUNT(*), COUNT(a), SUM(a), MIN(a), MAX(a), COALESCE(a, 1), NULLIF(a, 0), CAST(NULL AS BOOLEAN), CAST(NULL AS INT), a <> SOME (SELECT 1), EXISTS (SELECT 1), (SELECT 1), a <= 1, a > 1, a / 1 % 2, a IS UNKNOWN, a IS NOT TRUE, FALSE, count, min.a, coalesce, NullIf, header"

tree-of_parts : tree_in n.Exprs parts
    ≡ Some (expr 0 (e.Aggregate word.CountRows None)
    ∷ expr 10 (e.Aggregate word.Count (Some (a 16)))
    ∷ expr 20 (e.Aggregate word.Sum (Some (a 24)))
    ∷ expr 28 (e.Aggregate word.Min (Some (a 32)))
    ∷ expr 36 (e.Aggregate word.Max (Some (a 40)))
    ∷ expr 44 (e.Coalesce (a 53 ∷ int 56 1 ∷ []))
    ∷ expr 60 (e.NullIf (a 67) (int 70 0))
    ∷ expr 74 (e.NullOf kind.Boolean)
    ∷ expr 97 (e.NullOf kind.Integer)
    ∷ expr 116 (e.Quantified false compare.NotEqual (a 116) (query 127 (select 127 (int 134 1))))
    ∷ expr 138 (e.Exists (query 146 (select 146 (int 153 1))))
    ∷ expr 157 (e.Scalar (query 158 (select 158 (int 165 1))))
    ∷ expr 169 (e.Compared compare.LessEqual (a 169) (int 174 1))
    ∷ expr 177 (e.Compared compare.Greater (a 177) (int 181 1))
    ∷ expr 184 (e.Chain (a 184) (record { op = arith.Divide; part = int 188 1 } ∷ record { op = arith.Remainder; part = int 192 2 } ∷ []))
    ∷ expr 195 (e.IsTruth false truth.Unknown (a 195))
    ∷ expr 209 (e.IsTruth true truth.True (a 209))
    ∷ expr 224 (e.Truth false)
    ∷ column 231 (codes "count")
    ∷ expr 238 (e.Column (record { at = 238; table = Some (name 238 (codes "min")); name = name 242 (codes "a") }))
    ∷ column 245 (codes "coalesce")
    ∷ column 255 (codes "nullif")
    ∷ column 263 (codes "header") ∷ [])
unfolding tree_in
tree-of_parts = refl

-- INTERSECT binds tighter than UNION
abbrev pub intersect_first : List ℕ
intersect_first = codes "SELECT 1 UNION ALL SELECT 2 INTERSECT SELECT 2"

tree-of_intersect_first : tree_in n.Query intersect_first
    ≡ Some (query 0 (set.Chain (select 0 (int 7 1)) (
    step Union true 19 (set.Chain (select 19 (int 26 2)) (step Intersect false 38 (select 38 (int 45 2)) ∷ [])) ∷ [])))
unfolding tree_in
tree-of_intersect_first = refl
