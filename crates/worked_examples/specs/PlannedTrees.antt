-- The trees of the worked plans, with the offset of each node, written out by hand.
use Rattle.std.specs.Prelude.{◌≡◌, ℕ, false, List, [], ◌∷◌, Option, Some, None, codes, refl}
use Rattle.std.specs.Fmt.{digits}
use Rattle.null_logic.specs.declared.compare.Compare.TheVariants as compare
use Rattle.sql_tree.specs.grammar.Sorts.{word_sort, symbol_sort, same_sort}
use Rattle.sql_tree.specs.declared.expression.ExprBody.TheVariants as e
use Rattle.sql_tree.specs.declared.expression.ExprTree.{ExprTree}
use Rattle.sql_tree.specs.declared.query.Core.{roll-Core}
use Rattle.sql_tree.specs.declared.query.SelectItem.TheVariants.{Value}
use Rattle.sql_tree.specs.declared.query.SetTree.{SetTree}
use Rattle.sql_tree.specs.declared.query.SetTree.TheVariants as set
use Rattle.sql_tree.specs.declared.query.SetWord.TheVariants.{Union}
use Rattle.sql_tree.specs.declared.source.FromSource.TheVariants as source
use Rattle.sql_tree.specs.declared.source.FromTree.{FromTree, roll-FromTree}
use Rattle.sql_tree.specs.declared.source.JoinStep.{roll-JoinStep}
use Rattle.sql_tree.specs.declared.source.JoinWord.TheVariants.{Inner, LeftLateral}
use Rattle.sql_tree.specs.declared.source.ScopeMark.TheVariants.{Plain}
use Rattle.tree_texts.specs.plans.Plans.{value}
use Rattle.worked_examples.specs.NamedTrees.{name, expr, column, number as int, table, query}
use Rattle.worked_examples.specs.PlannedTexts.{select_join, select_lateral, union, select_exists}

-- ---- nodes, each at its offset

abbrev select : ℕ → ExprTree → List FromTree → Option ExprTree → SetTree
select at one sources condition = set.Core (roll-Core (record {
  at = at;
  provenance = None;
  distinct = false;
  items = Value one None ∷ [];
  sources = sources;
  condition = condition;
  groups = [];
  having = None;
}))

-- ---- trees

example-join : value 0 select_join ≡ query 0 (select 0 (column 7 (codes "a"))
    (roll-FromTree (record {
      first = table 16 (codes "t");
      joins = roll-JoinStep (record {
        word = Inner;
        item = table 25 (codes "u");
        condition = Some (expr 32 (e.Compared compare.Equal (column 32 (codes "a")) (column 38 (codes "b"))));
      }) ∷ [];
    }) ∷ []) None)
unfolding word_sort symbol_sort same_sort
example-join = refl

example-lateral : value 0 select_lateral ≡ query 0 (select 0 (column 7 (codes "a"))
    (roll-FromTree (record {
      first = table 16 (codes "t");
      joins = roll-JoinStep (record {
        word = LeftLateral;
        item = record { at = 38; source = source.Inner (query 40 (select 40 (int 47 1) [] None)); alias = Some (name 51 (codes "x")); mark = Plain };
        condition = None;
      }) ∷ [];
    }) ∷ []) None)
unfolding word_sort symbol_sort same_sort digits
example-lateral = refl

example-union : value 0 union ≡ query 0 (set.Chain (set.Paren (query 2 (select 2 (int 9 1) [] None)))
    (record { word = Union; all = false; at = 19; operand = set.Paren (query 21 (select 21 (int 28 2) [] None)) } ∷ []))
unfolding word_sort symbol_sort same_sort digits
example-union = refl

example-exists : value 0 select_exists ≡ query 0 (select 0 (int 7 1) [] (Some (expr 15 (e.Exists (query 24 (select 24 (int 31 2) [] None))))))
unfolding word_sort symbol_sort same_sort digits
example-exists = refl
