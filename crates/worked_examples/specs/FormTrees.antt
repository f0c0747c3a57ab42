-- A tree of each form, all of whose offsets are 0, for worked examples.
use Rattle.std.specs.Prelude.{ℕ, pos, false, true, List, [], ◌∷◌, map, Option, Some, None}
use Rattle.null_logic.specs.declared.operator.Operator.TheVariants.{And, Or}
use Rattle.sql_tree.specs.declared.expression.AggWord.TheVariants as word
use Rattle.sql_tree.specs.declared.expression.ArmTree.{ArmTree}
use Rattle.sql_tree.specs.declared.expression.ExprBody.{ExprBody}
use Rattle.sql_tree.specs.declared.expression.ExprBody.TheVariants as e
use Rattle.sql_tree.specs.declared.expression.ExprStep.{ExprStep}
use Rattle.sql_tree.specs.declared.expression.ExprTree.{ExprTree}
use Rattle.sql_tree.specs.declared.name.ColRef.{ColRef}
use Rattle.sql_tree.specs.declared.name.Name.{Name}
use Rattle.sql_tree.specs.declared.query.Core.{Core, roll-Core}
use Rattle.sql_tree.specs.declared.query.OrderKey.TheVariants.{Position}
use Rattle.sql_tree.specs.declared.query.OrderTree.{OrderTree}
use Rattle.sql_tree.specs.declared.query.QueryTree.{QueryTree}
use Rattle.sql_tree.specs.declared.query.SelectItem.{SelectItem}
use Rattle.sql_tree.specs.declared.query.SelectItem.TheVariants.{Value}
use Rattle.sql_tree.specs.declared.query.SetStep.{SetStep}
use Rattle.sql_tree.specs.declared.query.SetTree.TheVariants as set
use Rattle.sql_tree.specs.declared.query.SetWord.TheVariants.{Intersect}
use Rattle.sql_tree.specs.declared.source.FromItem.{FromItem}
use Rattle.sql_tree.specs.declared.source.FromSource.{FromSource}
use Rattle.sql_tree.specs.declared.source.FromSource.TheVariants.{Named, Inner}
use Rattle.sql_tree.specs.declared.source.FromTree.{FromTree, roll-FromTree}
use Rattle.sql_tree.specs.declared.source.JoinStep.{JoinStep, roll-JoinStep}
use Rattle.sql_tree.specs.declared.source.ScopeMark.TheVariants.{Plain}
use Rattle.tree_texts.specs.Forms as f
use Rattle.tree_texts.specs.Forms.{ColumnForm, ExprForm, CompoundForm, ExprForms, SumForms, ProductForms, ArmForms, ItemForms, SourceForm, JoinForms, FromForm, ConditionForm, CoreForm, UnionForms, IntersectForms, KeyForm, QueryForm}
use Rattle.tree_texts.specs.Trees.{sum_of, product_of, fold_of, join_of, lateral_of, set_of, limit_of}

abbrev named : List ℕ → Name
named text = record { text = text; at = 0 }

abbrev reference : ColumnForm → ColRef
reference (f.bare name) = record { at = 0; table = None; name = named name }
reference (f.in_item item name) = record { at = 0; table = Some (named item); name = named name }

abbrev expr : ExprBody → ExprTree
expr body = record { at = 0; body = body }

abbrev key_tree : KeyForm → OrderTree
key_tree form = record { at = 0; key = Position (pos form.position); descending = form.descending }

abbrev reads : FromSource → Option Name → FromItem
reads source alias = record { at = 0; source = source; alias = alias; mark = Plain }

abbrev mutual
  pub expr_tree : ExprForm → ExprTree
  expr_tree (f.column form) = expr (e.Column (reference form))
  expr_tree (f.integer number) = expr (e.Integer (pos number))
  expr_tree (f.text spelled) = expr (e.Text spelled)
  expr_tree (f.truth truth) = expr (e.Truth truth)
  expr_tree (f.null kind) = expr (e.NullOf kind)
  expr_tree (f.enclosed form) = expr (e.Paren (compound_tree form))
  expr_tree (f.case a b more c) = expr (e.Case (record { condition = expr_tree a; value = expr_tree b } ∷ arm_trees more) (Some (expr_tree c)))
  expr_tree (f.coalesce a more) = expr (e.Coalesce (expr_tree a ∷ expr_trees more))
  expr_tree (f.null_if a b) = expr (e.NullIf (expr_tree a) (expr_tree b))
  expr_tree f.count_rows = expr (e.Aggregate word.CountRows None)
  expr_tree (f.count a) = expr (e.Aggregate word.Count (Some (expr_tree a)))
  expr_tree (f.count_distinct a) = expr (e.Aggregate word.CountDistinct (Some (expr_tree a)))
  expr_tree (f.folded function a) = expr (e.Aggregate (fold_of function) (Some (expr_tree a)))
  expr_tree (f.exists q) = expr (e.Exists (query_tree q))
  expr_tree (f.scalar q) = expr (e.Scalar (query_tree q))

  compound_tree : CompoundForm → ExprTree
  compound_tree (f.negative a) = expr (e.Signs 1 (expr_tree a))
  compound_tree (f.added a op b more) = expr (e.Chain (expr_tree a) (record { op = sum_of op; part = expr_tree b } ∷ term_trees more))
  compound_tree (f.multiplied a op b more) = expr (e.Chain (expr_tree a) (record { op = product_of op; part = expr_tree b } ∷ factor_trees more))
  compound_tree (f.compared op a b) = expr (e.Compared op (expr_tree a) (expr_tree b))
  compound_tree (f.like negated a b) = expr (e.Like negated (expr_tree a) (expr_tree b))
  compound_tree (f.between negated a b c) = expr (e.Between negated (expr_tree a) (expr_tree b) (expr_tree c))
  compound_tree (f.in_list negated a b more) = expr (e.InList negated (expr_tree a) (expr_tree b ∷ expr_trees more))
  compound_tree (f.in_query negated a q) = expr (e.InQuery negated (expr_tree a) (query_tree q))
  compound_tree (f.any op a q) = expr (e.Quantified false op (expr_tree a) (query_tree q))
  compound_tree (f.all op a q) = expr (e.Quantified true op (expr_tree a) (query_tree q))
  compound_tree (f.is_null negated a) = expr (e.IsNull negated (expr_tree a))
  compound_tree (f.is_truth negated truth a) = expr (e.IsTruth negated truth (expr_tree a))
  compound_tree (f.is_distinct negated a b) = expr (e.IsDistinct negated (expr_tree a) (expr_tree b))
  compound_tree (f.negated a) = expr (e.Nots 1 (expr_tree a))
  compound_tree (f.each_of a b more) = expr (e.Logic And (expr_tree a ∷ expr_tree b ∷ expr_trees more))
  compound_tree (f.one_of a b more) = expr (e.Logic Or (expr_tree a ∷ expr_tree b ∷ expr_trees more))

  expr_trees : ExprForms → List ExprTree
  expr_trees f.no_exprs = []
  expr_trees (f.an_expr a more) = expr_tree a ∷ expr_trees more

  term_trees : SumForms → List ExprStep
  term_trees f.no_terms = []
  term_trees (f.a_term op a more) = record { op = sum_of op; part = expr_tree a } ∷ term_trees more

  factor_trees : ProductForms → List ExprStep
  factor_trees f.no_factors = []
  factor_trees (f.a_factor op a more) = record { op = product_of op; part = expr_tree a } ∷ factor_trees more

  arm_trees : ArmForms → List ArmTree
  arm_trees f.no_arms = []
  arm_trees (f.an_arm a b more) = record { condition = expr_tree a; value = expr_tree b } ∷ arm_trees more

  item_trees : ItemForms → List SelectItem
  item_trees f.no_items = []
  item_trees (f.an_item a name more) = Value (expr_tree a) (Some (named name)) ∷ item_trees more

  source_tree : SourceForm → FromItem
  source_tree (f.table name) = reads (Named (named name)) None
  source_tree (f.table_as name alias) = reads (Named (named name)) (Some (named alias))
  source_tree (f.subquery q alias) = reads (Inner (query_tree q)) (Some (named alias))

  join_trees : JoinForms → List JoinStep
  join_trees f.no_joins = []
  join_trees (f.a_join kind right condition more) =
      roll-JoinStep (record { word = join_of kind; item = source_tree right; condition = Some (expr_tree condition) }) ∷ join_trees more
  join_trees (f.a_lateral stays q alias more) =
      roll-JoinStep (record { word = lateral_of stays; item = reads (Inner (query_tree q)) (Some (named alias)); condition = None }) ∷ join_trees more

  from_trees : FromForm → List FromTree
  from_trees f.no_from = []
  from_trees (f.from left more) = roll-FromTree (record { first = source_tree left; joins = join_trees more }) ∷ []

  condition_tree : ConditionForm → Option ExprTree
  condition_tree f.no_condition = None
  condition_tree (f.condition a) = Some (expr_tree a)

  core_tree : CoreForm → Core
  core_tree (f.select distinct a name more origin tested groups having) = roll-Core (record {
    at = 0;
    provenance = None;
    distinct = distinct;
    items = Value (expr_tree a) (Some (named name)) ∷ item_trees more;
    sources = from_trees origin;
    condition = condition_tree tested;
    groups = map reference groups;
    having = condition_tree having;
  })

  union_trees : UnionForms → List SetStep
  union_trees f.no_unions = []
  union_trees (f.a_union kind all core more) = record { word = set_of kind; all = all; at = 0; operand = set.Core (core_tree core) } ∷ union_trees more

  intersect_trees : IntersectForms → List SetStep
  intersect_trees f.no_intersects = []
  intersect_trees (f.an_intersect all core more) = record { word = Intersect; all = all; at = 0; operand = set.Core (core_tree core) } ∷ intersect_trees more

  pub query_tree : QueryForm → QueryTree
  query_tree (f.one core keys limit) = record { at = 0; body = set.Core (core_tree core); order = map key_tree keys; limit = limit_of limit }
  query_tree (f.united first kind all second more keys limit) = record {
    at = 0;
    body = set.Chain (set.Core (core_tree first)) (record { word = set_of kind; all = all; at = 0; operand = set.Core (core_tree second) } ∷ union_trees more);
    order = map key_tree keys;
    limit = limit_of limit;
  }
  query_tree (f.intersected first all second more keys limit) = record {
    at = 0;
    body = set.Chain (set.Core (core_tree first)) (record { word = Intersect; all = all; at = 0; operand = set.Core (core_tree second) } ∷ intersect_trees more);
    order = map key_tree keys;
    limit = limit_of limit;
  }
