-- Each token that the plan of a form chooses can be written, where the form can.
use Rattle.std.proofs.Common.{ℕ, Bool, true, false, List, [], ◌∷◌, Option, Some, None, refl}
use Rattle.std.specs.List.{AllByRecursion}
use Rattle.std.proofs.lemmas.Str.{IsUtf8-nil}
use Rattle.null_logic.specs.declared.compare.Compare.{Compare}
use Rattle.null_logic.specs.declared.compare.Compare.TheVariants as compare
use Rattle.null_logic.specs.declared.truth.Truth.{Truth}
use Rattle.null_logic.specs.declared.truth.Truth.TheVariants as truths
use Rattle.perm_values.specs.declared.kind.Kind.{Kind}
use Rattle.perm_values.specs.declared.kind.Kind.TheVariants as kinds
use Rattle.sql_tree.specs.grammar.Rules.{symbol}
use Rattle.sql_tree.specs.grammar.Symbols as n
use Rattle.tree_texts.specs.plans.Levels.{number_token, expression}
use Rattle.tree_texts.specs.plans.Plans.{Plan}
use Rattle.tree_texts.specs.Fits.{FitsNumber, FitsColumn, FitsKey, FitsLimit, FitsExpr, FitsCompound, FitsExprs, FitsTerms, FitsFactors, FitsArms, FitsItems, FitsSource, FitsJoins, FitsFrom, FitsCondition, FitsCore, FitsUnions, FitsIntersects, FitsQuery}
use Rattle.tree_texts.specs.FormPlans as plan
use Rattle.tree_texts.specs.Forms as f
use Rattle.tree_texts.specs.Forms.{ColumnForm, Additive, Multiplicative, Folded, Joined, United, KeyForm, ExprForm, CompoundForm, ExprForms, SumForms, ProductForms, ArmForms, ItemForms, SourceForm, JoinForms, FromForm, ConditionForm, CoreForm, UnionForms, IntersectForms, QueryForm}
use Rattle.tree_texts.specs.Phrases.{maybe_not, maybe_all, maybe_distinct, direction, comparison, truth_word, additive, multiplicative, folding, uniting, joining, kind_word, reference_to, group_column, more_groups, grouped, truth_literal, more_keys, ordered, limited}
use Rattle.tree_texts.specs.Standing.{CanStand, Sound}

-- ---- words that a form chooses

not_sound : (b : Bool) → Sound (maybe_not b)
not_sound true = tt
not_sound false = tt

all_sound : (b : Bool) → Sound (maybe_all b)
all_sound true = tt
all_sound false = tt

distinct_sound : (b : Bool) → Sound (maybe_distinct b)
distinct_sound true = tt
distinct_sound false = tt

direction_sound : (b : Bool) → Sound (direction b)
direction_sound true = tt
direction_sound false = tt

comparison_sound : (op : Compare) → Sound (comparison op)
comparison_sound compare.Equal = tt
comparison_sound compare.NotEqual = tt
comparison_sound compare.Less = tt
comparison_sound compare.LessEqual = tt
comparison_sound compare.Greater = tt
comparison_sound compare.GreaterEqual = tt

truth_sound : (truth : Truth) → Sound (truth_word truth)
truth_sound truths.True = tt
truth_sound truths.False = tt
truth_sound truths.Unknown = tt

additive_sound : (op : Additive) → Sound (additive op)
additive_sound f.plus = tt
additive_sound f.minus = tt

multiplicative_sound : (op : Multiplicative) → Sound (multiplicative op)
multiplicative_sound f.times = tt
multiplicative_sound f.divided = tt
multiplicative_sound f.modulo = tt

folding_sound : (function : Folded) → Sound (folding function)
folding_sound f.sum = tt
folding_sound f.least = tt
folding_sound f.greatest = tt

uniting_sound : (kind : United) → Sound (uniting kind)
uniting_sound f.union = tt
uniting_sound f.except = tt

-- the words of a join, its source and its condition
joining_sound : (kind : Joined) (p : Plan (symbol n.Source)) (on : Plan (symbol n.Expr)) → Sound p → Sound on → Sound (joining kind p on)
joining_sound f.inner p on left right = (tt, (left, (tt, right)))
joining_sound f.left p on left right = (tt, (tt, (left, (tt, right))))
joining_sound f.right p on left right = ((tt, tt), (left, (tt, right)))
joining_sound f.full p on left right = ((tt, tt), (left, (tt, right)))

kind_sound : (k : Kind) → Sound (kind_word k)
kind_sound kinds.Integer = tt
kind_sound kinds.Text = tt
kind_sound kinds.Boolean = tt

truth_literal_sound : (truth : Bool) → Sound (truth_literal truth)
truth_literal_sound true = tt
truth_literal_sound false = tt

-- ---- names and numbers

number_stands : (number : ℕ) → FitsNumber number → CanStand (number_token number)
number_stands number fits = ((number, fits, refl), IsUtf8-nil)

reference_sound : (form : ColumnForm) → FitsColumn form → Sound (reference_to form)
reference_sound (f.bare name) utf8 = (refl, utf8)
reference_sound (f.in_item item name) utf8 = ((refl, utf8.0), (tt, (refl, utf8.1)))

group_sound : (form : ColumnForm) → FitsColumn form → Sound (group_column form)
group_sound (f.bare name) utf8 = (refl, utf8)
group_sound (f.in_item item name) utf8 = ((refl, utf8.0), (tt, (refl, utf8.1)))

more_groups_sound : (forms : List ColumnForm) → AllByRecursion FitsColumn forms → Sound (more_groups forms)
more_groups_sound [] fit = tt
more_groups_sound (form ∷ forms) fit = ((tt, group_sound form fit.0), more_groups_sound forms fit.1)

groups_sound : (forms : List ColumnForm) → AllByRecursion FitsColumn forms → Sound (grouped forms)
groups_sound [] fit = tt
groups_sound (form ∷ forms) fit = (tt, (tt, (group_sound form fit.0, more_groups_sound forms fit.1)))

more_keys_sound : (forms : List KeyForm) → AllByRecursion FitsKey forms → Sound (more_keys forms)
more_keys_sound [] fit = tt
more_keys_sound (form ∷ forms) fit = ((tt, (number_stands form.position fit.0, direction_sound form.descending)), more_keys_sound forms fit.1)

keys_sound : (forms : List KeyForm) → AllByRecursion FitsKey forms → Sound (ordered forms)
keys_sound [] fit = tt
keys_sound (form ∷ forms) fit = (tt, (tt, ((number_stands form.position fit.0, direction_sound form.descending), more_keys_sound forms fit.1)))

limit_sound : (number : Option ℕ) → FitsLimit number → Sound (limited number)
limit_sound None fits = tt
limit_sound (Some number) fits = (tt, number_stands number fits)

-- ---- expressions and queries

mutual
  expr_sound : (form : ExprForm) → FitsExpr form → Sound (plan.expr form)
  expr_sound (f.column form) fit = reference_sound form fit
  expr_sound (f.integer number) fit = number_stands number fit
  expr_sound (f.text spelled) fit = (refl, fit)
  expr_sound (f.truth truth) fit = truth_literal_sound truth
  expr_sound (f.null kind) fit = (tt, (tt, ((tt, (tt, kind_sound kind)), tt)))
  expr_sound (f.enclosed form) fit = (tt, (compound_sound form fit, tt))
  expr_sound (f.case a b more c) fit =
      (tt, ((tt, (expr_sound a fit.0, (tt, expr_sound b fit.1))), (arms_sound more fit.2, ((tt, expr_sound c fit.3), tt))))
  expr_sound (f.coalesce a more) fit = (tt, (tt, ((expr_sound a fit.0, commas_sound more fit.1), tt)))
  expr_sound (f.null_if a b) fit = (tt, (tt, ((expr_sound a fit.0, (tt, expr_sound b fit.1)), tt)))
  expr_sound f.count_rows fit = (tt, (tt, (tt, tt)))
  expr_sound (f.count a) fit = (tt, (tt, (expr_sound a fit, tt)))
  expr_sound (f.count_distinct a) fit = (tt, (tt, ((tt, expr_sound a fit), tt)))
  expr_sound (f.folded function a) fit = (folding_sound function, (tt, (expr_sound a fit, tt)))
  expr_sound (f.exists q) fit = (tt, (tt, (nested_sound q fit, tt)))
  expr_sound (f.scalar q) fit = (tt, (nested_sound q fit, tt))

  compound_sound : (form : CompoundForm) → FitsCompound form → Sound (plan.compound form)
  compound_sound (f.negative a) fit = (tt, expr_sound a fit)
  compound_sound (f.added a op b more) fit = (expr_sound a fit.0, ((additive_sound op, expr_sound b fit.1), terms_sound more fit.2))
  compound_sound (f.multiplied a op b more) fit =
      (expr_sound a fit.0, ((multiplicative_sound op, expr_sound b fit.1), factors_sound more fit.2))
  compound_sound (f.compared op a b) fit = (expr_sound a fit.0, (comparison_sound op, expr_sound b fit.1))
  compound_sound (f.like negated a b) fit = (expr_sound a fit.0, (not_sound negated, (tt, expr_sound b fit.1)))
  compound_sound (f.between negated a b c) fit =
      (expr_sound a fit.0, (not_sound negated, (tt, (expr_sound b fit.1, (tt, expr_sound c fit.2)))))
  compound_sound (f.in_list negated a b more) fit =
      (expr_sound a fit.0, (not_sound negated, (tt, (tt, ((expr_sound b fit.1, commas_sound more fit.2), tt)))))
  compound_sound (f.in_query negated a q) fit = (expr_sound a fit.0, (not_sound negated, (tt, (tt, (nested_sound q fit.1, tt)))))
  compound_sound (f.any op a q) fit = (expr_sound a fit.0, (comparison_sound op, (tt, (tt, (nested_sound q fit.1, tt)))))
  compound_sound (f.all op a q) fit = (expr_sound a fit.0, (comparison_sound op, (tt, (tt, (nested_sound q fit.1, tt)))))
  compound_sound (f.is_null negated a) fit = (expr_sound a fit, (tt, (not_sound negated, tt)))
  compound_sound (f.is_truth negated truth a) fit = (expr_sound a fit, (tt, (not_sound negated, truth_sound truth)))
  compound_sound (f.is_distinct negated a b) fit =
      (expr_sound a fit.0, (tt, (not_sound negated, (tt, (tt, expr_sound b fit.1)))))
  compound_sound (f.negated a) fit = (tt, expr_sound a fit)
  compound_sound (f.each_of a b more) fit = (expr_sound a fit.0, ((tt, expr_sound b fit.1), ands_sound more fit.2))
  compound_sound (f.one_of a b more) fit = (expr_sound a fit.0, ((tt, expr_sound b fit.1), ors_sound more fit.2))

  commas_sound : (forms : ExprForms) → FitsExprs forms → Sound (plan.behind_commas forms)
  commas_sound f.no_exprs fit = tt
  commas_sound (f.an_expr a more) fit = ((tt, expr_sound a fit.0), commas_sound more fit.1)

  ands_sound : (forms : ExprForms) → FitsExprs forms → Sound (plan.behind_ands forms)
  ands_sound f.no_exprs fit = tt
  ands_sound (f.an_expr a more) fit = ((tt, expr_sound a fit.0), ands_sound more fit.1)

  ors_sound : (forms : ExprForms) → FitsExprs forms → Sound (plan.behind_ors forms)
  ors_sound f.no_exprs fit = tt
  ors_sound (f.an_expr a more) fit = ((tt, expr_sound a fit.0), ors_sound more fit.1)

  terms_sound : (forms : SumForms) → FitsTerms forms → Sound (plan.terms forms)
  terms_sound f.no_terms fit = tt
  terms_sound (f.a_term op a more) fit = ((additive_sound op, expr_sound a fit.0), terms_sound more fit.1)

  factors_sound : (forms : ProductForms) → FitsFactors forms → Sound (plan.factors forms)
  factors_sound f.no_factors fit = tt
  factors_sound (f.a_factor op a more) fit = ((multiplicative_sound op, expr_sound a fit.0), factors_sound more fit.1)

  arms_sound : (forms : ArmForms) → FitsArms forms → Sound (plan.arms forms)
  arms_sound f.no_arms fit = tt
  arms_sound (f.an_arm a b more) fit = ((tt, (expr_sound a fit.0, (tt, expr_sound b fit.1))), arms_sound more fit.2)

  items_sound : (forms : ItemForms) → FitsItems forms → Sound (plan.items forms)
  items_sound f.no_items fit = tt
  items_sound (f.an_item a name more) fit = ((tt, (expr_sound a fit.0, (tt, (refl, fit.1)))), items_sound more fit.2)

  source_sound : (form : SourceForm) → FitsSource form → Sound (plan.source form)
  source_sound (f.table name) fit = (refl, fit)
  source_sound (f.table_as name other) fit = ((refl, fit.0), (tt, (refl, fit.1)))
  source_sound (f.subquery q name) fit = (tt, (query_sound q fit.0, (tt, (tt, (refl, fit.1)))))

  joins_sound : (forms : JoinForms) → FitsJoins forms → Sound (plan.joins forms)
  joins_sound f.no_joins fit = tt
  joins_sound (f.a_join kind right on more) fit =
      (joining_sound kind (plan.source right) (expression (plan.expr on)) (source_sound right fit.0) (expr_sound on fit.1), joins_sound more fit.2)
  joins_sound (f.a_lateral false q name more) fit =
      ((tt, (tt, (tt, (tt, (query_sound q fit.0, (tt, (tt, (refl, fit.1)))))))), joins_sound more fit.2)
  joins_sound (f.a_lateral true q name more) fit =
      ((tt, (tt, ((tt, (tt, (query_sound q fit.0, (tt, (tt, (refl, fit.1)))))), (tt, tt)))), joins_sound more fit.2)

  sources_sound : (form : FromForm) → FitsFrom form → Sound (plan.sources form)
  sources_sound f.no_from fit = tt
  sources_sound (f.from left more) fit = (tt, (source_sound left fit.0, joins_sound more fit.1))

  where_sound : (form : ConditionForm) → FitsCondition form → Sound (plan.where_clause form)
  where_sound f.no_condition fit = tt
  where_sound (f.condition a) fit = (tt, expr_sound a fit)

  having_sound : (form : ConditionForm) → FitsCondition form → Sound (plan.having_clause form)
  having_sound f.no_condition fit = tt
  having_sound (f.condition a) fit = (tt, expr_sound a fit)

  core_sound : (form : CoreForm) → FitsCore form → Sound (plan.core form)
  core_sound (f.select distinct a name more origin test groups having) fit = (
    tt,
    (
      distinct_sound distinct,
      (
        ((expr_sound a fit.0, (tt, (refl, fit.1))), items_sound more fit.2),
        (sources_sound origin fit.3, (where_sound test fit.4, (groups_sound groups fit.5, having_sound having fit.6))),
      ),
    ),
  )

  unions_sound : (forms : UnionForms) → FitsUnions forms → Sound (plan.unions forms)
  unions_sound f.no_unions fit = tt
  unions_sound (f.a_union kind every right more) fit = ((uniting_sound kind, (all_sound every, core_sound right fit.0)), unions_sound more fit.1)

  intersects_sound : (forms : IntersectForms) → FitsIntersects forms → Sound (plan.intersects forms)
  intersects_sound f.no_intersects fit = tt
  intersects_sound (f.an_intersect every right more) fit = ((tt, (all_sound every, core_sound right fit.0)), intersects_sound more fit.1)

  pub query_sound : (form : QueryForm) → FitsQuery form → Sound (plan.query form)
  query_sound (f.one first keys number) fit = (core_sound first fit.0, (tt, (tt, (keys_sound keys fit.1.0, limit_sound number fit.1.1))))
  query_sound (f.united first kind every right more keys number) fit = (
    core_sound first fit.0,
    (
      tt,
      (
        ((uniting_sound kind, (all_sound every, core_sound right fit.1)), unions_sound more fit.2),
        (keys_sound keys fit.3.0, limit_sound number fit.3.1),
      ),
    ),
  )
  query_sound (f.intersected first every right more keys number) fit = (
    core_sound first fit.0,
    (
      ((tt, (all_sound every, core_sound right fit.1)), intersects_sound more fit.2),
      (tt, (keys_sound keys fit.3.0, limit_sound number fit.3.1)),
    ),
  )

  nested_sound : (form : QueryForm) → FitsQuery form → Sound (plan.nested form)
  nested_sound (f.one first keys number) fit = (core_sound first fit.0, (tt, (tt, (keys_sound keys fit.1.0, limit_sound number fit.1.1))))
  nested_sound (f.united first kind every right more keys number) fit = (
    core_sound first fit.0,
    (
      tt,
      (
        ((uniting_sound kind, (all_sound every, core_sound right fit.1)), unions_sound more fit.2),
        (keys_sound keys fit.3.0, limit_sound number fit.3.1),
      ),
    ),
  )
  nested_sound (f.intersected first every right more keys number) fit = (
    core_sound first fit.0,
    (
      ((tt, (all_sound every, core_sound right fit.1)), intersects_sound more fit.2),
      (tt, (keys_sound keys fit.3.0, limit_sound number fit.3.1)),
    ),
  )
