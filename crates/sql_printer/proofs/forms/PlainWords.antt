-- No word of a form's plan is PROVENANCE or BASERELATION.
use Rattle.std.proofs.Common.{◌≡◌, ℕ, ℤ, suc, Bool, true, false, not, ◌||◌, ◌&&◌, List, [], ◌∷◌, ◌++◌, Option, Some, None, refl, sym, ap, subst, ◌∙◌}
use Rattle.std.specs.List.{AllByRecursion, list_all}
use Rattle.null_logic.specs.declared.compare.Compare.{Compare}
use Rattle.null_logic.specs.declared.compare.Compare.TheVariants as compare
use Rattle.null_logic.specs.declared.truth.Truth.{Truth}
use Rattle.null_logic.specs.declared.truth.Truth.TheVariants as truths
use Rattle.perm_values.specs.declared.kind.Kind.{Kind}
use Rattle.perm_values.specs.declared.kind.Kind.TheVariants as kinds
use Rattle.sql_lexer.specs.Printing.{plain_spelled}
use Rattle.sql_lexer.specs.declared.token.Token.{Token}
use Rattle.sql_lexer.specs.declared.token.TokenKind.{TokenKind}
use Rattle.sql_lexer.specs.declared.token.TokenKind.TheVariants.{Word, Quoted, Number, Text, Symbol as Sign}
use Rattle.sql_tree.specs.grammar.Grammar.{SqlRule}
use Rattle.sql_tree.specs.grammar.Rules.{symbol}
use Rattle.sql_tree.specs.grammar.Sorts.{same_sort, sort_by, sort_of}
use Rattle.sql_tree.specs.grammar.Symbols as n
use Rattle.sql_tree.specs.declared.grammar.sort.Sort.{Sort}
use Rattle.sql_tree.specs.declared.grammar.sort.Sort.TheVariants as s
use Rattle.tree_texts.specs.plans.Levels.{expression}
use Rattle.tree_texts.specs.plans.Plans.{Plan, a_word, a_choice, a_token, both, before, behind, first, second, front_first, front_second, absent, present, no_more, one_more, one_last, at_start, as_symbol, tokens_of}
use Rattle.tree_texts.proofs.Written.{sorted}
use Rattle.tree_texts.specs.FormPlans as plan
use Rattle.tree_texts.specs.Forms as f
use Rattle.tree_texts.specs.Forms.{ColumnForm, Additive, Multiplicative, Folded, Joined, United, KeyForm, ExprForm, CompoundForm, ExprForms, SumForms, ProductForms, ArmForms, ItemForms, SourceForm, JoinForms, FromForm, ConditionForm, CoreForm, UnionForms, IntersectForms, QueryForm}
use Rattle.tree_texts.specs.Phrases.{maybe_not, maybe_all, maybe_distinct, direction, comparison, truth_word, additive, multiplicative, folding, uniting, joining, kind_word, reference_to, group_column, more_groups, grouped, truth_literal, more_keys, ordered, limited}
use Rattle.tree_texts.specs.Standing.{Places, Span, at_span, standing}
use Rattle.tree_texts.specs.Texts.{script}
use Rattle.statement_meaning.specs.explains.Explains.{is_plain_word}

-- ---- plans without these words

abbrev PlainSort : Sort → Type 0
PlainSort s.Provenance = ⊥
PlainSort s.BaseRelation = ⊥
PlainSort _ = Unit {0}

abbrev Plain : {rule : SqlRule} → Plan rule → Type 0
Plain (a_word {sort = sort} written) = PlainSort sort
Plain (a_choice {sort = sort} written is) = PlainSort sort
Plain (a_token t is) = PlainSort (sort_of t)
Plain (both p q) = Plain p × Plain q
Plain (before p b) = Plain p
Plain (behind b p) = Plain p
Plain (first p) = Plain p
Plain (second p) = Plain p
Plain (front_first p) = Plain p
Plain (front_second p) = Plain p
Plain absent = Unit {0}
Plain (present p) = Plain p
Plain no_more = Unit {0}
Plain (one_more p q) = Plain p × Plain q
Plain (one_last p) = Plain p
Plain (at_start p) = Plain p
Plain (as_symbol p) = Plain p

-- ---- their tokens

abbrev PlainToken : Token → Type 0
PlainToken t = PlainSort (sort_of t)

word-plain : (sort : Sort) → PlainSort sort → not (same_sort sort s.Provenance || same_sort sort s.BaseRelation) ≡ true
unfolding same_sort
word-plain s.Provenance p = absurd p
word-plain s.BaseRelation p = absurd p
word-plain _ p = refl

kind-plain : (kind : TokenKind) (spelled : List ℕ) (number : ℤ) → PlainSort (sort_by kind spelled) → PlainSort (sort_by kind (plain_spelled kind spelled number))
kind-plain Word spelled number p = p
kind-plain Quoted spelled number p = p
kind-plain Number spelled number p = p
kind-plain Text spelled number p = p
kind-plain Sign spelled number p = p

token-plain : (span : Span) (t : Token) → PlainToken t → is_plain_word (at_span span t) ≡ true
token-plain span t p = word-plain (sort_of (at_span span t)) (kind-plain t.kind t.spelled t.number p)

tokens-plain : (places : Places) (i : ℕ) (tokens : List Token) → AllByRecursion PlainToken tokens → list_all is_plain_word (standing places i tokens) ≡ true
tokens-plain places i [] p = refl
tokens-plain places i (t ∷ tokens) p =
    ap (λ b. b && list_all is_plain_word (standing places (suc i) tokens)) (token-plain (places i) t p.0) ∙ tokens-plain places (suc i) tokens p.1

append-plain : (us vs : List Token) → AllByRecursion PlainToken us → AllByRecursion PlainToken vs → AllByRecursion PlainToken (us ++ vs)
append-plain [] vs p q = q
append-plain (t ∷ us) vs p q = (p.0, append-plain us vs p.1 q)

plan-plain : {rule : SqlRule} (p : Plan rule) → Plain p → AllByRecursion PlainToken (tokens_of p)
plan-plain (a_word {sort = sort} written) q = (subst PlainSort (sym (sorted sort written)) q, tt)
plan-plain (a_choice {sort = sort} written is) q = (subst PlainSort (sym (sorted sort written)) q, tt)
plan-plain (a_token t is) q = (q, tt)
plan-plain (both p r) q = append-plain (tokens_of p) (tokens_of r) (plan-plain p q.0) (plan-plain r q.1)
plan-plain (before p b) q = plan-plain p q
plan-plain (behind b p) q = plan-plain p q
plan-plain (first p) q = plan-plain p q
plan-plain (second p) q = plan-plain p q
plan-plain (front_first p) q = plan-plain p q
plan-plain (front_second p) q = plan-plain p q
plan-plain absent q = tt
plan-plain (present p) q = plan-plain p q
plan-plain no_more q = tt
plan-plain (one_more p r) q = append-plain (tokens_of p) (tokens_of r) (plan-plain p q.0) (plan-plain r q.1)
plan-plain (one_last p) q = plan-plain p q
plan-plain (at_start p) q = plan-plain p q
plan-plain (as_symbol p) q = plan-plain p q

-- ---- words that a form chooses

not_plain : (b : Bool) → Plain (maybe_not b)
not_plain true = tt
not_plain false = tt

all_plain : (b : Bool) → Plain (maybe_all b)
all_plain true = tt
all_plain false = tt

distinct_plain : (b : Bool) → Plain (maybe_distinct b)
distinct_plain true = tt
distinct_plain false = tt

direction_plain : (b : Bool) → Plain (direction b)
direction_plain true = tt
direction_plain false = tt

comparison_plain : (op : Compare) → Plain (comparison op)
comparison_plain compare.Equal = tt
comparison_plain compare.NotEqual = tt
comparison_plain compare.Less = tt
comparison_plain compare.LessEqual = tt
comparison_plain compare.Greater = tt
comparison_plain compare.GreaterEqual = tt

truth_plain : (truth : Truth) → Plain (truth_word truth)
truth_plain truths.True = tt
truth_plain truths.False = tt
truth_plain truths.Unknown = tt

additive_plain : (op : Additive) → Plain (additive op)
additive_plain f.plus = tt
additive_plain f.minus = tt

multiplicative_plain : (op : Multiplicative) → Plain (multiplicative op)
multiplicative_plain f.times = tt
multiplicative_plain f.divided = tt
multiplicative_plain f.modulo = tt

folding_plain : (function : Folded) → Plain (folding function)
folding_plain f.sum = tt
folding_plain f.least = tt
folding_plain f.greatest = tt

uniting_plain : (kind : United) → Plain (uniting kind)
uniting_plain f.union = tt
uniting_plain f.except = tt

-- the words of a join, its source and its condition
joining_plain : (kind : Joined) (p : Plan (symbol n.Source)) (on : Plan (symbol n.Expr)) → Plain p → Plain on → Plain (joining kind p on)
joining_plain f.inner p on left right = (tt, (left, (tt, right)))
joining_plain f.left p on left right = (tt, (tt, (left, (tt, right))))
joining_plain f.right p on left right = ((tt, tt), (left, (tt, right)))
joining_plain f.full p on left right = ((tt, tt), (left, (tt, right)))

kind_plain : (k : Kind) → Plain (kind_word k)
kind_plain kinds.Integer = tt
kind_plain kinds.Text = tt
kind_plain kinds.Boolean = tt

truth_literal_plain : (truth : Bool) → Plain (truth_literal truth)
truth_literal_plain true = tt
truth_literal_plain false = tt

-- ---- names and numbers

reference_plain : (form : ColumnForm) → Plain (reference_to form)
reference_plain (f.bare name) = tt
reference_plain (f.in_item item name) = (tt, (tt, tt))

group_plain : (form : ColumnForm) → Plain (group_column form)
group_plain (f.bare name) = tt
group_plain (f.in_item item name) = (tt, (tt, tt))

more_groups_plain : (forms : List ColumnForm) → Plain (more_groups forms)
more_groups_plain [] = tt
more_groups_plain (form ∷ forms) = ((tt, group_plain form), more_groups_plain forms)

groups_plain : (forms : List ColumnForm) → Plain (grouped forms)
groups_plain [] = tt
groups_plain (form ∷ forms) = (tt, (tt, (group_plain form, more_groups_plain forms)))

more_keys_plain : (forms : List KeyForm) → Plain (more_keys forms)
more_keys_plain [] = tt
more_keys_plain (form ∷ forms) = ((tt, (tt, direction_plain form.descending)), more_keys_plain forms)

keys_plain : (forms : List KeyForm) → Plain (ordered forms)
keys_plain [] = tt
keys_plain (form ∷ forms) = (tt, (tt, ((tt, direction_plain form.descending), more_keys_plain forms)))

limit_plain : (number : Option ℕ) → Plain (limited number)
limit_plain None = tt
limit_plain (Some number) = (tt, tt)

-- ---- expressions and queries

mutual
  expr_plain : (form : ExprForm) → Plain (plan.expr form)
  expr_plain (f.column form) = reference_plain form
  expr_plain (f.integer number) = tt
  expr_plain (f.text spelled) = tt
  expr_plain (f.truth truth) = truth_literal_plain truth
  expr_plain (f.null kind) = (tt, (tt, ((tt, (tt, kind_plain kind)), tt)))
  expr_plain (f.enclosed form) = (tt, (compound_plain form, tt))
  expr_plain (f.case a b more c) =
      (tt, ((tt, (expr_plain a, (tt, expr_plain b))), (arms_plain more, ((tt, expr_plain c), tt))))
  expr_plain (f.coalesce a more) = (tt, (tt, ((expr_plain a, commas_plain more), tt)))
  expr_plain (f.null_if a b) = (tt, (tt, ((expr_plain a, (tt, expr_plain b)), tt)))
  expr_plain f.count_rows = (tt, (tt, (tt, tt)))
  expr_plain (f.count a) = (tt, (tt, (expr_plain a, tt)))
  expr_plain (f.count_distinct a) = (tt, (tt, ((tt, expr_plain a), tt)))
  expr_plain (f.folded function a) = (folding_plain function, (tt, (expr_plain a, tt)))
  expr_plain (f.exists q) = (tt, (tt, (nested_plain q, tt)))
  expr_plain (f.scalar q) = (tt, (nested_plain q, tt))

  compound_plain : (form : CompoundForm) → Plain (plan.compound form)
  compound_plain (f.negative a) = (tt, expr_plain a)
  compound_plain (f.added a op b more) = (expr_plain a, ((additive_plain op, expr_plain b), terms_plain more))
  compound_plain (f.multiplied a op b more) =
      (expr_plain a, ((multiplicative_plain op, expr_plain b), factors_plain more))
  compound_plain (f.compared op a b) = (expr_plain a, (comparison_plain op, expr_plain b))
  compound_plain (f.like negated a b) = (expr_plain a, (not_plain negated, (tt, expr_plain b)))
  compound_plain (f.between negated a b c) =
      (expr_plain a, (not_plain negated, (tt, (expr_plain b, (tt, expr_plain c)))))
  compound_plain (f.in_list negated a b more) =
      (expr_plain a, (not_plain negated, (tt, (tt, ((expr_plain b, commas_plain more), tt)))))
  compound_plain (f.in_query negated a q) = (expr_plain a, (not_plain negated, (tt, (tt, (nested_plain q, tt)))))
  compound_plain (f.any op a q) = (expr_plain a, (comparison_plain op, (tt, (tt, (nested_plain q, tt)))))
  compound_plain (f.all op a q) = (expr_plain a, (comparison_plain op, (tt, (tt, (nested_plain q, tt)))))
  compound_plain (f.is_null negated a) = (expr_plain a, (tt, (not_plain negated, tt)))
  compound_plain (f.is_truth negated truth a) = (expr_plain a, (tt, (not_plain negated, truth_plain truth)))
  compound_plain (f.is_distinct negated a b) =
      (expr_plain a, (tt, (not_plain negated, (tt, (tt, expr_plain b)))))
  compound_plain (f.negated a) = (tt, expr_plain a)
  compound_plain (f.each_of a b more) = (expr_plain a, ((tt, expr_plain b), ands_plain more))
  compound_plain (f.one_of a b more) = (expr_plain a, ((tt, expr_plain b), ors_plain more))

  commas_plain : (forms : ExprForms) → Plain (plan.behind_commas forms)
  commas_plain f.no_exprs = tt
  commas_plain (f.an_expr a more) = ((tt, expr_plain a), commas_plain more)

  ands_plain : (forms : ExprForms) → Plain (plan.behind_ands forms)
  ands_plain f.no_exprs = tt
  ands_plain (f.an_expr a more) = ((tt, expr_plain a), ands_plain more)

  ors_plain : (forms : ExprForms) → Plain (plan.behind_ors forms)
  ors_plain f.no_exprs = tt
  ors_plain (f.an_expr a more) = ((tt, expr_plain a), ors_plain more)

  terms_plain : (forms : SumForms) → Plain (plan.terms forms)
  terms_plain f.no_terms = tt
  terms_plain (f.a_term op a more) = ((additive_plain op, expr_plain a), terms_plain more)

  factors_plain : (forms : ProductForms) → Plain (plan.factors forms)
  factors_plain f.no_factors = tt
  factors_plain (f.a_factor op a more) = ((multiplicative_plain op, expr_plain a), factors_plain more)

  arms_plain : (forms : ArmForms) → Plain (plan.arms forms)
  arms_plain f.no_arms = tt
  arms_plain (f.an_arm a b more) = ((tt, (expr_plain a, (tt, expr_plain b))), arms_plain more)

  items_plain : (forms : ItemForms) → Plain (plan.items forms)
  items_plain f.no_items = tt
  items_plain (f.an_item a name more) = ((tt, (expr_plain a, (tt, tt))), items_plain more)

  source_plain : (form : SourceForm) → Plain (plan.source form)
  source_plain (f.table name) = tt
  source_plain (f.table_as name other) = (tt, (tt, tt))
  source_plain (f.subquery q name) = (tt, (query_plain q, (tt, (tt, tt))))

  joins_plain : (forms : JoinForms) → Plain (plan.joins forms)
  joins_plain f.no_joins = tt
  joins_plain (f.a_join kind right on more) =
      (joining_plain kind (plan.source right) (expression (plan.expr on)) (source_plain right) (expr_plain on), joins_plain more)
  joins_plain (f.a_lateral false q name more) =
      ((tt, (tt, (tt, (tt, (query_plain q, (tt, (tt, tt))))))), joins_plain more)
  joins_plain (f.a_lateral true q name more) =
      ((tt, (tt, ((tt, (tt, (query_plain q, (tt, (tt, tt))))), (tt, tt)))), joins_plain more)

  sources_plain : (form : FromForm) → Plain (plan.sources form)
  sources_plain f.no_from = tt
  sources_plain (f.from left more) = (tt, (source_plain left, joins_plain more))

  where_plain : (form : ConditionForm) → Plain (plan.where_clause form)
  where_plain f.no_condition = tt
  where_plain (f.condition a) = (tt, expr_plain a)

  having_plain : (form : ConditionForm) → Plain (plan.having_clause form)
  having_plain f.no_condition = tt
  having_plain (f.condition a) = (tt, expr_plain a)

  core_plain : (form : CoreForm) → Plain (plan.core form)
  core_plain (f.select distinct a name more origin test groups having) = (
    tt,
    (
      distinct_plain distinct,
      (
        ((expr_plain a, (tt, tt)), items_plain more),
        (sources_plain origin, (where_plain test, (groups_plain groups, having_plain having))),
      ),
    ),
  )

  unions_plain : (forms : UnionForms) → Plain (plan.unions forms)
  unions_plain f.no_unions = tt
  unions_plain (f.a_union kind every right more) = ((uniting_plain kind, (all_plain every, core_plain right)), unions_plain more)

  intersects_plain : (forms : IntersectForms) → Plain (plan.intersects forms)
  intersects_plain f.no_intersects = tt
  intersects_plain (f.an_intersect every right more) = ((tt, (all_plain every, core_plain right)), intersects_plain more)

  query_plain : (form : QueryForm) → Plain (plan.query form)
  query_plain (f.one lone keys number) = (core_plain lone, (tt, (tt, (keys_plain keys, limit_plain number))))
  query_plain (f.united lone kind every right more keys number) = (
    core_plain lone,
    (
      tt,
      (
        ((uniting_plain kind, (all_plain every, core_plain right)), unions_plain more),
        (keys_plain keys, limit_plain number),
      ),
    ),
  )
  query_plain (f.intersected lone every right more keys number) = (
    core_plain lone,
    (
      ((tt, (all_plain every, core_plain right)), intersects_plain more),
      (tt, (keys_plain keys, limit_plain number)),
    ),
  )

  nested_plain : (form : QueryForm) → Plain (plan.nested form)
  nested_plain (f.one lone keys number) = (core_plain lone, (tt, (tt, (keys_plain keys, limit_plain number))))
  nested_plain (f.united lone kind every right more keys number) = (
    core_plain lone,
    (
      tt,
      (
        ((uniting_plain kind, (all_plain every, core_plain right)), unions_plain more),
        (keys_plain keys, limit_plain number),
      ),
    ),
  )
  nested_plain (f.intersected lone every right more keys number) = (
    core_plain lone,
    (
      ((tt, (all_plain every, core_plain right)), intersects_plain more),
      (tt, (keys_plain keys, limit_plain number)),
    ),
  )

pub form-plain : (form : QueryForm) (places : Places) → list_all is_plain_word (standing places 0 (tokens_of (script (plan.query form)))) ≡ true
form-plain form places = tokens-plain places 0 (tokens_of (script (plan.query form))) (plan-plain (script (plan.query form)) (query_plain form, tt))
