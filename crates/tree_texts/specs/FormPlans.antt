-- The plan of each form: which rules of the grammar it is spelled by, with which words and names.
use Rattle.std.specs.Prelude.{ℕ, List, refl}
use Rattle.sql_tree.specs.grammar.Rules.{word, ◌then◌, many, symbol}
use Rattle.sql_tree.specs.grammar.Symbols as n
use Rattle.sql_tree.specs.declared.grammar.sort.Sort.TheVariants as s
use Rattle.tree_texts.specs.plans.Blanks.{blank_symbol, left_out, none}
use Rattle.tree_texts.specs.plans.Levels.{a_name, a_number, literal, reference, to_sign, to_product, to_sum, to_compared, to_test, to_both, to_expr, operand, expression, parens}
use Rattle.tree_texts.specs.plans.Plans.{Plan, here, there, a_word, a_choice, both, before, behind, first, second, front_second, absent, present, no_more, one_more, one_last, at_start, as_symbol}
use Rattle.tree_texts.specs.Forms as f
use Rattle.tree_texts.specs.Forms.{ExprForm, CompoundForm, ExprForms, SumForms, ProductForms, ArmForms, ItemForms, SourceForm, JoinForms, FromForm, ConditionForm, CoreForm, UnionForms, IntersectForms, QueryForm}
use Rattle.tree_texts.specs.Phrases.{maybe_not, maybe_distinct, comparison, truth_word, folding, joining, joining_lateral, reference_to, text_literal, truth_literal, typed_null, alias, grouped, enclosing, to_factor, to_term, to_part, sum_step, product_step, behind_and, behind_or, behind_comma, from_sum, from_negated, cast_alone, case_alone, exists_alone, parentheses_alone, count_alone, aggregate_alone, coalesce_alone, null_if_alone, behind_operand, ranging, testing, union_step, intersect_step, resting, whole_query, inner_query}

abbrev pub arm : Plan (symbol n.Primary) → Plan (symbol n.Primary) → Plan (symbol n.Arm)
arm condition value = as_symbol (both (a_word refl) (both (expression condition) (both (a_word refl) (expression value))))

abbrev pub item : Plan (symbol n.Primary) → List ℕ → Plan (symbol n.Item)
item p name = as_symbol (second (front_second (as_symbol (both (expression p) (alias name)))))

abbrev pub next_item : Plan (symbol n.Primary) → List ℕ → Plan (word s.Comma then symbol n.Item)
next_item p name = both (a_word refl) (item p name)

abbrev pub item_list : Plan (symbol n.Item) → Plan (many (word s.Comma then symbol n.Item)) → Plan (symbol n.Items)
item_list p more = as_symbol (both p more)

abbrev mutual
  pub expr : ExprForm → Plan (symbol n.Primary)
  expr (f.column form) = reference (reference_to form)
  expr (f.integer number) = literal (a_number number)
  expr (f.text spelled) = literal (text_literal spelled)
  expr (f.truth value) = literal (truth_literal value)
  expr (f.null kind) = cast_alone (typed_null kind)
  expr (f.enclosed form) = parens (compound form)
  expr (f.case condition value more otherwise) =
      case_alone (as_symbol (both (a_word refl) (both (arm (expr condition) (expr value)) (both (arms more)
      (both (as_symbol (present (both (a_word refl) (expression (expr otherwise))))) (a_word refl))))))
  expr (f.coalesce a more) =
      coalesce_alone (as_symbol (both (a_choice {sort = s.Coalesce} refl here) (first (enclosing (as_symbol (both (expression (expr a)) (behind_commas more)))))))
  expr (f.null_if a b) =
      null_if_alone (as_symbol (both (a_choice {sort = s.NullIf} refl here)
      (first (enclosing (both (expression (expr a)) (both (a_word refl) (expression (expr b))))))))
  expr f.count_rows = count_alone (as_symbol (first (a_choice {sort = s.Star} refl here)))
  expr (f.count a) = count_alone (as_symbol (second (behind left_out (expression (expr a)))))
  expr (f.count_distinct a) = count_alone (as_symbol (second (both (present (a_word refl)) (expression (expr a)))))
  expr (f.folded function a) = aggregate_alone (as_symbol (both (folding function) (first (enclosing (expression (expr a))))))
  expr (f.exists q) = exists_alone (as_symbol (both (a_word refl) (as_symbol (enclosing (nested q)))))
  expr (f.scalar q) = parentheses_alone (as_symbol (enclosing (first (nested q))))

  pub compound : CompoundForm → Plan (symbol n.Expr)
  compound (f.negative a) = from_sum (to_sum (to_product (as_symbol (at_start (both (one_last (a_word refl)) (expr a))))))
  compound (f.added a op b more) =
      from_sum (as_symbol (both (to_factor (expr a)) (one_more (sum_step op (expr b)) (terms more))))
  compound (f.multiplied a op b more) =
      from_sum (to_sum (as_symbol (both (to_sign (expr a)) (one_more (product_step op (expr b)) (factors more)))))
  compound (f.compared op a b) = behind_operand (expr a) (as_symbol (both (comparison op) (second (operand (expr b)))))
  compound (f.like negated a b) = ranging (expr a) negated (as_symbol (first (both (a_word refl) (to_term (expr b)))))
  compound (f.between negated a low high) =
      ranging (expr a) negated (as_symbol (second (first (both (a_word refl) (both (to_term (expr low)) (both (a_word refl) (to_term (expr high))))))))
  compound (f.in_list negated a b more) =
      ranging (expr a) negated (as_symbol (second (second (both (a_word refl)
      (as_symbol (enclosing (second (as_symbol (both (expression (expr b)) (behind_commas more))))))))))
  compound (f.in_query negated a q) =
      ranging (expr a) negated (as_symbol (second (second (both (a_word refl) (as_symbol (enclosing (first (nested q))))))))
  compound (f.any op a q) =
      behind_operand (expr a) (as_symbol (both (comparison op) (first (both (a_choice {sort = s.Any} refl here) (as_symbol (enclosing (nested q)))))))
  compound (f.all op a q) =
      behind_operand (expr a) (as_symbol (both (comparison op) (first (both (a_choice {sort = s.All} refl (there (there here))) (as_symbol (enclosing (nested q)))))))
  compound (f.is_null negated a) = testing (expr a) (as_symbol (both (a_word refl) (both (maybe_not negated) (first (a_choice {sort = s.Null} refl here)))))
  compound (f.is_truth negated truth a) = testing (expr a) (as_symbol (both (a_word refl) (both (maybe_not negated) (second (first (truth_word truth))))))
  compound (f.is_distinct negated a b) =
      testing (expr a) (as_symbol (both (a_word refl) (both (maybe_not negated)
      (second (second (both (a_word refl) (both (a_word refl) (to_compared (operand (expr b))))))))))
  compound (f.negated a) = from_negated (as_symbol (at_start (both (one_last (a_word refl)) (to_test (to_compared (operand (expr a)))))))
  compound (f.each_of a b more) = to_expr (as_symbol (both (to_part (expr a)) (one_more (behind_and (expr b)) (behind_ands more))))
  compound (f.one_of a b more) =
      as_symbol (both (to_both (to_part (expr a))) (one_more (behind_or (expr b)) (behind_ors more)))

  pub behind_commas : ExprForms → Plan (many (word s.Comma then symbol n.Expr))
  behind_commas f.no_exprs = no_more
  behind_commas (f.an_expr a more) = one_more (behind_comma (expr a)) (behind_commas more)

  pub behind_ands : ExprForms → Plan (many (word s.And then symbol n.Negated))
  behind_ands f.no_exprs = no_more
  behind_ands (f.an_expr a more) = one_more (behind_and (expr a)) (behind_ands more)

  pub behind_ors : ExprForms → Plan (many (word s.Or then symbol n.Both))
  behind_ors f.no_exprs = no_more
  behind_ors (f.an_expr a more) = one_more (behind_or (expr a)) (behind_ors more)

  pub terms : SumForms → Plan (many (symbol n.SumStep))
  terms f.no_terms = no_more
  terms (f.a_term op a more) = one_more (sum_step op (expr a)) (terms more)

  pub factors : ProductForms → Plan (many (symbol n.ProductStep))
  factors f.no_factors = no_more
  factors (f.a_factor op a more) = one_more (product_step op (expr a)) (factors more)

  pub arms : ArmForms → Plan (many (symbol n.Arm))
  arms f.no_arms = no_more
  arms (f.an_arm condition value more) = one_more (arm (expr condition) (expr value)) (arms more)

  pub items : ItemForms → Plan (many (word s.Comma then symbol n.Item))
  items f.no_items = no_more
  items (f.an_item a name more) = one_more (next_item (expr a) name) (items more)

  pub source : SourceForm → Plan (symbol n.Source)
  source (f.table name) = as_symbol (before (at_start (as_symbol (first (before (a_name name) (blank_symbol left_out))))) (blank_symbol left_out))
  source (f.table_as name other) = as_symbol (before (at_start (as_symbol (first (both (a_name name) (alias other))))) (blank_symbol left_out))
  source (f.subquery q name) =
      as_symbol (before (at_start (as_symbol (second (both (a_word refl) (both (query q) (both (a_word refl) (both (present (a_word refl)) (a_name name))))))))
      (blank_symbol left_out))

  pub joins : JoinForms → Plan (many (symbol n.Join))
  joins f.no_joins = no_more
  joins (f.a_lateral stays q name more) = one_more (joining_lateral stays (query q) name) (joins more)
  joins (f.a_join kind right on more) =
      one_more (joining kind (source right) (expression (expr on))) (joins more)

  pub sources : FromForm → Plan (symbol n.Sources)
  sources f.no_from = as_symbol absent
  sources (f.from left more) = as_symbol (present (both (a_word refl) (before (as_symbol (both (source left) (joins more))) none)))

  pub where_clause : ConditionForm → Plan (symbol n.Condition)
  where_clause f.no_condition = as_symbol absent
  where_clause (f.condition a) = as_symbol (present (both (a_word refl) (expression (expr a))))

  pub having_clause : ConditionForm → Plan (symbol n.Having)
  having_clause f.no_condition = as_symbol absent
  having_clause (f.condition a) = as_symbol (present (both (a_word refl) (expression (expr a))))

  pub core : CoreForm → Plan (symbol n.CoreOf)
  core (f.select distinct a name more origin test groups having) =
      as_symbol (at_start (both (a_word refl) (behind left_out (both (maybe_distinct distinct) (both (item_list (item (expr a) name) (items more))
      (both (sources origin) (both (where_clause test) (both (grouped groups) (having_clause having)))))))))

  pub unions : UnionForms → Plan (many (symbol n.UnionStep))
  unions f.no_unions = no_more
  unions (f.a_union kind every right more) = one_more (union_step kind every (core right)) (unions more)

  pub intersects : IntersectForms → Plan (many (symbol n.IntersectStep))
  intersects f.no_intersects = no_more
  intersects (f.an_intersect every right more) = one_more (intersect_step every (core right)) (intersects more)

  pub query : QueryForm → Plan (symbol n.Query)
  query (f.one first_core keys number) = whole_query (core first_core) (resting no_more no_more keys number)
  query (f.united first_core kind every right more keys number) =
      whole_query (core first_core) (resting no_more (one_more (union_step kind every (core right)) (unions more)) keys number)
  query (f.intersected first_core every right more keys number) =
      whole_query (core first_core) (resting (one_more (intersect_step every (core right)) (intersects more)) no_more keys number)

  -- a query in parentheses within an expression, which begins with SELECT
  pub nested : QueryForm → Plan (symbol n.Inner)
  nested (f.one first_core keys number) = inner_query (core first_core) (resting no_more no_more keys number)
  nested (f.united first_core kind every right more keys number) =
      inner_query (core first_core) (resting no_more (one_more (union_step kind every (core right)) (unions more)) keys number)
  nested (f.intersected first_core every right more keys number) =
      inner_query (core first_core) (resting (one_more (intersect_step every (core right)) (intersects more)) no_more keys number)
