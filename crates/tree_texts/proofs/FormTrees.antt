-- What the plan of a form gives is a tree of the form, wherever its tokens stand.
use Rattle.std.proofs.Common.{◌≡◌, ℕ, ◌+◌, Bool, true, false, List, [], ◌∷◌, map, Option, Some, None, refl, ap, ap₂, ◌∙◌}
use Rattle.sql_tree.specs.grammar.Building.{lateral}
use Rattle.tree_texts.specs.plans.Levels.{a_name, expression}
use Rattle.tree_texts.specs.plans.Plans.{one_more}
use Rattle.sql_tree.specs.declared.expression.ExprBody.TheVariants as e
use Rattle.sql_tree.specs.declared.expression.ExprTree.{ExprTree}
use Rattle.sql_tree.specs.declared.name.ColRef.{ColRef}
use Rattle.sql_tree.specs.declared.query.Core.{Core, roll-Core}
use Rattle.sql_tree.specs.declared.query.QueryTree.{QueryTree}
use Rattle.sql_tree.specs.declared.query.SelectItem.{SelectItem}
use Rattle.sql_tree.specs.declared.query.SetWord.TheVariants.{Intersect}
use Rattle.sql_tree.specs.declared.source.FromTree.{FromTree}
use Rattle.sql_tree.specs.declared.source.JoinStep.{JoinStep, roll-JoinStep}
use Rattle.tree_texts.specs.FormPlans as plan
use Rattle.tree_texts.specs.Forms as f
use Rattle.tree_texts.specs.Forms.{Additive, Multiplicative, United, ColumnForm, KeyForm, ExprForm, CompoundForm, ExprForms, SumForms, ProductForms, ArmForms, ItemForms, SourceForm, JoinForms, FromForm, ConditionForm, CoreForm, UnionForms, IntersectForms, QueryForm}
use Rattle.tree_texts.specs.Phrases.{maybe_not, maybe_all, maybe_distinct, comparison, additive, multiplicative, folding, uniting, reference_to, group_column, next_group, more_groups, grouped, key, next_key, more_keys, ordered, sum_step, product_step, behind_and, behind_or, behind_comma, joining, lateral_query, joining_lateral, union_step, intersect_step}
use Rattle.tree_texts.specs.Standing.{Places, given, past}
use Rattle.tree_texts.specs.Trees.{IsColumn, bare_tree, in_item_tree, AreColumns, no_column_trees, a_column_tree, AreKeys, no_key_trees, a_key_tree, IsExpr, column_tree, integer_tree, text_tree, truth_tree, null_tree, enclosed_tree, case_tree, coalesce_tree, null_if_tree, count_rows_tree, count_tree, count_distinct_tree, folded_tree, exists_tree, scalar_tree, IsCompound, negative_tree, added_tree, multiplied_tree, compared_tree, like_tree, between_tree, in_list_tree, in_query_tree, any_tree, all_tree, is_null_tree, is_truth_tree, is_distinct_tree, negated_tree, each_of_tree, one_of_tree, AreExprs, no_expr_trees, an_expr_tree, IsTerm, term_tree, AreTerms, no_term_trees, a_term_tree, IsFactor, factor_tree, AreFactors, no_factor_trees, a_factor_tree, AreArms, no_arm_trees, an_arm_tree, IsItem, item_tree, AreItems, no_item_trees, an_item_tree, IsSource, table_tree, table_as_tree, subquery_tree, AreJoins, no_join_trees, a_join_tree, a_lateral_tree, AreSources, no_source_trees, source_trees, IsCondition, no_condition_tree, condition_tree, IsCore, select_tree, IsStep, step_tree, AreUnions, no_union_trees, a_union_tree, AreIntersects, no_intersect_trees, an_intersect_tree, IsQuery, one_tree, united_tree, intersected_tree, set_of}
use Rattle.tree_texts.proofs.Words.{not_is, all_is, distinct_is, direction_is, comparison_is, any_is, every_is, truth_is, additive_is, multiplicative_is, folding_is, uniting_is, right_is, full_is, kind_is, number_is, text_is, truth_literal_is, limit_is}
use Rattle.sql_tree.specs.declared.source.FromItem.{FromItem}
use Rattle.sql_tree.specs.declared.source.JoinWord.{JoinWord}

-- a core whose word DISTINCT says what the form says
core_same : {core : Core} {distinct other : Bool} (at : ℕ) (items : List SelectItem) (sources : List FromTree) (tested : Option ExprTree)
    (columns : List ColRef) (kept : Option ExprTree)
    → core ≡ roll-Core (record {
      at = at;
      provenance = None;
      distinct = other;
      items = items;
      sources = sources;
      condition = tested;
      groups = columns;
      having = kept;
    })
    → other ≡ distinct
    → core ≡ roll-Core (record {
      at = at;
      provenance = None;
      distinct = distinct;
      items = items;
      sources = sources;
      condition = tested;
      groups = columns;
      having = kept;
    })
core_same at items sources tested columns kept same is =
    same ∙ ap (λ d. roll-Core (record {
      at = at;
      provenance = None;
      distinct = d;
      items = items;
      sources = sources;
      condition = tested;
      groups = columns;
      having = kept;
    })) is

abbrev joined_at : JoinWord → FromItem → ExprTree → JoinStep
joined_at word item x = roll-JoinStep (record { word = word; item = item; condition = Some x })

module _ (places : Places) where
  abbrev expr_at : ExprForm → ℕ → ExprTree
  expr_at a i = given places i (plan.expr a)

  abbrev nested_at : QueryForm → ℕ → QueryTree
  nested_at q i = given places i (plan.nested q)

  abbrev exprs_at : ExprForms → ℕ → List ExprTree
  exprs_at more i = map (λ m. m.1) (given places i (plan.behind_commas more))

  -- ---- names and keys

  group_is : (form : ColumnForm) (i : ℕ) → IsColumn form (given places i (group_column form))
  group_is (f.bare name) i = bare_tree refl refl
  group_is (f.in_item item name) i = in_item_tree refl refl refl

  reference_is : (form : ColumnForm) (i : ℕ) → given places i (reference_to form) ≡ e.Column (given places i (group_column form))
  reference_is (f.bare name) i = refl
  reference_is (f.in_item item name) i = refl

  more_groups_are : (forms : List ColumnForm) (i : ℕ) → AreColumns forms (map (λ m. m.1) (given places i (more_groups forms)))
  more_groups_are [] i = no_column_trees
  more_groups_are (form ∷ forms) i = a_column_tree (group_is form (i + 1)) (more_groups_are forms (past i (next_group form)))

  groups_are : (forms : List ColumnForm) (i : ℕ) → AreColumns forms (given places i (grouped forms))
  groups_are [] i = no_column_trees
  groups_are (form ∷ forms) i = a_column_tree (group_is form (i + 1 + 1)) (more_groups_are forms (past (i + 1 + 1) (group_column form)))

  more_keys_are : (forms : List KeyForm) (i : ℕ) → AreKeys forms (map (λ m. m.1) (given places i (more_keys forms)))
  more_keys_are [] i = no_key_trees
  more_keys_are (form ∷ forms) i = a_key_tree refl (direction_is places (i + 1 + 1) form.descending) (more_keys_are forms (past i (next_key form)))

  keys_are : (forms : List KeyForm) (i : ℕ) → AreKeys forms (given places i (ordered forms))
  keys_are [] i = no_key_trees
  keys_are (form ∷ forms) i =
      a_key_tree refl (direction_is places (i + 1 + 1 + 1) form.descending) (more_keys_are forms (past (i + 1 + 1) (key form)))

  -- ---- parts, where what they are made of is a tree of its form

  term_at : (op : Additive) (a : ExprForm) (i : ℕ) → IsExpr a (expr_at a (past i (additive op))) → IsTerm op a (given places i (sum_step op (plan.expr a)))
  term_at op a i is = term_tree (additive_is places i op) is

  factor_at : (op : Multiplicative) (a : ExprForm) (i : ℕ) → IsExpr a (expr_at a (past i (multiplicative op)))
      → IsFactor op a (given places i (product_step op (plan.expr a)))
  factor_at op a i is = factor_tree (multiplicative_is places i op) is

  item_at : (a : ExprForm) (name : List ℕ) (i : ℕ) → IsExpr a (expr_at a i) → IsItem a name (given places i (plan.item (plan.expr a) name))
  item_at a name i is = item_tree (given places (past i (plan.expr a) + 1) (a_name name)) is refl refl

  union_at : (kind : United) (every : Bool) (right : CoreForm) (i : ℕ)
      → IsCore right (given places (past (past i (uniting kind)) (maybe_all every)) (plan.core right))
      → IsStep (set_of kind) every right (given places i (union_step kind every (plan.core right)))
  union_at kind every right i is = step_tree is (uniting_is places i kind) (all_is places (past i (uniting kind)) every) refl

  intersect_at : (every : Bool) (right : CoreForm) (i : ℕ) → IsCore right (given places (past (i + 1) (maybe_all every)) (plan.core right))
      → IsStep Intersect every right (given places i (intersect_step every (plan.core right)))
  intersect_at every right i is = step_tree is refl (all_is places (i + 1) every) refl

  one_at : (first : CoreForm) (keys : List KeyForm) (number : Option ℕ) (i : ℕ) → IsCore first (given places i (plan.core first))
      → IsQuery (f.one first keys number) (given places i (plan.query (f.one first keys number)))
  one_at first keys number i is =
      let behind = past i (plan.core first) + 0 + 0 in
      one_tree is refl (keys_are keys behind) (limit_is places (past behind (ordered keys)) number)

  united_at : (first : CoreForm) (kind : United) (every : Bool) (right : CoreForm) (more : UnionForms) (keys : List KeyForm) (number : Option ℕ) (i : ℕ)
      → IsCore first (given places i (plan.core first))
      → IsCore right (given places (past (past (past i (plan.core first) + 0) (uniting kind)) (maybe_all every)) (plan.core right))
      → AreUnions more (given places (past (past i (plan.core first) + 0) (union_step kind every (plan.core right))) (plan.unions more))
      → IsQuery (f.united first kind every right more keys number) (given places i (plan.query (f.united first kind every right more keys number)))
  united_at first kind every right more keys number i is other_is are =
      let k = past i (plan.core first) + 0 in
      let behind = past k (one_more (union_step kind every (plan.core right)) (plan.unions more)) in
      united_tree is (union_at kind every right k other_is) are refl (keys_are keys behind) (limit_is places (past behind (ordered keys)) number)

  intersected_at : (first : CoreForm) (every : Bool) (right : CoreForm) (more : IntersectForms) (keys : List KeyForm) (number : Option ℕ) (i : ℕ)
      → IsCore first (given places i (plan.core first))
      → IsCore right (given places (past (past i (plan.core first) + 1) (maybe_all every)) (plan.core right))
      → AreIntersects more (given places (past (past i (plan.core first)) (intersect_step every (plan.core right))) (plan.intersects more))
      → IsQuery (f.intersected first every right more keys number) (given places i (plan.query (f.intersected first every right more keys number)))
  intersected_at first every right more keys number i is other_is are =
      let k = past i (plan.core first) in
      let behind = past k (one_more (intersect_step every (plan.core right)) (plan.intersects more)) + 0 in
      intersected_tree is (intersect_at every right k other_is) are refl (keys_are keys behind) (limit_is places (past behind (ordered keys)) number)

  -- ---- expressions and queries

  mutual
    pub expr_is : (form : ExprForm) (i : ℕ) → IsExpr form (given places i (plan.expr form))
    expr_is (f.column form) i = column_tree (group_is form i) (reference_is form i)
    expr_is (f.integer number) i = integer_tree (number_is places i number)
    expr_is (f.text spelled) i = text_tree (text_is places i spelled)
    expr_is (f.truth truth) i = truth_tree (truth_literal_is places i truth)
    expr_is (f.null kind) i = null_tree (ap (λ k. e.NullOf k) (kind_is places (i + 1 + 1 + 1 + 1) kind))
    expr_is (f.enclosed form) i = enclosed_tree (compound_is form (i + 1)) refl
    expr_is (f.case a b more c) i =
        let behind = past (i + 1) (plan.arm (plan.expr a) (plan.expr b)) in
        case_tree {arm = given places (i + 1) (plan.arm (plan.expr a) (plan.expr b))}
        (expr_is a (i + 1 + 1)) (expr_is b (past (i + 1 + 1) (plan.expr a) + 1)) (arms_are more behind) (expr_is c (past behind (plan.arms more) + 1)) refl
    expr_is (f.coalesce a more) i = coalesce_tree (expr_is a (i + 1 + 1)) (commas_are more (past (i + 1 + 1) (plan.expr a))) refl
    expr_is (f.null_if a b) i = null_if_tree (expr_is a (i + 1 + 1)) (expr_is b (past (i + 1 + 1) (plan.expr a) + 1)) refl
    expr_is f.count_rows i = count_rows_tree refl
    expr_is (f.count a) i = count_tree (expr_is a (i + 1 + 1)) refl
    expr_is (f.count_distinct a) i = count_distinct_tree (expr_is a (i + 1 + 1 + 1)) refl
    expr_is (f.folded function a) i =
        let j = past i (folding function) + 1 in
        folded_tree (expr_is a j) (ap (λ w. e.Aggregate w (Some (expr_at a j))) (folding_is places i function))
    expr_is (f.exists q) i = exists_tree (nested_is q (i + 1 + 1)) refl
    expr_is (f.scalar q) i = scalar_tree (nested_is q (i + 1)) refl

    compound_is : (form : CompoundForm) (i : ℕ) → IsCompound form (given places i (plan.compound form))
    compound_is (f.negative a) i = negative_tree (expr_is a (i + 1)) refl
    compound_is (f.added a op b more) i =
        let j = past i (plan.expr a) in
        added_tree (expr_is a i) (term_at op b j (expr_is b (past j (additive op)))) (terms_are more (past j (sum_step op (plan.expr b)))) refl
    compound_is (f.multiplied a op b more) i =
        let j = past i (plan.expr a) in
        multiplied_tree (expr_is a i) (factor_at op b j (expr_is b (past j (multiplicative op)))) (factors_are more (past j (product_step op (plan.expr b)))) refl
    compound_is (f.compared op a b) i =
        let j = past i (plan.expr a) in
        let k = past j (comparison op) in
        compared_tree (expr_is a i) (expr_is b k) (ap (λ o. e.Compared o (expr_at a i) (expr_at b k)) (comparison_is places j op))
    compound_is (f.like negated a b) i =
        let j = past i (plan.expr a) in
        let k = past j (maybe_not negated) + 1 in
        like_tree (expr_is a i) (expr_is b k) (ap (λ n. e.Like n (expr_at a i) (expr_at b k)) (not_is places j negated))
    compound_is (f.between negated a b c) i =
        let j = past i (plan.expr a) in
        let k = past j (maybe_not negated) + 1 in
        let l = past k (plan.expr b) + 1 in
        between_tree (expr_is a i) (expr_is b k) (expr_is c l) (ap (λ n. e.Between n (expr_at a i) (expr_at b k) (expr_at c l)) (not_is places j negated))
    compound_is (f.in_list negated a b more) i =
        let j = past i (plan.expr a) in
        let k = past j (maybe_not negated) + 1 + 1 in
        let l = past k (plan.expr b) in
        in_list_tree (expr_is a i) (expr_is b k) (commas_are more l)
        (ap (λ n. e.InList n (expr_at a i) (expr_at b k ∷ exprs_at more l)) (not_is places j negated))
    compound_is (f.in_query negated a q) i =
        let j = past i (plan.expr a) in
        let k = past j (maybe_not negated) + 1 + 1 in
        in_query_tree (expr_is a i) (nested_is q k) (ap (λ n. e.InQuery n (expr_at a i) (nested_at q k)) (not_is places j negated))
    compound_is (f.any op a q) i =
        let j = past i (plan.expr a) in
        let k = past j (comparison op) in
        any_tree (expr_is a i) (nested_is q (k + 1 + 1))
        (ap₂ (λ every o. e.Quantified every o (expr_at a i) (nested_at q (k + 1 + 1))) (any_is places k) (comparison_is places j op))
    compound_is (f.all op a q) i =
        let j = past i (plan.expr a) in
        let k = past j (comparison op) in
        all_tree (expr_is a i) (nested_is q (k + 1 + 1))
        (ap₂ (λ every o. e.Quantified every o (expr_at a i) (nested_at q (k + 1 + 1))) (every_is places k) (comparison_is places j op))
    compound_is (f.is_null negated a) i =
        is_null_tree (expr_is a i) (ap (λ n. e.IsNull n (expr_at a i)) (not_is places (past i (plan.expr a) + 1) negated))
    compound_is (f.is_truth negated truth a) i =
        let j = past i (plan.expr a) + 1 in
        is_truth_tree (expr_is a i)
        (ap₂ (λ n t. e.IsTruth n t (expr_at a i)) (not_is places j negated) (truth_is places (past j (maybe_not negated)) truth))
    compound_is (f.is_distinct negated a b) i =
        let j = past i (plan.expr a) + 1 in
        let k = past j (maybe_not negated) + 1 + 1 in
        is_distinct_tree (expr_is a i) (expr_is b k) (ap (λ n. e.IsDistinct n (expr_at a i) (expr_at b k)) (not_is places j negated))
    compound_is (f.negated a) i = negated_tree (expr_is a (i + 1)) refl
    compound_is (f.each_of a b more) i =
        let j = past i (plan.expr a) in
        each_of_tree (expr_is a i) (expr_is b (j + 1)) (ands_are more (past j (behind_and (plan.expr b)))) refl
    compound_is (f.one_of a b more) i =
        let j = past i (plan.expr a) in
        one_of_tree (expr_is a i) (expr_is b (j + 1)) (ors_are more (past j (behind_or (plan.expr b)))) refl

    commas_are : (forms : ExprForms) (i : ℕ) → AreExprs forms (map (λ m. m.1) (given places i (plan.behind_commas forms)))
    commas_are f.no_exprs i = no_expr_trees
    commas_are (f.an_expr a more) i = an_expr_tree (expr_is a (i + 1)) (commas_are more (past i (behind_comma (plan.expr a))))

    ands_are : (forms : ExprForms) (i : ℕ) → AreExprs forms (map (λ m. m.1) (given places i (plan.behind_ands forms)))
    ands_are f.no_exprs i = no_expr_trees
    ands_are (f.an_expr a more) i = an_expr_tree (expr_is a (i + 1)) (ands_are more (past i (behind_and (plan.expr a))))

    ors_are : (forms : ExprForms) (i : ℕ) → AreExprs forms (map (λ m. m.1) (given places i (plan.behind_ors forms)))
    ors_are f.no_exprs i = no_expr_trees
    ors_are (f.an_expr a more) i = an_expr_tree (expr_is a (i + 1)) (ors_are more (past i (behind_or (plan.expr a))))

    terms_are : (forms : SumForms) (i : ℕ) → AreTerms forms (given places i (plan.terms forms))
    terms_are f.no_terms i = no_term_trees
    terms_are (f.a_term op a more) i =
        a_term_tree (term_at op a i (expr_is a (past i (additive op)))) (terms_are more (past i (sum_step op (plan.expr a))))

    factors_are : (forms : ProductForms) (i : ℕ) → AreFactors forms (given places i (plan.factors forms))
    factors_are f.no_factors i = no_factor_trees
    factors_are (f.a_factor op a more) i =
        a_factor_tree (factor_at op a i (expr_is a (past i (multiplicative op)))) (factors_are more (past i (product_step op (plan.expr a))))

    arms_are : (forms : ArmForms) (i : ℕ) → AreArms forms (given places i (plan.arms forms))
    arms_are f.no_arms i = no_arm_trees
    arms_are (f.an_arm a b more) i =
        an_arm_tree (expr_is a (i + 1)) (expr_is b (past (i + 1) (plan.expr a) + 1)) (arms_are more (past i (plan.arm (plan.expr a) (plan.expr b))))

    items_are : (forms : ItemForms) (i : ℕ) → AreItems forms (map (λ m. m.1) (given places i (plan.items forms)))
    items_are f.no_items i = no_item_trees
    items_are (f.an_item a name more) i =
        an_item_tree (item_at a name (i + 1) (expr_is a (i + 1))) (items_are more (past i (plan.next_item (plan.expr a) name)))

    source_is : (form : SourceForm) (i : ℕ) → IsSource form (given places i (plan.source form))
    source_is (f.table name) i = table_tree (given places i (a_name name)) refl refl refl refl
    source_is (f.table_as name other) i = table_as_tree (given places i (a_name name)) refl refl refl refl refl
    source_is (f.subquery q name) i = subquery_tree (query_is q (i + 1)) refl refl refl refl

    joins_are : (forms : JoinForms) (i : ℕ) → AreJoins forms (given places i (plan.joins forms))
    joins_are f.no_joins i = no_join_trees
    joins_are (f.a_join f.inner right on more) i =
        a_join_tree (source_is right (i + 1)) (expr_is on (past (i + 1) (plan.source right) + 1)) refl
        (joins_are more (past i (joining f.inner (plan.source right) (expression (plan.expr on)))))
    joins_are (f.a_join f.left right on more) i =
        a_join_tree (source_is right (i + 1 + 1)) (expr_is on (past (i + 1 + 1) (plan.source right) + 1)) refl
        (joins_are more (past i (joining f.left (plan.source right) (expression (plan.expr on)))))
    joins_are (f.a_join f.right right on more) i =
        let j = past (i + 2) (plan.source right) + 1 in
        a_join_tree (source_is right (i + 2)) (expr_is on j) (ap (λ w. joined_at w (given places (i + 2) (plan.source right)) (expr_at on j)) (right_is places i))
        (joins_are more (past i (joining f.right (plan.source right) (expression (plan.expr on)))))
    joins_are (f.a_join f.full right on more) i =
        let j = past (i + 2) (plan.source right) + 1 in
        a_join_tree (source_is right (i + 2)) (expr_is on j) (ap (λ w. joined_at w (given places (i + 2) (plan.source right)) (expr_at on j)) (full_is places i))
        (joins_are more (past i (joining f.full (plan.source right) (expression (plan.expr on)))))
    joins_are (f.a_lateral false q name more) i =
        a_lateral_tree (lateral (given places (i + 1 + 1) (lateral_query (plan.query q) name))) refl (query_is q (i + 1 + 1 + 1 + 1)) refl refl refl refl
        (joins_are more (past i (joining_lateral false (plan.query q) name)))
    joins_are (f.a_lateral true q name more) i =
        a_lateral_tree (lateral (given places (i + 1 + 1) (lateral_query (plan.query q) name))) refl (query_is q (i + 1 + 1 + 1 + 1)) refl refl refl refl
        (joins_are more (past i (joining_lateral true (plan.query q) name)))

    sources_are : (form : FromForm) (i : ℕ) → AreSources form (given places i (plan.sources form))
    sources_are f.no_from i = no_source_trees
    sources_are (f.from left more) i = source_trees (source_is left (i + 1)) (joins_are more (past (i + 1) (plan.source left))) refl

    where_is : (form : ConditionForm) (i : ℕ) → IsCondition form (given places i (plan.where_clause form))
    where_is f.no_condition i = no_condition_tree
    where_is (f.condition a) i = condition_tree (expr_is a (i + 1))

    having_is : (form : ConditionForm) (i : ℕ) → IsCondition form (given places i (plan.having_clause form))
    having_is f.no_condition i = no_condition_tree
    having_is (f.condition a) i = condition_tree (expr_is a (i + 1))

    core_is : (form : CoreForm) (i : ℕ) → IsCore form (given places i (plan.core form))
    core_is (f.select distinct a name more origin test groups having) i =
        let list = plan.item_list (plan.item (plan.expr a) name) (plan.items more) in
        let j = past (i + 1) (maybe_distinct distinct) in
        let k = past j list in
        let l = past k (plan.sources origin) in
        let m = past l (plan.where_clause test) in
        let o = past m (grouped groups) in
        select_tree (places i).start
        (item_at a name j (expr_is a j)) (items_are more (past j (plan.item (plan.expr a) name))) (sources_are origin k) (where_is test l)
        (groups_are groups m) (having_is having o)
        (core_same (places i).start (given places j list) (given places k (plan.sources origin)) (given places l (plan.where_clause test))
        (given places m (grouped groups)) (given places o (plan.having_clause having)) refl (distinct_is places (i + 1) distinct))

    unions_are : (forms : UnionForms) (i : ℕ) → AreUnions forms (given places i (plan.unions forms))
    unions_are f.no_unions i = no_union_trees
    unions_are (f.a_union kind every right more) i =
        a_union_tree (union_at kind every right i (core_is right (past (past i (uniting kind)) (maybe_all every))))
        (unions_are more (past i (union_step kind every (plan.core right))))

    intersects_are : (forms : IntersectForms) (i : ℕ) → AreIntersects forms (given places i (plan.intersects forms))
    intersects_are f.no_intersects i = no_intersect_trees
    intersects_are (f.an_intersect every right more) i =
        an_intersect_tree (intersect_at every right i (core_is right (past (i + 1) (maybe_all every))))
        (intersects_are more (past i (intersect_step every (plan.core right))))

    pub query_is : (form : QueryForm) (i : ℕ) → IsQuery form (given places i (plan.query form))
    query_is (f.one first keys number) i = one_at first keys number i (core_is first i)
    query_is (f.united first kind every right more keys number) i =
        let k = past i (plan.core first) + 0 in
        united_at first kind every right more keys number i (core_is first i) (core_is right (past (past k (uniting kind)) (maybe_all every)))
        (unions_are more (past k (union_step kind every (plan.core right))))
    query_is (f.intersected first every right more keys number) i =
        let k = past i (plan.core first) in
        intersected_at first every right more keys number i (core_is first i) (core_is right (past (k + 1) (maybe_all every)))
        (intersects_are more (past k (intersect_step every (plan.core right))))

    nested_is : (form : QueryForm) (i : ℕ) → IsQuery form (given places i (plan.nested form))
    nested_is (f.one first keys number) i = one_at first keys number i (core_is first i)
    nested_is (f.united first kind every right more keys number) i =
        let k = past i (plan.core first) + 0 in
        united_at first kind every right more keys number i (core_is first i) (core_is right (past (past k (uniting kind)) (maybe_all every)))
        (unions_are more (past k (union_step kind every (plan.core right))))
    nested_is (f.intersected first every right more keys number) i =
        let k = past i (plan.core first) in
        intersected_at first every right more keys number i (core_is first i) (core_is right (past (k + 1) (maybe_all every)))
        (intersects_are more (past k (intersect_step every (plan.core right))))
