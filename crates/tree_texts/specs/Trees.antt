-- Which syntax trees a form has: a rule for each form says what the tree is made of, and nothing of the offsets of its nodes,
-- which hang on where the words stand.
use Rattle.std.specs.Prelude.{◌≡◌, ℕ, ℤ, pos, Bool, true, false, List, [], ◌∷◌, Option, Some, None}
use Rattle.null_logic.specs.declared.arith.Arith.{Arith}
use Rattle.null_logic.specs.declared.arith.Arith.TheVariants.{Add, Subtract, Multiply, Divide, Remainder}
use Rattle.null_logic.specs.declared.compare.Compare.{Compare}
use Rattle.null_logic.specs.declared.operator.Operator.TheVariants.{And, Or}
use Rattle.null_logic.specs.declared.truth.Truth.{Truth}
use Rattle.perm_values.specs.declared.kind.Kind.{Kind}
use Rattle.sql_tree.specs.declared.expression.AggWord.{AggWord}
use Rattle.sql_tree.specs.declared.expression.AggWord.TheVariants as word
use Rattle.sql_tree.specs.declared.expression.ArmTree.{ArmTree}
use Rattle.sql_tree.specs.declared.expression.ExprBody.TheVariants as e
use Rattle.sql_tree.specs.declared.expression.ExprStep.{ExprStep}
use Rattle.sql_tree.specs.declared.expression.ExprTree.{ExprTree}
use Rattle.sql_tree.specs.declared.name.ColRef.{ColRef}
use Rattle.sql_tree.specs.declared.name.Name.{Name}
use Rattle.sql_tree.specs.declared.query.Core.{Core, roll-Core}
use Rattle.sql_tree.specs.declared.query.OrderKey.TheVariants.{Position}
use Rattle.sql_tree.specs.declared.query.OrderTree.{OrderTree}
use Rattle.sql_tree.specs.declared.query.QueryTree.{QueryTree}
use Rattle.sql_tree.specs.declared.query.SelectItem.{SelectItem}
use Rattle.sql_tree.specs.declared.query.SelectItem.TheVariants.{Value}
use Rattle.sql_tree.specs.declared.query.SetStep.{SetStep}
use Rattle.sql_tree.specs.declared.query.SetTree.TheVariants as set
use Rattle.sql_tree.specs.declared.query.SetWord.{SetWord}
use Rattle.sql_tree.specs.declared.query.SetWord.TheVariants.{Union, Except, Intersect}
use Rattle.sql_tree.specs.declared.source.FromItem.{FromItem}
use Rattle.sql_tree.specs.declared.source.FromSource.TheVariants.{Named, Inner}
use Rattle.sql_tree.specs.declared.source.FromTree.{FromTree, roll-FromTree}
use Rattle.sql_tree.specs.declared.source.JoinStep.{JoinStep, roll-JoinStep}
use Rattle.sql_tree.specs.declared.source.JoinWord.{JoinWord}
use Rattle.sql_tree.specs.declared.source.JoinWord.TheVariants as join
use Rattle.sql_tree.specs.declared.source.ScopeMark.TheVariants.{Plain}
use Rattle.sql_tree.specs.declared.statement.Script.{Script}
use Rattle.sql_tree.specs.declared.statement.Statement.{Statement}
use Rattle.sql_tree.specs.declared.statement.StatementBody.TheVariants.{Select}
use Rattle.tree_texts.specs.Forms as f
use Rattle.tree_texts.specs.Forms.{ColumnForm, Additive, Multiplicative, Folded, Joined, United, KeyForm, ExprForm, CompoundForm, ExprForms, SumForms, ProductForms, ArmForms, ItemForms, SourceForm, JoinForms, FromForm, ConditionForm, CoreForm, UnionForms, IntersectForms, QueryForm}

-- ---- words

abbrev pub sum_of : Additive → Arith
sum_of f.plus = Add
sum_of f.minus = Subtract

abbrev pub product_of : Multiplicative → Arith
product_of f.times = Multiply
product_of f.divided = Divide
product_of f.modulo = Remainder

abbrev pub fold_of : Folded → AggWord
fold_of f.sum = word.Sum
fold_of f.least = word.Min
fold_of f.greatest = word.Max

abbrev pub join_of : Joined → JoinWord
join_of f.inner = join.Inner
join_of f.left = join.Left
join_of f.right = join.Right
join_of f.full = join.Full

abbrev pub lateral_of : Bool → JoinWord
lateral_of false = join.CrossLateral
lateral_of true = join.LeftLateral

abbrev pub set_of : United → SetWord
set_of f.union = Union
set_of f.except = Except

-- ---- names and keys

pub data IsColumn : ColumnForm → ColRef → Type 0 where
  bare_tree : {name : List ℕ} {tree : ColRef} → tree.table ≡ None → tree.name.text ≡ name → IsColumn (f.bare name) tree
  in_item_tree : {item name : List ℕ} {tree : ColRef} {table : Name} → tree.table ≡ Some table → table.text ≡ item → tree.name.text ≡ name
      → IsColumn (f.in_item item name) tree

pub data AreColumns : List ColumnForm → List ColRef → Type 0 where
  no_column_trees : AreColumns [] []
  a_column_tree : {form : ColumnForm} {forms : List ColumnForm} {tree : ColRef} {trees : List ColRef}
      → IsColumn form tree → AreColumns forms trees → AreColumns (form ∷ forms) (tree ∷ trees)

pub data AreKeys : List KeyForm → List OrderTree → Type 0 where
  no_key_trees : AreKeys [] []
  a_key_tree : {form : KeyForm} {forms : List KeyForm} {tree : OrderTree} {trees : List OrderTree} → tree.key ≡ Position (pos form.position)
      → tree.descending ≡ form.descending → AreKeys forms trees → AreKeys (form ∷ forms) (tree ∷ trees)

abbrev pub limit_of : Option ℕ → Option ℤ
limit_of None = None
limit_of (Some number) = Some (pos number)

-- ---- expressions and queries

mutual
  pub data IsExpr : ExprForm → ExprTree → Type 0 where
    column_tree : {form : ColumnForm} {tree : ExprTree} {x : ColRef} → IsColumn form x → tree.body ≡ e.Column x → IsExpr (f.column form) tree
    integer_tree : {number : ℕ} {tree : ExprTree} → tree.body ≡ e.Integer (pos number) → IsExpr (f.integer number) tree
    text_tree : {spelled : List ℕ} {tree : ExprTree} → tree.body ≡ e.Text spelled → IsExpr (f.text spelled) tree
    truth_tree : {truth : Bool} {tree : ExprTree} → tree.body ≡ e.Truth truth → IsExpr (f.truth truth) tree
    null_tree : {kind : Kind} {tree : ExprTree} → tree.body ≡ e.NullOf kind → IsExpr (f.null kind) tree
    enclosed_tree : {form : CompoundForm} {tree x : ExprTree} → IsCompound form x → tree.body ≡ e.Paren x → IsExpr (f.enclosed form) tree
    case_tree : {a b c : ExprForm} {more : ArmForms} {tree z : ExprTree} {arm : ArmTree} {arms : List ArmTree} → IsExpr a arm.condition
        → IsExpr b arm.value → AreArms more arms → IsExpr c z → tree.body ≡ e.Case (arm ∷ arms) (Some z) → IsExpr (f.case a b more c) tree
    coalesce_tree : {a : ExprForm} {more : ExprForms} {tree x : ExprTree} {trees : List ExprTree} → IsExpr a x → AreExprs more trees
        → tree.body ≡ e.Coalesce (x ∷ trees) → IsExpr (f.coalesce a more) tree
    null_if_tree : {a b : ExprForm} {tree x y : ExprTree} → IsExpr a x → IsExpr b y → tree.body ≡ e.NullIf x y → IsExpr (f.null_if a b) tree
    count_rows_tree : {tree : ExprTree} → tree.body ≡ e.Aggregate word.CountRows None → IsExpr f.count_rows tree
    count_tree : {a : ExprForm} {tree x : ExprTree} → IsExpr a x → tree.body ≡ e.Aggregate word.Count (Some x) → IsExpr (f.count a) tree
    count_distinct_tree : {a : ExprForm} {tree x : ExprTree} → IsExpr a x → tree.body ≡ e.Aggregate word.CountDistinct (Some x)
        → IsExpr (f.count_distinct a) tree
    folded_tree : {function : Folded} {a : ExprForm} {tree x : ExprTree} → IsExpr a x → tree.body ≡ e.Aggregate (fold_of function) (Some x)
        → IsExpr (f.folded function a) tree
    exists_tree : {q : QueryForm} {tree : ExprTree} {x : QueryTree} → IsQuery q x → tree.body ≡ e.Exists x → IsExpr (f.exists q) tree
    scalar_tree : {q : QueryForm} {tree : ExprTree} {x : QueryTree} → IsQuery q x → tree.body ≡ e.Scalar x → IsExpr (f.scalar q) tree

  pub data IsCompound : CompoundForm → ExprTree → Type 0 where
    negative_tree : {a : ExprForm} {tree x : ExprTree} → IsExpr a x → tree.body ≡ e.Signs 1 x → IsCompound (f.negative a) tree
    added_tree : {a b : ExprForm} {op : Additive} {more : SumForms} {tree x : ExprTree} {step : ExprStep} {steps : List ExprStep}
        → IsExpr a x → IsTerm op b step → AreTerms more steps → tree.body ≡ e.Chain x (step ∷ steps) → IsCompound (f.added a op b more) tree
    multiplied_tree : {a b : ExprForm} {op : Multiplicative} {more : ProductForms} {tree x : ExprTree} {step : ExprStep} {steps : List ExprStep}
        → IsExpr a x → IsFactor op b step → AreFactors more steps → tree.body ≡ e.Chain x (step ∷ steps)
        → IsCompound (f.multiplied a op b more) tree
    compared_tree : {op : Compare} {a b : ExprForm} {tree x y : ExprTree} → IsExpr a x → IsExpr b y → tree.body ≡ e.Compared op x y
        → IsCompound (f.compared op a b) tree
    like_tree : {negated : Bool} {a b : ExprForm} {tree x y : ExprTree} → IsExpr a x → IsExpr b y → tree.body ≡ e.Like negated x y
        → IsCompound (f.like negated a b) tree
    between_tree : {negated : Bool} {a b c : ExprForm} {tree x y z : ExprTree} → IsExpr a x → IsExpr b y → IsExpr c z
        → tree.body ≡ e.Between negated x y z → IsCompound (f.between negated a b c) tree
    in_list_tree : {negated : Bool} {a b : ExprForm} {more : ExprForms} {tree x y : ExprTree} {trees : List ExprTree} → IsExpr a x → IsExpr b y
        → AreExprs more trees → tree.body ≡ e.InList negated x (y ∷ trees) → IsCompound (f.in_list negated a b more) tree
    in_query_tree : {negated : Bool} {a : ExprForm} {q : QueryForm} {tree x : ExprTree} {y : QueryTree} → IsExpr a x → IsQuery q y
        → tree.body ≡ e.InQuery negated x y → IsCompound (f.in_query negated a q) tree
    any_tree : {op : Compare} {a : ExprForm} {q : QueryForm} {tree x : ExprTree} {y : QueryTree} → IsExpr a x → IsQuery q y
        → tree.body ≡ e.Quantified false op x y → IsCompound (f.any op a q) tree
    all_tree : {op : Compare} {a : ExprForm} {q : QueryForm} {tree x : ExprTree} {y : QueryTree} → IsExpr a x → IsQuery q y
        → tree.body ≡ e.Quantified true op x y → IsCompound (f.all op a q) tree
    is_null_tree : {negated : Bool} {a : ExprForm} {tree x : ExprTree} → IsExpr a x → tree.body ≡ e.IsNull negated x
        → IsCompound (f.is_null negated a) tree
    is_truth_tree : {negated : Bool} {truth : Truth} {a : ExprForm} {tree x : ExprTree} → IsExpr a x → tree.body ≡ e.IsTruth negated truth x
        → IsCompound (f.is_truth negated truth a) tree
    is_distinct_tree : {negated : Bool} {a b : ExprForm} {tree x y : ExprTree} → IsExpr a x → IsExpr b y
        → tree.body ≡ e.IsDistinct negated x y → IsCompound (f.is_distinct negated a b) tree
    negated_tree : {a : ExprForm} {tree x : ExprTree} → IsExpr a x → tree.body ≡ e.Nots 1 x → IsCompound (f.negated a) tree
    each_of_tree : {a b : ExprForm} {more : ExprForms} {tree x y : ExprTree} {trees : List ExprTree} → IsExpr a x → IsExpr b y
        → AreExprs more trees → tree.body ≡ e.Logic And (x ∷ y ∷ trees) → IsCompound (f.each_of a b more) tree
    one_of_tree : {a b : ExprForm} {more : ExprForms} {tree x y : ExprTree} {trees : List ExprTree} → IsExpr a x → IsExpr b y
        → AreExprs more trees → tree.body ≡ e.Logic Or (x ∷ y ∷ trees) → IsCompound (f.one_of a b more) tree

  pub data AreExprs : ExprForms → List ExprTree → Type 0 where
    no_expr_trees : AreExprs f.no_exprs []
    an_expr_tree : {a : ExprForm} {more : ExprForms} {x : ExprTree} {trees : List ExprTree} → IsExpr a x → AreExprs more trees
        → AreExprs (f.an_expr a more) (x ∷ trees)

  pub data IsTerm : Additive → ExprForm → ExprStep → Type 0 where
    term_tree : {op : Additive} {a : ExprForm} {step : ExprStep} → step.op ≡ sum_of op → IsExpr a step.part → IsTerm op a step

  pub data AreTerms : SumForms → List ExprStep → Type 0 where
    no_term_trees : AreTerms f.no_terms []
    a_term_tree : {op : Additive} {a : ExprForm} {more : SumForms} {step : ExprStep} {steps : List ExprStep} → IsTerm op a step
        → AreTerms more steps → AreTerms (f.a_term op a more) (step ∷ steps)

  pub data IsFactor : Multiplicative → ExprForm → ExprStep → Type 0 where
    factor_tree : {op : Multiplicative} {a : ExprForm} {step : ExprStep} → step.op ≡ product_of op → IsExpr a step.part → IsFactor op a step

  pub data AreFactors : ProductForms → List ExprStep → Type 0 where
    no_factor_trees : AreFactors f.no_factors []
    a_factor_tree : {op : Multiplicative} {a : ExprForm} {more : ProductForms} {step : ExprStep} {steps : List ExprStep} → IsFactor op a step
        → AreFactors more steps → AreFactors (f.a_factor op a more) (step ∷ steps)

  pub data AreArms : ArmForms → List ArmTree → Type 0 where
    no_arm_trees : AreArms f.no_arms []
    an_arm_tree : {a b : ExprForm} {more : ArmForms} {arm : ArmTree} {arms : List ArmTree} → IsExpr a arm.condition → IsExpr b arm.value
        → AreArms more arms → AreArms (f.an_arm a b more) (arm ∷ arms)

  pub data IsItem : ExprForm → List ℕ → SelectItem → Type 0 where
    item_tree : {a : ExprForm} {name : List ℕ} {item : SelectItem} {x : ExprTree} (alias : Name) → IsExpr a x → alias.text ≡ name
        → item ≡ Value x (Some alias) → IsItem a name item

  pub data AreItems : ItemForms → List SelectItem → Type 0 where
    no_item_trees : AreItems f.no_items []
    an_item_tree : {a : ExprForm} {name : List ℕ} {more : ItemForms} {item : SelectItem} {items : List SelectItem} → IsItem a name item
        → AreItems more items → AreItems (f.an_item a name more) (item ∷ items)

  -- a table, a table under another name, a query
  pub data IsSource : SourceForm → FromItem → Type 0 where
    table_tree : {name : List ℕ} {item : FromItem} (table : Name) → item.source ≡ Named table → table.text ≡ name → item.alias ≡ None
        → item.mark ≡ Plain → IsSource (f.table name) item
    table_as_tree : {name other : List ℕ} {item : FromItem} {alias : Name} (table : Name) → item.source ≡ Named table → table.text ≡ name
        → item.alias ≡ Some alias → alias.text ≡ other → item.mark ≡ Plain → IsSource (f.table_as name other) item
    subquery_tree : {q : QueryForm} {name : List ℕ} {item : FromItem} {tree : QueryTree} {alias : Name} → IsQuery q tree
        → item.source ≡ Inner tree → item.alias ≡ Some alias → alias.text ≡ name → item.mark ≡ Plain → IsSource (f.subquery q name) item

  pub data AreJoins : JoinForms → List JoinStep → Type 0 where
    no_join_trees : AreJoins f.no_joins []
    a_join_tree : {kind : Joined} {right : SourceForm} {on : ExprForm} {more : JoinForms} {item : FromItem} {x : ExprTree} {step : JoinStep}
        {steps : List JoinStep} → IsSource right item → IsExpr on x
        → step ≡ roll-JoinStep (record { word = join_of kind; item = item; condition = Some x }) → AreJoins more steps
        → AreJoins (f.a_join kind right on more) (step ∷ steps)
    a_lateral_tree : {stays : Bool} {q : QueryForm} {name : List ℕ} {more : JoinForms} {tree : QueryTree} {alias : Name} {step : JoinStep}
        {steps : List JoinStep} (item : FromItem) → step ≡ roll-JoinStep (record { word = lateral_of stays; item = item; condition = None })
        → IsQuery q tree → item.source ≡ Inner tree → item.alias ≡ Some alias → alias.text ≡ name → item.mark ≡ Plain → AreJoins more steps
        → AreJoins (f.a_lateral stays q name more) (step ∷ steps)

  pub data AreSources : FromForm → List FromTree → Type 0 where
    no_source_trees : AreSources f.no_from []
    source_trees : {left : SourceForm} {more : JoinForms} {item : FromItem} {steps : List JoinStep} {tree : FromTree} → IsSource left item
        → AreJoins more steps → tree ≡ roll-FromTree (record { first = item; joins = steps }) → AreSources (f.from left more) (tree ∷ [])

  pub data IsCondition : ConditionForm → Option ExprTree → Type 0 where
    no_condition_tree : IsCondition f.no_condition None
    condition_tree : {a : ExprForm} {x : ExprTree} → IsExpr a x → IsCondition (f.condition a) (Some x)

  pub data IsCore : CoreForm → Core → Type 0 where
    select_tree : {distinct : Bool} {a : ExprForm} {name : List ℕ} {more : ItemForms} {from : FromForm} {condition : ConditionForm}
        {groups : List ColumnForm} {having : ConditionForm} {core : Core} {item : SelectItem} {items : List SelectItem}
        {sources : List FromTree} {tested : Option ExprTree} {columns : List ColRef} {kept : Option ExprTree} (at : ℕ)
        → IsItem a name item → AreItems more items → AreSources from sources → IsCondition condition tested → AreColumns groups columns
        → IsCondition having kept
        → core ≡ roll-Core (record {
          at = at;
          provenance = None;
          distinct = distinct;
          items = item ∷ items;
          sources = sources;
          condition = tested;
          groups = columns;
          having = kept;
        })
        → IsCore (f.select distinct a name more from condition groups having) core

  -- a step of a set operation
  pub data IsStep : SetWord → Bool → CoreForm → SetStep → Type 0 where
    step_tree : {operation : SetWord} {every : Bool} {right : CoreForm} {step : SetStep} {tree : Core} → IsCore right tree → step.word ≡ operation
        → step.all ≡ every → step.operand ≡ set.Core tree → IsStep operation every right step

  pub data AreUnions : UnionForms → List SetStep → Type 0 where
    no_union_trees : AreUnions f.no_unions []
    a_union_tree : {kind : United} {every : Bool} {right : CoreForm} {more : UnionForms} {step : SetStep} {steps : List SetStep}
        → IsStep (set_of kind) every right step → AreUnions more steps → AreUnions (f.a_union kind every right more) (step ∷ steps)

  pub data AreIntersects : IntersectForms → List SetStep → Type 0 where
    no_intersect_trees : AreIntersects f.no_intersects []
    an_intersect_tree : {every : Bool} {right : CoreForm} {more : IntersectForms} {step : SetStep} {steps : List SetStep}
        → IsStep Intersect every right step → AreIntersects more steps → AreIntersects (f.an_intersect every right more) (step ∷ steps)

  pub data IsQuery : QueryForm → QueryTree → Type 0 where
    one_tree : {first : CoreForm} {keys : List KeyForm} {number : Option ℕ} {query : QueryTree} {tree : Core} → IsCore first tree
        → query.body ≡ set.Core tree → AreKeys keys query.order → query.limit ≡ limit_of number → IsQuery (f.one first keys number) query
    united_tree : {first right : CoreForm} {kind : United} {every : Bool} {more : UnionForms} {keys : List KeyForm} {number : Option ℕ}
        {query : QueryTree} {tree : Core} {step : SetStep} {steps : List SetStep}
        → IsCore first tree → IsStep (set_of kind) every right step → AreUnions more steps
        → query.body ≡ set.Chain (set.Core tree) (step ∷ steps) → AreKeys keys query.order → query.limit ≡ limit_of number
        → IsQuery (f.united first kind every right more keys number) query
    intersected_tree : {first right : CoreForm} {every : Bool} {more : IntersectForms} {keys : List KeyForm} {number : Option ℕ}
        {query : QueryTree} {tree : Core} {step : SetStep} {steps : List SetStep}
        → IsCore first tree → IsStep Intersect every right step → AreIntersects more steps
        → query.body ≡ set.Chain (set.Core tree) (step ∷ steps) → AreKeys keys query.order → query.limit ≡ limit_of number
        → IsQuery (f.intersected first every right more keys number) query

-- a script whose one statement is the query
pub data IsScript : QueryForm → Script → Type 0 where
  script_tree : {form : QueryForm} {script : Script} {statement : Statement} {tree : QueryTree} → IsQuery form tree
      → script.statements ≡ statement ∷ [] → statement.body ≡ Select tree → IsScript form script
