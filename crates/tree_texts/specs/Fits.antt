-- Which forms can be written: their numbers are below 2^63, and their names and texts are characters.
use Rattle.std.specs.Prelude.{ℕ, ◌<◌, ◌^◌, List, [], ◌∷◌, Option, Some, None}
use Rattle.std.specs.List.{AllByRecursion}
use Rattle.std.specs.Str.{IsUtf8}
use Rattle.tree_texts.specs.Forms as f
use Rattle.tree_texts.specs.Forms.{ColumnForm, KeyForm, ExprForm, CompoundForm, ExprForms, SumForms, ProductForms, ArmForms, ItemForms, SourceForm, JoinForms, FromForm, ConditionForm, CoreForm, UnionForms, IntersectForms, QueryForm}

abbrev pub FitsNumber : ℕ → Type 0
FitsNumber number = number < 2 ^ 63

abbrev pub FitsColumn : ColumnForm → Type 0
FitsColumn (f.bare name) = IsUtf8 name
FitsColumn (f.in_item item name) = IsUtf8 item × IsUtf8 name

abbrev pub FitsKey : KeyForm → Type 0
FitsKey form = FitsNumber form.position

abbrev pub FitsLimit : Option ℕ → Type 0
FitsLimit None = Unit {0}
FitsLimit (Some number) = FitsNumber number

-- ORDER BY and LIMIT
abbrev pub FitsEnd : List KeyForm → Option ℕ → Type 0
FitsEnd keys number = AllByRecursion FitsKey keys × FitsLimit number

abbrev mutual
  pub FitsExpr : ExprForm → Type 0
  FitsExpr (f.column form) = FitsColumn form
  FitsExpr (f.integer number) = FitsNumber number
  FitsExpr (f.text spelled) = IsUtf8 spelled
  FitsExpr (f.truth value) = Unit {0}
  FitsExpr (f.null kind) = Unit {0}
  FitsExpr (f.enclosed form) = FitsCompound form
  FitsExpr (f.case a b more c) = FitsExpr a × FitsExpr b × FitsArms more × FitsExpr c
  FitsExpr (f.coalesce a more) = FitsExpr a × FitsExprs more
  FitsExpr (f.null_if a b) = FitsExpr a × FitsExpr b
  FitsExpr f.count_rows = Unit {0}
  FitsExpr (f.count a) = FitsExpr a
  FitsExpr (f.count_distinct a) = FitsExpr a
  FitsExpr (f.folded function a) = FitsExpr a
  FitsExpr (f.exists q) = FitsQuery q
  FitsExpr (f.scalar q) = FitsQuery q

  pub FitsCompound : CompoundForm → Type 0
  FitsCompound (f.negative a) = FitsExpr a
  FitsCompound (f.added a op b more) = FitsExpr a × FitsExpr b × FitsTerms more
  FitsCompound (f.multiplied a op b more) = FitsExpr a × FitsExpr b × FitsFactors more
  FitsCompound (f.compared op a b) = FitsExpr a × FitsExpr b
  FitsCompound (f.like negated a b) = FitsExpr a × FitsExpr b
  FitsCompound (f.between negated a b c) = FitsExpr a × FitsExpr b × FitsExpr c
  FitsCompound (f.in_list negated a b more) = FitsExpr a × FitsExpr b × FitsExprs more
  FitsCompound (f.in_query negated a q) = FitsExpr a × FitsQuery q
  FitsCompound (f.any op a q) = FitsExpr a × FitsQuery q
  FitsCompound (f.all op a q) = FitsExpr a × FitsQuery q
  FitsCompound (f.is_null negated a) = FitsExpr a
  FitsCompound (f.is_truth negated truth a) = FitsExpr a
  FitsCompound (f.is_distinct negated a b) = FitsExpr a × FitsExpr b
  FitsCompound (f.negated a) = FitsExpr a
  FitsCompound (f.each_of a b more) = FitsExpr a × FitsExpr b × FitsExprs more
  FitsCompound (f.one_of a b more) = FitsExpr a × FitsExpr b × FitsExprs more

  pub FitsExprs : ExprForms → Type 0
  FitsExprs f.no_exprs = Unit {0}
  FitsExprs (f.an_expr a more) = FitsExpr a × FitsExprs more

  pub FitsTerms : SumForms → Type 0
  FitsTerms f.no_terms = Unit {0}
  FitsTerms (f.a_term op a more) = FitsExpr a × FitsTerms more

  pub FitsFactors : ProductForms → Type 0
  FitsFactors f.no_factors = Unit {0}
  FitsFactors (f.a_factor op a more) = FitsExpr a × FitsFactors more

  pub FitsArms : ArmForms → Type 0
  FitsArms f.no_arms = Unit {0}
  FitsArms (f.an_arm a b more) = FitsExpr a × FitsExpr b × FitsArms more

  pub FitsItems : ItemForms → Type 0
  FitsItems f.no_items = Unit {0}
  FitsItems (f.an_item a name more) = FitsExpr a × IsUtf8 name × FitsItems more

  pub FitsSource : SourceForm → Type 0
  FitsSource (f.table name) = IsUtf8 name
  FitsSource (f.table_as name other) = IsUtf8 name × IsUtf8 other
  FitsSource (f.subquery q name) = FitsQuery q × IsUtf8 name

  pub FitsJoins : JoinForms → Type 0
  FitsJoins f.no_joins = Unit {0}
  FitsJoins (f.a_join kind right on more) = FitsSource right × FitsExpr on × FitsJoins more
  FitsJoins (f.a_lateral stays q name more) = FitsQuery q × IsUtf8 name × FitsJoins more

  pub FitsFrom : FromForm → Type 0
  FitsFrom f.no_from = Unit {0}
  FitsFrom (f.from left more) = FitsSource left × FitsJoins more

  pub FitsCondition : ConditionForm → Type 0
  FitsCondition f.no_condition = Unit {0}
  FitsCondition (f.condition a) = FitsExpr a

  pub FitsCore : CoreForm → Type 0
  FitsCore (f.select distinct a name more origin test groups having) =
      FitsExpr a × IsUtf8 name × FitsItems more × FitsFrom origin × FitsCondition test × AllByRecursion FitsColumn groups × FitsCondition having

  pub FitsUnions : UnionForms → Type 0
  FitsUnions f.no_unions = Unit {0}
  FitsUnions (f.a_union kind every right more) = FitsCore right × FitsUnions more

  pub FitsIntersects : IntersectForms → Type 0
  FitsIntersects f.no_intersects = Unit {0}
  FitsIntersects (f.an_intersect every right more) = FitsCore right × FitsIntersects more

  pub FitsQuery : QueryForm → Type 0
  FitsQuery (f.one first keys number) = FitsCore first × FitsEnd keys number
  FitsQuery (f.united first kind every right more keys number) = FitsCore first × FitsCore right × FitsUnions more × FitsEnd keys number
  FitsQuery (f.intersected first every right more keys number) = FitsCore first × FitsCore right × FitsIntersects more × FitsEnd keys number
