-- Every tree keeps its kinds and its facts: each step does.
use Rattle.std.specs.Prelude.{ℕ, true, false, cond, not, [], ◌∷◌, map, Option, Some, None}
use Rattle.null_logic.specs.declared.operator.Operator.TheVariants as x
use Rattle.null_logic.specs.declared.compare.Compare.TheVariants.{Equal, NotEqual}
use Rattle.perm_values.specs.declared.kind.Kind.TheVariants as kind
use Rattle.perm_values.specs.declared.value.Value.TheVariants as v
use Rattle.bag_algebra.specs.declared.expr.Expr.TheVariants.{Lit, Op, IsNull, IsTruth, Same}
use Rattle.perm_catalog.specs.Contents.{Contents}
use Rattle.perm_catalog.specs.Sound.{IsSound}
use Rattle.sql_tree.specs.declared.expression.ExprBody.TheOpen.{ExprBody-F, SelectItem-F, SetTree-F, FromSource-F}
use Rattle.sql_tree.specs.declared.expression.ExprTree.{ExprTree}
use Rattle.sql_tree.specs.declared.query.Core.{Core}
use Rattle.sql_tree.specs.declared.query.QueryTree.{QueryTree}
use Rattle.sql_tree.specs.declared.query.SelectItem.{SelectItem}
use Rattle.sql_tree.specs.declared.query.SetTree.{SetTree}
use Rattle.sql_tree.specs.declared.source.FromItem.{FromItem}
use Rattle.sql_tree.specs.declared.source.FromTree.{FromTree}
use Rattle.name_meaning.proofs.Equations.{ExprBodyFrame, SelectItemFrame, SetTreeFrame, FromSourceFrame, CoreFrame}
use Rattle.name_meaning.specs.Cores.{core_step, has_some}
use Rattle.name_meaning.specs.Expressions.{Body, body_step, first_of, second_of, negated_if, times, chain_made, step_operand, first_need, chain_gives, in_kind}
use Rattle.name_meaning.specs.Froms.{source_step, from_all, first_item, in_from, label_of, scope_name, read_of}
use Rattle.name_meaning.specs.Items.{item_step, title}
use Rattle.name_meaning.specs.Meanings.{Surroundings, Part}
use Rattle.name_meaning.specs.Operands.{operand}
use Rattle.name_meaning.specs.Queries.{set_step, may_not_ask}
use Rattle.name_meaning.specs.Scopes.{look_up}
use Rattle.name_meaning.specs.Sublinks.{null_at, around_of, exists_meant, scalar_meant}
use Rattle.name_meaning.specs.declared.need.Gives.TheVariants.{Always as always, Common as common}
use Rattle.name_meaning.specs.declared.need.Need.TheVariants.{OfKind as of_kind, Alike as alike, Free as free}
use Rattle.name_meaning.specs.Trees.{part_of, query_of, set_of_tree, core_of, item_of, from_item_of, from_of}
use Rattle.name_meaning.proofs.Induction.{BodyParts, ItemParts, SetParts, SourceParts, CoreParts, Optional, AreKept, kept-part, kept-query, kept-set, kept-core, kept-item, kept-from_item, kept-from}
use Rattle.name_meaning.proofs.KeptCores.{GoodOptionalPart, good-core_seen}
use Rattle.name_meaning.proofs.KeptFroms as kept_froms
use Rattle.name_meaning.proofs.KeptItems as kept_items
use Rattle.name_meaning.proofs.KeptQueries as kept_queries
use Rattle.name_meaning.proofs.SteadyMeant.{GoodMeant, GoodPart, GoodStep, GoodArm, good-known, good-null, good-column, good-aggregate, good-node, good-operands, good-operated, good-steps, good-case, good-if_standing, good-exists, good-scalar, good-tested}
use Rattle.name_meaning.proofs.Kept.{GoodQueryPart}

module _ (c : Contents) where
  abbrev S : Type 0
  S = IsSound c

  abbrev GoodBody : Body → Type 0
  GoodBody body = (at : ℕ) (here : Surroundings) → GoodMeant S (body.means at here)

  abbrev Parts : ExprBodyFrame → Type 0
  Parts = BodyParts c GoodBody (kept_items.GoodItem S) (kept_queries.GoodBody S) (kept_froms.GoodSource c) (GoodArm S) (GoodStep S) (GoodPart S) (kept_queries.GoodBody S)
      (GoodQueryPart S) (kept_queries.GoodOperand S) (kept_froms.GoodFromItem c) (kept_froms.GoodFromPart c) (kept_froms.GoodJoin c)

  abbrev PartsOfItem : SelectItemFrame → Type 0
  PartsOfItem = ItemParts c GoodBody (kept_items.GoodItem S) (kept_queries.GoodBody S) (kept_froms.GoodSource c) (GoodArm S) (GoodStep S) (GoodPart S) (kept_queries.GoodBody S)
      (GoodQueryPart S) (kept_queries.GoodOperand S) (kept_froms.GoodFromItem c) (kept_froms.GoodFromPart c) (kept_froms.GoodJoin c)

  abbrev PartsOfSet : SetTreeFrame → Type 0
  PartsOfSet = SetParts c GoodBody (kept_items.GoodItem S) (kept_queries.GoodBody S) (kept_froms.GoodSource c) (GoodArm S) (GoodStep S) (GoodPart S) (kept_queries.GoodBody S)
      (GoodQueryPart S) (kept_queries.GoodOperand S) (kept_froms.GoodFromItem c) (kept_froms.GoodFromPart c) (kept_froms.GoodJoin c)

  abbrev PartsOfSource : FromSourceFrame → Type 0
  PartsOfSource = SourceParts c GoodBody (kept_items.GoodItem S) (kept_queries.GoodBody S) (kept_froms.GoodSource c) (GoodArm S) (GoodStep S) (GoodPart S) (kept_queries.GoodBody S)
      (GoodQueryPart S) (kept_queries.GoodOperand S) (kept_froms.GoodFromItem c) (kept_froms.GoodFromPart c) (kept_froms.GoodJoin c)

  abbrev PartsOfCore : CoreFrame → Type 0
  PartsOfCore = CoreParts c GoodBody (kept_items.GoodItem S) (kept_queries.GoodBody S) (kept_froms.GoodSource c) (GoodArm S) (GoodStep S) (GoodPart S) (kept_queries.GoodBody S)
      (GoodQueryPart S) (kept_queries.GoodOperand S) (kept_froms.GoodFromItem c) (kept_froms.GoodFromPart c) (kept_froms.GoodJoin c)

  abbrev Kept : Type 0
  Kept = AreKept c GoodBody (kept_items.GoodItem S) (kept_queries.GoodBody S) (kept_froms.GoodSource c) (GoodArm S) (GoodStep S) (GoodPart S) (kept_queries.GoodBody S)
      (GoodQueryPart S) (kept_queries.GoodOperand S) (kept_froms.GoodFromItem c) (kept_froms.GoodFromPart c) (kept_froms.GoodJoin c)

  -- ---- expressions

  good-body : (frame : ExprBodyFrame) → Parts frame → GoodBody (body_step frame)
  good-body ExprBody-F.Null h at here = good-null S
  good-body (ExprBody-F.NullOf k) h at here = good-known S k (null_at k)
  good-body (ExprBody-F.Integer number) h at here = good-known S kind.Integer (Lit (v.Integer number) kind.Integer)
  good-body (ExprBody-F.Text text) h at here = good-known S kind.Text (Lit (v.Text text) kind.Text)
  good-body (ExprBody-F.Truth truth) h at here = good-known S kind.Boolean (Lit (v.Boolean truth) kind.Boolean)
  good-body (ExprBody-F.Column reference) h at here = good-column S here reference.at (look_up 0 here.scopes reference)
  good-body (ExprBody-F.«ExprBody::Paren» part) h at here = h here
  good-body (ExprBody-F.Nots count part) h at here =
      good-operated S x.Not true (λ es. times x.Not count (first_of es)) here (part ∷ []) (h, tt)
  good-body (ExprBody-F.Signs count part) h at here =
      good-operated S x.Negate true (λ es. times x.Negate count (first_of es)) here (part ∷ []) (h, tt)
  good-body (ExprBody-F.Logic op parts) h at here = good-operated S op false (Op op) here parts h
  good-body (ExprBody-F.«ExprBody::Chain» first steps) h at here =
      good-node S (chain_gives steps) (chain_made steps) (operand here (first_need steps) first ∷ map (step_operand here) steps)
      (h.0 here, good-steps S here steps h.1)
  good-body (ExprBody-F.Compared op first second) h at here =
      good-operated S (x.Compare op) false (Op (x.Compare op)) here (first ∷ second ∷ []) (h.0, (h.1, tt))
  good-body (ExprBody-F.Like negated text pattern) h at here =
      good-operated S x.Like false (λ es. negated_if negated (Op x.Like es)) here (text ∷ pattern ∷ []) (h.0, (h.1, tt))
  good-body (ExprBody-F.Between negated part low high) h at here =
      good-operated S x.Between false (λ es. negated_if negated (Op x.Between es)) here (part ∷ low ∷ high ∷ []) (h.0, (h.1, (h.2, tt)))
  good-body (ExprBody-F.InList negated part list) h at here =
      good-operated S x.InList false (λ es. negated_if negated (Op x.InList es)) here (part ∷ list) h
  good-body (ExprBody-F.InQuery negated part inner) h at here =
      good-tested S here at (in_kind negated (cond negated NotEqual Equal)) part inner h.0 (h.1 (around_of here))
  good-body (ExprBody-F.Quantified every op part inner) h at here =
      good-tested S here at (in_kind every op) part inner h.0 (h.1 (around_of here))
  good-body (ExprBody-F.IsNull negated part) h at here =
      good-node S (always kind.Boolean) (λ es. negated_if negated (IsNull (first_of es))) (operand here free part ∷ []) (h here, tt)
  good-body (ExprBody-F.IsTruth negated truth part) h at here =
      good-node S (always kind.Boolean) (λ es. negated_if negated (IsTruth truth (first_of es))) (operand here (of_kind kind.Boolean) part ∷ [])
      (h here, tt)
  good-body (ExprBody-F.IsDistinct negated first second) h at here =
      good-node S (always kind.Boolean) (λ es. negated_if (not negated) (Same (first_of es) (second_of es)))
      (operand here alike first ∷ operand here alike second ∷ []) (h.0 here, (h.1 here, tt))
  good-body (ExprBody-F.Case arms None) h at here = good-case S here arms None h (good-null S)
  good-body (ExprBody-F.Case arms (Some otherwise)) h at here = good-case S here arms (Some otherwise) h.0 (h.1 here)
  good-body (ExprBody-F.Coalesce list) h at here =
      good-node S common (Op x.Coalesce) (map (operand here alike) list) (good-operands S here alike list h)
  good-body (ExprBody-F.NullIf first second) h at here =
      good-node S common (Op x.NullIf) (operand here alike first ∷ operand here alike second ∷ []) (h.0 here, (h.1 here, tt))
  good-body (ExprBody-F.Aggregate function None) h at here = good-aggregate S here at function None
  good-body (ExprBody-F.Aggregate function (Some argument)) h at here = good-aggregate S here at function (Some argument)
  good-body (ExprBody-F.Exists inner) h at here =
      good-if_standing S here at (Some kind.Boolean) (exists_meant here inner.at (inner.means (around_of here)))
      (good-exists S here inner.at (inner.means (around_of here)) (h (around_of here)))
  good-body (ExprBody-F.Scalar inner) h at here =
      good-if_standing S here at None (scalar_meant here inner.at (inner.means (around_of here)))
      (good-scalar S here inner.at (inner.means (around_of here)) (h (around_of here)))

  -- ---- queries

  good-item : (frame : SelectItemFrame) → PartsOfItem frame → kept_items.GoodItem S (item_step frame)
  good-item (SelectItem-F.Star at) h has_from scope here = kept_items.good-star S has_from scope at
  good-item (SelectItem-F.TableStar table) h has_from scope here = kept_items.good-table_star S scope table
  good-item (SelectItem-F.Value expr name) h has_from scope here = kept_items.good-value S (title name expr) (expr.means here) (h here)

  good-set : (frame : SetTreeFrame) → PartsOfSet frame → kept_queries.GoodBody S (set_step frame)
  good-set (SetTree-F.Core core) h around = h around
  good-set (SetTree-F.«SetTree::Paren» inner) h around = h (may_not_ask around)
  good-set (SetTree-F.«SetTree::Chain» first steps) h around = kept_queries.good-chain S around (first.means around) steps (h.0 around) h.1

  good-source : (frame : FromSourceFrame) → PartsOfSource frame → kept_froms.GoodSource c (source_step frame)
  good-source (FromSource-F.Named name) h = tt
  good-source (FromSource-F.Inner inner) h = h

  good-optional : (part : Option Part) → Optional c GoodBody (kept_items.GoodItem S) (kept_queries.GoodBody S) (kept_froms.GoodSource c) (GoodArm S) (GoodStep S) (GoodPart S) (kept_queries.GoodBody S)
      (GoodQueryPart S) (kept_queries.GoodOperand S) (kept_froms.GoodFromItem c) (kept_froms.GoodFromPart c) (kept_froms.GoodJoin c) part → GoodOptionalPart S part
  good-optional None h = tt
  good-optional (Some part) h = h

  good-core : (frame : CoreFrame) → PartsOfCore frame → kept_queries.GoodBody S (core_step frame)
  good-core frame h around = good-core_seen S around frame.provenance (from_all around.outer frame.sources)
      (has_some frame.sources) frame.distinct frame.items frame.condition frame.groups frame.having
      (kept_froms.good-from_all c around.outer frame.sources h.sources).named h.items
      (good-optional frame.condition h.condition) (good-optional frame.having h.having)

  kept : Kept
  kept = record {
    body = good-body;
    item = good-item;
    set = good-set;
    source = good-source;
    arm = λ frame condition value. (condition, value);
    step = λ frame part. part;
    part = λ frame body. body frame.at;
    core = good-core;
    query = λ frame body around. kept_queries.good-query_seen S around frame.at frame.body frame.order frame.limit body;
    set_operand = λ frame operand. operand;
    from_item = λ frame source around earlier. kept_froms.good-item_meant c frame.at frame.mark earlier (scope_name frame.source frame.alias) (label_of frame.source frame.alias)
        (read_of c around frame.source)
        (kept_froms.good-read_of c around frame.source source);
    from_tree = λ frame first joins outer earlier. kept_froms.good-join_all c outer (first_item earlier (frame.first.means (in_from outer) earlier)) frame.joins
        (kept_froms.good-first c earlier (frame.first.means (in_from outer) earlier) (first (in_from outer) earlier)) joins;
    join = λ frame item condition. (item, good-optional frame.condition condition);
  }

  -- ---- every tree

  pub good-part_tree : (tree : ExprTree) → GoodPart S (part_of c tree)
  good-part_tree = kept-part c GoodBody (kept_items.GoodItem S) (kept_queries.GoodBody S) (kept_froms.GoodSource c) (GoodArm S) (GoodStep S) (GoodPart S) (kept_queries.GoodBody S)
      (GoodQueryPart S) (kept_queries.GoodOperand S) (kept_froms.GoodFromItem c) (kept_froms.GoodFromPart c) (kept_froms.GoodJoin c) kept

  pub good-query_tree : (tree : QueryTree) → GoodQueryPart S (query_of c tree)
  good-query_tree = kept-query c GoodBody (kept_items.GoodItem S) (kept_queries.GoodBody S) (kept_froms.GoodSource c) (GoodArm S) (GoodStep S) (GoodPart S) (kept_queries.GoodBody S)
      (GoodQueryPart S) (kept_queries.GoodOperand S) (kept_froms.GoodFromItem c) (kept_froms.GoodFromPart c) (kept_froms.GoodJoin c) kept

  pub good-set_tree : (tree : SetTree) → kept_queries.GoodBody S (set_of_tree c tree)
  good-set_tree = kept-set c GoodBody (kept_items.GoodItem S) (kept_queries.GoodBody S) (kept_froms.GoodSource c) (GoodArm S) (GoodStep S) (GoodPart S) (kept_queries.GoodBody S)
      (GoodQueryPart S) (kept_queries.GoodOperand S) (kept_froms.GoodFromItem c) (kept_froms.GoodFromPart c) (kept_froms.GoodJoin c) kept

  pub good-core_tree : (tree : Core) → kept_queries.GoodBody S (core_of c tree)
  good-core_tree = kept-core c GoodBody (kept_items.GoodItem S) (kept_queries.GoodBody S) (kept_froms.GoodSource c) (GoodArm S) (GoodStep S) (GoodPart S) (kept_queries.GoodBody S)
      (GoodQueryPart S) (kept_queries.GoodOperand S) (kept_froms.GoodFromItem c) (kept_froms.GoodFromPart c) (kept_froms.GoodJoin c) kept

  pub good-item_tree : (tree : SelectItem) → kept_items.GoodItem S (item_of c tree)
  good-item_tree = kept-item c GoodBody (kept_items.GoodItem S) (kept_queries.GoodBody S) (kept_froms.GoodSource c) (GoodArm S) (GoodStep S) (GoodPart S) (kept_queries.GoodBody S)
      (GoodQueryPart S) (kept_queries.GoodOperand S) (kept_froms.GoodFromItem c) (kept_froms.GoodFromPart c) (kept_froms.GoodJoin c) kept

  pub good-from_item_tree : (tree : FromItem) → kept_froms.GoodFromItem c (from_item_of c tree)
  good-from_item_tree = kept-from_item c GoodBody (kept_items.GoodItem S) (kept_queries.GoodBody S) (kept_froms.GoodSource c) (GoodArm S) (GoodStep S) (GoodPart S) (kept_queries.GoodBody S)
      (GoodQueryPart S) (kept_queries.GoodOperand S) (kept_froms.GoodFromItem c) (kept_froms.GoodFromPart c) (kept_froms.GoodJoin c) kept

  pub good-from_tree : (tree : FromTree) → kept_froms.GoodFromPart c (from_of c tree)
  good-from_tree = kept-from c GoodBody (kept_items.GoodItem S) (kept_queries.GoodBody S) (kept_froms.GoodSource c) (GoodArm S) (GoodStep S) (GoodPart S) (kept_queries.GoodBody S)
      (GoodQueryPart S) (kept_queries.GoodOperand S) (kept_froms.GoodFromItem c) (kept_froms.GoodFromPart c) (kept_froms.GoodJoin c) kept
