-- What holds of each table of the catalog holds of each that what a tree is made to reads: each step keeps it.
use Rattle.std.specs.Prelude.{ℕ, true, false, cond, not, List, [], ◌∷◌, map, Option, Some, None}
use Rattle.null_logic.specs.declared.operator.Operator.TheVariants as x
use Rattle.null_logic.specs.declared.compare.Compare.TheVariants.{Equal, NotEqual}
use Rattle.perm_values.specs.declared.kind.Kind.{Kind}
use Rattle.perm_values.specs.declared.kind.Kind.TheVariants as kind
use Rattle.perm_values.specs.declared.value.Value.TheVariants as v
use Rattle.bag_algebra.specs.declared.expr.Expr.TheVariants.{Lit, Op, IsNull, IsTruth, Same}
use Rattle.perm_catalog.specs.Contents.{Contents}
use Rattle.sql_tree.specs.declared.expression.ExprBody.TheOpen.{ExprBody-F, SelectItem-F, SetTree-F, FromSource-F}
use Rattle.sql_tree.specs.declared.query.QueryTree.{QueryTree}
use Rattle.name_meaning.proofs.Equations.{ExprBodyFrame, SelectItemFrame, SetTreeFrame, FromSourceFrame, CoreFrame}
use Rattle.name_meaning.specs.Cores.{core_step, has_some}
use Rattle.name_meaning.specs.Expressions.{Body, body_step, first_of, second_of, negated_if, times, chain_made, step_operand, first_need, chain_gives, in_kind}
use Rattle.name_meaning.specs.Froms.{source_step, from_all, first_item, in_from, label_of, scope_name, read_of}
use Rattle.name_meaning.specs.Items.{item_step, title}
use Rattle.name_meaning.specs.Meanings.{Surroundings, Part}
use Rattle.name_meaning.specs.Operands.{operand}
use Rattle.name_meaning.specs.Queries.{set_step, may_not_ask}
use Rattle.name_meaning.specs.Scopes.{look_up}
use Rattle.name_meaning.specs.Sublinks.{null_at, around_of, exists_meant, scalar_meant}
use Rattle.name_meaning.specs.declared.need.Gives.TheVariants.{Always as always, Common as common}
use Rattle.name_meaning.specs.declared.need.Need.TheVariants.{OfKind as of_kind, Alike as alike, Free as free}
use Rattle.name_meaning.specs.Trees.{query_of}
use Rattle.name_meaning.proofs.Induction.{BodyParts, ItemParts, SetParts, SourceParts, CoreParts, Optional, AreKept, kept-query}
use Rattle.name_meaning.proofs.ReadCores.{OptionalReads, BodyReads, SetStepReads, reads-core_seen, reads-chain, reads-query_seen}
use Rattle.name_meaning.proofs.ReadFroms.{IsHeld, SourceReads, FromItemReads, FromPartReads, JoinReads, reads-read_of, reads-item_meant, reads-join_all, reads-from_all}
use Rattle.name_meaning.proofs.ReadNodes.{Grows}
use Rattle.name_meaning.proofs.ReadMeant.{MeantReads, PartReads, QueryPartReads, StepReads, ArmReads, ItemReads, reads-known, reads-null, reads-column, reads-aggregate, reads-node, reads-operands, reads-operated, reads-steps, reads-case, reads-if_standing, reads-exists, reads-scalar, reads-tested, reads-star, reads-table_star, reads-value}

module _ (P : List (List ℕ) → ℕ → List Kind → Type 0) (g : Grows P) (c : Contents) (held : IsHeld P g c) where
  abbrev OfBody : Body → Type 0
  OfBody body = (at : ℕ) (here : Surroundings) → MeantReads P g (body.means at here)

  abbrev Parts : ExprBodyFrame → Type 0
  Parts = BodyParts c OfBody (ItemReads P g) (BodyReads P g) (SourceReads P g) (ArmReads P g) (StepReads P g) (PartReads P g) (BodyReads P g)
      (QueryPartReads P g) (SetStepReads P g) (FromItemReads P g) (FromPartReads P g) (JoinReads P g)

  abbrev PartsOfItem : SelectItemFrame → Type 0
  PartsOfItem = ItemParts c OfBody (ItemReads P g) (BodyReads P g) (SourceReads P g) (ArmReads P g) (StepReads P g) (PartReads P g) (BodyReads P g)
      (QueryPartReads P g) (SetStepReads P g) (FromItemReads P g) (FromPartReads P g) (JoinReads P g)

  abbrev PartsOfSet : SetTreeFrame → Type 0
  PartsOfSet = SetParts c OfBody (ItemReads P g) (BodyReads P g) (SourceReads P g) (ArmReads P g) (StepReads P g) (PartReads P g) (BodyReads P g)
      (QueryPartReads P g) (SetStepReads P g) (FromItemReads P g) (FromPartReads P g) (JoinReads P g)

  abbrev PartsOfSource : FromSourceFrame → Type 0
  PartsOfSource = SourceParts c OfBody (ItemReads P g) (BodyReads P g) (SourceReads P g) (ArmReads P g) (StepReads P g) (PartReads P g) (BodyReads P g)
      (QueryPartReads P g) (SetStepReads P g) (FromItemReads P g) (FromPartReads P g) (JoinReads P g)

  abbrev PartsOfCore : CoreFrame → Type 0
  PartsOfCore = CoreParts c OfBody (ItemReads P g) (BodyReads P g) (SourceReads P g) (ArmReads P g) (StepReads P g) (PartReads P g) (BodyReads P g)
      (QueryPartReads P g) (SetStepReads P g) (FromItemReads P g) (FromPartReads P g) (JoinReads P g)

  abbrev Kept : Type 0
  Kept = AreKept c OfBody (ItemReads P g) (BodyReads P g) (SourceReads P g) (ArmReads P g) (StepReads P g) (PartReads P g) (BodyReads P g)
      (QueryPartReads P g) (SetStepReads P g) (FromItemReads P g) (FromPartReads P g) (JoinReads P g)

  -- ---- expressions

  reads-body : (frame : ExprBodyFrame) → Parts frame → OfBody (body_step frame)
  reads-body ExprBody-F.Null h at here = reads-null P g
  reads-body (ExprBody-F.NullOf k) h at here = reads-known P g k (null_at k)
  reads-body (ExprBody-F.Integer number) h at here = reads-known P g kind.Integer (Lit (v.Integer number) kind.Integer)
  reads-body (ExprBody-F.Text text) h at here = reads-known P g kind.Text (Lit (v.Text text) kind.Text)
  reads-body (ExprBody-F.Truth truth) h at here = reads-known P g kind.Boolean (Lit (v.Boolean truth) kind.Boolean)
  reads-body (ExprBody-F.Column reference) h at here = reads-column P g here reference.at (look_up 0 here.scopes reference)
  reads-body (ExprBody-F.«ExprBody::Paren» part) h at here = h here
  reads-body (ExprBody-F.Nots count part) h at here =
      reads-operated P g x.Not true (λ es. times x.Not count (first_of es)) here (part ∷ []) (h, tt)
  reads-body (ExprBody-F.Signs count part) h at here =
      reads-operated P g x.Negate true (λ es. times x.Negate count (first_of es)) here (part ∷ []) (h, tt)
  reads-body (ExprBody-F.Logic op parts) h at here = reads-operated P g op false (Op op) here parts h
  reads-body (ExprBody-F.«ExprBody::Chain» first steps) h at here =
      reads-node P g (chain_gives steps) (chain_made steps) (operand here (first_need steps) first ∷ map (step_operand here) steps)
      (h.0 here, reads-steps P g here steps h.1)
  reads-body (ExprBody-F.Compared op first second) h at here =
      reads-operated P g (x.Compare op) false (Op (x.Compare op)) here (first ∷ second ∷ []) (h.0, (h.1, tt))
  reads-body (ExprBody-F.Like negated text pattern) h at here =
      reads-operated P g x.Like false (λ es. negated_if negated (Op x.Like es)) here (text ∷ pattern ∷ []) (h.0, (h.1, tt))
  reads-body (ExprBody-F.Between negated part low high) h at here =
      reads-operated P g x.Between false (λ es. negated_if negated (Op x.Between es)) here (part ∷ low ∷ high ∷ []) (h.0, (h.1, (h.2, tt)))
  reads-body (ExprBody-F.InList negated part list) h at here =
      reads-operated P g x.InList false (λ es. negated_if negated (Op x.InList es)) here (part ∷ list) h
  reads-body (ExprBody-F.InQuery negated part inner) h at here =
      reads-tested P g here at (in_kind negated (cond negated NotEqual Equal)) part inner h.0 h.1
  reads-body (ExprBody-F.Quantified every op part inner) h at here =
      reads-tested P g here at (in_kind every op) part inner h.0 h.1
  reads-body (ExprBody-F.IsNull negated part) h at here =
      reads-node P g (always kind.Boolean) (λ es. negated_if negated (IsNull (first_of es))) (operand here free part ∷ []) (h here, tt)
  reads-body (ExprBody-F.IsTruth negated truth part) h at here =
      reads-node P g (always kind.Boolean) (λ es. negated_if negated (IsTruth truth (first_of es))) (operand here (of_kind kind.Boolean) part ∷ [])
      (h here, tt)
  reads-body (ExprBody-F.IsDistinct negated first second) h at here =
      reads-node P g (always kind.Boolean) (λ es. negated_if (not negated) (Same (first_of es) (second_of es)))
      (operand here alike first ∷ operand here alike second ∷ []) (h.0 here, (h.1 here, tt))
  reads-body (ExprBody-F.Case arms None) h at here = reads-case P g here arms None h (reads-null P g)
  reads-body (ExprBody-F.Case arms (Some otherwise)) h at here = reads-case P g here arms (Some otherwise) h.0 (h.1 here)
  reads-body (ExprBody-F.Coalesce list) h at here =
      reads-node P g common (Op x.Coalesce) (map (operand here alike) list) (reads-operands P g here alike list h)
  reads-body (ExprBody-F.NullIf first second) h at here =
      reads-node P g common (Op x.NullIf) (operand here alike first ∷ operand here alike second ∷ []) (h.0 here, (h.1 here, tt))
  reads-body (ExprBody-F.Aggregate function None) h at here = reads-aggregate P g here at function None
  reads-body (ExprBody-F.Aggregate function (Some argument)) h at here = reads-aggregate P g here at function (Some argument)
  reads-body (ExprBody-F.Exists inner) h at here =
      reads-if_standing P g here at (Some kind.Boolean) (exists_meant here inner.at (inner.means (around_of here)))
      (reads-exists P g here inner.at (inner.means (around_of here)) (h (around_of here)))
  reads-body (ExprBody-F.Scalar inner) h at here =
      reads-if_standing P g here at None (scalar_meant here inner.at (inner.means (around_of here)))
      (reads-scalar P g here inner.at (inner.means (around_of here)) (h (around_of here)))

  -- ---- queries

  reads-item : (frame : SelectItemFrame) → PartsOfItem frame → ItemReads P g (item_step frame)
  reads-item (SelectItem-F.Star at) h has_from scope here = reads-star P g has_from scope at
  reads-item (SelectItem-F.TableStar table) h has_from scope here = reads-table_star P g scope table
  reads-item (SelectItem-F.Value expr name) h has_from scope here = reads-value P g (title name expr) (expr.means here) (h here)

  reads-set : (frame : SetTreeFrame) → PartsOfSet frame → BodyReads P g (set_step frame)
  reads-set (SetTree-F.Core core) h around = h around
  reads-set (SetTree-F.«SetTree::Paren» inner) h around = h (may_not_ask around)
  reads-set (SetTree-F.«SetTree::Chain» first steps) h around = reads-chain P g around (first.means around) steps (h.0 around) h.1

  reads-source : (frame : FromSourceFrame) → PartsOfSource frame → SourceReads P g (source_step frame)
  reads-source (FromSource-F.Named name) h = tt
  reads-source (FromSource-F.Inner inner) h = h

  reads-optional : (part : Option Part) → Optional c OfBody (ItemReads P g) (BodyReads P g) (SourceReads P g) (ArmReads P g) (StepReads P g) (PartReads P g) (BodyReads P g)
      (QueryPartReads P g) (SetStepReads P g) (FromItemReads P g) (FromPartReads P g) (JoinReads P g) part → OptionalReads P g part
  reads-optional None h = tt
  reads-optional (Some part) h = h

  reads-core : (frame : CoreFrame) → PartsOfCore frame → BodyReads P g (core_step frame)
  reads-core frame h around = reads-core_seen P g around frame.provenance (from_all around.outer frame.sources)
      (has_some frame.sources) frame.distinct frame.items frame.condition frame.groups frame.having
      (reads-from_all P g around.outer frame.sources h.sources) h.items
      (reads-optional frame.condition h.condition) (reads-optional frame.having h.having)

  kept : Kept
  kept = record {
    body = reads-body;
    item = reads-item;
    set = reads-set;
    source = reads-source;
    arm = λ frame condition value. (condition, value);
    step = λ frame part. part;
    part = λ frame body. body frame.at;
    core = reads-core;
    query = λ frame body around. reads-query_seen P g around frame.at frame.body frame.order frame.limit body;
    set_operand = λ frame operand. operand;
    from_item = λ frame source around earlier. reads-item_meant P g frame.at frame.mark earlier (scope_name frame.source frame.alias) (label_of frame.source frame.alias)
        (read_of c around frame.source)
        (reads-read_of P g c held around frame.source source);
    from_tree = λ frame first joins outer earlier. reads-join_all P g outer (first_item earlier (frame.first.means (in_from outer) earlier)) frame.joins
        (first (in_from outer) earlier) joins;
    join = λ frame item condition. (item, reads-optional frame.condition condition);
  }

  -- ---- every tree

  pub reads-query_tree : (tree : QueryTree) → QueryPartReads P g (query_of c tree)
  reads-query_tree = kept-query c OfBody (ItemReads P g) (BodyReads P g) (SourceReads P g) (ArmReads P g) (StepReads P g) (PartReads P g) (BodyReads P g)
      (QueryPartReads P g) (SetStepReads P g) (FromItemReads P g) (FromPartReads P g) (JoinReads P g) kept
