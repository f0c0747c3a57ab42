-- What each step of the meaning keeps holds of the meaning of every tree.
use Rattle.std.specs.Prelude.{◌≡◌, ⊤, Option, Some, None}
use Rattle.std.proofs.Common.{sym, subst}
use Rattle.perm_catalog.specs.Contents.{Contents}
use Rattle.sql_tree.specs.Regular.{BodyLayer, ItemLayer, SetLayer, SourceLayer}
use Rattle.sql_tree.specs.declared.expression.ArmTree.{ArmTree, roll-ArmTree}
use Rattle.sql_tree.specs.declared.expression.ExprBody.{ExprBody, roll-ExprBody}
use Rattle.sql_tree.specs.declared.expression.ExprBody.TheFolds.{map-ExprBody, map-SelectItem, map-SetTree, map-FromSource, map-ArmTree, map-ExprStep, map-ExprTree, map-Core, map-QueryTree, map-SetStep, map-FromItem, map-FromTree, map-JoinStep, fold-roll-ExprBody, fold-roll-SelectItem, fold-roll-SetTree, fold-roll-FromSource, fold-roll-ArmTree, fold-roll-ExprStep, fold-roll-ExprTree, fold-roll-Core, fold-roll-QueryTree, fold-roll-SetStep, fold-roll-FromItem, fold-roll-FromTree, fold-roll-JoinStep, ind-ExprTree, ind-QueryTree, ind-SetTree, ind-Core, ind-SelectItem, ind-FromItem, ind-FromTree}
use Rattle.sql_tree.specs.declared.expression.ExprBody.TheOpen.{ExprBody-F, SelectItem-F, SetTree-F, FromSource-F, ArmTree-F, ExprStep-F, ExprTree-F, Core-F, QueryTree-F, SetStep-F, FromItem-F, FromTree-F, JoinStep-F}
use Rattle.sql_tree.specs.declared.expression.ExprStep.{ExprStep, roll-ExprStep}
use Rattle.sql_tree.specs.declared.expression.ExprTree.{ExprTree, roll-ExprTree}
use Rattle.sql_tree.specs.declared.query.Core.{Core, roll-Core}
use Rattle.sql_tree.specs.declared.query.QueryTree.{QueryTree, roll-QueryTree}
use Rattle.sql_tree.specs.declared.query.SelectItem.{SelectItem, roll-SelectItem}
use Rattle.sql_tree.specs.declared.query.SetStep.{SetStep, roll-SetStep}
use Rattle.sql_tree.specs.declared.query.SetTree.{SetTree, roll-SetTree}
use Rattle.sql_tree.specs.declared.source.FromItem.{FromItem, roll-FromItem}
use Rattle.sql_tree.specs.declared.source.FromSource.{FromSource, roll-FromSource}
use Rattle.sql_tree.specs.declared.source.FromTree.{FromTree, roll-FromTree}
use Rattle.sql_tree.specs.declared.source.JoinStep.{JoinStep, roll-JoinStep}
use Rattle.contribution.proofs.WhereGood.{Every}
use Rattle.name_meaning.proofs.Equations.{ExprBodyFrame, SelectItemFrame, SetTreeFrame, FromSourceFrame, ArmTreeFrame, ExprStepFrame, ExprTreeFrame, CoreFrame, QueryTreeFrame, SetStepFrame, FromItemFrame, FromTreeFrame, JoinStepFrame}
use Rattle.name_meaning.specs.Cores.{BodyPart, core_step}
use Rattle.name_meaning.specs.Expressions.{Body, StepPart, ArmPart, body_step, arm_step, step_step, expr_step}
use Rattle.name_meaning.specs.Froms.{SourcePart, FromItemPart, FromPart, JoinPart, source_step, from_item_step, from_step, join_step}
use Rattle.name_meaning.specs.Items.{SelectPart, item_step}
use Rattle.name_meaning.specs.Meanings.{Part, QueryPart}
use Rattle.name_meaning.specs.Queries.{SetStepPart, set_step, set_step_step, query_step}
use Rattle.name_meaning.specs.Trees.{body_of, item_of, set_of_tree, source_of, arm_of, step_of, part_of, core_of, query_of, set_step_of, from_item_of, from_of, join_of}
use Rattle.name_meaning.proofs.Every.{every-proved}
use Rattle.name_meaning.proofs.Opened.{ArmLayer, StepLayer, PartLayer, CoreLayer, QueryLayer, SetStepLayer, FromItemLayer, FromLayer, JoinLayer, shown_body, shown_item, shown_set, shown_source, shown_arm, shown_step, shown_part, shown_core, shown_query, shown_set_step, shown_from_item, shown_from, shown_join}

module _ (c : Contents) (OfBody : Body → Type 0) (OfItem : SelectPart → Type 0) (OfSet : BodyPart → Type 0) (OfSource : SourcePart → Type 0)
    (OfArm : ArmPart → Type 0) (OfStep : StepPart → Type 0) (OfPart : Part → Type 0) (OfCore : BodyPart → Type 0) (OfQuery : QueryPart → Type 0)
    (OfSetStep : SetStepPart → Type 0) (OfFromItem : FromItemPart → Type 0) (OfFrom : FromPart → Type 0) (OfJoin : JoinPart → Type 0) where
  -- it holds of all parts of one level
  abbrev pub BodyParts : ExprBodyFrame → Type 0
  BodyParts ExprBody-F.Null = ⊤
  BodyParts (ExprBody-F.NullOf kind) = ⊤
  BodyParts (ExprBody-F.Integer number) = ⊤
  BodyParts (ExprBody-F.Text text) = ⊤
  BodyParts (ExprBody-F.Truth truth) = ⊤
  BodyParts (ExprBody-F.Column reference) = ⊤
  BodyParts (ExprBody-F.«ExprBody::Paren» part) = OfPart part
  BodyParts (ExprBody-F.Nots count part) = OfPart part
  BodyParts (ExprBody-F.Signs count part) = OfPart part
  BodyParts (ExprBody-F.Logic op parts) = Every OfPart parts
  BodyParts (ExprBody-F.«ExprBody::Chain» first steps) = OfPart first × Every OfStep steps
  BodyParts (ExprBody-F.Compared op first second) = OfPart first × OfPart second
  BodyParts (ExprBody-F.Like negated text pattern) = OfPart text × OfPart pattern
  BodyParts (ExprBody-F.Between negated part low high) = OfPart part × OfPart low × OfPart high
  BodyParts (ExprBody-F.InList negated part list) = OfPart part × Every OfPart list
  BodyParts (ExprBody-F.InQuery negated part query) = OfPart part × OfQuery query
  BodyParts (ExprBody-F.Quantified every op part query) = OfPart part × OfQuery query
  BodyParts (ExprBody-F.IsNull negated part) = OfPart part
  BodyParts (ExprBody-F.IsTruth negated truth part) = OfPart part
  BodyParts (ExprBody-F.IsDistinct negated first second) = OfPart first × OfPart second
  BodyParts (ExprBody-F.Case arms None) = Every OfArm arms
  BodyParts (ExprBody-F.Case arms (Some otherwise)) = Every OfArm arms × OfPart otherwise
  BodyParts (ExprBody-F.Coalesce list) = Every OfPart list
  BodyParts (ExprBody-F.NullIf first second) = OfPart first × OfPart second
  BodyParts (ExprBody-F.Aggregate function None) = ⊤
  BodyParts (ExprBody-F.Aggregate function (Some argument)) = OfPart argument
  BodyParts (ExprBody-F.Exists query) = OfQuery query
  BodyParts (ExprBody-F.Scalar query) = OfQuery query

  abbrev pub ItemParts : SelectItemFrame → Type 0
  ItemParts (SelectItem-F.Star at) = ⊤
  ItemParts (SelectItem-F.TableStar table) = ⊤
  ItemParts (SelectItem-F.Value expr name) = OfPart expr

  abbrev pub SetParts : SetTreeFrame → Type 0
  SetParts (SetTree-F.Core core) = OfCore core
  SetParts (SetTree-F.«SetTree::Paren» query) = OfQuery query
  SetParts (SetTree-F.«SetTree::Chain» first steps) = OfSet first × Every OfSetStep steps

  abbrev pub SourceParts : FromSourceFrame → Type 0
  SourceParts (FromSource-F.Named name) = ⊤
  SourceParts (FromSource-F.Inner query) = OfQuery query

  abbrev pub Optional : Option Part → Type 0
  Optional None = ⊤
  Optional (Some part) = OfPart part

  pub record CoreParts (frame : CoreFrame) : Type 0 where
    pub items : Every OfItem frame.items
    pub sources : Every OfFrom frame.sources
    pub condition : Optional frame.condition
    pub having : Optional frame.having

  -- each step keeps it
  pub record AreKept : Type 0 where
    pub body : (frame : ExprBodyFrame) → BodyParts frame → OfBody (body_step frame)
    pub item : (frame : SelectItemFrame) → ItemParts frame → OfItem (item_step frame)
    pub set : (frame : SetTreeFrame) → SetParts frame → OfSet (set_step frame)
    pub source : (frame : FromSourceFrame) → SourceParts frame → OfSource (source_step frame)
    pub arm : (frame : ArmTreeFrame) → OfPart frame.condition → OfPart frame.value → OfArm (arm_step frame)
    pub step : (frame : ExprStepFrame) → OfPart frame.part → OfStep (step_step frame)
    pub part : (frame : ExprTreeFrame) → OfBody frame.body → OfPart (expr_step frame)
    pub core : (frame : CoreFrame) → CoreParts frame → OfCore (core_step frame)
    pub query : (frame : QueryTreeFrame) → OfSet frame.body → OfQuery (query_step frame)
    pub set_operand : (frame : SetStepFrame) → OfSet frame.operand → OfSetStep (set_step_step frame)
    pub from_item : (frame : FromItemFrame) → OfSource frame.source → OfFromItem (from_item_step c frame)
    pub from_tree : (frame : FromTreeFrame) → OfFromItem frame.first → Every OfJoin frame.joins → OfFrom (from_step frame)
    pub join : (frame : JoinStepFrame) → OfFromItem frame.item → Optional frame.condition → OfJoin (join_step frame)

  abbrev WithBody : Type 0
  WithBody = (tree : ExprBody) × OfBody (body_of c tree)

  abbrev WithItem : Type 0
  WithItem = (tree : SelectItem) × OfItem (item_of c tree)

  abbrev WithSet : Type 0
  WithSet = (tree : SetTree) × OfSet (set_of_tree c tree)

  abbrev WithSource : Type 0
  WithSource = (tree : FromSource) × OfSource (source_of c tree)

  abbrev WithArm : Type 0
  WithArm = (tree : ArmTree) × OfArm (arm_of c tree)

  abbrev WithStep : Type 0
  WithStep = (tree : ExprStep) × OfStep (step_of c tree)

  abbrev WithPart : Type 0
  WithPart = (tree : ExprTree) × OfPart (part_of c tree)

  abbrev WithCore : Type 0
  WithCore = (tree : Core) × OfCore (core_of c tree)

  abbrev WithQuery : Type 0
  WithQuery = (tree : QueryTree) × OfQuery (query_of c tree)

  abbrev WithSetStep : Type 0
  WithSetStep = (tree : SetStep) × OfSetStep (set_step_of c tree)

  abbrev WithFromItem : Type 0
  WithFromItem = (tree : FromItem) × OfFromItem (from_item_of c tree)

  abbrev WithFrom : Type 0
  WithFrom = (tree : FromTree) × OfFrom (from_of c tree)

  abbrev WithJoin : Type 0
  WithJoin = (tree : JoinStep) × OfJoin (join_of c tree)

  -- ---- one level of a tree, with a proof beside each part

  abbrev Proved_body : Type 0
  Proved_body = ExprBody-F WithBody WithItem WithSet WithSource WithArm WithStep WithPart WithCore WithQuery WithSetStep WithFromItem WithFrom WithJoin

  abbrev first_body : Proved_body → BodyLayer
  first_body = map-ExprBody WithBody WithItem WithSet WithSource WithArm WithStep WithPart WithCore WithQuery WithSetStep WithFromItem WithFrom WithJoin
      ExprBody SelectItem SetTree FromSource ArmTree ExprStep ExprTree Core QueryTree SetStep FromItem FromTree JoinStep
      (λ (e : WithBody). e.0) (λ (e : WithItem). e.0) (λ (e : WithSet). e.0) (λ (e : WithSource). e.0) (λ (e : WithArm). e.0) (λ (e : WithStep). e.0) (λ (e : WithPart). e.0) (λ (e : WithCore). e.0) (λ (e : WithQuery). e.0) (λ (e : WithSetStep). e.0) (λ (e : WithFromItem). e.0) (λ (e : WithFrom). e.0) (λ (e : WithJoin). e.0)

  abbrev Proved_item : Type 0
  Proved_item = SelectItem-F WithBody WithItem WithSet WithSource WithArm WithStep WithPart WithCore WithQuery WithSetStep WithFromItem WithFrom WithJoin

  abbrev first_item : Proved_item → ItemLayer
  first_item = map-SelectItem WithBody WithItem WithSet WithSource WithArm WithStep WithPart WithCore WithQuery WithSetStep WithFromItem WithFrom WithJoin
      ExprBody SelectItem SetTree FromSource ArmTree ExprStep ExprTree Core QueryTree SetStep FromItem FromTree JoinStep
      (λ (e : WithBody). e.0) (λ (e : WithItem). e.0) (λ (e : WithSet). e.0) (λ (e : WithSource). e.0) (λ (e : WithArm). e.0) (λ (e : WithStep). e.0) (λ (e : WithPart). e.0) (λ (e : WithCore). e.0) (λ (e : WithQuery). e.0) (λ (e : WithSetStep). e.0) (λ (e : WithFromItem). e.0) (λ (e : WithFrom). e.0) (λ (e : WithJoin). e.0)

  abbrev Proved_set : Type 0
  Proved_set = SetTree-F WithBody WithItem WithSet WithSource WithArm WithStep WithPart WithCore WithQuery WithSetStep WithFromItem WithFrom WithJoin

  abbrev first_set : Proved_set → SetLayer
  first_set = map-SetTree WithBody WithItem WithSet WithSource WithArm WithStep WithPart WithCore WithQuery WithSetStep WithFromItem WithFrom WithJoin
      ExprBody SelectItem SetTree FromSource ArmTree ExprStep ExprTree Core QueryTree SetStep FromItem FromTree JoinStep
      (λ (e : WithBody). e.0) (λ (e : WithItem). e.0) (λ (e : WithSet). e.0) (λ (e : WithSource). e.0) (λ (e : WithArm). e.0) (λ (e : WithStep). e.0) (λ (e : WithPart). e.0) (λ (e : WithCore). e.0) (λ (e : WithQuery). e.0) (λ (e : WithSetStep). e.0) (λ (e : WithFromItem). e.0) (λ (e : WithFrom). e.0) (λ (e : WithJoin). e.0)

  abbrev Proved_source : Type 0
  Proved_source = FromSource-F WithBody WithItem WithSet WithSource WithArm WithStep WithPart WithCore WithQuery WithSetStep WithFromItem WithFrom WithJoin

  abbrev first_source : Proved_source → SourceLayer
  first_source = map-FromSource WithBody WithItem WithSet WithSource WithArm WithStep WithPart WithCore WithQuery WithSetStep WithFromItem WithFrom WithJoin
      ExprBody SelectItem SetTree FromSource ArmTree ExprStep ExprTree Core QueryTree SetStep FromItem FromTree JoinStep
      (λ (e : WithBody). e.0) (λ (e : WithItem). e.0) (λ (e : WithSet). e.0) (λ (e : WithSource). e.0) (λ (e : WithArm). e.0) (λ (e : WithStep). e.0) (λ (e : WithPart). e.0) (λ (e : WithCore). e.0) (λ (e : WithQuery). e.0) (λ (e : WithSetStep). e.0) (λ (e : WithFromItem). e.0) (λ (e : WithFrom). e.0) (λ (e : WithJoin). e.0)

  abbrev Proved_arm : Type 0
  Proved_arm = ArmTree-F WithBody WithItem WithSet WithSource WithArm WithStep WithPart WithCore WithQuery WithSetStep WithFromItem WithFrom WithJoin

  abbrev first_arm : Proved_arm → ArmLayer
  first_arm = map-ArmTree WithBody WithItem WithSet WithSource WithArm WithStep WithPart WithCore WithQuery WithSetStep WithFromItem WithFrom WithJoin
      ExprBody SelectItem SetTree FromSource ArmTree ExprStep ExprTree Core QueryTree SetStep FromItem FromTree JoinStep
      (λ (e : WithBody). e.0) (λ (e : WithItem). e.0) (λ (e : WithSet). e.0) (λ (e : WithSource). e.0) (λ (e : WithArm). e.0) (λ (e : WithStep). e.0) (λ (e : WithPart). e.0) (λ (e : WithCore). e.0) (λ (e : WithQuery). e.0) (λ (e : WithSetStep). e.0) (λ (e : WithFromItem). e.0) (λ (e : WithFrom). e.0) (λ (e : WithJoin). e.0)

  abbrev Proved_step : Type 0
  Proved_step = ExprStep-F WithBody WithItem WithSet WithSource WithArm WithStep WithPart WithCore WithQuery WithSetStep WithFromItem WithFrom WithJoin

  abbrev first_step : Proved_step → StepLayer
  first_step = map-ExprStep WithBody WithItem WithSet WithSource WithArm WithStep WithPart WithCore WithQuery WithSetStep WithFromItem WithFrom WithJoin
      ExprBody SelectItem SetTree FromSource ArmTree ExprStep ExprTree Core QueryTree SetStep FromItem FromTree JoinStep
      (λ (e : WithBody). e.0) (λ (e : WithItem). e.0) (λ (e : WithSet). e.0) (λ (e : WithSource). e.0) (λ (e : WithArm). e.0) (λ (e : WithStep). e.0) (λ (e : WithPart). e.0) (λ (e : WithCore). e.0) (λ (e : WithQuery). e.0) (λ (e : WithSetStep). e.0) (λ (e : WithFromItem). e.0) (λ (e : WithFrom). e.0) (λ (e : WithJoin). e.0)

  abbrev Proved_part : Type 0
  Proved_part = ExprTree-F WithBody WithItem WithSet WithSource WithArm WithStep WithPart WithCore WithQuery WithSetStep WithFromItem WithFrom WithJoin

  abbrev first_part : Proved_part → PartLayer
  first_part = map-ExprTree WithBody WithItem WithSet WithSource WithArm WithStep WithPart WithCore WithQuery WithSetStep WithFromItem WithFrom WithJoin
      ExprBody SelectItem SetTree FromSource ArmTree ExprStep ExprTree Core QueryTree SetStep FromItem FromTree JoinStep
      (λ (e : WithBody). e.0) (λ (e : WithItem). e.0) (λ (e : WithSet). e.0) (λ (e : WithSource). e.0) (λ (e : WithArm). e.0) (λ (e : WithStep). e.0) (λ (e : WithPart). e.0) (λ (e : WithCore). e.0) (λ (e : WithQuery). e.0) (λ (e : WithSetStep). e.0) (λ (e : WithFromItem). e.0) (λ (e : WithFrom). e.0) (λ (e : WithJoin). e.0)

  abbrev Proved_core : Type 0
  Proved_core = Core-F WithBody WithItem WithSet WithSource WithArm WithStep WithPart WithCore WithQuery WithSetStep WithFromItem WithFrom WithJoin

  abbrev first_core : Proved_core → CoreLayer
  first_core = map-Core WithBody WithItem WithSet WithSource WithArm WithStep WithPart WithCore WithQuery WithSetStep WithFromItem WithFrom WithJoin
      ExprBody SelectItem SetTree FromSource ArmTree ExprStep ExprTree Core QueryTree SetStep FromItem FromTree JoinStep
      (λ (e : WithBody). e.0) (λ (e : WithItem). e.0) (λ (e : WithSet). e.0) (λ (e : WithSource). e.0) (λ (e : WithArm). e.0) (λ (e : WithStep). e.0) (λ (e : WithPart). e.0) (λ (e : WithCore). e.0) (λ (e : WithQuery). e.0) (λ (e : WithSetStep). e.0) (λ (e : WithFromItem). e.0) (λ (e : WithFrom). e.0) (λ (e : WithJoin). e.0)

  abbrev Proved_query : Type 0
  Proved_query = QueryTree-F WithBody WithItem WithSet WithSource WithArm WithStep WithPart WithCore WithQuery WithSetStep WithFromItem WithFrom WithJoin

  abbrev first_query : Proved_query → QueryLayer
  first_query = map-QueryTree WithBody WithItem WithSet WithSource WithArm WithStep WithPart WithCore WithQuery WithSetStep WithFromItem WithFrom WithJoin
      ExprBody SelectItem SetTree FromSource ArmTree ExprStep ExprTree Core QueryTree SetStep FromItem FromTree JoinStep
      (λ (e : WithBody). e.0) (λ (e : WithItem). e.0) (λ (e : WithSet). e.0) (λ (e : WithSource). e.0) (λ (e : WithArm). e.0) (λ (e : WithStep). e.0) (λ (e : WithPart). e.0) (λ (e : WithCore). e.0) (λ (e : WithQuery). e.0) (λ (e : WithSetStep). e.0) (λ (e : WithFromItem). e.0) (λ (e : WithFrom). e.0) (λ (e : WithJoin). e.0)

  abbrev Proved_set_step : Type 0
  Proved_set_step = SetStep-F WithBody WithItem WithSet WithSource WithArm WithStep WithPart WithCore WithQuery WithSetStep WithFromItem WithFrom WithJoin

  abbrev first_set_step : Proved_set_step → SetStepLayer
  first_set_step = map-SetStep WithBody WithItem WithSet WithSource WithArm WithStep WithPart WithCore WithQuery WithSetStep WithFromItem WithFrom WithJoin
      ExprBody SelectItem SetTree FromSource ArmTree ExprStep ExprTree Core QueryTree SetStep FromItem FromTree JoinStep
      (λ (e : WithBody). e.0) (λ (e : WithItem). e.0) (λ (e : WithSet). e.0) (λ (e : WithSource). e.0) (λ (e : WithArm). e.0) (λ (e : WithStep). e.0) (λ (e : WithPart). e.0) (λ (e : WithCore). e.0) (λ (e : WithQuery). e.0) (λ (e : WithSetStep). e.0) (λ (e : WithFromItem). e.0) (λ (e : WithFrom). e.0) (λ (e : WithJoin). e.0)

  abbrev Proved_from_item : Type 0
  Proved_from_item = FromItem-F WithBody WithItem WithSet WithSource WithArm WithStep WithPart WithCore WithQuery WithSetStep WithFromItem WithFrom WithJoin

  abbrev first_from_item : Proved_from_item → FromItemLayer
  first_from_item = map-FromItem WithBody WithItem WithSet WithSource WithArm WithStep WithPart WithCore WithQuery WithSetStep WithFromItem WithFrom WithJoin
      ExprBody SelectItem SetTree FromSource ArmTree ExprStep ExprTree Core QueryTree SetStep FromItem FromTree JoinStep
      (λ (e : WithBody). e.0) (λ (e : WithItem). e.0) (λ (e : WithSet). e.0) (λ (e : WithSource). e.0) (λ (e : WithArm). e.0) (λ (e : WithStep). e.0) (λ (e : WithPart). e.0) (λ (e : WithCore). e.0) (λ (e : WithQuery). e.0) (λ (e : WithSetStep). e.0) (λ (e : WithFromItem). e.0) (λ (e : WithFrom). e.0) (λ (e : WithJoin). e.0)

  abbrev Proved_from : Type 0
  Proved_from = FromTree-F WithBody WithItem WithSet WithSource WithArm WithStep WithPart WithCore WithQuery WithSetStep WithFromItem WithFrom WithJoin

  abbrev first_from : Proved_from → FromLayer
  first_from = map-FromTree WithBody WithItem WithSet WithSource WithArm WithStep WithPart WithCore WithQuery WithSetStep WithFromItem WithFrom WithJoin
      ExprBody SelectItem SetTree FromSource ArmTree ExprStep ExprTree Core QueryTree SetStep FromItem FromTree JoinStep
      (λ (e : WithBody). e.0) (λ (e : WithItem). e.0) (λ (e : WithSet). e.0) (λ (e : WithSource). e.0) (λ (e : WithArm). e.0) (λ (e : WithStep). e.0) (λ (e : WithPart). e.0) (λ (e : WithCore). e.0) (λ (e : WithQuery). e.0) (λ (e : WithSetStep). e.0) (λ (e : WithFromItem). e.0) (λ (e : WithFrom). e.0) (λ (e : WithJoin). e.0)

  abbrev Proved_join : Type 0
  Proved_join = JoinStep-F WithBody WithItem WithSet WithSource WithArm WithStep WithPart WithCore WithQuery WithSetStep WithFromItem WithFrom WithJoin

  abbrev first_join : Proved_join → JoinLayer
  first_join = map-JoinStep WithBody WithItem WithSet WithSource WithArm WithStep WithPart WithCore WithQuery WithSetStep WithFromItem WithFrom WithJoin
      ExprBody SelectItem SetTree FromSource ArmTree ExprStep ExprTree Core QueryTree SetStep FromItem FromTree JoinStep
      (λ (e : WithBody). e.0) (λ (e : WithItem). e.0) (λ (e : WithSet). e.0) (λ (e : WithSource). e.0) (λ (e : WithArm). e.0) (λ (e : WithStep). e.0) (λ (e : WithPart). e.0) (λ (e : WithCore). e.0) (λ (e : WithQuery). e.0) (λ (e : WithSetStep). e.0) (λ (e : WithFromItem). e.0) (λ (e : WithFrom). e.0) (λ (e : WithJoin). e.0)

  parts_body : (y : Proved_body) → BodyParts (shown_body c (first_body y))
  parts_body ExprBody-F.Null = tt
  parts_body (ExprBody-F.NullOf kind) = tt
  parts_body (ExprBody-F.Integer number) = tt
  parts_body (ExprBody-F.Text text) = tt
  parts_body (ExprBody-F.Truth truth) = tt
  parts_body (ExprBody-F.Column reference) = tt
  parts_body (ExprBody-F.«ExprBody::Paren» part) = part.1
  parts_body (ExprBody-F.Nots count part) = part.1
  parts_body (ExprBody-F.Signs count part) = part.1
  parts_body (ExprBody-F.Logic op parts) = every-proved OfPart (part_of c) parts
  parts_body (ExprBody-F.«ExprBody::Chain» first steps) = (first.1, every-proved OfStep (step_of c) steps)
  parts_body (ExprBody-F.Compared op first second) = (first.1, second.1)
  parts_body (ExprBody-F.Like negated text pattern) = (text.1, pattern.1)
  parts_body (ExprBody-F.Between negated part low high) = (part.1, low.1, high.1)
  parts_body (ExprBody-F.InList negated part list) = (part.1, every-proved OfPart (part_of c) list)
  parts_body (ExprBody-F.InQuery negated part query) = (part.1, query.1)
  parts_body (ExprBody-F.Quantified every op part query) = (part.1, query.1)
  parts_body (ExprBody-F.IsNull negated part) = part.1
  parts_body (ExprBody-F.IsTruth negated truth part) = part.1
  parts_body (ExprBody-F.IsDistinct negated first second) = (first.1, second.1)
  parts_body (ExprBody-F.Case arms None) = every-proved OfArm (arm_of c) arms
  parts_body (ExprBody-F.Case arms (Some otherwise)) = (every-proved OfArm (arm_of c) arms, otherwise.1)
  parts_body (ExprBody-F.Coalesce list) = every-proved OfPart (part_of c) list
  parts_body (ExprBody-F.NullIf first second) = (first.1, second.1)
  parts_body (ExprBody-F.Aggregate function None) = tt
  parts_body (ExprBody-F.Aggregate function (Some argument)) = argument.1
  parts_body (ExprBody-F.Exists query) = query.1
  parts_body (ExprBody-F.Scalar query) = query.1

  parts_item : (y : Proved_item) → ItemParts (shown_item c (first_item y))
  parts_item (SelectItem-F.Star at) = tt
  parts_item (SelectItem-F.TableStar table) = tt
  parts_item (SelectItem-F.Value expr name) = expr.1

  parts_set : (y : Proved_set) → SetParts (shown_set c (first_set y))
  parts_set (SetTree-F.Core core) = core.1
  parts_set (SetTree-F.«SetTree::Paren» query) = query.1
  parts_set (SetTree-F.«SetTree::Chain» first steps) = (first.1, every-proved OfSetStep (set_step_of c) steps)

  parts_source : (y : Proved_source) → SourceParts (shown_source c (first_source y))
  parts_source (FromSource-F.Named name) = tt
  parts_source (FromSource-F.Inner query) = query.1

  condition_part : (y : Proved_core) (o : Option WithPart) → Optional (shown_core c (first_core (record y { condition = o }))).condition
  condition_part y None = tt
  condition_part y (Some e) = e.1

  having_part : (y : Proved_core) (o : Option WithPart) → Optional (shown_core c (first_core (record y { having = o }))).having
  having_part y None = tt
  having_part y (Some e) = e.1

  parts_core : (y : Proved_core) → CoreParts (shown_core c (first_core y))
  parts_core y = record {
    items = every-proved OfItem (item_of c) y.items;
    sources = every-proved OfFrom (from_of c) y.sources;
    condition = condition_part y y.condition;
    having = having_part y y.having;
  }

  on_part : (y : Proved_join) (o : Option WithPart) → Optional (shown_join c (first_join (record y { condition = o }))).condition
  on_part y None = tt
  on_part y (Some e) = e.1

  -- ---- the induction

  module _ (kept : AreKept) where
    holds_body : (x : BodyLayer) (y : Proved_body) → first_body y ≡ x → OfBody (body_of c (roll-ExprBody x))
    unfolding body_of item_of set_of_tree source_of arm_of step_of part_of core_of query_of set_step_of from_item_of from_of join_of
    holds_body x y is = subst (λ z. OfBody (body_of c (roll-ExprBody z))) is (subst OfBody
        (sym (fold-roll-ExprBody Body SelectPart BodyPart SourcePart ArmPart StepPart Part BodyPart QueryPart SetStepPart FromItemPart FromPart JoinPart
        body_step item_step set_step source_step arm_step step_step expr_step core_step query_step set_step_step (from_item_step c) from_step join_step (first_body y)))
        (kept.body (shown_body c (first_body y)) (parts_body y)))

    holds_item : (x : ItemLayer) (y : Proved_item) → first_item y ≡ x → OfItem (item_of c (roll-SelectItem x))
    unfolding body_of item_of set_of_tree source_of arm_of step_of part_of core_of query_of set_step_of from_item_of from_of join_of
    holds_item x y is = subst (λ z. OfItem (item_of c (roll-SelectItem z))) is (subst OfItem
        (sym (fold-roll-SelectItem Body SelectPart BodyPart SourcePart ArmPart StepPart Part BodyPart QueryPart SetStepPart FromItemPart FromPart JoinPart
        body_step item_step set_step source_step arm_step step_step expr_step core_step query_step set_step_step (from_item_step c) from_step join_step (first_item y)))
        (kept.item (shown_item c (first_item y)) (parts_item y)))

    holds_set : (x : SetLayer) (y : Proved_set) → first_set y ≡ x → OfSet (set_of_tree c (roll-SetTree x))
    unfolding body_of item_of set_of_tree source_of arm_of step_of part_of core_of query_of set_step_of from_item_of from_of join_of
    holds_set x y is = subst (λ z. OfSet (set_of_tree c (roll-SetTree z))) is (subst OfSet
        (sym (fold-roll-SetTree Body SelectPart BodyPart SourcePart ArmPart StepPart Part BodyPart QueryPart SetStepPart FromItemPart FromPart JoinPart
        body_step item_step set_step source_step arm_step step_step expr_step core_step query_step set_step_step (from_item_step c) from_step join_step (first_set y)))
        (kept.set (shown_set c (first_set y)) (parts_set y)))

    holds_source : (x : SourceLayer) (y : Proved_source) → first_source y ≡ x → OfSource (source_of c (roll-FromSource x))
    unfolding body_of item_of set_of_tree source_of arm_of step_of part_of core_of query_of set_step_of from_item_of from_of join_of
    holds_source x y is = subst (λ z. OfSource (source_of c (roll-FromSource z))) is (subst OfSource
        (sym (fold-roll-FromSource Body SelectPart BodyPart SourcePart ArmPart StepPart Part BodyPart QueryPart SetStepPart FromItemPart FromPart JoinPart
        body_step item_step set_step source_step arm_step step_step expr_step core_step query_step set_step_step (from_item_step c) from_step join_step (first_source y)))
        (kept.source (shown_source c (first_source y)) (parts_source y)))

    holds_arm : (x : ArmLayer) (y : Proved_arm) → first_arm y ≡ x → OfArm (arm_of c (roll-ArmTree x))
    unfolding body_of item_of set_of_tree source_of arm_of step_of part_of core_of query_of set_step_of from_item_of from_of join_of
    holds_arm x y is = subst (λ z. OfArm (arm_of c (roll-ArmTree z))) is (subst OfArm
        (sym (fold-roll-ArmTree Body SelectPart BodyPart SourcePart ArmPart StepPart Part BodyPart QueryPart SetStepPart FromItemPart FromPart JoinPart
        body_step item_step set_step source_step arm_step step_step expr_step core_step query_step set_step_step (from_item_step c) from_step join_step (first_arm y)))
        (kept.arm (shown_arm c (first_arm y)) y.condition.1 y.value.1))

    holds_step : (x : StepLayer) (y : Proved_step) → first_step y ≡ x → OfStep (step_of c (roll-ExprStep x))
    unfolding body_of item_of set_of_tree source_of arm_of step_of part_of core_of query_of set_step_of from_item_of from_of join_of
    holds_step x y is = subst (λ z. OfStep (step_of c (roll-ExprStep z))) is (subst OfStep
        (sym (fold-roll-ExprStep Body SelectPart BodyPart SourcePart ArmPart StepPart Part BodyPart QueryPart SetStepPart FromItemPart FromPart JoinPart
        body_step item_step set_step source_step arm_step step_step expr_step core_step query_step set_step_step (from_item_step c) from_step join_step (first_step y)))
        (kept.step (shown_step c (first_step y)) y.part.1))

    holds_part : (x : PartLayer) (y : Proved_part) → first_part y ≡ x → OfPart (part_of c (roll-ExprTree x))
    unfolding body_of item_of set_of_tree source_of arm_of step_of part_of core_of query_of set_step_of from_item_of from_of join_of
    holds_part x y is = subst (λ z. OfPart (part_of c (roll-ExprTree z))) is (subst OfPart
        (sym (fold-roll-ExprTree Body SelectPart BodyPart SourcePart ArmPart StepPart Part BodyPart QueryPart SetStepPart FromItemPart FromPart JoinPart
        body_step item_step set_step source_step arm_step step_step expr_step core_step query_step set_step_step (from_item_step c) from_step join_step (first_part y)))
        (kept.part (shown_part c (first_part y)) y.body.1))

    holds_core : (x : CoreLayer) (y : Proved_core) → first_core y ≡ x → OfCore (core_of c (roll-Core x))
    unfolding body_of item_of set_of_tree source_of arm_of step_of part_of core_of query_of set_step_of from_item_of from_of join_of
    holds_core x y is = subst (λ z. OfCore (core_of c (roll-Core z))) is (subst OfCore
        (sym (fold-roll-Core Body SelectPart BodyPart SourcePart ArmPart StepPart Part BodyPart QueryPart SetStepPart FromItemPart FromPart JoinPart
        body_step item_step set_step source_step arm_step step_step expr_step core_step query_step set_step_step (from_item_step c) from_step join_step (first_core y)))
        (kept.core (shown_core c (first_core y)) (parts_core y)))

    holds_query : (x : QueryLayer) (y : Proved_query) → first_query y ≡ x → OfQuery (query_of c (roll-QueryTree x))
    unfolding body_of item_of set_of_tree source_of arm_of step_of part_of core_of query_of set_step_of from_item_of from_of join_of
    holds_query x y is = subst (λ z. OfQuery (query_of c (roll-QueryTree z))) is (subst OfQuery
        (sym (fold-roll-QueryTree Body SelectPart BodyPart SourcePart ArmPart StepPart Part BodyPart QueryPart SetStepPart FromItemPart FromPart JoinPart
        body_step item_step set_step source_step arm_step step_step expr_step core_step query_step set_step_step (from_item_step c) from_step join_step (first_query y)))
        (kept.query (shown_query c (first_query y)) y.body.1))

    holds_set_step : (x : SetStepLayer) (y : Proved_set_step) → first_set_step y ≡ x → OfSetStep (set_step_of c (roll-SetStep x))
    unfolding body_of item_of set_of_tree source_of arm_of step_of part_of core_of query_of set_step_of from_item_of from_of join_of
    holds_set_step x y is = subst (λ z. OfSetStep (set_step_of c (roll-SetStep z))) is (subst OfSetStep
        (sym (fold-roll-SetStep Body SelectPart BodyPart SourcePart ArmPart StepPart Part BodyPart QueryPart SetStepPart FromItemPart FromPart JoinPart
        body_step item_step set_step source_step arm_step step_step expr_step core_step query_step set_step_step (from_item_step c) from_step join_step (first_set_step y)))
        (kept.set_operand (shown_set_step c (first_set_step y)) y.operand.1))

    holds_from_item : (x : FromItemLayer) (y : Proved_from_item) → first_from_item y ≡ x → OfFromItem (from_item_of c (roll-FromItem x))
    unfolding body_of item_of set_of_tree source_of arm_of step_of part_of core_of query_of set_step_of from_item_of from_of join_of
    holds_from_item x y is = subst (λ z. OfFromItem (from_item_of c (roll-FromItem z))) is (subst OfFromItem
        (sym (fold-roll-FromItem Body SelectPart BodyPart SourcePart ArmPart StepPart Part BodyPart QueryPart SetStepPart FromItemPart FromPart JoinPart
        body_step item_step set_step source_step arm_step step_step expr_step core_step query_step set_step_step (from_item_step c) from_step join_step (first_from_item y)))
        (kept.from_item (shown_from_item c (first_from_item y)) y.source.1))

    holds_from : (x : FromLayer) (y : Proved_from) → first_from y ≡ x → OfFrom (from_of c (roll-FromTree x))
    unfolding body_of item_of set_of_tree source_of arm_of step_of part_of core_of query_of set_step_of from_item_of from_of join_of
    holds_from x y is = subst (λ z. OfFrom (from_of c (roll-FromTree z))) is (subst OfFrom
        (sym (fold-roll-FromTree Body SelectPart BodyPart SourcePart ArmPart StepPart Part BodyPart QueryPart SetStepPart FromItemPart FromPart JoinPart
        body_step item_step set_step source_step arm_step step_step expr_step core_step query_step set_step_step (from_item_step c) from_step join_step (first_from y)))
        (kept.from_tree (shown_from c (first_from y)) y.first.1 (every-proved OfJoin (join_of c) y.joins)))

    holds_join : (x : JoinLayer) (y : Proved_join) → first_join y ≡ x → OfJoin (join_of c (roll-JoinStep x))
    unfolding body_of item_of set_of_tree source_of arm_of step_of part_of core_of query_of set_step_of from_item_of from_of join_of
    holds_join x y is = subst (λ z. OfJoin (join_of c (roll-JoinStep z))) is (subst OfJoin
        (sym (fold-roll-JoinStep Body SelectPart BodyPart SourcePart ArmPart StepPart Part BodyPart QueryPart SetStepPart FromItemPart FromPart JoinPart
        body_step item_step set_step source_step arm_step step_step expr_step core_step query_step set_step_step (from_item_step c) from_step join_step (first_join y)))
        (kept.join (shown_join c (first_join y)) y.item.1 (on_part y y.condition)))

    pub kept-part : (tree : ExprTree) → OfPart (part_of c tree)
    kept-part = ind-ExprTree (λ (tree : ExprBody). OfBody (body_of c tree)) (λ (tree : SelectItem). OfItem (item_of c tree)) (λ (tree : SetTree). OfSet (set_of_tree c tree)) (λ (tree : FromSource). OfSource (source_of c tree)) (λ (tree : ArmTree). OfArm (arm_of c tree)) (λ (tree : ExprStep). OfStep (step_of c tree)) (λ (tree : ExprTree). OfPart (part_of c tree)) (λ (tree : Core). OfCore (core_of c tree)) (λ (tree : QueryTree). OfQuery (query_of c tree)) (λ (tree : SetStep). OfSetStep (set_step_of c tree)) (λ (tree : FromItem). OfFromItem (from_item_of c tree)) (λ (tree : FromTree). OfFrom (from_of c tree)) (λ (tree : JoinStep). OfJoin (join_of c tree))
        holds_body holds_item holds_set holds_source holds_arm holds_step holds_part holds_core holds_query holds_set_step holds_from_item holds_from holds_join

    pub kept-query : (tree : QueryTree) → OfQuery (query_of c tree)
    kept-query = ind-QueryTree (λ (tree : ExprBody). OfBody (body_of c tree)) (λ (tree : SelectItem). OfItem (item_of c tree)) (λ (tree : SetTree). OfSet (set_of_tree c tree)) (λ (tree : FromSource). OfSource (source_of c tree)) (λ (tree : ArmTree). OfArm (arm_of c tree)) (λ (tree : ExprStep). OfStep (step_of c tree)) (λ (tree : ExprTree). OfPart (part_of c tree)) (λ (tree : Core). OfCore (core_of c tree)) (λ (tree : QueryTree). OfQuery (query_of c tree)) (λ (tree : SetStep). OfSetStep (set_step_of c tree)) (λ (tree : FromItem). OfFromItem (from_item_of c tree)) (λ (tree : FromTree). OfFrom (from_of c tree)) (λ (tree : JoinStep). OfJoin (join_of c tree))
        holds_body holds_item holds_set holds_source holds_arm holds_step holds_part holds_core holds_query holds_set_step holds_from_item holds_from holds_join

    pub kept-set : (tree : SetTree) → OfSet (set_of_tree c tree)
    kept-set = ind-SetTree (λ (tree : ExprBody). OfBody (body_of c tree)) (λ (tree : SelectItem). OfItem (item_of c tree)) (λ (tree : SetTree). OfSet (set_of_tree c tree)) (λ (tree : FromSource). OfSource (source_of c tree)) (λ (tree : ArmTree). OfArm (arm_of c tree)) (λ (tree : ExprStep). OfStep (step_of c tree)) (λ (tree : ExprTree). OfPart (part_of c tree)) (λ (tree : Core). OfCore (core_of c tree)) (λ (tree : QueryTree). OfQuery (query_of c tree)) (λ (tree : SetStep). OfSetStep (set_step_of c tree)) (λ (tree : FromItem). OfFromItem (from_item_of c tree)) (λ (tree : FromTree). OfFrom (from_of c tree)) (λ (tree : JoinStep). OfJoin (join_of c tree))
        holds_body holds_item holds_set holds_source holds_arm holds_step holds_part holds_core holds_query holds_set_step holds_from_item holds_from holds_join

    pub kept-core : (tree : Core) → OfCore (core_of c tree)
    kept-core = ind-Core (λ (tree : ExprBody). OfBody (body_of c tree)) (λ (tree : SelectItem). OfItem (item_of c tree)) (λ (tree : SetTree). OfSet (set_of_tree c tree)) (λ (tree : FromSource). OfSource (source_of c tree)) (λ (tree : ArmTree). OfArm (arm_of c tree)) (λ (tree : ExprStep). OfStep (step_of c tree)) (λ (tree : ExprTree). OfPart (part_of c tree)) (λ (tree : Core). OfCore (core_of c tree)) (λ (tree : QueryTree). OfQuery (query_of c tree)) (λ (tree : SetStep). OfSetStep (set_step_of c tree)) (λ (tree : FromItem). OfFromItem (from_item_of c tree)) (λ (tree : FromTree). OfFrom (from_of c tree)) (λ (tree : JoinStep). OfJoin (join_of c tree))
        holds_body holds_item holds_set holds_source holds_arm holds_step holds_part holds_core holds_query holds_set_step holds_from_item holds_from holds_join

    pub kept-item : (tree : SelectItem) → OfItem (item_of c tree)
    kept-item = ind-SelectItem (λ (tree : ExprBody). OfBody (body_of c tree)) (λ (tree : SelectItem). OfItem (item_of c tree)) (λ (tree : SetTree). OfSet (set_of_tree c tree)) (λ (tree : FromSource). OfSource (source_of c tree)) (λ (tree : ArmTree). OfArm (arm_of c tree)) (λ (tree : ExprStep). OfStep (step_of c tree)) (λ (tree : ExprTree). OfPart (part_of c tree)) (λ (tree : Core). OfCore (core_of c tree)) (λ (tree : QueryTree). OfQuery (query_of c tree)) (λ (tree : SetStep). OfSetStep (set_step_of c tree)) (λ (tree : FromItem). OfFromItem (from_item_of c tree)) (λ (tree : FromTree). OfFrom (from_of c tree)) (λ (tree : JoinStep). OfJoin (join_of c tree))
        holds_body holds_item holds_set holds_source holds_arm holds_step holds_part holds_core holds_query holds_set_step holds_from_item holds_from holds_join

    pub kept-from_item : (tree : FromItem) → OfFromItem (from_item_of c tree)
    kept-from_item = ind-FromItem (λ (tree : ExprBody). OfBody (body_of c tree)) (λ (tree : SelectItem). OfItem (item_of c tree)) (λ (tree : SetTree). OfSet (set_of_tree c tree)) (λ (tree : FromSource). OfSource (source_of c tree)) (λ (tree : ArmTree). OfArm (arm_of c tree)) (λ (tree : ExprStep). OfStep (step_of c tree)) (λ (tree : ExprTree). OfPart (part_of c tree)) (λ (tree : Core). OfCore (core_of c tree)) (λ (tree : QueryTree). OfQuery (query_of c tree)) (λ (tree : SetStep). OfSetStep (set_step_of c tree)) (λ (tree : FromItem). OfFromItem (from_item_of c tree)) (λ (tree : FromTree). OfFrom (from_of c tree)) (λ (tree : JoinStep). OfJoin (join_of c tree))
        holds_body holds_item holds_set holds_source holds_arm holds_step holds_part holds_core holds_query holds_set_step holds_from_item holds_from holds_join

    pub kept-from : (tree : FromTree) → OfFrom (from_of c tree)
    kept-from = ind-FromTree (λ (tree : ExprBody). OfBody (body_of c tree)) (λ (tree : SelectItem). OfItem (item_of c tree)) (λ (tree : SetTree). OfSet (set_of_tree c tree)) (λ (tree : FromSource). OfSource (source_of c tree)) (λ (tree : ArmTree). OfArm (arm_of c tree)) (λ (tree : ExprStep). OfStep (step_of c tree)) (λ (tree : ExprTree). OfPart (part_of c tree)) (λ (tree : Core). OfCore (core_of c tree)) (λ (tree : QueryTree). OfQuery (query_of c tree)) (λ (tree : SetStep). OfSetStep (set_step_of c tree)) (λ (tree : FromItem). OfFromItem (from_item_of c tree)) (λ (tree : FromTree). OfFrom (from_of c tree)) (λ (tree : JoinStep). OfJoin (join_of c tree))
        holds_body holds_item holds_set holds_source holds_arm holds_step holds_part holds_core holds_query holds_set_step holds_from_item holds_from holds_join
