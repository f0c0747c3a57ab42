-- When what the constructors of code make is well formed, and which tables it reads, in words on plain lists of children.
use Rattle.std.specs.Prelude.{◌≡◌, ⊤, ℕ, suc, Bool, List, [], ◌∷◌, ◌++◌, length, map}
use Rattle.std.proofs.Common.{refl, ap, ◌∙◌}
use Rattle.perm_values.specs.Rows.{KeysWithin, PlacesWithin}
use Rattle.perm_values.specs.declared.key.Key.{Key}
use Rattle.perm_values.specs.declared.kind.Kind.{Kind}
use Rattle.perm_values.specs.declared.kind.Kind.TheVariants.{Integer, Boolean}
use Rattle.bag_algebra.specs.built.Openings.{row_of_parts, row_of_steps, row_of_arms, row_of_subs, Base-is, Filter-is, Project_with-is, Join-is, Apply-is, Union-is, Intersect-is, Except-is, Distinct-is, Aggregate-is, Limit-is, Prov-is}
use Rattle.bag_algebra.specs.TablesRead.{EachTable, EachSubTable}
use Rattle.bag_algebra.specs.Kinds.{kinds_of, width_of}
use Rattle.bag_algebra.specs.built.Patterns.{FilterOf, JoinOf}
use Rattle.bag_algebra.specs.WellFormed.{HasKind, PartsHave, StepsHave, ArmsHave, ArmForm, number_of_parts, number_of_steps, number_of_arms, ItemsForm, AggregatesForm, sub_form, sub_kind, sub_kinds, SubForm, BaseForm, FilterForm, ProjectForm, JoinForm, ApplyForm, SetForm, AggregateForm, LimitForm, WellFormed, SubsForm}
use Rattle.bag_algebra.specs.declared.expr.Arm.{Arm}
use Rattle.bag_algebra.specs.declared.expr.ChainStep.{ChainStep}
use Rattle.bag_algebra.specs.declared.expr.Expr.{Expr}
use Rattle.bag_algebra.specs.declared.expr.Expr.TheBlock.{shape-the_row-Expr-0, hidden-the_row-Expr-0, shape-the_row-ChainStep-2, hidden-the_row-ChainStep-2, shape-the_row-Arm-3, hidden-the_row-Arm-3}
use Rattle.bag_algebra.specs.declared.expr.Item.{Item}
use Rattle.bag_algebra.specs.declared.query.Aggr.{Aggr}
use Rattle.bag_algebra.specs.declared.query.JoinKind.{JoinKind}
use Rattle.bag_algebra.specs.declared.query.Label.{Label}
use Rattle.bag_algebra.specs.declared.query.Query.{Query, end_of-Sublink}
use Rattle.bag_algebra.specs.declared.query.Query.TheBlock.{shape-the_row-Query-0, hidden-the_row-Query-0, shape-the_row-Sublink-1, hidden-the_row-Sublink-1}
use Rattle.bag_algebra.specs.declared.query.Query.TheVariants.{Base, Filter, Project, Join, Apply, Union, Intersect, Except, Distinct, Aggregate, Limit, Prov}
use Rattle.bag_algebra.specs.declared.query.Sublink.{Sublink}

-- ---- nodes without sublinks

pub Filter_alone-is : (input : Query) (condition : Expr) → Filter input condition [] ≡ FilterOf input condition [] end_of-Sublink
unfolding shape-the_row-Query-0 hidden-the_row-Query-0 shape-the_row-Sublink-1 hidden-the_row-Sublink-1 package.denote.Hole.Carrier.hidden
Filter_alone-is input condition = refl

pub Join_alone-is : (kind : JoinKind) (left right : Query) (condition : Expr) →
    Join kind left right condition [] ≡ JoinOf kind left right condition [] end_of-Sublink
unfolding shape-the_row-Query-0 hidden-the_row-Query-0 shape-the_row-Sublink-1 hidden-the_row-Sublink-1 package.denote.Hole.Carrier.hidden
Join_alone-is kind left right condition = refl

-- ---- parts, steps and arms

pub number_of_parts-built : (parts : List Expr) → number_of_parts (row_of_parts parts) ≡ length parts
unfolding shape-the_row-Expr-0 hidden-the_row-Expr-0 package.denote.Hole.Carrier.hidden
number_of_parts-built [] = refl
number_of_parts-built (part ∷ parts) = ap suc (number_of_parts-built parts)

pub number_of_steps-built : (steps : List ChainStep) → number_of_steps (row_of_steps steps) ≡ length steps
unfolding shape-the_row-ChainStep-2 hidden-the_row-ChainStep-2 package.denote.Hole.Carrier.hidden
number_of_steps-built [] = refl
number_of_steps-built (step ∷ steps) = ap suc (number_of_steps-built steps)

pub number_of_arms-built : (arms : List Arm) → number_of_arms (row_of_arms arms) ≡ length arms
unfolding shape-the_row-Arm-3 hidden-the_row-Arm-3 package.denote.Hole.Carrier.hidden
number_of_arms-built [] = refl
number_of_arms-built (arm ∷ arms) = ap suc (number_of_arms-built arms)

module _ (scopes : List (List Kind)) (subs : List Kind) where
  -- all of them have the kind
  abbrev pub AllHave : List Expr → Kind → Type 0
  AllHave [] kind = ⊤
  AllHave (part ∷ parts) kind = HasKind scopes subs part kind × AllHave parts kind

  pub parts_have-built : (parts : List Expr) (kind : Kind) → AllHave parts kind → PartsHave scopes subs (row_of_parts parts) kind
  unfolding shape-the_row-Expr-0 hidden-the_row-Expr-0 package.denote.Hole.Carrier.hidden
  parts_have-built [] kind h = tt
  parts_have-built (part ∷ parts) kind h = (h.0, parts_have-built parts kind h.1)

  pub parts_have-opened : (parts : List Expr) (kind : Kind) → PartsHave scopes subs (row_of_parts parts) kind → AllHave parts kind
  unfolding shape-the_row-Expr-0 hidden-the_row-Expr-0 package.denote.Hole.Carrier.hidden
  parts_have-opened [] kind h = tt
  parts_have-opened (part ∷ parts) kind h = (h.0, parts_have-opened parts kind h.1)

  abbrev pub AllStepsHave : List ChainStep → Type 0
  AllStepsHave [] = ⊤
  AllStepsHave (step ∷ steps) = HasKind scopes subs step.part Integer × AllStepsHave steps

  pub steps_have-built : (steps : List ChainStep) → AllStepsHave steps → StepsHave scopes subs (row_of_steps steps)
  unfolding shape-the_row-ChainStep-2 hidden-the_row-ChainStep-2 package.denote.Hole.Carrier.hidden
  steps_have-built [] h = tt
  steps_have-built (step ∷ steps) h = (h.0, steps_have-built steps h.1)

  pub steps_have-opened : (steps : List ChainStep) → StepsHave scopes subs (row_of_steps steps) → AllStepsHave steps
  unfolding shape-the_row-ChainStep-2 hidden-the_row-ChainStep-2 package.denote.Hole.Carrier.hidden
  steps_have-opened [] h = tt
  steps_have-opened (step ∷ steps) h = (h.0, steps_have-opened steps h.1)

  abbrev pub AllArmsHave : List Arm → Kind → Type 0
  AllArmsHave [] kind = ⊤
  AllArmsHave (arm ∷ arms) kind =
      ArmForm (HasKind scopes subs arm.condition Boolean) (HasKind scopes subs arm.value kind) (AllArmsHave arms kind)

  pub arms_have-built : (arms : List Arm) (kind : Kind) → AllArmsHave arms kind → ArmsHave scopes subs (row_of_arms arms) kind
  unfolding shape-the_row-Arm-3 hidden-the_row-Arm-3 package.denote.Hole.Carrier.hidden
  arms_have-built [] kind h = tt
  arms_have-built (arm ∷ arms) kind h = record { condition = h.condition; arm = h.arm; others = arms_have-built arms kind h.others }

  pub arms_have-opened : (arms : List Arm) (kind : Kind) → ArmsHave scopes subs (row_of_arms arms) kind → AllArmsHave arms kind
  unfolding shape-the_row-Arm-3 hidden-the_row-Arm-3 package.denote.Hole.Carrier.hidden
  arms_have-opened [] kind h = tt
  arms_have-opened (arm ∷ arms) kind h = record { condition = h.condition; arm = h.arm; others = arms_have-opened arms kind h.others }

-- ---- sublinks

abbrev pub subs_kinds : List Sublink → List Kind
subs_kinds subs = map (λ (sub : Sublink). sub_kind sub.kind (kinds_of sub.query)) subs

pub sub_kinds-row_of_subs : (subs : List Sublink) → sub_kinds (row_of_subs subs) ≡ subs_kinds subs
unfolding shape-the_row-Sublink-1 hidden-the_row-Sublink-1 package.denote.Hole.Carrier.hidden
sub_kinds-row_of_subs [] = refl
sub_kinds-row_of_subs (sub ∷ subs) = ap (λ kinds. sub_kind sub.kind (kinds_of sub.query) ∷ kinds) (sub_kinds-row_of_subs subs)

abbrev pub AllSubsForm : List (List Kind) → List Sublink → Type 0
AllSubsForm scopes [] = ⊤
AllSubsForm scopes (sub ∷ subs) =
    SubForm (WellFormed scopes sub.query) (sub_form sub.kind sub.tested scopes (kinds_of sub.query)) (AllSubsForm scopes subs)

pub SubsForm-row_of_subs : (scopes : List (List Kind)) (subs : List Sublink) → SubsForm scopes (row_of_subs subs) ≡ AllSubsForm scopes subs
unfolding shape-the_row-Sublink-1 hidden-the_row-Sublink-1 package.denote.Hole.Carrier.hidden
SubsForm-row_of_subs scopes [] = refl
SubsForm-row_of_subs scopes (sub ∷ subs) =
    ap (SubForm (WellFormed scopes sub.query) (sub_form sub.kind sub.tested scopes (kinds_of sub.query))) (SubsForm-row_of_subs scopes subs)

abbrev pub EachTableOfSubs : (ℕ → List Kind → Type 0) → List Sublink → Type 0
EachTableOfSubs P [] = ⊤
EachTableOfSubs P (sub ∷ subs) = EachTable P sub.query × EachTableOfSubs P subs

pub EachSubTable-row_of_subs : (P : ℕ → List Kind → Type 0) (subs : List Sublink) → EachSubTable P (row_of_subs subs) ≡ EachTableOfSubs P subs
unfolding shape-the_row-Sublink-1 hidden-the_row-Sublink-1 package.denote.Hole.Carrier.hidden
EachSubTable-row_of_subs P [] = refl
EachSubTable-row_of_subs P (sub ∷ subs) = ap (λ others. EachTable P sub.query × others) (EachSubTable-row_of_subs P subs)

-- ---- well formed queries

module _ (outer : List (List Kind)) where
  pub WellFormed-Base : (input : Query) (places : List ℕ) (label : Label) →
      WellFormed outer (Base input places label) ≡ BaseForm (WellFormed outer input) (PlacesWithin (width_of input) places) places label
  WellFormed-Base input places label = ap (WellFormed outer) (Base-is input places label)

  pub WellFormed-Filter : (input : Query) (condition : Expr) (subs : List Sublink) →
      WellFormed outer (Filter input condition subs)
      ≡ FilterForm (WellFormed outer input) (AllSubsForm (kinds_of input ∷ outer) subs)
      (HasKind (kinds_of input ∷ outer) (subs_kinds subs) condition Boolean)
  WellFormed-Filter input condition subs =
      ap (WellFormed outer) (Filter-is input condition subs)
      ∙ (λ i. FilterForm (WellFormed outer input) (SubsForm-row_of_subs (kinds_of input ∷ outer) subs i)
      (HasKind (kinds_of input ∷ outer) (sub_kinds-row_of_subs subs i) condition Boolean))

  pub WellFormed-Project : (input : Query) (items : List Item) (subs : List Sublink) →
      WellFormed outer (Project input items subs)
      ≡ ProjectForm (WellFormed outer input) (AllSubsForm (kinds_of input ∷ outer) subs)
      (ItemsForm (kinds_of input ∷ outer) (subs_kinds subs) items)
  WellFormed-Project input items subs =
      ap (WellFormed outer) (Project_with-is input items subs)
      ∙ (λ i. ProjectForm (WellFormed outer input) (SubsForm-row_of_subs (kinds_of input ∷ outer) subs i)
      (ItemsForm (kinds_of input ∷ outer) (sub_kinds-row_of_subs subs i) items))

  pub WellFormed-Join : (kind : JoinKind) (left right : Query) (condition : Expr) (subs : List Sublink) →
      WellFormed outer (Join kind left right condition subs)
      ≡ JoinForm (WellFormed outer left) (WellFormed outer right) (AllSubsForm ((kinds_of left ++ kinds_of right) ∷ outer) subs)
      (HasKind ((kinds_of left ++ kinds_of right) ∷ outer) (subs_kinds subs) condition Boolean)
  WellFormed-Join kind left right condition subs =
      ap (WellFormed outer) (Join-is kind left right condition subs)
      ∙ (λ i. JoinForm (WellFormed outer left) (WellFormed outer right) (SubsForm-row_of_subs ((kinds_of left ++ kinds_of right) ∷ outer) subs i)
      (HasKind ((kinds_of left ++ kinds_of right) ∷ outer) (sub_kinds-row_of_subs subs i) condition Boolean))

  pub WellFormed-Apply : (kind : JoinKind) (left right : Query) →
      WellFormed outer (Apply kind left right) ≡ ApplyForm (WellFormed outer left) (WellFormed (kinds_of left ∷ outer) right) kind
  WellFormed-Apply kind left right = ap (WellFormed outer) (Apply-is kind left right)

  pub WellFormed-Union : (all : Bool) (left right : Query) →
      WellFormed outer (Union all left right) ≡ SetForm (WellFormed outer left) (WellFormed outer right) (kinds_of left) (kinds_of right)
  WellFormed-Union all left right = ap (WellFormed outer) (Union-is all left right)

  pub WellFormed-Intersect : (all : Bool) (left right : Query) →
      WellFormed outer (Intersect all left right) ≡ SetForm (WellFormed outer left) (WellFormed outer right) (kinds_of left) (kinds_of right)
  WellFormed-Intersect all left right = ap (WellFormed outer) (Intersect-is all left right)

  pub WellFormed-Except : (all : Bool) (left right : Query) →
      WellFormed outer (Except all left right) ≡ SetForm (WellFormed outer left) (WellFormed outer right) (kinds_of left) (kinds_of right)
  WellFormed-Except all left right = ap (WellFormed outer) (Except-is all left right)

  pub WellFormed-Distinct : (input : Query) → WellFormed outer (Distinct input) ≡ WellFormed outer input
  WellFormed-Distinct input = ap (WellFormed outer) (Distinct-is input)

  pub WellFormed-Aggregate : (input : Query) (groups : List ℕ) (aggregates : List Aggr) →
      WellFormed outer (Aggregate input groups aggregates)
      ≡ AggregateForm (WellFormed outer input) (PlacesWithin (width_of input) groups) (AggregatesForm (kinds_of input ∷ outer) aggregates)
  WellFormed-Aggregate input groups aggregates = ap (WellFormed outer) (Aggregate-is input groups aggregates)

  pub WellFormed-Limit : (input : Query) (keys : List Key) (count : ℕ) →
      WellFormed outer (Limit input keys count) ≡ LimitForm (WellFormed outer input) (KeysWithin (width_of input) keys) count
  WellFormed-Limit input keys count = ap (WellFormed outer) (Limit-is input keys count)

  pub WellFormed-Prov : (input : Query) → WellFormed outer (Prov input) ≡ WellFormed outer input
  WellFormed-Prov input = ap (WellFormed outer) (Prov-is input)

-- ---- the tables that are read

module _ (P : ℕ → List Kind → Type 0) where
  pub EachTable-Base : (input : Query) (places : List ℕ) (label : Label) → EachTable P (Base input places label) ≡ EachTable P input
  EachTable-Base input places label = ap (EachTable P) (Base-is input places label)

  pub EachTable-Filter : (input : Query) (condition : Expr) (subs : List Sublink) →
      EachTable P (Filter input condition subs) ≡ (EachTable P input × EachTableOfSubs P subs)
  EachTable-Filter input condition subs =
      ap (EachTable P) (Filter-is input condition subs) ∙ (λ i. EachTable P input × EachSubTable-row_of_subs P subs i)

  pub EachTable-Project : (input : Query) (items : List Item) (subs : List Sublink) →
      EachTable P (Project input items subs) ≡ (EachTable P input × EachTableOfSubs P subs)
  EachTable-Project input items subs =
      ap (EachTable P) (Project_with-is input items subs) ∙ (λ i. EachTable P input × EachSubTable-row_of_subs P subs i)

  pub EachTable-Join : (kind : JoinKind) (left right : Query) (condition : Expr) (subs : List Sublink) →
      EachTable P (Join kind left right condition subs) ≡ (EachTable P left × EachTable P right × EachTableOfSubs P subs)
  EachTable-Join kind left right condition subs =
      ap (EachTable P) (Join-is kind left right condition subs)
      ∙ (λ i. EachTable P left × EachTable P right × EachSubTable-row_of_subs P subs i)

  pub EachTable-Apply : (kind : JoinKind) (left right : Query) → EachTable P (Apply kind left right) ≡ (EachTable P left × EachTable P right)
  EachTable-Apply kind left right = ap (EachTable P) (Apply-is kind left right)

  pub EachTable-Union : (all : Bool) (left right : Query) → EachTable P (Union all left right) ≡ (EachTable P left × EachTable P right)
  EachTable-Union all left right = ap (EachTable P) (Union-is all left right)

  pub EachTable-Intersect : (all : Bool) (left right : Query) → EachTable P (Intersect all left right) ≡ (EachTable P left × EachTable P right)
  EachTable-Intersect all left right = ap (EachTable P) (Intersect-is all left right)

  pub EachTable-Except : (all : Bool) (left right : Query) → EachTable P (Except all left right) ≡ (EachTable P left × EachTable P right)
  EachTable-Except all left right = ap (EachTable P) (Except-is all left right)

  pub EachTable-Distinct : (input : Query) → EachTable P (Distinct input) ≡ EachTable P input
  EachTable-Distinct input = ap (EachTable P) (Distinct-is input)

  pub EachTable-Aggregate : (input : Query) (groups : List ℕ) (aggregates : List Aggr) →
      EachTable P (Aggregate input groups aggregates) ≡ EachTable P input
  EachTable-Aggregate input groups aggregates = ap (EachTable P) (Aggregate-is input groups aggregates)

  pub EachTable-Limit : (input : Query) (keys : List Key) (count : ℕ) → EachTable P (Limit input keys count) ≡ EachTable P input
  EachTable-Limit input keys count = ap (EachTable P) (Limit-is input keys count)

  pub EachTable-Prov : (input : Query) → EachTable P (Prov input) ≡ EachTable P input
  EachTable-Prov input = ap (EachTable P) (Prov-is input)
