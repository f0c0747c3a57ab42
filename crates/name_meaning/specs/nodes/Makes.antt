-- What the second pass makes of what a part means, and what it adds to the sublinks and aggregates of its clause.
use Rattle.std.specs.Prelude.{◌≡◌, Bool, false, List, [], ◌∷◌, ◌++◌, map, flat_map, length, Option}
use Rattle.bag_algebra.specs.declared.expr.Arm.{Arm}
use Rattle.bag_algebra.specs.declared.expr.ChainStep.{ChainStep}
use Rattle.bag_algebra.specs.declared.expr.Expr.{Expr}
use Rattle.bag_algebra.specs.declared.expr.Expr.TheVariants.{Sub}
use Rattle.bag_algebra.specs.declared.query.Aggr.{Aggr}
use Rattle.bag_algebra.specs.declared.query.Query.{Query}
use Rattle.bag_algebra.specs.declared.query.SubKind.{SubKind}
use Rattle.bag_algebra.specs.declared.query.Sublink.{Sublink}
use Rattle.perm_values.specs.declared.kind.Kind.{Kind}
use Rattle.name_meaning.specs.Expressions.{ArmPart, StepPart, arm_operands, step_operand}
use Rattle.name_meaning.specs.Meanings.{Before, Built, Meant, QueryMeant, Surroundings}
use Rattle.name_meaning.specs.Operands.{BuiltParts, Operand, made_parts, parts_breaks}
use Rattle.name_meaning.specs.declared.nodes.within.Within.{Within}

abbrev pub nothing_found : Within
nothing_found = record { subs = []; aggregates = [] }

-- how many stand before what comes next
abbrev pub before_of : Within → Before
before_of found = record { subs = length found.subs; aggregates = length found.aggregates }

abbrev pub with_found : Within → List Sublink → List Aggr → Within
with_found found subs aggregates = record { subs = found.subs ++ subs; aggregates = found.aggregates ++ aggregates }

-- with one more sublink
abbrev pub with_sub : Within → Sublink → Within
with_sub found sub = record found { subs = found.subs ++ sub ∷ [] }

-- ---- an expression

-- the expression is the built one, and what it adds stands behind what was found before
pub record IsBuilt (built : Built) (made : Expr) (old new : Within) : Type 0 where
  pub expr : made ≡ built.expr
  pub found : new ≡ with_found old built.subs built.aggregates

-- what a part means, made at the wanted kind: nothing is said of what breaks, except that no sublink is added where none
-- may stand
pub record Makes (may_link : Bool) (meant : Meant) (wanted : Kind) (made : Expr) (old new : Within) : Type 0 where
  pub makes : meant.breaks ≡ [] → IsBuilt (meant.make wanted (before_of old)) made old new
  pub unlinked : may_link ≡ false → new.subs ≡ old.subs

-- ---- the operands of a node

-- the built expressions stand behind those before, and what they add behind what was found before
pub record AreBuilt (parts : BuiltParts) (before after : List Expr) (old new : Within) : Type 0 where
  pub exprs : after ≡ before ++ parts.exprs
  pub found : new ≡ with_found old parts.subs parts.aggregates

-- some of the operands made, where those that are to be alike take this kind
pub record MakesMore (may_link : Bool) (alike_kind : Kind) (operands : List Operand) (before after : List Expr) (old new : Within) : Type 0 where
  pub makes : parts_breaks operands ≡ [] → AreBuilt (made_parts alike_kind operands (before_of old)) before after old new
  pub unlinked : may_link ≡ false → new.subs ≡ old.subs

-- the steps of a chain made
pub record MakesSteps (may_link : Bool) (alike_kind : Kind) (here : Surroundings) (steps : List StepPart) (made : List ChainStep) (old new : Within) : Type 0 where
  pub parts : MakesMore may_link alike_kind (map (step_operand here) steps) [] (map (λ (step : ChainStep). step.part) made) old new
  pub ops : map (λ (step : ChainStep). step.op) made ≡ map (λ (step : StepPart). step.op) steps

-- the condition and the value of an arm
abbrev pub arm_exprs : Arm → List Expr
arm_exprs arm = arm.condition ∷ arm.value ∷ []

-- the arms of a CASE made
pub record MakesArms (may_link : Bool) (alike_kind : Kind) (here : Surroundings) (arms : List ArmPart) (made : List Arm) (old new : Within) : Type 0 where
  pub parts : MakesMore may_link alike_kind (flat_map (arm_operands here) arms) [] (flat_map arm_exprs made) old new
  pub paired : length made ≡ length arms

-- ---- a sublink

-- a sublink stands behind those before, with its query made at the wanted kinds
pub record Links (kind : SubKind) (tested : Option Expr) (meant : QueryMeant) (wanted : List Kind) (made : Expr) (old new : Within) : Type 0 where
  pub expr : made ≡ Sub (length old.subs)
  pub found : meant.breaks ≡ []
      → new ≡ with_sub old (record { kind = kind; tested = tested; query = meant.make wanted })

-- ---- a query

-- what a query means, made at the wanted kinds
pub record MakesQuery (meant : QueryMeant) (wanted : List Kind) (made : Query) : Type 0 where
  pub makes : meant.breaks ≡ [] → made ≡ meant.make wanted
