-- Nothing stands inside an expression that breaks nothing where no sublink may stand.
use Rattle.std.specs.Prelude.{◌≡◌, ⊤, ℕ, Bool, true, false, cond, List, [], ◌∷◌, map, flat_map, Option, Some, None}
use Rattle.std.proofs.Common.{refl, ◌∙◌, true≢false}
use Rattle.perm_catalog.specs.Contents.{Contents}
use Rattle.perm_values.specs.declared.kind.Kind.{Kind}
use Rattle.perm_values.specs.declared.kind.Kind.TheVariants as kind
use Rattle.null_logic.specs.declared.compare.Compare.TheVariants.{Equal, NotEqual}
use Rattle.sql_tree.specs.declared.expression.ExprBody.TheOpen.{ExprBody-F}
use Rattle.sql_tree.specs.declared.expression.ExprTree.{ExprTree}
use Rattle.contribution.proofs.WhereGood.{Every, every-append}
use Rattle.name_meaning.proofs.Equations.{ExprBodyFrame}
use Rattle.name_meaning.specs.Cores.{BodyPart}
use Rattle.name_meaning.specs.Expressions.{ArmPart, Body, StepPart, body_step, in_kind}
use Rattle.name_meaning.specs.Froms.{FromItemPart, FromPart, JoinPart, SourcePart}
use Rattle.name_meaning.specs.Items.{SelectPart}
use Rattle.name_meaning.specs.Meanings.{Meant, Part, QueryPart, Surroundings, means_at}
use Rattle.name_meaning.specs.Queries.{SetStepPart}
use Rattle.name_meaning.specs.Sublinks.{around_of, breaking, exists_meant, in_tested, scalar_meant, tested_looked, tested_unlooked}
use Rattle.name_meaning.specs.Trees.{part_of}
use Rattle.name_meaning.proofs.Every.{every-flat_map, every-map}
use Rattle.name_meaning.proofs.Induction.{AreKept, BodyParts, kept-part}
use Rattle.name_inside.specs.Held.{held, held_arm, held_at, held_step}
use Rattle.name_inside.proofs.Forms.{BarePart, IsBare, bare-over, last-some, over-body}
use Rattle.name_meaning.specs.declared.rule.Rule.TheVariants as rule

abbrev BareBody : Body → Type 0
BareBody body = (at : ℕ) (here : Surroundings) → here.sublinks ≡ false → IsBare (held (body.means at here))

abbrev BareStep : StepPart → Type 0
BareStep step = BarePart step.part

abbrev BareArm : ArmPart → Type 0
BareArm arm = BarePart arm.condition × BarePart arm.value

abbrev AnyItem : SelectPart → Type 0
AnyItem item = ⊤

abbrev AnySet : BodyPart → Type 0
AnySet body = ⊤

abbrev AnySource : SourcePart → Type 0
AnySource source = ⊤

abbrev AnyQuery : QueryPart → Type 0
AnyQuery query = ⊤

abbrev AnyOperand : SetStepPart → Type 0
AnyOperand step = ⊤

abbrev AnyFromItem : FromItemPart → Type 0
AnyFromItem item = ⊤

abbrev AnyFrom : FromPart → Type 0
AnyFrom part = ⊤

abbrev AnyJoin : JoinPart → Type 0
AnyJoin step = ⊤

-- a sublink breaks where it may not stand
unlooked : (b : Bool) (m : Meant) (at : ℕ) (kind : Option Kind) → b ≡ false → IsBare (held (cond b m (breaking rule.MisplacedSublink at kind)))
unlooked true m at kind e none = absurd (true≢false e)
unlooked false m at kind e none = absurd (cc)

untested : (b : Bool) (m tested : Meant) (at : ℕ) → b ≡ false → IsBare (held (cond b m (tested_unlooked at tested)))
untested true m tested at e none = absurd (true≢false e)
untested false m tested at e none = absurd (last-some tested.breaks _ none)

parts-bare : (here : Surroundings) → here.sublinks ≡ false → (parts : List Part) → Every BarePart parts → Every IsBare (map (held_at here) parts)
unfolding means_at
parts-bare here e parts bare = every-map BarePart IsBare (held_at here) (λ part h. h here e) parts bare

steps-bare : (here : Surroundings) → here.sublinks ≡ false → (steps : List StepPart) → Every BareStep steps → Every IsBare (map (held_step here) steps)
unfolding means_at
steps-bare here e steps bare = every-map BareStep IsBare (held_step here) (λ step h. h here e) steps bare

arms-bare : (here : Surroundings) → here.sublinks ≡ false → (arms : List ArmPart) → Every BareArm arms → Every IsBare (flat_map (held_arm here) arms)
unfolding means_at
arms-bare here e arms bare = every-flat_map BareArm IsBare (held_arm here) (λ arm h. (h.0 here e, (h.1 here e, tt))) arms bare

module _ (c : Contents) where
  abbrev Parts : ExprBodyFrame → Type 0
  Parts = BodyParts c BareBody AnyItem AnySet AnySource BareArm BareStep BarePart AnySet AnyQuery AnyOperand AnyFromItem AnyFrom AnyJoin

  bare-body : (frame : ExprBodyFrame) → Parts frame → BareBody (body_step frame)
  unfolding means_at
  bare-body ExprBody-F.Null h at here e = λ none. refl
  bare-body (ExprBody-F.NullOf k) h at here e = λ none. refl
  bare-body (ExprBody-F.Integer number) h at here e = λ none. refl
  bare-body (ExprBody-F.Text text) h at here e = λ none. refl
  bare-body (ExprBody-F.Truth truth) h at here e = λ none. refl
  bare-body (ExprBody-F.Column reference) h at here e = bare-over (over-body (ExprBody-F.Column reference) tt at here) tt
  bare-body (ExprBody-F.«ExprBody::Paren» part) h at here e = h here e
  bare-body (ExprBody-F.Nots count part) h at here e = bare-over (over-body (ExprBody-F.Nots count part) tt at here) (h here e, tt)
  bare-body (ExprBody-F.Signs count part) h at here e = bare-over (over-body (ExprBody-F.Signs count part) tt at here) (h here e, tt)
  bare-body (ExprBody-F.Logic op parts) h at here e =
      bare-over (over-body (ExprBody-F.Logic op parts) tt at here) (parts-bare here e parts h)
  bare-body (ExprBody-F.«ExprBody::Chain» first steps) h at here e =
      bare-over (over-body (ExprBody-F.«ExprBody::Chain» first steps) tt at here) (h.0 here e, steps-bare here e steps h.1)
  bare-body (ExprBody-F.Compared op first second) h at here e =
      bare-over (over-body (ExprBody-F.Compared op first second) tt at here) (h.0 here e, (h.1 here e, tt))
  bare-body (ExprBody-F.Like negated text pattern) h at here e =
      bare-over (over-body (ExprBody-F.Like negated text pattern) tt at here) (h.0 here e, (h.1 here e, tt))
  bare-body (ExprBody-F.Between negated part low high) h at here e =
      bare-over (over-body (ExprBody-F.Between negated part low high) tt at here) (h.0 here e, (h.1 here e, (h.2 here e, tt)))
  bare-body (ExprBody-F.InList negated part list) h at here e =
      bare-over (over-body (ExprBody-F.InList negated part list) tt at here) (h.0 here e, parts-bare here e list h.1)
  bare-body (ExprBody-F.InQuery negated part query) h at here e =
      untested here.sublinks (tested_looked (in_kind negated (cond negated NotEqual Equal)) (part.means (in_tested here)) query.at (query.means (around_of here)))
      (part.means (in_tested here)) at e
  bare-body (ExprBody-F.Quantified every op part query) h at here e =
      untested here.sublinks (tested_looked (in_kind every op) (part.means (in_tested here)) query.at (query.means (around_of here)))
      (part.means (in_tested here)) at e
  bare-body (ExprBody-F.IsNull negated part) h at here e = bare-over (over-body (ExprBody-F.IsNull negated part) tt at here) (h here e, tt)
  bare-body (ExprBody-F.IsTruth negated truth part) h at here e =
      bare-over (over-body (ExprBody-F.IsTruth negated truth part) tt at here) (h here e, tt)
  bare-body (ExprBody-F.IsDistinct negated first second) h at here e =
      bare-over (over-body (ExprBody-F.IsDistinct negated first second) tt at here) (h.0 here e, (h.1 here e, tt))
  bare-body (ExprBody-F.Case arms None) h at here e =
      bare-over (over-body (ExprBody-F.Case arms None) tt at here)
      (every-append IsBare (flat_map (held_arm here) arms) [] (arms-bare here e arms h) tt)
  bare-body (ExprBody-F.Case arms (Some otherwise)) h at here e =
      bare-over (over-body (ExprBody-F.Case arms (Some otherwise)) tt at here)
      (every-append IsBare (flat_map (held_arm here) arms) (held_at here otherwise ∷ []) (arms-bare here e arms h.0) (h.1 here e, tt))
  bare-body (ExprBody-F.Coalesce list) h at here e =
      bare-over (over-body (ExprBody-F.Coalesce list) tt at here) (parts-bare here e list h)
  bare-body (ExprBody-F.NullIf first second) h at here e =
      bare-over (over-body (ExprBody-F.NullIf first second) tt at here) (h.0 here e, (h.1 here e, tt))
  bare-body (ExprBody-F.Aggregate function None) h at here e = λ none. refl
  bare-body (ExprBody-F.Aggregate function (Some argument)) h at here e =
      bare-over (over-body (ExprBody-F.Aggregate function (Some argument)) h at here) tt
  bare-body (ExprBody-F.Exists query) h at here e =
      unlooked here.sublinks (exists_meant here query.at (query.means (around_of here))) at (Some kind.Boolean) e
  bare-body (ExprBody-F.Scalar query) h at here e =
      unlooked here.sublinks (scalar_meant here query.at (query.means (around_of here))) at None e

  kept : AreKept c BareBody AnyItem AnySet AnySource BareArm BareStep BarePart AnySet AnyQuery AnyOperand AnyFromItem AnyFrom AnyJoin
  kept = record {
    body = bare-body;
    item = λ frame h. tt;
    set = λ frame h. tt;
    source = λ frame h. tt;
    arm = λ frame condition value. (condition, value);
    step = λ frame part. part;
    part = λ frame body. body frame.at;
    core = λ frame h. tt;
    query = λ frame h. tt;
    set_operand = λ frame h. tt;
    from_item = λ frame h. tt;
    from_tree = λ frame h k. tt;
    join = λ frame h k. tt;
  }

  pub bare-tree : (tree : ExprTree) → BarePart (part_of c tree)
  bare-tree = kept-part c BareBody AnyItem AnySet AnySource BareArm BareStep BarePart AnySet AnyQuery AnyOperand AnyFromItem AnyFrom AnyJoin kept
