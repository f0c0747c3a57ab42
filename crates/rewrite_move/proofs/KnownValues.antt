-- Sublinks of which a truth is known on the rows: which rows of their queries contribute.
use Rattle.std.proofs.Common.{◌≡◌, Bool, true, false, not, ◌||◌, List, [], ◌∷◌, Option, Some, refl, sym, ap, ◌∙◌, subst}
use Rattle.null_logic.specs.Logic.{is_true, truth_not, truth_of, value_of}
use Rattle.null_logic.specs.declared.truth.Truth.{Truth}
use Rattle.null_logic.specs.declared.truth.Truth.TheVariants.{True, False, Unknown}
use Rattle.perm_values.specs.Values.{is_null}
use Rattle.perm_values.specs.declared.kind.Kind.{Kind}
use Rattle.perm_values.specs.declared.value.Value.{Value}
use Rattle.bag_algebra.proofs.Outcomes.{same_good}
use Rattle.bag_algebra.proofs.TruthValues.{truth_of-value}
use Rattle.bag_algebra.specs.Bags.{Row}
use Rattle.bag_algebra.specs.Children.{sublink_value}
use Rattle.bag_algebra.specs.Expressions.{has_truth}
use Rattle.bag_algebra.specs.Fits.{row_begins}
use Rattle.bag_algebra.specs.Kinds.{width_of}
use Rattle.bag_algebra.specs.Meaning.{Database}
use Rattle.bag_algebra.specs.Means.{cell, sub_value}
use Rattle.bag_algebra.specs.Outcome.{Good, both_then}
use Rattle.bag_algebra.specs.Rewriting.{IsRewrite}
use Rattle.bag_algebra.specs.declared.query.Query.{Query}
use Rattle.bag_algebra.specs.declared.query.Sublink.{Sublink}
use Rattle.lateral_rewrite.proofs.BesideRows.{left-beside}
use Rattle.lateral_rewrite.proofs.Choosing.{Decides}
use Rattle.lateral_rewrite.proofs.PlainSteps.{plain_step_given}
use Rattle.lateral_rewrite.proofs.RightRows.{decided, is_chosen}
use Rattle.lateral_rewrite.specs.Dependent.{beside, provenance_of}
use Rattle.lateral_rewrite.specs.declared.choices.Choice.{Choice}
use Rattle.rewrite_move.specs.ForcedTruths.{HasTruth}
use Rattle.rewrite_sublink.proofs.Steps.{SubsFitting, HasValue, OnRows, Step, StepGiven}
use Rattle.rewrite_sublink.proofs.SublinkRows as under
use Rattle.rewrite_sublink.proofs.TestValues.{passes_of}

-- the sublink has a value, of that truth if one is known
abbrev pub KnownValue : Option Truth → Sublink → OnRows
KnownValue known sub db env b = (v : Value) × (sublink_value db env b sub ≡ Good v) × HasTruth known v

abbrev pub known-has : (known : Option Truth) (sub : Sublink) (db : Database) (env : List Row) (b : Row) → KnownValue known sub db env b → HasValue db env sub b
known-has known sub db env b k = (k.0, k.1)

-- what needs no truth serves
pub step-known : (known : Option Truth) (sub : Sublink) (next : Query → Query) → Step sub next → StepGiven (KnownValue known sub) sub next
step-known known sub next step = record {
  kinds = step.kinds;
  plain = step.plain;
  tables = step.tables;
  formed = step.formed;
  bad = step.bad;
  good = λ columns outer db env f rows us g given. step.good columns outer db env f rows us g (λ b h. known-has known sub db env b (given b h));
}

-- ---- truths

truth-is : (truth s : Truth) (v : Value) → truth_of v ≡ s → has_truth truth (value_of s) ≡ true → s ≡ truth
truth-is True True v e h = refl
truth-is True False v e h = absurd (cc h)
truth-is True Unknown v e h = absurd (cc h)
truth-is False True v e h = absurd (cc h)
truth-is False False v e h = refl
truth-is False Unknown v e h = absurd (cc h)
truth-is Unknown True v e h = absurd (cc h)
truth-is Unknown False v e h = absurd (cc h)
truth-is Unknown Unknown v e h = refl

-- a value has the truths that its truth has
pub by_truth : (truth : Truth) (v : Value) → has_truth truth v ≡ has_truth truth (value_of (truth_of v))
by_truth True v = ap is_true (sym (truth_of-value (truth_of v)))
by_truth False v = ap (λ t. is_true (truth_not t)) (sym (truth_of-value (truth_of v)))
by_truth Unknown v = ap (λ t. is_null (value_of t)) (sym (truth_of-value (truth_of v)))

-- of a value with one truth each other one is known
pub told_by : (truth other : Truth) (v : Value) → has_truth truth v ≡ true → has_truth other (value_of truth) ≡ has_truth other v
told_by truth other v h =
    ap (λ t. has_truth other (value_of t)) (sym (truth-is truth (truth_of v) v refl (sym (by_truth truth v) ∙ h))) ∙ sym (by_truth other v)

-- ---- a sublink that chooses by a truth, where its truth is known

module _ {columns : List Kind} {outer : List (List Kind)} {db : Database} {env : List Row} {sub : Sublink} (f : SubsFitting columns outer (sub ∷ []) db env)
    (b : Row) (begins : row_begins b columns ≡ true) (known : Option Truth) (k : KnownValue known sub db env b) where
  abbrev v : HasValue db env sub b
  v = known-has known sub db env b k

  -- the value is what the kind makes of the left operand and the rows
  pub value-is : sub_value sub.kind (under.x f b begins v) (under.vs f b begins v) ≡ Good k.0
  value-is =
      sym (λ i. both_then ((under.parts f b begins v).2 i) ((under.parts f b begins v).3 i) (sub_value sub.kind)) ∙ k.1

  pub decided-is : (choice : Choice) → Decides sub.kind choice → (truth : Truth) → known ≡ Some truth →
      decided sub.kind (under.x f b begins v) (under.vs f b begins v) ≡ has_truth choice.truth (value_of truth)
  decided-is choice d truth e =
      let told = d.told (under.x f b begins v) (under.vs f b begins v) in
      let same : told.0 ≡ k.0 = same_good told.0 k.0 (sym told.1 ∙ value-is) in
      sym told.2 ∙ ap (has_truth choice.truth) same ∙ sym (told_by truth choice.truth k.0 (subst (λ known. HasTruth known k.0) e k.2))

  -- where it isn't the truth that chooses, every row contributes
  pub all-chosen_of : (choice : Choice) → Decides sub.kind choice → (truth : Truth) → known ≡ Some truth → has_truth choice.truth (value_of truth) ≡ false → (row : Row) →
      true ≡ is_chosen sub.kind (under.x f b begins v) (under.vs f b begins v) row
  all-chosen_of choice d truth e other row =
      ap (λ (t : Bool). not t || passes_of sub.kind (under.x f b begins v) (cell row)) (sym (decided-is choice d truth e ∙ other))

  -- where it is, those contribute that pass
  pub matching-chosen_of : (choice : Choice) → Decides sub.kind choice → (truth : Truth) → known ≡ Some truth → has_truth choice.truth (value_of truth) ≡ true → (row : Row) →
      passes_of sub.kind (under.x f b begins v) (cell row) ≡ is_chosen sub.kind (under.x f b begins v) (under.vs f b begins v) row
  matching-chosen_of choice d truth e same row =
      ap (λ (t : Bool). not t || passes_of sub.kind (under.x f b begins v) (cell row)) (sym (decided-is choice d truth e ∙ same))

-- all rows contribute to a sublink that has another truth than the one that chooses
pub all_known_step : (sub : Sublink) (r : Query) (choice : Choice) (truth : Truth) → Decides sub.kind choice → has_truth choice.truth (value_of truth) ≡ false → IsRewrite sub.query r →
    StepGiven (KnownValue (Some truth) sub) sub (λ rows. beside rows (provenance_of r (width_of sub.query)))
all_known_step sub r choice truth d other rewritten =
    plain_step_given sub r (width_of sub.query) rewritten (λ scopes f. refl) (known-has (Some truth) sub)
    (λ columns outer db env f b begins k row. all-chosen_of f b begins (Some truth) k choice d truth refl other row)
    (λ rows. beside rows (provenance_of r (width_of sub.query))) (λ rows. left-beside rows (provenance_of r (width_of sub.query)))
