-- One step of a match.
use Rattle.std.specs.Prelude.{◌≡◌, ℕ, true, false, ◌==◌, List, [], ◌∷◌}
use Rattle.std.specs.Str.{chars, IsUtf8}
use Rattle.null_logic.specs.Like.{any_run, takes, like}
use Rattle.null_logic.specs.declared.pattern.Step.{Step}
use Rattle.null_logic.specs.declared.pattern.Step.TheVariants.{Matched, Stuck, Run, Taken}

-- a character of the pattern takes one of the text
abbrev pub Takes : List ℕ → List ℕ → List ℕ → List ℕ → Type 0
Takes text pattern after rest = (c : ℕ) × (p : ℕ) × (text ≡ c ∷ after) × (pattern ≡ p ∷ rest) × ((p == any_run) ≡ false) × (takes p c ≡ true)

-- what the step says of the text and the pattern; what it leaves of them is text
abbrev pub StepOf : List ℕ → List ℕ → Step → Type 0
StepOf text pattern Matched = (text ≡ []) × (pattern ≡ [])
StepOf text pattern Stuck = like text pattern ≡ false
StepOf text pattern (Run rest) = (pattern ≡ any_run ∷ chars rest.now) × IsUtf8 rest.now
StepOf text pattern (Taken after rest) = Takes text pattern (chars after.now) (chars rest.now) × IsUtf8 after.now × IsUtf8 rest.now
