-- What could stand at a place.
use Rattle.std.specs.Prelude.{◌↔◌, ℕ, Bool, IsTrue, cond, List, [], ◌∷◌, ◌++◌, codes}
use Rattle.refusal_tokens.specs.Begins.{BeginsScript}
use Rattle.refusal_tokens.specs.Tables.{names, words}

-- a text could stand behind a front: some script begins with the tokens of the front and those of the text
abbrev pub CouldStand : List ℕ → List ℕ → Type 0
CouldStand front text = BeginsScript (front ++ codes "\n" ++ text)

-- of some texts those that could stand behind a front, in their order
pub data AreThose (front : List ℕ) : List (List ℕ) → List (List ℕ) → Type 0 where
  none : AreThose front [] []
  standing : {text : List ℕ} {texts those : List (List ℕ)} → CouldStand front text → AreThose front texts those
      → AreThose front (text ∷ texts) (text ∷ those)
  left_out : {text : List ℕ} {texts those : List (List ℕ)} → (CouldStand front text → ⊥) → AreThose front texts those
      → AreThose front (text ∷ texts) those

-- the words, among which those that may be names are counted only where no name could stand
abbrev pub AreWords : List ℕ → List (List ℕ) → Type 0
AreWords front those =
    (name : Bool) × (IsTrue name ↔ CouldStand front (codes "x")) × AreThose front (words ++ cond name [] names) those
