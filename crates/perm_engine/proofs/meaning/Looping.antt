-- What the loop over the statements keeps, and the statuses that end it.
use Rattle.std.proofs.Common.{◌≡◌, ◌∙◌, ◌⊎◌, ℕ, suc, true, false, List, ◌∷◌, Result, Ok, refl, sym, inl, inr, subst, arith}
use Rattle.perm_io.specs.Counts.{HasRisen, CountsFault}
use Rattle.sql_tree.specs.Regular.{Each, RegularStatement}
use Rattle.sql_tree.specs.declared.statement.Statement.{Statement}
use Rattle.statement_meaning.specs.Answers.{failed}
use Rattle.statement_meaning.specs.declared.refusal.StepRefusal.{StepRefusal}
use Rattle.statement_meaning.specs.declared.refusal.StepRefusal.TheVariants as refusal
use Rattle.perm_engine.specs.meaning.Run.{IsOfScript, IsSteady}
use Rattle.perm_engine.specs.meaning.Stops.{refusal_status}
use Rattle.perm_engine.specs.declared.meaning.status.Status.{Status}
use Rattle.perm_engine.specs.declared.meaning.status.Status.TheVariants as status
use Rattle.perm_engine.proofs.meaning.Causes.{refuses_with}
use Rattle.perm_engine.proofs.meaning.Running.{of_script}

-- ---- the statements that are left are regular

pub next-regular : (statement : Statement) (left : List Statement) → Each RegularStatement (statement ∷ left) → RegularStatement statement
next-regular statement left each = each statement (0, omega arith, refl)

pub left-regular : (statement : Statement) (left : List Statement) → Each RegularStatement (statement ∷ left) → Each RegularStatement left
left-regular statement left each other there = each other (suc there.0, (let within = there.1 in omega (arith, within)), there.2)

-- ---- a text is no refusal

abbrev pub answers : List ℕ → Result (List ℕ) StepRefusal
answers text = Ok text

pub text≢memory : (text : List ℕ) → answers text ≡ refuses_with refusal.NoMemory → ⊥
text≢memory text e = cc

-- ---- the status of a refused statement

refusal-of_script : (refused : StepRefusal) → IsOfScript (refusal_status refused)
refusal-of_script (refusal.Break b) = tt
refusal-of_script (refusal.Run fault at) = tt
refusal-of_script (refusal.Missing at) = tt
refusal-of_script (refusal.TooLarge at) = tt
refusal-of_script (refusal.Unfit rule) = tt
refusal-of_script refusal.ReadFault = tt
refusal-of_script refusal.NoMemory = tt

failed-of : (refused : StepRefusal) → refusal_status refused ≡ status.ReadFault → failed refused ≡ true
failed-of (refusal.Break b) e = absurd cc
failed-of (refusal.Run fault at) e = absurd cc
failed-of (refusal.Missing at) e = absurd cc
failed-of (refusal.TooLarge at) e = absurd cc
failed-of (refusal.Unfit rule) e = absurd cc
failed-of refusal.ReadFault e = refl
failed-of refusal.NoMemory e = absurd cc

unfailed-of : (refused : StepRefusal) → IsSteady (refusal_status refused) → failed refused ≡ false
unfailed-of (refusal.Break b) h = refl
unfailed-of (refusal.Run fault at) h = refl
unfailed-of (refusal.Missing at) h = refl
unfailed-of (refusal.TooLarge at) h = refl
unfailed-of (refusal.Unfit rule) h = refl
unfailed-of refusal.ReadFault h = absurd h
unfailed-of refusal.NoMemory h = refl

write≢read : status.WriteFault ≡ status.ReadFault → ⊥
write≢read e = cc

module _ (refused : StepRefusal) (s : Status) (ends : (s ≡ refusal_status refused) ⊎ (s ≡ status.WriteFault)) where
  pub stopped-of_script : IsOfScript s
  stopped-of_script = of_script s (refusal_status refused) (refusal-of_script refused) ends

  pub stopped-read_fault : (before now : ℕ) → CountsFault before now (failed refused) → s ≡ status.ReadFault → HasRisen before now
  stopped-read_fault before now counts e = by_end ends where
    by_end : (s ≡ refusal_status refused) ⊎ (s ≡ status.WriteFault) → HasRisen before now
    by_end (inl same) = subst (CountsFault before now) (failed-of refused (sym same ∙ e)) counts
    by_end (inr cut) = absurd (write≢read (sym cut ∙ e))

  pub stopped-steady : (before now : ℕ) → CountsFault before now (failed refused) → IsSteady s → now ≡ before
  stopped-steady before now counts steady = by_end ends where
    by_end : (s ≡ refusal_status refused) ⊎ (s ≡ status.WriteFault) → now ≡ before
    by_end (inl same) = subst (CountsFault before now) (unfailed-of refused (subst IsSteady same steady)) counts
    by_end (inr cut) = absurd (subst IsSteady cut steady)

-- ---- other ends

pub other_end : (s given wrong : Status) → (given ≡ wrong → ⊥) → (status.WriteFault ≡ wrong → ⊥) → (s ≡ given) ⊎ (s ≡ status.WriteFault) → s ≡ wrong → ⊥
other_end s given wrong other cut (inl same) e = other (sym same ∙ e)
other_end s given wrong other cut (inr failed) e = cut (sym failed ∙ e)

pub failed-unsteady : (s : Status) → (s ≡ status.ReadFault) ⊎ (s ≡ status.WriteFault) → IsSteady s → ⊥
failed-unsteady s (inl same) h = subst IsSteady same h
failed-unsteady s (inr cut) h = subst IsSteady cut h

-- the words were one
pub used-of_script : (s : Status) → s ≡ status.Usage → IsOfScript s → ⊥
used-of_script s e h = subst IsOfScript e h

-- bytes that are no script
module _ (s : Status) where
  pub misspelled-of_script : (s ≡ status.Syntax) ⊎ ((s ≡ status.WriteFault) ⊎ (s ≡ status.NoMemory)) → IsOfScript s
  misspelled-of_script (inl same) = subst IsOfScript (sym same) tt
  misspelled-of_script (inr (inl cut)) = subst IsOfScript (sym cut) tt
  misspelled-of_script (inr (inr short)) = subst IsOfScript (sym short) tt

  pub misspelled-unfailed : (s ≡ status.Syntax) ⊎ ((s ≡ status.WriteFault) ⊎ (s ≡ status.NoMemory)) → s ≡ status.ReadFault → ⊥
  misspelled-unfailed (inl same) e = cc
  misspelled-unfailed (inr (inl cut)) e = cc
  misspelled-unfailed (inr (inr short)) e = cc
