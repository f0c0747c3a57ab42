-- What is due of a statement is what its own names break.
use Rattle.std.proofs.Common.{◌≡◌, List, Result, Ok, Err, refl}
use Rattle.name_statements.specs.Own.{TellsFirst}
use Rattle.name_seen_parts.specs.declared.refusal.Refusal.{Refusal}
use Rattle.name_seen_parts.specs.declared.refusal.Refusal.TheVariants as analysis
use Rattle.name_meaning.specs.declared.answer.Break.{Break}
use Rattle.name_meaning.specs.declared.answer.Resolved.{Resolved}
use Rattle.statement_meaning.specs.declared.refusal.StepRefusal.{StepRefusal}
use Rattle.perm_engine.specs.meaning.Resolving.{IsDue}

-- what name analysis tells first is due
whole≢broken : (made : Resolved) (b : Break) → (whole : Result Resolved Refusal) → whole ≡ Ok made → whole ≡ Err (analysis.Break b) → ⊥
whole≢broken made b whole one other = cc

pub due-whole : {X : Type 0} (breaks : List Break) (made : Resolved) (result : Result X StepRefusal) → TellsFirst breaks (Ok made) → IsDue breaks result
due-whole breaks made result h first e = absurd (whole≢broken made first (Ok made) refl (h first e))
