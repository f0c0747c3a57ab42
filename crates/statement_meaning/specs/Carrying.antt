-- What has become of a statement that is carried out.
use Rattle.std.specs.Prelude.{◌≡◌, ℕ, List, Result}
use Rattle.perm_catalog.specs.Contents.{Contents}
use Rattle.perm_io.specs.Counts.{CountsFault}
use Rattle.statement_meaning.specs.Answers.{Files, TakesTurn, IsBacked, can_be, has_failed}
use Rattle.statement_meaning.specs.Asking.{Asked}
use Rattle.statement_meaning.specs.declared.refusal.StepRefusal.{StepRefusal}

-- what it asks for has become of it over these files: a refusal rests on what it names, the count of faults moves only where
-- it says that a file failed, and no file is changed
pub record IsCarriedOut (a : Asked) (old new : Contents) (result : Result (List ℕ) StepRefusal) (files : Files) : Type 0 where
  pub turn : TakesTurn (can_be files) a old new result
  pub backed : IsBacked result files
  pub faults : CountsFault files.faults files.faults_after (has_failed result)
  pub held : files.held_after ≡ files.held
