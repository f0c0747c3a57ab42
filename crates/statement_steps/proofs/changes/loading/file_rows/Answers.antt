use Rattle.std.proofs.Common.{◌≡◌, ℕ, List, subst}
use Rattle.perm_io.specs.Found.{Read}
use Rattle.statement_meaning.specs.Answers.{file_limit}
use Rattle.statement_steps.proofs.SomeFound.{some_found}
use Rattle.statement_steps.specs.changes.Copied.{GivesRows}
use Rattle.statement_steps.proofs.changes.loading.file_rows.Goals as goal

pub returns-in-Ok-clause-loaded : goal.returns-in-Ok-clause-loaded
returns-in-Ok-clause-loaded g c =
    let same : c.as_slice.result.now ≡ c.in-Ok.bytes = c.as_slice.ensures in (
      Read c.in-Ok.bytes,
      (c.in-Ok.ensures.whole, c.in-Ok.ensures.within),
      subst (λ (bytes : List ℕ). GivesRows c.args.at c.args.file.now.kinds.now c.args.file.now.null_field.now c.args.file.now.header c.loaded.result (Read bytes)) same (c.loaded.ensures.given c.args.at),
    )

pub returns-in-Err-NoMemory-clause-loaded : goal.returns-in-Err-NoMemory-clause-loaded
returns-in-Err-NoMemory-clause-loaded g c =
    let some = some_found file_limit (g.F.Files.told c.args.files.now).held _ c.args.file.now.name.now in
    (some.0, some.1, λ _ _. tt)
