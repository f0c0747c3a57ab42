use Rattle.statement_steps.proofs.stepping.step.Goals as goal

-- every statement but COPY
pub returns-in-CreateTable-clause-done : goal.returns-in-CreateTable-clause-done
returns-in-CreateTable-clause-done g c = c.settle.ensures.done (g.F.Files.told c.args.files.now)
