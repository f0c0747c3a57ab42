use Rattle.std.proofs.Common.{◌∙◌, ◌++◌, ◌∷◌, [], ap}
use Rattle.rewrite_sublink.proofs.candidates.existing.Goals as goal
use Rattle.rewrite_sublink.specs.Candidates.{exists_in}

pub returns : goal.returns
returns c = c.in_ok-add_existing.ensures ∙ ap (λ subs. subs ++ exists_in c.args.found.now ∷ []) c.new-subs.ensures
