use Rattle.std.proofs.Common.{◌∙◌, ◌++◌, ◌∷◌, [], ap}
use Rattle.rewrite_sublink.proofs.candidates.with_decision.Goals as goal
use Rattle.rewrite_sublink.specs.Candidates.{sub_over}

pub returns : goal.returns
returns c =
    c.in_ok-add_over.ensures
    ∙ ap (λ subs. subs ++ sub_over c.args.standing.now c.args.found.now ∷ []) (c.in_ok-add_same.ensures ∙ ap (λ subs. subs ++ c.args.standing.now ∷ []) c.in_ok-subs.ensures)
