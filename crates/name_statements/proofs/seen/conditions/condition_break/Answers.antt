use Rattle.std.specs.Prelude.{List, [], ◌∷◌}
use Rattle.std.proofs.Common.{ap, ◌∙◌}
use Rattle.name_seen_parts.specs.Named.{scopes_of}
use Rattle.name_seen_parts.specs.Standing.{standing_in}
use Rattle.name_meaning.specs.declared.scope.Scope.{Scope}
use Rattle.name_statements.proofs.Broken.{condition-told}
use Rattle.name_statements.proofs.seen.conditions.condition_break.Goals as goal

pub returns : goal.returns
returns c =
    condition-told c.args.catalog.now c.args.tree.now (c.args.scope.now ∷ []) (standing_in (scopes_of c.in_ok-scopes.scopes) c.alone.result) c.kind_of.result c.condition_over.result
    (ap (λ (scopes : List Scope). standing_in scopes c.alone.result) c.in_ok-scopes.ensures ∙ c.alone.ensures (c.args.scope.now ∷ []))
    c.condition_over.ensures.tells c.kind_of.ensures
