use Rattle.std.specs.Prelude.{List, [], ◌∷◌}
use Rattle.std.proofs.Common.{ap, ◌∙◌}
use Rattle.perm_values.proofs.Results.{where_made}
use Rattle.name_seen_parts.specs.Named.{scopes_of}
use Rattle.name_seen_parts.specs.Standing.{standing_in}
use Rattle.name_meaning.specs.Froms.{table_columns}
use Rattle.name_meaning.specs.Scopes.{scope_of}
use Rattle.name_meaning.specs.Statements.{bare}
use Rattle.name_meaning.specs.declared.scope.Scope.{Scope}
use Rattle.perm_catalog.specs.declared.column.Column.{Column}
use Rattle.name_statements.proofs.Values.{condition-alone}
use Rattle.name_analysis.proofs.conditions.condition_made.Goals as goal

pub returns : goal.returns
returns c =
    let here = standing_in (scopes_of c.in-Ok.scopes) c.alone.result in
    let same = ap (λ (scopes : List Scope). standing_in scopes c.alone.result) c.in-Ok.ensures ∙ c.alone.ensures (c.in_ok-scope.scope ∷ [])
    ∙ ap (λ (scope : Scope). bare (scope ∷ [])) (c.in_ok-scope.ensures
    ∙ ap (λ (columns : List Column). scope_of (record { name = c.args.table.now.text; columns = table_columns columns } ∷ [])) c.as_slice.ensures) in
    where_made _ _ c.made-condition.result
    (λ e makes. condition-alone c.args.catalog.now c.args.table.now c.args.tree.now c.args.entry.now here _ e _ _ makes c.nothing-found.ensures same c.requires.whole)
    c.made-condition.ensures
