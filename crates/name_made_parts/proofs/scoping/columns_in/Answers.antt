use Rattle.std.specs.Prelude.{List, ◌++◌, Option, ℕ}
use Rattle.std.proofs.Common.{ap, sym, ◌∙◌, take}
use Rattle.std.proofs.lemmas.List.{take_all}
use Rattle.name_meaning.specs.declared.scope.ScopeColumn.{ScopeColumn}
use Rattle.name_made_parts.specs.Segments.{column_in, columns_in}
use Rattle.name_made_parts.proofs.Segmented.{columns-more}
use Rattle.name_made_parts.proofs.scoping.columns_in.Goals as goal

pub loop-column-preserved : goal.loop-column-preserved
loop-column-preserved c =
    c.in_ok-add_column.ensures
    ∙ ap (λ (found : List ScopeColumn). found ++ column_in c.back_in.result c.column-item.result) c.loop-column.invariant
    ∙ ap (λ (back : Option ℕ). columns_in c.args.first c.args.count (take c.loop-column.column-index c.args.columns.now) ++ column_in back c.column-item.result) c.back_in.ensures
    ∙ sym (columns-more c.args.first c.args.count c.args.columns.now c.loop-column.column-index c.column-item.result c.loop-column-test.true c.column-item.is)

pub returns : goal.returns
returns c = c.loop-column.invariant ∙ ap (columns_in c.args.first c.args.count) (take_all c.loop-column.column-index c.args.columns.now c.loop-column-test.false)
