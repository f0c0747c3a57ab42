use Rattle.std.proofs.Common.{ap, sym, ◌∙◌}
use Rattle.name_seen_parts.proofs.Labels.{text-so}
use Rattle.name_seen_cores.specs.Shown.{called_at}
use Rattle.name_seen_cores.proofs.Called.{called-aggregate, called-column, called-none, called-paren}
use Rattle.name_seen_cores.proofs.names.+called.Goals as goal

pub returns-in-Column : goal.returns-in-Column
returns-in-Column t c = λ contents.
    text-so c.copy.result c.in-Column.reference.name.text (called_at contents c.args.position c.args.tree.now)
    (called-column contents c.args.position c.args.tree.now c.in-Column.reference c.in-Column.is) c.copy.ensures

pub returns-in-Paren : goal.returns-in-Paren
returns-in-Paren t c = λ contents.
    text-so c.called.result (called_at contents c.args.position c.get.result.now) (called_at contents c.args.position c.args.tree.now)
    (called-paren contents c.args.position c.args.tree.now c.in-Paren.part c.in-Paren.is ∙ ap (called_at contents c.args.position) (sym c.get.ensures)) (c.called.ensures contents)

pub returns-in-Aggregate : goal.returns-in-Aggregate
returns-in-Aggregate t c = λ contents.
    text-so c.aggregate_name.result _ (called_at contents c.args.position c.args.tree.now)
    (called-aggregate contents c.args.position c.args.tree.now c.in-Aggregate.function c.in-Aggregate.argument c.in-Aggregate.is) c.aggregate_name.ensures

pub returns-in_default : goal.returns-in_default
returns-in_default t c = λ contents.
    text-so c.numbered.result _ (called_at contents c.args.position c.args.tree.now)
    (called-none contents c.args.position c.args.tree.now c.in_default.not-Column c.in_default.not-Paren c.in_default.not-Aggregate) c.numbered.ensures
