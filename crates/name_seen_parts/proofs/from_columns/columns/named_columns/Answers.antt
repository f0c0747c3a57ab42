use Rattle.std.specs.Prelude.{◌++◌, ◌∷◌, []}
use Rattle.std.proofs.Common.{ap, ◌∙◌, get_or, arith}
use Rattle.perm_values.specs.declared.kind.Kind.TheVariants as kind
use Rattle.name_meaning.specs.Froms.{table_columns}
use Rattle.name_seen_parts.proofs.NamedColumns.{named-all, named-more, table-more, known_column}
use Rattle.name_seen_parts.proofs.from_columns.columns.named_columns.Goals as goal

pub loop-at-preserved : goal.loop-at-preserved
loop-at-preserved c =
    ap table_columns c.in_ok-push.ensures.ok
    ∙ table-more c.loop-at.columns (record { name = c.in_ok-copy.field-0; kind = get_or c.args.kinds.now c.loop-at.at kind.Integer })
    ∙ (λ i. c.loop-at.invariant i ++ known_column (c.in_ok-copy.ensures i) (get_or c.args.kinds.now c.loop-at.at kind.Integer) ∷ [])
    ∙ named-more c.args.names.now c.args.kinds.now c.loop-at.at c.index-names-at.result kind.Integer
    (omega (arith, c.loop-at-test.true, c.min-at-end.ensures)) c.index-names-at.is

pub returns : goal.returns
returns c = c.loop-at.invariant ∙ named-all c.args.names.now c.args.kinds.now c.loop-at.at (omega (arith, c.loop-at-test.false, c.min-at-end.ensures))
