use Rattle.std.proofs.Common.{◌∙◌, None}
use Rattle.name_meaning.specs.Froms.{table_columns}
use Rattle.name_seen_parts.proofs.Scoping.{item-beside}
use Rattle.name_seen_parts.proofs.from_columns.scopes.add_item.Goals as goal

pub returns : goal.returns
returns c = λ i. record {
  items = c.in_ok-push.ensures i;
  columns = (c.in_ok-add_columns.ensures ∙ item-beside c.args.scope.now c.args.name (table_columns c.args.columns.now) c.len-number.result c.len-number.ensures) i;
  groups = None;
}
