use Rattle.std.proofs.Common.{sym, ◌∙◌}
use Rattle.simplifier.proofs.AskedRows.{only}
use Rattle.simplifier.proofs.asked.asks_any.Goals as goal

pub returns-in-len1 : goal.returns-in-len1
returns-in-len1 c h = record {
  item = c.item-item.result;
  one = sym c.as_slice.ensures ∙ only c.as_slice.result.now c.item-item.result c.in-len1.len_at_least c.in-len1.len_below c.item-item.is;
  test = c.is_joined.ensures h;
}
