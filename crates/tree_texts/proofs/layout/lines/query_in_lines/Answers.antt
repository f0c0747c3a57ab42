use Rattle.std.proofs.Common.{refl}
use Rattle.sql_lexer.proofs.Spans.{spanned}
use Rattle.tree_texts.proofs.layout.lines.query_in_lines.Goals as goal

pub woven-requires : goal.woven-requires
woven-requires c = rw c.as_slice.ensures (spanned c.args.text.now c.in-Ok.ensures.lexes.whole refl)
