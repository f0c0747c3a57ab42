use Rattle.std.proofs.Common.{drop, arith, sym, subst}
use Rattle.std.specs.Str.{IsUtf8}
use Rattle.std.proofs.lemmas.List.{take_rest, length-drop}
use Rattle.sql_lexer.proofs.Classes.{quote_ascii}
use Rattle.sql_lexer.proofs.InsideUtf8.{behind_utf8, whole}
use Rattle.sql_lexer.proofs.piece.piece_at.Goals as goal

pub quoted-requires-clause-utf8 : goal.quoted-requires-clause-utf8
quoted-requires-clause-utf8 c =
    let bytes = c.args.bytes.now in
    let at = c.args.at in
    let low = rw (take_rest bytes at) at (quote_ascii _ (sym c.in-Quote.ensures)) in
    rw (take_rest bytes at) (subst IsUtf8 (sym (whole (drop at bytes) (omega (arith, length-drop at bytes)))) (behind_utf8 bytes at c.requires.utf8 c.requires.within low))
