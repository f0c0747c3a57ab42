use Rattle.std.proofs.Common.{◌≡◌, None, subst, ◌∙◌}
use Rattle.sql_tree.specs.grammar.Cursors.{Reads, reading}
use Rattle.sql_tree.specs.grammar.Symbols.{ScriptOf}
use Rattle.sql_parser.specs.Nesting.{too_deep}
use Rattle.sql_parser.proofs.Whole.{parses}
use Rattle.sql_parser.proofs.parser.script.Goals as goal

pub returns : goal.returns
returns c =
    let shallow : too_deep c.args.tokens.now ≡ None = cc in
    let read = subst (λ tokens. Reads c.script-read.result (reading ScriptOf tokens) c.script-read.new.cursor)
    (c.new-cursor.ensures ∙ c.as_slice.ensures) c.script-read.ensures.given in
    rw c.ended.ensures (parses c.args.tokens.now c.args.length shallow c.script-read.result c.script-read.new.cursor read)
