use Rattle.std.proofs.Common.{sym, subst}
use Rattle.sql_lexer.specs.Lexes.{Lexes}
use Rattle.tree_texts.specs.Standing.{standing}
use Rattle.tree_texts.specs.Texts.{places_from}
use Rattle.tree_texts.proofs.Shown.{shown_is_read}
use Rattle.tree_texts.proofs.layout.WovenTokens.{woven_script}
use Rattle.tree_texts.proofs.layout.lines.in_lines.Goals as goal

pub returns : goal.returns
returns c = λ tokens all is.
    let found = standing (places_from 0 tokens) 0 tokens in
    let read = subst (λ text. Lexes text found) (sym is) (shown_is_read tokens all) in
    woven_script c.args.text.now tokens c.in_ok-laid.laid c.add.new.self all is (c.in_ok-laid.ensures found read) c.in_ok-add.ensures.ok
