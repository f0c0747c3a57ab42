use Rattle.std.specs.Prelude.{suc, ◌∷◌}
use Rattle.tree_texts.specs.Forms.{no_condition}
use Rattle.query_texts.specs.forms.ShownQueries.{just}
use Rattle.sql_printer.proofs.cores.ReadBlocks.{chain-block, copied-read}
use Rattle.sql_printer.proofs.cores.ReadChains.{just-read}
use Rattle.sql_printer.proofs.cores.a_printed_copy_is_read_back.Goals as goal

pub returns : goal.returns
returns c = λ contents depth scopes unread around kind more few outer form q input distinct out first tree d.
    let own = kind ∷ more in
    let block = chain-block contents (suc depth) around.outer own 0 (just form) q (just-read contents (suc depth) around.outer own few form q input) in
    (copied-read contents depth scopes unread around own 0 (just form) no_condition q block outer distinct out first tree d).1
