use Rattle.std.specs.Prelude.{suc, ◌∷◌}
use Rattle.tree_texts.specs.Forms.{no_condition}
use Rattle.query_texts.specs.forms.ShownQueries.{just}
use Rattle.sql_printer.proofs.cores.ReadBlocks.{chain-block}
use Rattle.sql_printer.proofs.cores.ReadChains.{just-read}
use Rattle.sql_printer.proofs.groups.ReadGroups.{in_groups-read}
use Rattle.sql_printer.proofs.groups.printed_groups_are_read_back.Goals as goal

pub returns : goal.returns
returns c = λ contents depth scopes unread around kind more few outer form q input group others aggregates within formed writable small out first tree d.
    let own = kind ∷ more in
    let block = chain-block contents (suc depth) around.outer own 0 (just form) q (just-read contents (suc depth) around.outer own few form q input) in
    (in_groups-read contents depth scopes unread around own 0 outer (just form) no_condition q block (group ∷ others) aggregates within formed writable small out first tree d).1
