use Rattle.std.proofs.Common.{ap, sym, ◌∙◌}
use Rattle.sql_tree.specs.declared.query.Core.{Core, out-Core}
use Rattle.sql_tree.specs.declared.query.SetTree.{SetTree}
use Rattle.name_meaning.specs.Trees.{set_of_tree}
use Rattle.name_seen_cores.proofs.Opened.{core-word, first-word, no-word}
use Rattle.name_seen_cores.proofs.queries.+core_word.Goals as goal

pub returns-in-Core : goal.returns-in-Core
returns-in-Core t c = λ contents.
    ap (λ (core : Core). (out-Core core).provenance) c.get.ensures ∙ core-word contents c.args.tree.now c.in-Core.core c.in-Core.is

pub returns-in-Paren : goal.returns-in-Paren
returns-in-Paren t c = λ contents. sym (no-word contents c.args.tree.now c.in-Paren.field-0 c.in-Paren.is)

pub returns-in-Chain : goal.returns-in-Chain
returns-in-Chain t c = λ contents.
    c.core_word.ensures contents ∙ ap (λ (tree : SetTree). (set_of_tree contents tree).word) c.get-in-Chain.ensures
    ∙ sym (first-word contents c.args.tree.now c.in-Chain.first c.in-Chain.steps c.in-Chain.is)
