use Rattle.std.proofs.Common.{◌∙◌, ◌++◌, ◌-◌, ap, length}
use Rattle.perm_io.proofs.watched.Ends.{last_of-append}
use Rattle.perm_io.specs.watched.Kept.{last_of}
use Rattle.perm_io.specs.declared.watched.kept.TheConstants.{LAST}
use Rattle.perm_io.proofs.watched.kept.last_of.Goals as goal

pub returns : goal.returns
returns c =
    c.add-2.ensures
    ∙ ap (λ xs. xs ++ c.end_of-behind.result.now) (c.add.ensures ∙ ap (λ xs. xs ++ c.end_of-before.result.now) c.new-last.ensures)
    ∙ ap (λ xs. xs ++ c.end_of-behind.result.now) c.end_of-before.ensures
    ∙ ap (λ xs. last_of (LAST - length xs) c.args.kept.now ++ xs) c.end_of-behind.ensures
    ∙ last_of-append LAST c.args.kept.now c.args.more.now
