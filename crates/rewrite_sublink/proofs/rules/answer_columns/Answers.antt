use Rattle.std.proofs.Common.{◌≡◌, ◌∙◌, [], IfOk, subst}
use Rattle.bag_algebra.specs.ColumnItems.{column_items}
use Rattle.bag_algebra.specs.Kinds.{kinds_of}
use Rattle.bag_algebra.specs.built.Patterns.{ProjectOf}
use Rattle.bag_algebra.specs.declared.query.Query.{end_of-Sublink}
use Rattle.rewrite_sublink.proofs.rules.answer_columns.Goals as goal

pub returns : goal.returns
returns c =
    subst (λ places. IfOk c.regroup.result (λ p. p ≡ ProjectOf c.args.query (column_items (kinds_of c.args.query) places) [] end_of-Sublink))
    (c.as_slice.ensures ∙ c.in-Ok.ensures) c.regroup.ensures.made
