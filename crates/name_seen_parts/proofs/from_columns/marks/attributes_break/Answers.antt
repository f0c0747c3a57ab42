use Rattle.std.specs.Prelude.{List}
use Rattle.std.proofs.Common.{ap, sym, ◌∙◌, take}
use Rattle.name_meaning.specs.declared.answer.Break.{Break}
use Rattle.name_seen_parts.specs.Seen.{first_or}
use Rattle.name_seen_parts.proofs.Firsts.{none-broken}
use Rattle.name_seen_parts.specs.Marks.{attribute_break}
use Rattle.name_seen_parts.specs.FromColumns.{known_names}
use Rattle.name_seen_parts.proofs.Attributed.{attributes-first, attributes-step}
use Rattle.name_seen_parts.proofs.from_columns.marks.attributes_break.Goals as goal

pub returns-in-Err : goal.returns-in-Err
returns-in-Err c =
    sym (ap (λ (breaks : List Break). first_or breaks (tt {0})) c.loop-at.invariant
    ∙ attributes-first (known_names c.args.columns.now) c.args.attributes.now c.loop-at.at c.index-attributes-at.result c.in-Err.first
    c.loop-at-test.true c.index-attributes-at.is (sym c.attribute_break.ensures ∙ c.in-Err.is))

pub loop-at-preserved : goal.loop-at-preserved
loop-at-preserved c =
    c.loop-at.invariant
    ∙ attributes-step (known_names c.args.columns.now) c.args.attributes.now c.loop-at.at c.index-attributes-at.result c.loop-at-test.true c.index-attributes-at.is
    (none-broken (attribute_break (known_names c.args.columns.now) (take c.loop-at.at c.args.attributes.now) c.index-attributes-at.result) (tt {0}) (tt {0})
    (sym c.attribute_break.ensures ∙ c.in-Ok.is))
