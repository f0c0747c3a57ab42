use Rattle.std.proofs.Common.{[]}
use Rattle.name_seen_parts.proofs.Labels.{label-alias, label-named, label-none, text-so}
use Rattle.name_seen_parts.proofs.from_columns.items.label_of.Goals as goal

pub returns-in-Named : goal.returns-in-Named
returns-in-Named c = λ contents.
    text-so c.copy.result c.in-Named.name.text _ (label-named contents c.args.item.now.source c.args.item.now.alias c.in-Named.name c.in-Named.is) c.copy.ensures

pub returns-in-Some : goal.returns-in-Some
returns-in-Some c = λ contents.
    text-so c.copy-in-Some.result c.in-Some.alias.text _
    (label-alias contents c.args.item.now.source c.args.item.now.alias c.in-Inner.field-0 c.in-Some.alias c.in-Inner.is c.in-Some.is) c.copy-in-Some.ensures

pub returns-in-None : goal.returns-in-None
returns-in-None c = λ contents.
    text-so c.from_text.result [] _ (label-none contents c.args.item.now.source c.args.item.now.alias c.in-Inner.field-0 c.in-Inner.is c.in-None.is) c.from_text.ensures
