use Rattle.std.specs.Prelude.{◌≡◌}
use Rattle.perm_values.proofs.Results.{where_made}
use Rattle.bag_algebra.specs.Kinds.{kinds_of}
use Rattle.name_meaning.specs.Froms.{read_view}
use Rattle.name_meaning.proofs.SettledKinds.{named-names}
use Rattle.name_made_parts.proofs.sources.view_item.Goals as goal

pub returns-in-Plain : goal.returns-in-Plain
returns-in-Plain c =
    rw c.in-Plain.is
    (where_made (λ made. (name : _) → made ≡ (read_view name c.args.view.now).plain) (λ made. made ≡ (read_view c.args.name.now c.args.view.now).plain) c.view_plain.result
    (λ made is. is c.args.name.now) (c.view_plain.ensures c.in_ok-query.ensures))

pub returns-in-Ok : goal.returns-in-Ok
returns-in-Ok c =
    rw (c.in-BaseRelation.is, named-names c.args.view.now.answer.names (kinds_of c.args.view.now.answer.query) c.requires)
    (rw (c.in_ok-query.ensures, c.in-Ok.ensures) at c.whole_source.ensures)

pub returns-in-External : goal.returns-in-External
returns-in-External c =
    rw (c.in-External.is, named-names c.args.view.now.answer.names (kinds_of c.args.view.now.answer.query) c.requires)
    (rw (c.in_ok-query.ensures, c.as_slice-names.ensures, c.as_slice.ensures) at c.attributes_of.ensures)
