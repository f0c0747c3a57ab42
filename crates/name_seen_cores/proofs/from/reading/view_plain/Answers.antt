use Rattle.name_seen_cores.proofs.Plain.{facts-so, view-source}
use Rattle.name_seen_cores.proofs.from.reading.view_plain.Goals as goal

pub returns-in-Some : goal.returns-in-Some
returns-in-Some c = λ sorts name.
    facts-so c.external.result _ _
    (view-source c.args.view.now name c.as_slice-names.result.now c.args.kinds.now c.as_slice.result.now c.in-Some.places
    c.as_slice-names.ensures sorts c.in-Some.is c.as_slice.ensures) c.external.ensures
