use Rattle.csv_tables.proofs.Fields.{text-broken, text-spelled}
use Rattle.csv_tables.proofs.loading.Columns.value.Goals as goal

pub returns-in-Some-2-clause-ok : goal.returns-in-Some-2-clause-ok
returns-in-Some-2-clause-ok c =
    let found = c.in_ok-text-in-Text.ensures in
    text-spelled c.args.self.now.null_field.now c.args.row c.args.place c.args.kind c.args.field.now c.in-Some-2.text _ _ c.in-Text.is c.if-eq.false c.eq.ensures found.valid found.value c.in-Some-2.is

pub returns-in-None-2-clause-err : goal.returns-in-None-2-clause-err
returns-in-None-2-clause-err c =
    text-broken c.args.self.now.null_field.now c.args.row c.args.place c.args.kind c.args.field.now _ _ c.in-Text.is c.if-eq.false c.eq.ensures c.in_ok-text-in-Text.ensures.valid c.in-None-2.is
