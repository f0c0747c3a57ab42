use Rattle.csv_tables.proofs.Fields.{text-faulty, text-whole}
use Rattle.csv_tables.proofs.loading.Columns.broken_by.Goals as goal

pub returns-in-Ok : goal.returns-in-Ok
returns-in-Ok c = text-whole c.args.self.now.null_field.now c.args.row c.args.place c.args.kind c.args.field.now _ c.in-Text.is c.if-eq.false c.eq.ensures c.in-Ok.ensures.cases.1

pub returns-in-Err : goal.returns-in-Err
returns-in-Err c = text-faulty c.args.self.now.null_field.now c.args.row c.args.place c.args.kind c.args.field.now _ c.in-Text.is c.if-eq.false c.eq.ensures c.in-Err.ensures.cases.0
