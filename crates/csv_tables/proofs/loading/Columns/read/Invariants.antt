use Rattle.csv.specs.Records.{fields_of}
use Rattle.csv_tables.proofs.Rules.{FieldsRead}
use Rattle.csv_tables.proofs.loading.Columns.read.Given as goal

abbrev pub invariant-loop-place : goal.invariant-loop-place
invariant-loop-place l = FieldsRead l.self.null_field.now l.self.kinds.now l.number (fields_of l.fields) l.row l.place
