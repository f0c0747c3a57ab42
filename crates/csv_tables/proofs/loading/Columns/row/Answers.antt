use Rattle.csv.specs.Records.{fields_of}
use Rattle.csv_tables.proofs.Rules.{found-no_memory}
use Rattle.csv_tables.proofs.loading.Columns.row.Goals as goal

pub returns-in-Some-clause-memory : goal.returns-in-Some-clause-memory
returns-in-Some-clause-memory c e =
    found-no_memory c.args.self.now.null_field.now c.args.self.now.kinds.now c.args.number (fields_of c.args.fields.now) c.first_broken.result c.in-Some.broken c.first_broken.ensures c.in-Some.is (cc e)
