use Rattle.std.proofs.Common.{◌∙◌, ap}
use Rattle.csv_tables.proofs.Fields.{integer-no_text, integer-parsed}
use Rattle.csv_tables.specs.Loading.{integer_of}
use Rattle.csv_tables.proofs.loading.integer.Goals as goal

pub returns-in-Ok : goal.returns-in-Ok
returns-in-Ok c = c.ok.ensures.value ∙ integer-parsed c.in-Ok.text.now c.parse.result c.parse.ensures.value.0 ∙ ap integer_of c.in-Ok.ensures.cases.0

pub returns-in-Err : goal.returns-in-Err
returns-in-Err c = integer-no_text c.args.field.now c.in-Err.ensures.cases.0
