use Rattle.query_laws.proofs.Grouped.{count-class_of}
use Rattle.query_laws.proofs.laws.every_row_is_in_one_class.Goals as goal

pub returns : goal.returns
returns c = count-class_of
