use Rattle.std.proofs.lemmas.Result.{on_ok_weaker}
use Rattle.contribution.proofs.RelationNumbers.{numbers_more}
use Rattle.contribution.proofs.names.put_number.Goals as goal

pub returns-in-Relation : goal.returns-in-Relation
returns-in-Relation c = λ earlier h e.
    rw c.in-Relation.is (on_ok_weaker c.set_number.result (λ put. numbers_more _ _ earlier _ c.args.number put h (rw c.in-Relation.is at e)) c.set_number.ensures)
