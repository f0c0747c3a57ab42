use Rattle.rewrite_move.proofs.Contributed.{traced-contributes, traced-value}
use Rattle.rewrite_move.proofs.TracedSteps.{query-by, places-by, formed-by}
use Rattle.rewrite_move.proofs.laws.traced_sublinks_contribute_the_same.Goals as goal

pub returns-clause-query : goal.returns-clause-query
returns-clause-query c sub = query-by sub.kind sub

pub returns-clause-places : goal.returns-clause-places
returns-clause-places c sub = places-by sub.kind sub

pub returns-clause-formed : goal.returns-clause-formed
returns-clause-formed c sub outer f = formed-by sub.kind outer sub f

pub returns-clause-value : goal.returns-clause-value
returns-clause-value c db env b sub v has = traced-value db env b sub v has

pub returns-clause-contributions : goal.returns-clause-contributions
returns-clause-contributions c db env b sub v w has = traced-contributes db env b sub v has w
