use Rattle.query_laws.proofs.SublinkValues.{exists-some, exists-none, any-true, any-unknown, any-false, all-false, all-unknown, all-true, scalar-none, scalar-one, scalar-several}
use Rattle.query_laws.proofs.sublinks.sublinks_have_their_values.Goals as goal

pub returns-clause-exists : goal.returns-clause-exists
returns-clause-exists c = exists-some

pub returns-clause-exists_none : goal.returns-clause-exists_none
returns-clause-exists_none c = exists-none

pub returns-clause-any_true : goal.returns-clause-any_true
returns-clause-any_true c = any-true

pub returns-clause-any_unknown : goal.returns-clause-any_unknown
returns-clause-any_unknown c = any-unknown

pub returns-clause-any_false : goal.returns-clause-any_false
returns-clause-any_false c = any-false

pub returns-clause-all_false : goal.returns-clause-all_false
returns-clause-all_false c = all-false

pub returns-clause-all_unknown : goal.returns-clause-all_unknown
returns-clause-all_unknown c = all-unknown

pub returns-clause-all_true : goal.returns-clause-all_true
returns-clause-all_true c = all-true

pub returns-clause-scalar_none : goal.returns-clause-scalar_none
returns-clause-scalar_none c = scalar-none

pub returns-clause-scalar_one : goal.returns-clause-scalar_one
returns-clause-scalar_one c = scalar-one

pub returns-clause-scalar_several : goal.returns-clause-scalar_several
returns-clause-scalar_several c = scalar-several
