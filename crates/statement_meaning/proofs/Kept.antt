-- What a refused statement and a query leave.
use Rattle.std.proofs.Common.{◌≡◌, ℕ, List, [], Result, Ok, Err, sym, subst}
use Rattle.bag_algebra.specs.Bags.{Bag}
use Rattle.bag_algebra.specs.Meaning.{meaning}
use Rattle.bag_algebra.specs.Outcome.{Outcome, Good, Bad}
use Rattle.bag_algebra.specs.TableRows.{rows_in}
use Rattle.bag_algebra.specs.declared.query.Answer.{Answer}
use Rattle.perm_catalog.specs.Contents.{Contents}
use Rattle.sql_tree.specs.declared.statement.Statement.{Statement}
use Rattle.statement_meaning.specs.Answers.{Files, IsTurn, TakesTurn, can_be}
use Rattle.statement_meaning.specs.Asking.{Asked, Settled, Begins, Explained, asked}
use Rattle.statement_meaning.specs.Turns.{Turn, Cause, Accepted, Refused, answered, on_good}
use Rattle.statement_meaning.specs.declared.refusal.StepRefusal.{StepRefusal}
use Rattle.statement_meaning.proofs.Answered.{asked-select}
use Rattle.statement_meaning.specs.laws.Asks.{AsksFor}

pub refused-keeps : (cause : Cause) (old new : Contents) (answer : Result (List ℕ) StepRefusal) → IsTurn (Refused cause) old new answer → new ≡ old
refused-keeps cause old new (Ok text) h = absurd (cc h)
refused-keeps cause old new (Err refusal) h = h.1

pub refusal-keeps : (turn : Turn) (old new : Contents) (refusal : StepRefusal) → IsTurn turn old new (Err refusal) → new ≡ old
refusal-keeps turn old new refusal h = h.1

pub files-keep : (files : Files) (asks : Asked) (old new : Contents) (refusal : StepRefusal)
    → TakesTurn (can_be files) asks old new (Err refusal) → new ≡ old
files-keep files (Settled turn) old new refusal h = h.1
files-keep files (Begins name after) old new refusal h = h.2.1
files-keep files (Explained c answer) old new refusal h = h.1

same_contents : (text other : List ℕ) (c new : Contents) → Accepted text c ≡ Accepted other new → new ≡ c
same_contents text other c new e = sym (let same : c ≡ new = cc in same)

select-keeps : (at : ℕ) (answer : Answer) (o : Outcome Bag) (c new : Contents) (text : Result (List ℕ) StepRefusal)
    → IsTurn (on_good at o (answered c answer)) c new text → new ≡ c
select-keeps at answer (Good bag) c new (Ok text) h = same_contents _ text c new h
select-keeps at answer (Bad faults) c new (Ok text) h = absurd (cc h)
select-keeps at answer (Good bag) c new (Err refusal) h = h.1
select-keeps at answer (Bad faults) c new (Err refusal) h = h.1

pub query-keeps : (files : Files) (c new : Contents) (statement : Statement) (answer : Answer) (text : Result (List ℕ) StepRefusal)
    → AsksFor c statement answer → TakesTurn (can_be files) (asked c statement) c new text → new ≡ c
query-keeps files c new statement answer text asked_for h =
    select-keeps statement.at answer (meaning answer.query (rows_in c.rows) []) c new text
    (subst (λ (a : Asked). TakesTurn (can_be files) a c new text) (asked-select c statement answer asked_for) h)
