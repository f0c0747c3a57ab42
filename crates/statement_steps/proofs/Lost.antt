-- The turn of an IMPACT is that of a query that answers which rows vanish.
use Rattle.std.proofs.Common.{◌≡◌, ◌≢◌, ◌↔◌, ◌≤◌, ◌<◌, ◌∙◌, ℕ, Bool, true, false, cond, List, [], Option, Some, None, Result, Ok, Err, IfOk, refl, ap, subst, arith}
use Rattle.perm_values.specs.Rows.{printed_cmp}
use Rattle.bag_algebra.proofs.SortedBags.{printed_unique}
use Rattle.bag_algebra.proofs.TablesRead.{reads_among-fit}
use Rattle.bag_algebra.specs.Bags.{Row, Bag, sorted}
use Rattle.bag_algebra.specs.Fits.{TablesFit}
use Rattle.bag_algebra.specs.Meaning.{Database, meaning}
use Rattle.bag_algebra.specs.Outcome.{Outcome, Good, Bad, both, each}
use Rattle.bag_algebra.specs.TableRows.{rows_in}
use Rattle.bag_algebra.specs.TablesRead.{EachTable}
use Rattle.bag_algebra.specs.declared.expr.Expr.{Expr}
use Rattle.bag_algebra.specs.declared.query.Answer.{Answer}
use Rattle.bag_algebra.specs.declared.query.Query.{Query}
use Rattle.csv_tables.specs.AnswerText.{answer_bytes}
use Rattle.delete_impact.proofs.Unread.{nothing-vanishes}
use Rattle.delete_impact.specs.vanishing.Doomed.{doomed_on}
use Rattle.delete_impact.specs.vanishing.Vanishing.{Vanishes}
use Rattle.perm_catalog.specs.Contents.{Contents}
use Rattle.query_laws.proofs.Once.{holds_once-same}
use Rattle.query_laws.specs.Holding.{HoldsOnce}
use Rattle.statement_meaning.proofs.Lost.{lost-vanish, reads-not, reads-some}
use Rattle.statement_meaning.specs.Answers.{IsText}
use Rattle.statement_meaning.specs.Ready.{CanLose, CanRun}
use Rattle.statement_meaning.specs.Turns.{Turn, Accepted, answered, identity_of, impact, on_good, reads, rows_lost, select}
use Rattle.statement_meaning.specs.declared.refusal.StepRefusal.{StepRefusal}
use Rattle.statement_steps.specs.Runs.{IsAnswered, IsLost, IsLostBy}
use Rattle.statement_steps.specs.declared.ran.Ran.{Ran}

module _ (c : Contents) (at : ℕ) (name : List ℕ) (condition : Option Expr) (answer lost : Answer) (can : CanLose c name condition answer)
    (by : IsLostBy c name condition answer lost) where
  abbrev q : Query
  q = answer.query

  abbrev id : ℕ
  id = identity_of c name

  abbrev db : Database
  db = rows_in c.rows

  abbrev Gone : Row → Type 0
  Gone = Vanishes q id condition db

  abbrev next : Bag → Turn
  next rows = answered c answer (rows_lost id condition q db rows)

  fits : TablesFit db q
  fits = can.can.fitting

  pub lost-runs : CanRun c lost
  lost-runs = record { formed = by.query.formed; fitting = reads_among-fit lost.query q db by.query.tables fits }

  same-answered : (ts us : Bag) → HoldsOnce Gone ts → HoldsOnce Gone us → answered c lost ts ≡ answered c answer us
  same-answered ts us h k =
      (λ i. Accepted (answer_bytes (by.names i) (sorted (printed_cmp (by.keys i)) ts)) c)
      ∙ ap (λ (rows : Bag). Accepted (answer_bytes answer.names rows) c) (printed_unique answer.keys ts us (holds_once-same Gone ts us h k))

  -- ---- where the query reads the table

  both-first : (o : Outcome Bag) (p : Outcome (List Bool)) (us : Bag) → both (λ rows doomed. rows) o p ≡ Good us → o ≡ Good us
  both-first (Good rows) (Good doomed) us e = e
  both-first (Good rows) (Bad g) us e = absurd (cc e)
  both-first (Bad f) (Good doomed) us e = absurd (cc e)
  both-first (Bad f) (Bad g) us e = absurd (cc e)

  read-turn : (EachTable (λ other kinds. other ≢ id) q → ⊥) → (w : Outcome Bag)
      → both (λ rows doomed. rows) (meaning q db []) (each (doomed_on condition) (db id)) ≡ w → on_good at (meaning lost.query db []) (answered c lost) ≡ on_good at w next
  read-turn read (Good us) e =
      let found = by.query.vanishing db us fits read e in
      ap (λ (o : Outcome Bag). on_good at o (answered c lost)) found.1
      ∙ same-answered found.0 (rows_lost id condition q db us) found.2
      (lost-vanish q id condition db us (both-first (meaning q db []) (each (doomed_on condition) (db id)) us e))
  read-turn read (Bad faults) e = ap (λ (o : Outcome Bag). on_good at o (answered c lost)) (by.query.faults db faults fits read e)

  -- ---- where it doesn't

  none-gone : EachTable (λ other kinds. other ≢ id) q → HoldsOnce Gone []
  none-gone unread = record {
    once = λ t. omega arith;
    rows = λ t. (λ h. absurd (omega (arith, h)), λ gone. absurd (nothing-vanishes q id condition db t unread gone));
  }

  unread-turn : EachTable (λ other kinds. other ≢ id) q → (o : Outcome Bag) → meaning q db [] ≡ o
      → on_good at (meaning lost.query db []) (answered c lost) ≡ on_good at (both {Y = List Bool} (λ rows doomed. rows) o (Good [])) next
  unread-turn unread (Good us) e =
      ap (λ (o : Outcome Bag). on_good at o (answered c lost)) (by.query.nothing db us fits unread e)
      ∙ same-answered [] (rows_lost id condition q db us) (none-gone unread) (lost-vanish q id condition db us e)
  unread-turn unread (Bad faults) e = ap (λ (o : Outcome Bag). on_good at o (answered c lost)) (by.query.own_faults db faults fits unread e)

  -- ---- both

  by-reads : (b : Bool) → reads id q ≡ b
      → select c at lost ≡ on_good at (both (λ rows doomed. rows) (meaning q db []) (cond b (each (doomed_on condition) (db id)) (Good []))) next
  by-reads true e = read-turn (reads-some id q e) _ refl
  by-reads false e = unread-turn (reads-not id q e) (meaning q db []) refl

  pub lost-turn : select c at lost ≡ impact c at name condition answer
  lost-turn = by-reads (reads id q) refl

  pub lost-text : (result : Result (List ℕ) StepRefusal) → IsText (select c at lost) c result → IsText (impact c at name condition answer) c result
  lost-text result h = subst (λ (turn : Turn). IsText turn c result) lost-turn h

  pub lost-ran : (result : Result (List ℕ) StepRefusal) (last : Option Ran) → IfOk result (λ text. IsAnswered c lost text last)
      → IfOk result (λ text. IsLost c name condition answer text last)
  lost-ran (Ok text) (Some ran) h = record { lost = lost; is = by; answers = h }
  lost-ran (Ok text) None h = absurd h
  lost-ran (Err refusal) last h = tt
