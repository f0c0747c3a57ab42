-- The run of a query, by a query that stands for it, and the turn of a query.
use mathlib.Core.Bool.{true≢false}
use Rattle.std.proofs.Common.{◌≡◌, ◌∙◌, ℕ, true, List, [], Option, Some, None, Result, Ok, Err, IfOk, Ordering, refl, sym, ap, subst}
use Rattle.perm_values.specs.Rows.{printed_cmp}
use Rattle.perm_values.specs.declared.value.Value.{Value}
use Rattle.bag_algebra.proofs.BagLaws.{same_bag-trans}
use Rattle.bag_algebra.proofs.SortedBags.{printed_unique, same_bag-sorted}
use Rattle.bag_algebra.specs.Bags.{Bag, sorted}
use Rattle.bag_algebra.specs.Meaning.{meaning}
use Rattle.bag_algebra.specs.Outcome.{Outcome, Good, Bad, has, mapped}
use Rattle.bag_algebra.specs.Rewriting.{SameRows, Stands}
use Rattle.bag_algebra.specs.TableRows.{rows_in}
use Rattle.bag_algebra.specs.declared.query.Answer.{Answer}
use Rattle.bag_algebra.specs.declared.query.Query.{Query}
use Rattle.bag_algebra.proofs.Closing.{query_within}
use Rattle.csv_tables.specs.AnswerText.{answer_bytes}
use Rattle.folded_literals.specs.Simple.{is_simple}
use Rattle.row_values.specs.Answers.{Refuses}
use Rattle.row_values.specs.declared.error.ExecError.{ExecError}
use Rattle.row_values.specs.declared.error.ExecError.TheVariants.{Fault, NoMemory}
use Rattle.perm_catalog.specs.Contents.{Contents}
use Rattle.statement_meaning.specs.Answers.{IsText, Names, met}
use Rattle.statement_meaning.specs.Ready.{CanRun}
use Rattle.statement_meaning.specs.Turns.{Turn, Accepted, answered, on_good, select}
use Rattle.statement_meaning.specs.declared.refusal.StepRefusal.{StepRefusal}
use Rattle.statement_steps.specs.Printed.{IsPrinted}
use Rattle.statement_steps.specs.Runs.{IsAnswered, Keeps, Runs, RunsFor, run_of}
use Rattle.statement_steps.specs.declared.ran.Ran.{Ran}

-- a run with these rows
abbrev made : Query → Bag → Ran
made query rows = record { query = query; rows = rows }

-- ---- the run of a query that stands for another

module _ (c : Contents) (answer : Answer) (plain : Query) where
  abbrev cmp : List Value → List Value → Ordering
  cmp = printed_cmp answer.keys

  abbrev kept : Outcome Bag → Outcome Ran
  kept o = mapped (λ rows. made plain (sorted cmp rows)) o

  -- its rows are those in any order that ties equal rows alone
  same-ordered : (o other : Outcome Bag) (ran : Ran) → SameRows o other → kept other ≡ Good ran → mapped (sorted cmp) o ≡ Good ran.rows
  same-ordered (Good us) (Good vs) ran same e =
      let is : made plain (sorted cmp vs) ≡ ran = cc in
      ap Good (printed_unique answer.keys us vs same ∙ ap (λ (r : Ran). r.rows) is)
  same-ordered (Good us) (Bad g) ran same e = absurd same
  same-ordered (Bad f) (Good vs) ran same e = absurd same
  same-ordered (Bad f) (Bad g) ran same e = absurd (cc e)

  same-refused : (o other : Outcome Bag) (error : ExecError) → SameRows o other → Refuses (kept other) error → Refuses o error
  same-refused (Good us) (Good vs) (Fault fault) same meets = absurd (true≢false (sym meets))
  same-refused (Good us) (Bad g) (Fault fault) same meets = absurd same
  same-refused (Bad f) (Good vs) (Fault fault) same meets = absurd same
  same-refused (Bad f) (Bad g) (Fault fault) same meets = subst (λ h. has h fault ≡ true) (sym same) meets
  same-refused o other NoMemory same meets = tt

  same-sorted : (o other : Outcome Bag) (vs : Bag) → SameRows o other → other ≡ Good vs → SameRows o (Good (sorted cmp vs))
  same-sorted (Good us) other vs same is = same_bag-trans us vs (sorted cmp vs) (subst (SameRows (Good us)) is same) (same_bag-sorted cmp vs)
  same-sorted (Bad f) other vs same is = absurd (subst (SameRows (Bad f)) is same)

  module _ (can : CanRun c answer) (s : Stands answer.query plain) (simple : is_simple plain ≡ true) where
    same-rows : SameRows (meaning answer.query (rows_in c.rows) []) (meaning plain (rows_in c.rows) [])
    same-rows = s.rows [] (rows_in c.rows) [] can.formed can.fitting refl

    run-made : (vs : Bag) → meaning plain (rows_in c.rows) [] ≡ Good vs → RunsFor c answer (made plain (sorted cmp vs))
    run-made vs is = record {
      plain = s.plain;
      simple = simple;
      closed = query_within [] plain 0 refl (s.formed [] can.formed);
      formed = s.formed [] can.formed;
      kinds = s.kinds [] can.formed;
      tables = s.tables;
      means = λ db fits. s.rows [] db [] can.formed fits refl;
      run = subst (λ o. SameRows o (Good (sorted cmp vs))) (sym is) (same_bag-sorted cmp vs);
      rows = same-sorted (meaning answer.query (rows_in c.rows) []) (meaning plain (rows_in c.rows) []) vs same-rows is;
    }

    run-kept : (o : Outcome Bag) (ran : Ran) → meaning plain (rows_in c.rows) [] ≡ o → kept o ≡ Good ran → RunsFor c answer ran
    run-kept (Good vs) ran is e =
        let same : made plain (sorted cmp vs) ≡ ran = cc in
        subst (RunsFor c answer) same (run-made vs is)
    run-kept (Bad f) ran is e = absurd (cc e)

    pub runs-by : (told : Result Unit ExecError) (last : Option Ran) → Keeps (run_of plain answer.keys (rows_in c.rows)) told last → Runs c answer told last
    runs-by (Ok done) (Some ran) keeps = (
      run-kept (meaning plain (rows_in c.rows) []) ran refl keeps,
      same-ordered (meaning answer.query (rows_in c.rows) []) (meaning plain (rows_in c.rows) []) ran same-rows keeps,
    )
    runs-by (Ok done) None keeps = absurd keeps
    runs-by (Err error) (Some ran) keeps = absurd keeps
    runs-by (Err error) None keeps =
        same-refused (meaning answer.query (rows_in c.rows) []) (meaning plain (rows_in c.rows) []) error same-rows keeps

-- ---- the turn of a statement that runs a query

module _ (c : Contents) (at : ℕ) (answer : Answer) where
  good-turn : (o : Outcome Bag) (next : Bag → Turn) (rows : Bag) → mapped (sorted (printed_cmp answer.keys)) o ≡ Good rows
      → on_good at o (λ (bag : Bag). next (sorted (printed_cmp answer.keys) bag)) ≡ next rows
  good-turn (Good us) next rows e = ap next (let is : sorted (printed_cmp answer.keys) us ≡ rows = cc in is)
  good-turn (Bad f) next rows e = absurd (cc e)

  bad-turn : (o : Outcome Bag) (next : Bag → Turn) (error : ExecError) → Refuses o error → Names (on_good at o next) (met at error)
  bad-turn (Good us) next (Fault fault) meets = absurd (true≢false (sym meets))
  bad-turn (Bad f) next (Fault fault) meets = (f, refl, meets)
  bad-turn o next NoMemory meets = tt

  -- a query is answered by the text of the run's rows
  pub answer-turn : (told : Result Unit ExecError) (last : Option Ran) (result : Result (List ℕ) StepRefusal) → Runs c answer told last
      → IsPrinted at answer.names told last result → IsText (select c at answer) c result
  answer-turn (Ok done) (Some ran) (Ok text) runs printed =
      good-turn (meaning answer.query (rows_in c.rows) []) (λ rows. Accepted (answer_bytes answer.names rows) c) ran.rows runs.1
      ∙ ap (λ (t : List ℕ). Accepted t c) (sym printed)
  answer-turn (Ok done) (Some ran) (Err refusal) runs printed = subst (Names (select c at answer)) (sym printed) tt
  answer-turn (Ok done) None result runs printed = absurd runs
  answer-turn (Err error) last (Ok text) runs printed = absurd printed
  answer-turn (Err error) last (Err refusal) runs printed =
      subst (Names (select c at answer)) (sym printed) (bad-turn (meaning answer.query (rows_in c.rows) []) (answered c answer) error runs)

  pub answer-run : (told : Result Unit ExecError) (last : Option Ran) (result : Result (List ℕ) StepRefusal) → Runs c answer told last
      → IsPrinted at answer.names told last result → IfOk result (λ text. IsAnswered c answer text last)
  answer-run (Ok done) (Some ran) (Ok text) runs printed = record { runs = runs.0; told = printed }
  answer-run (Ok done) (Some ran) (Err refusal) runs printed = tt
  answer-run (Ok done) None result runs printed = absurd runs
  answer-run (Err error) last (Ok text) runs printed = absurd printed
  answer-run (Err error) last (Err refusal) runs printed = tt
