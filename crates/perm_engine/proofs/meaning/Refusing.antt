-- A statement that is refused names its first cause.
use Rattle.std.proofs.Common.{◌≡◌, ◌≢◌, ℕ, true, List, [], Option, Err, refl, sym, ap, subst}
use Rattle.bag_algebra.specs.Bags.{Bag}
use Rattle.bag_algebra.specs.Meaning.{meaning}
use Rattle.bag_algebra.specs.Outcome.{Outcome, Faults, Good, Bad, has}
use Rattle.bag_algebra.specs.TableRows.{rows_in}
use Rattle.bag_algebra.specs.declared.expr.Expr.{Expr}
use Rattle.bag_algebra.specs.declared.query.Answer.{Answer}
use Rattle.name_meaning.specs.Statements.{resolved}
use Rattle.name_meaning.specs.declared.answer.Break.{Break}
use Rattle.null_logic.specs.declared.run_fault.RunFault.{RunFault}
use Rattle.perm_catalog.specs.Contents.{Contents}
use Rattle.perm_io.specs.Found.{Found}
use Rattle.sql_tree.specs.declared.statement.Statement.{Statement}
use Rattle.statement_meaning.proofs.Answered.{asked-select}
use Rattle.statement_meaning.proofs.Impacts.{asked-impact, before-meets}
use Rattle.statement_meaning.specs.laws.Lost.{MeetsLost}
use Rattle.statement_meaning.specs.Answers.{Names, TakesTurn}
use Rattle.statement_meaning.specs.Asking.{Asked, Settled, Begins, Explained, asked, asks, unless_broken}
use Rattle.statement_meaning.specs.Turns.{Refused, Broken, Meets, answered, answer_text, identity_of, on_good, rows_before, rows_lost}
use Rattle.statement_meaning.specs.declared.refusal.StepRefusal.{StepRefusal}
use Rattle.statement_meaning.specs.declared.refusal.StepRefusal.TheVariants as refusal
use Rattle.perm_engine.proofs.meaning.Turns.{stands-unnamed}
use Rattle.perm_engine.specs.meaning.Stops.{IsRefused}
use Rattle.perm_engine.specs.meaning.headline.Headline.{RefusesFirst}

-- ---- a break

same-broken : (a b : Break) → Refused (Broken a) ≡ Refused (Broken b) → a ≡ b
same-broken a b e = cc

names-broken : (b : Break) (refused : StepRefusal) → refused ≢ refusal.NoMemory → Names (Refused (Broken b)) refused → refused ≡ refusal.Break b
names-broken b (refusal.Break other) told h = ap refusal.Break (sym (same-broken b other h))
names-broken b (refusal.Run fault at) told h = let e = h.1 in cc
names-broken b (refusal.Missing at) told h = cc
names-broken b (refusal.TooLarge at) told h = cc
names-broken b (refusal.Unfit rule) told h = cc
names-broken b refusal.ReadFault told h = cc
names-broken b refusal.NoMemory told h = absurd (told refl)

-- ---- the faults that a query meets

abbrev pub MeetsFault : Contents → Answer → ℕ → StepRefusal → Type 0
MeetsFault c answer at refused =
    (faults : Faults) × (fault : RunFault) × (meaning answer.query (rows_in c.rows) [] ≡ Bad faults) × (has faults fault ≡ true) × (refused ≡ refusal.Run fault at)

same-faults : (f g : Faults) (m n : ℕ) → Refused (Meets f m) ≡ Refused (Meets g n) → f ≡ g
same-faults f g m n e = cc

same-offset : (f g : Faults) (m n : ℕ) → Refused (Meets f m) ≡ Refused (Meets g n) → m ≡ n
same-offset f g m n e = cc

names-fault : (c : Contents) (answer : Answer) (at : ℕ) (faults : Faults) (refused : StepRefusal) → refused ≢ refusal.NoMemory
    → meaning answer.query (rows_in c.rows) [] ≡ Bad faults → Names (Refused (Meets faults at)) refused → MeetsFault c answer at refused
names-fault c answer at faults (refusal.Break b) told means h = absurd (cc h)
names-fault c answer at faults (refusal.Run fault place) told means h = (
  faults,
  fault,
  means,
  subst (λ (f : Faults). has f fault ≡ true) (sym (same-faults faults h.0 at place h.1)) h.2,
  ap (refusal.Run fault) (sym (same-offset faults h.0 at place h.1)),
)
names-fault c answer at faults (refusal.Missing place) told means h = absurd (cc h)
names-fault c answer at faults (refusal.TooLarge place) told means h = absurd (cc h)
names-fault c answer at faults (refusal.Unfit rule) told means h = absurd (cc h)
names-fault c answer at faults refusal.ReadFault told means h = absurd (cc h)
names-fault c answer at faults refusal.NoMemory told means h = absurd (told refl)

meets-fault : (c : Contents) (answer : Answer) (at : ℕ) (refused : StepRefusal) (o : Outcome Bag) → refused ≢ refusal.NoMemory
    → meaning answer.query (rows_in c.rows) [] ≡ o → Names (on_good at o (answered c answer)) refused → MeetsFault c answer at refused
meets-fault c answer at refused (Good bag) told means h = absurd (stands-unnamed (answer_text answer bag) c refused told h)
meets-fault c answer at refused (Bad faults) told means h = names-fault c answer at faults refused told means h

-- ---- the faults that an IMPACT meets

abbrev pub MeetsImpact : Contents → List ℕ → Option Expr → Answer → ℕ → StepRefusal → Type 0
MeetsImpact c name condition answer at refused =
    (fault : RunFault) × MeetsLost answer.query (identity_of c name) condition (rows_in c.rows) fault × (refused ≡ refusal.Run fault at)

module _ (c : Contents) (name : List ℕ) (condition : Option Expr) (answer : Answer) (at : ℕ) (refused : StepRefusal) (told : refused ≢ refusal.NoMemory) where
  lost-named : (faults : Faults) → rows_before (identity_of c name) condition answer.query (rows_in c.rows) ≡ Bad faults → Names (Refused (Meets faults at)) refused
      → MeetsImpact c name condition answer at refused
  lost-named faults bad h = of_one refused told h where
    of_one : (refused : StepRefusal) → refused ≢ refusal.NoMemory → Names (Refused (Meets faults at)) refused → MeetsImpact c name condition answer at refused
    of_one (refusal.Break b) told h = absurd (cc h)
    of_one (refusal.Run fault place) told h = (
      fault,
      before-meets answer.query (identity_of c name) condition (rows_in c.rows) fault faults bad
          (subst (λ (f : Faults). has f fault ≡ true) (sym (same-faults faults h.0 at place h.1)) h.2),
      ap (refusal.Run fault) (sym (same-offset faults h.0 at place h.1)),
    )
    of_one (refusal.Missing place) told h = absurd (cc h)
    of_one (refusal.TooLarge place) told h = absurd (cc h)
    of_one (refusal.Unfit rule) told h = absurd (cc h)
    of_one refusal.ReadFault told h = absurd (cc h)
    of_one refusal.NoMemory told h = absurd (told refl)

  meets-impact : (o : Outcome Bag) → rows_before (identity_of c name) condition answer.query (rows_in c.rows) ≡ o
      → Names (on_good at o (λ rows. answered c answer (rows_lost (identity_of c name) condition answer.query (rows_in c.rows) rows))) refused
      → MeetsImpact c name condition answer at refused
  meets-impact (Good bag) before h =
      absurd (stands-unnamed (answer_text answer (rows_lost (identity_of c name) condition answer.query (rows_in c.rows) bag)) c refused told h)
  meets-impact (Bad faults) before h = lost-named faults before h

-- ---- what is left

unchanged : (Can : List ℕ → Found → Type 0) (a : Asked) (old new : Contents) (refused : StepRefusal) → TakesTurn Can a old new (Err refused) → new ≡ old
unchanged Can (Settled turn) old new refused h = h.1
unchanged Can (Begins name after) old new refused h = h.2.1
unchanged Can (Explained after answer) old new refused h = h.1

pub refuses-first : (Can : List ℕ → Found → Type 0) (c : Contents) (statement : Statement) (refused : StepRefusal) → refused ≢ refusal.NoMemory
    → IsRefused Can (asked c statement) refused → RefusesFirst Can c statement refused
refuses-first Can c statement refused told turn = record {
  first = λ b more e. names-broken b refused told
      (subst (λ (bs : List Break). IsRefused Can (unless_broken bs (asks c statement.at (resolved c statement))) refused) e turn);
  met = λ e. subst (λ (bs : List Break). IsRefused Can (unless_broken bs (asks c statement.at (resolved c statement))) refused) e turn;
  fault = λ answer asked_for. meets-fault c answer statement.at refused (meaning answer.query (rows_in c.rows) []) told refl
      (subst (λ (a : Asked). IsRefused Can a refused) (asked-select c statement answer asked_for) turn);
  lost_fault = λ name condition answer asked_for. meets-impact c name condition answer statement.at refused told
      (rows_before (identity_of c name) condition answer.query (rows_in c.rows)) refl
      (subst (λ (a : Asked). IsRefused Can a refused) (asked-impact c statement name condition answer asked_for) turn);
  unchanged = λ new h. unchanged Can (asked c statement) c new refused h;
}
