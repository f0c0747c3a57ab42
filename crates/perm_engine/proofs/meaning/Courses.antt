-- A run is the course of its statements.
use Rattle.std.proofs.Common.{◌≡◌, ◌≢◌, ◌⊎◌, ℕ, zero, suc, length, List, [], ◌∷◌, Some, None, Ok, refl, sym, ap, subst, inl, inr}
use Rattle.std.proofs.lemmas.Option.{same_Some}
use Rattle.std.specs.List.{slice_get}
use Rattle.bag_algebra.specs.declared.query.Answer.{Answer}
use Rattle.perm_catalog.specs.Contents.{Contents}
use Rattle.perm_io.specs.Found.{Found}
use Rattle.sql_tree.specs.declared.statement.Statement.{Statement}
use Rattle.statement_meaning.proofs.Explained.{asked-explained}
use Rattle.statement_meaning.specs.laws.Asks.{AsksToExplain}
use Rattle.statement_meaning.specs.Answers.{Names, TakesTurn}
use Rattle.statement_meaning.specs.Asking.{Asked, Settled, Begins, Explained, asked}
use Rattle.statement_meaning.specs.Turns.{Turn, Accepted, Refused}
use Rattle.statement_meaning.specs.declared.refusal.StepRefusal.{StepRefusal}
use Rattle.statement_meaning.specs.declared.refusal.StepRefusal.TheVariants as refusal
use Rattle.perm_engine.specs.meaning.Run.{Ran, Asks, GoesOn, RunsFrom, ended, after_text, after_files}
use Rattle.perm_engine.specs.meaning.Stops.{ToTheEnd, At, IsRefused}
use Rattle.perm_engine.specs.meaning.headline.Course.{BreaksOff, Course, EndsIn, IsAccepted}

-- c first, then what others left
abbrev pub behind : Contents → (ℕ → Contents) → ℕ → Contents
behind c left zero = c
behind c left (suc k) = left k

none≢some : (text : List ℕ) → None ≡ Some text → ⊥
none≢some text e = cc

module _ (Can : List ℕ → Found → Type 0) where
  course-end : (c : Contents) → Course Can c [] (ended ToTheEnd)
  course-end c = record {
    left = λ k. c;
    first = refl;
    accepted = λ k text e. absurd (none≢some text e);
    ends = inl (record { stop = refl; all = refl });
  }

  ends-beside : (files : ℕ) (c : Contents) (statements : List Statement) (ran : Ran) → EndsIn Can c statements ran ⊎ BreaksOff c statements ran
      → EndsIn Can c statements (after_files files ran) ⊎ BreaksOff c statements (after_files files ran)
  ends-beside files c statements ran (inl e) =
      inl (record { statement = e.statement; refused = e.refused; met = e.met; stop = e.stop; turn = e.turn; told = e.told })
  ends-beside files c statements ran (inr e) = inr (record { statement = e.statement; answer = e.answer; met = e.met; stop = e.stop; asks = e.asks })

  -- files that are begun besides change nothing of it
  pub course-files : (files : ℕ) (c : Contents) (statements : List Statement) (ran : Ran) → Course Can c statements ran → Course Can c statements (after_files files ran)
  course-files files c statements ran h = record {
    left = h.left;
    first = h.first;
    accepted = h.accepted;
    ends = elim h.ends [
      | inl e ↦ inl (record { stop = e.stop; all = e.all })
      | inr e ↦ inr (ends-beside files (h.left (length ran.texts)) statements ran e)
    ];
  }

  module _ (c : Contents) (statement : Statement) (statements : List Statement) where
    course-refused : (refused : StepRefusal) → IsRefused Can (asked c statement) refused → refused ≢ refusal.NoMemory
        → Course Can c (statement ∷ statements) (ended (At c statement refused))
    course-refused refused turn told = record {
      left = λ k. c;
      first = refl;
      accepted = λ k text e. absurd (none≢some text e);
      ends = inr (inl (record { statement = statement; refused = refused; met = refl; stop = refl; turn = turn; told = told }));
    }

    course-broken : (answer : Answer) → AsksToExplain c statement answer → Course Can c (statement ∷ statements) (ended (At c statement refusal.NoMemory))
    course-broken answer asks = record {
      left = λ k. c;
      first = refl;
      accepted = λ k text e. absurd (none≢some text e);
      ends = inr (inr (record { statement = statement; answer = answer; met = refl; stop = refl; asks = asks }));
    }

    module _ (text : List ℕ) (after : Contents) (rest : Ran) (turn : TakesTurn Can (asked c statement) c after (Ok text))
        (h : Course Can after statements rest) where
      accepted-first : (t : List ℕ) → Some text ≡ Some t → IsAccepted Can c (h.left 0) (statement ∷ statements) 0 t
      accepted-first t e = record {
        statement = statement;
        met = refl;
        turn = subst (λ (d : Contents). TakesTurn Can (asked c statement) c d (Ok t)) (sym h.first)
            (subst (λ (u : List ℕ). TakesTurn Can (asked c statement) c after (Ok u)) (same_Some text t e) turn);
      }

      accepted-all : (k : ℕ) (t : List ℕ) → slice_get (text ∷ rest.texts) k ≡ Some t
          → IsAccepted Can (behind c h.left k) (behind c h.left (suc k)) (statement ∷ statements) k t
      accepted-all zero t e = accepted-first t e
      accepted-all (suc k) t e =
          let a = h.accepted k t e in record { statement = a.statement; met = a.met; turn = a.turn }

      ends-later : EndsIn Can (h.left (length rest.texts)) statements rest ⊎ BreaksOff (h.left (length rest.texts)) statements rest
          → EndsIn Can (h.left (length rest.texts)) (statement ∷ statements) (after_text text rest)
          ⊎ BreaksOff (h.left (length rest.texts)) (statement ∷ statements) (after_text text rest)
      ends-later (inl e) = inl (record { statement = e.statement; refused = e.refused; met = e.met; stop = e.stop; turn = e.turn; told = e.told })
      ends-later (inr e) = inr (record { statement = e.statement; answer = e.answer; met = e.met; stop = e.stop; asks = e.asks })

      course-accepted : Course Can c (statement ∷ statements) (after_text text rest)
      course-accepted = record {
        left = behind c h.left;
        first = refl;
        accepted = accepted-all;
        ends = elim h.ends [
          | inl e ↦ inl (record { stop = e.stop; all = ap suc e.all })
          | inr e ↦ inr (ends-later e)
        ];
      }

    abbrev Next : Contents → Ran → Type 0
    Next after rest = RunsFrom Can after statements rest

    abbrev Courses : Type 0
    Courses = (after : Contents) (rest : Ran) → RunsFrom Can after statements rest → Course Can after statements rest

    course-goes : Courses → (turn : Turn)
        → ((text : List ℕ) (after : Contents) → turn ≡ Accepted text after → TakesTurn Can (asked c statement) c after (Ok text))
        → ((refused : StepRefusal) → Names turn refused → IsRefused Can (asked c statement) refused)
        → (ran : Ran) → GoesOn c statement turn Next ran → Course Can c (statement ∷ statements) ran
    course-goes courses (Refused cause) takes refuses ran (refused, names, told, is) =
        subst (Course Can c (statement ∷ statements)) (sym is) (course-refused refused (refuses refused names) told)
    course-goes courses (Accepted text after) takes refuses ran (rest, runs, is) =
        subst (Course Can c (statement ∷ statements)) (sym is) (course-accepted text after rest (takes text after refl) (courses after rest runs))

    course-asks : Courses → (a : Asked) → asked c statement ≡ a → (ran : Ran) → Asks Can c statement a Next ran → Course Can c (statement ∷ statements) ran
    course-asks courses (Settled turn) asks ran h =
        course-goes courses turn
        (λ text after e. subst (λ (a : Asked). TakesTurn Can a c after (Ok text)) (sym asks) e)
        (λ refused names. subst (λ (a : Asked). IsRefused Can a refused) (sym asks) names) ran h
    course-asks courses (Begins name after) asks ran (found, rest, can, goes, is) =
        subst (Course Can c (statement ∷ statements)) (sym is) (course-files 1 c (statement ∷ statements) rest
        (course-goes courses (after found)
        (λ text d e. subst (λ (a : Asked). TakesTurn Can a c d (Ok text)) (sym asks) (found, can, e))
        (λ refused names. subst (λ (a : Asked). IsRefused Can a refused) (sym asks) (found, can, names)) rest goes))
    course-asks courses (Explained after answer) asks ran (inl (text, rest, says, runs, is)) =
        subst (Course Can c (statement ∷ statements)) (sym is)
        (course-accepted text after rest (subst (λ (a : Asked). TakesTurn Can a c after (Ok text)) (sym asks) (says, refl)) (courses after rest runs))
    course-asks courses (Explained after answer) asks ran (inr is) =
        subst (Course Can c (statement ∷ statements)) (sym is) (course-broken answer (asked-explained c statement after answer asks))

  pub course-of : (statements : List Statement) (c : Contents) (ran : Ran) → RunsFrom Can c statements ran → Course Can c statements ran
  course-of [] c ran is = subst (Course Can c []) (sym is) (course-end c)
  course-of (statement ∷ statements) c ran h =
      course-asks c statement statements (λ after rest runs. course-of statements after rest runs) (asked c statement) refl ran h
