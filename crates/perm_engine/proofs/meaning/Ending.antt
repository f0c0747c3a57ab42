-- How the end of what is left of a run is the end of the whole run.
use Rattle.std.proofs.Common.{◌≡◌, ◌≢◌, ◌⊎◌, ◌∙◌, ℕ, IsTrue, false, ◌+◌, ◌≤◌, Bool, List, [], ◌∷◌, ◌++◌, length, take, Option, refl, sym, ap, append_assoc, arith, length-append, append-nil, zero-add, ◌<◌, Ok, Err, subst}
use Rattle.std.proofs.Math.Seq.{take-append-add}
use Rattle.std.proofs.lemmas.List.{get_or-append-add}
use Rattle.std.specs.Io.KnownBytes.{append_known}
use Rattle.std.specs.List.{sum}
use Rattle.perm_io.proofs.Known.{append_known-append_known, append_known-nil}
use Rattle.perm_io.specs.Counts.{HasRisen, next_count}
use Rattle.perm_io.specs.Found.{CanBe}
use Rattle.perm_io.specs.declared.named_file.NamedFile.{NamedFile}
use Rattle.perm_values.specs.Numbers.{last_number}
use Rattle.perm_catalog.specs.Contents.{Contents}
use Rattle.sql_tree.specs.declared.statement.Statement.{Statement}
use Rattle.statement_meaning.specs.Answers.{Files, RestsOn, TakesTurn, begins, can_be, file_limit}
use Rattle.statement_meaning.specs.Asking.{asked}
use Rattle.statement_meaning.specs.declared.refusal.StepRefusal.{StepRefusal}
use Rattle.statement_meaning.specs.declared.refusal.StepRefusal.TheVariants as step
use Rattle.perm_engine.specs.declared.meaning.status.Status.{Status}
use Rattle.perm_engine.specs.declared.meaning.status.Status.TheVariants as status
use Rattle.perm_engine.specs.meaning.Ends.{Written, IsCut, IsSaid, IsShort, IsSilent, Ends, EndsSome, EndsStopped, Opens, joined, next_piece, opened}
use Rattle.perm_engine.specs.meaning.Run.{Ran, RunsFrom, text_of, ended, after_text, after_files, IsWhole}
use Rattle.perm_engine.specs.meaning.Stops.{ToTheEnd, At, Backs, line_of}
use Rattle.perm_engine.proofs.meaning.Begun.{Opens-cut, Opens-ended, Opens-none, Opens-short, all-behind, length-push, opened-more, opened-push, until-next, until-texts}
use Rattle.perm_engine.proofs.meaning.Causes.{told≢, told-answer, refuses_with}
use Rattle.perm_engine.proofs.meaning.Firsts.{stops-first, refused-turn}
use Rattle.perm_engine.proofs.meaning.Widening.{CanBe-wider}
use Rattle.perm_engine.proofs.meaning.Turns.{files_of, asks-stands, asks-ends, some_run, some_run-asking, begun-told, begun-short}

-- texts before those of a run, and the files that were begun before each
abbrev pub behind : List (List ℕ) → List ℕ → Ran → Ran
behind texts begun ran = record ran { texts = texts ++ ran.texts; begun = begun ++ ran.begun }

-- the output of the whole run and of what is left of it after some texts
abbrev pub since : Written → List (List ℕ) → Written
since w texts = record w { before = append_known w.before (joined texts) }

joined-append : (texts more : List (List ℕ)) → joined (texts ++ more) ≡ joined texts ++ joined more
joined-append [] more = refl
joined-append (text ∷ texts) more = ap (λ l. text ++ l) (joined-append texts more) ∙ sym (append_assoc text (joined texts) (joined more))

text_of-behind : (texts : List (List ℕ)) (begun : List ℕ) (ran : Ran) → text_of (behind texts begun ran) ≡ joined texts ++ text_of ran
text_of-behind texts begun ran = ap (λ l. l ++ line_of ran.stop) (joined-append texts ran.texts) ∙ append_assoc (joined texts) (joined ran.texts) (line_of ran.stop)

module _ (texts : List (List ℕ)) (begun : List ℕ) (ran : Ran) (w : Written) where
  -- the first texts of the whole, and some more bytes
  pieces-behind : (n : ℕ) (more : List ℕ) → joined texts ++ (joined (take n ran.texts) ++ more) ≡ joined (take (length texts + n) (texts ++ ran.texts)) ++ more
  pieces-behind n more =
      sym (append_assoc (joined texts) (joined (take n ran.texts)) more)
      ∙ ap (λ l. l ++ more) (sym (joined-append texts (take n ran.texts)) ∙ sym (ap joined (take-append-add texts ran.texts n)))

  piece-behind : (n : ℕ) → next_piece (behind texts begun ran) (length texts + n) ≡ next_piece ran n
  piece-behind n = get_or-append-add texts ran.texts n (line_of ran.stop)

  said-behind : (n : ℕ) (s : Status) → IsSaid ran n (since w texts) s → IsSaid (behind texts begun ran) (length texts + n) w s
  said-behind n s h = record {
    said = h.said;
    all = ap (λ k. length texts + k) h.all ∙ sym (length-append texts ran.texts);
    text = h.text ∙ append_known-append_known w.before (joined texts) (text_of ran) ∙ ap (append_known w.before) (sym (text_of-behind texts begun ran));
    flushed = h.flushed;
    steady = h.steady;
  }

  cut-behind : (n : ℕ) → IsCut ran n (since w texts) → IsCut (behind texts begun ran) (length texts + n) w
  cut-behind n h =
      let all : length texts + length ran.texts ≡ length (texts ++ ran.texts) = sym (length-append texts ran.texts) in
      let piece = piece-behind n in
      record {
        some = omega (arith, h.some, all);
        part = h.part;
        within = subst (λ l. h.part ≤ length l) (sym piece) h.within;
        whole = λ e. let last = h.whole (e ∙ ap length piece) in omega (arith, last, all);
        text = h.text ∙ append_known-append_known w.before (joined texts) (joined (take n ran.texts) ++ take h.part (next_piece ran n))
            ∙ ap (append_known w.before) (pieces-behind n (take h.part (next_piece ran n))
            ∙ ap (λ l. joined (take (length texts + n) (texts ++ ran.texts)) ++ take h.part l) (sym piece));
        risen = h.risen;
      }

  short-behind : (n : ℕ) → IsShort ran n (since w texts) → IsShort (behind texts begun ran) (length texts + n) w
  short-behind n h =
      let all : length texts + length ran.texts ≡ length (texts ++ ran.texts) = sym (length-append texts ran.texts) in
      record {
        some = omega (arith, h.some, all);
        text = h.text ∙ append_known-append_known w.before (joined texts) (joined (take n ran.texts))
            ∙ ap (append_known w.before) (sym (ap joined (take-append-add texts ran.texts n) ∙ joined-append texts (take n ran.texts)));
        steady = h.steady;
      }

  -- ends of what is left are ends of the whole
  pub Ends-behind : (n : ℕ) (s : Status) → Ends ran n (since w texts) s → Ends (behind texts begun ran) (length texts + n) w s
  Ends-behind n status.Done h = said-behind n status.Done h
  Ends-behind n status.Usage h = said-behind n status.Usage h
  Ends-behind n status.Syntax h = said-behind n status.Syntax h
  Ends-behind n status.Refused h = said-behind n status.Refused h
  Ends-behind n status.RunFault h = said-behind n status.RunFault h
  Ends-behind n status.BadData h = said-behind n status.BadData h
  Ends-behind n status.ReadFault h = said-behind n status.ReadFault h
  Ends-behind n status.WriteFault h = cut-behind n h
  Ends-behind n status.NoMemory h = short-behind n h

-- ---- the loop over the statements

-- files that were begun before those of a run
opens-behind : (texts : List (List ℕ)) (begun : List ℕ) (ran : Ran) (n start before after : ℕ) (s : Status) → length begun ≡ length texts → before ≡ opened (sum begun) start →
    Opens ran n before after s → Opens (behind texts begun ran) (length texts + n) start after s
opens-behind texts begun ran n start before after s each e o =
    let some = until-texts begun ran.begun (length texts) n each in
    let more = until-next begun ran.begun (length texts) n each in
    let all = all-behind begun ran.begun in
    record {
      files = o.files + sum begun;
      least = omega (arith, o.least, some);
      most = omega (arith, o.most, more);
      cut = λ c. let here = o.cut c in omega (arith, here, more);
      whole = λ w. let here = o.whole w in omega (arith, here, all);
      counted = o.counted ∙ ap (opened o.files) e ∙ sym (opened-more (sum begun) o.files start);
    }

-- some statements have run, over files that didn't fail: their texts stand in the output, and these are left
pub record HasRun (held : Option (List NamedFile)) (calm : ℕ) (statements : List Statement) (start : Contents) (left : List Statement) (now : Contents) (before after : Option (List ℕ)) (faults_before faults_after begun_before begun_after : ℕ) : Type 0 where
  pub texts : List (List ℕ)
  pub begun : List ℕ
  pub each : length begun ≡ length texts
  pub rest : (final : ℕ) → (HasRisen calm calm → HasRisen calm final) → (rest : Ran) → RunsFrom (CanBe file_limit held (HasRisen calm final)) now left rest
      → RunsFrom (CanBe file_limit held (HasRisen calm final)) start statements (behind texts begun rest)
  pub text : after ≡ append_known before (joined texts)
  pub steady : faults_after ≡ faults_before
  pub counted : begun_after ≡ opened (sum begun) begun_before

pub HasRun-nothing : (held : Option (List NamedFile)) (calm : ℕ) (statements : List Statement) (start : Contents) (before : Option (List ℕ)) (faults begun : ℕ) → HasRun held calm statements start statements start before before faults faults begun begun
HasRun-nothing held calm statements start before faults begun = record {
  texts = [];
  begun = [];
  each = refl;
  rest = λ final sure rest runs. runs;
  text = sym (append_known-nil before);
  steady = refl;
  counted = refl;
}

-- more files begun change nothing of how the run ends
pub Ends-files : (files : ℕ) (ran : Ran) (n : ℕ) (w : Written) (s : Status) → Ends ran n w s → Ends (after_files files ran) n w s
Ends-files files ran n w status.Done e = record { said = e.said; all = e.all; text = e.text; flushed = e.flushed; steady = e.steady }
Ends-files files ran n w status.Usage e = record { said = e.said; all = e.all; text = e.text; flushed = e.flushed; steady = e.steady }
Ends-files files ran n w status.Syntax e = record { said = e.said; all = e.all; text = e.text; flushed = e.flushed; steady = e.steady }
Ends-files files ran n w status.Refused e = record { said = e.said; all = e.all; text = e.text; flushed = e.flushed; steady = e.steady }
Ends-files files ran n w status.RunFault e = record { said = e.said; all = e.all; text = e.text; flushed = e.flushed; steady = e.steady }
Ends-files files ran n w status.BadData e = record { said = e.said; all = e.all; text = e.text; flushed = e.flushed; steady = e.steady }
Ends-files files ran n w status.ReadFault e = record { said = e.said; all = e.all; text = e.text; flushed = e.flushed; steady = e.steady }
Ends-files files ran n w status.WriteFault e = record { some = e.some; part = e.part; within = e.within; whole = e.whole; text = e.text; risen = e.risen }
Ends-files files ran n w status.NoMemory e = record { some = e.some; text = e.text; steady = e.steady }

joined-more : (texts : List (List ℕ)) (text : List ℕ) → joined (texts ++ text ∷ []) ≡ joined texts ++ text
joined-more texts text = joined-append texts (text ∷ []) ∙ ap (λ l. joined texts ++ l) (append-nil text)

behind-after : (texts : List (List ℕ)) (begun : List ℕ) (more : ℕ) (text : List ℕ) (ran : Ran) →
    behind texts begun (after_files more (after_text text ran)) ≡ behind (texts ++ text ∷ []) (begun ++ more ∷ []) ran
behind-after texts begun more text ran =
    let e : begun ++ ((0 + more) ∷ ran.begun) ≡ (begun ++ more ∷ []) ++ ran.begun =
    ap (λ n. begun ++ (n ∷ ran.begun)) (zero-add more) ∙ sym (append_assoc begun (more ∷ []) ran.begun) in
    (λ i. record ran { texts = sym (append_assoc texts (text ∷ []) ran.texts) i; begun = e i })

module _ (held : Option (List NamedFile)) (calm : ℕ) (statements : List Statement) (start : Contents) (statement : Statement) (left : List Statement) (now : Contents) (before after : Option (List ℕ)) (faults_before faults_after begun_before begun_after : ℕ)
    (h : HasRun held calm statements start (statement ∷ left) now before after faults_before faults_after begun_before begun_after) where
  -- the next statement has run, and its text is written
  pub HasRun-more : (text : List ℕ) (next : Contents) (more : Option (List ℕ)) (faults begun : ℕ) →
      TakesTurn (CanBe file_limit held (HasRisen calm calm)) (asked now statement) now next (Ok text) → begun ≡ opened (files_of (asked now statement)) begun_after →
      more ≡ append_known after text → faults ≡ faults_after →
      HasRun held calm statements start left next before more faults_before faults begun_before begun
  HasRun-more text next more faults begun turn counted written still = record {
    texts = h.texts ++ text ∷ [];
    begun = h.begun ++ files_of (asked now statement) ∷ [];
    each = length-push h.texts h.begun text (files_of (asked now statement)) h.each;
    rest = λ final sure rest runs. subst (RunsFrom (CanBe file_limit held (HasRisen calm final)) start statements) (behind-after h.texts h.begun (files_of (asked now statement)) text rest)
        (h.rest final sure (after_files (files_of (asked now statement)) (after_text text rest))
        (asks-stands (CanBe file_limit held (HasRisen calm final)) (CanBe file_limit held (HasRisen calm calm)) (CanBe-wider file_limit held (HasRisen calm calm) (HasRisen calm final) sure) (asked now statement) now statement next text
        (λ after rest. RunsFrom (CanBe file_limit held (HasRisen calm final)) after left rest) rest turn runs));
    text = written ∙ ap (λ k. append_known k text) h.text ∙ append_known-append_known before (joined h.texts) text ∙ ap (append_known before) (sym (joined-more h.texts text));
    steady = still ∙ h.steady;
    counted = opened-push h.begun (files_of (asked now statement)) begun_before begun_after begun h.counted counted;
  }

-- a text that is cut short, before the others of a run
cut-text : (text : List ℕ) (files : ℕ) (rest : Ran) (w : Written) (count : ℕ) → count < length text → w.after ≡ append_known w.before (take count text) → HasRisen w.faults_before w.faults_after →
    IsCut (after_files files (after_text text rest)) 0 w
cut-text text files rest w count within same risen = record {
  some = omega arith;
  part = count;
  within = omega (arith, within);
  whole = λ all. absurd (omega (arith, within, all));
  text = same;
  risen = risen;
}

-- memory is wanting before the first text
short-text : (ran : Ran) (w : Written) → w.after ≡ w.before → w.faults_after ≡ w.faults_before → IsShort ran 0 w
short-text ran w same steady = record { some = omega arith; text = same ∙ sym (append_known-nil w.before); steady = steady }

-- an output from its bytes before to those after
abbrev written : Option (List ℕ) → Option (List ℕ) → ℕ → ℕ → Bool → Written
written before after faults_before faults_after unflushed =
    record { before = before; after = after; faults_before = faults_before; faults_after = faults_after; unflushed = unflushed }

-- the same files, of which none has failed
abbrev calm : Files → Files
calm files = record files { faults_after = files.faults }

module _ (statements : List Statement) (start : Contents) (left : List Statement) (now : Contents) (before after : Option (List ℕ)) (faults_before faults_after begun_now : ℕ) (files : Files)
    (h : HasRun files.held files.faults statements start left now before after faults_before faults_after files.begun begun_now) (sure : HasRisen files.faults files.faults → HasRisen files.faults files.faults_after) where
  -- what ends the rest ends the whole
  HasRun-ends : (end : Option (List ℕ)) (faults : ℕ) (unflushed : Bool) (s : Status) (rest : Ran) → RunsFrom (can_be files) now left rest →
      Ends rest 0 (written after end faults_after faults unflushed) s → Opens rest 0 begun_now files.begun_after s → (IsWhole s → Backs (can_be files) rest.stop files) →
      EndsSome (can_be files) (RunsFrom (can_be files) start statements) (written before end faults_before faults unflushed) files s
  HasRun-ends end faults unflushed s rest runs e o b =
      let w : Written = written before end faults_before faults unflushed in
      let moved : Ends rest 0 (since w h.texts) s = subst (λ (p : Option (List ℕ) × ℕ). Ends rest 0 (record w { before = p.0; faults_before = p.1 }) s) (λ i. (h.text i, h.steady i)) e in
      record {
        ran = behind h.texts h.begun rest;
        is = h.rest files.faults_after sure rest runs;
        texts = length h.texts + 0;
        ends = Ends-behind h.texts h.begun rest w 0 s moved;
        opens = opens-behind h.texts h.begun rest 0 files.begun begun_now files.begun_after s h.each h.counted o;
        backed = b;
      }

  -- no statement is left
  pub HasRun-done : (end : Option (List ℕ)) (faults : ℕ) (unflushed : Bool) (s : Status) → left ≡ [] → begun_now ≡ files.begun_after →
      Ends (ended ToTheEnd) 0 (written after end faults_after faults unflushed) s → EndsSome (can_be files) (RunsFrom (can_be files) start statements) (written before end faults_before faults unflushed) files s
  HasRun-done end faults unflushed s none same e =
      HasRun-ends end faults unflushed s (ended ToTheEnd) (subst (λ ss. RunsFrom (can_be files) now ss (ended ToTheEnd)) (sym none) refl) e
      (subst (λ n. Opens (ended ToTheEnd) 0 begun_now n s) same (Opens-none ToTheEnd begun_now s)) (λ _. tt)

module _ (statements : List Statement) (start : Contents) (statement : Statement) (left : List Statement) (now : Contents) (before after : Option (List ℕ)) (faults_before faults_after begun_now : ℕ) (files : Files)
    (h : HasRun files.held files.faults statements start (statement ∷ left) now before after faults_before faults_after files.begun begun_now) (sure : HasRisen files.faults files.faults → HasRisen files.faults files.faults_after) where
  abbrev Next : Contents → Ran → Type 0
  Next next rest = RunsFrom (can_be files) next left rest

  -- the next statement is refused, and its line ends the run
  HasRun-refused : (refused : StepRefusal) (next : Contents) (end : Option (List ℕ)) (faults : ℕ) (unflushed : Bool) (s : Status) →
      refused ≢ step.NoMemory → now.next < last_number → TakesTurn (can_be files) (asked now statement) now next (Err refused) →
      files.begun_after ≡ opened (files_of (asked now statement)) begun_now → RestsOn refused files →
      Ends (ended (At now statement refused)) 0 (written after end faults_after faults unflushed) s →
      EndsSome (can_be files) (RunsFrom (can_be files) start statements) (written before end faults_before faults unflushed) files s
  HasRun-refused refused next end faults unflushed s told few turn counted rests e =
      let line = ended (At now statement refused) in
      let count = files_of (asked now statement) in
      HasRun-ends statements start (statement ∷ left) now before after faults_before faults_after begun_now files h sure end faults unflushed s (after_files count line)
      (asks-ends (can_be files) (can_be files) (λ name found can. can) (asked now statement) now statement next refused Next told turn)
      (Ends-files count line 0 (written after end faults_after faults unflushed) s e)
      (Opens-ended (At now statement refused) count begun_now files.begun_after s counted)
      (λ _. record {
        turn = refused-turn (can_be files) (asked now statement) now next refused told turn;
        first = stops-first (can_be files) now statement refused few told (refused-turn (can_be files) (asked now statement) now next refused told turn);
        rests = rests;
      })

  -- the next statement's text is cut short
  pub HasRun-cut : (text : List ℕ) (next : Contents) (end : Option (List ℕ)) (faults count : ℕ) (unflushed : Bool) → TakesTurn (can_be (calm files)) (asked now statement) now next (Ok text) →
      files.begun_after ≡ opened (files_of (asked now statement)) begun_now → count < length text → end ≡ append_known after (take count text) → HasRisen faults_after faults →
      EndsSome (can_be files) (RunsFrom (can_be files) start statements) (written before end faults_before faults unflushed) files status.WriteFault
  HasRun-cut text next end faults count unflushed turn counted within cut_text risen =
      let begun = files_of (asked now statement) in
      let some = some_run files.held (HasRisen files.faults files.faults_after) next left in
      let rest = after_files begun (after_text text some.0) in
      HasRun-ends statements start (statement ∷ left) now before after faults_before faults_after begun_now files h sure end faults unflushed status.WriteFault rest
      (asks-stands (can_be files) (can_be (calm files)) (CanBe-wider file_limit files.held (HasRisen files.faults files.faults) (HasRisen files.faults files.faults_after) sure) (asked now statement) now statement next text
      Next some.0 turn some.1)
      (cut-text text begun some.0 (written after end faults_after faults unflushed) count within cut_text risen)
      (Opens-cut text some.0 begun begun_now files.begun_after counted)
      (λ wrong. absurd wrong)

  -- memory is wanting for the next statement
  HasRun-short : (end : Option (List ℕ)) (faults count : ℕ) (unflushed : Bool) (s : Status) → count ≤ files_of (asked now statement) → files.begun_after ≡ opened count begun_now →
      IsSilent (written after end faults_after faults unflushed) s → EndsSome (can_be files) (RunsFrom (can_be files) start statements) (written before end faults_before faults unflushed) files s
  HasRun-short end faults count unflushed s few counted silent =
      let some = some_run-asking files.held (HasRisen files.faults files.faults_after) now statement left in
      subst (EndsSome (can_be files) (RunsFrom (can_be files) start statements) (written before end faults_before faults unflushed) files) (sym silent.said)
      (HasRun-ends statements start (statement ∷ left) now before after faults_before faults_after begun_now files h sure end faults unflushed status.NoMemory some.0 some.1
      (short-text some.0 (written after end faults_after faults unflushed) silent.text silent.steady)
      (Opens-short some.0 count (files_of (asked now statement)) begun_now files.begun_after few some.2 counted)
      (λ wrong. absurd wrong))

  -- the next statement is refused, or memory is wanting for it
  pub HasRun-stopped : (refused : StepRefusal) (next : Contents) (end : Option (List ℕ)) (faults : ℕ) (unflushed : Bool) (s : Status) →
      now.next < last_number → TakesTurn (can_be files) (asked now statement) now next (Err refused) →
      (IsTrue (begins (asked now statement)) → (files.begun_after ≡ next_count begun_now) ⊎ ((refuses_with refused ≡ refuses_with step.NoMemory) × (files.begun_after ≡ begun_now))) →
      (begins (asked now statement) ≡ false → files.begun_after ≡ begun_now) → RestsOn refused files →
      EndsStopped now statement refused (written after end faults_after faults unflushed) s →
      EndsSome (can_be files) (RunsFrom (can_be files) start statements) (written before end faults_before faults unflushed) files s
  HasRun-stopped (step.Break b) next end faults unflushed s few turn opens still rests e =
      let told = told≢ (step.Break b) refl in
      HasRun-refused (step.Break b) next end faults unflushed s told few turn (begun-told (asked now statement) begun_now files.begun_after _ opens still (told-answer (step.Break b) told)) rests e
  HasRun-stopped (step.Run fault at) next end faults unflushed s few turn opens still rests e =
      let told = told≢ (step.Run fault at) refl in
      HasRun-refused (step.Run fault at) next end faults unflushed s told few turn (begun-told (asked now statement) begun_now files.begun_after _ opens still (told-answer (step.Run fault at) told)) rests e
  HasRun-stopped (step.Missing at) next end faults unflushed s few turn opens still rests e =
      let told = told≢ (step.Missing at) refl in
      HasRun-refused (step.Missing at) next end faults unflushed s told few turn (begun-told (asked now statement) begun_now files.begun_after _ opens still (told-answer (step.Missing at) told)) rests e
  HasRun-stopped (step.TooLarge at) next end faults unflushed s few turn opens still rests e =
      let told = told≢ (step.TooLarge at) refl in
      HasRun-refused (step.TooLarge at) next end faults unflushed s told few turn (begun-told (asked now statement) begun_now files.begun_after _ opens still (told-answer (step.TooLarge at) told)) rests e
  HasRun-stopped (step.Unfit rule) next end faults unflushed s few turn opens still rests e =
      let told = told≢ (step.Unfit rule) refl in
      HasRun-refused (step.Unfit rule) next end faults unflushed s told few turn (begun-told (asked now statement) begun_now files.begun_after _ opens still (told-answer (step.Unfit rule) told)) rests e
  HasRun-stopped step.ReadFault next end faults unflushed s few turn opens still rests e =
      let told = told≢ step.ReadFault refl in
      HasRun-refused step.ReadFault next end faults unflushed s told few turn (begun-told (asked now statement) begun_now files.begun_after _ opens still (told-answer step.ReadFault told)) rests e
  HasRun-stopped step.NoMemory next end faults unflushed s few turn opens still rests e =
      let count = begun-short (asked now statement) begun_now files.begun_after _ opens still in
      HasRun-short end faults count.0 unflushed s count.1 count.2 e
