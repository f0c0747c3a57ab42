-- Every run is told by the headline.
use Rattle.std.proofs.Common.{◌+◌, ◌≡◌, ◌≢◌, ◌⊎◌, ◌∙◌, ◌≤◌, ◌<◌, ◌-◌, ◌^◌, ℕ, suc, List, [], ◌∷◌, length, Option, Some, Ok, refl, true≢false, sym, ap, subst, inl, inr, arith}
use Rattle.std.proofs.lemmas.Option.{slice_get_within}
use Rattle.std.specs.List.{slice_get}
use Rattle.bag_algebra.specs.declared.query.Answer.{Answer}
use Rattle.name_meaning.specs.Statements.{answer_of, breaks, query_meant}
use Rattle.name_meaning.specs.declared.answer.Break.{Break}
use Rattle.perm_catalog.specs.Changes.{nothing_held}
use Rattle.perm_catalog.specs.Contents.{Contents}
use Rattle.perm_catalog.specs.Sound.{IsSound}
use Rattle.perm_io.specs.Counts.{HasRisen}
use Rattle.perm_io.specs.Found.{Found, CanBe, Read}
use Rattle.perm_io.specs.declared.named_file.NamedFile.{NamedFile}
use Rattle.sql_lexer.specs.Lexes.{Lexes}
use Rattle.sql_lexer.specs.declared.token.Token.{Token}
use Rattle.sql_parser.specs.Spells.{Spells}
use Rattle.sql_tree.specs.Regular.{Each, Regular, RegularStatement}
use Rattle.sql_tree.specs.declared.query.QueryTree.{QueryTree}
use Rattle.sql_tree.specs.declared.statement.Script.{Script}
use Rattle.sql_tree.specs.declared.statement.Statement.{Statement}
use Rattle.sql_tree.specs.declared.statement.StatementBody.TheVariants as st
use Rattle.stored_provenance.proofs.Soundness.{sound-empty}
use Rattle.statement_meaning.specs.laws.Asks.{AsksToExplain, HasWord}
use Rattle.statement_meaning.specs.Answers.{Files, TakesTurn, can_be, file_limit}
use Rattle.statement_meaning.specs.Asking.{asked}
use Rattle.statement_meaning.specs.declared.refusal.StepRefusal.{StepRefusal}
use Rattle.statement_meaning.specs.declared.refusal.StepRefusal.TheVariants as refusal
use Rattle.perm_engine.proofs.meaning.Reasons.{caused}
use Rattle.perm_engine.proofs.meaning.Turns.{after_none}
use Rattle.perm_engine.proofs.meaning.Widening.{script-counted}
use Rattle.perm_engine.specs.meaning.Ends.{EndsOne, RunsOver, Written}
use Rattle.perm_engine.specs.meaning.words.Requests.{request_of}
use Rattle.perm_engine.specs.declared.meaning.words.wanted.Wanted.{Wanted}
use Rattle.perm_engine.specs.declared.meaning.words.wanted.Wanted.TheVariants.{Script as Named, Generated, Misworded}
use Rattle.perm_engine.specs.meaning.generation.Generated.{generated}
use Rattle.perm_engine.specs.meaning.Run.{Ran, IsRefusedWhole, Runs, RunsFile, RunsFrom, RunsNamed, RunsScript, RunsWanted, after_files, ended}
use Rattle.perm_engine.specs.meaning.Scripts.{IsScriptOf, IsMisspelled}
use Rattle.perm_engine.specs.meaning.Stops.{Stop, ToTheEnd, Misused, NoFile, LongFile, FailedFile, NoScript, At, IsFirst, script_limit}
use Rattle.perm_engine.specs.declared.meaning.status.Status.{Status}
use Rattle.perm_engine.specs.declared.meaning.status.Status.TheVariants as status
use Rattle.perm_engine.proofs.meaning.Altering.{copies-rows, creates-table, creates-view, deletes-rows, drops-table, drops-view, inserts-rows}
use Rattle.perm_engine.proofs.meaning.Besides.{answers-beside}
use Rattle.perm_engine.proofs.meaning.Counting.{first-cause, statements-few, tokens-few}
use Rattle.perm_engine.proofs.meaning.Courses.{course-files, course-of}
use Rattle.perm_engine.proofs.meaning.Explaining.{explains-query, explained-kept}
use Rattle.perm_engine.proofs.meaning.Losing.{answers-lost, lost-kept}
use Rattle.perm_engine.proofs.meaning.Queries.{answers-rows, asks-resolved, selects}
use Rattle.perm_engine.proofs.meaning.Refusing.{refuses-first}
use Rattle.perm_engine.proofs.meaning.HeadlineSteps.{Keeps, contains-at, done-accepted, sound-at}
use Rattle.perm_engine.proofs.meaning.Showing.{Stands, shown-kept, shows-fresh}
use Rattle.perm_engine.proofs.meaning.Storing.{Freshens, stores-answer}
use Rattle.perm_engine.proofs.meaning.words.Numbers.{same_rows, misworded≢generated}
use Rattle.perm_engine.specs.meaning.headline.Answers.{AnswersBeside, AnswersRows}
use Rattle.perm_engine.specs.meaning.headline.Course.{BreaksOff, Course, EndsBehind, EndsIn}
use Rattle.perm_engine.specs.meaning.headline.Headline.{Accepts, Headline, HeadlineOfFile, HeadlineOfScript, HeadlineOfStatements, HeadlineOver, IsTold, RefusesFirst}
use Rattle.perm_engine.specs.meaning.headline.Words.{LacksWord}

-- ---- a statement that is accepted

module _ (freshens : Freshens) (stands : Stands) (Can : List ℕ → Found → Type 0) (c after : Contents) (statement : Statement) (text : List ℕ)
    (sound : IsSound c) (regular : RegularStatement statement) (turn : TakesTurn Can (asked c statement) c after (Ok text)) where
  rows-plain : breaks c statement ≡ [] → (tree : QueryTree) → statement.body ≡ st.Select tree → LacksWord tree.body → AnswersRows c statement text
  rows-plain whole tree is lacks =
      let answer = answer_of (query_meant c tree) in
      let asked_for = asks-resolved c statement tree is whole in
      let found = selects Can c after statement answer text asked_for turn in
      answers-rows c statement answer tree text found.bag sound regular asked_for is lacks found.means found.written

  rows-beside : breaks c statement ≡ [] → (tree : QueryTree) (at : ℕ) → statement.body ≡ st.Select tree → HasWord at tree.body → AnswersBeside c statement tree text
  rows-beside whole tree at is word =
      let answer = answer_of (query_meant c tree) in
      let asked_for = asks-resolved c statement tree is whole in
      let found = selects Can c after statement answer text asked_for turn in
      answers-beside c statement answer tree at text found.bag sound regular asked_for is word found.means found.written

  pub accepts-of : Accepts Can c after statement text
  accepts-of =
      let done = done-accepted Can c after statement text turn in
      record {
        whole = done.whole;
        does = done.turn;
        plain = rows-plain done.whole;
        provenance = rows-beside done.whole;
        untouched = λ tree is. (selects Can c after statement (answer_of (query_meant c tree)) text (asks-resolved c statement tree is done.whole) turn).kept;
        stored = λ table tree is. stores-answer freshens Can c after statement table tree text sound regular is done;
        lost = λ table condition tree is. answers-lost Can c after statement table condition tree text sound regular is done;
        undeleted = λ table condition tree is. lost-kept Can c after statement table condition tree text is done;
        explained = λ tree is. explains-query Can c after statement tree text is done;
        unchanged = λ tree is. explained-kept Can c after statement tree text is done;
        created = creates-table Can c after statement text sound regular done;
        inserted = inserts-rows Can c after statement text sound regular done;
        copied = copies-rows Can c after statement text sound regular done;
        deleted = deletes-rows Can c after statement text sound regular done;
        table_dropped = drops-table Can c after statement text sound regular done;
        view_dropped = drops-view Can c after statement text sound regular done;
        view_created = creates-view Can c after statement text sound regular done;
        freshness = λ table is. shows-fresh Can c after statement table text is done stands sound regular;
        kept = λ table is. shown-kept Can c after statement table text is done;
      }

-- ---- the statements of a script

same_statement : (a b : Statement) → Some a ≡ Some b → a ≡ b
same_statement a b e = cc

end≢at : (c : Contents) (statement : Statement) (refused : StepRefusal) → ToTheEnd ≡ At c statement refused → ⊥
end≢at c statement refused e = cc

module _ (c d : Contents) (statement other : Statement) (refused named : StepRefusal) (e : At c statement refused ≡ At d other named) where
  at-contents : c ≡ d
  at-contents = cc

  at-statement : statement ≡ other
  at-statement = cc

  at-refusal : refused ≡ named
  at-refusal = cc

module _ (keeps : Keeps) (freshens : Freshens) (stands : Stands) (Can : List ℕ → Found → Type 0) (statements : List Statement) (ran : Ran) (regular : Each RegularStatement statements)
    (met : Course Can (nothing_held 1) statements ran) where
  sound-left : (k : ℕ) → k ≤ length ran.texts → IsSound (met.left k)
  sound-left = sound-at keeps Can (nothing_held 1) statements ran (sound-empty 1) regular met

  accepts-at : (k : ℕ) (text : List ℕ) (statement : Statement) → slice_get ran.texts k ≡ Some text → slice_get statements k ≡ Some statement
      → Accepts Can (met.left k) (met.left (suc k)) statement text
  accepts-at k text statement said is =
      let a = met.accepted k text said in
      let same : a.statement ≡ statement = same_statement a.statement statement (sym a.met ∙ is) in
      let within = slice_get_within ran.texts k text said in
      accepts-of freshens stands Can (met.left k) (met.left (suc k)) statement text (sound-left k (omega (arith, within)))
      (regular statement (contains-at statements k statement is))
      (subst (λ (s : Statement). TakesTurn Can (asked (met.left k) s) (met.left k) (met.left (suc k)) (Ok text)) same a.turn)

  abbrev RefusesAt : Contents → Statement → StepRefusal → Type 0
  RefusesAt c statement refused =
      (c ≡ met.left (length ran.texts)) × (slice_get statements (length ran.texts) ≡ Some statement) × RefusesFirst Can c statement refused

  abbrev Ending : Type 0
  Ending =
      EndsBehind statements ran ⊎ (EndsIn Can (met.left (length ran.texts)) statements ran ⊎ BreaksOff (met.left (length ran.texts)) statements ran)

  refuses-by : Ending → (c : Contents) (statement : Statement) (refused : StepRefusal) → refused ≢ refusal.NoMemory → ran.stop ≡ At c statement refused
      → RefusesAt c statement refused
  refuses-by (inl end) c statement refused told e = absurd (end≢at c statement refused (sym end.stop ∙ e))
  refuses-by (inr (inl end)) c statement refused told e =
      let left = met.left (length ran.texts) in
      let same = sym end.stop ∙ e in
      subst (λ (p : Contents × Statement × StepRefusal). RefusesAt p.0 p.1 p.2)
      (λ i. (at-contents left c end.statement statement end.refused refused same i, at-statement left c end.statement statement end.refused refused same i, at-refusal left c end.statement statement end.refused refused same i))
      (refl, end.met, refuses-first Can left end.statement end.refused end.told end.turn)
  refuses-by (inr (inr end)) c statement refused told e =
      absurd (told (sym (at-refusal (met.left (length ran.texts)) c end.statement statement refusal.NoMemory refused (sym end.stop ∙ e))))

  numbered-by : Ending → length statements < 2 ^ 64 - 2 → (c : Contents) (statement : Statement) (refused : StepRefusal) → refused ≢ refusal.NoMemory
      → ran.stop ≡ At c statement refused → IsFirst c statement refused
  numbered-by (inl end) few c statement refused told e = absurd (end≢at c statement refused (sym end.stop ∙ e))
  numbered-by (inr (inl end)) few c statement refused told e =
      let left = met.left (length ran.texts) in
      let same = sym end.stop ∙ e in
      subst (λ (p : Contents × Statement × StepRefusal). IsFirst p.0 p.1 p.2)
      (λ i. (at-contents left c end.statement statement end.refused refused same i, at-statement left c end.statement statement end.refused refused same i, at-refusal left c end.statement statement end.refused refused same i))
      (first-cause Can statements ran met few end.statement end.refused end.told end.turn)
  numbered-by (inr (inr end)) few c statement refused told e =
      absurd (told (sym (at-refusal (met.left (length ran.texts)) c end.statement statement refusal.NoMemory refused (sym end.stop ∙ e))))

  abbrev BreaksAt : Contents → Statement → Type 0
  BreaksAt c statement =
      (c ≡ met.left (length ran.texts)) × (slice_get statements (length ran.texts) ≡ Some statement) × ((answer : Answer) × AsksToExplain c statement answer)

  breaks-by : Ending → (c : Contents) (statement : Statement) → ran.stop ≡ At c statement refusal.NoMemory → BreaksAt c statement
  breaks-by (inl end) c statement e = absurd (end≢at c statement refusal.NoMemory (sym end.stop ∙ e))
  breaks-by (inr (inl end)) c statement e =
      absurd (end.told (at-refusal (met.left (length ran.texts)) c end.statement statement end.refused refusal.NoMemory (sym end.stop ∙ e)))
  breaks-by (inr (inr end)) c statement e =
      let left = met.left (length ran.texts) in
      let same = sym end.stop ∙ e in
      subst (λ (p : Contents × Statement). BreaksAt p.0 p.1)
      (λ i. (at-contents left c end.statement statement refusal.NoMemory refusal.NoMemory same i, at-statement left c end.statement statement refusal.NoMemory refusal.NoMemory same i))
      (refl, end.met, (end.answer, end.asks))

  pub statements-told : HeadlineOfStatements Can statements ran
  statements-told = record {
    course = met;
    sound = sound-left;
    regular = λ k statement is. regular statement (contains-at statements k statement is);
    accepts = accepts-at;
    refuses = refuses-by met.ends;
    breaks_off = breaks-by met.ends;
    numbered = numbered-by met.ends;
  }

-- ---- a script

-- a run, and the same with some files begun besides
refused-ran : (why : Stop) (files : ℕ) (ran rest : Ran) → rest ≡ ended why → ran ≡ after_files files rest → IsRefusedWhole why ran
refused-ran why files ran rest is e =
    subst (IsRefusedWhole why) (sym (e ∙ ap (after_files files) is)) (record { stop = refl; line = refl })

refused-at-once : (why : Stop) (ran : Ran) → ran ≡ ended why → IsRefusedWhole why ran
refused-at-once why ran is = subst (IsRefusedWhole why) (sym is) (record { stop = refl; line = refl })

-- what words ask for is one thing
same_name : (a b : List ℕ) → Named a ≡ Named b → a ≡ b
same_name a b e = cc

named≢misworded : (name : List ℕ) → Named name ≡ Misworded → ⊥
named≢misworded name e = cc

named≢generated : (name : List ℕ) (rows : ℕ) → Named name ≡ Generated rows → ⊥
named≢generated name rows e = cc

generated≢misworded : (rows : ℕ) → Generated rows ≡ Misworded → ⊥
generated≢misworded rows e = cc

generated≢named : (rows : ℕ) (name : List ℕ) → Generated rows ≡ Named name → ⊥
generated≢named rows name e = cc

misworded≢named : (name : List ℕ) → Misworded ≡ Named name → ⊥
misworded≢named name e = cc

module _ (keeps : Keeps) (freshens : Freshens) (stands : Stands)
    (one_script : (bytes : List ℕ) (a b : Script) → IsScriptOf bytes a → IsScriptOf bytes b → a ≡ b)
    (neither : (bytes : List ℕ) (script : Script) (b : Break) → IsScriptOf bytes script → IsMisspelled bytes b → ⊥)
    (one_break : (bytes : List ℕ) (a b : Break) → IsMisspelled bytes a → IsMisspelled bytes b → a ≡ b)
    (either : (bytes : List ℕ) → ((script : Script) × IsScriptOf bytes script) ⊎ ((b : Break) × IsMisspelled bytes b))
    (regular : (bytes : List ℕ) (tokens : List Token) (script : Script) → Lexes bytes tokens → Spells tokens script → Regular script) where
  module _ (Can : List ℕ → Found → Type 0) (bytes : List ℕ) (files : ℕ) (ran rest : Ran) (is : ran ≡ after_files files rest) where
    misspelled-told : (b : Break) → IsMisspelled bytes b → RunsScript Can bytes rest → IsRefusedWhole (NoScript b) ran
    misspelled-told b wrong (inl (script, spelled, runs)) = absurd (neither bytes script b spelled wrong)
    misspelled-told b wrong (inr (other, wrongly, e)) =
        subst (λ (d : Break). IsRefusedWhole (NoScript d) ran) (one_break bytes other b wrongly wrong) (refused-ran (NoScript other) files ran rest e is)

    spelled-told : (script : Script) → IsScriptOf bytes script → RunsScript Can bytes rest → HeadlineOfStatements Can script.statements ran
    spelled-told script spelled (inl (other, also, runs)) =
        let same : other.statements ≡ script.statements = ap (λ (s : Script). s.statements) (one_script bytes other script also spelled) in
        let met = course-of Can script.statements (nothing_held 1) rest (subst (λ (ss : List Statement). RunsFrom Can (nothing_held 1) ss rest) same runs) in
        subst (HeadlineOfStatements Can script.statements) (sym is)
        (statements-told keeps freshens stands Can script.statements (after_files files rest) (regular bytes spelled.tokens script spelled.lexes spelled.spells)
        (course-files Can files (nothing_held 1) script.statements rest met))
    spelled-told script spelled (inr (b, wrong, e)) = absurd (neither bytes script b spelled wrong)

    pub script-told : RunsScript Can bytes rest → HeadlineOfScript Can bytes ran
    script-told runs = record {
      spelling = either bytes;
      misspelled = λ b wrong. misspelled-told b wrong runs;
      runs = λ script spelled. spelled-told script spelled runs;
    }

  file-told : (held : Option (List NamedFile)) (fault : Type 0) (name : List ℕ) (ran : Ran) → RunsNamed held fault name ran → HeadlineOfFile held fault name ran
  file-told held fault name ran (found, rest, can, runs, is) =
      let Can : List ℕ → Found → Type 0 = CanBe file_limit held fault in
      record {
        found = found;
        can = can;
        missing = λ e. refused-ran NoFile 1 ran rest (subst (λ (f : Found). RunsFile Can f rest) e runs) is;
        long = λ e. refused-ran LongFile 1 ran rest (subst (λ (f : Found). RunsFile Can f rest) e runs) is;
        failed = λ e. refused-ran FailedFile 1 ran rest (subst (λ (f : Found). RunsFile Can f rest) e runs) is;
        read = λ bytes e. script-told Can bytes 1 ran rest is (subst (λ (f : Found). RunsFile Can f rest) e runs);
        numbered = λ bytes script e spelled.
            let read : CanBe script_limit held fault name (Read bytes) = subst (λ (f : Found). CanBe script_limit held fault name f) e can in
            let tokens = tokens-few bytes spelled.tokens spelled.lexes in
            let statements = statements-few spelled.tokens script spelled.spells in
            omega (arith, read.1, tokens, statements);
      }

  by-wanted : (words : List (List ℕ)) (wanted : Wanted) (held : Option (List NamedFile)) (fault : Type 0) (ran : Ran) → request_of words ≡ wanted
      → RunsWanted wanted held fault ran → Headline words held fault ran
  by-wanted words (Named name) held fault ran is h = record {
    misused = λ e. absurd (named≢misworded name (sym is ∙ e));
    script = λ other e. subst (λ (n : List ℕ). HeadlineOfFile held fault n ran) (same_name name other (sym is ∙ e)) (file-told held fault name ran h);
    generated = λ rows e. absurd (named≢generated name rows (sym is ∙ e));
  }
  by-wanted words (Generated rows) held fault ran is h = record {
    misused = λ e. absurd (generated≢misworded rows (sym is ∙ e));
    script = λ name e. absurd (generated≢named rows name (sym is ∙ e));
    generated = λ other e. subst (λ (n : ℕ). HeadlineOfScript (CanBe file_limit held fault) (generated n) ran) (same_rows rows other (sym is ∙ e))
        (script-told (CanBe file_limit held fault) (generated rows) 0 ran ran (sym (after_none ran (script-counted (CanBe file_limit held fault) (generated rows) ran h))) h);
  }
  by-wanted words Misworded held fault ran is h = record {
    misused = λ e. refused-at-once Misused ran h;
    script = λ name e. absurd (misworded≢named name (sym is ∙ e));
    generated = λ rows e. absurd (misworded≢generated rows (sym is ∙ e));
  }

  pub headline-of : (words : List (List ℕ)) (held : Option (List NamedFile)) (fault : Type 0) (ran : Ran) → Runs words held fault ran → Headline words held fault ran
  headline-of words held fault ran h = by-wanted words (request_of words) held fault ran refl h

-- ---- how a run ends, told so, with its cause

module _ (begun : ℕ) (words : List (List ℕ)) (w : Written) (files : Files) (s : Status) (tells : (ran : Ran) → RunsOver words files ran → HeadlineOver words files ran)
    (failed : s ≡ status.ReadFault → HasRisen files.faults files.faults_after) where
  pub ends-told : EndsOne begun (can_be files) (RunsOver words files) w files s → EndsOne begun (can_be files) (IsTold words files s) w files s
  ends-told (inl e) = inl (record {
    ran = e.ran;
    is = record { run = e.is; told = tells e.ran e.is; cause = caused (request_of words) files e.ran e.is s e.texts w e.ends e.opens e.backed failed };
    texts = e.texts;
    ends = e.ends;
    opens = e.opens;
    backed = e.backed;
  })
  ends-told (inr silent) = inr silent
