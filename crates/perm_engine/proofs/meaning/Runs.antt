-- Over told files of which none fails there is one run, but for which fault is named, which texts explain, and one that breaks off.
use Rattle.std.proofs.Common.{◌≡◌, ◌≢◌, ◌∙◌, ℕ, ◌+◌, ◌≤◌, ◌<◌, true, List, [], ◌∷◌, length, Option, Some, None, IsSomeAnd, refl, sym, ap, subst, inl, inr, arith}
use Rattle.std.proofs.lemmas.Option.{same_Some}
use Rattle.perm_engine.specs.meaning.words.Requests.{request_of}
use Rattle.perm_engine.specs.declared.meaning.words.wanted.Wanted.{Wanted}
use Rattle.perm_engine.specs.declared.meaning.words.wanted.Wanted.TheVariants.{Script as OfFile, Generated, Misworded}
use Rattle.perm_engine.specs.meaning.generation.Generated.{generated}
use Rattle.null_logic.specs.declared.run_fault.RunFault.{RunFault}
use Rattle.bag_algebra.specs.Outcome.{Faults, has}
use Rattle.bag_algebra.specs.declared.query.Answer.{Answer}
use Rattle.perm_catalog.specs.Changes.{nothing_held}
use Rattle.perm_catalog.specs.Contents.{Contents}
use Rattle.perm_io.specs.Found.{Found, Read, Missing, TooLong, Failed, CanBe}
use Rattle.perm_io.specs.Named.{file_named}
use Rattle.perm_io.specs.declared.named_file.NamedFile.{NamedFile}
use Rattle.sql_tree.specs.declared.statement.Script.{Script}
use Rattle.sql_tree.specs.declared.statement.Statement.{Statement}
use Rattle.name_meaning.specs.declared.answer.Break.{Break}
use Rattle.statement_meaning.specs.Answers.{Names, file_limit}
use Rattle.statement_meaning.specs.Asking.{Asked, Settled, Begins, Explained, asked}
use Rattle.statement_meaning.specs.Turns.{Turn, Accepted, Refused, Cause, Broken, Meets, Unfit}
use Rattle.statement_meaning.specs.Turns as cause
use Rattle.statement_meaning.specs.declared.refusal.StepRefusal.{StepRefusal}
use Rattle.statement_meaning.specs.declared.refusal.StepRefusal.TheVariants as refusal
use Rattle.statement_steps.proofs.SomeFound.{some_found}
use Rattle.perm_engine.proofs.meaning.Turns.{some_run}
use Rattle.perm_engine.specs.meaning.Run.{Ran, Runs, RunsNamed, RunsFile, RunsScript, RunsFrom, RunsWanted, Asks, GoesOn, GoesExplained, ended, after_text, after_files, with_more}
use Rattle.perm_engine.specs.meaning.Scripts.{IsScriptOf, IsMisspelled}
use Rattle.perm_engine.specs.meaning.Stops.{Stop, ToTheEnd, Misused, NoFile, LongFile, NoScript, At, script_limit}
use Rattle.perm_engine.specs.meaning.Same.{MeetsFaults, SameStop, alike, by_faults, SameText, one as one_text, explained, IsUnbroken, SameRun}
use Rattle.perm_engine.proofs.meaning.Breaks.{Spelled}

-- ---- what became of a file

some≢none : (bs : List ℕ) → Some bs ≡ None → ⊥
some≢none bs e = absurd cc

module _ (limit : ℕ) (held : List NamedFile) (name : List ℕ) where
  not_both : (bs : List ℕ) → file_named held name ≡ Some bs → length bs ≤ limit → IsSomeAnd (file_named held name) (λ (b : List ℕ). limit < length b) → ⊥
  not_both bs e within long = let longer = subst (λ (found : Option (List ℕ)). IsSomeAnd found (λ (b : List ℕ). limit < length b)) e long in omega (arith, within, longer)

  not_missing : file_named held name ≡ None → IsSomeAnd (file_named held name) (λ (b : List ℕ). limit < length b) → ⊥
  not_missing e long = subst (λ (found : Option (List ℕ)). IsSomeAnd found (λ (b : List ℕ). limit < length b)) e long

  pub same_found : (f g : Found) → CanBe limit (Some held) ⊥ name f → CanBe limit (Some held) ⊥ name g → f ≡ g
  same_found (Read bs) (Read cs) h k = ap Read (same_Some bs cs (sym h.0 ∙ k.0))
  same_found (Read bs) Missing h k = absurd (some≢none bs (sym h.0 ∙ k))
  same_found (Read bs) TooLong h k = absurd (not_both bs h.0 h.1 k)
  same_found (Read bs) Failed h k = absurd k
  same_found Missing (Read cs) h k = absurd (some≢none cs (sym k.0 ∙ h))
  same_found Missing Missing h k = refl
  same_found Missing TooLong h k = absurd (not_missing h k)
  same_found Missing Failed h k = absurd k
  same_found TooLong (Read cs) h k = absurd (not_both cs k.0 k.1 h)
  same_found TooLong Missing h k = absurd (not_missing k h)
  same_found TooLong TooLong h k = refl
  same_found TooLong Failed h k = absurd k
  same_found Failed g h k = absurd h

-- ---- why a statement is refused

abbrev refusal_of : Cause → StepRefusal
refusal_of (Broken b) = refusal.Break b
refusal_of (Meets faults at) = refusal.NoMemory
refusal_of (cause.Missing at) = refusal.Missing at
refusal_of (cause.TooLarge at) = refusal.TooLarge at
refusal_of (Unfit rule) = refusal.Unfit rule
refusal_of cause.Failed = refusal.ReadFault

-- it names the one refusal of its cause, or one of the faults that are met
data Named (why : Cause) (r : StepRefusal) : Type 0 where
  alone : r ≡ refusal_of why → Named why r
  one_of : (faults : Faults) (at : ℕ) (fault : RunFault) → why ≡ Meets faults at → r ≡ refusal.Run fault at → has faults fault ≡ true → Named why r

same_cause : (a b : Cause) → Refused a ≡ Refused b → a ≡ b
same_cause a b e = cc

named : (why : Cause) (r : StepRefusal) → Names (Refused why) r → r ≢ refusal.NoMemory → Named why r
named why (refusal.Break b) e some = alone (sym (ap refusal_of (same_cause why (Broken b) e)))
named why (refusal.Run fault at) e some = one_of e.0 at fault (same_cause why (Meets e.0 at) e.1) refl e.2
named why (refusal.Missing at) e some = alone (sym (ap refusal_of (same_cause why (cause.Missing at) e)))
named why (refusal.TooLarge at) e some = alone (sym (ap refusal_of (same_cause why (cause.TooLarge at) e)))
named why (refusal.Unfit rule) e some = alone (sym (ap refusal_of (same_cause why (Unfit rule) e)))
named why refusal.ReadFault e some = alone (sym (ap refusal_of (same_cause why cause.Failed e)))
named why refusal.NoMemory e some = absurd (some refl)

same_faults : (f g : Faults) (m n : ℕ) → Meets f m ≡ Meets g n → f ≡ g
same_faults f g m n e = cc

same_at : (f g : Faults) (m n : ℕ) → Meets f m ≡ Meets g n → m ≡ n
same_at f g m n e = cc

module _ (c : Contents) (statement : Statement) (why : Cause) (meets : (met : Faults) (at : ℕ) → why ≡ Meets met at → MeetsFaults (asked c statement) met at) where
  two_faults : (f g : Faults) (m n : ℕ) (p q : RunFault) → f ≡ g → n ≡ m → MeetsFaults (asked c statement) g n → has f p ≡ true → has g q ≡ true
      → SameStop (At c statement (refusal.Run p m)) (At c statement (refusal.Run q n))
  two_faults f g m n p q same place met h k =
      subst (λ (at : ℕ). SameStop (At c statement (refusal.Run p at)) (At c statement (refusal.Run q n))) place
      (by_faults g met (subst (λ (held : Faults). has held p ≡ true) same h) k)

  same_stop : (r s : StepRefusal) → r ≢ refusal.NoMemory → s ≢ refusal.NoMemory → Named why r → Named why s → SameStop (At c statement r) (At c statement s)
  same_stop r s some more (alone p) (alone q) = subst (λ (t : StepRefusal). SameStop (At c statement r) (At c statement t)) (p ∙ sym q) alike
  same_stop r s some more (alone p) (one_of faults at fault e q h) = absurd (some (p ∙ ap refusal_of e))
  same_stop r s some more (one_of faults at fault e p h) (alone q) = absurd (more (q ∙ ap refusal_of e))
  same_stop r s some more (one_of f m x e p h) (one_of g n y e' q k) =
      subst (λ (t : StepRefusal). SameStop (At c statement t) (At c statement s)) (sym p)
      (subst (λ (t : StepRefusal). SameStop (At c statement (refusal.Run x m)) (At c statement t)) (sym q)
      (two_faults f g m n x y (same_faults f g m n (sym e ∙ e')) (sym (same_at f g m n (sym e ∙ e'))) (meets g n e') h k))

-- ---- runs

abbrev same_ended : (s t : Stop) → SameStop s t → SameRun (ended s) (ended t)
same_ended s t h = record { texts = tt; stop = h; begun = refl }

same_text : (text other : List ℕ) → SameText text other → (a b : Ran) → SameRun a b → SameRun (after_text text a) (after_text other b)
same_text text other same a b h = record { texts = (same, h.texts); stop = h.stop; begun = ap (λ (ns : List ℕ). 0 ∷ ns) h.begun }

same_files : (n : ℕ) (a b : Ran) → SameRun a b → SameRun (after_files n a) (after_files n b)
same_files n a b h = record { texts = h.texts; stop = h.stop; begun = ap (with_more n) h.begun }

moved : (a b a' b' : Ran) → a ≡ a' → b ≡ b' → SameRun a' b' → SameRun a b
moved a b a' b' p q h = subst (λ (r : Ran). SameRun r b) (sym p) (subst (λ (r : Ran). SameRun a' r) (sym q) h)

abbrev One : (Ran → Type 0) → Type 0
One Is = (a b : Ran) → Is a → Is b → IsUnbroken a → IsUnbroken b → SameRun a b

same_goes : (c : Contents) (statement : Statement) (turn : Turn) → ((met : Faults) (at : ℕ) → turn ≡ Refused (Meets met at) → MeetsFaults (asked c statement) met at)
    → (Next : Contents → Ran → Type 0) → ((after : Contents) → One (Next after)) → One (GoesOn c statement turn Next)
same_goes c statement (Refused why) meets Next one a b (r, names, some, is) (s, names', more, is') u v =
    moved a b (ended (At c statement r)) (ended (At c statement s)) is is'
    (same_ended (At c statement r) (At c statement s)
    (same_stop c statement why (λ met at e. meets met at (ap Refused e)) r s some more (named why r names some) (named why s names' more)))
same_goes c statement (Accepted text after) meets Next one a b (rest, next, is) (rest', next', is') u v =
    moved a b (after_text text rest) (after_text text rest') is is'
    (same_text text text (one_text refl) rest rest' (one after rest rest' next next' (subst IsUnbroken is u) (subst IsUnbroken is' v)))

-- a run that breaks off isn't whole
broken_off : (c : Contents) (statement : Statement) (a : Ran) → a ≡ ended (At c statement refusal.NoMemory) → IsUnbroken a → ⊥
broken_off c statement a is u = subst IsUnbroken is u refl

same_explained : (c : Contents) (statement : Statement) (after : Contents) (answer : Answer) → asked c statement ≡ Explained after answer
    → (Next : Contents → Ran → Type 0) → One (Next after) → One (GoesExplained c statement after answer Next)
same_explained c statement after answer asks Next one a b (inl (text, rest, says, next, is)) (inl (text', rest', says', next', is')) u v =
    moved a b (after_text text rest) (after_text text' rest') is is'
    (same_text text text' (explained c after statement answer asks says says') rest rest' (one rest rest' next next' (subst IsUnbroken is u) (subst IsUnbroken is' v)))
same_explained c statement after answer asks Next one a b (inl h) (inr is) u v = absurd (broken_off c statement b is v)
same_explained c statement after answer asks Next one a b (inr is) k u v = absurd (broken_off c statement a is u)

module _ (held : List NamedFile) where
  abbrev Can : List ℕ → Found → Type 0
  Can = CanBe file_limit (Some held) ⊥

  same_asks : (c : Contents) (statement : Statement) (a : Asked) → asked c statement ≡ a → (Next : Contents → Ran → Type 0) → ((after : Contents) → One (Next after))
      → One (Asks Can c statement a Next)
  same_asks c statement (Settled turn) asks Next one x y h k u v =
      same_goes c statement turn (λ met at e. subst (λ (a : Asked). MeetsFaults a met at) (sym asks) e) Next one x y h k u v
  same_asks c statement (Begins name after) asks Next one x y (f, rest, can, goes, is) (g, rest', can', goes', is') u v =
      moved x y (after_files 1 rest) (after_files 1 rest') is is'
      (same_files 1 rest rest' (same_goes c statement (after g) (λ met at e. subst (λ (a : Asked). MeetsFaults a met at) (sym asks) (g, e)) Next one rest rest'
      (subst (λ (found : Found). GoesOn c statement (after found) Next rest) (same_found file_limit held name f g can can') goes) goes' (subst IsUnbroken is u) (subst IsUnbroken is' v)))
  same_asks c statement (Explained after answer) asks Next one x y h k u v = same_explained c statement after answer asks Next (one after) x y h k u v

  same_from : (statements : List Statement) (c : Contents) → One (RunsFrom Can c statements)
  same_from [] c a b h k u v = moved a b (ended ToTheEnd) (ended ToTheEnd) h k (same_ended ToTheEnd ToTheEnd alike)
  same_from (statement ∷ statements) c a b h k u v =
      same_asks c statement (asked c statement) refl (λ after rest. RunsFrom Can after statements rest) (λ after. same_from statements after) a b h k u v

  module _ (one_script : (bytes : List ℕ) (s t : Script) → IsScriptOf bytes s → IsScriptOf bytes t → s ≡ t)
      (neither : (bytes : List ℕ) (script : Script) (b : Break) → IsScriptOf bytes script → IsMisspelled bytes b → ⊥)
      (one_break : (bytes : List ℕ) (a b : Break) → IsMisspelled bytes a → IsMisspelled bytes b → a ≡ b) where
    same_script : (bytes : List ℕ) → One (RunsScript Can bytes)
    same_script bytes a b (inl (s, is, runs)) (inl (t, is', runs')) u v =
        same_from t.statements (nothing_held 1) a b
        (subst (λ (script : Script). RunsFrom Can (nothing_held 1) script.statements a) (one_script bytes s t is is') runs) runs' u v
    same_script bytes a b (inl (s, is, runs)) (inr (d, wrong, e)) u v = absurd (neither bytes s d is wrong)
    same_script bytes a b (inr (d, wrong, e)) (inl (s, is, runs)) u v = absurd (neither bytes s d is wrong)
    same_script bytes a b (inr (d, wrong, e)) (inr (d', wrong', e')) u v =
        moved a b (ended (NoScript d)) (ended (NoScript d')) e e'
        (same_ended (NoScript d) (NoScript d') (subst (λ (x : Break). SameStop (NoScript d) (NoScript x)) (one_break bytes d d' wrong wrong') alike))

    same_file : (found : Found) (name : List ℕ) → CanBe script_limit (Some held) ⊥ name found → One (RunsFile Can found)
    same_file (Read bytes) name can a b h k u v = same_script bytes a b h k u v
    same_file Missing name can a b h k u v = moved a b (ended NoFile) (ended NoFile) h k (same_ended NoFile NoFile alike)
    same_file TooLong name can a b h k u v = moved a b (ended LongFile) (ended LongFile) h k (same_ended LongFile LongFile alike)
    same_file Failed name can a b h k u v = absurd can

    same_named : (name : List ℕ) → One (RunsNamed (Some held) ⊥ name)
    same_named name a b (f, rest, can, runs, is) (g, rest', can', runs', is') u v =
        moved a b (after_files 1 rest) (after_files 1 rest') is is'
        (same_files 1 rest rest' (same_file g name can' rest rest'
        (subst (λ (found : Found). RunsFile Can found rest) (same_found script_limit held name f g can can') runs) runs' (subst IsUnbroken is u) (subst IsUnbroken is' v)))

    same_wanted : (wanted : Wanted) → One (RunsWanted wanted (Some held) ⊥)
    same_wanted (OfFile name) a b h k u v = same_named name a b h k u v
    same_wanted (Generated rows) a b h k u v = same_script (generated rows) a b h k u v
    same_wanted Misworded a b h k u v = moved a b (ended Misused) (ended Misused) h k (same_ended Misused Misused alike)

    pub same_run : (words : List (List ℕ)) → One (Runs words (Some held) ⊥)
    same_run words = same_wanted (request_of words)

  -- ---- there is one

  module _ (spelled : (bytes : List ℕ) → Spelled bytes) where
    by_spelling : (bytes : List ℕ) → Spelled bytes → (ran : Ran) × RunsScript Can bytes ran
    by_spelling bytes (inl (script, is)) =
        let whole = some_run (Some held) ⊥ (nothing_held 1) script.statements in (whole.0, inl (script, is, whole.1))
    by_spelling bytes (inr (b, wrong)) = (ended (NoScript b), inr (b, wrong, refl))

    some_file : (found : Found) (name : List ℕ) → CanBe script_limit (Some held) ⊥ name found → (ran : Ran) × RunsFile Can found ran
    some_file (Read bytes) name can = by_spelling bytes (spelled bytes)
    some_file Missing name can = (ended NoFile, refl)
    some_file TooLong name can = (ended LongFile, refl)
    some_file Failed name can = absurd can

    wanted_run : (wanted : Wanted) → (ran : Ran) × RunsWanted wanted (Some held) ⊥ ran
    wanted_run (OfFile name) =
        let f = some_found script_limit (Some held) ⊥ name in
        let g = some_file f.0 name f.1 in (after_files 1 g.0, (f.0, g.0, f.1, g.1, refl))
    wanted_run (Generated rows) = by_spelling (generated rows) (spelled (generated rows))
    wanted_run Misworded = (ended Misused, refl)

    pub a_run : (words : List (List ℕ)) → (ran : Ran) × Runs words (Some held) ⊥ ran
    a_run words = wanted_run (request_of words)
