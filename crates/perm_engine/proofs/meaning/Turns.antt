-- What a statement that ran makes of the runs behind it, and that every start has some run, be it one that breaks off at an EXPLAIN.
use Rattle.std.proofs.Common.{◌≡◌, ◌≢◌, ◌⊎◌, ℕ, ◌+◌, ◌≤◌, Bool, true, false, List, [], ◌∷◌, length, Option, Ok, Err, refl, sym, ap, subst, inl, inr, arith, IsTrue}
use Rattle.perm_catalog.specs.Contents.{Contents}
use Rattle.perm_io.specs.Counts.{HasRisen, CountsFault, next_count}
use Rattle.perm_io.specs.Found.{Found, CanBe}
use Rattle.perm_io.specs.declared.named_file.NamedFile.{NamedFile}
use Rattle.sql_tree.specs.declared.statement.Statement.{Statement}
use Rattle.statement_steps.proofs.SomeFound.{some_found}
use Rattle.statement_meaning.specs.Answers.{Names, TakesTurn, begins, file_limit}
use Rattle.statement_meaning.specs.Asking.{Asked, Settled, Begins, Explained, asked}
use Rattle.statement_meaning.specs.Turns.{Turn, Accepted, Refused}
use Rattle.statement_meaning.specs.declared.refusal.StepRefusal.{StepRefusal}
use Rattle.statement_meaning.specs.declared.refusal.StepRefusal.TheVariants as r
use Rattle.perm_engine.specs.meaning.Ends.{opened}
use Rattle.perm_engine.specs.meaning.Run.{Ran, ended, after_text, after_files, files_until, with_more, GoesOn, Asks, RunsFrom}
use Rattle.perm_engine.specs.meaning.Stops.{ToTheEnd, At}
use Rattle.perm_engine.proofs.meaning.Begun.{first-begun}
use Rattle.perm_engine.proofs.meaning.Causes.{HasName, AsksNamed, asked-named}

-- how many files it begins
abbrev pub files_of : Asked → ℕ
files_of (Settled turn) = 0
files_of (Begins name after) = 1
files_of (Explained after answer) = 0

-- the same list, where it has an item
more_none : (counts : List ℕ) → 1 ≤ length counts → with_more 0 counts ≡ counts
more_none [] some = absurd (omega (arith, some))
more_none (count ∷ counts) some = let e : count + 0 ≡ count = omega arith in ap (λ n. n ∷ counts) e

pub after_none : (ran : Ran) → 1 ≤ length ran.begun → after_files 0 ran ≡ ran
after_none ran some = let e = more_none ran.begun some in (λ i. record ran { begun = e i })

pub stands-unnamed : (text : List ℕ) (c : Contents) (refused : StepRefusal) → refused ≢ r.NoMemory → Names (Accepted text c) refused → ⊥
stands-unnamed text c (r.Break b) told h = cc
stands-unnamed text c (r.Run fault at) told h = let e = h.1 in cc
stands-unnamed text c (r.Missing at) told h = cc
stands-unnamed text c (r.TooLarge at) told h = cc
stands-unnamed text c (r.Unfit rule) told h = cc
stands-unnamed text c r.ReadFault told h = cc
stands-unnamed text c r.NoMemory told h = told refl

goes-stops : (c : Contents) (statement : Statement) (turn : Turn) (refused : StepRefusal) (Next : Contents → Ran → Type 0) → refused ≢ r.NoMemory → Names turn refused →
    GoesOn c statement turn Next (ended (At c statement refused))
goes-stops c statement (Accepted text after) refused Next told h = absurd (stands-unnamed text after refused told h)
goes-stops c statement (Refused cause) refused Next told h = (refused, h, told, refl)

module _ (Can : List ℕ → Found → Type 0) (CanStep : List ℕ → Found → Type 0) (widen : (name : List ℕ) (found : Found) → CanStep name found → Can name found) where
  -- a statement that stood goes on by any run of the others
  pub asks-stands : (a : Asked) (now : Contents) (statement : Statement) (next : Contents) (text : List ℕ) (Next : Contents → Ran → Type 0) (rest : Ran) →
      TakesTurn CanStep a now next (Ok text) → Next next rest → Asks Can now statement a Next (after_files (files_of a) (after_text text rest))
  asks-stands (Settled turn) now statement next text Next rest e n =
      subst (λ t. GoesOn now statement t Next (after_files 0 (after_text text rest))) (sym e) (rest, n, after_none (after_text text rest) (omega arith))
  asks-stands (Begins name after) now statement next text Next rest (found, can, e) n =
      (found, after_text text rest, widen name found can, subst (λ t. GoesOn now statement t Next (after_text text rest)) (sym e) (rest, n, refl), refl)
  asks-stands (Explained after answer) now statement next text Next rest e n =
      inl (text, rest, e.0, subst (λ (d : Contents). Next d rest) e.1 n, after_none (after_text text rest) (omega arith))

  -- a statement that was refused ends the run
  pub asks-ends : (a : Asked) (now : Contents) (statement : Statement) (next : Contents) (refused : StepRefusal) (Next : Contents → Ran → Type 0) → refused ≢ r.NoMemory →
      TakesTurn CanStep a now next (Err refused) → Asks Can now statement a Next (after_files (files_of a) (ended (At now statement refused)))
  asks-ends (Settled turn) now statement next refused Next told h =
      subst (GoesOn now statement turn Next) (sym (after_none (ended (At now statement refused)) (omega arith))) (goes-stops now statement turn refused Next told h.0)
  asks-ends (Begins name after) now statement next refused Next told (found, can, h) =
      (found, ended (At now statement refused), widen name found can, goes-stops now statement (after found) refused Next told h.0, refl)
  asks-ends (Explained after answer) now statement next refused Next told h = absurd (told h.0)

-- ---- every start has some run

module _ (held : Option (List NamedFile)) (fault : Type 0) where
  some_goes : (c : Contents) (statement : Statement) (turn : Turn) (Next : Contents → Ran → Type 0) → HasName turn → ((after : Contents) → (ran : Ran) × Next after ran) →
      (ran : Ran) × GoesOn c statement turn Next ran
  some_goes c statement (Refused cause) Next named later = (ended (At c statement named.0), (named.0, named.1, named.2, refl))
  some_goes c statement (Accepted text next) Next named later = let rest = later next in (after_text text rest.0, (rest.0, rest.1, refl))

  some_asks : (c : Contents) (statement : Statement) (a : Asked) (Next : Contents → Ran → Type 0) → AsksNamed a → ((after : Contents) → (ran : Ran) × Next after ran) →
      (ran : Ran) × Asks (CanBe file_limit held fault) c statement a Next ran × (files_of a ≤ files_until ran 1)
  some_asks c statement (Settled turn) Next named later = let g = some_goes c statement turn Next named later in (g.0, g.1, omega arith)
  some_asks c statement (Begins name after) Next named later =
      let f = some_found file_limit held fault name in
      let g = some_goes c statement (after f.0) Next (named f.0) later in
      (after_files 1 g.0, (f.0, g.0, f.1, g.1, refl), first-begun g.0)
  some_asks c statement (Explained after answer) Next named later = (ended (At c statement r.NoMemory), inr refl, omega arith)

  pub some_run : (c : Contents) (statements : List Statement) → (ran : Ran) × RunsFrom (CanBe file_limit held fault) c statements ran
  some_run c [] = (ended ToTheEnd, refl)
  some_run c (statement ∷ statements) =
      let g = some_asks c statement (asked c statement) (λ after rest. RunsFrom (CanBe file_limit held fault) after statements rest) (asked-named c statement) (λ after. some_run after statements) in
      (g.0, g.1)

  -- a run that begins the file that its first statement asks for
  pub some_run-asking : (c : Contents) (statement : Statement) (statements : List Statement) →
      (ran : Ran) × RunsFrom (CanBe file_limit held fault) c (statement ∷ statements) ran × (files_of (asked c statement) ≤ files_until ran 1)
  some_run-asking c statement statements =
      some_asks c statement (asked c statement) (λ after rest. RunsFrom (CanBe file_limit held fault) after statements rest) (asked-named c statement) (λ after. some_run after statements)

-- ---- the files that it has begun, and their faults

-- all that it asks for, unless memory was wanting
pub begun-told : (a : Asked) (old new : ℕ) (Short : Type 0) → (IsTrue (begins a) → (new ≡ next_count old) ⊎ (Short × (new ≡ old))) →
    (begins a ≡ false → new ≡ old) → (Short → ⊥) → new ≡ opened (files_of a) old
begun-told (Settled turn) old new Short h k told = k refl
begun-told (Begins name after) old new Short h k told = either (h refl)
  where
    either : ((new ≡ next_count old) ⊎ (Short × (new ≡ old))) → new ≡ next_count old
    either (inl one) = one
    either (inr (wanting, same)) = absurd (told wanting)
begun-told (Explained after answer) old new Short h k told = k refl

-- that or none
pub begun-short : (a : Asked) (old new : ℕ) (Short : Type 0) → (IsTrue (begins a) → (new ≡ next_count old) ⊎ (Short × (new ≡ old))) →
    (begins a ≡ false → new ≡ old) → (files : ℕ) × (files ≤ files_of a) × (new ≡ opened files old)
begun-short (Settled turn) old new Short h k = (0, omega arith, k refl)
begun-short (Begins name after) old new Short h k = either (h refl)
  where
    either : ((new ≡ next_count old) ⊎ (Short × (new ≡ old))) → (files : ℕ) × (files ≤ 1) × (new ≡ opened files old)
    either (inl one) = (1, omega arith, one)
    either (inr (wanting, same)) = (0, omega arith, same)
begun-short (Explained after answer) old new Short h k = (0, omega arith, k refl)

-- a count that has come to its end stands there
pub still_risen : (before now : ℕ) (failed : Bool) → CountsFault before now failed → HasRisen before before → HasRisen before now
still_risen before now true h g = h
still_risen before now false h g = subst (HasRisen before) (sym h) g
