-- What the words ask for, by what `clap` answers.
use Rattle.std.proofs.Common.{◌≡◌, ◌⊎◌, ◌∙◌, true, List, [], ◌∷◌, ℕ, Option, Result, Ok, Err, refl, sym, ap, ap₂, inl, inr}
use Rattle.clap.specs.Faults.{fault_of, is_simple_and_free}
use Rattle.clap.specs.Kinds.{FailsBy, HasKind, Kinds}
use Rattle.clap.specs.Simple.{is_simple, matches_of}
use Rattle.clap.specs.Values.{kind_of}
use Rattle.clap.specs.Matches.{first_value}
use Rattle.clap.specs.Walk.{Row, first_of, rows_of}
use Rattle.clap.specs.declared.parser.matches.Found.{Found}
use Rattle.clap.proofs.WalkLemmas.{first_value-rows}
use Rattle.clap.specs.declared.error.Error.{Error}
use Rattle.clap.specs.declared.error.kind.ErrorKind.TheVariants.{OutOfMemory}
use Rattle.std.specs.Prelude.{codes, IfOk, IfErr}
use Rattle.perm_engine.specs.meaning.words.Requests.{asked_by, command, one_of_both, request_of}
use Rattle.perm_engine.specs.declared.meaning.words.wanted.Wanted.TheVariants.{Misworded}

-- words that it takes ask for what it finds
pub taken : (words : List (List ℕ)) (rows : List Row) → fault_of command words ≡ [] → rows ≡ matches_of command words
    → one_of_both (first_of (codes "script") rows) (first_of (codes "generate") rows) ≡ request_of words
unfolding request_of
taken words rows none is = sym (ap₂ asked_by none (sym is))

-- words that it refuses otherwise than for want of memory ask for nothing
wrong : (kinds : Kinds) (rows : List Row) (e : Error) → HasKind kinds e → (kind_of e ≡ OutOfMemory → ⊥) → Misworded ≡ asked_by kinds rows
wrong kinds rows e (inl memory) other = absurd (other memory)
wrong [] rows e (inr among) other = absurd among
wrong (kind ∷ kinds) rows e (inr among) other = refl

pub refused : (words : List (List ℕ)) (e : Error) → HasKind (fault_of command words) e → (kind_of e ≡ OutOfMemory → ⊥) → Misworded ≡ request_of words
unfolding request_of
refused words e has other = wrong (fault_of command words) (matches_of command words) e has other

-- ---- what a parse answers

module _ {T : Type 0} where
  pub is_taken : (kinds : Kinds) (r : Result T Error) → FailsBy kinds r → IfOk r (λ _. kinds ≡ [])
  is_taken kinds (Ok matches) h = h
  is_taken kinds (Err e) h = tt

  pub is_refused : (kinds : Kinds) (r : Result T Error) → FailsBy kinds r → IfErr r (HasKind kinds)
  is_refused kinds (Ok matches) h = tt
  is_refused kinds (Err e) h = h

pub is_simple_command : is_simple command ≡ true
is_simple_command = refl

pub is_free_command : is_simple_and_free command ≡ true
is_free_command = refl

-- words that it takes, by the two texts that it finds in them
pub found_is : (words ws : List (List ℕ)) (found : Found) (script rows : Option (List ℕ)) → ws ≡ words → fault_of command ws ≡ [] → rows_of found ≡ matches_of command ws
    → script ≡ first_value found (codes "script") → rows ≡ first_value found (codes "generate") → one_of_both script rows ≡ request_of words
found_is words ws found script rows same none is script_is rows_is =
    ap₂ one_of_both (script_is ∙ first_value-rows found (codes "script")) (rows_is ∙ first_value-rows found (codes "generate"))
    ∙ taken words (rows_of found) (sym (ap (fault_of command) same) ∙ none) (is ∙ ap (matches_of command) same)
