-- A statement that begins no file is refused for no cause that lies in a file.
use mathlib.Core.Bool.{true≢false}
use Rattle.std.proofs.Common.{◌≡◌, ◌∙◌, ℕ, Bool, true, false, cond, nat_eq, List, [], length, None, Result, Ok, Err, codes, refl, sym, ap, subst}
use Rattle.std.specs.List.{count_by}
use Rattle.perm_values.specs.Numbers.{last_number}
use Rattle.perm_values.specs.Rows.{printed_cmp}
use Rattle.bag_algebra.specs.Bags.{Bag, sorted}
use Rattle.bag_algebra.specs.Meaning.{meaning}
use Rattle.bag_algebra.specs.Outcome.{Outcome, Good, Bad, each}
use Rattle.bag_algebra.specs.TableRows.{rows_in}
use Rattle.csv_tables.specs.declared.data_error.DataError.TheVariants as rule
use Rattle.perm_catalog.specs.Changes.{rows_at, with_table, with_fewer_rows}
use Rattle.perm_catalog.specs.Contents.{Contents}
use Rattle.perm_io.specs.Counts.{CountsFault}
use Rattle.perm_io.specs.Found.{Found}
use Rattle.perm_io.specs.Told.{FilesTold}
use Rattle.delete_impact.specs.vanishing.Doomed.{doomed_on}
use Rattle.name_meaning.specs.Meanings.{broken}
use Rattle.name_meaning.specs.declared.answer.Resolved.{Resolved}
use Rattle.name_meaning.specs.declared.answer.Resolved.TheVariants as r
use Rattle.statement_meaning.specs.Answers.{Files, Names, IsTurn, IsText, IsBacked, RestsOn, TakesTurn, can_be, failed, has_failed, over}
use Rattle.statement_meaning.specs.Asking.{Asked, Settled, Begins, Explained, asks}
use Rattle.statement_meaning.specs.Carrying.{IsCarriedOut}
use Rattle.statement_meaning.specs.Turns.{Turn, Accepted, Refused, Broken, Meets, Missing, TooLarge, Unfit, Failed, on_good, drawing, counting, identity_of, add_rows, answered, row_value, rows_before, rows_deleted, rows_lost, store_answer, with_added, with_answer}
use Rattle.statement_meaning.specs.declared.refusal.StepRefusal.{StepRefusal}
use Rattle.statement_meaning.specs.declared.refusal.StepRefusal.TheVariants as refusal
use Rattle.statement_steps.specs.Settling.{IsSettled}
use Rattle.name_meaning.specs.declared.rule.Rule.TheVariants.{NumbersSpent}

abbrev pub of_file : Turn → Bool
of_file (Accepted text c) = false
of_file (Refused (Broken b)) = false
of_file (Refused (Meets faults at)) = false
of_file (Refused (Missing at)) = true
of_file (Refused (TooLarge at)) = true
of_file (Refused (Unfit rule)) = true
of_file (Refused Failed) = true

drawn : (c : Contents) (at : ℕ) (text : List ℕ) (new : Contents) → of_file (drawing c at (Accepted text new)) ≡ false
drawn c at text new = chosen (nat_eq c.next last_number) where
  chosen : (spent : Bool) → of_file (cond spent (Refused (Broken (broken NumbersSpent at))) (Accepted text new)) ≡ false
  chosen true = refl
  chosen false = refl

waited : {X : Type 0} (at : ℕ) (o : Outcome X) (next : X → Turn) → ((x : X) → of_file (next x) ≡ false) → of_file (on_good at o next) ≡ false
waited at (Good x) next h = h x
waited at (Bad faults) next h = refl

abbrev pub Unfiled : Asked → Type 0
Unfiled (Settled turn) = of_file turn ≡ false
Unfiled (Begins name after) = Unit {0}
Unfiled (Explained c answer) = Unit {0}

pub asks-unfiled : (c : Contents) (at : ℕ) (statement : Resolved) → Unfiled (asks c at statement)
asks-unfiled c at (r.CreateTable name columns) = drawn c at (codes "CREATE TABLE\n") (with_table c name columns [] None)
asks-unfiled c at (r.CreateTableAs name columns answer places) =
    waited at (meaning answer.query (rows_in c.rows) []) (λ rows. store_answer c at name columns answer places (sorted (printed_cmp answer.keys) rows))
    (λ rows.
    let ordered : Bag = sorted (printed_cmp answer.keys) rows in
    drawn c at (counting (codes "CREATE TABLE AS ") (length ordered)) (with_answer c name columns answer places ordered))
asks-unfiled c at (r.CreateView name entry) = refl
asks-unfiled c at (r.Copy name kinds file null_field header) = tt
asks-unfiled c at (r.Insert name rows) = waited at (each row_value rows) (add_rows (codes "INSERT ") c at name)
    (λ made. drawn c at (counting (codes "INSERT ") (length made)) (with_added c name made))
asks-unfiled c at (r.Delete name condition) =
    waited at (each (doomed_on condition) (rows_at c (identity_of c name))) (λ doomed. drawing c at (rows_deleted c name doomed))
    (λ doomed. drawn c at (counting (codes "DELETE ") (count_by (λ flag. flag) doomed)) (with_fewer_rows c name (identity_of c name) doomed))
asks-unfiled c at (r.DropTable name) = refl
asks-unfiled c at (r.DropView name) = refl
asks-unfiled c at (r.Select answer) = waited at (meaning answer.query (rows_in c.rows) []) (answered c answer) (λ rows. refl)
asks-unfiled c at (r.Explain answer) = tt
asks-unfiled c at (r.ShowFresh name) = refl
asks-unfiled c at (r.Impact name condition answer) =
    let id : ℕ = identity_of c name in
    waited at (rows_before id condition answer.query (rows_in c.rows))
    (λ rows. answered c answer (rows_lost id condition answer.query (rows_in c.rows) rows)) (λ rows. refl)

no_file : {turn other : Turn} → turn ≡ other → of_file turn ≡ false → of_file other ≡ true → ⊥
no_file {turn} {other} same none some = true≢false (sym some ∙ ap of_file (sym same) ∙ none)

rests : (turn : Turn) (refused : StepRefusal) → of_file turn ≡ false → Names turn refused → (seen : Files) → RestsOn refused seen
rests turn (refusal.Break b) none names seen = tt
rests turn (refusal.Run fault at) none names seen = tt
rests turn (refusal.Missing at) none names seen = absurd (no_file names none refl)
rests turn (refusal.TooLarge at) none names seen = absurd (no_file names none refl)
rests turn (refusal.Unfit rule.NoMemory) none names seen = absurd (no_file names none refl)
rests turn (refusal.Unfit (rule.Width row)) none names seen = tt
rests turn (refusal.Unfit (rule.NotInteger row field)) none names seen = tt
rests turn (refusal.Unfit (rule.NotText row field)) none names seen = tt
rests turn refusal.ReadFault none names seen = tt
rests turn refusal.NoMemory none names seen = tt

stands_still : (turn : Turn) (refused : StepRefusal) → of_file turn ≡ false → Names turn refused → failed refused ≡ false
stands_still turn (refusal.Break b) none names = refl
stands_still turn (refusal.Run fault at) none names = refl
stands_still turn (refusal.Missing at) none names = refl
stands_still turn (refusal.TooLarge at) none names = refl
stands_still turn (refusal.Unfit rule) none names = refl
stands_still turn refusal.ReadFault none names = absurd (no_file names none refl)
stands_still turn refusal.NoMemory none names = refl

settled-backed : (asked : Asked) (old new : Contents) (result : Result (List ℕ) StepRefusal) → Unfiled asked → IsSettled asked old new result
    → (seen : Files) → IsBacked result seen
settled-backed (Settled turn) old new (Ok text) none takes seen = tt
settled-backed (Settled turn) old new (Err refused) none takes seen = rests turn refused none takes.0 seen
settled-backed (Begins name after) old new result none takes seen = absurd takes
settled-backed (Explained c answer) old new (Ok text) none takes seen = tt
settled-backed (Explained c answer) old new (Err refused) none takes seen = subst (λ (r : StepRefusal). RestsOn r seen) (sym takes.0) tt

settled-unfailed : (asked : Asked) (old new : Contents) (result : Result (List ℕ) StepRefusal) → Unfiled asked → IsSettled asked old new result → has_failed result ≡ false
settled-unfailed (Settled turn) old new (Ok text) none takes = refl
settled-unfailed (Settled turn) old new (Err refused) none takes = stands_still turn refused none takes.0
settled-unfailed (Begins name after) old new result none takes = absurd takes
settled-unfailed (Explained c answer) old new (Ok text) none takes = refl
settled-unfailed (Explained c answer) old new (Err refused) none takes = ap failed takes.0

settled-takes : (Can : List ℕ → Found → Type 0) (asked : Asked) (old new : Contents) (result : Result (List ℕ) StepRefusal) → IsSettled asked old new result
    → TakesTurn Can asked old new result
settled-takes Can (Settled turn) old new result takes = takes
settled-takes Can (Begins name after) old new result takes = absurd takes
settled-takes Can (Explained c answer) old new result takes = takes

pub settled-carried : (asked : Asked) (old new : Contents) (result : Result (List ℕ) StepRefusal) → Unfiled asked → IsSettled asked old new result
    → (told : FilesTold) → IsCarriedOut asked old new result (over told told)
settled-carried asked old new result none takes told = record {
  turn = settled-takes (can_be (over told told)) asked old new result takes;
  backed = settled-backed asked old new result none takes (over told told);
  faults = subst (CountsFault told.faults told.faults) (sym (settled-unfailed asked old new result none takes)) refl;
  held = refl;
}

-- what leaves the catalog as it is takes the turn there
pub text-turn : (turn : Turn) (c : Contents) (result : Result (List ℕ) StepRefusal) → IsText turn c result → IsTurn turn c c result
text-turn turn c (Ok text) is = is
text-turn turn c (Err refused) is = (is, refl)
