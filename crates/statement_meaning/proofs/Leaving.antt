-- What holds of all that a statement may leave holds of what it leaves.
use Rattle.std.proofs.Common.{ℕ, Bool, true, false, cond, List, [], ◌∷◌, length, None, codes, nat_eq}
use Rattle.std.specs.List.{count_by}
use Rattle.perm_values.specs.Numbers.{last_number}
use Rattle.perm_values.specs.Rows.{printed_cmp}
use Rattle.perm_values.specs.declared.kind.Kind.{Kind}
use Rattle.bag_algebra.specs.Bags.{Bag, sorted}
use Rattle.bag_algebra.specs.Meaning.{meaning}
use Rattle.bag_algebra.specs.Outcome.{Outcome, Good, Bad, each}
use Rattle.bag_algebra.specs.TableRows.{rows_in}
use Rattle.csv_tables.specs.Loading.{broken_rules, spelled_rows}
use Rattle.csv_tables.specs.declared.data_error.DataError.{DataError}
use Rattle.perm_catalog.specs.Changes.{rows_at, with_fewer_rows, with_table, with_view, without_table, without_view}
use Rattle.perm_catalog.specs.Contents.{Contents}
use Rattle.perm_catalog.specs.Sound.{IsSound}
use Rattle.perm_io.specs.Found.{Found, Read, Missing, TooLong, Failed}
use Rattle.name_meaning.specs.Meanings.{broken}
use Rattle.name_meaning.specs.declared.answer.Resolved.{Resolved}
use Rattle.name_meaning.specs.declared.answer.Resolved.TheVariants as r
use Rattle.name_meaning.specs.declared.rule.Rule.TheVariants as rule
use Rattle.statement_meaning.specs.Asking.{Asked, Settled, Begins, Explained, asks}
use Rattle.statement_meaning.specs.Turns.{Turn, Accepted, Refused, Broken, add_rows, add_unbroken, answered, copy, counting, drawing, identity_of, on_good, row_value, rows_before, rows_deleted, rows_lost, store_answer, with_added, with_answer}
use Rattle.contribution.proofs.WhereGood.{WhereGood}
use Rattle.delete_impact.specs.vanishing.Doomed.{doomed_on}
use Rattle.statement_meaning.specs.laws.Leaving.{Leaves, TurnLeaves}
use Rattle.statement_meaning.specs.laws.Sounder.{KeepsSound, StandsSound}

module _ (P : Contents → Type 0) where
  pub leaves-drawing : (c : Contents) (at : ℕ) (text : List ℕ) (d : Contents) → P d → TurnLeaves P (drawing c at (Accepted text d))
  leaves-drawing c at text d h = chosen (nat_eq c.next last_number) where
    chosen : (spent : Bool) → TurnLeaves P (cond spent (Refused (Broken (broken rule.NumbersSpent at))) (Accepted text d))
    chosen true = tt
    chosen false = h

  leaves-on_good : {X : Type 0} (at : ℕ) (o : Outcome X) (next : X → Turn) → ((x : X) → TurnLeaves P (next x)) → TurnLeaves P (on_good at o next)
  leaves-on_good at (Good x) next h = h x
  leaves-on_good at (Bad faults) next h = tt

  leaves-unbroken : (c : Contents) (at : ℕ) (name : List ℕ) (rules : List DataError) (rows : Bag) → P (with_added c name rows)
      → TurnLeaves P (add_unbroken c at name rules rows)
  leaves-unbroken c at name [] rows h = leaves-drawing c at (counting (codes "COPY ") (length rows)) (with_added c name rows) h
  leaves-unbroken c at name (first ∷ more) rows h = tt

  leaves-copy : (c : Contents) (at : ℕ) (name : List ℕ) (kinds : List Kind) (null_field : List ℕ) (header : Bool) → ((rows : Bag) → P (with_added c name rows))
      → (found : Found) → TurnLeaves P (copy c at name kinds null_field header found)
  leaves-copy c at name kinds null_field header h (Read bytes) =
      leaves-unbroken c at name (broken_rules null_field kinds header bytes) (spelled_rows null_field kinds header bytes) (h (spelled_rows null_field kinds header bytes))
  leaves-copy c at name kinds null_field header h Missing = tt
  leaves-copy c at name kinds null_field header h TooLong = tt
  leaves-copy c at name kinds null_field header h Failed = tt

  -- it holds of all that the statement may leave
  abbrev pub Cases : Contents → Resolved → Type 0
  Cases c (r.CreateTable name columns) = P (with_table c name columns [] None)
  Cases c (r.CreateTableAs name columns answer places) = (rows : Bag) → P (with_answer c name columns answer places rows)
  Cases c (r.CreateView name entry) = P (with_view c name entry)
  Cases c (r.Copy name kinds file null_field header) = (rows : Bag) → P (with_added c name rows)
  Cases c (r.Insert name rows) = (made : Bag) → P (with_added c name made)
  Cases c (r.Delete name condition) = (doomed : List Bool) → P (with_fewer_rows c name (identity_of c name) doomed)
  Cases c (r.DropTable name) = P (without_table c name (identity_of c name))
  Cases c (r.DropView name) = P (without_view c name)
  Cases c (r.Select answer) = P c
  Cases c (r.Explain answer) = P c
  Cases c (r.ShowFresh name) = P c
  Cases c (r.Impact name condition answer) = P c

  pub leaves : (c : Contents) (at : ℕ) (statement : Resolved) → Cases c statement → Leaves P (asks c at statement)
  leaves c at (r.CreateTable name columns) h = leaves-drawing c at (codes "CREATE TABLE\n") (with_table c name columns [] None) h
  leaves c at (r.CreateTableAs name columns answer places) h =
      leaves-on_good at (meaning answer.query (rows_in c.rows) []) (λ rows. store_answer c at name columns answer places (sorted (printed_cmp answer.keys) rows))
      (λ rows.
      let ordered : Bag = sorted (printed_cmp answer.keys) rows in
      leaves-drawing c at (counting (codes "CREATE TABLE AS ") (length ordered)) (with_answer c name columns answer places ordered) (h ordered))
  leaves c at (r.CreateView name entry) h = h
  leaves c at (r.Copy name kinds file null_field header) h = leaves-copy c at name kinds null_field header h
  leaves c at (r.Insert name rows) h =
      leaves-on_good at (each row_value rows) (add_rows (codes "INSERT ") c at name)
      (λ made. leaves-drawing c at (counting (codes "INSERT ") (length made)) (with_added c name made) (h made))
  leaves c at (r.Delete name condition) h =
      leaves-on_good at (each (doomed_on condition) (rows_at c (identity_of c name))) (λ doomed. drawing c at (rows_deleted c name doomed))
      (λ doomed. leaves-drawing c at (counting (codes "DELETE ") (count_by (λ flag. flag) doomed)) (with_fewer_rows c name (identity_of c name) doomed) (h doomed))
  leaves c at (r.DropTable name) h = h
  leaves c at (r.DropView name) h = h
  leaves c at (r.Select answer) h = leaves-on_good at (meaning answer.query (rows_in c.rows) []) (answered c answer) (λ rows. h)
  leaves c at (r.Explain answer) h = h
  leaves c at (r.ShowFresh name) h = h
  leaves c at (r.Impact name condition answer) h =
      let id : ℕ = identity_of c name in
      leaves-on_good at (rows_before id condition answer.query (rows_in c.rows))
      (λ rows. answered c answer (rows_lost id condition answer.query (rows_in c.rows) rows)) (λ rows. h)

  -- where what the statement leaves is sound
  sound-turn : (turn : Turn) → StandsSound turn → TurnLeaves (λ d. IsSound d → P d) turn → TurnLeaves P turn
  sound-turn (Accepted text d) sound h = h sound
  sound-turn (Refused cause) sound h = tt

  pub sound-leaves : (a : Asked) → KeepsSound a → Leaves (λ d. IsSound d → P d) a → Leaves P a
  sound-leaves (Settled turn) sound h = sound-turn turn sound h
  sound-leaves (Begins name after) sound h = λ found. sound-turn (after found) (sound found) (h found)
  sound-leaves (Explained c answer) sound h = h sound

module _ (P Q : Contents → Type 0) (weaker : (d : Contents) → P d → Q d) where
  turn-weaker : (turn : Turn) → TurnLeaves P turn → TurnLeaves Q turn
  turn-weaker (Accepted text d) h = weaker d h
  turn-weaker (Refused cause) h = tt

  pub leaves-weaker : (a : Asked) → Leaves P a → Leaves Q a
  leaves-weaker (Settled turn) h = turn-weaker turn h
  leaves-weaker (Begins name after) h = λ found. turn-weaker (after found) (h found)
  leaves-weaker (Explained c answer) h = weaker c h

-- where it holds of what a good outcome leads to
pub leaves-good : {X : Type 0} (P : Contents → Type 0) (Q : X → Type 0) (at : ℕ) (o : Outcome X) (next : X → Turn) → WhereGood Q o
    → ((x : X) → Q x → TurnLeaves P (next x)) → TurnLeaves P (on_good at o next)
leaves-good P Q at (Good x) next h keeps = keeps x h
leaves-good P Q at (Bad faults) next h keeps = tt
