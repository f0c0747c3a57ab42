-- A statement is refused by the first rule that it breaks. It draws one number at most, and wants the last one only where
-- that is the next.
use Rattle.std.proofs.Common.{◌≡◌, ◌≢◌, ◌∙◌, ℕ, ◌+◌, ◌≤◌, ◌<◌, Bool, true, false, cond, nat_eq, List, [], ◌∷◌, length, None, Ok, Err, codes, refl, sym, ap, subst, arith}
use Rattle.std.proofs.lemmas.Bool.{eqb-true}
use Rattle.std.specs.List.{count_by}
use Rattle.perm_values.specs.Numbers.{last_number}
use Rattle.perm_values.specs.declared.kind.Kind.{Kind}
use Rattle.perm_values.specs.Rows.{printed_cmp}
use Rattle.bag_algebra.specs.Bags.{Bag, sorted}
use Rattle.bag_algebra.specs.Meaning.{meaning}
use Rattle.bag_algebra.specs.Outcome.{Outcome, Good, Bad, each}
use Rattle.bag_algebra.specs.TableRows.{rows_in}
use Rattle.bag_algebra.specs.declared.query.Answer.{Answer}
use Rattle.csv_tables.specs.Loading.{broken_rules, spelled_rows}
use Rattle.csv_tables.specs.declared.data_error.DataError.{DataError}
use Rattle.perm_catalog.specs.Changes.{rows_at, with_table, with_fewer_rows}
use Rattle.perm_catalog.specs.Contents.{Contents}
use Rattle.perm_catalog.specs.declared.column.Column.{Column}
use Rattle.perm_io.specs.Found.{Found}
use Rattle.perm_io.specs.Found as found
use Rattle.sql_tree.specs.declared.statement.Statement.{Statement}
use Rattle.sql_tree.specs.declared.statement.StatementBody.{StatementBody}
use Rattle.sql_tree.specs.declared.statement.StatementBody.TheVariants as st
use Rattle.contribution.proofs.WhereGood.{Every}
use Rattle.delete_impact.specs.vanishing.Doomed.{doomed_on}
use Rattle.name_seen_parts.specs.Seen.{first_or}
use Rattle.name_meaning.specs.Meanings.{QueryMeant, broken}
use Rattle.name_meaning.specs.Statements.{answer_of, breaks, columns_of, defined_columns, delete_made, impact_query, kinds_of_table, query_meant, resolved, resolved_body, rows_made, stored_columns}
use Rattle.name_meaning.specs.declared.answer.Break.{Break}
use Rattle.statement_meaning.specs.Answers.{TakesTurn}
use Rattle.statement_meaning.specs.Asking.{Asked, Settled, Begins, Explained, asked, asks, unless_broken}
use Rattle.statement_meaning.specs.Turns.{Turn, Accepted, Refused, Broken, Meets, Missing, TooLarge, Unfit, Failed, on_good, drawing, counting, identity_of, add_rows, add_unbroken, answered, copy, row_value, rows_before, rows_deleted, rows_lost, store_answer, with_added, with_answer}
use Rattle.statement_meaning.specs.declared.refusal.StepRefusal.{StepRefusal}
use Rattle.statement_meaning.specs.declared.refusal.StepRefusal.TheVariants as refusal
use Rattle.perm_engine.specs.meaning.Run.{StopsBy, StopsAsked, StopsAt}
use Rattle.perm_engine.specs.meaning.Stops.{IsFirst, IsRefused}
use Rattle.statement_meaning.proofs.Unspent.{IsUnspent, breaks-unspent}
use Rattle.name_meaning.specs.declared.rule.Rule.TheVariants as rule

pub refused-turn : (Can : List ℕ → Found → Type 0) (a : Asked) (old new : Contents) (refused : StepRefusal) → refused ≢ refusal.NoMemory →
    TakesTurn Can a old new (Err refused) → IsRefused Can a refused
refused-turn Can (Settled turn) old new refused told h = h.0
refused-turn Can (Begins name after) old new refused told (found, can, h) = (found, can, h.0)
refused-turn Can (Explained after answer) old new refused told h = told h.0

-- one number is drawn at most, and only the want of the last one breaks a rule
abbrev IsFrugal : Contents → Turn → Type 0
IsFrugal c (Accepted text after) = after.next ≤ c.next + 1
IsFrugal c (Refused (Broken b)) = c.next ≡ last_number
IsFrugal c (Refused (Meets faults at)) = Unit {0}
IsFrugal c (Refused (Missing at)) = Unit {0}
IsFrugal c (Refused (TooLarge at)) = Unit {0}
IsFrugal c (Refused (Unfit rule)) = Unit {0}
IsFrugal c (Refused Failed) = Unit {0}

abbrev IsThrifty : Contents → Asked → Type 0
IsThrifty c (Settled turn) = IsFrugal c turn
IsThrifty c (Begins name after) = (file : Found) → IsFrugal c (after file)
IsThrifty c (Explained after answer) = after.next ≤ c.next + 1

module _ (c : Contents) where
  frugal-drawing : (at : ℕ) (text : List ℕ) (new : Contents) → new.next ≡ c.next + 1 → IsFrugal c (drawing c at (Accepted text new))
  frugal-drawing at text new h = chosen (nat_eq c.next last_number) refl where
    chosen : (spent : Bool) → nat_eq c.next last_number ≡ spent → IsFrugal c (cond spent (Refused (Broken (broken rule.NumbersSpent at))) (Accepted text new))
    chosen true e = eqb-true c.next last_number e
    chosen false e = omega (arith, h)

  frugal-on_good : {X : Type 0} (at : ℕ) (o : Outcome X) (next : X → Turn) → ((x : X) → IsFrugal c (next x)) → IsFrugal c (on_good at o next)
  frugal-on_good at (Good x) next h = h x
  frugal-on_good at (Bad faults) next h = tt

  frugal-unbroken : (at : ℕ) (name : List ℕ) (rules : List DataError) (rows : Bag) → IsFrugal c (add_unbroken c at name rules rows)
  frugal-unbroken at name [] rows = frugal-drawing at (counting (codes "COPY ") (length rows)) (with_added c name rows) refl
  frugal-unbroken at name (first ∷ more) rows = tt

  frugal-copy : (at : ℕ) (name : List ℕ) (kinds : List Kind) (null_field : List ℕ) (header : Bool) (file : Found) → IsFrugal c (copy c at name kinds null_field header file)
  frugal-copy at name kinds null_field header (found.Read bytes) = frugal-unbroken at name (broken_rules null_field kinds header bytes) (spelled_rows null_field kinds header bytes)
  frugal-copy at name kinds null_field header found.Missing = tt
  frugal-copy at name kinds null_field header found.TooLong = tt
  frugal-copy at name kinds null_field header found.Failed = tt

  thrifty-asks : (at : ℕ) (body : StatementBody) → IsThrifty c (asks c at (resolved_body c body))
  thrifty-asks at (st.CreateTable table columns) = frugal-drawing at (codes "CREATE TABLE\n") (with_table c table.text (defined_columns columns) [] None) refl
  thrifty-asks at (st.CreateTableAs table query) =
      let m : QueryMeant = query_meant c query in
      let answer : Answer = answer_of m in
      let columns : List Column = stored_columns (columns_of m) in
      frugal-on_good at (meaning answer.query (rows_in c.rows) [])
      (λ rows. store_answer c at table.text columns answer m.places (sorted (printed_cmp answer.keys) rows))
      (λ rows.
      let ordered : Bag = sorted (printed_cmp answer.keys) rows in
      frugal-drawing at (counting (codes "CREATE TABLE AS ") (length ordered)) (with_answer c table.text columns answer m.places ordered) refl)
  thrifty-asks at (st.CreateView view query) = omega arith
  thrifty-asks at (st.Copy table file header null_field) = frugal-copy at table.text (kinds_of_table c table) null_field header
  thrifty-asks at (st.Insert table rows) =
      frugal-on_good at (each row_value (rows_made c (kinds_of_table c table) rows)) (add_rows (codes "INSERT ") c at table.text)
      (λ made. frugal-drawing at (counting (codes "INSERT ") (length made)) (with_added c table.text made) refl)
  thrifty-asks at (st.Delete table condition) =
      frugal-on_good at (each (doomed_on (delete_made c table condition)) (rows_at c (identity_of c table.text))) (λ doomed. drawing c at (rows_deleted c table.text doomed))
      (λ doomed. frugal-drawing at (counting (codes "DELETE ") (count_by (λ flag. flag) doomed)) (with_fewer_rows c table.text (identity_of c table.text) doomed) refl)
  thrifty-asks at (st.DropTable table) = omega arith
  thrifty-asks at (st.DropView view) = omega arith
  thrifty-asks at (st.Select query) =
      frugal-on_good at (meaning (answer_of (query_meant c query)).query (rows_in c.rows) []) (answered c (answer_of (query_meant c query))) (λ rows. omega arith)
  thrifty-asks at (st.Explain query) = omega arith
  thrifty-asks at (st.ShowFresh table) = omega arith
  thrifty-asks at (st.Impact table condition query) =
      let id : ℕ = identity_of c table.text in
      let answer : Answer = answer_of (impact_query c query) in
      frugal-on_good at (rows_before id (delete_made c table condition) answer.query (rows_in c.rows))
      (λ rows. answered c answer (rows_lost id (delete_made c table condition) answer.query (rows_in c.rows) rows)) (λ rows. omega arith)

  -- ---- which break refuses it

  same_break : (b d : Break) → Refused (Broken b) ≡ Refused (Broken d) → b ≡ d
  same_break b d e = cc

  unbroken-turn : (turn : Turn) (b : Break) → IsFrugal c turn → c.next < last_number → turn ≡ Refused (Broken b) → ⊥
  unbroken-turn turn b frugal few e = let spent = subst (IsFrugal c) e frugal in omega (arith, few, spent)

  unbroken : (Can : List ℕ → Found → Type 0) (a : Asked) (b : Break) → IsThrifty c a → c.next < last_number → IsRefused Can a (refusal.Break b) → ⊥
  unbroken Can (Settled turn) b thrifty few h = unbroken-turn turn b thrifty few h
  unbroken Can (Begins name after) b thrifty few (file, can, h) = unbroken-turn (after file) b (thrifty file) few h
  unbroken Can (Explained after answer) b thrifty few h = h

  first-of : (Can : List ℕ → Found → Type 0) (a : Asked) (all : List Break) (b : Break) → Every IsUnspent all → IsThrifty c a → c.next < last_number →
      IsRefused Can (unless_broken all a) (refusal.Break b) → (first_or all (tt {0}) ≡ Err b) × (b.rule ≢ rule.NumbersSpent)
  first-of Can a [] b unspent thrifty few h = absurd (unbroken Can a b thrifty few h)
  first-of Can a (first ∷ more) b unspent thrifty few h =
      let e = same_break first b h in (ap (λ (d : Break). Err d) e, subst IsUnspent e unspent.0)

  -- ---- what is drawn

  stood-turn : (turn : Turn) (text : List ℕ) (next : Contents) → IsFrugal c turn → turn ≡ Accepted text next → next.next ≤ c.next + 1
  stood-turn turn text next frugal e = subst (IsFrugal c) e frugal

  not_refused : (b : Break) (text : List ℕ) (next : Contents) → Refused (Broken b) ≡ Accepted text next → ⊥
  not_refused b text next e = cc

  stood : (Can : List ℕ → Found → Type 0) (a : Asked) (all : List Break) (text : List ℕ) (next : Contents) → IsThrifty c a →
      TakesTurn Can (unless_broken all a) c next (Ok text) → next.next ≤ c.next + 1
  stood Can (Settled turn) [] text next thrifty h = stood-turn turn text next thrifty h
  stood Can (Begins name after) [] text next thrifty (file, can, h) = stood-turn (after file) text next (thrifty file) h
  stood Can (Explained after answer) [] text next thrifty h = subst (λ (d : Contents). d.next ≤ c.next + 1) (sym h.1) thrifty
  stood Can a (first ∷ more) text next thrifty h = absurd (not_refused first text next h)

  stops-turn : (turn : Turn) (statements : List Statement) (b : Break) → IsFrugal c turn → StopsBy turn (λ after. StopsAt after statements b) b →
      ((after : Contents) → StopsAt after statements b → last_number ≤ after.next + length statements) → last_number ≤ c.next + (length statements + 1)
  stops-turn (Accepted text after) statements b frugal stops later = let l = later after stops in omega (arith, frugal, l)
  stops-turn (Refused cause) statements b frugal stops later = let spent = subst (IsFrugal c) stops frugal in omega (arith, spent)

  stops-asked : (a : Asked) (all : List Break) (statements : List Statement) (b : Break) → Every IsUnspent all → IsThrifty c a → b.rule ≡ rule.NumbersSpent →
      StopsAsked (unless_broken all a) (λ after. StopsAt after statements b) b →
      ((after : Contents) → StopsAt after statements b → last_number ≤ after.next + length statements) → last_number ≤ c.next + (length statements + 1)
  stops-asked (Settled turn) [] statements b unspent thrifty spent stops later = stops-turn turn statements b thrifty stops later
  stops-asked (Begins name after) [] statements b unspent thrifty spent (file, stops) later = stops-turn (after file) statements b (thrifty file) stops later
  stops-asked (Explained after answer) [] statements b unspent thrifty spent stops later = let l = later after stops in omega (arith, thrifty, l)
  stops-asked a (first ∷ more) statements b unspent thrifty spent stops later = absurd (unspent.0 (ap (λ (d : Break). d.rule) (same_break first b stops) ∙ spent))

-- over what a catalog holds whose next number isn't the last, a break is the first of the statement, and no want of a number
pub stops-first : (Can : List ℕ → Found → Type 0) (c : Contents) (statement : Statement) (refused : StepRefusal) → c.next < last_number → refused ≢ refusal.NoMemory →
    IsRefused Can (asked c statement) refused → IsFirst c statement refused
stops-first Can c statement (refusal.Break b) few told h =
    first-of c Can (asks c statement.at (resolved c statement)) (breaks c statement) b (breaks-unspent c statement) (thrifty-asks c statement.at statement.body) few h
stops-first Can c statement (refusal.Run fault at) few told h = tt
stops-first Can c statement (refusal.Missing at) few told h = tt
stops-first Can c statement (refusal.TooLarge at) few told h = tt
stops-first Can c statement (refusal.Unfit rule) few told h = tt
stops-first Can c statement refusal.ReadFault few told h = tt
stops-first Can c statement refusal.NoMemory few told h = told refl

-- a statement that stood has drawn one number at most
pub next-after : (Can : List ℕ → Found → Type 0) (c next : Contents) (statement : Statement) (text : List ℕ) → TakesTurn Can (asked c statement) c next (Ok text) →
    next.next ≤ c.next + 1
next-after Can c next statement text h =
    stood c Can (asks c statement.at (resolved c statement)) (breaks c statement) text next (thrifty-asks c statement.at statement.body) h

-- what is left of a run wants the last number only where it has that many statements
pub stops-late : (c : Contents) (statements : List Statement) (b : Break) → b.rule ≡ rule.NumbersSpent → StopsAt c statements b → last_number ≤ c.next + length statements
stops-late c [] b e stops = absurd stops
stops-late c (statement ∷ statements) b e stops =
    let l = stops-asked c (asks c statement.at (resolved c statement)) (breaks c statement) statements b (breaks-unspent c statement) (thrifty-asks c statement.at statement.body) e stops
    (λ after more. stops-late after statements b e more) in
    omega (arith, l)
