-- Every turn that is refused has a refusal that names why.
use Rattle.std.proofs.Common.{◌≡◌, ◌≢◌, ◌∙◌, ℕ, Bool, true, false, true≢false, cond, nat_eq, List, [], ◌∷◌, length, Option, Some, None, Result, Err, codes, refl, sym, ap}
use Rattle.std.specs.List.{count_by}
use Rattle.perm_values.specs.Numbers.{last_number}
use Rattle.perm_values.specs.declared.kind.Kind.{Kind}
use Rattle.perm_values.specs.Rows.{printed_cmp}
use Rattle.bag_algebra.specs.Bags.{Row, Bag, sorted}
use Rattle.bag_algebra.specs.Expressions.{value}
use Rattle.bag_algebra.specs.Meaning.{Database, meaning}
use Rattle.bag_algebra.specs.Means.{holds_of}
use Rattle.bag_algebra.specs.Outcome.{Outcome, Good, Bad, each, mapped}
use Rattle.bag_algebra.specs.TableRows.{rows_in}
use Rattle.bag_algebra.specs.declared.expr.Expr.{Expr}
use Rattle.bag_algebra.specs.declared.query.Query.{Query}
use Rattle.csv_tables.specs.Loading.{broken_rules, spelled_rows}
use Rattle.csv_tables.specs.declared.data_error.DataError.{DataError}
use Rattle.perm_catalog.specs.Changes.{rows_at, with_table, with_fewer_rows}
use Rattle.perm_catalog.specs.Contents.{Contents}
use Rattle.perm_io.specs.Found.{Found}
use Rattle.perm_io.specs.Found as found
use Rattle.sql_tree.specs.declared.statement.Statement.{Statement}
use Rattle.name_meaning.specs.Meanings.{broken}
use Rattle.name_meaning.specs.Statements.{breaks, resolved}
use Rattle.name_meaning.specs.declared.answer.Break.{Break}
use Rattle.name_meaning.specs.declared.answer.Resolved.{Resolved}
use Rattle.name_meaning.specs.declared.answer.Resolved.TheVariants as r
use Rattle.statement_meaning.specs.Answers.{Names}
use Rattle.statement_meaning.specs.Asking.{Asked, Settled, Begins, Explained, asked, asks, unless_broken}
use Rattle.statement_meaning.specs.Turns.{Turn, Accepted, Refused, Broken, on_good, drawing, counting, identity_of, add_rows, add_unbroken, answered, copy, reads, row_value, rows_before, rows_deleted, rows_going, rows_lost, store_answer, with_added, with_answer}
use Rattle.statement_meaning.specs.declared.refusal.StepRefusal.{StepRefusal}
use Rattle.statement_meaning.specs.declared.refusal.StepRefusal.TheVariants as refusal
use Rattle.query_laws.proofs.Caused.{Caused, caused-value, caused-denote, caused-each, caused-both}
use Rattle.delete_impact.specs.vanishing.Doomed.{doomed_on}
use Rattle.name_meaning.specs.declared.rule.Rule.TheVariants as rule

abbrev pub is_told : StepRefusal → Bool
is_told (refusal.Break b) = true
is_told (refusal.Run fault at) = true
is_told (refusal.Missing at) = true
is_told (refusal.TooLarge at) = true
is_told (refusal.Unfit rule) = true
is_told refusal.ReadFault = true
is_told refusal.NoMemory = false

pub told≢ : (refused : StepRefusal) → is_told refused ≡ true → refused ≢ refusal.NoMemory
told≢ refused h e = true≢false (sym h ∙ ap is_told e)

-- the answer of a call that refuses so
abbrev pub refuses_with : StepRefusal → Result (List ℕ) StepRefusal
refuses_with refused = Err refused

-- want of memory alone is answered as that
pub told-answer : (refused : StepRefusal) → refused ≢ refusal.NoMemory → refuses_with refused ≡ refuses_with refusal.NoMemory → ⊥
told-answer refused told e = told (same refused e) where
  same : (refused : StepRefusal) → refuses_with refused ≡ refuses_with refusal.NoMemory → refused ≡ refusal.NoMemory
  same refused e = cc

-- a refusal names the cause
abbrev pub HasName : Turn → Type 0
HasName (Accepted text c) = Unit {0}
HasName (Refused cause) = (refused : StepRefusal) × Names (Refused cause) refused × (refused ≢ refusal.NoMemory)

broken-named : (b : Break) → HasName (Refused (Broken b))
broken-named b = (refusal.Break b, refl, told≢ (refusal.Break b) refl)

on_good-named : {X : Type 0} (at : ℕ) (o : Outcome X) (next : X → Turn) → Caused o → ((x : X) → HasName (next x)) → HasName (on_good at o next)
on_good-named at (Good x) next c h = h x
on_good-named at (Bad faults) next c h = (refusal.Run c.0 at, (faults, refl, c.1), told≢ (refusal.Run c.0 at) refl)

drawing-named : (c : Contents) (at : ℕ) (text : List ℕ) (new : Contents) → HasName (drawing c at (Accepted text new))
drawing-named c at text new = chosen (nat_eq c.next last_number) where
  chosen : (spent : Bool) → HasName (cond spent (Refused (Broken (broken rule.NumbersSpent at))) (Accepted text new))
  chosen true = broken-named (broken rule.NumbersSpent at)
  chosen false = tt

goes-caused : (condition : Option Expr) (row : Row) → Caused (doomed_on condition row)
goes-caused None row = tt
goes-caused (Some condition) row = by_value (value condition row [] []) (caused-value row [] [] condition) where
  by_value : (o : Outcome _) → Caused o → Caused (mapped holds_of o)
  by_value (Good v) c = tt
  by_value (Bad faults) c = c

before-caused : (id : ℕ) (condition : Option Expr) (query : Query) (db : Database) → Caused (rows_before id condition query db)
before-caused id condition query db =
    caused-both (λ rows doomed. rows) (meaning query db []) (rows_going id condition query db) (caused-denote query db []) (where_read (reads id query)) where
      where_read : (b : Bool) → Caused (cond b (each (doomed_on condition) (db id)) (Good []))
      where_read true = caused-each (doomed_on condition) (db id) (goes-caused condition)
      where_read false = tt

unbroken-named : (c : Contents) (at : ℕ) (name : List ℕ) (rules : List DataError) (rows : Bag) → HasName (add_unbroken c at name rules rows)
unbroken-named c at name [] rows = drawing-named c at (counting (codes "COPY ") (length rows)) (with_added c name rows)
unbroken-named c at name (first ∷ more) rows = (refusal.Unfit first, refl, told≢ (refusal.Unfit first) refl)

copy-named : (c : Contents) (at : ℕ) (name : List ℕ) (kinds : List Kind) (null_field : List ℕ) (header : Bool) (file : Found) → HasName (copy c at name kinds null_field header file)
copy-named c at name kinds null_field header (found.Read bytes) = unbroken-named c at name (broken_rules null_field kinds header bytes) (spelled_rows null_field kinds header bytes)
copy-named c at name kinds null_field header found.Missing = (refusal.Missing at, refl, told≢ (refusal.Missing at) refl)
copy-named c at name kinds null_field header found.TooLong = (refusal.TooLarge at, refl, told≢ (refusal.TooLarge at) refl)
copy-named c at name kinds null_field header found.Failed = (refusal.ReadFault, refl, told≢ refusal.ReadFault refl)

-- whatever became of the file
abbrev pub AsksNamed : Asked → Type 0
AsksNamed (Settled turn) = HasName turn
AsksNamed (Begins name after) = (file : Found) → HasName (after file)
AsksNamed (Explained after answer) = Unit {0}

asks-named : (c : Contents) (at : ℕ) (statement : Resolved) → AsksNamed (asks c at statement)
asks-named c at (r.CreateTable name columns) = drawing-named c at (codes "CREATE TABLE\n") (with_table c name columns [] None)
asks-named c at (r.CreateTableAs name columns answer places) =
    on_good-named at (meaning answer.query (rows_in c.rows) []) (λ rows. store_answer c at name columns answer places (sorted (printed_cmp answer.keys) rows))
    (caused-denote answer.query (rows_in c.rows) [])
    (λ rows.
    let ordered : Bag = sorted (printed_cmp answer.keys) rows in
    drawing-named c at (counting (codes "CREATE TABLE AS ") (length ordered)) (with_answer c name columns answer places ordered))
asks-named c at (r.CreateView name entry) = tt
asks-named c at (r.Copy name kinds file null_field header) = copy-named c at name kinds null_field header
asks-named c at (r.Insert name rows) =
    on_good-named at (each row_value rows) (add_rows (codes "INSERT ") c at name)
    (caused-each row_value rows (λ exprs. caused-each (λ (expr : Expr). value expr [] [] []) exprs (λ expr. caused-value [] [] [] expr)))
    (λ made. drawing-named c at (counting (codes "INSERT ") (length made)) (with_added c name made))
asks-named c at (r.Delete name condition) =
    on_good-named at (each (doomed_on condition) (rows_at c (identity_of c name))) (λ doomed. drawing c at (rows_deleted c name doomed))
    (caused-each (doomed_on condition) (rows_at c (identity_of c name)) (goes-caused condition))
    (λ doomed. drawing-named c at (counting (codes "DELETE ") (count_by (λ flag. flag) doomed)) (with_fewer_rows c name (identity_of c name) doomed))
asks-named c at (r.DropTable name) = tt
asks-named c at (r.DropView name) = tt
asks-named c at (r.Select answer) =
    on_good-named at (meaning answer.query (rows_in c.rows) []) (answered c answer) (caused-denote answer.query (rows_in c.rows) []) (λ rows. tt)
asks-named c at (r.Explain answer) = tt
asks-named c at (r.ShowFresh name) = tt
asks-named c at (r.Impact name condition answer) =
    let id : ℕ = identity_of c name in
    on_good-named at (rows_before id condition answer.query (rows_in c.rows))
    (λ rows. answered c answer (rows_lost id condition answer.query (rows_in c.rows) rows)) (before-caused id condition answer.query (rows_in c.rows)) (λ rows. tt)

unless-named : (breaks : List Break) (a : Asked) → AsksNamed a → AsksNamed (unless_broken breaks a)
unless-named [] a h = h
unless-named (first ∷ more) a h = broken-named first

pub asked-named : (c : Contents) (statement : Statement) → AsksNamed (asked c statement)
asked-named c statement =
    unless-named (breaks c statement) (asks c statement.at (resolved c statement)) (asks-named c statement.at (resolved c statement))
