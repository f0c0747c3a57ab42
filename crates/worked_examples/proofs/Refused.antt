-- Statements that are refused, worked out: each cause, and which comes first.
use Rattle.std.proofs.Common.{◌≡◌, ℕ, true, false, List, [], ◌∷◌, Some, None, codes, refl}
use Rattle.std.specs.Fmt.{digits}
use Rattle.csv.specs.Machine.{next_record}
use Rattle.csv.specs.Reading.{records_from, strip_bom}
use Rattle.null_logic.specs.declared.arith.Arith.TheVariants.{Add, Divide}
use Rattle.null_logic.specs.declared.compare.Compare.TheVariants.{Greater}
use Rattle.perm_values.specs.declared.kind.Kind.{Kind}
use Rattle.perm_values.specs.declared.kind.Kind.TheVariants as kind
use Rattle.perm_values.specs.Numbers.{last_number}
use Rattle.bag_algebra.specs.Outcome.{Faults}
use Rattle.bag_algebra.specs.built.Patterns.{ProjectOf}
use Rattle.bag_algebra.specs.declared.expr.Expr.{Expr}
use Rattle.bag_algebra.specs.declared.expr.Expr.TheVariants.{Sub}
use Rattle.bag_algebra.specs.declared.query.Query.{more_of-Sublink, end_of-Sublink}
use Rattle.bag_algebra.specs.declared.query.Query.TheVariants.{Single}
use Rattle.bag_algebra.specs.declared.query.SubKind.TheVariants.{Scalar}
use Rattle.csv_tables.specs.declared.data_error.DataError.TheVariants as unfit
use Rattle.perm_catalog.specs.Changes.{nothing_held}
use Rattle.perm_io.specs.Found as found
use Rattle.sql_tree.specs.declared.statement.Statement.{Statement}
use Rattle.sql_tree.specs.declared.statement.StatementBody.{StatementBody}
use Rattle.sql_tree.specs.declared.statement.StatementBody.TheVariants as st
use Rattle.name_meaning.specs.Meanings.{broken}
use Rattle.name_meaning.specs.declared.answer.Resolved.TheVariants as r
use Rattle.statement_meaning.specs.Asking.{Asked, Settled, asked, asks}
use Rattle.statement_meaning.specs.Turns.{Cause, Accepted, Refused, Broken, Meets, Missing, TooLarge, Unfit, Failed, copy}
use Rattle.worked_examples.specs.NamedCatalog.{stored}
use Rattle.worked_examples.specs.NamedTrees.{name, statement, defined, values, query, core}
use Rattle.worked_examples.specs.NamedTrees as tree
use Rattle.worked_examples.specs.Queries.{num as whole, number, text, compared, reckoned, s as source_s, built as item, select, by_zero as divided}
use Rattle.worked_examples.specs.HeldRows.{answering, column, drawing_next, holding, rows-r, rows-s, selected, with_v}
use Rattle.name_meaning.specs.declared.rule.Rule.TheVariants as rule

abbrev refused : Cause → Asked
refused cause = Settled (Refused cause)

abbrev faults : Faults
faults = record { divides = false; range = false; several = false }

-- a statement that begins at an offset
abbrev standing : ℕ → StatementBody → Statement
standing at body = record { at = at; body = body }

-- 9223372036854775807 + 1
abbrev too_much : Expr
too_much = reckoned Add (number 9223372036854775807) (number 1)

-- ---- names and kinds

-- INSERT INTO nosuch VALUES (1)
pub unknown : asked (holding [] []) (statement (st.Insert (name 12 (codes "nosuch")) (values 26 (tree.number 27 1 ∷ []) ∷ []))) ≡ refused (Broken (broken rule.UnknownRelation 12))
unknown = refl

-- CREATE TABLE r (a INTEGER)
pub taken : asked (holding [] []) (statement (st.CreateTable (name 13 (codes "r")) (defined (name 16 (codes "a")) kind.Integer ∷ []))) ≡ refused (Broken (broken rule.TakenName 13))
taken = refl

-- a view names it: DROP TABLE r
pub used : asked (with_v (holding [] [])) (statement (st.DropTable (name 11 (codes "r")))) ≡ refused (Broken (broken rule.UsedByView 11))
used = refl

-- the first of two breaks: INSERT INTO r VALUES (1), (1, 2, 3)
pub width : asked (holding [] []) (statement (st.Insert (name 12 (codes "r")) (values 21 (tree.number 22 1 ∷ []) ∷ values 26 (tree.number 27 1 ∷ tree.number 30 2 ∷ tree.number 33 3 ∷ []) ∷ [])))
    ≡ refused (Broken (broken rule.UnfitWidth 21))
width = refl

-- the name comes first: CREATE TABLE r AS SELECT 1
pub taken_as : asked (holding [] []) (standing 7 (st.CreateTableAs (name 20 (codes "r")) (query 25 (core (tree.select 25 (tree.item (tree.number 32 1) ∷ []) []))))) ≡ refused (Broken (broken rule.TakenName 20))
taken_as = refl

-- SHOW FRESH nosuch
pub unknown_fresh : asked (holding [] []) (standing 7 (st.ShowFresh (name 18 (codes "nosuch")))) ≡ refused (Broken (broken rule.UnknownRelation 18))
unknown_fresh = refl

-- IMPACT DELETE FROM nosuch OF SELECT 1
pub unknown_impact : asked (holding [] []) (standing 7 (st.Impact (name 26 (codes "nosuch")) None (query 36 (core (tree.select 36 (tree.item (tree.number 43 1) ∷ []) []))))) ≡ refused (Broken (broken rule.UnknownRelation 26))
unknown_impact = refl

-- ---- faults, at the statement's offset

-- the values of all rows are evaluated: INSERT INTO r VALUES (1 / 0, 'x'), (9223372036854775807 + 1, 'y')
pub faults_of_values :
    asks (holding [] []) 5 (r.Insert (codes "r") ((divided ∷ text (codes "x") ∷ []) ∷ (too_much ∷ text (codes "y") ∷ []) ∷ []))
    ≡ refused (Meets (record faults { divides = true; range = true }) 5)
faults_of_values = refl

-- the condition is looked at on every row: DELETE FROM s WHERE 1 / c > 0
pub fault_of_condition :
    asks (holding [] ((whole 1 ∷ []) ∷ (whole 0 ∷ []) ∷ [])) 5 (r.Delete (codes "s") (Some (compared Greater (reckoned Divide (number 1) (column 0)) (number 0))))
    ≡ refused (Meets (record faults { divides = true }) 5)
fault_of_condition = rw rows-s refl

-- over no row nothing is met: SELECT 1 / 0 FROM s
pub no_fault_over_none :
    asks (holding [] []) 5 (r.Select (answering (select (item kind.Integer divided ∷ []) source_s) (codes "column1" ∷ []) []))
    ≡ Settled (Accepted (codes "\"column1\"\n(0 rows)\n") (holding [] []))
unfolding digits
no_fault_over_none = selected [] [] 5 (answering (select (item kind.Integer divided ∷ []) source_s) (codes "column1" ∷ []) [])

-- SELECT 9223372036854775807 + 1
pub out_of_range :
    asks (nothing_held 1) 0 (r.Select (answering (select (item kind.Integer too_much ∷ []) Single) (codes "column1" ∷ []) []))
    ≡ refused (Meets (record faults { range = true }) 0)
out_of_range = refl

-- two equal rows are several: SELECT (SELECT c FROM s) AS v
pub several_rows :
    asks (holding [] ((whole 1 ∷ []) ∷ (whole 1 ∷ []) ∷ [])) 59
    (r.Select (answering (ProjectOf Single (item kind.Integer (Sub 0) ∷ []) (tt ∷ []) (more_of-Sublink Scalar None (select (item kind.Integer (column 0) ∷ []) source_s) end_of-Sublink)) (codes "v" ∷ []) []))
    ≡ refused (Meets (record faults { several = true }) 59)
several_rows = selected [] ((whole 1 ∷ []) ∷ (whole 1 ∷ []) ∷ []) 59
    (answering (ProjectOf Single (item kind.Integer (Sub 0) ∷ []) (tt ∷ []) (more_of-Sublink Scalar None (select (item kind.Integer (column 0) ∷ []) source_s) end_of-Sublink)) (codes "v" ∷ []) [])

-- ---- files

abbrev kinds : List Kind
kinds = kind.Integer ∷ kind.Integer ∷ []

pub no_file : copy (holding [] []) 7 (codes "r") kinds [] false found.Missing ≡ Refused (Missing 7)
no_file = refl

pub long_file : copy (holding [] []) 7 (codes "r") kinds [] false found.TooLong ≡ Refused (TooLarge 7)
long_file = refl

pub failed_file : copy (holding [] []) 7 (codes "r") kinds [] false found.Failed ≡ Refused Failed
failed_file = refl

-- the first record that breaks a rule, and of it the width: a record of three fields
pub third_record : copy (holding [] []) 7 (codes "r") kinds [] false (found.Read (codes "1,1\n2,2\nz,z,3\n")) ≡ Refused (Unfit (unfit.Width 3))
unfolding records_from strip_bom next_record
third_record = refl

-- ---- the last number is never drawn, which comes behind all other causes

-- CREATE TABLE t (a INTEGER)
pub spent : asked (nothing_held last_number) (standing 3 (st.CreateTable (name 13 (codes "t")) (defined (name 16 (codes "a")) kind.Integer ∷ []))) ≡ refused (Broken (broken rule.NumbersSpent 3))
spent = refl

-- though no row goes: DELETE FROM r
pub spent_by_delete : asked (drawing_next last_number [] []) (standing 3 (st.Delete (name 12 (codes "r")) None)) ≡ refused (Broken (broken rule.NumbersSpent 3))
spent_by_delete = rw rows-r refl

-- INSERT INTO r VALUES (1 / 0, 'x')
pub fault_before_spent :
    asks (drawing_next last_number [] []) 3 (r.Insert (codes "r") ((divided ∷ text (codes "x") ∷ []) ∷ [])) ≡ refused (Meets (record faults { divides = true }) 3)
fault_before_spent = refl

-- a record that breaks a rule comes first
pub file_before_spent : copy (drawing_next last_number [] []) 7 (codes "r") kinds [] false (found.Read (codes "x,1\n")) ≡ Refused (Unfit (unfit.NotInteger 1 1))
unfolding records_from strip_bom next_record
file_before_spent = refl

pub copy_spent : copy (drawing_next last_number [] []) 7 (codes "r") kinds [] false (found.Read (codes "1,1\n")) ≡ Refused (Broken (broken rule.NumbersSpent 7))
unfolding records_from strip_bom next_record
copy_spent = refl

-- CREATE TABLE t AS SELECT 1
pub spent_by_query : asks (nothing_held last_number) 3 (r.CreateTableAs (codes "t") (stored (codes "column1") kind.Integer ∷ []) (answering (select (item kind.Integer (number 1) ∷ []) Single) (codes "column1" ∷ []) []) None)
    ≡ refused (Broken (broken rule.NumbersSpent 3))
spent_by_query = refl

-- CREATE TABLE t AS SELECT 1 / 0
pub fault_before_stored : asks (nothing_held last_number) 3 (r.CreateTableAs (codes "t") (stored (codes "column1") kind.Integer ∷ []) (answering (select (item kind.Integer divided ∷ []) Single) (codes "column1" ∷ []) []) None)
    ≡ refused (Meets (record faults { divides = true }) 3)
fault_before_stored = refl
