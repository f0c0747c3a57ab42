-- Statements that change the catalog, worked out.
use Rattle.std.proofs.Common.{◌≡◌, true, [], ◌∷◌, Some, None, codes, refl}
use Rattle.std.specs.Fmt.{digits}
use Rattle.std.specs.FinMap as map
use Rattle.csv.specs.Machine.{next_record}
use Rattle.csv.specs.Reading.{records_from, strip_bom}
use Rattle.null_logic.specs.declared.arith.Arith.TheVariants.{Add}
use Rattle.null_logic.specs.declared.compare.Compare.TheVariants.{Greater, Equal}
use Rattle.perm_values.specs.declared.kind.Kind.TheVariants as kind
use Rattle.perm_values.specs.declared.value.Value.TheVariants.{Null}
use Rattle.perm_catalog.specs.Changes.{nothing_held}
use Rattle.perm_io.specs.Found.{Read}
use Rattle.sql_tree.specs.declared.statement.StatementBody.TheVariants as st
use Rattle.name_meaning.specs.declared.answer.Resolved.TheVariants as r
use Rattle.statement_meaning.specs.Asking.{Settled, Begins, asked, asks}
use Rattle.statement_meaning.specs.Turns.{Accepted, copy}
use Rattle.worked_examples.specs.NamedCatalog.{table_r, table_s}
use Rattle.worked_examples.specs.NamedTrees.{name, defined, statement}
use Rattle.worked_examples.specs.Queries.{num as whole, number, text, nothing, compared, reckoned}
use Rattle.worked_examples.specs.HeldRows.{after, column, holding, rows-r, view_v, with_v, word}

-- the table's identity and version are the number drawn: CREATE TABLE r (a INTEGER, b TEXT)
pub created :
    asked (nothing_held 1) (statement (st.CreateTable (name 13 (codes "r")) (defined (name 16 (codes "a")) kind.Integer ∷ defined (name 27 (codes "b")) kind.Text ∷ [])))
    ≡ Settled (Accepted (codes "CREATE TABLE\n") (record { tables = (codes "r", table_r) ∷ []; views = []; rows = map.insert map.empty 1 []; next = 2 }))
created = refl

-- the rows come last, and the version is the number drawn: INSERT INTO r VALUES (1 + 1, 'y'), (NULL, NULL)
pub inserted :
    asks (holding ((whole 1 ∷ word (codes "x") ∷ []) ∷ []) []) 0
    (r.Insert (codes "r") ((reckoned Add (number 1) (number 1) ∷ text (codes "y") ∷ []) ∷ (nothing kind.Integer ∷ nothing kind.Text ∷ []) ∷ []))
    ≡ Settled (Accepted (codes "INSERT 2\n") (after ((whole 1 ∷ word (codes "x") ∷ []) ∷ []) []
    ((whole 1 ∷ word (codes "x") ∷ []) ∷ (whole 2 ∷ word (codes "y") ∷ []) ∷ (Null ∷ Null ∷ []) ∷ [])))
unfolding digits
inserted = rw rows-r refl

-- a row of which the condition is unknown stays: DELETE FROM r WHERE a > 1
pub deleted :
    asks (holding ((whole 1 ∷ Null ∷ []) ∷ (Null ∷ Null ∷ []) ∷ (whole 2 ∷ Null ∷ []) ∷ []) []) 0 (r.Delete (codes "r") (Some (compared Greater (column 0) (number 1))))
    ≡ Settled (Accepted (codes "DELETE 1\n") (after ((whole 1 ∷ Null ∷ []) ∷ (Null ∷ Null ∷ []) ∷ (whole 2 ∷ Null ∷ []) ∷ []) [] ((whole 1 ∷ Null ∷ []) ∷ (Null ∷ Null ∷ []) ∷ [])))
unfolding digits
deleted = rw rows-r refl

-- the version is new though no row went: DELETE FROM r WHERE a = 9
pub deleted_none :
    asks (holding ((whole 1 ∷ Null ∷ []) ∷ []) []) 0 (r.Delete (codes "r") (Some (compared Equal (column 0) (number 9))))
    ≡ Settled (Accepted (codes "DELETE 0\n") (after ((whole 1 ∷ Null ∷ []) ∷ []) [] ((whole 1 ∷ Null ∷ []) ∷ [])))
unfolding digits
deleted_none = rw rows-r refl

-- without a condition all rows go: DELETE FROM r
pub deleted_all :
    asked (holding ((whole 1 ∷ Null ∷ []) ∷ (Null ∷ Null ∷ []) ∷ []) []) (statement (st.Delete (name 12 (codes "r")) None))
    ≡ Settled (Accepted (codes "DELETE 2\n") (after ((whole 1 ∷ Null ∷ []) ∷ (Null ∷ Null ∷ []) ∷ []) [] []))
unfolding digits
deleted_all = rw rows-r refl

-- no number is drawn, and the other table stays: DROP TABLE r
pub dropped :
    asked (holding [] []) (statement (st.DropTable (name 11 (codes "r"))))
    ≡ Settled (Accepted (codes "DROP TABLE\n") (record { tables = (codes "s", table_s) ∷ []; views = []; rows = map.remove (holding [] []).rows 1; next = 3 }))
dropped = refl

-- a view draws no number: CREATE VIEW v AS SELECT a FROM r
pub viewed : asks (holding [] []) 0 (r.CreateView (codes "v") view_v) ≡ Settled (Accepted (codes "CREATE VIEW\n") (with_v (holding [] [])))
viewed = refl

-- DROP VIEW v
pub unviewed : asked (with_v (holding [] [])) (statement (st.DropView (name 10 (codes "v")))) ≡ Settled (Accepted (codes "DROP VIEW\n") (holding [] []))
unviewed = refl

-- the file is asked for, whatever it holds: COPY r FROM 'r.csv' HEADER NULL '-'
pub copy_asks :
    asked (holding [] []) (statement (st.Copy (name 5 (codes "r")) (codes "r.csv") true (codes "-")))
    ≡ Begins (codes "r.csv") (copy (holding [] []) 0 (codes "r") (kind.Integer ∷ kind.Text ∷ []) (codes "-") true)
copy_asks = refl

-- the header is skipped, and the mark stands for NULL
pub copied :
    copy (holding [] []) 0 (codes "r") (kind.Integer ∷ kind.Integer ∷ []) (codes "-") true (Read (codes "a,b\n1,-\n-,2\n"))
    ≡ Accepted (codes "COPY 2\n") (after [] [] ((whole 1 ∷ Null ∷ []) ∷ (Null ∷ whole 2 ∷ []) ∷ []))
unfolding digits records_from strip_bom next_record
copied = rw rows-r refl
