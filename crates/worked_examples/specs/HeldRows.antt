-- Words for worked statements: catalogs of the tables r(a INTEGER, b TEXT) and s(c INTEGER) with given rows, and answers of
-- queries over them, whose words are those of `Queries.antt`.
use Rattle.std.specs.Prelude.{◌≡◌, ℕ, cond, List, [], ◌∷◌, Option, Some, None, unwrap_or, codes}
use Rattle.std.proofs.Common.{ap, ◌∙◌}
use Rattle.std.specs.Cmp.{nat_cmp_total}
use Rattle.std.specs.FinMap as map
use Rattle.std.specs.FinMap.{FinMap}
use Rattle.std.specs.Ordering.{nat_cmp, eq_by_cmp}
use Rattle.perm_values.specs.declared.key.Key.{Key}
use Rattle.perm_values.specs.declared.value.Value.{Value}
use Rattle.perm_values.specs.declared.value.Value.TheVariants as v
use Rattle.perm_values.specs.Rows.{printed_cmp}
use Rattle.bag_algebra.specs.Bags.{Bag, sorted}
use Rattle.bag_algebra.specs.Meaning.{Database, meaning}
use Rattle.bag_algebra.specs.TableRows.{rows_in}
use Rattle.bag_algebra.specs.declared.expr.Expr.{Expr}
use Rattle.bag_algebra.specs.declared.expr.Expr.TheVariants.{Col}
use Rattle.bag_algebra.specs.declared.query.Answer.{Answer}
use Rattle.bag_algebra.specs.declared.query.Query.{Query}
use Rattle.perm_catalog.specs.Contents.{Contents}
use Rattle.perm_catalog.specs.declared.column.Column.{Column}
use Rattle.perm_catalog.specs.declared.entries.ViewEntry.{ViewEntry}
use Rattle.name_meaning.specs.declared.answer.Resolved.TheVariants as r
use Rattle.statement_meaning.specs.Asking.{Settled, asks}
use Rattle.statement_meaning.specs.Turns.{answered, identity_of, on_good, rows_before, rows_lost, store_answer}
use Rattle.worked_examples.specs.NamedCatalog.{table_r, table_s, a_of_r, view_of}

abbrev pub word : List ℕ → Value
word text = v.Text text

-- ---- catalogs

abbrev pub rows_of : Bag → Bag → FinMap nat_cmp Bag
rows_of rs ss = map.insert (map.insert map.empty 1 rs) 2 ss

-- the tables with these rows, and the next number to draw
abbrev pub drawing_next : ℕ → Bag → Bag → Contents
drawing_next next rs ss = record { tables = (codes "r", table_r) ∷ (codes "s", table_s) ∷ []; views = []; rows = rows_of rs ss; next = next }

abbrev pub holding : Bag → Bag → Contents
holding rs ss = drawing_next 3 rs ss

-- the same, r with other rows under the number that was drawn
abbrev pub after : Bag → Bag → Bag → Contents
after rs ss now = record {
  tables = (codes "r", record table_r { version = 3 }) ∷ (codes "s", table_s) ∷ [];
  views = [];
  rows = map.insert (rows_of rs ss) 1 now;
  next = 4;
}

-- the view v of a column of r
abbrev pub view_v : ViewEntry
view_v = view_of a_of_r (codes "a" ∷ []) None (codes "r" ∷ [])

abbrev pub with_v : Contents → Contents
with_v c = record c { views = (codes "v", view_v) ∷ [] }

pub rows-r : (rs ss : Bag) → map.get (rows_of rs ss) 1 ≡ Some rs
rows-r rs ss =
    let inner : FinMap nat_cmp Bag = map.insert map.empty 1 rs in
    let none : FinMap nat_cmp Bag = map.empty in
    map.get-insert nat_cmp_total inner 2 ss 1 ∙ map.get-insert nat_cmp_total none 1 rs 1

pub rows-s : (rs ss : Bag) → map.get (rows_of rs ss) 2 ≡ Some ss
rows-s rs ss =
    let inner : FinMap nat_cmp Bag = map.insert map.empty 1 rs in
    map.get-insert nat_cmp_total inner 2 ss 2

-- the rows of each identity, as a query reads them
abbrev pub read_of : Bag → Bag → Database
read_of rs ss id = unwrap_or (cond (eq_by_cmp nat_cmp id 2) (Some ss) (cond (eq_by_cmp nat_cmp id 1) (Some rs) None)) []

rows-of : (rs ss : Bag) (id : ℕ) → rows_in (rows_of rs ss) id ≡ read_of rs ss id
rows-of rs ss id =
    let inner : FinMap nat_cmp Bag = map.insert map.empty 1 rs in
    let none : FinMap nat_cmp Bag = map.empty in
    ap (λ (found : Option Bag). unwrap_or found []) (map.get-insert nat_cmp_total inner 2 ss id
    ∙ ap (cond (eq_by_cmp nat_cmp id 2) (Some ss)) (map.get-insert nat_cmp_total none 1 rs id ∙ ap (cond (eq_by_cmp nat_cmp id 1) (Some rs)) (map.get-empty nat_cmp id)))

-- what becomes of a query reads these rows
pub selected : (rs ss : Bag) (at : ℕ) (answer : Answer) → asks (holding rs ss) at (r.Select answer)
    ≡ Settled (on_good at (meaning answer.query (read_of rs ss) []) (answered (holding rs ss) answer))
selected rs ss at answer i = Settled (on_good at (meaning answer.query (λ (id : ℕ). rows-of rs ss id i) []) (answered (holding rs ss) answer))

-- so does what becomes of an IMPACT
pub impacted : (rs ss : Bag) (at : ℕ) (name : List ℕ) (condition : Option Expr) (answer : Answer) → asks (holding rs ss) at (r.Impact name condition answer)
    ≡ Settled (on_good at (rows_before (identity_of (holding rs ss) name) condition answer.query (read_of rs ss))
    (λ (rows : Bag). answered (holding rs ss) answer (rows_lost (identity_of (holding rs ss) name) condition answer.query (read_of rs ss) rows)))
impacted rs ss at name condition answer i =
    Settled (on_good at (rows_before (identity_of (holding rs ss) name) condition answer.query (λ (id : ℕ). rows-of rs ss id i))
    (λ (rows : Bag). answered (holding rs ss) answer (rows_lost (identity_of (holding rs ss) name) condition answer.query (λ (id : ℕ). rows-of rs ss id i) rows)))

-- so does what becomes of CREATE TABLE AS
pub stored-as : (rs ss : Bag) (at : ℕ) (name : List ℕ) (columns : List Column) (answer : Answer) (places : Option (List ℕ))
    → asks (holding rs ss) at (r.CreateTableAs name columns answer places)
    ≡ Settled (on_good at (meaning answer.query (read_of rs ss) [])
    (λ (rows : Bag). store_answer (holding rs ss) at name columns answer places (sorted (printed_cmp answer.keys) rows)))
stored-as rs ss at name columns answer places i =
    Settled (on_good at (meaning answer.query (λ (id : ℕ). rows-of rs ss id i) [])
    (λ (rows : Bag). store_answer (holding rs ss) at name columns answer places (sorted (printed_cmp answer.keys) rows)))

-- ---- columns and answers

abbrev pub column : ℕ → Expr
column place = Col 0 place

abbrev pub answering : Query → List (List ℕ) → List Key → Answer
answering query names keys = record { query = query; names = names; keys = keys }
