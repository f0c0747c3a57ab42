-- What is printed for an answer explains it.
use Rattle.std.proofs.Common.{◌≡◌, ◌∙◌, ℕ, ◌<◌, true, List, [], length, Result, Ok, Err, IfOk, refl, sym, ap, subst}
use Rattle.statement_meaning.specs.explains.Explains.{Explains, GivesTables, MeansTheSame}
use Rattle.bag_algebra.proofs.TablesRead.{each_table-kept, reads_among-each}
use Rattle.bag_algebra.specs.Fits.{TablesFit, bag_fits}
use Rattle.bag_algebra.specs.Kinds.{width_of}
use Rattle.bag_algebra.specs.Meaning.{Database}
use Rattle.bag_algebra.specs.TablesRead.{EachTable}
use Rattle.bag_algebra.specs.declared.query.Answer.{Answer}
use Rattle.perm_catalog.specs.Columns.{column_kinds}
use Rattle.perm_catalog.specs.Contents.{Contents}
use Rattle.perm_catalog.specs.Sound.{IsSoundAnswer}
use Rattle.perm_values.specs.Rows.{KeysWithin}
use Rattle.perm_values.specs.declared.kind.Kind.{Kind}
use Rattle.perm_values.specs.declared.no_memory.NoMemory.{NoMemory}
use Rattle.statement_meaning.specs.Ready.{CanExplain}
use Rattle.sql_printer.specs.explained.Explaining.{StandsFor}
use Rattle.sql_printer.specs.explained.Reading.{SaysAs}
use Rattle.perm_catalog.specs.Held.{IsHeldTable}

-- a table of the catalog fits each database that gives the catalog's tables rows
held-fits : (c : Contents) (db : Database) → GivesTables c db → (id : ℕ) (kinds : List Kind) → IsHeldTable c id kinds → bag_fits (db id) kinds ≡ true
held-fits c db gives id kinds h =
    subst (λ (ks : List Kind). bag_fits (db id) ks ≡ true) h.kinds_are
    (subst (λ (n : ℕ). bag_fits (db n) (column_kinds h.table.columns) ≡ true) h.id_is (gives h.name h.table h.named))

module _ (c : Contents) (answer plain : Answer) (can : CanExplain c answer) (stands : StandsFor answer plain) where
  width-is : width_of plain.query ≡ width_of answer.query
  width-is = ap (λ (kinds : List Kind). length kinds) (stands.query.kinds [] can.is.closed)

  pub plain-sound : IsSoundAnswer plain
  plain-sound = record {
    closed = stands.query.formed [] can.is.closed;
    some = subst (λ (n : ℕ). 0 < n) (sym width-is) can.is.some;
    named = ap (λ (names : List (List ℕ)). length names) stands.names ∙ can.is.named ∙ sym width-is;
    keys = subst (λ (n : ℕ). KeysWithin n plain.keys) (sym width-is) (subst (KeysWithin (width_of answer.query)) (sym stands.keys) can.is.keys);
  }

  pub plain-held : EachTable (IsHeldTable c) plain.query
  plain-held = reads_among-each (IsHeldTable c) plain.query answer.query stands.query.tables can.held

  fits : (db : Database) → GivesTables c db → TablesFit db answer.query
  fits db gives = each_table-kept (IsHeldTable c) (λ id kinds. bag_fits (db id) kinds ≡ true) (held-fits c db gives) answer.query can.held

  means : MeansTheSame c answer plain
  means = record {
    names = sym stands.names;
    keys = sym stands.keys;
    rows = λ db gives. stands.query.rows [] db [] can.is.closed (fits db gives) refl;
  }

  module _ (on : (c : Contents) (answer other : Answer) (text : List ℕ) → MeansTheSame c other answer → Explains c answer text → Explains c other text) where
    pub explained-text : (text : List ℕ) → Explains c plain text → Explains c answer text
    explained-text text says = on c plain answer text means says

    -- one that says what the text of the plain answer does
    pub chosen : (text : List ℕ) → Explains c plain text → (result : Result (List ℕ) NoMemory)
        → IfOk result (λ said. SaysAs c said text) → IfOk result (λ said. Explains c answer said)
    chosen text says (Ok said) does = does answer (explained-text text says)
    chosen text says (Err error) does = tt

    pub explained : (result : Result (List ℕ) NoMemory) → IfOk result (λ text. Explains c plain text) → IfOk result (λ text. Explains c answer text)
    explained (Ok text) says = on c plain answer text means says
    explained (Err error) says = tt
