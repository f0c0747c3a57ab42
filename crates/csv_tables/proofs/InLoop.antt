-- What holds of the rows between two records of a file.
use Rattle.std.proofs.Common.{◌≡◌, ◌<◌, ◌≤◌, ℕ, ◌+◌, Bool, true, false, List, [], ◌∷◌, ◌++◌, length, map, drop, Option, Some, refl, sym, ap, ◌∙◌, subst, arith, inl, append_assoc, length-append}
use Rattle.std.proofs.lemmas.List.{drop-append-le, length-map, map-append}
use Rattle.csv.proofs.ReadFacts.{rows-end, rows-more}
use Rattle.csv.specs.Reading.{ReadRecord, Reached, Ready, default_config, reader_config, reader_state, reader_trim, records, source_of, strip_bom, took_first}
use Rattle.csv.specs.declared.parser.State.TheVariants as st
use Rattle.csv.specs.declared.reader.Reader.{Reader}
use Rattle.csv.specs.declared.reader.Trim.TheVariants as trim
use Rattle.perm_values.specs.declared.kind.Kind.{Kind}
use Rattle.perm_values.specs.declared.value.Value.{Value}
use Rattle.csv_tables.proofs.Records.{records-all, records-begin}
use Rattle.csv_tables.proofs.Rules.{broken-append, records_breaks-append}
use Rattle.csv_tables.specs.Loading.{IsFirstBroken, broken_rules, record_breaks, records_breaks, row_records, row_values, skipped, spelled_rows}
use Rattle.csv_tables.specs.declared.data_error.DataError.{DataError}

-- the reader has given the records `done`, those that stand for rows break no rule, and `rows` are what they spell
pub record InLoop {R : Type 0} (rem : R → Option (List ℕ)) (null_field : List ℕ) (kinds : List Kind) (header : Bool) (bytes : List ℕ)
    (rdr : Reader R) (turns : ℕ) (skip : Bool) (rows : List (List Value)) : Type 0 where
  pub untrimmed : reader_trim rdr ≡ trim.None
  pub ready : Ready rdr
  pub more_turns : 0 < turns
  pub config : reader_config rdr ≡ default_config
  pub left : List ℕ
  pub source : source_of rem rdr ≡ Some left
  pub done : List (List (List ℕ))
  pub reached : Reached default_config st.StartRecord (strip_bom bytes) done (reader_state rdr) left
  pub waiting : skip ≡ true → (header ≡ true) × (done ≡ [])
  pub begun : skip ≡ false → skipped header ≤ length done
  pub spelled : rows ≡ map (row_values null_field kinds) (drop (skipped header) done)
  pub unbroken : records_breaks null_field kinds (skipped header + 1) (drop (skipped header) done) ≡ []

no_records : (header : Bool) → drop (skipped header) (◌++◌ {A = List (List ℕ)} [] []) ≡ []
no_records true = refl
no_records false = refl

header_alone : (header : Bool) (fields : List (List ℕ)) → header ≡ true → drop (skipped header) (fields ∷ []) ≡ []
header_alone header fields e = rw e refl

skips_none : (header : Bool) → header ≡ false → skipped header ≤ 0
skips_none header e = rw e (omega arith)

skips_one : (header : Bool) → skipped header ≤ 1
skips_one true = omega arith
skips_one false = omega arith

pub InLoop-start : {R : Type 0} (rem : R → Option (List ℕ)) (null_field : List ℕ) (kinds : List Kind) (header : Bool) (bytes : List ℕ) (rdr : Reader R) (turns : ℕ) →
    reader_trim rdr ≡ trim.None → Ready rdr → 0 < turns → reader_config rdr ≡ default_config → source_of rem rdr ≡ Some (strip_bom bytes) → reader_state rdr ≡ st.StartRecord →
    InLoop rem null_field kinds header bytes rdr turns header []
unfolding Reached
InLoop-start rem null_field kinds header bytes rdr turns untrimmed ready more config source state = record {
  untrimmed = untrimmed;
  ready = ready;
  more_turns = more;
  config = config;
  left = strip_bom bytes;
  source = source;
  done = [];
  reached = (sym state, refl);
  waiting = λ e. (e, refl);
  begun = λ e. skips_none header e;
  spelled = rw (no_records header) refl;
  unbroken = rw (no_records header) refl;
}

module _ {R : Type 0} (rem : R → Option (List ℕ)) (null_field : List ℕ) (kinds : List Kind) (header : Bool) (bytes : List ℕ) (rdr next : Reader R) (turns : ℕ)
    (skip : Bool) (rows : List (List Value)) (inv : InLoop rem null_field kinds header bytes rdr turns skip rows) where
  -- the number of the next record
  record_number : (number : ℕ) → number ≡ length rows + skipped header + 1 → skipped header + 1 + length (drop (skipped header) inv.done) ≡ number
  record_number number counted =
      let long : length rows ≡ length (drop (skipped header) inv.done) = ap length inv.spelled ∙ length-map (drop (skipped header) inv.done) (row_values null_field kinds) in
      omega (arith, counted, long)

  module _ (fields : List (List ℕ)) (read : ReadRecord rem rdr next true fields) where
    -- with a record more
    next_reached : (z : List ℕ) × (source_of rem next ≡ Some z) × Reached default_config st.StartRecord (strip_bom bytes) (inv.done ++ (fields ∷ [])) (reader_state next) z
    next_reached = rows-more rem rdr next fields default_config st.StartRecord (strip_bom bytes) inv.left inv.done inv.config inv.source inv.reached read

    module _ (first : took_first next ≡ true) (next_turns : ℕ) (more : 0 < next_turns) where
      -- the header gives no row
      pub InLoop-header : skip ≡ true → InLoop rem null_field kinds header bytes next next_turns false rows
      InLoop-header skips =
          let alone : inv.done ++ (fields ∷ []) ≡ fields ∷ [] = ap (λ d. d ++ (fields ∷ [])) (inv.waiting skips).1 in
          let none : drop (skipped header) (inv.done ++ (fields ∷ [])) ≡ [] = ap (λ d. drop (skipped header) d) alone ∙ header_alone header fields (inv.waiting skips).0 in
          let before : drop (skipped header) inv.done ≡ [] = ap (λ d. drop (skipped header) d) (inv.waiting skips).1 ∙ no_records header in
          record {
            untrimmed = read.3 ∙ inv.untrimmed;
            ready = inl first;
            more_turns = more;
            config = read.2 ∙ inv.config;
            left = next_reached.0;
            source = next_reached.1;
            done = inv.done ++ (fields ∷ []);
            reached = next_reached.2;
            waiting = λ e. cc e;
            begun = λ e. rw alone (skips_one header);
            spelled = inv.spelled ∙ rw (before, none) refl;
            unbroken = rw none refl;
          }

      -- another record gives a row
      pub InLoop-row : (number : ℕ) (row : List Value) → skip ≡ false → number ≡ length rows + skipped header + 1 → record_breaks null_field kinds number fields ≡ [] → row ≡ row_values null_field kinds fields →
          InLoop rem null_field kinds header bytes next next_turns skip (rows ++ (row ∷ []))
      InLoop-row number row reads counted whole value =
          let before = drop (skipped header) inv.done in
          let seen : drop (skipped header) (inv.done ++ (fields ∷ [])) ≡ before ++ (fields ∷ []) = drop-append-le (skipped header) inv.done (fields ∷ []) (inv.begun reads) in
          record {
            untrimmed = read.3 ∙ inv.untrimmed;
            ready = inl first;
            more_turns = more;
            config = read.2 ∙ inv.config;
            left = next_reached.0;
            source = next_reached.1;
            done = inv.done ++ (fields ∷ []);
            reached = next_reached.2;
            waiting = λ e. let no : false ≡ true = sym reads ∙ e in cc no;
            begun = λ e. omega (arith, inv.begun reads, length-append inv.done (fields ∷ []));
            spelled = rw (seen, map-append (row_values null_field kinds) before (fields ∷ []), inv.spelled, value) refl;
            unbroken = rw (seen, records_breaks-append null_field kinds (skipped header + 1) before (fields ∷ []), inv.unbroken, record_number number counted, whole) refl;
          }

    -- the first rule that the record breaks is the file's first
    pub InLoop-broken : (number : ℕ) (e : DataError) → skip ≡ false → number ≡ length rows + skipped header + 1 → IsFirstBroken (record_breaks null_field kinds number fields) e →
        IsFirstBroken (broken_rules null_field kinds header bytes) e
    InLoop-broken number e reads counted broken =
        let before = drop (skipped header) inv.done in
        let found = records-begin default_config (reader_state next) (strip_bom bytes) next_reached.0 (inv.done ++ (fields ∷ [])) next_reached.2 in
        let seen : row_records header bytes ≡ before ++ (fields ∷ found.0) =
        ap (λ r. drop (skipped header) r) (found.1 ∙ append_assoc inv.done (fields ∷ []) found.0)
        ∙ drop-append-le (skipped header) inv.done (fields ∷ found.0) (inv.begun reads) in
        let rules : broken_rules null_field kinds header bytes ≡ record_breaks null_field kinds number fields ++ records_breaks null_field kinds (number + 1) found.0 =
        ap (λ r. records_breaks null_field kinds (skipped header + 1) r) seen
        ∙ rw (records_breaks-append null_field kinds (skipped header + 1) before (fields ∷ found.0), inv.unbroken, record_number number counted) refl in
        subst (λ (b : List DataError). IsFirstBroken b e) (sym rules) (broken-append _ _ e broken)

  -- where there are no more records, these are all
  pub InLoop-end : ReadRecord rem rdr next false [] → (broken_rules null_field kinds header bytes ≡ []) × (rows ≡ spelled_rows null_field kinds header bytes)
  InLoop-end read =
      let all : records default_config (strip_bom bytes) ≡ inv.done =
      records-all default_config (reader_state rdr) (strip_bom bytes) inv.left inv.done inv.reached (rows-end rem rdr next [] default_config inv.left inv.config inv.source read) in
      rw all (inv.unbroken, inv.spelled)
