-- What holds of the records that a reader has given.
use Rattle.std.proofs.Common.{◌≡◌, ◌∙◌, ◌<◌, ◌≤◌, ◌+◌, ℕ, suc, Bool, true, false, List, [], ◌∷◌, ◌++◌, length, Option, Some, refl, sym, ap, inl, arith, length-append}
use Rattle.csv.proofs.ReadFacts.{rows-end, rows-more}
use Rattle.csv.specs.Reading.{ReadRecord, Reached, Ready, default_config, reader_config, reader_state, reader_trim, records, source_of, strip_bom, took_first}
use Rattle.csv.specs.declared.parser.State.TheVariants as st
use Rattle.csv.specs.declared.reader.Reader.{Reader}
use Rattle.csv.specs.declared.reader.Trim.TheVariants as trim
use Rattle.csv_tables.proofs.Records.{records-all, records-begin}
use Rattle.refusal_hints.specs.Fields.{numbered, record_of}
use Rattle.refusal_hints.proofs.Numbered.{numbered_behind, numbered_front, numbered_next}

-- the reader has given so many records of the file, and last these fields
pub record Gave {R : Type 0} (rem : R → Option (List ℕ)) (file : List ℕ) (reader : Reader R) (count : ℕ) (fields : List (List ℕ)) : Type 0 where
  pub untrimmed : reader_trim reader ≡ trim.None
  pub ready : Ready reader
  pub config : reader_config reader ≡ default_config
  pub left : List ℕ
  pub source : source_of rem reader ≡ Some left
  pub done : List (List (List ℕ))
  pub reached : Reached default_config st.StartRecord (strip_bom file) done (reader_state reader) left
  pub counted : length done ≡ count
  pub given : fields ≡ numbered done count

pub Gave-none : {R : Type 0} (rem : R → Option (List ℕ)) (file : List ℕ) (reader : Reader R) → reader_trim reader ≡ trim.None → Ready reader →
    reader_config reader ≡ default_config → source_of rem reader ≡ Some (strip_bom file) → reader_state reader ≡ st.StartRecord →
    Gave rem file reader 0 []
unfolding Reached
Gave-none rem file reader untrimmed ready config source state = record {
  untrimmed = untrimmed;
  ready = ready;
  config = config;
  left = strip_bom file;
  source = source;
  done = [];
  reached = (sym state, refl);
  counted = refl;
  given = refl;
}

module _ {R : Type 0} (rem : R → Option (List ℕ)) (file : List ℕ) (reader next : Reader R) (count : ℕ) (before : List (List ℕ))
    (gave : Gave rem file reader count before) where
  pub Gave-more : (fields : List (List ℕ)) → ReadRecord rem reader next true fields → took_first next ≡ true → Gave rem file next (count + 1) fields
  Gave-more fields read first =
      let reached = rows-more rem reader next fields default_config st.StartRecord (strip_bom file) gave.left gave.done gave.config gave.source gave.reached read in
      let e : suc (length gave.done) ≡ count + 1 = omega (arith, gave.counted) in
      record {
        untrimmed = read.3 ∙ gave.untrimmed;
        ready = inl first;
        config = read.2 ∙ gave.config;
        left = reached.0;
        source = reached.1;
        done = gave.done ++ (fields ∷ []);
        reached = reached.2;
        counted = length-append gave.done (fields ∷ []) ∙ (omega (arith, gave.counted));
        given = sym (numbered_next gave.done fields) ∙ ap (numbered (gave.done ++ fields ∷ [])) e;
      }

  -- the last of them is the record of their number
  pub Gave-record : before ≡ record_of file count
  Gave-record =
      let found = records-begin default_config (reader_state reader) (strip_bom file) gave.left gave.done gave.reached in
      gave.given ∙ sym (numbered_front gave.done found.0 count (omega (arith, gave.counted))) ∙ ap (λ r. numbered r count) (sym found.1)

  -- where there are no more, the file has no record of a greater number
  pub Gave-short : (row : ℕ) (fields : List (List ℕ)) → ReadRecord rem reader next false fields → count < row → record_of file row ≡ []
  Gave-short row fields read more =
      let all : records default_config (strip_bom file) ≡ gave.done =
      records-all default_config (reader_state reader) (strip_bom file) gave.left gave.done gave.reached (rows-end rem reader next fields default_config gave.left gave.config gave.source read) in
      ap (λ r. numbered r row) all ∙ numbered_behind gave.done row (omega (arith, gave.counted, more))
