-- What a table stores of provenance stays sound where a change of the catalog leaves the tables that are unchanged as they were.
use mathlib.Core.Bool.{true≢false}
use Rattle.std.proofs.Common.{◌≡◌, ℕ, ◌≤◌, ◌<◌, Bool, true, false, not, cond, List, [], ◌∷◌, Option, Some, None, refl, sym, ap, subst, ◌∙◌, arith, nat_eq}
use Rattle.std.specs.Prelude.{All, Contains, IfSome, slice_index_or}
use Rattle.std.proofs.lemmas.List.Elements.{All-nil, All-cons, All-head, All-tail}
use Rattle.std.proofs.lemmas.Option.{same_Some}
use Rattle.std.proofs.lemmas.Bool.{eqb-true, eq-eqb}
use Rattle.std.specs.Cmp.Lexicographic.{pointwise}
use Rattle.std.specs.List.{find, IsDistinct}
use Rattle.std.specs.Map.{keys_of}
use Rattle.std.specs.Option.{option_map_or}
use Rattle.perm_values.specs.declared.kind.Kind.{Kind}
use Rattle.bag_algebra.specs.Bags.{Bag}
use Rattle.bag_algebra.specs.Meaning.{meaning}
use Rattle.bag_algebra.specs.Means.{Means}
use Rattle.bag_algebra.specs.Outcome.{Good}
use Rattle.bag_algebra.specs.Rewriting.{SameRows}
use Rattle.bag_algebra.specs.TableRows.{rows_in}
use Rattle.bag_algebra.proofs.TablesRead.{each_table-kept}
use Rattle.contribution.proofs.TablesRead.{denote-equal_tables}
use Rattle.perm_catalog.specs.Changes.{table_named}
use Rattle.perm_catalog.specs.Columns.{column_kinds}
use Rattle.perm_catalog.specs.Contents.{Contents}
use Rattle.perm_catalog.specs.Lookups.{entry_of_id}
use Rattle.perm_catalog.specs.Stored.{is_unchanged, IsFresh, IsKeptTable, IsDrawn, IsSoundStored}
use Rattle.perm_catalog.specs.declared.column.Column.{Column}
use Rattle.perm_catalog.specs.declared.entries.SourceVersion.{SourceVersion}
use Rattle.perm_catalog.specs.declared.entries.StoredQuery.{StoredQuery}
use Rattle.perm_catalog.specs.declared.entries.TableEntry.{TableEntry}
use Rattle.stored_provenance.proofs.Found.{named-found, found-passes, found-named}

-- names and identities differ
pub record AreApart (c : Contents) : Type 0 where
  pub names : IsDistinct (pointwise nat_eq) (keys_of c.tables)
  pub identities : (n m : List ℕ) (s t : TableEntry) → table_named c n ≡ Some s → table_named c m ≡ Some t → s.id ≡ t.id → n ≡ m

-- a table of this identity
pub record HasId (c : Contents) (id : ℕ) : Type 0 where
  pub name : List ℕ
  pub table : TableEntry
  pub is : table_named c name ≡ Some table
  pub id_is : table.id ≡ id

-- with this version
pub record IsHere (c : Contents) (id version : ℕ) : Type 0 where
  pub held : HasId c id
  pub version_is : held.table.version ≡ version

-- ---- the table that an identity finds

module _ (c : Contents) (apart : AreApart c) (id : ℕ) where
  abbrev has : TableEntry → Bool
  has t = nat_eq t.id id

  pub entry-has : (e : List ℕ × TableEntry) → entry_of_id c id ≡ Some e → HasId c id
  entry-has e h = record {
    name = e.0;
    table = e.1;
    is = found-named has c.tables e apart.names h;
    id_is = eqb-true e.1.id id (found-passes has c.tables e h);
  }

  pub has-entry : (held : HasId c id) → entry_of_id c id ≡ Some (held.name, held.table)
  unfolding entry-has
  has-entry held =
      let there = named-found has c.tables held.name held.table held.is (eq-eqb held.table.id id held.id_is) in
      let other = entry-has there.entry there.found in
      let name : there.entry.0 ≡ held.name = apart.identities there.entry.0 held.name there.entry.1 held.table other.is held.is (other.id_is ∙ sym held.id_is) in
      let table : there.entry.1 ≡ held.table = same_Some there.entry.1 held.table (sym other.is ∙ ap (table_named c) name ∙ held.is) in
      there.found ∙ (λ i. Some (name i, table i))

module _ (c : Contents) (apart : AreApart c) (kept : SourceVersion) where
  unchanged-by : (o : Option (List ℕ × TableEntry)) → entry_of_id c kept.id ≡ o →
      option_map_or (λ (e : List ℕ × TableEntry). nat_eq e.1.version kept.version) o false ≡ true → IsHere c kept.id kept.version
  unfolding entry-has
  unchanged-by None is h = absurd (true≢false (sym h))
  unchanged-by (Some e) is h = record { held = entry-has c apart kept.id e is; version_is = eqb-true e.1.version kept.version h }

  pub unchanged-here : is_unchanged c kept ≡ true → IsHere c kept.id kept.version
  unchanged-here h = unchanged-by (entry_of_id c kept.id) refl h

  pub here-unchanged : IsHere c kept.id kept.version → is_unchanged c kept ≡ true
  here-unchanged here =
      ap (λ o. option_map_or (λ (e : List ℕ × TableEntry). nat_eq e.1.version kept.version) o false) (has-entry c apart kept.id here.held)
      ∙ eq-eqb here.held.table.version kept.version here.version_is

-- ---- all kept tables are unchanged

module _ {X : Type 0} (test : X → Bool) where
  none-by : (x : X) (more : Option X) (b : Bool) → test x ≡ b → cond (not b) (Some x) more ≡ None → (test x ≡ true) × (more ≡ None)
  none-by x more true is h = (is, h)
  none-by x more false is h = absurd (cc h)

  pub none-fails : (xs : List X) → find (λ x. not (test x)) xs ≡ None → All (λ x. test x ≡ true) xs
  none-fails [] h = All-nil (λ x. test x ≡ true)
  none-fails (x ∷ xs) h = let both = none-by x (find (λ y. not (test y)) xs) (test x) refl h in All-cons (λ y. test y ≡ true) x xs both.0 (none-fails xs both.1)

  pub all-pass : (xs : List X) → All (λ x. test x ≡ true) xs → find (λ x. not (test x)) xs ≡ None
  all-pass [] all = refl
  all-pass (x ∷ xs) all = ap (λ b. cond (not b) (Some x) (find (λ y. not (test y)) xs)) (All-head (λ y. test y ≡ true) x xs all) ∙ all-pass xs (All-tail (λ y. test y ≡ true) x xs all)

-- ---- from one catalog to another

-- a table of an earlier identity was there, with columns of the same kinds
pub record Was (c : Contents) (t : TableEntry) : Type 0 where
  pub held : HasId c t.id
  pub kinds : column_kinds held.table.columns ≡ column_kinds t.columns

-- where a table has an earlier identity and version still, it had them before, with the same rows
pub record Goes (c d : Contents) : Type 0 where
  pub later : c.next ≤ d.next
  pub here : (id version : ℕ) → id < c.next → version < c.next → IsHere d id version → IsHere c id version × (rows_in d.rows id ≡ rows_in c.rows id)
  pub was : (name : List ℕ) (t : TableEntry) → table_named d name ≡ Some t → t.id < c.next → Was c t

module _ (c d : Contents) (before : AreApart c) (after : AreApart d) (goes : Goes c d) (columns : List Column) (rows : Bag) (mark : StoredQuery)
    (sound : IsSoundStored c columns rows mark) where
  drawn-still : All (IsDrawn d) mark.kept
  drawn-still k kept low =
      let drawn = sound.drawn k kept low in
      record { id = let e = drawn.id in let f = goes.later in omega arith; version = let e = drawn.version in let f = goes.later in omega arith }

  kept-drawn : (kept : SourceVersion) → Contains mark.kept kept → IsDrawn c kept
  kept-drawn kept there = subst (IsDrawn c) there.2 (sound.drawn there.0 kept there.1)

  reads-still : (id : ℕ) (kinds : List Kind) → IsKeptTable c mark.kept id kinds → IsKeptTable d mark.kept id kinds
  reads-still id kinds read = record {
    is_kept = read.is_kept;
    kinds_are = λ name t named same.
        let low = (kept-drawn read.is_kept.table read.is_kept.there).id in
        let e = read.is_kept.same in
        let was = goes.was name t named (omega (arith, low, e, same)) in
        sym was.kinds ∙ read.kinds_are was.held.name was.held.table was.held.is (was.held.id_is ∙ same);
  }

  unchanged-before : IsFresh d mark → (kept : SourceVersion) → Contains mark.kept kept → IsHere c kept.id kept.version × (rows_in d.rows kept.id ≡ rows_in c.rows kept.id)
  unchanged-before fresh kept there =
      let drawn = kept-drawn kept there in
      let is : is_unchanged d kept ≡ true = subst (λ (k : SourceVersion). is_unchanged d k ≡ true) there.2 (none-fails (is_unchanged d) mark.kept fresh there.0 kept there.1) in
      goes.here kept.id kept.version drawn.id drawn.version (unchanged-here d after kept is)

  -- what is fresh afterwards was fresh before
  pub fresh-before : IsFresh d mark → IsFresh c mark
  fresh-before fresh =
      all-pass (is_unchanged c) mark.kept
      (λ k kept low.
      let drawn = sound.drawn k kept low in
      let is = none-fails (is_unchanged d) mark.kept fresh k kept low in
      let at = slice_index_or mark.kept k kept in
      here-unchanged c before at (goes.here at.id at.version drawn.id drawn.version (unchanged-here d after at is)).0)

  rows-same : IsFresh d mark → (id : ℕ) (kinds : List Kind) → IsKeptTable c mark.kept id kinds → rows_in d.rows id ≡ rows_in c.rows id
  rows-same fresh id kinds read =
      subst (λ (n : ℕ). rows_in d.rows n ≡ rows_in c.rows n) read.is_kept.same (unchanged-before fresh read.is_kept.table read.is_kept.there).1

  means-same : IsFresh d mark → meaning mark.query (rows_in d.rows) [] ≡ meaning mark.query (rows_in c.rows) []
  means-same fresh =
      ap (λ (m : Means). m.rows)
      (denote-equal_tables mark.query (rows_in d.rows) (rows_in c.rows) []
      (each_table-kept (IsKeptTable c mark.kept) (λ id kinds. rows_in d.rows id ≡ rows_in c.rows id) (rows-same fresh) mark.query sound.reads))

  pub mark-goes : IsSoundStored d columns rows mark
  mark-goes = record {
    input = sound.input;
    asks = sound.asks;
    closed = sound.closed;
    kinds = sound.kinds;
    places = sound.places;
    drawn = drawn-still;
    reads = each_table-kept (IsKeptTable c mark.kept) (IsKeptTable d mark.kept) reads-still mark.query sound.reads;
    holds = λ fresh. subst (λ o. SameRows o (Good rows)) (sym (means-same fresh)) (sound.holds (fresh-before fresh));
  }

-- the same of a table that may store none
module _ (c d : Contents) (before : AreApart c) (after : AreApart d) (goes : Goes c d) (columns : List Column) (rows : Bag) where
  pub stored-goes : (stored : Option StoredQuery) → IfSome stored (IsSoundStored c columns rows) → IfSome stored (IsSoundStored d columns rows)
  stored-goes None sound = tt
  stored-goes (Some mark) sound = mark-goes c d before after goes columns rows mark sound
