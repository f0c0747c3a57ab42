-- The rules that a record's fields and a file's records break, one more at a time.
use Rattle.std.proofs.Common.{◌≡◌, ◌<◌, ◌≤◌, ℕ, suc, ◌+◌, Bool, true, false, List, [], ◌∷◌, ◌++◌, length, get_or, drop, Option, Some, None, Result, Ok, Err, refl, sym, ap, ◌∙◌, subst, arith, append_assoc, add-zero, add-one}
use Rattle.std.proofs.Math.Seq.{drop-cons}
use Rattle.std.proofs.lemmas.Bool.{eq-eqb}
use Rattle.std.proofs.lemmas.List.{drop_all}
use Rattle.std.specs.Prelude.{◌==◌, if◌then◌else◌, is_some, IfErr, IsErrAnd}
use Rattle.std.specs.Str.{bytes_eq, is_utf8}
use Rattle.csv.proofs.RecordFacts.{field-get}
use Rattle.csv.specs.Records.{field_at}
use Rattle.perm_values.specs.declared.kind.Kind.{Kind}
use Rattle.perm_values.specs.declared.kind.Kind.TheVariants as kind
use Rattle.perm_values.specs.declared.value.Value.{Value}
use Rattle.perm_values.proofs.Steps.{is_none-is}
use Rattle.csv_tables.specs.Loading.{IsFirstBroken, field_breaks, field_value, fields_breaks, first_of, is_integer, kind_breaks, record_breaks, records_breaks, row_values, width_breaks}
use Rattle.csv_tables.specs.declared.data_error.DataError.{DataError}
use Rattle.csv_tables.specs.declared.data_error.DataError.TheVariants.{Width, NotInteger, NotText, NoMemory}

first-append : {X : Type 0} (xs ys : List X) (x : X) → first_of xs ≡ Some x → first_of (xs ++ ys) ≡ Some x
first-append [] ys x e = cc e
first-append (y ∷ xs) ys x e = e

first-some : {X : Type 0} (xs ys : List X) → is_some (first_of xs) ≡ true → first_of xs ≡ first_of (xs ++ ys)
first-some [] ys e = cc e
first-some (x ∷ xs) ys e = refl

-- the first broken rule of some is the first of these and any more
pub broken-append : (xs ys : List DataError) (e : DataError) → IsFirstBroken xs e → IsFirstBroken (xs ++ ys) e
broken-append xs ys (Width row) h = first-append xs ys _ h
broken-append xs ys (NotInteger row field) h = first-append xs ys _ h
broken-append xs ys (NotText row field) h = first-append xs ys _ h
broken-append xs ys NoMemory h = tt

first-broken : (xs : List DataError) (e : DataError) → first_of xs ≡ Some e → IsFirstBroken xs e
first-broken xs (Width row) h = h
first-broken xs (NotInteger row field) h = h
first-broken xs (NotText row field) h = h
first-broken xs NoMemory h = tt

first-none : {X : Type 0} (xs : List X) → first_of xs ≡ None → xs ≡ []
first-none [] e = refl
first-none (x ∷ xs) e = cc e

-- an error that is handed on keeps its cause
pub kept-error : {T E : Type 0} (r : Result T E) (e : E) (P : E → Type 0) → IsErrAnd r (λ f. f ≡ e) → P e → IfErr r P
kept-error (Ok x) e P h p = tt
kept-error (Err f) e P h p = subst P (sym h) p

-- ---- the fields of a record

pub item-at : {X : Type 0} (items : List X) (i : ℕ) (d : X) → i < length items → drop i items ≡ get_or items i d ∷ drop (i + 1) items
item-at items i d h = rw add-one (drop-cons items i d h)

pub field-at : (fields : List (List ℕ)) (i : ℕ) (field : List ℕ) → i < length fields → field_at fields i ≡ Some field → drop i fields ≡ field ∷ drop (i + 1) fields
field-at fields i field h e = item-at fields i [] h ∙ ap (λ f. f ∷ drop (i + 1) fields) (field-get fields i field e)

record_breaks-wide : (null_field : List ℕ) (kinds : List Kind) (row : ℕ) (fields : List (List ℕ)) → length fields ≡ length kinds → record_breaks null_field kinds row fields ≡ fields_breaks null_field row 1 kinds fields
record_breaks-wide null_field kinds row fields wide =
    let same : (length fields == length kinds) ≡ true = eq-eqb _ _ wide in
    rw same refl

-- the fields before a place break no rule
abbrev pub Unbroken : List ℕ → List Kind → ℕ → List (List ℕ) → ℕ → Type 0
Unbroken null_field kinds row fields place = fields_breaks null_field row 1 kinds fields ≡ fields_breaks null_field row (place + 1) (drop place kinds) (drop place fields)

-- so it is, and their values are those of the row so far
pub record FieldsRead (null_field : List ℕ) (kinds : List Kind) (row : ℕ) (fields : List (List ℕ)) (found : List Value) (place : ℕ) : Type 0 where
  pub values : found ++ row_values null_field (drop place kinds) (drop place fields) ≡ row_values null_field kinds fields
  pub breaks : Unbroken null_field kinds row fields place

pub FieldsRead-start : (null_field : List ℕ) (kinds : List Kind) (row : ℕ) (fields : List (List ℕ)) → FieldsRead null_field kinds row fields [] 0
FieldsRead-start null_field kinds row fields = record { values = refl; breaks = refl }

module _ (null_field : List ℕ) (kinds : List Kind) (row : ℕ) (fields : List (List ℕ)) (found : List Value) (place : ℕ)
    (k : Kind) (f : List ℕ) (read : FieldsRead null_field kinds row fields found place)
    (kinds_at : drop place kinds ≡ k ∷ drop (place + 1) kinds) (fields_at : drop place fields ≡ f ∷ drop (place + 1) fields) where
  pub FieldsRead-more : (v : Value) → field_breaks null_field row (place + 1) k f ≡ [] → v ≡ field_value null_field k f → FieldsRead null_field kinds row fields (found ++ v ∷ []) (place + 1)
  FieldsRead-more v unbroken value = record {
    values = rw (value, append_assoc found) (rw (kinds_at, fields_at) at read.values);
    breaks = read.breaks ∙ rw (kinds_at, fields_at, unbroken) refl;
  }

  pub FieldsRead-broken : (e : DataError) → length fields ≡ length kinds → IsFirstBroken (field_breaks null_field row (place + 1) k f) e → IsFirstBroken (record_breaks null_field kinds row fields) e
  FieldsRead-broken e wide first =
      let split : record_breaks null_field kinds row fields ≡ field_breaks null_field row (place + 1) k f ++ fields_breaks null_field row (place + 1 + 1) (drop (place + 1) kinds) (drop (place + 1) fields) =
      record_breaks-wide null_field kinds row fields wide ∙ read.breaks ∙ rw (kinds_at, fields_at) refl in
      subst (λ (broken : List DataError). IsFirstBroken broken e) (sym split) (broken-append _ _ e first)

-- ---- the first rule alone

module _ (null_field : List ℕ) (kinds : List Kind) (row : ℕ) (fields : List (List ℕ)) (place : ℕ) (k : Kind) (f : List ℕ) (before : Unbroken null_field kinds row fields place)
    (kinds_at : drop place kinds ≡ k ∷ drop (place + 1) kinds) (fields_at : drop place fields ≡ f ∷ drop (place + 1) fields)
    (found : Option DataError) (first : found ≡ first_of (field_breaks null_field row (place + 1) k f)) where
  pub Unbroken-more : is_some found ≡ false → Unbroken null_field kinds row fields (place + 1)
  Unbroken-more none =
      let unbroken : field_breaks null_field row (place + 1) k f ≡ [] = first-none _ (is_none-is _ (rw first at none)) in
      before ∙ rw (kinds_at, fields_at, unbroken) refl

  pub Unbroken-found : is_some found ≡ true → length fields ≡ length kinds → found ≡ first_of (record_breaks null_field kinds row fields)
  Unbroken-found some wide =
      let split : record_breaks null_field kinds row fields ≡ field_breaks null_field row (place + 1) k f ++ fields_breaks null_field row (place + 1 + 1) (drop (place + 1) kinds) (drop (place + 1) fields) =
      record_breaks-wide null_field kinds row fields wide ∙ before ∙ rw (kinds_at, fields_at) refl in
      rw (split, first) (first-some _ _ (rw first at some))

pub Unbroken-end : (null_field : List ℕ) (kinds : List Kind) (row : ℕ) (fields : List (List ℕ)) (place : ℕ) → Unbroken null_field kinds row fields place → length kinds ≤ place → length fields ≡ length kinds →
    None ≡ first_of (record_breaks null_field kinds row fields)
Unbroken-end null_field kinds row fields place whole all wide =
    let none : record_breaks null_field kinds row fields ≡ [] = record_breaks-wide null_field kinds row fields wide ∙ whole ∙ rw (drop_all place kinds all) refl in
    rw none refl

-- ---- want of memory breaks no rule

abbrev Named : List DataError → Type 0
Named broken = first_of broken ≡ Some NoMemory → ⊥

named-append : (xs ys : List DataError) → Named xs → Named ys → Named (xs ++ ys)
named-append [] ys f g e = g e
named-append (x ∷ xs) ys f g e = f e

named-unless : (b : Bool) (xs : List DataError) → Named xs → Named (if b then [] else xs)
named-unless true xs f e = cc e
named-unless false xs f e = f e

kind_breaks-named : (row place : ℕ) (k : Kind) (field : List ℕ) → Named (kind_breaks row place k field)
kind_breaks-named row place kind.Integer field = named-unless (is_integer field) (NotInteger row place ∷ []) (λ e. cc e)
kind_breaks-named row place kind.Text field = named-unless (is_utf8 field) (NotText row place ∷ []) (λ e. cc e)
kind_breaks-named row place kind.Boolean field = λ e. cc e

fields_breaks-named : (null_field : List ℕ) (row place : ℕ) (kinds : List Kind) (fields : List (List ℕ)) → Named (fields_breaks null_field row place kinds fields)
fields_breaks-named null_field row place [] fields = λ e. cc e
fields_breaks-named null_field row place (k ∷ kinds) [] = λ e. cc e
fields_breaks-named null_field row place (k ∷ kinds) (f ∷ fields) =
    named-append (field_breaks null_field row place k f) (fields_breaks null_field row (place + 1) kinds fields)
    (named-unless (bytes_eq f null_field) (kind_breaks row place k f) (kind_breaks-named row place k f))
    (fields_breaks-named null_field row (place + 1) kinds fields)

record_breaks-named : (null_field : List ℕ) (kinds : List Kind) (row : ℕ) (fields : List (List ℕ)) → Named (record_breaks null_field kinds row fields)
record_breaks-named null_field kinds row fields =
    named-append (width_breaks row kinds fields) (fields_breaks null_field row 1 kinds fields)
    (named-unless (length fields == length kinds) (Width row ∷ []) (λ e. cc e)) (fields_breaks-named null_field row 1 kinds fields)

-- ---- the records of a file

pub records_breaks-append : (null_field : List ℕ) (kinds : List Kind) (row : ℕ) (before after : List (List (List ℕ))) →
    records_breaks null_field kinds row (before ++ after) ≡ records_breaks null_field kinds row before ++ records_breaks null_field kinds (row + length before) after
records_breaks-append null_field kinds row [] after = rw add-zero refl
records_breaks-append null_field kinds row (r ∷ before) after =
    let here = record_breaks null_field kinds row r in
    let later : row + 1 + length before ≡ row + suc (length before) = omega arith in
    ap (λ more. here ++ more) (records_breaks-append null_field kinds (row + 1) before after)
    ∙ sym (append_assoc here (records_breaks null_field kinds (row + 1) before) (records_breaks null_field kinds (row + 1 + length before) after))
    ∙ ap (λ n. (here ++ records_breaks null_field kinds (row + 1) before) ++ records_breaks null_field kinds n after) later

-- ---- a record of which want of memory said nothing

-- what the search for the first rule found
pub found-broken : (null_field : List ℕ) (kinds : List Kind) (row : ℕ) (fields : List (List ℕ)) (found : Option DataError) (e : DataError) →
    found ≡ first_of (record_breaks null_field kinds row fields) → found ≡ Some e → IsFirstBroken (record_breaks null_field kinds row fields) e
found-broken null_field kinds row fields found e first is = first-broken _ e (sym first ∙ is)

pub found-no_memory : (null_field : List ℕ) (kinds : List Kind) (row : ℕ) (fields : List (List ℕ)) (found : Option DataError) (e : DataError) →
    found ≡ first_of (record_breaks null_field kinds row fields) → found ≡ Some e → e ≡ NoMemory → record_breaks null_field kinds row fields ≡ []
found-no_memory null_field kinds row fields found e first is memory = absurd (record_breaks-named null_field kinds row fields (sym first ∙ is ∙ ap Some memory))

pub found-none : (null_field : List ℕ) (kinds : List Kind) (row : ℕ) (fields : List (List ℕ)) (found : Option DataError) →
    found ≡ first_of (record_breaks null_field kinds row fields) → found ≡ None → record_breaks null_field kinds row fields ≡ []
found-none null_field kinds row fields found first is = first-none _ (sym first ∙ is)
