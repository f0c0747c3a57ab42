-- csv reads the lines of an answer one after another.
use Rattle.std.proofs.Common.{◌≡◌, ◌<◌, ◌⊎◌, inl, inr, ℕ, zero, suc, ◌+◌, ◌%◌, ◌/◌, ℤ, pos, negsuc, Bool, true, false, List, [], ◌∷◌, ◌++◌, length, map, Some, refl, sym, ap, ◌∙◌, subst, arith, append_assoc, append-nil, length-append, codes}
use Rattle.std.proofs.lemmas.Bool.{cases_Bool, eqb-true, ne_eqb}
use Rattle.std.proofs.lemmas.List.{map-id}
use Rattle.std.specs.Fmt.{decimal, digit_glyph, digits, digits_onto, signed_decimal}
use Rattle.std.specs.List.{flat_map, join_with_byte}
use Rattle.std.specs.Prelude.{◌==◌, if◌then◌else◌, nat_lt}
use Rattle.csv.proofs.RoundTrip.{after-quote-same, record-same, start-same}
use Rattle.csv.specs.Machine.{next_record}
use Rattle.csv.specs.Reading.{default_config, records, records_from, strip_bom}
use Rattle.csv.specs.declared.parser.State.TheVariants as st
use Rattle.perm_values.specs.Values.{is_null}
use Rattle.perm_values.specs.declared.value.Value.{Value}
use Rattle.perm_values.specs.declared.value.Value.TheVariants.{Null, Integer, Text, Boolean}
use Rattle.csv_tables.specs.AnswerText.{answer_bytes, count_line, count_text, escaped, field_text, header_line, quoted, row_line, truth_text}
use Rattle.csv_tables.specs.ReadBack.{answer_records, header_records, is_blank, plain_text, row_records}

-- ---- bytes that csv only copies

record IsPlain (b : ℕ) : Type 0 where
  comma : (b == 44) ≡ false
  quote : (b == 34) ≡ false
  carriage_return : (b == 13) ≡ false
  line_feed : (b == 10) ≡ false

AllPlain : List ℕ → Type 0
AllPlain [] = Unit {0}
AllPlain (b ∷ bs) = IsPlain b × AllPlain bs

plain-above : (b : ℕ) → 44 < b → IsPlain b
plain-above b h = record {
  comma = ne_eqb b 44 (λ e. omega (arith, h, e));
  quote = ne_eqb b 34 (λ e. omega (arith, h, e));
  carriage_return = ne_eqb b 13 (λ e. omega (arith, h, e));
  line_feed = ne_eqb b 10 (λ e. omega (arith, h, e));
}

plain-run : (fields : List (List ℕ)) (field bytes tail : List ℕ) → AllPlain bytes → next_record default_config st.InField fields field (bytes ++ tail) ≡ next_record default_config st.InField fields (field ++ bytes) tail
unfolding next_record AllPlain
plain-run fields field [] tail h = rw (append-nil field) refl
plain-run fields field (b ∷ rest) tail h =
    rw (h.0.comma, h.0.carriage_return, h.0.line_feed) (plain-run fields (field ++ (b ∷ [])) rest tail h.1
    ∙ ap (λ (f : List ℕ). next_record default_config st.InField fields f tail) (append_assoc field (b ∷ []) rest))

-- ---- bytes between quotes

quoted-byte : (fields : List (List ℕ)) (field : List ℕ) (b : ℕ) (tail : List ℕ) → (b == 34) ≡ false → next_record default_config st.InQuoted fields field (b ∷ tail) ≡ next_record default_config st.InQuoted fields (field ++ (b ∷ [])) tail
unfolding next_record
quoted-byte fields field b tail e = rw e refl

escaped-run : (fields : List (List ℕ)) (field : List ℕ) (b : ℕ) (tail : List ℕ) → next_record default_config st.InQuoted fields field (escaped b ++ tail) ≡ next_record default_config st.InQuoted fields (field ++ (b ∷ [])) tail
unfolding next_record
escaped-run fields field b tail = elim (cases_Bool (b == 34)) [
  | inl same ↦
      subst (λ (c : ℕ). next_record default_config st.InQuoted fields field (escaped c ++ tail) ≡ next_record default_config st.InQuoted fields (field ++ (c ∷ [])) tail) (sym (eqb-true b 34 same)) refl
  | inr other ↦ rw other (quoted-byte fields field b tail other)
]

quoted-run : (fields : List (List ℕ)) (field text tail : List ℕ) → next_record default_config st.InQuoted fields field (flat_map escaped text ++ (34 ∷ tail)) ≡ next_record default_config st.AfterQuote fields (field ++ text) tail
unfolding next_record
quoted-run fields field [] tail = rw (append-nil field) refl
quoted-run fields field (b ∷ rest) tail =
    ap (λ (t : List ℕ). next_record default_config st.InQuoted fields field t) (append_assoc (escaped b) (flat_map escaped rest) (34 ∷ tail))
    ∙ escaped-run fields field b (flat_map escaped rest ++ (34 ∷ tail))
    ∙ quoted-run fields (field ++ (b ∷ [])) rest tail
    ∙ ap (λ (f : List ℕ). next_record default_config st.AfterQuote fields f tail) (append_assoc field (b ∷ []) rest)

-- ---- fields

-- a text spells a field: the field itself, where all its bytes are plain, or the field in quotes
Spells : List ℕ → List ℕ → Type 0
Spells text field = ((text ≡ field) × AllPlain field) ⊎ (text ≡ quoted field)

bare-field : (fields : List (List ℕ)) (field : List ℕ) (c : ℕ) (tail : List ℕ) → AllPlain field → (c == 34) ≡ false → next_record default_config st.StartField fields [] (field ++ (c ∷ tail)) ≡ next_record default_config st.InField fields field (c ∷ tail)
unfolding AllPlain
bare-field fields [] c tail h e = start-same fields [] c tail e
bare-field fields (b ∷ rest) c tail h e = start-same fields [] b (rest ++ (c ∷ tail)) h.0.quote ∙ plain-run fields [] (b ∷ rest) (c ∷ tail) h

quoted-field : (fields : List (List ℕ)) (field : List ℕ) (c : ℕ) (tail : List ℕ) → (c == 34) ≡ false → next_record default_config st.StartField fields [] (quoted field ++ (c ∷ tail)) ≡ next_record default_config st.InField fields field (c ∷ tail)
unfolding next_record
quoted-field fields field c tail e =
    ap (λ (t : List ℕ). next_record default_config st.InQuoted fields [] t) (append_assoc (flat_map escaped field) (34 ∷ []) (c ∷ tail))
    ∙ quoted-run fields [] field (c ∷ tail)
    ∙ after-quote-same fields field c tail e

field-run : (fields : List (List ℕ)) (text field : List ℕ) (c : ℕ) (tail : List ℕ) → Spells text field → (c == 34) ≡ false → next_record default_config st.StartField fields [] (text ++ (c ∷ tail)) ≡ next_record default_config st.InField fields field (c ∷ tail)
unfolding Spells
field-run fields text field c tail (inl bare) e = rw bare.0 (bare-field fields field c tail bare.1 e)
field-run fields text field c tail (inr between) e = rw between (quoted-field fields field c tail e)

-- ---- lines

module _ {X : Type 0} (f g : X → List ℕ) (spells : (x : X) → Spells (f x) (g x)) where
  line-run : (fields : List (List ℕ)) (x : X) (xs : List X) (tail : List ℕ) → next_record default_config st.StartField fields [] (join_with_byte 44 (map f (x ∷ xs)) ++ (10 ∷ tail)) ≡ Some (fields ++ map g (x ∷ xs), st.StartRecord, tail)
  unfolding next_record
  line-run fields x [] tail = field-run fields (f x) (g x) 10 tail (spells x) refl
  line-run fields x (y ∷ ys) tail =
      let rest = join_with_byte 44 (map f (y ∷ ys)) in
      ap (λ (t : List ℕ). next_record default_config st.StartField fields [] t) (append_assoc (f x) (44 ∷ rest) (10 ∷ tail))
      ∙ field-run fields (f x) (g x) 44 (rest ++ (10 ∷ tail)) (spells x) refl
      ∙ line-run (fields ++ (g x ∷ [])) y ys tail
      ∙ ap (λ (r : List (List ℕ)). Some (r, st.StartRecord, tail)) (append_assoc fields (g x ∷ []) (map g (y ∷ ys)))

-- a text that begins with a byte at which a record starts as a field does
Opens : List ℕ → Type 0
Opens text = (b : ℕ) × (rest : List ℕ) × (text ≡ b ∷ rest) × ((b == 13) ≡ false) × ((b == 10) ≡ false)

opens-append : (text more : List ℕ) → Opens text → Opens (text ++ more)
unfolding Opens
opens-append text more (b, rest, e, r, n) = (b, rest ++ more, rw e refl, r, n)

opened : (text : List ℕ) → Opens text → next_record default_config st.StartRecord [] [] text ≡ next_record default_config st.StartField [] [] text
unfolding Opens
opened text (b, rest, e, r, n) = rw e (record-same [] [] b rest r n)

quoted-opens : (text : List ℕ) → Opens (quoted text)
unfolding Opens
quoted-opens text = (34, flat_map escaped text ++ (34 ∷ []), refl, refl, refl)

-- where a comma follows, any field will do
comma-opens : (text field rest : List ℕ) → Spells text field → Opens (text ++ (44 ∷ rest))
unfolding Opens Spells AllPlain
comma-opens text [] rest (inl bare) = (44, rest, rw bare.0 refl, refl, refl)
comma-opens text (b ∷ field) rest (inl bare) = (b, field ++ (44 ∷ rest), rw bare.0 refl, bare.1.0.carriage_return, bare.1.0.line_feed)
comma-opens text field rest (inr between) = rw between (opens-append (quoted field) (44 ∷ rest) (quoted-opens field))

-- ---- names and values

name-spells : (name : List ℕ) → Spells (quoted name) name
unfolding Spells
name-spells name = inr refl

digit_glyph-plain : (d : ℕ) → IsPlain (digit_glyph false d)
digit_glyph-plain d = choose (nat_lt d 10) where
  choose : (b : Bool) → IsPlain (if b then 48 + d else (if false then 55 + d else 87 + d))
  choose true = plain-above (48 + d) (omega arith)
  choose false = plain-above (87 + d) (omega arith)

digits_onto-plain : (k n : ℕ) (onto : List ℕ) → AllPlain onto → AllPlain (digits_onto k 10 false n onto)
unfolding AllPlain
digits_onto-plain zero n onto h = h
digits_onto-plain (suc k) n onto h = elim (cases_Bool (n / 10 == 0)) [
  | inl last ↦ rw last (digit_glyph-plain (n % 10), h)
  | inr more ↦ rw more (digits_onto-plain k (n / 10) (digit_glyph false (n % 10) ∷ onto) (digit_glyph-plain (n % 10), h))
]

decimal-plain : (n : ℕ) → AllPlain (decimal n)
unfolding AllPlain digits
decimal-plain n = digits_onto-plain 64 n [] tt

signed_decimal-plain : (z : ℤ) → AllPlain (signed_decimal z)
unfolding AllPlain
signed_decimal-plain (pos n) = decimal-plain n
signed_decimal-plain (negsuc n) = (plain-above 45 (omega arith), decimal-plain (suc n))

truth_text-plain : (t : Bool) → AllPlain (truth_text t)
unfolding AllPlain
truth_text-plain true = (plain-above 116 (omega arith), (plain-above 114 (omega arith), (plain-above 117 (omega arith), (plain-above 101 (omega arith), tt))))
truth_text-plain false = (plain-above 102 (omega arith), (plain-above 97 (omega arith), (plain-above 108 (omega arith), (plain-above 115 (omega arith), (plain-above 101 (omega arith), tt)))))

value-spells : (v : Value) → Spells (field_text v) (plain_text v)
unfolding Spells AllPlain
value-spells Null = inl (refl, tt)
value-spells (Integer z) = inl (refl, signed_decimal-plain z)
value-spells (Text t) = inr refl
value-spells (Boolean t) = inl (refl, truth_text-plain t)

digits_onto-some : (k n : ℕ) (b : ℕ) (onto : List ℕ) → (c : ℕ) × (rest : List ℕ) × (digits_onto k 10 false n (b ∷ onto) ≡ c ∷ rest)
digits_onto-some zero n b onto = (b, onto, refl)
digits_onto-some (suc k) n b onto = elim (cases_Bool (n / 10 == 0)) [
  | inl last ↦ (digit_glyph false (n % 10), b ∷ onto, rw last refl)
  | inr more ↦ let r = digits_onto-some k (n / 10) (digit_glyph false (n % 10)) (b ∷ onto) in (r.0, r.1, rw more r.2)
]

decimal-some : (n : ℕ) → (c : ℕ) × (rest : List ℕ) × (decimal n ≡ c ∷ rest)
unfolding digits
decimal-some n = elim (cases_Bool (n / 10 == 0)) [
  | inl last ↦ (digit_glyph false (n % 10), [], rw last refl)
  | inr more ↦ let r = digits_onto-some 63 (n / 10) (digit_glyph false (n % 10)) [] in (r.0, r.1, rw more r.2)
]

plain-opens : (text : List ℕ) → AllPlain text → (c : ℕ) × (rest : List ℕ) × (text ≡ c ∷ rest) → Opens text
unfolding Opens AllPlain
plain-opens text h (c, rest, e) = let p = rw e at h in (c, rest, e, p.0.carriage_return, p.0.line_feed)

value-opens : (v : Value) → is_null v ≡ false → Opens (field_text v)
value-opens Null e = cc e
value-opens (Integer (pos n)) e = plain-opens (decimal n) (decimal-plain n) (decimal-some n)
value-opens (Integer (negsuc n)) e = plain-opens (signed_decimal (negsuc n)) (signed_decimal-plain (negsuc n)) (45, decimal (suc n), refl)
value-opens (Text t) e = quoted-opens t
value-opens (Boolean true) e = plain-opens (truth_text true) (truth_text-plain true) (116, codes "rue", refl)
value-opens (Boolean false) e = plain-opens (truth_text false) (truth_text-plain false) (102, codes "alse", refl)

-- ---- whole lines

row-opens : (row : List Value) (tail : List ℕ) → is_blank row ≡ false → Opens (join_with_byte 44 (map field_text row) ++ (10 ∷ tail))
row-opens [] tail e = cc e
row-opens (v ∷ []) tail e = opens-append (field_text v) (10 ∷ tail) (value-opens v e)
row-opens (v ∷ w ∷ row) tail e = opens-append (join_with_byte 44 (map field_text (v ∷ w ∷ row))) (10 ∷ tail) (comma-opens (field_text v) (plain_text v) (join_with_byte 44 (map field_text (w ∷ row))) (value-spells v))

row-read : (row : List Value) (tail : List ℕ) → is_blank row ≡ false → next_record default_config st.StartRecord [] [] (row_line row ++ tail) ≡ Some (map plain_text row, st.StartRecord, tail)
row-read [] tail e = cc e
row-read (v ∷ row) tail e =
    let text = join_with_byte 44 (map field_text (v ∷ row)) in
    ap (λ (t : List ℕ). next_record default_config st.StartRecord [] [] t) (append_assoc text (10 ∷ []) tail)
    ∙ opened (text ++ (10 ∷ tail)) (row-opens (v ∷ row) tail e)
    ∙ line-run field_text plain_text value-spells [] v row tail

names-open : (name : List ℕ) (names : List (List ℕ)) (tail : List ℕ) → Opens (join_with_byte 44 (map quoted (name ∷ names)) ++ (10 ∷ tail))
names-open name [] tail = opens-append (quoted name) (10 ∷ tail) (quoted-opens name)
names-open name (next ∷ names) tail =
    opens-append (join_with_byte 44 (map quoted (name ∷ next ∷ names))) (10 ∷ tail) (opens-append (quoted name) (44 ∷ join_with_byte 44 (map quoted (next ∷ names))) (quoted-opens name))

names-read : (name : List ℕ) (names : List (List ℕ)) (tail : List ℕ) → next_record default_config st.StartRecord [] [] (header_line (name ∷ names) ++ tail) ≡ Some (name ∷ names, st.StartRecord, tail)
names-read name names tail =
    let text = join_with_byte 44 (map quoted (name ∷ names)) in
    ap (λ (t : List ℕ). next_record default_config st.StartRecord [] [] t) (append_assoc text (10 ∷ []) tail)
    ∙ opened (text ++ (10 ∷ tail)) (names-open name names tail)
    ∙ line-run quoted (λ n. n) name-spells [] name names tail
    ∙ ap (λ (r : List (List ℕ)). Some (r, st.StartRecord, tail)) (map-id (name ∷ names))

all-append : (xs ys : List ℕ) → AllPlain xs → AllPlain ys → AllPlain (xs ++ ys)
unfolding AllPlain
all-append [] ys h k = k
all-append (x ∷ xs) ys h k = (h.0, all-append xs ys h.1 k)

null_field-plain : (b : ℕ) → (b == 44) ≡ false → (b == 34) ≡ false → (b == 13) ≡ false → (b == 10) ≡ false → IsPlain b
null_field-plain b c q r n = record { comma = c; quote = q; carriage_return = r; line_feed = n }

rows_word-plain : AllPlain (codes " rows)")
unfolding AllPlain
rows_word-plain = (null_field-plain 32 refl refl refl refl, (plain-above 114 (omega arith), (plain-above 111 (omega arith), (plain-above 119 (omega arith), (plain-above 115 (omega arith), (null_field-plain 41 refl refl refl refl, tt))))))

count_text-plain : (n : ℕ) → AllPlain (count_text n)
unfolding AllPlain
count_text-plain n = (null_field-plain 40 refl refl refl refl, all-append (decimal n) (codes " rows)") (decimal-plain n) rows_word-plain)

count-read : (n : ℕ) → next_record default_config st.StartRecord [] [] (count_line n) ≡ Some (count_text n ∷ [], st.StartRecord, [])
unfolding next_record Spells
count-read n =
    opened (count_text n ++ (10 ∷ [])) (opens-append (count_text n) (10 ∷ []) (plain-opens (count_text n) (count_text-plain n) (40, decimal n ++ codes " rows)", refl)))
    ∙ field-run [] (count_text n) (count_text n) 10 [] (inl (refl, count_text-plain n)) refl

-- ---- the whole text

-- these are the records of a text, however many turns beyond its length are taken
AllRecords : List ℕ → List (List (List ℕ)) → Type 0
AllRecords text rows = (n : ℕ) → length text < n → records_from default_config n st.StartRecord text ≡ rows

none-records : AllRecords [] []
unfolding AllRecords records_from next_record
none-records zero h = absurd (omega arith)
none-records (suc n) h = refl

blank-records : (tail : List ℕ) (rows : List (List (List ℕ))) → AllRecords tail rows → AllRecords (10 ∷ tail) rows
unfolding AllRecords records_from next_record
blank-records tail rows h zero k = absurd (omega arith)
blank-records tail rows h (suc n) k = h (suc n) (omega (arith, k))

line-records : (text tail : List ℕ) (fields : List (List ℕ)) (rows : List (List (List ℕ))) → next_record default_config st.StartRecord [] [] ((text ++ (10 ∷ [])) ++ tail) ≡ Some (fields, st.StartRecord, tail) → AllRecords tail rows →
    AllRecords ((text ++ (10 ∷ [])) ++ tail) (fields ∷ rows)
unfolding AllRecords records_from
line-records text tail fields rows e h zero k = absurd (omega arith)
line-records text tail fields rows e h (suc n) k =
    rw e (ap (λ (r : List (List (List ℕ))). fields ∷ r) (h n (omega (arith, k, length-append (text ++ (10 ∷ [])) tail, length-append text (10 ∷ [])))))

along : (text text' : List ℕ) (rows rows' : List (List (List ℕ))) → text ≡ text' → rows ≡ rows' → AllRecords text rows → AllRecords text' rows'
along text text' rows rows' e f h = subst (λ (t : List ℕ). AllRecords t rows') e (subst (λ (r : List (List (List ℕ))). AllRecords text r) f h)

row_line-records : (row : List Value) (tail : List ℕ) (rows : List (List (List ℕ))) → AllRecords tail rows → AllRecords (row_line row ++ tail) (row_records row ++ rows)
row_line-records [] tail rows h = blank-records tail rows h
row_line-records (Null ∷ []) tail rows h = blank-records tail rows h
row_line-records (Integer z ∷ []) tail rows h = line-records (join_with_byte 44 (map field_text (Integer z ∷ []))) tail _ rows (row-read (Integer z ∷ []) tail refl) h
row_line-records (Text t ∷ []) tail rows h = line-records (join_with_byte 44 (map field_text (Text t ∷ []))) tail _ rows (row-read (Text t ∷ []) tail refl) h
row_line-records (Boolean t ∷ []) tail rows h = line-records (join_with_byte 44 (map field_text (Boolean t ∷ []))) tail _ rows (row-read (Boolean t ∷ []) tail refl) h
row_line-records (v ∷ w ∷ row) tail rows h = line-records (join_with_byte 44 (map field_text (v ∷ w ∷ row))) tail _ rows (row-read (v ∷ w ∷ row) tail refl) h

row_lines-records : (table : List (List Value)) (tail : List ℕ) (rows : List (List (List ℕ))) → AllRecords tail rows → AllRecords (flat_map row_line table ++ tail) (flat_map row_records table ++ rows)
row_lines-records [] tail rows h = h
row_lines-records (row ∷ table) tail rows h =
    along _ _ _ _ (sym (append_assoc (row_line row) (flat_map row_line table) tail)) (sym (append_assoc (row_records row) (flat_map row_records table) rows))
    (row_line-records row (flat_map row_line table ++ tail) (flat_map row_records table ++ rows) (row_lines-records table tail rows h))

header_line-records : (names : List (List ℕ)) (tail : List ℕ) (rows : List (List (List ℕ))) → AllRecords tail rows → AllRecords (header_line names ++ tail) (header_records names ++ rows)
header_line-records [] tail rows h = blank-records tail rows h
header_line-records (name ∷ names) tail rows h = line-records (join_with_byte 44 (map quoted (name ∷ names))) tail _ rows (names-read name names tail) h

count_line-records : (n : ℕ) → AllRecords (count_line n) ((count_text n ∷ []) ∷ [])
unfolding AllRecords records_from
count_line-records n zero k = absurd (omega arith)
count_line-records n (suc m) k =
    rw (count-read n) (ap (λ (r : List (List (List ℕ))). (count_text n ∷ []) ∷ r) (none-records m (omega (arith, k, length-append (count_text n) (10 ∷ [])))))

answer_bytes-records : (names : List (List ℕ)) (table : List (List Value)) → AllRecords (answer_bytes names table) (answer_records names table)
answer_bytes-records names table =
    let last = count_line (length table) in
    let count = (count_text (length table) ∷ []) ∷ [] in
    along _ _ _ _ (sym (append_assoc (header_line names) (flat_map row_line table) last)) (sym (append_assoc (header_records names) (flat_map row_records table) count))
    (header_line-records names (flat_map row_line table ++ last) (flat_map row_records table ++ count) (row_lines-records table last count (count_line-records (length table))))

-- ---- no byte order mark

strip-other : (b : ℕ) (rest : List ℕ) → (b == 239) ≡ false → strip_bom (b ∷ rest) ≡ b ∷ rest
unfolding strip_bom
strip-other b [] e = refl
strip-other b (c ∷ []) e = refl
strip-other b (c ∷ d ∷ rest) e = rw e refl

strip_bom-answer : (names : List (List ℕ)) (table : List (List Value)) → strip_bom (answer_bytes names table) ≡ answer_bytes names table
strip_bom-answer [] table = strip-other 10 _ refl
strip_bom-answer (name ∷ []) table = strip-other 34 _ refl
strip_bom-answer (name ∷ next ∷ names) table = strip-other 34 _ refl

pub records-answer : (names : List (List ℕ)) (table : List (List Value)) → records default_config (strip_bom (answer_bytes names table)) ≡ answer_records names table
unfolding AllRecords
records-answer names table =
    ap (λ (text : List ℕ). records default_config text) (strip_bom-answer names table) ∙ answer_bytes-records names table (length (answer_bytes names table) + 1) (omega arith)
