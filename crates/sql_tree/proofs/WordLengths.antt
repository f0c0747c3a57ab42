-- A word is looked up among the words that are as long.
use Rattle.std.proofs.Common.{◌≡◌, ◌≢◌, ℕ, Bool, true, false, if◌then◌else◌, List, [], ◌∷◌, ◌++◌, length, refl, sym, ap, subst, ◌∙◌, ⊎_elim}
use Rattle.std.specs.Prelude.{nat_eq}
use Rattle.std.specs.List.{list_all, list_any}
use Rattle.std.specs.Char.{to_ascii_lowercase}
use Rattle.std.specs.Cmp.Lexicographic.{pointwise}
use Rattle.std.specs.Str.{str_to_ascii_lowercase}
use Rattle.std.proofs.lemmas.Bool.{cases_Bool, eq-eqb, eqb-true, ne_eqb}
use Rattle.std.proofs.lemmas.List.{length-map}
use Rattle.std.proofs.lemmas.Slice.Eq.{bytes_eq-Decides}
use Rattle.sql_tree.specs.grammar.Sorts.{listed, reserved, free, word_sort}
use Rattle.sql_tree.specs.declared.grammar.sort.Sort.{Sort}
use Rattle.sql_tree.specs.declared.grammar.sort.Sort.TheVariants as s
use Rattle.sql_tree.proofs.Begins.{both_true}

abbrev pub of_length : ℕ → List (List ℕ × Sort) → List (List ℕ × Sort)
of_length n [] = []
of_length n (entry ∷ rest) = if nat_eq (length entry.0) n then entry ∷ of_length n rest else of_length n rest

-- a word of another length is no entry
passed_over : (entry : List ℕ × Sort) (word : List ℕ) (there other : Sort) → nat_eq (length entry.0) (length word) ≡ false
    → (if pointwise nat_eq entry.0 word then there else other) ≡ other
passed_over entry word there other differs = by_test (pointwise nat_eq entry.0 word) refl where
  by_test : (b : Bool) → pointwise nat_eq entry.0 word ≡ b → (if b then there else other) ≡ other
  by_test false e = refl
  by_test true e =
      let same : nat_eq (length entry.0) (length word) ≡ true = eq-eqb (length entry.0) (length word) (ap length ((bytes_eq-Decides entry.0 word).0 e)) in
      let both : true ≡ false = sym same ∙ differs in
      absurd cc

pub among_as_long : (table : List (List ℕ × Sort)) (word : List ℕ) (otherwise : Sort)
    → listed table word otherwise ≡ listed (of_length (length word) table) word otherwise
among_as_long [] word otherwise = refl
among_as_long (entry ∷ rest) word otherwise =
    ⊎_elim (λ same. rw same (ap (λ r. if pointwise nat_eq entry.0 word then entry.1 else r) (among_as_long rest word otherwise)))
    (λ differs. rw differs (passed_over entry word entry.1 (listed rest word otherwise) differs ∙ among_as_long rest word otherwise))
    (cases_Bool (nat_eq (length entry.0) (length word)))

-- what is found among the words that are as long is the sort of the word in lower case
pub is_sort : (n : ℕ) (word : List ℕ) (found : Sort) → length word ≡ n → found ≡ listed (of_length n (reserved ++ free)) (str_to_ascii_lowercase word) s.Plain
    → found ≡ word_sort (str_to_ascii_lowercase word)
unfolding word_sort
is_sort n word found e is =
    is ∙ sym (ap (λ m. listed (of_length m (reserved ++ free)) (str_to_ascii_lowercase word) s.Plain) (length-map word to_ascii_lowercase ∙ e))
    ∙ sym (among_as_long (reserved ++ free) (str_to_ascii_lowercase word) s.Plain)

-- where all entries are of some lengths, none is of another
none_as_long : (lengths : List ℕ) (n : ℕ) → list_any (nat_eq n) lengths ≡ false → (table : List (List ℕ × Sort))
    → list_all (λ entry. list_any (nat_eq (length entry.0)) lengths) table ≡ true → of_length n table ≡ []
none_as_long lengths n other [] all = refl
none_as_long lengths n other (entry ∷ rest) all =
    let parts = both_true all in
    ⊎_elim (λ same.
    let among : list_any (nat_eq n) lengths ≡ true = subst (λ k. list_any (nat_eq k) lengths ≡ true) (eqb-true (length entry.0) n same) parts.0 in
    let both : false ≡ true = sym other ∙ among in
    absurd cc)
    (λ differs. rw differs (none_as_long lengths n other rest parts.1)) (cases_Bool (nat_eq (length entry.0) n))

-- no word of the grammar is of another length
pub no_words : (word : List ℕ) → length word ≢ 2 → length word ≢ 3 → length word ≢ 4 → length word ≢ 5 → length word ≢ 6 → length word ≢ 7 → length word ≢ 8 → length word ≢ 9 → length word ≢ 10 → length word ≢ 12 → s.Plain ≡ word_sort (str_to_ascii_lowercase word)
no_words word e2 e3 e4 e5 e6 e7 e8 e9 e10 e12 = is_sort (length word) word s.Plain refl (sym (ap (λ table. listed table (str_to_ascii_lowercase word) s.Plain) none)) where
  lengths : List ℕ
  lengths = 2 ∷ 3 ∷ 4 ∷ 5 ∷ 6 ∷ 7 ∷ 8 ∷ 9 ∷ 10 ∷ 12 ∷ []

  other : list_any (nat_eq (length word)) lengths ≡ false
  other = rw (ne_eqb (length word) 2 e2, ne_eqb (length word) 3 e3, ne_eqb (length word) 4 e4, ne_eqb (length word) 5 e5, ne_eqb (length word) 6 e6, ne_eqb (length word) 7 e7, ne_eqb (length word) 8 e8, ne_eqb (length word) 9 e9, ne_eqb (length word) 10 e10, ne_eqb (length word) 12 e12) refl

  none : of_length (length word) (reserved ++ free) ≡ []
  none = none_as_long lengths (length word) other (reserved ++ free) refl
