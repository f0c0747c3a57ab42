-- A search through a table of words finds what the table contains.
use Rattle.std.proofs.Common.{◌≡◌, ℕ, zero, suc, ◌<◌, ◌↔◌, IsTrue, Bool, true, List, [], ◌∷◌, length, map, get_or, Bor, refl, sym, ◌∙◌, ⊎_elim, arith}
use Rattle.std.specs.Prelude.{Contains}
use Rattle.std.specs.List.{list_any}
use Rattle.std.specs.Str.{bytes_eq}
use Rattle.std.proofs.lemmas.Bool.{cases_Bool, or_right}
use Rattle.std.proofs.lemmas.Slice.Eq.{bytes_eq-Decides}

abbrev texts : List (Bor (List ℕ)) → List (List ℕ)
texts words = map (λ word. word.now) words

abbrev is_among : List (Bor (List ℕ)) → List ℕ → Bool
is_among words word = list_any (λ listed. bytes_eq listed.now word) words

found : (words : List (Bor (List ℕ))) (word : List ℕ) → is_among words word ≡ true → Contains (texts words) word
found [] word e = absurd (cc)
found (w ∷ words) word e =
    ⊎_elim (λ is. (0, omega arith, (bytes_eq-Decides w.now word).0 is))
    (λ other. let rest : is_among words word ≡ true = rw other at e in let k = found words word rest in (suc k.0, omega (arith, k.1), k.2))
    (cases_Bool (bytes_eq w.now word))

finds : (words : List (Bor (List ℕ))) (word : List ℕ) (k : ℕ) → k < length (texts words) → get_or (texts words) k word ≡ word → is_among words word ≡ true
finds [] word k lt e = absurd (omega arith)
finds (w ∷ words) word zero lt e = rw ((bytes_eq-Decides w.now word).1 e) refl
finds (w ∷ words) word (suc k) lt e = or_right (bytes_eq w.now word) (is_among words word) (finds words word k (omega arith) e)

pub listed : (words : List (Bor (List ℕ))) (word : List ℕ) (answer : Bool) → answer ≡ list_any (λ listed. bytes_eq listed.now word) words
    → IsTrue answer ↔ Contains (map (λ word. word.now) words) word
listed words word answer e = (λ is. found words word (sym e ∙ is), λ k. e ∙ finds words word k.0 k.1 k.2)
