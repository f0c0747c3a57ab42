-- Words, numbers and symbols are ASCII, and so are UTF-8.
use Rattle.std.proofs.Common.{◌≡◌, ℕ, zero, suc, ◌<◌, Bool, true, List, [], ◌∷◌, arith}
use Rattle.std.proofs.lemmas.Bool.{and_parts}
use Rattle.std.specs.List.{list_all}
use Rattle.std.specs.Char.{to_ascii_lowercase}
use Rattle.std.specs.Str.{IsAscii, IsUtf8, str_to_ascii_lowercase}
use Rattle.std.proofs.lemmas.Bool.Decides.{nat_tests}
use Rattle.std.proofs.lemmas.Str.{IsUtf8-from_ascii}
use Rattle.std.proofs.lemmas.Str.Ascii.{IsAscii-map}
use Rattle.sql_lexer.specs.Bytes.{is_word, is_digit}
use Rattle.sql_lexer.proofs.Classes.{word_ascii, digit_ascii}

all_ascii : (p : ℕ → Bool) → ((b : ℕ) → p b ≡ true → b < 128) → (bytes : List ℕ) → list_all p bytes ≡ true → IsAscii bytes
all_ascii p low [] all i = omega arith
all_ascii p low (b ∷ bytes) all zero = low b (and_parts (p b) (list_all p bytes) all).0
all_ascii p low (b ∷ bytes) all (suc i) = all_ascii p low bytes (and_parts (p b) (list_all p bytes) all).1 i

lower_ascii : (b : ℕ) → b < 128 → to_ascii_lowercase b < 128
lower_ascii b low = grind (arith, nat_tests)

pub lowered_utf8 : (word : List ℕ) → list_all is_word word ≡ true → IsUtf8 (str_to_ascii_lowercase word)
lowered_utf8 word all = IsUtf8-from_ascii _ (IsAscii-map to_ascii_lowercase word lower_ascii (all_ascii is_word word_ascii word all))

pub digits_utf8 : (digits : List ℕ) → list_all is_digit digits ≡ true → IsUtf8 digits
digits_utf8 digits all = IsUtf8-from_ascii _ (all_ascii is_digit digit_ascii digits all)

pub one_utf8 : (b : ℕ) → b < 128 → IsUtf8 (b ∷ [])
one_utf8 b low = IsUtf8-from_ascii _ (λ i. one_ascii i) where
  one_ascii : IsAscii (b ∷ [])
  one_ascii zero = low
  one_ascii (suc i) = omega arith
