-- The steps that `clap`'s definition takes over a word that doesn't begin with a dash.
use Rattle.std.proofs.Common.{◌≡◌, ◌∙◌, ℕ, Bool, false, List, [], ◌∷◌, Option, Some, None, refl, ap}
use Rattle.std.specs.Prelude.{◌&&◌, if◌then◌else◌, option_and_then}
use Rattle.std.specs.Option.{option_map_or}
use Rattle.std.specs.Str.{bytes_eq}
use Rattle.clap.specs.Faults.{bundle_fault, flag_word_fault, word_fault}
use Rattle.clap.specs.Lexer.{long_of, long_of_rest, short_of, short_of_rest, strip_byte}
use Rattle.clap.specs.Simple.{Shape}
use Rattle.clap.specs.Walk.{Held, Rule, Step, Text, Waiting, idle, long_or_other, option, plain_word, positional, short_or_plain, trailing, word_met}
use Rattle.perm_engine.specs.meaning.words.Requests.{is_dashed}

no_dashes : (word : Text) → is_dashed word ≡ false → bytes_eq word (45 ∷ 45 ∷ []) ≡ false
no_dashes [] e = refl
no_dashes (x ∷ xs) e = ap (λ (b : Bool). b && bytes_eq xs (45 ∷ [])) e

no_long : (word : Text) → is_dashed word ≡ false → long_of word ≡ None
no_long [] e = refl
no_long (x ∷ xs) e = ap (λ (b : Bool). option_and_then long_of_rest (option_and_then (strip_byte 45) (if b then Some xs else None))) e

no_short : (word : Text) → is_dashed word ≡ false → short_of word ≡ None
no_short [] e = refl
no_short (x ∷ xs) e = ap (λ (b : Bool). option_and_then short_of_rest (if b then Some xs else None)) e

module _ (word : Text) (plain : is_dashed word ≡ false) where
  abbrev Other : List Rule → Waiting → ℕ → Held → Held × Step
  Other c waiting position h = if bytes_eq word (45 ∷ 45 ∷ []) then (h, trailing position) else long_or_other c waiting word (long_of word) h

  other_met : (c : List Rule) (waiting : Waiting) (position : ℕ) (h : Held) → Other c waiting position h ≡ plain_word c waiting word h
  other_met c waiting position h =
      ap (λ (b : Bool). if b then (h, trailing position) else long_or_other c waiting word (long_of word) h) (no_dashes word plain)
      ∙ ap (λ (long : Option (Text × Option Text)). long_or_other c waiting word long h) (no_long word plain)
      ∙ ap (λ (short : Option Text). short_or_plain c waiting word short h) (no_short word plain)

  -- it is a value of an option that waits for one, or of what stands in its place
  pub plain_met : (c : List Rule) (waiting : Waiting) (position : ℕ) (h : Held) → word_met c [] false waiting position word h ≡ plain_word c waiting word h
  plain_met c idle position h = other_met c idle position h
  plain_met c (option id) position h = other_met c (option id) position h
  plain_met c positional position h = other_met c positional position h

  other_fault : (c : List Rule) (again : Bool) (h : Held) → (if bytes_eq word (45 ∷ 45 ∷ []) then [] else flag_word_fault c again (long_of word) word h) ≡ []
  other_fault c again h =
      ap (λ (b : Bool). if b then [] else flag_word_fault c again (long_of word) word h) (no_dashes word plain)
      ∙ ap (λ (long : Option (Text × Option Text)). flag_word_fault c again long word h) (no_long word plain)
      ∙ ap (λ (short : Option Text). option_map_or (λ flags. bundle_fault c again flags h) short []) (no_short word plain)

  -- and nothing is wrong with it
  pub plain_fault : (s : Shape) (waiting : Waiting) (h : Held) → word_fault s [] false waiting word h ≡ []
  plain_fault s idle h = other_fault s.rules s.args_override_self h
  plain_fault s (option id) h = other_fault s.rules s.args_override_self h
  plain_fault s positional h = other_fault s.rules s.args_override_self h
