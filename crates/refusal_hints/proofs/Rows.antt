-- The rows of a table, one more or none left.
use Rattle.std.proofs.Common.{◌≡◌, ◌∙◌, ◌<◌, ◌≤◌, ◌+◌, ℕ, Bool, true, false, cond, not, List, [], ◌∷◌, ◌++◌, length, map, drop, get_or, ap, refl}
use Rattle.std.proofs.Math.ListN.{drop_of_length-le}
use Rattle.std.proofs.lemmas.Bool.{and_parts, not-true}
use Rattle.std.proofs.lemmas.List.{drop_more}
use Rattle.std.specs.List.{list_all}
use Rattle.std.specs.Prelude.{◌==◌}
use Rattle.std.specs.Str.{bytes_eq}
use Rattle.refusal_hints.specs.Advice.{Row, advice_in, or_else, row_of}
use Rattle.refusal_hints.specs.Tables.{call_texts, column_texts, query_texts, script_texts, texts}
use Rattle.refusal_hints.specs.declared.advice.Advised.{Advised}

pub advice_more : (rows : List Advised) (text : List ℕ) (i : ℕ) (d : Advised) → i < length rows →
    advice_in (map row_of (drop i rows)) text
    ≡ cond (bytes_eq (get_or rows i d).text.now text) (get_or rows i d).advice.now (advice_in (map row_of (drop (i + 1) rows)) text)
advice_more rows text i d below = rw (drop_more rows i d) refl

pub advice_none : (rows : List Advised) (text : List ℕ) (i : ℕ) → length rows ≤ i → advice_in (map row_of (drop i rows)) text ≡ []
advice_none rows text i behind = rw (drop_of_length-le rows {i = i} behind) refl

-- whether each row says something
abbrev pub all_say : List Row → Bool
all_say rows = list_all (λ row. not (length row.advice == 0)) rows

-- of two tables, one behind the other, the second is asked where the first says nothing
pub advice_behind : (rows more : List Row) (text : List ℕ) → all_say rows ≡ true →
    advice_in (rows ++ more) text ≡ or_else (advice_in rows text) (advice_in more text)
advice_behind [] more text say = refl
advice_behind (row ∷ rows) more text say =
    by (bytes_eq row.text text) (advice_behind rows more text (and_parts (not (length row.advice == 0)) (all_say rows) say).1)
  where
    says : (length row.advice == 0) ≡ false
    says = not-true (length row.advice == 0) (and_parts (not (length row.advice == 0)) (all_say rows) say).0

    by : (is : Bool) → advice_in (rows ++ more) text ≡ or_else (advice_in rows text) (advice_in more text) →
        cond is row.advice (advice_in (rows ++ more) text) ≡ or_else (cond is row.advice (advice_in rows text)) (advice_in more text)
    by true further = rw says refl
    by false further = further

pub advice_of_texts : (text : List ℕ) → advice_in texts text
    ≡ or_else (advice_in query_texts text) (or_else (advice_in column_texts text) (or_else (advice_in call_texts text) (advice_in script_texts text)))
unfolding texts
advice_of_texts text =
    advice_behind query_texts (column_texts ++ call_texts ++ script_texts) text refl
    ∙ ap (or_else (advice_in query_texts text)) (advice_behind column_texts (call_texts ++ script_texts) text refl
    ∙ ap (or_else (advice_in column_texts text)) (advice_behind call_texts script_texts text refl))
