-- The records that a reader has given so far begin the list of a text's records.
use Rattle.std.proofs.Common.{◌≡◌, ◌<◌, ◌≤◌, ◌⊎◌, inl, inr, ℕ, zero, suc, ◌+◌, ◌-◌, Bool, true, false, List, [], ◌∷◌, ◌++◌, length, Option, Some, None, refl, ap, ◌∙◌, arith, append-nil}
use Rattle.std.specs.Prelude.{if◌then◌else◌, ◌==◌, ◌&&◌}
use Rattle.csv.specs.Machine.{Read, after_end, ends_at_end, ends_with, field_after, fields_after, in_field, is_byte, is_end, line_feed, next_record, start_field, start_record, step}
use Rattle.csv.specs.Reading.{Reached, records, records_from}
use Rattle.csv.specs.declared.parser.Action.{Action}
use Rattle.csv.specs.declared.parser.Action.TheVariants as act
use Rattle.csv.specs.declared.parser.Config.{Config}
use Rattle.csv.specs.declared.parser.State.{State}
use Rattle.csv.specs.declared.parser.State.TheVariants as st
use Rattle.csv.specs.declared.parser.Terminator.{Terminator}
use Rattle.csv.specs.declared.parser.Terminator.TheVariants as term

-- ---- a byte that ends a record leaves a state between records

record Between (r : State × Action) : Type 0 where
  ends : is_end r.1 ≡ true → ends_at_end r.0 ≡ false

either-between : (b : Bool) {x y : State × Action} → Between x → Between y → Between (if b then x else y)
either-between true h k = h
either-between false h k = k

after_end-between : (t : Terminator) (c : ℕ) → ends_at_end (after_end t c) ≡ false
after_end-between term.CRLF c = choose (c == 13) where
  choose : (b : Bool) → ends_at_end (if b then st.AfterCr else st.StartRecord) ≡ false
  choose true = refl
  choose false = refl
after_end-between (term.Any t) c = refl

skip-between : (s : State) → Between (s, act.Skip)
skip-between s = record { ends = λ e. cc e }

copy-between : (s : State) → Between (s, act.Copy)
copy-between s = record { ends = λ e. cc e }

field-between : (s : State) → Between (s, act.EndField)
field-between s = record { ends = λ e. cc e }

record-between : (t : Terminator) (c : ℕ) → Between (after_end t c, act.EndRecord)
record-between t c = record { ends = λ e. after_end-between t c }

in_field-between : (cfg : Config) (c : ℕ) → Between (in_field cfg c)
in_field-between cfg c = either-between (c == cfg.delimiter) (field-between st.StartField) (either-between (ends_with cfg.terminator c) (record-between cfg.terminator c) (copy-between st.InField))

start_field-between : (cfg : Config) (c : ℕ) → Between (start_field cfg c)
start_field-between cfg c = either-between (cfg.quoting && (c == cfg.quote)) (skip-between st.InQuoted) (in_field-between cfg c)

start_record-between : (cfg : Config) (c : ℕ) → Between (start_record cfg c)
start_record-between cfg c = either-between (ends_with cfg.terminator c) (skip-between st.StartRecord) (either-between (is_byte cfg.comment c) (skip-between st.InComment) (start_field-between cfg c))

step-between : (cfg : Config) (s : State) (c : ℕ) → Between (step cfg s c)
step-between cfg st.StartRecord c = start_record-between cfg c
step-between cfg st.StartField c = start_field-between cfg c
step-between cfg st.InField c = in_field-between cfg c
step-between cfg st.InQuoted c = either-between (cfg.quoting && (c == cfg.quote)) (skip-between st.AfterQuote) (either-between (cfg.quoting && is_byte cfg.escape c) (skip-between st.InEscape) (copy-between st.InQuoted))
step-between cfg st.InEscape c = copy-between st.InQuoted
step-between cfg st.AfterQuote c = either-between (cfg.quoting && cfg.double_quote && (c == cfg.quote)) (copy-between st.InQuoted) (in_field-between cfg c)
step-between cfg st.InComment c = either-between (c == line_feed) (skip-between st.StartRecord) (skip-between st.InComment)
step-between cfg st.AfterCr c = either-between (c == line_feed) (skip-between st.StartRecord) (start_record-between cfg c)

-- ---- a record takes bytes

split-some : (b : Bool) (q p : Read) (o : Option Read) → (if b then Some q else o) ≡ Some p → ((b ≡ true) × (q ≡ p)) ⊎ (o ≡ Some p)
split-some true q p o e = inl (refl, cc e)
split-some false q p o e = inr e

next-within : (cfg : Config) (s : State) (fields : List (List ℕ)) (field xs : List ℕ) (p : Read) → next_record cfg s fields field xs ≡ Some p → (length p.2 ≤ length xs - 1) × (ends_at_end p.1 ≡ false)
unfolding next_record
next-within cfg s fields field [] p e =
    elim (split-some (ends_at_end s) (fields ++ (field ∷ []), st.StartRecord, []) p None e) [
      | inl h ↦ rw (← h.1) (omega arith, refl)
      | inr h ↦ cc h
    ]
next-within cfg s fields field (c ∷ rest) p e =
    elim (split-some (is_end (step cfg s c).1) (fields_after (step cfg s c).1 fields field, (step cfg s c).0, rest) p _ e) [
      | inl h ↦ rw (← h.1) (omega arith, (step-between cfg s c).ends h.0)
      | inr h ↦
          let within = next-within cfg (step cfg s c).0 (fields_after (step cfg s c).1 fields field) (field_after (step cfg s c).1 c field) rest p h in
          (omega (arith, within.0), within.1)
    ]

next-shrinks : (cfg : Config) (s : State) (xs : List ℕ) (p : Read) → ends_at_end s ≡ false → next_record cfg s [] [] xs ≡ Some p → (length p.2 < length xs) × (ends_at_end p.1 ≡ false)
unfolding next_record
next-shrinks cfg s [] p between e = let none = rw between at e in cc none
next-shrinks cfg s (c ∷ rest) p between e =
    let within = next-within cfg s [] [] (c ∷ rest) p e in
    (omega (arith, within.0), within.1)

-- ---- the list of a text's records

record Begins (cfg : Config) (n : ℕ) (s s2 : State) (xs ys : List ℕ) (done : List (List (List ℕ))) : Type 0 where
  turns : ℕ
  enough : length ys < turns
  rest : records_from cfg n s xs ≡ done ++ records_from cfg turns s2 ys

begins : (cfg : Config) (n : ℕ) (s s2 : State) (xs ys : List ℕ) (done : List (List (List ℕ))) → ends_at_end s ≡ false → length xs < n → Reached cfg s xs done s2 ys → Begins cfg n s s2 xs ys done
unfolding Reached records_from
begins cfg n s s2 xs ys [] between long h = record { turns = n; enough = rw (← h.1) long; rest = rw (h.0, h.1) refl }
begins cfg zero s s2 xs ys (r ∷ rs) between long h = absurd (omega arith)
begins cfg (suc n) s s2 xs ys (r ∷ rs) between long (p, e, same, more) =
    let shrunk = next-shrinks cfg s xs p between e in
    let later = begins cfg n p.1 s2 p.2 ys rs shrunk.1 (omega (arith, shrunk.0)) more in
    record { turns = later.turns; enough = later.enough; rest = rw (e, same, later.rest) refl }

-- what a reader gave begins the records
pub records-begin : (cfg : Config) (s2 : State) (xs ys : List ℕ) (done : List (List (List ℕ))) → Reached cfg st.StartRecord xs done s2 ys → (rest : List (List (List ℕ))) × (records cfg xs ≡ done ++ rest)
records-begin cfg s2 xs ys done h =
    let b = begins cfg (length xs + 1) st.StartRecord s2 xs ys done refl (omega arith) h in
    (records_from cfg b.turns s2 ys, b.rest)

none-left : (cfg : Config) (n : ℕ) (s : State) (xs : List ℕ) → next_record cfg s [] [] xs ≡ None → records_from cfg n s xs ≡ []
unfolding records_from
none-left cfg zero s xs none = refl
none-left cfg (suc n) s xs none = rw none refl

-- and where it finds no more, these are the records
pub records-all : (cfg : Config) (s2 : State) (xs ys : List ℕ) (done : List (List (List ℕ))) → Reached cfg st.StartRecord xs done s2 ys → next_record cfg s2 [] [] ys ≡ None → records cfg xs ≡ done
records-all cfg s2 xs ys done h none =
    let b = begins cfg (length xs + 1) st.StartRecord s2 xs ys done refl (omega arith) h in
    b.rest ∙ ap (λ more. done ++ more) (none-left cfg b.turns s2 ys none) ∙ append-nil done
