-- How lines and columns grow with a byte.
use Rattle.std.proofs.Common.{refl, sym, arith, ◌∙◌, ap, ◌≡◌, ◌<◌, ◌≤◌, ◌+◌, ◌-◌, ℕ, zero, suc, Bool, true, false, cond, not, List, [], ◌∷◌, ◌++◌, take, reverse, length, get_or, subst}
use Rattle.std.specs.List.{count_by}
use Rattle.std.proofs.Math.Seq.{take-suc}
use Rattle.std.proofs.lemmas.List.{reverse-append}
use Rattle.std.proofs.lemmas.List.Sums.{sum_by-cons, take_while-cons, count_by_more_yes, count_by_more_no}
use Rattle.refusal_notes.specs.places.Places.{is_feed, begins_character, back_to_feed, column_behind, column_after, line_of, column_of}

one-more : (byte : ℕ) (back : List ℕ) → count_by begins_character (byte ∷ back) ≡ cond (begins_character byte) 1 0 + count_by begins_character back
one-more byte back = sum_by-cons (λ b. cond (begins_character b) 1 0) byte back

counted : (byte c : ℕ) (begins : Bool) → begins_character byte ≡ begins →
    suc (cond (begins_character byte) 1 0 + c) ≡ cond begins (suc (suc c)) (suc c)
counted byte c true e = rw e (omega arith)
counted byte c false e = rw e (omega arith)

-- behind one byte more
column-snoc : (before : List ℕ) (byte : ℕ) → column_behind (before ++ byte ∷ []) ≡ column_after (column_behind before) byte
column-snoc before byte =
    rw (reverse-append before (byte ∷ [])) (rw (take_while-cons (λ b. not (is_feed b)) byte (reverse before)) (by (is_feed byte)))
  where
    by : (feed : Bool) →
        suc (count_by begins_character (cond (not feed) (byte ∷ back_to_feed before) []))
        ≡ cond feed 1 (cond (begins_character byte) (suc (column_behind before)) (column_behind before))
    by true = refl
    by false =
        ap suc (one-more byte (back_to_feed before))
        ∙ counted byte (count_by begins_character (back_to_feed before)) (begins_character byte) refl

pub column-next : (script : List ℕ) (i d : ℕ) → i < length script →
    column_of script (suc i) ≡ column_after (column_of script i) (get_or script i d)
column-next script i d below = rw (take-suc script i d below) (column-snoc (take i script) (get_or script i d))

bounded : (column byte i : ℕ) → column ≤ suc i → column_after column byte ≤ suc (i + 1)
bounded column byte i most = by (is_feed byte) (begins_character byte)
  where
    by : (feed begins : Bool) → cond feed 1 (cond begins (suc column) column) ≤ suc (i + 1)
    by true begins = omega arith
    by false true = omega (arith, most)
    by false false = omega (arith, most)

-- the invariant of the loop that goes over the bytes
pub column-stays : (script : List ℕ) (i column next d : ℕ) → i < length script → (column ≡ column_of script i) × (column ≤ suc i) →
    next ≡ column_after column (get_or script i d) → (next ≡ column_behind (take (i + 1) script)) × (next ≤ suc (i + 1))
column-stays script i column next d below (at, most) e =
    let same : suc i ≡ i + 1 = omega arith in (
      e ∙ ap (λ c. column_after c (get_or script i d)) at ∙ sym (column-next script i d below) ∙ ap (λ k. column_behind (take k script)) same,
      rw e (bounded column (get_or script i d) i most),
    )

feed-next : (script : List ℕ) (i d : ℕ) → i < length script → is_feed (get_or script i d) ≡ true → line_of script (suc i) ≡ suc (line_of script i)
feed-next script i d below feed =
    let e : suc i ≡ i + 1 = omega arith in rw (e, count_by_more_yes is_feed script i d below feed) (omega arith)

other-next : (script : List ℕ) (i d : ℕ) → i < length script → is_feed (get_or script i d) ≡ false → line_of script (suc i) ≡ line_of script i
other-next script i d below other =
    let e : suc i ≡ i + 1 = omega arith in rw (e, count_by_more_no is_feed script i d below other) refl

-- the second offset is on a later line, or further on the same one
pub data Follows (script : List ℕ) (m n : ℕ) : Type 0 where
  later : line_of script m < line_of script n → Follows script m n
  further : line_of script m ≡ line_of script n → column_of script m < column_of script n → Follows script m n

follows-first : (script : List ℕ) (m : ℕ) → m < length script → begins_character (get_or script m 0) ≡ true → Follows script m (suc m)
follows-first script m below begins = by (is_feed (get_or script m 0)) refl
  where
    by : (feed : Bool) → is_feed (get_or script m 0) ≡ feed → Follows script m (suc m)
    by true e = later (let more = feed-next script m 0 below e in omega (arith, more))
    by false e = further (sym (other-next script m 0 below e)) (let more : column_of script (suc m) ≡ suc (column_of script m) = column-next script m 0 below ∙ rw (e, begins) refl in omega (arith, more))

follows-next : (script : List ℕ) (m n : ℕ) → n < length script → Follows script m n → Follows script m (suc n)
follows-next script m n below before = by (is_feed (get_or script n 0)) refl before
  where
    by : (feed : Bool) → is_feed (get_or script n 0) ≡ feed → Follows script m n → Follows script m (suc n)
    by true e (later line) = later (let more = feed-next script n 0 below e in omega (arith, more, line))
    by true e (further line column) = later (let more = feed-next script n 0 below e in omega (arith, more, line))
    by false e (later line) = later (let same = other-next script n 0 below e in omega (arith, same, line))
    by false e (further line column) = further (line ∙ sym (other-next script n 0 below e)) (grown (begins_character (get_or script n 0)) refl)
      where
        grown : (begins : Bool) → begins_character (get_or script n 0) ≡ begins → column_of script m < column_of script (suc n)
        grown true f = let more : column_of script (suc n) ≡ suc (column_of script n) = column-next script n 0 below ∙ rw (e, f) refl in omega (arith, more, column)
        grown false f = let same : column_of script (suc n) ≡ column_of script n = column-next script n 0 below ∙ rw (e, f) refl in omega (arith, same, column)

follows-by : (script : List ℕ) (m k n : ℕ) → n ≡ k + m + 1 → n ≤ length script → begins_character (get_or script m 0) ≡ true → Follows script m n
follows-by script m zero n e fits begins =
    let here : suc m ≡ n = omega (arith, e) in subst (Follows script m) here (follows-first script m (omega (arith, e, fits)) begins)
follows-by script m (suc k) n e fits begins =
    let here : suc (n - 1) ≡ n = omega (arith, e) in
    subst (Follows script m) here (follows-next script m (n - 1) (omega (arith, e, fits)) (follows-by script m k (n - 1) (omega (arith, e)) (omega (arith, fits)) begins))

follows : (script : List ℕ) (m n : ℕ) → m < n → n ≤ length script → begins_character (get_or script m 0) ≡ true → Follows script m n
follows script m n below fits begins = follows-by script m (n - suc m) n (omega (arith, below)) fits begins

pub lines-follow : (script : List ℕ) (m n : ℕ) → m < n → n ≤ length script → begins_character (get_or script m 0) ≡ true → line_of script m ≤ line_of script n
lines-follow script m n below fits begins = by (follows script m n below fits begins)
  where
    by : Follows script m n → line_of script m ≤ line_of script n
    by (later line) = omega (arith, line)
    by (further line column) = omega (arith, line)

pub columns-follow : (script : List ℕ) (m n : ℕ) → m < n → n ≤ length script → begins_character (get_or script m 0) ≡ true →
    line_of script m ≡ line_of script n → column_of script m < column_of script n
columns-follow script m n below fits begins same = by (follows script m n below fits begins)
  where
    by : Follows script m n → column_of script m < column_of script n
    by (later line) = omega (arith, line, same)
    by (further line column) = column
