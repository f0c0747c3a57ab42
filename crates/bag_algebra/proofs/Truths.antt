-- The laws of tests, and both of two tests, one after the other, as code makes them.
use Rattle.std.proofs.Common.{◌≡◌, Bool, true, false, ◌&&◌, ◌||◌, not, refl, sym, ap, ◌∙◌, true≢false}

pub both-true : (a b : Bool) → a ≡ true → b ≡ true → (a && b) ≡ true
both-true a b e f = λ i. e i && f i

pub left-true : (a b : Bool) → (a && b) ≡ true → a ≡ true
left-true true b h = refl
left-true false b h = h

pub right-true : (a b : Bool) → (a && b) ≡ true → b ≡ true
right-true true b h = h
right-true false b h = absurd (true≢false (sym h))

pub left-false : (a b : Bool) → (a || b) ≡ false → a ≡ false
left-false true b h = absurd (true≢false h)
left-false false b h = refl

pub right-false : (a b : Bool) → (a || b) ≡ false → b ≡ false
right-false true b h = absurd (true≢false h)
right-false false b h = h

pub and_true : (b : Bool) → (b && true) ≡ b
and_true true = refl
and_true false = refl

pub and_associates : (a b c : Bool) → ((a && b) && c) ≡ (a && (b && c))
and_associates true b c = refl
and_associates false b c = refl

pub or_associates : (a b c : Bool) → ((a || b) || c) ≡ (a || (b || c))
or_associates true b c = refl
or_associates false b c = refl

pub or_false : (b : Bool) → (b || false) ≡ b
or_false true = refl
or_false false = refl

pub or_true : (b : Bool) → (b || true) ≡ true
or_true true = refl
or_true false = refl

pub not_not : (b : Bool) → not (not b) ≡ b
not_not true = refl
not_not false = refl

pub and_turn : (a b c : Bool) → (a && (b && c)) ≡ (b && (a && c))
and_turn true b c = refl
and_turn false true c = refl
and_turn false false c = refl

pub or_turn : (a b c : Bool) → (a || (b || c)) ≡ (b || (a || c))
or_turn true true c = refl
or_turn true false c = refl
or_turn false b c = refl

module _ (whole a b x : Bool) (is_both : whole ≡ (a && b)) (first : x ≡ a) where
  -- the first holds, and the second decides
  pub second-decides : (y : Bool) → x ≡ true → y ≡ b → y ≡ whole
  second-decides y holds second = second ∙ ap (λ c. c && b) (sym holds ∙ first) ∙ sym is_both

  -- the first fails, and with it both
  pub first-decides : x ≡ false → x ≡ whole
  first-decides fails = fails ∙ ap (λ c. c && b) (sym fails ∙ first) ∙ sym is_both
