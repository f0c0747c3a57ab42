-- The walk of a text behind a `%` along a pattern, of which only the last `%` is tried again.
use Rattle.std.proofs.Common.{◌≡◌, ℕ, ◌+◌, ◌*◌, ◌<◌, ◌≤◌, Bool, true, false, ◌&&◌, ◌||◌, ◌==◌, List, [], ◌∷◌, length, refl, sym, ap, ◌∙◌, subst, arith}
use Rattle.std.proofs.Math.Nat.{mul-le-mul_right}
use Rattle.std.proofs.lemmas.Bool.{or_right, and_parts}
use Rattle.null_logic.specs.Like.{any_run, some_suffix, first_then, takes, like}
use Rattle.null_logic.specs.LikeStep.{Takes}

pub or_cases : {P : Type 0} (a b : Bool) → (a ≡ true → P) → (b ≡ true → P) → (a || b) ≡ true → P
or_cases true b f g e = f refl
or_cases false b f g e = g e

or_false : (a : Bool) → a ≡ (a || false)
or_false true = refl
or_false false = refl

or_absorbed : (a b : Bool) → (b ≡ true → a ≡ true) → (a || b) ≡ a
or_absorbed true b h = refl
or_absorbed false true h = sym (h refl)
or_absorbed false false h = refl

-- ---- suffixes

-- some suffix other than the whole passes
abbrev pub later : (List ℕ → Bool) → List ℕ → Bool
later f [] = false
later f (c ∷ cs) = some_suffix f cs

some_suffix-here : (f : List ℕ → Bool) (t : List ℕ) → some_suffix f t ≡ (f t || later f t)
some_suffix-here f [] = or_false (f [])
some_suffix-here f (c ∷ cs) = refl

pub some_suffix-whole : (f : List ℕ → Bool) (t : List ℕ) → f t ≡ true → some_suffix f t ≡ true
some_suffix-whole f [] e = e
some_suffix-whole f (c ∷ cs) e = rw e refl

some_suffix-later : (f : List ℕ → Bool) (t : List ℕ) → later f t ≡ true → some_suffix f t ≡ true
some_suffix-later f [] e = cc
some_suffix-later f (c ∷ cs) e = or_right (f (c ∷ cs)) (some_suffix f cs) e

some_suffix-twice : (f : List ℕ → Bool) (t : List ℕ) → some_suffix (some_suffix f) t ≡ true → some_suffix f t ≡ true
some_suffix-twice f [] e = e
some_suffix-twice f (c ∷ cs) e =
    or_cases (some_suffix f (c ∷ cs)) (some_suffix (some_suffix f) cs) (λ q. q)
    (λ q. or_right (f (c ∷ cs)) (some_suffix f cs) (some_suffix-twice f cs q)) e

-- what passes behind one more character passes further on
some_suffix-past : (one : ℕ → Bool) (f : List ℕ → Bool) (c : ℕ) (t : List ℕ) → some_suffix (first_then one f) (c ∷ t) ≡ true → some_suffix f t ≡ true
some_suffix-past one f c [] e = or_cases (one c && f []) false (λ q. (and_parts (one c) (f []) q).1) (λ q. cc) e
some_suffix-past one f c (d ∷ t) e =
    or_cases (one c && f (d ∷ t)) (some_suffix (first_then one f) (d ∷ t))
    (λ q. some_suffix-whole f (d ∷ t) (and_parts (one c) (f (d ∷ t)) q).1)
    (λ q. or_right (f (d ∷ t)) (some_suffix f t) (some_suffix-past one f d t q)) e

-- ---- characters other than `%`

pub like-other : (p : ℕ) (pattern : List ℕ) → (p == any_run) ≡ false → (t : List ℕ) → like t (p ∷ pattern) ≡ first_then (takes p) (λ rest. like rest pattern) t
like-other p pattern e t = rw e refl

pub like-taken : (c : ℕ) (t : List ℕ) (p : ℕ) (pattern : List ℕ) → (p == any_run) ≡ false → takes p c ≡ true → like (c ∷ t) (p ∷ pattern) ≡ like t pattern
like-taken c t p pattern e h = like-other p pattern e (c ∷ t) ∙ rw h refl

pub like-Takes : (t p after rest : List ℕ) → Takes t p after rest → like t p ≡ like after rest
like-Takes t p after rest (c, one, e, q, other, fits) = rw (e, q) (like-taken c after one rest other fits)

-- ---- the walk

-- text and pattern are what stands behind a `%` from the start; the last `%` was met where the text was `start`, with
-- `wanted` behind it; t is left of the text and p of the pattern
pub record Walks (text pattern start wanted t p : List ℕ) : Type 0 where
  pub same : like text (any_run ∷ pattern) ≡ (like t p || later (λ rest. like rest wanted) start)
  pub onward : later (λ rest. like rest wanted) start ≡ true → some_suffix (λ rest. like rest p) t ≡ true
  pub near : length t ≤ length start
  pub short : length p ≤ length pattern
  pub short_wanted : length wanted ≤ length pattern

pub Walks-start : (text pattern : List ℕ) → Walks text pattern text pattern text pattern
Walks-start text pattern = record {
  same = some_suffix-here (λ rest. like rest pattern) text;
  onward = some_suffix-later (λ rest. like rest pattern) text;
  near = omega arith;
  short = omega arith;
  short_wanted = omega arith;
}

module _ {text pattern start wanted : List ℕ} where
  run : (t p : List ℕ) → Walks text pattern start wanted t (any_run ∷ p) → Walks text pattern t p t p
  run t p w =
      let f : List ℕ → Bool = λ rest. like rest p in
      record {
        same = w.same ∙ (or_absorbed (some_suffix f t) _ (λ q. some_suffix-twice f t (w.onward q)) ∙ some_suffix-here f t);
        onward = some_suffix-later f t;
        near = omega arith;
        short = omega (arith, w.short);
        short_wanted = omega (arith, w.short);
      }

  taken : (c : ℕ) (t : List ℕ) (one : ℕ) (p : List ℕ) → (one == any_run) ≡ false → takes one c ≡ true →
      Walks text pattern start wanted (c ∷ t) (one ∷ p) → Walks text pattern start wanted t p
  taken c t one p e h w =
      let other : (λ rest. like rest (one ∷ p)) ≡ first_then (takes one) (λ rest. like rest p) = λ i rest. like-other one p e rest i in
      record {
        same = w.same ∙ ap (λ b. b || later (λ rest. like rest wanted) start) (like-taken c t one p e h);
        onward = λ q. some_suffix-past (takes one) (λ rest. like rest p) c t (subst (λ f. some_suffix f (c ∷ t) ≡ true) other (w.onward q));
        near = omega (arith, w.near);
        short = omega (arith, w.short);
        short_wanted = w.short_wanted;
      }

  pub Walks-run : (t p rest : List ℕ) → p ≡ any_run ∷ rest → Walks text pattern start wanted t p → Walks text pattern t rest t rest
  Walks-run t p rest e w = run t rest (subst (Walks text pattern start wanted t) e w)

  pub Walks-taken : (t p after rest : List ℕ) → Takes t p after rest → Walks text pattern start wanted t p → Walks text pattern start wanted after rest
  Walks-taken t p after rest (c, one, e, q, other, fits) w =
      taken c after one rest other fits (subst (λ t. Walks text pattern start wanted t (one ∷ rest)) e (subst (Walks text pattern start wanted t) q w))

  pub Walks-matched : (t p : List ℕ) → t ≡ [] → p ≡ [] → Walks text pattern start wanted t p → like text (any_run ∷ pattern) ≡ true
  Walks-matched t p e q w =
      let there : Walks text pattern start wanted [] [] = subst (λ t. Walks text pattern start wanted t []) e (subst (Walks text pattern start wanted t) q w) in
      there.same

  pub Walks-stuck : (t p : List ℕ) → like t p ≡ false → start ≡ [] → Walks text pattern start wanted t p → like text (any_run ∷ pattern) ≡ false
  Walks-stuck t p e q w = w.same ∙ rw (e, q) refl

pub Walks-again : {text pattern start wanted : List ℕ} (t p : List ℕ) (c : ℕ) (after : List ℕ) → like t p ≡ false → start ≡ c ∷ after →
    Walks text pattern start wanted t p → Walks text pattern after wanted after wanted
Walks-again {text} {pattern} {start} {wanted} t p c after e q w =
    let f : List ℕ → Bool = λ rest. like rest wanted in
    let last : (like t p || later f start) ≡ some_suffix f after = rw (e, q) refl in
    record {
      same = w.same ∙ (last ∙ some_suffix-here f after);
      onward = some_suffix-later f after;
      near = omega arith;
      short = w.short_wanted;
      short_wanted = w.short_wanted;
    }

-- ---- its measure

pub smaller-run : (s t p rest n : ℕ) → t ≤ s → rest < p → t * n + rest < s * n + p
smaller-run s t p rest n h k = omega (arith, mul-le-mul_right n h)

pub smaller-again : (s after p wanted n : ℕ) → s ≡ after + 1 → wanted ≤ n → after * (n + 1) + wanted < s * (n + 1) + p
smaller-again s after p wanted n e h = rw e (omega arith)
