-- LIKE in the words of its users: literals, the two wildcards, and patterns in a row.
use Rattle.std.proofs.Common.{◌≡◌, ℕ, Bool, true, false, ◌&&◌, ◌||◌, ◌==◌, List, [], ◌∷◌, ◌++◌, All, refl, sym, ap, ap₂, ◌∙◌}
use Rattle.std.specs.Bool.{Decides}
use Rattle.std.proofs.lemmas.Bool.{ne_eqb, or_right, and_parts}
use Rattle.std.proofs.lemmas.Bool.Decides.{Decides-and, Decides-eqb}
use Rattle.std.proofs.lemmas.List.Elements.{All-head, All-tail}
use Rattle.null_logic.proofs.Walk.{or_cases, some_suffix-whole, like-other, like-taken}
use Rattle.null_logic.specs.Like.{any_run, any_one, some_suffix, takes, like, IsLiteral}

along : {P Q : Type 0} (a b : Bool) → a ≡ b → (P → Q) → (Q → P) → Decides b P → Decides a Q
along a b e there back d = (λ q. there (d.0 (sym e ∙ q)), λ q. e ∙ d.1 (back q))

-- ---- literals

like-literal : (p : ℕ) (pattern : List ℕ) (c : ℕ) (text : List ℕ) → IsLiteral p → like (c ∷ text) (p ∷ pattern) ≡ ((p == c) && like text pattern)
like-literal p pattern c text h =
    let one : (p == any_one) ≡ false = ne_eqb p any_one h.1 in
    like-other p pattern (ne_eqb p any_run h.0) (c ∷ text) ∙ ap (λ b. (b || p == c) && like text pattern) one

pub literal : (text pattern : List ℕ) → All IsLiteral pattern → Decides (like text pattern) (text ≡ pattern)
literal [] [] h = (λ e. refl, λ e. refl)
literal (c ∷ text) [] h = (λ e. cc, λ e. cc)
literal [] (p ∷ pattern) h =
    let no : like [] (p ∷ pattern) ≡ false = like-other p pattern (ne_eqb p any_run (All-head IsLiteral p pattern h).0) [] in
    (λ e. cc, λ e. cc)
literal (c ∷ text) (p ∷ pattern) h =
    along (like (c ∷ text) (p ∷ pattern)) ((p == c) && like text pattern) (like-literal p pattern c text (All-head IsLiteral p pattern h))
    (λ (both : (p ≡ c) × (text ≡ pattern)). ap₂ (λ x xs. x ∷ xs) (sym both.0) both.1) (λ e. (cc, cc))
    (Decides-and (p == c) (like text pattern) (Decides-eqb p c) (literal text pattern (All-tail IsLiteral p pattern h)))

-- ---- wildcards

pub run : (text : List ℕ) → like text (any_run ∷ []) ≡ true
run [] = refl
run (c ∷ text) = run text

-- ---- patterns in a row

some_suffix-append : (f g : List ℕ → Bool) (more : List ℕ) → ((t : List ℕ) → f t ≡ true → g (t ++ more) ≡ true) →
    (t : List ℕ) → some_suffix f t ≡ true → some_suffix g (t ++ more) ≡ true
some_suffix-append f g more h [] e = some_suffix-whole g more (h [] e)
some_suffix-append f g more h (c ∷ t) e =
    or_cases (f (c ∷ t)) (some_suffix f t)
    (λ q. some_suffix-whole g (c ∷ (t ++ more)) (h (c ∷ t) q))
    (λ q. or_right (g (c ∷ (t ++ more))) (some_suffix g (t ++ more)) (some_suffix-append f g more h t q)) e

module _ (further : List ℕ) where
  -- what matches the pattern, with more behind it, matches the pattern with further behind it
  abbrev Joins : List ℕ → List ℕ → Type 0
  Joins more pattern = (text : List ℕ) → like text pattern ≡ true → like (text ++ more) (pattern ++ further) ≡ true

  joined-nil : (more : List ℕ) → like more further ≡ true → Joins more []
  joined-nil more e [] q = e
  joined-nil more e (c ∷ text) q = cc

  joined-other : (more : List ℕ) (p : ℕ) (pattern : List ℕ) → (p == any_run) ≡ false → Joins more pattern → Joins more (p ∷ pattern)
  joined-other more p pattern e next [] q =
      let no : like [] (p ∷ pattern) ≡ false = like-other p pattern e [] in
      cc
  joined-other more p pattern e next (c ∷ text) q =
      let both : (takes p c && like text pattern) ≡ true = sym (like-other p pattern e (c ∷ text)) ∙ q in
      like-taken c (text ++ more) p (pattern ++ further) e (and_parts (takes p c) (like text pattern) both).0
      ∙ next text (and_parts (takes p c) (like text pattern) both).1

  joined-cons : (more : List ℕ) (p : ℕ) (pattern : List ℕ) (b : Bool) → (p == any_run) ≡ b → Joins more pattern → Joins more (p ∷ pattern)
  joined-cons more p pattern true e next text q =
      rw e (some_suffix-append (λ rest. like rest pattern) (λ rest. like rest (pattern ++ further)) more next text (rw e at q))
  joined-cons more p pattern false e next text q = joined-other more p pattern e next text q

  joined-on : (more : List ℕ) → like more further ≡ true → (pattern : List ℕ) → Joins more pattern
  joined-on more e [] = joined-nil more e
  joined-on more e (p ∷ pattern) = joined-cons more p pattern (p == any_run) refl (joined-on more e pattern)

pub joined : (text pattern more further : List ℕ) → like text pattern ≡ true → like more further ≡ true → like (text ++ more) (pattern ++ further) ≡ true
joined text pattern more further e q = joined-on further more q pattern text e

-- ---- two parts

-- the text falls into a front that passes and a back that matches
pub record Parts (passes : List ℕ → Bool) (further text : List ℕ) : Type 0 where
  pub front : List ℕ
  pub back : List ℕ
  pub whole : text ≡ front ++ back
  pub first : passes front ≡ true
  pub second : like back further ≡ true

module _ (further : List ℕ) where
  part-more : (f : List ℕ → Bool) (c : ℕ) (t : List ℕ) → Parts (some_suffix f) further t → Parts (some_suffix f) further (c ∷ t)
  part-more f c t part = record {
    front = c ∷ part.front;
    back = part.back;
    whole = ap (λ xs. c ∷ xs) part.whole;
    first = or_right (f (c ∷ part.front)) (some_suffix f part.front) part.first;
    second = part.second;
  }

  part-here : (f : List ℕ → Bool) (t : List ℕ) → Parts f further t → Parts (some_suffix f) further t
  part-here f t part = record {
    front = part.front;
    back = part.back;
    whole = part.whole;
    first = some_suffix-whole f part.front part.first;
    second = part.second;
  }

  part-suffix : (f g : List ℕ → Bool) → ((t : List ℕ) → g t ≡ true → Parts f further t) → (t : List ℕ) → some_suffix g t ≡ true → Parts (some_suffix f) further t
  part-suffix f g h [] e = part-here f [] (h [] e)
  part-suffix f g h (c ∷ t) e =
      or_cases (g (c ∷ t)) (some_suffix g t) (λ q. part-here f (c ∷ t) (h (c ∷ t) q)) (λ q. part-more f c t (part-suffix f g h t q)) e

  abbrev Parted : List ℕ → Type 0
  Parted pattern = (text : List ℕ) → like text (pattern ++ further) ≡ true → Parts (λ front. like front pattern) further text

  parted-run : (p : ℕ) (pattern : List ℕ) → (p == any_run) ≡ true → Parted pattern → Parted (p ∷ pattern)
  parted-run p pattern e next text q =
      let part : Parts (some_suffix (λ front. like front pattern)) further text =
      part-suffix (λ front. like front pattern) (λ rest. like rest (pattern ++ further)) next text (rw e at q) in
      record { front = part.front; back = part.back; whole = part.whole; first = rw e part.first; second = part.second }

  parted-other : (p : ℕ) (pattern : List ℕ) → (p == any_run) ≡ false → Parted pattern → Parted (p ∷ pattern)
  parted-other p pattern e next [] q =
      let no : like [] (p ∷ (pattern ++ further)) ≡ false = like-other p (pattern ++ further) e [] in
      cc
  parted-other p pattern e next (c ∷ text) q =
      let both : (takes p c && like text (pattern ++ further)) ≡ true = sym (like-other p (pattern ++ further) e (c ∷ text)) ∙ q in
      let part : Parts (λ front. like front pattern) further text = next text (and_parts (takes p c) (like text (pattern ++ further)) both).1 in
      record {
        front = c ∷ part.front;
        back = part.back;
        whole = ap (λ xs. c ∷ xs) part.whole;
        first = like-taken c part.front p pattern e (and_parts (takes p c) (like text (pattern ++ further)) both).0 ∙ part.first;
        second = part.second;
      }

  parted-cons : (p : ℕ) (pattern : List ℕ) (b : Bool) → (p == any_run) ≡ b → Parted pattern → Parted (p ∷ pattern)
  parted-cons p pattern true e next text q = parted-run p pattern e next text q
  parted-cons p pattern false e next text q = parted-other p pattern e next text q

  parted-on : (pattern : List ℕ) → Parted pattern
  parted-on [] text e = record { front = []; back = text; whole = refl; first = refl; second = e }
  parted-on (p ∷ pattern) text e = parted-cons p pattern (p == any_run) refl (parted-on pattern) text e

pub parted : (text pattern further : List ℕ) → like text (pattern ++ further) ≡ true →
    (front : List ℕ) × (back : List ℕ) × (text ≡ front ++ back) × (like front pattern ≡ true) × (like back further ≡ true)
parted text pattern further e =
    let part = parted-on further pattern text e in
    (part.front, part.back, part.whole, part.first, part.second)
