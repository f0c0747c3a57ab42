-- Where and how reading ends depends on the tokens up to the one at which it ends.
use Rattle.std.proofs.Common.{◌≡◌, ℕ, zero, suc, ◌+◌, ◌*◌, ◌≤◌, ◌<◌, Bool, true, false, ◌||◌, cond, List, [], ◌∷◌, ◌++◌, length, Some, inl, inr, refl, sym, ap, subst, ◌∙◌, append_assoc, append-nil, length-append, mul-le-mul_right, ltb-true, arith}
use Rattle.sql_tree.specs.grammar.Rules.{word, token, ◌then◌, ◌or◌, front, optional, many, placed, symbol, Grammar, RuleOf, ValueOf}
use Rattle.sql_tree.specs.grammar.Descent.{Parsed, Taken, Stopped, and_then, mapped, Tables, nullable, next_is, begins_with, start_of, is_flat, fronts, offset_of, take_word, take_token, read}
use Rattle.sql_tree.proofs.Sound.{Claims, Spells}
use Rattle.sql_tree.proofs.Begins.{both_true, has}
use Rattle.sql_tree.proofs.Depth.{below, Below, all_below, no_longer, shorter, read-is}
use Rattle.sql_tree.proofs.Fine.{EndsBefore, IsFine}
use Rattle.sql_tree.proofs.Complete.{IsDecided, by, by-claims, many-is, flat-fronts}
use Rattle.sql_tree.proofs.Swapped.{Swapped, here, there, swapped-longer, swapped-lengths, swapped-longer', swapped, swapped-end, left_of, with_left, Kept, mapped-kept, next_is-swapped, begins_with-swapped}

pub or_false : (a : Bool) → a || false ≡ true → a ≡ true
or_false true e = refl
or_false false e = e

pub left-mapped : {T X Y : Type 0} (f : X → Y) (o : Parsed T X) → left_of (mapped f o) ≡ left_of o
left-mapped f (Taken x m) = refl
left-mapped f (Stopped m) = refl

pub left-with : {T X : Type 0} (us : List T) (o : Parsed T X) → left_of (with_left us o) ≡ us
left-with us (Taken x m) = refl
left-with us (Stopped m) = refl

module _ (g : Grammar) (tables : Tables g) (goes_on : g.Symbol → List g.Sort) (decided : IsDecided g tables goes_on) where
  abbrev reads : (r : RuleOf g) → List g.Token → Parsed g.Token (ValueOf g r)
  reads = by g tables goes_on decided

  left-no_longer : (r : RuleOf g) (ts : List g.Token) (o : Parsed g.Token (ValueOf g r)) → Claims g r ts o → length (left_of o) ≤ length ts
  left-no_longer r ts (Taken x rest) c = no_longer g tables r ts rest x c
  left-no_longer r ts (Stopped rest) c = omega (arith, ap length c.1, length-append c.0 rest)

  read_left : (r : RuleOf g) (ts : List g.Token) → length (left_of (reads r ts)) ≤ length ts
  read_left r ts = left-no_longer r ts (reads r ts) (by-claims g tables goes_on decided r ts)

  flat-split : (r s : RuleOf g) (more : List (List g.Sort)) (ts : List g.Token) → is_flat r ≡ true
      → begins_with g tables (fronts (r then s) ++ more) ts ≡ begins_with g tables (fronts r ++ (fronts s ++ more)) ts
  flat-split r s more ts flat =
      ap (λ l. begins_with g tables (l ++ more) ts) (flat-fronts g tables goes_on decided r s flat)
      ∙ ap (λ l. begins_with g tables l ts) (append_assoc (fronts r) (fronts s) more)

  flat-length : (r s : RuleOf g) → is_flat r ≡ true → length (fronts (r then s)) ≡ length (fronts r) + length (fronts s)
  flat-length r s flat = ap length (flat-fronts g tables goes_on decided r s flat) ∙ length-append (fronts r) (fronts s)

  -- a sequence of single tokens is read where its sorts are in front
  flat-read : (r : RuleOf g) (more : List (List g.Sort)) (ts : List g.Token) → is_flat r ≡ true → begins_with g tables (fronts r ++ more) ts ≡ true
      → (x : ValueOf g r) × (m : List g.Token) × (reads r ts ≡ Taken x m) × (length m + length (fronts r) ≡ length ts) × (begins_with g tables more m ≡ true)
  flat-read (word sort) more [] flat e = absurd cc
  flat-read (word sort) more (t ∷ rest) flat e =
      let parts = both_true {a = has g tables (sort ∷ []) t} {b = begins_with g tables more rest} e in
      (tt, rest, rw (or_false (g.same (g.sort t) sort) parts.0) refl, omega arith, parts.1)
  flat-read (token sorts) more [] flat e = absurd cc
  flat-read (token sorts) more (t ∷ rest) flat e =
      let parts = both_true {a = has g tables sorts t} {b = begins_with g tables more rest} e in
      (t, rest, rw parts.0 refl, omega arith, parts.1)
  flat-read (r then s) more ts flat e =
      let flats = both_true flat in
      let a = flat-read r (fronts s ++ more) ts flats.0 (sym (flat-split r s more ts flats.0) ∙ e) in
      let b = flat-read s more a.1 flats.1 a.4 in
      ((a.0, b.0), b.1, rw (a.2, b.2) refl, omega (arith, a.3, b.3, flat-length r s flats.0), b.4)
  flat-read (r or s) more ts flat e = absurd cc
  flat-read (front r s) more ts flat e = absurd cc
  flat-read (optional r) more ts flat e = absurd cc
  flat-read (many r) more ts flat e = absurd cc
  flat-read (placed r) more ts flat e = absurd cc
  flat-read (symbol n) more ts flat e = absurd cc

  -- so many tokens of the front at least are read
  abbrev IsPast : (r : RuleOf g) → List (List g.Sort) → List g.Token → Type 0
  IsPast r sorts ts = length (left_of (reads r ts)) + length sorts ≤ length ts

  abbrev followed : (r s : RuleOf g) → Parsed g.Token (ValueOf g r) → Parsed g.Token (ValueOf g (r then s))
  followed r s o = and_then o (λ x mid. mapped (λ y. (x, y)) (reads s mid))

  then_left : (r s : RuleOf g) (o : Parsed g.Token (ValueOf g r)) → length (left_of (followed r s o)) ≤ length (left_of o)
  then_left r s (Stopped rest) = omega arith
  then_left r s (Taken x mid) = omega (arith, read_left s mid, ap length (left-mapped {Y = ValueOf g (r then s)} (λ y. (x, y)) (reads s mid)))

  then-past : (r s : RuleOf g) (ts : List g.Token) → (begins_with g tables (fronts r) ts ≡ true → IsPast r (fronts r) ts)
      → ((mid : List g.Token) → begins_with g tables (fronts s) mid ≡ true → IsPast s (fronts s) mid)
      → begins_with g tables (fronts (r then s)) ts ≡ true → IsPast (r then s) (fronts (r then s)) ts
  then-past r s ts one next e = by_flat (is_flat r) refl e where
    by_flat : (f : Bool) → is_flat r ≡ f → begins_with g tables (fronts r ++ cond f (fronts s) []) ts ≡ true → IsPast (r then s) (fronts r ++ cond f (fronts s) []) ts
    by_flat true flat e =
        let a = flat-read r (fronts s) ts flat e in
        let on = ap left_of (ap (followed r s) a.2) ∙ left-mapped {Y = ValueOf g (r then s)} (λ y. (a.0, y)) (reads s a.1) in
        omega (arith, ap length on, next a.1 a.4, a.3, length-append (fronts r) (fronts s))
    by_flat false flat e =
        let same = append-nil (fronts r) in
        let a = one (ap (λ l. begins_with g tables l ts) (sym same) ∙ e) in
        omega (arith, a, then_left r s (reads r ts), ap length same)

  -- the single tokens at the front of a rule are read where their sorts are in front
  front-read : (r : RuleOf g) (ts : List g.Token) → begins_with g tables (fronts r) ts ≡ true → IsPast r (fronts r) ts
  front-read (word sort) ts e = let a = flat-read (word sort) [] ts refl e in omega (arith, a.3, ap length (ap left_of a.2))
  front-read (token sorts) ts e = let a = flat-read (token sorts) [] ts refl e in omega (arith, a.3, ap length (ap left_of a.2))
  front-read (r then s) ts e = then-past r s ts (front-read r ts) (front-read s) e
  front-read (r or s) ts e = omega (arith, read_left (r or s) ts)
  front-read (front r s) ts e = omega (arith, read_left (front r s) ts)
  front-read (optional r) ts e = omega (arith, read_left (optional r) ts)
  front-read (many r) ts e = omega (arith, read_left (many r) ts)
  front-read (placed r) ts e = omega (arith, front-read r ts e, ap length (left-mapped {Y = ValueOf g (placed r)} (λ x. (offset_of g tables ts, x)) (reads r ts)))
  front-read (symbol n) ts e = omega (arith, read_left (symbol n) ts)

  before-left : {X : Type 0} (sorts : List (List g.Sort)) (ts : List g.Token) (o : Parsed g.Token X) → EndsBefore g tables goes_on sorts ts o
      → length (left_of o) + length sorts ≡ suc (length ts)
  before-left sorts ts (Stopped rest) e = e
  before-left sorts ts (Taken x rest) e = e.0

  module _ (t : g.Token) (rest ws : List g.Token) where
    abbrev Swap : List g.Token → List g.Token → Type 0
    Swap = Swapped t rest ws

    abbrev Keeps : {X : Type 0} → Parsed g.Token X → Parsed g.Token X → Type 0
    Keeps = Kept t rest ws

    joined-kept : (r s : RuleOf g) {Z : Type 0} (ts : List g.Token) (o p : Parsed g.Token (ValueOf g r)) (h : ValueOf g r → ValueOf g s → Z)
        → Claims g r ts o → Keeps o p → ((x : ValueOf g r) (m n : List g.Token) → Spells g r ts x m → Swap m n → Keeps (reads s m) (reads s n))
        → Keeps (and_then o (λ x mid. mapped (h x) (reads s mid))) (and_then p (λ x mid. mapped (h x) (reads s mid)))
    joined-kept r s ts (Stopped m) p h c (inl k) next = inl (k.0, k.1, rw k.2 refl)
    joined-kept r s ts (Stopped m) p h c (inr k) next = inr k
    joined-kept r s ts (Taken x m) p h c (inl k) next =
        rw k.2 (mapped-kept t rest ws (h x) (reads s m) (reads s k.0) (next x m k.0 c k.1))
    joined-kept r s ts (Taken x m) p h c (inr k) next =
        let left = ap length (left-mapped (h x) (reads s m)) in
        inr (omega (arith, left, read_left s m))

    cond-kept : {X : Type 0} (a b : Bool) (o p o' p' : Parsed g.Token X) → a ≡ b → Keeps o o' → Keeps p p' → Keeps (cond a o p) (cond b o' p')
    cond-kept a b o p o' p' e k l = subst (λ c. Keeps (cond a o p) (cond c o' p')) e (by_test a) where
      by_test : (a : Bool) → Keeps (cond a o p) (cond a o' p')
      by_test true = k
      by_test false = l

    taken_or_stopped : {X : Type 0} (x : X) (b : Bool) → Keeps (cond b (Taken x rest) (Stopped (t ∷ rest))) (cond b (Taken x ws) (Stopped (t ∷ ws)))
    taken_or_stopped x true = inr (omega arith)
    taken_or_stopped x false = inl (t ∷ ws, here, refl)

    taken_or_stopped_before : {X : Type 0} (x : X) (b : Bool) (u : g.Token) (ts us : List g.Token) → Swap ts us
        → Keeps (cond b (Taken x ts) (Stopped (u ∷ ts))) (cond b (Taken x us) (Stopped (u ∷ us)))
    taken_or_stopped_before x true u ts us s = inl (us, s, refl)
    taken_or_stopped_before x false u ts us s = inl (u ∷ us, there s, refl)

    word-kept : (sort : g.Sort) {ts us : List g.Token} → Swap ts us → Keeps (take_word g tables sort ts) (take_word g tables sort us)
    word-kept sort here = taken_or_stopped tt (g.same (g.sort t) sort)
    word-kept sort (there {x = x} {ts = ts} {us = us} s) = taken_or_stopped_before tt (g.same (g.sort x) sort) x ts us s

    token-kept : (sorts : List g.Sort) {ts us : List g.Token} → Swap ts us → Keeps (take_token g tables sorts ts) (take_token g tables sorts us)
    token-kept sorts here = taken_or_stopped t (has g tables sorts t)
    token-kept sorts (there {x = x} {ts = ts} {us = us} s) = taken_or_stopped_before x (has g tables sorts x) x ts us s

    offset-swapped : {ts us : List g.Token} → Swap ts us → offset_of g tables ts ≡ offset_of g tables us
    offset-swapped here = refl
    offset-swapped (there s) = refl

    -- which way a choice by a front goes
    front-kept : (r s : RuleOf g) (ts us : List g.Token) → IsFine g tables goes_on (front r s) → Swap ts us → Keeps (reads r ts) (reads r us) → Keeps (reads s ts) (reads s us)
        → Keeps (reads (front r s) ts) (reads (front r s) us)
    front-kept r s ts us is swap a b = by_tests (begins_with g tables (fronts r) ts) (begins_with g tables (fronts r) us) refl refl where
      differ : begins_with g tables (fronts r) ts ≡ true → begins_with g tables (fronts r) us ≡ false → length (fronts r) + length rest ≤ length ts → ⊥
      differ e f few = let no : true ≡ false = sym e ∙ begins_with-swapped g tables t rest ws (fronts r) swap few ∙ f in absurd cc

      differ' : begins_with g tables (fronts r) ts ≡ false → begins_with g tables (fronts r) us ≡ true → length (fronts r) + length rest ≤ length ts → ⊥
      differ' e f few = let no : false ≡ true = sym e ∙ begins_with-swapped g tables t rest ws (fronts r) swap few ∙ f in absurd cc

      by_tests : (c d : Bool) → begins_with g tables (fronts r) ts ≡ c → begins_with g tables (fronts r) us ≡ d
          → Keeps (cond c (mapped inl (reads r ts)) (mapped inr (reads s ts))) (cond d (mapped inl (reads r us)) (mapped inr (reads s us)))
      by_tests true true e f = mapped-kept t rest ws inl (reads r ts) (reads r us) a
      by_tests false false e f = mapped-kept t rest ws inr (reads s ts) (reads s us) b
      by_tests true false e f =
          let one = front-read r ts e in
          let far : ¬ (length (fronts r) + length rest ≤ length ts) = differ e f in
          let left = ap length (left-mapped {Y = ValueOf g (front r s)} inl (reads r ts)) in
          inr (omega (arith, left, one))
      by_tests false true e f = past (before-left (fronts r) us (reads s us) (is.2 us f)) b where
        past : length (left_of (reads s us)) + length (fronts r) ≡ suc (length us) → Keeps (reads s ts) (reads s us)
            → Keeps (mapped inr (reads s ts)) (mapped inl (reads r us))
        past stop (inr k) = inr (omega (arith, ap length (left-mapped {Y = ValueOf g (front r s)} inr (reads s ts)), k))
        past stop (inl k) =
            let same : left_of (reads s us) ≡ k.0 = ap left_of k.2 ∙ left-with k.0 (reads s ts) in
            let counts = ap length same in
            let lengths = swapped-lengths t rest ws swap in
            let longer = swapped-longer' t rest ws k.1 in
            absurd (differ' e f (omega (arith, counts, stop, lengths, longer)))

    -- symbols whose calls go less deep than this
    abbrev KeptBelow : ℕ → Type 0
    KeptBelow most = (n : g.Symbol) (ts us : List g.Token) → Swap ts us → length ts * tables.ranks + tables.rank n < most → Keeps (read g tables n ts) (read g tables n us)

    -- a rule's calls go no deeper than this
    abbrev Fits : ℕ → ℕ → List g.Token → Type 0
    Fits most k ts = (length ts * tables.ranks + k ≤ most) × (k ≤ tables.ranks)

    fits-shorter : (most k : ℕ) (ts mid : List g.Token) → length mid ≤ length ts → Fits most k ts → Fits most k mid
    fits-shorter most k ts mid less fits = let more = mul-le-mul_right tables.ranks less in (omega (arith, more, fits.0), fits.1)

    fits-behind : (most k : ℕ) (ts mid : List g.Token) → length mid < length ts → Fits most k ts → Fits most tables.ranks mid
    fits-behind most k ts mid less fits = let more = mul-le-mul_right tables.ranks less in (omega (arith, more, fits.0), omega arith)

    module _ (most : ℕ) (below_most : KeptBelow most) where
      abbrev RuleKept : RuleOf g → Type 0
      RuleKept r = (k : ℕ) (ts us : List g.Token) → Swap ts us → Below g tables k r → Fits most k ts → Keeps (reads r ts) (reads r us)

      then-kept : (r s : RuleOf g) → RuleKept r → RuleKept s → RuleKept (r then s)
      then-kept r s a b k ts us swap lower fits =
          joined-kept r s ts (reads r ts) (reads r us) (λ x y. (x, y)) (by-claims g tables goes_on decided r ts) (a k ts us swap parts.0 fits)
          (λ x m n spells swap'. by_empty (nullable tables.empty r) refl parts.1 x m n spells swap')
        where
          parts : Below g tables k r × (cond (nullable tables.empty r) (below tables.empty tables.rank k s) true ≡ true)
          parts = both_true lower

          by_empty : (empty : Bool) → nullable tables.empty r ≡ empty → cond empty (below tables.empty tables.rank k s) true ≡ true
              → (x : ValueOf g r) (m n : List g.Token) → Spells g r ts x m → Swap m n → Keeps (reads s m) (reads s n)
          by_empty true e lower' x m n spells swap' = b k m n swap' lower' (fits-shorter most k ts m (no_longer g tables r ts m x spells) fits)
          by_empty false e lower' x m n spells swap' =
              b tables.ranks m n swap' (all_below g tables decided.falls s) (fits-behind most k ts m (shorter g tables decided.has_begins r ts m x e spells) fits)

      many-kept : (r : RuleOf g) → nullable tables.empty r ≡ false → RuleKept r → (count : ℕ) (k : ℕ) (ts us : List g.Token) → length ts ≤ count → Swap ts us → Below g tables k r → Fits most k ts
          → Keeps (reads (many r) ts) (reads (many r) us)
      many-kept r full a zero k ts us few swap lower fits = let longer = swapped-longer t rest ws swap in absurd (omega arith)
      many-kept r full a (suc count) k ts us few swap lower fits =
          rw (many-is g tables goes_on decided r full ts, many-is g tables goes_on decided r full us)
          (cond-kept (next_is g tables (start_of g tables r) ts) (next_is g tables (start_of g tables r) us) _ _ _ _
          (next_is-swapped g tables t rest ws (start_of g tables r) swap)
          (joined-kept r (many r) ts (reads r ts) (reads r us) (λ x xs. x ∷ xs) (by-claims g tables goes_on decided r ts) (a k ts us swap lower fits)
          (λ x m n spells swap'.
          let less = shorter g tables decided.has_begins r ts m x full spells in
          many-kept r full a count k m n (omega arith) swap' lower (fits-shorter most k ts m (omega arith) fits)))
          (inl (us, swap, refl)))

      or-kept : (r s : RuleOf g) → RuleKept r → RuleKept s → RuleKept (r or s)
      or-kept r s a b k ts us swap lower fits =
          let parts = both_true lower in
          cond-kept (next_is g tables (start_of g tables r) ts) (next_is g tables (start_of g tables r) us) _ _ _ _
          (next_is-swapped g tables t rest ws (start_of g tables r) swap)
          (mapped-kept t rest ws inl (reads r ts) (reads r us) (a k ts us swap parts.0 fits))
          (mapped-kept t rest ws inr (reads s ts) (reads s us) (b k ts us swap parts.1 fits))

      rule-kept : (r : RuleOf g) → IsFine g tables goes_on r → RuleKept r
      rule-kept (word sort) is k ts us swap lower fits = word-kept sort swap
      rule-kept (token sorts) is k ts us swap lower fits = token-kept sorts swap
      rule-kept (r then s) is k ts us swap lower fits = then-kept r s (rule-kept r is.0) (rule-kept s is.1) k ts us swap lower fits
      rule-kept (r or s) is k ts us swap lower fits = or-kept r s (rule-kept r is.0) (rule-kept s is.1) k ts us swap lower fits
      rule-kept (front r s) is k ts us swap lower fits =
          let parts = both_true lower in
          front-kept r s ts us is swap (rule-kept r is.0 k ts us swap parts.0 fits) (rule-kept s is.1 k ts us swap parts.1 fits)
      rule-kept (optional r) is k ts us swap lower fits =
          cond-kept (next_is g tables (start_of g tables r) ts) (next_is g tables (start_of g tables r) us) _ _ _ _
          (next_is-swapped g tables t rest ws (start_of g tables r) swap)
          (mapped-kept t rest ws Some (reads r ts) (reads r us) (rule-kept r is.0 k ts us swap lower fits))
          (inl (us, swap, refl))
      rule-kept (many r) is k ts us swap lower fits = many-kept r is.1 (rule-kept r is.0) (length ts) k ts us (omega arith) swap lower fits
      rule-kept (placed r) is k ts us swap lower fits =
          rw (offset-swapped swap) (mapped-kept t rest ws (λ x. (offset_of g tables us, x)) (reads r ts) (reads r us) (rule-kept r is.0 k ts us swap lower fits))
      rule-kept (symbol n) is k ts us swap lower fits =
          below_most n ts us swap (omega (arith, fits.0, ltb-true (tables.rank n) k lower))

    kept_below : (most : ℕ) → KeptBelow most
    kept_below zero n ts us swap less = absurd (omega arith)
    kept_below (suc most) n ts us swap less =
        rw (read-is g tables decided.told decided.has_begins decided.falls n ts, read-is g tables decided.told decided.has_begins decided.falls n us)
        (mapped-kept t rest ws (g.build n) (reads (g.body n) ts) (reads (g.body n) us)
        (rule-kept most (kept_below most) (g.body n) (decided.fine n) (tables.rank n) ts us swap (decided.falls.falls n)
        (omega arith, let ranked = decided.falls.ranked n in omega arith)))

  -- reading that ends before or at a token is the same whatever stands behind that token
  pub local : (n : g.Symbol) (us : List g.Token) (t : g.Token) (rest ws : List g.Token) → left_of (read g tables n (us ++ t ∷ rest)) ≡ t ∷ rest
      → read g tables n (us ++ t ∷ ws) ≡ with_left (t ∷ ws) (read g tables n (us ++ t ∷ rest))
  local n us t rest ws e =
      by_case (kept_below t rest ws (suc (length (us ++ t ∷ rest) * tables.ranks + tables.rank n)) n (us ++ t ∷ rest) (us ++ t ∷ ws) (swapped t rest ws us) (omega arith)) where
        by_case : Kept t rest ws (read g tables n (us ++ t ∷ rest)) (read g tables n (us ++ t ∷ ws)) → read g tables n (us ++ t ∷ ws) ≡ with_left (t ∷ ws) (read g tables n (us ++ t ∷ rest))
        by_case (inl k) = k.2 ∙ ap (λ l. with_left l (read g tables n (us ++ t ∷ rest))) (swapped-end t rest ws k.1 (omega (arith, ap length e)))
        by_case (inr k) = absurd (omega (arith, k, ap length e))
