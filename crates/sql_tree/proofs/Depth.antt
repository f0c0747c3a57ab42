-- Reading a symbol goes as deep as it needs: what is read doesn't hang on the number of calls.
use Rattle.std.proofs.Common.{◌≡◌, ℕ, zero, suc, ◌+◌, ◌*◌, ◌≤◌, ◌<◌, Bool, true, false, ◌&&◌, cond, List, [], ◌∷◌, ◌++◌, length, refl, sym, ap, ◌∙◌, length-append, mul-le-mul_right, ltb, lt-ltb, ltb-true, arith}
use Rattle.sql_tree.specs.grammar.Rules.{Rule, word, token, ◌then◌, ◌or◌, front, optional, many, placed, symbol, Grammar, RuleOf, ValueOf}
use Rattle.sql_tree.specs.grammar.Descent.{Parsed, Taken, Stopped, and_then, mapped, Tables, nullable, next_is, start_of, repeated, step, reading_to, read}
use Rattle.sql_tree.proofs.Sound.{IsTold, Claims, Spells, step-claims, reading-claims}
use Rattle.sql_tree.proofs.Begins.{both_true, HasBegins, Begins, begins}

-- the symbols that a rule may call before it takes a token have ranks below this
abbrev pub below : {Sort Symbol : Type 0} → (Symbol → Bool) → (Symbol → ℕ) → ℕ → Rule Sort Symbol → Bool
below empty rank k (word sort) = true
below empty rank k (token sorts) = true
below empty rank k (r then s) = below empty rank k r && cond (nullable empty r) (below empty rank k s) true
below empty rank k (r or s) = below empty rank k r && below empty rank k s
below empty rank k (front r s) = below empty rank k r && below empty rank k s
below empty rank k (optional r) = below empty rank k r
below empty rank k (many r) = below empty rank k r
below empty rank k (placed r) = below empty rank k r
below empty rank k (symbol n) = ltb (rank n) k

module _ (g : Grammar) (tables : Tables g) where
  abbrev pub Below : ℕ → RuleOf g → Type 0
  Below k r = below tables.empty tables.rank k r ≡ true

  pub record Falls : Type 0 where
    pub ranked : (n : g.Symbol) → tables.rank n < tables.ranks
    pub falls : (n : g.Symbol) → Below (tables.rank n) (g.body n)

  always : (b : Bool) → cond b true true ≡ true
  always true = refl
  always false = refl

  pub all_below : Falls → (r : RuleOf g) → Below tables.ranks r
  all_below h (word sort) = refl
  all_below h (token sorts) = refl
  all_below h (r then s) = rw (all_below h r, all_below h s) (always (nullable tables.empty r))
  all_below h (r or s) = rw (all_below h r, all_below h s) refl
  all_below h (front r s) = rw (all_below h r, all_below h s) refl
  all_below h (optional r) = all_below h r
  all_below h (many r) = all_below h r
  all_below h (placed r) = all_below h r
  all_below h (symbol n) = lt-ltb (tables.rank n) tables.ranks (h.ranked n)

  -- what a rule takes leaves no more tokens, and fewer where it can't be nothing
  pub no_longer : (r : RuleOf g) (ts mid : List g.Token) (x : ValueOf g r) → Spells g r ts x mid → length mid ≤ length ts
  no_longer r ts mid x c = omega (arith, ap length c.1, length-append c.0 mid)

  pub shorter : HasBegins g tables → (r : RuleOf g) (ts mid : List g.Token) (x : ValueOf g r) → nullable tables.empty r ≡ false → Spells g r ts x mid → length mid < length ts
  shorter h r ts mid x full c = by_front c.0 c.1 (begins g tables h c.2) where
    by_front : (us : List g.Token) → ts ≡ us ++ mid → Begins g tables r us → length mid < length ts
    by_front [] e b = let no : true ≡ false = sym b ∙ full in absurd cc
    by_front (t ∷ us) e b = omega (arith, ap length e, length-append us mid)

  -- two ways to read symbols that are alike below a bound
  abbrev Alike : ((n : g.Symbol) → List g.Token → Parsed g.Token (g.Tree n)) → ((n : g.Symbol) → List g.Token → Parsed g.Token (g.Tree n)) → ℕ → Type 0
  Alike c d most = (n : g.Symbol) (ts : List g.Token) → length ts * tables.ranks + tables.rank n < most → c n ts ≡ d n ts

  pub and_then-alike : (r : RuleOf g) {Y : Type 0} (ts : List g.Token) (o : Parsed g.Token (ValueOf g r)) (f h : ValueOf g r → List g.Token → Parsed g.Token Y)
      → Claims g r ts o → ((x : ValueOf g r) (mid : List g.Token) → Spells g r ts x mid → f x mid ≡ h x mid) → and_then o f ≡ and_then o h
  and_then-alike r ts (Taken x mid) f h c e = e x mid c
  and_then-alike r ts (Stopped rest) f h c e = refl

  module _ (told : IsTold g) (has_begins : HasBegins g tables) (falls : Falls)
      (c d : (n : g.Symbol) → List g.Token → Parsed g.Token (g.Tree n)) (claims : (n : g.Symbol) (ts : List g.Token) → Claims g (symbol n) ts (c n ts))
      (most : ℕ) (alike : Alike c d most) where
    repeated-alike : (r : RuleOf g) (k : ℕ) (sorts : List g.Sort)
        → ((ts : List g.Token) → length ts * tables.ranks + k ≤ most → step g tables c r ts ≡ step g tables d r ts)
        → (count : ℕ) (ts : List g.Token) → length ts * tables.ranks + k ≤ most
        → repeated g tables sorts (step g tables c r) count ts ≡ repeated g tables sorts (step g tables d r) count ts
    unfolding repeated
    repeated-alike r k sorts same zero ts small = refl
    repeated-alike r k sorts same (suc count) ts small =
        ap (λ o. cond (next_is g tables sorts ts) o (Taken [] ts))
        (and_then-alike r ts (step g tables c r ts) _ _ (step-claims g tables told c claims r ts)
        (λ x mid spells.
        let less = mul-le-mul_right tables.ranks (no_longer r ts mid x spells) in
        ap (mapped (λ xs. x ∷ xs)) (repeated-alike r k sorts same count mid (omega (arith, less))))
        ∙ ap (λ o. and_then o (λ x mid. mapped (λ xs. x ∷ xs) (repeated g tables sorts (step g tables d r) count mid))) (same ts small))

    then-alike : (r s : RuleOf g) (k : ℕ) (ts : List g.Token) → length ts * tables.ranks + k ≤ most → k ≤ tables.ranks
        → cond (nullable tables.empty r) (below tables.empty tables.rank k s) true ≡ true
        → step g tables c r ts ≡ step g tables d r ts
        → ((k : ℕ) (mid : List g.Token) → Below k s → length mid * tables.ranks + k ≤ most → k ≤ tables.ranks → step g tables c s mid ≡ step g tables d s mid)
        → step g tables c (r then s) ts ≡ step g tables d (r then s) ts
    then-alike r s k ts small few lower one next =
        and_then-alike r ts (step g tables c r ts) _ _ (step-claims g tables told c claims r ts)
        (λ x mid spells. ap (mapped (λ y. (x, y))) (by_empty (nullable tables.empty r) refl lower x mid spells))
        ∙ ap (λ o. and_then o (λ x mid. mapped (λ y. (x, y)) (step g tables d s mid))) one
      where
        by_empty : (b : Bool) → nullable tables.empty r ≡ b → cond b (below tables.empty tables.rank k s) true ≡ true
            → (x : ValueOf g r) (mid : List g.Token) → Spells g r ts x mid → step g tables c s mid ≡ step g tables d s mid
        by_empty true e lower' x mid spells =
            let less = mul-le-mul_right tables.ranks (no_longer r ts mid x spells) in
            next k mid lower' (omega (arith, less)) few
        by_empty false e lower' x mid spells =
            let less = mul-le-mul_right tables.ranks (shorter has_begins r ts mid x e spells) in
            next tables.ranks mid (all_below falls s) (omega (arith, less)) (omega arith)

    step-alike : (r : RuleOf g) (k : ℕ) (ts : List g.Token) → Below k r → length ts * tables.ranks + k ≤ most → k ≤ tables.ranks → step g tables c r ts ≡ step g tables d r ts
    step-alike (word sort) k ts lower small few = refl
    step-alike (token sorts) k ts lower small few = refl
    step-alike (r then s) k ts lower small few =
        let parts = both_true lower in
        then-alike r s k ts small few parts.1 (step-alike r k ts parts.0 small few) (step-alike s)
    step-alike (r or s) k ts lower small few =
        let parts = both_true lower in
        rw (step-alike r k ts parts.0 small few, step-alike s k ts parts.1 small few) refl
    step-alike (front r s) k ts lower small few =
        let parts = both_true lower in
        rw (step-alike r k ts parts.0 small few, step-alike s k ts parts.1 small few) refl
    step-alike (optional r) k ts lower small few = rw (step-alike r k ts lower small few) refl
    step-alike (many r) k ts lower small few = repeated-alike r k (start_of g tables r) (λ us small'. step-alike r k us lower small' few) (length ts) ts small
    step-alike (placed r) k ts lower small few = rw (step-alike r k ts lower small few) refl
    step-alike (symbol n) k ts lower small few = alike n ts (omega (arith, ltb-true (tables.rank n) k lower))

  module _ (told : IsTold g) (has_begins : HasBegins g tables) (falls : Falls) where
    pub deep_enough : (c d : ℕ) (n : g.Symbol) (ts : List g.Token) → length ts * tables.ranks + tables.rank n < c → length ts * tables.ranks + tables.rank n < d
        → reading_to g tables c n ts ≡ reading_to g tables d n ts
    unfolding reading_to
    deep_enough zero d n ts a b = absurd (omega arith)
    deep_enough (suc c) zero n ts a b = absurd (omega arith)
    deep_enough (suc c) (suc d) n ts a b =
        ap (mapped (g.build n))
        (step-alike told has_begins falls (reading_to g tables c) (reading_to g tables d) (reading-claims g tables told c)
        (length ts * tables.ranks + tables.rank n) (λ m us less. deep_enough c d m us (omega arith) (omega arith))
        (g.body n) (tables.rank n) ts (falls.falls n) (omega arith) (let h = falls.ranked n in omega arith))

    -- a symbol is read by its rule
    pub read-is : (n : g.Symbol) (ts : List g.Token) → read g tables n ts ≡ mapped (g.build n) (step g tables (read g tables) (g.body n) ts)
    unfolding read reading_to
    read-is n ts =
        let most : ℕ = length ts * tables.ranks + tables.rank n in
        ap (mapped (g.build n))
        (step-alike told has_begins falls (reading_to g tables most) (read g tables) (reading-claims g tables told most)
        most (λ m us less. deep_enough most (suc (length us * tables.ranks + tables.rank m)) m us (omega arith) (omega arith))
        (g.body n) (tables.rank n) ts (falls.falls n) (omega arith) (let h = falls.ranked n in omega arith))

  pub read-claims : IsTold g → (n : g.Symbol) (ts : List g.Token) → Claims g (symbol n) ts (read g tables n ts)
  unfolding read
  read-claims told n ts = reading-claims g tables told (suc (length ts * tables.ranks + tables.rank n)) n ts
