-- A list as a loop reads it, item by item.
use Rattle.std.proofs.Common.{◌≡◌, ℕ, zero, suc, ◌≤◌, ◌<◌, Bool, true, false, cond, List, [], ◌∷◌, ◌++◌, length, map, refl, sym, ap, ◌∙◌, append_assoc, append-nil, arith}
use Rattle.sql_lexer.specs.declared.token.Token.{Token}
use Rattle.sql_tree.specs.grammar.Building.{Word, items}
use Rattle.std.proofs.Common.{Err}
use Rattle.sql_tree.specs.grammar.Cursors.{sees, past, Reads}
use Rattle.sql_tree.specs.grammar.Descent.{Parsed, Taken, Stopped, and_then, mapped, repeated}
use Rattle.sql_tree.specs.grammar.Grammar.{sql}
use Rattle.sql_tree.specs.grammar.Lists.{all_of, behind, others, listed, more_listed}
use Rattle.sql_tree.specs.grammar.Sorts.{sort_of, same_sort}
use Rattle.sql_tree.specs.grammar.Tables.{sql_tables}
use Rattle.sql_tree.specs.declared.grammar.unread.Unread.{Unread}
use Rattle.sql_tree.specs.declared.grammar.unread.Unread.TheVariants.{Unexpected, NoMemory}
use Rattle.sql_tree.specs.declared.grammar.sort.Sort.{Sort}

pub mapped-mapped : {X Y Z : Type 0} (f : Y → Z) (g : X → Y) (h : X → Z) → ((x : X) → f (g x) ≡ h x) → (o : Parsed Token X) → mapped f (mapped g o) ≡ mapped h o
mapped-mapped f g h e (Taken x rest) = ap (λ z. Taken z rest) (e x)
mapped-mapped f g h e (Stopped rest) = refl

-- what is read leaves no more tokens
pub record Keeps {X : Type 0} (one : List Token → Parsed Token X) : Type 0 where
  pub fewer : (old : List Token) (x : X) (new : List Token) → one old ≡ Taken x new → length new ≤ length old

-- what is read takes a token
pub record Takes {X : Type 0} (one : List Token → Parsed Token X) : Type 0 where
  pub fewer : (old : List Token) (x : X) (new : List Token) → one old ≡ Taken x new → length new < length old

module _ {X : Type 0} (sorts : List Sort) (one : List Token → Parsed Token X) where
  abbrev pub repeats : ℕ → List Token → Parsed Token (List X)
  repeats count ts = repeated sql sql_tables sorts one count ts

  onward : (takes : Takes one) (c d : ℕ) (ts : List Token)
      → ((rest : List Token) → length rest < length ts → repeats c rest ≡ repeats d rest)
      → (o : Parsed Token X) → one ts ≡ o
      → and_then o (λ x rest. mapped (λ xs. x ∷ xs) (repeats c rest)) ≡ and_then o (λ x rest. mapped (λ xs. x ∷ xs) (repeats d rest))
  onward takes c d ts same (Stopped rest) e = refl
  onward takes c d ts same (Taken x rest) e = ap (mapped (λ xs. x ∷ xs)) (same rest (takes.fewer ts x rest e))

  -- the number is enough where it is no less than the number of tokens
  pub enough : Takes one → (c d : ℕ) (ts : List Token) → length ts ≤ c → length ts ≤ d → repeats c ts ≡ repeats d ts
  unfolding repeated
  enough takes zero zero ts a b = refl
  enough takes zero (suc d) [] a b = refl
  enough takes zero (suc d) (t ∷ ts) a b = absurd (omega arith)
  enough takes (suc c) zero [] a b = refl
  enough takes (suc c) zero (t ∷ ts) a b = absurd (omega arith)
  enough takes (suc c) (suc d) ts a b =
      ap (λ o. cond (sees sorts ts) o (Taken [] ts))
      (onward takes c d ts (λ rest less. enough takes c d rest (omega arith) (omega arith)) (one ts) refl)

  pub all_of-step : Takes one → (ts : List Token) → sees sorts ts ≡ true
      → all_of sorts one ts ≡ and_then (one ts) (λ x rest. mapped (λ xs. x ∷ xs) (all_of sorts one rest))
  unfolding repeated
  all_of-step takes [] e = absurd cc
  all_of-step takes (t ∷ ts) e =
      rw e (by_outcome (one (t ∷ ts)) refl) where
        by_outcome : (o : Parsed Token X) → one (t ∷ ts) ≡ o
            → and_then o (λ x rest. mapped (λ xs. x ∷ xs) (repeats (length ts) rest)) ≡ and_then o (λ x rest. mapped (λ xs. x ∷ xs) (all_of sorts one rest))
        by_outcome (Stopped rest) e = refl
        by_outcome (Taken x rest) e =
            let h = takes.fewer (t ∷ ts) x rest e in
            ap (mapped (λ xs. x ∷ xs)) (enough takes (length ts) (length rest) rest (omega arith) (omega arith))

  pub all_of-done : (ts : List Token) → sees sorts ts ≡ false → all_of sorts one ts ≡ Taken [] ts
  unfolding repeated
  all_of-done [] e = refl
  all_of-done (t ∷ ts) e = rw e refl

module _ {X : Type 0} (separator : Sort) (one : List Token → Parsed Token X) where
  pub behind-takes : Keeps one → Takes (behind separator one)
  behind-takes keeps = record { fewer = go } where
    by_one : (ts mid : List Token) (y : Word × X) (new : List Token) (o : Parsed Token X) → one mid ≡ o → mapped (λ x. (tt, x)) o ≡ Taken y new → length new ≤ length mid
    by_one ts mid y new (Taken x rest) e f = let g : rest ≡ new = cc in omega (arith, keeps.fewer mid x rest e, ap length g)
    by_one ts mid y new (Stopped rest) e f = absurd cc

    by_sort : (t : Token) (ts : List Token) (y : Word × X) (new : List Token) (b : Bool) → same_sort (sort_of t) separator ≡ b
        → and_then (cond b (Taken tt ts) (Stopped (t ∷ ts))) (λ word rest. mapped (λ x. (word, x)) (one rest)) ≡ Taken y new → length new < suc (length ts)
    by_sort t ts y new true e f = omega (arith, by_one (t ∷ ts) ts y new (one ts) refl f)
    by_sort t ts y new false e f = absurd cc

    go : (old : List Token) (y : Word × X) (new : List Token) → behind separator one old ≡ Taken y new → length new < length old
    go [] y new e = absurd cc
    go (t ∷ ts) y new e = by_sort t ts y new (same_sort (sort_of t) separator) refl e

  -- the whole is what was found, and what is still to be read
  pub record Amid (whole : Parsed Token (List X)) (found : List X) (ts : List Token) : Type 0 where
    pub is : whole ≡ mapped (λ xs. found ++ map (λ m. m.1) xs) (others separator one ts)

  pub Amid-first : (first : X) (ts : List Token) → Amid (more_listed separator one first ts) ([] ++ first ∷ []) ts
  Amid-first first ts = record { is = refl }

  -- a list is read of its first item and of what stands behind it
  pub listed-first : (ts mid : List Token) (x : X) → one ts ≡ Taken x mid → listed separator one ts ≡ more_listed separator one x mid
  listed-first ts mid x e =
      ap (λ o. mapped items (and_then o (λ x rest. mapped (λ xs. (x, xs)) (others separator one rest)))) e
      ∙ mapped-mapped items (λ xs. (x, xs)) (λ xs. items (x, xs)) (λ xs. refl) (others separator one mid)

  pub listed-stopped : (ts rest : List Token) → one ts ≡ Stopped rest → listed separator one ts ≡ Stopped rest
  listed-stopped ts rest e = rw e refl

  next : Keeps one → (ts mid : List Token) → sees (separator ∷ []) ts ≡ true → past separator ts ≡ Taken tt mid
      → others separator one ts ≡ and_then (mapped (λ x. (tt, x)) (one mid)) (λ x rest. mapped (λ xs. x ∷ xs) (others separator one rest))
  next keeps ts mid seen e =
      all_of-step (separator ∷ []) (behind separator one) (behind-takes keeps) ts seen
      ∙ ap (λ o. and_then (and_then o (λ word rest. mapped (λ x. (word, x)) (one rest))) (λ x rest. mapped (λ xs. x ∷ xs) (others separator one rest))) e

  pub Amid-next : Keeps one → (whole : Parsed Token (List X)) (found : List X) (ts mid rest : List Token) (x : X)
      → sees (separator ∷ []) ts ≡ true → past separator ts ≡ Taken tt mid → one mid ≡ Taken x rest
      → Amid whole found ts → Amid whole (found ++ x ∷ []) rest
  Amid-next keeps whole found ts mid rest x seen e f amid = record {
    is = amid.is
        ∙ ap (mapped (λ xs. found ++ map (λ m. m.1) xs)) (next keeps ts mid seen e ∙ ap (λ o. and_then (mapped (λ x. (tt, x)) o) (λ x rest. mapped (λ xs. x ∷ xs) (others separator one rest))) f)
        ∙ mapped-mapped (λ xs. found ++ map (λ m. m.1) xs) (λ xs. (tt, x) ∷ xs) (λ xs. (found ++ x ∷ []) ++ map (λ m. m.1) xs)
        (λ xs. sym (append_assoc found (x ∷ []) (map (λ m. m.1) xs))) (others separator one rest);
  }

  pub Amid-stopped : Keeps one → (whole : Parsed Token (List X)) (found : List X) (ts mid rest : List Token)
      → sees (separator ∷ []) ts ≡ true → past separator ts ≡ Taken tt mid → one mid ≡ Stopped rest
      → Amid whole found ts → whole ≡ Stopped rest
  Amid-stopped keeps whole found ts mid rest seen e f amid =
      amid.is
      ∙ ap (mapped (λ xs. found ++ map (λ m. m.1) xs)) (next keeps ts mid seen e ∙ ap (λ o. and_then (mapped (λ x. (tt, x)) o) (λ x rest. mapped (λ xs. x ∷ xs) (others separator one rest))) f)

  pub Amid-done : (whole : Parsed Token (List X)) (found : List X) (ts : List Token) → sees (separator ∷ []) ts ≡ false
      → Amid whole found ts → whole ≡ Taken found ts
  Amid-done whole found ts unseen amid =
      amid.is
      ∙ ap (mapped (λ xs. found ++ map (λ m. m.1) xs)) (all_of-done (separator ∷ []) (behind separator one) ts unseen)
      ∙ ap (λ l. Taken l ts) (append-nil found)

-- where a part fails, so does the whole
pub fails-on : {X Y : Type 0} (unread : Unread) (o : Parsed Token X) (p : Parsed Token Y) (rest : List Token)
    → (o ≡ Stopped rest → p ≡ Stopped rest) → Reads (Err unread) o rest → Reads (Err unread) p rest
fails-on Unexpected o p rest onward e = onward e
fails-on NoMemory o p rest onward e = tt

module _ {X : Type 0} (sorts : List Sort) (one : List Token → Parsed Token X) where
  -- the whole is what was found, and all that is still to be read
  pub record Within (whole : Parsed Token (List X)) (found : List X) (ts : List Token) : Type 0 where
    pub is : whole ≡ mapped (λ xs. found ++ xs) (all_of sorts one ts)

  pub Within-next : Takes one → (whole : Parsed Token (List X)) (found : List X) (ts rest : List Token) (x : X)
      → sees sorts ts ≡ true → one ts ≡ Taken x rest → Within whole found ts → Within whole (found ++ x ∷ []) rest
  Within-next takes whole found ts rest x seen e within = record {
    is = within.is
        ∙ ap (mapped (λ xs. found ++ xs)) (all_of-step sorts one takes ts seen ∙ ap (λ o. and_then o (λ x rest. mapped (λ xs. x ∷ xs) (all_of sorts one rest))) e)
        ∙ mapped-mapped (λ xs. found ++ xs) (λ xs. x ∷ xs) (λ xs. (found ++ x ∷ []) ++ xs) (λ xs. sym (append_assoc found (x ∷ []) xs)) (all_of sorts one rest);
  }

  pub Within-stopped : Takes one → (whole : Parsed Token (List X)) (found : List X) (ts rest : List Token)
      → sees sorts ts ≡ true → one ts ≡ Stopped rest → Within whole found ts → whole ≡ Stopped rest
  Within-stopped takes whole found ts rest seen e within =
      within.is
      ∙ ap (mapped (λ xs. found ++ xs)) (all_of-step sorts one takes ts seen ∙ ap (λ o. and_then o (λ x rest. mapped (λ xs. x ∷ xs) (all_of sorts one rest))) e)

  pub Within-done : (whole : Parsed Token (List X)) (found : List X) (ts : List Token) → sees sorts ts ≡ false → Within whole found ts → whole ≡ Taken found ts
  Within-done whole found ts unseen within =
      within.is ∙ ap (mapped (λ xs. found ++ xs)) (all_of-done sorts one ts unseen) ∙ ap (λ l. Taken l ts) (append-nil found)
