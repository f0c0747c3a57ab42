-- Where reading stops, the tokens before begin something that the rule spells.
use Rattle.std.proofs.Common.{◌≡◌, ℕ, zero, suc, Bool, true, false, ◌&&◌, cond, List, [], ◌∷◌, ◌++◌, length, Option, Some, None, is_some, option_map, inl, inr, refl, sym, ap, subst, ◌∙◌, append_assoc, arith}
use Rattle.sql_tree.specs.grammar.Rules.{Rule, word, token, ◌then◌, ◌or◌, front, optional, many, placed, symbol, Grammar, RuleOf, ValueOf, Spelled, a_word, a_token, both, first, second, front_first, front_second, absent, present, no_more, one_more, at_place, as_symbol}
use Rattle.sql_tree.specs.grammar.Descent.{Parsed, Taken, Stopped, and_then, mapped, Tables, next_is, begins_with, start_of, fronts, offset_of, take_word, take_token, repeated, step, reading_to, read}
use Rattle.sql_tree.proofs.Sound.{IsTold, Claims, Spells, step-claims, reading-claims}
use Rattle.sql_tree.proofs.Begins.{both_true}

-- each token that a rule names is of some sort
abbrev pub filled : {Sort Symbol : Type 0} → Rule Sort Symbol → Bool
filled (word sort) = true
filled (token []) = false
filled (token (sort ∷ sorts)) = true
filled (r then s) = filled r && filled s
filled (r or s) = filled r && filled s
filled (front r s) = filled r && filled s
filled (optional r) = filled r
filled (many r) = filled r
filled (placed r) = filled r
filled (symbol n) = true

pub from_some : {A : Type 0} (o : Option A) → is_some o ≡ true → A
from_some None e = absurd cc
from_some (Some a) e = a

module _ (g : Grammar) where
  abbrev pub IsSampled : RuleOf g → Type 0
  IsSampled r = (us : List g.Token) × (x : ValueOf g r) × Spelled g r us x

  -- there is a token of each sort, and something that each symbol spells
  pub record HasSamples : Type 0 where
    pub token_for : g.Sort → g.Token
    pub sorted : (sort : g.Sort) → g.sort (token_for sort) ≡ sort
    pub filled : (n : g.Symbol) → filled (g.body n) ≡ true
    pub sampled : (n : g.Symbol) → IsSampled (symbol n)

  -- the tokens before the rest begin something that the rule spells
  abbrev pub IsViable : RuleOf g → List g.Token → List g.Token → Type 0
  IsViable r ts rest = (us ws : List g.Token) × (x : ValueOf g r) × (ts ≡ us ++ rest) × Spelled g r (us ++ ws) x

  abbrev pub Viable : (r : RuleOf g) → List g.Token → Parsed g.Token (ValueOf g r) → Type 0
  Viable r ts (Taken x rest) = Unit {0}
  Viable r ts (Stopped rest) = IsViable r ts rest

  abbrev pub placed_sample : (r : RuleOf g) (us : List g.Token) (x : ValueOf g r) → Spelled g r us x → (offset : ℕ) × Spelled g (placed r) us (offset, x)
  placed_sample r [] x a = (0, at_place a tt)
  placed_sample r (t ∷ us) x a = (g.offset t, at_place a refl)

  -- the first alternatives of a rule, where the symbols have this
  module _ (token_for : g.Sort → g.Token) (sorted : (sort : g.Sort) → g.sort (token_for sort) ≡ sort) where
    sample_by : ((n : g.Symbol) → Option (IsSampled (symbol n))) → (r : RuleOf g) → Option (IsSampled r)
    sample_by calls (word sort) = Some (token_for sort ∷ [], tt, a_word (sorted sort))
    sample_by calls (token []) = None
    sample_by calls (token (sort ∷ sorts)) = Some (token_for sort ∷ [], token_for sort, a_token (0, omega arith, sym (sorted sort)))
    sample_by calls (r then s) = paired (sample_by calls r) (sample_by calls s) where
      paired : Option (IsSampled r) → Option (IsSampled s) → Option (IsSampled (r then s))
      paired None b = None
      paired (Some a) None = None
      paired (Some a) (Some b) = Some (a.0 ++ b.0, (a.1, b.1), both a.2 b.2)
    sample_by calls (r or s) = option_map (λ a. (a.0, inl a.1, first a.2)) (sample_by calls r)
    sample_by calls (front r s) = option_map (λ a. (a.0, inl a.1, front_first a.2)) (sample_by calls r)
    sample_by calls (optional r) = Some ([], None, absent)
    sample_by calls (many r) = Some ([], [], no_more)
    sample_by calls (placed r) = option_map (λ a. let b = placed_sample r a.0 a.1 a.2 in (a.0, (b.0, a.1), b.1)) (sample_by calls r)
    sample_by calls (symbol n) = calls n

    -- the same for symbols, no deeper than this number of calls
    unfoldable pub sampler : ℕ → (n : g.Symbol) → Option (IsSampled (symbol n))
    unfolding sample_by
    sampler zero n = None
    sampler (suc depth) n = option_map (λ a. (a.0, g.build n a.1, as_symbol a.2)) (sample_by (sampler depth) (g.body n))

  module _ (samples : HasSamples) where
    sample : (r : RuleOf g) → filled r ≡ true → IsSampled r
    sample (word sort) full = (samples.token_for sort ∷ [], tt, a_word (samples.sorted sort))
    sample (token []) full = absurd cc
    sample (token (sort ∷ sorts)) full = (samples.token_for sort ∷ [], samples.token_for sort, a_token (0, omega arith, sym (samples.sorted sort)))
    sample (r then s) full =
        let parts = both_true full in
        let a = sample r parts.0 in
        let b = sample s parts.1 in
        (a.0 ++ b.0, (a.1, b.1), both a.2 b.2)
    sample (r or s) full = let a = sample r (both_true full).0 in (a.0, inl a.1, first a.2)
    sample (front r s) full = let a = sample r (both_true full).0 in (a.0, inl a.1, front_first a.2)
    sample (optional r) full = ([], None, absent)
    sample (many r) full = ([], [], no_more)
    sample (placed r) full =
        let a = sample r full in
        let b = placed_sample r a.0 a.1 a.2 in
        (a.0, (b.0, a.1), b.1)
    sample (symbol n) full = samples.sampled n

    nothing_yet : (r : RuleOf g) (ts : List g.Token) → IsSampled r → IsViable r ts ts
    nothing_yet r ts a = ([], a.0, a.1, refl, a.2)

    mapped-viable : (r s : RuleOf g) (ts : List g.Token) (f : ValueOf g r → ValueOf g s) (o : Parsed g.Token (ValueOf g r))
        → ((us : List g.Token) (x : ValueOf g r) → Spelled g r us x → (y : ValueOf g s) × Spelled g s us y) → Viable r ts o → Viable s ts (mapped f o)
    mapped-viable r s ts f (Taken x rest) onward v = tt
    mapped-viable r s ts f (Stopped rest) onward v =
        let w = onward (v.0 ++ v.1) v.2 v.4 in
        (v.0, v.1, w.0, v.3, w.1)

    -- what stops in the second part of a whole
    viable_behind : (r s q : RuleOf g) (ts mid rest : List g.Token) (x : ValueOf g r) → Spells g r ts x mid → IsViable s mid rest
        → ((us vs : List g.Token) (x : ValueOf g r) (y : ValueOf g s) → Spelled g r us x → Spelled g s vs y → (z : ValueOf g q) × Spelled g q (us ++ vs) z) → IsViable q ts rest
    viable_behind r s q ts mid rest x a v join =
        let w = join a.0 (v.0 ++ v.1) x v.2 a.2 v.4 in
        (a.0 ++ v.0, v.1, w.0, a.1 ∙ ap (λ l. a.0 ++ l) v.3 ∙ sym (append_assoc a.0 v.0 rest), subst (λ l. Spelled g q l w.0) (sym (append_assoc a.0 v.0 v.1)) w.1)

    -- what stops in the first part
    viable_before : (r s q : RuleOf g) (ts rest : List g.Token) → IsViable r ts rest → IsSampled s
        → ((us vs : List g.Token) (x : ValueOf g r) (y : ValueOf g s) → Spelled g r us x → Spelled g s vs y → (z : ValueOf g q) × Spelled g q (us ++ vs) z) → IsViable q ts rest
    viable_before r s q ts rest v b join =
        let w = join (v.0 ++ v.1) b.0 v.2 b.1 v.4 b.2 in
        (v.0, v.1 ++ b.0, w.0, v.3, subst (λ l. Spelled g q l w.0) (append_assoc v.0 v.1 b.0) w.1)

    joined-viable : (r s q : RuleOf g) (ts : List g.Token) (o : Parsed g.Token (ValueOf g r)) (f : List g.Token → Parsed g.Token (ValueOf g s))
        → (h : ValueOf g r → ValueOf g s → ValueOf g q) → IsSampled s
        → ((us vs : List g.Token) (x : ValueOf g r) (y : ValueOf g s) → Spelled g r us x → Spelled g s vs y → (z : ValueOf g q) × Spelled g q (us ++ vs) z)
        → Claims g r ts o → Viable r ts o → ((mid : List g.Token) → Viable s mid (f mid)) → Viable q ts (and_then o (λ x mid. mapped (h x) (f mid)))
    joined-viable r s q ts (Stopped rest) f h b join c v w = viable_before r s q ts rest v b join
    joined-viable r s q ts (Taken x mid) f h b join c v w = onward (f mid) (w mid) where
      onward : (p : Parsed g.Token (ValueOf g s)) → Viable s mid p → Viable q ts (mapped (h x) p)
      onward (Taken y rest) v = tt
      onward (Stopped rest) v = viable_behind r s q ts mid rest x c v join

    cond-viable : (s : RuleOf g) (ts : List g.Token) (b : Bool) (o p : Parsed g.Token (ValueOf g s)) → Viable s ts o → Viable s ts p → Viable s ts (cond b o p)
    cond-viable s ts true o p c d = c
    cond-viable s ts false o p c d = d

    module _ (tables : Tables g) (told : IsTold g) where
      repeated-viable : (r : RuleOf g) (sorts : List g.Sort) (one : List g.Token → Parsed g.Token (ValueOf g r)) → ((ts : List g.Token) → Claims g r ts (one ts))
          → ((ts : List g.Token) → Viable r ts (one ts)) → (count : ℕ) (ts : List g.Token) → Viable (many r) ts (repeated g tables sorts one count ts)
      unfolding repeated
      repeated-viable r sorts one claims viable zero ts = tt
      repeated-viable r sorts one claims viable (suc count) ts =
          cond-viable (many r) ts (next_is g tables sorts ts) _ (Taken [] ts)
          (joined-viable r (many r) (many r) ts (one ts) (repeated g tables sorts one count) (λ x xs. x ∷ xs) ([], [], no_more) (λ us vs x y a b. (x ∷ y, one_more a b))
          (claims ts) (viable ts) (repeated-viable r sorts one claims viable count))
          tt

      module _ (calls : (n : g.Symbol) → List g.Token → Parsed g.Token (g.Tree n)) (claims : (n : g.Symbol) (ts : List g.Token) → Claims g (symbol n) ts (calls n ts))
          (viable : (n : g.Symbol) (ts : List g.Token) → Viable (symbol n) ts (calls n ts)) where
        word-viable : (sort : g.Sort) (ts : List g.Token) → Viable (word sort) ts (take_word g tables sort ts)
        word-viable sort [] = nothing_yet (word sort) [] (sample (word sort) refl)
        word-viable sort (t ∷ rest) = cond-viable (word sort) (t ∷ rest) (g.same (g.sort t) sort) (Taken tt rest) (Stopped (t ∷ rest)) tt (nothing_yet (word sort) (t ∷ rest) (sample (word sort) refl))

        token-viable : (sorts : List g.Sort) (ts : List g.Token) → filled {Symbol = g.Symbol} (token sorts) ≡ true → Viable (token sorts) ts (take_token g tables sorts ts)
        token-viable sorts [] full = nothing_yet (token sorts) [] (sample (token sorts) full)
        token-viable sorts (t ∷ rest) full =
            cond-viable (token sorts) (t ∷ rest) (next_is g tables sorts (t ∷ rest)) (Taken t rest) (Stopped (t ∷ rest)) tt (nothing_yet (token sorts) (t ∷ rest) (sample (token sorts) full))

        pub step-viable : (r : RuleOf g) → filled r ≡ true → (ts : List g.Token) → Viable r ts (step g tables calls r ts)
        step-viable (word sort) full ts = word-viable sort ts
        step-viable (token sorts) full ts = token-viable sorts ts full
        step-viable (r then s) full ts =
            let parts = both_true full in
            joined-viable r s (r then s) ts (step g tables calls r ts) (step g tables calls s) (λ x y. (x, y)) (sample s parts.1) (λ us vs x y a b. ((x, y), both a b))
            (step-claims g tables told calls claims r ts) (step-viable r parts.0 ts) (step-viable s parts.1)
        step-viable (r or s) full ts =
            let parts = both_true full in
            cond-viable (r or s) ts (next_is g tables (start_of g tables r) ts) _ _
            (mapped-viable r (r or s) ts inl _ (λ us x a. (inl x, first a)) (step-viable r parts.0 ts))
            (mapped-viable s (r or s) ts inr _ (λ us x a. (inr x, second a)) (step-viable s parts.1 ts))
        step-viable (front r s) full ts =
            let parts = both_true full in
            cond-viable (front r s) ts (begins_with g tables (fronts r) ts) _ _
            (mapped-viable r (front r s) ts inl _ (λ us x a. (inl x, front_first a)) (step-viable r parts.0 ts))
            (mapped-viable s (front r s) ts inr _ (λ us x a. (inr x, front_second a)) (step-viable s parts.1 ts))
        step-viable (optional r) full ts =
            cond-viable (optional r) ts (next_is g tables (start_of g tables r) ts) _ (Taken None ts)
            (mapped-viable r (optional r) ts Some _ (λ us x a. (Some x, present a)) (step-viable r full ts)) tt
        step-viable (many r) full ts =
            repeated-viable r (start_of g tables r) (step g tables calls r) (step-claims g tables told calls claims r) (step-viable r full) (length ts) ts
        step-viable (placed r) full ts =
            mapped-viable r (placed r) ts (λ x. (offset_of g tables ts, x)) (step g tables calls r ts)
            (λ us x a. let b = placed_sample r us x a in ((b.0, x), b.1)) (step-viable r full ts)
        step-viable (symbol n) full ts = viable n ts

      reading-viable : (depth : ℕ) (n : g.Symbol) (ts : List g.Token) → Viable (symbol n) ts (reading_to g tables depth n ts)
      unfolding reading_to
      reading-viable zero n ts = nothing_yet (symbol n) ts (samples.sampled n)
      reading-viable (suc depth) n ts =
          mapped-viable (g.body n) (symbol n) ts (g.build n) _ (λ us x a. (g.build n x, as_symbol a))
          (step-viable (reading_to g tables depth) (reading-claims g tables told depth) (reading-viable depth) (g.body n) (samples.filled n) ts)

      pub read-viable : (n : g.Symbol) (ts : List g.Token) → Viable (symbol n) ts (read g tables n ts)
      unfolding read
      read-viable n ts = reading-viable _ n ts
