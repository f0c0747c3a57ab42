-- What reading takes is spelled by the rule, and what it leaves is an end of the tokens.
use Rattle.std.proofs.Common.{◌≡◌, inl, inr, ℕ, zero, suc, Bool, true, false, cond, List, [], ◌∷◌, ◌++◌, length, Some, None, refl, sym, ap, ◌∙◌, append_assoc}
use Rattle.std.specs.List.{list_any}
use Rattle.std.proofs.lemmas.Map.Views.{Contains-from_any}
use Rattle.sql_tree.specs.grammar.Rules.{word, token, ◌then◌, ◌or◌, front, optional, many, placed, symbol, Grammar, RuleOf, ValueOf, StartsAt, Spelled, a_word, a_token, both, first, second, front_first, front_second, absent, present, no_more, one_more, at_place, as_symbol}
use Rattle.sql_tree.specs.grammar.Descent.{Parsed, Taken, Stopped, and_then, mapped, Tables, next_is, begins_with, start_of, fronts, offset_of, take_word, take_token, repeated, step, reading_to}

-- the test of a grammar's sorts tells them apart
pub record IsTold (g : Grammar) : Type 0 where
  pub sound : (a b : g.Sort) → g.same a b ≡ true → a ≡ b
  pub complete : (a : g.Sort) → g.same a a ≡ true

-- the rest is an end of the tokens
abbrev pub IsEnd : {T : Type 0} → List T → List T → Type 0
IsEnd {T = T} ts rest = (us : List T) × (ts ≡ us ++ rest)

module _ (g : Grammar) where
  -- a front of the tokens spells the value, and the rest is behind it
  abbrev pub Spells : (r : RuleOf g) → List g.Token → ValueOf g r → List g.Token → Type 0
  Spells r ts x rest = (us : List g.Token) × (ts ≡ us ++ rest) × Spelled g r us x

  -- what an outcome claims
  abbrev pub Claims : (r : RuleOf g) → List g.Token → Parsed g.Token (ValueOf g r) → Type 0
  Claims r ts (Taken x rest) = Spells r ts x rest
  Claims r ts (Stopped rest) = IsEnd ts rest

  spells_both : {r s : RuleOf g} {ts mid rest : List g.Token} {x : ValueOf g r} {y : ValueOf g s} → Spells r ts x mid → Spells s mid y rest → Spells (r then s) ts (x, y) rest
  spells_both {rest = rest} a b = (a.0 ++ b.0, a.1 ∙ ap (λ l. a.0 ++ l) b.1 ∙ sym (append_assoc a.0 b.0 rest), both a.2 b.2)

  end_behind : {r : RuleOf g} {ts mid rest : List g.Token} {x : ValueOf g r} → Spells r ts x mid → IsEnd mid rest → IsEnd ts rest
  end_behind {rest = rest} a b = (a.0 ++ b.0, a.1 ∙ ap (λ l. a.0 ++ l) b.1 ∙ sym (append_assoc a.0 b.0 rest))

  then-claims : (r s : RuleOf g) (ts : List g.Token) (o : Parsed g.Token (ValueOf g r)) (f : List g.Token → Parsed g.Token (ValueOf g s))
      → Claims r ts o → ((mid : List g.Token) → Claims s mid (f mid)) → Claims (r then s) ts (and_then o (λ x mid. mapped (λ y. (x, y)) (f mid)))
  then-claims r s ts (Stopped rest) f a b = a
  then-claims r s ts (Taken x mid) f a b = onward (f mid) (b mid) where
    onward : (p : Parsed g.Token (ValueOf g s)) → Claims s mid p → Claims (r then s) ts (mapped (λ y. (x, y)) p)
    onward (Taken y rest) c = spells_both a c
    onward (Stopped rest) c = end_behind a c

  -- one outcome of another's kind, with a value made of its value
  mapped-claims : (r s : RuleOf g) (ts : List g.Token) (f : ValueOf g r → ValueOf g s) (o : Parsed g.Token (ValueOf g r))
      → ((us : List g.Token) (x : ValueOf g r) → Spelled g r us x → Spelled g s us (f x)) → Claims r ts o → Claims s ts (mapped f o)
  mapped-claims r s ts f (Taken x rest) onward c = (c.0, c.1, onward c.0 x c.2)
  mapped-claims r s ts f (Stopped rest) onward c = c

  cond-claims : (s : RuleOf g) (ts : List g.Token) (b : Bool) (o p : Parsed g.Token (ValueOf g s)) → Claims s ts o → Claims s ts p → Claims s ts (cond b o p)
  cond-claims s ts true o p c d = c
  cond-claims s ts false o p c d = d

  more-claims : (r : RuleOf g) (ts : List g.Token) (o : Parsed g.Token (ValueOf g r)) (f : List g.Token → Parsed g.Token (List (ValueOf g r)))
      → Claims r ts o → ((mid : List g.Token) → Claims (many r) mid (f mid)) → Claims (many r) ts (and_then o (λ x mid. mapped (λ xs. x ∷ xs) (f mid)))
  more-claims r ts (Stopped rest) f a b = a
  more-claims r ts (Taken x mid) f a b = onward (f mid) (b mid) where
    onward : (p : Parsed g.Token (List (ValueOf g r))) → Claims (many r) mid p → Claims (many r) ts (mapped (λ xs. x ∷ xs) p)
    onward (Taken xs rest) c = (a.0 ++ c.0, a.1 ∙ ap (λ l. a.0 ++ l) c.1 ∙ sym (append_assoc a.0 c.0 rest), one_more a.2 c.2)
    onward (Stopped rest) c = end_behind a c

  module _ (tables : Tables g) where
    repeated-claims : (r : RuleOf g) (sorts : List g.Sort) (one : List g.Token → Parsed g.Token (ValueOf g r)) → ((ts : List g.Token) → Claims r ts (one ts))
        → (count : ℕ) (ts : List g.Token) → Claims (many r) ts (repeated g tables sorts one count ts)
    unfolding repeated
    repeated-claims r sorts one claims zero ts = ([], refl, no_more)
    repeated-claims r sorts one claims (suc count) ts =
        cond-claims (many r) ts (next_is g tables sorts ts) _ (Taken [] ts)
        (more-claims r ts (one ts) (repeated g tables sorts one count) (claims ts) (repeated-claims r sorts one claims count))
        ([], refl, no_more)

    module _ (told : IsTold g) (calls : (n : g.Symbol) → List g.Token → Parsed g.Token (g.Tree n)) (claims : (n : g.Symbol) (ts : List g.Token) → Claims (symbol n) ts (calls n ts)) where
      word-claims : (sort : g.Sort) (ts : List g.Token) → Claims (word sort) ts (take_word g tables sort ts)
      word-claims sort [] = ([], refl)
      word-claims sort (t ∷ rest) = by_test (g.same (g.sort t) sort) refl where
        by_test : (b : Bool) → g.same (g.sort t) sort ≡ b → Claims (word sort) (t ∷ rest) (cond b (Taken tt rest) (Stopped (t ∷ rest)))
        by_test true e = (t ∷ [], refl, a_word (told.sound (g.sort t) sort e))
        by_test false e = ([], refl)

      token-claims : (sorts : List g.Sort) (ts : List g.Token) → Claims (token sorts) ts (take_token g tables sorts ts)
      token-claims sorts [] = ([], refl)
      token-claims sorts (t ∷ rest) = by_test (list_any (g.same (g.sort t)) sorts) refl where
        by_test : (b : Bool) → list_any (g.same (g.sort t)) sorts ≡ b → Claims (token sorts) (t ∷ rest) (cond b (Taken t rest) (Stopped (t ∷ rest)))
        by_test true e = (t ∷ [], refl, a_token (Contains-from_any told.sound (g.sort t) sorts e))
        by_test false e = ([], refl)

      placed-claims : (r : RuleOf g) (ts : List g.Token) (o : Parsed g.Token (ValueOf g r)) → Claims r ts o → Claims (placed r) ts (mapped (λ x. (offset_of g tables ts, x)) o)
      placed-claims r ts (Taken x rest) c = (c.0, c.1, at_place c.2 (starts_at c.0 ts c.1)) where
        starts_at : (us whole : List g.Token) → whole ≡ us ++ rest → StartsAt g (offset_of g tables whole) us
        starts_at [] whole e = tt
        starts_at (t ∷ us) [] e = absurd cc
        starts_at (t ∷ us) (u ∷ more) e = ap (offset_of g tables) e
      placed-claims r ts (Stopped rest) c = c

      pub step-claims : (r : RuleOf g) (ts : List g.Token) → Claims r ts (step g tables calls r ts)
      step-claims (word sort) ts = word-claims sort ts
      step-claims (token sorts) ts = token-claims sorts ts
      step-claims (r then s) ts = then-claims r s ts (step g tables calls r ts) (step g tables calls s) (step-claims r ts) (step-claims s)
      step-claims (r or s) ts =
          cond-claims (r or s) ts (next_is g tables (start_of g tables r) ts) _ _
          (mapped-claims r (r or s) ts inl _ (λ us x. first) (step-claims r ts))
          (mapped-claims s (r or s) ts inr _ (λ us x. second) (step-claims s ts))
      step-claims (front r s) ts =
          cond-claims (front r s) ts (begins_with g tables (fronts r) ts) _ _
          (mapped-claims r (front r s) ts inl _ (λ us x. front_first) (step-claims r ts))
          (mapped-claims s (front r s) ts inr _ (λ us x. front_second) (step-claims s ts))
      step-claims (optional r) ts =
          cond-claims (optional r) ts (next_is g tables (start_of g tables r) ts) _ (Taken None ts)
          (mapped-claims r (optional r) ts Some _ (λ us x. present) (step-claims r ts))
          ([], refl, absent)
      step-claims (many r) ts = repeated-claims r (start_of g tables r) (step g tables calls r) (step-claims r) (length ts) ts
      step-claims (placed r) ts = placed-claims r ts (step g tables calls r ts) (step-claims r ts)
      step-claims (symbol n) ts = claims n ts

      pub built-claims : (n : g.Symbol) (ts : List g.Token) → Claims (symbol n) ts (mapped (g.build n) (step g tables calls (g.body n) ts))
      built-claims n ts = mapped-claims (g.body n) (symbol n) ts (g.build n) _ (λ us x. as_symbol) (step-claims (g.body n) ts)

    -- reading claims no more than is so, however deep it goes
    pub reading-claims : IsTold g → (depth : ℕ) (n : g.Symbol) (ts : List g.Token) → Claims (symbol n) ts (reading_to g tables depth n ts)
    unfolding reading_to
    reading-claims told zero n ts = ([], refl)
    reading-claims told (suc depth) n ts = built-claims told (reading_to g tables depth) (reading-claims told depth) n ts
