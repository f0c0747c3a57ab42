-- All tokens are read as the one value that they spell, and otherwise reading ends at the first that is wrong.
use Rattle.std.proofs.Common.{◌≡◌, List, [], ◌∷◌, ◌++◌, refl, sym, ap, subst, ◌∙◌, append_assoc, append-nil}
use Rattle.sql_tree.specs.grammar.Rules.{symbol, Grammar, Spelled}
use Rattle.sql_tree.specs.grammar.Descent.{Taken, Stopped, Tables, read}
use Rattle.sql_tree.specs.grammar.FirstWrong.{IsWrongAt, IsFirstWrong}
use Rattle.sql_tree.proofs.Sound.{Claims}
use Rattle.sql_tree.proofs.Depth.{read-claims}
use Rattle.sql_tree.proofs.Complete.{IsDecided, complete}
use Rattle.sql_tree.proofs.Viable.{HasSamples, IsViable, Viable, read-viable}
use Rattle.sql_tree.proofs.Swapped.{left_of, with_left}
use Rattle.sql_tree.proofs.Local.{local}

module _ (g : Grammar) (tables : Tables g) (goes_on : g.Symbol → List g.Sort) (decided : IsDecided g tables goes_on) where
  -- what a symbol spells is read whole
  pub read-whole : (n : g.Symbol) (ts : List g.Token) (x : g.Tree n) → Spelled g (symbol n) ts x → read g tables n ts ≡ Taken x []
  read-whole n ts x a = ap (read g tables n) (sym (append-nil ts)) ∙ complete g tables goes_on decided a tt [] refl

  pub one_value : (n : g.Symbol) (ts : List g.Token) (x y : g.Tree n) → Spelled g (symbol n) ts x → Spelled g (symbol n) ts y → x ≡ y
  one_value n ts x y a b = let e : Taken x [] ≡ Taken y [] = sym (read-whole n ts x a) ∙ read-whole n ts y b in cc

  -- what is read whole is spelled
  pub whole-spelled : (n : g.Symbol) (ts : List g.Token) (x : g.Tree n) → read g tables n ts ≡ Taken x [] → Spelled g (symbol n) ts x
  whole-spelled n ts x e =
      let c : Claims g (symbol n) ts (Taken x []) = subst (Claims g (symbol n) ts) e (read-claims g tables decided.told n ts) in
      subst (λ l. Spelled g (symbol n) l x) (sym (append-nil c.0) ∙ sym c.1) c.2

  module _ (samples : HasSamples g) where
    -- reading that stops
    pub stopped-wrong : (n : g.Symbol) (ts rest : List g.Token) → read g tables n ts ≡ Stopped rest → IsFirstWrong g (symbol n) ts rest
    stopped-wrong n ts rest e =
        let v : IsViable g (symbol n) ts rest = subst (Viable g (symbol n) ts) e (read-viable g samples tables decided.told n ts) in
        record { before = v.0; splits = v.3; begun = (v.1, v.2, v.4); wrong = wrong_at v.0 rest (ap (read g tables n) (sym v.3) ∙ e) }
      where
        wrong_at : (us rest : List g.Token) → read g tables n (us ++ rest) ≡ Stopped rest → IsWrongAt g (symbol n) us rest
        wrong_at us [] e = λ x a.
            let no : Taken x [] ≡ Stopped [] = sym (read-whole n us x a) ∙ ap (read g tables n) (sym (append-nil us)) ∙ e in absurd cc
        wrong_at us (t ∷ rest) e = λ b.
            let spelled : Spelled g (symbol n) (us ++ t ∷ b.0) b.1 = subst (λ l. Spelled g (symbol n) l b.1) (append_assoc us (t ∷ []) b.0) b.2 in
            let stops : read g tables n (us ++ t ∷ b.0) ≡ Stopped (t ∷ b.0) =
            local g tables goes_on decided n us t rest b.0 (ap left_of e) ∙ ap (with_left (t ∷ b.0)) e in
            let no : Taken b.1 [] ≡ Stopped (t ∷ b.0) = sym (read-whole n (us ++ t ∷ b.0) b.1 spelled) ∙ stops in absurd cc

    -- reading that leaves a token
    pub left-wrong : (n : g.Symbol) (ts rest : List g.Token) (t : g.Token) (x : g.Tree n) → read g tables n ts ≡ Taken x (t ∷ rest) → IsFirstWrong g (symbol n) ts (t ∷ rest)
    left-wrong n ts rest t x e =
        let c : Claims g (symbol n) ts (Taken x (t ∷ rest)) = subst (Claims g (symbol n) ts) e (read-claims g tables decided.told n ts) in
        record { before = c.0; splits = c.1; begun = ([], x, subst (λ l. Spelled g (symbol n) l x) (sym (append-nil c.0)) c.2); wrong = wrong_at c.0 (ap (read g tables n) (sym c.1) ∙ e) }
      where
        wrong_at : (us : List g.Token) → read g tables n (us ++ t ∷ rest) ≡ Taken x (t ∷ rest) → IsWrongAt g (symbol n) us (t ∷ rest)
        wrong_at us e b =
            let spelled : Spelled g (symbol n) (us ++ t ∷ b.0) b.1 = subst (λ l. Spelled g (symbol n) l b.1) (append_assoc us (t ∷ []) b.0) b.2 in
            let leaves : read g tables n (us ++ t ∷ b.0) ≡ Taken x (t ∷ b.0) =
            local g tables goes_on decided n us t rest b.0 (ap left_of e) ∙ ap (with_left (t ∷ b.0)) e in
            let no : Taken b.1 [] ≡ Taken x (t ∷ b.0) = sym (read-whole n (us ++ t ∷ b.0) b.1 spelled) ∙ leaves in absurd cc
