-- The first token that is wrong: the tokens before it begin a word of a rule, and with it they begin none.
use Rattle.std.specs.Prelude.{◌≡◌, List, [], ◌∷◌, ◌++◌}
use Rattle.sql_tree.specs.grammar.Rules.{Grammar, RuleOf, ValueOf, Spelled}

module _ (g : Grammar) (r : RuleOf g) where
  -- with some tokens more the rule spells these
  abbrev pub IsBegun : List g.Token → Type 0
  IsBegun us = (ws : List g.Token) × (x : ValueOf g r) × Spelled g r (us ++ ws) x

  -- with the first of the rest the tokens before it begin nothing, or there is no rest and they are nothing whole
  abbrev pub IsWrongAt : List g.Token → List g.Token → Type 0
  IsWrongAt us [] = (x : ValueOf g r) → Spelled g r us x → ⊥
  IsWrongAt us (t ∷ rest) = IsBegun (us ++ t ∷ []) → ⊥

  -- the rest of the tokens begins with the first that is wrong, or is nothing where they end too early
  pub record IsFirstWrong (ts rest : List g.Token) : Type 0 where
    pub before : List g.Token
    pub splits : ts ≡ before ++ rest
    pub begun : IsBegun before
    pub wrong : IsWrongAt before rest
