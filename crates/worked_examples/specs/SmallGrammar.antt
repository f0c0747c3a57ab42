-- A small grammar as a worked example: sums of digits, with parentheses.
use Rattle.std.specs.Prelude.{◌≡◌, ℕ, ◌+◌, ◌-◌, false, List, [], ◌∷◌, map, sum, codes, nat_eq, ◌⊎◌}
use Rattle.std.proofs.Common.{inl, inr, refl}
use Rattle.sql_tree.specs.grammar.Rules.{Rule, word, token, ◌then◌, ◌or◌, many, symbol, Value, Grammar}
use Rattle.sql_tree.specs.grammar.Descent.{Taken, Stopped, Tables, repeated, reading_to, read}

-- sum = part { + part } ; part = digit | ( sum )
pub data Toy : Type 0 where
  Sum : Toy
  Part : Toy

abbrev pub digits : List ℕ
digits = codes "0123456789"

abbrev pub toy_body : Toy → Rule ℕ Toy
toy_body Sum = symbol Part then many (word 43 then symbol Part)
toy_body Part = token digits or (word 40 then symbol Sum then word 41)

abbrev pub toy_build : (n : Toy) → Value ℕ (λ _. ℕ) (toy_body n) → ℕ
toy_build Sum = λ v. v.0 + sum (map (λ m. m.1) v.1)
toy_build Part = toy_part where
  toy_part : ℕ ⊎ (Unit {0} × (ℕ × Unit {0})) → ℕ
  toy_part (inl digit) = digit - 48
  toy_part (inr v) = v.1.0

abbrev pub toy : Grammar
toy = record {
  Token = ℕ;
  Sort = ℕ;
  Symbol = Toy;
  sort = λ t. t;
  offset = λ t. 0;
  same = nat_eq;
  Tree = λ _. ℕ;
  body = toy_body;
  build = toy_build;
}

abbrev pub toy_begins : Toy → List ℕ
toy_begins Sum = 40 ∷ digits
toy_begins Part = 40 ∷ digits

abbrev pub toy_rank : Toy → ℕ
toy_rank Sum = 1
toy_rank Part = 0

abbrev pub toy_tables : Tables toy
toy_tables = record { empty = λ _. false; begins = toy_begins; rank = toy_rank; ranks = 2 }

example-sum : read toy toy_tables Sum (codes "1+(2+3)+4") ≡ Taken 10 []
unfolding read reading_to repeated
example-sum = refl

-- a sum stops at a token that can't go on with it
example-rest : read toy toy_tables Sum (codes "1+2)") ≡ Taken 3 (codes ")")
unfolding read reading_to repeated
example-rest = refl

-- reading stops at the token that can't stand
example-stop : read toy toy_tables Sum (codes "1+(2+)") ≡ Stopped (codes ")")
unfolding read reading_to repeated
example-stop = refl
