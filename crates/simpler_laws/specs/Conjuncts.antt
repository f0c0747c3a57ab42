-- The conjuncts of a condition: it is true where all of them are (ISO/IEC 9075-2, 'boolean value expression').
use Rattle.std.specs.Prelude.{Bool, false, cond, List, [], ◌∷◌, ◌++◌}
use Rattle.null_logic.specs.Operators.{is_and}
use Rattle.perm_values.specs.declared.value.Value.{Value}
use Rattle.perm_values.specs.declared.value.Value.TheVariants.{Null, Integer, Text, Boolean}
use Rattle.bag_algebra.specs.built.Patterns.{OpOf, ChainOf, CaseOf, IsNullOf, IsTruthOf, SameOf}
use Rattle.bag_algebra.specs.declared.expr.Expr.{Expr, Row_of-Expr, more_of-Expr, end_of-Expr}
use Rattle.bag_algebra.specs.declared.expr.Expr.TheVariants.{Col, Lit, Sub}

-- TRUE
abbrev pub is_always : Value → Bool
is_always Null = false
is_always (Integer a) = false
is_always (Text a) = false
is_always (Boolean a) = a

-- the conjuncts of the parts of AND, one part after another; TRUE has none, and anything else is its own one
abbrev mutual
  pub conjuncts : Expr → List Expr
  conjuncts (Col level place) = Col level place ∷ []
  conjuncts (Lit v kind) = cond (is_always v) [] (Lit v kind ∷ [])
  conjuncts (OpOf op shape parts) = cond (is_and op) (parts_conjuncts parts) (OpOf op shape parts ∷ [])
  conjuncts (ChainOf first shape steps) = ChainOf first shape steps ∷ []
  conjuncts (CaseOf shape arms otherwise) = CaseOf shape arms otherwise ∷ []
  conjuncts (Sub number) = Sub number ∷ []
  conjuncts (IsNullOf part) = IsNullOf part ∷ []
  conjuncts (IsTruthOf truth part) = IsTruthOf truth part ∷ []
  conjuncts (SameOf first second) = SameOf first second ∷ []

  pub parts_conjuncts : {m : _} → Row_of-Expr m → List Expr
  parts_conjuncts end_of-Expr = []
  parts_conjuncts (more_of-Expr part parts) = conjuncts part ++ parts_conjuncts parts
