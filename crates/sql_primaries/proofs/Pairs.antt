-- Two expressions with a word between them, as their function reads them.
use Rattle.std.proofs.Common.{◌≡◌, List, refl, ◌∙◌}
use Rattle.sql_lexer.specs.declared.token.Token.{Token}
use Rattle.sql_tree.specs.grammar.Building.{Word}
use Rattle.sql_tree.specs.grammar.Cursors.{reading, past}
use Rattle.sql_tree.specs.grammar.Descent.{Parsed, Taken, Stopped, and_then, mapped}
use Rattle.sql_tree.specs.grammar.Building as b
use Rattle.sql_tree.specs.grammar.built.Sequences.{value_before}
use Rattle.sql_tree.specs.grammar.Symbols as n
use Rattle.sql_tree.specs.declared.grammar.sort.Sort.TheVariants as s
use Rattle.sql_tree.specs.declared.expression.ExprBody.TheVariants as e
use Rattle.sql_tree.specs.declared.expression.ExprTree.{ExprTree}
use Rattle.sql_tree.proofs.Steps.{reading_is}
use Rattle.sql_primaries.specs.built.Calls as spelled

-- what is read of two expressions and the word between them
abbrev Parts : Type 0
Parts = ExprTree × (Word × ExprTree)

-- a reading that goes on behind a word
module _ (word : List Token → Parsed Token Word) where
  abbrev two : Parsed Token ExprTree → Parsed Token Parts
  two o = and_then o (λ first mid. mapped (λ v. (first, v)) (and_then (word mid) (λ w rest. mapped (λ second. (w, second)) (reading n.Expr rest))))

  abbrev pair : Parsed Token ExprTree → Parsed Token (ExprTree × ExprTree)
  pair o = and_then (and_then o (λ first mid. mapped (λ passed. first) (word mid))) (λ first rest. mapped (λ second. (first, second)) (reading n.Expr rest))

  pub arm_read : (w : Word) (o : Parsed Token ExprTree)
      → mapped b.arm (mapped (λ v. (w, v)) (two o)) ≡ mapped (λ (v : ExprTree × ExprTree). b.arm (tt, (v.0, (tt, v.1)))) (pair o)
  arm_read w (Stopped rest) = refl
  arm_read w (Taken first mid) = by_word (word mid) where
    by_second : (v : Word) (p : Parsed Token ExprTree)
        → mapped b.arm (mapped (λ v. (w, v)) (mapped (λ v. (first, v)) (mapped (λ second. (v, second)) p)))
        ≡ mapped (λ (v : ExprTree × ExprTree). b.arm (tt, (v.0, (tt, v.1)))) (mapped (λ second. (first, second)) p)
    by_second v (Stopped rest) = refl
    by_second v (Taken second rest) = refl

    by_word : (o : Parsed Token Word)
        → mapped b.arm (mapped (λ v. (w, v)) (mapped (λ v. (first, v)) (and_then o (λ w rest. mapped (λ second. (w, second)) (reading n.Expr rest)))))
        ≡ mapped (λ (v : ExprTree × ExprTree). b.arm (tt, (v.0, (tt, v.1)))) (and_then (mapped (λ passed. first) o) (λ first rest. mapped (λ second. (first, second)) (reading n.Expr rest)))
    by_word (Stopped rest) = refl
    by_word (Taken v rest) = by_second v (reading n.Expr rest)

  pub null_if_read : (o : Parsed Token ExprTree)
      → mapped (λ (v : Parts). e.NullIf v.0 v.1.1) (and_then (two o) (λ v rest. mapped (λ closing. v) (past s.Closing rest)))
      ≡ and_then (pair o) (λ (v : ExprTree × ExprTree) rest. mapped (λ passed. e.NullIf v.0 v.1) (past s.Closing rest))
  null_if_read (Stopped rest) = refl
  null_if_read (Taken first mid) = by_word (word mid) where
    by_closing : (v : Word) (second : ExprTree) (o : Parsed Token Word)
        → mapped (λ (v : Parts). e.NullIf v.0 v.1.1) (mapped {Y = Parts} (λ closing. (first, (v, second))) o) ≡ mapped (λ passed. e.NullIf first second) o
    by_closing v second (Stopped rest) = refl
    by_closing v second (Taken c rest) = refl

    by_second : (v : Word) (p : Parsed Token ExprTree)
        → mapped (λ (v : Parts). e.NullIf v.0 v.1.1) (and_then (mapped {Y = Parts} (λ v. (first, v)) (mapped {Y = Word × ExprTree} (λ second. (v, second)) p)) (λ v rest. mapped (λ closing. v) (past s.Closing rest)))
        ≡ and_then (mapped {Y = ExprTree × ExprTree} (λ second. (first, second)) p) (λ (v : ExprTree × ExprTree) rest. mapped (λ passed. e.NullIf v.0 v.1) (past s.Closing rest))
    by_second v (Stopped rest) = refl
    by_second v (Taken second rest) = by_closing v second (past s.Closing rest)

    by_word : (o : Parsed Token Word)
        → mapped (λ (v : Parts). e.NullIf v.0 v.1.1) (and_then (mapped {Y = Parts} (λ v. (first, v)) (and_then o (λ w rest. mapped (λ second. (w, second)) (reading n.Expr rest)))) (λ v rest. mapped (λ closing. v) (past s.Closing rest)))
        ≡ and_then (and_then (mapped (λ passed. first) o) (λ first rest. mapped (λ second. (first, second)) (reading n.Expr rest))) (λ (v : ExprTree × ExprTree) rest. mapped (λ passed. e.NullIf v.0 v.1) (past s.Closing rest))
    by_word (Stopped rest) = refl
    by_word (Taken v rest) = by_second v (reading n.Expr rest)

pub arm_is : (tokens : List Token) → reading n.Arm tokens
    ≡ and_then (past s.When tokens) (λ when rest. mapped (λ (v : ExprTree × ExprTree). b.arm (tt, (v.0, (tt, v.1)))) (spelled.pair_of s.Then rest))
arm_is tokens = reading_is n.Arm tokens ∙ by_when (past s.When tokens) where
  by_when : (o : Parsed Token Word)
      → mapped b.arm (and_then o (λ w rest. mapped (λ v. (w, v)) (two (past s.Then) (reading n.Expr rest))))
      ≡ and_then o (λ when rest. mapped (λ (v : ExprTree × ExprTree). b.arm (tt, (v.0, (tt, v.1)))) (spelled.pair_of s.Then rest))
  by_when (Stopped rest) = refl
  by_when (Taken w rest) = arm_read (past s.Then) w (reading n.Expr rest)

pub null_if_of_is : (tokens : List Token) → spelled.null_if_of tokens
    ≡ and_then (past s.Opening tokens) (λ opening rest. and_then (spelled.pair_of s.Comma rest) (λ v last. value_before s.Closing (e.NullIf v.0 v.1) last))
null_if_of_is tokens = by_opening (past s.Opening tokens) where
  by_opening : (o : Parsed Token Word)
      → mapped (λ (v : Parts). e.NullIf v.0 v.1.1) (and_then o (λ opening first. and_then (spelled.two_parts first) (λ v rest. mapped (λ closing. v) (past s.Closing rest))))
      ≡ and_then o (λ opening rest. and_then (spelled.pair_of s.Comma rest) (λ v last. value_before s.Closing (e.NullIf v.0 v.1) last))
  by_opening (Stopped rest) = refl
  by_opening (Taken w rest) = null_if_read (past s.Comma) (reading n.Expr rest)
