-- What is made for a part stands for it, in lists and in results.
use Rattle.std.proofs.Common.{◌≡◌, ℕ, zero, suc, ◌<◌, Bool, ◌&&◌, IsTrue, List, [], ◌∷◌, length, get_or, Result, IfOk, sym, ap, ◌∙◌, subst, arith}
use Rattle.perm_values.specs.declared.no_memory.NoMemory.{NoMemory}
use Rattle.perm_values.proofs.Results.{where_made}
use Rattle.bag_algebra.proofs.Truths.{left-true, right-true}
use Rattle.bag_algebra.specs.Rewriting.{Stands}
use Rattle.bag_algebra.specs.declared.query.Query.{Query}
use Rattle.bag_algebra.specs.declared.query.Sublink.{Sublink}

module _ (q node : Query) (result : Result Query NoMemory) (is : q ≡ node) where
  pub stands_made : (made : Query) → IfOk result (λ p. p ≡ made) → Stands node made → IfOk result (λ p. Stands q p)
  stands_made made is_made s =
      where_made (λ p. p ≡ made) (λ p. Stands q p) result (λ p e. subst (λ n. Stands n p) (sym is) (subst (λ b. Stands node b) (sym e) s)) is_made

  pub stands_where : (P : Query → Type 0) → ((p : Query) → P p → Stands node p) → IfOk result P → IfOk result (λ p. Stands q p)
  stands_where P f given = where_made P (λ p. Stands q p) result (λ p h. subst (λ n. Stands n p) (sym is) (f p h)) given

-- ---- what a test of a query says of its parts

module _ (test : Query → Bool) (query node : Query) (holds : IsTrue (test query)) (is : query ≡ node) where
  pub one_of : (a : Bool) → test node ≡ a → IsTrue a
  one_of a e = sym e ∙ ap test (sym is) ∙ holds

  pub first_of : (a b : Bool) → test node ≡ (a && b) → IsTrue a
  first_of a b e = left-true a b (one_of (a && b) e)

  pub second_of : (a b : Bool) → test node ≡ (a && b) → IsTrue b
  second_of a b e = right-true a b (one_of (a && b) e)

-- what holds of each sublink
module _ (test : Sublink → Bool) (every : List Sublink → Bool) (opens : (sub : Sublink) (subs : List Sublink) → every (sub ∷ subs) ≡ (test sub && every subs)) where
  pub at_each : (subs : List Sublink) (i : ℕ) (sub : Sublink) → IsTrue (every subs) → i < length subs → sub ≡ get_or subs i sub → IsTrue (test sub)
  at_each [] i sub holds low e = absurd (omega arith)
  at_each (first ∷ subs) zero sub holds low e = ap test e ∙ left-true (test first) (every subs) (sym (opens first subs) ∙ holds)
  at_each (first ∷ subs) (suc i) sub holds low e =
      at_each subs i sub (right-true (test first) (every subs) (sym (opens first subs) ∙ holds)) (omega arith) e
