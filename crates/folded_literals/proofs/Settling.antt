-- What folding leaves is settled.
use Rattle.std.proofs.Common.{◌≡◌, Bool, true, false, ◌&&◌, not, List, [], ◌∷◌, ◌++◌, Option, None, refl, sym, ap, ◌∙◌, true≢false}
use Rattle.std.proofs.Math.Bool.{and-false}
use Rattle.std.proofs.lemmas.List.Folds.{list_all-append}
use Rattle.std.specs.List.{list_all}
use Rattle.std.specs.Prelude.{is_some}
use Rattle.null_logic.specs.declared.run_fault.RunFault.{RunFault}
use Rattle.perm_values.specs.declared.kind.Kind.{Kind}
use Rattle.bag_algebra.proofs.Truths.{both-true}
use Rattle.bag_algebra.specs.Expressions.{value}
use Rattle.bag_algebra.specs.Outcome.{Outcome, Good, Bad, is_good}
use Rattle.bag_algebra.specs.declared.expr.Expr.{Expr}
use Rattle.row_values.specs.Answers.{meets}
use Rattle.folded_literals.specs.Constants.{constant_kind}
use Rattle.folded_literals.specs.Settled.{is_foldable, is_settled}
use Rattle.folded_literals.specs.built.Settled.{SettledBy}

-- one more of a list of which all pass
pub all-more : {X : Type 0} (test : X → Bool) (xs more : List X) (x : X) → list_all test xs ≡ true → test x ≡ true → more ≡ xs ++ x ∷ [] →
    list_all test more ≡ true
all-more test xs more x h t e =
    ap (list_all test) e ∙ list_all-append test xs (x ∷ []) ∙ both-true (list_all test xs) (test x && true) h (both-true (test x) true t refl)

-- ---- what isn't foldable

no_good : {X : Type 0} (o : Outcome X) (fault : RunFault) → meets o fault ≡ true → is_good o ≡ false
no_good (Good x) fault h = absurd (true≢false (sym h))
no_good (Bad faults) fault h = refl

pub meets-fault : (e : Expr) (fault : RunFault) → meets (value e [] [] []) fault ≡ true → is_foldable e ≡ false
meets-fault e fault h =
    ap (λ b. is_some (constant_kind e) && b) (no_good (value e [] [] []) fault h) ∙ and-false (is_some (constant_kind e))

pub no_constant : (e : Expr) → constant_kind e ≡ None → is_foldable e ≡ false
no_constant e h = ap (λ (k : Option Kind). is_some k && is_good (value e [] [] [])) h

-- an expression that isn't, over settled parts
pub settled-itself : (e : Expr) (parts : Bool) → SettledBy e parts → parts ≡ true → is_foldable e ≡ false → is_settled e ≡ true
settled-itself e parts by all none = by ∙ (λ i. not (none i) && all i)
