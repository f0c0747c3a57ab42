-- Worked examples of the truth that a condition forces on its sublinks.
use Rattle.std.specs.Prelude.{◌≡◌, Some, None, refl}
use Rattle.null_logic.specs.declared.truth.Truth.TheVariants.{True, False, Unknown}
use Rattle.bag_algebra.specs.built.Patterns.{IsNullOf, IsTruthOf}
use Rattle.bag_algebra.specs.declared.expr.Expr.{Expr}
use Rattle.bag_algebra.specs.declared.expr.Expr.TheVariants.{Sub}
use Rattle.rewrite_move.specs.ForcedTruths.{forces}
use Rattle.worked_examples.specs.Queries.{and_also, isnt, or_else}

-- (0 AND NOT 1) AND (2 OR 3), of four sublinks
abbrev four : Expr
four = and_also (and_also (Sub 0) (isnt (Sub 1))) (or_else (Sub 2) (Sub 3))

a-conjunct_is_true : forces four 0 ≡ Some True
a-conjunct_is_true = refl

under-not_it_is_false : forces four 1 ≡ Some False
under-not_it_is_false = refl

one-of_a_disjunction_may_be_anything : forces four 2 ≡ None
one-of_a_disjunction_may_be_anything = refl

-- NOT (0 OR NOT 1)
neither : forces (isnt (or_else (Sub 0) (isnt (Sub 1)))) 0 ≡ Some False
neither = refl

not-not : forces (isnt (or_else (Sub 0) (isnt (Sub 1)))) 1 ≡ Some True
not-not = refl

-- NOT (0 AND 1): one of them is false, and no one knows which
not-both : forces (isnt (and_also (Sub 0) (Sub 1))) 0 ≡ None
not-both = refl

tested-for_unknown : forces (IsTruthOf Unknown (Sub 0)) 0 ≡ Some Unknown
tested-for_unknown = refl

-- NOT (0 IS TRUE): false or unknown
not-true : forces (isnt (IsTruthOf True (Sub 0))) 0 ≡ None
not-true = refl

tested-for_null : forces (IsNullOf (Sub 0)) 0 ≡ None
tested-for_null = refl
