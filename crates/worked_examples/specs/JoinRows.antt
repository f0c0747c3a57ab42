-- Worked examples of joins: RIGHT and FULL, and a sublink in the condition of a LEFT join.
use Rattle.std.specs.Prelude.{◌≡◌, [], ◌∷◌, None, refl}
use Rattle.null_logic.specs.declared.compare.Compare.TheVariants as compare
use Rattle.perm_values.specs.declared.value.Value.TheVariants.{Null}
use Rattle.bag_algebra.specs.Meaning.{Database, witnesses}
use Rattle.bag_algebra.specs.Means.{Held, Empty}
use Rattle.bag_algebra.specs.Outcome.{Good}
use Rattle.bag_algebra.specs.built.Patterns.{FilterOf, JoinOf, ProvOf}
use Rattle.bag_algebra.specs.declared.expr.Expr.TheVariants.{Sub}
use Rattle.bag_algebra.specs.declared.query.JoinKind.{JoinKind}
use Rattle.bag_algebra.specs.declared.query.JoinKind.TheVariants.{Left, Right, Full}
use Rattle.bag_algebra.specs.declared.query.SubKind.TheVariants.{Exists}
use Rattle.bag_algebra.specs.declared.query.Query.{Query, more_of-Sublink, end_of-Sublink}
use Rattle.worked_examples.specs.Queries.{none, one, num, x, y, holding, col, number, compared, and_also, r, s, item, select, printed}

abbrev sides : Database
sides = holding ((num 1 ∷ x ∷ []) ∷ (num 2 ∷ y ∷ []) ∷ []) ((num 2 ∷ []) ∷ (num 3 ∷ []) ∷ [])

-- r .. JOIN s ON a = c
abbrev joined : JoinKind → Query
joined kind = JoinOf kind r s (compared compare.Equal (col 0 0) (col 0 2)) none end_of-Sublink

-- SELECT PROVENANCE a, c
abbrev traced : Query → Query
traced q = ProvOf (select (item (col 0 0) ∷ item (col 0 2) ∷ []) q)

full-join : printed (traced (joined Full)) sides
    ≡ Good ((num 1 ∷ Null ∷ num 1 ∷ x ∷ Null ∷ []) ∷ (num 2 ∷ num 2 ∷ num 2 ∷ y ∷ num 2 ∷ []) ∷ (Null ∷ num 3 ∷ Null ∷ Null ∷ num 3 ∷ []) ∷ [])
full-join = refl

right-join : printed (traced (joined Right)) sides
    ≡ Good ((num 2 ∷ num 2 ∷ num 2 ∷ y ∷ num 2 ∷ []) ∷ (Null ∷ num 3 ∷ Null ∷ Null ∷ num 3 ∷ []) ∷ [])
right-join = refl

-- the lists of a pair, and of a row that met none
pair-lists : witnesses (joined Right) sides [] (num 2 ∷ y ∷ num 2 ∷ []) ≡ (Held (num 2 ∷ y ∷ []) ∷ Held (num 2 ∷ []) ∷ []) ∷ []
pair-lists = refl

right-lists : witnesses (joined Right) sides [] (Null ∷ Null ∷ num 3 ∷ []) ≡ (Empty 2 ∷ Held (num 3 ∷ []) ∷ []) ∷ []
right-lists = refl

-- RIGHT drops the row of r that met none, and FULL keeps it
right-drops : witnesses (joined Right) sides [] (num 1 ∷ x ∷ Null ∷ []) ≡ []
right-drops = refl

full-keeps_left : witnesses (joined Full) sides [] (num 1 ∷ x ∷ Null ∷ []) ≡ (Held (num 1 ∷ x ∷ []) ∷ Empty 1 ∷ []) ∷ []
full-keeps_left = refl

full-keeps_right : witnesses (joined Full) sides [] (Null ∷ Null ∷ num 3 ∷ []) ≡ (Empty 2 ∷ Held (num 3 ∷ []) ∷ []) ∷ []
full-keeps_right = refl

-- a row without a partner on either side: each side is kept once
full-without_pairs : printed (joined Full) (holding ((num 1 ∷ x ∷ []) ∷ (num 1 ∷ x ∷ []) ∷ []) ((Null ∷ []) ∷ []))
    ≡ Good ((num 1 ∷ x ∷ Null ∷ []) ∷ (num 1 ∷ x ∷ Null ∷ []) ∷ (Null ∷ Null ∷ Null ∷ []) ∷ [])
full-without_pairs = refl

-- SELECT PROVENANCE r.a, s.c FROM r LEFT JOIN s ON r.a = s.c AND EXISTS (SELECT 1 FROM s z WHERE z.c < r.a)
abbrev below : Query
below = select (item (number 1) ∷ []) (FilterOf s (compared compare.Less (col 0 0) (col 1 0)) none end_of-Sublink)

exists-in_left_join : printed (traced (JoinOf Left r s (and_also (compared compare.Equal (col 0 0) (col 0 2)) (Sub 0)) one (more_of-Sublink Exists None below end_of-Sublink)))
    (holding ((num 1 ∷ x ∷ []) ∷ (num 2 ∷ y ∷ []) ∷ []) ((num 1 ∷ []) ∷ (num 2 ∷ []) ∷ []))
    ≡ Good ((num 1 ∷ Null ∷ num 1 ∷ x ∷ Null ∷ Null ∷ []) ∷ (num 2 ∷ num 2 ∷ num 2 ∷ y ∷ num 2 ∷ num 1 ∷ []) ∷ [])
exists-in_left_join = refl
