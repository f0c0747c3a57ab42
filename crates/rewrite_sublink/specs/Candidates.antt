-- Candidates of a sublink's contributions: rows beside all rows of a base, and the test that leaves those that are a
-- contribution (the strategy Gen: Glavic and Alonso, EDBT 2009).
use Rattle.std.specs.Prelude.{ℕ, ◌+◌, ◌-◌, List, [], ◌∷◌, ◌++◌, Option, Some, None}
use Rattle.std.specs.List.{range_with_len}
use Rattle.null_logic.specs.declared.truth.Truth.{Truth}
use Rattle.null_logic.specs.declared.truth.Truth.TheVariants.{True, False}
use Rattle.bag_algebra.specs.ColumnItems.{column_items}
use Rattle.bag_algebra.specs.Kinds.{kinds_of, width_of}
use Rattle.bag_algebra.specs.built.Patterns.{FilterOf, ProjectOf}
use Rattle.bag_algebra.specs.declared.expr.Arm.{Arm}
use Rattle.bag_algebra.specs.declared.expr.Expr.{Expr}
use Rattle.bag_algebra.specs.declared.expr.Expr.TheVariants.{Case, IsTruth, Sub}
use Rattle.bag_algebra.specs.declared.expr.Item.{Item}
use Rattle.bag_algebra.specs.declared.query.JoinKind.TheVariants.{Inner, Left}
use Rattle.bag_algebra.specs.declared.query.Query.{Query, end_of-Sublink}
use Rattle.bag_algebra.specs.declared.query.Query.TheVariants.{Filter, Single}
use Rattle.bag_algebra.specs.declared.query.SubKind.{SubKind}
use Rattle.bag_algebra.specs.declared.query.SubKind.TheVariants.{Exists, Any, All, Scalar}
use Rattle.bag_algebra.specs.declared.query.Sublink.{Sublink}
use Rattle.contribution.specs.CrossBase.{cross_base_of}
use Rattle.rewrite_core.specs.rewritings.KeptColumns.{pairs_of}
use Rattle.contribution.specs.Conjunctions.{all_hold, always, same_tests}

-- ---- the rows of a sublink that match a candidate

-- so many columns of the nearest outer row, from a place on, are the same as the own row's from another place on
abbrev pub same_as_outer : (count from own : ℕ) → Expr
same_as_outer count from own = all_hold (same_tests 1 (range_with_len from count) (range_with_len own count))

-- the rows, or one row of NULLs where there is none
abbrev pub or_nulls : Query → Query
or_nulls rows = pairs_of Left Single rows always

-- those with the candidate's columns from a place on
abbrev pub matching : (count from own : ℕ) → Query → Query
matching count from own rows = FilterOf (or_nulls rows) (same_as_outer count from own) [] end_of-Sublink

abbrev pub first_column : Query → Query
first_column q = ProjectOf q (column_items (kinds_of q) (0 ∷ [])) [] end_of-Sublink

-- ---- the test of a candidate

-- with which value a sublink of the kind lets those rows alone contribute that compare so
abbrev pub deciding : SubKind → Option Truth
deciding Exists = None
deciding (Any c) = Some True
deciding (All c) = Some False
deciding Scalar = None

abbrev pub exists_in : Query → Sublink
exists_in found = record { kind = Exists; tested = None; query = found }

-- the sublink over the first column of other rows
abbrev pub sub_over : Sublink → Query → Sublink
sub_over sub found = record { kind = sub.kind; tested = sub.tested; query = first_column found }

-- what is asked of the matching rows: that there is one, and where a value decides, the sublink itself and over these alone
abbrev pub test_subs : Option Truth → Sublink → Query → List Sublink
test_subs None sub found = exists_in found ∷ []
test_subs (Some truth) sub found = exists_in found ∷ sub ∷ sub_over sub found ∷ []

abbrev pub deciding_arm : Truth → Arm
deciding_arm truth = record { condition = IsTruth truth (Sub 1); value = IsTruth truth (Sub 2) }

-- where the sublink has the value that decides, the matching rows have to give it too; else one of them suffices
abbrev pub test_condition : Option Truth → Expr
test_condition None = Sub 0
test_condition (Some truth) = Case (deciding_arm truth ∷ []) (Sub 0)

abbrev pub tested : Query → Sublink → Query → Query
tested pairs sub found = Filter pairs (test_condition (deciding sub.kind)) (test_subs (deciding sub.kind) sub found)

-- ---- one sublink after another

-- the rows beside the rows of the base that are a contribution of the sublink
abbrev pub contributed : (rows base : Query) → Sublink → Query → Query
contributed rows base sub rewriting =
    tested (pairs_of Inner rows base always) sub (matching (width_of base) (width_of rows) (width_of sub.query) rewriting)

-- each sublink has its base, what stands for it, and a rewriting
abbrev pub all_contributed : Query → (subs standing : List Sublink) → List Query → Query
all_contributed rows [] standing rewritings = rows
all_contributed rows (sub ∷ subs) [] rewritings = rows
all_contributed rows (sub ∷ subs) (stand ∷ standing) [] = rows
all_contributed rows (sub ∷ subs) (stand ∷ standing) (rewriting ∷ rewritings) =
    all_contributed (contributed rows (cross_base_of sub.query) stand rewriting) subs standing rewritings

-- ---- items

-- all columns of the query, and then the items
abbrev pub beside_row : Query → List Item → List Item
beside_row q items = column_items (kinds_of q) (range_with_len 0 (width_of q)) ++ items

-- the columns of a node with so many items, over a rewriting with so many columns of an input with so many: the items, the
-- rewriting's provenance, and what stands behind the items
abbrev pub answer_places : (own row made all : ℕ) → List ℕ
answer_places own row made all = range_with_len row made ++ range_with_len own (row - own) ++ range_with_len (row + made) (all - (row + made))

abbrev pub answer_columns : Query → (own row made : ℕ) → Query
answer_columns q own row made = ProjectOf q (column_items (kinds_of q) (answer_places own row made (width_of q))) [] end_of-Sublink
