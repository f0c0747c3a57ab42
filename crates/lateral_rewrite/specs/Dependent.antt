-- Rows beside what sublinks contribute, by dependent joins: under each row stands the provenance of a rewriting of the
-- sublink's query (after Glavic and Alonso, EDBT 2009, where the sublinks of a node move into joins; that they may read the
-- row is this project's own).
use Rattle.std.specs.Prelude.{ℕ, ◌+◌, List, [], ◌∷◌, Option, Some, None}
use Rattle.null_logic.specs.declared.operator.Operator.TheVariants as op
use Rattle.null_logic.specs.declared.truth.Truth.TheVariants.{True, False}
use Rattle.perm_values.specs.declared.kind.Kind.TheVariants.{Boolean}
use Rattle.bag_algebra.specs.Kinds.{kinds_of, kind_in, width_of}
use Rattle.bag_algebra.specs.built.Patterns.{ApplyOf, FilterOf}
use Rattle.bag_algebra.specs.declared.expr.Expr.{Expr}
use Rattle.bag_algebra.specs.declared.expr.Expr.TheVariants.{Col, IsTruth, Op, Sub}
use Rattle.bag_algebra.specs.declared.expr.Item.{Item}
use Rattle.bag_algebra.specs.declared.query.JoinKind.TheVariants.{Left}
use Rattle.bag_algebra.specs.declared.query.Query.{Query, end_of-Sublink}
use Rattle.bag_algebra.specs.declared.query.Query.TheVariants.{Project}
use Rattle.bag_algebra.specs.declared.query.SubKind.{SubKind}
use Rattle.bag_algebra.specs.declared.query.SubKind.TheVariants.{Exists, Any, All, Scalar}
use Rattle.bag_algebra.specs.declared.query.Sublink.{Sublink}
use Rattle.rewrite_core.specs.rewritings.KeptColumns.{columns_kept}
use Rattle.rewrite_sublink.specs.Candidates.{beside_row}
use Rattle.lateral_rewrite.specs.declared.choices.Choice.{Choice}

-- a row beside each row of the right side, which sees it as its nearest outer row; beside NULLs where that has none
abbrev pub beside : (rows right : Query) → Query
beside rows right = ApplyOf Left rows right

-- of a rewriting of a query with so many columns those of provenance
abbrev pub provenance_of : Query → (own : ℕ) → Query
provenance_of rewriting own = columns_kept rewriting 0 own

-- ---- a sublink to which all rows of its query contribute

abbrev pub all_beside : Query → Sublink → Query → Query
all_beside rows sub rewriting = beside rows (provenance_of rewriting (width_of sub.query))

-- ---- a sublink whose value may choose rows

-- with which value a sublink lets those rows alone contribute whose comparison has that value too
abbrev pub choice_of : SubKind → Option Choice
choice_of Exists = None
choice_of (Any c) = Some (record { truth = True; compare = c })
choice_of (All c) = Some (record { truth = False; compare = c })
choice_of Scalar = None

abbrev pub has_value : Choice → Expr → Expr
has_value choice part = IsTruth choice.truth part

-- the sublink doesn't have that value; it stands at that place of the nearest outer row
abbrev pub undecided : Choice → ℕ → Expr
undecided choice place = Op op.Not (has_value choice (Col 1 place) ∷ [])

-- the comparison of the left operand, which stands there, and the row's first column has it
abbrev pub compared : Choice → ℕ → Expr
compared choice place = has_value choice (Op (op.Compare choice.compare) (Col 1 place ∷ Col 0 0 ∷ []))

-- whether the row contributes
abbrev pub contributes : Choice → ℕ → Expr
contributes choice place = Op op.Or (undecided choice place ∷ compared choice (place + 1) ∷ [])

-- the value of the sublink, and its left operand
abbrev pub value_items : Sublink → Expr → List Item
value_items sub operand =
    record { expr = Sub 0; kind = Boolean } ∷ record { expr = operand; kind = kind_in (kinds_of sub.query) 0 } ∷ []

-- the rows with these two behind them
abbrev pub valued : Query → Sublink → Expr → Query
valued rows sub operand = Project rows (beside_row rows (value_items sub operand)) (sub ∷ [])

-- the rows of the rewriting that contribute, where the value stands at that place
abbrev pub chosen_rows : Choice → ℕ → Query → Query
chosen_rows choice place rewriting = FilterOf rewriting (contributes choice place) [] end_of-Sublink

abbrev pub chosen_provenance : Choice → ℕ → Sublink → Query → Query
chosen_provenance choice place sub rewriting = provenance_of (chosen_rows choice place rewriting) (width_of sub.query)

-- the rows without these two, beside the provenance of those rows of the rewriting that contribute
abbrev pub chosen_beside : Choice → Expr → Query → Sublink → Query → Query
chosen_beside choice operand rows sub rewriting =
    columns_kept (beside (valued rows sub operand) (chosen_provenance choice (width_of rows) sub rewriting)) (width_of rows) 2

-- ---- one sublink after another

-- by how the sublink may choose, and by its left operand
abbrev pub contributed_by : Option Choice → Option Expr → Query → Sublink → Query → Query
contributed_by None tested rows sub rewriting = all_beside rows sub rewriting
contributed_by (Some choice) None rows sub rewriting = all_beside rows sub rewriting
contributed_by (Some choice) (Some operand) rows sub rewriting = chosen_beside choice operand rows sub rewriting

-- the rows beside the contributions of the sublink
abbrev pub contributed : Query → Sublink → Query → Query
contributed rows sub rewriting = contributed_by (choice_of sub.kind) sub.tested rows sub rewriting

-- each sublink has a rewriting of its query
abbrev pub all_contributed : Query → List Sublink → List Query → Query
all_contributed rows [] rewritings = rows
all_contributed rows (sub ∷ subs) [] = rows
all_contributed rows (sub ∷ subs) (rewriting ∷ rewritings) = all_contributed (contributed rows sub rewriting) subs rewritings
