-- Which rows of a sublink's query contribute to a row of the node, where a truth of the sublink may be known.
use Rattle.std.specs.Prelude.{ℕ, suc, Bool, true, false, not, ◌&&◌, cond, List, [], ◌∷◌, Option, Some, None}
use Rattle.std.specs.List.{list_all}
use Rattle.null_logic.specs.Logic.{value_of}
use Rattle.null_logic.specs.declared.truth.Truth.{Truth}
use Rattle.null_logic.specs.declared.truth.Truth.TheVariants.{True, False, Unknown}
use Rattle.bag_algebra.specs.Expressions.{has_truth}
use Rattle.bag_algebra.specs.declared.expr.Expr.{Expr}
use Rattle.bag_algebra.specs.declared.query.Query.{Query}
use Rattle.bag_algebra.specs.declared.query.SubKind.{SubKind}
use Rattle.bag_algebra.specs.declared.query.SubKind.TheVariants.{Exists, Any, All, Scalar}
use Rattle.bag_algebra.specs.declared.query.Sublink.{Sublink}
use Rattle.lateral_rewrite.specs.declared.choices.Choice.{Choice}
use Rattle.query_laws.specs.spines.Spines.{is_spine}
use Rattle.rewrite_move.specs.ForcedTruths.{forces}
use Rattle.rewrite_move.specs.declared.share.Share.{Share}
use Rattle.rewrite_move.specs.declared.share.Share.TheVariants.{NoRow, AllRows, MatchingRows, ByValue}

-- an EXISTS that is false has no row, and every row there is contributes to it
abbrev pub existing_share : Option Truth → Share
existing_share None = AllRows
existing_share (Some True) = AllRows
existing_share (Some False) = NoRow
existing_share (Some Unknown) = AllRows

-- to a sublink that has the truth by which it chooses those rows contribute whose comparison has it too, and to one that has another all
abbrev pub compared_share : Choice → Option Truth → Share
compared_share choice None = ByValue
compared_share choice (Some truth) = cond (has_truth choice.truth (value_of truth)) (MatchingRows choice) AllRows

abbrev pub share_of : SubKind → Option Truth → Share
share_of Exists known = existing_share known
share_of (Any c) known = compared_share (record { truth = True; compare = c }) known
share_of (All c) known = compared_share (record { truth = False; compare = c }) known
share_of Scalar known = AllRows

-- ---- where each sublink has a dependent join

abbrev pub is_by_value : Share → Bool
is_by_value NoRow = false
is_by_value AllRows = false
is_by_value (MatchingRows choice) = false
is_by_value ByValue = true

-- the value of each sublink of the condition decides, the first one having that number
abbrev pub all_by_value : Expr → ℕ → List Sublink → Bool
all_by_value condition at [] = true
all_by_value condition at (sub ∷ subs) = is_by_value (share_of sub.kind (forces condition at)) && all_by_value condition (suc at) subs

-- so it does, and beside no rewriting an ordinary join serves
abbrev pub all_dependent : Expr → List Sublink → List Query → Bool
all_dependent condition subs rewritings = all_by_value condition 0 subs && list_all (λ rewriting. not (is_spine rewriting)) rewritings
