-- Rows beside what sublinks contribute, where for each a rewriting of its query is given, or of what is traced for it: under each row its
-- provenance.
use Rattle.std.specs.Prelude.{◌≡◌, ⊤, ℕ, suc, ◌-◌, List, [], ◌∷◌, map, Option, Some, None}
use Rattle.std.specs.List.{range_with_len}
use Rattle.null_logic.specs.declared.truth.Truth.{Truth}
use Rattle.perm_values.specs.declared.kind.Kind.{Kind}
use Rattle.bag_algebra.specs.Kinds.{kind_in, kinds_in, kinds_of, width_of}
use Rattle.bag_algebra.specs.Rewriting.{IsRewrite, Stands}
use Rattle.bag_algebra.specs.built.Patterns.{FilterOf}
use Rattle.bag_algebra.specs.declared.expr.Expr.{Expr}
use Rattle.bag_algebra.specs.declared.expr.Item.{Item}
use Rattle.bag_algebra.specs.declared.query.Query.{Query, end_of-Sublink}
use Rattle.bag_algebra.specs.declared.query.Query.TheVariants.{Project}
use Rattle.bag_algebra.specs.declared.query.Sublink.{Sublink}
use Rattle.contribution.specs.NullItems.{null_item}
use Rattle.lateral_rewrite.specs.Dependent.{all_beside, beside, compared, contributed, provenance_of}
use Rattle.lateral_rewrite.specs.declared.choices.Choice.{Choice}
use Rattle.rewrite_core.specs.rewritings.KeptColumns.{columns_kept}
use Rattle.rewrite_core.specs.rewritings.OpenSublinks.{NoOpenSublink}
use Rattle.rewrite_move.specs.ForcedTruths.{forces}
use Rattle.rewrite_move.specs.Shares.{share_of}
use Rattle.rewrite_move.specs.declared.share.Share.{Share}
use Rattle.rewrite_move.specs.declared.share.Share.TheVariants.{NoRow, AllRows, MatchingRows, ByValue}
use Rattle.rewrite_move.specs.Traced.{query_from}
use Rattle.rewrite_move.specs.declared.below.Origin.{Origin}
use Rattle.rewrite_move.specs.declared.below.Origin.TheVariants.{Traced}
use Rattle.rewrite_sublink.specs.Candidates.{beside_row}

-- ---- no row contributes

-- the kinds of the provenance columns of a rewriting of a query with so many columns
abbrev pub provenance_kinds : Query → (own : ℕ) → List Kind
provenance_kinds rewriting own = kinds_in (kinds_of rewriting) (range_with_len own (width_of rewriting - own))

-- the rows beside a NULL of each kind
abbrev pub beside_nulls : Query → List Kind → Query
beside_nulls rows kinds = Project rows (beside_row rows (map null_item kinds)) []

-- ---- those rows contribute whose comparison has the truth of the sublink

-- the left operand
abbrev pub operand_item : Sublink → Expr → Item
operand_item sub operand = record { expr = operand; kind = kind_in (kinds_of sub.query) 0 }

-- the rows with it behind them
abbrev pub with_operand : Query → Sublink → Expr → Query
with_operand rows sub operand = Project rows (beside_row rows (operand_item sub operand ∷ [])) []

-- the provenance of the rows of the rewriting that match it, where it stands at that place of the nearest outer row
abbrev pub matching_provenance : Choice → ℕ → Sublink → Query → Query
matching_provenance choice place sub rewriting = provenance_of (FilterOf rewriting (compared choice place) [] end_of-Sublink) (width_of sub.query)

-- the rows without it, beside that provenance
abbrev pub matching_beside : Choice → Expr → Query → Sublink → Query → Query
matching_beside choice operand rows sub rewriting =
    columns_kept (beside (with_operand rows sub operand) (matching_provenance choice (width_of rows) sub rewriting)) (width_of rows) 1

abbrev pub matched : Choice → Option Expr → Query → Sublink → Query → Query
matched choice None rows sub rewriting = all_beside rows sub rewriting
matched choice (Some operand) rows sub rewriting = matching_beside choice operand rows sub rewriting

-- ---- one sublink, and each in turn

-- by what contributes, where the rewriting is one of that query
abbrev pub moved_by : Share → Query → Query → Sublink → Query → Query
moved_by NoRow query rows standing rewriting = beside_nulls rows (provenance_kinds rewriting (width_of query))
moved_by AllRows query rows standing rewriting = beside rows (provenance_of rewriting (width_of query))
moved_by (MatchingRows choice) query rows standing rewriting = matched choice standing.tested rows standing rewriting
moved_by ByValue query rows standing rewriting = contributed rows standing rewriting

-- of one sublink, of which that truth is known on the rows
abbrev pub moved : Origin → Option Truth → Query → (sub standing : Sublink) → Query → Query
moved origin known rows sub standing rewriting = moved_by (share_of sub.kind known) (query_from origin sub) rows standing rewriting

-- of each in turn, the first one having that number, where the condition is true of the rows
abbrev pub all_moved : Origin → Expr → ℕ → Query → (subs standing : List Sublink) → List Query → Query
all_moved origin condition at rows [] standing rewritings = rows
all_moved origin condition at rows (sub ∷ subs) [] rewritings = rows
all_moved origin condition at rows (sub ∷ subs) (stand ∷ standing) [] = rows
all_moved origin condition at rows (sub ∷ subs) (stand ∷ standing) (rewriting ∷ rewritings) =
    all_moved origin condition (suc at) (moved origin (forces condition at) rows sub stand rewriting) subs standing rewritings

-- each query is a rewriting of that query of its sublink, one by one
abbrev pub SubsFrom : Origin → List Sublink → List Query → Type 0
SubsFrom origin [] [] = ⊤
SubsFrom origin [] (p ∷ ps) = ⊥
SubsFrom origin (sub ∷ subs) [] = ⊥
SubsFrom origin (sub ∷ subs) (p ∷ ps) = IsRewrite (query_from origin sub) p × SubsFrom origin subs ps

-- of what is traced for it
abbrev pub SubsTraced : List Sublink → List Query → Type 0
SubsTraced subs rewritings = SubsFrom Traced subs rewritings

-- p stands for q, has its columns also where q isn't well formed, and no open sublink where q has none
pub record Like (q p : Query) : Type 0 where
  pub kinds : kinds_of p ≡ kinds_of q
  pub stands : Stands q p
  pub none_open : NoOpenSublink q → NoOpenSublink p
