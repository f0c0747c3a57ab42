-- What is made of rows for one sublink is like the dependent join of rows that they are like; and for one sublink after another.
use Rattle.std.proofs.Common.{◌≡◌, ℕ, zero, suc, ◌+◌, ◌<◌, ◌≤◌, ◌&&◌, true, List, [], ◌∷◌, map, length, drop, get_or, Option, Some, None, Result, Ok, Err, IfOk, refl, sym, ap, ◌∙◌, subst, arith}
use Rattle.std.proofs.lemmas.List.{drop_all}
use Rattle.null_logic.specs.declared.truth.Truth.{Truth}
use Rattle.perm_values.specs.declared.kind.Kind.{Kind}
use Rattle.perm_values.specs.declared.no_memory.NoMemory.{NoMemory}
use Rattle.perm_values.proofs.Lists.{dropped}
use Rattle.bag_algebra.proofs.Truths.{and_true}
use Rattle.bag_algebra.specs.Kinds.{width_of}
use Rattle.bag_algebra.specs.Rewriting.{IsRewrite, is_plain}
use Rattle.bag_algebra.specs.declared.expr.Expr.{Expr}
use Rattle.bag_algebra.specs.declared.query.Query.{Query}
use Rattle.bag_algebra.specs.declared.query.Sublink.{Sublink}
use Rattle.contribution.specs.NullItems.{null_item}
use Rattle.lateral_rewrite.specs.Dependent.{beside, choice_of, chosen_beside, chosen_provenance, contributed, contributed_by, provenance_of, valued, value_items}
use Rattle.lateral_rewrite.specs.declared.choices.Choice.{Choice}
use Rattle.query_laws.specs.Standing.{SubStands, SubsStand}
use Rattle.rewrite_core.specs.rewritings.KeptColumns.{columns_kept}
use Rattle.rewrite_move.proofs.LikeQueries.{like-beside, like-beside_row, like-columns_and, like-columns_kept}
use Rattle.rewrite_move.specs.ForcedTruths.{forces}
use Rattle.rewrite_move.specs.Moved.{Like, SubsFrom, all_moved, beside_nulls, matched, matching_beside, matching_provenance, moved, moved_by, operand_item, with_operand}
use Rattle.rewrite_move.specs.Shares.{share_of}
use Rattle.rewrite_move.specs.declared.share.Share.{Share}
use Rattle.rewrite_move.specs.Traced.{query_from}
use Rattle.rewrite_move.specs.declared.below.Origin.{Origin}
use Rattle.rewrite_move.specs.declared.below.Origin.TheVariants.{Own}
use Rattle.rewrite_sublink.specs.SubRewritings.{SubsRewritten}
use Rattle.query_laws.specs.spines.Spines.{IsBeside, IsJoined}

-- ---- one sublink

plain-provenance : (r : Query) (own : ℕ) → is_plain r ≡ true → is_plain (provenance_of r own) ≡ true
plain-provenance r own plain = and_true (is_plain r) ∙ plain

plain-chosen : (choice : Choice) (place : ℕ) (stand : Sublink) (r : Query) → is_plain r ≡ true → is_plain (chosen_provenance choice place stand r) ≡ true
plain-chosen choice place stand r plain = and_true (is_plain r && true) ∙ and_true (is_plain r) ∙ plain

plain-matching : (choice : Choice) (place : ℕ) (stand : Sublink) (r : Query) → is_plain r ≡ true → is_plain (matching_provenance choice place stand r) ≡ true
plain-matching choice place stand r plain = and_true (is_plain r && true) ∙ and_true (is_plain r) ∙ plain

-- the rows stand beside the right query, by one of the two joins
abbrev pub StandBeside : Query → Query → Query → Type 0
StandBeside rows right p = IsBeside rows right p × IsJoined rows right p

pub stand_beside : (rows right : Query) (result : Result Query NoMemory) → IfOk result (λ p. IsBeside rows right p) → IfOk result (λ p. IsJoined rows right p) →
    IfOk result (StandBeside rows right)
stand_beside rows right (Ok p) is joined = (is, joined)
stand_beside rows right (Err error) is joined = tt

module _ (whole rows : Query) (l : Like whole rows) (r : Query) (plain : is_plain r ≡ true) where
  -- the provenance of all rows
  pub all-moved : (p : Query) (own : ℕ) → StandBeside rows (provenance_of r own) p → Like (beside whole (provenance_of r own)) p
  all-moved p own is = like-beside whole rows (provenance_of r own) p l (plain-provenance r own plain) is.0 is.1

  -- that of the rows that a value chooses
  pub chosen-moved : (choice : Choice) (operand : Expr) (stand : Sublink) (pairs : Query) (place : ℕ) → is_plain stand.query ≡ true → place ≡ width_of rows →
      StandBeside (valued rows stand operand) (chosen_provenance choice place stand r) pairs →
      Like (chosen_beside choice operand whole stand r) (columns_kept pairs place 2)
  chosen-moved choice operand stand pairs place of_query at is =
      let there : place ≡ width_of whole = at ∙ ap length l.kinds in
      subst (λ n. Like (columns_kept (beside (valued whole stand operand) (chosen_provenance choice n stand r)) n 2) (columns_kept pairs place 2)) there
      (like-columns_kept (beside (valued whole stand operand) (chosen_provenance choice place stand r)) pairs
      (like-beside (valued whole stand operand) (valued rows stand operand) (chosen_provenance choice place stand r) pairs
      (like-beside_row whole rows l (value_items stand operand) stand of_query) (plain-chosen choice place stand r plain) is.0 is.1) place 2)

  -- that of the rows that match
  pub matching-moved : (choice : Choice) (operand : Expr) (stand : Sublink) (pairs : Query) (place : ℕ) → place ≡ width_of rows →
      StandBeside (with_operand rows stand operand) (matching_provenance choice place stand r) pairs →
      Like (matching_beside choice operand whole stand r) (columns_kept pairs place 1)
  matching-moved choice operand stand pairs place at is =
      let there : place ≡ width_of whole = at ∙ ap length l.kinds in
      subst (λ n. Like (columns_kept (beside (with_operand whole stand operand) (matching_provenance choice n stand r)) n 1) (columns_kept pairs place 1)) there
      (like-columns_kept (beside (with_operand whole stand operand) (matching_provenance choice place stand r)) pairs
      (like-beside (with_operand whole stand operand) (with_operand rows stand operand) (matching_provenance choice place stand r) pairs
      (like-columns_and whole rows l (operand_item stand operand ∷ [])) (plain-matching choice place stand r plain) is.0 is.1) place 1)

-- ---- one after another

-- what a loop has so far: rows like those of the sublinks before, of which the others make the whole
pub record SoFar (origin : Origin) (condition : Expr) (rows whole : Query) (subs standing : List Sublink) (rewritings : List Query) (at : ℕ) : Type 0 where
  pub reached : Query
  pub like : Like reached whole
  pub same : all_moved origin condition at reached (drop at subs) (drop at standing) (drop at rewritings) ≡ all_moved origin condition 0 rows subs standing rewritings

pub so_far-first : (origin : Origin) (condition : Expr) (rows : Query) (subs standing : List Sublink) (rewritings : List Query) → Like rows rows →
    SoFar origin condition rows rows subs standing rewritings 0
so_far-first origin condition rows subs standing rewritings l = record { reached = rows; like = l; same = refl }

pub so_far-next : (origin : Origin) (condition : Expr) (rows whole next : Query) (subs standing : List Sublink) (rewritings : List Query) (at : ℕ) (sub stand : Sublink) (rewriting : Query) →
    at < length subs → at < length standing → at < length rewritings →
    sub ≡ get_or subs at sub → stand ≡ get_or standing at stand → rewriting ≡ get_or rewritings at rewriting →
    SoFar origin condition rows whole subs standing rewritings at →
    ((before : Query) → Like before whole → Like (moved origin (forces condition at) before sub stand rewriting) next) →
    SoFar origin condition rows next subs standing rewritings (at + 1)
so_far-next origin condition rows whole next subs standing rewritings at sub stand rewriting h g k e f d so step =
    let following : suc at ≡ at + 1 = omega arith in
    let reached = moved origin (forces condition at) so.reached sub stand rewriting in
    record {
      reached = reached;
      like = step so.reached so.like;
      same =
          ap (λ n. all_moved origin condition n reached (drop (at + 1) subs) (drop (at + 1) standing) (drop (at + 1) rewritings)) (sym following)
          ∙ sym (λ i. all_moved origin condition at so.reached (dropped subs at sub h e i) (dropped standing at stand g f i) (dropped rewritings at rewriting k d i))
          ∙ so.same;
    }

pub so_far-last : (origin : Origin) (condition : Expr) (rows whole : Query) (subs standing : List Sublink) (rewritings : List Query) (at : ℕ) → length subs ≤ at →
    SoFar origin condition rows whole subs standing rewritings at → Like (all_moved origin condition 0 rows subs standing rewritings) whole
so_far-last origin condition rows whole subs standing rewritings at far so =
    subst (λ q. Like q whole)
    (ap (λ rest. all_moved origin condition at so.reached rest (drop at standing) (drop at rewritings)) (sym (drop_all at subs far)) ∙ so.same) so.like

-- ---- as many, and one of each

pub from-length : (origin : Origin) (subs : List Sublink) (rewritings : List Query) → SubsFrom origin subs rewritings → length subs ≡ length rewritings
from-length origin [] [] s = refl
from-length origin [] (p ∷ ps) s = absurd s
from-length origin (sub ∷ subs) [] s = absurd s
from-length origin (sub ∷ subs) (p ∷ ps) s = ap suc (from-length origin subs ps s.1)

pub stand-at : (subs standing : List Sublink) (at : ℕ) (sub stand : Sublink) → SubsStand subs standing → at < length subs → SubStands (get_or subs at sub) (get_or standing at stand)
stand-at [] standing at sub stand s h = absurd (omega (arith, h))
stand-at (first ∷ subs) [] at sub stand s h = absurd s
stand-at (first ∷ subs) (other ∷ standing) zero sub stand s h = s.0
stand-at (first ∷ subs) (other ∷ standing) (suc at) sub stand s h = stand-at subs standing at sub stand s.1 (omega (arith, h))

pub from-at : (origin : Origin) (subs : List Sublink) (rewritings : List Query) (at : ℕ) (sub : Sublink) (rewriting : Query) → SubsFrom origin subs rewritings →
    at < length subs → IsRewrite (query_from origin (get_or subs at sub)) (get_or rewritings at rewriting)
from-at origin [] rewritings at sub rewriting s h = absurd (omega (arith, h))
from-at origin (first ∷ subs) [] at sub rewriting s h = absurd s
from-at origin (first ∷ subs) (p ∷ ps) zero sub rewriting s h = s.0
from-at origin (first ∷ subs) (p ∷ ps) (suc at) sub rewriting s h = from-at origin subs ps at sub rewriting s.1 (omega (arith, h))

-- rewritings of the sublinks' own queries
pub from-rewritten : (subs : List Sublink) (rewritings : List Query) → SubsRewritten subs rewritings → SubsFrom Own subs rewritings
from-rewritten [] [] s = tt
from-rewritten [] (p ∷ ps) s = absurd s
from-rewritten (sub ∷ subs) [] s = absurd s
from-rewritten (sub ∷ subs) (p ∷ ps) s = (s.0, from-rewritten subs ps s.1)

-- ---- by what contributes

pub moved-as : (origin : Origin) (sub stand : Sublink) (r : Query) (known : Option Truth) (whole p : Query) (share : Share) → share_of sub.kind known ≡ share →
    Like (moved_by share (query_from origin sub) whole stand r) p → Like (moved origin known whole sub stand r) p
moved-as origin sub stand r known whole p share e l = subst (λ share. Like (moved_by share (query_from origin sub) whole stand r) p) (sym e) l

-- NULLs of the same kinds beside rows that stand for others
pub nulls-like : (whole rows : Query) → Like whole rows → (kinds : List Kind) → Like (beside_nulls whole kinds) (beside_nulls rows kinds)
nulls-like whole rows l kinds = like-columns_and whole rows l (map null_item kinds)

module _ (whole : Query) (stand : Sublink) (r p : Query) (choice : Choice) where
  pub matched-untested : stand.tested ≡ None → Like (beside whole (provenance_of r (width_of stand.query))) p → Like (matched choice stand.tested whole stand r) p
  matched-untested e l = subst (λ tested. Like (matched choice tested whole stand r) p) (sym e) l

  pub matched-tested : (operand : Expr) → stand.tested ≡ Some operand → Like (matching_beside choice operand whole stand r) p → Like (matched choice stand.tested whole stand r) p
  matched-tested operand e l = subst (λ tested. Like (matched choice tested whole stand r) p) (sym e) l

module _ (whole : Query) (stand : Sublink) (r p : Query) where
  pub contributed-none : choice_of stand.kind ≡ None → Like (beside whole (provenance_of r (width_of stand.query))) p → Like (contributed whole stand r) p
  contributed-none e l = subst (λ q. Like q p) (sym (ap (λ ch. contributed_by ch stand.tested whole stand r) e)) l

  pub contributed-untested : (choice : Choice) → choice_of stand.kind ≡ Some choice → stand.tested ≡ None → Like (beside whole (provenance_of r (width_of stand.query))) p →
      Like (contributed whole stand r) p
  contributed-untested choice e t l = subst (λ q. Like q p) (sym (λ i. contributed_by (e i) (t i) whole stand r)) l

  pub contributed-chosen : (choice : Choice) (operand : Expr) → choice_of stand.kind ≡ Some choice → stand.tested ≡ Some operand → Like (chosen_beside choice operand whole stand r) p →
      Like (contributed whole stand r) p
  contributed-chosen choice operand e t l = subst (λ q. Like q p) (sym (λ i. contributed_by (e i) (t i) whole stand r)) l
