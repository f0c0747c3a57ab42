-- An inner join on the first columns being the same: each row beside its own rows.
use Rattle.std.proofs.Common.{◌≡◌, ℕ, List, [], ◌++◌, map, length, Contains, IsTrue, refl, sym, ap, ◌∙◌, subst, true≢false}
use Rattle.perm_values.specs.Rows.{same_row}
use Rattle.perm_values.specs.ValueLaws.{row_decides}
use Rattle.bag_algebra.specs.Bags.{Row, Bag, member}
use Rattle.bag_algebra.specs.Expressions.{value}
use Rattle.bag_algebra.specs.Means.{Witness, flat, joined_rows}
use Rattle.bag_algebra.specs.Outcome.{Good}
use Rattle.bag_algebra.specs.declared.query.JoinKind.TheVariants.{Inner}
use Rattle.rewrite_core.proofs.JoinedRows.{Spread, beside_list, spread-from_beside, JoinedList, of_met, of_alone, joined_good, joined-spread}
use Rattle.rewrite_core.proofs.KeptRows.{same-value}
use Rattle.rewrite_core.specs.rewritings.KeptColumns.{same_as_first}
use Rattle.rewrite_core.specs.rewritings.Rewritten.{Beside}

-- a list of the row on the left and one on the right
pub record MatchedList (left_lists right_lists : Row → List Witness) (us : Bag) (t : Row) (w : Witness) : Type 0 where
  pub l : Witness
  pub r : Witness
  pub row : IsTrue (member t us)
  pub is_left : Contains (left_lists t) l
  pub is_right : Contains (right_lists t) r
  pub whole : l ++ r ≡ w

module _ (left_lists right_lists : Row → List Witness) (us : Bag) (blank : Witness) (t : Row) (w : Witness) where
  from-joined : JoinedList left_lists right_lists us same_row Inner blank t w → MatchedList left_lists right_lists us t w
  from-joined (of_met u l r is_left here m is_right e) =
      let same : u ≡ t = sym ((row_decides t u).0 m) in
      record {
        l = l;
        r = r;
        row = subst (λ u. IsTrue (member u us)) same here;
        is_left = is_left;
        is_right = subst (λ u. Contains (right_lists u) r) same is_right;
        whole = e;
      }
  from-joined (of_alone l keeps is_left none e) = absurd (true≢false (sym keeps))

  into-joined : MatchedList left_lists right_lists us t w → JoinedList left_lists right_lists us same_row Inner blank t w
  into-joined m = of_met t m.l m.r m.is_left m.row ((row_decides t t).1 refl) m.is_right m.whole

-- what is asked of the rows and lists of the sides and of the node
pub record Matching (left_lists right_lists lists : Row → List Witness) (ts us ns : Bag) (count from : ℕ) : Type 0 where
  pub row_width : (t : Row) → IsTrue (member t ts) → length t ≡ count
  pub left_width : (t : Row) (l : Witness) → IsTrue (member t ts) → Contains (left_lists t) l → length (t ++ flat l) ≡ from
  pub right_width : (u : Row) → IsTrue (member u us) → length u ≡ count
  pub among : (t : Row) → IsTrue (member t ns) → IsTrue (member t ts)
  pub from_lists : (t : Row) (w : Witness) → IsTrue (member t ns) → Contains (lists t) w → MatchedList left_lists right_lists us t w
  pub in_lists : (t : Row) (w : Witness) → IsTrue (member t ts) → MatchedList left_lists right_lists us t w → IsTrue (member t ns) × Contains (lists t) w

pub matched-spread : (left_lists right_lists lists : Row → List Witness) (ts us ns zs xs : Bag) (count from left_width right_width : ℕ) (env : List Row)
    (remake : Row → Witness → Row) (move : Row → Row) → Matching left_lists right_lists lists ts us ns count from → Beside left_lists ts zs → Beside right_lists us xs →
    ((t : Row) (l r : Witness) → IsTrue (member t ts) → Contains (left_lists t) l → IsTrue (member t us) → Contains (right_lists t) r →
    move (t ++ flat l ++ (t ++ flat r)) ≡ remake t (l ++ r)) →
    (bag : Bag) × (joined_rows Inner (λ u. value (same_as_first count from) u env []) left_width right_width zs xs ≡ Good bag) × Spread remake lists ns (map move bag)
matched-spread left_lists right_lists lists ts us ns zs xs count from left_width right_width env remake move m left right moved =
    let condition = λ (u : Row). value (same_as_first count from) u env [] in
    let spread = spread-from_beside left_lists ts zs left in
    let holds = λ (t u : Row) (l r : Witness) (h : IsTrue (member t ts)) (c : Contains (left_lists t) l) (k : IsTrue (member u us)) (d : Contains (right_lists u) r).
    same-value count from env t (flat l) u (flat r) (m.row_width t h) (m.left_width t l h c) (m.right_width u k) in
    let made = joined_good beside_list left_lists ts zs spread right_lists us xs right same_row condition holds Inner refl left_width right_width in (
      made.0,
      made.1,
      joined-spread beside_list left_lists ts zs spread right_lists us xs right same_row condition holds Inner refl left_width right_width made.0 made.1 [] remake move
          (λ t u l r h c k d e.
          let same : t ≡ u = (row_decides t u).0 e in
          ap (λ u. move (t ++ flat l ++ (u ++ flat r))) (sym same)
          ∙ moved t l r h c (subst (λ u. IsTrue (member u us)) (sym same) k) (subst (λ u. Contains (right_lists u) r) (sym same) d))
          (λ keeps. absurd (true≢false (sym keeps))) lists ns m.among
          (λ t w h c. into-joined left_lists right_lists us [] t w (m.from_lists t w h c))
          (λ t w h j. m.in_lists t w h (from-joined left_lists right_lists us [] t w j)),
    )
