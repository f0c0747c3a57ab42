-- A join of projections to columns is a projection to columns over the join, of whatever kind it is.
use Rattle.std.proofs.Common.{◌≡◌, ℕ, zero, ◌+◌, ◌<◌, ◌≤◌, true, ◌&&◌, List, [], ◌∷◌, ◌++◌, map, length, refl, sym, ap, ◌∙◌, subst, arith, length-append}
use Rattle.std.proofs.lemmas.List.{length-map, map-append}
use Rattle.std.proofs.lemmas.List.Elements.{All-append}
use Rattle.perm_values.specs.Rows.{picked, value_at, PlacesWithin}
use Rattle.perm_values.specs.declared.kind.Kind.{Kind}
use Rattle.perm_values.specs.declared.kind.Kind.TheVariants.{Boolean, Text}
use Rattle.perm_values.specs.declared.value.Value.TheVariants.{Null}
use Rattle.perm_values.proofs.Steps.{by}
use Rattle.bag_algebra.proofs.Truths.{and_true, both-true, left-true, right-true}
use Rattle.bag_algebra.specs.Bags.{Row, nulls}
use Rattle.bag_algebra.specs.ColumnItems.{column_items}
use Rattle.bag_algebra.specs.Fits.{TablesFit, env_fits}
use Rattle.bag_algebra.specs.Kinds.{kind_in, kinds_in, kinds_of, width_of}
use Rattle.bag_algebra.specs.Meaning.{Database, meaning, condition_on}
use Rattle.bag_algebra.specs.Means.{joined_rows, no_subs}
use Rattle.bag_algebra.specs.Outcome.{both_then, mapped}
use Rattle.bag_algebra.specs.Rewriting.{is_plain, Stands}
use Rattle.bag_algebra.specs.WellFormed.{HasKind, WellFormed}
use Rattle.bag_algebra.specs.built.Forms.{EachTable-Join, WellFormed-Join}
use Rattle.bag_algebra.specs.built.Openings.{kinds_of-Join, meaning-Join, rows-with_lists}
use Rattle.bag_algebra.specs.built.Patterns.{JoinOf, ProjectOf}
use Rattle.bag_algebra.specs.built.Scopes.{is_plain-Join}
use Rattle.bag_algebra.specs.declared.expr.Expr.{Expr}
use Rattle.bag_algebra.specs.declared.query.JoinKind.{JoinKind}
use Rattle.bag_algebra.specs.declared.query.Query.{Query, end_of-Sublink}
use Rattle.bag_algebra.specs.declared.query.Query.TheVariants.{Join}
use Rattle.contribution.proofs.ColumnQueries.{all-first, all-nothing, all-rest, formed-columns, kinds_of-columns, meaning-columns}
use Rattle.contribution.proofs.QueryKinds.{denote-fits}
use Rattle.contribution.proofs.RowKinds.{RowFits, nulls-fit, row_fits-length}
use Rattle.contribution.specs.MovedColumns.{IsMoved}
use Rattle.query_laws.proofs.SpineItems.{nulls-null}
use Rattle.rewrite_core.proofs.Itself.{stands-onward}
use Rattle.rewrite_core.proofs.Places.{at-moved, at-within}
use Rattle.simpler_laws.proofs.TestedQueries.{stands-equal}
use Rattle.simplifier.proofs.projections.MadeRows.{join-made}
use Rattle.simplifier.proofs.projections.Picks.{Picks}
use Rattle.simplifier.specs.projections.Plans.{pair_places}

-- ---- places

wider : (n m : ℕ) → n ≤ m → (places : List ℕ) → PlacesWithin n places → PlacesWithin m places
wider n m low [] within = all-nothing (λ place. place < m)
wider n m low (place ∷ places) within =
    let first : place < n = within zero 0 (omega arith) in
    all-first (λ place. place < m) place places (omega (arith, first, low)) (wider n m low places (all-rest (λ place. place < n) place places within))

behind : (n m : ℕ) (places : List ℕ) → PlacesWithin m places → PlacesWithin (n + m) (map (λ place. n + place) places)
behind n m [] within = all-nothing (λ place. place < (n + m))
behind n m (place ∷ places) within =
    let first : place < m = within zero 0 (omega arith) in
    all-first (λ place. place < (n + m)) (n + place) (map (λ place. n + place) places) (omega (arith, first))
    (behind n m places (all-rest (λ place. place < m) place places within))

pairs-within : (n m : ℕ) (lefts rights : List ℕ) → PlacesWithin n lefts → PlacesWithin m rights → PlacesWithin (n + m) (pair_places lefts n rights)
pairs-within n m lefts rights h k =
    All-append (λ place. place < (n + m)) lefts (map (λ place. n + place) rights) (wider n (n + m) (omega arith) lefts h) (behind n m rights k)

-- ---- rows

nulls-picked : (n : ℕ) (places : List ℕ) → picked places (nulls n) ≡ nulls (length places)
nulls-picked n [] = refl
nulls-picked n (place ∷ places) = λ i. nulls-null n place i ∷ nulls-picked n places i

pair-picked : (n : ℕ) (lefts rights : List ℕ) (u v : Row) → length u ≡ n → PlacesWithin n lefts →
    picked (pair_places lefts n rights) (u ++ v) ≡ picked lefts u ++ picked rights v
pair-picked n lefts rights u v long within =
    map-append (value_at (u ++ v)) lefts (map (λ place. n + place) rights)
    ∙ (λ i. at-within Null u v lefts (subst (λ w. PlacesWithin w lefts) (sym long) within) i ++ at-moved Null u v rights n long i)

pair-kinds : (ks ls : List Kind) (lefts rights : List ℕ) → PlacesWithin (length ks) lefts →
    kinds_in (ks ++ ls) (pair_places lefts (length ks) rights) ≡ kinds_in ks lefts ++ kinds_in ls rights
pair-kinds ks ls lefts rights within =
    map-append (kind_in (ks ++ ls)) lefts (map (λ place. length ks + place) rights)
    ∙ (λ i. at-within Text ks ls lefts within i ++ at-moved Text ks ls rights (length ks) refl i)

-- ---- the join

module _ (left right lower_left lower_right : Query) (lefts rights : List ℕ) (of_left : Picks left lower_left lefts) (of_right : Picks right lower_right rights)
    (kind : JoinKind) (condition lower : Expr) (m : IsMoved (pair_places lefts (width_of lower_left) rights) condition lower) where
  abbrev order : List ℕ
  order = pair_places lefts (width_of lower_left) rights

  abbrev whole : Query
  whole = Join kind left right condition []

  abbrev pairs : Query
  pairs = JoinOf kind lower_left lower_right lower [] end_of-Sublink

  abbrev made : Query
  made = ProjectOf (JoinOf kind lower_left lower_right lower [] end_of-Sublink)
      (column_items (kinds_of lower_left ++ kinds_of lower_right) (pair_places lefts (width_of lower_left) rights)) [] end_of-Sublink

  rows-pairs : (db : Database) (env : List Row) →
      meaning pairs db env ≡ both_then (meaning lower_left db env) (meaning lower_right db env)
      (joined_rows kind (condition_on lower env no_subs) (width_of lower_left) (width_of lower_right))
  rows-pairs db env = rows-with_lists _ _

  module _ (outer : List (List Kind)) (f : WellFormed outer whole) where
    left-formed : WellFormed outer left
    left-formed = (by (WellFormed-Join outer kind left right condition []) f).left

    right-formed : WellFormed outer right
    right-formed = (by (WellFormed-Join outer kind left right condition []) f).right

    left-within : PlacesWithin (width_of lower_left) lefts
    left-within = of_left.within outer left-formed

    right-within : PlacesWithin (width_of lower_right) rights
    right-within = of_right.within outer right-formed

    within-order : PlacesWithin (width_of pairs) order
    within-order =
        subst (λ n. PlacesWithin n order) (sym (length-append (kinds_of lower_left) (kinds_of lower_right)))
        (pairs-within (width_of lower_left) (width_of lower_right) lefts rights left-within right-within)

    kinds-pairs : kinds_of left ++ kinds_of right ≡ kinds_in (kinds_of lower_left ++ kinds_of lower_right) order
    kinds-pairs =
        (λ i. of_left.kinds outer left-formed i ++ of_right.kinds outer right-formed i)
        ∙ sym (pair-kinds (kinds_of lower_left) (kinds_of lower_right) lefts rights left-within)

    pairs-formed : WellFormed outer pairs
    pairs-formed =
        let g = by (WellFormed-Join outer kind left right condition []) f in
        record {
          left = of_left.formed outer g.left;
          right = of_right.formed outer g.right;
          subs = tt;
          condition = m.kind (kinds_of lower_left ++ kinds_of lower_right) outer [] Boolean within-order
              (by (λ i. HasKind (kinds-pairs i ∷ outer) [] condition Boolean) g.condition);
        }

    widths-left : width_of left ≡ length lefts
    widths-left = ap length (of_left.kinds outer left-formed) ∙ length-map lefts (kind_in (kinds_of lower_left))

    widths-right : width_of right ≡ length rights
    widths-right = ap length (of_right.kinds outer right-formed) ∙ length-map rights (kind_in (kinds_of lower_right))

    both-picked : (u v : Row) → RowFits (kinds_of lower_left) u → picked order (u ++ v) ≡ picked lefts u ++ picked rights v
    both-picked u v h = pair-picked (width_of lower_left) lefts rights u v (row_fits-length u (kinds_of lower_left) h.fit) left-within

    right-empty : (u : Row) → RowFits (kinds_of lower_left) u → picked order (u ++ nulls (width_of lower_right)) ≡ picked lefts u ++ nulls (width_of right)
    right-empty u h =
        both-picked u (nulls (width_of lower_right)) h
        ∙ ap (λ v. picked lefts u ++ v) (nulls-picked (width_of lower_right) rights ∙ ap nulls (sym widths-right))

    left-empty : (v : Row) → RowFits (kinds_of lower_right) v → picked order (nulls (width_of lower_left) ++ v) ≡ nulls (width_of left) ++ picked rights v
    left-empty v h =
        both-picked (nulls (width_of lower_left)) v (nulls-fit (kinds_of lower_left))
        ∙ ap (λ u. u ++ picked rights v) (nulls-picked (width_of lower_left) lefts ∙ ap nulls (sym widths-left))

    same-rows : (db : Database) (env : List Row) → TablesFit db whole → env_fits env outer ≡ true → meaning whole db env ≡ meaning made db env
    same-rows db env h e =
        let tables = by (EachTable-Join _ kind left right condition []) h in
        meaning-Join db env kind left right condition []
        ∙ (λ i. both_then (of_left.rows outer db env left-formed tables.0 e i) (of_right.rows outer db env right-formed tables.1 e i)
        (joined_rows kind (condition_on condition env no_subs) (width_of left) (width_of right)))
        ∙ join-made (RowFits (kinds_of lower_left)) (RowFits (kinds_of lower_right)) (picked lefts) (picked rights) (picked order) (condition_on condition env no_subs)
        (condition_on lower env no_subs) (λ x. m.value x env []) (λ u v a b. both-picked u v a)
        (width_of left) (width_of right) (width_of lower_left) (width_of lower_right) right-empty left-empty kind
        (meaning lower_left db env) (meaning lower_right db env)
        (denote-fits lower_left outer db env (of_left.formed outer left-formed) (of_left.tables _ tables.0) e).rows
        (denote-fits lower_right outer db env (of_right.formed outer right-formed) (of_right.tables _ tables.1) e).rows
        ∙ ap (mapped (map (picked order))) (sym (rows-pairs db env))
        ∙ sym (meaning-columns pairs order db env)

  sides-plain : is_plain whole ≡ true → (is_plain left && is_plain right) ≡ true
  sides-plain h = sym (and_true (is_plain left && is_plain right)) ∙ sym (is_plain-Join kind left right condition []) ∙ h

  made-plain : is_plain whole ≡ true → is_plain made ≡ true
  made-plain h =
      and_true (is_plain lower_left && is_plain lower_right && true) ∙ and_true (is_plain lower_left && is_plain lower_right)
      ∙ both-true (is_plain lower_left) (is_plain lower_right)
      (of_left.plain (left-true (is_plain left) (is_plain right) (sides-plain h))) (of_right.plain (right-true (is_plain left) (is_plain right) (sides-plain h)))

  pub stands-join : is_plain whole ≡ true → Stands whole made
  stands-join plain =
      stands-equal whole made (made-plain plain)
      (λ outer f. kinds_of-columns pairs order ∙ sym (kinds-pairs outer f) ∙ sym (kinds_of-Join kind left right condition []))
      (λ outer f. formed-columns pairs order (within-order outer f) outer (pairs-formed outer f))
      (λ P h.
      let g = by (EachTable-Join P kind left right condition []) h in
      ((of_left.tables P g.0, of_right.tables P g.1, tt), tt))
      (λ outer db env f h e. same-rows outer f db env h e)

-- what is made of the sides' other queries stands for what the join stands for
pub raised-join : (q query left right lower_left lower_right joined p : Query) (lefts rights order : List ℕ) (kind : JoinKind) (condition lower : Expr) →
    query ≡ Join kind left right condition [] → Stands q query → Picks left lower_left lefts → Picks right lower_right rights →
    order ≡ pair_places lefts (width_of lower_left) rights → IsMoved order condition lower → joined ≡ JoinOf kind lower_left lower_right lower [] end_of-Sublink →
    p ≡ ProjectOf joined (column_items (kinds_of joined) order) [] end_of-Sublink → Stands q p
raised-join q query left right lower_left lower_right joined p lefts rights places kind condition lower is s of_left of_right order_is m joined_is p_is =
    let plain : is_plain (Join kind left right condition []) ≡ true = ap is_plain (sym is) ∙ s.plain in
    stands-onward q query p s (subst (λ n. Stands n p) (sym is)
    (subst (Stands (Join kind left right condition []))
    (sym (p_is ∙ (λ i. ProjectOf (joined_is i) (column_items (kinds_of (joined_is i)) (order_is i)) [] end_of-Sublink)))
    (stands-join left right lower_left lower_right lefts rights of_left of_right kind condition lower (subst (λ places. IsMoved places condition lower) order_is m) plain)))
