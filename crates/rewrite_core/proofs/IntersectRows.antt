-- INTERSECT: the rows of the left rewriting, each beside those of the right one that begin with the same row.
use Rattle.std.proofs.Common.{◌≡◌, ◌↔◌, ◌+◌, ℕ, Bool, List, [], ◌∷◌, ◌++◌, map, length, Contains, IsTrue, append_assoc, length-append, refl, sym, ap, ◌∙◌, subst, arith}
use Rattle.perm_values.specs.Rows.{picked}
use Rattle.perm_values.specs.declared.kind.Kind.{Kind}
use Rattle.perm_values.specs.declared.kind.Kind.TheVariants.{Boolean}
use Rattle.bag_algebra.proofs.Members.{in-member, member-in}
use Rattle.bag_algebra.proofs.TablesRead.{reads_among-itself}
use Rattle.bag_algebra.proofs.Widths.{place_kinds-append}
use Rattle.bag_algebra.specs.Bags.{Row, Bag, member, intersect_of}
use Rattle.bag_algebra.specs.built.Openings.{Intersect-is, rows-with_lists}
use Rattle.bag_algebra.specs.Expressions.{value}
use Rattle.bag_algebra.specs.Kinds.{kinds_of, kinds_in, width_of, shape, place_kinds}
use Rattle.bag_algebra.specs.Meaning.{Database, meaning, witnesses}
use Rattle.bag_algebra.specs.Means.{Witness, flat, good_rows, joined_rows}
use Rattle.bag_algebra.specs.Outcome.{Outcome, Good, Bad, mapped, both, both_then}
use Rattle.bag_algebra.specs.built.Patterns.{IntersectOf}
use Rattle.bag_algebra.specs.Rewriting.{IsRewrite}
use Rattle.bag_algebra.specs.WellFormed.{WellFormed, HasKind}
use Rattle.bag_algebra.specs.declared.query.JoinKind.TheVariants.{Inner}
use Rattle.bag_algebra.specs.declared.query.Query.{Query}
use Rattle.bag_algebra.specs.declared.query.Query.TheVariants.{Intersect}
use Rattle.contribution.proofs.BagMembers.{from-intersect}
use Rattle.contribution.proofs.SetMembers.{in-intersect}
use Rattle.contribution.specs.Fitting.{Fitting}
use Rattle.rewrite_core.proofs.JoinedOutcomes.{Related, Combines, Joins, joined-related, answer-listed, listed-row}
use Rattle.rewrite_core.proofs.JoinedRows.{beside_list, beside-from_spread}
use Rattle.rewrite_core.proofs.KeptRewriting.{rewriting-related, rewriting-side, kept-rewrites}
use Rattle.rewrite_core.proofs.KeptRows.{row-width, list-width, kept-row, kept-kinds, same-formed}
use Rattle.rewrite_core.specs.rewritings.KeptColumns.{kept_places, same_as_first, pairs_of, columns_kept}
use Rattle.rewrite_core.specs.rewritings.Rewritten.{Beside}
use Rattle.query_laws.proofs.NodeLists.{intersect-lists}
use Rattle.query_laws.specs.ListsOfNodes.{IntersectList}
use Rattle.query_laws.specs.SublinkLists.{InAnswer}
use Rattle.rewrite_core.proofs.Matched.{Matching, matched-spread}

both-combines : (f : Bag → Bag → Bag) (a b : Outcome Bag) → Combines (both f a b) a b
both-combines f (Good us) (Good vs) = tt
both-combines f (Good us) (Bad h) = refl
both-combines f (Bad g) (Good vs) = refl
both-combines f (Bad g) (Bad h) = refl

module _ (all : Bool) (left right p o : Query) (l : IsRewrite left p) (r : IsRewrite right o) where
  abbrev node : Query
  node = IntersectOf all left right

  abbrev columns : ℕ
  columns = width_of left

  abbrev kept : ℕ
  kept = width_of p

  abbrev both_kinds : List Kind
  both_kinds = kinds_of p ++ kinds_of o

  both-is : (outer : List (List Kind)) → WellFormed outer node →
      both_kinds ≡ kinds_of left ++ place_kinds (shape left) ++ (kinds_of left ++ place_kinds (shape right))
  both-is outer w = λ i. l.kinds outer w.left_side i ++ (r.kinds outer w.right_side ∙ ap (λ ks. ks ++ place_kinds (shape right)) (sym w.same_kinds)) i

  first-width : (outer : List (List Kind)) → WellFormed outer node → length (kinds_of left ++ place_kinds (shape left)) ≡ kept
  first-width outer w = sym (ap length (l.kinds outer w.left_side))

  kinds : (outer : List (List Kind)) → WellFormed outer node → kinds_in both_kinds (kept_places kept columns (length both_kinds)) ≡ kinds_of node ++ place_kinds (shape node)
  kinds outer w =
      let first = kinds_of left ++ place_kinds (shape left) in
      ap (λ ks. kinds_in ks (kept_places kept columns (length ks))) (both-is outer w ∙ sym (append_assoc first (kinds_of left) (place_kinds (shape right))))
      ∙ kept-kinds first (kinds_of left) (place_kinds (shape right)) kept columns (first-width outer w) refl
      ∙ append_assoc (kinds_of left) (place_kinds (shape left)) (place_kinds (shape right))
      ∙ ap (λ ks. kinds_of left ++ ks) (sym (place_kinds-append (shape left) (shape right)))

  formed : (outer : List (List Kind)) → WellFormed outer node → HasKind (both_kinds ∷ outer) [] (same_as_first columns kept) Boolean
  formed outer w =
      subst (λ ks. HasKind (ks ∷ outer) [] (same_as_first columns kept) Boolean) (sym (both-is outer w))
      (same-formed columns kept outer (kinds_of left) (place_kinds (shape left)) (place_kinds (shape right)) refl (first-width outer w))

  module _ (outer : List (List Kind)) (db : Database) (env : List Row) (f : Fitting outer node db env) where
    left_fitting : Fitting outer left db env
    left_fitting = record { formed = f.formed.left_side; tables = f.tables.0; outer_rows = f.outer_rows }

    right_fitting : Fitting outer right db env
    right_fitting = record { formed = f.formed.right_side; tables = f.tables.1; outer_rows = f.outer_rows }

    lists : (t : Row) (w : Witness) → Contains (witnesses node db env t) w ↔ (InAnswer node db env t × IntersectList left right db env t w)
    lists t w =
        subst (λ n. Contains (witnesses n db env t) w ↔ (InAnswer n db env t × IntersectList left right db env t w)) (Intersect-is all left right)
        (intersect-lists db env t w left right all)

    node-is : meaning node db env ≡ both (intersect_of all) (meaning left db env) (meaning right db env)
    node-is = rows-with_lists _ _

    module _ (ns ts us : Bag) (is_node : meaning node db env ≡ Good ns) (is_left : meaning left db env ≡ Good ts) (is_right : meaning right db env ≡ Good us) where
      both_rows : ns ≡ intersect_of all ts us
      both_rows = ap good_rows (sym is_node ∙ node-is ∙ (λ i. both (intersect_of all) (is_left i) (is_right i)))

      row_width : (t : Row) → IsTrue (member t ts) → length t ≡ columns
      row_width t h = row-width outer left db env left_fitting ts t is_left h

      left_width : (t : Row) (w : Witness) → IsTrue (member t ts) → Contains (witnesses left db env t) w → length (t ++ flat w) ≡ kept
      left_width t w h c =
          length-append t (flat w)
          ∙ (λ i. row_width t h i + list-width outer left db env left_fitting t w c i)
          ∙ sym (length-append (kinds_of left) (place_kinds (shape left)))
          ∙ first-width outer f.formed

      right_width : (u : Row) → IsTrue (member u us) → length u ≡ columns
      right_width u h = row-width outer right db env right_fitting us u is_right h ∙ sym (ap length f.formed.same_kinds)

      matching : Matching (witnesses left db env) (witnesses right db env) (witnesses node db env) ts us ns columns kept
      matching = record {
        row_width = row_width;
        left_width = left_width;
        right_width = right_width;
        among = λ t h. in-member t ts (from-intersect all t ts us (member-in t (intersect_of all ts us) (subst (λ bag. IsTrue (member t bag)) both_rows h))).0;
        from_lists = λ t w h c.
            let both_lists = ((lists t w).0 c).1 in
            record {
              l = both_lists.l;
              r = both_lists.r;
              row = listed-row right db env us is_right t both_lists.r both_lists.is_right;
              is_left = both_lists.is_left;
              is_right = both_lists.is_right;
              whole = both_lists.whole;
            };
        in_lists = λ t w h m.
            let here = subst (λ bag. IsTrue (member t bag)) (sym both_rows)
            (in-member t (intersect_of all ts us) (in-intersect all t ts us (member-in t ts h) (member-in t us m.row))) in (
              here,
              (lists t w).1 (record { bag = ns; good = is_node; row = here }, record { l = m.l; r = m.r; is_left = m.is_left; is_right = m.is_right; whole = m.whole }),
            );
      }

      abbrev places : List ℕ
      places = kept_places kept columns (length both_kinds)

      moved : (t : Row) (v w : Witness) → IsTrue (member t ts) → Contains (witnesses left db env t) v → Contains (witnesses right db env t) w →
          picked places (t ++ flat v ++ (t ++ flat w)) ≡ t ++ flat (v ++ w)
      moved t v w h c d =
          let last = list-width outer right db env right_fitting t w d in
          let whole : kept + columns + length (place_kinds (shape right)) ≡ length both_kinds =
          omega (arith, length-append (kinds_of p) (kinds_of o), ap length (r.kinds outer f.formed.right_side), length-append (kinds_of right) (place_kinds (shape right)), ap length f.formed.same_kinds) in
          ap (picked places) (sym (append_assoc (t ++ flat v) t (flat w)))
          ∙ kept-row t t v w kept columns (length (place_kinds (shape right))) (length both_kinds) (left_width t v h c) (row_width t h) last whole

    combines : Combines (meaning node db env) (meaning left db env) (meaning right db env)
    combines =
        subst (λ n. Combines n (meaning left db env) (meaning right db env)) (sym node-is) (both-combines (intersect_of all) (meaning left db env) (meaning right db env))

    abbrev join : Bag → Bag → Outcome Bag
    join = joined_rows Inner (λ u. value (same_as_first columns kept) u env []) (width_of p) (width_of o)

    abbrev move : Bag → Bag
    move = map (picked (kept_places kept columns (length both_kinds)))

    joins : Joins (Beside (witnesses node db env)) (Beside (witnesses left db env)) (Beside (witnesses right db env))
        (meaning node db env) (meaning left db env) (meaning p db env) (meaning right db env) (meaning o db env) join move
    joins ns ts zs us xs is_node is_left is_right a b =
        let made = matched-spread (witnesses left db env) (witnesses right db env) (witnesses node db env) ts us ns zs xs columns kept (width_of p) (width_of o) env
        beside_list (picked (kept_places kept columns (length both_kinds))) (matching ns ts us is_node is_left is_right) a b
        (λ t v w h c k d. moved ns ts us is_node is_left is_right t v w h c d) in
        (made.0, made.1, beside-from_spread (witnesses node db env) ns (move made.0) (answer-listed node db env ns is_node) made.2)

    rows : Related (Beside (witnesses node db env)) (meaning node db env) (mapped move (both_then (meaning p db env) (meaning o db env) join))
    rows =
        joined-related (Beside (witnesses node db env)) (Beside (witnesses left db env)) (Beside (witnesses right db env))
        (meaning node db env) (meaning left db env) (meaning p db env) (meaning right db env) (meaning o db env) join move
        combines (rewriting-related outer left p db env left_fitting l) (rewriting-related outer right o db env right_fitting r) joins

  pub intersect-rewrites : IsRewrite node (columns_kept (pairs_of Inner p o (same_as_first columns kept)) kept columns)
  intersect-rewrites = kept-rewrites node p o Inner (same_as_first columns kept) kept columns (record {
    left_side = rewriting-side node left p (λ outer w. w.left_side) (reads_among-itself node).0 l;
    right_side = rewriting-side node right o (λ outer w. w.right_side) (reads_among-itself node).1 r;
    within = omega arith;
    formed = formed;
    kinds = kinds;
    rows = rows;
  })

pub intersect-made : (all : Bool) (left right p o : Query) → IsRewrite left p → IsRewrite right o →
    IsRewrite (Intersect all left right) (columns_kept (pairs_of Inner p o (same_as_first (width_of left) (width_of p))) (width_of p) (width_of left))
intersect-made all left right p o l r =
    subst (λ n. IsRewrite n (columns_kept (pairs_of Inner p o (same_as_first (width_of left) (width_of p))) (width_of p) (width_of left))) (sym (Intersect-is all left right))
    (intersect-rewrites all left right p o l r)
