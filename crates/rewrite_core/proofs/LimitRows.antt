-- LIMIT over what stands for its input, each row beside those of the input's rewriting that begin with it.
use Rattle.std.proofs.Common.{◌≡◌, ◌↔◌, ◌+◌, ℕ, List, [], ◌∷◌, ◌++◌, map, length, Contains, IsTrue, take, append_assoc, append-nil, length-append, refl, sym, ap, ◌∙◌, subst, subst₂, arith}
use Rattle.perm_values.specs.Rows.{picked, printed_cmp, KeysWithin}
use Rattle.perm_values.specs.declared.key.Key.{Key}
use Rattle.perm_values.specs.declared.kind.Kind.{Kind}
use Rattle.perm_values.specs.declared.kind.Kind.TheVariants.{Boolean}
use Rattle.bag_algebra.proofs.TablesRead.{reads_among-itself}
use Rattle.bag_algebra.specs.Bags.{Row, Bag, member, sorted}
use Rattle.bag_algebra.specs.built.Openings.{Limit-is, rows-with_lists}
use Rattle.bag_algebra.specs.Expressions.{value}
use Rattle.bag_algebra.specs.Kinds.{kinds_of, kinds_in, width_of, shape, place_kinds}
use Rattle.bag_algebra.specs.Meaning.{Database, meaning, witnesses}
use Rattle.bag_algebra.specs.Means.{Witness, flat, good_rows, joined_rows}
use Rattle.bag_algebra.specs.Outcome.{Outcome, Good, Bad, mapped, both_then}
use Rattle.bag_algebra.specs.built.Patterns.{LimitOf}
use Rattle.bag_algebra.specs.Rewriting.{IsRewrite, Stands, SameRows}
use Rattle.bag_algebra.specs.WellFormed.{WellFormed, HasKind}
use Rattle.bag_algebra.specs.declared.query.JoinKind.TheVariants.{Inner}
use Rattle.bag_algebra.specs.declared.query.Query.{Query}
use Rattle.bag_algebra.specs.declared.query.Query.TheVariants.{Limit}
use Rattle.contribution.proofs.SetsOfRows.{union-same}
use Rattle.contribution.specs.Fitting.{Fitting}
use Rattle.rewrite_core.proofs.JoinedOutcomes.{Related, Combines, Joins, joined-related, unlisted, no_entries, unlisted_list, unlisted-related, answer-listed, listed-row}
use Rattle.rewrite_core.proofs.JoinedRows.{beside_list, beside-from_spread}
use Rattle.rewrite_core.proofs.KeptRewriting.{Side, rewriting-related, rewriting-side, kept-rewrites}
use Rattle.rewrite_core.proofs.KeptRows.{row-width, list-width, kept-row, kept-kinds, same-formed}
use Rattle.rewrite_core.specs.rewritings.KeptColumns.{kept_places, same_as_first, pairs_of, columns_kept}
use Rattle.query_laws.proofs.Inputs.{across, limit-input}
use Rattle.rewrite_core.specs.rewritings.Rewritten.{Beside}
use Rattle.query_laws.proofs.NodeLists.{limit-lists}
use Rattle.query_laws.specs.SublinkLists.{InAnswer}
use Rattle.rewrite_core.proofs.Matched.{Matching, matched-spread}

limit-combines : (f : Bag → Bag) (o : Outcome Bag) → Combines (mapped f o) (mapped f o) o
limit-combines f (Good us) = tt
limit-combines f (Bad g) = sym (union-same g)

module _ (q b p : Query) (keys : List Key) (most : ℕ) (s : Stands q b) (r : IsRewrite q p) where
  abbrev node : Query
  node = LimitOf q keys most

  abbrev plain : Query
  plain = LimitOf b keys most

  abbrev columns : ℕ
  columns = width_of b

  abbrev all : List Kind
  all = kinds_of plain ++ kinds_of p

  -- the kinds of both sides
  all-is : (outer : List (List Kind)) → WellFormed outer q → all ≡ kinds_of q ++ (kinds_of q ++ place_kinds (shape q))
  all-is outer w = λ i. s.kinds outer w i ++ r.kinds outer w i

  wide : (outer : List (List Kind)) → WellFormed outer q → length (kinds_of q) ≡ columns
  wide outer w = sym (ap length (s.kinds outer w))

  kinds : (outer : List (List Kind)) → WellFormed outer node → kinds_in all (kept_places columns columns (length all)) ≡ kinds_of node ++ place_kinds (shape node)
  kinds outer w =
      ap (λ ks. kinds_in ks (kept_places columns columns (length ks))) (all-is outer w.input ∙ sym (append_assoc (kinds_of q) (kinds_of q) (place_kinds (shape q))))
      ∙ kept-kinds (kinds_of q) (kinds_of q) (place_kinds (shape q)) columns columns (wide outer w.input) (wide outer w.input)

  formed : (outer : List (List Kind)) → WellFormed outer node → HasKind (all ∷ outer) [] (same_as_first columns columns) Boolean
  formed outer w =
      subst (λ ks. HasKind (ks ∷ outer) [] (same_as_first columns columns) Boolean)
      (ap (λ ks. ks ++ (kinds_of q ++ place_kinds (shape q))) (append-nil (kinds_of q)) ∙ sym (all-is outer w.input))
      (same-formed columns columns outer (kinds_of q) [] (place_kinds (shape q)) (wide outer w.input) (ap length (append-nil (kinds_of q)) ∙ wide outer w.input))

  plain-side : Side node plain
  plain-side = record {
    plain = s.plain;
    formed = λ outer w. record {
      input = s.formed outer w.input;
      keys = subst (λ n. KeysWithin n keys) (wide outer w.input) w.keys;
      bound = w.bound;
    };
    tables = s.tables;
  }

  module _ (outer : List (List Kind)) (db : Database) (env : List Row) (f : Fitting outer node db env) where
    fitting : Fitting outer q db env
    fitting = record { formed = f.formed.input; tables = f.tables; outer_rows = f.outer_rows }

    lists : (t : Row) (w : Witness) → Contains (witnesses node db env t) w ↔ (InAnswer node db env t × Contains (witnesses q db env t) w)
    lists t w =
        subst (λ n. Contains (witnesses n db env t) w ↔ (InAnswer n db env t × Contains (witnesses q db env t) w)) (Limit-is q keys most)
        (limit-lists db env t w q keys most)

    module _ (ns ts us : Bag) (is_node : meaning node db env ≡ Good ns) (is_left : meaning node db env ≡ Good ts) (is_right : meaning q db env ≡ Good us) where
      same : ts ≡ ns
      same = ap good_rows (sym is_left ∙ is_node)

      row_width : (t : Row) → IsTrue (member t ts) → length t ≡ columns
      row_width t h = row-width outer node db env f ts t is_left h ∙ wide outer f.formed.input

      left_width : (t : Row) (l : Witness) → IsTrue (member t ts) → Contains (unlisted t) l → length (t ++ flat l) ≡ columns
      left_width t l h c = ap (λ l. length (t ++ flat l)) (sym (no_entries t l c)) ∙ ap length (append-nil t) ∙ row_width t h

      matching : Matching unlisted (witnesses q db env) (witnesses node db env) ts us ns columns columns
      matching = record {
        row_width = row_width;
        left_width = left_width;
        right_width = λ u h. row-width outer q db env fitting us u is_right h ∙ wide outer f.formed.input;
        among = λ t h. subst (λ bag. IsTrue (member t bag)) (sym same) h;
        from_lists = λ t w h c.
            let listed = ((lists t w).0 c).1 in
            record { l = []; r = w; row = listed-row q db env us is_right t w listed; is_left = unlisted_list t; is_right = listed; whole = refl };
        in_lists = λ t w h m.
            let here = subst (λ bag. IsTrue (member t bag)) same h in
            let only : m.r ≡ w = ap (λ l. l ++ m.r) (no_entries t m.l m.is_left) ∙ m.whole in
            (here, (lists t w).1 (record { bag = ns; good = is_node; row = here }, subst (Contains (witnesses q db env t)) only m.is_right));
      }

      abbrev places : List ℕ
      places = kept_places columns columns (length all)

      moved : (t : Row) (l w : Witness) → IsTrue (member t ts) → Contains (unlisted t) l → Contains (witnesses q db env t) w →
          picked places (t ++ flat l ++ (t ++ flat w)) ≡ t ++ flat (l ++ w)
      moved t l w h c d =
          let last = list-width outer q db env fitting t w d in
          let whole : columns + columns + length (place_kinds (shape q)) ≡ length all =
          omega (arith, length-append (kinds_of plain) (kinds_of p), ap length (r.kinds outer f.formed.input), length-append (kinds_of q) (place_kinds (shape q)), wide outer f.formed.input) in
          ap (picked places) (sym (append_assoc (t ++ flat l) t (flat w)))
          ∙ kept-row t t l w columns columns (length (place_kinds (shape q))) (length all) (left_width t l h c) (row_width t h) last whole

    same_plain : SameRows (meaning node db env) (meaning plain db env)
    same_plain =
        across (rows-with_lists _ _) (rows-with_lists _ _)
        (limit-input (meaning q db env) (meaning b db env) (s.rows outer db env f.formed.input f.tables f.outer_rows) keys most)

    node-is : meaning node db env ≡ mapped (λ bag. take most (sorted (printed_cmp keys) bag)) (meaning q db env)
    node-is = rows-with_lists _ _

    combines : Combines (meaning node db env) (meaning node db env) (meaning q db env)
    combines =
        subst (λ o. Combines o o (meaning q db env)) (sym node-is) (limit-combines (λ bag. take most (sorted (printed_cmp keys) bag)) (meaning q db env))

    abbrev join : Bag → Bag → Outcome Bag
    join = joined_rows Inner (λ u. value (same_as_first columns columns) u env []) (width_of plain) (width_of p)

    abbrev move : Bag → Bag
    move = map (picked (kept_places columns columns (length all)))

    joins : Joins (Beside (witnesses node db env)) (Beside unlisted) (Beside (witnesses q db env))
        (meaning node db env) (meaning node db env) (meaning plain db env) (meaning q db env) (meaning p db env) join move
    joins ns ts zs us xs is_node is_left is_right left right =
        let made = matched-spread unlisted (witnesses q db env) (witnesses node db env) ts us ns zs xs columns columns (width_of plain) (width_of p) env
        beside_list (picked (kept_places columns columns (length all))) (matching ns ts us is_node is_left is_right) left right
        (λ t l w h c k d. moved ns ts us is_node is_left is_right t l w h c d) in
        (made.0, made.1, beside-from_spread (witnesses node db env) ns (move made.0) (answer-listed node db env ns is_node) made.2)

    rows : Related (Beside (witnesses node db env)) (meaning node db env) (mapped move (both_then (meaning plain db env) (meaning p db env) join))
    rows =
        joined-related (Beside (witnesses node db env)) (Beside unlisted) (Beside (witnesses q db env))
        (meaning node db env) (meaning node db env) (meaning plain db env) (meaning q db env) (meaning p db env) join move
        combines (unlisted-related (meaning node db env) (meaning plain db env) same_plain) (rewriting-related outer q p db env fitting r) joins

  pub limit-rewrites : IsRewrite node (columns_kept (pairs_of Inner plain p (same_as_first columns columns)) columns columns)
  limit-rewrites = kept-rewrites node plain p Inner (same_as_first columns columns) columns columns (record {
    left_side = plain-side;
    right_side = rewriting-side node q p (λ outer w. w.input) (reads_among-itself q) r;
    within = omega arith;
    formed = formed;
    kinds = kinds;
    rows = rows;
  })

-- as the code makes it
pub limit-made : (q b p : Query) (keys : List Key) (most : ℕ) → Stands q b → IsRewrite q p →
    IsRewrite (Limit q keys most) (columns_kept (pairs_of Inner (Limit b keys most) p (same_as_first (width_of b) (width_of b))) (width_of b) (width_of b))
limit-made q b p keys most s r =
    subst₂ (λ n plain. IsRewrite n (columns_kept (pairs_of Inner plain p (same_as_first (width_of b) (width_of b))) (width_of b) (width_of b)))
    (sym (Limit-is q keys most)) (sym (Limit-is b keys most))
    (limit-rewrites q b p keys most s r)
