-- What a node of a monotone query keeps after a deletion, of what its inputs keep: the rows that have a list without a doomed row.
use Rattle.std.proofs.Common.{◌≡◌, ℕ, inl, inr, Bool, true, false, cond, ◌+◌, ◌&&◌, List, [], ◌++◌, map, filter, length, Option, refl, sym, ap, ◌∙◌, subst, length-append}
use Rattle.std.proofs.lemmas.Bool.{or_from}
use mathlib.Core.Bool.{true≢false}
use Rattle.std.specs.List.{flat_map}
use Rattle.perm_values.specs.Rows.{same_row}
use Rattle.perm_values.specs.ValueLaws.{row_decides}
use Rattle.perm_values.specs.declared.value.Value.{Value}
use Rattle.bag_algebra.proofs.Columns.{in-with_lists, from-with_lists}
use Rattle.bag_algebra.proofs.Outcomes.{same_good}
use Rattle.bag_algebra.proofs.Members.{IsIn, in-map, from-map, in-append_left, in-append_right, from-append, in-flat_map, from-flat_map, in-filter, from-filter}
use Rattle.bag_algebra.proofs.Truths.{left-false, right-false}
use Rattle.bag_algebra.specs.Bags.{Row, Bag, once, union_of}
use Rattle.bag_algebra.specs.Means.{Witness, with_lists, kept, gives, good_rows, is_met, joined_rows, paired}
use Rattle.bag_algebra.specs.Outcome.{Faults, union, Outcome, Good, Bad, and_then, mapped, both, both_then, gather, each}
use Rattle.bag_algebra.specs.declared.expr.Expr.{Expr}
use Rattle.bag_algebra.specs.declared.query.JoinKind.TheVariants.{Inner}
use Rattle.contribution.proofs.BagMembers.{from-once, in-once, from-union}
use Rattle.contribution.proofs.GoodRows.{from-gather, from-kept, from-each}
use Rattle.contribution.proofs.JoinMembers.{in-gather, in-kept, in-joined_rows}
use Rattle.contribution.proofs.NoRowLost.{MadeBy, pair, left_alone, right_alone, from-joined_rows, gives-good}
use Rattle.contribution.proofs.SetMembers.{in-union}
use Rattle.contribution.proofs.SetsOfRows.{Below, below_good}
use Rattle.contribution.proofs.SharedMembers.{Within}
use Rattle.query_laws.proofs.Items.{each-in}
use Rattle.query_laws.proofs.PairedLists.{in-paired, from-paired, in-where, from-where}
use Rattle.delete_impact.specs.vanishing.Doomed.{has_doomed}
use Rattle.delete_impact.proofs.Below.{below-within, bad-not_below, gather-fewer, each-fewer, pairs-fewer, mapped-fewer, once-fewer, union-fewer, unpadded-fewer}
use Rattle.delete_impact.proofs.Spared.{has_doomed-append, Spared}

module _ (condition : Option Expr) where
  -- each row that is left has a list without a doomed row, a row with such a list is left, and each list has an entry for each place
  pub record Sparing (places : List Bool) (lists : Row → List Witness) (vs : Bag) : Type 0 where
    pub there : (t : Row) → IsIn t vs → Spared condition places (lists t)
    pub back : (t : Row) (w : Witness) → IsIn w (lists t) → has_doomed condition places w ≡ false → IsIn t vs
    pub long : (t : Row) (w : Witness) → IsIn w (lists t) → length w ≡ length places

  -- the same of the rows of an answer alone
  pub record SparingRows (places : List Bool) (lists : Row → List Witness) (us vs : Bag) : Type 0 where
    pub there : (t : Row) → IsIn t vs → Spared condition places (lists t)
    pub back : (t : Row) (w : Witness) → IsIn t us → IsIn w (lists t) → has_doomed condition places w ≡ false → IsIn t vs
    pub long : (t : Row) (w : Witness) → IsIn t us → IsIn w (lists t) → length w ≡ length places

  -- the first outcome with these lists, and what is left of it after the deletion
  pub data Kept (places : List Bool) (lists : Row → List Witness) : Outcome Bag → Outcome Bag → Type 0 where
    kept_good : {us vs : Bag} → Within vs us → Sparing places lists vs → Kept places lists (Good us) (Good vs)
    kept_bad : (f : Faults) (o : Outcome Bag) → Kept places lists (Bad f) o

  -- what a node makes of its rows and lists, where the rows that are left are fewer
  pub kept-node : (places : List Bool) (rows left : Outcome Bag) (lists others : Row → List Witness) → Below left rows →
      ((us vs : Bag) → rows ≡ Good us → left ≡ Good vs → SparingRows places lists us vs) →
      Kept places (with_lists rows lists).lists (with_lists rows lists).rows (with_lists left others).rows
  kept-node places (Good us) (Good vs) lists others b k =
      let s = k us vs refl refl in
      kept_good (below-within b) (record {
        there = λ t h. let found = s.there t h in (found.0, in-with_lists us lists t found.0 ((below-within b).within t h) found.1, found.2);
        back = λ t w h clean. let found = from-with_lists us lists t w h in s.back t w found.0 found.1 clean;
        long = λ t w h. let found = from-with_lists us lists t w h in s.long t w found.0 found.1;
      })
  kept-node places (Good us) (Bad f) lists others b k = absurd (bad-not_below us f b)
  kept-node places (Bad f) left lists others b k = kept_bad f (with_lists left others).rows

  -- where there was something bad nothing is said
  pub kept-bad : (places : List Bool) (f : Faults) (lists others : Row → List Witness) (left : Outcome Bag) →
      Kept places (with_lists (Bad f) lists).lists (with_lists (Bad f) lists).rows (with_lists left others).rows
  kept-bad places f lists others left = kept_bad f (with_lists left others).rows

  rows-of : (o : Outcome Bag) (us : Bag) (t : Row) → o ≡ Good us → IsIn t us → IsIn t (good_rows o)
  rows-of o us t e h = subst (λ x. IsIn t (good_rows x)) (sym e) h

  -- ---- Filter

  module _ (test : Row → Outcome Value) where
    met-row : (us kept_rows : Bag) (t : Row) → gather (kept test) us ≡ Good kept_rows → IsIn t kept_rows → IsIn t us × (is_met (test t) ≡ true)
    met-row us kept_rows t e h =
        let found = from-gather (kept test) t us (rows-of (gather (kept test) us) kept_rows t e h) in
        let same = from-kept test found.0 t found.2 in
        (subst (λ u. IsIn u us) same.0 found.1, subst (λ u. is_met (test u) ≡ true) same.0 same.1)

    pub kept-filter : (places : List Bool) (ls others : Row → List Witness) (o p : Outcome Bag) → Kept places ls o p →
        Kept places (with_lists (and_then o (gather (kept test))) ls).lists (with_lists (and_then o (gather (kept test))) ls).rows
        (with_lists (and_then p (gather (kept test))) others).rows
    kept-filter places ls others _ _ (kept_good {us} {vs} s k) =
        kept-node places (gather (kept test) us) (gather (kept test) vs) ls others (gather-fewer (kept test) vs us s) (λ rows left e f. record {
          there = λ t h. k.there t (met-row vs left t f h).0;
          back = λ t w h i clean.
              let row = met-row us rows t e h in
              in-gather (kept test) t t vs left f (k.back t w i clean) (in-kept test t row.1);
          long = λ t w h i. k.long t w i;
        })
    kept-filter places ls others _ _ (kept_bad f p) = kept-bad places f ls others (and_then p (gather (kept test)))

  -- ---- Project

  given-row : (t : Row) (o : Outcome Row) → gives t o ≡ true → o ≡ Good t
  given-row t (Good row) e = ap Good ((row_decides row t).0 e)
  given-row t (Bad f) e = absurd (true≢false (sym e))

  module _ (items : Row → Outcome Row) where
    -- the lists of all rows that give it
    abbrev pub made_lists : (Row → List Witness) → Bag → Row → List Witness
    made_lists ls us t = flat_map ls (filter (λ u. gives t (items u)) us)

    from-made : (ls : Row → List Witness) (us : Bag) (t : Row) (w : Witness) → IsIn w (made_lists ls us t) →
        (u : Row) × IsIn u us × (items u ≡ Good t) × IsIn w (ls u)
    from-made ls us t w h =
        let found = from-flat_map ls w (filter (λ u. gives t (items u)) us) h in
        let row = from-filter (λ u. gives t (items u)) found.0 us found.1 in
        (found.0, row.0, given-row t (items found.0) row.1, found.2)

    pub kept-project : (places : List Bool) (ls others : Row → List Witness) (o p : Outcome Bag) → Kept places ls o p →
        Kept places (with_lists (and_then o (each items)) (made_lists ls (good_rows o))).lists
        (with_lists (and_then o (each items)) (made_lists ls (good_rows o))).rows (with_lists (and_then p (each items)) others).rows
    kept-project places ls others _ _ (kept_good {us} {vs} s k) =
        kept-node places (each items us) (each items vs) (made_lists ls us) others (each-fewer items vs us s) (λ rows left e f. record {
          there = λ t h.
              let row = from-each items t vs (rows-of (each items vs) left t f h) in
              let spared = k.there row.0 row.1 in (
                spared.0,
                in-flat_map ls spared.0 row.0 (filter (λ u. gives t (items u)) us)
                    (in-filter (λ u. gives t (items u)) row.0 us (s.within row.0 row.1) (gives-good t (items row.0) row.2)) spared.1,
                spared.2,
              );
          back = λ t w h i clean.
              let made = from-made ls us t w i in
              each-in items vs left made.0 t f (k.back made.0 w made.3 clean) made.2;
          long = λ t w h i. let made = from-made ls us t w i in k.long made.0 w made.3;
        })
    kept-project places ls others _ _ (kept_bad f p) = kept-bad places f (made_lists ls []) others (and_then p (each items))

  -- ---- inner joins

  module _ (test : Row → Outcome Value) (ps qs : List Bool) (ll rl : Row → List Witness) where
    -- the lists of all pairs that make it
    abbrev pub pairs_of : Bag → Bag → Row → List Witness
    pairs_of us xs t = flat_map (λ u. flat_map (λ v. cond (same_row (u ++ v) t && is_met (test (u ++ v))) (paired (ll u) (rl v)) []) xs) us

    abbrev pub inner_lists : Bag → Bag → Row → List Witness
    inner_lists us xs t = pairs_of us xs t ++ [] ++ []

    record Pair (us xs : Bag) (t : Row) (w : Witness) : Type 0 where
      left : Row
      right : Row
      in_left : IsIn left us
      in_right : IsIn right xs
      makes : left ++ right ≡ t
      met : is_met (test (left ++ right)) ≡ true
      left_list : Witness
      right_list : Witness
      of_left : IsIn left_list (ll left)
      of_right : IsIn right_list (rl right)
      whole : left_list ++ right_list ≡ w

    from-inner : (us xs : Bag) (t : Row) (w : Witness) → IsIn w (inner_lists us xs t) → Pair us xs t w
    from-inner us xs t w h = from-pairs (unpadded (pairs_of us xs t) h) where
      unpadded : (ws : List Witness) → IsIn w (ws ++ [] ++ []) → IsIn w ws
      unpadded ws i = elim (from-append w (ws ++ []) [] i) [
        | inl more ↦ elim (from-append w ws [] more) [ inl l ↦ l | inr none ↦ absurd none ]
        | inr none ↦ absurd none
      ]

      from-pairs : IsIn w (pairs_of us xs t) → Pair us xs t w
      from-pairs i =
          let l = from-flat_map (λ u. flat_map (λ v. cond (same_row (u ++ v) t && is_met (test (u ++ v))) (paired (ll u) (rl v)) []) xs) w us i in
          let u = l.0 in
          let r = from-flat_map (λ v. cond (same_row (u ++ v) t && is_met (test (u ++ v))) (paired (ll u) (rl v)) []) w xs l.2 in
          let v = r.0 in
          let c = from-where (same_row (u ++ v) t) (is_met (test (u ++ v))) w (paired (ll u) (rl v)) r.2 in
          let b = from-paired w (ll u) (rl v) c.2 in
          record {
            left = u;
            right = v;
            in_left = l.1;
            in_right = r.1;
            makes = (row_decides (u ++ v) t).0 c.0;
            met = c.1;
            left_list = b.0;
            right_list = b.1;
            of_left = b.2;
            of_right = b.3;
            whole = b.4;
          }

    in-inner : (us xs : Bag) (t : Row) (m : MadeBy test us xs t) (v w : Witness) → IsIn v (ll m.left) → IsIn w (rl m.right) → IsIn (v ++ w) (inner_lists us xs t)
    in-inner us xs t m v w h i =
        in-append_left (v ++ w) (pairs_of us xs t ++ []) [] (in-append_left (v ++ w) (pairs_of us xs t) []
        (in-flat_map (λ u. flat_map (λ v. cond (same_row (u ++ v) t && is_met (test (u ++ v))) (paired (ll u) (rl v)) []) xs) (v ++ w) m.left us m.in_left
        (in-flat_map (λ v. cond (same_row (m.left ++ v) t && is_met (test (m.left ++ v))) (paired (ll m.left) (rl v)) []) (v ++ w) m.right xs m.in_right
        (in-where (same_row (m.left ++ m.right) t) (is_met (test (m.left ++ m.right))) (v ++ w) (paired (ll m.left) (rl m.right))
        ((row_decides (m.left ++ m.right) t).1 m.makes) m.met (in-paired v w (ll m.left) (rl m.right) h i)))))

    module _ (left_width right_width : ℕ) where
      made_by : (us xs rows : Bag) (t : Row) → joined_rows Inner test left_width right_width us xs ≡ Good rows → IsIn t rows → MadeBy test us xs t
      made_by us xs rows t e h =
          elim (from-joined_rows Inner test left_width right_width us xs t (rows-of (joined_rows Inner test left_width right_width us xs) rows t e h)) [
            | pair m ↦ m
            | left_alone keeps u here makes ↦ absurd (true≢false (sym keeps))
            | right_alone keeps v here makes ↦ absurd (true≢false (sym keeps))
          ]

      module _ (us vs xs ys : Bag) (s : Within vs us) (r : Within ys xs) (k : Sparing ps ll vs) (j : Sparing qs rl ys) where
        there-join : (rows : Bag) (t : Row) → joined_rows Inner test left_width right_width vs ys ≡ Good rows → IsIn t rows → Spared condition (ps ++ qs) (inner_lists us xs t)
        there-join rows t e h =
            let m = made_by vs ys rows t e h in
            let a = k.there m.left m.in_left in
            let b = j.there m.right m.in_right in
            let earlier : MadeBy test us xs t = record {
              left = m.left;
              right = m.right;
              in_left = s.within m.left m.in_left;
              in_right = r.within m.right m.in_right;
              makes = m.makes;
              met = m.met;
            } in (
              a.0 ++ b.0,
              in-inner us xs t earlier a.0 b.0 a.1 b.1,
              has_doomed-append condition ps qs a.0 b.0 (k.long m.left a.0 a.1) ∙ or_from _ _ a.2 b.2,
            )

        back-join : (rows : Bag) (t : Row) (w : Witness) → joined_rows Inner test left_width right_width vs ys ≡ Good rows → IsIn w (inner_lists us xs t) →
            has_doomed condition (ps ++ qs) w ≡ false → IsIn t rows
        back-join rows t w e h clean =
            let p = from-inner us xs t w h in
            let parts = sym (has_doomed-append condition ps qs p.left_list p.right_list (k.long p.left p.left_list p.of_left)) ∙ ap (has_doomed condition (ps ++ qs)) p.whole ∙ clean in
            in-joined_rows test vs ys t Inner left_width right_width rows e (pair (record {
              left = p.left;
              right = p.right;
              in_left = k.back p.left p.left_list p.of_left (left-false _ _ parts);
              in_right = j.back p.right p.right_list p.of_right (right-false _ _ parts);
              makes = p.makes;
              met = p.met;
            }))

        long-join : (t : Row) (w : Witness) → IsIn w (inner_lists us xs t) → length w ≡ length (ps ++ qs)
        long-join t w h =
            let p = from-inner us xs t w h in
            ap length (sym p.whole) ∙ length-append p.left_list p.right_list
            ∙ (λ i. k.long p.left p.left_list p.of_left i + j.long p.right p.right_list p.of_right i) ∙ sym (length-append ps qs)

      pub kept-join : (others : Row → List Witness) (o p n q : Outcome Bag) → Kept ps ll o p → Kept qs rl n q →
          Kept (ps ++ qs) (with_lists (both_then o n (joined_rows Inner test left_width right_width)) (inner_lists (good_rows o) (good_rows n))).lists
          (with_lists (both_then o n (joined_rows Inner test left_width right_width)) (inner_lists (good_rows o) (good_rows n))).rows
          (with_lists (both_then p q (joined_rows Inner test left_width right_width)) others).rows
      kept-join others _ _ _ _ (kept_good {us} {vs} s k) (kept_good {us = xs} {vs = ys} r j) =
          kept-node (ps ++ qs) (joined_rows Inner test left_width right_width us xs) (joined_rows Inner test left_width right_width vs ys) (inner_lists us xs) others
          (mapped-fewer (λ pairs. pairs ++ [] ++ []) unpadded-fewer (pairs-fewer test vs us ys xs s r)) (λ rows left e f. record {
            there = λ t h. there-join us vs xs ys s r k j left t f h;
            back = λ t w h i clean. back-join us vs xs ys s r k j left t w f i clean;
            long = λ t w h i. long-join us vs xs ys s r k j t w i;
          })
      kept-join others _ _ _ _ (kept_good {us} {vs} s k) (kept_bad g q) =
          kept-bad (ps ++ qs) g (inner_lists us []) others (both_then (Good vs) q (joined_rows Inner test left_width right_width))
      kept-join others _ _ _ _ (kept_bad f p) (kept_good {us = xs} {vs = ys} r j) =
          kept-bad (ps ++ qs) f (inner_lists [] xs) others (both_then p (Good ys) (joined_rows Inner test left_width right_width))
      kept-join others _ _ _ _ (kept_bad f p) (kept_bad g q) =
          kept-bad (ps ++ qs) (union f g) (inner_lists [] []) others (both_then p q (joined_rows Inner test left_width right_width))

  -- ---- UNION

  module _ (all : Bool) (ps qs : List Bool) (left_blank right_blank : Witness) (left_long : length left_blank ≡ length ps) (right_long : length right_blank ≡ length qs)
      (left_clean : has_doomed condition ps left_blank ≡ false) (right_clean : has_doomed condition qs right_blank ≡ false) (ll rl : Row → List Witness) where
    abbrev pub united_lists : Row → List Witness
    united_lists t = map (λ w. w ++ right_blank) (ll t) ++ map (λ w. left_blank ++ w) (rl t)

    module _ (us vs xs ys : Bag) (k : Sparing ps ll vs) (j : Sparing qs rl ys) where
      there-union : (t : Row) → IsIn t (union_of all vs ys) → Spared condition (ps ++ qs) (united_lists t)
      there-union t h = elim (from-union all t vs ys h) [
        | inl l ↦ let a = k.there t l in (
          a.0 ++ right_blank,
          in-append_left (a.0 ++ right_blank) (map (λ w. w ++ right_blank) (ll t)) (map (λ w. left_blank ++ w) (rl t)) (in-map (λ w. w ++ right_blank) a.0 (ll t) a.1),
          has_doomed-append condition ps qs a.0 right_blank (k.long t a.0 a.1) ∙ or_from _ _ a.2 right_clean,
        )
        | inr m ↦ let b = j.there t m in (
          left_blank ++ b.0,
          in-append_right (left_blank ++ b.0) (map (λ w. w ++ right_blank) (ll t)) (map (λ w. left_blank ++ w) (rl t)) (in-map (λ w. left_blank ++ w) b.0 (rl t) b.1),
          has_doomed-append condition ps qs left_blank b.0 left_long ∙ or_from _ _ left_clean b.2,
        )
      ]

      back-union : (t : Row) (w : Witness) → IsIn w (united_lists t) → has_doomed condition (ps ++ qs) w ≡ false → IsIn t (union_of all vs ys)
      back-union t w h clean = in-union all t vs ys (elim (from-append w (map (λ w. w ++ right_blank) (ll t)) (map (λ w. left_blank ++ w) (rl t)) h) [
        | inl l ↦ let v = from-map (λ w. w ++ right_blank) w (ll t) l in
            inl (k.back t v.0 v.1 (left-false _ _
            (sym (has_doomed-append condition ps qs v.0 right_blank (k.long t v.0 v.1)) ∙ ap (has_doomed condition (ps ++ qs)) v.2 ∙ clean)))
        | inr m ↦ let v = from-map (λ w. left_blank ++ w) w (rl t) m in
            inr (j.back t v.0 v.1 (right-false _ _
            (sym (has_doomed-append condition ps qs left_blank v.0 left_long) ∙ ap (has_doomed condition (ps ++ qs)) v.2 ∙ clean)))
      ])

      long-union : (t : Row) (w : Witness) → IsIn w (united_lists t) → length w ≡ length (ps ++ qs)
      long-union t w h = elim (from-append w (map (λ w. w ++ right_blank) (ll t)) (map (λ w. left_blank ++ w) (rl t)) h) [
        | inl l ↦ let v = from-map (λ w. w ++ right_blank) w (ll t) l in
            ap length (sym v.2) ∙ length-append v.0 right_blank ∙ (λ i. k.long t v.0 v.1 i + right_long i) ∙ sym (length-append ps qs)
        | inr m ↦ let v = from-map (λ w. left_blank ++ w) w (rl t) m in
            ap length (sym v.2) ∙ length-append left_blank v.0 ∙ (λ i. left_long i + j.long t v.0 v.1 i) ∙ sym (length-append ps qs)
      ]

    pub kept-union : (others : Row → List Witness) (o p n q : Outcome Bag) → Kept ps ll o p → Kept qs rl n q →
        Kept (ps ++ qs) (with_lists (both (union_of all) o n) united_lists).lists (with_lists (both (union_of all) o n) united_lists).rows
        (with_lists (both (union_of all) p q) others).rows
    kept-union others _ _ _ _ (kept_good {us} {vs} s k) (kept_good {us = xs} {vs = ys} r j) =
        kept-node (ps ++ qs) (Good (union_of all us xs)) (Good (union_of all vs ys)) united_lists others (below_good (union-fewer all vs us ys xs s r)) (λ rows left e f. record {
          there = λ t h. there-union us vs xs ys k j t (subst (IsIn t) (sym (same_good _ _ f)) h);
          back = λ t w h i clean. subst (IsIn t) (same_good _ _ f) (back-union us vs xs ys k j t w i clean);
          long = λ t w h i. long-union us vs xs ys k j t w i;
        })
    kept-union others _ _ _ _ (kept_good {us} {vs} s k) (kept_bad g q) = kept-bad (ps ++ qs) g united_lists others (both (union_of all) (Good vs) q)
    kept-union others _ _ _ _ (kept_bad f p) (kept_good {us = xs} {vs = ys} r j) = kept-bad (ps ++ qs) f united_lists others (both (union_of all) p (Good ys))
    kept-union others _ _ _ _ (kept_bad f p) (kept_bad g q) = kept-bad (ps ++ qs) (union f g) united_lists others (both (union_of all) p q)

  -- ---- DISTINCT

  pub kept-distinct : (places : List Bool) (ls others : Row → List Witness) (o p : Outcome Bag) → Kept places ls o p →
      Kept places (with_lists (mapped once o) ls).lists (with_lists (mapped once o) ls).rows (with_lists (mapped once p) others).rows
  kept-distinct places ls others _ _ (kept_good {us} {vs} s k) =
      kept-node places (Good (once us)) (Good (once vs)) ls others (below_good (once-fewer vs us s)) (λ rows left e f. record {
        there = λ t h. k.there t (from-once t vs (subst (IsIn t) (sym (same_good _ _ f)) h));
        back = λ t w h i clean. subst (IsIn t) (same_good _ _ f) (in-once t vs (k.back t w i clean));
        long = λ t w h i. k.long t w i;
      })
  kept-distinct places ls others _ _ (kept_bad f p) = kept-bad places f ls others (mapped once p)
