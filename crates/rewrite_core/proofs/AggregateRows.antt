-- A grouping over what stands for its input, each row beside the rows of the input's rewriting that are of its class, or
-- NULLs where there is none.
use Rattle.std.proofs.Common.{◌≡◌, ◌↔◌, ◌+◌, ◌<◌, ◌≤◌, ℕ, zero, Bool, true, List, [], ◌∷◌, ◌++◌, map, length, take, drop, All, Contains, IsTrue, append_assoc, append-nil, length-append, refl, sym, ap, ◌∙◌, subst, subst₂, arith}
use Rattle.std.proofs.lemmas.List.{length-map, length-take-le, take-append-drop}
use Rattle.std.proofs.lemmas.List.FromFn.{length-range_with_len}
use Rattle.std.specs.List.{range_with_len}
use Rattle.perm_values.specs.Rows.{picked, same_row, PlacesWithin}
use Rattle.perm_values.specs.ValueLaws.{row_decides}
use Rattle.perm_values.specs.declared.kind.Kind.{Kind}
use Rattle.perm_values.specs.declared.kind.Kind.TheVariants as kind
use Rattle.perm_values.specs.declared.value.Value.{Value}
use Rattle.perm_values.specs.declared.value.Value.TheVariants.{Null, Boolean}
use Rattle.bag_algebra.proofs.Members.{IsIn, from-filter, in-member, member-in}
use Rattle.bag_algebra.proofs.TablesRead.{reads_among-itself}
use Rattle.bag_algebra.specs.Bags.{Row, Bag, member, nulls}
use Rattle.bag_algebra.specs.built.Openings.{Aggregate-is, rows-with_lists}
use Rattle.bag_algebra.specs.Expressions.{value}
use Rattle.bag_algebra.specs.Kinds.{kinds_of, kinds_in, kind_in, width_of, shape, place_kinds}
use Rattle.bag_algebra.specs.Meaning.{Database, meaning, witnesses, arguments_on}
use Rattle.bag_algebra.specs.Means.{Witness, flat, all_empty, good_rows, joined_rows, grouped}
use Rattle.bag_algebra.specs.Outcome.{Outcome, Good, Bad, and_then, mapped, both_then}
use Rattle.bag_algebra.specs.built.Patterns.{AggregateOf}
use Rattle.bag_algebra.specs.Rewriting.{IsRewrite, Stands, SameRows}
use Rattle.bag_algebra.specs.WellFormed.{WellFormed, HasKind, AggregatesForm}
use Rattle.bag_algebra.specs.declared.query.AggFn.{AggFn}
use Rattle.bag_algebra.specs.declared.query.Aggr.{Aggr}
use Rattle.bag_algebra.specs.declared.query.JoinKind.TheVariants.{Left}
use Rattle.bag_algebra.specs.declared.query.Query.{Query}
use Rattle.bag_algebra.specs.declared.query.Query.TheVariants.{Aggregate}
use Rattle.contribution.proofs.Classes.{from-grouped, some_of_class}
use Rattle.contribution.proofs.SetsOfRows.{union-same}
use Rattle.contribution.specs.Fitting.{Fitting}
use Rattle.rewrite_core.proofs.JoinedOutcomes.{Related, Combines, Joins, related-onward, joined-related, unlisted, no_entries, unlisted_list, unlisted-related, answer-listed, listed-row}
use Rattle.rewrite_core.proofs.JoinedRows.{Spread, beside_list, spread-from_beside, beside-from_spread, JoinedList, of_met, of_alone, joined_good, joined-spread}
use Rattle.rewrite_core.proofs.KeptRewriting.{Side, rewriting-related, rewriting-side, kept-rewrites}
use Rattle.rewrite_core.proofs.KeptRows.{row-width, list-width, blank-width, nulls-of_rewriting, kept-row, kept-kinds}
use Rattle.rewrite_core.proofs.Places.{at, at-between, at-moved, at-within, within-range}
use Rattle.rewrite_core.specs.rewritings.KeptColumns.{kept_places, pairs_of, columns_kept}
use Rattle.query_laws.proofs.Inputs.{across, aggregate-input}
use Rattle.query_laws.proofs.Joined.{length-nulls}
use Rattle.contribution.proofs.ColumnQueries.{all-first, all-nothing, all-rest}
use Rattle.contribution.proofs.SameTests.{tests-value, conjunction-formed}
use Rattle.rewrite_core.specs.rewritings.Rewritten.{Beside}
use Rattle.query_laws.proofs.NodeLists.{aggregate-lists}
use Rattle.query_laws.specs.ListsOfNodes.{AggregateList, of_class, of_no_row}
use Rattle.query_laws.specs.SublinkLists.{InAnswer}
use Rattle.rewrite_core.specs.SameGroups.{same_groups}

-- ---- faults

good-combines : (a : Outcome Bag) (us : Bag) → Combines a a (Good us)
good-combines (Good ns) us = tt
good-combines (Bad f) us = refl

group-combines : (next : Bag → Outcome Bag) (o : Outcome Bag) → Combines (and_then o next) (and_then o next) o
group-combines next (Good us) = good-combines (next us) us
group-combines next (Bad g) = sym (union-same g)

-- ---- the test of the class

within-moved : (width all by : ℕ) (places : List ℕ) → by + width ≤ all → All (λ place. place < width) places → All (λ place. place < all) (map (λ place. by + place) places)
within-moved width all by [] h within = all-nothing (λ place. place < all)
within-moved width all by (place ∷ places) h within =
    let here : place < width = within zero 0 (omega arith) in
    all-first (λ place. place < all) (by + place) (map (λ place. by + place) places) (omega (arith, h, here))
    (within-moved width all by places h (all-rest (λ place. place < width) place places within))

module _ (groups : List ℕ) (from : ℕ) where
  abbrev firsts : List ℕ
  firsts = range_with_len 0 (length groups)

  abbrev others : List ℕ
  others = map (λ place. from + place) groups

  as_many : length firsts ≡ length others
  as_many = length-range_with_len 0 (length groups) ∙ sym (length-map groups (λ place. from + place))

  -- of a first part whose first columns are the group values, and a second with columns at the places of the groups
  at-first : {X : Type 0} (d : X) (first second : List X) → length groups ≤ length first → at d (first ++ second) firsts ≡ take (length groups) first
  at-first d first second h =
      ap (λ xs. at d xs firsts)
      (ap (λ xs. xs ++ second) (sym (take-append-drop (length groups) first)) ∙ append_assoc (take (length groups) first) (drop (length groups) first) second)
      ∙ at-between d [] (take (length groups) first) (drop (length groups) first ++ second) 0 (length groups) refl (length-take-le (length groups) first h)

  at-others : {X : Type 0} (d : X) (first second more : List X) → length first ≡ from → PlacesWithin (length second) groups → at d (first ++ (second ++ more)) others ≡ at d second groups
  at-others d first second more e within = at-moved d first (second ++ more) groups from e ∙ at-within d second more groups within

  class-value : (env : List Row) (t u more : Row) → length t ≡ from → length groups ≤ from → PlacesWithin (length u) groups →
      value (same_groups groups from) (t ++ (u ++ more)) env [] ≡ Good (Boolean (same_row (take (length groups) t) (picked groups u)))
  class-value env t u more e h within =
      tests-value (t ++ (u ++ more)) env [] 0 firsts others as_many
      ∙ (λ i. Good (Boolean (same_row (at-first Null t (u ++ more) (omega (arith, e, h)) i) (at-others Null t u more e within i))))

  class-formed : (outer : List (List Kind)) (keys rest second more : List Kind) → length (keys ++ rest) ≡ from → keys ≡ kinds_in second groups → PlacesWithin (length second) groups →
      HasKind ((keys ++ rest ++ (second ++ more)) ∷ outer) [] (same_groups groups from) kind.Boolean
  class-formed outer keys rest second more e same within =
      let kinds = keys ++ rest ++ (second ++ more) in
      let wide : length kinds ≡ from + (length second + length more) =
      length-append (keys ++ rest) (second ++ more) ∙ (λ i. e i + length-append second more i) in
      let many : length keys ≡ length groups = ap length same ∙ length-map groups (kind_in second) in
      conjunction-formed kinds outer [] 0 kinds refl firsts others
      (within-range (length kinds) 0 (length groups) (omega (arith, wide, e, many, length-append keys rest)))
      (within-moved (length second) (length kinds) from groups (omega (arith, wide)) within)
      (ap (λ ks. kinds_in ks firsts) (append_assoc keys rest (second ++ more))
      ∙ at-between kind.Text [] keys (rest ++ (second ++ more)) 0 (length groups) refl many
      ∙ same
      ∙ sym (at-others kind.Text (keys ++ rest) second more e within))

module _ (q b p : Query) (groups : List ℕ) (aggregates : List Aggr) (s : Stands q b) (r : IsRewrite q p) where
  abbrev node : Query
  node = AggregateOf q groups aggregates

  abbrev plain : Query
  plain = AggregateOf b groups aggregates

  abbrev columns : ℕ
  columns = width_of b

  abbrev kept : ℕ
  kept = width_of plain

  abbrev all : List Kind
  all = kinds_of plain ++ kinds_of p

  abbrev own : List Kind
  own = map (λ (aggregate : Aggr). aggregate.kind) aggregates

  plain-is : (outer : List (List Kind)) → WellFormed outer q → kinds_of plain ≡ kinds_of node
  plain-is outer w = ap (λ ks. kinds_in ks groups ++ own) (s.kinds outer w)

  all-is : (outer : List (List Kind)) → WellFormed outer q → all ≡ kinds_of node ++ (kinds_of q ++ place_kinds (shape q))
  all-is outer w = λ i. plain-is outer w i ++ r.kinds outer w i

  wide : (outer : List (List Kind)) → WellFormed outer q → length (kinds_of q) ≡ columns
  wide outer w = sym (ap length (s.kinds outer w))

  first-width : (outer : List (List Kind)) → WellFormed outer q → length (kinds_of node) ≡ kept
  first-width outer w = sym (ap length (plain-is outer w))

  kinds : (outer : List (List Kind)) → WellFormed outer node → kinds_in all (kept_places kept columns (length all)) ≡ kinds_of node ++ place_kinds (shape node)
  kinds outer w =
      ap (λ ks. kinds_in ks (kept_places kept columns (length ks))) (all-is outer w.input ∙ sym (append_assoc (kinds_of node) (kinds_of q) (place_kinds (shape q))))
      ∙ kept-kinds (kinds_of node) (kinds_of q) (place_kinds (shape q)) kept columns (first-width outer w.input) (wide outer w.input)

  formed : (outer : List (List Kind)) → WellFormed outer node → HasKind (all ∷ outer) [] (same_groups groups kept) kind.Boolean
  formed outer w =
      subst (λ ks. HasKind (ks ∷ outer) [] (same_groups groups kept) kind.Boolean) (sym (all-is outer w.input))
      (class-formed groups kept outer (kinds_in (kinds_of q) groups) own (kinds_of q) (place_kinds (shape q)) (first-width outer w.input) refl w.groups)

  plain-side : Side node plain
  plain-side = record {
    plain = s.plain;
    formed = λ outer w. record {
      input = s.formed outer w.input;
      groups = subst (λ n. PlacesWithin n groups) (wide outer w.input) w.groups;
      aggregates = subst (λ ks. AggregatesForm (ks ∷ outer) aggregates) (sym (s.kinds outer w.input)) w.aggregates;
    };
    tables = s.tables;
  }

  abbrev functions : List AggFn
  functions = map (λ (aggregate : Aggr). aggregate.function) aggregates

  module _ (outer : List (List Kind)) (db : Database) (env : List Row) (f : Fitting outer node db env) where
    fitting : Fitting outer q db env
    fitting = record { formed = f.formed.input; tables = f.tables; outer_rows = f.outer_rows }

    lists : (t : Row) (w : Witness) → Contains (witnesses node db env t) w ↔ (InAnswer node db env t × AggregateList q groups db env t w)
    lists t w =
        subst (λ n. Contains (witnesses n db env t) w ↔ (InAnswer n db env t × AggregateList q groups db env t w)) (Aggregate-is q groups aggregates)
        (aggregate-lists db env t w q groups aggregates)

    same_plain : SameRows (meaning node db env) (meaning plain db env)
    same_plain =
        across (rows-with_lists _ _) (rows-with_lists _ _)
        (aggregate-input (meaning q db env) (meaning b db env) (s.rows outer db env f.formed.input f.tables f.outer_rows) groups functions (arguments_on aggregates env))

    node-is : meaning node db env ≡ and_then (meaning q db env) (grouped groups functions (arguments_on aggregates env))
    node-is = rows-with_lists _ _

    -- a row of the class that t is of
    abbrev meets : Row → Row → Bool
    meets t u = same_row (take (length groups) t) (picked groups u)

    module _ (ts us : Bag) (is_node : meaning node db env ≡ Good ts) (is_right : meaning q db env ≡ Good us) where
      classes : (rows : Bag) → us ≡ rows → (t : Row) → IsTrue (member t ts) → ((u : Row) → IsTrue (member u us) → meets t u ≡ true → ⊥) → rows ≡ []
      classes [] e t h none = refl
      classes (v ∷ vs) e t h none =
          let made : Good ts ≡ grouped groups functions (arguments_on aggregates env) (v ∷ vs) =
          sym is_node ∙ node-is ∙ ap (λ o. and_then o (grouped groups functions (arguments_on aggregates env))) (is_right ∙ ap Good e) in
          let some = some_of_class groups v vs t
          (from-grouped groups functions (arguments_on aggregates env) (v ∷ vs) t (subst (λ o. IsIn t (good_rows o)) made (member-in t ts h))) in
          let same = (row_decides (picked groups some.0) (take (length groups) t)).0 (from-filter (λ x. same_row (picked groups x) (take (length groups) t)) some.0 (v ∷ vs) some.2).1 in
          absurd (none some.0 (subst (λ bag. IsTrue (member some.0 bag)) (sym e) (in-member some.0 (v ∷ vs) some.1)) ((row_decides (take (length groups) t) (picked groups some.0)).1 (sym same)))

      from_lists : (t : Row) (w : Witness) → AggregateList q groups db env t w → JoinedList unlisted (witnesses q db env) us meets Left (all_empty (shape q)) t w
      from_lists t w (of_class u there same is_list) =
          of_met u [] w (unlisted_list t) (listed-row q db env us is_right u w is_list) ((row_decides (take (length groups) t) (picked groups u)).1 (sym same)) is_list refl
      from_lists t w (of_no_row good e) =
          let none : us ≡ [] = ap good_rows (sym is_right ∙ good) in
          of_alone [] refl (unlisted_list t) (λ u h m. subst (IsIn u) none (member-in u us h)) e

      in_lists : (t : Row) (w : Witness) → IsTrue (member t ts) → JoinedList unlisted (witnesses q db env) us meets Left (all_empty (shape q)) t w →
          AggregateList q groups db env t w
      in_lists t w h (of_met u l x is_left here m is_list e) =
          let only : x ≡ w = ap (λ l. l ++ x) (no_entries t l is_left) ∙ e in
          of_class u (record { bag = us; good = is_right; row = here }) (sym ((row_decides (take (length groups) t) (picked groups u)).0 m))
          (subst (Contains (witnesses q db env u)) only is_list)
      in_lists t w h (of_alone l keeps is_left none e) =
          of_no_row (is_right ∙ ap Good (classes us refl t h none)) (ap (λ l. l ++ all_empty (shape q)) (no_entries t l is_left) ∙ e)

      row_width : (t : Row) → IsTrue (member t ts) → length t ≡ kept
      row_width t h = row-width outer node db env f ts t is_node h ∙ first-width outer f.formed.input

      right_width : (u : Row) → IsTrue (member u us) → length u ≡ columns
      right_width u h = row-width outer q db env fitting us u is_right h ∙ wide outer f.formed.input

      few : length groups ≤ kept
      few =
          omega (arith, first-width outer f.formed.input, length-append (kinds_in (kinds_of q) groups) own, length-map groups (kind_in (kinds_of q)))

      without : (t : Row) (l : Witness) → Contains (unlisted t) l → t ++ flat l ≡ t
      without t l c = ap (λ l. t ++ flat l) (sym (no_entries t l c)) ∙ append-nil t

      holds : (t u : Row) (l w : Witness) → IsTrue (member t ts) → Contains (unlisted t) l → IsTrue (member u us) →
          value (same_groups groups kept) (t ++ flat l ++ (u ++ flat w)) env [] ≡ Good (Boolean (meets t u))
      holds t u l w h c k =
          ap (λ row. value (same_groups groups kept) (row ++ (u ++ flat w)) env []) (without t l c)
          ∙ class-value groups kept env t u (flat w) (row_width t h) few
          (subst (λ n. PlacesWithin n groups) (sym (row-width outer q db env fitting us u is_right k)) f.formed.groups)

      abbrev places : List ℕ
      places = kept_places kept columns (length all)

      whole : kept + columns + length (place_kinds (shape q)) ≡ length all
      whole =
          omega (arith, length-append (kinds_of plain) (kinds_of p), ap length (r.kinds outer f.formed.input), length-append (kinds_of q) (place_kinds (shape q)), wide outer f.formed.input)

      moved : (t u : Row) (l w : Witness) → IsTrue (member t ts) → Contains (unlisted t) l → length u ≡ columns → length (flat w) ≡ length (place_kinds (shape q)) →
          picked places (t ++ flat l ++ (u ++ flat w)) ≡ t ++ flat (l ++ w)
      moved t u l w h c long last =
          ap (picked places) (sym (append_assoc (t ++ flat l) u (flat w)))
          ∙ kept-row t u l w kept columns (length (place_kinds (shape q))) (length all) (ap length (without t l c) ∙ row_width t h) long last whole

      alone : (t : Row) (l : Witness) → IsTrue (member t ts) → Contains (unlisted t) l → picked places (t ++ flat l ++ nulls (width_of p)) ≡ t ++ flat (l ++ all_empty (shape q))
      alone t l h c =
          ap (λ row. picked places (t ++ flat l ++ row)) (nulls-of_rewriting (kinds_of q) (shape q) (width_of p) (ap length (r.kinds outer f.formed.input)))
          ∙ moved t (nulls (length (kinds_of q))) l (all_empty (shape q)) h c (length-nulls (length (kinds_of q)) ∙ wide outer f.formed.input) (blank-width (shape q))

    combines : Combines (meaning node db env) (meaning node db env) (meaning q db env)
    combines =
        subst (λ o. Combines o o (meaning q db env)) (sym node-is) (group-combines (grouped groups functions (arguments_on aggregates env)) (meaning q db env))

    plain-related : Related (Spread beside_list unlisted) (meaning node db env) (meaning plain db env)
    plain-related =
        related-onward (Beside unlisted) (Spread beside_list unlisted) (meaning node db env) (meaning plain db env) (spread-from_beside unlisted)
        (unlisted-related (meaning node db env) (meaning plain db env) same_plain)

    abbrev condition : Row → Outcome Value
    condition u = value (same_groups groups kept) u env []

    abbrev join : Bag → Bag → Outcome Bag
    join = joined_rows Left condition (width_of plain) (width_of p)

    abbrev move : Bag → Bag
    move = map (picked (kept_places kept columns (length all)))

    joins : Joins (Beside (witnesses node db env)) (Spread beside_list unlisted) (Beside (witnesses q db env))
        (meaning node db env) (meaning node db env) (meaning plain db env) (meaning q db env) (meaning p db env) join move
    joins ns ts zs us xs is_node is_left is_right a b =
        let good : (t u : Row) (l w : Witness) → IsTrue (member t ts) → Contains (unlisted t) l → IsTrue (member u us) → Contains (witnesses q db env u) w →
        condition (t ++ flat l ++ (u ++ flat w)) ≡ Good (Boolean (meets t u)) = λ t u l w h c k d. holds ts us is_left is_right t u l w h c k in
        let made = joined_good beside_list unlisted ts zs a (witnesses q db env) us xs b meets condition good Left refl (width_of plain) (width_of p) in
        let same : ns ≡ ts = ap good_rows (sym is_node ∙ is_left) in
        let spread : Spread beside_list (witnesses node db env) ns (move made.0) =
        joined-spread beside_list unlisted ts zs a (witnesses q db env) us xs b meets condition good Left refl (width_of plain) (width_of p) made.0 made.1
        (all_empty (shape q)) beside_list (picked (kept_places kept columns (length all)))
        (λ t u l w h c k d e. moved ts us is_left is_right t u l w h c (right_width ts us is_left is_right u k) (list-width outer q db env fitting u w d))
        (λ keeps t l h c. alone ts us is_left is_right t l h c)
        (witnesses node db env) ns (λ t h. subst (λ bag. IsTrue (member t bag)) same h)
        (λ t w h c. from_lists ts us is_left is_right t w ((lists t w).0 c).1)
        (λ t w h j.
        let here : IsTrue (member t ns) = subst (λ bag. IsTrue (member t bag)) (sym same) h in
        (here, (lists t w).1 (record { bag = ns; good = is_node; row = here }, in_lists ts us is_left is_right t w h j))) in
        (made.0, made.1, beside-from_spread (witnesses node db env) ns (move made.0) (answer-listed node db env ns is_node) spread)

    rows : Related (Beside (witnesses node db env)) (meaning node db env) (mapped move (both_then (meaning plain db env) (meaning p db env) join))
    rows =
        joined-related (Beside (witnesses node db env)) (Spread beside_list unlisted) (Beside (witnesses q db env))
        (meaning node db env) (meaning node db env) (meaning plain db env) (meaning q db env) (meaning p db env) join move
        combines plain-related (rewriting-related outer q p db env fitting r) joins

  pub aggregate-rewrites : IsRewrite node (columns_kept (pairs_of Left plain p (same_groups groups kept)) kept columns)
  aggregate-rewrites = kept-rewrites node plain p Left (same_groups groups kept) kept columns (record {
    left_side = plain-side;
    right_side = rewriting-side node q p (λ outer w. w.input) (reads_among-itself q) r;
    within = omega arith;
    formed = formed;
    kinds = kinds;
    rows = rows;
  })

pub aggregate-made : (q b p : Query) (groups : List ℕ) (aggregates : List Aggr) → Stands q b → IsRewrite q p →
    IsRewrite (Aggregate q groups aggregates)
    (columns_kept (pairs_of Left (Aggregate b groups aggregates) p (same_groups groups (width_of (Aggregate b groups aggregates)))) (width_of (Aggregate b groups aggregates)) (width_of b))
aggregate-made q b p groups aggregates s r =
    subst₂ (λ n plain. IsRewrite n (columns_kept (pairs_of Left plain p (same_groups groups (width_of plain))) (width_of plain) (width_of b)))
    (sym (Aggregate-is q groups aggregates)) (sym (Aggregate-is b groups aggregates))
    (aggregate-rewrites q b p groups aggregates s r)
