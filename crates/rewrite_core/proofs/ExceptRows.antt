-- EXCEPT over what stands for its inputs: each row beside those of the left rewriting that begin with it, and then beside
-- those of the right one that begin with another row, or NULLs where none does.
use Rattle.std.proofs.Common.{◌≡◌, ◌≢◌, ◌↔◌, ◌+◌, ℕ, Bool, true, false, not, List, [], ◌∷◌, ◌++◌, map, length, Contains, IsTrue, append_assoc, append-nil, length-append, refl, sym, ap, ◌∙◌, subst, subst₂, arith, true≢false}
use Rattle.std.proofs.lemmas.List.{map-id}
use Rattle.null_logic.specs.declared.operator.Operator.TheVariants.{Not}
use Rattle.perm_values.specs.Rows.{picked, same_row}
use Rattle.perm_values.specs.ValueLaws.{row_decides}
use Rattle.perm_values.specs.declared.kind.Kind.{Kind}
use Rattle.perm_values.specs.declared.kind.Kind.TheVariants as kind
use Rattle.perm_values.specs.declared.value.Value.{Value}
use Rattle.perm_values.specs.declared.value.Value.TheVariants.{Boolean}
use Rattle.bag_algebra.proofs.TablesRead.{reads_among-itself, reads_among-onward}
use Rattle.bag_algebra.proofs.Truths.{both-true}
use Rattle.bag_algebra.proofs.Widths.{place_kinds-append}
use Rattle.bag_algebra.specs.Bags.{Row, Bag, member, except_of, nulls}
use Rattle.bag_algebra.specs.built.Openings.{Except-is, rows-with_lists, value-Op}
use Rattle.bag_algebra.specs.Expressions.{value, operate}
use Rattle.bag_algebra.specs.Kinds.{kinds_of, kinds_in, width_of, shape, place_kinds}
use Rattle.bag_algebra.specs.Meaning.{Database, meaning, witnesses}
use Rattle.bag_algebra.specs.Means.{Witness, flat, all_empty, good_rows, joined_rows}
use Rattle.bag_algebra.specs.Outcome.{Outcome, Good, Bad, union, and_then, mapped, both, both_then}
use Rattle.bag_algebra.specs.built.Patterns.{ExceptOf}
use Rattle.bag_algebra.specs.Rewriting.{IsRewrite, Stands, SameRows, is_plain}
use Rattle.bag_algebra.specs.WellFormed.{WellFormed, HasKind}
use Rattle.bag_algebra.specs.declared.expr.Expr.{Expr}
use Rattle.bag_algebra.specs.declared.expr.Expr.TheVariants.{Op}
use Rattle.bag_algebra.specs.declared.query.JoinKind.TheVariants.{Inner, Left}
use Rattle.bag_algebra.specs.declared.query.Query.{Query}
use Rattle.bag_algebra.specs.declared.query.Query.TheVariants.{Except}
use Rattle.contribution.proofs.Agreement.{union-comm}
use Rattle.contribution.proofs.SetsOfRows.{union-same, included-left, included-right}
use Rattle.contribution.specs.Fitting.{Fitting}
use Rattle.rewrite_core.proofs.JoinedOutcomes.{Related, Combines, Joins, joined-related, unlisted, no_entries, unlisted_list, unlisted-related, answer-listed, listed-row}
use Rattle.rewrite_core.proofs.JoinedRows.{Spread, beside_list, beside-from_spread, JoinedList, of_met, of_alone, joined_good, joined-spread}
use Rattle.rewrite_core.proofs.KeptRewriting.{Side, rewriting-related, rewriting-side, kept-rewrites}
use Rattle.rewrite_core.proofs.KeptRows.{row-width, list-width, blank-width, nulls-of_rewriting, kept-row, kept-kinds, same-value, same-formed}
use Rattle.rewrite_core.specs.rewritings.KeptColumns.{columns_kept, differs_from_first, kept_places, pairs_of, same_as_first}
use Rattle.query_laws.proofs.Inputs.{across, except-inputs}
use Rattle.query_laws.proofs.Joined.{length-nulls}
use Rattle.contribution.proofs.NodeQueries.{meaning-pairs, formed-pairs, plain-pairs}
use Rattle.contribution.proofs.PartForms.{no_parts-have, more_parts-have}
use Rattle.rewrite_core.specs.rewritings.Rewritten.{Beside}
use Rattle.query_laws.proofs.NodeLists.{except-lists}
use Rattle.query_laws.specs.ListsOfNodes.{ExceptList, of_other, of_no_other}
use Rattle.query_laws.specs.SublinkLists.{InAnswer}
use Rattle.rewrite_core.proofs.Matched.{Matching, matched-spread}
use Rattle.rewrite_core.specs.OtherRows.{remaining}
use Rattle.bag_algebra.specs.built.Forms.{number_of_parts-built}

-- ---- faults

left-combines : (f : Bag → Bag → Bag) (a b : Outcome Bag) → Combines (both f a b) a (both f a b)
left-combines f (Good us) (Good vs) = tt
left-combines f (Good us) (Bad h) = refl
left-combines f (Bad g) (Good vs) = sym (union-same g)
left-combines f (Bad g) (Bad h) = sym (included-left g h).whole

right-combines : (f : Bag → Bag → Bag) (a b : Outcome Bag) → Combines (both f a b) (both f a b) b
right-combines f (Good us) (Good vs) = tt
right-combines f (Good us) (Bad h) = sym (union-same h)
right-combines f (Bad g) (Good vs) = refl
right-combines f (Bad g) (Bad h) = sym (included-right g h).whole ∙ union-comm h (union g h)

mapped-id : (o : Outcome Bag) → mapped (map (λ x. x)) o ≡ o
mapped-id (Good bag) = ap Good (map-id bag)
mapped-id (Bad f) = refl

-- ---- rows that differ

differs : (t u : Row) → not (same_row t u) ≡ true → u ≢ t
differs t u e same = true≢false (sym e ∙ ap not ((row_decides t u).1 (sym same)))

not_same : (t u : Row) → u ≢ t → not (same_row t u) ≡ true
not_same t u n = by_answer (same_row t u) refl where
  by_answer : (b : Bool) → same_row t u ≡ b → not b ≡ true
  by_answer true e = absurd (n (sym ((row_decides t u).0 e)))
  by_answer false e = refl

same-where_none : (t u : Row) → (not (same_row t u) ≡ true → ⊥) → u ≡ t
same-where_none t u none = by_answer (same_row t u) refl where
  by_answer : (b : Bool) → same_row t u ≡ b → u ≡ t
  by_answer true e = sym ((row_decides t u).0 e)
  by_answer false e = absurd (none (ap not e))

not-operate : (b : Bool) → operate Not (Boolean b ∷ []) ≡ Good (Boolean (not b))
not-operate true = refl
not-operate false = refl

not-value : (test : Expr) (u : Row) (env : List Row) (b : Bool) → value test u env [] ≡ Good (Boolean b) → value (Op Not (test ∷ [])) u env [] ≡ Good (Boolean (not b))
not-value test u env b e =
    value-Op u env [] Not (test ∷ [])
    ∙ (λ i. and_then (both (λ v vs. v ∷ vs) (e i) (Good [])) (operate Not))
    ∙ not-operate b

not-formed : (scopes : List (List Kind)) (test : Expr) → HasKind scopes [] test kind.Boolean → HasKind scopes [] (Op Not (test ∷ [])) kind.Boolean
not-formed scopes test h = record {
  number = number_of_parts-built (test ∷ []);
  parts = more_parts-have scopes [] kind.Boolean test [] h (no_parts-have scopes [] kind.Boolean);
  gives = refl;
}

module _ (all : Bool) (left right b c p o : Query) (s : Stands left b) (z : Stands right c) (l : IsRewrite left p) (r : IsRewrite right o) where
  abbrev node : Query
  node = ExceptOf all left right

  abbrev plain : Query
  plain = ExceptOf all b c

  abbrev columns : ℕ
  columns = width_of b

  abbrev kept : ℕ
  kept = width_of p

  abbrev rest : Query
  rest = remaining plain p columns kept

  abbrev left_places : List Kind
  left_places = place_kinds (shape left)

  abbrev right_places : List Kind
  right_places = place_kinds (shape right)

  -- a row of the left beside its list, and once more
  abbrev twice : Row → Witness → Row
  twice t w = t ++ flat w ++ t

  wide : (outer : List (List Kind)) → WellFormed outer node → length (kinds_of left) ≡ columns
  wide outer w = sym (ap length (s.kinds outer w.left_side))

  first-width : (outer : List (List Kind)) → WellFormed outer node → length (kinds_of left ++ left_places) ≡ kept
  first-width outer w = sym (ap length (l.kinds outer w.left_side))

  rest_kinds : (outer : List (List Kind)) → WellFormed outer node → kinds_of rest ≡ kinds_of left ++ left_places ++ kinds_of left
  rest_kinds outer w = λ i. l.kinds outer w.left_side i ++ s.kinds outer w.left_side i

  right-is : (outer : List (List Kind)) → WellFormed outer node → kinds_of o ≡ kinds_of left ++ right_places
  right-is outer w = r.kinds outer w.right_side ∙ ap (λ ks. ks ++ right_places) (sym w.same_kinds)

  plain-side : Side node plain
  plain-side = record {
    plain = both-true (is_plain b) (is_plain c) s.plain z.plain;
    formed = λ outer w. record {
      left_side = s.formed outer w.left_side;
      right_side = z.formed outer w.right_side;
      same_kinds = s.kinds outer w.left_side ∙ w.same_kinds ∙ sym (z.kinds outer w.right_side);
    };
    tables = (reads_among-onward b left node s.tables (reads_among-itself node).0, reads_among-onward c right node z.tables (reads_among-itself node).1);
  }

  left-side : Side node p
  left-side = rewriting-side node left p (λ outer w. w.left_side) (reads_among-itself node).0 l

  rest-formed : (outer : List (List Kind)) → WellFormed outer node → HasKind ((kinds_of p ++ kinds_of plain) ∷ outer) [] (same_as_first columns kept) kind.Boolean
  rest-formed outer w =
      subst (λ ks. HasKind (ks ∷ outer) [] (same_as_first columns kept) kind.Boolean)
      (ap (λ ks. kinds_of left ++ left_places ++ ks) (append-nil (kinds_of left)) ∙ sym (rest_kinds outer w))
      (same-formed columns kept outer (kinds_of left) left_places [] (wide outer w) (first-width outer w))

  rest-side : Side node rest
  rest-side =
      let on_left : Side node p = left-side in
      let on_right : Side node plain = plain-side in
      record {
        plain = plain-pairs Inner p plain (same_as_first columns kept) ∙ both-true (is_plain p) (is_plain plain) on_left.plain on_right.plain;
        formed = λ outer w. formed-pairs Inner p plain (same_as_first columns kept) outer (on_left.formed outer w) (on_right.formed outer w) (rest-formed outer w);
        tables = (on_left.tables, on_right.tables, tt);
      }

  abbrev all_kinds : List Kind
  all_kinds = kinds_of rest ++ kinds_of o

  abbrev places : List ℕ
  places = kept_places kept (columns + columns) (length all_kinds)

  all-is : (outer : List (List Kind)) → WellFormed outer node → all_kinds ≡ kinds_of left ++ left_places ++ kinds_of left ++ (kinds_of left ++ right_places)
  all-is outer w = λ i. rest_kinds outer w i ++ right-is outer w i

  regrouped : {X : Type 0} (first t u last : List X) → first ++ t ++ (u ++ last) ≡ first ++ (t ++ u) ++ last
  regrouped first t u last = sym (append_assoc (first ++ t) u last) ∙ ap (λ xs. xs ++ last) (append_assoc first t u)

  kinds : (outer : List (List Kind)) → WellFormed outer node → kinds_in all_kinds places ≡ kinds_of node ++ place_kinds (shape node)
  kinds outer w =
      let first = kinds_of left ++ left_places in
      ap (λ ks. kinds_in ks (kept_places kept (columns + columns) (length ks))) (all-is outer w ∙ regrouped first (kinds_of left) (kinds_of left) right_places)
      ∙ kept-kinds first (kinds_of left ++ kinds_of left) right_places kept (columns + columns) (first-width outer w)
      (length-append (kinds_of left) (kinds_of left) ∙ (λ i. wide outer w i + wide outer w i))
      ∙ append_assoc (kinds_of left) left_places right_places
      ∙ ap (λ ks. kinds_of left ++ ks) (sym (place_kinds-append (shape left) (shape right)))

  twice-width : (outer : List (List Kind)) → WellFormed outer node → length (kinds_of left ++ (left_places ++ kinds_of left)) ≡ kept + columns
  twice-width outer w =
      ap length (sym (append_assoc (kinds_of left) left_places (kinds_of left)))
      ∙ length-append (kinds_of left ++ left_places) (kinds_of left)
      ∙ (λ i. first-width outer w i + wide outer w i)

  formed : (outer : List (List Kind)) → WellFormed outer node → HasKind (all_kinds ∷ outer) [] (differs_from_first columns (kept + columns)) kind.Boolean
  formed outer w =
      not-formed (all_kinds ∷ outer) (same_as_first columns (kept + columns))
      (subst (λ ks. HasKind (ks ∷ outer) [] (same_as_first columns (kept + columns)) kind.Boolean)
      (ap (λ ks. ks ++ (kinds_of left ++ right_places)) (sym (append_assoc (kinds_of left) left_places (kinds_of left))) ∙ sym (all-is outer w))
      (same-formed columns (kept + columns) outer (kinds_of left) (left_places ++ kinds_of left) right_places (wide outer w) (twice-width outer w)))

  module _ (outer : List (List Kind)) (db : Database) (env : List Row) (f : Fitting outer node db env) where
    left_fitting : Fitting outer left db env
    left_fitting = record { formed = f.formed.left_side; tables = f.tables.0; outer_rows = f.outer_rows }

    right_fitting : Fitting outer right db env
    right_fitting = record { formed = f.formed.right_side; tables = f.tables.1; outer_rows = f.outer_rows }

    lists : (t : Row) (w : Witness) → Contains (witnesses node db env t) w ↔ (InAnswer node db env t × ExceptList left right db env t w)
    lists t w =
        subst (λ n. Contains (witnesses n db env t) w ↔ (InAnswer n db env t × ExceptList left right db env t w)) (Except-is all left right)
        (except-lists db env t w left right all)

    left_list : (t : Row) (w : Witness) → ExceptList left right db env t w → (x : Witness) × Contains (witnesses left db env t) x
    left_list t w (of_other v x y is_left there n is_right e) = (x, is_left)
    left_list t w (of_no_other x is_left none e) = (x, is_left)

    same_plain : SameRows (meaning node db env) (meaning plain db env)
    same_plain =
        across (rows-with_lists _ _) (rows-with_lists _ _)
        (except-inputs (meaning left db env) (meaning b db env) (s.rows outer db env f.formed.left_side f.tables.0 f.outer_rows)
        (meaning right db env) (meaning c db env) (z.rows outer db env f.formed.right_side f.tables.1 f.outer_rows) all)

    node-is : meaning node db env ≡ both (except_of all) (meaning left db env) (meaning right db env)
    node-is = rows-with_lists _ _

    module _ (ns ts : Bag) (is_node : meaning node db env ≡ Good ns) (is_left : meaning left db env ≡ Good ts) where
      among : (t : Row) → IsTrue (member t ns) → IsTrue (member t ts)
      among t h =
          let found = answer-listed node db env ns is_node t h in
          let list = left_list t found.list ((lists t found.list).0 found.is_list).1 in
          listed-row left db env ts is_left t list.0 list.1

      row_width : (t : Row) → IsTrue (member t ts) → length t ≡ columns
      row_width t h = row-width outer left db env left_fitting ts t is_left h ∙ wide outer f.formed

      left_width : (t : Row) (w : Witness) → IsTrue (member t ts) → Contains (witnesses left db env t) w → length (t ++ flat w) ≡ kept
      left_width t w h c =
          length-append t (flat w)
          ∙ (λ i. row-width outer left db env left_fitting ts t is_left h i + list-width outer left db env left_fitting t w c i)
          ∙ sym (length-append (kinds_of left) left_places)
          ∙ first-width outer f.formed

      module _ (us : Bag) (same : us ≡ ns) where
        matching : Matching (witnesses left db env) unlisted (witnesses left db env) ts us ns columns kept
        matching = record {
          row_width = row_width;
          left_width = left_width;
          right_width = λ u h. row_width u (among u (subst (λ bag. IsTrue (member u bag)) same h));
          among = among;
          from_lists = λ t w h c. record {
            l = w;
            r = [];
            row = subst (λ bag. IsTrue (member t bag)) (sym same) h;
            is_left = c;
            is_right = unlisted_list t;
            whole = append-nil w;
          };
          in_lists = λ t w h m.
              let only : m.l ≡ w = sym (append-nil m.l) ∙ ap (λ r. m.l ++ r) (no_entries t m.r m.is_right) ∙ m.whole in
              (subst (λ bag. IsTrue (member t bag)) same m.row, subst (Contains (witnesses left db env t)) only m.is_left);
        }

        doubled : (t : Row) (v w : Witness) → Contains (unlisted t) w → t ++ flat v ++ (t ++ flat w) ≡ twice t (v ++ w)
        doubled t v w c =
            ap (λ w. t ++ flat v ++ (t ++ flat w)) (sym (no_entries t w c))
            ∙ ap (λ u. t ++ flat v ++ u) (append-nil t)
            ∙ ap (λ v. twice t v) (sym (append-nil v))
            ∙ ap (λ w. twice t (v ++ w)) (no_entries t w c)

    left-combined : Combines (meaning node db env) (meaning left db env) (meaning node db env)
    left-combined = subst (λ n. Combines n (meaning left db env) n) (sym node-is) (left-combines (except_of all) (meaning left db env) (meaning right db env))

    abbrev rest_join : Bag → Bag → Outcome Bag
    rest_join = joined_rows Inner (λ u. value (same_as_first columns kept) u env []) (width_of p) (width_of plain)

    rest-joins : Joins (Spread twice (witnesses left db env)) (Beside (witnesses left db env)) (Beside unlisted)
        (meaning node db env) (meaning left db env) (meaning p db env) (meaning node db env) (meaning plain db env) rest_join (map (λ x. x))
    rest-joins ns ts zs us xs is_node is_left is_right a b =
        let same : us ≡ ns = ap good_rows (sym is_right ∙ is_node) in
        matched-spread (witnesses left db env) unlisted (witnesses left db env) ts us ns zs xs columns kept (width_of p) (width_of plain) env
        twice (λ x. x) (matching ns ts is_node is_left us same) a b
        (λ t v w h c k d. doubled ns ts is_node is_left us same t v w d)

    rest-is : mapped (map (λ x. x)) (both_then (meaning p db env) (meaning plain db env) rest_join) ≡ meaning rest db env
    rest-is =
        mapped-id (both_then (meaning p db env) (meaning plain db env) rest_join)
        ∙ sym (meaning-pairs Inner p plain (same_as_first columns kept) db env)

    -- the rows that remain, each beside its lists on the left, and once more
    rest-related : Related (Spread twice (witnesses left db env)) (meaning node db env) (meaning rest db env)
    rest-related =
        subst (λ o. Related (Spread twice (witnesses left db env)) (meaning node db env) o) rest-is
        (joined-related (Spread twice (witnesses left db env)) (Beside (witnesses left db env)) (Beside unlisted)
        (meaning node db env) (meaning left db env) (meaning p db env) (meaning node db env) (meaning plain db env) rest_join (map (λ x. x))
        left-combined (rewriting-related outer left p db env left_fitting l) (unlisted-related (meaning node db env) (meaning plain db env) same_plain) rest-joins)

    abbrev meets : Row → Row → Bool
    meets t u = not (same_row t u)

    module _ (ns us : Bag) (is_node : meaning node db env ≡ Good ns) (is_right : meaning right db env ≡ Good us) where
      from_lists : (t : Row) (w : Witness) → ExceptList left right db env t w →
          JoinedList (witnesses left db env) (witnesses right db env) us meets Left (all_empty (shape right)) t w
      from_lists t w (of_other v x y is_left there n is_list e) =
          of_met v x y is_left (listed-row right db env us is_right v y is_list) (not_same t v n) is_list e
      from_lists t w (of_no_other x is_left all e) =
          of_alone x refl is_left (λ u h m. differs t u m (all u (record { bag = us; good = is_right; row = h }))) e

      in_lists : (t : Row) (w : Witness) → JoinedList (witnesses left db env) (witnesses right db env) us meets Left (all_empty (shape right)) t w →
          ExceptList left right db env t w
      in_lists t w (of_met u x y is_left here m is_list e) =
          of_other u x y is_left (record { bag = us; good = is_right; row = here }) (differs t u m) is_list e
      in_lists t w (of_alone x keeps is_left none e) =
          of_no_other x is_left (λ v a.
          let good = ap good_rows (sym a.good ∙ is_right) in
          same-where_none t v (none v (subst (λ bag. IsTrue (member v bag)) good a.row))) e

      node_width : (t : Row) → IsTrue (member t ns) → length t ≡ columns
      node_width t h = row-width outer node db env f ns t is_node h ∙ wide outer f.formed

      kept_width : (t : Row) (w : Witness) → IsTrue (member t ns) → Contains (witnesses left db env t) w → length (t ++ flat w) ≡ kept
      kept_width t w h c =
          length-append t (flat w)
          ∙ (λ i. row-width outer node db env f ns t is_node h i + list-width outer left db env left_fitting t w c i)
          ∙ sym (length-append (kinds_of left) left_places)
          ∙ first-width outer f.formed

      right_width : (u : Row) → IsTrue (member u us) → length u ≡ columns
      right_width u h = row-width outer right db env right_fitting us u is_right h ∙ sym (ap length f.formed.same_kinds) ∙ wide outer f.formed

      holds : (t u : Row) (v w : Witness) → IsTrue (member t ns) → Contains (witnesses left db env t) v → IsTrue (member u us) →
          value (differs_from_first columns (kept + columns)) (twice t v ++ (u ++ flat w)) env [] ≡ Good (Boolean (meets t u))
      holds t u v w h c k =
          not-value (same_as_first columns (kept + columns)) (twice t v ++ (u ++ flat w)) env (same_row t u)
          (ap (λ row. value (same_as_first columns (kept + columns)) (row ++ (u ++ flat w)) env []) (append_assoc t (flat v) t)
          ∙ same-value columns (kept + columns) env t (flat v ++ t) u (flat w) (node_width t h)
          (ap length (sym (append_assoc t (flat v) t)) ∙ length-append (t ++ flat v) t ∙ (λ i. kept_width t v h c i + node_width t h i)) (right_width u k))

      whole : kept + (columns + columns) + length right_places ≡ length all_kinds
      whole =
          omega (
            arith,
            length-append (kinds_of rest) (kinds_of o),
            length-append (kinds_of p) (kinds_of plain),
            ap length (right-is outer f.formed),
            length-append (kinds_of left) right_places,
            wide outer f.formed,
          )

      moved : (t u : Row) (v w : Witness) → IsTrue (member t ns) → Contains (witnesses left db env t) v → length u ≡ columns → length (flat w) ≡ length right_places →
          picked places (twice t v ++ (u ++ flat w)) ≡ t ++ flat (v ++ w)
      moved t u v w h c long last =
          ap (picked places) (regrouped (t ++ flat v) t u (flat w))
          ∙ kept-row t (t ++ u) v w kept (columns + columns) (length right_places) (length all_kinds) (kept_width t v h c)
          (length-append t u ∙ (λ i. node_width t h i + long i)) last whole

      alone : (t : Row) (v : Witness) → IsTrue (member t ns) → Contains (witnesses left db env t) v →
          picked places (twice t v ++ nulls (width_of o)) ≡ t ++ flat (v ++ all_empty (shape right))
      alone t v h c =
          ap (λ row. picked places (twice t v ++ row)) (nulls-of_rewriting (kinds_of left) (shape right) (width_of o) (ap length (right-is outer f.formed)))
          ∙ moved t (nulls (length (kinds_of left))) v (all_empty (shape right)) h c (length-nulls (length (kinds_of left)) ∙ wide outer f.formed) (blank-width (shape right))

    right-combined : Combines (meaning node db env) (meaning node db env) (meaning right db env)
    right-combined = subst (λ n. Combines n n (meaning right db env)) (sym node-is) (right-combines (except_of all) (meaning left db env) (meaning right db env))

    abbrev condition : Row → Outcome Value
    condition u = value (differs_from_first columns (kept + columns)) u env []

    abbrev join : Bag → Bag → Outcome Bag
    join = joined_rows Left condition (width_of rest) (width_of o)

    abbrev move : Bag → Bag
    move = map (picked places)

    joins : Joins (Beside (witnesses node db env)) (Spread twice (witnesses left db env)) (Beside (witnesses right db env))
        (meaning node db env) (meaning node db env) (meaning rest db env) (meaning right db env) (meaning o db env) join move
    joins ns ts zs us xs is_node is_left is_right a b =
        let good : (t u : Row) (v w : Witness) → IsTrue (member t ts) → Contains (witnesses left db env t) v → IsTrue (member u us) → Contains (witnesses right db env u) w →
        condition (twice t v ++ (u ++ flat w)) ≡ Good (Boolean (meets t u)) = λ t u v w h c k d. holds ts us is_left is_right t u v w h c k in
        let made = joined_good twice (witnesses left db env) ts zs a (witnesses right db env) us xs b meets condition good Left refl (width_of rest) (width_of o) in
        let same : ns ≡ ts = ap good_rows (sym is_node ∙ is_left) in
        let spread : Spread beside_list (witnesses node db env) ns (move made.0) =
        joined-spread twice (witnesses left db env) ts zs a (witnesses right db env) us xs b meets condition good Left refl (width_of rest) (width_of o) made.0 made.1
        (all_empty (shape right)) beside_list (picked places)
        (λ t u v w h c k d e. moved ts us is_left is_right t u v w h c (right_width ts us is_left is_right u k) (list-width outer right db env right_fitting u w d))
        (λ keeps t v h c. alone ts us is_left is_right t v h c)
        (witnesses node db env) ns (λ t h. subst (λ bag. IsTrue (member t bag)) same h)
        (λ t w h c. from_lists ns us is_node is_right t w ((lists t w).0 c).1)
        (λ t w h j.
        let here : IsTrue (member t ns) = subst (λ bag. IsTrue (member t bag)) (sym same) h in
        (here, (lists t w).1 (record { bag = ns; good = is_node; row = here }, in_lists ns us is_node is_right t w j))) in
        (made.0, made.1, beside-from_spread (witnesses node db env) ns (move made.0) (answer-listed node db env ns is_node) spread)

    rows : Related (Beside (witnesses node db env)) (meaning node db env) (mapped move (both_then (meaning rest db env) (meaning o db env) join))
    rows =
        joined-related (Beside (witnesses node db env)) (Spread twice (witnesses left db env)) (Beside (witnesses right db env))
        (meaning node db env) (meaning node db env) (meaning rest db env) (meaning right db env) (meaning o db env) join move
        right-combined rest-related (rewriting-related outer right o db env right_fitting r) joins

  pub except-rewrites : IsRewrite node (columns_kept (pairs_of Left rest o (differs_from_first columns (kept + columns))) kept (columns + columns))
  except-rewrites = kept-rewrites node rest o Left (differs_from_first columns (kept + columns)) kept (columns + columns) (record {
    left_side = rest-side;
    right_side = rewriting-side node right o (λ outer w. w.right_side) (reads_among-itself node).1 r;
    within = omega (arith, length-append (kinds_of p) (kinds_of plain));
    formed = formed;
    kinds = kinds;
    rows = rows;
  })

pub except-made : (all : Bool) (left right b c p o : Query) → Stands left b → Stands right c → IsRewrite left p → IsRewrite right o →
    IsRewrite (Except all left right)
    (columns_kept (pairs_of Left (remaining (Except all b c) p (width_of b) (width_of p)) o (differs_from_first (width_of b) (width_of p + width_of b))) (width_of p) (width_of b + width_of b))
except-made all left right b c p o s z l r =
    subst₂ (λ n plain. IsRewrite n
    (columns_kept (pairs_of Left (remaining plain p (width_of b) (width_of p)) o (differs_from_first (width_of b) (width_of p + width_of b))) (width_of p) (width_of b + width_of b)))
    (sym (Except-is all left right)) (sym (Except-is all b c))
    (except-rewrites all left right b c p o s z l r)
