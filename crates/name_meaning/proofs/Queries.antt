-- Set operations, ORDER BY, LIMIT and PROVENANCE over what is made well formed.
use Rattle.std.specs.Prelude.{◌≡◌, ℕ, zero, suc, pred, ◌+◌, ◌<◌, ◌≤◌, ℤ, pos, negsuc, nat_abs, Bool, true, false, cond, not, nat_eq, nat_lt, nat_le, List, [], ◌∷◌, ◌++◌, map, flat_map, length, Option, Some, None, IfSome}
use Rattle.std.proofs.Common.{refl, ap, sym, ◌∙◌, subst, true≢false, arith, ltb-true, leb-true, eqb-true}
use Rattle.std.proofs.lemmas.List.{length-append}
use Rattle.std.proofs.lemmas.List.Elements.{All-nil, All-cons}
use Rattle.std.specs.List.{count_by, AllByRecursion as Every}
use Rattle.perm_values.specs.Rows.{KeysWithin, PlacesWithin}
use Rattle.perm_values.specs.declared.key.Key.{Key}
use Rattle.perm_values.specs.declared.kind.Kind.{Kind}
use Rattle.perm_values.specs.declared.kind.Kind.TheVariants.{Text}
use Rattle.perm_values.proofs.Lists.{front-none, back-none}
use Rattle.perm_values.proofs.Steps.{by}
use Rattle.bag_algebra.specs.built.Openings.{kinds_of-Prov}
use Rattle.bag_algebra.specs.built.Forms.{WellFormed-Union, WellFormed-Intersect, WellFormed-Except, WellFormed-Limit, WellFormed-Prov}
use Rattle.bag_algebra.specs.Kinds.{kinds_of, width_of, shape, place_kinds}
use Rattle.bag_algebra.specs.WellFormed.{WellFormed}
use Rattle.bag_algebra.specs.declared.query.Query.{Query}
use Rattle.bag_algebra.specs.declared.query.Query.TheVariants.{Prov}
use Rattle.sql_tree.specs.Regular.{IfThere, IsTokenNumber}
use Rattle.sql_tree.specs.declared.query.OrderKey.{OrderKey}
use Rattle.sql_tree.specs.declared.query.OrderKey.TheVariants.{Named as named_key, Position}
use Rattle.sql_tree.specs.declared.query.OrderTree.{OrderTree}
use Rattle.sql_tree.specs.declared.query.SetWord.{SetWord}
use Rattle.sql_tree.specs.declared.query.SetWord.TheVariants as word
use Rattle.name_meaning.specs.Cores.{BodyPart, settle, settle_known}
use Rattle.name_meaning.specs.Meanings.{Around, OutColumn, QueryMeant, broken, broken_if, unites}
use Rattle.name_meaning.specs.Queries.{SetStepPart, set_of, united_columns, do_unite, operand_break, operand_breaks, columns_so_far, set_joined, may_not_ask, set_chain, is_named, is_position, key_break, key_place, key_of, keys_of, keys_breaks, limited, count_columns, plain_query, query_with_provenance, asks_provenance, query_seen}
use Rattle.name_meaning.specs.declared.answer.Break.{Break}
use Rattle.name_meaning.specs.laws.Known.{HasItsKinds}
use Rattle.name_meaning.specs.laws.Standing.{RowsHold}
use Rattle.name_meaning.proofs.Froms.{range-in, position-in}
use Rattle.name_meaning.specs.declared.rule.Rule.TheVariants as rule
use Rattle.name_meaning.proofs.Every.{unbroken, unbroken-not}
use Rattle.name_meaning.proofs.KindsOf.{kinds-set, kinds-limited}
use Rattle.name_meaning.proofs.SettledKinds.{both-same, settle-united, settled-second}
use Rattle.bag_algebra.proofs.Truths.{left-true, right-true}

pub record GoodBodyMeant (around : Around) (m : QueryMeant) : Type 0 where
  pub known : m.breaks ≡ [] → HasItsKinds m
  pub formed : m.breaks ≡ [] → (rows : List (List Kind)) → RowsHold around.outer rows → (wanted : List Kind) → WellFormed rows (m.make wanted)

abbrev pub GoodBody : BodyPart → Type 0
GoodBody body = (around : Around) → GoodBodyMeant around (body.means around)

-- ---- set operations

formed-set : (rows : List (List Kind)) (op : SetWord) (all : Bool) (left right : Query) → WellFormed rows left → WellFormed rows right → kinds_of left ≡ kinds_of right
    → WellFormed rows (set_of op all left right)
formed-set rows word.Union all left right f g e = by (sym (WellFormed-Union rows all left right)) (record { left_side = f; right_side = g; same_kinds = e })
formed-set rows word.Except all left right f g e = by (sym (WellFormed-Except rows all left right)) (record { left_side = f; right_side = g; same_kinds = e })
formed-set rows word.Intersect all left right f g e = by (sym (WellFormed-Intersect rows all left right)) (record { left_side = f; right_side = g; same_kinds = e })

-- the second operand at the kinds of both
settle-second : (left right : List OutColumn) (wanted : List Kind) → length left ≡ length right → do_unite left right ≡ true
    → settle right (settle (united_columns left right) wanted) ≡ settle (united_columns left right) wanted
settle-second [] [] wanted l e = refl
settle-second [] (r ∷ right) wanted l e = absurd (omega (arith, l))
settle-second (x ∷ left) [] wanted l e = absurd (omega (arith, l))
settle-second (x ∷ left) (r ∷ right) [] l e =
    both-same _ _ _ _ (settled-second x.kind r.kind Text (left-true (unites x.kind r.kind) (do_unite left right) e))
    (settle-second left right [] (ap pred l) (right-true (unites x.kind r.kind) (do_unite left right) e))
settle-second (x ∷ left) (r ∷ right) (k ∷ ks) l e =
    both-same _ _ _ _ (settled-second x.kind r.kind k (left-true (unites x.kind r.kind) (do_unite left right) e))
    (settle-second left right ks (ap pred l) (right-true (unites x.kind r.kind) (do_unite left right) e))

operands-fit : (at : ℕ) (left right : List OutColumn) → operand_break at left right ≡ [] → (length left ≡ length right) × (do_unite left right ≡ true)
operands-fit at left right e = chosen (nat_eq (length left) (length right)) refl e where
  chosen : (b : Bool) → nat_eq (length left) (length right) ≡ b → cond b (broken_if (not (do_unite left right)) rule.UnfitKind at) (broken rule.UnfitWidth at ∷ []) ≡ []
      → (length left ≡ length right) × (do_unite left right ≡ true)
  chosen true f g = (eqb-true (length left) (length right) f, unbroken (do_unite left right) rule.UnfitKind at g)
  chosen false f g = absurd (cc g)

-- what a step of whole operands knows
record JoinedParts (left right : QueryMeant) (step : SetStepPart) : Type 0 where
  first : HasItsKinds left
  second : HasItsKinds right
  first_whole : left.breaks ≡ []
  second_whole : right.breaks ≡ []
  widths : length first.columns ≡ length second.columns
  unite : do_unite first.columns second.columns ≡ true
  columns : columns_so_far left.columns right.columns ≡ Some (united_columns first.columns second.columns)

joined-parts : (left right : QueryMeant) (step : SetStepPart) → (left.breaks ≡ [] → HasItsKinds left) → (right.breaks ≡ [] → HasItsKinds right)
    → (set_joined left step right).breaks ≡ [] → JoinedParts left right step
joined-parts left right step l r whole =
    let own : List Break = operand_breaks step.at left.columns right.columns in
    let operands = front-none (left.breaks ++ right.breaks) own whole in
    let left_whole = front-none left.breaks right.breaks operands in
    let right_whole = back-none left.breaks right.breaks operands in
    let a = l left_whole in
    let b = r right_whole in
    let broken_none : operand_break step.at a.columns b.columns ≡ [] =
    (λ i. operand_breaks step.at (sym a.known i) (sym b.known i)) ∙ back-none (left.breaks ++ right.breaks) own whole in
    let fit = operands-fit step.at a.columns b.columns broken_none in
    record {
      first = a;
      second = b;
      first_whole = left_whole;
      second_whole = right_whole;
      widths = fit.0;
      unite = fit.1;
      columns = λ i. columns_so_far (a.known i) (b.known i);
    }

good-joined : (around : Around) (left right : QueryMeant) (step : SetStepPart) → GoodBodyMeant around left → GoodBodyMeant (may_not_ask around) right
    → GoodBodyMeant around (set_joined left step right)
good-joined around left right step l r = record {
  known = λ whole.
      let p = joined-parts left right step l.known r.known whole in
      record {
        columns = united_columns p.first.columns p.second.columns;
        known = p.columns;
        kinds = λ wanted.
            let at : List Kind = settle_known (columns_so_far left.columns right.columns) wanted in
            kinds-set step.word step.all (left.make at) (right.make at)
            ∙ p.first.kinds at
            ∙ ap (λ (columns : Option (List OutColumn)). settle p.first.columns (settle_known columns wanted)) p.columns
            ∙ settle-united p.first.columns p.second.columns wanted;
      };
  formed = λ whole rows hold wanted.
      let p = joined-parts left right step l.known r.known whole in
      let at : List Kind = settle_known (columns_so_far left.columns right.columns) wanted in
      let is : at ≡ settle (united_columns p.first.columns p.second.columns) wanted =
      ap (λ (columns : Option (List OutColumn)). settle_known columns wanted) p.columns in
      formed-set rows step.word step.all (left.make at) (right.make at) (l.formed p.first_whole rows hold at) (r.formed p.second_whole rows hold at)
      (p.first.kinds at ∙ ap (settle p.first.columns) is ∙ settle-united p.first.columns p.second.columns wanted
      ∙ sym (p.second.kinds at ∙ ap (settle p.second.columns) is ∙ settle-second p.first.columns p.second.columns wanted p.widths p.unite));
}

pub good-chain : (around : Around) (left : QueryMeant) (steps : List SetStepPart) → GoodBodyMeant around left
    → Every (λ (step : SetStepPart). GoodBody step.operand) steps → GoodBodyMeant around (set_chain around left steps)
good-chain around left [] l h = l
good-chain around left (step ∷ steps) l h =
    let right : QueryMeant = step.operand.means (may_not_ask around) in
    good-chain around (set_joined left step right) steps (good-joined around left right step l (h.0 (may_not_ask around))) h.1

-- ---- ORDER BY and LIMIT

pub length-settle : (columns : List OutColumn) (wanted : List Kind) → length (settle columns wanted) ≡ length columns
length-settle [] wanted = refl
length-settle (column ∷ columns) [] = ap suc (length-settle columns [])
length-settle (column ∷ columns) (k ∷ ks) = ap suc (length-settle columns ks)

position-is : (n : ℤ) (width : ℕ) → is_position n width ≡ true → pred (nat_abs n) < width
position-is (pos n) width e =
    let positive = ltb-true 0 n (left-true (nat_lt 0 n) (nat_le n width) e) in
    let within = leb-true n width (right-true (nat_lt 0 n) (nat_le n width) e) in
    before n width positive within where
      before : (n width : ℕ) → 0 < n → n ≤ width → pred n < width
      before zero width p w = absurd (omega (arith, p))
      before (suc n) width p w = omega (arith, w)
position-is (negsuc n) width e = absurd (true≢false (sym e))

key-in : (columns : List OutColumn) (key : OrderKey) (at : ℕ) (descending : Bool) → key_break columns (record { at = at; key = key; descending = descending }) ≡ []
    → key_place columns key < length columns
key-in columns (named_key name) at descending whole =
    position-in (is_named name) columns (unbroken-not (nat_eq (count_by (is_named name) columns) 0) rule.UnknownColumn at
    (front-none (broken_if (nat_eq (count_by (is_named name) columns) 0) rule.UnknownColumn at) (broken_if (nat_lt 1 (count_by (is_named name) columns)) rule.AmbiguousColumn at) whole))
key-in columns (Position n) at descending whole = position-is n (length columns) (unbroken (is_position n (length columns)) rule.UnknownColumn at whole)

keys-in : (columns : List OutColumn) (order : List OrderTree) → flat_map (key_break columns) order ≡ [] → KeysWithin (length columns) (map (key_of columns) order)
keys-in columns [] whole = All-nil _
keys-in columns (tree ∷ order) whole =
    All-cons (λ (key : Key). key.place < length columns) (key_of columns tree) (map (key_of columns) order)
    (key-in columns tree.key tree.at tree.descending (front-none (key_break columns tree) (flat_map (key_break columns) order) whole))
    (keys-in columns order (back-none (key_break columns tree) (flat_map (key_break columns) order) whole))

-- the keys of a body with these columns
keys_of-in : (body : QueryMeant) (order : List OrderTree) (known : HasItsKinds body) → keys_breaks body.columns order ≡ []
    → KeysWithin (length known.columns) (keys_of body.columns order)
keys_of-in body order known whole =
    subst (λ (columns : Option (List OutColumn)). KeysWithin (length known.columns) (keys_of columns order)) (sym known.known)
    (keys-in known.columns order (subst (λ (columns : Option (List OutColumn)). keys_breaks columns order ≡ []) known.known whole))

formed-limited : (rows : List (List Kind)) (limit : Option ℤ) (keys : List Key) (query : Query) → IfThere IsTokenNumber limit → WellFormed rows query
    → KeysWithin (width_of query) keys → WellFormed rows (limited limit keys query)
formed-limited rows None keys query fits f k = f
formed-limited rows (Some n) keys query fits f k =
    by (sym (WellFormed-Limit rows query keys (nat_abs n))) (record { input = f; keys = k; bound = (fits n refl).1 })

-- ---- a query

-- a whole query: also its keys are among its columns
pub record GoodQueryMeant (around : Around) (m : QueryMeant) : Type 0 where
  pub formed : m.breaks ≡ [] → (rows : List (List Kind)) → RowsHold around.outer rows → (wanted : List Kind) → WellFormed rows (m.make wanted)
  pub places : m.breaks ≡ [] → IfSome m.places (PlacesWithin (width_of (m.make [])))
  pub keys : m.breaks ≡ [] → (wanted : List Kind) → KeysWithin (width_of (m.make wanted)) m.keys

keys-wider : (narrow wide : ℕ) (keys : List Key) → narrow ≤ wide → KeysWithin narrow keys → KeysWithin wide keys
keys-wider narrow wide keys le h = λ k d i. let own = h k d i in omega (arith, le, own)

width-made : (body : QueryMeant) (known : HasItsKinds body) (wanted : List Kind) → width_of (body.make wanted) ≡ length known.columns
width-made body known wanted = ap length (known.kinds wanted) ∙ length-settle known.columns wanted

formed-body : (body : QueryMeant) (order : List OrderTree) (limit : Option ℤ) (known : HasItsKinds body) (rows : List (List Kind)) (wanted : List Kind)
    → IfThere IsTokenNumber limit → WellFormed rows (body.make wanted) → keys_breaks body.columns order ≡ []
    → WellFormed rows (limited limit (keys_of body.columns order) (body.make wanted))
formed-body body order limit known rows wanted fits f whole =
    formed-limited rows limit (keys_of body.columns order) (body.make wanted) fits f
    (subst (λ w. KeysWithin w (keys_of body.columns order)) (sym (width-made body known wanted)) (keys_of-in body order known whole))

good-plain : (around : Around) (at : ℕ) (body : QueryMeant) (order : List OrderTree) (limit : Option ℤ) → IfThere IsTokenNumber limit → GoodBodyMeant around body
    → GoodQueryMeant around (plain_query at body order limit)
good-plain around at body order limit fits good =
    let own : List Break = keys_breaks body.columns order in
    let keys : List Key = keys_of body.columns order in
    record {
      formed = λ whole rows hold wanted.
          let first = front-none body.breaks own whole in
          formed-body body order limit (good.known first) rows wanted fits (good.formed first rows hold wanted) (back-none body.breaks own whole);
      places = λ whole. tt;
      keys = λ whole wanted.
          let known = good.known (front-none body.breaks own whole) in
          subst (λ w. KeysWithin w keys) (sym (ap length (kinds-limited limit keys (body.make wanted)) ∙ width-made body known wanted))
          (keys_of-in body order known (back-none body.breaks own whole));
    }

width-with_provenance : (query : Query) → width_of (Prov query) ≡ width_of query + length (place_kinds (shape query))
width-with_provenance query = ap length (kinds_of-Prov query) ∙ length-append (kinds_of query) (place_kinds (shape query))

good-with_provenance : (around : Around) (at : ℕ) (body : QueryMeant) (order : List OrderTree) (limit : Option ℤ) → IfThere IsTokenNumber limit
    → GoodBodyMeant around body
    → GoodQueryMeant around (query_with_provenance at body order limit (limited limit (keys_of body.columns order) (body.make [])))
good-with_provenance around at body order limit fits good =
    let own : List Break = keys_breaks body.columns order in
    let keys : List Key = keys_of body.columns order in
    let query : List Kind → Query = λ w. limited limit keys (body.make w) in
    let width : (body.breaks ≡ []) → (w : List Kind) → width_of (query w) ≡ count_columns body.columns =
    λ first w. ap length (kinds-limited limit keys (body.make w)) ∙ width-made body (good.known first) w
    ∙ ap count_columns (sym (good.known first).known) in
    record {
      formed = λ whole rows hold wanted.
          let first = front-none body.breaks own whole in
          by (sym (WellFormed-Prov rows (query wanted)))
          (formed-body body order limit (good.known first) rows wanted fits (good.formed first rows hold wanted) (back-none body.breaks own whole));
      places = λ whole.
          let all = width-with_provenance (query []) in
          let columns = width (front-none body.breaks own whole) [] in
          range-in (count_columns body.columns) (length (place_kinds (shape (query [])))) (width_of (Prov (query []))) (omega (arith, all, columns));
      keys = λ whole wanted.
          let first = front-none body.breaks own whole in
          let known = good.known first in
          let all = width-with_provenance (query wanted) in
          let columns : width_of (query wanted) ≡ length known.columns =
          ap length (kinds-limited limit keys (body.make wanted)) ∙ width-made body known wanted in
          keys-wider (length known.columns) (width_of (Prov (query wanted))) keys (omega (arith, all, columns))
          (keys_of-in body order known (back-none body.breaks own whole));
    }

pub good-query_seen : (around : Around) (at : ℕ) (body : BodyPart) (order : List OrderTree) (limit : Option ℤ) → IfThere IsTokenNumber limit → GoodBody body
    → GoodQueryMeant around (query_seen around at body order limit)
good-query_seen around at body order limit fits good = chosen (asks_provenance around body) where
  chosen : (b : Bool) → GoodQueryMeant around (cond b
      (query_with_provenance at (body.means around) order limit
      (limited limit (keys_of (body.means around).columns order) ((body.means around).make [])))
      (plain_query at (body.means around) order limit))
  chosen true = moved (good-with_provenance around at (body.means around) order limit fits (good around)) where
    moved : {m : QueryMeant} → GoodQueryMeant around m → GoodQueryMeant around m
    moved g = record { formed = g.formed; places = g.places; keys = g.keys }
  chosen false = good-plain around at (body.means around) order limit fits (good around)
