-- What the code finds of set operations, and of a query over its body, is what these mean.
use Rattle.std.specs.Prelude.{◌≡◌, ℕ, ℤ, Bool, true, false, List, [], ◌∷◌, ◌++◌, length, map, Option, Some, None, Result, Ok, Err}
use Rattle.std.specs.List.{range_with_len}
use Rattle.std.specs.Option.{option_map_or}
use Rattle.std.proofs.Common.{refl, ap, sym, ◌∙◌}
use Rattle.std.proofs.lemmas.List.{length-map}
use Rattle.bag_algebra.specs.Kinds.{kinds_of, place_kinds, shape}
use Rattle.bag_algebra.specs.PlaceNames.{place_names}
use Rattle.bag_algebra.specs.declared.place.Place.{Place}
use Rattle.bag_algebra.specs.declared.query.Query.{Query}
use Rattle.perm_values.specs.declared.key.Key.{Key}
use Rattle.perm_values.specs.declared.kind.Kind.{Kind}
use Rattle.sql_tree.specs.declared.query.OrderTree.{OrderTree}
use Rattle.sql_tree.specs.declared.query.SetWord.TheVariants as word
use Rattle.name_meaning.specs.Cores.{settle, settle_known}
use Rattle.name_meaning.specs.Froms.{named_columns}
use Rattle.name_meaning.specs.Meanings.{Around, OutColumn, QueryMeant}
use Rattle.name_meaning.specs.Queries.{SetStepPart, columns_so_far, keys_breaks, keys_of, limited, operand_break, operand_breaks, out_column, plain_query, columns_with_provenance, set_chain, set_joined, united_columns, may_not_ask}
use Rattle.name_meaning.specs.declared.answer.Break.{Break}
use Rattle.name_meaning.specs.laws.Facts.{Facts, both_facts, facts_of, no_facts}
use Rattle.name_meaning.specs.laws.Known.{HasItsKinds}
use Rattle.name_meaning.proofs.FactsOf.{both_facts-assoc, facts-Prov, facts-set, facts-limited}
use Rattle.name_seen_parts.specs.Seen.{first_or}
use Rattle.name_seen_parts.specs.declared.refusal.Refusal.{Refusal}
use Rattle.name_seen_parts.specs.declared.refusal.Refusal.TheVariants.{Break as Broken, NoMemory}
use Rattle.name_seen_parts.specs.Columns.{column_of, columns_of}
use Rattle.name_seen_parts.specs.declared.clauses.column.ShownColumn.{ShownColumn}
use Rattle.name_seen_parts.proofs.Firsts.{all-none, both-none, first-behind, first-behind_two, first-stays_first, first-stays_second, none-broken}
use Rattle.name_seen_cores.specs.from.Added.{facts_in}
use Rattle.name_seen_cores.specs.from.Queried.{ColumnsSeen, ColumnsWhole, QueryWhole}
use Rattle.name_seen_cores.specs.declared.from.facts.Facts.{Facts as Gathered}
use Rattle.name_seen_cores.specs.declared.from.shown.QueryShown.{QueryShown}
use Rattle.name_seen_cores.specs.Behind.{OperandUnited, PlacesBehind, query_behind}
use Rattle.name_meaning.proofs.KindsOf.{columns-joined, known-with_provenance}

-- ---- set operations

operands-are : (at : ℕ) (l r : Option (List OutColumn)) (left right : List OutColumn) → l ≡ Some left → r ≡ Some right
    → operand_breaks at l r ≡ operand_break at left right
operands-are at l r left right e f = λ i. operand_breaks at (e i) (f i)

joined-whole : (before : QueryMeant) (step : SetStepPart) (operand : QueryMeant) (old middle new : Gathered) (left right columns : List ShownColumn)
    → ColumnsWhole before old middle left → ColumnsWhole operand middle new right → operand_break step.at (columns_of left) (columns_of right) ≡ []
    → columns_of columns ≡ united_columns (columns_of left) (columns_of right) → ColumnsWhole (set_joined before step operand) old new columns
joined-whole before step operand old middle new left right columns first second fits united =
    let kinds : List Kind → List Kind = settle_known (columns_so_far before.columns operand.columns) in
    record {
      whole = all-none before.breaks operand.breaks (operand_breaks step.at before.columns operand.columns) first.whole second.whole
          (operands-are step.at before.columns operand.columns (columns_of left) (columns_of right) first.known second.known ∙ fits);
      known = columns-joined before.columns operand.columns (columns_of left) (columns_of right) first.known second.known ∙ ap Some (sym united);
      adds = λ wanted.
          second.adds (kinds wanted)
          ∙ ap (λ (facts : Facts). both_facts facts (facts_of (operand.make (kinds wanted)))) (first.adds (kinds wanted))
          ∙ both_facts-assoc (facts_in old) (facts_of (before.make (kinds wanted))) (facts_of (operand.make (kinds wanted)))
          ∙ ap (both_facts (facts_in old)) (sym (facts-set step.word step.all (before.make (kinds wanted)) (operand.make (kinds wanted))));
    }

-- an operand that was answered
pub joined-seen : (before : QueryMeant) (step : SetStepPart) (operand : QueryMeant) (at : ℕ) (old middle new : Gathered) (left right : List ShownColumn)
    (result : Result (List ShownColumn) Refusal) → step.at ≡ at → ColumnsWhole before old middle left → ColumnsWhole operand middle new right
    → OperandUnited at left right result → ColumnsSeen (set_joined before step operand) old new result
joined-seen before step operand at old middle new left right (Ok columns) is first second joined =
    joined-whole before step operand old middle new left right columns first second
    (ap (λ (n : ℕ). operand_break n (columns_of left) (columns_of right)) is ∙ joined.0) joined.1
joined-seen before step operand at old middle new left right (Err (Broken b)) is first second broken =
    first-behind_two before.breaks operand.breaks (operand_breaks step.at before.columns operand.columns) tt first.whole second.whole
    ∙ ap (λ (breaks : List Break). first_or breaks tt)
    (operands-are step.at before.columns operand.columns (columns_of left) (columns_of right) first.known second.known
    ∙ ap (λ (n : ℕ). operand_break n (columns_of left) (columns_of right)) is)
    ∙ broken
joined-seen before step operand at old middle new left right (Err NoMemory) is first second joined = absurd joined

-- an operand that was refused
pub joined-refused : (before : QueryMeant) (step : SetStepPart) (operand : QueryMeant) (old middle new : Gathered) (left : List ShownColumn) (refusal : Refusal)
    → ColumnsWhole before old middle left → ColumnsSeen operand middle new (Err refusal) → ColumnsSeen (set_joined before step operand) old new (Err refusal)
joined-refused before step operand old middle new left (Broken b) first broken =
    first-stays_second before.breaks operand.breaks (operand_breaks step.at before.columns operand.columns) (tt {0}) (tt {0}) b first.whole broken
joined-refused before step operand old middle new left NoMemory first broken = tt

-- what was refused stays so behind more operands
pub chain-refused : (before : QueryMeant) (step : SetStepPart) (operand : QueryMeant) (old middle new : Gathered) (refusal : Refusal)
    → ColumnsSeen before old middle (Err refusal) → ColumnsSeen (set_joined before step operand) old new (Err refusal)
chain-refused before step operand old middle new (Broken b) broken =
    first-stays_first before.breaks operand.breaks (operand_breaks step.at before.columns operand.columns) (tt {0}) (tt {0}) b broken
chain-refused before step operand old middle new NoMemory broken = tt

pub chain-behind : (around : Around) (left : QueryMeant) (steps : List SetStepPart) (step : SetStepPart)
    → set_chain around left (steps ++ step ∷ []) ≡ set_joined (set_chain around left steps) step (step.operand.means (may_not_ask around))
chain-behind around left [] step = refl
chain-behind around left (first ∷ steps) step = chain-behind around (set_joined left first (first.operand.means (may_not_ask around))) steps step

-- a query in parentheses
pub shown-whole : (m : QueryMeant) (shown : QueryShown) (old new : Gathered) → QueryWhole m shown
    → facts_in new ≡ both_facts (facts_in old) (facts_in shown.facts) → ColumnsWhole m old new shown.columns
shown-whole m shown old new query added = record {
  whole = query.whole;
  known = query.known;
  adds = λ wanted. added ∙ ap (both_facts (facts_in old)) (query.facts wanted);
}

-- ---- ORDER BY and LIMIT

-- the facts of a body, where none stand before them
body-facts : (body : QueryMeant) (none facts : Gathered) (columns : List ShownColumn) (limit : Option ℤ) (keys : List Key) (wanted : List Kind) → facts_in none ≡ no_facts
    → ColumnsWhole body none facts columns → facts_in facts ≡ facts_of (limited limit keys (body.make wanted))
body-facts body none facts columns limit keys wanted empty is =
    is.adds wanted ∙ ap (λ (before : Facts). both_facts before (facts_of (body.make wanted))) empty ∙ sym (facts-limited limit keys (body.make wanted))

-- a query whose columns are known has their kinds
kinds-are : (m : QueryMeant) (columns : List OutColumn) → HasItsKinds m → m.columns ≡ Some columns → (wanted : List Kind) → kinds_of (m.make wanted) ≡ settle columns wanted
kinds-are m columns has known wanted =
    let same : has.columns ≡ columns = cc (has.known, known) in
    has.kinds wanted ∙ ap (λ (cs : List OutColumn). settle cs wanted) same

keys-are : (body : QueryMeant) (columns : List OutColumn) (order : List OrderTree) → body.columns ≡ Some columns
    → keys_breaks body.columns order ≡ keys_breaks (Some columns) order
keys-are body columns order known = ap (λ (cs : Option (List OutColumn)). keys_breaks cs order) known

pub keys-break : (asking : Bool) (at : ℕ) (body : QueryMeant) (order : List OrderTree) (limit : Option ℤ) (none facts : Gathered) (columns : List ShownColumn) (b : Break)
    → ColumnsWhole body none facts columns → first_or (keys_breaks (Some (columns_of columns)) order) (tt {0}) ≡ Err b
    → first_or (query_behind asking at body order limit).breaks (tt {0}) ≡ Err b
keys-break false at body order limit none facts columns b is broken =
    first-behind body.breaks (keys_breaks body.columns order) tt is.whole
    ∙ ap (λ (breaks : List Break). first_or breaks tt) (keys-are body (columns_of columns) order is.known) ∙ broken
keys-break true at body order limit none facts columns b is broken =
    first-behind body.breaks (keys_breaks body.columns order) tt is.whole
    ∙ ap (λ (breaks : List Break). first_or breaks tt) (keys-are body (columns_of columns) order is.known) ∙ broken

plain-whole : (at : ℕ) (body : QueryMeant) (order : List OrderTree) (limit : Option ℤ) (none facts : Gathered) (columns : List ShownColumn)
    → facts_in none ≡ no_facts → ColumnsWhole body none facts columns → keys_breaks (Some (columns_of columns)) order ≡ []
    → ((plain_query at body order limit).breaks ≡ [] → HasItsKinds (plain_query at body order limit))
    → QueryWhole (plain_query at body order limit) (record { columns = columns; places = None; facts = facts })
plain-whole at body order limit none facts columns empty is fine kinds =
    let whole : (plain_query at body order limit).breaks ≡ [] =
    both-none body.breaks (keys_breaks body.columns order) is.whole (keys-are body (columns_of columns) order is.known ∙ fine) in
    record {
      whole = whole;
      known = is.known;
      kinds = kinds-are (plain_query at body order limit) (columns_of columns) (kinds whole) is.known;
      places = refl;
      facts = λ wanted. body-facts body none facts columns limit (keys_of body.columns order) wanted empty is;
    }

-- ---- PROVENANCE

abbrev columns_at : List Place → List OutColumn
columns_at places = map out_column (named_columns (place_names places) (place_kinds places))

with_provenance-whole : (at : ℕ) (body : QueryMeant) (order : List OrderTree) (limit : Option ℤ) (none facts : Gathered) (columns : List ShownColumn) (shown : QueryShown)
    → facts_in none ≡ no_facts → ColumnsWhole body none facts columns → keys_breaks (Some (columns_of columns)) order ≡ []
    → ((query_behind true at body order limit).breaks ≡ [] → HasItsKinds (query_behind true at body order limit))
    → PlacesBehind columns facts shown → QueryWhole (query_behind true at body order limit) shown
with_provenance-whole at body order limit none facts columns shown empty is fine kinds behind =
    let keys : List Key = keys_of body.columns order in
    let query : Query = limited limit keys (body.make []) in
    let whole : (query_behind true at body order limit).breaks ≡ [] =
    both-none body.breaks (keys_breaks body.columns order) is.whole (keys-are body (columns_of columns) order is.known ∙ fine) in
    let places : facts.places ≡ shape query = ap (λ (f : Facts). f.places) (body-facts body none facts columns limit keys [] empty is) in
    let known : columns_with_provenance body query ≡ Some (columns_of shown.columns) =
    known-with_provenance body query (columns_of columns) is.whole is.known
    ∙ ap Some (ap (λ (ps : List Place). columns_of columns ++ columns_at ps) (sym places) ∙ sym behind.shown) in
    let count : option_map_or length body.columns 0 ≡ length columns =
    ap (λ (cs : Option (List OutColumn)). option_map_or length cs 0) is.known ∙ length-map columns column_of in
    record {
      whole = whole;
      known = known;
      kinds = kinds-are (query_behind true at body order limit) (columns_of shown.columns) (kinds whole) known;
      places = (λ i. Some (range_with_len (count i) (length (place_kinds (sym places i))))) ∙ sym behind.places;
      facts = λ wanted. behind.none_traced ∙ sym (facts-Prov (limited limit keys (body.make wanted)));
    }

-- ---- as a query asks for its provenance or not

pub plain-so : (asking : Bool) (at : ℕ) (body : QueryMeant) (order : List OrderTree) (limit : Option ℤ) (none facts : Gathered) (columns : List ShownColumn) → asking ≡ false
    → facts_in none ≡ no_facts → ColumnsWhole body none facts columns → first_or (keys_breaks (Some (columns_of columns)) order) (tt {0}) ≡ Ok (tt {0})
    → ((query_behind asking at body order limit).breaks ≡ [] → HasItsKinds (query_behind asking at body order limit))
    → QueryWhole (query_behind asking at body order limit) (record { columns = columns; places = None; facts = facts })
plain-so true at body order limit none facts columns e empty is fine kinds = absurd (cc e)
plain-so false at body order limit none facts columns e empty is fine kinds =
    plain-whole at body order limit none facts columns empty is (none-broken (keys_breaks (Some (columns_of columns)) order) tt tt fine) kinds

pub with_provenance-so : (asking : Bool) (at : ℕ) (body : QueryMeant) (order : List OrderTree) (limit : Option ℤ) (none facts : Gathered) (columns : List ShownColumn) (shown : QueryShown)
    → asking ≡ true → facts_in none ≡ no_facts → ColumnsWhole body none facts columns → first_or (keys_breaks (Some (columns_of columns)) order) (tt {0}) ≡ Ok (tt {0})
    → ((query_behind asking at body order limit).breaks ≡ [] → HasItsKinds (query_behind asking at body order limit))
    → PlacesBehind columns facts shown → QueryWhole (query_behind asking at body order limit) shown
with_provenance-so true at body order limit none facts columns shown e empty is fine kinds behind =
    with_provenance-whole at body order limit none facts columns shown empty is (none-broken (keys_breaks (Some (columns_of columns)) order) tt tt fine) kinds behind
with_provenance-so false at body order limit none facts columns shown e empty is fine kinds behind = absurd (cc e)
