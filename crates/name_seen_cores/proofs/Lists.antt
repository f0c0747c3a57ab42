-- A SELECT list with one more item.
use Rattle.std.specs.Prelude.{◌≡◌, ℕ, suc, ◌+◌, List, [], ◌∷◌, ◌++◌, length, take, drop, Option, Some, None, option_map, Err}
use Rattle.std.proofs.Common.{refl, ap, sym, ◌∙◌, append_assoc, append-nil, arith}
use Rattle.std.proofs.lemmas.List.{length-map}
use Rattle.perm_values.specs.declared.kind.Kind.{Kind}
use Rattle.bag_algebra.specs.declared.query.Sublink.{Sublink}
use Rattle.name_meaning.specs.Items.{SelectMeant, Titled, all_known, items_breaks, made_items, named_from, width_of_item}
use Rattle.name_meaning.specs.Meanings.{Before, OutColumn}
use Rattle.name_meaning.specs.Operands.{behind}
use Rattle.name_meaning.specs.declared.answer.Break.{Break}
use Rattle.name_meaning.specs.laws.Facts.{Facts, both_facts, sub_facts}
use Rattle.name_meaning.proofs.FactsOf.{both_facts-assoc, both_facts-none, sub_facts-append}
use Rattle.name_seen_parts.specs.Seen.{first_or}
use Rattle.name_seen_parts.specs.Columns.{column_of, columns_of}
use Rattle.name_seen_parts.specs.declared.clauses.column.ShownColumn.{ShownColumn}
use Rattle.name_seen_parts.proofs.Firsts.{both-none, first-stays, first-behind}
use Rattle.name_seen_cores.specs.from.Added.{facts_in}
use Rattle.name_seen_cores.specs.declared.from.facts.Facts.{Facts as Gathered}
use Rattle.name_seen_cores.specs.Listed.{ItemWhole, ListWhole}
use Rattle.name_meaning.proofs.KindsOf.{with_known}

-- ---- breaks

breaks-behind : (ms : List SelectMeant) (m : SelectMeant) (more : List SelectMeant) → items_breaks (ms ++ m ∷ more) ≡ items_breaks ms ++ (m.breaks ++ items_breaks more)
breaks-behind [] m more = refl
breaks-behind (first ∷ ms) m more =
    ap (λ (breaks : List Break). first.breaks ++ breaks) (breaks-behind ms m more)
    ∙ sym (append_assoc first.breaks (items_breaks ms) (m.breaks ++ items_breaks more))

-- the first break of an item behind others that break nothing
pub item-breaks : (ms : List SelectMeant) (m : SelectMeant) (more : List SelectMeant) (b : Break) → items_breaks ms ≡ [] → first_or m.breaks (tt {0}) ≡ Err b
    → first_or (items_breaks (ms ++ m ∷ more)) (tt {0}) ≡ Err b
item-breaks ms m more b none broken =
    ap (λ (breaks : List Break). first_or breaks tt) (breaks-behind ms m more)
    ∙ first-behind (items_breaks ms) (m.breaks ++ items_breaks more) tt none
    ∙ first-stays m.breaks (items_breaks more) (tt {0}) (tt {0}) b broken

-- ---- columns

known-more : (first rest later : Option (List Titled)) (titles own : List Titled) → with_known first rest ≡ Some titles
    → ((others : List Titled) → rest ≡ Some others → later ≡ Some (others ++ own)) → with_known first later ≡ Some (titles ++ own)
known-more None rest later titles own known more = absurd (cc known)
known-more (Some first) None later titles own known more = absurd (cc known)
known-more (Some first) (Some others) later titles own known more =
    let same : first ++ others ≡ titles = cc known in
    ap (option_map (λ rest. first ++ rest)) (more others refl)
    ∙ ap Some (sym (append_assoc first others own) ∙ ap (λ (front : List Titled). front ++ own) same)

known-behind : (ms : List SelectMeant) (m : SelectMeant) (titles own : List Titled) → all_known ms ≡ Some titles → m.columns ≡ Some own
    → all_known (ms ++ m ∷ []) ≡ Some (titles ++ own)
known-behind [] m titles own known is =
    let none : [] ≡ titles = cc known in
    ap (λ (columns : Option (List Titled)). with_known columns (Some [])) is
    ∙ ap Some (append-nil own ∙ ap (λ (front : List Titled). front ++ own) none)
known-behind (first ∷ ms) m titles own known is =
    known-more first.columns (all_known ms) (all_known (ms ++ m ∷ [])) titles own known (λ others e. known-behind ms m others own e is)

named-behind : (n : ℕ) (titles own : List Titled) → named_from n (titles ++ own) ≡ named_from n titles ++ named_from (length titles + n) own
named-behind n [] own =
    let none : n ≡ 0 + n = omega arith in
    ap (λ (m : ℕ). named_from m own) none
named-behind n (title ∷ titles) own =
    let next : length titles + suc n ≡ suc (length titles) + n = omega arith in
    ap (λ (columns : List OutColumn). named_from n (title ∷ []) ++ columns) (named-behind (suc n) titles own)
    ∙ ap (λ (m : ℕ). named_from n (title ∷ titles) ++ named_from m own) next

length-named : (n : ℕ) (titles : List Titled) → length (named_from n titles) ≡ length titles
length-named n [] = refl
length-named n (title ∷ titles) = ap suc (length-named (suc n) titles)

shown-behind : (columns wider : List ShownColumn) (titles own : List Titled) → columns_of columns ≡ named_from 1 titles
    → columns_of wider ≡ columns_of columns ++ named_from (suc (length columns)) own → columns_of wider ≡ named_from 1 (titles ++ own)
shown-behind columns wider titles own so_far one =
    let as_many : length columns ≡ length titles = sym (length-map columns column_of) ∙ ap length so_far ∙ length-named 1 titles in
    let next : suc (length columns) ≡ length titles + 1 = omega arith in
    one ∙ (λ i. so_far i ++ named_from (next i) own) ∙ sym (named-behind 1 titles own)

-- ---- facts

abbrev wanted_behind : List SelectMeant → List Kind → List Kind
wanted_behind [] wanted = wanted
wanted_behind (m ∷ ms) wanted = wanted_behind ms (drop (width_of_item m) wanted)

abbrev before_next : SelectMeant → List Kind → Before → Before
before_next m wanted before =
    behind before (m.make (take (width_of_item m) wanted) before).subs (m.make (take (width_of_item m) wanted) before).aggregates

abbrev before_behind : List SelectMeant → List Kind → Before → Before
before_behind [] wanted before = before
before_behind (m ∷ ms) wanted before = before_behind ms (drop (width_of_item m) wanted) (before_next m wanted before)

abbrev own_subs : SelectMeant → List Kind → Before → List Sublink
own_subs m wanted before = (m.make (take (width_of_item m) wanted) before).subs

made-behind : (ms : List SelectMeant) (m : SelectMeant) (wanted : List Kind) (before : Before)
    → (made_items (ms ++ m ∷ []) wanted before).subs
    ≡ (made_items ms wanted before).subs ++ own_subs m (wanted_behind ms wanted) (before_behind ms wanted before)
made-behind [] m wanted before = append-nil (own_subs m wanted before)
made-behind (first ∷ ms) m wanted before =
    ap (λ (subs : List Sublink). own_subs first wanted before ++ subs) (made-behind ms m (drop (width_of_item first) wanted) (before_next first wanted before))
    ∙ sym (append_assoc (own_subs first wanted before) (made_items ms (drop (width_of_item first) wanted) (before_next first wanted before)).subs
    (own_subs m (wanted_behind (first ∷ ms) wanted) (before_behind (first ∷ ms) wanted before)))

adds-behind : (ms : List SelectMeant) (m : SelectMeant) (old middle new : Facts)
    → ((wanted : List Kind) (before : Before) → middle ≡ both_facts old (sub_facts (made_items ms wanted before).subs))
    → ((wanted : List Kind) (before : Before) → new ≡ both_facts middle (sub_facts (m.make wanted before).subs))
    → (wanted : List Kind) (before : Before) → new ≡ both_facts old (sub_facts (made_items (ms ++ m ∷ []) wanted before).subs)
adds-behind ms m old middle new first second wanted before =
    let front : List Sublink = (made_items ms wanted before).subs in
    let own : List Sublink = own_subs m (wanted_behind ms wanted) (before_behind ms wanted before) in
    second (take (width_of_item m) (wanted_behind ms wanted)) (before_behind ms wanted before)
    ∙ ap (λ (facts : Facts). both_facts facts (sub_facts own)) (first wanted before)
    ∙ both_facts-assoc old (sub_facts front) (sub_facts own)
    ∙ ap (both_facts old) (sym (sub_facts-append front own))
    ∙ ap (λ (subs : List Sublink). both_facts old (sub_facts subs)) (sym (made-behind ms m wanted before))

-- ---- all of it

pub nothing-listed : (facts : Gathered) → ListWhole [] facts facts []
nothing-listed facts = record {
  whole = refl;
  titles = [];
  known = refl;
  shown = refl;
  adds = λ wanted before. sym (both_facts-none (facts_in facts));
}

pub list-more : (ms : List SelectMeant) (m : SelectMeant) (old middle new : Gathered) (columns wider : List ShownColumn)
    → ListWhole ms old middle columns → ItemWhole m columns wider middle new → ListWhole (ms ++ m ∷ []) old new wider
list-more ms m old middle new columns wider list item = record {
  whole = breaks-behind ms m [] ∙ both-none (items_breaks ms) (m.breaks ++ []) list.whole (append-nil m.breaks ∙ item.whole);
  titles = list.titles ++ item.titles;
  known = known-behind ms m list.titles item.titles list.known item.known;
  shown = shown-behind columns wider list.titles item.titles list.shown item.shown;
  adds = adds-behind ms m (facts_in old) (facts_in middle) (facts_in new) list.adds item.adds;
}
