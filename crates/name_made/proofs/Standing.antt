-- What stands around the clauses of a core and the items of its FROM, made one after the other.
use Rattle.std.specs.Prelude.{◌≡◌, ℕ, suc, ◌+◌, ◌<◌, List, [], ◌∷◌, length, map, take, drop, Bool, true, false, Some, option_map, Result, Ok, Err, OnOk}
use Rattle.std.proofs.Common.{ap, sym, subst, ◌∙◌, arith, get_or}
use Rattle.std.proofs.lemmas.List.{length-map, map-append}
use Rattle.bag_algebra.specs.declared.expr.Item.{Item}
use Rattle.bag_algebra.specs.declared.query.Query.{Query}
use Rattle.bag_algebra.specs.declared.query.Query.TheVariants.{Apply}
use Rattle.sql_tree.specs.Regular.{is_lateral}
use Rattle.name_meaning.proofs.Joins.{joins-behind}
use Rattle.name_meaning.proofs.Lateral.{join-items}
use Rattle.perm_catalog.specs.Contents.{Contents}
use Rattle.perm_values.specs.declared.kind.Kind.{Kind}
use Rattle.perm_values.proofs.Lists.{map-taken}
use Rattle.sql_tree.specs.declared.query.SelectItem.{SelectItem}
use Rattle.sql_tree.specs.declared.source.FromTree.{FromTree, out-FromTree}
use Rattle.sql_tree.specs.declared.source.JoinStep.{JoinStep, out-JoinStep}
use Rattle.name_meaning.specs.Froms.{FromMeant, JoinPart, first_item, in_from, join_all, join_item, join_kind, scope_items, joined_item}
use Rattle.name_meaning.specs.Items.{SelectMeant, SelectPart}
use Rattle.name_meaning.specs.Meanings.{Surroundings}
use Rattle.name_meaning.specs.Scopes.{ScopeItem}
use Rattle.name_meaning.specs.Trees.{from_item_of, from_of, item_of, join_of, part_of}
use Rattle.name_meaning.specs.declared.scope.Scope.{Scope}
use Rattle.name_meaning.specs.nodes.Listed.{MakesItems}
use Rattle.name_meaning.specs.declared.nodes.within.Within.{Within}
use Rattle.name_seen.proofs.FromTrees.{from-means}
use Rattle.name_made_parts.specs.Cored.{items_meant}
use Rattle.name_made_parts.specs.Sources.{JoinsMade, MakesBeside, MakesJoin, MakesOn, MakesSource, join_count, join_on_kept}
use Rattle.name_made_parts.proofs.Coring.{next-listed}
use Rattle.name_made_parts.proofs.Sourcing.{both-count, join-fields, join-made, join-more, lateral-made, one-item}
use Rattle.name_made_parts.specs.declared.asked.cores.MadeCondition.{MadeCondition}

pub of-on : {X E : Type 0} (P Q : Type 0) (result : Result X E) → (P → Q) → OnOk result P → OnOk result Q
of-on P Q (Ok x) f p = f p
of-on P Q (Err e) f p = p

-- ---- the list

pub items-more : (c : Contents) (may_link has_from : Bool) (scope : Scope) (here : Surroundings) (items : List SelectItem) (i : ℕ) (item : SelectItem) (wanted : List Kind) (q r : List Item)
    (old before after : Within) → i < length items → item ≡ get_or items i item
    → MakesItems may_link (items_meant has_from scope here (map (item_of c) (take i items))) wanted [] q old before
    → MakesItems may_link (items_meant has_from scope here (item_of c item ∷ [])) (drop (length q) wanted) q r before after
    → MakesItems may_link (items_meant has_from scope here (map (item_of c) (take (i + 1) items))) wanted [] r old after
items-more c may_link has_from scope here items i item wanted q r old before after within is first second =
    let meant = λ (part : SelectPart). part.means has_from scope here in
    subst (λ (ms : List SelectMeant). MakesItems may_link ms wanted [] r old after)
    (sym (ap (map meant) (map-taken (item_of c) items i item within is) ∙ map-append meant (map (item_of c) (take i items)) (item_of c item ∷ [])))
    (next-listed may_link (items_meant has_from scope here (map (item_of c) (take i items))) (items_meant has_from scope here (item_of c item ∷ [])) wanted q r old before after first second)

-- ---- how many items a `from` has

joins-count : (outer : List Scope) (left : FromMeant) (steps : List JoinPart) (n : ℕ)
    → ((items : List ScopeItem) → left.items ≡ Some items → length items ≡ n)
    → (items : List ScopeItem) → (join_all outer left steps).items ≡ Some items → length items ≡ n + length steps
joins-count outer left [] n counts items known = let same = counts items known in omega (arith, same)
joins-count outer left (step ∷ steps) n counts items known =
    let m = joined_item outer left step in
    let all = joins-count outer (join_item outer left step m) steps (n + 1)
    (λ own is. both-count left.items (scope_items m) n 1 counts (one-item m) own (sym (join-items outer left step m) ∙ is)) items known in
    omega (arith, all)

pub from-count : (c : Contents) (tree : FromTree) (outer : List Scope) (earlier : List (List ℕ)) (items : List ScopeItem)
    → ((from_of c tree).means outer earlier).items ≡ Some items → length items ≡ suc (join_count tree)
from-count c tree outer earlier items known =
    let first = first_item earlier ((from_item_of c (out-FromTree tree).first).means (in_from outer) earlier) in
    let steps = map (join_of c) (out-FromTree tree).joins in
    let all = joins-count outer first steps 1 (one-item ((from_item_of c (out-FromTree tree).first).means (in_from outer) earlier)) items
    (ap (λ (m : FromMeant). m.items) (sym (from-means c tree outer earlier)) ∙ known) in
    let size = length-map (out-FromTree tree).joins (join_of c) in
    omega (arith, all, size)

-- ---- joins

pub step-more : (c : Contents) (outer : List Scope) (left : FromMeant) (joins : List JoinStep) (i : ℕ) (step : JoinStep) (first : ℕ) (scope : Scope) (before after : Query)
    → i < length joins → step ≡ get_or joins i step
    → JoinsMade (join_all outer left (map (join_of c) (take i joins))) first scope before i
    → MakesJoin outer (join_of c step) first (i + 1) scope before after
    → JoinsMade (join_all outer left (map (join_of c) (take (i + 1) joins))) first scope after (i + 1)
step-more c outer left joins i step first scope before after within is so_far makes =
    let next : suc i ≡ i + 1 = omega arith in
    subst (λ (n : ℕ). JoinsMade (join_all outer left (map (join_of c) (take (i + 1) joins))) first scope after n) next
    (subst (λ (m : FromMeant). JoinsMade m first scope after (suc i))
    (sym (ap (join_all outer left) (map-taken (join_of c) joins i step within is) ∙ joins-behind outer left (map (join_of c) (take i joins)) (join_of c step)))
    (join-more outer (join_all outer left (map (join_of c) (take i joins))) (join_of c step) first i scope before after so_far makes))

abbrev fields : Contents → JoinStep → JoinPart
fields c tree = record {
  word = (out-JoinStep tree).word;
  item = from_item_of c (out-JoinStep tree).item;
  condition = option_map (part_of c) (out-JoinStep tree).condition;
}

pub tree-join : (c : Contents) (outer : List Scope) (tree : JoinStep) (first before : ℕ) (scope : Scope) (whole right after : Query) (kept : MadeCondition)
    → is_lateral (out-JoinStep tree).word ≡ false
    → MakesOn outer (option_map (part_of c) (out-JoinStep tree).condition) first (suc before) scope kept
    → ((earlier : List (List ℕ)) → MakesSource ((from_item_of c (out-JoinStep tree).item).means (in_from outer) earlier) right)
    → after ≡ join_on_kept (join_kind (out-JoinStep tree).word) whole right kept → MakesJoin outer (join_of c tree) first before scope whole after
tree-join c outer tree first before scope whole right after kept plain on item is =
    subst (λ (step : JoinPart). MakesJoin outer step first before scope whole after) (sym (join-fields c tree))
    (join-made outer (fields c tree) first before scope whole right after kept plain on item is)

pub tree-lateral : (c : Contents) (outer : List Scope) (tree : JoinStep) (first before : ℕ) (scope : Scope) (whole right after : Query)
    → is_lateral (out-JoinStep tree).word ≡ true → MakesBeside outer (from_item_of c (out-JoinStep tree).item) first before scope right
    → after ≡ Apply (join_kind (out-JoinStep tree).word) whole right → MakesJoin outer (join_of c tree) first before scope whole after
tree-lateral c outer tree first before scope whole right after lateral item is =
    subst (λ (step : JoinPart). MakesJoin outer step first before scope whole after) (sym (join-fields c tree))
    (lateral-made outer (fields c tree) first before scope whole right after lateral item is)
