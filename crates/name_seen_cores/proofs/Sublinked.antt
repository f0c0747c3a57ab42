-- Expressions over sublinks, and aggregates.
use Rattle.std.specs.Prelude.{◌≡◌, ℕ, suc, Bool, true, false, not, cond, List, [], ◌∷◌, length, nat_eq, Option, Some, None, Result, Ok, Err}
use Rattle.std.proofs.Common.{refl, ap, sym, subst, ◌∙◌}
use Rattle.perm_catalog.specs.Contents.{Contents}
use Rattle.perm_values.specs.declared.kind.Kind.{Kind}
use Rattle.perm_values.specs.declared.kind.Kind.TheVariants as kind
use Rattle.bag_algebra.specs.declared.query.SubKind.{SubKind}
use Rattle.sql_tree.specs.declared.expression.AggWord.{AggWord}
use Rattle.sql_tree.specs.declared.query.QueryTree.{QueryTree}
use Rattle.name_meaning.specs.Meanings.{Meant, OutColumn, Part, QueryMeant, QueryPart, Surroundings, broken, broken_if, is_whole, means_at, query_means_at, unites, seen_kind, settled}
use Rattle.name_meaning.specs.Sublinks.{aggregate_kind, aggregate_meant, aggregated, around_of, breaking, exists_meant, first_kind, if_standing, in_argument, in_tested, is_one_column, rows_counted, scalar_meant, takes_kind, tested_break, tested_kind, tested_looked, tested_meant, tested_unlooked}
use Rattle.name_meaning.specs.Trees.{query_of}
use Rattle.name_meaning.specs.declared.answer.Break.{Break}
use Rattle.name_meaning.proofs.Equations.{token, querytree-record}
use Rattle.name_meaning.specs.laws.Facts.{Facts, both_facts, facts_of}
use Rattle.name_meaning.proofs.FactsOf.{both_facts-none}
use Rattle.name_seen_parts.specs.Seen.{IsSeenAs, first_or, seen}
use Rattle.name_seen_parts.specs.declared.refusal.Refusal.{Refusal}
use Rattle.name_seen_parts.specs.declared.refusal.Refusal.TheVariants.{Break as Broken, NoMemory}
use Rattle.name_seen_parts.proofs.SeenAs.{seen-as}
use Rattle.name_seen_cores.specs.from.Added.{facts_in}
use Rattle.name_seen_parts.specs.Told.{Tells}
use Rattle.name_seen_cores.specs.Expressed.{ExpressionSeen}
use Rattle.name_seen_cores.specs.Inner.{InnerIs, InnerLooked, InnerSeen, exists_over, scalar_over, tested_by, tested_over, kind_of_first}
use Rattle.name_seen_parts.specs.Columns.{columns_of}
use Rattle.name_seen_cores.specs.from.Queried.{QuerySeen, QueryWhole}
use Rattle.name_seen_cores.specs.declared.from.facts.Facts.{Facts as Gathered}
use Rattle.name_seen_cores.specs.declared.from.shown.QueryShown.{QueryShown}
use Rattle.name_seen_parts.specs.declared.clauses.column.ShownColumn.{ShownColumn}
use Rattle.name_seen_cores.specs.declared.sublinks.InnerColumns.{InnerColumns}
use Rattle.name_seen_cores.proofs.Alone.{alone}
use Rattle.name_seen_cores.proofs.Behind.{answered-seen}
use Rattle.name_seen_parts.proofs.Firsts.{first-stays, first-behind, first-stays_first, first-stays_second, first-behind_two}
use Rattle.name_meaning.specs.declared.rule.Rule.TheVariants as rule

first-so : {X Y : Type 0} (xs : List Break) (v : X) (w : Y) (first : Break) → first_or xs v ≡ Err first → first_or xs w ≡ Err first
first-so [] v w first e = absurd (cc)
first-so (x ∷ xs) v w first e =
    let same : x ≡ first = cc in
    ap Err same

-- ---- over a query

one-sublink : (q : QueryMeant) (old new : Gathered) (inner : InnerColumns) → InnerIs q old new inner → (wanted : List Kind)
    → facts_in new ≡ both_facts (facts_in old) (both_facts (facts_of (q.make wanted)) (record { places = [] }))
one-sublink q old new inner is wanted = is.adds wanted ∙ ap (both_facts (facts_in old)) (sym (both_facts-none (facts_of (q.make wanted))))

pub exists-seen : (here : Surroundings) (at : ℕ) (q : QueryMeant) (old new : Gathered) (r : Result InnerColumns Refusal) → InnerSeen q old new r
    → ExpressionSeen (exists_meant here at q) old new (exists_over r)
exists-seen here at q old new (Ok inner) is = record {
  found = ap (λ (breaks : List Break). first_or breaks (Some kind.Boolean)) is.whole;
  adds = λ wanted before. one-sublink q old new inner is [];
}
exists-seen here at q old new (Err (Broken first)) broken = first-so q.breaks tt (Some kind.Boolean) first broken
exists-seen here at q old new (Err NoMemory) broken = tt

pub scalar-seen : (here : Surroundings) (at : ℕ) (q : QueryMeant) (old new : Gathered) (r : Result InnerColumns Refusal) → InnerSeen q old new r
    → ExpressionSeen (scalar_meant here at q) old new (scalar_over at r)
scalar-seen here at q old new (Ok inner) is =
    answered-seen (scalar_meant here at q) old new (first_or (broken_if (not inner.one) rule.UnfitWidth at) inner.kind)
    (first-behind q.breaks (broken_if (not (is_one_column q.columns)) rule.UnfitWidth at) (first_kind q) is.whole
    ∙ ap (λ (one : Bool). first_or (broken_if (not one) rule.UnfitWidth at) (first_kind q)) is.one
    ∙ ap (λ (k : Option Kind). first_or (broken_if (not inner.one) rule.UnfitWidth at) k) is.kind)
    (λ wanted before. one-sublink q old new inner is (settled (first_kind q) wanted ∷ []))
scalar-seen here at q old new (Err (Broken first)) broken =
    first-stays q.breaks (broken_if (not (is_one_column q.columns)) rule.UnfitWidth at) tt (first_kind q) first broken
scalar-seen here at q old new (Err NoMemory) broken = tt

looked-kind : (sub : SubKind) (tested : Meant) (k : Option Kind) (at : ℕ) (q : QueryMeant) (old new : Gathered) (r : Result InnerColumns Refusal) → IsSeenAs k tested → InnerSeen q old new r
    → ExpressionSeen (tested_looked sub tested at q) old new (tested_by k at r)
looked-kind sub tested k at q old new (Ok inner) seen_as is =
    let whole : tested.breaks ≡ [] = ap (λ (m : Meant). m.breaks) seen_as in
    let same : seen_kind tested ≡ k = ap seen_kind seen_as in
    answered-seen (tested_looked sub tested at q) old new
    (first_or (cond inner.one (broken_if (not (unites k inner.kind)) rule.UnfitKind at) (broken rule.UnfitWidth at ∷ [])) (Some kind.Boolean))
    (first-behind_two tested.breaks q.breaks (tested_break (seen_kind tested) at q) (Some kind.Boolean) whole is.whole
    ∙ ap (λ (one : Bool). first_or (cond one (broken_if (not (unites (seen_kind tested) (first_kind q))) rule.UnfitKind at) (broken rule.UnfitWidth at ∷ [])) (Some kind.Boolean)) is.one
    ∙ ap (λ (k : Option Kind). first_or (cond inner.one (broken_if (not (unites k (first_kind q))) rule.UnfitKind at) (broken rule.UnfitWidth at ∷ [])) (Some kind.Boolean)) same
    ∙ ap (λ (l : Option Kind). first_or (cond inner.one (broken_if (not (unites k l)) rule.UnfitKind at) (broken rule.UnfitWidth at ∷ [])) (Some kind.Boolean)) is.kind)
    (λ wanted before. one-sublink q old new inner is (tested_kind tested q ∷ []))
looked-kind sub tested k at q old new (Err (Broken first)) seen_as broken =
    first-stays_second tested.breaks q.breaks (tested_break (seen_kind tested) at q) tt (Some kind.Boolean) first (ap (λ (m : Meant). m.breaks) seen_as) broken
looked-kind sub tested k at q old new (Err NoMemory) seen_as broken = tt

pub looked-seen : (sub : SubKind) (tested : Meant) (at : ℕ) (q : QueryMeant) (old new : Gathered) (t : Result (Option Kind) Refusal) (r : Result InnerColumns Refusal)
    → Tells (seen tested) t → InnerSeen q old new r → ExpressionSeen (tested_looked sub tested at q) old new (tested_over t at r)
looked-seen sub tested at q old new (Ok k) r told is = looked-kind sub tested k at q old new r (seen-as tested k told) is
looked-seen sub tested at q old new (Err (Broken first)) r told is =
    first-stays_first tested.breaks q.breaks (tested_break (seen_kind tested) at q) tested.kind (Some kind.Boolean) first told
looked-seen sub tested at q old new (Err NoMemory) r told is = tt

pub query-at : (c : Contents) (query : QueryTree) → (query_of c query).at ≡ query.at
unfolding token
query-at c query = ap (λ (part : QueryPart). part.at) (querytree-record c query.at query.body query.order query.limit)

-- ---- the query of a sublink

first-is : (columns : List ShownColumn) → elim (columns_of columns) [ [] ↦ None | c ∷ cs ↦ c.kind ] ≡ kind_of_first columns
first-is [] = refl
first-is (column ∷ columns) = refl

length-shown : (columns : List ShownColumn) → length (columns_of columns) ≡ length columns
length-shown [] = refl
length-shown (column ∷ columns) = ap suc (length-shown columns)

abbrev kind_known : Option (List OutColumn) → Option Kind
kind_known columns = elim columns [ None ↦ None | Some columns ↦ elim columns [ [] ↦ None | c ∷ cs ↦ c.kind ] ]

pub inner-is : (q : QueryMeant) (shown : QueryShown) (old new : Gathered) (inner : InnerColumns) → QueryWhole q shown
    → inner.one ≡ nat_eq (length shown.columns) 1 → inner.kind ≡ kind_of_first shown.columns
    → facts_in new ≡ both_facts (facts_in old) (facts_in shown.facts) → InnerIs q old new inner
inner-is q shown old new inner whole one first added = record {
  whole = whole.whole;
  one = ap is_one_column whole.known ∙ ap (λ (n : ℕ). nat_eq n 1) (length-shown shown.columns) ∙ sym one;
  kind = ap (λ (breaks : List Break). cond (is_whole breaks) (kind_known q.columns) None) whole.whole ∙ ap kind_known whole.known
      ∙ first-is shown.columns ∙ sym first;
  adds = λ wanted. added ∙ ap (λ (facts : Facts). both_facts (facts_in old) facts) (whole.facts wanted);
}

pub inner-refused : (q : QueryMeant) (old new : Gathered) (refusal : Refusal) → QuerySeen q (Err refusal) → InnerSeen q old new (Err refusal)
inner-refused q old new (Broken first) broken = broken
inner-refused q old new NoMemory broken = tt

-- ---- aggregates

pub aggregated-seen : (here : Surroundings) (at : ℕ) (word : AggWord) (argument_at : ℕ) (argument : Meant) (facts : Gathered) (r : Result (Option Kind) Refusal)
    → Tells (seen (aggregated here at word argument_at argument)) r → ExpressionSeen (aggregated here at word argument_at argument) facts facts r
aggregated-seen here at word argument_at argument facts r told = alone (aggregated here at word argument_at argument) facts r told (λ wanted before. refl)

pub rows-seen : (here : Surroundings) (at : ℕ) (word : AggWord) (facts : Gathered) (r : Result (Option Kind) Refusal)
    → Tells (seen (rows_counted here at word)) r → ExpressionSeen (rows_counted here at word) facts facts r
rows-seen here at word facts r told = alone (rows_counted here at word) facts r told (λ wanted before. refl)

pub argument-refused : (here : Surroundings) (at : ℕ) (word : AggWord) (argument_at : ℕ) (argument : Meant) (refusal : Refusal)
    → Tells (seen argument) (Err refusal) → Tells (seen (aggregated here at word argument_at argument)) (Err refusal)
argument-refused here at word argument_at argument (Broken first) told =
    first-stays_first argument.breaks (broken_if (not here.aggregates) rule.MisplacedAggregate at) (broken_if (not (takes_kind word (seen_kind argument))) rule.UnfitKind argument_at)
    argument.kind (Some (aggregate_kind word (seen_kind argument))) first told
argument-refused here at word argument_at argument NoMemory told = tt

-- ---- where sublinks may stand, and where not

pub looked_so : (b : Bool) (q : QueryMeant) (at : ℕ) (old new : Gathered) (r : Result InnerColumns Refusal) → b ≡ true → InnerSeen q old new r → InnerLooked b q at old new r
looked_so b q at old new r e shown = subst (λ (b : Bool). InnerLooked b q at old new r) (sym e) shown

pub looked_not : (b : Bool) (q : QueryMeant) (at : ℕ) (old new : Gathered) (r : Result InnerColumns Refusal) → b ≡ false → r ≡ Err (Broken (broken rule.MisplacedSublink at))
    → InnerLooked b q at old new r
looked_not b q at old new r e broken = subst (λ (b : Bool). InnerLooked b q at old new r) (sym e) broken

pub result-so : (m : Meant) (old new : Gathered) (r s : Result (Option Kind) Refusal) → s ≡ r → ExpressionSeen m old new r → ExpressionSeen m old new s
result-so m old new r s e shown = subst (λ (r : Result (Option Kind) Refusal). ExpressionSeen m old new r) (sym e) shown

exists-by : (allowed : Bool) (here : Surroundings) (at query_at : ℕ) (q : QueryMeant) (old new : Gathered) (r : Result InnerColumns Refusal)
    → InnerLooked allowed q at old new r → ExpressionSeen (cond allowed (exists_meant here query_at q) (breaking rule.MisplacedSublink at (Some kind.Boolean))) old new (exists_over r)
exists-by true here at query_at q old new r looked = exists-seen here query_at q old new r looked
exists-by false here at query_at q old new r refused =
    result-so (breaking rule.MisplacedSublink at (Some kind.Boolean)) old new (exists_over (Err (Broken (broken rule.MisplacedSublink at)))) (exists_over r) (ap exists_over refused) refl

pub exists-looked : (here : Surroundings) (at : ℕ) (query : QueryPart) (old new : Gathered) (r : Result InnerColumns Refusal)
    → InnerLooked here.sublinks (query_means_at query (around_of here)) at old new r
    → ExpressionSeen (if_standing here at (Some kind.Boolean) (exists_meant here query.at (query.means (around_of here)))) old new (exists_over r)
unfolding query_means_at
exists-looked here at query old new r looked = exists-by here.sublinks here at query.at (query.means (around_of here)) old new r looked

scalar-by : (allowed : Bool) (here : Surroundings) (at query_at : ℕ) (q : QueryMeant) (old new : Gathered) (r : Result InnerColumns Refusal)
    → InnerLooked allowed q at old new r → ExpressionSeen (cond allowed (scalar_meant here query_at q) (breaking rule.MisplacedSublink at None)) old new (scalar_over query_at r)
scalar-by true here at query_at q old new r looked = scalar-seen here query_at q old new r looked
scalar-by false here at query_at q old new r refused =
    result-so (breaking rule.MisplacedSublink at None) old new (scalar_over query_at (Err (Broken (broken rule.MisplacedSublink at)))) (scalar_over query_at r) (ap (scalar_over query_at) refused) refl

pub scalar-looked : (here : Surroundings) (at : ℕ) (query : QueryPart) (old new : Gathered) (r : Result InnerColumns Refusal)
    → InnerLooked here.sublinks (query_means_at query (around_of here)) at old new r
    → ExpressionSeen (if_standing here at None (scalar_meant here query.at (query.means (around_of here)))) old new (scalar_over query.at r)
unfolding query_means_at
scalar-looked here at query old new r looked = scalar-by here.sublinks here at query.at (query.means (around_of here)) old new r looked

unlooked-seen : (tested : Meant) (at query_at : ℕ) (old new : Gathered) (t : Result (Option Kind) Refusal) → Tells (seen tested) t
    → ExpressionSeen (tested_unlooked at tested) old new (tested_over t query_at (Err (Broken (broken rule.MisplacedSublink at))))
unlooked-seen tested at query_at old new (Ok k) told =
    first-behind tested.breaks (broken rule.MisplacedSublink at ∷ []) (Some kind.Boolean) (ap (λ (m : Meant). m.breaks) (seen-as tested k told))
unlooked-seen tested at query_at old new (Err (Broken first)) told = first-stays tested.breaks (broken rule.MisplacedSublink at ∷ []) tested.kind (Some kind.Boolean) first told
unlooked-seen tested at query_at old new (Err NoMemory) told = tt

tested-by-case : (allowed : Bool) (sub : SubKind) (tested : Meant) (at query_at : ℕ) (q : QueryMeant) (old new : Gathered) (t : Result (Option Kind) Refusal)
    (r : Result InnerColumns Refusal) → Tells (seen tested) t → InnerLooked allowed q at old new r
    → ExpressionSeen (cond allowed (tested_looked sub tested query_at q) (tested_unlooked at tested)) old new (tested_over t query_at r)
tested-by-case true sub tested at query_at q old new t r told looked = looked-seen sub tested query_at q old new t r told looked
tested-by-case false sub tested at query_at q old new t r told refused =
    result-so (tested_unlooked at tested) old new (tested_over t query_at (Err (Broken (broken rule.MisplacedSublink at)))) (tested_over t query_at r)
    (ap (tested_over t query_at) refused) (unlooked-seen tested at query_at old new t told)

pub tested-seen : (here : Surroundings) (at : ℕ) (sub : SubKind) (part : Part) (query : QueryPart) (old new : Gathered) (t : Result (Option Kind) Refusal)
    (r : Result InnerColumns Refusal) → Tells (seen (means_at part (in_tested here))) t → InnerLooked here.sublinks (query_means_at query (around_of here)) at old new r
    → ExpressionSeen (tested_meant here at sub part query) old new (tested_over t query.at r)
unfolding means_at query_means_at
tested-seen here at sub part query old new t r told looked =
    tested-by-case here.sublinks sub (part.means (in_tested here)) at query.at (query.means (around_of here)) old new t r told looked

-- ---- the argument of an aggregate

pub aggregate-seen : (here : Surroundings) (at : ℕ) (word : AggWord) (part : Part) (argument_at : ℕ) (facts : Gathered) (r : Result (Option Kind) Refusal)
    → argument_at ≡ part.at → Tells (seen (aggregated here at word argument_at (means_at part (in_argument here)))) r
    → ExpressionSeen (aggregate_meant here at word (Some part)) facts facts r
unfolding means_at
aggregate-seen here at word part argument_at facts r same told =
    subst (λ (n : ℕ). ExpressionSeen (aggregated here at word n (part.means (in_argument here))) facts facts r) same
    (aggregated-seen here at word argument_at (part.means (in_argument here)) facts r told)
