-- A monotone query in which no fault hides another and no join reads a table on both sides, over some rows of the table and over the others:
-- each of its rows is a row of one of these, and so is each of its faults.
use Rattle.std.proofs.Common.{◌≡◌, inl, inr, ℕ, Bool, true, false, cond, not, ◌==◌, ◌&&◌, ◌||◌, Option, Some, None, is_none, List, [], ◌∷◌, ◌++◌, filter, refl, sym, ap, subst, subst₂}
use mathlib.Core.Bool.{true≢false}
use Rattle.std.proofs.lemmas.Bool.{eqb-true}
use Rattle.perm_values.specs.declared.kind.Kind.{Kind}
use Rattle.bag_algebra.proofs.Members.{IsIn, in-append_left, in-append_right, from-append, in-filter, one_of}
use Rattle.bag_algebra.proofs.NeverBad.{good-query}
use Rattle.bag_algebra.proofs.Outcomes.{nothing-behind}
use Rattle.bag_algebra.proofs.TablesRead.{each_table-kept}
use Rattle.bag_algebra.proofs.Truths.{left-true, right-true}
use Rattle.bag_algebra.specs.Bags.{Row, Bag, once, union_of}
use Rattle.bag_algebra.specs.FaultFree.{faultless, items_faultless, fault_free}
use Rattle.bag_algebra.specs.Meaning.{Database, meaning, condition_on, items_on}
use Rattle.bag_algebra.specs.Means.{kept, met_pairs}
use Rattle.bag_algebra.specs.Means as means
use Rattle.bag_algebra.specs.Outcome.{Faults, union, Outcome, Good, Bad, is_good, and_then, mapped, both, both_then, gather, each}
use Rattle.bag_algebra.specs.Scoped.{no_subs}
use Rattle.bag_algebra.specs.built.Patterns.{BaseOf, FilterOf, ProjectOf, JoinOf, ApplyOf, UnionOf, IntersectOf, ExceptOf, DistinctOf, AggregateOf, LimitOf, ProvOf}
use Rattle.bag_algebra.specs.declared.expr.Expr.{Expr}
use Rattle.bag_algebra.specs.declared.query.JoinKind.TheVariants.{Inner, Left, Right, Full}
use Rattle.bag_algebra.specs.declared.query.Label.{Label}
use Rattle.bag_algebra.specs.declared.query.Query.{Query}
use Rattle.bag_algebra.specs.declared.query.Query.TheVariants.{Table, Single}
use Rattle.contribution.proofs.Agreement.{joined_lists, union-comm, each-gather}
use Rattle.contribution.proofs.BagMembers.{from-once, in-once, from-union}
use Rattle.contribution.proofs.SetMembers.{in-union}
use Rattle.contribution.proofs.SetsOfRows.{Below, below_good, below_worse, below-trans, below-left, below-right, below-joined, below-gather, gather-below, included-refl, included-trans, included-union, included-left, included-right, SetAgree, set_bad, set_agree-refl, set_agree-below, set_agree-of_below}
use Rattle.contribution.proofs.SharedMembers.{Within}
use Rattle.contribution.proofs.TablesRead.{denote-equal_tables}
use Rattle.query_facts.specs.monotone.Monotone.{is_monotone, is_relation, is_whole_table}
use Rattle.query_facts.proofs.Nodes.{whole_table-is}
use Rattle.delete_impact.proofs.Below.{gather-fewer, each-fewer, pairs-fewer, mapped-fewer, unpadded-fewer}
use Rattle.delete_impact.specs.reduced.Hiding.{hides_none}
use Rattle.delete_impact.specs.reduced.Reads.{first_kinds}
use Rattle.delete_impact.specs.reduced.Splitting.{lacks, splits}
use Rattle.delete_impact.proofs.reduced.ReadKinds.{none-unread}
use Rattle.delete_impact.proofs.FewerFaults.{then-below, both-below, calm-first, good-kept, good-items, good-pairs, united, each_once}
use Rattle.delete_impact.proofs.ReducedRows.{none-denoted, pairs, filter-alone, project-alone, join-alone, part_of}

-- ---- outcomes of both

good-joined : (o p : Outcome Bag) → is_good o ≡ true → is_good p ≡ true → is_good (joined_lists o p) ≡ true
good-joined (Good us) (Good vs) e f = refl
good-joined (Good us) (Bad g) e f = f
good-joined (Bad g) p e f = absurd (true≢false (sym e))

-- what is made of each of two gives no less than what is made of both
then-parts : (f : Bag → Outcome Bag) → ((us vs : Bag) → Below (f (us ++ vs)) (joined_lists (f us) (f vs))) → (p q : Outcome Bag) →
    Below (and_then (joined_lists p q) f) (joined_lists (and_then p f) (and_then q f))
then-parts f add (Good us) (Good vs) = add us vs
then-parts f add (Good us) (Bad h) = below-right (f us) (Bad h)
then-parts f add (Bad g) (Good vs) = below-left (Bad g) (f vs)
then-parts f add (Bad g) (Bad h) = below_worse (included-refl (union g h))

left-parts : (f : Bag → Bag → Outcome Bag) → ((us vs ws : Bag) → Below (f (us ++ vs) ws) (joined_lists (f us ws) (f vs ws))) → (p q r : Outcome Bag) →
    Below (both_then (joined_lists p q) r f) (joined_lists (both_then p r f) (both_then q r f))
left-parts f add (Good us) (Good vs) (Good ws) = add us vs ws
left-parts f add (Good us) (Good vs) (Bad k) = below-left (Bad k) (Bad k)
left-parts f add (Good us) (Bad h) (Good ws) = below-right (f us ws) (Bad h)
left-parts f add (Good us) (Bad h) (Bad k) = below-right (Bad k) (Bad (union h k))
left-parts f add (Bad g) (Good vs) (Good ws) = below-left (Bad g) (f vs ws)
left-parts f add (Bad g) (Good vs) (Bad k) = below-left (Bad (union g k)) (Bad k)
left-parts f add (Bad g) (Bad h) (Good ws) = below_worse (included-refl (union g h))
left-parts f add (Bad g) (Bad h) (Bad k) =
    let first = included-left (union g k) (union h k) in
    let second = included-right (union g k) (union h k) in
    below_worse (included-union (included-union (included-trans (included-left g k) first) (included-trans (included-left h k) second)) (included-trans (included-right g k) first))

turned : (f : Bag → Bag → Outcome Bag) (o p : Outcome Bag) → both_then p o (λ us vs. f vs us) ≡ both_then o p f
turned f (Good us) (Good vs) = refl
turned f (Good us) (Bad h) = refl
turned f (Bad g) (Good vs) = refl
turned f (Bad g) (Bad h) = ap Bad (union-comm h g)

right-parts : (f : Bag → Bag → Outcome Bag) → ((us vs ws : Bag) → Below (f ws (us ++ vs)) (joined_lists (f ws us) (f ws vs))) → (p q r : Outcome Bag) →
    Below (both_then r (joined_lists p q) f) (joined_lists (both_then r p f) (both_then r q f))
right-parts f add p q r =
    subst₂ Below (turned f r (joined_lists p q)) (λ i. joined_lists (turned f r p i) (turned f r q i)) (left-parts (λ us vs. f vs us) add p q r)

-- bad in the same way where both are bad so
pub both-bad : (g : Bag → Bag → Bag) (p r : Outcome Bag) (faults : Faults) → Below p (Bad faults) → Below r (Bad faults) → Below (Bad faults) (joined_lists p r) →
    both g p r ≡ Bad faults
both-bad g p r faults under below above = with_faults p r (same (set_agree-of_below (below-joined under below) above)) where
  same : {o : Outcome Bag} → SetAgree o (Bad faults) → o ≡ Bad faults
  same (set_bad f) = refl

  with_faults : (p r : Outcome Bag) → joined_lists p r ≡ Bad faults → both g p r ≡ Bad faults
  with_faults (Good us) (Good vs) e = absurd (cc e)
  with_faults (Good us) (Bad h) e = e
  with_faults (Bad f) (Good vs) e = e
  with_faults (Bad f) (Bad h) e = e

-- ---- nodes, on rows of both

gather-parts : {X Y : Type 0} (f : X → Outcome (List Y)) (us vs : List X) → Below (gather f (us ++ vs)) (joined_lists (gather f us) (gather f vs))
gather-parts f us vs = gather-below f (us ++ vs) (joined_lists (gather f us) (gather f vs)) (λ x h. elim (from-append x us vs h) [
  | inl l ↦ below-trans (below-gather f x us l) (below-left (gather f us) (gather f vs))
  | inr m ↦ below-trans (below-gather f x vs m) (below-right (gather f us) (gather f vs))
])

each-parts : (f : Row → Outcome Row) (us vs : Bag) → Below (each f (us ++ vs)) (joined_lists (each f us) (each f vs))
each-parts f us vs =
    subst₂ Below (each-gather f (us ++ vs)) (λ i. joined_lists (each-gather f us i) (each-gather f vs i)) (gather-parts (λ x. mapped (λ y. y ∷ []) (f x)) us vs)

module _ (test : Expr) where
  met-is : (us vs : Bag) → met_pairs (condition_on test [] means.no_subs) us vs ≡ pairs test us vs
  met-is us vs = nothing-behind (met_pairs (condition_on test [] means.no_subs) us vs)

  pairs-left : (us vs ws : Bag) → Below (pairs test (us ++ vs) ws) (joined_lists (pairs test us ws) (pairs test vs ws))
  pairs-left us vs ws =
      subst₂ Below (met-is (us ++ vs) ws) (λ i. joined_lists (met-is us ws i) (met-is vs ws i))
      (gather-parts (λ u. gather (λ v. kept (condition_on test [] means.no_subs) (u ++ v)) ws) us vs)

  pairs-right : (us vs ws : Bag) → Below (pairs test ws (us ++ vs)) (joined_lists (pairs test ws us) (pairs test ws vs))
  pairs-right us vs ws =
      let beside : Bag → Row → Outcome Bag = λ xs w. gather (λ v. kept (condition_on test [] means.no_subs) (w ++ v)) xs in
      let all = joined_lists (gather (beside us) ws) (gather (beside vs) ws) in
      subst₂ Below (met-is ws (us ++ vs)) (λ i. joined_lists (met-is ws us i) (met-is ws vs i))
      (gather-below (beside (us ++ vs)) ws all (λ w h.
      below-trans (gather-parts (λ v. kept (condition_on test [] means.no_subs) (w ++ v)) us vs)
      (below-joined (below-trans (below-gather (beside us) w ws h) (below-left (gather (beside us) ws) (gather (beside vs) ws)))
      (below-trans (below-gather (beside vs) w ws h) (below-right (gather (beside us) ws) (gather (beside vs) ws))))))

-- a union is as much as both of its sides
module _ (all : Bool) where
  abbrev unite : Outcome Bag → Outcome Bag → Outcome Bag
  unite o p = both_then o p (λ us vs. Good (union_of all us vs))

  united-joined : (o p : Outcome Bag) → Below (unite o p) (joined_lists o p)
  united-joined (Good us) (Good vs) = below_good {vs = us ++ vs} (record {
    within = λ t h. elim (from-union all t us vs h) [ inl l ↦ in-append_left t us vs l | inr m ↦ in-append_right t us vs m ];
  })
  united-joined (Good us) (Bad h) = below_worse (included-refl h)
  united-joined (Bad g) (Good vs) = below_worse (included-refl g)
  united-joined (Bad g) (Bad h) = below_worse (included-refl (union g h))

  joined-united : (o p : Outcome Bag) → Below (joined_lists o p) (unite o p)
  joined-united (Good us) (Good vs) = below_good (record { within = λ t h. in-union all t us vs (from-append t us vs h) })
  joined-united (Good us) (Bad h) = below_worse (included-refl h)
  joined-united (Bad g) (Good vs) = below_worse (included-refl g)
  joined-united (Bad g) (Bad h) = below_worse (included-refl (union g h))

  union-parts : (o n p q r s : Outcome Bag) → Below o (joined_lists p q) → Below n (joined_lists r s) → Below (unite o n) (joined_lists (unite p r) (unite q s))
  union-parts o n p q r s b c =
      let first : Below (joined_lists p r) (joined_lists (unite p r) (unite q s)) = below-trans (joined-united p r) (below-left (unite p r) (unite q s)) in
      let second : Below (joined_lists q s) (joined_lists (unite p r) (unite q s)) = below-trans (joined-united q s) (below-right (unite p r) (unite q s)) in
      below-trans (united-joined o n)
      (below-joined (below-trans b (below-joined (below-trans (below-left p r) first) (below-trans (below-left q s) second)))
      (below-trans c (below-joined (below-trans (below-right p r) first) (below-trans (below-right q s) second))))

once-below : (o : Outcome Bag) → Below (mapped once o) o
once-below (Good us) = below_good (record { within = λ t h. from-once t us h })
once-below (Bad f) = below_worse (included-refl f)

below-once : (o : Outcome Bag) → Below o (mapped once o)
below-once (Good us) = below_good (record { within = λ t h. in-once t us h })
below-once (Bad f) = below_worse (included-refl f)

once-parts : (o p q : Outcome Bag) → Below o (joined_lists p q) → Below (mapped once o) (joined_lists (mapped once p) (mapped once q))
once-parts o p q b =
    below-trans (once-below o) (below-trans b (below-joined (below-trans (below-once p) (below-left (mapped once p) (mapped once q)))
    (below-trans (below-once q) (below-right (mapped once p) (mapped once q)))))

-- ---- queries

lacks-none : (found : Option (List Kind)) → is_none found ≡ true → found ≡ None
lacks-none None e = refl
lacks-none (Some kinds) e = absurd (true≢false (sym e))

module _ (id : ℕ) (passes : Row → Bool) (db : Database) where
  abbrev part : Database
  part = part_of id passes db

  abbrev rest : Database
  rest = part_of id (λ row. not (passes row)) db

  abbrev over_both : Query → Outcome Bag
  over_both q = joined_lists (meaning q part []) (meaning q rest [])

  good-both_parts : (q : Query) → fault_free q ≡ true → is_good (over_both q) ≡ true
  good-both_parts q free = good-joined (meaning q part []) (meaning q rest []) (good-query q free part []) (good-query q free rest [])

  -- ---- the table

  not-passing : (b : Bool) → b ≡ false → not b ≡ true
  not-passing b e = ap not e

  in-some : (us : Bag) (t : Row) → IsIn t us → (b : Bool) → passes t ≡ b → IsIn t (filter passes us ++ filter (λ row. not (passes row)) us)
  in-some us t h true e = in-append_left t (filter passes us) (filter (λ row. not (passes row)) us) (in-filter passes t us h e)
  in-some us t h false e =
      in-append_right t (filter passes us) (filter (λ row. not (passes row)) us) (in-filter (λ row. not (passes row)) t us h (not-passing (passes t) e))

  parts-where : (over : Bool) (us : Bag) → Within us (cond over (filter passes us) us ++ cond over (filter (λ row. not (passes row)) us) us)
  parts-where true us = record { within = λ t h. in-some us t h (passes t) refl }
  parts-where false us = record { within = λ t h. in-append_left t us us h }

  source-parts : (input : Query) (places : List ℕ) (label : Label) → ((other : ℕ) × (kinds : List Kind) × (input ≡ Table other kinds)) →
      Below (meaning (BaseOf input places label) db []) (over_both (BaseOf input places label))
  source-parts input places label table =
      subst (λ source. Below (meaning (BaseOf source places label) db []) (over_both (BaseOf source places label))) (sym table.2)
      (below_good (parts-where (table.0 == id) (db table.0)))

  -- ---- what doesn't read the table

  module _ (some : Row → Bool) where
    same-where : (other : ℕ) (b : Bool) → (other == id) ≡ b → (other ≡ id → ⊥) → db other ≡ cond b (filter some (db other)) (db other)
    same-where other true e apart = absurd (apart (eqb-true other id e))
    same-where other false e apart = refl

    unread-same : (q : Query) → is_monotone q ≡ true → lacks id q ≡ true → meaning q db [] ≡ meaning q (part_of id some db) []
    unread-same q m none =
        let equal = denote-equal_tables q db (part_of id some db) []
        (each_table-kept _ (λ other kinds. db other ≡ part_of id some db other) (λ other kinds apart. same-where other (other == id) refl apart) q
        (none-unread id q m (lacks-none (first_kinds id q) none))) in
        λ i. (equal i).rows

  -- ---- joins

  module _ (left right : Query) (test : Expr) (l : is_monotone left ≡ true) (r : is_monotone right ≡ true)
      (calm : (faultless test || (fault_free left && fault_free right)) ≡ true) where
    abbrev whole : Outcome Bag
    whole = both_then (meaning left db []) (meaning right db []) (pairs test)

    abbrev over : Database → Outcome Bag
    over rows = both_then (meaning left rows []) (meaning right rows []) (pairs test)

    fewer-pairs : (us vs xs ys : Bag) → Within us vs → Within xs ys → Below (pairs test us xs) (pairs test vs ys)
    fewer-pairs us vs xs ys s t = mapped-fewer (λ rows. rows ++ [] ++ []) unpadded-fewer (pairs-fewer (condition_on test [] means.no_subs) us vs xs ys s t)

    calm-pairs : (o p : Outcome Bag) → ((fault_free left && fault_free right) ≡ true → is_good o ≡ true) → ((fault_free left && fault_free right) ≡ true → is_good p ≡ true) →
        (is_good o ≡ true → is_good p ≡ true → ⊥) → (us xs : Bag) → is_good (pairs test us xs) ≡ true
    calm-pairs o p e f bad = good-pairs test (calm-first (faultless test) (fault_free left && fault_free right) calm (λ free. bad (e free) (f free)))

    free-left : (fault_free left && fault_free right) ≡ true → fault_free left ≡ true
    free-left = left-true (fault_free left) (fault_free right)

    free-right : (fault_free left && fault_free right) ≡ true → fault_free right ≡ true
    free-right = right-true (fault_free left) (fault_free right)

    on-left : lacks id right ≡ true → Below (meaning left db []) (over_both left) → Below whole (joined_lists (over part) (over rest))
    on-left none b =
        let same = meaning right db [] in
        subst₂ (λ o p. Below whole (joined_lists (both_then (meaning left part []) o (pairs test)) (both_then (meaning left rest []) p (pairs test))))
        (unread-same passes right r none) (unread-same (λ row. not (passes row)) right r none)
        (below-trans
        (both-below (pairs test) fewer-pairs (meaning left db []) (over_both left) same same
        (calm-pairs (over_both left) same (λ free. good-both_parts left (free-left free)) (λ free. good-query right (free-right free) db []))
        b (set_agree-below (set_agree-refl same)))
        (left-parts (pairs test) (pairs-left test) (meaning left part []) (meaning left rest []) same))

    on-right : lacks id left ≡ true → Below (meaning right db []) (over_both right) → Below whole (joined_lists (over part) (over rest))
    on-right none b =
        let same = meaning left db [] in
        subst₂ (λ o p. Below whole (joined_lists (both_then o (meaning right part []) (pairs test)) (both_then p (meaning right rest []) (pairs test))))
        (unread-same passes left l none) (unread-same (λ row. not (passes row)) left l none)
        (below-trans
        (both-below (pairs test) fewer-pairs same same (meaning right db []) (over_both right)
        (calm-pairs same (over_both right) (λ free. good-query left (free-left free) db []) (λ free. good-both_parts right (free-right free)))
        (set_agree-below (set_agree-refl same)) b)
        (right-parts (pairs test) (pairs-right test) (meaning right part []) (meaning right rest []) same))

    pub join-parts : (lacks id left || lacks id right) ≡ true → Below (meaning left db []) (over_both left) → Below (meaning right db []) (over_both right) →
        Below whole (joined_lists (over part) (over rest))
    join-parts some b c = elim (one_of (lacks id left) (lacks id right) some) [ inl none ↦ on-right none c | inr none ↦ on-left none b ]

  -- ---- by nodes

  -- as the nodes mean it
  by_nodes : (q : Query) (made : Database → Outcome Bag) → ((rows : Database) → meaning q rows [] ≡ made rows) → Below (made db) (joined_lists (made part) (made rest)) →
      Below (meaning q db []) (over_both q)
  by_nodes q made is b = subst₂ Below (sym (is db)) (λ i. joined_lists (sym (is part) i) (sym (is rest) i)) b

  pub parts-above : (q : Query) → is_monotone q ≡ true → hides_none q ≡ true → splits id q ≡ true → Below (meaning q db []) (over_both q)
  parts-above (Table other kinds) m h s = absurd (true≢false (sym m))
  parts-above Single m h s = below_good (record { within = λ t i. in-append_left t ([] ∷ []) ([] ∷ []) i })
  parts-above (BaseOf input places label) m h s =
      source-parts input places label (whole_table-is input places (right-true (is_relation label) (is_whole_table input places) m))
  parts-above (FilterOf input test form subs) m h s =
      let none = left-true (no_subs subs) (is_monotone input) m in
      let calm = left-true (faultless test || fault_free input) (hides_none input) h in
      let on = kept (condition_on test [] means.no_subs) in
      by_nodes (FilterOf input test form subs) (λ rows. and_then (meaning input rows []) (gather on))
      (λ rows. filter-alone rows input test form subs (none-denoted subs rows none))
      (below-trans
      (then-below (gather on) (gather-fewer on) (meaning input db []) (over_both input)
      (λ bad. good-kept test (calm-first (faultless test) (fault_free input) calm (λ free. bad (good-both_parts input free))))
      (parts-above input (right-true (no_subs subs) (is_monotone input) m) (right-true (faultless test || fault_free input) (hides_none input) h) s))
      (then-parts (gather on) (gather-parts on) (meaning input part []) (meaning input rest [])))
  parts-above (ProjectOf input items form subs) m h s =
      let none = left-true (no_subs subs) (is_monotone input) m in
      let calm = left-true (items_faultless items || fault_free input) (hides_none input) h in
      let on = items_on items [] means.no_subs in
      by_nodes (ProjectOf input items form subs) (λ rows. and_then (meaning input rows []) (each on))
      (λ rows. project-alone rows input items form subs (none-denoted subs rows none))
      (below-trans
      (then-below (each on) (each-fewer on) (meaning input db []) (over_both input)
      (λ bad. good-items items (calm-first (items_faultless items) (fault_free input) calm (λ free. bad (good-both_parts input free))))
      (parts-above input (right-true (no_subs subs) (is_monotone input) m) (right-true (items_faultless items || fault_free input) (hides_none input) h) s))
      (then-parts (each on) (each-parts on) (meaning input part []) (meaning input rest [])))
  parts-above (JoinOf Inner left right test form subs) m h s =
      let none = left-true (no_subs subs) (is_monotone left && is_monotone right) m in
      let sides = right-true (no_subs subs) (is_monotone left && is_monotone right) m in
      let l = left-true (is_monotone left) (is_monotone right) sides in
      let r = right-true (is_monotone left) (is_monotone right) sides in
      let calm = left-true (faultless test || (fault_free left && fault_free right)) (hides_none left && hides_none right) h in
      let shown = right-true (faultless test || (fault_free left && fault_free right)) (hides_none left && hides_none right) h in
      let apart = right-true (lacks id left || lacks id right) (splits id left && splits id right) s in
      by_nodes (JoinOf Inner left right test form subs) (λ rows. both_then (meaning left rows []) (meaning right rows []) (pairs test))
      (λ rows. join-alone rows left right test form subs (none-denoted subs rows none))
      (join-parts left right test l r calm (left-true (lacks id left || lacks id right) (splits id left && splits id right) s)
      (parts-above left l (left-true (hides_none left) (hides_none right) shown) (left-true (splits id left) (splits id right) apart))
      (parts-above right r (right-true (hides_none left) (hides_none right) shown) (right-true (splits id left) (splits id right) apart)))
  parts-above (JoinOf Left left right test form subs) m h s = absurd (true≢false (sym m))
  parts-above (JoinOf Right left right test form subs) m h s = absurd (true≢false (sym m))
  parts-above (JoinOf Full left right test form subs) m h s = absurd (true≢false (sym m))
  parts-above (ApplyOf kind left right) m h s = absurd (true≢false (sym m))
  parts-above (UnionOf all left right) m h s =
      by_nodes (UnionOf all left right) (λ rows. unite all (meaning left rows []) (meaning right rows [])) (united all left right)
      (union-parts all (meaning left db []) (meaning right db []) (meaning left part []) (meaning left rest []) (meaning right part []) (meaning right rest [])
      (parts-above left (left-true (is_monotone left) (is_monotone right) m) (left-true (hides_none left) (hides_none right) h) (left-true (splits id left) (splits id right) s))
      (parts-above right (right-true (is_monotone left) (is_monotone right) m) (right-true (hides_none left) (hides_none right) h) (right-true (splits id left) (splits id right) s)))
  parts-above (IntersectOf all left right) m h s = absurd (true≢false (sym m))
  parts-above (ExceptOf all left right) m h s = absurd (true≢false (sym m))
  parts-above (DistinctOf input) m h s =
      by_nodes (DistinctOf input) (λ rows. mapped once (meaning input rows [])) (each_once input)
      (once-parts (meaning input db []) (meaning input part []) (meaning input rest []) (parts-above input m h s))
  parts-above (AggregateOf input groups aggregates) m h s = absurd (true≢false (sym m))
  parts-above (LimitOf input keys count) m h s = absurd (true≢false (sym m))
  parts-above (ProvOf input) m h s = absurd (true≢false (sym m))
