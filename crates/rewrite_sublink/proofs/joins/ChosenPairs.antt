-- The pairs of all rows on which a condition is true are the inner join on it: with the same rows or faults, and the same lists.
use Rattle.std.proofs.Common.{◌≡◌, ◌↔◌, ℕ, true, List, [], ◌∷◌, ◌++◌, map, Contains, refl, sym, ap, ◌∙◌, subst, append-nil, append_assoc, true≢false}
use Rattle.perm_values.specs.declared.kind.Kind.{Kind}
use Rattle.perm_values.specs.declared.kind.Kind.TheVariants.{Boolean}
use Rattle.perm_values.specs.declared.value.Value.{Value}
use Rattle.perm_values.proofs.Steps.{by}
use Rattle.bag_algebra.proofs.Members.{IsIn}
use Rattle.bag_algebra.proofs.Outcomes.{nothing-behind}
use Rattle.bag_algebra.proofs.TablesRead.{reads_among-itself, reads_among-onward}
use Rattle.bag_algebra.specs.Bags.{Row, Bag}
use Rattle.bag_algebra.specs.built.Forms.{AllSubsForm, EachTable-Filter, EachTable-Join, WellFormed-Filter, WellFormed-Join, subs_kinds}
use Rattle.bag_algebra.specs.built.Openings.{kinds_of-Filter, kinds_of-Join, meaning-Filter, meaning-Join, shape-Filter, shape-Join}
use Rattle.bag_algebra.specs.Children.{subs_denote, subs_shape}
use Rattle.bag_algebra.specs.Fits.{bag_fits}
use Rattle.bag_algebra.specs.Kinds.{kinds_of, place_kinds, shape, width_of}
use Rattle.bag_algebra.specs.Meaning.{Database, meaning, witnesses, condition_on}
use Rattle.bag_algebra.specs.Means.{Witness, good_rows, is_met, joined_rows, kept, met_pairs}
use Rattle.bag_algebra.specs.Outcome.{Outcome, Good, Bad, and_then, both, both_then, gather}
use Rattle.bag_algebra.specs.Rewriting.{IsRewrite}
use Rattle.bag_algebra.specs.TablesRead.{EachTable, ReadsAmong, tables_read}
use Rattle.bag_algebra.specs.WellFormed.{HasKind, WellFormed}
use Rattle.bag_algebra.specs.declared.expr.Expr.{Expr}
use Rattle.bag_algebra.specs.declared.query.JoinKind.TheVariants.{Inner}
use Rattle.bag_algebra.specs.declared.query.Query.{Query}
use Rattle.bag_algebra.specs.declared.query.Query.TheVariants.{Filter, Join}
use Rattle.bag_algebra.specs.declared.query.Sublink.{Sublink}
use Rattle.contribution.proofs.CrossedRows.{all_pairs, always_on, every_pair}
use Rattle.contribution.proofs.GoodRows.{from-and_then, from-gather, from-kept}
use Rattle.contribution.proofs.SetsOfRows.{union-assoc}
use Rattle.contribution.specs.Conjunctions.{always}
use Rattle.query_laws.proofs.AnswerRows.{answer-from, answer-in}
use Rattle.query_laws.proofs.JoinLists.{join-lists}
use Rattle.query_laws.proofs.NodeLists.{filter-lists}
use Rattle.query_laws.specs.ListsOfNodes as law
use Rattle.query_laws.specs.SublinkLists.{EachContributes, InAnswer, no_sublink}
use Rattle.rewrite_core.specs.rewritings.Rewritten.{Rewritten}
use Rattle.rewrite_core.proofs.RuleRows.{beside-from_rewrite, rows-from_beside}
use Rattle.rewrite_core.proofs.Unlinked.{none-contribute}

-- ---- what is gathered, part by part

both-append : {X : Type 0} (o s r : Outcome (List X)) →
    both (λ xs ys. xs ++ ys) (both (λ xs ys. xs ++ ys) o s) r ≡ both (λ xs ys. xs ++ ys) o (both (λ xs ys. xs ++ ys) s r)
both-append (Good x) (Good y) (Good z) = ap Good (append_assoc x y z)
both-append (Good x) (Good y) (Bad h) = refl
both-append (Good x) (Bad g) (Good z) = refl
both-append (Good x) (Bad g) (Bad h) = refl
both-append (Bad f) (Good y) (Good z) = refl
both-append (Bad f) (Good y) (Bad h) = refl
both-append (Bad f) (Bad g) (Good z) = refl
both-append (Bad f) (Bad g) (Bad h) = ap (λ faults. Bad faults) (union-assoc f g h)

nothing-before : {X : Type 0} (o : Outcome (List X)) → o ≡ both (λ xs ys. xs ++ ys) (Good []) o
nothing-before (Good x) = refl
nothing-before (Bad f) = refl

gather-append : (f : Row → Outcome Bag) (us vs : Bag) → gather f (us ++ vs) ≡ both (λ xs ys. xs ++ ys) (gather f us) (gather f vs)
gather-append f [] vs = nothing-before (gather f vs)
gather-append f (u ∷ us) vs =
    ap (both (λ xs ys. xs ++ ys) (f u)) (gather-append f us vs) ∙ sym (both-append (f u) (gather f us) (gather f vs))

module _ (condition : Row → Outcome Value) where
  gather-beside : (u : Row) (vs : Bag) → gather (kept condition) (map (λ v. u ++ v) vs) ≡ gather (λ v. kept condition (u ++ v)) vs
  gather-beside u [] = refl
  gather-beside u (v ∷ vs) = ap (both (λ xs ys. xs ++ ys) (kept condition (u ++ v))) (gather-beside u vs)

  chosen-pairs : (us vs : Bag) → gather (kept condition) (every_pair us vs) ≡ met_pairs condition us vs
  chosen-pairs [] vs = refl
  chosen-pairs (u ∷ us) vs =
      gather-append (kept condition) (map (λ v. u ++ v) vs) (every_pair us vs)
      ∙ (λ i. both (λ xs ys. xs ++ ys) (gather-beside u vs i) (chosen-pairs us vs i))

and_then-both_then : {X Y : Type 0} (o : Outcome X) (s : Outcome Y) (make : X → Y → Outcome Bag) (next : Bag → Outcome Bag) →
    and_then (both_then o s make) next ≡ both_then o s (λ x y. and_then (make x y) next)
and_then-both_then (Good x) (Good y) make next = refl
and_then-both_then (Good x) (Bad g) make next = refl
and_then-both_then (Bad f) (Good y) make next = refl
and_then-both_then (Bad f) (Bad g) make next = refl

-- rows beside lists are beside the same lists
relisted : (lists others : Row → List Witness) (o s : Outcome Bag) → ((t : Row) (w : Witness) → Contains (lists t) w ↔ Contains (others t) w) → Rewritten lists o s →
    Rewritten others o s
relisted lists others (Good us) (Good vs) same b = record {
  covers = λ t h. let s = b.covers t h in record { list = s.list; is_list = (same t s.list).0 s.is_list };
  there = λ t w h c. b.there t w h ((same t w).1 c);
  back = λ x h.
      let r = b.back x h in
      record { origin = r.origin; list = r.list; row = r.row; is_list = (same r.origin r.list).0 r.is_list; whole = r.whole };
}
relisted lists others (Good us) (Bad g) same b = b
relisted lists others (Bad f) (Good vs) same b = b
relisted lists others (Bad f) (Bad g) same b = b

module _ (left right : Query) (condition : Expr) (subs : List Sublink) where
  abbrev pub pairs : Query
  pairs = Join Inner left right always []

  abbrev pub chosen : Query
  chosen = Filter pairs condition subs

  abbrev pub met : Query
  met = Join Inner left right condition subs

  kinds-pairs : kinds_of pairs ≡ kinds_of left ++ kinds_of right
  kinds-pairs = kinds_of-Join Inner left right always []

  kinds-same : kinds_of chosen ≡ kinds_of met
  kinds-same = kinds_of-Filter pairs condition subs ∙ kinds-pairs ∙ sym (kinds_of-Join Inner left right condition subs)

  shape-same : shape chosen ≡ shape met
  shape-same =
      shape-Filter pairs condition subs
      ∙ ap (λ places. places ++ subs_shape subs) (shape-Join Inner left right always [] ∙ append-nil (shape left ++ shape right))
      ∙ sym (shape-Join Inner left right condition subs)

  formed-chosen : (outer : List (List Kind)) → WellFormed outer met → WellFormed outer chosen
  formed-chosen outer formed =
      let form = by (WellFormed-Join outer Inner left right condition subs) formed in
      by (sym (WellFormed-Filter outer pairs condition subs)) (record {
        input = by (sym (WellFormed-Join outer Inner left right always [])) (record {
          left = form.left;
          right = form.right;
          subs = tt;
          condition = record { fitting = refl; gives = refl };
        });
        subs = subst (λ kinds. AllSubsForm (kinds ∷ outer) subs) (sym kinds-pairs) form.subs;
        condition = subst (λ kinds. HasKind (kinds ∷ outer) (subs_kinds subs) condition Boolean) (sym kinds-pairs) form.condition;
      })

  tables-chosen : (P : ℕ → List Kind → Type 0) → EachTable P met → EachTable P chosen
  tables-chosen P h =
      let each = by (EachTable-Join P Inner left right condition subs) h in
      by (sym (EachTable-Filter P pairs condition subs)) (by (sym (EachTable-Join P Inner left right always [])) (each.0, each.1, tt), each.2)

  chosen-among : ReadsAmong chosen met
  chosen-among = tables-chosen (λ id kinds. Contains (tables_read met) (record { id = id; kinds = kinds })) (reads_among-itself met)

  module _ (db : Database) (env : List Row) where
    abbrev on : Row → Outcome Value
    on = condition_on condition env (subs_denote subs db env)

    rows_same : (us vs : Bag) → and_then (joined_rows Inner (always_on env) (width_of left) (width_of right) us vs) (gather (kept on)) ≡
        joined_rows Inner on (width_of left) (width_of right) us vs
    rows_same us vs =
        ap (λ o. and_then o (gather (kept on))) (all_pairs env (width_of left) (width_of right) us vs)
        ∙ chosen-pairs on us vs ∙ nothing-behind (met_pairs on us vs)

    meaning-same : meaning chosen db env ≡ meaning met db env
    meaning-same =
        meaning-Filter db env pairs condition subs
        ∙ ap (λ o. and_then o (gather (kept on))) (meaning-Join db env Inner left right always [])
        ∙ and_then-both_then (meaning left db env) (meaning right db env) (joined_rows Inner (always_on env) (width_of left) (width_of right)) (gather (kept on))
        ∙ (λ i. both_then (meaning left db env) (meaning right db env) (λ us vs. rows_same us vs i))
        ∙ sym (meaning-Join db env Inner left right condition subs)

    same_answer : (t : Row) → InAnswer chosen db env t → InAnswer met db env t
    same_answer t a = record { bag = a.bag; good = sym meaning-same ∙ a.good; row = a.row }

    other_answer : (t : Row) → InAnswer met db env t → InAnswer chosen db env t
    other_answer t a = record { bag = a.bag; good = meaning-same ∙ a.good; row = a.row }

    -- the condition is true on a row of the answer
    is-met : (t : Row) → InAnswer chosen db env t → is_met (on t) ≡ true
    is-met t a =
        let here = subst (λ o. IsIn t (good_rows o)) (meaning-Filter db env pairs condition subs) (answer-in chosen db env t a) in
        let found = from-gather (kept on) t (good_rows (meaning pairs db env)) (from-and_then (meaning pairs db env) (gather (kept on)) t here) in
        let origin = from-kept on found.0 t found.2 in
        subst (λ u. is_met (on u) ≡ true) origin.0 origin.1

    -- each row of the answer is a pair
    is-pair : (t : Row) → InAnswer chosen db env t → InAnswer pairs db env t
    is-pair t a =
        let here = subst (λ o. IsIn t (good_rows o)) (meaning-Filter db env pairs condition subs) (answer-in chosen db env t a) in
        let found = from-gather (kept on) t (good_rows (meaning pairs db env)) (from-and_then (meaning pairs db env) (gather (kept on)) t here) in
        let origin = from-kept on found.0 t found.2 in
        answer-from pairs db env t (subst (λ u. IsIn u (good_rows (meaning pairs db env))) origin.0 found.1)

    module _ (t : Row) (w : Witness) where
      abbrev CrossedList : Witness → Type 0
      CrossedList list = law.JoinList Inner left right always [] db env t list

      abbrev MetList : Type 0
      MetList = law.JoinList Inner left right condition subs db env t w

      into-met : (list contributions : Witness) → is_met (on t) ≡ true → CrossedList list → EachContributes db env t subs contributions → list ++ contributions ≡ w → MetList
      into-met list contributions meets (law.of_pair u v l r none left_there right_there makes always_met is_left is_right no_contribution whole) contribute all =
          let same : l ++ r ≡ list = sym (append-nil (l ++ r)) ∙ ap (λ more. l ++ r ++ more) (none-contribute no_contribution) ∙ whole in
          law.of_pair u v l r contributions left_there right_there makes (subst (λ t. is_met (on t) ≡ true) (sym makes) meets) is_left is_right
          (subst (λ t. EachContributes db env t subs contributions) (sym makes) contribute) (ap (λ list. list ++ contributions) same ∙ all)
      into-met list contributions meets (law.left_alone u l keeps there makes alone is_left whole) contribute all = absurd (true≢false (sym keeps))
      into-met list contributions meets (law.right_alone v r keeps there makes alone is_right whole) contribute all = absurd (true≢false (sym keeps))

      from-met : InAnswer pairs db env t → MetList → law.Followed pairs subs db env t w
      from-met here (law.of_pair u v l r contributions left_there right_there makes meets is_left is_right contribute whole) = record {
        list = l ++ r;
        contributions = contributions;
        is_list =
            (join-lists db env t (l ++ r) Inner left right always []).1
            (here, law.of_pair u v l r [] left_there right_there makes refl is_left is_right no_sublink (append-nil (l ++ r)));
        contribute = subst (λ t. EachContributes db env t subs contributions) makes contribute;
        whole = whole;
      }
      from-met here (law.left_alone u l keeps there makes alone is_left whole) = absurd (true≢false (sym keeps))
      from-met here (law.right_alone v r keeps there makes alone is_right whole) = absurd (true≢false (sym keeps))

      lists-same : Contains (witnesses chosen db env t) w ↔ Contains (witnesses met db env t) w
      lists-same = (
        λ c.
            let listed = (filter-lists db env t w pairs condition subs).0 c in
            let f = listed.1 in
            let crossed = ((join-lists db env t f.list Inner left right always []).0 f.is_list).1 in
            (join-lists db env t w Inner left right condition subs).1
            (same_answer t listed.0, into-met f.list f.contributions (is-met t listed.0) crossed f.contribute f.whole),
        λ c.
            let listed = (join-lists db env t w Inner left right condition subs).0 c in
            let here = other_answer t listed.0 in
            (filter-lists db env t w pairs condition subs).1 (here, from-met (is-pair t here) listed.1),
      )

  pub rewrite-met : (p : Query) → IsRewrite chosen p → IsRewrite met p
  rewrite-met p r = record {
    plain = r.plain;
    kinds = λ outer formed. r.kinds outer (formed-chosen outer formed) ∙ (λ i. kinds-same i ++ place_kinds (shape-same i));
    formed = λ outer formed. r.formed outer (formed-chosen outer formed);
    tables = reads_among-onward p chosen met r.tables chosen-among;
    rows = λ outer db env formed tables fitting.
        rows-from_beside met p db env
        (relisted (witnesses chosen db env) (witnesses met db env) (meaning met db env) (meaning p db env) (λ t w. lists-same db env t w)
        (subst (λ o. Rewritten (witnesses chosen db env) o (meaning p db env)) (meaning-same db env)
        (beside-from_rewrite chosen p db env r outer (formed-chosen outer formed) (tables-chosen (λ id kinds. bag_fits (db id) kinds ≡ true) tables) fitting)));
  }
