-- The witness lists of each node's rows, by membership.
use Rattle.std.proofs.Common.{◌≡◌, ◌≢◌, ◌↔◌, ◌⊎◌, ℕ, inl, inr, Bool, true, false, not, List, [], ◌∷◌, ◌++◌, map, filter, take, length, Contains, refl, sym, ap, ◌∙◌, subst, true≢false}
use Rattle.perm_values.specs.Rows.{same_row, picked}
use Rattle.perm_values.specs.ValueLaws.{row_decides}
use Rattle.perm_values.specs.declared.key.Key.{Key}
use Rattle.perm_values.specs.declared.kind.Kind.{Kind}
use Rattle.perm_values.specs.declared.value.Value.{Value}
use Rattle.bag_algebra.proofs.Members.{IsIn, in-map, from-map, in-append_left, in-append_right, from-append, in-flat_map, from-flat_map, in-filter, from-filter}
use Rattle.bag_algebra.specs.Bags.{Row, Bag}
use Rattle.bag_algebra.specs.built.Openings.{denote-Table, denote-Single, denote-Base, denote-Filter, denote-Project, denote-Union, denote-Intersect, denote-Except, denote-Distinct, denote-Aggregate, denote-Limit, denote-Prov}
use Rattle.bag_algebra.specs.Children.{subs_denote}
use Rattle.bag_algebra.specs.Kinds.{shape}
use Rattle.bag_algebra.specs.Meaning.{Database, denote, meaning, witnesses, condition_on, items_on}
use Rattle.bag_algebra.specs.Means.{Witness, Held, paired, beside, good_rows, all_empty, kept, gives, is_met, differing_lists, class_of, class_lists}
use Rattle.bag_algebra.specs.Outcome.{Outcome, Good, Bad, and_then, gather}
use Rattle.bag_algebra.specs.declared.expr.Expr.{Expr}
use Rattle.bag_algebra.specs.declared.expr.Item.{Item}
use Rattle.bag_algebra.specs.declared.query.Aggr.{Aggr}
use Rattle.bag_algebra.specs.declared.query.Label.{Label}
use Rattle.bag_algebra.specs.declared.query.Query.{Query}
use Rattle.bag_algebra.specs.declared.query.Query.TheVariants.{Table, Single, Base, Filter, Project, Union, Intersect, Except, Distinct, Aggregate, Limit, Prov}
use Rattle.bag_algebra.specs.declared.query.Sublink.{Sublink}
use Rattle.contribution.proofs.GoodRows.{from-and_then, from-gather, from-kept}
use Rattle.contribution.proofs.ListedRows.{none-in}
use Rattle.bag_algebra.proofs.MembersByIndex.{in-from_contains, contains-from_in}
use Rattle.bag_algebra.proofs.Outcomes.{first-of_good}
use Rattle.contribution.proofs.NoRowLost.{gives-good}
use Rattle.query_laws.proofs.AnswerRows.{answer-from, answer-in, listed-where}
use Rattle.query_laws.proofs.Contributed.{AllGood, all_good, followed-from, in-followed}
use Rattle.query_laws.proofs.PairedLists.{in-paired, from-paired, from-some_or_blank, in-some, in-blank}
use Rattle.query_laws.specs.ListsOfNodes.{Followed, ProjectList, UnionList, from_left, from_right, IntersectList, ExceptList, of_other, of_no_other, AggregateList, of_class, of_no_row}
use Rattle.query_laws.specs.SublinkLists.{InAnswer}

-- ---- where something good was made, what it was made of is good

good-where_met : (o : Outcome Value) → is_met o ≡ true → (v : Value) × (o ≡ Good v)
good-where_met (Good v) e = (v, refl)
good-where_met (Bad faults) e = absurd (true≢false (sym e))

good-where_row : {X : Type 0} (o : Outcome X) (next : X → Outcome Bag) (t : Row) → IsIn t (good_rows (and_then o next)) → (x : X) × (o ≡ Good x)
good-where_row (Good x) next t h = (x, refl)
good-where_row (Bad faults) next t h = absurd h

module _ (db : Database) (env : List Row) (subs : List Sublink) (u : Row) where
  -- the sublinks of a node whose condition is true on the row, or whose items make one of it, are good on it
  pub good-met : (condition : Expr) → is_met (condition_on condition env (subs_denote subs db env) u) ≡ true → AllGood db env u subs
  good-met condition met =
      let s = subs_denote subs db env in
      let value = good-where_met (condition_on condition env s u) met in
      let answers = first-of_good (s.answers u) _ value.0 value.1 in
      all_good db env u subs answers.0 answers.1

  good-made : (items : List Item) (t : Row) → items_on items env (subs_denote subs db env) u ≡ Good t → AllGood db env u subs
  good-made items t made =
      let answers = first-of_good ((subs_denote subs db env).answers u) _ t made in
      all_good db env u subs answers.0 answers.1

module _ (db : Database) (env : List Row) (t : Row) (w : Witness) where
  -- ---- sources

  abbrev pub Listed : Query → Type 0
  Listed q = Contains (witnesses q db env t) w

  abbrev pub Answered : Query → Type 0
  Answered q = InAnswer q db env t

  one_list : (x : Witness) → IsIn w (x ∷ []) → x ≡ w
  one_list x (inl e) = e
  one_list x (inr h) = absurd h

  pub table-lists : (id : ℕ) (kinds : List Kind) → Listed (Table id kinds) ↔ (Answered (Table id kinds) × ([] ≡ w))
  table-lists id kinds =
      listed-where (Table id kinds) db env (Good (db id)) (λ t. [] ∷ []) (denote-Table db env id kinds) t w (λ here h. one_list [] h) (λ e. inl e)

  pub single-lists : Listed Single ↔ (Answered Single × ([] ≡ w))
  single-lists = listed-where Single db env (Good ([] ∷ [])) (λ t. [] ∷ []) (denote-Single db env) t w (λ here h. one_list [] h) (λ e. inl e)

  pub base-lists : (input : Query) (places : List ℕ) (label : Label) →
      Listed (Base input places label) ↔ (Answered (Base input places label) × (Held (picked places t) ∷ [] ≡ w))
  base-lists input places label =
      listed-where (Base input places label) db env _ _ (denote-Base db env input places label) t w (λ here h. one_list (Held (picked places t) ∷ []) h) inl

  pub provenance-lists : (input : Query) → Listed (Prov input) ↔ (Answered (Prov input) × ([] ≡ w))
  provenance-lists input = listed-where (Prov input) db env _ _ (denote-Prov db env input) t w (λ here h. one_list [] h) inl

  -- ---- Filter and Project

  filter-met : (condition : Row → Outcome Value) (o : Outcome Bag) → IsIn t (good_rows (and_then o (gather (kept condition)))) → is_met (condition t) ≡ true
  filter-met condition o h =
      let from = from-gather (kept condition) t (good_rows o) (from-and_then o (gather (kept condition)) t h) in
      let kept = from-kept condition from.0 t from.2 in
      subst (λ u. is_met (condition u) ≡ true) kept.0 kept.1

  pub filter-lists : (input : Query) (condition : Expr) (subs : List Sublink) →
      Listed (Filter input condition subs) ↔ (Answered (Filter input condition subs) × Followed input subs db env t w)
  filter-lists input condition subs =
      let on = condition_on condition env (subs_denote subs db env) in
      listed-where (Filter input condition subs) db env _ _ (denote-Filter db env input condition subs) t w
      (λ here h. followed-from db env t input subs w (good-met db env subs t condition (filter-met on (meaning input db env) here)) h)
      (in-followed db env t input subs w)

  gives-is : (o : Outcome Row) → gives t o ≡ true → o ≡ Good t
  gives-is (Good row) e = ap Good ((row_decides row t).0 e)
  gives-is (Bad faults) e = absurd (true≢false (sym e))

  pub project-lists : (input : Query) (items : List Item) (subs : List Sublink) →
      Listed (Project input items subs) ↔ (Answered (Project input items subs) × ProjectList input items subs db env t w)
  project-lists input items subs =
      let on = items_on items env (subs_denote subs db env) in
      let rows = good_rows (meaning input db env) in
      let of : Row → List Witness = λ u. beside (witnesses input db env u) ((subs_denote subs db env).contributions u) in
      listed-where (Project input items subs) db env _ _ (denote-Project db env input items subs) t w
      (λ here h.
      let from = from-flat_map of w (filter (λ u. gives t (on u)) rows) h in
      let origin = from-filter (λ u. gives t (on u)) from.0 rows from.1 in
      let made = gives-is (on from.0) origin.1 in
      record {
        origin = from.0;
        there = answer-from input db env from.0 origin.0;
        makes = made;
        followed = followed-from db env from.0 input subs w (good-made db env subs from.0 items t made) from.2;
      })
      (λ p. in-flat_map of w p.origin (filter (λ u. gives t (on u)) rows)
      (in-filter (λ u. gives t (on u)) p.origin rows (answer-in input db env p.origin p.there) (gives-good t (on p.origin) p.makes))
      (in-followed db env p.origin input subs w p.followed))

  -- ---- set operations

  module _ (left right : Query) where
    pub union-lists : (all : Bool) → Listed (Union all left right) ↔ (Answered (Union all left right) × UnionList left right db env t w)
    union-lists all =
        let ls = witnesses left db env t in
        let rs = witnesses right db env t in
        let to_left : Witness → Witness = λ l. l ++ all_empty (shape right) in
        let to_right : Witness → Witness = λ r. all_empty (shape left) ++ r in
        listed-where (Union all left right) db env _ _ (denote-Union db env all left right) t w
        (λ here h. elim (from-append w (map to_left ls) (map to_right rs) h) [
          | inl l ↦ let found = from-map to_left w ls l in from_left found.0 (contains-from_in found.0 ls found.1) found.2
          | inr r ↦ let found = from-map to_right w rs r in from_right found.0 (contains-from_in found.0 rs found.1) found.2
        ])
        (λ p. elim p [
          | from_left l h e ↦ in-append_left w (map to_left ls) (map to_right rs) (subst (λ x. IsIn x (map to_left ls)) e (in-map to_left l ls (in-from_contains l ls h)))
          | from_right r h e ↦ in-append_right w (map to_left ls) (map to_right rs) (subst (λ x. IsIn x (map to_right rs)) e (in-map to_right r rs (in-from_contains r rs h)))
        ])

    pub intersect-lists : (all : Bool) → Listed (Intersect all left right) ↔ (Answered (Intersect all left right) × IntersectList left right db env t w)
    intersect-lists all =
        let ls = witnesses left db env t in
        let rs = witnesses right db env t in
        listed-where (Intersect all left right) db env _ _ (denote-Intersect db env all left right) t w
        (λ here h.
        let found = from-paired w ls rs h in
        record { l = found.0; r = found.1; is_left = contains-from_in found.0 ls found.2; is_right = contains-from_in found.1 rs found.3; whole = found.4 })
        (λ p. subst (λ x. IsIn x (paired ls rs)) p.whole (in-paired p.l p.r ls rs (in-from_contains p.l ls p.is_left) (in-from_contains p.r rs p.is_right)))

    -- the right rows that aren't t
    others : Bag
    others = filter (λ v. not (same_row v t)) (good_rows (meaning right db env))

    differs : (v : Row) → not (same_row v t) ≡ true → v ≢ t
    differs v e same = true≢false (sym e ∙ ap not ((row_decides v t).1 same))

    not_same : (v : Row) → v ≢ t → not (same_row v t) ≡ true
    not_same v n = by_answer (same_row v t) refl where
      by_answer : (b : Bool) → same_row v t ≡ b → not b ≡ true
      by_answer true e = absurd (n ((row_decides v t).0 e))
      by_answer false e = refl

    same-where_none : others ≡ [] → (v : Row) → InAnswer right db env v → v ≡ t
    unfolding others
    same-where_none none v a = by_answer (same_row v t) refl where
      by_answer : (b : Bool) → same_row v t ≡ b → v ≡ t
      by_answer true e = (row_decides v t).0 e
      by_answer false e =
          absurd (subst (IsIn v) none (in-filter (λ v. not (same_row v t)) v (good_rows (meaning right db env)) (answer-in right db env v a) (ap not e)))

    none-where_same : ((v : Row) → InAnswer right db env v → v ≡ t) → others ≡ []
    unfolding others
    none-where_same all = none-in others (λ v h.
        let found = from-filter (λ v. not (same_row v t)) v (good_rows (meaning right db env)) h in
        differs v found.1 (all v (answer-from right db env v found.0)))

    pub except-lists : (all : Bool) → Listed (Except all left right) ↔ (Answered (Except all left right) × ExceptList left right db env t w)
    unfolding others
    except-lists all =
        let ls = witnesses left db env t in
        let blank = all_empty (shape right) in
        let rs = differing_lists blank (denote right db env) t in
        let rows = good_rows (meaning right db env) in
        listed-where (Except all left right) db env _ _ (denote-Except db env all left right) t w
        (λ here h.
        let found = from-paired w ls rs h in
        let is_left = contains-from_in found.0 ls found.2 in
        elim (from-some_or_blank blank (witnesses right db env) found.1 others found.3) [
          | inl other ↦
              let row = from-filter (λ v. not (same_row v t)) other.0 rows other.1 in
              of_other other.0 found.0 found.1 is_left (answer-from right db env other.0 row.0) (differs other.0 row.1)
              (contains-from_in found.1 (witnesses right db env other.0) other.2) found.4
          | inr none ↦ of_no_other found.0 is_left (same-where_none none.0) (ap (λ r. found.0 ++ r) none.1 ∙ found.4)
        ])
        (λ p. elim p [
          | of_other v l r is_left there n is_right e ↦ subst (λ x. IsIn x (paired ls rs)) e (in-paired l r ls rs (in-from_contains l ls is_left)
              (in-some blank (witnesses right db env) r others v
              (in-filter (λ v. not (same_row v t)) v rows (answer-in right db env v there) (not_same v n)) (in-from_contains r (witnesses right db env v) is_right)))
          | of_no_other l is_left all e ↦ subst (λ x. IsIn x (paired ls rs)) e (in-paired l blank ls rs (in-from_contains l ls is_left)
              (in-blank blank (witnesses right db env) blank others (none-where_same all) refl))
        ])

  -- ---- Aggregate

  module _ (input : Query) (groups : List ℕ) where
    abbrev classed : Bag → List Witness
    classed us = class_lists groups (all_empty (shape input)) (denote input db env) us t

    abbrev key : Row
    key = take (length groups) t

    pub from-classed : (us : Bag) → IsIn w (classed us) → ((u : Row) × IsIn u us × (picked groups u ≡ key) × Contains (witnesses input db env u) w) ⊎ ((us ≡ []) × (all_empty (shape input) ≡ w))
    from-classed [] h = inr (refl, one_list (all_empty (shape input)) h)
    from-classed (u ∷ us) h =
        let found = from-flat_map (witnesses input db env) w (class_of groups key (u ∷ us)) h in
        let of_class = from-filter (λ u. same_row (picked groups u) key) found.0 (u ∷ us) found.1 in
        inl (found.0, of_class.0, (row_decides (picked groups found.0) key).0 of_class.1, contains-from_in w (witnesses input db env found.0) found.2)

    pub in-classed : (us : Bag) (u : Row) → IsIn u us → picked groups u ≡ key → Contains (witnesses input db env u) w → IsIn w (classed us)
    in-classed [] u h same listed = absurd h
    in-classed (v ∷ us) u h same listed =
        in-flat_map (witnesses input db env) w u (class_of groups key (v ∷ us))
        (in-filter (λ u. same_row (picked groups u) key) u (v ∷ us) h ((row_decides (picked groups u) key).1 same))
        (in-from_contains w (witnesses input db env u) listed)

    pub aggregate-lists : (aggregates : List Aggr) →
        Listed (Aggregate input groups aggregates) ↔ (Answered (Aggregate input groups aggregates) × AggregateList input groups db env t w)
    aggregate-lists aggregates =
        listed-where (Aggregate input groups aggregates) db env _ _ (denote-Aggregate db env input groups aggregates) t w
        (λ here h. elim (from-classed (good_rows (meaning input db env)) h) [
          | inl found ↦ of_class found.0 (answer-from input db env found.0 found.1) found.2 found.3
          | inr none ↦ let good = good-where_row (meaning input db env) _ t here in of_no_row (good.1 ∙ ap Good (sym (ap good_rows good.1) ∙ none.0)) none.1
        ])
        (λ p. elim p [
          | of_class u there same listed ↦ in-classed (good_rows (meaning input db env)) u (answer-in input db env u there) same listed
          | of_no_row good e ↦ subst (λ o. IsIn w (classed (good_rows o))) (sym good) (inl e)
        ])

  -- ---- Distinct and Limit

  pub distinct-lists : (input : Query) → Listed (Distinct input) ↔ (Answered (Distinct input) × Listed input)
  distinct-lists input =
      listed-where (Distinct input) db env _ _ (denote-Distinct db env input) t w
      (λ here h. contains-from_in w (witnesses input db env t) h) (in-from_contains w (witnesses input db env t))

  pub limit-lists : (input : Query) (keys : List Key) (count : ℕ) → Listed (Limit input keys count) ↔ (Answered (Limit input keys count) × Listed input)
  limit-lists input keys count =
      listed-where (Limit input keys count) db env _ _ (denote-Limit db env input keys count) t w
      (λ here h. contains-from_in w (witnesses input db env t) h) (in-from_contains w (witnesses input db env t))
