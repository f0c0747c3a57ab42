-- The witness lists of a dependent join's rows, by membership.
use Rattle.std.proofs.Common.{◌≡◌, ◌↔◌, cond, List, [], ◌∷◌, ◌++◌, map, Contains, refl, sym, subst}
use Rattle.std.specs.List.{flat_map}
use Rattle.perm_values.specs.Rows.{same_row}
use Rattle.perm_values.specs.ValueLaws.{row_decides}
use Rattle.bag_algebra.proofs.Members.{IsIn, in-map, from-map, in-flat_map, from-flat_map, in-member}
use Rattle.bag_algebra.proofs.MembersByIndex.{in-from_contains, contains-from_in}
use Rattle.bag_algebra.specs.Bags.{Row, Bag, nulls}
use Rattle.bag_algebra.specs.built.Openings.{denote-Apply}
use Rattle.bag_algebra.specs.Kinds.{shape, width_of}
use Rattle.bag_algebra.specs.Meaning.{Database, meaning, witnesses}
use Rattle.bag_algebra.specs.Means.{Witness, paired, good_rows, all_empty, keeps_left, under, lists_under}
use Rattle.bag_algebra.specs.Outcome.{Outcome, Good, Bad, and_then, mapped, gather}
use Rattle.bag_algebra.specs.declared.query.JoinKind.{JoinKind}
use Rattle.bag_algebra.specs.declared.query.Query.{Query}
use Rattle.bag_algebra.specs.declared.query.Query.TheVariants.{Apply}
use Rattle.contribution.proofs.GoodRows.{from-and_then}
use Rattle.query_laws.proofs.AnswerRows.{answer-from, answer-in, listed-where}
use Rattle.query_laws.proofs.Outcomes.{over-gather, good-mapped}
use Rattle.query_laws.proofs.PairedLists.{in-paired, from-paired, in-where, from-where, in-if, from-if}
use Rattle.query_laws.specs.Faults.{IsGood}
use Rattle.query_laws.specs.ListsOfNodes.{ApplyList, of_right_row, of_no_right_row}
use Rattle.query_laws.specs.SublinkLists.{InAnswer}

good-with_row : (o : Outcome Bag) (t : Row) → IsIn t (good_rows o) → IsGood o
good-with_row (Good bag) t h = tt
good-with_row (Bad faults) t h = absurd h

module _ (db : Database) (env : List Row) (t : Row) (w : Witness) (kind : JoinKind) (left right : Query) where
  abbrev Applied : Type 0
  Applied = ApplyList kind left right db env t w

  abbrev lefts : Bag
  lefts = good_rows (meaning left db env)

  abbrev right_under : Row → Outcome Bag
  right_under u = meaning right db (u ∷ env)

  abbrev beside_left : Row → Outcome Bag
  beside_left u = mapped (under kind (width_of right) u) (right_under u)

  -- the lists of a left row over some right rows
  abbrev lists_over : Row → Bag → List Witness
  lists_over u vs = lists_under kind (width_of right) (all_empty (shape right)) (witnesses left db env u) (witnesses right db (u ∷ env)) t u vs

  abbrev with_nothing : Witness → Witness
  with_nothing l = l ++ all_empty (shape right)

  rights_good : IsIn t (good_rows (and_then (meaning left db env) (gather beside_left))) → (u : Row) → IsIn u lefts → IsGood (right_under u)
  rights_good here u h =
      let made = from-and_then (meaning left db env) (gather beside_left) t here in
      good-mapped (under kind (width_of right) u) (right_under u)
      ((over-gather beside_left lefts).each_good (good-with_row (gather beside_left lefts) t made) u h)

  module _ (u : Row) (there : IsIn u lefts) where
    from-lists_over : (vs : Bag) → right_under u ≡ Good vs → IsIn w (lists_over u vs) → Applied
    from-lists_over [] e h =
        let alone = from-where (keeps_left kind) (same_row (u ++ nulls (width_of right)) t) w (map with_nothing (witnesses left db env u)) h in
        let list = from-map with_nothing w (witnesses left db env u) alone.2 in
        of_no_right_row u list.0 alone.0 (answer-from left db env u there) e ((row_decides (u ++ nulls (width_of right)) t).0 alone.1)
        (contains-from_in list.0 (witnesses left db env u) list.1) list.2
    from-lists_over (x ∷ vs) e h =
        let listed : Row → List Witness = λ v. cond (same_row (u ++ v) t) (paired (witnesses left db env u) (witnesses right db (u ∷ env) v)) [] in
        let found = from-flat_map listed w (x ∷ vs) h in
        let v = found.0 in
        let made = from-if (same_row (u ++ v) t) w (paired (witnesses left db env u) (witnesses right db (u ∷ env) v)) found.2 in
        let both = from-paired w (witnesses left db env u) (witnesses right db (u ∷ env) v) made.1 in
        of_right_row u v both.0 both.1 (answer-from left db env u there) (record { bag = x ∷ vs; good = e; row = in-member v (x ∷ vs) found.1 })
        ((row_decides (u ++ v) t).0 made.0) (contains-from_in both.0 (witnesses left db env u) both.2)
        (contains-from_in both.1 (witnesses right db (u ∷ env) v) both.3) both.4

    from-outcome : (o : Outcome Bag) → right_under u ≡ o → IsGood o → IsIn w (lists_over u (good_rows o)) → Applied
    from-outcome (Good vs) e g h = from-lists_over vs e h
    from-outcome (Bad faults) e g h = absurd g

  abbrev all_lists : List Witness
  all_lists = flat_map (λ u. lists_over u (good_rows (right_under u))) lefts

  from-all_lists : IsIn t (good_rows (and_then (meaning left db env) (gather beside_left))) → IsIn w all_lists → Applied
  from-all_lists here h =
      let found = from-flat_map (λ u. lists_over u (good_rows (right_under u))) w lefts h in
      let u = found.0 in
      from-outcome u found.1 (right_under u) refl (rights_good here u found.1) found.2

  in-lists_over : (u v : Row) (l r : Witness) → u ++ v ≡ t → Contains (witnesses left db env u) l → Contains (witnesses right db (u ∷ env) v) r → l ++ r ≡ w →
      (vs : Bag) → IsIn v vs → IsIn w (lists_over u vs)
  in-lists_over u v l r e is_left is_right whole [] h = absurd h
  in-lists_over u v l r e is_left is_right whole (x ∷ vs) h =
      let ls = witnesses left db env u in
      let rs = witnesses right db (u ∷ env) v in
      in-flat_map (λ v. cond (same_row (u ++ v) t) (paired ls (witnesses right db (u ∷ env) v)) []) w v (x ∷ vs) h
      (in-if (same_row (u ++ v) t) w (paired ls rs) ((row_decides (u ++ v) t).1 e)
      (subst (λ x. IsIn x (paired ls rs)) whole (in-paired l r ls rs (in-from_contains l ls is_left) (in-from_contains r rs is_right))))

  in-all_lists : Applied → IsIn w all_lists
  in-all_lists (of_right_row u v l r left_there right_there e is_left is_right whole) =
      in-flat_map (λ u. lists_over u (good_rows (right_under u))) w u lefts (answer-in left db env u left_there)
      (in-lists_over u v l r e is_left is_right whole (good_rows (right_under u)) (answer-in right db (u ∷ env) v right_there))
  in-all_lists (of_no_right_row u l keeps there none e is_left whole) =
      let ls = witnesses left db env u in
      in-flat_map (λ u. lists_over u (good_rows (right_under u))) w u lefts (answer-in left db env u there)
      (subst (λ o. IsIn w (lists_over u (good_rows o))) (sym none)
      (in-where (keeps_left kind) (same_row (u ++ nulls (width_of right)) t) w (map with_nothing ls) keeps ((row_decides (u ++ nulls (width_of right)) t).1 e)
      (subst (λ x. IsIn x (map with_nothing ls)) whole (in-map with_nothing l ls (in-from_contains l ls is_left)))))

  pub apply-lists : Contains (witnesses (Apply kind left right) db env t) w ↔ (InAnswer (Apply kind left right) db env t × ApplyList kind left right db env t w)
  apply-lists = listed-where (Apply kind left right) db env _ _ (denote-Apply db env kind left right) t w from-all_lists in-all_lists
