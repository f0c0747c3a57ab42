-- The witness lists of a join's rows, by membership.
use Rattle.std.proofs.Common.{◌≡◌, ◌↔◌, inl, inr, Bool, true, cond, not, ◌&&◌, List, [], ◌++◌, map, filter, Contains, ap, ◌∙◌, subst}
use Rattle.std.specs.List.{flat_map, list_any}
use Rattle.perm_values.specs.Rows.{same_row}
use Rattle.perm_values.specs.ValueLaws.{row_decides}
use Rattle.perm_values.specs.declared.value.Value.{Value}
use Rattle.bag_algebra.proofs.Members.{IsIn, in-map, from-map, in-append_left, in-append_right, from-append, in-flat_map, from-flat_map, in-filter, from-filter}
use Rattle.bag_algebra.specs.Bags.{Row, Bag, nulls}
use Rattle.bag_algebra.specs.built.Openings.{denote-Join}
use Rattle.bag_algebra.specs.Children.{subs_denote, subs_shape}
use Rattle.bag_algebra.specs.Kinds.{shape, width_of}
use Rattle.bag_algebra.specs.Meaning.{Database, denote, meaning, witnesses, condition_on}
use Rattle.bag_algebra.specs.Means.{Means, Witness, Blanks, paired, beside, good_rows, all_empty, is_met, keeps_left, keeps_right, join_means}
use Rattle.bag_algebra.specs.Outcome.{Outcome}
use Rattle.bag_algebra.specs.declared.expr.Expr.{Expr}
use Rattle.bag_algebra.specs.declared.query.JoinKind.{JoinKind}
use Rattle.bag_algebra.specs.declared.query.Query.{Query}
use Rattle.bag_algebra.specs.declared.query.Query.TheVariants.{Join}
use Rattle.bag_algebra.specs.declared.query.Sublink.{Sublink}
use Rattle.bag_algebra.proofs.MembersByIndex.{in-from_contains, contains-from_in}
use Rattle.query_laws.proofs.AnswerRows.{answer-from, answer-in, listed-where}
use Rattle.query_laws.proofs.Contributed.{each_contributes-from, one_of_each, blank-is}
use Rattle.query_laws.proofs.PairedLists.{in-paired, from-paired, rejoined, in-beside, from-beside, none_passes, none-pass, in-where, from-where, in-if, from-if}
use Rattle.query_laws.specs.ListsOfNodes.{JoinList, of_pair, left_alone, right_alone}
use Rattle.query_laws.specs.SublinkLists.{InAnswer}
use Rattle.query_laws.proofs.NodeLists.{good-met}

module _ (db : Database) (env : List Row) (t : Row) (w : Witness) (kind : JoinKind) (left right : Query) (condition : Expr) (subs : List Sublink) where
  abbrev Joined : Type 0
  Joined = JoinList kind left right condition subs db env t w

  abbrev on : Row → Outcome Value
  on = condition_on condition env (subs_denote subs db env)

  abbrev lefts : Bag
  lefts = good_rows (meaning left db env)

  abbrev rights : Bag
  rights = good_rows (meaning right db env)

  -- the lists of a pair
  abbrev of_both : Row → Row → List Witness
  of_both u v = beside (paired (witnesses left db env u) (witnesses right db env v)) ((subs_denote subs db env).contributions (u ++ v))

  abbrev makes : Row → Row → Bool
  makes u v = same_row (u ++ v) t && is_met (on (u ++ v))

  abbrev pairs : List Witness
  pairs = flat_map (λ u. flat_map (λ v. cond (makes u v) (of_both u v) []) rights) lefts

  from-pairs : IsIn w pairs → Joined
  from-pairs h =
      let l = from-flat_map (λ u. flat_map (λ v. cond (makes u v) (of_both u v) []) rights) w lefts h in
      let u = l.0 in
      let r = from-flat_map (λ v. cond (makes u v) (of_both u v) []) w rights l.2 in
      let v = r.0 in
      let where_met = from-where (same_row (u ++ v) t) (is_met (on (u ++ v))) w (of_both u v) r.2 in
      let listed = from-beside w (paired (witnesses left db env u) (witnesses right db env v)) ((subs_denote subs db env).contributions (u ++ v)) where_met.2 in
      let both = from-paired listed.0 (witnesses left db env u) (witnesses right db env v) listed.2 in
      of_pair u v both.0 both.1 listed.1 (answer-from left db env u l.1) (answer-from right db env v r.1) ((row_decides (u ++ v) t).0 where_met.0) where_met.1
      (contains-from_in both.0 (witnesses left db env u) both.2) (contains-from_in both.1 (witnesses right db env v) both.3)
      (each_contributes-from db env (u ++ v) subs listed.1 (good-met db env subs (u ++ v) condition where_met.1) listed.3)
      (rejoined both.0 both.1 listed.1 listed.0 w both.4 listed.4)

  -- an unmatched row of a side
  abbrev alone_left : Row → Bool
  alone_left u = not (list_any (λ v. is_met (on (u ++ v))) rights)

  abbrev alone_right : Row → Bool
  alone_right v = not (list_any (λ u. is_met (on (u ++ v))) lefts)

  abbrev with_nothing_right : Witness → Witness
  with_nothing_right l = l ++ all_empty (shape right) ++ all_empty (subs_shape subs)

  abbrev with_nothing_left : Witness → Witness
  with_nothing_left r = all_empty (shape left) ++ r ++ all_empty (subs_shape subs)

  abbrev padded_left : Row → Bool
  padded_left u = same_row (u ++ nulls (width_of right)) t

  abbrev padded_right : Row → Bool
  padded_right v = same_row (nulls (width_of left) ++ v) t

  abbrev from_lefts : List Witness
  from_lefts = flat_map (λ u. map with_nothing_right (witnesses left db env u)) (filter padded_left (filter alone_left lefts))

  abbrev from_rights : List Witness
  from_rights = flat_map (λ v. map with_nothing_left (witnesses right db env v)) (filter padded_right (filter alone_right rights))

  from-lefts : keeps_left kind ≡ true → IsIn w from_lefts → Joined
  from-lefts keeps h =
      let row = from-flat_map (λ u. map with_nothing_right (witnesses left db env u)) w (filter padded_left (filter alone_left lefts)) h in
      let u = row.0 in
      let padded = from-filter padded_left u (filter alone_left lefts) row.1 in
      let alone = from-filter alone_left u lefts padded.0 in
      let list = from-map with_nothing_right w (witnesses left db env u) row.2 in
      left_alone u list.0 keeps (answer-from left db env u alone.0) ((row_decides (u ++ nulls (width_of right)) t).0 padded.1)
      (λ v there met. none_passes (λ v. is_met (on (u ++ v))) v rights alone.1 (answer-in right db env v there) met)
      (contains-from_in list.0 (witnesses left db env u) list.1) list.2

  from-rights : keeps_right kind ≡ true → IsIn w from_rights → Joined
  from-rights keeps h =
      let row = from-flat_map (λ v. map with_nothing_left (witnesses right db env v)) w (filter padded_right (filter alone_right rights)) h in
      let v = row.0 in
      let padded = from-filter padded_right v (filter alone_right rights) row.1 in
      let alone = from-filter alone_right v rights padded.0 in
      let list = from-map with_nothing_left w (witnesses right db env v) row.2 in
      right_alone v list.0 keeps (answer-from right db env v alone.0) ((row_decides (nulls (width_of left) ++ v) t).0 padded.1)
      (λ u there met. none_passes (λ u. is_met (on (u ++ v))) u lefts alone.1 (answer-in left db env u there) met)
      (contains-from_in list.0 (witnesses right db env v) list.1) list.2

  abbrev joined_lists : List Witness
  joined_lists = pairs ++ cond (keeps_left kind) from_lefts [] ++ cond (keeps_right kind) from_rights []

  from-joined_lists : IsIn w joined_lists → Joined
  from-joined_lists h =
      let kept_left = cond (keeps_left kind) from_lefts [] in
      let kept_right = cond (keeps_right kind) from_rights [] in
      elim (from-append w (pairs ++ kept_left) kept_right h) [
        | inl more ↦ elim (from-append w pairs kept_left more) [
          | inl p ↦ from-pairs p
          | inr l ↦ let found = from-if (keeps_left kind) w from_lefts l in from-lefts found.0 found.1
        ]
        | inr r ↦ let found = from-if (keeps_right kind) w from_rights r in from-rights found.0 found.1
      ]

  in-joined_lists : Joined → IsIn w joined_lists
  in-joined_lists (of_pair u v l r contributions left_there right_there e met is_left is_right contribute whole) =
      let ls = witnesses left db env u in
      let rs = witnesses right db env v in
      let listed = in-beside (l ++ r) contributions (paired ls rs) ((subs_denote subs db env).contributions (u ++ v))
      (in-paired l r ls rs (in-from_contains l ls is_left) (in-from_contains r rs is_right)) (one_of_each db env (u ++ v) contribute) in
      in-append_left w (pairs ++ cond (keeps_left kind) from_lefts []) (cond (keeps_right kind) from_rights [])
      (in-append_left w pairs (cond (keeps_left kind) from_lefts [])
      (in-flat_map (λ u. flat_map (λ v. cond (makes u v) (of_both u v) []) rights) w u lefts (answer-in left db env u left_there)
      (in-flat_map (λ v. cond (makes u v) (of_both u v) []) w v rights (answer-in right db env v right_there)
      (in-where (same_row (u ++ v) t) (is_met (on (u ++ v))) w (of_both u v) ((row_decides (u ++ v) t).1 e) met
      (subst (λ x. IsIn x (of_both u v)) whole listed)))))
  in-joined_lists (left_alone u l keeps there e alone is_left whole) =
      in-append_left w (pairs ++ cond (keeps_left kind) from_lefts []) (cond (keeps_right kind) from_rights [])
      (in-append_right w pairs (cond (keeps_left kind) from_lefts [])
      (in-if (keeps_left kind) w from_lefts keeps
      (in-flat_map (λ u. map with_nothing_right (witnesses left db env u)) w u (filter padded_left (filter alone_left lefts))
      (in-filter padded_left u (filter alone_left lefts)
      (in-filter alone_left u lefts (answer-in left db env u there)
      (none-pass (λ v. is_met (on (u ++ v))) rights (λ v h met. alone v (answer-from right db env v h) met)))
      ((row_decides (u ++ nulls (width_of right)) t).1 e))
      (subst (λ x. IsIn x (map with_nothing_right (witnesses left db env u))) whole
      (in-map with_nothing_right l (witnesses left db env u) (in-from_contains l (witnesses left db env u) is_left))))))
  in-joined_lists (right_alone v r keeps there e alone is_right whole) =
      in-append_right w (pairs ++ cond (keeps_left kind) from_lefts []) (cond (keeps_right kind) from_rights [])
      (in-if (keeps_right kind) w from_rights keeps
      (in-flat_map (λ v. map with_nothing_left (witnesses right db env v)) w v (filter padded_right (filter alone_right rights))
      (in-filter padded_right v (filter alone_right rights)
      (in-filter alone_right v rights (answer-in right db env v there)
      (none-pass (λ u. is_met (on (u ++ v))) lefts (λ u h met. alone u (answer-from left db env u h) met)))
      ((row_decides (nulls (width_of left) ++ v) t).1 e))
      (subst (λ x. IsIn x (map with_nothing_left (witnesses right db env v))) whole
      (in-map with_nothing_left r (witnesses right db env v) (in-from_contains r (witnesses right db env v) is_right)))))

  pub join-lists : Contains (witnesses (Join kind left right condition subs) db env t) w ↔ (InAnswer (Join kind left right condition subs) db env t × JoinList kind left right condition subs db env t w)
  join-lists =
      let s = subs_denote subs db env in
      let blanks_of : Witness → Blanks = λ subs. record { left = all_empty (shape left); right = all_empty (shape right); subs = subs } in
      let made : Witness → Means = λ blank. join_means kind on s.contributions (blanks_of blank) (width_of left) (width_of right) (denote left db env) (denote right db env) in
      listed-where (Join kind left right condition subs) db env _ _
      (denote-Join db env kind left right condition subs ∙ ap made (blank-is subs db env)) t w (λ here h. from-joined_lists h) in-joined_lists
