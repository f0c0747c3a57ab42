-- PROVENANCE and the relation: each says what the other says.
use Rattle.std.proofs.Common.{◌≡◌, true, List, ◌++◌, Contains, sym, ◌∙◌, subst}
use Rattle.std.specs.List.{flat_map}
use Rattle.std.specs.Cmp.{both_ways}
use Rattle.bag_algebra.proofs.BagLaws.{member-once}
use Rattle.bag_algebra.proofs.Members.{IsIn, in-map, from-map, in-flat_map, from-flat_map, member-in, in-member}
use Rattle.bag_algebra.specs.Bags.{Row, Bag, member, once}
use Rattle.bag_algebra.specs.built.Openings.{meaning-Prov}
use Rattle.bag_algebra.specs.Meaning.{Database, meaning, witnesses}
use Rattle.bag_algebra.specs.Means.{Witness, flat, with_witnesses, good_rows}
use Rattle.bag_algebra.specs.Outcome.{Outcome, Good, Bad, mapped}
use Rattle.bag_algebra.specs.Rewriting.{SameSet}
use Rattle.bag_algebra.specs.declared.query.Query.{Query}
use Rattle.bag_algebra.specs.declared.query.Query.TheVariants.{Prov}
use Rattle.bag_algebra.proofs.MembersByIndex.{in-from_contains, contains-from_in}
use Rattle.contribution.proofs.NoRowLost.{Listed, none_lost}
use Rattle.rewrite_core.specs.rewritings.Rewritten.{RowBeside, SomeList, Rewritten}

module _ (lists : Row → List Witness) where
  -- the rows beside their lists, as often as it comes
  abbrev besides : Bag → Bag
  besides us = flat_map (with_witnesses lists) us

  in-besides : (us : Bag) (t : Row) (w : Witness) → member t us ≡ true → Contains (lists t) w → member (t ++ flat w) (once (besides us)) ≡ true
  in-besides us t w h c =
      member-once (t ++ flat w) (besides us) ∙ in-member (t ++ flat w) (besides us)
      (in-flat_map (with_witnesses lists) (t ++ flat w) t us (member-in t us h)
      (in-map (λ w. t ++ flat w) w (lists t) (in-from_contains w (lists t) c)))

  from-besides : (us : Bag) (x : Row) → member x (once (besides us)) ≡ true → RowBeside lists us x
  from-besides us x h =
      let row = from-flat_map (with_witnesses lists) x us (member-in x (besides us) (sym (member-once x (besides us)) ∙ h)) in
      let list = from-map (λ w. row.0 ++ flat w) x (lists row.0) row.2 in
      record {
        origin = row.0;
        list = list.0;
        row = in-member row.0 us row.1;
        is_list = contains-from_in list.0 (lists row.0) list.1;
        whole = list.2;
      }

  onto-besides : (us : Bag) (x : Row) → RowBeside lists us x → member x (once (besides us)) ≡ true
  onto-besides us x r =
      subst (λ y. member y (once (besides us)) ≡ true) r.whole (in-besides us r.origin r.list r.row r.is_list)

  some_list : (t : Row) → Listed (lists t) → SomeList (lists t)
  some_list t l = record { list = l.0; is_list = contains-from_in l.0 (lists t) l.1 }

  pub to_rewritten : (o s : Outcome Bag) → ((t : Row) → IsIn t (good_rows o) → Listed (lists t)) →
      SameSet (mapped (λ bag. once (besides bag)) o) s → Rewritten lists o s
  to_rewritten (Good us) (Good vs) listed same = record {
    covers = λ t h. some_list t (listed t (member-in t us h));
    there = λ t w h c. sym (same (t ++ flat w)) ∙ in-besides us t w h c;
    back = λ x h. from-besides us x (same x ∙ h);
  }
  to_rewritten (Good us) (Bad g) listed same = same
  to_rewritten (Bad f) (Good vs) listed same = same
  to_rewritten (Bad f) (Bad g) listed same = same

  pub from_rewritten : (o s : Outcome Bag) → Rewritten lists o s → SameSet (mapped (λ bag. once (besides bag)) o) s
  from_rewritten (Good us) (Good vs) b = λ x. both_ways (member x (once (besides us))) (member x vs)
      (λ h. let r = from-besides us x h in subst (λ y. member y vs ≡ true) r.whole (b.there r.origin r.list r.row r.is_list))
      (λ h. onto-besides us x (b.back x h))
  from_rewritten (Good us) (Bad g) b = b
  from_rewritten (Bad f) (Good vs) b = b
  from_rewritten (Bad f) (Bad g) b = b

module _ (q p : Query) (db : Database) (env : List Row) where
  pub rewritten-from_same : SameSet (meaning (Prov q) db env) (meaning p db env) → Rewritten (witnesses q db env) (meaning q db env) (meaning p db env)
  rewritten-from_same same =
      to_rewritten (witnesses q db env) (meaning q db env) (meaning p db env) (none_lost q db env).listed
      (subst (λ o. SameSet o (meaning p db env)) (meaning-Prov db env q) same)

  pub same-from_rewritten : Rewritten (witnesses q db env) (meaning q db env) (meaning p db env) → SameSet (meaning (Prov q) db env) (meaning p db env)
  same-from_rewritten r =
      subst (λ o. SameSet o (meaning p db env)) (sym (meaning-Prov db env q))
      (from_rewritten (witnesses q db env) (meaning q db env) (meaning p db env) r)
