-- Rows beside the candidates of a sublink that are its contributions.
use Rattle.std.proofs.Common.{◌≡◌, Bool, true, false, List, [], ◌∷◌, ◌++◌, map, filter, length, Option, sym, ap, ◌∙◌, subst}
use Rattle.perm_values.specs.declared.kind.Kind.{Kind}
use Rattle.perm_values.specs.declared.value.Value.{Value}
use Rattle.perm_values.specs.declared.value.Value.TheVariants.{Boolean}
use Rattle.bag_algebra.proofs.Members.{IsIn, in-member, in-map, from-map, in-filter, from-filter, in-flat_map, from-flat_map}
use Rattle.bag_algebra.specs.Bags.{Row, Bag}
use Rattle.bag_algebra.specs.built.Openings.{meaning-Filter}
use Rattle.bag_algebra.specs.Children.{subs_denote}
use Rattle.bag_algebra.specs.Kinds.{width_of}
use Rattle.bag_algebra.specs.Meaning.{Database, meaning, condition_on}
use Rattle.bag_algebra.specs.Means.{Witness, flat, is_met, kept, joined_rows, no_subs}
use Rattle.bag_algebra.specs.Outcome.{Outcome, Good, and_then, both_then, gather}
use Rattle.bag_algebra.specs.declared.expr.Expr.{Expr}
use Rattle.bag_algebra.specs.declared.query.JoinKind.TheVariants.{Inner}
use Rattle.bag_algebra.specs.declared.query.Query.{Query}
use Rattle.bag_algebra.specs.declared.query.Sublink.{Sublink}
use Rattle.contribution.proofs.CrossedRows.{all_pairs, every_pair}
use Rattle.contribution.specs.Conjunctions.{always}
use Rattle.rewrite_core.specs.rewritings.KeptColumns.{pairs_of}
use Rattle.contribution.proofs.NodeQueries.{meaning-pairs}
use Rattle.rewrite_sublink.proofs.MatchingRows.{gather-kept}
use Rattle.rewrite_sublink.proofs.OneSublink.{base-rows, candidate-width, test-good, passing-contributes, contributing-passes, contributing-in_base}
use Rattle.rewrite_sublink.proofs.LongerRows.{row-begun}
use Rattle.rewrite_sublink.proofs.Ready.{Ready, stand_of, base_of}
use Rattle.rewrite_sublink.proofs.Steps.{SubsFitting, Begun, HasValue, Extended, Reached}
use Rattle.rewrite_core.proofs.KeptRows.{row-width}
use Rattle.rewrite_sublink.specs.Candidates.{matching, deciding, test_condition, test_subs, contributed}
use Rattle.query_laws.specs.SublinkLists.{Contributes}

module _ {columns : List Kind} {outer : List (List Kind)} {db : Database} {env : List Row} {sub : Sublink} {tested : Option Expr} {s r : Query}
    (is : Ready sub tested s r) (f : SubsFitting columns outer (sub ∷ []) db env) (rows : Query) (us : Bag) (g : Begun columns outer db env rows us)
    (values : (b : Row) → IsIn b us → HasValue db env sub b) where
  abbrev candidates : Bag
  candidates = (base-rows is f).0

  abbrev found : Query
  found = matching (width_of (base_of is)) (width_of rows) (width_of s) r

  abbrev on : Row → Outcome Value
  on = condition_on (test_condition (deciding sub.kind)) env (subs_denote (test_subs (deciding sub.kind) (stand_of is) found) db env)

  abbrev passing : Bag
  passing = filter (λ z. is_met (on z)) (every_pair us candidates)

  wide : (b : Row) → IsIn b us → length b ≡ width_of rows
  wide b h = row-width outer rows db env g.fitting us b g.good (in-member b us h)

  from-pair : (z : Row) → IsIn z (every_pair us candidates) → (b : Row) × (k : Row) × IsIn b us × IsIn k candidates × (b ++ k ≡ z)
  from-pair z h =
      let left = from-flat_map (λ u. map (λ v. u ++ v) candidates) z us h in
      let right = from-map (λ v. left.0 ++ v) z candidates left.2 in
      (left.0, right.0, left.1, right.1, right.2)

  good-met : (o : Outcome Value) (b : Bool) → o ≡ Good (Boolean b) → o ≡ Good (Boolean (is_met o))
  good-met o true e = e ∙ ap (λ p. Good (Boolean (is_met p))) (sym e)
  good-met o false e = e ∙ ap (λ p. Good (Boolean (is_met p))) (sym e)

  good-pair : (z : Row) → IsIn z (every_pair us candidates) → on z ≡ Good (Boolean (is_met (on z)))
  good-pair z h =
      let pair = from-pair z h in
      subst (λ z. on z ≡ Good (Boolean (is_met (on z)))) pair.4
      (good-met (on (pair.0 ++ pair.1)) _
      (test-good is f pair.0 (row-begun g pair.0 pair.2) (values pair.0 pair.2) (width_of rows) (wide pair.0 pair.2) pair.1 (candidate-width is f pair.1 pair.3)))

  meaning-contributed : meaning (contributed rows (base_of is) (stand_of is) r) db env ≡ Good passing
  meaning-contributed =
      meaning-Filter db env (pairs_of Inner rows (base_of is) always) (test_condition (deciding sub.kind)) (test_subs (deciding sub.kind) (stand_of is) found)
      ∙ ap (λ o. and_then o (gather (kept on)))
      (meaning-pairs Inner rows (base_of is) always db env
      ∙ (λ i. both_then (g.good i) ((base-rows is f).1 i) (joined_rows Inner (condition_on always env no_subs) (width_of rows) (width_of (base_of is))))
      ∙ all_pairs env (width_of rows) (width_of (base_of is)) us candidates)
      ∙ gather-kept on (λ z. is_met (on z)) (every_pair us candidates) good-pair

  from-passing : (b k : Row) → IsIn b us → IsIn k candidates → is_met (on (b ++ k)) ≡ true → (c : Witness) × Contributes db env b sub c × (flat c ≡ k)
  from-passing b k h here met = passing-contributes is f b (row-begun g b h) (values b h) (width_of rows) (wide b h) k (candidate-width is f k here) met

  extended-one : Extended (λ b c. Contributes db env b sub c) us passing
  extended-one = record {
    there = λ b c h k.
        let begins = row-begun g b h in
        let here = contributing-in_base is f b begins (values b h) c k in
        in-filter (λ z. is_met (on z)) (b ++ flat c) (every_pair us candidates)
        (in-flat_map (λ u. map (λ v. u ++ v) candidates) (b ++ flat c) b us h (in-map (λ v. b ++ v) (flat c) candidates here))
        (contributing-passes is f b begins (values b h) (width_of rows) (wide b h) c (candidate-width is f (flat c) here) k);
    back = λ y h.
        let found = from-filter (λ z. is_met (on z)) y (every_pair us candidates) h in
        let pair = from-pair y found.0 in
        let c = from-passing pair.0 pair.1 pair.2 pair.3 (ap (λ z. is_met (on z)) pair.4 ∙ found.1) in
        (pair.0, c.0, pair.2, c.1, ap (λ k. pair.0 ++ k) c.2 ∙ pair.4);
  }

  pub reached-contributed : Reached (contributed rows (base_of is) (stand_of is) r) db env (λ b c. Contributes db env b sub c) us
  reached-contributed = record { bag = passing; good = meaning-contributed; extended = extended-one }
