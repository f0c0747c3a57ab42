-- A projection over one to items that can't fault is one.
use Rattle.std.proofs.Common.{◌≡◌, true, List, [], ◌∷◌, map, refl, sym, ap, ◌∙◌, subst}
use Rattle.perm_values.specs.declared.kind.Kind.{Kind}
use Rattle.perm_values.proofs.Steps.{by}
use Rattle.bag_algebra.proofs.Truths.{and_true}
use Rattle.bag_algebra.specs.Bags.{Row, Bag}
use Rattle.bag_algebra.specs.Expressions.{value}
use Rattle.bag_algebra.specs.FaultFree.{items_faultless}
use Rattle.bag_algebra.specs.Inputs.{inputs_of}
use Rattle.bag_algebra.specs.Kinds.{kinds_of, item_kinds}
use Rattle.bag_algebra.specs.Meaning.{meaning, items_on}
use Rattle.bag_algebra.specs.Means.{no_subs}
use Rattle.bag_algebra.specs.Outcome.{Outcome, Good, Bad, and_then, both, each}
use Rattle.bag_algebra.specs.Rewriting.{is_plain, Stands}
use Rattle.bag_algebra.specs.WellFormed.{HasKind, ItemsForm}
use Rattle.bag_algebra.specs.built.Forms.{EachTable-Project, WellFormed-Project}
use Rattle.bag_algebra.specs.built.Openings.{kinds_of-Project, meaning-Project, Project_with-is}
use Rattle.bag_algebra.specs.built.Scopes.{is_plain-Project}
use Rattle.bag_algebra.specs.declared.expr.Item.{Item}
use Rattle.bag_algebra.specs.declared.query.Query.{Query}
use Rattle.bag_algebra.specs.declared.query.Query.TheVariants.{Project}
use Rattle.bag_algebra.specs.declared.query.Sublink.{Sublink}
use Rattle.contribution.proofs.ColumnQueries.{all-nothing, all-first}
use Rattle.contribution.proofs.QueryKinds.{each-all}
use Rattle.contribution.proofs.WhereGood.{Every}
use Rattle.query_laws.proofs.SameExpressions.{items-themselves}
use Rattle.query_laws.proofs.StandingNodes.{stands-Project}
use Rattle.query_laws.specs.Standing.{SubsStand}
use Rattle.rewrite_core.proofs.Itself.{stands-onward}
use Rattle.simpler_laws.proofs.TestedQueries.{stands-same}
use Rattle.simpler_laws.proofs.SubstitutedVariants.{item-value, rest-calm}
use Rattle.simpler_laws.specs.merged.Substituted.{row_of_items, ItemsSubstituted, IsMerged}

-- ---- rows

module _ (env : List Row) where
  lower-row : (lower : List Item) → items_faultless lower ≡ true → (u : Row) → items_on lower env no_subs u ≡ Good (row_of_items lower u env [])
  lower-row [] calm u = refl
  lower-row (item ∷ lower) calm u =
      λ i. both (λ v vs. v ∷ vs) (item-value item lower calm u env [] i) (lower-row lower (rest-calm item lower calm) u i)

  upper-row : (lower upper made : List Item) → items_faultless lower ≡ true → ItemsSubstituted lower upper made → (u : Row) →
      items_on upper env no_subs (row_of_items lower u env []) ≡ items_on made env no_subs u
  upper-row lower [] [] calm m u = refl
  upper-row lower [] (other ∷ made) calm m u = absurd m
  upper-row lower (item ∷ upper) [] calm m u = absurd m
  upper-row lower (item ∷ upper) (other ∷ made) calm m u =
      λ i. both (λ v vs. v ∷ vs) (sym (m.0.expr.value calm u env []) i) (upper-row lower upper made calm m.1 u i)

  module _ (lower upper made : List Item) (calm : items_faultless lower ≡ true) (m : ItemsSubstituted lower upper made) where
    abbrev given : Row → Row
    given u = row_of_items lower u env []

    each-lower : (us : Bag) → each (items_on lower env no_subs) us ≡ Good (map given us)
    each-lower [] = refl
    each-lower (u ∷ us) = λ i. both (λ v vs. v ∷ vs) (lower-row lower calm u i) (each-lower us i)

    each-upper : (us : Bag) → each (items_on upper env no_subs) (map given us) ≡ each (items_on made env no_subs) us
    each-upper [] = refl
    each-upper (u ∷ us) = λ i. both (λ v vs. v ∷ vs) (upper-row lower upper made calm m u i) (each-upper us i)

    all-merged : (o : Outcome Bag) →
        and_then (and_then o (each (items_on lower env no_subs))) (each (items_on upper env no_subs)) ≡ and_then o (each (items_on made env no_subs))
    all-merged (Good us) = ap (λ p. and_then p (each (items_on upper env no_subs))) (each-lower us) ∙ each-upper us
    all-merged (Bad faults) = refl

-- ---- kinds

merged-kinds : (lower upper made : List Item) → ItemsSubstituted lower upper made → item_kinds made ≡ item_kinds upper
merged-kinds lower [] [] m = refl
merged-kinds lower [] (other ∷ made) m = absurd m
merged-kinds lower (item ∷ upper) [] m = absurd m
merged-kinds lower (item ∷ upper) (other ∷ made) m = λ i. m.0.kind i ∷ merged-kinds lower upper made m.1 i

module _ (kinds : List Kind) (outer : List (List Kind)) (lower : List Item) (form : ItemsForm (kinds ∷ outer) [] lower) where
  merged-formed : (upper made : List Item) → ItemsSubstituted lower upper made →
      Every (λ (item : Item). HasKind (item_kinds lower ∷ outer) [] item.expr item.kind) upper → ItemsForm (kinds ∷ outer) [] made
  merged-formed [] [] m h = all-nothing (λ (i : Item). HasKind (kinds ∷ outer) [] i.expr i.kind)
  merged-formed [] (other ∷ made) m h = absurd m
  merged-formed (item ∷ upper) [] m h = absurd m
  merged-formed (item ∷ upper) (other ∷ made) m h =
      all-first (λ (i : Item). HasKind (kinds ∷ outer) [] i.expr i.kind) other made
      (subst (HasKind (kinds ∷ outer) [] other.expr) (sym m.0.kind) (m.0.expr.kind kinds outer [] item.kind form h.0)) (merged-formed upper made m.1 h.1)

-- ---- the projection

module _ (q : Query) (lower upper made : List Item) (plain : is_plain q ≡ true) (calm : items_faultless lower ≡ true) (m : ItemsSubstituted lower upper made) where
  abbrev twice : Query
  twice = Project (Project q lower []) upper []

  stands-twice : Stands (Project (Project q lower []) upper []) (Project q made [])
  stands-twice =
      stands-same twice (Project q made []) (is_plain-Project q made [] ∙ and_true (is_plain q) ∙ plain)
      (kinds_of-Project q made [] ∙ merged-kinds lower upper made m ∙ sym (kinds_of-Project (Project q lower []) upper []))
      (λ outer f.
      let above = by (WellFormed-Project outer (Project q lower []) upper []) f in
      let below = by (WellFormed-Project outer q lower []) above.input in
      by (sym (WellFormed-Project outer q made [])) (record {
        input = below.input;
        subs = tt;
        items = merged-formed (kinds_of q) outer lower below.items upper made m
            (each-all _ upper (by (λ i. ItemsForm (kinds_of-Project q lower [] i ∷ outer) [] upper) above.items));
      }))
      (λ P h.
      let g = by (EachTable-Project P q lower []) (by (EachTable-Project P (Project q lower []) upper []) h).0 in
      by (sym (EachTable-Project P q made [])) (g.0, tt))
      (λ outer db env f h e.
      meaning-Project db env (Project q lower []) upper []
      ∙ ap (λ o. and_then o (each (items_on upper env no_subs))) (meaning-Project db env q lower [])
      ∙ all-merged env lower upper made calm m (meaning q db env)
      ∙ sym (meaning-Project db env q made []))

under-plain : (q : Query) (items : List Item) → is_plain (Project q items []) ≡ true → is_plain q ≡ true
under-plain q items h = sym (and_true (is_plain q)) ∙ sym (is_plain-Project q items []) ∙ h

pub stands-merged : (q input : Query) (items made : List Item) (subs originals : List Sublink) → Stands q input → SubsStand originals subs → subs ≡ [] →
    (m : IsMerged input items made) → Stands (Project q items originals) (Project m.under made subs)
stands-merged q input items made subs originals s t none m =
    let below : Stands q (Project m.under m.lower []) = subst (Stands q) m.is s in
    subst (λ ss. Stands (Project q items originals) (Project m.under made ss)) (sym none)
    (stands-onward (Project q items originals) (Project (Project m.under m.lower []) items []) (Project m.under made [])
    (stands-Project q (Project m.under m.lower []) below items items (items-themselves items) originals [] (subst (SubsStand originals) none t))
    (stands-twice m.under m.lower items made (under-plain m.under m.lower below.plain) m.calm m.are))

-- a projection without sublinks to items that can't fault, and what is made of others over it
pub merged-items : (input under : Query) (lower items made below : List Item) (others list : List Sublink) → input ≡ Project under lower others → below ≡ lower →
    list ≡ others → (list ≡ []) × (items_faultless below ≡ true) → ItemsSubstituted below items made → IsMerged input items made
merged-items input under lower items made below others list is below_is list_is clear are = record {
  under = under;
  lower = lower;
  is = is ∙ ap (Project under lower) (sym list_is ∙ clear.0);
  calm = subst (λ ls. items_faultless ls ≡ true) below_is clear.1;
  are = subst (λ ls. ItemsSubstituted ls items made) below_is are;
}

-- the input that is taken of a projection is the one that the merged items stand over
pub stands-over : (q input below : Query) (items slice made : List Item) (subs list originals : List Sublink) → slice ≡ items → list ≡ subs →
    (list ≡ []) × IsMerged input slice made → ((under : Query) (lower : List Item) (others : List Sublink) → input ≡ Project under lower others → below ≡ under) →
    Stands q input → SubsStand originals subs → Stands (Project q items originals) (Project below made subs)
stands-over q input below items slice made subs list originals slice_is list_is found taken s t =
    let m : IsMerged input items made = subst (λ given. IsMerged input given made) slice_is found.1 in
    subst (λ b. Stands (Project q items originals) (Project b made subs)) (sym (taken m.under m.lower [] m.is))
    (stands-merged q input items made subs originals s t (sym list_is ∙ found.0) m)

pub one_same : (a b : Query) → a ∷ [] ≡ b ∷ [] → a ≡ b
one_same a b e = cc

-- a projection has one input
pub same_input : (input other : Query) (items others : List Item) (subs more : List Sublink) → Project input items subs ≡ Project other others more → input ≡ other
same_input input other items others subs more e =
    one_same input other (sym (ap inputs_of (Project_with-is input items subs)) ∙ ap inputs_of e ∙ ap inputs_of (Project_with-is other others more))
