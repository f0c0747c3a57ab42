-- Where a query has no places, what stands for it is a rewriting of it: its one witness list is empty.
use Rattle.std.proofs.Common.{◌≡◌, true, List, [], ◌++◌, Contains, refl, sym, ap, ◌∙◌, subst, append-nil}
use Rattle.perm_values.specs.declared.kind.Kind.{Kind}
use Rattle.bag_algebra.proofs.BagLaws.{member-same_bag}
use Rattle.bag_algebra.proofs.Members.{IsIn, member-in}
use Rattle.bag_algebra.proofs.MembersByIndex.{contains-from_in}
use Rattle.bag_algebra.specs.Bags.{Row, Bag, member}
use Rattle.bag_algebra.specs.built.Openings.{Prov-is}
use Rattle.bag_algebra.specs.Fits.{TablesFit, env_fits}
use Rattle.bag_algebra.specs.Kinds.{kinds_of, shape, place_kinds}
use Rattle.bag_algebra.specs.Meaning.{Database, meaning, witnesses}
use Rattle.bag_algebra.specs.Means.{Witness, flat, good_rows}
use Rattle.bag_algebra.specs.Outcome.{Outcome, Good, Bad}
use Rattle.bag_algebra.specs.built.Patterns.{ProvOf}
use Rattle.bag_algebra.specs.Rewriting.{IsRewrite, Stands, SameRows, SameSet}
use Rattle.bag_algebra.specs.WellFormed.{WellFormed}
use Rattle.bag_algebra.specs.declared.place.Place.{Place}
use Rattle.bag_algebra.specs.declared.query.Query.{Query}
use Rattle.contribution.proofs.NoRowLost.{Listed, none_lost}
use Rattle.contribution.proofs.QueryKinds.{lists_fit-places}
use Rattle.contribution.specs.FitsPlaces.{FitsPlaces, no_place, held, empty}
use Rattle.rewrite_core.proofs.BesideLists.{same-from_rewritten}
use Rattle.rewrite_core.specs.rewritings.Rewritten.{Rewritten}

-- at no place there is nothing
none-at : {places : List Place} {w : Witness} → FitsPlaces places w → places ≡ [] → w ≡ []
none-at no_place e = refl
none-at (held place row fits rest) e = absurd (cc e)
none-at (empty place rest) e = absurd (cc e)

alone : (t : Row) (w : Witness) → w ≡ [] → t ++ flat w ≡ t
alone t w e = ap (λ w. t ++ flat w) e ∙ append-nil t

-- rows that have one list, without entries, stand beside it where they stand
module _ (lists : Row → List Witness) (only : (t : Row) (w : Witness) → Contains (lists t) w → w ≡ []) where
  rewritten-alone : (o s : Outcome Bag) → ((t : Row) → IsIn t (good_rows o) → Listed (lists t)) → SameRows o s → Rewritten lists o s
  rewritten-alone (Good us) (Good vs) listed same = record {
    covers = λ t h. let l = listed t (member-in t us h) in record { list = l.0; is_list = contains-from_in l.0 (lists t) l.1 };
    there = λ t w h c. subst (λ x. member x vs ≡ true) (sym (alone t w (only t w c))) (sym (member-same_bag t us vs same) ∙ h);
    back = λ x h.
        let here = member-same_bag x us vs same ∙ h in
        let l = listed x (member-in x us here) in
        let found = contains-from_in l.0 (lists x) l.1 in
        record { origin = x; list = l.0; row = here; is_list = found; whole = alone x l.0 (only x l.0 found) };
  }
  rewritten-alone (Good us) (Bad g) listed same = same
  rewritten-alone (Bad f) (Good vs) listed same = same
  rewritten-alone (Bad f) (Bad g) listed same = same

module _ (q b : Query) (none : shape q ≡ []) (stands : Stands q b) where
  module _ (outer : List (List Kind)) (db : Database) (env : List Row) (formed : WellFormed outer q) (fits : TablesFit db q)
      (env_fitting : env_fits env outer ≡ true) where
    empty-list : (t : Row) (w : Witness) → Contains (witnesses q db env t) w → w ≡ []
    empty-list t w c = none-at (lists_fit-places outer q db env t w (record { formed = formed; tables = fits; outer_rows = env_fitting }) c) none

    set-rows : SameSet (meaning (ProvOf q) db env) (meaning b db env)
    set-rows =
        subst (λ n. SameSet (meaning n db env) (meaning b db env)) (Prov-is q)
        (same-from_rewritten q b db env
        (rewritten-alone (witnesses q db env) empty-list (meaning q db env) (meaning b db env) (none_lost q db env).listed
        (stands.rows outer db env formed fits env_fitting)))

  pub rewrite-without_places : IsRewrite q b
  rewrite-without_places = record {
    plain = stands.plain;
    kinds = λ outer formed. stands.kinds outer formed ∙ sym (ap (λ places. kinds_of q ++ place_kinds places) none ∙ append-nil (kinds_of q));
    formed = stands.formed;
    tables = stands.tables;
    rows = set-rows;
  }
