-- A node with sublinks over one input: first the node over the input's rewriting, or what stands for that, and then what the
-- sublinks contribute.
use Rattle.std.proofs.Common.{◌≡◌, ℕ, List, true, ◌∷◌, ◌++◌, refl, sym, ap, ◌∙◌, subst, subst₂}
use Rattle.perm_values.specs.declared.kind.Kind.{Kind}
use Rattle.perm_values.specs.declared.value.Value.{Value}
use Rattle.bag_algebra.proofs.BagLaws.{member-same_bag}
use Rattle.bag_algebra.proofs.Members.{IsIn, in-member, member-in}
use Rattle.bag_algebra.proofs.TablesRead.{reads_among-each, reads_among-fit}
use Rattle.bag_algebra.specs.Bags.{Row, Bag}
use Rattle.bag_algebra.specs.built.Forms.{AllSubsForm, EachTableOfSubs}
use Rattle.bag_algebra.specs.Children.{subs_shape}
use Rattle.bag_algebra.specs.Kinds.{kinds_of, place_kinds}
use Rattle.bag_algebra.specs.Meaning.{Database, meaning, witnesses}
use Rattle.bag_algebra.specs.Means.{is_met}
use Rattle.bag_algebra.specs.Outcome.{Faults, Outcome, Good, Bad, and_then}
use Rattle.bag_algebra.specs.Rewriting.{SameRows, Stands}
use Rattle.bag_algebra.specs.TablesRead.{EachTable}
use Rattle.bag_algebra.specs.WellFormed.{WellFormed}
use Rattle.bag_algebra.specs.declared.query.Query.{Query}
use Rattle.bag_algebra.specs.declared.query.Sublink.{Sublink}
use Rattle.contribution.specs.Fitting.{Fitting}
use Rattle.rewrite_core.proofs.FlatRows.{Flattened, beside-flattened}
use Rattle.rewrite_core.proofs.JoinedOutcomes.{Related}
use Rattle.rewrite_core.specs.rewritings.Rewritten.{Beside}
use Rattle.rewrite_core.proofs.Faults.{SameFaults}
use Rattle.query_laws.specs.SublinkLists.{EachContributes}
use Rattle.rewrite_sublink.proofs.Steps.{SubsFitting, Begun, OnRows, Reached, StepsGiven}

-- ---- steps over what stands for a query: they make of it what they would make of the query

module _ {known : OnRows} {over first : Query} {subs : List Sublink} {whole : Query → Query} (stands : Stands over first) (steps : StepsGiven known subs whole) where
  pub kinds-whole : (outer scopes : List (List Kind)) → WellFormed outer over → AllSubsForm scopes subs → kinds_of (whole first) ≡ kinds_of over ++ place_kinds (subs_shape subs)
  kinds-whole outer scopes formed f = steps.kinds scopes first f ∙ ap (λ ks. ks ++ place_kinds (subs_shape subs)) (stands.kinds outer formed)

  pub tables-whole : (P : ℕ → List Kind → Type 0) → EachTable P over → EachTableOfSubs P subs → EachTable P (whole first)
  tables-whole P of_over of_subs = steps.tables P first (reads_among-each P first over stands.tables of_over) of_subs

  pub formed-whole : (columns : List Kind) (outer : List (List Kind)) (more : List Kind) → AllSubsForm (columns ∷ outer) subs → kinds_of over ≡ columns ++ more →
      WellFormed outer over → WellFormed outer (whole first)
  formed-whole columns outer more f begins formed = steps.formed columns outer first more f (stands.kinds outer formed ∙ begins) (stands.formed outer formed)

  module _ (columns : List Kind) (outer : List (List Kind)) (db : Database) (env : List Row) (f : SubsFitting columns outer subs db env) where
    good-where : (us : Bag) → Begun columns outer db env over us → ((b : Row) → IsIn b us → known db env b) → (o : Outcome Bag) → meaning first db env ≡ o → SameRows (Good us) o →
        Reached (whole first) db env (λ b w. EachContributes db env b subs w) us
    good-where us g values (Good vs) e s =
        let there : (b : Row) → IsIn b us → IsIn b vs = λ b h. member-in b vs (sym (member-same_bag b us vs s) ∙ in-member b us h) in
        let back : (b : Row) → IsIn b vs → IsIn b us = λ b h. member-in b us (member-same_bag b us vs s ∙ in-member b vs h) in
        let begun : Begun columns outer db env first vs = record {
          more = g.more;
          begins = stands.kinds outer g.fitting.formed ∙ g.begins;
          fitting = record {
            formed = stands.formed outer g.fitting.formed;
            tables = reads_among-fit first over db stands.tables g.fitting.tables;
            outer_rows = f.outer_rows;
          };
          good = e;
        } in
        let all = steps.good columns outer db env f first vs begun (λ b h. values b (back b h)) in
        record {
          bag = all.bag;
          good = all.good;
          extended = record {
            there = λ b w h c. all.extended.there b w (there b h) c;
            back = λ y h. let found = all.extended.back y h in (found.0, found.1, back found.0 found.2, found.3, found.4);
          };
        }
    good-where us g values (Bad faults) e s = absurd s

    pub good-whole : (us : Bag) → Begun columns outer db env over us → ((b : Row) → IsIn b us → known db env b) → Reached (whole first) db env (λ b w. EachContributes db env b subs w) us
    good-whole us g values =
        good-where us g values (meaning first db env) refl
        (subst (λ o. SameRows o (meaning first db env)) g.good (stands.rows outer db env g.fitting.formed g.fitting.tables g.fitting.outer_rows))

    bad-where : (faults : Faults) (o : Outcome Bag) → meaning first db env ≡ o → SameRows (Bad faults) o → meaning (whole first) db env ≡ Bad faults
    bad-where faults (Good vs) e s = absurd s
    bad-where faults (Bad more) e s = steps.bad columns outer db env f first faults (e ∙ ap (λ faults. Bad faults) (sym s))

    pub bad-whole : Fitting outer over db env → (faults : Faults) → meaning over db env ≡ Bad faults → meaning (whole first) db env ≡ Bad faults
    bad-whole fitting faults bad =
        bad-where faults (meaning first db env) refl
        (subst (λ o. SameRows o (meaning first db env)) bad (stands.rows outer db env fitting.formed fitting.tables fitting.outer_rows))

-- ---- outcomes

-- the outcome of what is looked at first is good where what follows is met
pub first-good : {X : Type 0} (o : Outcome X) (next : X → Outcome Value) → is_met (and_then o next) ≡ true → (x : X) × (o ≡ Good x)
first-good (Good x) next met = (x, refl)
first-good (Bad f) next met = absurd (cc met)

-- over is the node over the rewriting, p has what the sublinks contribute besides
module _ (n over p : Query) (db : Database) (env : List Row) (bad : (faults : Faults) → meaning over db env ≡ Bad faults → meaning p db env ≡ Bad faults) where
  pub record Reaching (o s : Outcome Bag) : Type 0 where
    pub faults : SameFaults o s
    pub rows : (ts zs : Bag) → o ≡ Good ts → s ≡ Good zs → (ys : Bag) × (meaning p db env ≡ Good ys) × Flattened (witnesses n db env) ts ys

  reaching-where : (o s : Outcome Bag) → meaning n db env ≡ o → meaning over db env ≡ s → Reaching o s →
      Related (Beside (witnesses n db env)) (meaning n db env) (meaning p db env)
  reaching-where (Good ts) (Good zs) e f r =
      let found = r.rows ts zs refl refl in
      subst₂ (Related (Beside (witnesses n db env))) (sym e) (sym found.1) (beside-flattened n db env ts found.0 e found.2)
  reaching-where (Good ts) (Bad g) e f r = absurd r.faults
  reaching-where (Bad g) (Good zs) e f r = absurd r.faults
  reaching-where (Bad g) (Bad h) e f r = subst₂ (Related (Beside (witnesses n db env))) (sym e) (sym (bad h f)) r.faults

  module _ (q r : Query) (make remake : Bag → Outcome Bag) (node : meaning n db env ≡ and_then (meaning q db env) make)
      (over_rewriting : meaning over db env ≡ and_then (meaning r db env) remake)
      (made : (us vs : Bag) → meaning q db env ≡ Good us → meaning r db env ≡ Good vs → Beside (witnesses q db env) us vs → Reaching (make us) (remake vs)) where
    by_input : (o s : Outcome Bag) → meaning q db env ≡ o → meaning r db env ≡ s → Related (Beside (witnesses q db env)) o s →
        Related (Beside (witnesses n db env)) (meaning n db env) (meaning p db env)
    by_input (Good us) (Good vs) e f b =
        reaching-where (make us) (remake vs) (node ∙ ap (λ o. and_then o make) e) (over_rewriting ∙ ap (λ o. and_then o remake) f) (made us vs e f b)
    by_input (Good us) (Bad g) e f b = absurd b
    by_input (Bad g) (Good vs) e f b = absurd b
    by_input (Bad g) (Bad h) e f b =
        reaching-where (Bad g) (Bad h) (node ∙ ap (λ o. and_then o make) e) (over_rewriting ∙ ap (λ o. and_then o remake) f)
        (record { faults = b; rows = λ ts zs i j. absurd (cc i) })

    pub reaching-over : Related (Beside (witnesses q db env)) (meaning q db env) (meaning r db env) →
        Related (Beside (witnesses n db env)) (meaning n db env) (meaning p db env)
    reaching-over given = by_input (meaning q db env) (meaning r db env) refl refl given
