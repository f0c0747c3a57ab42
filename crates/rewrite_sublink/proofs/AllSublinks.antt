-- A step of each sublink of a node, one after another.
use Rattle.std.proofs.Common.{◌≡◌, true, List, [], ◌∷◌, ◌++◌, append_assoc, append-nil, sym, ap, ◌∙◌, subst}
use Rattle.perm_values.specs.declared.kind.Kind.{Kind}
use Rattle.bag_algebra.proofs.Members.{IsIn}
use Rattle.bag_algebra.proofs.Outcomes.{both-is}
use Rattle.bag_algebra.proofs.Widths.{place_kinds-append}
use Rattle.bag_algebra.specs.Bags.{Row, Bag}
use Rattle.bag_algebra.specs.built.Forms.{AllSubsForm}
use Rattle.bag_algebra.specs.Children.{subs_denote, subs_shape, sublink_value}
use Rattle.bag_algebra.specs.Fits.{bag_fits, row_begins}
use Rattle.bag_algebra.specs.Kinds.{kinds_of, place_kinds, shape}
use Rattle.bag_algebra.specs.Meaning.{Database}
use Rattle.bag_algebra.specs.Means.{Witness, flat}
use Rattle.bag_algebra.specs.declared.query.Query.{Query}
use Rattle.bag_algebra.specs.declared.query.Sublink.{Sublink}
use Rattle.query_laws.specs.SublinkLists.{Contributes, EachContributes, no_sublink, one_more}
use Rattle.rewrite_core.proofs.Unlinked.{none-contribute}
use Rattle.rewrite_sublink.proofs.LongerRows.{flat-behind, row-begun, values-longer, contributes-longer, contributes-shorter}
use Rattle.rewrite_sublink.proofs.Steps.{SubsFitting, Begun, HasValue, HasValues, Extended, OnRows, Reached, Step, StepGiven, Steps, StepsGiven}

-- ---- no sublink

nothing-extended : (db : Database) (env : List Row) (us : Bag) → Extended (λ b w. EachContributes db env b [] w) us us
nothing-extended db env us = record {
  there = λ b w h c. subst (λ x. IsIn x us) (sym (append-nil b) ∙ ap (λ w. b ++ flat w) (none-contribute c)) h;
  back = λ y h. (y, [], h, no_sublink, append-nil y);
}

pub no_step : Steps [] (λ rows. rows)
no_step = record {
  kinds = λ scopes rows f. sym (append-nil (kinds_of rows));
  plain = λ rows plain. plain;
  tables = λ P rows of_rows of_subs. of_rows;
  formed = λ columns outer rows more f begins formed. formed;
  bad = λ columns outer db env f rows faults bad. bad;
  good = λ columns outer db env f rows us g values. record { bag = us; good = g.good; extended = nothing-extended db env us };
}

-- ---- one sublink, and then the others

-- what is known of a row for all sublinks is known for the first and for the others: their values, also on longer rows
pub record Splits (sub : Sublink) (subs : List Sublink) (all first others : OnRows) : Type 0 where
  pub one : (db : Database) (env : List Row) (b : Row) → all db env b → first db env b
  pub rest : (db : Database) (env : List Row) (b : Row) → all db env b → others db env b
  pub values : (db : Database) (env : List Row) (b : Row) → others db env b → HasValues db env subs b
  pub longer : (columns : List Kind) (outer : List (List Kind)) (db : Database) (env : List Row) → SubsFitting columns outer subs db env →
      (b : Row) → row_begins b columns ≡ true → others db env b → (more : Row) → others db env (b ++ more)

module _ (sub : Sublink) (subs : List Sublink) where
  first-form : (scopes : List (List Kind)) → AllSubsForm scopes (sub ∷ subs) → AllSubsForm scopes (sub ∷ [])
  first-form scopes f = record { query = f.query; fitting = f.fitting; others = tt }

  module _ {columns : List Kind} {outer : List (List Kind)} {db : Database} {env : List Row} (f : SubsFitting columns outer (sub ∷ subs) db env) where
    first-fitting : SubsFitting columns outer (sub ∷ []) db env
    first-fitting = record { form = first-form (columns ∷ outer) f.form; tables = (f.tables.0, tt); outer_rows = f.outer_rows }

    others-fitting : SubsFitting columns outer subs db env
    others-fitting = record { form = f.form.others; tables = f.tables.1; outer_rows = f.outer_rows }

  module _ {all_known first_known others_known : OnRows} (splits : Splits sub subs all_known first_known others_known) (next others : Query → Query)
      (step : StepGiven first_known sub next) (steps : StepsGiven others_known subs others) where
    kinds-more : (scopes : List (List Kind)) (rows : Query) → AllSubsForm scopes (sub ∷ subs) → kinds_of (others (next rows)) ≡ kinds_of rows ++ place_kinds (subs_shape (sub ∷ subs))
    kinds-more scopes rows f =
        steps.kinds scopes (next rows) f.others
        ∙ ap (λ ks. ks ++ place_kinds (subs_shape subs)) (step.kinds scopes rows (first-form scopes f))
        ∙ append_assoc (kinds_of rows) (place_kinds (shape sub.query)) (place_kinds (subs_shape subs))
        ∙ ap (λ ks. kinds_of rows ++ ks) (sym (place_kinds-append (shape sub.query) (subs_shape subs)))

    begins-next : (columns : List Kind) (outer : List (List Kind)) (rows : Query) (more : List Kind) → AllSubsForm (columns ∷ outer) (sub ∷ subs) →
        kinds_of rows ≡ columns ++ more → kinds_of (next rows) ≡ columns ++ (more ++ place_kinds (shape sub.query))
    begins-next columns outer rows more f begins =
        step.kinds (columns ∷ outer) rows (first-form (columns ∷ outer) f)
        ∙ ap (λ ks. ks ++ place_kinds (shape sub.query)) begins
        ∙ append_assoc columns more (place_kinds (shape sub.query))

    module _ (columns : List Kind) (outer : List (List Kind)) (db : Database) (env : List Row) (f : SubsFitting columns outer (sub ∷ subs) db env) (rows : Query) (us : Bag)
        (g : Begun columns outer db env rows us) (given : (b : Row) → IsIn b us → all_known db env b) where
      rest_known : (b : Row) → IsIn b us → others_known db env b
      rest_known b h = splits.rest db env b (given b h)

      rest : (b : Row) → IsIn b us → HasValues db env subs b
      rest b h = splits.values db env b (rest_known b h)

      one : Reached (next rows) db env (λ b c. Contributes db env b sub c) us
      one = step.good columns outer db env (first-fitting f) rows us g (λ b h. splits.one db env b (given b h))

      after : Begun columns outer db env (next rows) one.bag
      after = record {
        more = g.more ++ place_kinds (shape sub.query);
        begins = begins-next columns outer rows g.more f.form g.begins;
        fitting = record {
          formed = step.formed columns outer rows g.more (first-form (columns ∷ outer) f.form) g.begins g.fitting.formed;
          tables = step.tables (λ id kinds. bag_fits (db id) kinds ≡ true) rows g.fitting.tables f.tables.0;
          outer_rows = f.outer_rows;
        };
        good = one.good;
      }

      others-known : (y : Row) → IsIn y one.bag → others_known db env y
      others-known y h =
          let origin = one.extended.back y h in
          subst (others_known db env) origin.4
          (splits.longer columns outer db env (others-fitting f) origin.0 (row-begun g origin.0 origin.2) (rest_known origin.0 origin.2) (flat origin.1))

      last : Reached (others (next rows)) db env (λ b w. EachContributes db env b subs w) one.bag
      last = steps.good columns outer db env (others-fitting f) (next rows) one.bag after others-known

      there : (b : Row) (w : Witness) → IsIn b us → EachContributes db env b (sub ∷ subs) w → IsIn (b ++ flat w) last.bag
      there b w h (one_more {rest = more_lists} _ c first more) =
          subst (λ x. IsIn x last.bag) (flat-behind b c more_lists)
          (last.extended.there (b ++ flat c) more_lists (one.extended.there b c h first)
          (contributes-longer (others-fitting f) b (row-begun g b h) (rest b h) (flat c) more_lists more))

      back : (y : Row) → IsIn y last.bag → (b : Row) × (w : Witness) × IsIn b us × EachContributes db env b (sub ∷ subs) w × (b ++ flat w ≡ y)
      back y h =
          let behind = last.extended.back y h in
          let first = one.extended.back behind.0 behind.2 in
          let b = first.0 in
          let c = first.1 in
          let more : EachContributes db env (b ++ flat c) subs behind.1 = subst (λ x. EachContributes db env x subs behind.1) (sym first.4) behind.3 in (
            b,
            c ++ behind.1,
            first.2,
            one_more sub c first.3 (contributes-shorter (others-fitting f) b (row-begun g b first.2) (rest b first.2) (flat c) behind.1 more),
            sym (flat-behind b c behind.1) ∙ ap (λ x. x ++ flat behind.1) first.4 ∙ behind.4,
          )

      good-more : Reached (others (next rows)) db env (λ b w. EachContributes db env b (sub ∷ subs) w) us
      good-more = record { bag = last.bag; good = last.good; extended = record { there = there; back = back } }

    pub one_step_given : StepsGiven all_known (sub ∷ subs) (λ rows. others (next rows))
    one_step_given = record {
      kinds = kinds-more;
      plain = λ rows plain. steps.plain (next rows) (step.plain rows plain);
      tables = λ P rows of_rows of_subs. steps.tables P (next rows) (step.tables P rows of_rows of_subs.0) of_subs.1;
      formed = λ columns outer rows more f begins formed.
          steps.formed columns outer (next rows) (more ++ place_kinds (shape sub.query)) f.others (begins-next columns outer rows more f begins)
          (step.formed columns outer rows more (first-form (columns ∷ outer) f) begins formed);
      bad = λ columns outer db env f rows faults bad.
          steps.bad columns outer db env (others-fitting f) (next rows) faults (step.bad columns outer db env (first-fitting f) rows faults bad);
      good = good-more;
    }

  -- the values of all are those of the first and of the others
  parts : (db : Database) (env : List Row) (b : Row) → HasValues db env (sub ∷ subs) b → HasValue db env sub b × HasValues db env subs b
  parts db env b all =
      let both = both-is (λ v vs. v ∷ vs) (sublink_value db env b sub) ((subs_denote subs db env).answers b) all.0 all.1 in
      ((both.0, both.2), (both.1, both.3))

  value-splits : Splits sub subs (λ db env b. HasValues db env (sub ∷ subs) b) (λ db env b. HasValue db env sub b) (λ db env b. HasValues db env subs b)
  value-splits = record {
    one = λ db env b all. (parts db env b all).0;
    rest = λ db env b all. (parts db env b all).1;
    values = λ db env b values. values;
    longer = λ columns outer db env f b begins values more. values-longer f b begins values more;
  }

  pub one_step_more : (next others : Query → Query) → Step sub next → Steps subs others → Steps (sub ∷ subs) (λ rows. others (next rows))
  one_step_more next others step steps = one_step_given value-splits next others step steps
