-- A LEFT JOIN of the rows where an EXISTS or an ANY over a spine is true with the spine's base, on what it asks for, is the inner join of all rows.
use Rattle.std.proofs.Common.{◌≡◌, Bool, true, false, cond, ◌&&◌, List, [], ◌∷◌, ◌++◌, filter, length, refl, sym, ap, ◌∙◌, subst}
use Rattle.std.specs.List.{list_any}
use Rattle.std.proofs.lemmas.Bool.{and_from}
use Rattle.perm_values.specs.declared.kind.Kind.{Kind}
use Rattle.perm_values.specs.declared.kind.Kind.TheVariants as kind
use Rattle.perm_values.specs.declared.value.Value.{Value}
use Rattle.perm_values.proofs.Steps.{by}
use Rattle.bag_algebra.proofs.Members.{IsIn}
use Rattle.bag_algebra.proofs.NeverBad.{good-query, good-value}
use Rattle.bag_algebra.proofs.Outcomes.{good-is}
use Rattle.bag_algebra.proofs.Truths.{left-true, right-true}
use Rattle.bag_algebra.specs.Bags.{Row, Bag}
use Rattle.bag_algebra.specs.Children.{sublink_value, subs_denote}
use Rattle.bag_algebra.specs.Expressions.{value}
use Rattle.bag_algebra.specs.FaultFree.{faultless}
use Rattle.bag_algebra.specs.Fits.{TablesFit, env_fits, bag_fits}
use Rattle.bag_algebra.specs.Kinds.{kinds_of, width_of}
use Rattle.bag_algebra.specs.Meaning.{Database, meaning, condition_on, optional_value}
use Rattle.bag_algebra.specs.Means.{holds_of, is_met, kept, joined_rows, no_subs, sub_value}
use Rattle.bag_algebra.specs.Outcome.{Outcome, Good, Bad, and_then, mapped, both, both_then, gather}
use Rattle.bag_algebra.specs.Rewriting.{is_plain, Stands}
use Rattle.bag_algebra.specs.WellFormed.{HasKind, WellFormed, sub_form}
use Rattle.bag_algebra.specs.built.Forms.{EachTable-Filter, EachTable-Join, WellFormed-Filter, WellFormed-Join}
use Rattle.bag_algebra.specs.built.Openings.{kinds_of-Filter, kinds_of-Join, meaning-Filter, meaning-Join}
use Rattle.bag_algebra.specs.built.Scopes.{all_plain, is_plain-Filter, is_plain-Join}
use Rattle.bag_algebra.specs.declared.expr.Expr.{Expr}
use Rattle.bag_algebra.specs.declared.expr.Expr.TheVariants.{Sub}
use Rattle.bag_algebra.specs.declared.query.JoinKind.{JoinKind}
use Rattle.bag_algebra.specs.declared.query.JoinKind.TheVariants.{Inner, Left}
use Rattle.bag_algebra.specs.declared.query.Query.{Query}
use Rattle.bag_algebra.specs.declared.query.Query.TheVariants.{Filter, Join}
use Rattle.bag_algebra.specs.declared.query.Sublink.{Sublink}
use Rattle.contribution.proofs.Growth.{denote-closed}
use Rattle.contribution.proofs.QueryKinds.{rows_have-kinds}
use Rattle.contribution.proofs.RowKinds.{RowFits, row_fits-length}
use Rattle.contribution.proofs.ValueKinds.{fits-begins}
use Rattle.contribution.proofs.WhereGood.{each-in}
use Rattle.contribution.specs.Fitting.{Fitting}
use Rattle.query_laws.proofs.StandingSublinks.{gather-on}
use Rattle.rewrite_core.proofs.Itself.{stands-onward}
use Rattle.simpler_laws.proofs.TestedQueries.{stands-equal}
use Rattle.query_laws.proofs.SpineForms.{base-formed, spine-fault_free, spine-faultless, spine-tables}
use Rattle.query_laws.proofs.SpineRows.{spine_row, spine-rows}
use Rattle.query_laws.specs.spines.Spines.{IsSpine}
use Rattle.query_laws.specs.declared.spines.spine.Spine.{Spine}
use Rattle.simplifier.proofs.ForcedRows.{forced-rows}
use Rattle.simplifier.proofs.AskedRows.{Holds, is-asked}
use Rattle.simplifier.specs.Forced.{Asks, IsForced}

-- ---- rows where a test is met

gathered-filter : (found : Row → Bool) (us : Bag) → gather (λ u. Good (cond (found u) (u ∷ []) [])) us ≡ Good (filter found us)
gathered-filter found [] = refl
gathered-filter found (u ∷ us) = ap (both (λ y ys. y ++ ys) (Good (cond (found u) (u ∷ []) []))) (gathered-filter found us) ∙ one (found u) where
  one : (b : Bool) → both (λ y ys. y ++ ys) (Good (cond b (u ∷ []) [])) (Good (filter found us)) ≡ Good (cond b (u ∷ filter found us) (filter found us))
  one true = refl
  one false = refl

-- ---- the join

module _ (q : Query) (sub : Sublink) (spine : Spine) (is : IsSpine (width_of q) sub.query spine) (on : Expr) (calm : faultless on ≡ true)
    (asks : Asks sub spine on) where
  abbrev kept_rows : Query
  kept_rows = Filter q (Sub 0) (sub ∷ [])

  abbrev whole : Query
  whole = Join Left (Filter q (Sub 0) (sub ∷ [])) spine.base on []

  abbrev made : Query
  made = Join Inner q spine.base on []

  module _ (outer : List (List Kind)) (db : Database) (env : List Row) (formed : WellFormed outer q) (tables : TablesFit db q) (fits : env_fits env outer ≡ true)
      (inside : WellFormed (kinds_of q ∷ outer) sub.query)
      (fitting : sub_form sub.kind sub.tested (kinds_of q ∷ outer) (kinds_of sub.query)) (sub_tables : TablesFit db sub.query) where
    base-rows : (vs : Bag) × (meaning spine.base db env ≡ Good vs)
    base-rows = good-is (meaning spine.base db env) (good-query spine.base (spine-fault_free is) db env)

    abbrev vs : Bag
    vs = base-rows.0

    base-under : (u : Row) → meaning spine.base db (u ∷ env) ≡ Good vs
    base-under u =
        (λ i. (denote-closed spine.base db (u ∷ env) env (base-formed Inner q sub.query spine is (kinds_of q) outer [] inside) i).rows) ∙ base-rows.1

    base-fitting : Fitting outer spine.base db env
    base-fitting = record {
      formed = base-formed Inner q sub.query spine is (kinds_of q) outer outer inside;
      tables = spine-tables (λ id kinds. bag_fits (db id) kinds ≡ true) is sub_tables;
      outer_rows = fits;
    }

    wide : (v : Row) → IsIn v vs → length v ≡ width_of spine.base
    wide v h = row_fits-length v (kinds_of spine.base) (each-in (RowFits (kinds_of spine.base)) v vs (rows_have-kinds outer spine.base db env vs base-fitting base-rows.1) h).fit

    abbrev tested : Row → Outcome Value
    tested x = value on x env []

    calmly : (x : Row) → (w : Value) × (tested x ≡ Good w)
    calmly x = good-is (tested x) (good-value on calm x env [])

    abbrev found : Row → Bool
    found u = list_any (λ v. is_met (tested (u ++ v))) vs

    module _ (us : Bag) (good : meaning q db env ≡ Good us) where
      left-fitting : Fitting outer q db env
      left-fitting = record { formed = formed; tables = tables; outer_rows = fits }

      row_fits : (u : Row) → IsIn u us → RowFits (kinds_of q) u
      row_fits u h = each-in (RowFits (kinds_of q)) u us (rows_have-kinds outer q db env us left-fitting good) h

      right-is : (u : Row) → IsIn u us → meaning sub.query db (u ∷ env) ≡ gather (λ v. spine_row spine env (u ++ v)) vs
      right-is u h =
          spine-rows (kinds_of q) outer db env u (fits-begins u (kinds_of q) (row_fits u h).fit) (row_fits-length u (kinds_of q) (row_fits u h).fit) vs is inside (base-under u) wide

      asked : (u : Row) → IsIn u us → Holds (sublink_value db env u sub) (found u)
      asked u h =
          subst (λ o. Holds (both_then (optional_value sub.tested env u) o (sub_value sub.kind)) (found u)) (sym (right-is u h))
          (is-asked (kinds_of q) (kinds_of sub.query) outer sub spine on asks calm (spine-faultless is) env u (fits-begins u (kinds_of q) (row_fits u h).fit) fitting vs)

      one-kept : (u : Row) → IsIn u us → kept (condition_on (Sub 0) env (subs_denote (sub ∷ []) db env)) u ≡ Good (cond (found u) (u ∷ []) [])
      one-kept u h =
          (λ i. mapped (λ v. cond (holds_of v) (u ∷ []) []) (and_then (both (λ v rest. v ∷ rest) ((asked u h).good i) (Good [])) (λ answers. value (Sub 0) u env answers)))
          ∙ ap (λ b. Good (cond b (u ∷ []) [])) (asked u h).holds

      filtered : meaning kept_rows db env ≡ Good (filter found us)
      filtered =
          meaning-Filter db env q (Sub 0) (sub ∷ [])
          ∙ ap (λ o. and_then o (gather (kept (condition_on (Sub 0) env (subs_denote (sub ∷ []) db env))))) good
          ∙ gather-on (kept (condition_on (Sub 0) env (subs_denote (sub ∷ []) db env))) (λ u. Good (cond (found u) (u ∷ []) [])) us one-kept
          ∙ gathered-filter found us

    by_left : (o : Outcome Bag) → meaning q db env ≡ o → meaning whole db env ≡ meaning made db env
    by_left (Good us) e =
        meaning-Join db env Left kept_rows spine.base on []
        ∙ (λ i. both_then (filtered us e i) (base-rows.1 i) (joined_rows Left (condition_on on env no_subs) (width_of kept_rows) (width_of spine.base)))
        ∙ forced-rows tested calmly found vs (λ u. refl) (width_of kept_rows) (width_of spine.base) us
        ∙ (λ i. both_then (sym e i) (sym base-rows.1 i) (joined_rows Inner (condition_on on env no_subs) (width_of kept_rows) (width_of spine.base)))
        ∙ sym (meaning-Join db env Inner q spine.base on [])
    by_left (Bad faults) e =
        meaning-Join db env Left kept_rows spine.base on []
        ∙ (λ i. both_then (meaning-Filter db env q (Sub 0) (sub ∷ []) i) (base-rows.1 i) (joined_rows Left (condition_on on env no_subs) (width_of kept_rows) (width_of spine.base)))
        ∙ (λ i. both_then (and_then (e i) (gather (kept (condition_on (Sub 0) env (subs_denote (sub ∷ []) db env))))) (Good vs)
        (joined_rows Left (condition_on on env no_subs) (width_of kept_rows) (width_of spine.base)))
        ∙ (λ i. both_then (sym e i) (sym base-rows.1 i) (joined_rows Inner (condition_on on env no_subs) (width_of q) (width_of spine.base)))
        ∙ sym (meaning-Join db env Inner q spine.base on [])

    pub same-rows : meaning whole db env ≡ meaning made db env
    same-rows = by_left (meaning q db env) refl

  pub stands-forced : is_plain whole ≡ true → Stands whole made
  stands-forced plain =
      let pair = ap (λ b. b && is_plain spine.base && true) (is_plain-Filter q (Sub 0) (sub ∷ [])) in
      let both_sides = sym pair ∙ sym (is_plain-Join Left kept_rows spine.base on []) ∙ plain in
      let sides = left-true ((is_plain q && all_plain (sub ∷ [])) && is_plain spine.base) true both_sides in
      let first = left-true (is_plain q && all_plain (sub ∷ [])) (is_plain spine.base) sides in
      let second = right-true (is_plain q && all_plain (sub ∷ [])) (is_plain spine.base) sides in
      stands-equal whole made
      (is_plain-Join Inner q spine.base on []
      ∙ and_from (is_plain q && is_plain spine.base) true (and_from (is_plain q) (is_plain spine.base) (left-true (is_plain q) (all_plain (sub ∷ [])) first) second) refl)
      (λ outer f. kinds_of-Join Inner q spine.base on [] ∙ ap (λ kinds. kinds ++ kinds_of spine.base) (sym (kinds_of-Filter q (Sub 0) (sub ∷ [])))
      ∙ sym (kinds_of-Join Left kept_rows spine.base on []))
      (λ outer f.
      let g = by (WellFormed-Join outer Left kept_rows spine.base on []) f in
      let h = by (WellFormed-Filter outer q (Sub 0) (sub ∷ [])) g.left in
      by (sym (WellFormed-Join outer Inner q spine.base on [])) (record {
        left = h.input;
        right = g.right;
        subs = tt;
        condition = by (λ i. HasKind ((kinds_of-Filter q (Sub 0) (sub ∷ []) i ++ kinds_of spine.base) ∷ outer) [] on kind.Boolean) g.condition;
      }))
      (λ P h.
      let g = by (EachTable-Join P Left kept_rows spine.base on []) h in
      by (sym (EachTable-Join P Inner q spine.base on [])) ((by (EachTable-Filter P q (Sub 0) (sub ∷ [])) g.0).0, g.1, tt))
      (λ outer db env f t e.
      let g = by (WellFormed-Join outer Left kept_rows spine.base on []) f in
      let h = by (WellFormed-Filter outer q (Sub 0) (sub ∷ [])) g.left in
      let read = by (EachTable-Filter (λ id kinds. bag_fits (db id) kinds ≡ true) q (Sub 0) (sub ∷ []))
      (by (EachTable-Join (λ id kinds. bag_fits (db id) kinds ≡ true) Left kept_rows spine.base on []) t).0 in
      same-rows outer db env h.input read.0 e h.subs.query h.subs.fitting read.1.0)

-- what is made of a LEFT JOIN that is forced stands for what it stands for
pub forced-join : (q query left right rows p : Query) (kind : JoinKind) (test : Expr) (subs : List Sublink) → query ≡ Join kind left right test subs → Stands q query →
    IsForced kind left right test subs → ((input : Query) (condition : Expr) (more : List Sublink) → left ≡ Filter input condition more → rows ≡ input) →
    p ≡ Join Inner rows right test subs → Stands q p
forced-join q query left right rows p kind test subs is s forced rows_is p_is =
    let found = forced.finds in
    let finds = found.finds in
    let from : query ≡ Join Left (Filter found.input (Sub 0) (found.sub ∷ [])) finds.spine.base test [] =
    is ∙ (λ i. Join (forced.keeps i) (found.is i) (sym finds.finds.base i) test (forced.none i)) in
    let to : p ≡ Join Inner found.input finds.spine.base test [] =
    p_is ∙ (λ i. Join Inner (rows_is found.input (Sub 0) (found.sub ∷ []) found.is i) (sym finds.finds.base i) test (forced.none i)) in
    stands-onward q query p s (subst (λ n. Stands n p) (sym from) (subst (Stands (Join Left (Filter found.input (Sub 0) (found.sub ∷ [])) finds.spine.base test [])) (sym to)
    (stands-forced found.input found.sub finds.spine finds.is test forced.calm finds.finds.asks (ap is_plain (sym from) ∙ s.plain))))
