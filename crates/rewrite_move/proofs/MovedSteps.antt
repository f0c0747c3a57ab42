-- What is made of the rows for each sublink is a step, with what the condition forces on it; and the rules by such steps.
use Rattle.std.proofs.Common.{◌≡◌, ℕ, suc, ◌+◌, ◌-◌, Bool, true, false, cond, List, [], ◌∷◌, ◌++◌, length, Option, Some, None, refl, sym, ap, ◌∙◌, subst, arith}
use Rattle.std.specs.List.{range_with_len}
use Rattle.null_logic.specs.Logic.{value_of}
use Rattle.null_logic.specs.declared.compare.Compare.{Compare}
use Rattle.null_logic.specs.declared.truth.Truth.{Truth}
use Rattle.null_logic.specs.declared.truth.Truth.TheVariants.{True, False, Unknown}
use Rattle.perm_values.specs.declared.kind.Kind.{Kind}
use Rattle.perm_values.specs.declared.value.Value.{Value}
use Rattle.perm_values.proofs.Steps.{by}
use Rattle.bag_algebra.proofs.Outcomes.{both-is}
use Rattle.bag_algebra.specs.Bags.{Row}
use Rattle.bag_algebra.specs.built.Forms.{AllSubsForm, SubsForm-row_of_subs}
use Rattle.bag_algebra.specs.Children.{sublink_value, subs_denote}
use Rattle.bag_algebra.specs.Expressions.{has_truth}
use Rattle.bag_algebra.specs.Fits.{row_begins}
use Rattle.bag_algebra.specs.Kinds.{kinds_in, kinds_of, place_kinds, shape, width_of}
use Rattle.bag_algebra.specs.Meaning.{Database}
use Rattle.bag_algebra.specs.Outcome.{Good}
use Rattle.bag_algebra.specs.Rewriting.{IsRewrite}
use Rattle.bag_algebra.specs.WellFormed.{WellFormed}
use Rattle.bag_algebra.specs.declared.expr.Expr.{Expr}
use Rattle.bag_algebra.specs.declared.expr.Item.{Item}
use Rattle.bag_algebra.specs.declared.query.Query.{Query}
use Rattle.bag_algebra.specs.declared.query.Query.TheVariants.{Filter, Project}
use Rattle.bag_algebra.specs.declared.query.SubKind.{SubKind}
use Rattle.bag_algebra.specs.declared.query.SubKind.TheVariants.{Exists, Any, All, Scalar}
use Rattle.bag_algebra.specs.declared.query.Sublink.{Sublink}
use Rattle.contribution.proofs.AddedColumns.{columns-added, subs-same}
use Rattle.contribution.proofs.ColumnQueries.{kinds_of-columns}
use Rattle.contribution.specs.Conjunctions.{always}
use Rattle.lateral_rewrite.proofs.Choosing.{Decides, any-decides, all-decides}
use Rattle.lateral_rewrite.proofs.DependentSteps.{dependent_step}
use Rattle.lateral_rewrite.proofs.PlainSteps.{plain_step}
use Rattle.lateral_rewrite.proofs.Provenance.{kinds-provenance}
use Rattle.lateral_rewrite.specs.Dependent.{all_beside, beside, choice_of, contributed, contributed_by, provenance_of}
use Rattle.lateral_rewrite.specs.declared.choices.Choice.{Choice}
use Rattle.query_laws.proofs.SameExpressions.{same-itself, items-themselves}
use Rattle.query_laws.proofs.StandingNodes.{stands-Filter, stands-Project}
use Rattle.query_laws.specs.Standing.{SubStands, SubsStand}
use Rattle.rewrite_core.proofs.Itself.{stands-itself}
use Rattle.rewrite_core.specs.rewritings.KeptColumns.{kept_places}
use Rattle.rewrite_move.proofs.BelowGroups.{formed-below, shape-below}
use Rattle.rewrite_move.proofs.Forcing.{Held, met-held}
use Rattle.rewrite_move.proofs.KnownValues.{KnownValue, all_known_step, step-known}
use Rattle.rewrite_move.proofs.MatchingSteps.{matching_step}
use Rattle.rewrite_move.proofs.NullSteps.{null_step}
use Rattle.rewrite_move.proofs.TracedSteps.{traced-step}
use Rattle.rewrite_move.specs.ForcedTruths.{forces}
use Rattle.rewrite_move.specs.Moved.{all_moved, matched, moved, moved_by, provenance_kinds, SubsFrom}
use Rattle.rewrite_move.specs.Shares.{compared_share, existing_share, share_of}
use Rattle.rewrite_move.specs.declared.share.Share.TheVariants.{AllRows, MatchingRows}
use Rattle.rewrite_move.specs.Traced.{below_by, below_groups, query_from, traced_by}
use Rattle.rewrite_move.specs.declared.below.Origin.{Origin}
use Rattle.rewrite_move.specs.declared.below.Origin.TheVariants.{Own, Traced}
use Rattle.rewrite_sublink.proofs.AllSublinks.{Splits, no_step, one_step_given}
use Rattle.rewrite_sublink.proofs.FilterRows.{rewrite-Filter_given}
use Rattle.rewrite_sublink.proofs.ProjectRows.{rewrite-Project_with}
use Rattle.rewrite_sublink.proofs.Steps.{SubsFitting, OnRows, Step, StepGiven, Steps, StepsGiven}
use Rattle.rewrite_sublink.specs.Candidates.{answer_columns, beside_row, deciding, exists_in}

-- without a left operand nothing is compared
contributed-untested : (choice : Option Choice) (rows : Query) (stand : Sublink) (r : Query) → contributed_by choice None rows stand r ≡ all_beside rows stand r
contributed-untested None rows stand r = refl
contributed-untested (Some choice) rows stand r = refl

module _ (sub stand : Sublink) (r : Query) (s : SubStands sub stand) where
  -- the rows beside the provenance of all rows of the query of which r is a rewriting
  abbrev rows_of : Query → Query → Query
  rows_of query rows = beside rows (provenance_of r (width_of query))

  -- ---- EXISTS

  places-behind : (own all : ℕ) → kept_places 0 own all ≡ range_with_len own (all - own)
  places-behind own all = let behind : 0 + own ≡ own = omega arith in ap (λ n. range_with_len n (all - n)) behind

  module _ (query : Query) (given : IsRewrite query r) (formed : (scopes : List (List Kind)) → WellFormed scopes sub.query → WellFormed scopes query)
      (places : shape query ≡ shape sub.query) (all : Step sub (rows_of query)) where
    null-kinds : (scopes : List (List Kind)) → AllSubsForm scopes (sub ∷ []) → provenance_kinds r (width_of query) ≡ place_kinds (shape sub.query)
    null-kinds scopes f =
        let own = width_of query in
        ap (kinds_in (kinds_of r)) (sym (places-behind own (width_of r)))
        ∙ sym (kinds_of-columns r (kept_places 0 own (width_of r)))
        ∙ kinds-provenance r own (kinds_of query) (place_kinds (shape query)) (given.kinds scopes (formed scopes f.query)) refl
        ∙ ap place_kinds places

    exists_step : sub.kind ≡ Exists → (known : Option Truth) → StepGiven (KnownValue known sub) sub (λ rows. moved_by (existing_share known) query rows stand r)
    exists_step e None = step-known None sub (rows_of query) all
    exists_step e (Some True) = step-known (Some True) sub (rows_of query) all
    exists_step e (Some False) = null_step sub (provenance_kinds r (width_of query)) e null-kinds
    exists_step e (Some Unknown) = step-known (Some Unknown) sub (rows_of query) all

  -- ---- a rewriting of the sublink's own query

  module _ (own : IsRewrite sub.query r) where
    module _ (choice : Choice) (d : Decides sub.kind choice) where
      matched_by : (tested : Option Expr) → stand.tested ≡ tested → (truth : Truth) → has_truth choice.truth (value_of truth) ≡ true →
          StepGiven (KnownValue (Some truth) sub) sub (λ rows. matched choice tested rows stand r)
      matched_by None e truth chooses =
          step-known (Some truth) sub (λ rows. all_beside rows stand r)
          (subst (λ (next : Query → Query). Step sub next) (λ i. λ rows. contributed-untested (choice_of stand.kind) rows stand r i)
          (subst (λ tested. Step sub (λ rows. contributed_by (choice_of stand.kind) tested rows stand r)) e (dependent_step sub stand r s own)))
      matched_by (Some operand) e truth chooses = matching_step choice operand truth s own d chooses e

      -- by whether the truth is the one that chooses
      told_by : (truth : Truth) (b : Bool) → has_truth choice.truth (value_of truth) ≡ b →
          StepGiven (KnownValue (Some truth) sub) sub (λ rows. moved_by (cond b (MatchingRows choice) AllRows) sub.query rows stand r)
      told_by truth true e = matched_by stand.tested refl truth e
      told_by truth false e = all_known_step sub r choice truth d e own

      compared_step : (known : Option Truth) → StepGiven (KnownValue known sub) sub (λ rows. moved_by (compared_share choice known) sub.query rows stand r)
      compared_step None = step-known None sub (λ rows. contributed rows stand r) (dependent_step sub stand r s own)
      compared_step (Some truth) = told_by truth (has_truth choice.truth (value_of truth)) refl

    any_step : (c : Compare) → sub.kind ≡ Any c → (known : Option Truth) →
        StepGiven (KnownValue known sub) sub (λ rows. moved_by (share_of (Any c) known) sub.query rows stand r)
    any_step c e known =
        let choice : Choice = record { truth = True; compare = c } in
        compared_step choice (subst (λ k. Decides k choice) (sym e) (any-decides c)) known

    all_step : (c : Compare) → sub.kind ≡ All c → (known : Option Truth) →
        StepGiven (KnownValue known sub) sub (λ rows. moved_by (share_of (All c) known) sub.query rows stand r)
    all_step c e known =
        let choice : Choice = record { truth = False; compare = c } in
        compared_step choice (subst (λ k. Decides k choice) (sym e) (all-decides c)) known

    own_by : (kind : SubKind) → sub.kind ≡ kind → (known : Option Truth) →
        StepGiven (KnownValue known sub) sub (λ rows. moved_by (share_of kind known) sub.query rows stand r)
    own_by Exists e = exists_step sub.query own (λ scopes w. w) refl (plain_step sub r (ap deciding e) own) e
    own_by (Any c) e = any_step c e
    own_by (All c) e = all_step c e
    own_by Scalar e = λ known. step-known known sub (rows_of sub.query) (plain_step sub r (ap deciding e) own)

  -- ---- one of what is traced for it

  below_step : (kind : SubKind) → sub.kind ≡ kind → traced_by kind sub ≡ exists_in (below_groups sub.query) → IsRewrite (below_groups sub.query) r →
      Step sub (rows_of (below_groups sub.query))
  below_step kind e traced below =
      traced-step sub (rows_of (below_groups sub.query))
      (subst (λ other. Step other (rows_of (below_groups sub.query))) (sym (ap (λ k. traced_by k sub) e ∙ traced)) (plain_step (exists_in (below_groups sub.query)) r refl below))

  traced_of_kind : (kind : SubKind) → sub.kind ≡ kind → IsRewrite (below_by kind sub.query) r → (known : Option Truth) →
      StepGiven (KnownValue known sub) sub (λ rows. moved_by (share_of kind known) (below_by kind sub.query) rows stand r)
  traced_of_kind Exists e below =
      exists_step (below_groups sub.query) below (λ scopes w. formed-below scopes sub.query w) (shape-below sub.query) (below_step Exists e refl below) e
  traced_of_kind (Any c) e own = any_step own c e
  traced_of_kind (All c) e own = all_step own c e
  traced_of_kind Scalar e below = λ known. step-known known sub (rows_of (below_groups sub.query)) (below_step Scalar e refl below)

  pub moved_step : (origin : Origin) → IsRewrite (query_from origin sub) r → (known : Option Truth) →
      StepGiven (KnownValue known sub) sub (λ rows. moved origin known rows sub stand r)
  moved_step Own given = own_by given sub.kind refl
  moved_step Traced given = traced_of_kind sub.kind refl given

-- ---- one after another

-- the sublinks have values, with what the condition forces on those from a number on
abbrev pub HeldValues : Expr → ℕ → List Sublink → OnRows
HeldValues condition at subs db env b = (values : List Value) × ((subs_denote subs db env).answers b ≡ Good values) × Held condition at values

held-none : (condition : Expr) (at : ℕ) → StepsGiven (HeldValues condition at []) [] (λ rows. rows)
held-none condition at = record {
  kinds = no_step.kinds;
  plain = no_step.plain;
  tables = no_step.tables;
  formed = no_step.formed;
  bad = no_step.bad;
  good = λ columns outer db env f rows us g given. no_step.good columns outer db env f rows us g (λ b h. let held = given b h in (held.0, held.1));
}

module _ (condition : Expr) (at : ℕ) (sub : Sublink) (subs : List Sublink) where
  parted : (db : Database) (env : List Row) (b : Row) → HeldValues condition at (sub ∷ subs) db env b →
      KnownValue (forces condition at) sub db env b × HeldValues condition (suc at) subs db env b
  parted db env b held =
      let both = both-is (λ v vs. v ∷ vs) (sublink_value db env b sub) ((subs_denote subs db env).answers b) held.0 held.1 in
      let each : Held condition at (both.0 ∷ both.1) = subst (Held condition at) (sym both.4) held.2 in
      ((both.0, both.2, each.0), (both.1, both.3, each.1))

  -- the same values stand on longer rows
  longer : (columns : List Kind) (outer : List (List Kind)) (db : Database) (env : List Row) → SubsFitting columns outer subs db env → (b : Row) →
      row_begins b columns ≡ true → HeldValues condition (suc at) subs db env b → (more : Row) → HeldValues condition (suc at) subs db env (b ++ more)
  longer columns outer db env f b begins held more =
      let same =
      subs-same (columns ∷ outer) subs db b (b ++ more) env env (by (sym (SubsForm-row_of_subs (columns ∷ outer) subs)) f.form) (columns-added columns outer b more env begins) in
      (held.0, sym same.0 ∙ held.1, held.2)

  splits : Splits sub subs (HeldValues condition at (sub ∷ subs)) (KnownValue (forces condition at) sub) (HeldValues condition (suc at) subs)
  splits = record {
    one = λ db env b held. (parted db env b held).0;
    rest = λ db env b held. (parted db env b held).1;
    values = λ db env b held. (held.0, held.1);
    longer = longer;
  }

pub moved_steps : (origin : Origin) (condition : Expr) (at : ℕ) (subs standing : List Sublink) (rewritings : List Query) → SubsStand subs standing →
    SubsFrom origin subs rewritings → StepsGiven (HeldValues condition at subs) subs (λ rows. all_moved origin condition at rows subs standing rewritings)
moved_steps origin condition at [] [] [] s r = held-none condition at
moved_steps origin condition at [] [] (p ∷ ps) s r = absurd r
moved_steps origin condition at [] (stand ∷ standing) rewritings s r = absurd s
moved_steps origin condition at (sub ∷ subs) [] rewritings s r = absurd s
moved_steps origin condition at (sub ∷ subs) (stand ∷ standing) [] s r = absurd r
moved_steps origin condition at (sub ∷ subs) (stand ∷ standing) (p ∷ ps) s r =
    one_step_given sub subs (splits condition at sub subs) (λ rows. moved origin (forces condition at) rows sub stand p)
    (λ rows. all_moved origin condition (suc at) rows subs standing ps) (moved_step sub stand p s.0 origin r.0 (forces condition at))
    (moved_steps origin condition (suc at) subs standing ps s.1 r.1)

-- TRUE forces nothing
free-held : (at : ℕ) (values : List Value) → Held always at values
free-held at [] = tt
free-held at (v ∷ vs) = (tt, free-held (suc at) vs)

free_steps : (origin : Origin) (subs standing : List Sublink) (rewritings : List Query) → SubsStand subs standing → SubsFrom origin subs rewritings →
    Steps subs (λ rows. all_moved origin always 0 rows subs standing rewritings)
free_steps origin subs standing rewritings s r =
    let steps = moved_steps origin always 0 subs standing rewritings s r in
    record {
      kinds = steps.kinds;
      plain = steps.plain;
      tables = steps.tables;
      formed = steps.formed;
      bad = steps.bad;
      good = λ columns outer db env f rows us g values.
          steps.good columns outer db env f rows us g (λ b h. let has = values b h in (has.0, has.1, free-held 0 has.0));
    }

module _ (origin : Origin) (q r : Query) where
  pub filter-moved : (condition : Expr) (subs standing : List Sublink) (rewritings : List Query) → IsRewrite q r → SubsStand subs standing → SubsFrom origin subs rewritings →
      IsRewrite (Filter q condition subs) (all_moved origin condition 0 (Filter r condition standing) subs standing rewritings)
  filter-moved condition subs standing rewritings given stand traced =
      rewrite-Filter_given q r (Filter r condition standing) condition subs (λ rows. all_moved origin condition 0 rows subs standing rewritings) given
      (stands-Filter r r (stands-itself r given.plain) condition condition (same-itself condition) subs standing stand)
      (λ db env b met. met-held condition subs db env b met) (moved_steps origin condition 0 subs standing rewritings stand traced)

  pub project-moved : (items : List Item) (subs standing : List Sublink) (rewritings : List Query) → IsRewrite q r → SubsStand subs standing → SubsFrom origin subs rewritings →
      IsRewrite (Project q items subs)
      (answer_columns (all_moved origin always 0 (Project r (beside_row r items) standing) subs standing rewritings) (width_of q) (width_of r) (length items))
  project-moved items subs standing rewritings given stand traced =
      rewrite-Project_with q r (Project r (beside_row r items) standing) items subs (λ rows. all_moved origin always 0 rows subs standing rewritings) given
      (stands-Project r r (stands-itself r given.plain) (beside_row r items) (beside_row r items) (items-themselves (beside_row r items)) subs standing stand)
      (free_steps origin subs standing rewritings stand traced)
