-- A sublink of whose query every row contributes has the contributions of an EXISTS over what stands below the groups of its query.
use Rattle.std.proofs.Common.{◌≡◌, List, ◌∷◌, refl, sym, ap, subst}
use Rattle.std.specs.Prelude.{◌↔◌}
use Rattle.null_logic.specs.declared.compare.Compare.{Compare}
use Rattle.perm_values.specs.declared.value.Value.{Value}
use Rattle.perm_values.specs.declared.value.Value.TheVariants.{Null, Boolean}
use Rattle.bag_algebra.proofs.Members.{IsIn, in-member}
use Rattle.bag_algebra.proofs.MembersByIndex.{in-from_contains, contains-from_in}
use Rattle.bag_algebra.proofs.Outcomes.{both_then-parts}
use Rattle.bag_algebra.specs.Bags.{Row, Bag}
use Rattle.bag_algebra.specs.Children.{sublink_value}
use Rattle.bag_algebra.specs.Kinds.{shape}
use Rattle.bag_algebra.specs.Meaning.{Database, denote, meaning, witnesses, optional_value}
use Rattle.bag_algebra.specs.Means.{Witness, all_empty, good_rows, is_some_row, sub_value}
use Rattle.bag_algebra.specs.Outcome.{Good, both_then}
use Rattle.bag_algebra.specs.declared.query.SubKind.{SubKind}
use Rattle.bag_algebra.specs.declared.query.SubKind.TheVariants.{Exists, Any, All, Scalar}
use Rattle.bag_algebra.specs.declared.query.Sublink.{Sublink}
use Rattle.contribution.proofs.ListedRows.{only_rows}
use Rattle.query_laws.specs.SublinkLists.{Contributes, by_row, by_no_row}
use Rattle.rewrite_sublink.specs.Candidates.{exists_in}
use Rattle.rewrite_move.proofs.BelowGroups.{Below, lists-below, shape-below}
use Rattle.rewrite_move.proofs.GivenLists.{Given, of_row, of_none}
use Rattle.rewrite_move.specs.Traced.{below_groups, traced_by, traced_sub}

-- a kind of which every row contributes
pub record ChoosesAll (kind : SubKind) : Type 0 where
  pub any : (c : Compare) → kind ≡ Any c → ⊥
  pub all : (c : Compare) → kind ≡ All c → ⊥

pub exists-all : ChoosesAll Exists
exists-all = record { any = λ c e. cc e; all = λ c e. cc e }

pub scalar-all : ChoosesAll Scalar
scalar-all = record { any = λ c e. cc e; all = λ c e. cc e }

module _ (db : Database) (env : List Row) (b : Row) (sub : Sublink) (chooses : ChoosesAll sub.kind) (x : Value) (bag : Bag)
    (operand : optional_value sub.tested env b ≡ Good x) (good : meaning sub.query db (b ∷ env) ≡ Good bag) where
  pub given-contributes : (c : Witness) → Given (denote sub.query db (b ∷ env)) (all_empty (shape sub.query)) c → Contributes db env b sub c
  given-contributes c (of_row v h) =
      let here = subst (λ o. IsIn v (good_rows o)) good ((only_rows sub.query db (b ∷ env)).row v c h) in
      by_row x bag v operand good (record {
        row = in-member v bag here;
        met = λ d e. absurd (chooses.any d e);
        missed = λ d e. absurd (chooses.all d e);
      }) (contains-from_in c (witnesses sub.query db (b ∷ env) v) h)
  given-contributes c (of_none e empty) = by_no_row e empty

pub contributes-given : (db : Database) (env : List Row) (b : Row) (sub : Sublink) (c : Witness) → Contributes db env b sub c →
    Given (denote sub.query db (b ∷ env)) (all_empty (shape sub.query)) c
contributes-given db env b sub c (by_row x bag v operand good chosen list) = of_row v (in-from_contains c (witnesses sub.query db (b ∷ env) v) list)
contributes-given db env b sub c (by_no_row good empty) = of_none good empty

module _ (db : Database) (env : List Row) (b : Row) (sub : Sublink) (chooses : ChoosesAll sub.kind) (v : Value) (has : sublink_value db env b sub ≡ Good v) where
  parts : (x : Value) × (bag : Bag) × (optional_value sub.tested env b ≡ Good x) × (meaning sub.query db (b ∷ env) ≡ Good bag)
  parts = both_then-parts (optional_value sub.tested env b) (meaning sub.query db (b ∷ env)) (sub_value sub.kind) v has

  below : Below sub.query (below_groups sub.query) db (b ∷ env)
  below = lists-below db (b ∷ env) sub.query parts.1 parts.3

  pub below-value : (w : Value) × (sublink_value db env b (exists_in (below_groups sub.query)) ≡ Good w)
  below-value = (Boolean (is_some_row below.bag), ap (λ o. both_then (Good Null) o (sub_value Exists)) below.good)

  there : (c : Witness) → Contributes db env b sub c → Contributes db env b (exists_in (below_groups sub.query)) c
  there c h =
      given-contributes db env b (exists_in (below_groups sub.query)) exists-all Null below.bag refl below.good c
      (subst (λ places. Given (denote (below_groups sub.query) db (b ∷ env)) (all_empty places) c) (sym (shape-below sub.query))
      (below.alike.there c (contributes-given db env b sub c h)))

  back : (c : Witness) → Contributes db env b (exists_in (below_groups sub.query)) c → Contributes db env b sub c
  back c h =
      given-contributes db env b sub chooses parts.0 parts.1 parts.2 parts.3 c
      (below.alike.back c (subst (λ places. Given (denote (below_groups sub.query) db (b ∷ env)) (all_empty places) c) (shape-below sub.query)
      (contributes-given db env b (exists_in (below_groups sub.query)) c h)))

  pub below-contributes : (c : Witness) → Contributes db env b sub c ↔ Contributes db env b (exists_in (below_groups sub.query)) c
  below-contributes c = (there c, back c)

-- ---- of any kind

kind-chooses : (kind other : SubKind) → kind ≡ other → ChoosesAll other → ChoosesAll kind
kind-chooses kind other e a = subst ChoosesAll (sym e) a

module _ (db : Database) (env : List Row) (b : Row) (sub : Sublink) (v : Value) (has : sublink_value db env b sub ≡ Good v) where
  by_kind : (kind : SubKind) → sub.kind ≡ kind → (c : Witness) → Contributes db env b sub c ↔ Contributes db env b (traced_by kind sub) c
  by_kind Exists e c = below-contributes db env b sub (kind-chooses sub.kind Exists e exists-all) v has c
  by_kind (Any d) e c = (λ h. h, λ h. h)
  by_kind (All d) e c = (λ h. h, λ h. h)
  by_kind Scalar e c = below-contributes db env b sub (kind-chooses sub.kind Scalar e scalar-all) v has c

  value_by : (kind : SubKind) → sub.kind ≡ kind → (w : Value) × (sublink_value db env b (traced_by kind sub) ≡ Good w)
  value_by Exists e = below-value db env b sub (kind-chooses sub.kind Exists e exists-all) v has
  value_by (Any d) e = (v, has)
  value_by (All d) e = (v, has)
  value_by Scalar e = below-value db env b sub (kind-chooses sub.kind Scalar e scalar-all) v has

  pub traced-contributes : (c : Witness) → Contributes db env b sub c ↔ Contributes db env b (traced_sub sub) c
  traced-contributes c = by_kind sub.kind refl c

  pub traced-value : (w : Value) × (sublink_value db env b (traced_sub sub) ≡ Good w)
  traced-value = value_by sub.kind refl
