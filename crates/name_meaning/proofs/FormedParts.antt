-- What is well formed, put together from parts.
use Rattle.std.specs.Prelude.{ℕ, ◌+◌, List, [], ◌∷◌, ◌++◌, length}
use Rattle.std.proofs.Common.{refl, subst}
use Rattle.std.proofs.lemmas.List.{length-map, map-append}
use Rattle.std.proofs.lemmas.List.Elements.{All-nil, All-append}
use Rattle.perm_values.specs.declared.kind.Kind.{Kind}
use Rattle.bag_algebra.specs.built.Forms.{AllSubsForm, subs_kinds}
use Rattle.bag_algebra.specs.Kinds.{kinds_of}
use Rattle.bag_algebra.specs.WellFormed.{AggregatesForm, aggr_form, sub_kind}
use Rattle.bag_algebra.specs.declared.query.Aggr.{Aggr}
use Rattle.bag_algebra.specs.declared.query.Sublink.{Sublink}
use Rattle.name_meaning.specs.Meanings.{Surroundings, Before}
use Rattle.name_meaning.specs.Operands.{behind}
use Rattle.name_meaning.specs.laws.Formed.{IsFormed}
use Rattle.name_meaning.specs.laws.Standing.{StandAt, RowsHold}
use Rattle.name_meaning.proofs.Standing.{stand-append, aggregates-append}

pub subs-append : (rows : List (List Kind)) (xs ys : List Sublink) → AllSubsForm rows xs → AllSubsForm rows ys → AllSubsForm rows (xs ++ ys)
subs-append rows [] ys f g = g
subs-append rows (x ∷ xs) ys f g = record { query = f.query; fitting = f.fitting; others = subs-append rows xs ys f.others g }

stand-subs : (n : ℕ) (s t : List Sublink) (kinds : List Kind) → StandAt n (subs_kinds (s ++ t)) kinds
    → StandAt n (subs_kinds s) kinds × StandAt (n + length s) (subs_kinds t) kinds
stand-subs n s t kinds h =
    let kind : Sublink → Kind = λ (sub : Sublink). sub_kind sub.kind (kinds_of sub.query) in
    let split = stand-append n (subs_kinds s) (subs_kinds t) kinds (subst (λ ks. StandAt n ks kinds) (map-append kind s t) h) in
    (split.0, subst (λ m. StandAt (n + m) (subs_kinds t) kinds) (length-map s kind) split.1)

pub none-formed : (rows : List (List Kind)) → AggregatesForm rows []
none-formed rows = All-nil (λ (aggregate : Aggr). aggr_form aggregate.function aggregate.argument rows aggregate.kind)

module _ (here : Surroundings) (n : Before) where
  pub formed-none : (Holds : List (List Kind) → List Kind → Type 0)
      → ((rows : List (List Kind)) (kinds : List Kind) → RowsHold here.scopes rows → Holds rows kinds) → IsFormed here n [] [] Holds
  formed-none Holds h = record {
    holds = λ rows kinds hold stand subs. h rows kinds hold;
    subs_formed = λ rows hold stand. tt;
    aggregates_formed = λ rows hold. none-formed rows;
    without_subs = λ no. refl;
    without_aggregates = λ no. refl;
  }

  pub formed-map : (s : List Sublink) (a : List Aggr) (H G : List (List Kind) → List Kind → Type 0)
      → ((rows : List (List Kind)) (kinds : List Kind) → H rows kinds → G rows kinds) → IsFormed here n s a H → IsFormed here n s a G
  formed-map s a H G f h = record {
    holds = λ rows kinds hold stand subs. f rows kinds (h.holds rows kinds hold stand subs);
    subs_formed = h.subs_formed;
    aggregates_formed = h.aggregates_formed;
    without_subs = h.without_subs;
    without_aggregates = h.without_aggregates;
  }

  pub formed-both : (s t : List Sublink) (a b : List Aggr) (H G : List (List Kind) → List Kind → Type 0)
      → IsFormed here n s a H → IsFormed here (behind n s a) t b G
      → IsFormed here n (s ++ t) (a ++ b) (λ (rows : List (List Kind)) (kinds : List Kind). H rows kinds × G rows kinds)
  formed-both s t a b H G f g = record {
    holds = λ rows kinds hold stand subs.
        let aggregates = aggregates-append here.scopes n.aggregates a b rows stand in
        let sublinks = stand-subs n.subs s t kinds subs in
        (f.holds rows kinds hold aggregates.0 sublinks.0, g.holds rows kinds hold aggregates.1 sublinks.1);
    subs_formed = λ rows hold stand.
        let aggregates = aggregates-append here.scopes n.aggregates a b rows stand in
        subs-append rows s t (f.subs_formed rows hold aggregates.0) (g.subs_formed rows hold aggregates.1);
    aggregates_formed = λ rows hold.
        All-append (λ (aggregate : Aggr). aggr_form aggregate.function aggregate.argument rows aggregate.kind) a b
        (f.aggregates_formed rows hold) (g.aggregates_formed rows hold);
    without_subs = λ no i. f.without_subs no i ++ g.without_subs no i;
    without_aggregates = λ no i. f.without_aggregates no i ++ g.without_aggregates no i;
  }
