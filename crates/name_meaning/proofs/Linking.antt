-- What a sublink is made of, its query made around it.
use Rattle.std.specs.Prelude.{◌≡◌, ℕ, ◌+◌, Bool, true, false, cond, not, List, [], ◌∷◌, ◌++◌, length, Option, Some, None}
use Rattle.std.proofs.Common.{refl, ap, sym, subst, ◌∙◌}
use Rattle.std.proofs.lemmas.List.{append-nil}
use Rattle.bag_algebra.specs.declared.expr.Expr.{Expr}
use Rattle.bag_algebra.specs.declared.expr.Expr.TheVariants.{Col, Sub}
use Rattle.bag_algebra.specs.declared.query.Aggr.{Aggr}
use Rattle.bag_algebra.specs.declared.query.SubKind.{SubKind}
use Rattle.bag_algebra.specs.declared.query.SubKind.TheVariants as sub
use Rattle.bag_algebra.specs.declared.query.Sublink.{Sublink}
use Rattle.perm_values.specs.declared.kind.Kind.{Kind}
use Rattle.perm_values.specs.declared.kind.Kind.TheVariants as kind
use Rattle.perm_values.proofs.Lists.{front-none, back-none}
use Rattle.sql_tree.specs.declared.expression.AggWord.{AggWord}
use Rattle.name_meaning.specs.Scopes.{group_count}
use Rattle.name_meaning.specs.Meanings.{Built, Meant, Part, QueryMeant, QueryPart, Surroundings, means_at, query_means_at, broken, broken_if, seen_kind, settled}
use Rattle.name_meaning.specs.Sublinks.{aggregate_kind, aggregate_made, function_of, aggregated, argument_wanted, rows_counted, takes_kind, around_of, breaking, exists_meant, first_kind, if_standing, in_tested, scalar_meant, sub_built, tested_break, tested_kind, tested_looked, tested_meant, tested_unlooked}
use Rattle.name_meaning.specs.nodes.Makes.{before_of, nothing_found, with_found, IsBuilt, Makes, Links}
use Rattle.name_meaning.specs.declared.nodes.within.Within.{Within}
use Rattle.name_meaning.proofs.ArmsMade.{broken-made}
use Rattle.name_meaning.specs.declared.rule.Rule.TheVariants as rule

-- a sublink of a query alone, where one may stand
alone-linked : (may_link : Bool) (kind : SubKind) (query : QueryMeant) (kinds : List Kind) (m : Meant) (wanted : Kind) (e : Expr) (old new : Within)
    → may_link ≡ true → (m.breaks ≡ [] → query.breaks ≡ []) → m.make wanted (before_of old) ≡ sub_built kind None (before_of old) query kinds
    → Links kind None query kinds e old new → Makes may_link m wanted e old new
alone-linked may_link kind query kinds m wanted e old new stands whole is links =
    record {
      makes = λ none. record {
        expr = links.expr ∙ sym (ap (λ (b : Built). b.expr) is);
        found = links.found (whole none)
            ∙ ap (λ (aggregates : List Aggr). record { subs = old.subs ++ record { kind = kind; tested = None; query = query.make kinds } ∷ []; aggregates = aggregates }) (sym (append-nil old.aggregates))
            ∙ sym (ap (λ (b : Built). with_found old b.subs b.aggregates) is);
      };
      unlinked = λ none. let never : true ≡ false = sym stands ∙ none in absurd (cc);
    }

pub exists-linked : (here : Surroundings) (at query_at : ℕ) (wanted : Kind) (query : QueryMeant) (e : Expr) (old new : Within)
    → here.sublinks ≡ true → Links sub.Exists None query [] e old new
    → Makes here.sublinks (if_standing here at (Some kind.Boolean) (exists_meant here query_at query)) wanted e old new
exists-linked here at query_at wanted query e old new stands links =
    subst (λ (stands : Bool). Makes here.sublinks (cond stands (exists_meant here query_at query) (breaking rule.MisplacedSublink at (Some kind.Boolean))) wanted e old new) (sym stands)
    (alone-linked here.sublinks sub.Exists query [] (exists_meant here query_at query) wanted e old new stands (λ whole. whole) refl links)

pub scalar-linked : (here : Surroundings) (at query_at : ℕ) (wanted kind : Kind) (query : QueryMeant) (e : Expr) (old new : Within)
    → here.sublinks ≡ true → kind ≡ settled (first_kind query) wanted → Links sub.Scalar None query (kind ∷ []) e old new
    → Makes here.sublinks (if_standing here at None (scalar_meant here query_at query)) wanted e old new
scalar-linked here at query_at wanted kind query e old new stands is links =
    subst (λ (stands : Bool). Makes here.sublinks (cond stands (scalar_meant here query_at query) (breaking rule.MisplacedSublink at None)) wanted e old new) (sym stands)
    (alone-linked here.sublinks sub.Scalar query (kind ∷ []) (scalar_meant here query_at query) wanted e old new stands
    (λ whole. front-none query.breaks (broken_if _ rule.UnfitWidth query_at) whole)
    (ap (λ (k : Kind). sub_built sub.Scalar None (before_of old) query (k ∷ [])) (sym is)) links)

-- where no sublink may stand, none is looked at
pub unlooked-made : (here : Surroundings) (at : ℕ) (kind : Option Kind) (m : Meant) (wanted : Kind) (e : Expr) (w : Within) → here.sublinks ≡ false
    → Makes here.sublinks (if_standing here at kind m) wanted e w w
unlooked-made here at kind m wanted e w none =
    subst (λ (stands : Bool). Makes here.sublinks (cond stands m (breaking rule.MisplacedSublink at kind)) wanted e w w) (sym none)
    (broken-made (breaking rule.MisplacedSublink at kind) wanted e w [] (broken rule.MisplacedSublink at) refl here.sublinks)

pub untested-made : (here : Surroundings) (at : ℕ) (kind : SubKind) (part : Part) (query : QueryPart) (wanted : Kind) (e : Expr) (w : Within)
    → here.sublinks ≡ false → Makes here.sublinks (tested_meant here at kind part query) wanted e w w
untested-made here at kind part query wanted e w none =
    subst (λ (stands : Bool). Makes here.sublinks (cond stands (tested_looked kind (part.means (in_tested here)) query.at (query.means (around_of here)))
    (tested_unlooked at (part.means (in_tested here)))) wanted e w w) (sym none)
    (broken-made (tested_unlooked at (part.means (in_tested here))) wanted e w (part.means (in_tested here)).breaks (broken rule.MisplacedSublink at) refl here.sublinks)

looked-made : (may_link : Bool) (kind : SubKind) (tested : Meant) (query_at : ℕ) (query : QueryMeant) (common wanted : Kind) (e left : Expr) (old mid new : Within)
    → may_link ≡ true → common ≡ tested_kind tested query
    → Makes false tested common left old mid → Links kind (Some left) query (common ∷ []) e mid new
    → Makes may_link (tested_looked kind tested query_at query) wanted e old new
looked-made may_link kind tested query_at query common wanted e left old mid new stands is made links =
    let built = tested.make common (before_of old) in
    let same : mid.subs ≡ old.subs = made.unlinked refl in
    record {
      makes = λ whole.
          let breaks = front-none (tested.breaks ++ query.breaks) (tested_break (seen_kind tested) query_at query) whole in
          let of_tested = made.makes (front-none tested.breaks query.breaks breaks) in
          let of_query = links.found (back-none tested.breaks query.breaks breaks) in
          subst (λ (k : Kind). IsBuilt (record {
            expr = Sub (length old.subs);
            subs = record { kind = kind; tested = Some (tested.make k (before_of old)).expr; query = query.make (k ∷ []) } ∷ [];
            aggregates = (tested.make k (before_of old)).aggregates;
          }) e old new) is
          (record {
            expr = links.expr ∙ ap (λ (subs : List Sublink). Sub (length subs)) same;
            found = of_query
                ∙ ap (λ (subs : List Sublink). record mid { subs = subs ++ record { kind = kind; tested = Some left; query = query.make (common ∷ []) } ∷ [] }) same
                ∙ ap (λ (w : Within). record { subs = old.subs ++ record { kind = kind; tested = Some left; query = query.make (common ∷ []) } ∷ []; aggregates = w.aggregates }) of_tested.found
                ∙ ap (λ (e : Expr). record { subs = old.subs ++ record { kind = kind; tested = Some e; query = query.make (common ∷ []) } ∷ []; aggregates = old.aggregates ++ built.aggregates }) of_tested.expr;
          });
      unlinked = λ none. let never : true ≡ false = sym stands ∙ none in absurd (cc);
    }

pub tested-made : (here : Surroundings) (at : ℕ) (kind : SubKind) (part : Part) (query : QueryPart) (common wanted : Kind) (e left : Expr) (old mid new : Within)
    → here.sublinks ≡ true → common ≡ tested_kind (means_at part (in_tested here)) (query_means_at query (around_of here))
    → Makes false (means_at part (in_tested here)) common left old mid
    → Links kind (Some left) (query_means_at query (around_of here)) (common ∷ []) e mid new
    → Makes here.sublinks (tested_meant here at kind part query) wanted e old new
unfolding means_at query_means_at
tested-made here at kind part query common wanted e left old mid new stands is made links =
    subst (λ (stands : Bool). Makes here.sublinks (cond stands (tested_looked kind (part.means (in_tested here)) query.at (query.means (around_of here)))
    (tested_unlooked at (part.means (in_tested here)))) wanted e old new) (sym stands)
    (looked-made here.sublinks kind (part.means (in_tested here)) query.at (query.means (around_of here)) common wanted e left old mid new stands is made links)

-- ---- aggregates

-- an aggregate behind the groups and the aggregates so far
pub aggregate-built : (here : Surroundings) (word : AggWord) (kind : Option Kind) (argument : Option Expr) (groups : ℕ) (old new : Within)
    → group_count here.scopes ≡ groups
    → new ≡ record old { aggregates = old.aggregates ++ record { function = function_of word; argument = argument; kind = aggregate_kind word kind } ∷ [] }
    → IsBuilt (aggregate_made here word kind argument (before_of old)) (Col 0 (groups + length old.aggregates)) old new
aggregate-built here word kind argument groups old new counted is =
    let more = old.aggregates ++ record { function = function_of word; argument = argument; kind = aggregate_kind word kind } ∷ [] in
    record {
      expr = ap (λ (n : ℕ). Col 0 (n + length old.aggregates)) (sym counted);
      found = is ∙ ap (λ (subs : List Sublink). record { subs = subs; aggregates = more }) (sym (append-nil old.subs));
    }

pub counted-made : (may_link : Bool) (here : Surroundings) (at : ℕ) (word : AggWord) (wanted : Kind) (e : Expr) (old new : Within)
    → IsBuilt (aggregate_made here word None None (before_of old)) e old new → Makes may_link (rows_counted here at word) wanted e old new
counted-made may_link here at word wanted e old new built =
    record {
      makes = λ _. built;
      unlinked = λ _. ap (λ (w : Within). w.subs) built.found ∙ append-nil old.subs;
    }

pub aggregated-made : (may_link : Bool) (here : Surroundings) (at argument_at : ℕ) (word : AggWord) (argument : Meant) (wanted : Kind) (part e : Expr) (own old new : Within)
    → Makes false argument (argument_wanted word) part nothing_found own
    → IsBuilt (aggregate_made here word (seen_kind argument) (Some part) (before_of old)) e old new
    → Makes may_link (aggregated here at word argument_at argument) wanted e old new
aggregated-made may_link here at argument_at word argument wanted part e own old new made built =
    record {
      makes = λ whole.
          let breaks = front-none argument.breaks (broken_if (not here.aggregates) rule.MisplacedAggregate at)
          (front-none (argument.breaks ++ broken_if (not here.aggregates) rule.MisplacedAggregate at) (broken_if (not (takes_kind word (seen_kind argument))) rule.UnfitKind argument_at) whole) in
          subst (λ (part : Expr). IsBuilt (aggregate_made here word (seen_kind argument) (Some part) (before_of old)) e old new) (made.makes breaks).expr built;
      unlinked = λ _. ap (λ (w : Within). w.subs) built.found ∙ append-nil old.subs;
    }
