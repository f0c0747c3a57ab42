-- Nodes over bared sublinks stand for the nodes.
use Rattle.std.proofs.Common.{◌≡◌, true, ◌&&◌, List, [], ◌∷◌, ◌++◌, Result, Ok, Err, IfOk, refl, sym, ◌∙◌}
use Rattle.std.proofs.lemmas.Bool.{and_from}
use Rattle.perm_values.specs.declared.kind.Kind.TheVariants.{Boolean}
use Rattle.perm_values.specs.declared.no_memory.NoMemory.{NoMemory}
use Rattle.perm_values.proofs.Results.{where_made}
use Rattle.perm_values.proofs.Steps.{by}
use Rattle.bag_algebra.proofs.Truths.{left-true, right-true}
use Rattle.bag_algebra.specs.Expressions.{value}
use Rattle.bag_algebra.specs.Kinds.{kinds_of, width_of}
use Rattle.bag_algebra.specs.Meaning.{meaning}
use Rattle.bag_algebra.specs.Means.{joined_rows, kept}
use Rattle.bag_algebra.specs.Outcome.{and_then, both_then, each, gather}
use Rattle.bag_algebra.specs.Rewriting.{is_plain, Stands}
use Rattle.bag_algebra.specs.WellFormed.{HasKind, ItemsForm}
use Rattle.bag_algebra.specs.built.Forms.{EachTable-Filter, EachTable-Project, EachTable-Join, WellFormed-Filter, WellFormed-Project, WellFormed-Join}
use Rattle.bag_algebra.specs.built.Openings.{kinds_of-Filter, kinds_of-Project, kinds_of-Join, meaning-Filter, meaning-Project, meaning-Join}
use Rattle.bag_algebra.specs.built.Scopes.{all_plain, is_plain-Filter, is_plain-Project, is_plain-Join}
use Rattle.bag_algebra.specs.declared.expr.Expr.{Expr}
use Rattle.bag_algebra.specs.declared.expr.Expr.TheVariants.{Sub}
use Rattle.bag_algebra.specs.declared.expr.Item.{Item}
use Rattle.bag_algebra.specs.declared.query.JoinKind.{JoinKind}
use Rattle.bag_algebra.specs.declared.query.Query.{Query}
use Rattle.bag_algebra.specs.declared.query.Query.TheVariants.{Single, Filter, Project, Join}
use Rattle.bag_algebra.specs.declared.query.Sublink.{Sublink}
use Rattle.query_laws.proofs.SameExpressions.{items-themselves, optional-itself, same-itself}
use Rattle.query_laws.proofs.StandingNodes.{stands-Filter, stands-Project, stands-Join}
use Rattle.query_laws.specs.Standing.{SubsStand}
use Rattle.rewrite_core.proofs.Itself.{stands-itself, stands-onward, stands-Single}
use Rattle.simpler_laws.proofs.TestedQueries.{stands-same}
use Rattle.simplifier.proofs.BaredSublinks.{bared-answers, bared-form, bared-kinds, bared-plain, bared-tables}
use Rattle.simplifier.specs.Bare.{AllBared, SubsStandBared}

module _ (q : Query) (plain : is_plain q ≡ true) (subs others : List Sublink) (bared : AllBared subs others) (calm : all_plain subs ≡ true) where
  filter-over : (condition : Expr) → Stands (Filter q condition subs) (Filter q condition others)
  filter-over condition =
      stands-same (Filter q condition subs) (Filter q condition others)
      (is_plain-Filter q condition others ∙ and_from (is_plain q) (all_plain others) plain (bared-plain subs others bared calm))
      (kinds_of-Filter q condition others ∙ sym (kinds_of-Filter q condition subs))
      (λ outer f.
      let g = by (WellFormed-Filter outer q condition subs) f in
      by (sym (WellFormed-Filter outer q condition others)) (record {
        input = g.input;
        subs = bared-form (kinds_of q ∷ outer) subs others bared g.subs;
        condition = by (λ i. HasKind (kinds_of q ∷ outer) (bared-kinds subs others bared i) condition Boolean) g.condition;
      }))
      (λ P h.
      let g = by (EachTable-Filter P q condition subs) h in
      by (sym (EachTable-Filter P q condition others)) (g.0, bared-tables P subs others bared g.1))
      (λ outer db env f h e.
      meaning-Filter db env q condition subs
      ∙ (λ i. and_then (meaning q db env) (gather (kept (λ u. and_then (bared-answers db env subs others bared u i) (value condition u env)))))
      ∙ sym (meaning-Filter db env q condition others))

  project-over : (items : List Item) → Stands (Project q items subs) (Project q items others)
  project-over items =
      stands-same (Project q items subs) (Project q items others)
      (is_plain-Project q items others ∙ and_from (is_plain q) (all_plain others) plain (bared-plain subs others bared calm))
      (kinds_of-Project q items others ∙ sym (kinds_of-Project q items subs))
      (λ outer f.
      let g = by (WellFormed-Project outer q items subs) f in
      by (sym (WellFormed-Project outer q items others)) (record {
        input = g.input;
        subs = bared-form (kinds_of q ∷ outer) subs others bared g.subs;
        items = by (λ i. ItemsForm (kinds_of q ∷ outer) (bared-kinds subs others bared i) items) g.items;
      }))
      (λ P h.
      let g = by (EachTable-Project P q items subs) h in
      by (sym (EachTable-Project P q items others)) (g.0, bared-tables P subs others bared g.1))
      (λ outer db env f h e.
      meaning-Project db env q items subs
      ∙ (λ i. and_then (meaning q db env)
      (each (λ u. and_then (bared-answers db env subs others bared u i) (λ answers. each (λ (item : Item). value item.expr u env answers) items))))
      ∙ sym (meaning-Project db env q items others))

  join-over : (r : Query) → is_plain r ≡ true → (kind : JoinKind) (condition : Expr) → Stands (Join kind q r condition subs) (Join kind q r condition others)
  join-over r right kind condition =
      stands-same (Join kind q r condition subs) (Join kind q r condition others)
      (is_plain-Join kind q r condition others
      ∙ and_from (is_plain q && is_plain r) (all_plain others) (and_from (is_plain q) (is_plain r) plain right) (bared-plain subs others bared calm))
      (kinds_of-Join kind q r condition others ∙ sym (kinds_of-Join kind q r condition subs))
      (λ outer f.
      let g = by (WellFormed-Join outer kind q r condition subs) f in
      let scopes = (kinds_of q ++ kinds_of r) ∷ outer in
      by (sym (WellFormed-Join outer kind q r condition others)) (record {
        left = g.left;
        right = g.right;
        subs = bared-form scopes subs others bared g.subs;
        condition = by (λ i. HasKind scopes (bared-kinds subs others bared i) condition Boolean) g.condition;
      }))
      (λ P h.
      let g = by (EachTable-Join P kind q r condition subs) h in
      by (sym (EachTable-Join P kind q r condition others)) (g.0, g.1, bared-tables P subs others bared g.2))
      (λ outer db env f h e.
      meaning-Join db env kind q r condition subs
      ∙ (λ i. both_then (meaning q db env) (meaning r db env)
      (joined_rows kind (λ w. and_then (bared-answers db env subs others bared w i) (value condition w env)) (width_of q) (width_of r)))
      ∙ sym (meaning-Join db env kind q r condition others))

-- ---- over what is bared of sublinks that stand for the node's

module _ (subs others : List Sublink) (m : SubsStandBared subs others) where
  -- what stands for the sublinks' queries is plain: a filter over the one row shows it
  between-plain : all_plain m.between ≡ true
  between-plain =
      right-true (is_plain Single) (all_plain m.between) (sym (is_plain-Filter Single (Sub 0) m.between)
      ∙ (stands-Filter Single Single stands-Single (Sub 0) (Sub 0) (same-itself (Sub 0)) subs m.between m.stand).plain)

  others-plain : all_plain others ≡ true
  others-plain = bared-plain m.between others m.bared between-plain

  module _ (q : Query) (plain : is_plain q ≡ true) where
    pub filter-bared : (condition : Expr) → Stands (Filter q condition subs) (Filter q condition others)
    filter-bared condition =
        stands-onward (Filter q condition subs) (Filter q condition m.between) (Filter q condition others)
        (stands-Filter q q (stands-itself q plain) condition condition (same-itself condition) subs m.between m.stand)
        (filter-over q plain m.between others m.bared between-plain condition)

    pub project-bared : (items : List Item) → Stands (Project q items subs) (Project q items others)
    project-bared items =
        stands-onward (Project q items subs) (Project q items m.between) (Project q items others)
        (stands-Project q q (stands-itself q plain) items items (items-themselves items) subs m.between m.stand)
        (project-over q plain m.between others m.bared between-plain items)

    pub join-bared : (r : Query) → is_plain r ≡ true → (kind : JoinKind) (condition : Expr) →
        Stands (Join kind q r condition subs) (Join kind q r condition others)
    join-bared r right kind condition =
        stands-onward (Join kind q r condition subs) (Join kind q r condition m.between) (Join kind q r condition others)
        (stands-Join q q (stands-itself q plain) r r (stands-itself r right) kind condition condition (same-itself condition) subs m.between m.stand)
        (join-over q plain m.between others m.bared between-plain r right kind condition)

pub themselves : (subs : List Sublink) → all_plain subs ≡ true → SubsStand subs subs
themselves [] h = tt
themselves (sub ∷ subs) h = (
  record {
    kind = refl;
    tested = optional-itself sub.tested;
    query = stands-itself sub.query (left-true (is_plain sub.query) (all_plain subs) h);
  },
  themselves subs (right-true (is_plain sub.query) (all_plain subs) h),
)

-- what is made over each list of sublinks that the given ones stand for is made over them bared
pub over_bared : (node : List Sublink → Query) (subs : List Sublink) (inside : Result (List Sublink) NoMemory) (result : Result Query NoMemory) →
    ((others : List Sublink) → SubsStandBared subs others → Stands (node subs) (node others)) → IfOk inside (λ others. SubsStandBared subs others) →
    ((originals : List Sublink) → IfOk inside (λ others. SubsStand originals others) → IfOk result (λ p. Stands (node originals) p)) →
    IfOk result (λ p. Stands (node subs) p)
over_bared node subs (Ok others) result law m made =
    where_made (λ p. Stands (node others) p) (λ p. Stands (node subs) p) result (λ p s. stands-onward (node subs) (node others) p (law others m) s)
    (made others (themselves others (others-plain subs others m)))
over_bared node subs (Err error) result law m made = made subs tt
