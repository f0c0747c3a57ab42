-- A filter on TRUE is its input, and nodes over folded expressions and simple queries are simple.
use Rattle.std.proofs.Common.{◌≡◌, ℕ, true, false, cond, ◌&&◌, not, List, [], ◌∷◌, ◌++◌, refl, sym, ap, ◌∙◌, subst, true≢false}
use Rattle.bag_algebra.proofs.Truths.{both-true, left-true, right-true}
use Rattle.bag_algebra.specs.Rewriting.{is_plain, Stands}
use Rattle.bag_algebra.specs.built.Patterns.{OpOf, ChainOf, CaseOf, IsNullOf, IsTruthOf, SameOf}
use Rattle.bag_algebra.specs.built.Scopes.{without_subs}
use Rattle.bag_algebra.specs.declared.expr.Expr.{Expr}
use Rattle.bag_algebra.specs.declared.expr.Expr.TheVariants.{Col, Lit, Sub}
use Rattle.bag_algebra.specs.declared.expr.Item.{Item}
use Rattle.bag_algebra.specs.declared.query.Aggr.{Aggr}
use Rattle.bag_algebra.specs.declared.query.JoinKind.{JoinKind}
use Rattle.bag_algebra.specs.declared.query.Query.{Query}
use Rattle.bag_algebra.specs.declared.query.Query.TheVariants.{Filter, Project, Join, Aggregate}
use Rattle.bag_algebra.specs.declared.query.Sublink.{Sublink}
use Rattle.query_laws.proofs.StandingNodes.{stands-Filter}
use Rattle.query_laws.specs.EveryExpression.{option_passes, items_pass, arguments_pass}
use Rattle.query_laws.specs.SameExpressions.{SameExpr}
use Rattle.query_laws.specs.Standing.{SubsStand}
use Rattle.rewrite_core.proofs.Itself.{stands-onward}
use Rattle.simpler_laws.proofs.TestedQueries.{stands-filtered}
use Rattle.simpler_laws.specs.Tested.{tested}
use Rattle.folded_literals.proofs.Settling.{all-more}
use Rattle.folded_literals.specs.Settled.{is_settled}
use Rattle.folded_literals.specs.Simple.{is_true, is_simple}
use Rattle.folded_literals.specs.built.Simple.{all_simple, simple-Filter, simple-Project, simple-Join, simple-Aggregate}

-- ---- a filter on TRUE

stands-true : (e : Expr) → is_true e ≡ true → (b : Query) → is_plain b ≡ true → Stands (Filter b e []) b
stands-true (Col level place) h b plain = absurd (true≢false (sym h))
stands-true (Lit v kind) h b plain =
    subst (λ (es : List Expr). Stands (Filter b (Lit v kind) []) (tested b (es ++ []))) (ap (λ c. cond c [] (Lit v kind ∷ [])) h)
    (stands-filtered b (Lit v kind) [] plain refl refl)
stands-true (OpOf op _ parts) h b plain = absurd (true≢false (sym h))
stands-true (ChainOf first _ steps) h b plain = absurd (true≢false (sym h))
stands-true (CaseOf _ arms otherwise) h b plain = absurd (true≢false (sym h))
stands-true (Sub number) h b plain = absurd (true≢false (sym h))
stands-true (IsNullOf part) h b plain = absurd (true≢false (sym h))
stands-true (IsTruthOf truth part) h b plain = absurd (true≢false (sym h))
stands-true (SameOf first second) h b plain = absurd (true≢false (sym h))

no_subs : (subs : List Sublink) → without_subs subs ≡ true → subs ≡ []
no_subs [] h = refl
no_subs (sub ∷ subs) h = absurd (true≢false (sym h))

module _ (e : Expr) (subs : List Sublink) where
  pub kept-all : (q b : Query) (condition : Expr) (originals : List Sublink) → Stands q b → SameExpr condition e → SubsStand originals subs →
      (is_true e && without_subs subs) ≡ true → Stands (Filter q condition originals) b
  kept-all q b condition originals s same t h =
      let none : subs ≡ [] = no_subs subs (right-true (is_true e) (without_subs subs) h) in
      stands-onward (Filter q condition originals) (Filter b e []) b
      (stands-Filter q b s condition e same originals [] (subst (SubsStand originals) none t))
      (stands-true e (left-true (is_true e) (without_subs subs) h) b s.plain)

  -- ---- simple nodes

  pub filter-simple : (b : Query) → is_simple b ≡ true → is_settled e ≡ true → all_simple subs ≡ true → (is_true e && without_subs subs) ≡ false →
      is_simple (Filter b e subs) ≡ true
  filter-simple b h s k other = simple-Filter b e subs ∙ (λ i. (h i && k i) && (s i && not (other i)))

pub project-simple : (b : Query) (items : List Item) (subs : List Sublink) → is_simple b ≡ true → items_pass is_settled items ≡ true → all_simple subs ≡ true →
    is_simple (Project b items subs) ≡ true
project-simple b items subs h s k = simple-Project b items subs ∙ (λ i. (h i && k i) && s i)

pub join-simple : (kind : JoinKind) (b d : Query) (e : Expr) (subs : List Sublink) → is_simple b ≡ true → is_simple d ≡ true → is_settled e ≡ true →
    all_simple subs ≡ true → is_simple (Join kind b d e subs) ≡ true
join-simple kind b d e subs h g s k = simple-Join kind b d e subs ∙ (λ i. ((h i && g i) && k i) && s i)

pub aggregate-simple : (b : Query) (groups : List ℕ) (aggregates : List Aggr) → is_simple b ≡ true → arguments_pass is_settled aggregates ≡ true →
    is_simple (Aggregate b groups aggregates) ≡ true
aggregate-simple b groups aggregates h s = simple-Aggregate b groups aggregates ∙ (λ i. h i && s i)

pub sublinks-simple : (subs : List Sublink) (sub : Sublink) → all_simple subs ≡ true → option_passes is_settled sub.tested ≡ true → is_simple sub.query ≡ true →
    all_simple (subs ++ sub ∷ []) ≡ true
sublinks-simple subs sub h t s =
    all-more (λ (sub : Sublink). option_passes is_settled sub.tested && is_simple sub.query) subs (subs ++ sub ∷ []) sub h
    (both-true (option_passes is_settled sub.tested) (is_simple sub.query) t s) refl
