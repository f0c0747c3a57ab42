-- What stands below the groups of queries that the constructors of code make.
use Rattle.std.proofs.Common.{◌≡◌, Bool, true, false, cond, List, [], ◌∷◌, refl, sym, ap, ◌∙◌}
use Rattle.bag_algebra.specs.built.Openings.{row_of_subs, shape_of_subs, Project_with-is}
use Rattle.bag_algebra.specs.built.Patterns.{ProjectOf}
use Rattle.bag_algebra.specs.built.Scopes.{no_subs-row_of_subs}
use Rattle.bag_algebra.specs.Scoped.{no_subs as has_none}
use Rattle.bag_algebra.specs.declared.expr.Item.{Item}
use Rattle.bag_algebra.specs.declared.query.Query.{Query}
use Rattle.bag_algebra.specs.declared.query.Query.TheVariants.{Project}
use Rattle.bag_algebra.specs.declared.query.Sublink.{Sublink}
use Rattle.rewrite_move.specs.Traced.{below_groups}

module _ (input : Query) (items : List Item) where
  by-subs : (subs : List Sublink) (b : Bool) → has_none (row_of_subs subs) ≡ b →
      below_groups (Project input items subs) ≡ cond b (below_groups input) (ProjectOf input items (shape_of_subs subs) (row_of_subs subs))
  by-subs subs b e =
      ap below_groups (Project_with-is input items subs)
      ∙ ap (λ b. cond b (below_groups input) (ProjectOf input items (shape_of_subs subs) (row_of_subs subs))) e

  pub below-no_subs : (subs : List Sublink) → subs ≡ [] → below_groups (Project input items subs) ≡ below_groups input
  below-no_subs subs e = ap (λ subs. below_groups (Project input items subs)) e ∙ by-subs [] true (no_subs-row_of_subs [])

  pub below-some_subs : (subs : List Sublink) → (subs ≡ [] → ⊥) → below_groups (Project input items subs) ≡ Project input items subs
  below-some_subs [] some = absurd (some refl)
  below-some_subs (sub ∷ subs) some = by-subs (sub ∷ subs) false (no_subs-row_of_subs (sub ∷ subs)) ∙ sym (Project_with-is input items (sub ∷ subs))

-- a query that stays as it is
pub stays : (q made opened : Query) → q ≡ made → made ≡ opened → below_groups opened ≡ opened → q ≡ below_groups q
stays q made opened is opening e = is ∙ opening ∙ sym e ∙ sym (ap below_groups (is ∙ opening))
