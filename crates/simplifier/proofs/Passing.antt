-- What is found of the parts of a node with tests is found of the node.
use Rattle.std.proofs.Common.{◌≡◌, true, ◌&&◌, List, [], ◌++◌, sym, ap, ◌∙◌, subst}
use Rattle.bag_algebra.proofs.Truths.{left-true, right-true}
use Rattle.bag_algebra.specs.FaultFree.{faultless}
use Rattle.bag_algebra.specs.Kinds.{width_of}
use Rattle.bag_algebra.specs.Rewriting.{is_plain, Stands}
use Rattle.bag_algebra.specs.built.FaultFree.{all_fault_free, all_parts_faultless}
use Rattle.bag_algebra.specs.built.Scopes.{all_plain, is_plain-Filter, is_plain-Project, is_plain-Join}
use Rattle.bag_algebra.specs.declared.expr.Expr.{Expr}
use Rattle.bag_algebra.specs.declared.expr.Item.{Item}
use Rattle.bag_algebra.specs.declared.query.JoinKind.{JoinKind}
use Rattle.bag_algebra.specs.declared.query.JoinKind.TheVariants.{Inner}
use Rattle.bag_algebra.specs.declared.query.Query.{Query}
use Rattle.bag_algebra.specs.declared.query.Query.TheVariants.{Filter, Join, Project}
use Rattle.bag_algebra.specs.declared.query.Sublink.{Sublink}
use Rattle.contribution.specs.Conjunctions.{all_hold}
use Rattle.rewrite_core.proofs.Itself.{stands-onward}
use Rattle.simpler_laws.proofs.CalmFilters.{below-faultless, stands-above}
use Rattle.simpler_laws.proofs.ColumnItems.{lowered-faultless, stands-below}
use Rattle.simpler_laws.proofs.InnerJoins.{left-faultless, right-faultless, stands-split}
use Rattle.simpler_laws.proofs.TestedQueries.{all-faultless, stands-filtered}
use Rattle.simpler_laws.specs.Conjuncts.{conjuncts}
use Rattle.simpler_laws.specs.Lowered.{IsLowered}
use Rattle.simpler_laws.specs.Parts.{IsParted}
use Rattle.simpler_laws.specs.Sides.{IsSplit}
use Rattle.simpler_laws.specs.Tested.{tested}
use Rattle.simpler_laws.specs.declared.filters.Parts.{Parts}
use Rattle.simpler_laws.specs.declared.pairs.Sides.{Sides}
use Rattle.simpler_laws.proofs.StandingParts.{first_of, second_of}

module _ (query input : Query) (condition : Expr) (subs : List Sublink) (tests : List Expr) (is : query ≡ Filter input condition subs)
    (plain : is_plain query ≡ true) (safe : all_parts_faultless tests ≡ true) where
  pub filter-input : is_plain input ≡ true
  filter-input = first_of is_plain query (Filter input condition subs) plain is (is_plain input) (all_plain subs) (is_plain-Filter input condition subs)

  pub filter-subs : all_plain subs ≡ true
  filter-subs = second_of is_plain query (Filter input condition subs) plain is (is_plain input) (all_plain subs) (is_plain-Filter input condition subs)

  module _ (none : subs ≡ []) (calm : faultless condition ≡ true) (all : List Expr) (are : all ≡ conjuncts condition ++ tests) where
    pub only-safe : all_parts_faultless all ≡ true
    only-safe = subst (λ es. all_parts_faultless es ≡ true) (sym are) (all-faultless input condition tests filter-input calm safe)

    pub only-passes : (p : Query) → Stands (tested input all) p → Stands (tested query tests) p
    only-passes p s =
        subst (λ q. Stands (tested q tests) p) (sym (is ∙ ap (Filter input condition) none))
        (stands-onward (tested (Filter input condition []) tests) (tested input (conjuncts condition ++ tests)) p
        (stands-filtered input condition tests filter-input calm safe) (subst (λ es. Stands (tested input es) p) are s))

  module _ (calm : faultless condition ≡ true) (quiet : all_fault_free subs ≡ true) (parts : Parts) (parted : IsParted condition tests parts) where
    pub quiet-safe : all_parts_faultless parts.below ≡ true
    quiet-safe = below-faultless input condition subs tests parts parted filter-input filter-subs calm quiet safe

    pub quiet-passes : (p : Query) → Stands (Filter (tested input parts.below) (all_hold parts.above) subs) p → Stands (tested query tests) p
    quiet-passes p s =
        subst (λ q. Stands (tested q tests) p) (sym is)
        (stands-above input condition subs tests parts parted filter-input filter-subs calm quiet safe p s)

module _ (query input : Query) (items : List Item) (subs : List Sublink) (tests : List Expr) (is : query ≡ Project input items subs)
    (plain : is_plain query ≡ true) (safe : all_parts_faultless tests ≡ true) (none : subs ≡ []) (below : List Expr) (lowered : IsLowered items tests below) where
  pub project-input : is_plain input ≡ true
  project-input = first_of is_plain query (Project input items subs) plain is (is_plain input) (all_plain subs) (is_plain-Project input items subs)

  pub project-safe : all_parts_faultless below ≡ true
  project-safe = lowered-faultless input items tests below lowered project-input safe

  pub project-passes : (p : Query) → Stands (Project (tested input below) items []) p → Stands (tested query tests) p
  project-passes p s =
      subst (λ q. Stands (tested q tests) p) (sym (is ∙ ap (Project input items) none)) (stands-below input items tests below lowered project-input safe p s)

module _ (query left right : Query) (kind : JoinKind) (condition : Expr) (subs : List Sublink) (tests : List Expr) (is : query ≡ Join kind left right condition subs)
    (plain : is_plain query ≡ true) (safe : all_parts_faultless tests ≡ true) where
  sides-plain : (is_plain left && is_plain right) ≡ true
  sides-plain =
      first_of is_plain query (Join kind left right condition subs) plain is (is_plain left && is_plain right) (all_plain subs)
      (is_plain-Join kind left right condition subs)

  pub join-left : is_plain left ≡ true
  join-left = left-true (is_plain left) (is_plain right) sides-plain

  pub join-right : is_plain right ≡ true
  join-right = right-true (is_plain left) (is_plain right) sides-plain

  module _ (inner : kind ≡ Inner) (none : subs ≡ []) (calm : faultless condition ≡ true) (sides : Sides)
      (split : IsSplit (width_of left) (width_of right) (conjuncts condition ++ tests) sides) where
    pub left-safe : all_parts_faultless sides.left ≡ true
    left-safe = left-faultless left right condition tests sides split join-left join-right calm safe

    pub right-safe : all_parts_faultless sides.right ≡ true
    right-safe = right-faultless left right condition tests sides split join-left join-right calm safe

    pub join-passes : (p : Query) →
        Stands (tested (Join Inner (tested left sides.left) (tested right sides.right) (all_hold sides.both) []) sides.around) p → Stands (tested query tests) p
    join-passes p s =
        subst (λ q. Stands (tested q tests) p) (sym (is ∙ (λ i. Join (inner i) left right condition (none i))))
        (stands-split left right condition tests sides split join-left join-right calm safe p s)
