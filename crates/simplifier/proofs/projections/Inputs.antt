-- The inputs of filters and joins and the sublinks of filters are theirs alone.
use Rattle.std.proofs.Common.{◌≡◌, List, [], ◌∷◌, sym, ap, ◌∙◌}
use Rattle.bag_algebra.specs.Inputs.{inputs_of, sublinks_of, sublinks-row_of_subs}
use Rattle.bag_algebra.specs.built.Openings.{Filter-is, Join-is}
use Rattle.bag_algebra.specs.declared.expr.Expr.{Expr}
use Rattle.bag_algebra.specs.declared.query.JoinKind.{JoinKind}
use Rattle.bag_algebra.specs.declared.query.Query.{Query}
use Rattle.bag_algebra.specs.declared.query.Query.TheVariants.{Filter, Join}
use Rattle.bag_algebra.specs.declared.query.Sublink.{Sublink}
use Rattle.simpler_laws.proofs.MergedProjects.{one_same}

first_same : (a b c d : Query) → a ∷ c ∷ [] ≡ b ∷ d ∷ [] → a ≡ b
first_same a b c d e = cc

second_same : (a b c d : Query) → a ∷ c ∷ [] ≡ b ∷ d ∷ [] → c ≡ d
second_same a b c d e = cc

pub filter-input : (input other : Query) (condition test : Expr) (subs more : List Sublink) → Filter input condition subs ≡ Filter other test more → input ≡ other
filter-input input other condition test subs more e =
    one_same input other (sym (ap inputs_of (Filter-is input condition subs)) ∙ ap inputs_of e ∙ ap inputs_of (Filter-is other test more))

filter-own : (input : Query) (condition : Expr) (subs : List Sublink) → sublinks_of (Filter input condition subs) ≡ subs
filter-own input condition subs = ap sublinks_of (Filter-is input condition subs) ∙ sublinks-row_of_subs subs

pub filter-sublinks : (input other : Query) (condition test : Expr) (subs more : List Sublink) → Filter input condition subs ≡ Filter other test more → subs ≡ more
filter-sublinks input other condition test subs more e = sym (filter-own input condition subs) ∙ ap sublinks_of e ∙ filter-own other test more

module _ (kind other : JoinKind) (left lefts right rights : Query) (condition test : Expr) (subs more : List Sublink)
    (same : Join kind left right condition subs ≡ Join other lefts rights test more) where
  inputs_same : left ∷ right ∷ [] ≡ lefts ∷ rights ∷ []
  inputs_same = sym (ap inputs_of (Join-is kind left right condition subs)) ∙ ap inputs_of same ∙ ap inputs_of (Join-is other lefts rights test more)

  pub join-left : left ≡ lefts
  join-left = first_same left lefts right rights inputs_same

  pub join-right : right ≡ rights
  join-right = second_same left lefts right rights inputs_same
