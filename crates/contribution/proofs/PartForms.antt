-- Kinds and values of expressions that the constructors of code make, in words on plain lists of parts.
use Rattle.std.proofs.Common.{List, [], ◌∷◌}
use Rattle.perm_values.specs.declared.kind.Kind.{Kind}
use Rattle.bag_algebra.specs.built.Openings.{row_of_parts}
use Rattle.bag_algebra.specs.WellFormed.{HasKind, PartsHave}
use Rattle.bag_algebra.specs.declared.expr.Expr.{Expr}
use Rattle.bag_algebra.specs.declared.expr.Expr.TheBlock.{shape-the_row-Expr-0, hidden-the_row-Expr-0}

module _ (scopes : List (List Kind)) (subs : List Kind) (kind : Kind) where
  pub no_parts-have : PartsHave scopes subs (row_of_parts []) kind
  unfolding shape-the_row-Expr-0 hidden-the_row-Expr-0 package.denote.Hole.Carrier.hidden
  no_parts-have = tt

  pub more_parts-have : (part : Expr) (parts : List Expr) → HasKind scopes subs part kind → PartsHave scopes subs (row_of_parts parts) kind →
      PartsHave scopes subs (row_of_parts (part ∷ parts)) kind
  unfolding shape-the_row-Expr-0 hidden-the_row-Expr-0 package.denote.Hole.Carrier.hidden
  more_parts-have part parts first rest = (first, rest)
