-- The query that answers, of the query that is asked about: its rows that the query over what is left of the table doesn't have. They
-- are looked for among its rows over the rows that go, where it has no others that go.
use Rattle.std.specs.Prelude.{ℕ, Bool, true, cond, ◌&&◌, List, [], map}
use Rattle.perm_values.specs.declared.kind.Kind.{Kind}
use Rattle.perm_values.specs.declared.kind.Kind.TheVariants as kind
use Rattle.perm_values.specs.declared.value.Value.TheVariants.{Boolean}
use Rattle.bag_algebra.specs.FaultFree.{faultless}
use Rattle.bag_algebra.specs.Kinds.{kinds_of}
use Rattle.bag_algebra.specs.built.Patterns.{FilterOf, ProjectOf}
use Rattle.bag_algebra.specs.declared.expr.Expr.{Expr}
use Rattle.bag_algebra.specs.declared.expr.Expr.TheVariants.{Lit}
use Rattle.bag_algebra.specs.declared.query.Query.{Query, end_of-Sublink}
use Rattle.bag_algebra.specs.declared.query.Query.TheVariants.{Table, Union}
use Rattle.contribution.specs.NullItems.{null_item}
use Rattle.delete_impact.specs.reduced.Hiding.{hides_none}
use Rattle.delete_impact.specs.reduced.Reduced.{behind, missing, missing_part}
use Rattle.delete_impact.specs.reduced.Splitting.{splits}

-- FALSE
abbrev pub never : Expr
never = Lit (Boolean Bool.false) kind.Boolean

-- none of these rows, with the faults that they meet
abbrev pub no_row_of : Query → Query
no_row_of q = FilterOf q never [] end_of-Sublink

-- no row of these kinds, with the faults that the condition meets on the rows of the table
abbrev pub looked_through : List Kind → ℕ → List Kind → Expr → Query
looked_through columns id kinds condition =
    ProjectOf (no_row_of (FilterOf (Table id kinds) condition [] end_of-Sublink)) (map null_item columns) [] end_of-Sublink

-- q, which has these columns, with the faults that the condition meets on the rows of the table, where it can meet any
abbrev pub with_faults : Query → List Kind → ℕ → List Kind → Expr → Query
with_faults q columns id kinds condition = cond (faultless condition) q (Union true q (looked_through columns id kinds condition))

-- over what is left of the table q meets no fault that it doesn't meet on the whole table
abbrev pub adds_none : Expr → Query → Bool
adds_none condition q = faultless condition && hides_none q

-- the rows of q that the query over what is left doesn't have; where no join reads the table on both sides they are rows over those that go
abbrev pub lost : ℕ → Expr → Query → Query
lost id condition q = cond (splits id q) (missing_part id condition q) (missing id condition q)

-- which rows of q vanish, where it reads the table with these kinds
abbrev pub vanishing : Query → ℕ → List Kind → Expr → Query
vanishing q id kinds condition =
    cond (adds_none condition q) (lost id condition q) (behind (with_faults q (kinds_of q) id kinds condition) (missing id condition q))
