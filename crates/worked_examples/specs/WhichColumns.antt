-- Which columns of its outer rows a query reads, worked out: by the row's level, 0 being the nearest, and the place.
use Rattle.std.specs.Prelude.{◌≡◌, true, [], ◌∷◌, Some, None, refl}
use Rattle.perm_values.specs.declared.kind.Kind.TheVariants as kind
use Rattle.bag_algebra.specs.built.Patterns.{AggregateOf, ApplyOf, JoinOf, ProjectOf, UnionOf}
use Rattle.bag_algebra.specs.declared.expr.Expr.TheVariants.{Col}
use Rattle.bag_algebra.specs.declared.query.AggFn.TheVariants.{Sum}
use Rattle.bag_algebra.specs.declared.query.JoinKind.TheVariants.{Inner}
use Rattle.bag_algebra.specs.declared.query.Query.{end_of-Sublink}
use Rattle.query_facts.specs.reached.reads.Columns.{column_at, columns_of}
use Rattle.worked_examples.specs.ReadColumns.{asking, reading}
use Rattle.worked_examples.specs.RewrittenRows.{table}

no-column : columns_of (table 1) ≡ []
no-column = refl

own-row : columns_of (reading 0 2) ≡ []
own-row = refl

nearest-outer-row : columns_of (reading 1 2) ≡ column_at 0 2 ∷ []
nearest-outer-row = refl

row-further-out : columns_of (reading 2 2) ≡ column_at 1 2 ∷ []
row-further-out = refl

row-of-sublinks-node : columns_of (asking None (reading 1 2)) ≡ []
row-of-sublinks-node = refl

sublink : columns_of (asking None (reading 2 2)) ≡ column_at 0 2 ∷ []
sublink = refl

left-operand : columns_of (asking (Some (Col 1 4)) (reading 3 2)) ≡ column_at 0 4 ∷ column_at 1 2 ∷ []
left-operand = refl

both-sides : columns_of (UnionOf true (reading 1 0) (reading 1 2)) ≡ column_at 0 0 ∷ column_at 0 2 ∷ []
both-sides = refl

under-left-rows : columns_of (ApplyOf Inner (reading 1 5) (UnionOf true (reading 1 0) (reading 2 3))) ≡ column_at 0 5 ∷ column_at 0 3 ∷ []
under-left-rows = refl

items : columns_of (ProjectOf (reading 1 3) (record { expr = Col 1 0; kind = kind.Integer } ∷ []) [] end_of-Sublink) ≡ column_at 0 3 ∷ column_at 0 0 ∷ []
items = refl

condition-of-join : columns_of (JoinOf Inner (table 1) (reading 1 1) (Col 1 6) [] end_of-Sublink) ≡ column_at 0 1 ∷ column_at 0 6 ∷ []
condition-of-join = refl

argument-of-aggregate : columns_of (AggregateOf (reading 2 8) [] (record { function = Sum; argument = Some (Col 1 1); kind = kind.Integer } ∷ [])) ≡ column_at 1 8 ∷ column_at 0 1 ∷ []
argument-of-aggregate = refl
