-- Worked examples of the measures and tests: queries over one table of one column, with sublinks in sublinks.
use Rattle.std.specs.Prelude.{◌≡◌, ℕ, true, false, [], ◌∷◌, Some, None, refl, codes}
use Rattle.null_logic.specs.declared.arith.Arith.TheVariants.{Add}
use Rattle.perm_values.specs.declared.kind.Kind.TheVariants as kind
use Rattle.bag_algebra.specs.Closed.{is_closed}
use Rattle.bag_algebra.specs.FaultFree.{fault_free}
use Rattle.bag_algebra.specs.Kinds.{width_of}
use Rattle.bag_algebra.specs.Measures.{height_of, size_of}
use Rattle.bag_algebra.specs.built.Patterns.{ChainOf, BaseOf, FilterOf, ProjectOf, ApplyOf, UnionOf, DistinctOf, AggregateOf, ProvOf}
use Rattle.bag_algebra.specs.Rewriting.{is_plain}
use Rattle.bag_algebra.specs.Scoped.{over_tables}
use Rattle.bag_algebra.specs.declared.expr.Expr.{more_of-ChainStep, end_of-ChainStep}
use Rattle.bag_algebra.specs.declared.expr.Expr.TheVariants.{Col, Sub}
use Rattle.bag_algebra.specs.declared.query.AggFn.{AggFn}
use Rattle.bag_algebra.specs.declared.query.AggFn.TheVariants.{CountRows, Sum}
use Rattle.bag_algebra.specs.declared.query.JoinKind.TheVariants.{Inner}
use Rattle.bag_algebra.specs.declared.query.Label.TheVariants.{Relation}
use Rattle.bag_algebra.specs.declared.query.SubKind.{SubKind}
use Rattle.bag_algebra.specs.declared.query.SubKind.TheVariants.{Exists, Scalar}
use Rattle.bag_algebra.specs.declared.query.Query.{Query, more_of-Sublink, end_of-Sublink}
use Rattle.bag_algebra.specs.declared.query.Query.TheVariants.{Table, Single}

abbrev table : Query
table = Table 1 (kind.Integer ∷ [])

-- SELECT c FROM t WHERE .., where the condition is a column of this level
abbrev reading : ℕ → Query
reading level = FilterOf table (Col level 0) [] end_of-Sublink

-- SELECT c FROM t WHERE .., where the condition is a sublink of this kind over the query
abbrev asking : SubKind → Query → Query
asking kind query = FilterOf table (Sub 0) (tt ∷ []) (more_of-Sublink kind None query end_of-Sublink)

abbrev source : Query → Query
source query = BaseOf query (0 ∷ []) (Relation (codes "t") (codes "c" ∷ []))

abbrev counting : AggFn → Query
counting function = AggregateOf table [] (record { function = function; argument = Some (Col 0 0); kind = kind.Integer } ∷ [])

-- ---- measures

table-height : height_of table ≡ 1
table-height = refl

sublink-height : height_of (asking Exists (asking Exists (reading 0))) ≡ 4
sublink-height = refl

union-height : height_of (UnionOf true Single (DistinctOf (DistinctOf table))) ≡ 4
union-height = refl

sublink-size : size_of (asking Exists (asking Exists (reading 0))) ≡ 6
sublink-size = refl

provenance-width : width_of (ProvOf (UnionOf true (source table) (source table))) ≡ 3
provenance-width = refl

-- ---- what outer rows are read

own-row : is_closed (reading 0) ≡ true
own-row = refl

outer-row : is_closed (reading 1) ≡ false
outer-row = refl

correlated : is_closed (asking Exists (reading 1)) ≡ true
correlated = refl

open-sublink : is_closed (asking Exists (reading 2)) ≡ false
open-sublink = refl

sublink-of-sublink : is_closed (asking Exists (asking Exists (reading 2))) ≡ true
sublink-of-sublink = refl

open-sublink-of-sublink : is_closed (asking Exists (asking Exists (reading 3))) ≡ false
open-sublink-of-sublink = refl

left-row : is_closed (ApplyOf Inner table (reading 1)) ≡ true
left-row = refl

behind-left-row : is_closed (ApplyOf Inner table (reading 2)) ≡ false
behind-left-row = refl

-- ---- what may fault

exists-is-free : fault_free (asking Exists (reading 1)) ≡ true
exists-is-free = refl

scalar-may-fault : fault_free (asking Exists (asking Scalar (reading 1))) ≡ false
scalar-may-fault = refl

count-is-free : fault_free (counting CountRows) ≡ true
count-is-free = refl

sum-may-fault : fault_free (DistinctOf (counting Sum)) ≡ false
sum-may-fault = refl

chain-may-fault : fault_free (ProjectOf table (record { expr = ChainOf (Col 0 0) (tt ∷ []) (more_of-ChainStep Add (Col 0 0) end_of-ChainStep); kind = kind.Integer } ∷ []) [] end_of-Sublink) ≡ false
chain-may-fault = refl

-- ---- PROVENANCE, and sources over tables

plain-sublink : is_plain (asking Exists (reading 1)) ≡ true
plain-sublink = refl

provenance-in-sublink : is_plain (asking Exists (source (ProvOf table))) ≡ false
provenance-in-sublink = refl

source-of-a-table : over_tables (asking Exists (source table)) ≡ true
source-of-a-table = refl

source-of-a-query : over_tables (asking Exists (source (DistinctOf table))) ≡ false
source-of-a-query = refl

below-provenance : over_tables (asking Exists (ProvOf (source (DistinctOf table)))) ≡ true
below-provenance = refl
