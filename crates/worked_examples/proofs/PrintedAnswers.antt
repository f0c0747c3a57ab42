-- Worked examples: the tree of a query's form breaks nothing and is read as what is said. The tables are r(a, b) and s(c).
use Rattle.std.specs.Prelude.{◌≡◌, ℕ, ℤ, pos, negsuc, true, false, List, [], ◌∷◌, Some, None, codes}
use Rattle.std.proofs.Common.{refl}
use Rattle.std.specs.FinMap as rows
use Rattle.std.specs.Fmt.{digits}
use Rattle.null_logic.specs.declared.arith.Arith.TheVariants.{Multiply}
use Rattle.null_logic.specs.declared.compare.Compare.TheVariants as compare
use Rattle.null_logic.specs.declared.operator.Operator.TheVariants as op
use Rattle.null_logic.specs.declared.truth.Truth.TheVariants.{Unknown}
use Rattle.perm_values.specs.declared.key.Key.{Key}
use Rattle.perm_values.specs.declared.kind.Kind.TheVariants as kind
use Rattle.perm_values.specs.declared.value.Value.TheVariants.{Null, Integer}
use Rattle.bag_algebra.specs.built.Patterns.{OpOf, ChainOf, CaseOf, IsNullOf, IsTruthOf, FilterOf, ProjectOf, JoinOf, ApplyOf, UnionOf, IntersectOf, ExceptOf, DistinctOf, AggregateOf, LimitOf}
use Rattle.bag_algebra.specs.declared.expr.Expr.{Expr, more_of-Expr, end_of-Expr, more_of-ChainStep, end_of-ChainStep, more_of-Arm, end_of-Arm}
use Rattle.bag_algebra.specs.declared.expr.Expr.TheVariants.{Col, Lit, Sub}
use Rattle.bag_algebra.specs.declared.query.AggFn.TheVariants as agg
use Rattle.bag_algebra.specs.declared.query.Answer.{Answer}
use Rattle.bag_algebra.specs.declared.query.JoinKind.TheVariants as join
use Rattle.bag_algebra.specs.declared.query.Query.{Query, more_of-Sublink, end_of-Sublink}
use Rattle.bag_algebra.specs.declared.query.Query.TheVariants.{Single}
use Rattle.bag_algebra.specs.declared.query.SubKind.TheVariants as ask
use Rattle.perm_catalog.specs.Contents.{Contents}
use Rattle.sql_tree.specs.declared.query.QueryTree.{QueryTree}
use Rattle.name_meaning.specs.Statements.{query_meant}
use Rattle.name_meaning.proofs.Equations.{tree_equations, token-given}
use Rattle.query_texts.specs.declared.clauses.tables.TableNames.{TableNames}
use Rattle.query_texts.specs.forms.ShownQueries.{shown_answer}
use Rattle.sql_printer.specs.rows.Printed.{printed_answer}
use Rattle.statement_meaning.specs.explains.Explains.{read_as}
use Rattle.sql_printer.specs.answers.ReadAs.{source_in}
use Rattle.worked_examples.specs.FormTrees.{query_tree}
use Rattle.worked_examples.specs.HeldRows.{column as col}
use Rattle.worked_examples.specs.NamedCatalog.{table_r, table_s, table_r_read as r, table_s_read as s}
use Rattle.worked_examples.specs.Queries.{none, one, two, compared, item, truth}

-- ---- words of the examples

abbrev contents : Contents
contents = record {
  tables = (codes "r", table_r) ∷ (codes "s", table_s) ∷ [];
  views = [];
  rows = rows.empty;
  next = 3;
}

abbrev tables : List TableNames
tables =
    record { id = 1; name = codes "r"; columns = codes "a" ∷ codes "b" ∷ [] } ∷ record { id = 2; name = codes "s"; columns = codes "c" ∷ [] } ∷ []

abbrev num : ℤ → Expr
num n = Lit (Integer n) kind.Integer

abbrev tree : Query → List (List ℕ) → List Key → QueryTree
tree q names keys = query_tree (shown_answer tables q names keys)

abbrev answer : Query → List (List ℕ) → List Key → Answer
answer q names keys = record { query = printed_answer (source_in contents tables) q; names = names; keys = keys }

-- ---- names and keys

abbrev downward : Key
downward = record { place = 1; descending = true }

table-whole : (query_meant contents (tree r (codes "x" ∷ codes "z" ∷ []) (downward ∷ []))).breaks ≡ []
unfolding digits
table-whole = simp tree_equations (rw token-given refl)

table-read : read_as contents (tree r (codes "x" ∷ codes "z" ∷ []) (downward ∷ [])) ≡ answer r (codes "x" ∷ codes "z" ∷ []) (downward ∷ [])
unfolding digits
table-read = simp tree_equations (rw token-given refl)

-- ---- an integer without a positive one, and negative ones

abbrev least : Query
least = ProjectOf s (item (num (negsuc 9223372036854775807)) ∷ item (ChainOf (num (negsuc 4)) one (more_of-ChainStep Multiply (col 0) end_of-ChainStep)) ∷ []) none end_of-Sublink

least-whole : (query_meant contents (tree least (codes "x1" ∷ codes "x2" ∷ []) [])).breaks ≡ []
unfolding digits
least-whole = simp tree_equations (rw token-given refl)

least-read : read_as contents (tree least (codes "x1" ∷ codes "x2" ∷ []) []) ≡ answer least (codes "x1" ∷ codes "x2" ∷ []) []
unfolding digits
least-read = simp tree_equations (rw token-given refl)

-- ---- columns that nothing reads stand on the left

abbrev nothing : Query
nothing = FilterOf (JoinOf join.Full Single s (compared compare.Less (col 0) (num (pos 3))) none end_of-Sublink) (IsNullOf (col 0)) none end_of-Sublink

nothing-whole : (query_meant contents (tree nothing (codes "x1" ∷ []) [])).breaks ≡ []
unfolding digits
nothing-whole = simp tree_equations (rw token-given refl)

nothing-read : read_as contents (tree nothing (codes "x1" ∷ []) []) ≡ answer nothing (codes "x1" ∷ []) []
unfolding digits
nothing-read = simp tree_equations (rw token-given refl)

-- ---- a join

abbrev joined : Query
joined = JoinOf join.Left s r (compared compare.Equal (col 0) (col 1)) none end_of-Sublink

joined-whole : (query_meant contents (tree joined (codes "x1" ∷ codes "x2" ∷ codes "x3" ∷ []) [])).breaks ≡ []
unfolding digits
joined-whole = simp tree_equations (rw token-given refl)

joined-read : read_as contents (tree joined (codes "x1" ∷ codes "x2" ∷ codes "x3" ∷ []) []) ≡ answer joined (codes "x1" ∷ codes "x2" ∷ codes "x3" ∷ []) []
unfolding digits
joined-read = simp tree_equations (rw token-given refl)

-- ---- joins of which one follows the other, and a condition

abbrev chain : Query
chain = ProjectOf (FilterOf (JoinOf join.Inner joined s (compared compare.Equal (col 1) (col 3)) none end_of-Sublink) (compared compare.Less (col 0) (num (pos 3))) none end_of-Sublink) (item (col 3) ∷ []) none end_of-Sublink

chain-whole : (query_meant contents (tree chain (codes "x1" ∷ []) [])).breaks ≡ []
unfolding digits
chain-whole = simp tree_equations (rw token-given refl)

chain-read : read_as contents (tree chain (codes "x1" ∷ []) []) ≡ answer chain (codes "x1" ∷ []) []
unfolding digits
chain-read = simp tree_equations (rw token-given refl)

-- ---- the query on the right sees the row on the left

abbrev lateral : Query
lateral = ApplyOf join.Left s (FilterOf s (compared compare.Equal (col 0) (Col 1 0)) none end_of-Sublink)

lateral-whole : (query_meant contents (tree lateral (codes "x1" ∷ codes "x2" ∷ []) [])).breaks ≡ []
unfolding digits
lateral-whole = simp tree_equations (rw token-given refl)

lateral-read : read_as contents (tree lateral (codes "x1" ∷ codes "x2" ∷ []) []) ≡ answer lateral (codes "x1" ∷ codes "x2" ∷ []) []
unfolding digits
lateral-read = simp tree_equations (rw token-given refl)

-- ---- set operations

abbrev sets : Query
sets = ExceptOf true (UnionOf false s s) (IntersectOf true s (DistinctOf s))

sets-whole : (query_meant contents (tree sets (codes "x1" ∷ []) [])).breaks ≡ []
unfolding digits
sets-whole = simp tree_equations (rw token-given refl)

sets-read : read_as contents (tree sets (codes "x1" ∷ []) []) ≡ answer sets (codes "x1" ∷ []) []
unfolding digits
sets-read = simp tree_equations (rw token-given refl)

-- ---- groups

abbrev groups : Query
groups = AggregateOf r (1 ∷ []) (record { function = agg.CountRows; argument = None; kind = kind.Integer } ∷ record { function = agg.Sum; argument = Some (col 0); kind = kind.Integer } ∷ [])

groups-whole : (query_meant contents (tree groups (codes "x1" ∷ codes "x2" ∷ codes "x3" ∷ []) [])).breaks ≡ []
unfolding digits
groups-whole = simp tree_equations (rw token-given refl)

groups-read : read_as contents (tree groups (codes "x1" ∷ codes "x2" ∷ codes "x3" ∷ []) []) ≡ answer groups (codes "x1" ∷ codes "x2" ∷ codes "x3" ∷ []) []
unfolding digits
groups-read = simp tree_equations (rw token-given refl)

-- ---- one group without aggregates

abbrev one_group : Query
one_group = ProjectOf (AggregateOf s [] []) (item (num (pos 1)) ∷ []) none end_of-Sublink

one_group-whole : (query_meant contents (tree one_group (codes "x1" ∷ []) [])).breaks ≡ []
unfolding digits
one_group-whole = simp tree_equations (rw token-given refl)

one_group-read : read_as contents (tree one_group (codes "x1" ∷ []) []) ≡ answer one_group (codes "x1" ∷ []) []
unfolding digits
one_group-read = simp tree_equations (rw token-given refl)

-- ---- the first rows

abbrev limit : Query
limit = LimitOf r (record { place = 1; descending = true } ∷ []) 2

limit-whole : (query_meant contents (tree limit (codes "x1" ∷ codes "x2" ∷ []) [])).breaks ≡ []
unfolding digits
limit-whole = simp tree_equations (rw token-given refl)

limit-read : read_as contents (tree limit (codes "x1" ∷ codes "x2" ∷ []) []) ≡ answer limit (codes "x1" ∷ codes "x2" ∷ []) []
unfolding digits
limit-read = simp tree_equations (rw token-given refl)

-- ---- a sublink that stands twice, one that reads the outer row, and one that nothing uses

abbrev sublinks : Query
sublinks = FilterOf s (OpOf op.And two (more_of-Expr (Sub 1) (more_of-Expr (Sub 1) end_of-Expr))) two (more_of-Sublink ask.Exists None r (more_of-Sublink (ask.Any compare.Equal) (Some (col 0)) (FilterOf s (compared compare.Less (Col 1 0) (col 0)) none end_of-Sublink) end_of-Sublink))

sublinks-whole : (query_meant contents (tree sublinks (codes "x1" ∷ []) [])).breaks ≡ []
unfolding digits
sublinks-whole = simp tree_equations (rw token-given refl)

sublinks-read : read_as contents (tree sublinks (codes "x1" ∷ []) []) ≡ answer sublinks (codes "x1" ∷ []) []
unfolding digits
sublinks-read = simp tree_equations (rw token-given refl)

-- ---- a sublink in an item, and one beside it

abbrev scalar : Query
scalar = ProjectOf s (item (Sub 1) ∷ []) two (more_of-Sublink (ask.All compare.NotEqual) (Some (num (pos 1))) s (more_of-Sublink ask.Scalar None s end_of-Sublink))

scalar-whole : (query_meant contents (tree scalar (codes "x1" ∷ []) [])).breaks ≡ []
unfolding digits
scalar-whole = simp tree_equations (rw token-given refl)

scalar-read : read_as contents (tree scalar (codes "x1" ∷ []) []) ≡ answer scalar (codes "x1" ∷ []) []
unfolding digits
scalar-read = simp tree_equations (rw token-given refl)

-- ---- tests, cases and lists

abbrev cases : Query
cases = ProjectOf r (item (CaseOf one (more_of-Arm (IsTruthOf Unknown (OpOf op.Like two (more_of-Expr (col 1) (more_of-Expr (Lit Null kind.Text) end_of-Expr)))) (OpOf op.Coalesce one (more_of-Expr (col 0) end_of-Expr)) end_of-Arm) (OpOf op.NullIf two (more_of-Expr (col 0) (more_of-Expr (num (pos 1)) end_of-Expr)))) ∷ truth (OpOf op.InList two (more_of-Expr (col 0) (more_of-Expr (num (pos 7)) end_of-Expr))) ∷ []) none end_of-Sublink

cases-whole : (query_meant contents (tree cases (codes "x1" ∷ codes "x2" ∷ []) [])).breaks ≡ []
unfolding digits
cases-whole = simp tree_equations (rw token-given refl)

cases-read : read_as contents (tree cases (codes "x1" ∷ codes "x2" ∷ []) []) ≡ answer cases (codes "x1" ∷ codes "x2" ∷ []) []
unfolding digits
cases-read = simp tree_equations (rw token-given refl)
