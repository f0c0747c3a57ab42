-- Worked rows: trees that are refused as irregular, and the levels of the steps of a chain.
use Rattle.std.specs.Prelude.{◌≡◌, ℕ, [], ◌∷◌, Some, None}
use Rattle.std.proofs.Common.{refl, subst, true≢false}
use Rattle.null_logic.specs.declared.operator.Operator.TheVariants.{And}
use Rattle.null_logic.specs.declared.arith.Arith.TheVariants.{Add, Subtract, Multiply}
use Rattle.perm_values.specs.declared.kind.Kind.TheVariants.{Boolean}
use Rattle.sql_tree.specs.Regular.{level_of, RegularBody, RegularBodyLayer, RegularStatementBody, RegularColumn, RegularJoin, IsSubquery, regular_logic, regular_aggregate, regular_join_step}
use Rattle.sql_tree.specs.declared.expression.AggWord.TheVariants.{CountRows}
use Rattle.sql_tree.specs.declared.expression.ExprBody.TheOpen.{ExprBody-F}
use Rattle.sql_tree.specs.declared.expression.ExprBody.TheVariants.{Logic, Aggregate, outs-Logic, outs-Aggregate}
use Rattle.sql_tree.specs.declared.expression.ExprTree.{ExprTree}
use Rattle.sql_tree.specs.declared.name.Name.{Name}
use Rattle.sql_tree.specs.declared.query.QueryTree.{QueryTree}
use Rattle.sql_tree.specs.declared.source.FromItem.{FromItem}
use Rattle.sql_tree.specs.declared.source.FromSource.TheVariants.{Named, Inner, outs-Named}
use Rattle.sql_tree.specs.declared.source.JoinStep.{out-JoinStep, roll-JoinStep}
use Rattle.sql_tree.specs.declared.source.JoinWord.TheVariants.{Cross, CrossLateral, LeftLateral}
use Rattle.sql_tree.specs.declared.source.ScopeMark.TheVariants.{Plain, BaseRelation}
use Rattle.sql_tree.specs.declared.statement.StatementBody.TheVariants.{CreateTable}

pub sums : level_of Add ≡ level_of Subtract
sums = refl

pub products : level_of Multiply ≡ Some 8
products = refl

-- CREATE TABLE with a column of kind Boolean
pub boolean_column : (name : Name) → RegularColumn (record { name = name; kind = Boolean }) → ⊥
boolean_column name regular = regular refl

-- CREATE TABLE without columns
pub no_columns : (table : Name) → RegularStatementBody (CreateTable table []) → ⊥
no_columns table regular = regular.0

-- AND of one part
pub one_part : (part : ExprTree) → RegularBody (Logic And (part ∷ [])) → ⊥
one_part part regular = refused (subst RegularBodyLayer (outs-Logic And (part ∷ [])) regular) where
  refused : RegularBodyLayer (ExprBody-F.Logic And (part ∷ [])) → ⊥
  refused (regular_logic connective several each) = several

-- COUNT(*) with an argument
pub counted_argument : (part : ExprTree) → RegularBody (Aggregate CountRows (Some part)) → ⊥
counted_argument part regular = refused (subst RegularBodyLayer (outs-Aggregate CountRows (Some part)) regular) where
  refused : RegularBodyLayer (ExprBody-F.Aggregate CountRows (Some part)) → ⊥
  refused (regular_aggregate same kept) = true≢false same

-- CROSS JOIN with a condition
pub cross_condition : (item : FromItem) (condition : ExprTree)
    → RegularJoin (roll-JoinStep (record { word = Cross; item = item; condition = Some condition })) → ⊥
unfolding out-JoinStep denote.Hole.Carrier.out roll-JoinStep denote.Hole.Carrier.roll
cross_condition item condition (regular_join_step same lateral regular kept) = true≢false same

-- CROSS JOIN LATERAL of a table
pub lateral_table : (at : ℕ) (table : Name)
    → RegularJoin (roll-JoinStep (record { word = CrossLateral; item = record { at = at; source = Named table; alias = None; mark = Plain }; condition = None })) → ⊥
unfolding out-JoinStep denote.Hole.Carrier.out roll-JoinStep denote.Hole.Carrier.roll
lateral_table at table (regular_join_step same lateral regular kept) = subst IsSubquery (outs-Named table) (lateral refl).0

-- LEFT JOIN LATERAL of a query with the mark BASERELATION
pub lateral_mark : (at : ℕ) (query : QueryTree) (name : Name)
    → RegularJoin (roll-JoinStep (record { word = LeftLateral; item = record { at = at; source = Inner query; alias = Some name; mark = BaseRelation }; condition = None })) → ⊥
unfolding out-JoinStep denote.Hole.Carrier.out roll-JoinStep denote.Hole.Carrier.roll
lateral_mark at query name (regular_join_step same lateral regular kept) = let no : BaseRelation ≡ Plain = (lateral refl).1 in absurd cc
