-- Words for the worked queries: the tables r(a INTEGER, b TEXT) and s(c INTEGER) as sources, values, expressions, and queries and
-- rows that several files have.
use Rattle.std.specs.Prelude.{ℕ, pos, true, false, cond, ◌==◌, List, [], ◌∷◌, Option, None, codes}
use Rattle.null_logic.specs.declared.arith.Arith.{Arith}
use Rattle.null_logic.specs.declared.arith.Arith.TheVariants.{Divide}
use Rattle.null_logic.specs.declared.compare.Compare.{Compare}
use Rattle.null_logic.specs.declared.compare.Compare.TheVariants.{Equal}
use Rattle.null_logic.specs.declared.operator.Operator.TheVariants as op
use Rattle.perm_values.specs.Rows.{row_cmp}
use Rattle.perm_values.specs.declared.kind.Kind.{Kind}
use Rattle.perm_values.specs.declared.kind.Kind.TheVariants as kind
use Rattle.perm_values.specs.declared.value.Value.{Value}
use Rattle.perm_values.specs.declared.value.Value.TheVariants.{Null, Integer, Text, Boolean}
use Rattle.bag_algebra.specs.Bags.{Bag, sorted}
use Rattle.bag_algebra.specs.Meaning.{Database, meaning}
use Rattle.bag_algebra.specs.Outcome.{Outcome, mapped}
use Rattle.bag_algebra.specs.built.Patterns.{OpOf, ChainOf, BaseOf, FilterOf, ProjectOf, UnionOf, ProvOf, Shape}
use Rattle.bag_algebra.specs.declared.expr.Expr.{Expr, more_of-Expr, end_of-Expr, more_of-ChainStep, end_of-ChainStep}
use Rattle.bag_algebra.specs.declared.expr.Expr.TheVariants.{Col, Lit}
use Rattle.bag_algebra.specs.declared.expr.Item.{Item}
use Rattle.bag_algebra.specs.declared.query.Aggr.{Aggr}
use Rattle.bag_algebra.specs.declared.query.AggFn.TheVariants.{CountRows}
use Rattle.bag_algebra.specs.declared.query.Label.TheVariants.{Relation}
use Rattle.bag_algebra.specs.declared.query.SubKind.{SubKind}
use Rattle.bag_algebra.specs.declared.query.Query.{Query, more_of-Sublink, end_of-Sublink}
use Rattle.bag_algebra.specs.declared.query.Query.TheVariants.{Table}

abbrev pub none : Shape
none = []

abbrev pub one : Shape
one = tt ∷ []

abbrev pub two : Shape
two = tt ∷ tt ∷ []

abbrev pub num : ℕ → Value
num n = Integer (pos n)

abbrev pub x : Value
x = Text (codes "x")

abbrev pub y : Value
y = Text (codes "y")

abbrev pub z : Value
z = Text (codes "z")

-- r has identity 1, s has identity 2
abbrev pub holding : Bag → Bag → Database
holding rs ss id = cond (id == 1) rs (cond (id == 2) ss [])

abbrev pub col : ℕ → ℕ → Expr
col level place = Col level place

abbrev pub number : ℕ → Expr
number n = Lit (num n) kind.Integer

abbrev pub text : List ℕ → Expr
text t = Lit (Text t) kind.Text

abbrev pub yes : Expr
yes = Lit (Boolean true) kind.Boolean

abbrev pub nothing : Kind → Expr
nothing kind = Lit Null kind

abbrev pub compared : Compare → Expr → Expr → Expr
compared c a b = OpOf (op.Compare c) two (more_of-Expr a (more_of-Expr b end_of-Expr))

abbrev pub and_also : Expr → Expr → Expr
and_also a b = OpOf op.And two (more_of-Expr a (more_of-Expr b end_of-Expr))

abbrev pub or_else : Expr → Expr → Expr
or_else a b = OpOf op.Or two (more_of-Expr a (more_of-Expr b end_of-Expr))

-- one step of arithmetic
abbrev pub reckoned : Arith → Expr → Expr → Expr
reckoned c a b = ChainOf a one (more_of-ChainStep c b end_of-ChainStep)

-- 1 / 0
abbrev pub by_zero : Expr
by_zero = reckoned Divide (number 1) (number 0)

abbrev pub isnt : Expr → Expr
isnt a = OpOf op.Not one (more_of-Expr a end_of-Expr)

-- the kinds of r
abbrev pub int_and_text : List Kind
int_and_text = kind.Integer ∷ kind.Text ∷ []

abbrev pub r : Query
r = BaseOf (Table 1 (kind.Integer ∷ kind.Text ∷ [])) (0 ∷ 1 ∷ []) (Relation (codes "r") (codes "a" ∷ codes "b" ∷ []))

abbrev pub s : Query
s = BaseOf (Table 2 (kind.Integer ∷ [])) (0 ∷ []) (Relation (codes "s") (codes "c" ∷ []))

abbrev pub built : Kind → Expr → Item
built kind expr = record { expr = expr; kind = kind }

abbrev pub item : Expr → Item
item e = built kind.Integer e

abbrev pub named : Expr → Item
named e = built kind.Text e

abbrev pub truth : Expr → Item
truth e = built kind.Boolean e

-- COUNT(*)
abbrev pub count_rows : Aggr
count_rows = record { function = CountRows; argument = None; kind = kind.Integer }

abbrev pub select : List Item → Query → Query
select items q = ProjectOf q items none end_of-Sublink

abbrev pub select_a : Query → Query
select_a q = select (item (col 0 0) ∷ []) q

abbrev pub where_sub : Expr → SubKind → Option Expr → Query → Query → Query
where_sub condition k tested q input = FilterOf input condition one (more_of-Sublink k tested q end_of-Sublink)

-- the answer of a statement's query, in the printed order
abbrev pub printed : Query → Database → Outcome Bag
printed q db = mapped (sorted row_cmp) (meaning q db [])

-- ---- queries and rows that several files have

-- SELECT a FROM r
abbrev pub a_of_r : Query
a_of_r = select_a r

-- SELECT c FROM s
abbrev pub c_of_s : Query
c_of_s = select_a s

-- SELECT PROVENANCE a FROM r
abbrev pub traced : Query
traced = ProvOf a_of_r

-- SELECT c FROM s UNION SELECT a FROM r
abbrev pub united : Query
united = UnionOf false c_of_s a_of_r

-- SELECT c FROM s WHERE c = r.a, beside a row of r
abbrev pub same : Query
same = FilterOf s (compared Equal (col 0 0) (col 1 0)) none end_of-Sublink

abbrev pub one_and_two : Database
one_and_two = holding ((num 1 ∷ x ∷ []) ∷ (num 2 ∷ y ∷ []) ∷ []) ((num 1 ∷ []) ∷ (num 2 ∷ []) ∷ [])

abbrev pub two_alone : Database
two_alone = holding ((num 1 ∷ x ∷ []) ∷ (num 2 ∷ y ∷ []) ∷ (num 2 ∷ y ∷ []) ∷ (Null ∷ x ∷ []) ∷ []) ((num 2 ∷ []) ∷ (num 2 ∷ []) ∷ (Null ∷ []) ∷ [])
