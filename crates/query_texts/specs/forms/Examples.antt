-- Worked examples: queries and their texts. The tables are r(a, b) and s(c).
use Rattle.std.specs.Prelude.{◌≡◌, ℕ, ℤ, pos, negsuc, true, List, [], ◌∷◌, Some, None, codes, refl}
use Rattle.std.specs.Fmt.{digits}
use Rattle.null_logic.specs.declared.arith.Arith.TheVariants.{Add, Subtract}
use Rattle.null_logic.specs.declared.compare.Compare.{Compare}
use Rattle.null_logic.specs.declared.compare.Compare.TheVariants as compare
use Rattle.null_logic.specs.declared.operator.Operator.TheVariants as op
use Rattle.null_logic.specs.declared.truth.Truth.TheVariants.{Unknown}
use Rattle.perm_values.specs.declared.kind.Kind.TheVariants as kind
use Rattle.perm_values.specs.declared.value.Value.TheVariants.{Null, Integer, Text, Boolean}
use Rattle.bag_algebra.specs.built.Patterns.{Shape, OpOf, ChainOf, CaseOf, IsTruthOf, SameOf, FilterOf, ProjectOf, JoinOf, ApplyOf, ExceptOf, DistinctOf, AggregateOf, LimitOf}
use Rattle.bag_algebra.specs.declared.expr.Expr.{Expr, more_of-Expr, end_of-Expr, more_of-ChainStep, end_of-ChainStep, more_of-Arm, end_of-Arm}
use Rattle.bag_algebra.specs.declared.expr.Expr.TheVariants.{Col, Lit, Sub}
use Rattle.bag_algebra.specs.declared.expr.Item.{Item}
use Rattle.bag_algebra.specs.declared.query.AggFn.TheVariants as agg
use Rattle.bag_algebra.specs.declared.query.JoinKind.TheVariants as join
use Rattle.bag_algebra.specs.declared.query.Query.{Query, more_of-Sublink, end_of-Sublink}
use Rattle.bag_algebra.specs.declared.query.Query.TheVariants.{Table, Single}
use Rattle.bag_algebra.specs.declared.query.SubKind.TheVariants as ask
use Rattle.tree_texts.specs.Texts.{expr_text, query_text, script_text}
use Rattle.query_texts.specs.clauses.Names.{own, outermost}
use Rattle.query_texts.specs.forms.ShownExpressions.{shown_expr}
use Rattle.query_texts.specs.forms.ShownQueries.{shown, shown_answer}
use Rattle.query_texts.specs.declared.clauses.tables.TableNames.{TableNames}

-- ---- words of the examples

abbrev tables : List TableNames
tables =
    record { id = 1; name = codes "r"; columns = codes "a" ∷ codes "b" ∷ [] } ∷ record { id = 2; name = codes "s"; columns = codes "c" ∷ [] } ∷ []

abbrev r : Query
r = Table 1 (kind.Integer ∷ kind.Text ∷ [])

abbrev s : Query
s = Table 2 (kind.Integer ∷ [])

abbrev none : Shape
none = []

abbrev one : Shape
one = tt ∷ []

abbrev two : Shape
two = tt ∷ tt ∷ []

abbrev col : ℕ → Expr
col place = Col 0 place

abbrev num : ℤ → Expr
num n = Lit (Integer n) kind.Integer

abbrev compared : Compare → Expr → Expr → Expr
compared c a b = OpOf (op.Compare c) two (more_of-Expr a (more_of-Expr b end_of-Expr))

abbrev item : Expr → Item
item e = record { expr = e; kind = kind.Integer }

-- the text of a query by itself, and of an expression over a row
abbrev text : Query → List ℕ
text q = query_text (shown tables outermost (own outermost) q)

abbrev said : Expr → List ℕ
said e = expr_text (shown_expr outermost [] e)

-- ---- expressions

example-least : said (num (negsuc 9223372036854775807)) ≡ codes "( ( - 9223372036854775807 ) - 1 ) "
unfolding digits
example-least = refl

example-chain : said (ChainOf (col 0) two (more_of-ChainStep Add (num (negsuc 4)) (more_of-ChainStep Subtract (col 1) end_of-ChainStep)))
    ≡ codes "( \"c1\" + ( - 5 ) - \"c2\" ) "
unfolding digits
example-chain = refl

example-case : said (CaseOf one (more_of-Arm (IsTruthOf Unknown (Lit (Boolean true) kind.Boolean)) (Lit Null kind.Text) end_of-Arm) (Lit (Text (codes "it's")) kind.Text))
    ≡ codes "CASE WHEN ( ( NOT TRUE ) IS NULL ) THEN CAST ( NULL AS TEXT ) ELSE 'it''s' END "
example-case = refl

example-logic : said (OpOf op.And two (more_of-Expr (SameOf (col 0) (col 1)) (more_of-Expr (OpOf op.InList two (more_of-Expr (col 0) (more_of-Expr (num (pos 7)) end_of-Expr))) end_of-Expr)))
    ≡ codes "( ( \"c1\" IS NOT DISTINCT FROM \"c2\" ) AND ( \"c1\" = 7 ) ) "
unfolding digits
example-logic = refl

-- ---- nodes

example-table : text r ≡ codes "SELECT \"a\" AS \"c1\" , \"b\" AS \"c2\" FROM \"r\" "
unfolding digits
example-table = refl

example-single : text (ProjectOf Single (item (num (pos 1)) ∷ []) none end_of-Sublink)
    ≡ codes "SELECT 1 AS \"c1\" FROM ( SELECT 1 AS \"c0\" ) AS \"t\" "
unfolding digits
example-single = refl

example-filter : text (FilterOf s (compared compare.Less (col 0) (num (pos 3))) none end_of-Sublink)
    ≡ codes "SELECT \"c1\" AS \"c1\" FROM ( SELECT \"c\" AS \"c1\" FROM \"s\" ) AS \"t\" WHERE ( \"c1\" < 3 ) "
unfolding digits
example-filter = refl

example-join : text (JoinOf join.Left s r (compared compare.Equal (col 0) (col 1)) none end_of-Sublink)
    ≡ codes "SELECT \"c1\" AS \"c1\" , \"c2\" AS \"c2\" , \"c3\" AS \"c3\" FROM ( SELECT \"c\" AS \"c1\" FROM \"s\" ) AS \"t\" LEFT JOIN ( SELECT \"a\" AS \"c2\" , \"b\" AS \"c3\" FROM \"r\" ) AS \"t2\" ON ( \"c1\" = \"c2\" ) "
unfolding digits
example-join = refl

-- a projection over a filter over joins is one SELECT
example-block : text (ProjectOf (FilterOf (JoinOf join.Inner (JoinOf join.Left s r (compared compare.Equal (col 0) (col 1)) none end_of-Sublink) s (compared compare.Equal (col 1) (col 3)) none end_of-Sublink) (compared compare.Less (col 0) (num (pos 3))) none end_of-Sublink) (item (col 2) ∷ []) none end_of-Sublink)
    ≡ codes "SELECT \"c3\" AS \"c1\" FROM ( SELECT \"c\" AS \"c1\" FROM \"s\" ) AS \"t\" LEFT JOIN ( SELECT \"a\" AS \"c2\" , \"b\" AS \"c3\" FROM \"r\" ) AS \"t2\" ON ( \"c1\" = \"c2\" ) JOIN ( SELECT \"c\" AS \"c4\" FROM \"s\" ) AS \"t4\" ON ( \"c2\" = \"c4\" ) WHERE ( \"c1\" < 3 ) "
unfolding digits
example-block = refl

-- a join that keeps its right side's rows stands over one source
example-right : text (JoinOf join.Right (JoinOf join.Inner s s (compared compare.Equal (col 0) (col 1)) none end_of-Sublink) s (compared compare.Less (col 1) (col 2)) none end_of-Sublink)
    ≡ codes "SELECT \"c1\" AS \"c1\" , \"c2\" AS \"c2\" , \"c3\" AS \"c3\" FROM ( SELECT \"c1\" AS \"c1\" , \"c2\" AS \"c2\" FROM ( SELECT \"c\" AS \"c1\" FROM \"s\" ) AS \"t\" JOIN ( SELECT \"c\" AS \"c2\" FROM \"s\" ) AS \"t2\" ON ( \"c1\" = \"c2\" ) ) AS \"t\" RIGHT JOIN ( SELECT \"c\" AS \"c3\" FROM \"s\" ) AS \"t3\" ON ( \"c2\" < \"c3\" ) "
unfolding digits
example-right = refl

-- no join follows a source without columns
example-no_columns : text (JoinOf join.Inner (JoinOf join.Inner s Single (Lit (Boolean true) kind.Boolean) none end_of-Sublink) s (compared compare.Equal (col 0) (col 1)) none end_of-Sublink)
    ≡ codes "SELECT \"c1\" AS \"c1\" , \"c2\" AS \"c2\" FROM ( SELECT \"c1\" AS \"c1\" FROM ( SELECT \"c\" AS \"c1\" FROM \"s\" ) AS \"t\" JOIN ( SELECT 1 AS \"c0\" ) AS \"t2\" ON TRUE ) AS \"t\" JOIN ( SELECT \"c\" AS \"c2\" FROM \"s\" ) AS \"t2\" ON ( \"c1\" = \"c2\" ) "
unfolding digits
example-no_columns = refl

example-distinct : text (DistinctOf (ProjectOf s (item (col 0) ∷ []) none end_of-Sublink))
    ≡ codes "SELECT DISTINCT \"c1\" AS \"c1\" FROM ( SELECT \"c\" AS \"c1\" FROM \"s\" ) AS \"t\" "
unfolding digits
example-distinct = refl

-- the query on the right sees the row on the left
example-lateral : text (ApplyOf join.Inner s (FilterOf s (compared compare.Equal (col 0) (Col 1 0)) none end_of-Sublink))
    ≡ codes "SELECT \"c1\" AS \"c1\" , \"c2\" AS \"c2\" FROM ( SELECT \"c\" AS \"c1\" FROM \"s\" ) AS \"t\" CROSS JOIN LATERAL ( SELECT \"cc1\" AS \"c2\" FROM ( SELECT \"c\" AS \"cc1\" FROM \"s\" ) AS \"t\" WHERE ( \"cc1\" = \"c1\" ) ) AS \"t2\" "
unfolding digits
example-lateral = refl

example-except : text (ExceptOf true s (DistinctOf s))
    ≡ codes "SELECT \"c\" AS \"c1\" FROM \"s\" EXCEPT ALL SELECT \"c1\" AS \"c1\" FROM ( SELECT DISTINCT \"c\" AS \"c1\" FROM \"s\" ) AS \"t\" "
unfolding digits
example-except = refl

example-groups : text (AggregateOf s (0 ∷ []) (record { function = agg.CountRows; argument = None; kind = kind.Integer } ∷ record { function = agg.Sum; argument = Some (col 0); kind = kind.Integer } ∷ []))
    ≡ codes "SELECT \"c1\" AS \"c1\" , COUNT ( * ) AS \"c2\" , SUM ( \"c3\" ) AS \"c3\" FROM ( SELECT \"c1\" AS \"c1\" , 1 AS \"c2\" , \"c1\" AS \"c3\" FROM ( SELECT \"c\" AS \"c1\" FROM \"s\" ) AS \"t\" ) AS \"t\" GROUP BY \"c1\" "
unfolding digits
example-groups = refl

example-one_group : text (AggregateOf s [] []) ≡ codes "SELECT COUNT ( * ) AS \"c0\" FROM ( SELECT 1 AS \"c0\" FROM ( SELECT \"c\" AS \"c1\" FROM \"s\" ) AS \"t\" ) AS \"t\" "
unfolding digits
example-one_group = refl

example-limit : text (LimitOf s (record { place = 0; descending = true } ∷ []) 2)
    ≡ codes "SELECT \"c\" AS \"c1\" FROM \"s\" ORDER BY 1 DESC LIMIT 2 "
unfolding digits
example-limit = refl

-- ---- sublinks

example-in : text (FilterOf s (Sub 0) one (more_of-Sublink (ask.Any compare.Equal) (Some (col 0)) s end_of-Sublink))
    ≡ codes "SELECT \"c1\" AS \"c1\" FROM ( SELECT \"c\" AS \"c1\" FROM \"s\" ) AS \"t\" WHERE ( \"c1\" IN ( SELECT \"c\" AS \"cc1\" FROM \"s\" ) ) "
unfolding digits
example-in = refl

-- a sublink that the condition doesn't use stands beside it
example-unused : text (FilterOf s (Lit (Boolean true) kind.Boolean) one (more_of-Sublink ask.Exists None s end_of-Sublink))
    ≡ codes "SELECT \"c1\" AS \"c1\" FROM ( SELECT \"c\" AS \"c1\" FROM \"s\" ) AS \"t\" WHERE CASE WHEN ( ( EXISTS ( SELECT \"c\" AS \"cc1\" FROM \"s\" ) IS NULL ) IS NULL ) THEN CAST ( NULL AS BOOLEAN ) ELSE TRUE END "
unfolding digits
example-unused = refl

-- ---- answers

example-answer : script_text (shown_answer tables r (codes "x\"y" ∷ codes "z" ∷ []) (record { place = 1; descending = true } ∷ []))
    ≡ codes "SELECT \"c1\" AS \"x\"\"y\" , \"c2\" AS \"z\" FROM ( SELECT \"a\" AS \"c1\" , \"b\" AS \"c2\" FROM \"r\" ) AS \"t\" ORDER BY 2 DESC ; "
unfolding digits
example-answer = refl
