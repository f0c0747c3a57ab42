-- The answers of queries as statements, worked out.
use Rattle.std.proofs.Common.{◌≡◌, true, false, [], ◌∷◌, None, codes, refl}
use Rattle.std.specs.Fmt.{digits}
use Rattle.null_logic.specs.declared.arith.Arith.TheVariants.{Divide}
use Rattle.perm_values.specs.declared.kind.Kind.TheVariants as kind
use Rattle.perm_values.specs.declared.value.Value.TheVariants.{Null}
use Rattle.bag_algebra.specs.built.Patterns.{OpOf, ProvOf, AggregateOf}
use Rattle.bag_algebra.specs.declared.query.AggFn.TheVariants.{CountRows}
use Rattle.null_logic.specs.declared.operator.Operator.TheVariants as op
use Rattle.bag_algebra.specs.declared.expr.Expr.{more_of-Expr, end_of-Expr}
use Rattle.name_meaning.specs.declared.answer.Resolved.TheVariants as r
use Rattle.statement_meaning.specs.Asking.{Settled, Explained, asks}
use Rattle.statement_meaning.specs.Turns.{Accepted}
use Rattle.worked_examples.specs.Queries.{num as whole, number, reckoned, r as source_r, s as source_s, built as item, select, a_of_r as select_a}
use Rattle.worked_examples.specs.HeldRows.{answering, column, holding, selected, word}

-- rows stand as often as they are there: SELECT a FROM r
pub twice :
    asks (holding ((whole 1 ∷ word (codes "x") ∷ []) ∷ (whole 1 ∷ word (codes "x") ∷ []) ∷ []) []) 0 (r.Select (answering select_a (codes "a" ∷ []) []))
    ≡ Settled (Accepted (codes "\"a\"\n1\n1\n(2 rows)\n") (holding ((whole 1 ∷ word (codes "x") ∷ []) ∷ (whole 1 ∷ word (codes "x") ∷ []) ∷ []) []))
unfolding digits
twice =
    selected ((whole 1 ∷ word (codes "x") ∷ []) ∷ (whole 1 ∷ word (codes "x") ∷ []) ∷ []) [] 0 (answering select_a (codes "a" ∷ []) [])

-- with provenance each row stands once: SELECT PROVENANCE a FROM r
pub once :
    asks (holding ((whole 1 ∷ word (codes "x") ∷ []) ∷ (whole 1 ∷ word (codes "x") ∷ []) ∷ []) []) 0
    (r.Select (answering (ProvOf select_a) (codes "a" ∷ codes "prov_r_a" ∷ codes "prov_r_b" ∷ []) []))
    ≡ Settled (Accepted (codes "\"a\",\"prov_r_a\",\"prov_r_b\"\n1,1,\"x\"\n(1 rows)\n") (holding ((whole 1 ∷ word (codes "x") ∷ []) ∷ (whole 1 ∷ word (codes "x") ∷ []) ∷ []) []))
unfolding digits
once =
    selected ((whole 1 ∷ word (codes "x") ∷ []) ∷ (whole 1 ∷ word (codes "x") ∷ []) ∷ []) [] 0 (answering (ProvOf select_a) (codes "a" ∷ codes "prov_r_a" ∷ codes "prov_r_b" ∷ []) [])

-- any text will do that explains it, and nothing is run: EXPLAIN REWRITE SELECT PROVENANCE a FROM r
pub explained :
    asks (holding [] []) 0 (r.Explain (answering (ProvOf select_a) (codes "a" ∷ codes "prov_r_a" ∷ codes "prov_r_b" ∷ []) []))
    ≡ Explained (holding [] []) (answering (ProvOf select_a) (codes "a" ∷ codes "prov_r_a" ∷ codes "prov_r_b" ∷ []) [])
explained = refl

-- DESC turns the order of its key, so NULL comes first: SELECT a, b FROM r ORDER BY b DESC, 1
pub in_order :
    asks (holding ((whole 1 ∷ word (codes "x") ∷ []) ∷ (whole 2 ∷ word (codes "y") ∷ []) ∷ (whole 3 ∷ Null ∷ []) ∷ []) []) 0
    (r.Select (answering (select (item kind.Integer (column 0) ∷ item kind.Text (column 1) ∷ []) source_r) (codes "a" ∷ codes "b" ∷ [])
    (record { place = 1; descending = true } ∷ record { place = 0; descending = false } ∷ [])))
    ≡ Settled (Accepted (codes "\"a\",\"b\"\n3,\n2,\"y\"\n1,\"x\"\n(3 rows)\n")
    (holding ((whole 1 ∷ word (codes "x") ∷ []) ∷ (whole 2 ∷ word (codes "y") ∷ []) ∷ (whole 3 ∷ Null ∷ []) ∷ []) []))
unfolding digits
in_order =
    selected ((whole 1 ∷ word (codes "x") ∷ []) ∷ (whole 2 ∷ word (codes "y") ∷ []) ∷ (whole 3 ∷ Null ∷ []) ∷ []) [] 0 (answering (select (item kind.Integer (column 0) ∷ item kind.Text (column 1) ∷ []) source_r) (codes "a" ∷ codes "b" ∷ [])
    (record { place = 1; descending = true } ∷ record { place = 0; descending = false } ∷ []))

-- without keys all columns decide: SELECT c FROM s
pub by_columns :
    asks (holding [] ((whole 10 ∷ []) ∷ (Null ∷ []) ∷ (whole 9 ∷ []) ∷ [])) 0
    (r.Select (answering (select (item kind.Integer (column 0) ∷ []) source_s) (codes "c" ∷ []) []))
    ≡ Settled (Accepted (codes "\"c\"\n9\n10\n\n(3 rows)\n") (holding [] ((whole 10 ∷ []) ∷ (Null ∷ []) ∷ (whole 9 ∷ []) ∷ [])))
unfolding digits
by_columns =
    selected [] ((whole 10 ∷ []) ∷ (Null ∷ []) ∷ (whole 9 ∷ []) ∷ []) 0 (answering (select (item kind.Integer (column 0) ∷ []) source_s) (codes "c" ∷ []) [])

-- the one row of an aggregate over no row: SELECT COUNT(*) FROM s
pub counted :
    asks (holding [] []) 0 (r.Select (answering (select (item kind.Integer (column 0) ∷ [])
    (AggregateOf source_s [] (record { function = CountRows; argument = None; kind = kind.Integer } ∷ []))) (codes "count" ∷ []) []))
    ≡ Settled (Accepted (codes "\"count\"\n0\n(1 rows)\n") (holding [] []))
unfolding digits
counted =
    selected [] [] 0 (answering (select (item kind.Integer (column 0) ∷ [])
    (AggregateOf source_s [] (record { function = CountRows; argument = None; kind = kind.Integer } ∷ []))) (codes "count" ∷ []) [])

-- a NULL is the empty field: SELECT c / NULLIF(0, 0) AS q FROM s
pub null_quotient :
    asks (holding [] ((whole 6 ∷ []) ∷ [])) 0 (r.Select (answering (select (item kind.Integer
    (reckoned Divide (column 0) (OpOf op.NullIf (tt ∷ tt ∷ []) (more_of-Expr (number 0) (more_of-Expr (number 0) end_of-Expr)))) ∷ []) source_s) (codes "q" ∷ []) []))
    ≡ Settled (Accepted (codes "\"q\"\n\n(1 rows)\n") (holding [] ((whole 6 ∷ []) ∷ [])))
unfolding digits
null_quotient =
    selected [] ((whole 6 ∷ []) ∷ []) 0 (answering (select (item kind.Integer
    (reckoned Divide (column 0) (OpOf op.NullIf (tt ∷ tt ∷ []) (more_of-Expr (number 0) (more_of-Expr (number 0) end_of-Expr)))) ∷ []) source_s) (codes "q" ∷ []) [])
