-- Worked examples: the texts of forms, each with a blank behind its last token.
use Rattle.std.specs.Prelude.{◌≡◌, ℕ, true, false, List, [], ◌∷◌, Some, None, codes, refl}
use Rattle.std.specs.Fmt.{digits}
use Rattle.null_logic.specs.declared.compare.Compare.TheVariants.{Equal, LessEqual}
use Rattle.null_logic.specs.declared.truth.Truth.TheVariants.{Unknown}
use Rattle.perm_values.specs.declared.kind.Kind.TheVariants.{Integer}
use Rattle.tree_texts.specs.Forms as f
use Rattle.tree_texts.specs.Forms.{ExprForm, CoreForm, QueryForm, enclosed}
use Rattle.tree_texts.specs.Texts.{expr_text, query_text, script_text}

abbrev a : ExprForm
a = f.column (f.bare (codes "a"))

abbrev b : ExprForm
b = f.column (f.bare (codes "b"))

-- SELECT of a column from a table, without other clauses
abbrev all_of : List ℕ → CoreForm
all_of name = f.select false a (codes "c1") f.no_items (f.from (f.table name) f.no_joins) f.no_condition [] f.no_condition

abbrev plain : CoreForm → QueryForm
plain core = f.one core [] None

example-quotes : expr_text (f.column (f.in_item (codes "t1") (codes "a\"b"))) ≡ codes "\"t1\" . \"a\"\"b\" "
example-quotes = refl

example-text : expr_text (f.text (codes "it's")) ≡ codes "'it''s' "
example-text = refl

example-null : expr_text (f.coalesce (f.null Integer) (f.an_expr a f.no_exprs)) ≡ codes "COALESCE ( CAST ( NULL AS BIGINT ) , \"a\" ) "
example-null = refl

example-least : expr_text (enclosed (f.added (enclosed (f.negative (f.integer 9223372036854775807))) f.minus (f.integer 1) f.no_terms))
    ≡ codes "( ( - 9223372036854775807 ) - 1 ) "
unfolding digits
example-least = refl

example-arithmetic : expr_text (enclosed (f.multiplied (enclosed (f.added a f.plus b (f.a_term f.minus a f.no_terms))) f.modulo b f.no_factors))
    ≡ codes "( ( \"a\" + \"b\" - \"a\" ) % \"b\" ) "
example-arithmetic = refl

example-logic : expr_text (enclosed (f.each_of (enclosed (f.compared LessEqual a b)) (enclosed (f.negated (enclosed (f.like true a b))))
    (f.an_expr (enclosed (f.is_truth true Unknown a)) f.no_exprs)))
    ≡ codes "( ( \"a\" <= \"b\" ) AND ( NOT ( \"a\" NOT LIKE \"b\" ) ) AND ( \"a\" IS NOT UNKNOWN ) ) "
example-logic = refl

example-lists : expr_text (enclosed (f.one_of (enclosed (f.in_list true a b (f.an_expr a f.no_exprs))) (enclosed (f.between false a b a)) f.no_exprs))
    ≡ codes "( ( \"a\" NOT IN ( \"b\" , \"a\" ) ) OR ( \"a\" BETWEEN \"b\" AND \"a\" ) ) "
example-lists = refl

example-case : expr_text (f.case (enclosed (f.is_null false a)) b (f.an_arm (enclosed (f.is_distinct true a b)) a f.no_arms) (f.null_if a b))
    ≡ codes "CASE WHEN ( \"a\" IS NULL ) THEN \"b\" WHEN ( \"a\" IS NOT DISTINCT FROM \"b\" ) THEN \"a\" ELSE NULLIF ( \"a\" , \"b\" ) END "
example-case = refl

example-sublinks : expr_text (enclosed (f.each_of (f.exists (plain (all_of (codes "r")))) (enclosed (f.any Equal a (plain (all_of (codes "s"))))) f.no_exprs))
    ≡ codes "( EXISTS ( SELECT \"a\" AS \"c1\" FROM \"r\" ) AND ( \"a\" = ANY ( SELECT \"a\" AS \"c1\" FROM \"s\" ) ) ) "
example-sublinks = refl

example-join : query_text (plain (f.select true a (codes "x") (f.an_item (f.text (codes "")) (codes "y") f.no_items)
    (f.from (f.table_as (codes "r") (codes "t1"))
    (f.a_join f.left (f.subquery (plain (all_of (codes "s"))) (codes "t2")) (enclosed (f.compared Equal a b)) f.no_joins))
    (f.condition (f.truth true)) [] f.no_condition))
    ≡ codes "SELECT DISTINCT \"a\" AS \"x\" , '' AS \"y\" FROM \"r\" AS \"t1\" LEFT JOIN ( SELECT \"a\" AS \"c1\" FROM \"s\" ) AS \"t2\" ON ( \"a\" = \"b\" ) WHERE TRUE "
example-join = refl

example-lateral : query_text (plain (f.select false a (codes "x") f.no_items (f.from (f.table_as (codes "r") (codes "t1"))
    (f.a_lateral true (plain (all_of (codes "s"))) (codes "t2") (f.a_lateral false (plain (all_of (codes "t"))) (codes "t3") f.no_joins))) f.no_condition [] f.no_condition))
    ≡ codes "SELECT \"a\" AS \"x\" FROM \"r\" AS \"t1\" LEFT JOIN LATERAL ( SELECT \"a\" AS \"c1\" FROM \"s\" ) AS \"t2\" ON TRUE CROSS JOIN LATERAL ( SELECT \"a\" AS \"c1\" FROM \"t\" ) AS \"t3\" "
example-lateral = refl

example-groups : query_text (plain (f.select false a (codes "x") (f.an_item (f.folded f.sum b) (codes "y") (f.an_item f.count_rows (codes "z") f.no_items))
    (f.from (f.table (codes "r")) f.no_joins) f.no_condition (f.bare (codes "a") ∷ []) (f.condition (enclosed (f.is_null true (f.count_distinct b))))))
    ≡ codes "SELECT \"a\" AS \"x\" , SUM ( \"b\" ) AS \"y\" , COUNT ( * ) AS \"z\" FROM \"r\" GROUP BY \"a\" HAVING ( COUNT ( DISTINCT \"b\" ) IS NOT NULL ) "
example-groups = refl

example-union : script_text (f.united (all_of (codes "r")) f.union true (all_of (codes "s")) (f.a_union f.except false (all_of (codes "t")) f.no_unions)
    (record { position = 2; descending = true } ∷ record { position = 1; descending = false } ∷ []) (Some 10))
    ≡ codes "SELECT \"a\" AS \"c1\" FROM \"r\" UNION ALL SELECT \"a\" AS \"c1\" FROM \"s\" EXCEPT SELECT \"a\" AS \"c1\" FROM \"t\" ORDER BY 2 DESC , 1 LIMIT 10 ; "
unfolding digits
example-union = refl
