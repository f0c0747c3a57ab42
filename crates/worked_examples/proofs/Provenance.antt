-- The answers of queries with PROVENANCE, worked out: a row of the answer is a row of the query beside one of its witness
-- lists, with NULLs where a place is empty.
use Rattle.std.proofs.Common.{◌≡◌, true, [], ◌∷◌, Some, codes}
use Rattle.std.specs.Fmt.{digits}
use Rattle.null_logic.specs.declared.compare.Compare.TheVariants.{Equal}
use Rattle.perm_values.specs.declared.kind.Kind.TheVariants as kind
use Rattle.perm_values.specs.declared.value.Value.TheVariants.{Null, Boolean}
use Rattle.bag_algebra.specs.Bags.{Bag}
use Rattle.bag_algebra.specs.built.Patterns.{BaseOf, FilterOf, JoinOf, ProvOf}
use Rattle.bag_algebra.specs.declared.expr.Expr.TheVariants.{Lit, Sub}
use Rattle.bag_algebra.specs.declared.query.Answer.{Answer}
use Rattle.bag_algebra.specs.declared.query.JoinKind.TheVariants.{Inner, Left}
use Rattle.bag_algebra.specs.declared.query.Label.TheVariants.{External}
use Rattle.bag_algebra.specs.declared.query.Query.{more_of-Sublink, end_of-Sublink}
use Rattle.bag_algebra.specs.declared.query.SubKind.TheVariants.{Any}
use Rattle.name_meaning.specs.declared.answer.Resolved.TheVariants as r
use Rattle.statement_meaning.specs.Asking.{Settled, asks}
use Rattle.statement_meaning.specs.Turns.{Accepted}
use Rattle.worked_examples.specs.Queries.{num as whole, compared, r as source_r, s as source_s, built as item, select, a_of_r as select_a, c_of_s as select_c}
use Rattle.worked_examples.specs.HeldRows.{answering, column, holding, selected, word}

abbrev one_two : Bag
one_two = (whole 1 ∷ []) ∷ (whole 2 ∷ []) ∷ []

abbrev one_x : Bag
one_x = (whole 1 ∷ word (codes "x") ∷ []) ∷ []

-- each reference of a self join is a place: SELECT PROVENANCE x.c FROM s x, s y
abbrev self_join : Answer
self_join = answering (ProvOf (select (item kind.Integer (column 0) ∷ [])
    (JoinOf Inner source_s source_s (Lit (Boolean true) kind.Boolean) [] end_of-Sublink))) (codes "c" ∷ codes "prov_s_c" ∷ codes "prov_s_1_c" ∷ []) []

pub self_joined :
    asks (holding [] one_two) 0 (r.Select self_join)
    ≡ Settled (Accepted (codes "\"c\",\"prov_s_c\",\"prov_s_1_c\"\n1,1,1\n1,1,2\n2,2,1\n2,2,2\n(4 rows)\n") (holding [] one_two))
unfolding digits
self_joined = selected [] one_two 0 self_join

-- s contributes nothing: SELECT PROVENANCE r.a, r.b, s.c FROM r LEFT JOIN s ON r.a = s.c
abbrev left_join : Answer
left_join = answering (ProvOf (select (item kind.Integer (column 0) ∷ item kind.Text (column 1) ∷ item kind.Integer (column 2) ∷ [])
    (JoinOf Left source_r source_s (compared Equal (column 0) (column 2)) [] end_of-Sublink)))
    (codes "a" ∷ codes "b" ∷ codes "c" ∷ codes "prov_r_a" ∷ codes "prov_r_b" ∷ codes "prov_s_c" ∷ []) []

pub unmatched :
    asks (holding one_x []) 0 (r.Select left_join)
    ≡ Settled (Accepted (codes "\"a\",\"b\",\"c\",\"prov_r_a\",\"prov_r_b\",\"prov_s_c\"\n1,\"x\",,1,\"x\",\n(1 rows)\n") (holding one_x []))
unfolding digits
unmatched = selected one_x [] 0 left_join

-- of a sublink the rows that compare true contribute: SELECT PROVENANCE a FROM r WHERE a IN (SELECT c FROM s)
abbrev one_x_two_y : Bag
one_x_two_y = (whole 1 ∷ word (codes "x") ∷ []) ∷ (whole 2 ∷ word (codes "y") ∷ []) ∷ []

abbrev one_or_null : Bag
one_or_null = (whole 1 ∷ []) ∷ (Null ∷ []) ∷ []

abbrev with_in : Answer
with_in = answering (ProvOf (select (item kind.Integer (column 0) ∷ [])
    (FilterOf source_r (Sub 0) (tt ∷ []) (more_of-Sublink (Any Equal) (Some (column 0)) select_c end_of-Sublink))))
    (codes "a" ∷ codes "prov_r_a" ∷ codes "prov_r_b" ∷ codes "prov_s_c" ∷ []) []

pub matched :
    asks (holding one_x_two_y one_or_null) 0 (r.Select with_in)
    ≡ Settled (Accepted (codes "\"a\",\"prov_r_a\",\"prov_r_b\",\"prov_s_c\"\n1,1,\"x\",1\n(1 rows)\n") (holding one_x_two_y one_or_null))
unfolding digits
matched = selected one_x_two_y one_or_null 0 with_in

-- inside another query it gives its columns: SELECT PROVENANCE a FROM (SELECT PROVENANCE a FROM r) x
abbrev nested : Answer
nested = answering (ProvOf (select (item kind.Integer (column 0) ∷ [])
    (BaseOf (ProvOf select_a) (1 ∷ 2 ∷ []) (External (codes "prov_r_a" ∷ codes "prov_r_b" ∷ [])))))
    (codes "a" ∷ codes "prov_r_a" ∷ codes "prov_r_b" ∷ []) []

pub once_inside :
    asks (holding one_x []) 0 (r.Select nested)
    ≡ Settled (Accepted (codes "\"a\",\"prov_r_a\",\"prov_r_b\"\n1,1,\"x\"\n(1 rows)\n") (holding one_x []))
unfolding digits
once_inside = selected one_x [] 0 nested
