use Rattle.std.proofs.Common.{◌≡◌, IfOk, length, sym, ap, ◌∙◌, subst}
use Rattle.std.proofs.lemmas.List.FromFn.{length-range_with_len}
use Rattle.bag_algebra.specs.declared.expr.Expr.{Expr}
use Rattle.contribution.specs.Conjunctions.{all_hold, same_tests}
use Rattle.rewrite_sublink.proofs.matching.same_as_outer.Goals as goal

pub same_columns-requires : goal.same_columns-requires
same_columns-requires c =
    ap length (c.as_slice.ensures ∙ c.in_ok-theirs.ensures)
    ∙ length-range_with_len c.args.columns.from c.args.columns.count
    ∙ sym (length-range_with_len c.args.columns.own c.args.columns.count)
    ∙ sym (ap length (c.as_slice-2.ensures ∙ c.in_ok-own.ensures))

pub returns : goal.returns
returns c =
    subst (λ (made : Expr). IfOk c.same_columns.result (λ test. test ≡ made))
    (λ i. all_hold (same_tests (c.candidate_level.ensures i) ((c.as_slice.ensures ∙ c.in_ok-theirs.ensures) i) ((c.as_slice-2.ensures ∙ c.in_ok-own.ensures) i)))
    c.same_columns.ensures.made
