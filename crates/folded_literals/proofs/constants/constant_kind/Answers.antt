use Rattle.std.proofs.Common.{◌≡◌, ◌&&◌, cond, Some, None, sym, ap, ◌∙◌}
use Rattle.perm_values.specs.declared.kind.Kind.TheVariants.{Integer, Boolean}
use Rattle.folded_literals.specs.Constants.{constant_kind, is_literal, literal_kind, kind_given}
use Rattle.folded_literals.specs.built.Constants.{all_literal, all_steps_literal, all_arms_literal, first_kind, constant_kind-Op, constant_kind-Chain, constant_kind-Case, constant_kind-IsNull, constant_kind-IsTruth, constant_kind-Same}
use Rattle.folded_literals.proofs.constants.constant_kind.Goals as goal

pub returns-in-Op : goal.returns-in-Op
returns-in-Op c =
    c.operator_kind.ensures ∙ ap (λ parts. cond (all_literal parts) (Some (kind_given c.in-Op.op (first_kind parts))) None) c.as_slice.ensures
    ∙ sym (ap constant_kind c.in-Op.is ∙ constant_kind-Op c.in-Op.op c.in-Op.parts)

pub returns-in-Chain : goal.returns-in-Chain
returns-in-Chain c =
    let all : c.chain_literal.result ≡ (is_literal c.in-Chain.first && all_steps_literal c.in-Chain.steps) =
    c.chain_literal.ensures ∙ (λ i. is_literal (c.get.ensures i) && all_steps_literal (c.as_slice-in-Chain.ensures i)) in
    c.kind_where.ensures ∙ ap (λ all. cond all (Some Integer) None) all
    ∙ sym (ap constant_kind c.in-Chain.is ∙ constant_kind-Chain c.in-Chain.first c.in-Chain.steps)

pub returns-in-Case : goal.returns-in-Case
returns-in-Case c =
    let given : c.case_kind.result ≡ cond (all_arms_literal c.in-Case.arms && is_literal c.in-Case.otherwise) (Some (literal_kind c.in-Case.otherwise)) None =
    c.case_kind.ensures
    ∙ (λ i. cond (all_arms_literal (c.as_slice-in-Case.ensures i) && is_literal (c.get-in-Case.ensures i)) (Some (literal_kind (c.get-in-Case.ensures i))) None) in
    given ∙ sym (ap constant_kind c.in-Case.is ∙ constant_kind-Case c.in-Case.arms c.in-Case.otherwise)

pub returns-in-IsNull : goal.returns-in-IsNull
returns-in-IsNull c =
    c.kind_where-in-IsNull.ensures ∙ ap (λ all. cond all (Some Boolean) None) (c.is_literal.ensures ∙ ap is_literal c.get-in-IsNull.ensures)
    ∙ sym (ap constant_kind c.in-IsNull.is ∙ constant_kind-IsNull c.in-IsNull.part)

pub returns-in-IsTruth : goal.returns-in-IsTruth
returns-in-IsTruth c =
    c.kind_where-in-IsTruth.ensures ∙ ap (λ all. cond all (Some Boolean) None) (c.is_literal-in-IsTruth.ensures ∙ ap is_literal c.get-in-IsTruth.ensures)
    ∙ sym (ap constant_kind c.in-IsTruth.is ∙ constant_kind-IsTruth c.in-IsTruth.truth c.in-IsTruth.part)

pub returns-in-Same : goal.returns-in-Same
returns-in-Same c =
    let all : c.both_literal.result ≡ (is_literal c.in-Same.first && is_literal c.in-Same.second) =
    c.both_literal.ensures ∙ (λ i. is_literal (c.get-in-Same.ensures i) && is_literal (c.get-in-Same-2.ensures i)) in
    c.kind_where-in-Same.ensures ∙ ap (λ all. cond all (Some Boolean) None) all
    ∙ sym (ap constant_kind c.in-Same.is ∙ constant_kind-Same c.in-Same.first c.in-Same.second)
