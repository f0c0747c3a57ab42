use Rattle.std.proofs.Common.{sym, ap, ◌∙◌}
use Rattle.bag_algebra.specs.built.Openings.{Chain-is, Case-is, IsNull-is, IsTruth-is, Same-is}
use Rattle.query_laws.specs.spines.Spines.{is_behind}
use Rattle.query_laws.proofs.spines.joining.is_behind.Goals as goal

pub returns-in-Chain : goal.returns-in-Chain
returns-in-Chain c = sym (ap (is_behind c.args.before) (c.in-Chain.is ∙ Chain-is c.in-Chain.first c.in-Chain.steps))

pub returns-in-Case : goal.returns-in-Case
returns-in-Case c = sym (ap (is_behind c.args.before) (c.in-Case.is ∙ Case-is c.in-Case.arms c.in-Case.otherwise))

pub returns-in-IsNull : goal.returns-in-IsNull
returns-in-IsNull c = sym (ap (is_behind c.args.before) (c.in-IsNull.is ∙ IsNull-is c.in-IsNull.part))

pub returns-in-IsTruth : goal.returns-in-IsTruth
returns-in-IsTruth c = sym (ap (is_behind c.args.before) (c.in-IsTruth.is ∙ IsTruth-is c.in-IsTruth.truth c.in-IsTruth.part))

pub returns-in-Same : goal.returns-in-Same
returns-in-Same c = sym (ap (is_behind c.args.before) (c.in-Same.is ∙ Same-is c.in-Same.first c.in-Same.second))
