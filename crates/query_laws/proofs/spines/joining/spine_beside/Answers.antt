use Rattle.std.proofs.Common.{sym, ◌∙◌, subst, IfSome}
use Rattle.query_laws.specs.spines.Spines.{IsSpine, all_behind}
use Rattle.query_laws.proofs.spines.joining.spine_beside.Goals as goal

pub returns-then-all_behind : goal.returns-then-all_behind
returns-then-all_behind c = (
  subst (λ n. IsSpine n c.args.right.now c.in-Some.spine) c.in_ok-before.ensures.columns
      (subst (λ found. IfSome found (λ spine. IsSpine c.in_ok-before.before c.args.right.now spine)) c.in-Some.is c.in_ok-spine.ensures.spine),
  (λ i. all_behind (sym c.in_ok-before.ensures.columns i) (sym c.as_slice.ensures i)) ∙ sym c.all_behind.ensures ∙ c.if-all_behind.true,
)
