use Rattle.std.proofs.Common.{sym, ◌∙◌}
use Rattle.name_seen_cores.proofs.Queried.{plain-so, with_provenance-so}
use Rattle.name_seen_cores.proofs.queries.query_over.Goals as goal

pub returns-then-not-asking : goal.returns-then-not-asking
returns-then-not-asking c = λ at body limit none empty is kinds.
    plain-so c.args.asking at body c.args.order.now limit none c.args.facts c.args.columns c.if-not-asking.true empty is
    (rw c.as_slice.ensures at (sym c.keys_break.ensures ∙ c.in_ok-keys_break.was)) kinds

pub returns : goal.returns
returns c = λ at body limit none empty is kinds.
    with_provenance-so c.args.asking at body c.args.order.now limit none c.args.facts c.args.columns c.in_ok-with_places.field-0 c.if-not-asking.false empty is
    (rw c.as_slice.ensures at (sym c.keys_break.ensures ∙ c.in_ok-keys_break.was)) kinds c.in_ok-with_places.ensures
