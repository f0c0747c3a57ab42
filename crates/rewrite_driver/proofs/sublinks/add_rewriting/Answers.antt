use Rattle.std.proofs.Common.{◌∷◌, ◌++◌, []}
use Rattle.perm_values.proofs.Results.{appended}
use Rattle.perm_values.proofs.Taken.{opened}
use Rattle.rewrite_driver.proofs.SublinkLists.{traced-more}
use Rattle.rewrite_move.specs.Traced.{traced_of}
use Rattle.rewrite_driver.proofs.sublinks.add_rewriting.Goals as goal
use Rattle.rewrite_driver.specs.KeptClosed.{RewritesClosed, SubsTracedClosed}

pub returns : goal.returns
returns c subs sub h k =
    appended (SubsTracedClosed (subs ++ sub ∷ [])) _ _ _ c.push.ensures.ok (traced-more subs _ sub _ h (opened (λ p. RewritesClosed (traced_of sub) p) c.args.query _ c.in_ok-query.was k))
