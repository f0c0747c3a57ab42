use Rattle.std.specs.Prelude.{min}
use Rattle.std.proofs.Common.{ℕ, ◌<◌, ◌+◌, ◌-◌, take, sym, ap, ◌∙◌, arith}
use Rattle.name_meaning.specs.Scopes.{look_up}
use Rattle.name_seen_parts.specs.Named.{here_only, scopes_of}
use Rattle.name_seen_parts.specs.declared.scopes.Scopes.{Scopes}
use Rattle.name_seen_parts.proofs.Levels.{first-left, there, not-there}
use Rattle.name_seen_parts.proofs.scopes.+look_up_from.Goals as goal

pub returns-in-Some : goal.returns-in-Some
returns-in-Some t c =
    let inner = c.in-Inner in
    let some : 0 < min c.args.left inner.depth = omega arith in
    sym (ap (λ (s : Scopes). look_up c.args.level (take c.args.left (scopes_of s)) c.args.reference.now) inner.is
    ∙ first-left c.args.left inner.depth c.args.level (here_only inner.bare inner.scope.now) (scopes_of inner.outer.now) c.args.reference.now some
    ∙ there inner.bare c.args.level inner.scope.now (take (min c.args.left inner.depth - 1) (scopes_of inner.outer.now)) c.args.reference.now c.in-Some.found
    (sym c.found_in.ensures ∙ c.in-Some.is))

pub returns-in-None : goal.returns-in-None
returns-in-None t c =
    let inner = c.in-Inner in
    let some : 0 < min c.args.left inner.depth = omega arith in
    c.look_up_from.ensures
    ∙ ap (λ (n : ℕ). look_up (c.args.level + 1) (take (n - 1) (scopes_of inner.outer.now)) c.args.reference.now) c.min-left.ensures
    ∙ sym (ap (λ (s : Scopes). look_up c.args.level (take c.args.left (scopes_of s)) c.args.reference.now) inner.is
    ∙ first-left c.args.left inner.depth c.args.level (here_only inner.bare inner.scope.now) (scopes_of inner.outer.now) c.args.reference.now some
    ∙ not-there inner.bare c.args.level inner.scope.now (take (min c.args.left inner.depth - 1) (scopes_of inner.outer.now)) c.args.reference.now
    (sym c.found_in.ensures ∙ c.in-None.is))
