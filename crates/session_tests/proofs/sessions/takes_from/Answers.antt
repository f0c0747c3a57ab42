use Rattle.std.proofs.Common.{sym, subst}
use Rattle.perm_catalog.specs.Sound.{IsSound}
use Rattle.session_tests.proofs.sessions.takes_from.Goals as goal

pub with-session-requires : goal.with-session-requires
with-session-requires c = subst IsSound (sym c.new-catalog.ensures) (c.catalogs_stay_sound.ensures.new c.args.next)
