use Rattle.std.proofs.Common.{sym, subst, refl}
use Rattle.std.specs.Bool.{IsTrue}
use Rattle.perm_catalog.specs.Changes.{is_free}
use Rattle.perm_catalog.specs.Contents.{Contents}
use Rattle.session_tests.proofs.sessions.created.Goals as goal

pub create-made-requires : goal.create-made-requires
create-made-requires c = subst (λ (held : Contents). IsTrue (is_free held c.in_ok-name.name)) (sym c.new-catalog.ensures) refl
