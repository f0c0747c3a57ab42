use Rattle.session_tests.proofs.sessions.spelled.Goals as goal

pub last_of-requires : goal.last_of-requires
last_of-requires c = c.a_spelled_script_is_regular.ensures c.args.bytes.now c.args.found.now c.in-Ok.tree c.requires c.in-Ok.ensures.1
