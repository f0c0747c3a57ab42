-- What a session is seen as.
use Rattle.std.specs.Prelude.{◌≡◌, Option, None, refl}
use Rattle.std.specs.Coded.{Coded, code_by, coded×}
use Rattle.perm_catalog.specs.Contents.{Contents}
use Rattle.statement_steps.specs.declared.ran.Ran.{Ran}

-- what its catalog holds, and the last run of its runner
pub record SessionState : Type 0 where
  pub contents : Contents
  pub last : Option Ran

abbrev pub session_code : Coded Contents → Coded (Option Ran) → Coded SessionState
session_code contents last =
    code_by (Contents × Option Ran) (coded× contents last) (λ s. (s.contents, s.last)) (λ p. record { contents = p.0; last = p.1 }) (λ _. refl)

-- a session that has run nothing
abbrev pub begun_with : Contents → SessionState
begun_with c = record { contents = c; last = None }
