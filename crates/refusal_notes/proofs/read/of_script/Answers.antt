use Rattle.std.proofs.Common.{◌≡◌, codes, refl, arith}
use Rattle.refusal_notes.proofs.read.of_script.Goals as goal

pub returns-then-byte_at-eq48-clause-long : goal.returns-then-byte_at-eq48-clause-long
returns-then-byte_at-eq48-clause-long c =
    λ line. let one : c.byte_at.result ≡ 49 = c.byte_at.ensures.byte (codes "error E4") (codes " script") 49 refl line in
    absurd (omega (arith, one, c.if-byte_at-eq48.true))

pub returns-else-byte_at-eq48-clause-missing : goal.returns-else-byte_at-eq48-clause-missing
returns-else-byte_at-eq48-clause-missing c =
    λ line. let zero : c.byte_at.result ≡ 48 = c.byte_at.ensures.byte (codes "error E4") (codes " script") 48 refl line in
    absurd (omega (arith, zero, c.if-byte_at-eq48.false))
