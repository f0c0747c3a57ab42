use Rattle.std.proofs.Common.{List, ℕ, IsTrue, ◌↔◌, subst}
use Rattle.sql_lexer.specs.Reserved.{IsReserved}
use Rattle.sql_lexer.proofs.reserved.is_reserved.Goals as goal

pub returns : goal.returns
returns c = subst (λ (word : List ℕ). IsTrue c.is_listed.result ↔ IsReserved word) c.as_str.ensures c.is_listed.ensures
