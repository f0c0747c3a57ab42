-- What a function read took tokens, where the reading takes them.
use Rattle.std.proofs.Common.{◌≡◌, ◌<◌, List, length, Result, Ok, Err}
use Rattle.std.specs.Prelude.{IfOk}
use Rattle.sql_lexer.specs.declared.token.Token.{Token}
use Rattle.sql_tree.specs.grammar.Cursors.{Reads}
use Rattle.sql_tree.specs.grammar.Descent.{Parsed, Taken}
use Rattle.sql_tree.specs.declared.grammar.unread.Unread.{Unread}

pub fewer_of : {X : Type 0} (result : Result X Unread) (outcome : Parsed Token X) (old new : List Token)
    → ((x : X) → outcome ≡ Taken x new → length new < length old) → Reads result outcome new → IfOk result (λ _. length new < length old)
fewer_of (Ok x) outcome old new takes e = takes x e
fewer_of (Err unread) outcome old new takes e = tt
