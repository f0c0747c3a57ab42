-- What becomes of a statement, by its breaks.
use Rattle.std.proofs.Common.{◌≡◌, List, ap}
use Rattle.perm_catalog.specs.Contents.{Contents}
use Rattle.sql_tree.specs.declared.statement.Statement.{Statement}
use Rattle.name_meaning.specs.Statements.{breaks, resolved}
use Rattle.name_meaning.specs.declared.answer.Break.{Break}
use Rattle.statement_meaning.specs.Asking.{asked, asks, unless_broken}

pub asked-by_breaks : (c : Contents) (statement : Statement) (found : List Break) → breaks c statement ≡ found
    → asked c statement ≡ unless_broken found (asks c statement.at (resolved c statement))
asked-by_breaks c statement found e = ap (λ (bs : List Break). unless_broken bs (asks c statement.at (resolved c statement))) e
