use Rattle.std.proofs.Common.{◌∙◌, ◌++◌, ap, ℕ}
use Rattle.std.specs.Prelude.{codes}
use Rattle.perm_engine.proofs.meaning.generation.Rows.{two_pieces}
use Rattle.perm_engine.proofs.meaning.generation.made.Draft.push_tables.Goals as goal

pub returns : goal.returns
returns c =
    c.in_ok-push-2.ensures
    ∙ ap (λ text. text ++ codes "create table small ( g integer , name text ) ; ") c.in_ok-push.ensures
    ∙ two_pieces c.args.self.now (codes "create table big ( k integer , g integer , t text ) ; ") (codes "create table small ( g integer , name text ) ; ")
