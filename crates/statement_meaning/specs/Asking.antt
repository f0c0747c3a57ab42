-- What becomes of a statement over what a catalog holds: settled at once, by a file, or by a text that explains an answer.
use Rattle.std.specs.Prelude.{ℕ, List, [], ◌∷◌}
use Rattle.bag_algebra.specs.declared.query.Answer.{Answer}
use Rattle.perm_catalog.specs.Contents.{Contents}
use Rattle.perm_io.specs.Found.{Found}
use Rattle.sql_tree.specs.declared.statement.Statement.{Statement}
use Rattle.name_meaning.specs.Statements.{breaks, resolved}
use Rattle.name_meaning.specs.declared.answer.Break.{Break}
use Rattle.name_meaning.specs.declared.answer.Resolved.{Resolved}
use Rattle.name_meaning.specs.declared.answer.Resolved.TheVariants as r
use Rattle.statement_meaning.specs.Turns.{Turn, Refused, Broken, create_table, view_created, table_dropped, view_dropped, insert, copy, delete, select, impact, create_table_as, show_fresh}

-- it is settled, or it begins the file of this name and goes on by what became of that; or any text will do that explains this
-- answer over these contents, which stay
pub data Asked : Type 0 where
  Settled : Turn → Asked
  Begins : List ℕ → (Found → Turn) → Asked
  Explained : Contents → Answer → Asked

-- what a statement at this offset asks for, whose names are looked up and which breaks no rule of names and kinds
abbrev pub asks : Contents → ℕ → Resolved → Asked
asks c at (r.CreateTable name columns) = Settled (create_table c at name columns)
asks c at (r.CreateTableAs name columns answer places) = Settled (create_table_as c at name columns answer places)
asks c at (r.CreateView name entry) = Settled (view_created c name entry)
asks c at (r.Copy name kinds file null_field header) = Begins file (copy c at name kinds null_field header)
asks c at (r.Insert name rows) = Settled (insert c at name rows)
asks c at (r.Delete name condition) = Settled (delete c at name condition)
asks c at (r.DropTable name) = Settled (table_dropped c name)
asks c at (r.DropView name) = Settled (view_dropped c name)
asks c at (r.Select answer) = Settled (select c at answer)
asks c at (r.Explain answer) = Explained c answer
asks c at (r.ShowFresh name) = Settled (show_fresh c name)
asks c at (r.Impact name condition answer) = Settled (impact c at name condition answer)

-- the first break refuses the statement
abbrev pub unless_broken : List Break → Asked → Asked
unless_broken [] asked = asked
unless_broken (first ∷ more) asked = Settled (Refused (Broken first))

-- what becomes of a statement
abbrev pub asked : Contents → Statement → Asked
asked c statement = unless_broken (breaks c statement) (asks c statement.at (resolved c statement))
