-- In which frame a query is written.
use Rattle.query_texts.specs.clauses.Names.{Naming, naming}
use Rattle.query_texts.specs.declared.clauses.frame.Frame.{Frame}

-- how the columns that the query gives are called
abbrev pub called_in : Frame → Naming
called_in frame = naming frame.out.now frame.first
