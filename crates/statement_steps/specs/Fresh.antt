-- The text of what has become of the tables that a stored query read.
use Rattle.std.specs.Prelude.{ℕ, List, ◌++◌, codes}
use Rattle.stored_provenance.specs.declared.fresh.FreshState.{FreshState}
use Rattle.stored_provenance.specs.declared.fresh.FreshState.TheVariants.{Fresh, Stale}

abbrev pub state_text : FreshState → List ℕ
state_text Fresh = codes "fresh\n"
state_text (Stale first) = codes "stale " ++ first ++ codes "\n"
