-- Files in memory, of which one may be open.
use Rattle.std.specs.Prelude.{ℕ, List, drop}
use Rattle.perm_io.specs.Named.{bytes_at}
use Rattle.perm_io.specs.declared.shelf.Shelf.{Shelf}

-- what is left of the open file
abbrev pub left_of : Shelf → List ℕ
left_of shelf = drop shelf.position (bytes_at shelf.files shelf.current)
