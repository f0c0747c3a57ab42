-- Files in memory by their names.
use Rattle.std.specs.Prelude.{◌≡◌, ℕ, nat_eq, Bool, true, false, cond, List, [], ◌∷◌, slice_get, Option, None, Some, MatchOption}
use Rattle.std.specs.Cmp.Lexicographic.{pointwise}
use Rattle.perm_io.specs.declared.named_file.NamedFile.{NamedFile}

-- the bytes of the first file of that name
abbrev pub file_named : List NamedFile → List ℕ → Option (List ℕ)
file_named [] name = None
file_named (file ∷ files) name = cond (pointwise nat_eq file.name name) (Some file.bytes) (file_named files name)

-- the bytes of the file at a place, none past the last
abbrev pub bytes_at : List NamedFile → ℕ → List ℕ
bytes_at files place = elim (slice_get files place) [ None ↦ [] | Some file ↦ file.bytes ]

-- whether a file of the name was found, and what is left of it
abbrev pub IsBegun : List NamedFile → List ℕ → Bool → List ℕ → Type 0
IsBegun files name found left =
    MatchOption (file_named files name) ((found ≡ false) × (left ≡ [])) (λ bytes. (found ≡ true) × (left ≡ bytes))
