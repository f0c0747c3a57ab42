-- What a file can be found to be.
use Rattle.std.proofs.Common.{◌≡◌, ◌⊎◌, ℕ, ◌≤◌, ◌<◌, List, length, Option, Some, None, IsSomeAnd, refl, sym, subst, inl, inr}
use Rattle.std.proofs.lemmas.Bool.{cases_lt}
use Rattle.perm_io.specs.Found.{Found, CanBe, Read, Missing, TooLong}
use Rattle.perm_io.specs.Named.{file_named}
use Rattle.perm_io.specs.declared.named_file.NamedFile.{NamedFile}

-- every file can be found to be something
pub some_found : (limit : ℕ) (held : Option (List NamedFile)) (fault : Type 0) (name : List ℕ) → (found : Found) × CanBe limit held fault name found
some_found limit None fault name = (Missing, tt)
some_found limit (Some files) fault name = by_bytes (file_named files name) refl where
  by_length : (bytes : List ℕ) → file_named files name ≡ Some bytes → (limit < length bytes) ⊎ (length bytes ≤ limit) → (found : Found) × CanBe limit (Some files) fault name found
  by_length bytes e (inl longer) = (TooLong, subst (λ found. IsSomeAnd found (λ b. limit < length b)) (sym e) longer)
  by_length bytes e (inr within) = (Read bytes, (e, within))

  by_bytes : (found : Option (List ℕ)) → file_named files name ≡ found → (found : Found) × CanBe limit (Some files) fault name found
  by_bytes None e = (Missing, e)
  by_bytes (Some bytes) e = by_length bytes e (cases_lt limit (length bytes))
