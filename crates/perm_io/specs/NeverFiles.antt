-- What files in memory that never fail keep.
use Rattle.std.specs.Prelude.{ℕ, Bool, List, Some}
use Rattle.perm_io.specs.Shelves.{left_of}
use Rattle.perm_io.specs.Told.{FilesTold}
use Rattle.perm_io.specs.declared.named_file.NamedFile.{NamedFile}
use Rattle.perm_io.specs.declared.never_files.NeverFiles.{NeverFiles}

-- all files
abbrev pub files_of : NeverFiles → List NamedFile
files_of files = files.shelf.files

-- what is left of the file begun
abbrev pub left_in : NeverFiles → List ℕ
left_in files = left_of files.shelf

-- how often a file was begun
abbrev pub begun_of : NeverFiles → ℕ
begun_of files = files.shelf.begun

-- how many bytes were read since the last begin
abbrev pub taken_of : NeverFiles → ℕ
taken_of files = files.shelf.taken

-- whether the last begin found no file
abbrev pub is_absent_in : NeverFiles → Bool
is_absent_in files = files.shelf.absent

-- all of that in the words of every kind of files
abbrev pub told_by : NeverFiles → FilesTold
told_by files = record {
  held = Some (files_of files);
  rest = Some (left_in files);
  faults = 0;
  begun = begun_of files;
  taken = taken_of files;
  absent = is_absent_in files;
}
