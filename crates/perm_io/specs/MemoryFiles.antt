-- What files in memory keep.
use Rattle.std.specs.Prelude.{ℕ, Bool, List, Some}
use Rattle.perm_io.specs.Shelves.{left_of}
use Rattle.perm_io.specs.Told.{FilesTold}
use Rattle.perm_io.specs.declared.named_file.NamedFile.{NamedFile}
use Rattle.perm_io.specs.declared.memory_files.MemoryFiles.{MemoryFiles}

-- all files
abbrev pub files_of : MemoryFiles → List NamedFile
files_of files = files.shelf.files

-- what is left of the file begun
abbrev pub left_in : MemoryFiles → List ℕ
left_in files = left_of files.shelf

-- how often a call failed
abbrev pub faults_of : MemoryFiles → ℕ
faults_of files = files.failures.faults

-- how often a file was begun, or its begin failed
abbrev pub begun_of : MemoryFiles → ℕ
begun_of files = files.shelf.begun

-- how many bytes were read since the last begin
abbrev pub taken_of : MemoryFiles → ℕ
taken_of files = files.shelf.taken

-- whether the last begin found no file
abbrev pub is_absent_in : MemoryFiles → Bool
is_absent_in files = files.shelf.absent

-- the numbers of the calls that are to fail
abbrev pub failing_of : MemoryFiles → List ℕ
failing_of files = files.failures.listed.items

-- how many calls were made
abbrev pub calls_of : MemoryFiles → ℕ
calls_of files = files.failures.calls

-- all of that in the words of every kind of files
abbrev pub told_by : MemoryFiles → FilesTold
told_by files = record {
  held = Some (files_of files);
  rest = Some (left_in files);
  faults = faults_of files;
  begun = begun_of files;
  taken = taken_of files;
  absent = is_absent_in files;
}
