-- The first file of a name, and what is left of a file after a read.
use Rattle.std.proofs.Common.{◌≡◌, ◌∙◌, ℕ, suc, ◌+◌, ◌<◌, ◌≤◌, true, cond, nat_eq, List, [], ◌∷◌, ◌++◌, length, take, drop, get_or, sym, ap, drop-cons, drop-drop}
use Rattle.std.specs.Prelude.{None, Some, slice_get}
use Rattle.std.specs.Cmp.Lexicographic.{pointwise}
use Rattle.std.proofs.lemmas.List.{take_at, take-append-drop, length-take-le}
use Rattle.std.proofs.lemmas.Option.{slice_get-get_or}
use Rattle.perm_io.specs.Named.{file_named, bytes_at}
use Rattle.perm_io.specs.declared.named_file.NamedFile.{NamedFile}

bytes_at-is : (files : List NamedFile) (i : ℕ) (file : NamedFile) → slice_get files i ≡ Some file → bytes_at files i ≡ file.bytes
bytes_at-is files i file e = ap (λ found. elim found [ None ↦ [] | Some file ↦ file.bytes ]) e

-- the file at a place has the name, and none before it does
pub file_named-here : (files : List NamedFile) (i : ℕ) (file : NamedFile) (name : List ℕ) → i < length files → file ≡ get_or files i file →
    pointwise nat_eq file.name name ≡ true → file_named (drop i files) name ≡ file_named files name → file_named files name ≡ Some (bytes_at files i)
file_named-here files i file name within is same none =
    let here : drop i files ≡ file ∷ drop (suc i) files = drop-cons files i file within ∙ ap (λ f. f ∷ drop (suc i) files) (sym is) in
    let found : file_named (drop i files) name ≡ Some file.bytes =
    ap (λ l. file_named l name) here ∙ ap (λ t. cond t (Some file.bytes) (file_named (drop (suc i) files) name)) same in
    let item : slice_get files i ≡ Some file = slice_get-get_or files i file within ∙ ap Some (sym is) in
    sym none ∙ found ∙ ap Some (sym (bytes_at-is files i file item))

-- what is moved to the front of a buffer, and what is left
pub left-moved : (bytes left piece into : List ℕ) (position count : ℕ) → left ≡ drop position bytes → count ≤ length left → piece ≡ take count left →
    drop position bytes ≡ take count (piece ++ drop count into) ++ drop (position + count) bytes
left-moved bytes left piece into position count is within moved =
    let long : length piece ≡ count = ap length moved ∙ length-take-le count left within in
    let front : take count (piece ++ drop count into) ≡ take count left = take_at piece (drop count into) count long ∙ moved in
    let behind : drop (position + count) bytes ≡ drop count left = sym (ap (λ l. drop count l) is ∙ drop-drop count position bytes) in
    sym is ∙ sym (take-append-drop count left) ∙ sym (ap (λ l. l ++ drop (position + count) bytes) front ∙ ap (λ l. take count left ++ l) behind)
