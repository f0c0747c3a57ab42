-- The byte behind the code tells causes apart.
use Rattle.std.proofs.Common.{◌≡◌, ◌∙◌, ℕ, ◌+◌, ◌/◌, ◌%◌, ◌^◌, ◌<◌, ◌≤◌, List, [], ◌∷◌, ◌++◌, length, refl, ap, arith}
use Rattle.std.proofs.lemmas.List.{append_cancel_right}
use Rattle.std.specs.Fmt.{decimal}
use Rattle.std.specs.Prelude.{codes}
use Rattle.csv_tables.specs.Lines.{data_line, error_line}
use Rattle.csv_tables.specs.declared.data_error.DataError.{DataError}
use Rattle.csv_tables.specs.declared.data_error.DataError.TheVariants.{Width, NotInteger, NotText, NoMemory}
use Rattle.refusal_notes.proofs.Spelt.{Reads, at-line, width-line, integer-line, text-line}
use Rattle.refusal_notes.specs.Causes.{IsCause, IsDataCause, line_of}
use Rattle.refusal_notes.specs.declared.cause.Cause.{Cause}
use Rattle.refusal_notes.specs.declared.cause.Cause.TheVariants.{At, NoScript, LongScript, Data, Unread}

abbrev letter : Cause → ℕ
letter (At code at) = 97
letter NoScript = 115
letter LongScript = 115
letter (Data error) = 114
letter Unread = 0

data-letter : (line : List ℕ) (error : DataError) (found : ℕ) → IsDataCause error → line ++ codes "\n" ≡ data_line error → Reads line 10 found → found ≡ 114
data-letter line (Width row) found fits e read = read (codes "error E42 ") (codes "ecord " ++ decimal row) 114 refl (width-line line row e)
data-letter line (NotInteger row field) found fits e read =
    read (codes "error E43 ") (codes "ecord " ++ (decimal row ++ codes " field " ++ decimal field)) 114 refl (integer-line line row field e)
data-letter line (NotText row field) found fits e read =
    read (codes "error E44 ") (codes "ecord " ++ (decimal row ++ codes " field " ++ decimal field)) 114 refl (text-line line row field e)
data-letter line NoMemory found fits e read = absurd fits

letter-read : (line : List ℕ) (cause : Cause) (found : ℕ) → IsCause cause → line ++ codes "\n" ≡ line_of cause → Reads line 10 found →
    (length line ≤ 10 → found ≡ 0) → found ≡ letter cause
letter-read line (At code at) found fits e read none =
    read (codes "error E" ++ (48 + code / 10) ∷ (48 + code % 10) ∷ codes " ") (codes "t " ++ decimal at) 97 refl (at-line line code at fits.0 e)
letter-read line NoScript found fits e read none =
    read (codes "error E40 ") (codes "cript") 115 refl (append_cancel_right line (codes "error E40 script") (codes "\n") e)
letter-read line LongScript found fits e read none =
    read (codes "error E41 ") (codes "cript") 115 refl (append_cancel_right line (codes "error E41 script") (codes "\n") e)
letter-read line (Data error) found fits e read none = data-letter line error found fits e read
letter-read line Unread found fits e read none =
    let n : length line ≡ 9 = ap length (append_cancel_right line (codes "error E50") (codes "\n") e) in none (omega (arith, n))

pub at-arm : (line : List ℕ) (cause : Cause) (found : ℕ) (made : Cause) → IsCause cause → line ++ codes "\n" ≡ line_of cause → Reads line 10 found →
    (length line ≤ 10 → found ≡ 0) → found ≡ 97 →
    ((code at : ℕ) → code < 100 → at < 2 ^ 64 → line ++ codes "\n" ≡ error_line code at → made ≡ At code at) → made ≡ cause
at-arm line (At code at) found made fits e read none is gives = gives code at fits.0 fits.1 e
at-arm line NoScript found made fits e read none is gives =
    let l : found ≡ 115 = letter-read line NoScript found fits e read none in absurd (omega (arith, l, is))
at-arm line LongScript found made fits e read none is gives =
    let l : found ≡ 115 = letter-read line LongScript found fits e read none in absurd (omega (arith, l, is))
at-arm line (Data error) found made fits e read none is gives =
    let l : found ≡ 114 = letter-read line (Data error) found fits e read none in absurd (omega (arith, l, is))
at-arm line Unread found made fits e read none is gives =
    let l : found ≡ 0 = letter-read line Unread found fits e read none in absurd (omega (arith, l, is))

pub script-arm : (line : List ℕ) (cause : Cause) (found : ℕ) (made : Cause) → IsCause cause → line ++ codes "\n" ≡ line_of cause → Reads line 10 found →
    (length line ≤ 10 → found ≡ 0) → found ≡ 115 →
    (line ≡ codes "error E40 script" → made ≡ NoScript) → (line ≡ codes "error E41 script" → made ≡ LongScript) → made ≡ cause
script-arm line (At code at) found made fits e read none is missing long =
    let l : found ≡ 97 = letter-read line (At code at) found fits e read none in absurd (omega (arith, l, is))
script-arm line NoScript found made fits e read none is missing long = missing (append_cancel_right line (codes "error E40 script") (codes "\n") e)
script-arm line LongScript found made fits e read none is missing long = long (append_cancel_right line (codes "error E41 script") (codes "\n") e)
script-arm line (Data error) found made fits e read none is missing long =
    let l : found ≡ 114 = letter-read line (Data error) found fits e read none in absurd (omega (arith, l, is))
script-arm line Unread found made fits e read none is missing long =
    let l : found ≡ 0 = letter-read line Unread found fits e read none in absurd (omega (arith, l, is))

pub data-arm : (line : List ℕ) (cause : Cause) (found : ℕ) (made : Cause) → IsCause cause → line ++ codes "\n" ≡ line_of cause → Reads line 10 found →
    (length line ≤ 10 → found ≡ 0) → found ≡ 114 →
    ((error : DataError) → IsDataCause error → line ++ codes "\n" ≡ data_line error → made ≡ Data error) → made ≡ cause
data-arm line (At code at) found made fits e read none is gives =
    let l : found ≡ 97 = letter-read line (At code at) found fits e read none in absurd (omega (arith, l, is))
data-arm line NoScript found made fits e read none is gives =
    let l : found ≡ 115 = letter-read line NoScript found fits e read none in absurd (omega (arith, l, is))
data-arm line LongScript found made fits e read none is gives =
    let l : found ≡ 115 = letter-read line LongScript found fits e read none in absurd (omega (arith, l, is))
data-arm line (Data error) found made fits e read none is gives = gives error fits e
data-arm line Unread found made fits e read none is gives =
    let l : found ≡ 0 = letter-read line Unread found fits e read none in absurd (omega (arith, l, is))

pub last-arm : (line : List ℕ) (cause : Cause) (found : ℕ) → IsCause cause → line ++ codes "\n" ≡ line_of cause → Reads line 10 found →
    (length line ≤ 10 → found ≡ 0) → (found ≡ 97 → ⊥) → (found ≡ 115 → ⊥) → (found ≡ 114 → ⊥) → Unread ≡ cause
last-arm line (At code at) found fits e read none a s r = absurd (a (letter-read line (At code at) found fits e read none))
last-arm line NoScript found fits e read none a s r = absurd (s (letter-read line NoScript found fits e read none))
last-arm line LongScript found fits e read none a s r = absurd (s (letter-read line LongScript found fits e read none))
last-arm line (Data error) found fits e read none a s r = absurd (r (letter-read line (Data error) found fits e read none))
last-arm line Unread found fits e read none a s r = refl
