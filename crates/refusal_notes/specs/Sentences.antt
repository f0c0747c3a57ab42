-- What a person is told of a cause, by the number of its code: the manual's table of refusals in a sentence each.
use Rattle.std.specs.Prelude.{ℕ, ◌==◌, nat_lt, cond, List, [], codes}

-- a break of spelling
abbrev pub spelling_sentence : ℕ → List ℕ
spelling_sentence code =
    cond (code == 1) (codes "the script isn't UTF-8 from here on")
    (cond (code == 2) (codes "this character begins no token")
    (cond (code == 3) (codes "this quote isn't closed")
    (cond (code == 4) (codes "this integer is above 9223372036854775807")
    (cond (code == 5) (codes "this token can't stand here, or the script ends too early")
    (cond (code == 6) (codes "this is the 65th parenthesis or CASE that is open") [])))))

-- a break of names
abbrev pub name_sentence : ℕ → List ℕ
name_sentence code =
    cond (code == 10) (codes "no table or view of this name")
    (cond (code == 11) (codes "no column of this name")
    (cond (code == 12) (codes "two columns have this name")
    (cond (code == 13) (codes "a table or view has this name already")
    (cond (code == 14) (codes "a column is named twice")
    (cond (code == 15) (codes "an earlier item of FROM has this name")
    (cond (code == 16) (codes "a view names what is to be dropped") []))))))

-- a break of kinds, of places or of limits
abbrev pub kind_sentence : ℕ → List ℕ
kind_sentence code =
    cond (code == 20) (codes "this is of another kind than is needed")
    (cond (code == 21) (codes "this has another number of columns than is needed")
    (cond (code == 22) (codes "this column is in no aggregate and not in GROUP BY")
    (cond (code == 23) (codes "an aggregate can't stand here, or not over this column")
    (cond (code == 24) (codes "a subquery can't stand here")
    (cond (code == 25) (codes "PROVENANCE can't stand here") [])))))

abbrev pub limit_sentence : ℕ → List ℕ
limit_sentence code =
    cond (code == 26) (codes "a table may have 256 columns, and a query 1,024")
    (cond (code == 27) (codes "this query is too large, with what its views stand for")
    (cond (code == 28) (codes "this query may gain rows where a table loses some") []))

-- a fault that a statement meets
abbrev pub fault_sentence : ℕ → List ℕ
fault_sentence code =
    cond (code == 30) (codes "this statement divides by zero")
    (cond (code == 31) (codes "this statement meets a number that 64 bits don't hold")
    (cond (code == 32) (codes "a subquery of this statement that stands for one value has several rows") []))

-- a file
abbrev pub file_sentence : ℕ → List ℕ
file_sentence code =
    cond (code == 40) (codes "there is no file of the name that is given")
    (cond (code == 41) (codes "the file is too long: a script may have 2^20 bytes, and a file to copy 2^26")
    (cond (code == 42) (codes "this record has another number of fields than the table has columns")
    (cond (code == 43) (codes "this field isn't an integer")
    (cond (code == 44) (codes "this field isn't UTF-8")
    (cond (code == 50) (codes "this file couldn't be opened or read") [])))))

-- the codes of each family of ten; none where there is no cause of this number
abbrev pub sentence : ℕ → List ℕ
sentence code =
    cond (nat_lt code 10) (spelling_sentence code)
    (cond (nat_lt code 20) (name_sentence code)
    (cond (nat_lt code 26) (kind_sentence code)
    (cond (nat_lt code 30) (limit_sentence code)
    (cond (nat_lt code 40) (fault_sentence code) (file_sentence code)))))
