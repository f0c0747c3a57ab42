-- What people try from other SQLs, and what they may write here. Words are in small letters.
use Rattle.std.specs.Prelude.{ℕ, List, [], ◌∷◌, ◌++◌, codes}
use Rattle.refusal_hints.specs.Advice.{Row, row}

abbrev pub averages : List ℕ
averages = codes "there is no AVG: SUM(x) / COUNT(x) is it, cut to a whole number"

abbrev pub offsets : List ℕ
offsets = codes "there is no OFFSET: LIMIT takes the first rows"

abbrev pub tops : List ℕ
tops = codes "there is no TOP: write LIMIT behind the query"

abbrev pub common_queries : List ℕ
common_queries = codes "there is no WITH: write the query in FROM, or make a view of it (CREATE VIEW name AS query)"

abbrev pub updates : List ℕ
updates = codes "there is no UPDATE: delete the rows and insert others, or make a table of a query (CREATE TABLE name AS query)"

abbrev pub windows : List ℕ
windows = codes "there are no window functions (OVER)"

abbrev pub joined_texts : List ℕ
joined_texts = codes "texts can't be joined: there is no ||, and no CONCAT"

abbrev pub casts : List ℕ
casts = codes "no kind is changed to another: CAST and :: are there for NULL alone, as CAST(NULL AS INTEGER)"

abbrev pub dates : List ℕ
dates = codes "there are no dates: texts such as '2024-01-31' are in the order of dates"

abbrev pub usings : List ℕ
usings = codes "there is no USING: write ON x.id = y.id"

abbrev pub decimals : List ℕ
decimals = codes "columns are INTEGER or TEXT: keep a decimal as a whole number, as cents"

abbrev pub text_kinds : List ℕ
text_kinds = codes "a column of texts is TEXT, without a length"

abbrev pub truths : List ℕ
truths = codes "no column holds truth values: keep 0 and 1 in an INTEGER"

abbrev pub points : List ℕ
points = codes "numbers are whole: write 1250 cents for 12.50; and a name has one point at most, as in item.column"

abbrev pub comments : List ℕ
comments = codes "comments begin with -- and end with their line"

abbrev pub equals : List ℕ
equals = codes "two values are compared by one ="

abbrev pub keys : List ℕ
keys = codes "a column is a name and a kind: there are no keys, defaults and other constraints, and each column may hold NULL"

abbrev pub conditions : List ℕ
conditions = codes "there is no IF EXISTS and no IF NOT EXISTS"

abbrev pub patterns : List ℕ
patterns = codes "texts are matched by LIKE alone, which tells capitals from small letters and has no ESCAPE"

abbrev pub nulls : List ℕ
nulls = codes "NULL comes last, and first under DESC: there is no NULLS FIRST"

abbrev pub filters : List ℕ
filters = codes "aggregates have no FILTER: write SUM(CASE WHEN condition THEN x END)"

abbrev pub functions : List ℕ
functions = codes "the functions are COUNT, SUM, MIN, MAX, COALESCE and NULLIF"

abbrev pub alterations : List ℕ
alterations = codes "there is no ALTER: make a new table of a query (CREATE TABLE name AS query)"

abbrev pub transactions : List ℕ
transactions = codes "there are no transactions: a script ends at the first refusal"

abbrev pub cases : List ℕ
cases = codes "there is no CASE x WHEN: write CASE WHEN x = 1 THEN .. END"

abbrev pub names : List ℕ
names = codes "a name that is no plain word stands in double quotes"

abbrev pub quotes : List ℕ
quotes = codes "a quote in a text is written twice, as in 'it''s'"

abbrev pub parameters : List ℕ
parameters = codes "there are no parameters"

abbrev pub signs : List ℕ
signs = codes "there is no sign +"

abbrev pub explains : List ℕ
explains = codes "EXPLAIN REWRITE query is the only EXPLAIN"

abbrev pub printed_quotes : List ℕ
printed_quotes = codes "a text stands between ', a name between \", and a minus is -: these are other characters"

abbrev pub wide_blanks : List ℕ
wide_blanks = codes "this blank is another character than a plain one"

abbrev pub marks : List ℕ
marks = codes "the file begins with a byte order mark: save it without one"

abbrev pub wide_texts : List ℕ
wide_texts = codes "the file is UTF-16: save it as UTF-8"

abbrev pub natural_joins : List ℕ
natural_joins = codes "there is no NATURAL JOIN: write ON x.id = y.id"

abbrev pub inserts : List ℕ
inserts = codes "an INSERT is INSERT INTO name VALUES (..), (..): it names no columns and takes no query"

abbrev pub copies : List ℕ
copies = codes "a COPY is COPY name FROM 'file' HEADER NULL 'text', of which the last two may lack: a comma is the only separator"

abbrev pub row_numbers : List ℕ
row_numbers = codes "rows have no number of their own"

abbrev pub text_quotes : List ℕ
text_quotes = codes "double quotes stand around names: a text stands between single ones"

-- what people try in a query
abbrev pub query_texts : List Row
query_texts =
    row (codes "avg") averages ∷
    row (codes "offset") offsets ∷
    row (codes "fetch") offsets ∷
    row (codes "top") tops ∷
    row (codes "with") common_queries ∷
    row (codes "update") updates ∷
    row (codes "merge") updates ∷
    row (codes "over") windows ∷
    row (codes "row_number") windows ∷
    row (codes "rank") windows ∷
    row (codes "dense_rank") windows ∷
    row (codes "lag") windows ∷
    row (codes "lead") windows ∷
    row (codes "||") joined_texts ∷
    row (codes "concat") joined_texts ∷
    row (codes "cast") casts ∷
    row (codes "::") casts ∷
    row (codes "date") dates ∷
    row (codes "time") dates ∷
    row (codes "timestamp") dates ∷
    row (codes "datetime") dates ∷
    row (codes "interval") dates ∷
    row (codes "now") dates ∷
    row (codes "extract") dates ∷
    row (codes "strftime") dates ∷
    row (codes "using") usings ∷
    []

-- kinds, marks, and what people write behind a column
abbrev pub column_texts : List Row
column_texts =
    row (codes "decimal") decimals ∷
    row (codes "numeric") decimals ∷
    row (codes "real") decimals ∷
    row (codes "float") decimals ∷
    row (codes "double") decimals ∷
    row (codes "money") decimals ∷
    row (codes "varchar") text_kinds ∷
    row (codes "char") text_kinds ∷
    row (codes "character") text_kinds ∷
    row (codes "nvarchar") text_kinds ∷
    row (codes "string") text_kinds ∷
    row (codes "boolean") truths ∷
    row (codes "bool") truths ∷
    row (codes ".") points ∷
    row (codes "/*") comments ∷
    row (codes "//") comments ∷
    row (codes "#") comments ∷
    row (codes "==") equals ∷
    row (codes "primary") keys ∷
    row (codes "unique") keys ∷
    row (codes "references") keys ∷
    row (codes "check") keys ∷
    row (codes "constraint") keys ∷
    row (codes "foreign") keys ∷
    row (codes "default") keys ∷
    row (codes "not") keys ∷
    row (codes "if") conditions ∷
    []

-- what people try in a condition, and functions
abbrev pub call_texts : List Row
call_texts =
    row (codes "ilike") patterns ∷
    row (codes "regexp") patterns ∷
    row (codes "similar") patterns ∷
    row (codes "glob") patterns ∷
    row (codes "escape") patterns ∷
    row (codes "nulls") nulls ∷
    row (codes "filter") filters ∷
    row (codes "length") functions ∷
    row (codes "upper") functions ∷
    row (codes "lower") functions ∷
    row (codes "substr") functions ∷
    row (codes "substring") functions ∷
    row (codes "trim") functions ∷
    row (codes "replace") functions ∷
    row (codes "round") functions ∷
    row (codes "abs") functions ∷
    row (codes "floor") functions ∷
    row (codes "ceil") functions ∷
    row (codes "mod") functions ∷
    row (codes "iif") functions ∷
    row (codes "ifnull") functions ∷
    row (codes "nvl") functions ∷
    row (codes "string_agg") functions ∷
    row (codes "group_concat") functions ∷
    row (codes "total") functions ∷
    []

-- what people try as a statement, and other marks
abbrev pub script_texts : List Row
script_texts =
    row (codes "alter") alterations ∷
    row (codes "truncate") alterations ∷
    row (codes "begin") transactions ∷
    row (codes "start") transactions ∷
    row (codes "commit") transactions ∷
    row (codes "rollback") transactions ∷
    row (codes "case") cases ∷
    row (codes "[") names ∷
    row (codes "`") names ∷
    row (codes "'") quotes ∷
    row (codes "?") parameters ∷
    row (codes "$") parameters ∷
    row (codes "@") parameters ∷
    row (codes ":") parameters ∷
    row (codes "+") signs ∷
    row (codes "explain") explains ∷
    row (226 ∷ 128 ∷ []) printed_quotes ∷
    row (194 ∷ 160 ∷ []) wide_blanks ∷
    row (239 ∷ 187 ∷ []) marks ∷
    row (255 ∷ 254 ∷ []) wide_texts ∷
    row (254 ∷ 255 ∷ []) wide_texts ∷
    []

-- what may stand where a script is refused, or just before
unfoldable pub texts : List Row
texts = query_texts ++ column_texts ++ call_texts ++ script_texts

-- words of a statement that is refused further behind
unfoldable pub statement_words : List Row
statement_words =
    row (codes "natural") natural_joins ∷
    row (codes "insert") inserts ∷
    row (codes "copy") copies ∷
    []

-- what may stand in the place of a name
unfoldable pub name_texts : List Row
name_texts =
    row (codes "current_date") dates ∷
    row (codes "current_time") dates ∷
    row (codes "current_timestamp") dates ∷
    row (codes "sysdate") dates ∷
    row (codes "rowid") row_numbers ∷
    row (codes "rownum") row_numbers ∷
    row (codes "ctid") row_numbers ∷
    row (codes "\"") text_quotes ∷
    []
