-- What is known of a query from row to row, under which it is asked for as the query of a sublink or the right side of a
-- dependent join.
use Rattle.std.specs.Prelude.{◌≡◌, ℕ, zero, suc, Bool, true, false, ◌&&◌, IsTrue, List, [], ◌∷◌, Option, Some, None, is_none, unwrap_or, Result, Ok, Err}
use Rattle.std.specs.List.{range_with_len}
use Rattle.perm_values.specs.Rows.{picked}
use Rattle.null_logic.specs.Logic.{truth_not}
use Rattle.null_logic.specs.declared.compare.Compare.{Compare}
use Rattle.null_logic.specs.declared.compare.Compare.TheVariants.{Equal, NotEqual, Less, LessEqual, Greater, GreaterEqual}
use Rattle.null_logic.specs.declared.truth.Truth.{Truth}
use Rattle.bag_algebra.specs.Bags.{Row, Bag}
use Rattle.bag_algebra.specs.Meaning.{Database, meaning}
use Rattle.bag_algebra.specs.Outcome.{Good}
use Rattle.bag_algebra.specs.built.Patterns.{BaseOf, FilterOf, ProjectOf, JoinOf, ApplyOf, UnionOf, IntersectOf, ExceptOf, DistinctOf, AggregateOf, LimitOf, ProvOf}
use Rattle.bag_algebra.specs.declared.expr.Expr.{Expr}
use Rattle.bag_algebra.specs.declared.query.Query.{Query}
use Rattle.bag_algebra.specs.declared.query.Query.TheVariants.{Table, Single}
use Rattle.bag_algebra.specs.declared.query.SubKind.{SubKind}
use Rattle.bag_algebra.specs.declared.query.SubKind.TheVariants.{Exists, Any, All, Scalar}
use Rattle.bag_algebra.specs.declared.query.Sublink.{Sublink}
use Rattle.query_facts.specs.reached.reads.Columns.{AreNearest, columns_of}
use Rattle.row_values.specs.Answers.{Refuses}
use Rattle.row_values.specs.declared.error.ExecError.{ExecError}
use Rattle.row_nodes.specs.memory.Memory.{Remembered, found, found_under, remembered}
use Rattle.row_joins.specs.Cells.{AreCells}
use Rattle.row_joins.specs.Equated.{is_equality}
use Rattle.row_nodes.specs.Keeping.{Keeps, KeptOf, input_columns, input_depth, is_kept, keeps_input, keyed_at}
use Rattle.row_nodes.specs.Keyed.{AreKeyed}
use Rattle.row_nodes.specs.declared.keeping.Keeping.{Keeping}
use Rattle.row_nodes.specs.declared.keeping.Keeping.TheVariants as of
use Rattle.row_nodes.specs.declared.known.KnownAnswer.{KnownAnswer}
use Rattle.row_nodes.specs.declared.known.KnownAnswer.TheVariants as by
use Rattle.row_nodes.specs.declared.known.Keyed.{Keyed}
use Rattle.row_nodes.specs.declared.known.Known.{Known}

abbrev pub is_not_equal : Compare → Bool
is_not_equal Equal = false
is_not_equal NotEqual = true
is_not_equal Less = false
is_not_equal LessEqual = false
is_not_equal Greater = false
is_not_equal GreaterEqual = false

-- IN and NOT IN
abbrev pub tests_equality : SubKind → Bool
tests_equality Exists = false
tests_equality (Any c) = is_equality c
tests_equality (All c) = is_not_equal c
tests_equality Scalar = false

abbrev pub turned : SubKind → Truth → Truth
turned Exists truth = truth
turned (Any c) truth = truth
turned (All c) truth = truth_not truth
turned Scalar truth = truth

-- what answers for a query with these rows; a table of their first columns only where a value among these is asked for
abbrev pub HasRows : Bool → Bag → KnownAnswer → Type 0
HasRows in_cells vs by.Nothing = Unit {0}
HasRows in_cells vs (by.Rows rows) = rows ≡ vs
HasRows in_cells vs (by.Cells cells) = IsTrue in_cells × AreCells cells vs

-- the query has rows under the outer rows, and these are they
pub record IsWholeAnswer (db : Database) (inner : List Row) (q : Query) (in_cells : Bool) (answer : KnownAnswer) : Type 0 where
  pub rows : Bag
  pub means : meaning q db inner ≡ Good rows
  pub has : HasRows in_cells rows answer

-- the input of a filter has rows under the outer rows, and these are they, by a key
pub record IsInput (input : Query) (condition : Expr) (db : Database) (inner : List Row) (keyed : Keyed) : Type 0 where
  pub means : meaning input db inner ≡ Good keyed.rows
  pub keyed_are : AreKeyed condition keyed.rows keyed

-- the same of the filter so many Filters, Projects and Aggregates down
abbrev pub HasInput : Query → ℕ → Database → List Row → Keyed → Type 0
HasInput (Table id kinds) depth db inner keyed = Unit {0}
HasInput Single depth db inner keyed = Unit {0}
HasInput (BaseOf input places label) depth db inner keyed = Unit {0}
HasInput (FilterOf input condition _ subs) zero db inner keyed = IsInput input condition db inner keyed
HasInput (FilterOf input condition _ subs) (suc depth) db inner keyed = HasInput input depth db inner keyed
HasInput (ProjectOf input items _ subs) zero db inner keyed = Unit {0}
HasInput (ProjectOf input items _ subs) (suc depth) db inner keyed = HasInput input depth db inner keyed
HasInput (JoinOf kind left right condition _ subs) depth db inner keyed = Unit {0}
HasInput (ApplyOf kind left right) depth db inner keyed = Unit {0}
HasInput (UnionOf all left right) depth db inner keyed = Unit {0}
HasInput (IntersectOf all left right) depth db inner keyed = Unit {0}
HasInput (ExceptOf all left right) depth db inner keyed = Unit {0}
HasInput (DistinctOf input) depth db inner keyed = Unit {0}
HasInput (AggregateOf input groups aggregates) zero db inner keyed = Unit {0}
HasInput (AggregateOf input groups aggregates) (suc depth) db inner keyed = HasInput input depth db inner keyed
HasInput (LimitOf input keys count) depth db inner keyed = Unit {0}
HasInput (ProvOf input) depth db inner keyed = Unit {0}

-- so many nodes down stands a filter that a key answers under the outer rows
pub record IsKeyed (q : Query) (depth : ℕ) (db : Database) (inner : List Row) (keyed : Keyed) : Type 0 where
  pub reach : ℕ
  pub filter_is : keyed_at q depth ≡ Some reach
  pub input : HasInput q depth db inner keyed

-- the same under outer rows of which the row is the nearest
pub record KeyedUnder (q : Query) (depth : ℕ) (db : Database) (u : Row) (inner : List Row) (keyed : Keyed) : Type 0 where
  pub env : List Row
  pub front : inner ≡ u ∷ env
  pub on : IsKeyed q depth db inner keyed

-- what answers for the query under these outer rows
abbrev pub Answers : Database → List Row → Query → Bool → KnownAnswer → Type 0
Answers db inner q in_cells by.Nothing = Unit {0}
Answers db inner q in_cells (by.Rows rows) = IsWholeAnswer db inner q in_cells (by.Rows rows)
Answers db inner q in_cells (by.Cells cells) = IsWholeAnswer db inner q in_cells (by.Cells cells)

-- what is found of the query's filter so many nodes down
abbrev pub IsInputFound : Query → ℕ → Database → List Row → Result (Option Keyed) ExecError → Type 0
IsInputFound q depth db inner (Ok None) = Unit {0}
IsInputFound q depth db inner (Ok (Some keyed)) = HasInput q depth db inner keyed
IsInputFound q depth db inner (Err error) = Refuses (meaning q db inner) error

-- rows by a key are those that the query's filter is over whose input is to be kept; where none is, there are no such rows
abbrev pub IsInputOf : Query → Keeping → Database → List Row → Keyed → Type 0
IsInputOf q of.Nothing db inner keyed = ⊥
IsInputOf q (of.Rows n) db inner keyed = ⊥
IsInputOf q (of.Input n depth) db inner keyed = HasInput q depth db inner keyed

-- the same of those that were found, if any were
abbrev pub AreInputOf : Query → Keeping → Database → List Row → Option Keyed → Type 0
AreInputOf q keeping db inner None = Unit {0}
AreInputOf q keeping db inner (Some keyed) = IsInputOf q keeping db inner keyed

-- if any were found, they are found again for the row at hand
abbrev pub FindsInput : Remembered Keyed → Option Keyed → Type 0
FindsInput inputs None = Unit {0}
FindsInput inputs (Some keyed) = found inputs ≡ Some keyed

-- what answers for the query under the row at hand
abbrev pub answer_at : Known → KnownAnswer
answer_at known = unwrap_or (found known.memory) known.nothing

-- what was found is so on every row that has the values under which it is remembered: of the query those of the columns that it
-- reads, of the rows that a filter in it is over those of the first ones
pub record Knows (db : Database) (env : List Row) (q : Query) (in_cells : Bool) (known : Known) : Type 0 where
  pub nothing_is : known.nothing ≡ by.Nothing
  pub keeps : Keeps q known.keeping
  pub kept_by : AreNearest (columns_of q) known.memory.places
  pub input_by : known.inputs.places ≡ range_with_len 0 (input_columns known.keeping)
  pub answers : (key : Row) (answer : KnownAnswer) → found_under known.memory key ≡ Some answer → (u : Row) → picked known.memory.places u ≡ key → Answers db (u ∷ env) q in_cells answer
  pub inputs : (key : Row) (keyed : Keyed) → found_under known.inputs key ≡ Some keyed → (u : Row) → picked known.inputs.places u ≡ key → IsInputOf q known.keeping db (u ∷ env) keyed

-- and what answers under the row at hand is so on this row
pub record KnowsOn (db : Database) (env : List Row) (u : Row) (q : Query) (in_cells : Bool) (known : Known) : Type 0 where
  pub knows : Knows db env q in_cells known
  pub answers : Answers db (u ∷ env) q in_cells (answer_at known)

-- and the rows that a filter in it is over are known under this row, if any are
pub record KnowsInput (db : Database) (env : List Row) (u : Row) (q : Query) (in_cells : Bool) (known : Known) : Type 0 where
  pub knows : Knows db env q in_cells known
  pub input_here : picked known.inputs.places u ≡ known.inputs.key

-- such rows, if any are known for the row at hand, are those of the query's filter under outer rows of which it is the nearest
abbrev pub KeyedOn : Database → Row → List Row → Query → Known → Type 0
KeyedOn db u inner q known = (keyed : Keyed) → found known.inputs ≡ Some keyed → KeyedUnder q (input_depth known.keeping) db u inner keyed

-- of a sublink's query; IN and NOT IN ask for a value
abbrev pub AnswersSub : Database → List Row → Sublink → KnownAnswer → Type 0
AnswersSub db inner sub answer = Answers db inner sub.query (tests_equality sub.kind) answer

abbrev pub KnowsSub : Database → List Row → Sublink → Known → Type 0
KnowsSub db env sub known = Knows db env sub.query (tests_equality sub.kind) known

-- one for each sublink
abbrev pub AllKnown : Database → List Row → List Sublink → List Known → Type 0
AllKnown db env [] [] = Unit {0}
AllKnown db env [] (known ∷ more) = ⊥
AllKnown db env (sub ∷ subs) [] = ⊥
AllKnown db env (sub ∷ subs) (known ∷ more) = KnowsSub db env sub known × AllKnown db env subs more

-- ---- from row to row

abbrev pub is_nothing : KnownAnswer → Bool
is_nothing by.Nothing = true
is_nothing (by.Rows rows) = false
is_nothing (by.Cells cells) = false

-- nothing is known yet
pub record IsNew (is_hashed : Bool) (q : Query) (known : Known) : Type 0 where
  pub keeping_is : KeptOf is_hashed q known.keeping
  pub entries_are : known.memory.entries ≡ []
  pub inputs_are : known.inputs.entries ≡ []
  pub nothing_is : known.nothing ≡ by.Nothing

-- of each sublink's query
abbrev pub AllNew : Bool → List Sublink → List Known → Type 0
AllNew is_hashed [] [] = Unit {0}
AllNew is_hashed [] (known ∷ more) = ⊥
AllNew is_hashed (sub ∷ subs) [] = ⊥
AllNew is_hashed (sub ∷ subs) (known ∷ more) = IsNew is_hashed sub.query known × AllNew is_hashed subs more

-- the query is asked for where something is to be kept, and nothing was found for the row at hand
abbrev pub asks : Known → Bool
asks known = is_kept known.keeping && is_nothing (answer_at known)

-- what is known behind a step to a row: the same, the row at hand being this one
abbrev pub gone_on : Known → Row → Known
gone_on known u = record {
  keeping = known.keeping;
  memory = remembered known.memory.places (picked known.memory.places u) known.memory.entries;
  inputs = known.inputs;
  nothing = known.nothing;
}

-- the rows that a filter is over are asked for where they are to be kept, and none were found for the row at hand
abbrev pub asks_input : Known → Bool
asks_input known = is_none (found known.inputs) && keeps_input known.keeping

-- what is known behind a step to a row in these
abbrev pub gone_on_input : Known → Row → Known
gone_on_input known u = record {
  keeping = known.keeping;
  memory = known.memory;
  inputs = remembered known.inputs.places (picked known.inputs.places u) known.inputs.entries;
  nothing = known.nothing;
}
