-- What a query means: set operations from the left, ORDER BY and LIMIT, and the provenance of all of it.
use Rattle.std.specs.Prelude.{ℕ, pred, Bool, true, false, cond, not, ◌&&◌, List, [], ◌∷◌, ◌++◌, map, flat_map, length, is_some, nat_eq, nat_lt, nat_le, position, ℤ, pos, negsuc, nat_abs, Option, Some, None, option_map}
use Rattle.std.specs.List.{count_by, range_with_len}
use Rattle.std.specs.Option.{option_map_or}
use Rattle.perm_values.specs.declared.key.Key.{Key}
use Rattle.bag_algebra.specs.Kinds.{shape, place_kinds}
use Rattle.bag_algebra.specs.PlaceNames.{place_names}
use Rattle.bag_algebra.specs.declared.query.Query.{Query}
use Rattle.bag_algebra.specs.declared.query.Query.TheVariants.{Union, Except, Intersect, Limit, Prov}
use Rattle.sql_tree.specs.declared.expression.ExprBody.TheOpen.{SetTree-F, SetStep-F, QueryTree-F}
use Rattle.sql_tree.specs.declared.query.OrderKey.{OrderKey}
use Rattle.sql_tree.specs.declared.query.OrderKey.TheVariants.{Named as named_key, Position}
use Rattle.sql_tree.specs.declared.query.OrderTree.{OrderTree}
use Rattle.sql_tree.specs.declared.query.SetWord.{SetWord}
use Rattle.sql_tree.specs.declared.query.SetWord.TheVariants as word
use Rattle.name_meaning.specs.Cores.{BodyPart, settle_known}
use Rattle.name_meaning.specs.Froms.{named_columns, named_so}
use Rattle.name_meaning.specs.Meanings.{both_inside, Around, OutColumn, QueryMeant, QueryPart, broken, broken_if, is_whole, unites, united_kind}
use Rattle.name_meaning.specs.Scopes.{KnownColumn}
use Rattle.name_meaning.specs.declared.answer.Break.{Break}
use Rattle.name_meaning.specs.declared.rule.Rule.TheVariants as rule

-- ---- set operations

pub record SetStepPart : Type 0 where
  pub word : SetWord
  pub all : Bool
  pub at : ℕ
  pub operand : BodyPart

abbrev pub set_of : SetWord → Bool → Query → Query → Query
set_of word.Union all left right = Union all left right
set_of word.Except all left right = Except all left right
set_of word.Intersect all left right = Intersect all left right

-- the columns unite side by side, under the names of the first operand
abbrev pub united_columns : List OutColumn → List OutColumn → List OutColumn
united_columns [] right = []
united_columns (l ∷ left) [] = l ∷ left
united_columns (l ∷ left) (r ∷ right) = record { name = l.name; kind = united_kind l.kind r.kind } ∷ united_columns left right

abbrev pub do_unite : List OutColumn → List OutColumn → Bool
do_unite [] right = true
do_unite (l ∷ left) [] = true
do_unite (l ∷ left) (r ∷ right) = unites l.kind r.kind && do_unite left right

abbrev pub operand_break : ℕ → List OutColumn → List OutColumn → List Break
operand_break at left right = cond (nat_eq (length left) (length right)) (broken_if (not (do_unite left right)) rule.UnfitKind at) (broken rule.UnfitWidth at ∷ [])

abbrev pub operand_breaks : ℕ → Option (List OutColumn) → Option (List OutColumn) → List Break
operand_breaks at None right = []
operand_breaks at (Some left) None = []
operand_breaks at (Some left) (Some right) = operand_break at left right

abbrev pub columns_so_far : Option (List OutColumn) → Option (List OutColumn) → Option (List OutColumn)
columns_so_far None right = None
columns_so_far (Some left) None = Some left
columns_so_far (Some left) (Some right) = Some (united_columns left right)

abbrev pub set_joined : QueryMeant → SetStepPart → QueryMeant → QueryMeant
set_joined left step right = record {
  breaks = left.breaks ++ right.breaks ++ operand_breaks step.at left.columns right.columns;
  columns = columns_so_far left.columns right.columns;
  places = None;
  keys = [];
  inside = both_inside left.inside right.inside;
  make = λ wanted. set_of step.word step.all
      (left.make (settle_known (columns_so_far left.columns right.columns) wanted))
      (right.make (settle_known (columns_so_far left.columns right.columns) wanted));
}

-- behind a first operand, the word PROVENANCE doesn't stand
abbrev pub may_not_ask : Around → Around
may_not_ask around = record around { may_ask = false }

abbrev pub set_chain : Around → QueryMeant → List SetStepPart → QueryMeant
set_chain around left [] = left
set_chain around left (step ∷ steps) = set_chain around (set_joined left step (step.operand.means (may_not_ask around))) steps

abbrev pub set_step : {B I F A U P G J K : Type 0} → SetTree-F B I BodyPart F A U P BodyPart QueryPart SetStepPart G J K → BodyPart
set_step (SetTree-F.Core core) = core
set_step (SetTree-F.«SetTree::Paren» query) = record { word = None; means = λ around. query.means (may_not_ask around) }
set_step (SetTree-F.«SetTree::Chain» first steps) = record {
  word = first.word;
  means = λ around. set_chain around (first.means around) steps;
}

abbrev pub set_step_step : {B I F A U P C Q W G J K : Type 0} → SetStep-F B I BodyPart F A U P C Q W G J K → SetStepPart
set_step_step tree = record { word = tree.word; all = tree.all; at = tree.at; operand = tree.operand }

-- ---- ORDER BY and LIMIT

abbrev pub is_named : List ℕ → OutColumn → Bool
is_named name column = named_so name column.name

-- a position counts from 1
abbrev pub is_position : ℤ → ℕ → Bool
is_position (pos n) width = nat_lt 0 n && nat_le n width
is_position (negsuc n) width = false

-- a key is an output column: one alone that has its name, or the one at its position
abbrev pub key_break : List OutColumn → OrderTree → List Break
key_break columns tree = elim tree.key [
  | named_key name ↦ broken_if (nat_eq (count_by (is_named name) columns) 0) rule.UnknownColumn tree.at
      ++ broken_if (nat_lt 1 (count_by (is_named name) columns)) rule.AmbiguousColumn tree.at
  | Position n ↦ broken_if (not (is_position n (length columns))) rule.UnknownColumn tree.at
]

abbrev pub key_place : List OutColumn → OrderKey → ℕ
key_place columns (named_key name) = option_map_or (λ place. place) (position (is_named name) columns) 0
key_place columns (Position n) = pred (nat_abs n)

abbrev pub key_of : List OutColumn → OrderTree → Key
key_of columns tree = record { place = key_place columns tree.key; descending = tree.descending }

abbrev pub keys_of : Option (List OutColumn) → List OrderTree → List Key
keys_of columns order = option_map_or (λ known. map (key_of known) order) columns []

abbrev pub keys_breaks : Option (List OutColumn) → List OrderTree → List Break
keys_breaks columns order = option_map_or (λ known. flat_map (key_break known) order) columns []

abbrev pub limited : Option ℤ → List Key → Query → Query
limited None keys query = query
limited (Some n) keys query = Limit query keys (nat_abs n)

-- ---- provenance

abbrev pub out_column : KnownColumn → OutColumn
out_column column = record { name = column.name; kind = Some column.kind }

-- the columns of a query's places, behind its own
abbrev pub provenance_columns : Query → List OutColumn
provenance_columns query = map out_column (named_columns (place_names (shape query)) (place_kinds (shape query)))

abbrev pub provenance_places : ℕ → Query → List ℕ
provenance_places own query = range_with_len own (length (place_kinds (shape query)))

-- ---- the whole

abbrev pub count_columns : Option (List OutColumn) → ℕ
count_columns columns = option_map_or length columns 0

abbrev pub plain_query : ℕ → QueryMeant → List OrderTree → Option ℤ → QueryMeant
plain_query at body order limit = record {
  breaks = body.breaks ++ keys_breaks body.columns order;
  columns = body.columns;
  places = None;
  keys = keys_of body.columns order;
  inside = both_inside (record { queries = (at, count_columns body.columns) ∷ []; names = [] }) body.inside;
  make = λ wanted. limited limit (keys_of body.columns order) (body.make wanted);
}

-- the columns with those of the places, which are known where the query is whole
abbrev pub columns_with_provenance : QueryMeant → Query → Option (List OutColumn)
columns_with_provenance body query =
    cond (is_whole body.breaks) (option_map (λ columns. columns ++ provenance_columns query) body.columns) body.columns

abbrev pub query_with_provenance : ℕ → QueryMeant → List OrderTree → Option ℤ → Query → QueryMeant
query_with_provenance at body order limit query = record {
  breaks = body.breaks ++ keys_breaks body.columns order;
  columns = columns_with_provenance body query;
  places = Some (provenance_places (count_columns body.columns) query);
  keys = keys_of body.columns order;
  inside = both_inside (record { queries = (at, count_columns (columns_with_provenance body query)) ∷ []; names = [] }) body.inside;
  make = λ wanted. Prov (limited limit (keys_of body.columns order) (body.make wanted));
}

-- the word behind the first SELECT of a whole query asks for the provenance of all of it
abbrev pub asks_provenance : Around → BodyPart → Bool
asks_provenance around body = around.may_ask && is_some body.word

abbrev pub query_seen : Around → ℕ → BodyPart → List OrderTree → Option ℤ → QueryMeant
query_seen around at body order limit = cond (asks_provenance around body)
    (let m = body.means around in
    query_with_provenance at m order limit (limited limit (keys_of m.columns order) (m.make [])))
    (plain_query at (body.means around) order limit)

abbrev pub query_step : {B I F A U P C Q W G J K : Type 0} → QueryTree-F B I BodyPart F A U P C Q W G J K → QueryPart
query_step tree = record { at = tree.at; means = λ around. query_seen around tree.at tree.body tree.order tree.limit }
