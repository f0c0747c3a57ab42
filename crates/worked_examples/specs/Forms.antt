-- Worked examples of well-formed queries over r(a INTEGER, b TEXT) and s(c INTEGER), of what fits them, and of databases
-- that give them one meaning.
use Rattle.std.specs.Prelude.{◌≡◌, ℕ, suc, zero, ◌<◌, Bool, true, false, cond, List, [], ◌∷◌, Some, None, refl, All}
use Rattle.std.proofs.Common.{lit<, le_of_suc-le-suc, not-suc-le-zero}
use Rattle.perm_values.specs.declared.kind.Kind.{Kind}
use Rattle.perm_values.specs.declared.kind.Kind.TheVariants as kind
use Rattle.perm_values.specs.declared.value.Value.TheVariants.{Null}
use Rattle.perm_values.specs.Rows.{same_row}
use Rattle.bag_algebra.specs.Bags.{Row, count}
use Rattle.bag_algebra.specs.Fits.{env_fits}
use Rattle.bag_algebra.specs.Meaning.{Database, witnesses}
use Rattle.bag_algebra.specs.Means.{Held, Empty}
use Rattle.bag_algebra.specs.Kinds.{shape}
use Rattle.bag_algebra.specs.built.Patterns.{FilterOf, AggregateOf}
use Rattle.bag_algebra.specs.WellFormed.{aggr_form, WellFormed}
use Rattle.bag_algebra.specs.declared.expr.Expr.{Expr}
use Rattle.bag_algebra.specs.declared.expr.Expr.TheVariants.{Col, Sub}
use Rattle.bag_algebra.specs.declared.query.AggFn.TheVariants.{Min}
use Rattle.bag_algebra.specs.declared.query.Aggr.{Aggr}
use Rattle.bag_algebra.specs.declared.query.Query.{Query, more_of-Sublink, end_of-Sublink}
use Rattle.bag_algebra.specs.declared.query.SubKind.TheVariants.{Exists}
use Rattle.contribution.specs.Fitting.{Fitting}
use Rattle.contribution.specs.FitsPlaces.{FitsPlaces, no_place, held, empty}
use Rattle.contribution.specs.Longer.{Longer, more_lists, more_items}
use Rattle.contribution.specs.SameMeaning.{SameTables}
use Rattle.worked_examples.specs.Queries.{holding, int_and_text, num, one, r, s, same as inner, x}

-- SELECT a, b FROM r WHERE EXISTS (SELECT c FROM s WHERE c = r.a)
abbrev correlated : Query
correlated = FilterOf r (Sub 0) one (more_of-Sublink Exists None inner end_of-Sublink)

abbrev some_rows : Database
some_rows = holding ((num 1 ∷ x ∷ []) ∷ (Null ∷ x ∷ []) ∷ []) ((num 1 ∷ []) ∷ [])

one_place : (P : ℕ → Type 0) → P 0 → All P (0 ∷ [])
one_place P a zero d h = a
one_place P a (suc k) d h = absurd (not-suc-le-zero (le_of_suc-le-suc h))

two_places : (P : ℕ → Type 0) → P 0 → P 1 → All P (0 ∷ 1 ∷ [])
two_places P a b zero d h = a
two_places P a b (suc zero) d h = b
two_places P a b (suc (suc k)) d h = absurd (not-suc-le-zero (le_of_suc-le-suc (le_of_suc-le-suc h)))

r-formed : (outer : List (List Kind)) → WellFormed outer r
r-formed outer = record { input = tt; in_range = two_places (λ place. place < 2) (lit< tt) (lit< tt); named = refl }

s-formed : (outer : List (List Kind)) → WellFormed outer s
s-formed outer = record { input = tt; in_range = one_place (λ place. place < 1) (lit< tt); named = refl }

abbrev ints : List Kind
ints = kind.Integer ∷ []

-- the subquery is well formed where the outer row has an integer in front, and not under no outer row
pub inner-formed : (more : List Kind) (outer : List (List Kind)) → WellFormed ((kind.Integer ∷ more) ∷ outer) inner
inner-formed more outer = record {
  input = s-formed ((kind.Integer ∷ more) ∷ outer);
  subs = tt;
  condition = record { number = refl; parts = record { shared = kind.Integer; parts = (refl, (refl, tt)) }; gives = refl };
}

none_some : {k : Kind} → None ≡ Some k → ⊥
none_some e = cc

pub inner-open : WellFormed [] inner → ⊥
inner-open f = none_some f.condition.parts.parts.1.0

-- nor is it where the outer row has a text there
text_integer : {k : Kind} → Some kind.Integer ≡ Some k → Some kind.Text ≡ Some k → ⊥
text_integer e f = cc

pub inner-of_text : WellFormed ((kind.Text ∷ []) ∷ []) inner → ⊥
inner-of_text f = text_integer f.condition.parts.parts.0 f.condition.parts.parts.1.0

pub correlated-formed : WellFormed [] correlated
correlated-formed = record {
  input = r-formed [];
  subs = record { query = inner-formed (kind.Text ∷ []) []; fitting = tt; others = tt };
  condition = refl;
}

-- MIN of an integer is well formed, of a truth it isn't
abbrev least : Expr → Kind → Query
least e k = AggregateOf r [] (record { function = Min; argument = Some e; kind = k } ∷ [])

no_place_at-all : (P : ℕ → Type 0) → All P []
no_place_at-all P k d h = absurd (not-suc-le-zero h)

integer_boolean : kind.Integer ≡ kind.Boolean → ⊥
integer_boolean e = cc

only_aggregate : (P : Aggr → Type 0) (aggregate : Aggr) → P aggregate → All P (aggregate ∷ [])
only_aggregate P aggregate a zero d h = a
only_aggregate P aggregate a (suc k) d h = absurd (not-suc-le-zero (le_of_suc-le-suc h))

abbrev minimum_form : Aggr → Type 0
minimum_form aggregate = aggr_form aggregate.function aggregate.argument (int_and_text ∷ []) aggregate.kind

pub least-of_integer : WellFormed [] (least (Col 0 0) kind.Integer)
least-of_integer = record { input = r-formed []; groups = no_place_at-all _; aggregates = only_aggregate minimum_form (record { function = Min; argument = Some (Col 0 0); kind = kind.Integer }) (refl, integer_boolean) }

pub least-of_truth : (e : Expr) → WellFormed [] (least e kind.Boolean) → ⊥
least-of_truth e f = (f.aggregates 0 (record { function = Min; argument = Some e; kind = kind.Boolean }) (lit< tt)).1 refl

-- it fits a database whose rows have the kinds, NULLs included, and none with a text for s.c
pub correlated-fits : Fitting [] correlated some_rows []
correlated-fits = record { formed = correlated-formed; tables = (refl, ((refl, tt), tt)); outer_rows = refl }

false_true : false ≡ true → ⊥
false_true e = cc

pub correlated-misfits : Fitting [] correlated (holding [] ((x ∷ []) ∷ [])) [] → ⊥
correlated-misfits f = false_true f.tables.1.0.0

-- rows that fit outer kinds may go on, and so may the outer rows
pub longer_rows-fit : env_fits ((num 1 ∷ x ∷ x ∷ []) ∷ [] ∷ []) (int_and_text ∷ []) ≡ true
longer_rows-fit = refl

pub shorter_rows-misfit : env_fits ((num 1 ∷ []) ∷ []) (int_and_text ∷ []) ≡ false
shorter_rows-misfit = refl

-- one place for r and one for s: the list of (1, x) holds a row of each, and that of a row without s nothing there
pub correlated-lists : witnesses correlated some_rows [] (num 1 ∷ x ∷ []) ≡ (Held (num 1 ∷ x ∷ []) ∷ Held (num 1 ∷ []) ∷ []) ∷ []
correlated-lists = refl

pub correlated-list_fits : FitsPlaces (shape correlated) (Held (num 1 ∷ x ∷ []) ∷ Held (num 1 ∷ []) ∷ [])
correlated-list_fits = held _ (num 1 ∷ x ∷ []) refl (held _ (num 1 ∷ []) refl no_place)

pub empty_place-fits : FitsPlaces (shape correlated) (Held (num 1 ∷ x ∷ []) ∷ Empty 1 ∷ [])
empty_place-fits = held _ (num 1 ∷ x ∷ []) refl (empty _ no_place)

-- longer kinds: (INTEGER) and then nothing, (INTEGER, TEXT) and one more row
pub longer-kinds : Longer (ints ∷ []) (int_and_text ∷ ints ∷ [])
longer-kinds = more_items ints (kind.Text ∷ []) (more_lists (ints ∷ []))

-- the rows of r in another order are the same table to the query, and t's rows, which it doesn't read, may be any
swapped : (t u v : Row) → count t (u ∷ v ∷ []) ≡ count t (v ∷ u ∷ [])
swapped t u v = turned (same_row u t) (same_row v t) where
  turned : (b d : Bool) → cond b (suc (cond d (suc 0) 0)) (cond d (suc 0) 0) ≡ cond d (suc (cond b (suc 0) 0)) (cond b (suc 0) 0)
  turned true true = refl
  turned true false = refl
  turned false true = refl
  turned false false = refl

pub order-free : SameTables some_rows (holding ((Null ∷ x ∷ []) ∷ (num 1 ∷ x ∷ []) ∷ []) ((num 1 ∷ []) ∷ [])) correlated
order-free = (record { counts = λ t. swapped t (num 1 ∷ x ∷ []) (Null ∷ x ∷ []) }, ((record { counts = λ t. refl }, tt), tt))
