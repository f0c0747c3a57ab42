-- The rows of the classes, from the columns of the aggregates.
use Rattle.std.proofs.Common.{◌≡◌, ℕ, zero, suc, ◌<◌, Bool, true, false, cond, List, [], ◌∷◌, ◌++◌, map, filter, length, get_or, refl, sym, ap, subst, ◌∙◌, arith, append_assoc, true≢false}
use Rattle.std.proofs.lemmas.List.{length-append}
use Rattle.std.proofs.lemmas.Option.{slice_get-get_or}
use Rattle.std.specs.List.{AllZip}
use Rattle.perm_values.specs.Rows.{value_at, same_row, picked}
use Rattle.perm_values.specs.declared.value.Value.{Value}
use Rattle.bag_algebra.specs.Bags.{Row, Bag}
use Rattle.bag_algebra.specs.Meaning.{optional_value, arguments_on, functions_of}
use Rattle.bag_algebra.specs.Means.{aggregated, aggregates_of, good_row, good_value, class_of, class_keys, class_row, grouped}
use Rattle.bag_algebra.specs.Outcome.{Outcome, Good, Bad, union, has, and_then, mapped, both, each}
use Rattle.bag_algebra.specs.declared.query.Aggr.{Aggr}
use Rattle.null_logic.specs.declared.run_fault.RunFault.{RunFault}
use Rattle.null_logic.specs.declared.run_fault.RunFault.TheVariants.{DivideByZero, OutOfRange, SeveralRows}
use Rattle.bag_algebra.proofs.Outcomes.{mapped-is}
use Rattle.row_values.specs.Answers.{Refuses}
use Rattle.row_values.specs.declared.error.ExecError.{ExecError}
use Rattle.row_values.specs.declared.error.ExecError.TheVariants.{Fault, NoMemory}
use Rattle.row_values.proofs.Outcomes.{both_first, both_second, each_item, each_good, and_then_first}
use Rattle.row_values.specs.Columns.{IsGoodOn, IsAggregateColumn, class_value, MakesRows}
use Rattle.row_values.specs.Groups.{IsClassed, numbered}
use Rattle.row_values.specs.declared.groups.column.Column.{Column}
use Rattle.row_values.proofs.Keys.{numbered-is}

-- ---- a test that is good on each row

pub each-good_on : {Y : Type 0} (f : Row → Outcome Y) (value : Row → Y) (us : Bag) → IsGoodOn f value us → each f us ≡ Good (map value us)
each-good_on f value [] h = refl
each-good_on f value (u ∷ us) h = let rest = each-good_on f value us h.1 in λ i. both (λ y ys. y ∷ ys) (h.0 i) (rest i)

kept_rows : (f : Row → Outcome Row) (value : Row → Row) (test : Row → Bool) (us : Bag) → IsGoodOn f value us →
    map (λ u. good_row (f u)) (filter test us) ≡ map value (filter test us)
kept_rows f value test [] h = refl
kept_rows f value test (u ∷ us) h = by (test u) (kept_rows f value test us h.1)
  where
    by : (b : Bool) → map (λ u. good_row (f u)) (filter test us) ≡ map value (filter test us) →
        map (λ u. good_row (f u)) (cond b (u ∷ filter test us) (filter test us)) ≡ map value (cond b (u ∷ filter test us) (filter test us))
    by true e = λ i. good_row (h.0 i) ∷ e i
    by false e = e

-- ---- the arguments of all aggregates

module _ (env : List Row) where
  abbrev argument : Aggr → Row → Value
  argument aggregate u = good_value (optional_value aggregate.argument env u)

  abbrev AllGood : List Aggr → Bag → Type 0
  AllGood [] us = Unit {0}
  AllGood (aggregate ∷ aggregates) us = IsGoodOn (optional_value aggregate.argument env) (argument aggregate) us × AllGood aggregates us

  first_row : (aggregates : List Aggr) (u : Row) (us : Bag) → AllGood aggregates (u ∷ us) → arguments_on aggregates env u ≡ Good (map (λ a. argument a u) aggregates)
  first_row [] u us h = refl
  first_row (aggregate ∷ aggregates) u us h =
      let rest = first_row aggregates u us h.1 in
      λ i. both (λ v vs. v ∷ vs) (h.0.0 i) (rest i)

  further_rows : (aggregates : List Aggr) (u : Row) (us : Bag) → AllGood aggregates (u ∷ us) → AllGood aggregates us
  further_rows [] u us h = tt
  further_rows (aggregate ∷ aggregates) u us h = (h.0.1, further_rows aggregates u us h.1)

  arguments-good : (aggregates : List Aggr) (us : Bag) → AllGood aggregates us → IsGoodOn (arguments_on aggregates env) (λ u. map (λ a. argument a u) aggregates) us
  arguments-good aggregates [] h = tt
  arguments-good aggregates (u ∷ us) h = (first_row aggregates u us h, arguments-good aggregates us (further_rows aggregates u us h))

  -- ---- the aggregates of a class, one after another

  at_seam : (before : List Value) (v : Value) (behind : List Value) (place : ℕ) → place ≡ length before → value_at (before ++ v ∷ behind) place ≡ v
  at_seam [] v behind zero e = refl
  at_seam [] v behind (suc place) e = absurd (omega arith)
  at_seam (w ∷ before) v behind zero e = absurd (omega arith)
  at_seam (w ∷ before) v behind (suc place) e = at_seam before v behind place (omega arith)

  map_same : (f g : Row → Value) (us : Bag) → ((u : Row) → f u ≡ g u) → map f us ≡ map g us
  map_same f g [] e = refl
  map_same f g (u ∷ us) e = λ i. e u i ∷ map_same f g us e i

  map_twice : (f : Row → Value) (g : Row → Row) (us : Bag) (place : ℕ) → ((u : Row) → value_at (g u) place ≡ f u) → map (λ a. value_at a place) (map g us) ≡ map f us
  map_twice f g [] place e = refl
  map_twice f g (u ∷ us) place e = λ i. e u i ∷ map_twice f g us place e i

  -- the values before those of the aggregates that are left are given by `before`
  aggregates-are : (aggregates : List Aggr) (place : ℕ) (before : Row → Row) (us : Bag) → ((u : Row) → place ≡ length (before u)) →
      aggregates_of (functions_of aggregates) place (map (λ u. before u ++ map (λ a. argument a u) aggregates) us)
      ≡ each (λ a. aggregated a.function (map (argument a) us)) aggregates
  aggregates-are [] place before us e = refl
  aggregates-are (aggregate ∷ aggregates) place before us e =
      let here : map (λ a. value_at a place) (map (λ u. before u ++ argument aggregate u ∷ map (λ a. argument a u) aggregates) us) ≡ map (argument aggregate) us =
      map_twice (argument aggregate) (λ u. before u ++ argument aggregate u ∷ map (λ a. argument a u) aggregates) us place
      (λ u. at_seam (before u) (argument aggregate u) (map (λ a. argument a u) aggregates) place (e u)) in
      let shifted : map (λ u. before u ++ argument aggregate u ∷ map (λ a. argument a u) aggregates) us
      ≡ map (λ u. (before u ++ argument aggregate u ∷ []) ++ map (λ a. argument a u) aggregates) us =
      shift us in
      let rest = ap (aggregates_of (functions_of aggregates) (suc place)) shifted
      ∙ aggregates-are aggregates (suc place) (λ u. before u ++ argument aggregate u ∷ []) us
      (λ u. let k = e u in let m = length-append (before u) (argument aggregate u ∷ []) in omega arith) in
      λ i. both (λ v vs. v ∷ vs) (aggregated aggregate.function (here i)) (rest i)
    where
      shift : (vs : Bag) → map (λ u. before u ++ argument aggregate u ∷ map (λ a. argument a u) aggregates) vs
          ≡ map (λ u. (before u ++ argument aggregate u ∷ []) ++ map (λ a. argument a u) aggregates) vs
      shift [] = refl
      shift (v ∷ vs) = λ i. sym (append_assoc (before v) (argument aggregate v ∷ []) (map (λ a. argument a v) aggregates)) i ∷ shift vs i

  module _ (us : Bag) (numbers : List ℕ) (count : ℕ) where
    all_good : (aggregates : List Aggr) (columns : List Column) → AllZip (IsAggregateColumn env us numbers count) aggregates columns → AllGood aggregates us
    all_good [] columns z = tt
    all_good (aggregate ∷ aggregates) [] z = absurd z
    all_good (aggregate ∷ aggregates) (column ∷ columns) z = (z.0.distributed.good, all_good aggregates columns z.1)

    values-are : (number : ℕ) → number < count → (class : Bag) → numbered number numbers us ≡ class →
        (aggregates : List Aggr) (columns : List Column) → AllZip (IsAggregateColumn env us numbers count) aggregates columns →
        each (class_value number) columns ≡ each (λ a. aggregated a.function (map (argument a) class)) aggregates
    values-are number low class e [] [] z = refl
    values-are number low class e [] (column ∷ columns) z = absurd z
    values-are number low class e (aggregate ∷ aggregates) [] z = absurd z
    values-are number low class e (aggregate ∷ aggregates) (column ∷ columns) z =
        let values : get_or column.values number [] ≡ map (argument aggregate) class = z.0.distributed.values number low ∙ ap (map (argument aggregate)) e in
        let rest = values-are number low class e aggregates columns z.1 in
        λ i. both (λ v vs. v ∷ vs) (aggregated (z.0.function i) (values i)) (rest i)

-- ---- the whole

module _ (env : List Row) (groups : List ℕ) (aggregates : List Aggr) (us keys : Bag) (numbers : List ℕ) (columns : List Column)
    (c : IsClassed groups us keys numbers) (z : AllZip (IsAggregateColumn env us numbers (length keys)) aggregates columns) where
  good : IsGoodOn (arguments_on aggregates env) (λ u. map (λ a. argument env a u) aggregates) us
  good = arguments-good env aggregates us (all_good env us numbers (length keys) aggregates columns z)

  pub grouped-is : grouped groups (functions_of aggregates) (arguments_on aggregates env) us ≡ each (class_row groups (functions_of aggregates) (arguments_on aggregates env) us) keys
  grouped-is =
      ap (λ o. and_then o (λ _. each (class_row groups (functions_of aggregates) (arguments_on aggregates env) us) (class_keys groups us)))
      (each-good_on (arguments_on aggregates env) (λ u. map (λ a. argument env a u) aggregates) us good)
      ∙ ap (each (class_row groups (functions_of aggregates) (arguments_on aggregates env) us)) (sym c.classes)

  pub makes_rows : MakesRows (class_row groups (functions_of aggregates) (arguments_on aggregates env) us) keys columns
  makes_rows = record { rows = at }
    where
      at : (number : ℕ) → number < length keys →
          class_row groups (functions_of aggregates) (arguments_on aggregates env) us (get_or keys number [])
          ≡ mapped (λ values. get_or keys number [] ++ values) (each (class_value number) columns)
      at number low =
          let key = get_or keys number [] in
          let class = numbered-is groups us keys numbers number key c (slice_get-get_or keys number [] low) in
          ap (mapped (λ values. key ++ values))
          (ap (aggregates_of (functions_of aggregates) 0) (kept_rows (arguments_on aggregates env) (λ u. map (λ a. argument env a u) aggregates) (λ u. same_row (picked groups u) key) us good)
          ∙ aggregates-are env aggregates 0 (λ u. []) (class_of groups key us) (λ u. refl)
          ∙ sym (values-are env us numbers (length keys) number low (class_of groups key us) class aggregates columns z))

-- ---- one more column

pub zip-more : {A B : Type 0} (R : A → B → Type 0) (xs : List A) (ys : List B) (x : A) (y : B) → AllZip R xs ys → R x y → AllZip R (xs ++ x ∷ []) (ys ++ y ∷ [])
zip-more R [] [] x y h r = (r, tt)
zip-more R [] (z ∷ ys) x y h r = absurd h
zip-more R (z ∷ xs) [] x y h r = absurd h
zip-more R (w ∷ xs) (z ∷ ys) x y h r = (h.0, zip-more R xs ys x y h.1 r)

pub row-more : (key : Row) (f : Column → Outcome Value) (columns : List Column) (column : Column) (row new : Row) (v : Value) →
    mapped (λ values. key ++ values) (each f columns) ≡ Good row → f column ≡ Good v → new ≡ row ++ v ∷ [] →
    mapped (λ values. key ++ values) (each f (columns ++ column ∷ [])) ≡ Good new
row-more key f columns column row new v e here is =
    let m = mapped-is (λ values. key ++ values) (each f columns) row e in
    ap (mapped (λ values. key ++ values)) (each_good f columns column m.0 v m.1 here)
    ∙ ap Good (sym (append_assoc key m.0 (v ∷ [])) ∙ ap (λ l. l ++ v ∷ []) m.2 ∙ sym is)

-- ---- one more class

item_at : {X : Type 0} (before behind : List X) (x d : X) → get_or (before ++ x ∷ behind) (length before) d ≡ x
item_at [] behind x d = refl
item_at (y ∷ before) behind x d = item_at before behind x d

module _ (make : Row → Outcome Row) (keys : Bag) (columns : List Column) (m : MakesRows make keys columns)
    (before behind : Bag) (key : Row) (number : ℕ) (split : before ++ key ∷ behind ≡ keys) (at : number ≡ length before) where
  low : number < length keys
  low = let long = length-append before (key ∷ behind) in let same = ap length split in omega arith

  key_at : (d : Row) → get_or keys number d ≡ key
  key_at d = (λ i. get_or (sym split i) (at i) d) ∙ item_at before behind key d

  made_of : make key ≡ mapped (λ values. key ++ values) (each (class_value number) columns)
  made_of = subst (λ k. make k ≡ mapped (λ values. k ++ values) (each (class_value number) columns)) (key_at []) (m.rows number low)

  pub class_refuses : (error : ExecError) → Refuses (mapped (λ values. key ++ values) (each (class_value number) columns)) error → Refuses (each make keys) error
  class_refuses error h = each_item make keys number key error low (sym (key_at key)) (subst (λ o. Refuses o error) (sym made_of) h)

  pub class_more : (rows new : Bag) (row : Row) → each make before ≡ Good rows → mapped (λ values. key ++ values) (each (class_value number) columns) ≡ Good row →
      new ≡ rows ++ row ∷ [] → each make (before ++ key ∷ []) ≡ Good new
  class_more rows new row e here is = each_good make before key rows row e (made_of ∙ here) ∙ ap Good (sym is)

-- ---- a fault of one argument

meets-both : {X Y Z : Type 0} (f : X → Y → Z) (a : Outcome X) (b : Outcome Y) (k : RunFault) → Refuses (both f a b) (Fault k) →
    (P : Type 0) → (Refuses a (Fault k) → P) → (Refuses b (Fault k) → P) → P
meets-both f (Good x) (Good y) k h P p q = absurd (true≢false (sym h))
meets-both f (Good x) (Bad g) k h P p q = q h
meets-both f (Bad g) (Good y) k h P p q = p h
meets-both f (Bad g) (Bad g') k h P p q = by (has g k) refl
  where
    second : has (union g g') k ≡ true → has g k ≡ false → has g' k ≡ true
    second e n = split k e n
      where
        split : (k : RunFault) → has (union g g') k ≡ true → has g k ≡ false → has g' k ≡ true
        split DivideByZero e n = rw n at e
        split OutOfRange e n = rw n at e
        split SeveralRows e n = rw n at e

    by : (b : Bool) → has g k ≡ b → P
    by true e = p e
    by false e = q (second h e)

refuses_through : {X Y Z : Type 0} (f : X → Outcome Y) (g : X → Outcome Z) (error : ExecError) → ((x : X) → Refuses (f x) error → Refuses (g x) error) →
    (xs : List X) → Refuses (each f xs) error → Refuses (each g xs) error
refuses_through f g NoMemory through xs h = tt
refuses_through f g (Fault k) through [] h = h
refuses_through f g (Fault k) through (x ∷ xs) h =
    meets-both (λ y ys. y ∷ ys) (f x) (each f xs) k h (Refuses (each g (x ∷ xs)) (Fault k))
    (λ e. both_first _ (g x) (each g xs) (Fault k) (through x e))
    (λ e. both_second _ (g x) (each g xs) (Fault k) (refuses_through f g (Fault k) through xs e))

-- where an argument meets a fault on some row, all arguments on all rows do
pub argument_refuses : (env : List Row) (aggregates : List Aggr) (us : Bag) (i : ℕ) (aggregate : Aggr) (error : ExecError) → i < length aggregates →
    aggregate ≡ get_or aggregates i aggregate → Refuses (each (optional_value aggregate.argument env) us) error → Refuses (each (arguments_on aggregates env) us) error
argument_refuses env aggregates us i aggregate error low is h =
    refuses_through (optional_value aggregate.argument env) (arguments_on aggregates env) error
    (λ u e. each_item (λ (a : Aggr). optional_value a.argument env u) aggregates i aggregate error low is e) us h

pub grouped-refuses : (groups : List ℕ) (env : List Row) (aggregates : List Aggr) (us : Bag) (error : ExecError) → Refuses (each (arguments_on aggregates env) us) error →
    Refuses (grouped groups (functions_of aggregates) (arguments_on aggregates env) us) error
grouped-refuses groups env aggregates us error h = and_then_first (each (arguments_on aggregates env) us) _ error h
