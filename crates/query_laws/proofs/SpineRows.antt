-- The rows of a spine's query under a row: what the items make of that row and each row of the base on which the test is true.
use Rattle.std.proofs.Common.{◌≡◌, Bool, true, false, cond, ◌&&◌, List, [], ◌∷◌, ◌++◌, map, length, Option, Some, None, append-nil, refl, sym, ap, ◌∙◌, subst, arith}
use Rattle.std.specs.List.{flat_map}
use Rattle.null_logic.specs.Logic.{truth_of}
use Rattle.null_logic.specs.declared.operator.Operator.TheVariants.{And}
use Rattle.perm_values.specs.declared.kind.Kind.{Kind}
use Rattle.perm_values.specs.declared.kind.Kind.TheVariants.{Boolean}
use Rattle.perm_values.specs.declared.value.Value.{Value}
use Rattle.bag_algebra.proofs.Members.{IsIn}
use Rattle.bag_algebra.proofs.NeverBad.{good-value}
use Rattle.bag_algebra.proofs.Outcomes.{good_value-is}
use Rattle.bag_algebra.proofs.TruthValues.{holds-both}
use Rattle.bag_algebra.specs.Bags.{Row, Bag}
use Rattle.bag_algebra.specs.built.Openings.{value-Op}
use Rattle.bag_algebra.specs.Expressions.{value, operate}
use Rattle.bag_algebra.specs.FaultFree.{items_faultless}
use Rattle.bag_algebra.specs.Fits.{row_begins}
use Rattle.bag_algebra.specs.Kinds.{kinds_of, width_of}
use Rattle.bag_algebra.specs.Meaning.{Database, meaning, condition_on, items_on}
use Rattle.bag_algebra.specs.Means.{holds_of, kept, no_subs, good_row, good_value}
use Rattle.bag_algebra.specs.Outcome.{Outcome, Good, Bad, and_then, mapped, both, gather, each}
use Rattle.bag_algebra.specs.WellFormed.{HasKind, ItemsForm, WellFormed}
use Rattle.bag_algebra.specs.declared.expr.Expr.{Expr}
use Rattle.bag_algebra.specs.declared.expr.Expr.TheVariants.{Op}
use Rattle.bag_algebra.specs.declared.expr.Item.{Item}
use Rattle.bag_algebra.specs.declared.query.Query.{Query}
use Rattle.contribution.proofs.AddedColumns.{columns-added}
use Rattle.contribution.proofs.Agreement.{each-gather}
use Rattle.contribution.proofs.Growth.{columns-own, value-same}
use Rattle.contribution.proofs.NodeQueries.{meaning-chosen, meaning-projected}
use Rattle.contribution.proofs.ColumnQueries.{all-rest}
use Rattle.contribution.proofs.SetsOfRows.{mapped-gather}
use Rattle.contribution.specs.Conjunctions.{condition_or_true}
use Rattle.contribution.specs.SameColumns.{SameColumns}
use Rattle.query_laws.proofs.StandingSublinks.{gather-on}
use Rattle.query_laws.proofs.SpineForms.{spine-faultless}
use Rattle.query_laws.proofs.SpineItems.{row_by, items-good, behind-give}
use Rattle.query_laws.specs.spines.PlacedColumns.{ItemsPlaced}
use Rattle.query_laws.specs.spines.Spines.{IsSpine, closed, filtered, projected, MayFollow, items_behind, tests_with}
use Rattle.query_laws.specs.declared.spines.spine.Spine.{Spine}

-- ---- outcomes that are looked at one after another

gather-all : {X Y : Type 0} (g : X → Outcome (List Y)) (h : X → List Y) → ((x : X) → g x ≡ Good (h x)) → (xs : List X) → gather g xs ≡ Good (flat_map h xs)
gather-all g h good [] = refl
gather-all g h good (x ∷ xs) = λ i. both (λ y ys. y ++ ys) (good x i) (gather-all g h good xs i)

-- what is good on every item may be made of each where it is found
after-gather : {X Y Z : Type 0} (f : X → Outcome (List Y)) (g : Y → Outcome (List Z)) (h : Y → List Z) → ((y : Y) → g y ≡ Good (h y)) → (xs : List X) →
    and_then (gather f xs) (gather g) ≡ gather (λ x. mapped (flat_map h) (f x)) xs
after-gather {X} {Y} {Z} f g h good xs = by_all (gather f xs) ∙ mapped-gather h f xs where
  by_all : (o : Outcome (List Y)) → and_then o (gather g) ≡ mapped (flat_map h) o
  by_all (Good ys) = gather-all g h good ys
  by_all (Bad faults) = refl

-- the one of each
gather-ones : {X Y Z : Type 0} (r : X → Y) (g : Y → Outcome (List Z)) (xs : List X) → and_then (gather (λ x. Good (r x ∷ [])) xs) (gather g) ≡ gather (λ x. g (r x)) xs
gather-ones {X} {Y} {Z} r g xs = ap (λ o. and_then o (gather g)) (singles xs) ∙ along xs where
  singles : (xs : List X) → gather (λ x. Good (r x ∷ [])) xs ≡ Good (map r xs)
  singles [] = refl
  singles (x ∷ xs) = λ i. both (λ y ys. y ++ ys) (Good (r x ∷ [])) (singles xs i)

  along : (xs : List X) → gather g (map r xs) ≡ gather (λ x. g (r x)) xs
  along [] = refl
  along (x ∷ xs) = λ i. both (λ y ys. y ++ ys) (g (r x)) (along xs i)

-- ---- a row where a condition is true

-- the row, where the value holds
abbrev pub where_holds : Row → Outcome Value → Outcome Bag
where_holds t o = mapped (λ v. cond (holds_of v) (t ∷ []) []) o

abbrev pub spine_row : Spine → List Row → Row → Outcome Bag
spine_row spine env x = where_holds (row_by spine.items env x) (value (condition_or_true spine.test) x env [])

kept-twice : (t : Row) (h : Row → Bag) (a b : Bool) → h t ≡ cond b (t ∷ []) [] → flat_map h (cond a (t ∷ []) []) ≡ cond (a && b) (t ∷ []) []
kept-twice t h true b e = append-nil (h t) ∙ e
kept-twice t h false b e = refl

-- a test and a good condition, one after the other or at once
both_tests : (test other : Expr) (x : Row) (env : List Row) (t : Row) (y : Value) (h : Row → Bag) → value other x env [] ≡ Good y → h t ≡ cond (holds_of y) (t ∷ []) [] →
    mapped (flat_map h) (where_holds t (value test x env [])) ≡ where_holds t (value (Op And (test ∷ other ∷ [])) x env [])
both_tests test other x env t y h e made =
    by_test (value test x env []) ∙ ap (where_holds t) (sym (value-Op x env [] And (test ∷ other ∷ []) ∙ ap (λ o. and_then (both (λ v vs. v ∷ vs) (value test x env []) (both (λ v vs. v ∷ vs) o (Good []))) (operate And)) e)) where
      by_test : (o : Outcome Value) → mapped (flat_map h) (where_holds t o) ≡ where_holds t (and_then (both (λ v vs. v ∷ vs) o (Good (y ∷ []))) (operate And))
      by_test (Good v) =
          ap Good (kept-twice t h (holds_of v) (holds_of y) made ∙ ap (λ b. cond b (t ∷ []) []) (sym (holds-both (truth_of v) (truth_of y))))
      by_test (Bad faults) = refl

-- ---- items placed

module _ (own : List Item) (x : Row) (env : List Row) (t : Row) (g : items_on own env no_subs x ≡ Good t) where
  placed-on : (items placed : List Item) → ItemsPlaced own items placed → items_on placed env no_subs x ≡ items_on items (x ∷ env) no_subs t
  placed-on [] [] p = refl
  placed-on [] (made ∷ placed) p = absurd p
  placed-on (item ∷ items) [] p = absurd p
  placed-on (item ∷ items) (made ∷ placed) p = λ i. both (λ v vs. v ∷ vs) (p.0.expr.value x env t g i) (placed-on items placed p.1 i)

-- ---- under one row

module _ (columns : List Kind) (outer : List (List Kind)) (db : Database) (env : List Row) (u : Row) (begins : row_begins u columns ≡ true) (long : length u ≡ length columns)
    (vs : Bag) where
  -- columns added to the row change nothing
  longer : (own : List Kind) (t v : Row) → SameColumns (own ∷ columns ∷ outer) (t ∷ u ∷ env) (t ∷ (u ++ v) ∷ env)
  longer own t v = columns-own own t (columns-added columns outer u v env begins)

  items-longer : (own : List Kind) (t v : Row) (items : List Item) → ItemsForm (own ∷ columns ∷ outer) [] items → items_on items (u ∷ env) no_subs t ≡ items_on items ((u ++ v) ∷ env) no_subs t
  items-longer own t v [] f = refl
  items-longer own t v (item ∷ items) f =
      λ i. both (λ w ws. w ∷ ws) (value-same (own ∷ columns ∷ outer) [] t t (u ∷ env) ((u ++ v) ∷ env) (longer own t v) [] item.expr item.kind (f 0 item (omega arith)) i)
      (items-longer own t v items (all-rest (λ (item : Item). HasKind (own ∷ columns ∷ outer) [] item.expr item.kind) item items f) i)

  -- a condition over what the items make
  filtered-rows : (items : List Item) (test : Option Expr) (condition placed : Expr) → MayFollow test condition →
      ((v : Row) → IsIn v vs → value condition (row_by items env (u ++ v)) (u ∷ env) [] ≡ value placed (u ++ v) env []) →
      and_then (gather (λ v. where_holds (row_by items env (u ++ v)) (value (condition_or_true test) (u ++ v) env [])) vs) (gather (kept (condition_on condition (u ∷ env) no_subs)))
      ≡ gather (λ v. where_holds (row_by items env (u ++ v)) (value (condition_or_true (Some (tests_with test placed))) (u ++ v) env [])) vs
  filtered-rows items None condition placed follows same =
      gather-ones (λ v. row_by items env (u ++ v)) (kept (condition_on condition (u ∷ env) no_subs)) vs
      ∙ gather-on (λ v. kept (condition_on condition (u ∷ env) no_subs) (row_by items env (u ++ v))) (λ v. where_holds (row_by items env (u ++ v)) (value placed (u ++ v) env [])) vs
      (λ v h. ap (where_holds (row_by items env (u ++ v))) (same v h))
  filtered-rows items (Some test) condition placed follows same =
      after-gather (λ v. where_holds (row_by items env (u ++ v)) (value test (u ++ v) env [])) (kept (condition_on condition (u ∷ env) no_subs)) make good vs
      ∙ gather-on (λ v. mapped (flat_map make) (where_holds (row_by items env (u ++ v)) (value test (u ++ v) env [])))
      (λ v. where_holds (row_by items env (u ++ v)) (value (Op And (test ∷ placed ∷ [])) (u ++ v) env [])) vs
      (λ v h. both_tests test placed (u ++ v) env (row_by items env (u ++ v)) (of (row_by items env (u ++ v))) make (sym (same v h) ∙ is (row_by items env (u ++ v))) refl) where
        of : Row → Value
        of t = good_value (value condition t (u ∷ env) [])

        is : (t : Row) → value condition t (u ∷ env) [] ≡ Good (of t)
        is t = good_value-is (value condition t (u ∷ env) []) (good-value condition follows t (u ∷ env) [])

        make : Row → Bag
        make t = cond (holds_of (of t)) (t ∷ []) []

        good : (t : Row) → kept (condition_on condition (u ∷ env) no_subs) t ≡ Good (make t)
        good t = ap (where_holds t) (is t)

  -- items over what the items make
  projected-rows : (own : List Item) (test : Option Expr) (items placed : List Item) → items_faultless items ≡ true →
      ((v : Row) → IsIn v vs → row_by placed env (u ++ v) ≡ row_by items (u ∷ env) (row_by own env (u ++ v))) →
      and_then (gather (λ v. where_holds (row_by own env (u ++ v)) (value (condition_or_true test) (u ++ v) env [])) vs) (each (items_on items (u ∷ env) no_subs))
      ≡ gather (λ v. where_holds (row_by placed env (u ++ v)) (value (condition_or_true test) (u ++ v) env [])) vs
  projected-rows own test items placed w same =
      (λ i. and_then (gather found vs) (λ bag. sym (each-gather (items_on items (u ∷ env) no_subs) bag) i))
      ∙ after-gather found (λ t. mapped (λ y. y ∷ []) (items_on items (u ∷ env) no_subs t)) make (λ t. ap (mapped (λ y. y ∷ [])) (items-good items (u ∷ env) t w)) vs
      ∙ gather-on (λ v. mapped (flat_map make) (found v)) (λ v. where_holds (row_by placed env (u ++ v)) (value (condition_or_true test) (u ++ v) env [])) vs
      (λ v h. by_test v (value (condition_or_true test) (u ++ v) env []) (same v h)) where
        found : Row → Outcome Bag
        found v = where_holds (row_by own env (u ++ v)) (value (condition_or_true test) (u ++ v) env [])

        make : Row → Bag
        make t = row_by items (u ∷ env) t ∷ []

        by_holding : (t s : Row) (b : Bool) → s ≡ row_by items (u ∷ env) t → flat_map make (cond b (t ∷ []) []) ≡ cond b (s ∷ []) []
        by_holding t s true e = ap (λ row. row ∷ []) (sym e)
        by_holding t s false e = refl

        by_test : (v : Row) (o : Outcome Value) → row_by placed env (u ++ v) ≡ row_by items (u ∷ env) (row_by own env (u ++ v)) →
            mapped (flat_map make) (where_holds (row_by own env (u ++ v)) o) ≡ where_holds (row_by placed env (u ++ v)) o
        by_test v (Good y) e = ap Good (by_holding (row_by own env (u ++ v)) (row_by placed env (u ++ v)) (holds_of y) e)
        by_test v (Bad faults) e = refl

  whole-rows : (bag : Bag) → gather (λ v. Good (v ∷ [])) bag ≡ Good bag
  whole-rows [] = refl
  whole-rows (v ∷ bag) = λ i. both (λ y ys. y ++ ys) (Good (v ∷ [])) (whole-rows bag i)

  pub spine-rows : {q : Query} {spine : Spine} → IsSpine (length columns) q spine → WellFormed (columns ∷ outer) q → meaning spine.base db (u ∷ env) ≡ Good vs →
      ((v : Row) → IsIn v vs → length v ≡ width_of spine.base) →
      meaning q db (u ∷ env) ≡ gather (λ v. spine_row spine env (u ++ v)) vs
  spine-rows (closed q c w) f good wide =
      good ∙ sym (whole-rows vs)
      ∙ gather-on (λ v. Good (v ∷ [])) (λ v. Good (row_by (items_behind (length columns) (kinds_of q)) env (u ++ v) ∷ [])) vs
      (λ v h. ap (λ row. Good (row ∷ [])) (own v (wide v h))) where
        gives : (v : Row) → length v ≡ width_of q → items_on (items_behind (length columns) (kinds_of q)) env no_subs (u ++ v) ≡ Good v
        gives v e =
            subst (λ n. items_on (items_behind n (kinds_of q)) env no_subs (u ++ v) ≡ Good v) long
            (subst (λ row. items_on (items_behind (length u) (kinds_of q)) env no_subs (u ++ row) ≡ Good v) (append-nil v) (behind-give env (kinds_of q) u v [] e))

        own : (v : Row) → length v ≡ width_of q → v ≡ row_by (items_behind (length columns) (kinds_of q)) env (u ++ v)
        own v e = first (items_on (items_behind (length columns) (kinds_of q)) env no_subs (u ++ v)) (gives v e) where
          first : (o : Outcome Row) → o ≡ Good v → v ≡ good_row o
          first o e = ap good_row (sym e)
  spine-rows (filtered input spine condition placed s p m) f good wide =
      meaning-chosen input condition db (u ∷ env)
      ∙ ap (λ o. and_then o (gather (kept (condition_on condition (u ∷ env) no_subs)))) (spine-rows s f.input good wide)
      ∙ filtered-rows spine.items spine.test condition placed m
      (λ v h. value-same (kinds_of input ∷ columns ∷ outer) [] (row_by spine.items env (u ++ v)) (row_by spine.items env (u ++ v)) (u ∷ env) ((u ++ v) ∷ env)
      (longer (kinds_of input) (row_by spine.items env (u ++ v)) v) [] condition Boolean f.condition
      ∙ sym (p.value (u ++ v) env (row_by spine.items env (u ++ v)) (items-good spine.items env (u ++ v) (spine-faultless s))))
  spine-rows (projected input spine items placed s p w) f good wide =
      meaning-projected input items db (u ∷ env)
      ∙ ap (λ o. and_then o (each (items_on items (u ∷ env) no_subs))) (spine-rows s f.input good wide)
      ∙ projected-rows spine.items spine.test items placed w
      (λ v h. ap good_row (placed-on spine.items (u ++ v) env (row_by spine.items env (u ++ v)) (items-good spine.items env (u ++ v) (spine-faultless s)) items placed p
      ∙ sym (items-longer (kinds_of input) (row_by spine.items env (u ++ v)) v items f.items)))
