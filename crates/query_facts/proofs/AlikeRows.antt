-- A query means the same under all outer rows that agree on the columns that it reads.
use Rattle.std.proofs.Common.{◌≡◌, subst, ℕ, zero, suc, ◌≤◌, false, List, [], ◌∷◌, ◌++◌, get_or, drop, map, Option, Some, None, refl, ap, ◌∙◌, arith}
use Rattle.std.proofs.lemmas.Bool.Decides.{nat_tests}
use Rattle.std.proofs.lemmas.List.Elements.{All-nil, All-cons, All-head, All-tail}
use Rattle.std.proofs.lemmas.Bool.{or_right}
use Rattle.std.specs.Prelude.{◌==◌, Bool, true, ◌&&◌, ◌||◌, All}
use Rattle.perm_values.specs.Rows.{value_at, picked}
use Rattle.perm_values.specs.Values.{same_value, is_null}
use Rattle.perm_values.specs.declared.value.Value.{Value}
use Rattle.perm_values.specs.declared.value.Value.TheVariants.{Boolean, Null}
use Rattle.bag_algebra.specs.Bags.{Row}
use Rattle.bag_algebra.specs.Expressions.{row_at, operate, chain, has_truth, chosen_arm, value, values, step_values, arm_value}
use Rattle.bag_algebra.specs.Kinds.{shape, width_of}
use Rattle.bag_algebra.specs.Meaning.{Database, denote, sub_denote, meaning, optional_value, condition_on, items_on, arguments_on}
use Rattle.bag_algebra.specs.Means.{SubMeans, with_sub, all_empty, base_means, filter_means, project_means, join_means, apply_means, union_means, intersect_means, except_means, distinct_means, aggregate_means, limit_means, provenance_means}
use Rattle.bag_algebra.specs.Outcome.{Outcome, Good, and_then, mapped, both, both_then, each}
use Rattle.bag_algebra.specs.built.Patterns.{OpOf, ChainOf, CaseOf, IsNullOf, IsTruthOf, SameOf, BaseOf, FilterOf, ProjectOf, JoinOf, ApplyOf, UnionOf, IntersectOf, ExceptOf, DistinctOf, AggregateOf, LimitOf, ProvOf}
use Rattle.bag_algebra.specs.declared.expr.Expr.{Expr, Row_of-Expr, Row_of-Arm, Row_of-ChainStep, more_of-Expr, end_of-Expr, more_of-Arm, end_of-Arm, more_of-ChainStep, end_of-ChainStep}
use Rattle.bag_algebra.specs.declared.expr.Expr.TheVariants.{Col, Lit, Sub}
use Rattle.bag_algebra.specs.declared.expr.Item.{Item}
use Rattle.bag_algebra.specs.declared.query.Aggr.{Aggr}
use Rattle.bag_algebra.specs.declared.query.Query.{Query, Row_of-Sublink, more_of-Sublink, end_of-Sublink}
use Rattle.bag_algebra.specs.declared.query.Query.TheVariants.{Table, Single}
use Rattle.query_facts.specs.reached.reads.Columns.{column_at, expr_columns, parts_columns, steps_columns, arms_columns, option_columns, items_columns, aggregates_columns, one_nearer, behind, columns_of, subs_columns, Agree, is_nearest, is_among, AreNearest}
use Rattle.query_facts.specs.declared.reached.reads.queries.OuterColumn.{OuterColumn}

-- what holds of all of two lists
pub all-first : {X : Type 0} (P : X → Type 0) (xs ys : List X) → All P (xs ++ ys) → All P xs
all-first P [] ys h = All-nil P
all-first P (x ∷ xs) ys h = All-cons P x xs (All-head P x (xs ++ ys) h) (all-first P xs ys (All-tail P x (xs ++ ys) h))

right : {X : Type 0} (P : X → Type 0) (xs ys : List X) → All P (xs ++ ys) → All P ys
right P [] ys h = h
right P (x ∷ xs) ys h = right P xs ys (All-tail P x (xs ++ ys) h)

-- the rows have the same value in the column
abbrev Same_in : List Row → List Row → OuterColumn → Type 0
Same_in rows others column = value_at (row_at rows column.level) column.place ≡ value_at (row_at others column.level) column.place

first_of : (rows others : List Row) (xs ys : List OuterColumn) → Agree (xs ++ ys) rows others → Agree xs rows others
first_of rows others xs ys h = all-first (Same_in rows others) xs ys h

second_of : (rows others : List Row) (xs ys : List OuterColumn) → Agree (xs ++ ys) rows others → Agree ys rows others
second_of rows others xs ys h = right (Same_in rows others) xs ys h

-- behind a row of which nothing else differs
one_further : (u : Row) (env other : List Row) (level place : ℕ) → Agree (one_nearer level place) env other → Same_in (u ∷ env) (u ∷ other) (column_at level place)
one_further u env other zero place h = refl
one_further u env other (suc level) place h = All-head (Same_in env other) (column_at level place) [] h

further : (u : Row) (env other : List Row) (columns : List OuterColumn) → Agree (behind columns) env other → Agree columns (u ∷ env) (u ∷ other)
further u env other [] h = All-nil (Same_in (u ∷ env) (u ∷ other))
further u env other (column ∷ columns) h =
    let near = one_nearer column.level column.place in
    All-cons (Same_in (u ∷ env) (u ∷ other)) column columns
    (one_further u env other column.level column.place (first_of env other near (behind columns) h))
    (further u env other columns (second_of env other near (behind columns) h))

-- ---- expressions

module _ (u v : Row) (env other : List Row) (answers : List Value) where
  mutual
    pub value-alike : (e : Expr) → Agree (expr_columns e) (u ∷ env) (v ∷ other) → value e u env answers ≡ value e v other answers
    value-alike (Col own place) w = ap Good (All-head (Same_in (u ∷ env) (v ∷ other)) (column_at own place) [] w)
    value-alike (Lit constant kind) w = refl
    value-alike (OpOf o _ parts) w = λ i. and_then (values-alike parts w i) (operate o)
    value-alike (ChainOf first _ steps) w =
        let here = value-alike first (first_of (u ∷ env) (v ∷ other) (expr_columns first) (steps_columns steps) w) in
        let rest = step_values-alike steps (second_of (u ∷ env) (v ∷ other) (expr_columns first) (steps_columns steps) w) in
        λ i. both_then (here i) (rest i) chain
    value-alike (CaseOf _ arms otherwise) w =
        arm_value-alike arms (value otherwise u env answers) (value otherwise v other answers)
        (first_of (u ∷ env) (v ∷ other) (arms_columns arms) (expr_columns otherwise) w)
        (value-alike otherwise (second_of (u ∷ env) (v ∷ other) (arms_columns arms) (expr_columns otherwise) w))
    value-alike (Sub number) w = refl
    value-alike (IsNullOf part) w = ap (mapped (λ x. Boolean (is_null x))) (value-alike part w)
    value-alike (IsTruthOf truth part) w = ap (mapped (λ x. Boolean (has_truth truth x))) (value-alike part w)
    value-alike (SameOf first second) w =
        let here = value-alike first (first_of (u ∷ env) (v ∷ other) (expr_columns first) (expr_columns second) w) in
        let there = value-alike second (second_of (u ∷ env) (v ∷ other) (expr_columns first) (expr_columns second) w) in
        λ i. both (λ x y. Boolean (same_value x y)) (here i) (there i)

    values-alike : {m : _} (parts : Row_of-Expr m) → Agree (parts_columns parts) (u ∷ env) (v ∷ other) → values parts u env answers ≡ values parts v other answers
    values-alike end_of-Expr w = refl
    values-alike (more_of-Expr part parts) w =
        let here = value-alike part (first_of (u ∷ env) (v ∷ other) (expr_columns part) (parts_columns parts) w) in
        let rest = values-alike parts (second_of (u ∷ env) (v ∷ other) (expr_columns part) (parts_columns parts) w) in
        λ i. both (λ x xs. x ∷ xs) (here i) (rest i)

    step_values-alike : {m : _} (steps : Row_of-ChainStep m) → Agree (steps_columns steps) (u ∷ env) (v ∷ other) → step_values steps u env answers ≡ step_values steps v other answers
    step_values-alike end_of-ChainStep w = refl
    step_values-alike (more_of-ChainStep operation part steps) w =
        let here = value-alike part (first_of (u ∷ env) (v ∷ other) (expr_columns part) (steps_columns steps) w) in
        let rest = step_values-alike steps (second_of (u ∷ env) (v ∷ other) (expr_columns part) (steps_columns steps) w) in
        λ i. both (λ x ss. record { operation = operation; operand = x } ∷ ss) (here i) (rest i)

    arm_value-alike : {m : _} (arms : Row_of-Arm m) (o p : Outcome Value) → Agree (arms_columns arms) (u ∷ env) (v ∷ other) → o ≡ p →
        arm_value arms u env answers o ≡ arm_value arms v other answers p
    arm_value-alike end_of-Arm o p w e = e
    arm_value-alike (more_of-Arm condition arm arms) o p w e =
        let own = first_of (u ∷ env) (v ∷ other) (expr_columns condition ++ expr_columns arm) (arms_columns arms) w in
        let test = value-alike condition (first_of (u ∷ env) (v ∷ other) (expr_columns condition) (expr_columns arm) own) in
        let here = value-alike arm (second_of (u ∷ env) (v ∷ other) (expr_columns condition) (expr_columns arm) own) in
        let rest = arm_value-alike arms o p (second_of (u ∷ env) (v ∷ other) (expr_columns condition ++ expr_columns arm) (arms_columns arms) w) e in
        λ i. chosen_arm (test i) (here i) (rest i)

-- ---- parts of queries

module _ (env other : List Row) where
  items-alike : (items : List Item) (u : Row) (answers : List Value) → Agree (items_columns items) (u ∷ env) (u ∷ other) →
      each (λ (item : Item). value item.expr u env answers) items ≡ each (λ (item : Item). value item.expr u other answers) items
  items-alike [] u answers w = refl
  items-alike (item ∷ items) u answers w =
      let here = value-alike u u env other answers item.expr (first_of (u ∷ env) (u ∷ other) (expr_columns item.expr) (items_columns items) w) in
      let rest = items-alike items u answers (second_of (u ∷ env) (u ∷ other) (expr_columns item.expr) (items_columns items) w) in
      λ i. both (λ v vs. v ∷ vs) (here i) (rest i)

  argument-alike : (part : Option Expr) (u : Row) → Agree (option_columns part) (u ∷ env) (u ∷ other) → optional_value part env u ≡ optional_value part other u
  argument-alike None u w = refl
  argument-alike (Some part) u w = value-alike u u env other [] part w

  arguments-alike : (aggregates : List Aggr) (u : Row) → Agree (aggregates_columns aggregates) (u ∷ env) (u ∷ other) →
      arguments_on aggregates env u ≡ arguments_on aggregates other u
  arguments-alike [] u w = refl
  arguments-alike (aggregate ∷ aggregates) u w =
      let here = argument-alike aggregate.argument u (first_of (u ∷ env) (u ∷ other) (option_columns aggregate.argument) (aggregates_columns aggregates) w) in
      let rest = arguments-alike aggregates u (second_of (u ∷ env) (u ∷ other) (option_columns aggregate.argument) (aggregates_columns aggregates) w) in
      λ i. both (λ v vs. v ∷ vs) (here i) (rest i)

  condition_on-alike : (condition : Expr) (s r : SubMeans) → ((u : Row) → Agree (expr_columns condition) (u ∷ env) (u ∷ other)) → s ≡ r → condition_on condition env s ≡ condition_on condition other r
  condition_on-alike condition s r w e =
      λ i u. and_then ((e i).answers u) (λ answers. value-alike u u env other answers condition (w u) i)

  items_on-alike : (items : List Item) (s r : SubMeans) → ((u : Row) → Agree (items_columns items) (u ∷ env) (u ∷ other)) → s ≡ r → items_on items env s ≡ items_on items other r
  items_on-alike items s r w e = λ i u. and_then ((e i).answers u) (λ answers. items-alike items u answers (w u) i)

  -- of what a node reads, its own row aside, the first part and the second
  own_of : (own subs : List OuterColumn) → Agree (behind (own ++ subs)) env other → (u : Row) → Agree own (u ∷ env) (u ∷ other)
  own_of own subs w u = first_of (u ∷ env) (u ∷ other) own subs (further u env other (own ++ subs) w)

  subs_of : (own subs : List OuterColumn) → Agree (behind (own ++ subs)) env other → (u : Row) → Agree subs (u ∷ env) (u ∷ other)
  subs_of own subs w u = second_of (u ∷ env) (u ∷ other) own subs (further u env other (own ++ subs) w)

-- ---- queries

mutual
  pub denote-alike : (q : Query) (db : Database) (env other : List Row) → Agree (columns_of q) env other → denote q db env ≡ denote q db other
  denote-alike (Table id kinds) db env other w = refl
  denote-alike Single db env other w = refl
  denote-alike (BaseOf input places label) db env other w = ap (base_means places) (denote-alike input db env other w)
  denote-alike (FilterOf input condition _ subs) db env other w =
      let own = behind (expr_columns condition ++ subs_columns subs) in
      let rows = denote-alike input db env other (first_of env other (columns_of input) own w) in
      let mine = second_of env other (columns_of input) own w in
      let e = sub_denote-alike subs db env other (subs_of env other (expr_columns condition) (subs_columns subs) mine) in
      let c = condition_on-alike env other condition (sub_denote subs db env) (sub_denote subs db other) (own_of env other (expr_columns condition) (subs_columns subs) mine) e in
      λ i. filter_means (c i) (e i).contributions (rows i)
  denote-alike (ProjectOf input items _ subs) db env other w =
      let own = behind (items_columns items ++ subs_columns subs) in
      let rows = denote-alike input db env other (first_of env other (columns_of input) own w) in
      let mine = second_of env other (columns_of input) own w in
      let e = sub_denote-alike subs db env other (subs_of env other (items_columns items) (subs_columns subs) mine) in
      let c = items_on-alike env other items (sub_denote subs db env) (sub_denote subs db other) (own_of env other (items_columns items) (subs_columns subs) mine) e in
      λ i. project_means (c i) (e i).contributions (rows i)
  denote-alike (JoinOf kind first second condition _ subs) db env other w =
      let own = behind (expr_columns condition ++ subs_columns subs) in
      let sides = first_of env other (columns_of first ++ columns_of second) own w in
      let mine = second_of env other (columns_of first ++ columns_of second) own w in
      let lefts = denote-alike first db env other (first_of env other (columns_of first) (columns_of second) sides) in
      let rights = denote-alike second db env other (second_of env other (columns_of first) (columns_of second) sides) in
      let e = sub_denote-alike subs db env other (subs_of env other (expr_columns condition) (subs_columns subs) mine) in
      let c = condition_on-alike env other condition (sub_denote subs db env) (sub_denote subs db other) (own_of env other (expr_columns condition) (subs_columns subs) mine) e in
      λ i. join_means kind (c i) (e i).contributions (record { left = all_empty (shape first); right = all_empty (shape second); subs = (e i).blank })
      (width_of first) (width_of second) (lefts i) (rights i)
  denote-alike (ApplyOf kind first second) db env other w =
      let lefts = denote-alike first db env other (first_of env other (columns_of first) (behind (columns_of second)) w) in
      let mine = second_of env other (columns_of first) (behind (columns_of second)) w in
      λ i. apply_means kind (width_of second) (all_empty (shape second)) (lefts i)
      (λ u. denote-alike second db (u ∷ env) (u ∷ other) (further u env other (columns_of second) mine) i)
  denote-alike (UnionOf all first second) db env other w =
      let lefts = denote-alike first db env other (first_of env other (columns_of first) (columns_of second) w) in
      let rights = denote-alike second db env other (second_of env other (columns_of first) (columns_of second) w) in
      λ i. union_means all (all_empty (shape first)) (all_empty (shape second)) (lefts i) (rights i)
  denote-alike (IntersectOf all first second) db env other w =
      let lefts = denote-alike first db env other (first_of env other (columns_of first) (columns_of second) w) in
      let rights = denote-alike second db env other (second_of env other (columns_of first) (columns_of second) w) in
      λ i. intersect_means all (lefts i) (rights i)
  denote-alike (ExceptOf all first second) db env other w =
      let lefts = denote-alike first db env other (first_of env other (columns_of first) (columns_of second) w) in
      let rights = denote-alike second db env other (second_of env other (columns_of first) (columns_of second) w) in
      λ i. except_means all (all_empty (shape second)) (lefts i) (rights i)
  denote-alike (DistinctOf input) db env other w = ap distinct_means (denote-alike input db env other w)
  denote-alike (AggregateOf input groups aggregates) db env other w =
      let rows = denote-alike input db env other (first_of env other (columns_of input) (behind (aggregates_columns aggregates)) w) in
      let mine = second_of env other (columns_of input) (behind (aggregates_columns aggregates)) w in
      λ i. aggregate_means groups (map (λ (aggregate : Aggr). aggregate.function) aggregates)
      (λ u. arguments-alike env other aggregates u (further u env other (aggregates_columns aggregates) mine) i) (all_empty (shape input)) (rows i)
  denote-alike (LimitOf input keys count) db env other w = ap (limit_means keys count) (denote-alike input db env other w)
  denote-alike (ProvOf input) db env other w = ap provenance_means (denote-alike input db env other w)

  sub_denote-alike : {m : _} (subs : Row_of-Sublink m) (db : Database) (env other : List Row) → ((u : Row) → Agree (subs_columns subs) (u ∷ env) (u ∷ other)) →
      sub_denote subs db env ≡ sub_denote subs db other
  sub_denote-alike end_of-Sublink db env other w = refl
  sub_denote-alike (more_of-Sublink kind tested query subs) db env other w =
      let here = option_columns tested in
      let own : (u : Row) → Agree (here ++ columns_of query) (u ∷ env) (u ∷ other) = λ u. first_of (u ∷ env) (u ∷ other) (here ++ columns_of query) (subs_columns subs) (w u) in
      let rest = sub_denote-alike subs db env other (λ u. second_of (u ∷ env) (u ∷ other) (here ++ columns_of query) (subs_columns subs) (w u)) in
      λ i. with_sub kind (λ u. argument-alike env other tested u (first_of (u ∷ env) (u ∷ other) here (columns_of query) (own u)) i)
      (λ u. denote-alike query db (u ∷ env) (u ∷ other) (second_of (u ∷ env) (u ∷ other) here (columns_of query) (own u)) i)
      (all_empty (shape query)) (rest i)

pub meaning-alike : (q : Query) (db : Database) (env other : List Row) → Agree (columns_of q) env other → meaning q db env ≡ meaning q db other
meaning-alike q db env other w = ap (λ m. m.rows) (denote-alike q db env other w)

-- ---- the nearest row

nearest_is : (place : ℕ) (rest : Bool) → (((zero == zero) && (place == place)) || rest) ≡ true
nearest_is place rest = grind (arith, nat_tests)

-- rows with the same values at the nearest row's places agree on all columns
nearest-agree : (u v : Row) (env : List Row) (columns : List OuterColumn) → ((place : ℕ) → is_nearest columns place ≡ true → value_at u place ≡ value_at v place) → Agree columns (u ∷ env) (v ∷ env)
nearest-agree u v env [] same = All-nil (Same_in (u ∷ env) (v ∷ env))
nearest-agree u v env (column ∷ columns) same =
    All-cons (Same_in (u ∷ env) (v ∷ env)) column columns
    (here column.level column.place (same column.place))
    (nearest-agree u v env columns (λ place h. same place (or_right ((column.level == 0) && (column.place == place)) (is_nearest columns place) h)))
  where
    here : (level place : ℕ) → ((((level == 0) && (place == place)) || is_nearest columns place) ≡ true → value_at u place ≡ value_at v place) → Same_in (u ∷ env) (v ∷ env) (column_at level place)
    here zero place h = h (nearest_is place (is_nearest columns place))
    here (suc level) place h = refl

equal : (a b : ℕ) → (a == b) ≡ true → a ≡ b
equal a b h = grind (arith, nat_tests)

-- values picked alike are alike
picked_by : (p place : ℕ) (places : List ℕ) (u v : Row) → value_at u p ≡ value_at v p → (is_among places place ≡ true → value_at u place ≡ value_at v place) →
    (b : Bool) → (p == place) ≡ b → (b || is_among places place) ≡ true → value_at u place ≡ value_at v place
picked_by p place places u v first rest true e h = subst (λ n. value_at u n ≡ value_at v n) (equal p place e) first
picked_by p place places u v first rest false e h = rest h

picked_same : (places : List ℕ) (u v : Row) → picked places u ≡ picked places v → (place : ℕ) → is_among places place ≡ true → value_at u place ≡ value_at v place
picked_same [] u v e place h = absurd (cc h)
picked_same (p ∷ places) u v e place h =
    picked_by p place places u v (ap (λ values. get_or values 0 Null) e) (picked_same places u v (ap (drop 1) e) place) (p == place) refl h

pub picked-alike : (q : Query) (places : List ℕ) (db : Database) (u v : Row) (env : List Row) → AreNearest (columns_of q) places → picked places u ≡ picked places v → meaning q db (u ∷ env) ≡ meaning q db (v ∷ env)
picked-alike q places db u v env are e =
    meaning-alike q db (u ∷ env) (v ∷ env) (nearest-agree u v env (columns_of q) (λ place h. picked_same places u v e place (are place ∙ h)))
