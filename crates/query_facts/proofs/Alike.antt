-- A query means the same under all outer rows that agree on the columns that it reads.
use Rattle.std.proofs.Common.{◌≡◌, subst, ℕ, zero, suc, ◌≤◌, max, false, nat_lt, cond, List, [], ◌∷◌, ◌++◌, length, get_or, take, map, Option, Some, None, refl, sym, ap, ◌∙◌, arith}
use Rattle.std.specs.Prelude.{◌==◌}
use Rattle.std.proofs.lemmas.Bool.Decides.{nat_tests}
use Rattle.std.proofs.Math.Nat.{le-max_left, le-max_right}
use Rattle.std.proofs.lemmas.List.{get_or-take}
use Rattle.perm_values.specs.Rows.{value_at}
use Rattle.perm_values.specs.Values.{same_value, is_null}
use Rattle.perm_values.specs.declared.value.Value.{Value}
use Rattle.perm_values.specs.declared.value.Value.TheVariants.{Boolean, Null}
use Rattle.bag_algebra.specs.Bags.{Row}
use Rattle.bag_algebra.specs.Expressions.{row_at, operate, chain, has_truth, chosen_arm, value, values, step_values, arm_value}
use Rattle.bag_algebra.specs.Kinds.{shape, width_of}
use Rattle.bag_algebra.specs.Meaning.{Database, denote, sub_denote, meaning, optional_value, condition_on, items_on, arguments_on}
use Rattle.bag_algebra.specs.Means.{SubMeans, with_sub, all_empty, base_means, filter_means, project_means, join_means, apply_means, union_means, intersect_means, except_means, distinct_means, aggregate_means, limit_means, provenance_means}
use Rattle.bag_algebra.specs.Outcome.{Outcome, Good, and_then, mapped, both, both_then, each}
use Rattle.bag_algebra.specs.built.Patterns.{OpOf, ChainOf, CaseOf, IsNullOf, IsTruthOf, SameOf, BaseOf, FilterOf, ProjectOf, JoinOf, ApplyOf, UnionOf, IntersectOf, ExceptOf, DistinctOf, AggregateOf, LimitOf, ProvOf}
use Rattle.bag_algebra.specs.declared.expr.Expr.{Expr, Row_of-Expr, Row_of-Arm, Row_of-ChainStep, more_of-Expr, end_of-Expr, more_of-Arm, end_of-Arm, more_of-ChainStep, end_of-ChainStep}
use Rattle.bag_algebra.specs.declared.expr.Expr.TheVariants.{Col, Lit, Sub}
use Rattle.bag_algebra.specs.declared.expr.Item.{Item}
use Rattle.bag_algebra.specs.declared.query.Aggr.{Aggr}
use Rattle.bag_algebra.specs.declared.query.Query.{Query, Row_of-Sublink, more_of-Sublink, end_of-Sublink}
use Rattle.bag_algebra.specs.declared.query.Query.TheVariants.{Table, Single}
use Rattle.query_facts.specs.reached.Reach.{column_reach, expr_reach, parts_reach, steps_reach, arms_reach, option_reach, items_reach, aggregates_reach, query_reach, subs_reach, reads_own_row}

-- what is within a number where the greater of two is
pub max-left : (a b n : ℕ) → max a b ≤ n → a ≤ n
max-left a b n h = omega (arith, le-max_left a b)

pub max-right : (a b n : ℕ) → max a b ≤ n → b ≤ n
max-right a b n h = omega (arith, le-max_right a b)

-- the rows have the same values, but for what is behind the first n columns of the row at the level
abbrev pub Alike : ℕ → ℕ → List Row → List Row → Type 0
Alike level n env other = (own place : ℕ) → column_reach own place level ≤ n → value_at (row_at env own) place ≡ value_at (row_at other own) place

pub one_level : (own level : ℕ) → (suc own == suc level) ≡ (own == level)
one_level own level = grind (arith, nat_tests)

one_further : (level n : ℕ) (u : Row) (env other : List Row) → Alike level n env other → Alike (suc level) n (u ∷ env) (u ∷ other)
one_further level n u env other same zero place h = refl
one_further level n u env other same (suc own) place h = same own place (subst (λ b. cond b (suc place) 0 ≤ n) (one_level own level) h)

-- ---- expressions

module _ (level n : ℕ) (u v : Row) (env other : List Row) (same : Alike level n (u ∷ env) (v ∷ other)) (answers : List Value) where
  mutual
    value-alike : (e : Expr) → expr_reach e level ≤ n → value e u env answers ≡ value e v other answers
    value-alike (Col own place) w = ap Good (same own place w)
    value-alike (Lit constant kind) w = refl
    value-alike (OpOf o _ parts) w = λ i. and_then (values-alike parts w i) (operate o)
    value-alike (ChainOf first _ steps) w =
        let here = value-alike first (max-left (expr_reach first level) (steps_reach steps level) n w) in
        let rest = step_values-alike steps (max-right (expr_reach first level) (steps_reach steps level) n w) in
        λ i. both_then (here i) (rest i) chain
    value-alike (CaseOf _ arms otherwise) w =
        arm_value-alike arms (value otherwise u env answers) (value otherwise v other answers)
        (max-left (arms_reach arms level) (expr_reach otherwise level) n w)
        (value-alike otherwise (max-right (arms_reach arms level) (expr_reach otherwise level) n w))
    value-alike (Sub number) w = refl
    value-alike (IsNullOf part) w = ap (mapped (λ x. Boolean (is_null x))) (value-alike part w)
    value-alike (IsTruthOf truth part) w = ap (mapped (λ x. Boolean (has_truth truth x))) (value-alike part w)
    value-alike (SameOf first second) w =
        let here = value-alike first (max-left (expr_reach first level) (expr_reach second level) n w) in
        let there = value-alike second (max-right (expr_reach first level) (expr_reach second level) n w) in
        λ i. both (λ x y. Boolean (same_value x y)) (here i) (there i)

    values-alike : {m : _} (parts : Row_of-Expr m) → parts_reach parts level ≤ n → values parts u env answers ≡ values parts v other answers
    values-alike end_of-Expr w = refl
    values-alike (more_of-Expr part parts) w =
        let here = value-alike part (max-left (expr_reach part level) (parts_reach parts level) n w) in
        let rest = values-alike parts (max-right (expr_reach part level) (parts_reach parts level) n w) in
        λ i. both (λ x xs. x ∷ xs) (here i) (rest i)

    step_values-alike : {m : _} (steps : Row_of-ChainStep m) → steps_reach steps level ≤ n → step_values steps u env answers ≡ step_values steps v other answers
    step_values-alike end_of-ChainStep w = refl
    step_values-alike (more_of-ChainStep operation part steps) w =
        let here = value-alike part (max-left (expr_reach part level) (steps_reach steps level) n w) in
        let rest = step_values-alike steps (max-right (expr_reach part level) (steps_reach steps level) n w) in
        λ i. both (λ x ss. record { operation = operation; operand = x } ∷ ss) (here i) (rest i)

    arm_value-alike : {m : _} (arms : Row_of-Arm m) (o p : Outcome Value) → arms_reach arms level ≤ n → o ≡ p → arm_value arms u env answers o ≡ arm_value arms v other answers p
    arm_value-alike end_of-Arm o p w e = e
    arm_value-alike (more_of-Arm condition arm arms) o p w e =
        let own = max-left (max (expr_reach condition level) (expr_reach arm level)) (arms_reach arms level) n w in
        let test = value-alike condition (max-left (expr_reach condition level) (expr_reach arm level) n own) in
        let here = value-alike arm (max-right (expr_reach condition level) (expr_reach arm level) n own) in
        let rest = arm_value-alike arms o p (max-right (max (expr_reach condition level) (expr_reach arm level)) (arms_reach arms level) n w) e in
        λ i. chosen_arm (test i) (here i) (rest i)

own-alike : (u v : Row) (env : List Row) → Alike 0 0 (u ∷ env) (v ∷ env)
own-alike u v env zero place h = absurd (omega arith)
own-alike u v env (suc own) place h = refl

no_reach : (n : ℕ) → nat_lt 0 n ≡ false → n ≤ 0
no_reach n h = grind (arith, nat_tests)

-- what reads no own column has one value
pub own_value : (e : Expr) (u v : Row) (env : List Row) (answers : List Value) → reads_own_row e ≡ false → value e u env answers ≡ value e v env answers
own_value e u v env answers h = value-alike 0 0 u v env env (own-alike u v env) answers e (no_reach (expr_reach e 0) h)

-- ---- parts of queries

module _ (level n : ℕ) (env other : List Row) (same : Alike level n env other) where
  option-alike : (part : Option Expr) → option_reach part (suc level) ≤ n → optional_value part env ≡ optional_value part other
  option-alike None w = refl
  option-alike (Some part) w = λ i u. value-alike (suc level) n u u env other (one_further level n u env other same) [] part w i

  items-alike : (items : List Item) → items_reach items (suc level) ≤ n → (u : Row) (answers : List Value) →
      each (λ (item : Item). value item.expr u env answers) items ≡ each (λ (item : Item). value item.expr u other answers) items
  items-alike [] w u answers = refl
  items-alike (item ∷ items) w u answers =
      let own = max-left (expr_reach item.expr (suc level)) (items_reach items (suc level)) n w in
      let here = value-alike (suc level) n u u env other (one_further level n u env other same) answers item.expr own in
      let rest = items-alike items (max-right (expr_reach item.expr (suc level)) (items_reach items (suc level)) n w) u answers in
      λ i. both (λ v vs. v ∷ vs) (here i) (rest i)

  arguments-alike : (aggregates : List Aggr) → aggregates_reach aggregates (suc level) ≤ n → (u : Row) → arguments_on aggregates env u ≡ arguments_on aggregates other u
  arguments-alike [] w u = refl
  arguments-alike (aggregate ∷ aggregates) w u =
      let here = option-alike aggregate.argument (max-left (option_reach aggregate.argument (suc level)) (aggregates_reach aggregates (suc level)) n w) in
      let rest = arguments-alike aggregates (max-right (option_reach aggregate.argument (suc level)) (aggregates_reach aggregates (suc level)) n w) u in
      λ i. both (λ v vs. v ∷ vs) (here i u) (rest i)

  condition_on-alike : (condition : Expr) (s r : SubMeans) → expr_reach condition (suc level) ≤ n → s ≡ r → condition_on condition env s ≡ condition_on condition other r
  condition_on-alike condition s r w e =
      λ i u. and_then ((e i).answers u) (λ answers. value-alike (suc level) n u u env other (one_further level n u env other same) answers condition w i)

  items_on-alike : (items : List Item) (s r : SubMeans) → items_reach items (suc level) ≤ n → s ≡ r → items_on items env s ≡ items_on items other r
  items_on-alike items s r w e = λ i u. and_then ((e i).answers u) (λ answers. items-alike items w u answers i)

-- ---- queries

mutual
  pub denote-alike : (q : Query) (level n : ℕ) (db : Database) (env other : List Row) → query_reach q (suc level) ≤ n → Alike level n env other → denote q db env ≡ denote q db other
  denote-alike (Table id kinds) level n db env other w same = refl
  denote-alike Single level n db env other w same = refl
  denote-alike (BaseOf input places label) level n db env other w same = ap (base_means places) (denote-alike input level n db env other w same)
  denote-alike (FilterOf input condition _ subs) level n db env other w same =
      let beyond = suc level in
      let own = max-left (max (query_reach input beyond) (expr_reach condition beyond)) (subs_reach subs beyond) n w in
      let rows = denote-alike input level n db env other (max-left (query_reach input beyond) (expr_reach condition beyond) n own) same in
      let e = sub_denote-alike subs level n db env other (max-right (max (query_reach input beyond) (expr_reach condition beyond)) (subs_reach subs beyond) n w) same in
      let c = condition_on-alike level n env other same condition (sub_denote subs db env) (sub_denote subs db other) (max-right (query_reach input beyond) (expr_reach condition beyond) n own) e in
      λ i. filter_means (c i) (e i).contributions (rows i)
  denote-alike (ProjectOf input items _ subs) level n db env other w same =
      let beyond = suc level in
      let own = max-left (max (query_reach input beyond) (items_reach items beyond)) (subs_reach subs beyond) n w in
      let rows = denote-alike input level n db env other (max-left (query_reach input beyond) (items_reach items beyond) n own) same in
      let e = sub_denote-alike subs level n db env other (max-right (max (query_reach input beyond) (items_reach items beyond)) (subs_reach subs beyond) n w) same in
      let c = items_on-alike level n env other same items (sub_denote subs db env) (sub_denote subs db other) (max-right (query_reach input beyond) (items_reach items beyond) n own) e in
      λ i. project_means (c i) (e i).contributions (rows i)
  denote-alike (JoinOf kind first second condition _ subs) level n db env other w same =
      let beyond = suc level in
      let inputs = max (query_reach first beyond) (query_reach second beyond) in
      let own = max-left (max inputs (expr_reach condition beyond)) (subs_reach subs beyond) n w in
      let sides = max-left inputs (expr_reach condition beyond) n own in
      let lefts = denote-alike first level n db env other (max-left (query_reach first beyond) (query_reach second beyond) n sides) same in
      let rights = denote-alike second level n db env other (max-right (query_reach first beyond) (query_reach second beyond) n sides) same in
      let e = sub_denote-alike subs level n db env other (max-right (max inputs (expr_reach condition beyond)) (subs_reach subs beyond) n w) same in
      let c = condition_on-alike level n env other same condition (sub_denote subs db env) (sub_denote subs db other) (max-right inputs (expr_reach condition beyond) n own) e in
      λ i. join_means kind (c i) (e i).contributions (record { left = all_empty (shape first); right = all_empty (shape second); subs = (e i).blank })
      (width_of first) (width_of second) (lefts i) (rights i)
  denote-alike (ApplyOf kind first second) level n db env other w same =
      let here = query_reach first (suc level) in
      let inside = query_reach second (suc (suc level)) in
      let lefts = denote-alike first level n db env other (max-left here inside n w) same in
      λ i. apply_means kind (width_of second) (all_empty (shape second)) (lefts i)
      (λ u. denote-alike second (suc level) n db (u ∷ env) (u ∷ other) (max-right here inside n w) (one_further level n u env other same) i)
  denote-alike (UnionOf all first second) level n db env other w same =
      let lefts = denote-alike first level n db env other (max-left (query_reach first (suc level)) (query_reach second (suc level)) n w) same in
      let rights = denote-alike second level n db env other (max-right (query_reach first (suc level)) (query_reach second (suc level)) n w) same in
      λ i. union_means all (all_empty (shape first)) (all_empty (shape second)) (lefts i) (rights i)
  denote-alike (IntersectOf all first second) level n db env other w same =
      let lefts = denote-alike first level n db env other (max-left (query_reach first (suc level)) (query_reach second (suc level)) n w) same in
      let rights = denote-alike second level n db env other (max-right (query_reach first (suc level)) (query_reach second (suc level)) n w) same in
      λ i. intersect_means all (lefts i) (rights i)
  denote-alike (ExceptOf all first second) level n db env other w same =
      let lefts = denote-alike first level n db env other (max-left (query_reach first (suc level)) (query_reach second (suc level)) n w) same in
      let rights = denote-alike second level n db env other (max-right (query_reach first (suc level)) (query_reach second (suc level)) n w) same in
      λ i. except_means all (all_empty (shape second)) (lefts i) (rights i)
  denote-alike (DistinctOf input) level n db env other w same = ap distinct_means (denote-alike input level n db env other w same)
  denote-alike (AggregateOf input groups aggregates) level n db env other w same =
      let rows = denote-alike input level n db env other (max-left (query_reach input (suc level)) (aggregates_reach aggregates (suc level)) n w) same in
      let arguments = arguments-alike level n env other same aggregates (max-right (query_reach input (suc level)) (aggregates_reach aggregates (suc level)) n w) in
      λ i. aggregate_means groups (map (λ (aggregate : Aggr). aggregate.function) aggregates) (λ u. arguments u i) (all_empty (shape input)) (rows i)
  denote-alike (LimitOf input keys count) level n db env other w same = ap (limit_means keys count) (denote-alike input level n db env other w same)
  denote-alike (ProvOf input) level n db env other w same = ap provenance_means (denote-alike input level n db env other w same)

  sub_denote-alike : {m : _} (subs : Row_of-Sublink m) (level n : ℕ) (db : Database) (env other : List Row) → subs_reach subs (suc level) ≤ n → Alike level n env other →
      sub_denote subs db env ≡ sub_denote subs db other
  sub_denote-alike end_of-Sublink level n db env other w same = refl
  sub_denote-alike (more_of-Sublink kind tested query subs) level n db env other w same =
      let here = option_reach tested (suc level) in
      let inside = query_reach query (suc (suc level)) in
      let own = max-left (max here inside) (subs_reach subs (suc level)) n w in
      let operand = option-alike level n env other same tested (max-left here inside n own) in
      let rest = sub_denote-alike subs level n db env other (max-right (max here inside) (subs_reach subs (suc level)) n w) same in
      λ i. with_sub kind (operand i)
      (λ u. denote-alike query (suc level) n db (u ∷ env) (u ∷ other) (max-right here inside n own) (one_further level n u env other same) i)
      (all_empty (shape query)) (rest i)

-- ---- as the laws say it

row-alike : (n : ℕ) (row other : Row) (env : List Row) → take n row ≡ take n other → Alike 0 n (row ∷ env) (other ∷ env)
row-alike n row other env e zero place h =
    sym (get_or-take n row place Null h) ∙ ap (λ front. get_or front place Null) e ∙ get_or-take n other place Null h
row-alike n row other env e (suc own) place h = refl

rows-alike : (n : ℕ) (front : List Row) (row other : Row) (env : List Row) → take n row ≡ take n other → Alike (length front) n (front ++ row ∷ env) (front ++ other ∷ env)
rows-alike n [] row other env e = row-alike n row other env e
rows-alike n (u ∷ front) row other env e = one_further (length front) n u (front ++ row ∷ env) (front ++ other ∷ env) (rows-alike n front row other env e)

pub meaning-alike : (q : Query) (db : Database) (front : List Row) (row other : Row) (env : List Row) (n : ℕ) →
    query_reach q (suc (length front)) ≤ n → take n row ≡ take n other → meaning q db (front ++ row ∷ env) ≡ meaning q db (front ++ other ∷ env)
meaning-alike q db front row other env n within e =
    ap (λ m. m.rows) (denote-alike q (length front) n db (front ++ row ∷ env) (front ++ other ∷ env) within (rows-alike n front row other env e))
