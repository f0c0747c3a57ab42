-- What is bad meets a fault: no evaluation gives an empty set.
use Rattle.std.proofs.Common.{◌≡◌, ℕ, suc, Bool, true, false, cond, Option, Some, None, List, [], ◌∷◌, ◌++◌, map, Result, Ok, Err, refl, subst}
use Rattle.null_logic.specs.Arithmetic.{calculate, negate, fits_64}
use Rattle.null_logic.specs.Logic.{is_true, truth_of}
use Rattle.null_logic.specs.declared.arith.Arith.{Arith}
use Rattle.null_logic.specs.declared.operator.Operator.{Operator}
use Rattle.null_logic.specs.declared.operator.Operator.TheVariants as op
use Rattle.null_logic.specs.declared.run_fault.RunFault.{RunFault}
use Rattle.null_logic.specs.declared.run_fault.RunFault.TheVariants.{OutOfRange, SeveralRows}
use Rattle.perm_values.specs.Rows.{value_at}
use Rattle.perm_values.specs.declared.value.Value.{Value}
use Rattle.perm_values.specs.declared.value.Value.TheVariants.{Null, Integer, Text, Boolean}
use Rattle.bag_algebra.specs.Bags.{Row, Bag}
use Rattle.bag_algebra.specs.Expressions.{value, values, step_values, arm_value, Step, operate, with_one, with_two, with_three, arith_values, negate_value, chain, chosen_arm}
use Rattle.bag_algebra.specs.Kinds.{width_of}
use Rattle.bag_algebra.specs.Meaning.{Database, denote, sub_denote, meaning, optional_value, condition_on, items_on, arguments_on}
use Rattle.bag_algebra.specs.Means.{SubMeans, Witness, with_lists, kept, met_pairs, joined_rows, under, present, total, sum_of, aggregated, aggregates_of, class_row, class_keys, class_of, good_row, grouped, sub_value}
use Rattle.bag_algebra.specs.Outcome.{Outcome, Good, Bad, Faults, only, has, and_then, mapped, both, both_then, gather, each, of_result}
use Rattle.bag_algebra.specs.built.Patterns.{OpOf, ChainOf, CaseOf, IsNullOf, IsTruthOf, SameOf, BaseOf, FilterOf, ProjectOf, JoinOf, ApplyOf, UnionOf, IntersectOf, ExceptOf, DistinctOf, AggregateOf, LimitOf, ProvOf}
use Rattle.bag_algebra.specs.declared.expr.Expr.{Expr, Row_of-Expr, Row_of-Arm, Row_of-ChainStep, more_of-Expr, end_of-Expr, more_of-Arm, end_of-Arm, more_of-ChainStep, end_of-ChainStep}
use Rattle.bag_algebra.specs.declared.expr.Expr.TheVariants.{Col, Lit, Sub}
use Rattle.bag_algebra.specs.declared.expr.Item.{Item}
use Rattle.bag_algebra.specs.declared.query.AggFn.{AggFn}
use Rattle.bag_algebra.specs.declared.query.AggFn.TheVariants.{CountRows, Count, CountDistinct, Sum, Min, Max}
use Rattle.bag_algebra.specs.declared.query.Aggr.{Aggr}
use Rattle.bag_algebra.specs.declared.query.JoinKind.{JoinKind}
use Rattle.bag_algebra.specs.declared.query.Query.{Query, Row_of-Sublink, more_of-Sublink, end_of-Sublink}
use Rattle.bag_algebra.specs.declared.query.Query.TheVariants.{Table, Single}
use Rattle.bag_algebra.specs.declared.query.SubKind.{SubKind}
use Rattle.bag_algebra.specs.declared.query.SubKind.TheVariants.{Exists, Any, All, Scalar}
use Rattle.bag_algebra.proofs.Outcomes.{union-first, has_only}

-- the set has a kind
abbrev pub Causes : Faults → Type 0
Causes faults = (fault : RunFault) × (has faults fault ≡ true)

abbrev pub Caused : {X : Type 0} → Outcome X → Type 0
Caused (Good x) = Unit {0}
Caused (Bad faults) = Causes faults

-- ---- by the words of outcomes

caused-of_result : {X : Type 0} (r : Result X RunFault) → Caused (of_result r)
caused-of_result (Ok x) = tt
caused-of_result (Err fault) = (fault, has_only fault)

caused-and_then : {X Y : Type 0} (o : Outcome X) (next : X → Outcome Y) → Caused o → ((x : X) → Caused (next x)) → Caused (and_then o next)
caused-and_then (Good x) next c d = d x
caused-and_then (Bad faults) next c d = c

caused-mapped : {X Y : Type 0} (f : X → Y) (o : Outcome X) → Caused o → Caused (mapped f o)
caused-mapped f (Good x) c = tt
caused-mapped f (Bad faults) c = c

pub caused-both : {X Y Z : Type 0} (f : X → Y → Z) (a : Outcome X) (b : Outcome Y) → Caused a → Caused b → Caused (both f a b)
caused-both f (Good x) (Good y) c d = tt
caused-both f (Good x) (Bad h) c d = d
caused-both f (Bad g) (Good y) c d = c
caused-both f (Bad g) (Bad h) c d = (c.0, union-first g h c.0 c.1)

caused-both_then : {X Y Z : Type 0} (a : Outcome X) (b : Outcome Y) (next : X → Y → Outcome Z) → Caused a → Caused b → ((x : X) (y : Y) → Caused (next x y)) →
    Caused (both_then a b next)
caused-both_then (Good x) (Good y) next c d n = n x y
caused-both_then (Good x) (Bad h) next c d n = d
caused-both_then (Bad g) (Good y) next c d n = c
caused-both_then (Bad g) (Bad h) next c d n = (c.0, union-first g h c.0 c.1)

caused-gather : {X Y : Type 0} (f : X → Outcome (List Y)) (xs : List X) → ((x : X) → Caused (f x)) → Caused (gather f xs)
caused-gather f [] c = tt
caused-gather f (x ∷ xs) c = caused-both (λ y ys. y ++ ys) (f x) (gather f xs) (c x) (caused-gather f xs c)

pub caused-each : {X Y : Type 0} (f : X → Outcome Y) (xs : List X) → ((x : X) → Caused (f x)) → Caused (each f xs)
caused-each f [] c = tt
caused-each f (x ∷ xs) c = caused-both (λ y ys. y ∷ ys) (f x) (each f xs) (c x) (caused-each f xs c)

caused-cond : {X : Type 0} (b : Bool) (o p : Outcome X) → Caused o → Caused p → Caused (cond b o p)
caused-cond true o p c d = c
caused-cond false o p c d = d

-- ---- operators

caused-with_one : (vs : List Value) (f : Value → Outcome Value) → ((a : Value) → Caused (f a)) → Caused (with_one vs f)
caused-with_one [] f c = tt
caused-with_one (a ∷ rest) f c = c a

caused-with_two : (vs : List Value) (f : Value → Value → Outcome Value) → ((a b : Value) → Caused (f a b)) → Caused (with_two vs f)
caused-with_two [] f c = tt
caused-with_two (a ∷ []) f c = tt
caused-with_two (a ∷ b ∷ rest) f c = c a b

caused-with_three : (vs : List Value) (f : Value → Value → Value → Outcome Value) → ((a b d : Value) → Caused (f a b d)) → Caused (with_three vs f)
caused-with_three [] f c = tt
caused-with_three (a ∷ []) f c = tt
caused-with_three (a ∷ b ∷ []) f c = tt
caused-with_three (a ∷ b ∷ d ∷ rest) f c = c a b d

caused-arith : (arith : Arith) (a b : Value) → Caused (arith_values arith a b)
caused-arith arith (Integer a) (Integer b) = caused-mapped Integer (of_result (calculate arith a b)) (caused-of_result (calculate arith a b))
caused-arith arith (Integer a) Null = tt
caused-arith arith (Integer a) (Text b) = tt
caused-arith arith (Integer a) (Boolean b) = tt
caused-arith arith Null b = tt
caused-arith arith (Text a) b = tt
caused-arith arith (Boolean a) b = tt

caused-negate : (a : Value) → Caused (negate_value a)
caused-negate (Integer a) = caused-mapped Integer (of_result (negate a)) (caused-of_result (negate a))
caused-negate Null = tt
caused-negate (Text a) = tt
caused-negate (Boolean a) = tt

caused-operate : (o : Operator) (vs : List Value) → Caused (operate o vs)
caused-operate op.And vs = tt
caused-operate op.Or vs = tt
caused-operate op.Not vs = caused-with_one vs _ (λ a. tt)
caused-operate op.Negate vs = caused-with_one vs negate_value caused-negate
caused-operate (op.Compare c) vs = caused-with_two vs _ (λ a b. tt)
caused-operate (op.Arith c) vs = caused-with_two vs (arith_values c) (caused-arith c)
caused-operate op.Like vs = caused-with_two vs _ (λ a b. tt)
caused-operate op.Between vs = caused-with_three vs _ (λ a b d. tt)
caused-operate op.InList [] = tt
caused-operate op.InList (a ∷ vs) = tt
caused-operate op.Coalesce vs = tt
caused-operate op.NullIf vs = caused-with_two vs _ (λ a b. tt)

caused-chain : (v : Value) (steps : List Step) → Caused (chain v steps)
caused-chain v [] = tt
caused-chain v (step ∷ steps) =
    caused-and_then (arith_values step.operation v step.operand) (λ w. chain w steps) (caused-arith step.operation v step.operand) (λ w. caused-chain w steps)

caused-arm : (condition arm after : Outcome Value) → Caused condition → Caused arm → Caused after → Caused (chosen_arm condition arm after)
caused-arm condition arm after c d e =
    caused-and_then condition (λ v. cond (is_true (truth_of v)) arm after) c (λ v. caused-cond (is_true (truth_of v)) arm after d e)

-- ---- expressions

module _ (u : Row) (env : List Row) (answers : List Value) where
  mutual
    pub caused-value : (e : Expr) → Caused (value e u env answers)
    caused-value (Col level place) = tt
    caused-value (Lit v kind) = tt
    caused-value (OpOf o _ parts) = caused-and_then (values parts u env answers) (operate o) (caused-values parts) (caused-operate o)
    caused-value (ChainOf first _ steps) =
        caused-both_then (value first u env answers) (step_values steps u env answers) chain (caused-value first) (caused-steps steps) caused-chain
    caused-value (CaseOf _ arms otherwise) = caused-arms arms (value otherwise u env answers) (caused-value otherwise)
    caused-value (Sub number) = tt
    caused-value (IsNullOf part) = caused-mapped _ (value part u env answers) (caused-value part)
    caused-value (IsTruthOf truth part) = caused-mapped _ (value part u env answers) (caused-value part)
    caused-value (SameOf first second) = caused-both _ (value first u env answers) (value second u env answers) (caused-value first) (caused-value second)

    caused-values : {m : _} (parts : Row_of-Expr m) → Caused (values parts u env answers)
    caused-values end_of-Expr = tt
    caused-values (more_of-Expr part parts) = caused-both _ (value part u env answers) (values parts u env answers) (caused-value part) (caused-values parts)

    caused-steps : {m : _} (steps : Row_of-ChainStep m) → Caused (step_values steps u env answers)
    caused-steps end_of-ChainStep = tt
    caused-steps (more_of-ChainStep o part steps) = caused-both _ (value part u env answers) (step_values steps u env answers) (caused-value part) (caused-steps steps)

    caused-arms : {m : _} (arms : Row_of-Arm m) (otherwise : Outcome Value) → Caused otherwise → Caused (arm_value arms u env answers otherwise)
    caused-arms end_of-Arm otherwise c = c
    caused-arms (more_of-Arm condition arm arms) otherwise c =
        caused-arm (value condition u env answers) (value arm u env answers) (arm_value arms u env answers otherwise)
        (caused-value condition) (caused-value arm) (caused-arms arms otherwise c)

caused-optional : (part : Option Expr) (env : List Row) (u : Row) → Caused (optional_value part env u)
caused-optional None env u = tt
caused-optional (Some part) env u = caused-value u env [] part

-- ---- sublinks and aggregates

caused-sub : (kind : SubKind) (x : Value) (bag : Bag) → Caused (sub_value kind x bag)
caused-sub Exists x bag = tt
caused-sub (Any c) x bag = tt
caused-sub (All c) x bag = tt
caused-sub Scalar x [] = tt
caused-sub Scalar x (row ∷ []) = tt
caused-sub Scalar x (row ∷ other ∷ rows) = (SeveralRows, refl)

caused-sum : (vs : List Value) → Caused (sum_of vs)
caused-sum [] = tt
caused-sum (v ∷ vs) = caused-cond (fits_64 (total (v ∷ vs))) (Good (Integer (total (v ∷ vs)))) (Bad (only OutOfRange)) tt (OutOfRange, refl)

caused-aggregated : (function : AggFn) (vs : List Value) → Caused (aggregated function vs)
caused-aggregated CountRows vs = tt
caused-aggregated Count vs = tt
caused-aggregated CountDistinct vs = tt
caused-aggregated Sum vs = caused-sum (present vs)
caused-aggregated Min vs = tt
caused-aggregated Max vs = tt

caused-aggregates : (functions : List AggFn) (place : ℕ) (arguments : List Row) → Caused (aggregates_of functions place arguments)
caused-aggregates [] place arguments = tt
caused-aggregates (function ∷ functions) place arguments =
    let column = map (λ a. value_at a place) arguments in
    caused-both (λ v vs. v ∷ vs) (aggregated function column) (aggregates_of functions (suc place) arguments)
    (caused-aggregated function column) (caused-aggregates functions (suc place) arguments)

caused-grouped : (groups : List ℕ) (functions : List AggFn) (arguments : Row → Outcome Row) → ((u : Row) → Caused (arguments u)) → (us : Bag) →
    Caused (grouped groups functions arguments us)
caused-grouped groups functions arguments c us =
    caused-and_then (each arguments us) (λ _. each (class_row groups functions arguments us) (class_keys groups us)) (caused-each arguments us c)
    (λ _. caused-each (class_row groups functions arguments us) (class_keys groups us)
    (λ key. caused-mapped _ (aggregates_of functions 0 (map (λ u. good_row (arguments u)) (class_of groups key us)))
    (caused-aggregates functions 0 (map (λ u. good_row (arguments u)) (class_of groups key us)))))

-- ---- queries

caused-rows : (o : Outcome Bag) (lists : Row → List Witness) → Caused o → Caused (with_lists o lists).rows
caused-rows (Good bag) lists c = tt
caused-rows (Bad faults) lists c = c

caused-kept : (condition : Row → Outcome Value) → ((u : Row) → Caused (condition u)) → (u : Row) → Caused (kept condition u)
caused-kept condition c u = caused-mapped _ (condition u) (c u)

caused-joined : (kind : JoinKind) (condition : Row → Outcome Value) (left_width right_width : ℕ) → ((u : Row) → Caused (condition u)) → (us vs : Bag) →
    Caused (joined_rows kind condition left_width right_width us vs)
caused-joined kind condition left_width right_width c us vs =
    caused-mapped _ (met_pairs condition us vs)
    (caused-gather (λ u. gather (λ v. kept condition (u ++ v)) vs) us (λ u. caused-gather (λ v. kept condition (u ++ v)) vs (λ v. caused-kept condition c (u ++ v))))

-- the sublinks of a node
abbrev SubsCaused : SubMeans → Type 0
SubsCaused s = (u : Row) → Caused (s.answers u)

caused-condition : (condition : Expr) (env : List Row) (s : SubMeans) → SubsCaused s → (u : Row) → Caused (condition_on condition env s u)
caused-condition condition env s c u = caused-and_then (s.answers u) (value condition u env) (c u) (λ answers. caused-value u env answers condition)

caused-items : (items : List Item) (env : List Row) (s : SubMeans) → SubsCaused s → (u : Row) → Caused (items_on items env s u)
caused-items items env s c u =
    caused-and_then (s.answers u) (λ answers. each (λ (item : Item). value item.expr u env answers) items) (c u)
    (λ answers. caused-each (λ (item : Item). value item.expr u env answers) items (λ item. caused-value u env answers item.expr))

mutual
  pub caused-denote : (q : Query) (db : Database) (env : List Row) → Caused (denote q db env).rows
  caused-denote (Table id kinds) db env = tt
  caused-denote Single db env = tt
  caused-denote (BaseOf input places label) db env = caused-rows (denote input db env).rows _ (caused-denote input db env)
  caused-denote (FilterOf input condition _ subs) db env =
      caused-rows (and_then (denote input db env).rows (gather (kept (condition_on condition env (sub_denote subs db env))))) _
      (caused-and_then (denote input db env).rows (gather (kept (condition_on condition env (sub_denote subs db env)))) (caused-denote input db env)
      (λ us. caused-gather (kept (condition_on condition env (sub_denote subs db env))) us
      (caused-kept (condition_on condition env (sub_denote subs db env)) (caused-condition condition env (sub_denote subs db env) (caused-subs subs db env)))))
  caused-denote (ProjectOf input items _ subs) db env =
      caused-rows (and_then (denote input db env).rows (each (items_on items env (sub_denote subs db env)))) _
      (caused-and_then (denote input db env).rows (each (items_on items env (sub_denote subs db env))) (caused-denote input db env)
      (λ us. caused-each (items_on items env (sub_denote subs db env)) us (caused-items items env (sub_denote subs db env) (caused-subs subs db env))))
  caused-denote (JoinOf kind left right condition _ subs) db env =
      caused-rows (both_then (denote left db env).rows (denote right db env).rows _) _
      (caused-both_then (denote left db env).rows (denote right db env).rows _ (caused-denote left db env) (caused-denote right db env)
      (caused-joined kind (condition_on condition env (sub_denote subs db env)) _ _ (caused-condition condition env (sub_denote subs db env) (caused-subs subs db env))))
  caused-denote (ApplyOf kind left right) db env =
      let beside_left : Row → Outcome Bag = λ u. mapped (under kind (width_of right) u) (denote right db (u ∷ env)).rows in
      caused-rows (and_then (denote left db env).rows (gather beside_left)) _
      (caused-and_then (denote left db env).rows (gather beside_left) (caused-denote left db env)
      (λ us. caused-gather beside_left us (λ u. caused-mapped (under kind (width_of right) u) (denote right db (u ∷ env)).rows (caused-denote right db (u ∷ env)))))
  caused-denote (UnionOf all left right) db env =
      caused-rows (both _ (denote left db env).rows (denote right db env).rows) _
      (caused-both _ (denote left db env).rows (denote right db env).rows (caused-denote left db env) (caused-denote right db env))
  caused-denote (IntersectOf all left right) db env =
      caused-rows (both _ (denote left db env).rows (denote right db env).rows) _
      (caused-both _ (denote left db env).rows (denote right db env).rows (caused-denote left db env) (caused-denote right db env))
  caused-denote (ExceptOf all left right) db env =
      caused-rows (both _ (denote left db env).rows (denote right db env).rows) _
      (caused-both _ (denote left db env).rows (denote right db env).rows (caused-denote left db env) (caused-denote right db env))
  caused-denote (DistinctOf input) db env = caused-rows (mapped _ (denote input db env).rows) _ (caused-mapped _ (denote input db env).rows (caused-denote input db env))
  caused-denote (AggregateOf input groups aggregates) db env =
      caused-rows (and_then (denote input db env).rows _) _
      (caused-and_then (denote input db env).rows _ (caused-denote input db env)
      (caused-grouped groups (map (λ (aggregate : Aggr). aggregate.function) aggregates) (arguments_on aggregates env)
      (λ u. caused-each (λ (aggregate : Aggr). optional_value aggregate.argument env u) aggregates (λ aggregate. caused-optional aggregate.argument env u))))
  caused-denote (LimitOf input keys count) db env = caused-rows (mapped _ (denote input db env).rows) _ (caused-mapped _ (denote input db env).rows (caused-denote input db env))
  caused-denote (ProvOf input) db env = caused-rows (mapped _ (denote input db env).rows) _ (caused-mapped _ (denote input db env).rows (caused-denote input db env))

  caused-subs : {m : _} (subs : Row_of-Sublink m) (db : Database) (env : List Row) → SubsCaused (sub_denote subs db env)
  caused-subs end_of-Sublink db env u = tt
  caused-subs (more_of-Sublink kind tested query subs) db env u =
      caused-both _ _ ((sub_denote subs db env).answers u)
      (caused-both_then (optional_value tested env u) (denote query db (u ∷ env)).rows (sub_value kind) (caused-optional tested env u) (caused-denote query db (u ∷ env)) (caused-sub kind))
      (caused-subs subs db env u)

pub value_causes : (e : Expr) (u : Row) (env : List Row) (answers : List Value) (faults : Faults) → value e u env answers ≡ Bad faults → Causes faults
value_causes e u env answers faults bad = subst Caused bad (caused-value u env answers e)

pub query_causes : (q : Query) (db : Database) (env : List Row) (faults : Faults) → meaning q db env ≡ Bad faults → Causes faults
query_causes q db env faults bad = subst Caused bad (caused-denote q db env)
