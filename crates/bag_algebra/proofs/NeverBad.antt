-- A query that holds nothing that may fault is good on every database and under all outer rows.
use Rattle.std.proofs.Common.{◌≡◌, ℕ, suc, Bool, true, false, cond, not, ◌&&◌, List, [], ◌∷◌, ◌++◌, map, Option, Some, None, refl, sym, true≢false}
use Rattle.null_logic.specs.declared.operator.Operator.{Operator}
use Rattle.null_logic.specs.declared.operator.Operator.TheVariants as op
use Rattle.perm_values.specs.declared.value.Value.{Value}
use Rattle.bag_algebra.specs.Bags.{Row, Bag}
use Rattle.bag_algebra.specs.Children.{subs_denote}
use Rattle.bag_algebra.specs.Expressions.{value, values, arm_value, operate, with_one, with_two, with_three}
use Rattle.bag_algebra.specs.FaultFree.{may_fault, faultless, parts_faultless, arms_faultless, option_faultless, items_faultless, is_sum, aggregates_faultless, is_scalar, fault_free, subs_fault_free}
use Rattle.bag_algebra.specs.Meaning.{Database, denote, meaning, sub_denote, optional_value, condition_on, items_on, arguments_on}
use Rattle.bag_algebra.specs.Kinds.{width_of}
use Rattle.bag_algebra.specs.Means.{Witness, with_lists, kept, met_pairs, joined_rows, under, aggregated, aggregates_of, sub_value}
use Rattle.bag_algebra.specs.Outcome.{Outcome, Good, Bad, is_good, and_then, mapped, both, both_then, gather, each}
use Rattle.bag_algebra.specs.built.FaultFree.{all_fault_free}
use Rattle.bag_algebra.specs.built.Patterns.{OpOf, ChainOf, CaseOf, IsNullOf, IsTruthOf, SameOf, BaseOf, FilterOf, ProjectOf, JoinOf, ApplyOf, UnionOf, IntersectOf, ExceptOf, DistinctOf, AggregateOf, LimitOf, ProvOf}
use Rattle.bag_algebra.specs.declared.expr.Expr.{Expr, Row_of-Expr, Row_of-Arm, more_of-Expr, end_of-Expr, more_of-Arm, end_of-Arm}
use Rattle.bag_algebra.specs.declared.expr.Expr.TheVariants.{Col, Lit, Sub}
use Rattle.bag_algebra.specs.declared.expr.Item.{Item}
use Rattle.bag_algebra.specs.declared.query.AggFn.{AggFn}
use Rattle.bag_algebra.specs.declared.query.AggFn.TheVariants.{CountRows, Count, CountDistinct, Sum, Min, Max}
use Rattle.bag_algebra.specs.declared.query.Aggr.{Aggr}
use Rattle.bag_algebra.specs.declared.query.JoinKind.{JoinKind}
use Rattle.bag_algebra.specs.declared.query.Query.{Query, Row_of-Sublink, more_of-Sublink, end_of-Sublink}
use Rattle.bag_algebra.specs.declared.query.Query.TheVariants.{Table, Single}
use Rattle.bag_algebra.specs.declared.query.SubKind.{SubKind}
use Rattle.bag_algebra.specs.declared.query.SubKind.TheVariants as sub
use Rattle.bag_algebra.specs.declared.query.Sublink.{Sublink}
use Rattle.bag_algebra.proofs.Truths.{left-true, right-true}

-- ---- outcomes

pub good-and_then : {X Y : Type 0} (a : Outcome X) (next : X → Outcome Y) → is_good a ≡ true → ((x : X) → is_good (next x) ≡ true) → is_good (and_then a next) ≡ true
good-and_then (Good x) next h more = more x
good-and_then (Bad f) next h more = h

pub good-mapped : {X Y : Type 0} (f : X → Y) (a : Outcome X) → is_good a ≡ true → is_good (mapped f a) ≡ true
good-mapped f (Good x) h = refl
good-mapped f (Bad g) h = h

pub good-both : {X Y Z : Type 0} (f : X → Y → Z) (a : Outcome X) (b : Outcome Y) → is_good a ≡ true → is_good b ≡ true → is_good (both f a b) ≡ true
good-both f (Good x) (Good y) h k = refl
good-both f (Good x) (Bad g) h k = k
good-both f (Bad g) (Good y) h k = h
good-both f (Bad g) (Bad g') h k = h

pub good-both_then : {X Y Z : Type 0} (a : Outcome X) (b : Outcome Y) (next : X → Y → Outcome Z) → is_good a ≡ true → is_good b ≡ true →
    ((x : X) (y : Y) → is_good (next x y) ≡ true) → is_good (both_then a b next) ≡ true
good-both_then (Good x) (Good y) next h k more = more x y
good-both_then (Good x) (Bad g) next h k more = k
good-both_then (Bad g) (Good y) next h k more = h
good-both_then (Bad g) (Bad g') next h k more = h

good-gather : {X Y : Type 0} (f : X → Outcome (List Y)) → ((x : X) → is_good (f x) ≡ true) → (xs : List X) → is_good (gather f xs) ≡ true
good-gather f all [] = refl
good-gather f all (x ∷ xs) = good-both _ (f x) (gather f xs) (all x) (good-gather f all xs)

good-each : {X Y : Type 0} (f : X → Outcome Y) → ((x : X) → is_good (f x) ≡ true) → (xs : List X) → is_good (each f xs) ≡ true
good-each f all [] = refl
good-each f all (x ∷ xs) = good-both _ (f x) (each f xs) (all x) (good-each f all xs)

good-cond : {X : Type 0} (b : Bool) (a c : Outcome X) → is_good a ≡ true → is_good c ≡ true → is_good (cond b a c) ≡ true
good-cond true a c h k = h
good-cond false a c h k = k

good-rows : (rows : Outcome Bag) (lists : Row → List Witness) → is_good rows ≡ true → is_good (with_lists rows lists).rows ≡ true
good-rows (Good bag) lists h = refl
good-rows (Bad f) lists h = h

-- ---- operators

good-one : (f : Value → Outcome Value) → ((a : Value) → is_good (f a) ≡ true) → (vs : List Value) → is_good (with_one vs f) ≡ true
good-one f all [] = refl
good-one f all (a ∷ vs) = all a

good-two : (f : Value → Value → Outcome Value) → ((a b : Value) → is_good (f a b) ≡ true) → (vs : List Value) → is_good (with_two vs f) ≡ true
good-two f all [] = refl
good-two f all (a ∷ []) = refl
good-two f all (a ∷ b ∷ vs) = all a b

good-three : (f : Value → Value → Value → Outcome Value) → ((a b c : Value) → is_good (f a b c) ≡ true) → (vs : List Value) → is_good (with_three vs f) ≡ true
good-three f all [] = refl
good-three f all (a ∷ []) = refl
good-three f all (a ∷ b ∷ []) = refl
good-three f all (a ∷ b ∷ c ∷ vs) = all a b c

good-operate : (operator : Operator) (vs : List Value) → not (may_fault operator) ≡ true → is_good (operate operator vs) ≡ true
good-operate op.And vs w = refl
good-operate op.Or vs w = refl
good-operate op.Not vs w = good-one _ (λ a. refl) vs
good-operate op.Negate vs w = absurd (true≢false (sym w))
good-operate (op.Compare c) vs w = good-two _ (λ a b. refl) vs
good-operate (op.Arith c) vs w = absurd (true≢false (sym w))
good-operate op.Like vs w = good-two _ (λ a b. refl) vs
good-operate op.Between vs w = good-three _ (λ a b c. refl) vs
good-operate op.InList [] w = refl
good-operate op.InList (a ∷ vs) w = refl
good-operate op.Coalesce vs w = refl
good-operate op.NullIf vs w = good-two _ (λ a b. refl) vs

-- ---- expressions

mutual
  pub good-value : (e : Expr) → faultless e ≡ true → (u : Row) (env : List Row) (subs : List Value) → is_good (value e u env subs) ≡ true
  good-value (Col level place) w u env subs = refl
  good-value (Lit v kind) w u env subs = refl
  good-value (OpOf operator _ parts) w u env subs =
      good-and_then (values parts u env subs) (operate operator) (good-values parts (right-true (not (may_fault operator)) _ w) u env subs)
      (λ vs. good-operate operator vs (left-true _ _ w))
  good-value (ChainOf first _ steps) w u env subs = absurd (true≢false (sym w))
  good-value (CaseOf _ arms otherwise) w u env subs =
      good-arms arms (left-true _ _ w) u env subs (value otherwise u env subs) (good-value otherwise (right-true (arms_faultless arms) _ w) u env subs)
  good-value (Sub number) w u env subs = refl
  good-value (IsNullOf part) w u env subs = good-mapped _ (value part u env subs) (good-value part w u env subs)
  good-value (IsTruthOf truth part) w u env subs = good-mapped _ (value part u env subs) (good-value part w u env subs)
  good-value (SameOf first second) w u env subs =
      good-both _ (value first u env subs) (value second u env subs) (good-value first (left-true _ _ w) u env subs)
      (good-value second (right-true (faultless first) _ w) u env subs)

  good-values : {m : _} (parts : Row_of-Expr m) → parts_faultless parts ≡ true → (u : Row) (env : List Row) (subs : List Value) →
      is_good (values parts u env subs) ≡ true
  good-values end_of-Expr w u env subs = refl
  good-values (more_of-Expr part parts) w u env subs =
      good-both _ (value part u env subs) (values parts u env subs) (good-value part (left-true _ _ w) u env subs)
      (good-values parts (right-true (faultless part) _ w) u env subs)

  good-arms : {m : _} (arms : Row_of-Arm m) → arms_faultless arms ≡ true → (u : Row) (env : List Row) (subs : List Value) (otherwise : Outcome Value) →
      is_good otherwise ≡ true → is_good (arm_value arms u env subs otherwise) ≡ true
  good-arms end_of-Arm w u env subs otherwise h = h
  good-arms (more_of-Arm condition arm arms) w u env subs otherwise h =
      let own = left-true _ _ w in
      good-and_then (value condition u env subs) _ (good-value condition (left-true _ _ own) u env subs)
      (λ c. good-cond _ (value arm u env subs) (arm_value arms u env subs otherwise) (good-value arm (right-true (faultless condition) _ own) u env subs)
      (good-arms arms (right-true (faultless condition && faultless arm) _ w) u env subs otherwise h))

pub good-option : (part : Option Expr) → option_faultless part ≡ true → (env : List Row) (u : Row) → is_good (optional_value part env u) ≡ true
good-option None w env u = refl
good-option (Some part) w env u = good-value part w u env []

good-items : (items : List Item) → items_faultless items ≡ true → (u : Row) (env : List Row) (subs : List Value) →
    is_good (each (λ (item : Item). value item.expr u env subs) items) ≡ true
good-items [] w u env subs = refl
good-items (item ∷ items) w u env subs =
    good-both _ (value item.expr u env subs) (each (λ (i : Item). value i.expr u env subs) items) (good-value item.expr (left-true _ _ w) u env subs)
    (good-items items (right-true (faultless item.expr) _ w) u env subs)

-- ---- aggregates

good-arguments : (aggregates : List Aggr) → aggregates_faultless aggregates ≡ true → (env : List Row) (u : Row) → is_good (arguments_on aggregates env u) ≡ true
good-arguments [] w env u = refl
good-arguments (aggregate ∷ aggregates) w env u =
    let own = left-true (not (is_sum aggregate.function) && option_faultless aggregate.argument) _ w in
    good-both _ (optional_value aggregate.argument env u) (arguments_on aggregates env u)
    (good-option aggregate.argument (right-true (not (is_sum aggregate.function)) _ own) env u)
    (good-arguments aggregates (right-true (not (is_sum aggregate.function) && option_faultless aggregate.argument) _ w) env u)

good-aggregated : (function : AggFn) (vs : List Value) → not (is_sum function) ≡ true → is_good (aggregated function vs) ≡ true
good-aggregated CountRows vs w = refl
good-aggregated Count vs w = refl
good-aggregated CountDistinct vs w = refl
good-aggregated Sum vs w = absurd (true≢false (sym w))
good-aggregated Min vs w = refl
good-aggregated Max vs w = refl

good-aggregates : (aggregates : List Aggr) → aggregates_faultless aggregates ≡ true → (place : ℕ) (arguments : List Row) →
    is_good (aggregates_of (map (λ (aggregate : Aggr). aggregate.function) aggregates) place arguments) ≡ true
good-aggregates [] w place arguments = refl
good-aggregates (aggregate ∷ aggregates) w place arguments =
    good-both _ (aggregated aggregate.function _) (aggregates_of (map (λ (a : Aggr). a.function) aggregates) (suc place) arguments)
    (good-aggregated aggregate.function _ (left-true _ _ (left-true (not (is_sum aggregate.function) && option_faultless aggregate.argument) _ w)))
    (good-aggregates aggregates (right-true (not (is_sum aggregate.function) && option_faultless aggregate.argument) _ w) (suc place) arguments)

-- ---- joins and sublinks

good-joined : (kind : JoinKind) (condition : Row → Outcome Value) → ((u : Row) → is_good (condition u) ≡ true) → (left_width right_width : ℕ) (us vs : Bag) →
    is_good (joined_rows kind condition left_width right_width us vs) ≡ true
good-joined kind condition all left_width right_width us vs =
    good-mapped _ (met_pairs condition us vs)
    (good-gather _ (λ u. good-gather (λ v. kept condition (u ++ v)) (λ v. good-mapped _ (condition (u ++ v)) (all (u ++ v))) vs) us)

pub good-sub : (kind : SubKind) (x : Value) (bag : Bag) → not (is_scalar kind) ≡ true → is_good (sub_value kind x bag) ≡ true
good-sub sub.Exists x bag w = refl
good-sub (sub.Any c) x bag w = refl
good-sub (sub.All c) x bag w = refl
good-sub sub.Scalar x bag w = absurd (true≢false (sym w))

-- ---- queries

mutual
  pub good-query : (q : Query) → fault_free q ≡ true → (db : Database) (env : List Row) → is_good (denote q db env).rows ≡ true
  good-query (Table id kinds) w db env = refl
  good-query Single w db env = refl
  good-query (BaseOf input places label) w db env = good-rows (denote input db env).rows _ (good-query input w db env)
  good-query (FilterOf input condition _ subs) w db env =
      let own = left-true (fault_free input && faultless condition) _ w in
      good-rows (and_then (denote input db env).rows (gather (kept (condition_on condition env (sub_denote subs db env))))) _
      (good-and_then (denote input db env).rows _ (good-query input (left-true _ _ own) db env)
      (good-gather _ (λ u. good-mapped _ (condition_on condition env (sub_denote subs db env) u)
      (good-and_then ((sub_denote subs db env).answers u) (value condition u env) (good-subs subs (right-true (fault_free input && faultless condition) _ w) db env u)
      (good-value condition (right-true (fault_free input) _ own) u env)))))
  good-query (ProjectOf input items _ subs) w db env =
      let own = left-true (fault_free input && items_faultless items) _ w in
      good-rows (and_then (denote input db env).rows (each (items_on items env (sub_denote subs db env)))) _
      (good-and_then (denote input db env).rows _ (good-query input (left-true _ _ own) db env)
      (good-each _ (λ u. good-and_then ((sub_denote subs db env).answers u) _ (good-subs subs (right-true (fault_free input && items_faultless items) _ w) db env u)
      (good-items items (right-true (fault_free input) _ own) u env))))
  good-query (JoinOf kind left right condition _ subs) w db env =
      let own = left-true ((fault_free left && fault_free right) && faultless condition) _ w in
      let inputs = left-true (fault_free left && fault_free right) _ own in
      good-rows (both_then (denote left db env).rows (denote right db env).rows _) _
      (good-both_then (denote left db env).rows (denote right db env).rows _ (good-query left (left-true _ _ inputs) db env) (good-query right (right-true (fault_free left) _ inputs) db env)
      (good-joined kind (condition_on condition env (sub_denote subs db env))
      (λ u. good-and_then ((sub_denote subs db env).answers u) (value condition u env) (good-subs subs (right-true ((fault_free left && fault_free right) && faultless condition) _ w) db env u)
      (good-value condition (right-true (fault_free left && fault_free right) _ own) u env)) _ _))
  good-query (ApplyOf kind left right) w db env =
      good-rows (and_then (denote left db env).rows _) _
      (good-and_then (denote left db env).rows _ (good-query left (left-true _ _ w) db env)
      (good-gather _ (λ u. good-mapped (under kind (width_of right) u) (denote right db (u ∷ env)).rows (good-query right (right-true (fault_free left) _ w) db (u ∷ env)))))
  good-query (UnionOf all left right) w db env =
      good-rows (both _ (denote left db env).rows (denote right db env).rows) _
      (good-both _ (denote left db env).rows (denote right db env).rows (good-query left (left-true _ _ w) db env) (good-query right (right-true (fault_free left) _ w) db env))
  good-query (IntersectOf all left right) w db env =
      good-rows (both _ (denote left db env).rows (denote right db env).rows) _
      (good-both _ (denote left db env).rows (denote right db env).rows (good-query left (left-true _ _ w) db env) (good-query right (right-true (fault_free left) _ w) db env))
  good-query (ExceptOf all left right) w db env =
      good-rows (both _ (denote left db env).rows (denote right db env).rows) _
      (good-both _ (denote left db env).rows (denote right db env).rows (good-query left (left-true _ _ w) db env) (good-query right (right-true (fault_free left) _ w) db env))
  good-query (DistinctOf input) w db env =
      good-rows (mapped _ (denote input db env).rows) _ (good-mapped _ (denote input db env).rows (good-query input w db env))
  good-query (AggregateOf input groups aggregates) w db env =
      let own = right-true (fault_free input) _ w in
      good-rows (and_then (denote input db env).rows _) _
      (good-and_then (denote input db env).rows _ (good-query input (left-true _ _ w) db env)
      (λ us. good-and_then (each (arguments_on aggregates env) us) _ (good-each _ (good-arguments aggregates own env) us)
      (λ rows. good-each _ (λ key. good-mapped _ _ (good-aggregates aggregates own 0 _)) _)))
  good-query (LimitOf input keys count) w db env =
      good-rows (mapped _ (denote input db env).rows) _ (good-mapped _ (denote input db env).rows (good-query input w db env))
  good-query (ProvOf input) w db env =
      good-rows (mapped _ (denote input db env).rows) _ (good-mapped _ (denote input db env).rows (good-query input w db env))

  good-subs : {m : _} (subs : Row_of-Sublink m) → subs_fault_free subs ≡ true → (db : Database) (env : List Row) (u : Row) →
      is_good ((sub_denote subs db env).answers u) ≡ true
  good-subs end_of-Sublink w db env u = refl
  good-subs (more_of-Sublink kind tested query subs) w db env u =
      let own = left-true ((not (is_scalar kind) && option_faultless tested) && fault_free query) _ w in
      let before = left-true (not (is_scalar kind) && option_faultless tested) _ own in
      good-both _ (both_then (optional_value tested env u) (denote query db (u ∷ env)).rows (sub_value kind)) ((sub_denote subs db env).answers u)
      (good-both_then (optional_value tested env u) (denote query db (u ∷ env)).rows (sub_value kind)
      (good-option tested (right-true (not (is_scalar kind)) _ before) env u)
      (good-query query (right-true (not (is_scalar kind) && option_faultless tested) _ own) db (u ∷ env))
      (λ x bag. good-sub kind x bag (left-true _ _ before)))
      (good-subs subs (right-true ((not (is_scalar kind) && option_faultless tested) && fault_free query) _ w) db env u)

-- ---- sublinks as a list

pub good-answers : (subs : List Sublink) → all_fault_free subs ≡ true → (db : Database) (env : List Row) (u : Row) →
    is_good ((subs_denote subs db env).answers u) ≡ true
good-answers [] w db env u = refl
good-answers (s ∷ subs) w db env u =
    let own = left-true ((not (is_scalar s.kind) && option_faultless s.tested) && fault_free s.query) (all_fault_free subs) w in
    let form = left-true (not (is_scalar s.kind) && option_faultless s.tested) (fault_free s.query) own in
    good-both (λ v vs. v ∷ vs) (both_then (optional_value s.tested env u) (meaning s.query db (u ∷ env)) (sub_value s.kind)) ((subs_denote subs db env).answers u)
    (good-both_then (optional_value s.tested env u) (meaning s.query db (u ∷ env)) (sub_value s.kind)
    (good-option s.tested (right-true (not (is_scalar s.kind)) (option_faultless s.tested) form) env u)
    (good-query s.query (right-true (not (is_scalar s.kind) && option_faultless s.tested) (fault_free s.query) own) db (u ∷ env))
    (λ x bag. good-sub s.kind x bag (left-true (not (is_scalar s.kind)) (option_faultless s.tested) form)))
    (good-answers subs (right-true ((not (is_scalar s.kind) && option_faultless s.tested) && fault_free s.query) (all_fault_free subs) w) db env u)
