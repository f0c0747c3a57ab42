-- Sublinks that agree on a row have the same answers there, and a node looks at the rows of its input alone.
use Rattle.std.specs.List.{list_any}
use Rattle.std.proofs.Common.{◌≡◌, ℕ, Bool, true, cond, not, ◌||◌, map, filter, List, [], ◌∷◌, ◌++◌, refl, sym, ap, ◌∙◌, inl, inr}
use Rattle.perm_values.specs.declared.value.Value.{Value}
use Rattle.bag_algebra.proofs.BagLaws.{permuted-from_same_bag}
use Rattle.bag_algebra.proofs.Members.{IsIn, in-member}
use Rattle.bag_algebra.specs.Bags.{Row, Bag, member, nulls}
use Rattle.bag_algebra.specs.built.Openings.{meaning-Filter, meaning-Project, meaning-Join}
use Rattle.bag_algebra.specs.Children.{subs_denote}
use Rattle.bag_algebra.specs.Expressions.{value}
use Rattle.bag_algebra.specs.Kinds.{width_of}
use Rattle.bag_algebra.specs.Meaning.{Database, meaning, optional_value, condition_on, items_on}
use Rattle.bag_algebra.specs.Means.{kept, holds_of, is_met, keeps_left, keeps_right, unmatched_left, unmatched_right, met_pairs, sub_value, joined_rows}
use Rattle.bag_algebra.specs.Outcome.{Outcome, Good, Bad, and_then, mapped, both, both_then, gather, each}
use Rattle.bag_algebra.specs.Rewriting.{SameRows}
use Rattle.bag_algebra.specs.declared.expr.Expr.{Expr}
use Rattle.bag_algebra.specs.declared.expr.Item.{Item}
use Rattle.bag_algebra.specs.declared.query.JoinKind.{JoinKind}
use Rattle.bag_algebra.specs.declared.query.Query.{Query}
use Rattle.bag_algebra.specs.declared.query.Query.TheVariants.{Filter, Project, Join}
use Rattle.bag_algebra.specs.declared.query.SubKind.{SubKind}
use Rattle.bag_algebra.specs.declared.query.Sublink.{Sublink}
use Rattle.contribution.proofs.OrderOfQueries.{sub_value-permuted}
use Rattle.query_laws.proofs.SameExpressions.{optional-same}
use Rattle.query_laws.specs.Agreeing.{SubAgrees, SubsAgree}
use Rattle.query_laws.specs.Standing.{SubStands, SubsStand}

answer-same : (kind : SubKind) (x : Outcome Value) (o p : Outcome Bag) → SameRows o p → both_then x o (sub_value kind) ≡ both_then x p (sub_value kind)
answer-same kind (Good x) (Good us) (Good vs) s = sub_value-permuted kind x (permuted-from_same_bag us vs s)
answer-same kind (Good x) (Good us) (Bad g) s = absurd s
answer-same kind (Good x) (Bad f) (Good vs) s = absurd s
answer-same kind (Good x) (Bad f) (Bad g) s = ap (λ h. Bad h) s
answer-same kind (Bad h) (Good us) (Good vs) s = refl
answer-same kind (Bad h) (Good us) (Bad g) s = absurd s
answer-same kind (Bad h) (Bad f) (Good vs) s = absurd s
answer-same kind (Bad h) (Bad f) (Bad g) s = ap (λ k. both_then (Bad h) (Bad k) (sub_value kind)) s

module _ (db : Database) (env : List Row) (u : Row) where
  one-same : (sub other : Sublink) → SubAgrees db env u sub other →
      both_then (optional_value sub.tested env u) (meaning sub.query db (u ∷ env)) (sub_value sub.kind)
      ≡ both_then (optional_value other.tested env u) (meaning other.query db (u ∷ env)) (sub_value other.kind)
  one-same sub other a =
      answer-same sub.kind (optional_value sub.tested env u) (meaning sub.query db (u ∷ env)) (meaning other.query db (u ∷ env)) a.rows
      ∙ (λ i. both_then (optional-same sub.tested other.tested a.tested env u i) (meaning other.query db (u ∷ env)) (sub_value (a.kind i)))

  pub answers-same : (subs others : List Sublink) → SubsAgree db env u subs others →
      (subs_denote subs db env).answers u ≡ (subs_denote others db env).answers u
  answers-same [] [] a = refl
  answers-same [] (other ∷ others) a = absurd a
  answers-same (sub ∷ subs) [] a = absurd a
  answers-same (sub ∷ subs) (other ∷ others) a =
      λ i. both (λ v vs. v ∷ vs) (one-same sub other a.0 i) (answers-same subs others a.1 i)

-- ---- functions that agree on what is listed

pub gather-on : {X Y : Type 0} (f g : X → Outcome (List Y)) (xs : List X) → ((x : X) → IsIn x xs → f x ≡ g x) → gather f xs ≡ gather g xs
gather-on f g [] same = refl
gather-on f g (x ∷ xs) same = λ i. both (λ y ys. y ++ ys) (same x (inl refl) i) (gather-on f g xs (λ y within. same y (inr within)) i)

pub each-on : {X Y : Type 0} (f g : X → Outcome Y) (xs : List X) → ((x : X) → IsIn x xs → f x ≡ g x) → each f xs ≡ each g xs
each-on f g [] same = refl
each-on f g (x ∷ xs) same = λ i. both (λ y ys. y ∷ ys) (same x (inl refl) i) (each-on f g xs (λ y within. same y (inr within)) i)

on_good : {X Y : Type 0} (o : Outcome X) (f g : X → Outcome Y) → ((x : X) → o ≡ Good x → f x ≡ g x) → and_then o f ≡ and_then o g
on_good (Good x) f g same = same x refl
on_good (Bad faults) f g same = refl

-- ---- nodes over one input

module _ (db : Database) (env : List Row) (input : Query) (subs others : List Sublink)
    (agree : (us : Bag) (u : Row) → meaning input db env ≡ Good us → member u us ≡ true → SubsAgree db env u subs others) where
  pub filter-subs : (condition : Expr) → meaning (Filter input condition subs) db env ≡ meaning (Filter input condition others) db env
  filter-subs condition =
      meaning-Filter db env input condition subs
      ∙ on_good (meaning input db env) (gather (kept (condition_on condition env (subs_denote subs db env))))
      (gather (kept (condition_on condition env (subs_denote others db env))))
      (λ us good. gather-on (kept (condition_on condition env (subs_denote subs db env))) (kept (condition_on condition env (subs_denote others db env))) us
      (λ u within. ap (λ answers. kept (λ w. and_then answers (value condition w env)) u)
      (answers-same db env u subs others (agree us u good (in-member u us within)))))
      ∙ sym (meaning-Filter db env input condition others)

  pub project-subs : (items : List Item) → meaning (Project input items subs) db env ≡ meaning (Project input items others) db env
  project-subs items =
      meaning-Project db env input items subs
      ∙ on_good (meaning input db env) (each (items_on items env (subs_denote subs db env))) (each (items_on items env (subs_denote others db env)))
      (λ us good. each-on (items_on items env (subs_denote subs db env)) (items_on items env (subs_denote others db env)) us
      (λ u within. ap (λ answers. and_then answers (λ found. each (λ (item : Item). value item.expr u env found) items))
      (answers-same db env u subs others (agree us u good (in-member u us within)))))
      ∙ sym (meaning-Project db env input items others)

-- ---- joins

filter-on : {X : Type 0} (f g : X → Bool) (xs : List X) → ((x : X) → IsIn x xs → f x ≡ g x) → filter f xs ≡ filter g xs
filter-on f g [] same = refl
filter-on f g (x ∷ xs) same =
    let rest = filter-on f g xs (λ y within. same y (inr within)) in λ i. cond (same x (inl refl) i) (x ∷ rest i) (rest i)

any-on : {X : Type 0} (f g : X → Bool) (xs : List X) → ((x : X) → IsIn x xs → f x ≡ g x) → list_any f xs ≡ list_any g xs
any-on f g [] same = refl
any-on f g (x ∷ xs) same = λ i. same x (inl refl) i || any-on f g xs (λ y within. same y (inr within)) i

-- conditions that agree on the pairs
module _ (f g : Row → Outcome Value) (us vs : Bag) (same : (u v : Row) → IsIn u us → IsIn v vs → f (u ++ v) ≡ g (u ++ v)) where
  met_pairs-on : met_pairs f us vs ≡ met_pairs g us vs
  met_pairs-on =
      gather-on (λ u. gather (λ v. kept f (u ++ v)) vs) (λ u. gather (λ v. kept g (u ++ v)) vs) us
      (λ u here. gather-on (λ v. kept f (u ++ v)) (λ v. kept g (u ++ v)) vs
      (λ v there. ap (mapped (λ x. cond (holds_of x) ((u ++ v) ∷ []) [])) (same u v here there)))

  unmatched_left-on : unmatched_left f us vs ≡ unmatched_left g us vs
  unmatched_left-on =
      filter-on (λ u. not (list_any (λ v. is_met (f (u ++ v))) vs)) (λ u. not (list_any (λ v. is_met (g (u ++ v))) vs)) us
      (λ u here. ap not (any-on (λ v. is_met (f (u ++ v))) (λ v. is_met (g (u ++ v))) vs (λ v there. ap is_met (same u v here there))))

  unmatched_right-on : unmatched_right f us vs ≡ unmatched_right g us vs
  unmatched_right-on =
      filter-on (λ v. not (list_any (λ u. is_met (f (u ++ v))) us)) (λ v. not (list_any (λ u. is_met (g (u ++ v))) us)) vs
      (λ v there. ap not (any-on (λ u. is_met (f (u ++ v))) (λ u. is_met (g (u ++ v))) us (λ u here. ap is_met (same u v here there))))

  joined_rows-on : (kind : JoinKind) (left_width right_width : ℕ) → joined_rows kind f left_width right_width us vs ≡ joined_rows kind g left_width right_width us vs
  joined_rows-on kind left_width right_width =
      λ i. mapped (λ pairs. pairs
      ++ cond (keeps_left kind) (map (λ u. u ++ nulls right_width) (unmatched_left-on i)) []
      ++ cond (keeps_right kind) (map (λ v. nulls left_width ++ v) (unmatched_right-on i)) [])
      (met_pairs-on i)

on_both_good : {X Y Z : Type 0} (o : Outcome X) (p : Outcome Y) (f g : X → Y → Outcome Z) →
    ((x : X) (y : Y) → o ≡ Good x → p ≡ Good y → f x y ≡ g x y) → both_then o p f ≡ both_then o p g
on_both_good (Good x) (Good y) f g same = same x y refl refl
on_both_good (Good x) (Bad faults) f g same = refl
on_both_good (Bad faults) (Good y) f g same = refl
on_both_good (Bad faults) (Bad more) f g same = refl

pub join-subs : (db : Database) (env : List Row) (kind : JoinKind) (left right : Query) (condition : Expr) (subs others : List Sublink) →
    ((us vs : Bag) (u v : Row) → meaning left db env ≡ Good us → meaning right db env ≡ Good vs → member u us ≡ true → member v vs ≡ true →
    SubsAgree db env (u ++ v) subs others) →
    meaning (Join kind left right condition subs) db env ≡ meaning (Join kind left right condition others) db env
join-subs db env kind left right condition subs others agree =
    let f = condition_on condition env (subs_denote subs db env) in
    let g = condition_on condition env (subs_denote others db env) in
    meaning-Join db env kind left right condition subs
    ∙ on_both_good (meaning left db env) (meaning right db env)
    (joined_rows kind f (width_of left) (width_of right)) (joined_rows kind g (width_of left) (width_of right))
    (λ us vs of_left of_right. joined_rows-on f g us vs
    (λ u v here there. ap (λ answers. and_then answers (value condition (u ++ v) env))
    (answers-same db env (u ++ v) subs others (agree us vs u v of_left of_right (in-member u us here) (in-member v vs there))))
    kind (width_of left) (width_of right))
    ∙ sym (meaning-Join db env kind left right condition others)

-- what stands for sublinks, and for one more, stands for all
pub stand-more : (subs others : List Sublink) (sub other : Sublink) → SubsStand subs others → SubStands sub other →
    SubsStand (subs ++ sub ∷ []) (others ++ other ∷ [])
stand-more [] [] sub other s t = (t, tt)
stand-more [] (another ∷ others) sub other s t = absurd s
stand-more (first ∷ subs) [] sub other s t = absurd s
stand-more (first ∷ subs) (another ∷ others) sub other s t = (s.0, stand-more subs others sub other s.1 t)
