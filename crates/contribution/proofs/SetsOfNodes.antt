-- Nodes whose rows and faults rest on the sets of their inputs' rows alone: how often a row stands there doesn't count.
use Rattle.std.proofs.Common.{◌≡◌, ℕ, inl, inr, Bool, true, false, cond, not, List, [], ◌∷◌, ◌++◌, filter, IsTrue, refl, sym, ap, ◌∙◌, subst, subst₂}
use Rattle.std.specs.List.{list_any}
use Rattle.std.specs.Cmp.{both_ways}
use Rattle.perm_values.specs.declared.value.Value.{Value}
use Rattle.bag_algebra.proofs.Members.{IsIn, in-filter, from-filter, one_of, or-first, in-member, member-in}
use Rattle.bag_algebra.specs.Bags.{Row, Bag, member, once, union_of, intersect_of, except_of, nulls}
use Rattle.bag_algebra.specs.built.Openings.{meaning-Filter, meaning-Project, meaning-Join, meaning-Apply, meaning-Union, meaning-Intersect, meaning-Except, meaning-Distinct}
use Rattle.bag_algebra.specs.Children.{subs_denote}
use Rattle.bag_algebra.specs.Kinds.{width_of}
use Rattle.bag_algebra.specs.Meaning.{Database, meaning, condition_on, items_on}
use Rattle.bag_algebra.specs.Means.{kept, keeps_left, keeps_right, is_met, unmatched_left, unmatched_right, joined_rows, under}
use Rattle.bag_algebra.specs.Outcome.{Outcome, Good, Bad, and_then, mapped, both_then, gather, each}
use Rattle.bag_algebra.specs.Rewriting.{SameSet}
use Rattle.bag_algebra.specs.declared.expr.Expr.{Expr}
use Rattle.bag_algebra.specs.declared.expr.Item.{Item}
use Rattle.bag_algebra.specs.declared.query.JoinKind.{JoinKind}
use Rattle.bag_algebra.specs.declared.query.Query.{Query}
use Rattle.bag_algebra.specs.declared.query.Query.TheVariants.{Filter, Project, Join, Apply, Union, Intersect, Except, Distinct}
use Rattle.bag_algebra.specs.declared.query.Sublink.{Sublink}
use Rattle.contribution.proofs.BagMembers.{from-once, in-once, from-intersect}
use Rattle.contribution.proofs.SetMembers.{in-intersect}
use Rattle.contribution.proofs.SetsOfRows.{SetAgree, set_good, set_bad, set_agree-refl, same_set-agrees, set_agree-same_set, gather-matched, gather-set, each-set, and_then-set, mapped-set, both_then-set, both-set}
use Rattle.contribution.proofs.SharedMembers.{Within, Shared, shared-refl, shared-map, shared-append, shared-where}
use Rattle.std.proofs.lemmas.Bool.{or_right}

-- ---- lists with the same members

pub any_in : {X : Type 0} (test : X → Bool) (x : X) (xs : List X) → IsIn x xs → test x ≡ true → list_any test xs ≡ true
any_in test x [] h e = absurd h
any_in test x (y ∷ ys) (inl same) e = or-first (test y) (list_any test ys) (ap test same ∙ e)
any_in test x (y ∷ ys) (inr h) e = or_right (test y) (list_any test ys) (any_in test x ys h e)

pub from_any : {X : Type 0} (test : X → Bool) (xs : List X) → list_any test xs ≡ true → (x : X) × IsIn x xs × (test x ≡ true)
from_any test [] e = cc
from_any test (y ∷ ys) e = elim (one_of (test y) (list_any test ys) e) [
  | inl here ↦ (y, inl refl, here)
  | inr there ↦ let found = from_any test ys there in (found.0, inr found.1, found.2)
]

any_within : {X : Type 0} (test : X → Bool) {us vs : List X} → Within us vs → list_any test us ≡ true → list_any test vs ≡ true
any_within test {us} {vs} s e = let found = from_any test us e in any_in test found.0 vs (s.within found.0 found.1) found.2

pub any-shared : {X : Type 0} (test : X → Bool) {us vs : List X} → Shared us vs → list_any test us ≡ list_any test vs
any-shared test {us} {vs} s = both_ways (list_any test us) (list_any test vs) (any_within test s.there) (any_within test s.back)

pub shared-filter : {X : Type 0} (test : X → Bool) {us vs : List X} → Shared us vs → Shared (filter test us) (filter test vs)
shared-filter test {us} {vs} s = record {
  there = record { within = λ x h. let found = from-filter test x us h in in-filter test x vs (s.there.within x found.0) found.1 };
  back = record { within = λ x h. let found = from-filter test x vs h in in-filter test x us (s.back.within x found.0) found.1 };
}

pub shared-once : (us : Bag) → Shared (once us) us
shared-once us = record { there = record { within = λ t h. from-once t us h }; back = record { within = λ t h. in-once t us h } }

once_shared : {us vs : Bag} → Shared us vs → Shared (once us) (once vs)
once_shared {us} {vs} s = record {
  there = record { within = λ t h. in-once t vs (s.there.within t (from-once t us h)) };
  back = record { within = λ t h. in-once t us (s.back.within t (from-once t vs h)) };
}

shared-either_once : (all : Bool) {us vs : Bag} → Shared us vs → Shared (cond all us (once us)) (cond all vs (once vs))
shared-either_once true s = s
shared-either_once false s = once_shared s

member_shared : (t : Row) {us vs : Bag} → Shared us vs → member t us ≡ member t vs
member_shared t {us} {vs} s =
    both_ways (member t us) (member t vs) (λ e. in-member t vs (s.there.within t (member-in t us e))) (λ e. in-member t us (s.back.within t (member-in t vs e)))

shared-members : (test : Bool → Bool) {us vs xs ys : Bag} → Shared us vs → Shared xs ys →
    Shared (filter (λ u. test (member u xs)) us) (filter (λ u. test (member u ys)) vs)
shared-members test {us} {vs} {xs} {ys} s r =
    let e : (λ (u : Row). test (member u xs)) ≡ (λ (u : Row). test (member u ys)) = λ i u. test (member_shared u r i) in
    subst (λ f. Shared (filter (λ u. test (member u xs)) us) (filter f vs)) e (shared-filter _ s)

-- a row is in INTERSECT, with ALL too, where it is on both sides
intersect_shared : (all : Bool) {us vs xs ys : Bag} → Shared us vs → Shared xs ys → Shared (intersect_of all us xs) (intersect_of all vs ys)
intersect_shared all s r = record { there = intersect_within all s.there r.there; back = intersect_within all s.back r.back } where
  intersect_within : (all : Bool) {us vs xs ys : Bag} → Within us vs → Within xs ys → Within (intersect_of all us xs) (intersect_of all vs ys)
  intersect_within all {us} {vs} {xs} {ys} s r = record {
    within = λ t h. let found = from-intersect all t us xs h in in-intersect all t vs ys (s.within t found.0) (r.within t found.1);
  }

-- ---- joins

module _ (condition : Row → Outcome Value) {us vs xs ys : Bag} (s : Shared us vs) (r : Shared xs ys) where
  unmatched_left-shared : Shared (unmatched_left condition us xs) (unmatched_left condition vs ys)
  unmatched_left-shared =
      let e : (λ (u : Row). not (list_any (λ v. is_met (condition (u ++ v))) xs)) ≡ (λ (u : Row). not (list_any (λ v. is_met (condition (u ++ v))) ys)) =
      λ i u. not (any-shared (λ v. is_met (condition (u ++ v))) r i) in
      subst (λ test. Shared (unmatched_left condition us xs) (filter test vs)) e (shared-filter _ s)

  unmatched_right-shared : Shared (unmatched_right condition us xs) (unmatched_right condition vs ys)
  unmatched_right-shared =
      let e : (λ (v : Row). not (list_any (λ u. is_met (condition (u ++ v))) us)) ≡ (λ (v : Row). not (list_any (λ u. is_met (condition (u ++ v))) vs)) =
      λ i v. not (any-shared (λ u. is_met (condition (u ++ v))) s i) in
      subst (λ test. Shared (unmatched_right condition us xs) (filter test ys)) e (shared-filter _ r)

  pub joined_rows-set : (kind : JoinKind) (left_width right_width : ℕ) →
      SetAgree (joined_rows kind condition left_width right_width us xs) (joined_rows kind condition left_width right_width vs ys)
  joined_rows-set kind left_width right_width =
      mapped-set _ _
      (gather-set (λ u. gather (λ v. kept condition (u ++ v)) xs) (λ u. gather (λ v. kept condition (u ++ v)) ys) s
      (λ u. gather-set (λ v. kept condition (u ++ v)) (λ v. kept condition (u ++ v)) r (λ v. set_agree-refl (kept condition (u ++ v)))))
      (λ pairs others p.
      shared-append (shared-append p (shared-where (keeps_left kind) (keeps_left kind) refl (shared-map (λ u. u ++ nulls right_width) unmatched_left-shared)))
      (shared-where (keeps_right kind) (keeps_right kind) refl (shared-map (λ v. nulls left_width ++ v) unmatched_right-shared)))

-- ---- dependent joins

under_shared : (kind : JoinKind) (width : ℕ) (u : Row) (vs ws : Bag) → Shared vs ws → Shared (under kind width u vs) (under kind width u ws)
under_shared kind width u [] [] s = shared-refl (under kind width u [])
under_shared kind width u [] (w ∷ ws) s = absurd (s.back.within w (inl refl))
under_shared kind width u (v ∷ vs) [] s = absurd (s.there.within v (inl refl))
under_shared kind width u (v ∷ vs) (w ∷ ws) s = shared-map (λ x. u ++ x) s

-- right sides that are one set under each left row that is there
applied-set : (f g : Row → Outcome Bag) {o p : Outcome Bag} → SetAgree o p → ((us : Bag) (u : Row) → o ≡ Good us → IsIn u us → SetAgree (f u) (g u)) →
    SetAgree (and_then o (gather f)) (and_then p (gather g))
applied-set f g (set_good {us} {vs} s) h =
    gather-matched f g us vs (record {
      there = λ u i. (u, s.there.within u i, h us u refl i);
      back = λ u i. let here = s.back.within u i in (u, here, h us u refl here);
    })
applied-set f g (set_bad faults) h = set_bad faults

-- ---- queries

module _ (db : Database) (env : List Row) where
  -- a node over inputs that are one set
  module _ (input other : Query) (e : SameSet (meaning input db env) (meaning other db env)) where
    input_agrees : SetAgree (meaning input db env) (meaning other db env)
    input_agrees = same_set-agrees (meaning input db env) (meaning other db env) e

    pub filter-same_set : (condition : Expr) (subs : List Sublink) →
        SameSet (meaning (Filter input condition subs) db env) (meaning (Filter other condition subs) db env)
    filter-same_set condition subs =
        let test = condition_on condition env (subs_denote subs db env) in
        subst₂ SameSet (sym (meaning-Filter db env input condition subs)) (sym (meaning-Filter db env other condition subs))
        (set_agree-same_set (and_then-set (gather (kept test)) (gather (kept test)) input_agrees (λ us vs s. gather-set (kept test) (kept test) s (λ u. set_agree-refl (kept test u)))))

    pub project-same_set : (items : List Item) (subs : List Sublink) →
        SameSet (meaning (Project input items subs) db env) (meaning (Project other items subs) db env)
    project-same_set items subs =
        let made = items_on items env (subs_denote subs db env) in
        subst₂ SameSet (sym (meaning-Project db env input items subs)) (sym (meaning-Project db env other items subs))
        (set_agree-same_set (and_then-set (each made) (each made) input_agrees (λ us vs s. each-set made s)))

    pub distinct-same_set : SameSet (meaning (Distinct input) db env) (meaning (Distinct other) db env)
    distinct-same_set =
        subst₂ SameSet (sym (meaning-Distinct db env input)) (sym (meaning-Distinct db env other))
        (set_agree-same_set (mapped-set once once input_agrees (λ us vs s. once_shared s)))

  pub distinct-is_free : (q : Query) → SameSet (meaning (Distinct q) db env) (meaning q db env)
  distinct-is_free q = subst (λ o. SameSet o (meaning q db env)) (sym (meaning-Distinct db env q)) (set_agree-same_set (at (meaning q db env))) where
    at : (o : Outcome Bag) → SetAgree (mapped once o) o
    at (Good us) = set_good (shared-once us)
    at (Bad f) = set_bad f

  module _ (left right other_left other_right : Query) (e : SameSet (meaning left db env) (meaning other_left db env)) (f : SameSet (meaning right db env) (meaning other_right db env)) where
    left_agrees : SetAgree (meaning left db env) (meaning other_left db env)
    left_agrees = same_set-agrees (meaning left db env) (meaning other_left db env) e

    right_agrees : SetAgree (meaning right db env) (meaning other_right db env)
    right_agrees = same_set-agrees (meaning right db env) (meaning other_right db env) f

    pub join-same_set : (kind : JoinKind) (condition : Expr) (subs : List Sublink) → width_of left ≡ width_of other_left →
        width_of right ≡ width_of other_right →
        SameSet (meaning (Join kind left right condition subs) db env) (meaning (Join kind other_left other_right condition subs) db env)
    join-same_set kind condition subs l r =
        let test = condition_on condition env (subs_denote subs db env) in
        let joined : ℕ → ℕ → Outcome Bag = λ m n. both_then (meaning other_left db env) (meaning other_right db env) (joined_rows kind test m n) in
        subst₂ SameSet (sym (meaning-Join db env kind left right condition subs)) ((λ i. joined (l i) (r i)) ∙ sym (meaning-Join db env kind other_left other_right condition subs))
        (set_agree-same_set (both_then-set _ _ left_agrees right_agrees (λ us vs xs ys s t. joined_rows-set test s t kind (width_of left) (width_of right))))

    pub union-same_set : (all : Bool) → SameSet (meaning (Union all left right) db env) (meaning (Union all other_left other_right) db env)
    union-same_set all =
        subst₂ SameSet (sym (meaning-Union db env all left right)) (sym (meaning-Union db env all other_left other_right))
        (set_agree-same_set (both-set (union_of all) (union_of all) left_agrees right_agrees (λ us vs xs ys s t. shared-either_once all (shared-append s t))))

    pub intersect-same_set : (all : Bool) → SameSet (meaning (Intersect all left right) db env) (meaning (Intersect all other_left other_right) db env)
    intersect-same_set all =
        subst₂ SameSet (sym (meaning-Intersect db env all left right)) (sym (meaning-Intersect db env all other_left other_right))
        (set_agree-same_set (both-set (intersect_of all) (intersect_of all) left_agrees right_agrees (λ us vs xs ys s t. intersect_shared all s t)))

    pub except-same_set : SameSet (meaning (Except false left right) db env) (meaning (Except false other_left other_right) db env)
    except-same_set =
        subst₂ SameSet (sym (meaning-Except db env false left right)) (sym (meaning-Except db env false other_left other_right))
        (set_agree-same_set (both-set (except_of false) (except_of false) left_agrees right_agrees (λ us vs xs ys s t. once_shared (shared-members not s t))))

  pub apply-same_set : (left right other_left other_right : Query) → SameSet (meaning left db env) (meaning other_left db env) →
      ((us : Bag) (u : Row) → meaning left db env ≡ Good us → IsTrue (member u us) → SameSet (meaning right db (u ∷ env)) (meaning other_right db (u ∷ env))) →
      (kind : JoinKind) → width_of right ≡ width_of other_right →
      SameSet (meaning (Apply kind left right) db env) (meaning (Apply kind other_left other_right) db env)
  apply-same_set left right other_left other_right e f kind w =
      let made : ℕ → Query → Row → Outcome Bag = λ width q u. mapped (under kind width u) (meaning q db (u ∷ env)) in
      subst₂ SameSet (sym (meaning-Apply db env kind left right))
      ((λ i. and_then (meaning other_left db env) (gather (made (w i) other_right))) ∙ sym (meaning-Apply db env kind other_left other_right))
      (set_agree-same_set (applied-set (made (width_of right) right) (made (width_of right) other_right) (same_set-agrees (meaning left db env) (meaning other_left db env) e)
      (λ us u good here. mapped-set (under kind (width_of right) u) (under kind (width_of right) u)
      (same_set-agrees (meaning right db (u ∷ env)) (meaning other_right db (u ∷ env)) (f us u good (in-member u us here)))
      (λ xs ys s. under_shared kind (width_of right) u xs ys s))))
