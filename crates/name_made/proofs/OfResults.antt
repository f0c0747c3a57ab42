-- Results of which something is made where all are there.
use Rattle.std.specs.Prelude.{◌≡◌, Result, Ok, Err, IfOk, IsOkAnd}
use Rattle.std.proofs.Common.{sym, subst}

-- ---- what holds of one that is there

pub from-one : {A E : Type 0} (P R : A → Type 0) (S : Type 0) (first : Result A E) → IfOk first P → IsOkAnd first R → ((a : A) → P a → R a → S) → S
from-one P R S (Ok a) p r f = f a p r
from-one P R S (Err e) p r f = absurd r

pub of-one : {A C E : Type 0} (P : A → Type 0) (R : A → C → Type 0) (S : C → Type 0) (first : Result A E) (result : Result C E)
    → IfOk first P → IfOk result (λ c. IsOkAnd first (λ a. R a c)) → ((a : A) (c : C) → P a → R a c → S c) → IfOk result S
of-one P R S first (Ok c) p r f = from-one P (λ a. R a c) (S c) first p r (λ a. f a c)
of-one P R S first (Err e) p r f = tt

pub of-one-is : {A C E : Type 0} (P : A → Type 0) (make : A → C) (S : C → Type 0) (first : Result A E) (result : Result C E)
    → IfOk first P → IfOk result (λ c. IsOkAnd first (λ a. c ≡ make a)) → ((a : A) → P a → S (make a)) → IfOk result S
of-one-is P make S first result p r f = of-one P (λ a c. c ≡ make a) S first result p r (λ a c holds is. subst S (sym is) (f a holds))

-- ---- of two

pub of-both : {A B C E : Type 0} (P : A → Type 0) (Q : B → Type 0) (R : A → B → C → Type 0) (S : C → Type 0) (first : Result A E) (second : Result B E) (result : Result C E)
    → IfOk first P → IfOk second Q → IfOk result (λ c. IsOkAnd first (λ a. IsOkAnd second (λ b. R a b c)))
    → ((a : A) (b : B) (c : C) → P a → Q b → R a b c → S c) → IfOk result S
of-both P Q R S first second result p q r f =
    of-one P (λ a c. IsOkAnd second (λ b. R a b c)) S first result p r
    (λ a c holds both. from-one Q (λ b. R a b c) (S c) second q both (λ b. f a b c holds))

pub of-both-is : {A B C E : Type 0} (P : A → Type 0) (Q : B → Type 0) (make : A → B → C) (S : C → Type 0) (first : Result A E) (second : Result B E) (result : Result C E)
    → IfOk first P → IfOk second Q → IfOk result (λ c. IsOkAnd first (λ a. IsOkAnd second (λ b. c ≡ make a b)))
    → ((a : A) (b : B) → P a → Q b → S (make a b)) → IfOk result S
of-both-is P Q make S first second result p q r f =
    of-both P Q (λ a b c. c ≡ make a b) S first second result p q r (λ a b c holds holds_too is. subst S (sym is) (f a b holds holds_too))

-- ---- of three

pub of-three-is : {A B D C E : Type 0} (P : A → Type 0) (Q : B → Type 0) (O : D → Type 0) (make : A → B → D → C) (S : C → Type 0)
    (first : Result A E) (second : Result B E) (third : Result D E) (result : Result C E)
    → IfOk first P → IfOk second Q → IfOk third O → IfOk result (λ c. IsOkAnd first (λ a. IsOkAnd second (λ b. IsOkAnd third (λ d. c ≡ make a b d))))
    → ((a : A) (b : B) (d : D) → P a → Q b → O d → S (make a b d)) → IfOk result S
of-three-is P Q O make S first second third result p q o r f =
    of-both P Q (λ a b c. IsOkAnd third (λ d. c ≡ make a b d)) S first second result p q r
    (λ a b c holds holds_too all. from-one O (λ d. c ≡ make a b d) (S c) third o all (λ d last is. subst S (sym is) (f a b d holds holds_too last)))

-- ---- beside what is there

pub of-beside : {A B X E : Type 0} (left : X → A) (right : X → B) (P : B → Type 0) (S : X → Type 0) (first : A) (second : Result B E) (result : Result X E)
    → IfOk second P → IfOk result (λ x. left x ≡ first) → IfOk result (λ x. second ≡ Ok (right x)) → ((x : X) → left x ≡ first → P (right x) → S x) → IfOk result S
of-beside left right P S first second (Ok x) p kept was f = f x kept (subst (λ (r : Result _ _). IfOk r P) was p)
of-beside left right P S first second (Err e) p kept was f = tt

-- ---- what follows of those that are there

pub and-one : {A E : Type 0} (P Q : A → Type 0) (first : Result A E) → ((a : A) → P a → Q a) → IsOkAnd first P → IsOkAnd first Q
and-one P Q (Ok a) f p = f a p
and-one P Q (Err e) f p = p

pub and-both : {A B E : Type 0} (P Q : A → B → Type 0) (first : Result A E) (second : Result B E) → ((a : A) (b : B) → P a b → Q a b)
    → IsOkAnd first (λ a. IsOkAnd second (P a)) → IsOkAnd first (λ a. IsOkAnd second (Q a))
and-both P Q first second f p = and-one (λ a. IsOkAnd second (P a)) (λ a. IsOkAnd second (Q a)) first (λ a. and-one (P a) (Q a) second (f a)) p
