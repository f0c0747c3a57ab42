-- Outcomes of lists, item by item, and where a fault of a part is a fault of the whole.
use Rattle.std.proofs.Common.{◌≡◌, ℕ, suc, zero, ◌<◌, ◌||◌, List, [], ◌∷◌, ◌++◌, length, get_or, refl, sym, ap, subst, ◌∙◌, arith, append_assoc, append-nil, Result, Ok, Err, IsErrAnd, IfErr}
use Rattle.null_logic.specs.declared.run_fault.RunFault.{RunFault}
use Rattle.bag_algebra.specs.Outcome.{Outcome, Good, Bad, Faults, union, and_then, mapped, both, both_then, gather, each, of_result}
use Rattle.row_values.specs.Answers.{meets, Refuses, Gives}
use Rattle.row_values.specs.declared.error.ExecError.{ExecError}
use Rattle.row_values.specs.declared.error.ExecError.TheVariants.{Fault, NoMemory}
use Rattle.bag_algebra.proofs.Truths.{or_associates}
use Rattle.bag_algebra.proofs.Outcomes.{union-first, union-second, has_only}

union_associates : (f g h : Faults) → union f (union g h) ≡ union (union f g) h
union_associates f g h = λ i. record {
  divides = sym (or_associates f.divides g.divides h.divides) i;
  range = sym (or_associates f.range g.range h.range) i;
  several = sym (or_associates f.several g.several h.several) i;
}

pub along : {X : Type 0} (o p : Outcome X) (r : Result X ExecError) → o ≡ p → Gives p r → Gives o r
along o p r e h = subst (λ q. Gives q r) (sym e) h

-- an error that is handed on
pub passed : {X : Type 0} (o : Outcome X) (error : ExecError) (r : Result X ExecError) → IsErrAnd r (λ e. e ≡ error) → Refuses o error → Gives o r
passed o error (Ok x) h k = absurd h
passed o error (Err e) h k = subst (λ e. Refuses o e) (sym h) k

pub handed_on : {X Y : Type 0} (o : Outcome X) (error : ExecError) (r : Result Y ExecError) → IsErrAnd r (λ e. e ≡ error) → Refuses o error → IfErr r (Refuses o)
handed_on o error (Ok y) h k = tt
handed_on o error (Err e) h k = subst (λ e. Refuses o e) (sym h) k

-- ---- a part that refuses

pub both_first : {X Y Z : Type 0} (f : X → Y → Z) (a : Outcome X) (b : Outcome Y) (error : ExecError) → Refuses a error → Refuses (both f a b) error
both_first f a b NoMemory h = tt
both_first f (Good x) b (Fault k) h = absurd (cc h)
both_first f (Bad g) (Good y) (Fault k) h = h
both_first f (Bad g) (Bad g') (Fault k) h = union-first g g' k h

pub both_second : {X Y Z : Type 0} (f : X → Y → Z) (a : Outcome X) (b : Outcome Y) (error : ExecError) → Refuses b error → Refuses (both f a b) error
both_second f a b NoMemory h = tt
both_second f a (Good y) (Fault k) h = absurd (cc h)
both_second f (Good x) (Bad g') (Fault k) h = h
both_second f (Bad g) (Bad g') (Fault k) h = union-second g g' k h

pub both_then_first : {X Y Z : Type 0} (a : Outcome X) (b : Outcome Y) (next : X → Y → Outcome Z) (error : ExecError) → Refuses a error → Refuses (both_then a b next) error
both_then_first a b next NoMemory h = tt
both_then_first (Good x) b next (Fault k) h = absurd (cc h)
both_then_first (Bad g) (Good y) next (Fault k) h = h
both_then_first (Bad g) (Bad g') next (Fault k) h = union-first g g' k h

pub both_then_second : {X Y Z : Type 0} (a : Outcome X) (b : Outcome Y) (next : X → Y → Outcome Z) (error : ExecError) → Refuses b error → Refuses (both_then a b next) error
both_then_second a b next NoMemory h = tt
both_then_second a (Good y) next (Fault k) h = absurd (cc h)
both_then_second (Good x) (Bad g') next (Fault k) h = h
both_then_second (Bad g) (Bad g') next (Fault k) h = union-second g g' k h

pub and_then_first : {X Y : Type 0} (a : Outcome X) (next : X → Outcome Y) (error : ExecError) → Refuses a error → Refuses (and_then a next) error
and_then_first a next NoMemory h = tt
and_then_first (Good x) next (Fault k) h = absurd (cc h)
and_then_first (Bad g) next (Fault k) h = h

pub mapped_part : {X Y : Type 0} (f : X → Y) (a : Outcome X) (error : ExecError) → Refuses a error → Refuses (mapped f a) error
mapped_part f a NoMemory h = tt
mapped_part f (Good x) (Fault k) h = absurd (cc h)
mapped_part f (Bad g) (Fault k) h = h

pub one_fault : {X : Type 0} (a : Outcome X) (k : RunFault) → a ≡ of_result (Err k) → Refuses a (Fault k)
one_fault a k e = ap (λ o. meets o k) e ∙ has_only k

pub each_item : {X Y : Type 0} (f : X → Outcome Y) (xs : List X) (i : ℕ) (x : X) (error : ExecError) →
    i < length xs → x ≡ get_or xs i x → Refuses (f x) error → Refuses (each f xs) error
each_item f [] i x error in_range e h = absurd (omega arith)
each_item f (y ∷ xs) zero x error in_range e h = both_first _ (f y) (each f xs) error (rw e at h)
each_item f (y ∷ xs) (suc i) x error in_range e h = both_second _ (f y) (each f xs) error (each_item f xs i x error (omega arith) e h)

pub gather_item : {X Y : Type 0} (f : X → Outcome (List Y)) (xs : List X) (i : ℕ) (x : X) (error : ExecError) →
    i < length xs → x ≡ get_or xs i x → Refuses (f x) error → Refuses (gather f xs) error
gather_item f [] i x error in_range e h = absurd (omega arith)
gather_item f (y ∷ xs) zero x error in_range e h = both_first _ (f y) (gather f xs) error (rw e at h)
gather_item f (y ∷ xs) (suc i) x error in_range e h = both_second _ (f y) (gather f xs) error (gather_item f xs i x error (omega arith) e h)

-- ---- one more item

each_joins : {Y : Type 0} (a : Outcome Y) (b : Outcome (List Y)) (c : Outcome Y) →
    both (λ y ys. y ∷ ys) a (both (λ ys y. ys ++ y ∷ []) b c) ≡ both (λ ys y. ys ++ y ∷ []) (both (λ y ys. y ∷ ys) a b) c
each_joins (Good x) (Good y) (Good z) = refl
each_joins (Good x) (Good y) (Bad h) = refl
each_joins (Good x) (Bad g) (Good z) = refl
each_joins (Good x) (Bad g) (Bad h) = refl
each_joins (Bad f) (Good y) (Good z) = refl
each_joins (Bad f) (Good y) (Bad h) = refl
each_joins (Bad f) (Bad g) (Good z) = refl
each_joins (Bad f) (Bad g) (Bad h) = ap Bad (union_associates f g h)

each_alone : {Y : Type 0} (a : Outcome Y) → both (λ y ys. y ∷ ys) a (Good []) ≡ both (λ ys y. ys ++ y ∷ []) (Good []) a
each_alone (Good y) = refl
each_alone (Bad g) = refl

each_more : {X Y : Type 0} (f : X → Outcome Y) (xs : List X) (x : X) → each f (xs ++ x ∷ []) ≡ both (λ ys y. ys ++ y ∷ []) (each f xs) (f x)
each_more f [] x = each_alone (f x)
each_more f (y ∷ xs) x = ap (both (λ y ys. y ∷ ys) (f y)) (each_more f xs x) ∙ each_joins (f y) (each f xs) (f x)

-- where the items so far are good and one more is, they all are
pub each_good : {X Y : Type 0} (f : X → Outcome Y) (xs : List X) (x : X) (ys : List Y) (y : Y) →
    each f xs ≡ Good ys → f x ≡ Good y → each f (xs ++ x ∷ []) ≡ Good (ys ++ y ∷ [])
each_good f xs x ys y e e' = each_more f xs x ∙ (λ i. both (λ ys y. ys ++ y ∷ []) (e i) (e' i))

gather_joins : {Y : Type 0} (a b c : Outcome (List Y)) →
    both (λ ys zs. ys ++ zs) a (both (λ ys zs. ys ++ zs) b c) ≡ both (λ ys zs. ys ++ zs) (both (λ ys zs. ys ++ zs) a b) c
gather_joins (Good x) (Good y) (Good z) = ap Good (sym (append_assoc x y z))
gather_joins (Good x) (Good y) (Bad h) = refl
gather_joins (Good x) (Bad g) (Good z) = refl
gather_joins (Good x) (Bad g) (Bad h) = refl
gather_joins (Bad f) (Good y) (Good z) = refl
gather_joins (Bad f) (Good y) (Bad h) = refl
gather_joins (Bad f) (Bad g) (Good z) = refl
gather_joins (Bad f) (Bad g) (Bad h) = ap Bad (union_associates f g h)

gather_alone : {Y : Type 0} (a : Outcome (List Y)) → both (λ ys zs. ys ++ zs) a (Good []) ≡ both (λ ys zs. ys ++ zs) (Good []) a
gather_alone (Good y) = ap Good (append-nil y)
gather_alone (Bad g) = refl

gather_more : {X Y : Type 0} (f : X → Outcome (List Y)) (xs : List X) (x : X) → gather f (xs ++ x ∷ []) ≡ both (λ ys zs. ys ++ zs) (gather f xs) (f x)
gather_more f [] x = gather_alone (f x)
gather_more f (y ∷ xs) x = ap (both (λ ys zs. ys ++ zs) (f y)) (gather_more f xs x) ∙ gather_joins (f y) (gather f xs) (f x)

pub gather_good : {X Y : Type 0} (f : X → Outcome (List Y)) (xs : List X) (x : X) (ys zs : List Y) →
    gather f xs ≡ Good ys → f x ≡ Good zs → gather f (xs ++ x ∷ []) ≡ Good (ys ++ zs)
gather_good f xs x ys zs e e' = gather_more f xs x ∙ (λ i. both (λ ys zs. ys ++ zs) (e i) (e' i))

-- two good parts, and what comes after them
pub both_then_are : {X Y Z : Type 0} (a : Outcome X) (b : Outcome Y) (next : X → Y → Outcome Z) (x : X) (y : Y) → a ≡ Good x → b ≡ Good y → both_then a b next ≡ next x y
both_then_are a b next x y p q = λ i. both_then (p i) (q i) next

pub both_then_third : {X Y Z : Type 0} (a : Outcome X) (b : Outcome Y) (next : X → Y → Outcome Z) (x : X) (y : Y) (error : ExecError) → a ≡ Good x → b ≡ Good y →
    Refuses (next x y) error → Refuses (both_then a b next) error
both_then_third a b next x y error p q h = subst (λ o. Refuses o error) (sym (both_then_are a b next x y p q)) h
