-- What made outcomes are made of, and the faults of a union.
use Rattle.std.proofs.Common.{◌≡◌, suc, true, List, [], ◌∷◌, ◌++◌, length, append-nil, refl, sym, ap, ◌∙◌, true≢false}
use Rattle.std.proofs.lemmas.Bool.{or_left, or_right}
use Rattle.null_logic.specs.declared.run_fault.RunFault.{RunFault}
use Rattle.null_logic.specs.declared.run_fault.RunFault.TheVariants.{DivideByZero, OutOfRange, SeveralRows}
use Rattle.perm_values.specs.declared.value.Value.{Value}
use Rattle.bag_algebra.specs.Bags.{Row, Bag}
use Rattle.bag_algebra.specs.Children.{subs_denote, sublink_value}
use Rattle.bag_algebra.specs.Meaning.{Database}
use Rattle.bag_algebra.specs.Means.{good_value}
use Rattle.bag_algebra.specs.Outcome.{Outcome, Good, Bad, Faults, union, only, has, is_good, and_then, mapped, both, both_then, each}
use Rattle.bag_algebra.specs.Rewriting.{SameRows}
use Rattle.bag_algebra.specs.declared.query.Sublink.{Sublink}
use Rattle.bag_algebra.proofs.BagLaws.{same_bag-refl}

pub same_good : {X : Type 0} (x y : X) → Good x ≡ Good y → x ≡ y
same_good x y e = cc

pub bad-not_good : {X : Type 0} (faults : Faults) (x : X) → Bad faults ≡ Good x → ⊥
bad-not_good faults x e = cc

-- a good answer of two parts has them both good
pub both-is : {X Y Z : Type 0} (f : X → Y → Z) (a : Outcome X) (b : Outcome Y) (z : Z) → both f a b ≡ Good z →
    (x : X) × (y : Y) × (a ≡ Good x) × (b ≡ Good y) × (f x y ≡ z)
both-is f (Good x) (Good y) z e = (x, y, refl, refl, same_good (f x y) z e)
both-is f (Good x) (Bad h) z e = absurd (bad-not_good h z e)
both-is f (Bad g) (Good y) z e = absurd (bad-not_good g z e)
both-is f (Bad g) (Bad h) z e = absurd (bad-not_good (union g h) z e)

pub both_then-parts : {X Y Z : Type 0} (a : Outcome X) (b : Outcome Y) (next : X → Y → Outcome Z) (z : Z) → both_then a b next ≡ Good z →
    (x : X) × (y : Y) × (a ≡ Good x) × (b ≡ Good y)
both_then-parts (Good x) (Good y) next z e = (x, y, refl, refl)
both_then-parts (Good x) (Bad h) next z e = absurd (bad-not_good h z e)
both_then-parts (Bad g) (Good y) next z e = absurd (bad-not_good g z e)
both_then-parts (Bad g) (Bad h) next z e = absurd (bad-not_good (union g h) z e)

pub mapped-is : {X Y : Type 0} (f : X → Y) (a : Outcome X) (y : Y) → mapped f a ≡ Good y → (x : X) × (a ≡ Good x) × (f x ≡ y)
mapped-is f (Good x) y e = (x, refl, same_good (f x) y e)
mapped-is f (Bad g) y e = absurd (bad-not_good g y e)

-- what comes to something good has what goes before good
pub then-is : {X Y : Type 0} (o : Outcome X) (next : X → Outcome Y) (y : Y) → and_then o next ≡ Good y → (x : X) × (o ≡ Good x) × (next x ≡ Good y)
then-is (Good x) next y e = (x, refl, e)
then-is (Bad faults) next y e = absurd (bad-not_good faults y e)

pub first-of_good : {X Y : Type 0} (o : Outcome X) (next : X → Outcome Y) (y : Y) → and_then o next ≡ Good y → (x : X) × (o ≡ Good x)
first-of_good (Good x) next y e = (x, refl)
first-of_good (Bad faults) next y e = absurd (bad-not_good faults y e)

pub good-is : {X : Type 0} (o : Outcome X) → is_good o ≡ true → (v : X) × (o ≡ Good v)
good-is (Good v) e = (v, refl)
good-is (Bad faults) e = absurd (true≢false (sym e))

pub good_value-is : (o : Outcome Value) → is_good o ≡ true → o ≡ Good (good_value o)
good_value-is (Good v) e = refl
good_value-is (Bad faults) e = absurd (true≢false (sym e))

pub each-long : {X Y : Type 0} (f : X → Outcome Y) (xs : List X) (ys : List Y) → each f xs ≡ Good ys → length ys ≡ length xs
each-long f [] ys e = ap length (sym (same_good [] ys e))
each-long f (x ∷ xs) ys e =
    let parts = both-is (λ v vs. v ∷ vs) (f x) (each f xs) ys e in
    ap length (sym parts.4) ∙ ap suc (each-long f xs parts.1 parts.3)

pub same_rows-itself : (o : Outcome Bag) → SameRows o o
same_rows-itself (Good us) = same_bag-refl us
same_rows-itself (Bad faults) = refl

pub nothing-behind : (o : Outcome Bag) → o ≡ mapped (λ rows. rows ++ [] ++ []) o
nothing-behind (Good us) = ap Good (sym (append-nil (us ++ []) ∙ append-nil us))
nothing-behind (Bad faults) = refl

-- the values of a node's sublinks are evaluated one by one
pub answers-each : (subs : List Sublink) (db : Database) (env : List Row) (u : Row) → (subs_denote subs db env).answers u ≡ each (sublink_value db env u) subs
answers-each [] db env u = refl
answers-each (sub ∷ subs) db env u = ap (both (λ v vs. v ∷ vs) (sublink_value db env u sub)) (answers-each subs db env u)

pub union-first : (f g : Faults) (fault : RunFault) → has f fault ≡ true → has (union f g) fault ≡ true
union-first f g DivideByZero e = or_left f.divides g.divides e
union-first f g OutOfRange e = or_left f.range g.range e
union-first f g SeveralRows e = or_left f.several g.several e

pub union-second : (f g : Faults) (fault : RunFault) → has g fault ≡ true → has (union f g) fault ≡ true
union-second f g DivideByZero e = or_right f.divides g.divides e
union-second f g OutOfRange e = or_right f.range g.range e
union-second f g SeveralRows e = or_right f.several g.several e

pub has_only : (fault : RunFault) → has (only fault) fault ≡ true
has_only DivideByZero = refl
has_only OutOfRange = refl
has_only SeveralRows = refl
