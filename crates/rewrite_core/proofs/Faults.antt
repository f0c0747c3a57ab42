-- Outcomes that are bad alike: what looks at every item meets the faults of the items, however often each comes.
use Rattle.std.proofs.Common.{◌≡◌, cond, List, [], ◌∷◌, ◌++◌, inl, inr, refl, sym, ap, ◌∙◌, subst, subst₂}
use Rattle.std.specs.Prelude.{⊤}
use Rattle.perm_values.specs.declared.value.Value.{Value}
use Rattle.bag_algebra.proofs.Members.{IsIn}
use Rattle.bag_algebra.specs.Bags.{Row, Bag}
use Rattle.bag_algebra.specs.Means.{good_rows, holds_of, kept}
use Rattle.bag_algebra.specs.Outcome.{Faults, Outcome, Good, Bad, mapped, both, gather, each}
use Rattle.contribution.proofs.SetsOfRows.{SetAgree, set_agree-refl, set_bad, gather-matched}

-- both good, or both bad with one set of faults
abbrev pub SameFaults : {X Y : Type 0} → Outcome X → Outcome Y → Type 0
SameFaults (Good x) (Good y) = ⊤
SameFaults (Good x) (Bad g) = ⊥
SameFaults (Bad f) (Good y) = ⊥
SameFaults (Bad f) (Bad g) = f ≡ g

pub same_faults-mapped : {X Y Z : Type 0} (make : X → Y) (remake : X → Z) (o : Outcome X) → SameFaults (mapped make o) (mapped remake o)
same_faults-mapped make remake (Good x) = tt
same_faults-mapped make remake (Bad f) = refl

pub same_faults-made : {X Y : Type 0} (make : X → Y) (o : Outcome X) → SameFaults o (mapped make o)
same_faults-made make (Good x) = tt
same_faults-made make (Bad f) = refl

pub mapped-same_faults : {X Y Z W : Type 0} (make : X → Y) (remake : Z → W) (o : Outcome X) (s : Outcome Z) → SameFaults o s →
    SameFaults (mapped make o) (mapped remake s)
mapped-same_faults make remake (Good x) (Good z) same = tt
mapped-same_faults make remake (Good x) (Bad g) same = same
mapped-same_faults make remake (Bad f) (Good z) same = same
mapped-same_faults make remake (Bad f) (Bad g) same = same

pub same_faults-then : {X Y Z : Type 0} (make : Y → Z) (o : Outcome X) (s : Outcome Y) → SameFaults o s → SameFaults o (mapped make s)
same_faults-then make (Good x) (Good y) same = tt
same_faults-then make (Good x) (Bad g) same = same
same_faults-then make (Bad f) (Good y) same = same
same_faults-then make (Bad f) (Bad g) same = same

-- a condition that comes to the same on two rows is bad alike on both
pub kept-alike : (condition other : Row → Outcome Value) (u x : Row) → other x ≡ condition u → SameFaults (kept condition u) (kept other x)
kept-alike condition other u x same =
    subst (λ o. SameFaults (kept condition u) (mapped (λ v. cond (holds_of v) (x ∷ []) []) o)) (sym same)
    (same_faults-mapped (λ v. cond (holds_of v) (u ∷ []) []) (λ v. cond (holds_of v) (x ∷ []) []) (condition u))

-- ---- an outcome's faults, without what it gives

bare : {X : Type 0} → Outcome X → Outcome (List Row)
bare (Good x) = Good []
bare (Bad f) = Bad f

agree-bare : {X Y : Type 0} (o : Outcome X) (s : Outcome Y) → SameFaults o s → SetAgree (bare o) (bare s)
unfolding bare
agree-bare (Good x) (Good y) same = set_agree-refl (Good [])
agree-bare (Good x) (Bad g) same = absurd same
agree-bare (Bad f) (Good y) same = absurd same
agree-bare (Bad f) (Bad g) same = subst (λ h. SetAgree {X = Row} (Bad f) (Bad h)) same (set_bad f)

bare-agree : {X Y : Type 0} (o : Outcome X) (s : Outcome Y) → SetAgree (bare o) (bare s) → SameFaults o s
unfolding bare
bare-agree (Good x) (Good y) agree = tt
bare-agree (Good x) (Bad g) agree = elim agree [ ]
bare-agree (Bad f) (Good y) agree = elim agree [ ]
bare-agree (Bad f) (Bad g) agree = one_set agree where
  one_set : {f g : Faults} → SetAgree {X = Row} (Bad f) (Bad g) → f ≡ g
  one_set (set_bad f) = refl

bare-both : {X Y Z : Type 0} (make : X → Y → Z) (o : Outcome X) (s : Outcome Y) →
    bare (both make o s) ≡ both (λ us vs. us ++ vs) (bare o) (bare s)
unfolding bare
bare-both make (Good x) (Good y) = refl
bare-both make (Good x) (Bad g) = refl
bare-both make (Bad f) (Good y) = refl
bare-both make (Bad f) (Bad g) = refl

bare-gather : {X Y : Type 0} (f : X → Outcome (List Y)) (xs : List X) → bare (gather f xs) ≡ gather (λ x. bare (f x)) xs
unfolding bare
bare-gather f [] = refl
bare-gather f (x ∷ xs) = bare-both (λ ys zs. ys ++ zs) (f x) (gather f xs) ∙ ap (both (λ us vs. us ++ vs) (bare (f x))) (bare-gather f xs)

bare-each : {X Y : Type 0} (f : X → Outcome Y) (xs : List X) → bare (each f xs) ≡ gather (λ x. bare (f x)) xs
unfolding bare
bare-each f [] = refl
bare-each f (x ∷ xs) = bare-both (λ y ys. y ∷ ys) (f x) (each f xs) ∙ ap (both (λ us vs. us ++ vs) (bare (f x))) (bare-each f xs)

-- ---- items that are related to one another

-- each item of the one list has one of the other that is bad alike, and the other way round
pub record BadAlike {X Y Z W : Type 0} (f : X → Outcome Z) (g : Y → Outcome W) (xs : List X) (ys : List Y) : Type 0 where
  pub there : (x : X) → IsIn x xs → (y : Y) × IsIn y ys × SameFaults (f x) (g y)
  pub back : (y : Y) → IsIn y ys → (x : X) × IsIn x xs × SameFaults (f x) (g y)

bare-matched : {X Y Z W : Type 0} (f : X → Outcome Z) (g : Y → Outcome W) (xs : List X) (ys : List Y) → BadAlike f g xs ys →
    SetAgree (gather (λ x. bare (f x)) xs) (gather (λ y. bare (g y)) ys)
bare-matched f g xs ys alike = gather-matched (λ x. bare (f x)) (λ y. bare (g y)) xs ys (record {
  there = λ x i. let found = alike.there x i in (found.0, found.1, agree-bare (f x) (g found.0) found.2);
  back = λ y i. let found = alike.back y i in (found.0, found.1, agree-bare (f found.0) (g y) found.2);
})

pub gather-bad_alike : {X Y Z W : Type 0} (f : X → Outcome (List Z)) (g : Y → Outcome (List W)) (xs : List X) (ys : List Y) → BadAlike f g xs ys →
    SameFaults (gather f xs) (gather g ys)
gather-bad_alike f g xs ys alike =
    bare-agree (gather f xs) (gather g ys) (subst₂ SetAgree (sym (bare-gather f xs)) (sym (bare-gather g ys)) (bare-matched f g xs ys alike))

pub each-bad_alike : {X Y Z W : Type 0} (f : X → Outcome Z) (g : Y → Outcome W) (xs : List X) (ys : List Y) → BadAlike f g xs ys →
    SameFaults (each f xs) (each g ys)
each-bad_alike f g xs ys alike =
    bare-agree (each f xs) (each g ys) (subst₂ SetAgree (sym (bare-each f xs)) (sym (bare-each g ys)) (bare-matched f g xs ys alike))

-- ---- what items give

module _ {X : Type 0} (f : X → Outcome Row) where
  in-made : (t : Row) (x : X) (rest : Outcome Bag) (all : Bag) → both (λ u us. u ∷ us) (f x) rest ≡ Good all → f x ≡ Good t → IsIn t all
  in-made t x (Good us) all e g = subst (IsIn t) (ap good_rows (ap (λ o. both (λ u us. u ∷ us) o (Good us)) (sym g) ∙ e)) (inl refl)
  in-made t x (Bad h) all e g = absurd (cc (ap (λ o. both (λ u us. u ∷ us) o (Bad h)) (sym g) ∙ e))

  in-later : (t : Row) (o : Outcome Row) (rest : Outcome Bag) (all : Bag) → both (λ u us. u ∷ us) o rest ≡ Good all →
      ((us : Bag) → rest ≡ Good us → IsIn t us) → IsIn t all
  in-later t (Good u) (Good us) all e later = subst (IsIn t) (ap good_rows e) (inr (later us refl))
  in-later t (Good u) (Bad h) all e later = absurd (cc e)
  in-later t (Bad g) (Good us) all e later = absurd (cc e)
  in-later t (Bad g) (Bad h) all e later = absurd (cc e)

  -- what an item gives is among what all give
  pub in-each : (t : Row) (x : X) (xs : List X) (all : Bag) → each f xs ≡ Good all → IsIn x xs → f x ≡ Good t → IsIn t all
  in-each t x [] all e i g = absurd i
  in-each t x (y ∷ xs) all e (inl same) g = in-made t y (each f xs) all e (ap f same ∙ g)
  in-each t x (y ∷ xs) all e (inr i) g = in-later t (f y) (each f xs) all e (λ us h. in-each t x xs us h i g)
