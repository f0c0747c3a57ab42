-- Witness lists without a doomed row.
use Rattle.std.proofs.Common.{◌≡◌, ℕ, suc, Bool, false, ◌||◌, List, [], ◌∷◌, ◌++◌, length, Option, refl, sym, ap, ◌∙◌}
use Rattle.bag_algebra.proofs.Members.{IsIn}
use Rattle.bag_algebra.proofs.Truths.{or_associates}
use Rattle.bag_algebra.specs.Kinds.{shape, sub_shape}
use Rattle.bag_algebra.specs.Means.{Witness, all_empty}
use Rattle.bag_algebra.specs.built.Patterns.{BaseOf, FilterOf, ProjectOf, JoinOf, ApplyOf, UnionOf, IntersectOf, ExceptOf, DistinctOf, AggregateOf, LimitOf, ProvOf}
use Rattle.bag_algebra.specs.declared.expr.Expr.{Expr}
use Rattle.bag_algebra.specs.declared.place.Place.{Place}
use Rattle.bag_algebra.specs.declared.query.Query.{Query, Row_of-Sublink, more_of-Sublink, end_of-Sublink}
use Rattle.bag_algebra.specs.declared.query.Query.TheVariants.{Table, Single}
use Rattle.delete_impact.specs.vanishing.Doomed.{places_over, sub_places_over, is_doomed_entry, has_doomed}

module _ (condition : Option Expr) where
  -- what is said of two parts is said of the first or of the second
  pub has_doomed-append : (ps qs : List Bool) (v w : Witness) → length v ≡ length ps →
      has_doomed condition (ps ++ qs) (v ++ w) ≡ (has_doomed condition ps v || has_doomed condition qs w)
  has_doomed-append [] qs [] w e = refl
  has_doomed-append [] qs (entry ∷ v) w e = absurd (cc e)
  has_doomed-append (p ∷ ps) qs [] w e = absurd (cc e)
  has_doomed-append (p ∷ ps) qs (entry ∷ v) w e =
      ap (λ b. is_doomed_entry condition p entry || b) (has_doomed-append ps qs v w (suc-same _ _ e))
      ∙ sym (or_associates (is_doomed_entry condition p entry) (has_doomed condition ps v) (has_doomed condition qs w))
    where
      suc-same : (m n : ℕ) → suc m ≡ suc n → m ≡ n
      suc-same m n e = cc

  -- nothing at every place is no doomed row
  pub empty-spared : (ps : List Bool) (places : List Place) → has_doomed condition ps (all_empty places) ≡ false
  empty-spared [] places = refl
  empty-spared (p ∷ ps) [] = refl
  empty-spared (p ∷ ps) (place ∷ places) = empty-spared ps places

  -- some list has no doomed row
  abbrev pub Spared : List Bool → List Witness → Type 0
  Spared ps ws = (w : Witness) × IsIn w ws × (has_doomed condition ps w ≡ false)

pub length-empty : (places : List Place) → length (all_empty places) ≡ length places
length-empty [] = refl
length-empty (place ∷ places) = ap suc (length-empty places)

-- ---- a place for each source

module _ (id : ℕ) where
  long-both : (xs : List Place) (ys : List Bool) (zs : List Place) (us : List Bool) → length xs ≡ length ys → length zs ≡ length us → length (xs ++ zs) ≡ length (ys ++ us)
  long-both [] [] zs us e f = f
  long-both [] (y ∷ ys) zs us e f = absurd (cc e)
  long-both (x ∷ xs) [] zs us e f = absurd (cc e)
  long-both (x ∷ xs) (y ∷ ys) zs us e f = ap suc (long-both xs ys zs us (suc-same _ _ e) f) where
    suc-same : (m n : ℕ) → suc m ≡ suc n → m ≡ n
    suc-same m n e = cc

  mutual
    pub as_many_places : (q : Query) → length (shape q) ≡ length (places_over id q)
    as_many_places (Table other kinds) = refl
    as_many_places Single = refl
    as_many_places (BaseOf input places label) = refl
    as_many_places (FilterOf input condition _ subs) = long-both (shape input) (places_over id input) (sub_shape subs) (sub_places_over id subs) (as_many_places input) (as_many_sub_places subs)
    as_many_places (ProjectOf input items _ subs) = long-both (shape input) (places_over id input) (sub_shape subs) (sub_places_over id subs) (as_many_places input) (as_many_sub_places subs)
    as_many_places (JoinOf kind left right condition _ subs) =
        long-both (shape left ++ shape right) (places_over id left ++ places_over id right) (sub_shape subs) (sub_places_over id subs)
        (long-both (shape left) (places_over id left) (shape right) (places_over id right) (as_many_places left) (as_many_places right)) (as_many_sub_places subs)
    as_many_places (ApplyOf kind left right) = long-both (shape left) (places_over id left) (shape right) (places_over id right) (as_many_places left) (as_many_places right)
    as_many_places (UnionOf all left right) = long-both (shape left) (places_over id left) (shape right) (places_over id right) (as_many_places left) (as_many_places right)
    as_many_places (IntersectOf all left right) = long-both (shape left) (places_over id left) (shape right) (places_over id right) (as_many_places left) (as_many_places right)
    as_many_places (ExceptOf all left right) = long-both (shape left) (places_over id left) (shape right) (places_over id right) (as_many_places left) (as_many_places right)
    as_many_places (DistinctOf input) = as_many_places input
    as_many_places (AggregateOf input groups aggregates) = as_many_places input
    as_many_places (LimitOf input keys count) = as_many_places input
    as_many_places (ProvOf input) = refl

    as_many_sub_places : {m : _} (subs : Row_of-Sublink m) → length (sub_shape subs) ≡ length (sub_places_over id subs)
    as_many_sub_places end_of-Sublink = refl
    as_many_sub_places (more_of-Sublink kind tested query subs) = long-both (shape query) (places_over id query) (sub_shape subs) (sub_places_over id subs) (as_many_places query) (as_many_sub_places subs)
