-- The one lemma of joins of rewritings: the rows of an inner or left join of two bags that stand beside lists, on a
-- condition that is never bad, stand beside the lists of the pairs and of the rows that meet none.
use Rattle.std.proofs.Common.{◌≡◌, inl, inr, ℕ, Bool, true, false, cond, List, [], ◌∷◌, ◌++◌, map, Contains, IsTrue, refl, sym, ap, ◌∙◌, subst, true≢false}
use Rattle.perm_values.specs.declared.value.Value.{Value}
use Rattle.perm_values.specs.declared.value.Value.TheVariants.{Boolean}
use Rattle.bag_algebra.proofs.Members.{IsIn, in-map, from-map, in-filter, from-filter, in-member, member-in}
use Rattle.bag_algebra.proofs.TruthValues.{holds-boolean}
use Rattle.bag_algebra.specs.Bags.{Row, Bag, member, nulls}
use Rattle.bag_algebra.specs.Means.{Witness, flat, good_rows, holds_of, is_met, kept, joined_rows, keeps_left, keeps_right, unmatched_left, unmatched_right}
use Rattle.bag_algebra.specs.Outcome.{Outcome, Good, mapped, both, gather}
use Rattle.bag_algebra.specs.declared.query.JoinKind.{JoinKind}
use Rattle.contribution.proofs.JoinMembers.{in-joined_rows}
use Rattle.contribution.proofs.NoRowLost.{Joined, pair, left_alone, right_alone, from-joined_rows}
use Rattle.rewrite_core.specs.rewritings.Rewritten.{SomeList, Beside}
use Rattle.query_laws.proofs.PairedLists.{none-pass, none_passes}

-- ---- rows that are made of a row and one of its lists

pub record MadeOf (make : Row → Witness → Row) (lists : Row → List Witness) (us : Bag) (x : Row) : Type 0 where
  pub origin : Row
  pub list : Witness
  pub row : IsTrue (member origin us)
  pub is_list : Contains (lists origin) list
  pub whole : make origin list ≡ x

-- what each row of us makes with each of its lists is in vs, and nothing else is
pub record Spread (make : Row → Witness → Row) (lists : Row → List Witness) (us vs : Bag) : Type 0 where
  pub there : (t : Row) (w : Witness) → IsTrue (member t us) → Contains (lists t) w → IsTrue (member (make t w) vs)
  pub back : (x : Row) → IsTrue (member x vs) → MadeOf make lists us x

abbrev pub beside_list : Row → Witness → Row
beside_list t w = t ++ flat w

pub spread-from_beside : (lists : Row → List Witness) (us vs : Bag) → Beside lists us vs → Spread beside_list lists us vs
spread-from_beside lists us vs b = record {
  there = b.there;
  back = λ x h. let r = b.back x h in record { origin = r.origin; list = r.list; row = r.row; is_list = r.is_list; whole = r.whole };
}

pub beside-from_spread : (lists : Row → List Witness) (us vs : Bag) → ((t : Row) → IsTrue (member t us) → SomeList (lists t)) → Spread beside_list lists us vs →
    Beside lists us vs
beside-from_spread lists us vs listed s = record {
  covers = listed;
  there = s.there;
  back = λ x h. let r = s.back x h in record { origin = r.origin; list = r.list; row = r.row; is_list = r.is_list; whole = r.whole };
}

-- ---- what is gathered of good items is good

gather-good : {X Y : Type 0} (f : X → Outcome (List Y)) (xs : List X) → ((x : X) → IsIn x xs → (ys : List Y) × (f x ≡ Good ys)) →
    (all : List Y) × (gather f xs ≡ Good all)
gather-good f [] good = ([], refl)
gather-good f (x ∷ xs) good =
    let first = good x (inl refl) in
    let rest = gather-good f xs (λ y h. good y (inr h)) in
    (first.0 ++ rest.0, λ i. both (λ ys zs. ys ++ zs) (first.1 i) (rest.1 i))

-- the lists of a joined row t: one of t on the left and one of a right row that it meets; of a row that meets none, where
-- those are kept, its own and then the blank
pub data JoinedList (left_lists right_lists : Row → List Witness) (us : Bag) (meets : Row → Row → Bool) (kind : JoinKind) (blank : Witness) (t : Row) (w : Witness) : Type 0 where
  of_met : (u : Row) (l r : Witness) → Contains (left_lists t) l → IsTrue (member u us) → meets t u ≡ true → Contains (right_lists u) r → l ++ r ≡ w →
      JoinedList left_lists right_lists us meets kind blank t w
  of_alone : (l : Witness) → keeps_left kind ≡ true → Contains (left_lists t) l → ((u : Row) → IsTrue (member u us) → meets t u ≡ true → ⊥) → l ++ blank ≡ w →
      JoinedList left_lists right_lists us meets kind blank t w

module _ (make : Row → Witness → Row) (left_lists : Row → List Witness) (ts zs : Bag) (left : Spread make left_lists ts zs)
    (right_lists : Row → List Witness) (us xs : Bag) (right : Beside right_lists us xs) (meets : Row → Row → Bool) (condition : Row → Outcome Value)
    (holds : (t u : Row) (l r : Witness) → IsTrue (member t ts) → Contains (left_lists t) l → IsTrue (member u us) → Contains (right_lists u) r →
    condition (make t l ++ (u ++ flat r)) ≡ Good (Boolean (meets t u)))
    (kind : JoinKind) (one_side : keeps_right kind ≡ false) (left_width right_width : ℕ) where
  met : (t u : Row) (l r : Witness) → IsTrue (member t ts) → Contains (left_lists t) l → IsTrue (member u us) → Contains (right_lists u) r →
      is_met (condition (make t l ++ (u ++ flat r))) ≡ meets t u
  met t u l r h g i k = ap is_met (holds t u l r h g i k) ∙ holds-boolean (meets t u)

  good-pair : (z x : Row) → IsIn z zs → IsIn x xs → (bag : Bag) × (kept condition (z ++ x) ≡ Good bag)
  good-pair z x h g =
      let a = left.back z (in-member z zs h) in
      let b = right.back x (in-member x xs g) in
      let good = (λ i. condition (sym a.whole i ++ sym b.whole i)) ∙ holds a.origin b.origin a.list b.list a.row a.is_list b.row b.is_list in
      (_, ap (mapped (λ v. cond (holds_of v) ((z ++ x) ∷ []) [])) good)

  pub joined_good : (bag : Bag) × (joined_rows kind condition left_width right_width zs xs ≡ Good bag)
  joined_good =
      let pairs = gather-good (λ z. gather (λ x. kept condition (z ++ x)) xs) zs (λ z h. gather-good (λ x. kept condition (z ++ x)) xs (λ x g. good-pair z x h g)) in (
        _,
        ap (mapped (λ pairs. pairs
            ++ cond (keeps_left kind) (map (λ u. u ++ nulls right_width) (unmatched_left condition zs xs)) []
            ++ cond (keeps_right kind) (map (λ v. nulls left_width ++ v) (unmatched_right condition zs xs)) [])) pairs.1,
      )

  -- the columns of a node's row, moved by `move`
  module _ (bag : Bag) (good : joined_rows kind condition left_width right_width zs xs ≡ Good bag) (blank : Witness) (remake : Row → Witness → Row) (move : Row → Row)
      (of_pair : (t u : Row) (l r : Witness) → IsTrue (member t ts) → Contains (left_lists t) l → IsTrue (member u us) → Contains (right_lists u) r → meets t u ≡ true →
      move (make t l ++ (u ++ flat r)) ≡ remake t (l ++ r))
      (of_one : keeps_left kind ≡ true → (t : Row) (l : Witness) → IsTrue (member t ts) → Contains (left_lists t) l → move (make t l ++ nulls right_width) ≡ remake t (l ++ blank))
      (lists : Row → List Witness) (ns : Bag) (among : (t : Row) → IsTrue (member t ns) → IsTrue (member t ts))
      (from_lists : (t : Row) (w : Witness) → IsTrue (member t ns) → Contains (lists t) w → JoinedList left_lists right_lists us meets kind blank t w)
      (in_lists : (t : Row) (w : Witness) → IsTrue (member t ts) → JoinedList left_lists right_lists us meets kind blank t w → IsTrue (member t ns) × Contains (lists t) w) where
    moved-in : (x y : Row) → Joined kind condition left_width right_width zs xs x → move x ≡ y → IsTrue (member y (map move bag))
    moved-in x y j e =
        subst (λ y. IsTrue (member y (map move bag))) e
        (in-member (move x) (map move bag) (in-map move x bag (in-joined_rows condition zs xs x kind left_width right_width bag good j)))

    there : (t : Row) (w : Witness) → IsTrue (member t ts) → JoinedList left_lists right_lists us meets kind blank t w → IsTrue (member (remake t w) (map move bag))
    there t w h (of_met u l r is_left here m is_right e) =
        moved-in (make t l ++ (u ++ flat r)) (remake t w)
        (pair (record {
          left = make t l;
          right = u ++ flat r;
          in_left = member-in (make t l) zs (left.there t l h is_left);
          in_right = member-in (u ++ flat r) xs (right.there u r here is_right);
          makes = refl;
          met = met t u l r h is_left here is_right ∙ m;
        }))
        (of_pair t u l r h is_left here is_right m ∙ ap (remake t) e)
    there t w h (of_alone l keeps is_left none e) =
        moved-in (make t l ++ nulls right_width) (remake t w)
        (left_alone keeps (make t l)
        (in-filter _ (make t l) zs (member-in (make t l) zs (left.there t l h is_left))
        (none-pass (λ x. is_met (condition (make t l ++ x))) xs (λ x g e.
        let b = right.back x (in-member x xs g) in
        none b.origin b.row
        (sym (met t b.origin l b.list h is_left b.row b.is_list) ∙ ap (λ x. is_met (condition (make t l ++ x))) b.whole ∙ e))))
        refl)
        (of_one keeps t l h is_left ∙ ap (remake t) e)

    listed : (t : Row) (w : Witness) (x y : Row) → IsTrue (member t ts) → JoinedList left_lists right_lists us meets kind blank t w → remake t w ≡ y →
        MadeOf remake lists ns y
    listed t w x y h j e =
        let found = in_lists t w h j in
        record { origin = t; list = w; row = found.0; is_list = found.1; whole = e }

    back : (x y : Row) → Joined kind condition left_width right_width zs xs x → move x ≡ y → MadeOf remake lists ns y
    back x y (pair m) e =
        let a = left.back m.left (in-member m.left zs m.in_left) in
        let b = right.back m.right (in-member m.right xs m.in_right) in
        let whole : make a.origin a.list ++ (b.origin ++ flat b.list) ≡ x = (λ i. a.whole i ++ b.whole i) ∙ m.makes in
        let meeting : meets a.origin b.origin ≡ true =
        sym (met a.origin b.origin a.list b.list a.row a.is_list b.row b.is_list) ∙ (λ i. is_met (condition (a.whole i ++ b.whole i))) ∙ m.met in
        listed a.origin (a.list ++ b.list) x y a.row (of_met b.origin a.list b.list a.is_list b.row meeting b.is_list refl)
        (sym (of_pair a.origin b.origin a.list b.list a.row a.is_list b.row b.is_list meeting) ∙ ap move whole ∙ e)
    back x y (left_alone keeps z here makes) e =
        let found = from-filter _ z zs here in
        let a = left.back z (in-member z zs found.0) in
        let none : (u : Row) → IsTrue (member u us) → meets a.origin u ≡ true → ⊥ = λ u h m.
        let r = right.covers u h in
        none_passes (λ x. is_met (condition (z ++ x))) (u ++ flat r.list) xs found.1 (member-in (u ++ flat r.list) xs (right.there u r.list h r.is_list))
        (ap (λ z. is_met (condition (z ++ (u ++ flat r.list)))) (sym a.whole) ∙ met a.origin u a.list r.list a.row a.is_list h r.is_list ∙ m) in
        listed a.origin (a.list ++ blank) x y a.row (of_alone a.list keeps a.is_list none refl)
        (sym (of_one keeps a.origin a.list a.row a.is_list) ∙ ap move (ap (λ z. z ++ nulls right_width) a.whole ∙ makes) ∙ e)
    back x y (right_alone keeps v here makes) e = absurd (true≢false (sym keeps ∙ one_side))

    pub joined-spread : Spread remake lists ns (map move bag)
    joined-spread = record {
      there = λ t w h c. there t w (among t h) (from_lists t w h c);
      back = λ y h.
          let found = from-map move y bag (member-in y (map move bag) h) in
          back found.0 y
          (from-joined_rows kind condition left_width right_width zs xs found.0 (subst (λ o. IsIn found.0 (good_rows o)) (sym good) found.1)) found.2;
    }
