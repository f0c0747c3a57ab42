-- The entry that a test of values finds, and the entry that a name finds.
use mathlib.Core.Bool.{true≢false}
use Rattle.std.proofs.Common.{◌≡◌, ℕ, Bool, true, false, cond, List, [], ◌∷◌, Some, refl, sym, ap, subst, ◌∙◌, nat_eq}
use Rattle.std.specs.Cmp.Lexicographic.{pointwise, bytes_decides}
use Rattle.std.specs.List.{find, AllByRecursion, IsDistinct}
use Rattle.std.specs.Map.{keys_of}
use Rattle.perm_catalog.specs.Changes.{named}

module _ {X : Type 0} (test : X → Bool) where
  abbrev pub passes : List ℕ × X → Bool
  passes e = test e.1

  pub record IsFound (es : List (List ℕ × X)) : Type 0 where
    pub entry : List ℕ × X
    pub found : find passes es ≡ Some entry

  -- a value that has a name and passes is not passed over
  found-later : (e : List ℕ × X) (es : List (List ℕ × X)) (q : List ℕ) (x : X) (b : Bool) → test e.1 ≡ false → test x ≡ true →
      (named es q ≡ Some x → IsFound es) → cond b (Some e.1) (named es q) ≡ Some x → IsFound es
  found-later e es q x true failing passing more h =
      let same : e.1 ≡ x = cc in absurd (true≢false (sym passing ∙ ap test (sym same) ∙ failing))
  found-later e es q x false failing passing more h = more h

  found-first : (e : List ℕ × X) (es : List (List ℕ × X)) (q : List ℕ) (x : X) (b : Bool) → test e.1 ≡ b → test x ≡ true →
      (named es q ≡ Some x → IsFound es) → named (e ∷ es) q ≡ Some x → IsFound (e ∷ es)
  found-first e es q x true is passing more h = record { entry = e; found = ap (λ b. cond b (Some e) (find passes es)) is }
  found-first e es q x false is passing more h =
      let later = found-later e es q x (pointwise nat_eq q e.0) is passing more h in
      record { entry = later.entry; found = ap (λ b. cond b (Some e) (find passes es)) is ∙ later.found }

  pub named-found : (es : List (List ℕ × X)) (q : List ℕ) (x : X) → named es q ≡ Some x → test x ≡ true → IsFound es
  named-found [] q x h passing = absurd (cc h)
  named-found (e ∷ es) q x h passing =
      found-first e es q x (test e.1) refl passing (λ k. named-found es q x k passing) h

  -- what is found passes
  passes-by : (e f : List ℕ × X) (es : List (List ℕ × X)) (b : Bool) → test f.1 ≡ b → (find passes es ≡ Some e → test e.1 ≡ true) →
      cond b (Some f) (find passes es) ≡ Some e → test e.1 ≡ true
  passes-by e f es true is more h = let same : f ≡ e = cc in ap (λ (g : List ℕ × X). test g.1) (sym same) ∙ is
  passes-by e f es false is more h = more h

  pub found-passes : (es : List (List ℕ × X)) (e : List ℕ × X) → find passes es ≡ Some e → test e.1 ≡ true
  found-passes [] e h = absurd (cc h)
  found-passes (f ∷ es) e h = passes-by e f es (test f.1) refl (found-passes es e) h

  -- and has its name, where names differ
  all-by : (P : List ℕ → Type 0) (e : List ℕ × X) (es : List (List ℕ × X)) (q : List ℕ) (x : X) (b : Bool) → pointwise nat_eq q e.0 ≡ b →
      P e.0 → (named es q ≡ Some x → P q) → cond b (Some e.1) (named es q) ≡ Some x → P q
  all-by P e es q x true is first more h = subst P (sym ((bytes_decides q e.0).0 is)) first
  all-by P e es q x false is first more h = more h

  all-named : (P : List ℕ → Type 0) (es : List (List ℕ × X)) (q : List ℕ) (x : X) → AllByRecursion P (keys_of es) → named es q ≡ Some x → P q
  all-named P [] q x all h = absurd (cc h)
  all-named P (e ∷ es) q x all h = all-by P e es q x (pointwise nat_eq q e.0) refl all.0 (all-named P es q x all.1) h

  differ : (q k : List ℕ) (b : Bool) → pointwise nat_eq q k ≡ b → pointwise nat_eq k q ≡ false → b ≡ false
  differ q k true is apart =
      absurd (true≢false (sym ((bytes_decides k q).1 (sym ((bytes_decides q k).0 is))) ∙ apart))
  differ q k false is apart = refl

  named-by : (e f : List ℕ × X) (es : List (List ℕ × X)) (b : Bool) → test f.1 ≡ b →
      (find passes es ≡ Some e → named es e.0 ≡ Some e.1) → AllByRecursion (λ y. pointwise nat_eq f.0 y ≡ false) (keys_of es) →
      cond b (Some f) (find passes es) ≡ Some e → named (f ∷ es) e.0 ≡ Some e.1
  named-by e f es true is more apart h =
      let same : f ≡ e = cc in
      subst (λ (g : List ℕ × X). named (f ∷ es) g.0 ≡ Some g.1) same
      (ap (λ b. cond b (Some f.1) (named es f.0)) ((bytes_decides f.0 f.0).1 refl))
  named-by e f es false is more apart h =
      let there = more h in
      let other : pointwise nat_eq e.0 f.0 ≡ false = differ e.0 f.0 (pointwise nat_eq e.0 f.0) refl
      (all-named (λ y. pointwise nat_eq f.0 y ≡ false) es e.0 e.1 apart there) in
      ap (λ b. cond b (Some f.1) (named es e.0)) other ∙ there

  pub found-named : (es : List (List ℕ × X)) (e : List ℕ × X) → IsDistinct (pointwise nat_eq) (keys_of es) → find passes es ≡ Some e →
      named es e.0 ≡ Some e.1
  unfolding IsDistinct
  found-named [] e distinct h = absurd (cc h)
  found-named (f ∷ es) e distinct h =
      named-by e f es (test f.1) refl (found-named es e distinct.1) distinct.0 h
