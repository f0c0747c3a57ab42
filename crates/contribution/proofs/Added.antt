-- What calls add at the end of a list, one after another.
use Rattle.std.proofs.Common.{◌≡◌, ℕ, ◌+◌, ◌<◌, List, [], ◌∷◌, ◌++◌, Result, OnOk, length, get_or, take, refl, sym, ap, ◌∙◌, subst, append_assoc, append-nil}
use Rattle.perm_values.specs.declared.no_memory.NoMemory.{NoMemory}
use Rattle.perm_values.proofs.Lists.{taken}
use Rattle.bag_algebra.specs.Children.{subs_shape}
use Rattle.bag_algebra.specs.Kinds.{shape, place_kinds}
use Rattle.bag_algebra.specs.declared.place.Place.{Place}
use Rattle.bag_algebra.specs.declared.query.Sublink.{Sublink}
use Rattle.bag_algebra.proofs.Widths.{place_kinds-append}

abbrev Done : Type 0
Done = Result Unit NoMemory

-- what is added is this
pub added : {X : Type 0} (result : Done) (new before xs ys : List X) → xs ≡ ys → OnOk result (new ≡ before ++ xs) → OnOk result (new ≡ before ++ ys)
added result new before xs ys e h = subst (λ zs. OnOk result (new ≡ before ++ zs)) e h

-- two calls add the one part and then the other
pub added-behind : {X : Type 0} (result : Done) (new middle before xs ys whole : List X) → middle ≡ before ++ xs → xs ++ ys ≡ whole →
    OnOk result (new ≡ middle ++ ys) → OnOk result (new ≡ before ++ whole)
added-behind result new middle before xs ys whole e f h =
    subst (λ zs. OnOk result (new ≡ zs)) (ap (λ zs. zs ++ ys) e ∙ append_assoc before xs ys ∙ ap (λ zs. before ++ zs) f) h

pub added-joined : {X : Type 0} (middle before last xs ys : List X) → middle ≡ before ++ xs → last ≡ middle ++ ys → last ≡ before ++ (xs ++ ys)
added-joined middle before last xs ys e f = f ∙ ap (λ zs. zs ++ ys) e ∙ append_assoc before xs ys

-- ---- a loop: what a word says of the items so far and one more

pub place_kinds-more : (ps : List Place) (i : ℕ) (p : Place) → i < length ps → p ≡ get_or ps i p → place_kinds (take i ps) ++ p.kinds ≡ place_kinds (take (i + 1) ps)
place_kinds-more ps i p within e =
    sym (ap place_kinds (taken ps i p within e) ∙ place_kinds-append (take i ps) (p ∷ []) ∙ ap (λ kinds. place_kinds (take i ps) ++ kinds) (append-nil p.kinds))

subs_shape-append : (ss rs : List Sublink) → subs_shape (ss ++ rs) ≡ subs_shape ss ++ subs_shape rs
subs_shape-append [] rs = refl
subs_shape-append (s ∷ ss) rs = ap (λ places. shape s.query ++ places) (subs_shape-append ss rs) ∙ sym (append_assoc (shape s.query) (subs_shape ss) (subs_shape rs))

pub subs_shape-more : (ss : List Sublink) (i : ℕ) (s : Sublink) → i < length ss → s ≡ get_or ss i s → subs_shape (take i ss) ++ shape s.query ≡ subs_shape (take (i + 1) ss)
subs_shape-more ss i s within e =
    sym (ap subs_shape (taken ss i s within e) ∙ subs_shape-append (take i ss) (s ∷ []) ∙ ap (λ places. subs_shape (take i ss) ++ places) (append-nil (shape s.query)))
