-- The sublinks of several parts are those of each of them.
use Rattle.std.specs.Prelude.{◌≡◌, ◌≤◌, ◌<◌, ◌+◌, ℕ, max, List, [], ◌∷◌, ◌++◌, length, map, flat_map, take, drop, None}
use Rattle.std.proofs.Common.{ap, arith, get_or, refl, subst, sym, ◌∙◌}
use Rattle.bag_algebra.specs.built.Measures.{subs_height}
use Rattle.bag_algebra.specs.declared.expr.Expr.{Expr}
use Rattle.bag_algebra.specs.declared.query.Sublink.{Sublink}
use Rattle.perm_values.specs.declared.kind.Kind.{Kind}
use Rattle.perm_values.proofs.Lists.{front-none, back-none, taken}
use Rattle.name_meaning.specs.Items.{SelectMeant, made_items, width_of_item}
use Rattle.name_meaning.specs.Meanings.{Before, Part, Surroundings, means_at, settled}
use Rattle.name_meaning.specs.Operands.{Operand, alike_wanted, behind, first_unfit, made_parts, node, operand, parts_breaks, unfit_break, united, wanted_of}
use Rattle.name_meaning.specs.declared.answer.Break.{Break}
use Rattle.name_meaning.specs.declared.need.Gives.{Gives}
use Rattle.name_meaning.specs.declared.need.Need.{Need}
use Rattle.name_seen_cores.proofs.Forms.{mapped-behind, flat-behind}
use Rattle.name_inside.specs.heights.High.{ListHigh, OperandsHigh, SelectHigh, SubsHigh}

-- ---- lists that are empty in all their parts

pub flat-front : {X : Type 0} (f : X → List Break) (xs ys : List X) → flat_map f (xs ++ ys) ≡ [] → flat_map f xs ≡ []
flat-front f [] ys none = refl
flat-front f (x ∷ xs) ys none =
    let first = front-none (f x) (flat_map f (xs ++ ys)) none in
    let rest = flat-front f xs ys (back-none (f x) (flat_map f (xs ++ ys)) none) in
    λ i. first i ++ rest i

pub flat-back : {X : Type 0} (f : X → List Break) (xs ys : List X) → flat_map f (xs ++ ys) ≡ [] → flat_map f ys ≡ []
flat-back f [] ys none = none
flat-back f (x ∷ xs) ys none = flat-back f xs ys (back-none (f x) (flat_map f (xs ++ ys)) none)

-- ---- sublinks side by side

pub subs-append : (xs ys : List Sublink) → subs_height (xs ++ ys) ≡ max (subs_height xs) (subs_height ys)
subs-append [] ys = omega arith
subs-append (x ∷ xs) ys = omega (arith, subs-append xs ys)

-- ---- operands

abbrev breaks_in : Operand → List Break
breaks_in o = o.meant.breaks

front-parts : (k : Kind) (os more : List Operand) (n : Before) → subs_height (made_parts k os n).subs ≤ subs_height (made_parts k (os ++ more) n).subs
front-parts k [] more n = omega arith
front-parts k (o ∷ os) more n =
    let first = o.meant.make (wanted_of k o.need) n in
    let after = behind n first.subs first.aggregates in
    omega (
      arith,
      subs-append first.subs (made_parts k os after).subs,
      subs-append first.subs (made_parts k (os ++ more) after).subs,
      front-parts k os more after,
    )

back-parts : (k : Kind) (os more : List Operand) (n : Before) (h : ℕ) → ((m : Before) → h ≤ subs_height (made_parts k more m).subs)
    → h ≤ subs_height (made_parts k (os ++ more) n).subs
back-parts k [] more n h high = high n
back-parts k (o ∷ os) more n h high =
    let first = o.meant.make (wanted_of k o.need) n in
    let after = behind n first.subs first.aggregates in
    omega (arith, subs-append first.subs (made_parts k (os ++ more) after).subs, back-parts k os more after h high)

pub operands-both : (a b : ℕ) (os more : List Operand) → OperandsHigh a os → OperandsHigh b more → OperandsHigh (max a b) (os ++ more)
operands-both a b os more left right none k n =
    omega (
      arith,
      left (flat-front breaks_in os more none) k n,
      front-parts k os more n,
      back-parts k os more n b (right (flat-back breaks_in os more none) k),
    )

pub operand-alone : (h : ℕ) (o : Operand) → SubsHigh h o.meant → OperandsHigh h (o ∷ [])
operand-alone h o high none k n =
    omega (arith, high (front-none o.meant.breaks [] none) (wanted_of k o.need) n, subs-append (o.meant.make (wanted_of k o.need) n).subs [])

pub no-operands : OperandsHigh 0 []
no-operands none k n = omega arith

pub operand-at : (h : ℕ) (here : Surroundings) (need : Need) (part : Part) → SubsHigh h (means_at part here) → OperandsHigh h (operand here need part ∷ [])
unfolding means_at
operand-at h here need part high = operand-alone h (operand here need part) high

pub operand-pair : (a b : ℕ) (here : Surroundings) (need more : Need) (first second : Part) → SubsHigh a (means_at first here) → SubsHigh b (means_at second here)
    → OperandsHigh (max a b) (operand here need first ∷ operand here more second ∷ [])
operand-pair a b here need more first second one two =
    operands-both a b (operand here need first ∷ []) (operand here more second ∷ []) (operand-at a here need first one) (operand-at b here more second two)

-- a node over them
pub node-high : (h : ℕ) (gives : Gives) (assembled : List Expr → Expr) (os : List Operand) → OperandsHigh h os → SubsHigh h (node gives assembled os)
node-high h gives assembled os high none wanted before =
    high (front-none (parts_breaks os) (unfit_break (first_unfit None os)) none) (settled (united os) (alike_wanted gives wanted)) before

-- one more of a list that is gone through
pub mapped-high : {X Y : Type 0} (g : Y → Operand) (p : X → Y) (xs : List X) (i : ℕ) (x : X) (a b : ℕ) → i < length xs → x ≡ get_or xs i x
    → OperandsHigh a (map g (map p (take i xs))) → OperandsHigh b (g (p x) ∷ []) → OperandsHigh (max a b) (map g (map p (take (i + 1) xs)))
mapped-high g p xs i x a b within is so_far one =
    subst (OperandsHigh (max a b)) (sym (ap (λ (ys : List _). map g (map p ys)) (taken xs i x within is) ∙ mapped-behind g p (take i xs) x))
    (operands-both a b (map g (map p (take i xs))) (g (p x) ∷ []) so_far one)

pub flat-high : {X Y : Type 0} (g : Y → List Operand) (p : X → Y) (xs : List X) (i : ℕ) (x : X) (a b : ℕ) → i < length xs → x ≡ get_or xs i x
    → OperandsHigh a (flat_map g (map p (take i xs))) → OperandsHigh b (g (p x)) → OperandsHigh (max a b) (flat_map g (map p (take (i + 1) xs)))
flat-high g p xs i x a b within is so_far one =
    subst (OperandsHigh (max a b)) (sym (ap (λ (ys : List _). flat_map g (map p ys)) (taken xs i x within is) ∙ flat-behind g p (take i xs) x))
    (operands-both a b (flat_map g (map p (take i xs))) (g (p x)) so_far one)

-- ---- the items of a list

abbrev breaks_of : SelectMeant → List Break
breaks_of m = m.breaks

front-items : (ms more : List SelectMeant) (w : List Kind) (n : Before) → subs_height (made_items ms w n).subs ≤ subs_height (made_items (ms ++ more) w n).subs
front-items [] more w n = omega arith
front-items (m ∷ ms) more w n =
    let width = width_of_item m in
    let first = m.make (take width w) n in
    let after = behind n first.subs first.aggregates in
    omega (
      arith,
      subs-append first.subs (made_items ms (drop width w) after).subs,
      subs-append first.subs (made_items (ms ++ more) (drop width w) after).subs,
      front-items ms more (drop width w) after,
    )

last-item : (ms : List SelectMeant) (last : SelectMeant) (w : List Kind) (n : Before) (h : ℕ)
    → ((v : List Kind) (m : Before) → h ≤ subs_height (last.make v m).subs) → h ≤ subs_height (made_items (ms ++ last ∷ []) w n).subs
last-item [] last w n h high =
    let width = width_of_item last in
    omega (arith, high (take width w) n, subs-append (last.make (take width w) n).subs [])
last-item (m ∷ ms) last w n h high =
    let width = width_of_item m in
    let first = m.make (take width w) n in
    let after = behind n first.subs first.aggregates in
    omega (arith, subs-append first.subs (made_items (ms ++ last ∷ []) (drop width w) after).subs, last-item ms last (drop width w) after h high)

pub list-more : (a b : ℕ) (ms : List SelectMeant) (last : SelectMeant) → ListHigh a ms → SelectHigh b last → ListHigh (max a b) (ms ++ last ∷ [])
list-more a b ms last so_far one none w n =
    omega (
      arith,
      so_far (flat-front breaks_of ms (last ∷ []) none) w n,
      front-items ms (last ∷ []) w n,
      last-item ms last w n b (one (front-none last.breaks [] (flat-back breaks_of ms (last ∷ []) none))),
    )

pub listed-high : {X Y : Type 0} (g : Y → SelectMeant) (p : X → Y) (xs : List X) (i : ℕ) (x : X) (a b : ℕ) → i < length xs → x ≡ get_or xs i x
    → ListHigh a (map g (map p (take i xs))) → SelectHigh b (g (p x)) → ListHigh (max a b) (map g (map p (take (i + 1) xs)))
listed-high g p xs i x a b within is so_far one =
    subst (ListHigh (max a b)) (sym (ap (λ (ys : List _). map g (map p ys)) (taken xs i x within is) ∙ mapped-behind g p (take i xs) x))
    (list-more a b (map g (map p (take i xs))) (g (p x)) so_far one)
