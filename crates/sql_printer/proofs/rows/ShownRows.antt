-- Rows of a query beside rows of what its text is read as, and copies of these.
use Rattle.std.proofs.Common.{◌≡◌, ℕ, zero, suc, ◌+◌, ◌<◌, List, [], ◌∷◌, length, map, pos, refl, sym, ap, subst, ◌∙◌, arith}
use Rattle.perm_values.specs.Rows.{same_row, value_at}
use Rattle.perm_values.specs.declared.kind.Kind.{Kind}
use Rattle.perm_values.specs.declared.kind.Kind.TheVariants as kinds
use Rattle.perm_values.specs.declared.value.Value.{Value}
use Rattle.perm_values.specs.declared.value.Value.TheVariants.{Integer}
use Rattle.bag_algebra.specs.Bags.{Row, Bag}
use Rattle.bag_algebra.specs.Expressions.{value}
use Rattle.bag_algebra.specs.Outcome.{Outcome, Good, Bad, and_then, mapped, both, each}
use Rattle.bag_algebra.specs.declared.expr.Item.{Item}
use Rattle.sql_printer.specs.rows.Carried.{Carries}
use Rattle.sql_printer.specs.rows.Printed.{columns_from, unread_item, unread_of, or_unread}
use Rattle.sql_printer.proofs.rows.AskedNumbers.{get-below}
use Rattle.sql_printer.proofs.rows.RelatedOutcomes.{Along, AlikeOutcomes, along-kept, alike-kept}

-- as many values as kinds; where there are none, a row of one column stands for the row without any
abbrev pub Shown : List Kind → Row → Row → Type 0
Shown [] u v = (u ≡ []) × (length v ≡ 1)
Shown (kind ∷ kinds) u v = (v ≡ u) × (length u ≡ length (kind ∷ kinds))

-- the kinds of the columns that stand for these
abbrev pub shown_kinds : List Kind → List Kind
shown_kinds [] = kinds.Integer ∷ []
shown_kinds (kind ∷ more) = kind ∷ more

abbrev pub shown_width : List Kind → ℕ
shown_width kinds = length (shown_kinds kinds)

-- the row's values stand in the other row from a place on
pub record Faces (kinds : List Kind) (start : ℕ) (u v : Row) : Type 0 where
  pub wide : length u ≡ length kinds
  pub there : (place : ℕ) → place < length kinds → value_at v (start + place) ≡ value_at u place

pub shown-faces : (kinds : List Kind) (u v : Row) → Shown kinds u v → Faces kinds 0 u v
shown-faces [] u v s = record { wide = ap length s.0; there = λ place h. absurd (omega (arith, h)) }
shown-faces (kind ∷ kinds) u v s = record {
  wide = s.1;
  there = λ place h. let none : 0 + place ≡ place = omega arith in ap (value_at v) none ∙ ap (λ w. value_at w place) s.0;
}

-- and the other row has so many values
pub record Spans (kinds : List Kind) (start total : ℕ) (u v : Row) : Type 0 where
  pub faces : Faces kinds start u v
  pub count : length v ≡ total

-- the row's values stand at the end of the other row
abbrev pub Ends : List Kind → ℕ → Row → Row → Type 0
Ends kinds start = Spans kinds start (start + length kinds)

spans-faces : (kinds : List Kind) (start total : ℕ) (u v : Row) → Spans kinds start total u v → Faces kinds start u v
spans-faces kinds start total u v s = s.faces

pub shown-ends : (kinds : List Kind) (u v : Row) → Shown kinds u v → Ends kinds (unread_of kinds) u v
shown-ends [] u v s = record { faces = record { wide = ap length s.0; there = λ place h. absurd (omega (arith, h)) }; count = omega (arith, s.1) }
shown-ends (kind ∷ kinds) u v s = record { faces = shown-faces (kind ∷ kinds) u v s; count = omega (arith, ap length s.0, s.1) }

pub faces-itself : (kinds : List Kind) (u : Row) → length u ≡ length kinds → Faces kinds 0 u u
faces-itself kinds u wide = record { wide = wide; there = λ place h. let none : 0 + place ≡ place = omega arith in ap (value_at u) none }

-- one row further in
pub faces-carried : (kinds : List Kind) (start : ℕ) (u v : Row) (scopes : List (List Kind)) (unread : List ℕ) (env other : List Row) → Faces kinds start u v
    → Carries scopes unread env other → Carries (kinds ∷ scopes) (start ∷ unread) (u ∷ env) (v ∷ other)
faces-carried kinds start u v scopes unread env other f carried zero place kind h = f.there place (get-below kinds place kind h)
faces-carried kinds start u v scopes unread env other f carried (suc level) place kind h = carried level place kind h

pub shown-length : (kinds : List Kind) (u v : Row) → Shown kinds u v → length u ≡ length kinds
shown-length [] u v s = ap length s.0
shown-length (kind ∷ kinds) u v s = s.1

-- ---- copies

-- a row that stands for one without columns has a column
abbrev pub mark : List Kind → Row → Row
mark [] u = Integer (pos 1) ∷ u
mark (kind ∷ kinds) u = u

pub mark-same : (kinds : List Kind) (u v : Row) → same_row (mark kinds u) (mark kinds v) ≡ same_row u v
mark-same [] u v = refl
mark-same (kind ∷ kinds) u v = refl

pub mark-shown : (kinds : List Kind) (u : Row) → length u ≡ length kinds → Shown kinds u (mark kinds u)
mark-shown [] [] h = (refl, refl)
mark-shown [] (v ∷ u) h = absurd (omega (arith, h))
mark-shown (kind ∷ kinds) u h = (refl, h)

-- the values of items without sublinks
abbrev pub items_values : List Row → List Item → Row → Outcome Row
items_values env items v = each (λ (item : Item). value item.expr v env []) items

module _ (env : List Row) where
  faces-next : (kind : Kind) (kinds : List Kind) (start : ℕ) (x : Value) (u v : Row) → Faces (kind ∷ kinds) start (x ∷ u) v
      → Faces kinds (suc start) u v
  faces-next kind kinds start x u v f = record {
    wide = omega (arith, f.wide);
    there = λ place h.
        let next : suc start + place ≡ start + suc place = omega arith in
        ap (value_at v) next ∙ f.there (suc place) (omega (arith, h));
  }

  columns-values : (kinds : List Kind) (start : ℕ) (u v : Row) → Faces kinds start u v → items_values env (columns_from start kinds) v ≡ Good u
  columns-values [] start [] v f = refl
  columns-values [] start (x ∷ u) v f = absurd (omega (arith, f.wide))
  columns-values (kind ∷ kinds) start [] v f = absurd (omega (arith, f.wide))
  columns-values (kind ∷ kinds) start (x ∷ u) v f =
      let own : start ≡ start + 0 = omega arith in
      let first : value_at v start ≡ x = ap (value_at v) own ∙ f.there 0 (omega arith) in
      let rest = columns-values kinds (suc start) u v (faces-next kind kinds start x u v f) in
      λ i. both (λ y ys. y ∷ ys) (Good (first i)) (rest i)

  pub copied-row : (kinds : List Kind) (start : ℕ) (u v : Row) → Faces kinds start u v
      → items_values env (or_unread unread_item (columns_from start kinds)) v ≡ Good (mark kinds u)
  copied-row [] start [] v f = refl
  copied-row [] start (x ∷ u) v f = absurd (omega (arith, f.wide))
  copied-row (kind ∷ kinds) start u v f = columns-values (kind ∷ kinds) start u v f

  copied-bag : (kinds : List Kind) (start : ℕ) (us vs : Bag) → Along (Faces kinds start) us vs
      → each (items_values env (or_unread unread_item (columns_from start kinds))) vs ≡ Good (map (mark kinds) us)
  copied-bag kinds start [] [] f = refl
  copied-bag kinds start [] (v ∷ vs) f = absurd f
  copied-bag kinds start (u ∷ us) [] f = absurd f
  copied-bag kinds start (u ∷ us) (v ∷ vs) f =
      λ i. both (λ w ws. w ∷ ws) (copied-row kinds start u v f.0 i) (copied-bag kinds start us vs f.1 i)

  pub copied-rows : (kinds : List Kind) (start : ℕ) (o p : Outcome Bag) → AlikeOutcomes (Along (Faces kinds start)) o p
      → and_then p (each (items_values env (or_unread unread_item (columns_from start kinds)))) ≡ mapped (map (mark kinds)) o
  copied-rows kinds start (Good us) (Good vs) f = copied-bag kinds start us vs f
  copied-rows kinds start (Good us) (Bad g) f = absurd f
  copied-rows kinds start (Bad h) (Good vs) f = absurd f
  copied-rows kinds start (Bad h) (Bad g) f = ap Bad (sym f)

-- ---- rows of a width

abbrev pub Wide : ℕ → Bag → Type 0
Wide width [] = Unit {0}
Wide width (u ∷ us) = (length u ≡ width) × Wide width us

abbrev pub WideOutcome : ℕ → Outcome Bag → Type 0
WideOutcome width (Good us) = Wide width us
WideOutcome width (Bad f) = Unit {0}

abbrev pub WideRow : ℕ → Outcome Row → Type 0
WideRow width (Good row) = length row ≡ width
WideRow width (Bad f) = Unit {0}

pub wide-next : (width : ℕ) (o : Outcome Value) (p : Outcome Row) → WideRow width p → WideRow (suc width) (both (λ v vs. v ∷ vs) o p)
wide-next width (Good v) (Good row) w = ap suc w
wide-next width (Good v) (Bad g) w = tt
wide-next width (Bad f) (Good row) w = tt
wide-next width (Bad f) (Bad g) w = tt

wide-more : (width : ℕ) (o : Outcome Row) (p : Outcome Bag) → WideRow width o → WideOutcome width p → WideOutcome width (both (λ u us. u ∷ us) o p)
wide-more width (Good u) (Good us) w x = (w, x)
wide-more width (Good u) (Bad g) w x = tt
wide-more width (Bad f) (Good us) w x = tt
wide-more width (Bad f) (Bad g) w x = tt

-- what is made of each row of a width
pub wide-rows : (width own : ℕ) (make : Row → Outcome Row) → ((u : Row) → length u ≡ own → WideRow width (make u)) → (us : Bag) → Wide own us
    → WideOutcome width (each make us)
wide-rows width own make turned [] w = tt
wide-rows width own make turned (u ∷ us) w =
    wide-more width (make u) (each make us) (turned u w.0) (wide-rows width own make turned us w.1)

-- what is made of each row, whatever the row
each-wide : (width : ℕ) (make : Row → Outcome Row) → ((u : Row) → WideRow width (make u)) → (us : Bag) → WideOutcome width (each make us)
each-wide width make turned [] = tt
each-wide width make turned (u ∷ us) = wide-more width (make u) (each make us) (turned u) (each-wide width make turned us)

pub wide-made : (width : ℕ) (make : Row → Outcome Row) → ((u : Row) → WideRow width (make u)) → (o : Outcome Bag) → WideOutcome width (and_then o (each make))
wide-made width make turned (Good us) = each-wide width make turned us
wide-made width make turned (Bad f) = tt

-- what is made of each row is marked
both-marked : (kinds : List Kind) (o : Outcome Row) (p : Outcome Bag)
    → both (λ w ws. w ∷ ws) (mapped (mark kinds) o) (mapped (map (mark kinds)) p) ≡ mapped (map (mark kinds)) (both (λ w ws. w ∷ ws) o p)
both-marked kinds (Good u) (Good us) = refl
both-marked kinds (Good u) (Bad g) = refl
both-marked kinds (Bad h) (Good us) = refl
both-marked kinds (Bad h) (Bad g) = refl

module _ (kinds : List Kind) (R : Row → Row → Type 0) (f g : Row → Outcome Row) (same : (u v : Row) → R u v → g v ≡ mapped (mark kinds) (f u)) where
  each-marked : (us vs : Bag) → Along R us vs → each g vs ≡ mapped (map (mark kinds)) (each f us)
  each-marked [] [] r = refl
  each-marked [] (v ∷ vs) r = absurd r
  each-marked (u ∷ us) [] r = absurd r
  each-marked (u ∷ us) (v ∷ vs) r =
      (λ i. both (λ w ws. w ∷ ws) (same u v r.0 i) (each-marked us vs r.1 i)) ∙ both-marked kinds (f u) (each f us)

  pub made-marked : (o p : Outcome Bag) → AlikeOutcomes (Along R) o p → and_then p (each g) ≡ mapped (map (mark kinds)) (and_then o (each f))
  made-marked (Good us) (Good vs) r = each-marked us vs r
  made-marked (Good us) (Bad k) r = absurd r
  made-marked (Bad h) (Good vs) r = absurd r
  made-marked (Bad h) (Bad k) r = ap Bad (sym r)

rows-themselves : (kinds : List Kind) (us : Bag) → Wide (length kinds) us → Along (Faces kinds 0) us us
rows-themselves kinds [] w = tt
rows-themselves kinds (u ∷ us) w = (faces-itself kinds u w.0, rows-themselves kinds us w.1)

pub alike-itself : (kinds : List Kind) (o : Outcome Bag) → WideOutcome (length kinds) o → AlikeOutcomes (Along (Faces kinds 0)) o o
alike-itself kinds (Good us) w = rows-themselves kinds us w
alike-itself kinds (Bad f) w = refl

pub wide-marked : (kinds : List Kind) (us : Bag) → Wide (length kinds) us → Along (Shown kinds) us (map (mark kinds) us)
wide-marked kinds [] w = tt
wide-marked kinds (u ∷ us) w = (mark-shown kinds u w.0, wide-marked kinds us w.1)

pub marked-alike : (kinds : List Kind) (o : Outcome Bag) → WideOutcome (length kinds) o → AlikeOutcomes (Along (Shown kinds)) o (mapped (map (mark kinds)) o)
marked-alike kinds (Good us) w = wide-marked kinds us w
marked-alike kinds (Bad f) w = refl

shown-wide : (kinds : List Kind) (us vs : Bag) → Along (Shown kinds) us vs → Wide (length kinds) us
shown-wide kinds [] [] s = tt
shown-wide kinds [] (v ∷ vs) s = absurd s
shown-wide kinds (u ∷ us) [] s = absurd s
shown-wide kinds (u ∷ us) (v ∷ vs) s = (shown-length kinds u v s.0, shown-wide kinds us vs s.1)

pub alike-wide : (kinds : List Kind) (o p : Outcome Bag) → AlikeOutcomes (Along (Shown kinds)) o p → WideOutcome (length kinds) o
alike-wide kinds (Good us) (Good vs) s = shown-wide kinds us vs s
alike-wide kinds (Good us) (Bad g) s = absurd s
alike-wide kinds (Bad f) p s = tt

faces-wide : (kinds : List Kind) (start : ℕ) (us vs : Bag) → Along (Faces kinds start) us vs → Wide (length kinds) us
faces-wide kinds start [] [] f = tt
faces-wide kinds start [] (v ∷ vs) f = absurd f
faces-wide kinds start (u ∷ us) [] f = absurd f
faces-wide kinds start (u ∷ us) (v ∷ vs) f = (f.0.wide, faces-wide kinds start us vs f.1)

pub alike_faces-wide : (kinds : List Kind) (start : ℕ) (o p : Outcome Bag) → AlikeOutcomes (Along (Faces kinds start)) o p → WideOutcome (length kinds) o
alike_faces-wide kinds start (Good us) (Good vs) f = faces-wide kinds start us vs f
alike_faces-wide kinds start (Good us) (Bad g) f = absurd f
alike_faces-wide kinds start (Bad h) p f = tt

pub alike-ends : (kinds : List Kind) (o p : Outcome Bag) → AlikeOutcomes (Along (Shown kinds)) o p → AlikeOutcomes (Along (Ends kinds (unread_of kinds))) o p
alike-ends kinds o p s = alike-kept (Along (Shown kinds)) (Along (Ends kinds (unread_of kinds)))
    (λ us vs r. along-kept (Shown kinds) (Ends kinds (unread_of kinds)) (shown-ends kinds) us vs r) o p s

pub alike_spans-faces : (kinds : List Kind) (start total : ℕ) (o p : Outcome Bag) → AlikeOutcomes (Along (Spans kinds start total)) o p
    → AlikeOutcomes (Along (Faces kinds start)) o p
alike_spans-faces kinds start total o p s = alike-kept (Along (Spans kinds start total)) (Along (Faces kinds start))
    (λ us vs r. along-kept (Spans kinds start total) (Faces kinds start) (spans-faces kinds start total) us vs r) o p s

-- what is copied from rows that face the query's
pub copied-alike : (env : List Row) (kinds : List Kind) (start : ℕ) (o p : Outcome Bag) → AlikeOutcomes (Along (Faces kinds start)) o p
    → AlikeOutcomes (Along (Shown kinds)) o (and_then p (each (items_values env (or_unread unread_item (columns_from start kinds)))))
copied-alike env kinds start o p f =
    subst (AlikeOutcomes (Along (Shown kinds)) o) (sym (copied-rows env kinds start o p f)) (marked-alike kinds o (alike_faces-wide kinds start o p f))
