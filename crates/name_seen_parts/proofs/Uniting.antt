-- Operands of a set operation, gone through column by column.
use Rattle.std.specs.Prelude.{◌≡◌, ℕ, ◌+◌, ◌<◌, ◌≤◌, min, Bool, true, ◌&&◌, List, [], ◌∷◌, ◌++◌, length, Option}
use Rattle.std.proofs.Common.{inl, inr, refl, ap, sym, ◌∙◌, take, drop, get_or, append_assoc, arith}
use Rattle.std.proofs.Math.ListN.{set, drop_of_length-le}
use Rattle.std.proofs.lemmas.Bool.{cases_lt}
use Rattle.std.proofs.lemmas.List.{drop-set-lt, take-append-drop, take_more_set, map-append}
use Rattle.perm_values.specs.declared.kind.Kind.{Kind}
use Rattle.perm_values.proofs.Lists.{dropped}
use Rattle.name_meaning.specs.Meanings.{OutColumn, unites, united_kind}
use Rattle.name_meaning.specs.Queries.{do_unite, united_columns}
use Rattle.name_seen_parts.specs.Columns.{column_of, columns_of}
use Rattle.name_seen_parts.specs.declared.clauses.column.ShownColumn.{ShownColumn}

-- ---- whether they unite

unite-none : (xs : List OutColumn) → do_unite xs [] ≡ true
unite-none [] = refl
unite-none (x ∷ xs) = refl

pub unites-at : (left right : List ShownColumn) (i : ℕ) (l r : ShownColumn) (u : Bool) → i < length left → i < length right → l ≡ get_or left i l → r ≡ get_or right i r
    → u ≡ unites (get_or left i l).kind (get_or right i r).kind
    → do_unite (columns_of (drop i left)) (columns_of (drop i right)) ≡ (u && do_unite (columns_of (drop (i + 1) left)) (columns_of (drop (i + 1) right)))
unites-at left right i l r u in_left in_right here there is =
    (λ at. do_unite (columns_of (dropped left i l in_left here at)) (columns_of (dropped right i r in_right there at)))
    ∙ ap (λ (b : Bool). b && do_unite (columns_of (drop (i + 1) left)) (columns_of (drop (i + 1) right)))
    (sym (is ∙ (λ at. unites (sym here at).kind (sym there at).kind)))

pub unites-end : (left right : List ShownColumn) (i n : ℕ) → n ≡ min (length left) (length right) → n ≤ i → do_unite (columns_of (drop i left)) (columns_of (drop i right)) ≡ true
unites-end left right i n least past =
    elim (cases_lt (length left) (length right)) [
      | inl shorter ↦ ap (λ (xs : List ShownColumn). do_unite (columns_of xs) (columns_of (drop i right))) (drop_of_length-le left (omega (arith, shorter, least, past)))
      | inr longer ↦
          ap (λ (ys : List ShownColumn). do_unite (columns_of (drop i left)) (columns_of ys)) (drop_of_length-le right (omega (arith, longer, least, past)))
          ∙ unite-none (columns_of (drop i left))
    ]

-- ---- the columns united

abbrev united_from : ℕ → List ShownColumn → List ShownColumn → List OutColumn
united_from i left right = columns_of (take i left) ++ united_columns (columns_of (drop i left)) (columns_of (drop i right))

united-none : (xs : List OutColumn) → united_columns xs [] ≡ xs
united-none [] = refl
united-none (x ∷ xs) = refl

same-item : (left : List ShownColumn) (i : ℕ) (l m : ShownColumn) → i < length left → l ≡ get_or left i l → m ≡ get_or left i m → m ≡ l
same-item left i l m within here again = ap (λ (xs : List ShownColumn). get_or xs 0 m) (sym (dropped left i m within again) ∙ dropped left i l within here)

united-set : (left right : List ShownColumn) (i : ℕ) (l r new : ShownColumn) → i < length left → i < length right → l ≡ get_or left i l → r ≡ get_or right i r
    → record { name = l.name; kind = united_kind l.kind r.kind } ≡ column_of new → united_from i left right ≡ united_from (i + 1) (set left i new) right
united-set left right i l r new in_left in_right here there is =
    let rest : List OutColumn = united_columns (columns_of (drop (i + 1) left)) (columns_of (drop (i + 1) right)) in
    (λ at. columns_of (take i left) ++ united_columns (columns_of (dropped left i l in_left here at)) (columns_of (dropped right i r in_right there at)))
    ∙ (λ at. columns_of (take i left) ++ is at ∷ rest)
    ∙ sym (append_assoc (columns_of (take i left)) (column_of new ∷ []) rest)
    ∙ ap (λ (xs : List OutColumn). xs ++ rest) (sym (map-append column_of (take i left) (new ∷ [])))
    ∙ (λ at. columns_of (sym (take_more_set left i new in_left) at)
    ++ united_columns (columns_of (sym (drop-set-lt (i + 1) left i new (omega arith)) at)) (columns_of (drop (i + 1) right)))

pub united-at : (left right : List ShownColumn) (i : ℕ) (l r m : ShownColumn) (kind : Option Kind) → i < length left → i < length right → l ≡ get_or left i l → r ≡ get_or right i r
    → m ≡ get_or left i m → kind ≡ united_kind (get_or left i l).kind (get_or right i r).kind
    → united_from i left right ≡ united_from (i + 1) (set left i (record { name = (get_or left i m).name; kind = kind })) right
united-at left right i l r m kind in_left in_right here there again is =
    united-set left right i l r (record { name = (get_or left i m).name; kind = kind }) in_left in_right here there
    (λ at. record {
      name = ap (λ (column : ShownColumn). column.name) (sym (same-item left i l m in_left here again) ∙ again) at;
      kind = sym (is ∙ (λ at. united_kind (sym here at).kind (sym there at).kind)) at;
    })

pub united-end : (left right : List ShownColumn) (i n : ℕ) → n ≡ min (length left) (length right) → n ≤ i → united_from i left right ≡ columns_of left
united-end left right i n least past =
    ap (λ (xs : List OutColumn). columns_of (take i left) ++ xs) nothing ∙ sym (map-append column_of (take i left) (drop i left)) ∙ ap columns_of (take-append-drop i left) where
      nothing : united_columns (columns_of (drop i left)) (columns_of (drop i right)) ≡ columns_of (drop i left)
      nothing =
          elim (cases_lt (length left) (length right)) [
            | inl shorter ↦
                let none : drop i left ≡ [] = drop_of_length-le left (omega (arith, shorter, least, past)) in
                ap (λ (xs : List ShownColumn). united_columns (columns_of xs) (columns_of (drop i right))) none ∙ sym (ap columns_of none)
            | inr longer ↦
                ap (λ (ys : List ShownColumn). united_columns (columns_of (drop i left)) (columns_of ys)) (drop_of_length-le right (omega (arith, longer, least, past)))
                ∙ united-none (columns_of (drop i left))
          ]
