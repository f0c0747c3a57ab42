-- Fields joined by commas, one more at a time.
use Rattle.std.proofs.Common.{◌≡◌, ◌<◌, ℕ, zero, suc, ◌+◌, List, [], ◌∷◌, ◌++◌, map, take, length, get_or, refl, sym, ap, ◌∙◌, arith, append_assoc, length-take}
use Rattle.std.proofs.lemmas.List.{length-map, take_more, map-append}
use Rattle.std.specs.List.{join_with_byte}
use Rattle.csv_tables.specs.AnswerText.{comma, separator}

-- one more part comes behind a separator
joined-more : (c : ℕ) (parts : List (List ℕ)) (part : List ℕ) → 0 < length parts → join_with_byte c (parts ++ part ∷ []) ≡ join_with_byte c parts ++ (c ∷ part)
joined-more c [] part some = absurd (omega arith)
joined-more c (x ∷ []) part some = refl
joined-more c (x ∷ y ∷ parts) part some =
    ap (λ rest. x ++ (c ∷ rest)) (joined-more c (y ∷ parts) part (omega arith)) ∙ sym (append_assoc x (c ∷ join_with_byte c (y ∷ parts)) (c ∷ part))

separated : (parts : List (List ℕ)) (part : List ℕ) (i : ℕ) → length parts ≡ i → (join_with_byte comma parts ++ separator i) ++ part ≡ join_with_byte comma (parts ++ part ∷ [])
separated [] part zero e = refl
separated [] part (suc i) e = absurd (omega arith)
separated (x ∷ parts) part zero e = absurd (omega arith)
separated (x ∷ parts) part (suc i) e = append_assoc (join_with_byte comma (x ∷ parts)) (comma ∷ []) part ∙ sym (joined-more comma (x ∷ parts) part (omega arith))

-- the next item's text, behind its separator, joins those before it
pub joined-next : {X : Type 0} (f : X → List ℕ) (start : List ℕ) {now between after : List ℕ} (items : List X) (i : ℕ) (item d : X) → i < length items → item ≡ get_or items i d →
    now ≡ start ++ join_with_byte comma (map f (take i items)) → between ≡ now ++ separator i → after ≡ between ++ f item →
    after ≡ start ++ join_with_byte comma (map f (take (i + 1) items))
joined-next f start {now} {between} {after} items i item d h is e1 e2 e3 =
    let long : length (map f (take i items)) ≡ i = omega (arith, length-map (take i items) f, length-take i items) in
    let step = separated (map f (take i items)) (f (get_or items i d)) i long in
    rw (e3, e2, e1, is, take_more items i d h, map-append, append_assoc start, append_assoc start, step) refl
