-- How high at least a list is, one part after the other.
use Rattle.std.specs.Prelude.{◌≡◌, ◌<◌, ◌+◌, ℕ, max, List, [], ◌∷◌, ◌++◌, length, map, fold, take}
use Rattle.std.proofs.Common.{ap, arith, get_or, sym, length-take, ◌∙◌}
use Rattle.std.proofs.lemmas.List.{length-map, map-append}
use Rattle.std.proofs.lemmas.List.Sums.{fold_push}
use Rattle.perm_values.proofs.Lists.{taken}
use Rattle.name_inside.specs.heights.Least.{above_both, chain_least, sources_least}

pub regrouped : (a b c both all : ℕ) → both ≡ max a b → all ≡ max both c → all ≡ max a (max b c)
regrouped a b c both all first more = omega (arith, first, more)

module _ {X : Type 0} (least : X → ℕ) (xs : List X) (i : ℕ) (x : X) (within : i < length xs) (is : x ≡ get_or xs i x) where
  mapped : map least (take (i + 1) xs) ≡ map least (take i xs) ++ least x ∷ []
  mapped = ap (map least) (taken xs i x within is) ∙ map-append least (take i xs) (x ∷ [])

  -- one more part of a chain, or of what is as high as the highest
  pub grown : (over : ℕ → ℕ → ℕ) (first height part new : ℕ) → new ≡ over height part → part ≡ least x → height ≡ fold over first (map least (take i xs))
      → new ≡ fold over first (map least (take (i + 1) xs))
  grown over first height part new e of_part so_far =
      e
      ∙ ap (λ h. over h part) so_far
      ∙ ap (over (fold over first (map least (take i xs)))) of_part
      ∙ sym (ap (fold over first) mapped ∙ fold_push over first (map least (take i xs)) (least x))

  pub grown-sources : (height part new : ℕ) → (i ≡ 0 → new ≡ part) → (0 < i → new ≡ above_both height part) → part ≡ least x
      → height ≡ sources_least (map least (take i xs)) → new ≡ sources_least (map least (take (i + 1) xs))
  grown-sources height part new first more of_part so_far = by (map least (take i xs)) so_far count ∙ ap sources_least (sym mapped)
    where
      count : length (map least (take i xs)) ≡ i
      count = length-map (take i xs) least ∙ omega (arith, length-take i xs, within)

      by : (heights : List ℕ) → height ≡ sources_least heights → length heights ≡ i → new ≡ sources_least (heights ++ least x ∷ [])
      by [] e none = first (sym none) ∙ of_part
      by (h ∷ hs) e some =
          more (omega (arith, some))
          ∙ ap (λ n. above_both n part) e
          ∙ ap (above_both (chain_least h hs)) of_part
          ∙ sym (fold_push above_both h hs (least x))
