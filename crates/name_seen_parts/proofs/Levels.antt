-- What a reference means in one scope, and further out.
use Rattle.std.specs.Prelude.{◌≡◌, ℕ, zero, suc, ◌+◌, ◌-◌, ◌<◌, min, Bool, true, false, List, [], ◌∷◌, take, Option, Some, None, option_map}
use Rattle.std.specs.Option.{option_map_or}
use Rattle.std.proofs.Common.{refl, ap, sym, ◌∙◌, add-one, arith}
use Rattle.sql_tree.specs.declared.name.ColRef.{ColRef}
use Rattle.sql_tree.specs.declared.name.Name.{Name}
use Rattle.name_meaning.specs.Scopes.{Placed, look_up, meant_by, meant_in, found_among}
use Rattle.name_meaning.specs.declared.scope.Found.{Found}
use Rattle.name_meaning.specs.declared.scope.Found.TheVariants.{Absent}
use Rattle.name_meaning.specs.declared.scope.Scope.{Scope}
use Rattle.name_seen_parts.specs.Named.{here_only}

mapped-or : {X : Type 0} (f : X → Found) (there : Option X) (rest : Found)
    → option_map_or f there rest ≡ option_map_or (λ (found : Found). found) (option_map f there) rest
mapped-or f None rest = refl
mapped-or f (Some x) rest = refl

meant-bare : (table : Option Name) (name : List ℕ) (bare : Bool) (scope : Scope) → meant_by table name scope ≡ meant_by table name (here_only bare scope)
meant-bare None name true scope = refl
meant-bare (Some table) name true scope = refl
meant-bare table name false scope = refl

one-scope : (bare : Bool) (level : ℕ) (scope : Scope) (rest : List Scope) (reference : ColRef)
    → look_up level (here_only bare scope ∷ rest) reference
    ≡ option_map_or (λ (found : Found). found) (option_map (found_among level (here_only bare scope)) (meant_in reference scope)) (look_up (suc level) rest reference)
one-scope bare level scope rest reference =
    ap (λ (meant : Option (List Placed)). option_map_or (found_among level (here_only bare scope)) meant (look_up (suc level) rest reference))
    (sym (meant-bare reference.table reference.name.text bare scope))
    ∙ mapped-or (found_among level (here_only bare scope)) (meant_in reference scope) (look_up (suc level) rest reference)

pub there : (bare : Bool) (level : ℕ) (scope : Scope) (rest : List Scope) (reference : ColRef) (found : Found)
    → option_map (found_among level (here_only bare scope)) (meant_in reference scope) ≡ Some found
    → look_up level (here_only bare scope ∷ rest) reference ≡ found
there bare level scope rest reference found e =
    one-scope bare level scope rest reference
    ∙ ap (λ (there : Option Found). option_map_or (λ (found : Found). found) there (look_up (suc level) rest reference)) e

pub not-there : (bare : Bool) (level : ℕ) (scope : Scope) (rest : List Scope) (reference : ColRef)
    → option_map (found_among level (here_only bare scope)) (meant_in reference scope) ≡ None
    → look_up level (here_only bare scope ∷ rest) reference ≡ look_up (level + 1) rest reference
not-there bare level scope rest reference e =
    one-scope bare level scope rest reference
    ∙ ap (λ (there : Option Found). option_map_or (λ (found : Found). found) there (look_up (suc level) rest reference)) e
    ∙ rw add-one refl

-- ---- as many scopes as are left

none-kept : {X : Type 0} (n : ℕ) → ◌≡◌ {A = List X} (take n []) []
none-kept zero = refl
none-kept (suc n) = refl

fewer : {X : Type 0} (left depth : ℕ) (xs : List X) → take left (take depth xs) ≡ take (min left depth) xs
fewer zero depth xs =
    let none : 0 ≡ min 0 depth = omega arith in
    ap (λ n. take n xs) none
fewer (suc left) zero xs =
    let none : 0 ≡ min (suc left) 0 = omega arith in
    ap (λ n. take n xs) none
fewer (suc left) (suc depth) [] = sym (none-kept (min (suc left) (suc depth)))
fewer (suc left) (suc depth) (x ∷ xs) =
    let more : suc (min left depth) ≡ min (suc left) (suc depth) = omega arith in
    ap (λ rest. x ∷ rest) (fewer left depth xs) ∙ ap (λ n. take n (x ∷ xs)) more

front : {X : Type 0} (n : ℕ) (x : X) (xs : List X) → 0 < n → take n (x ∷ xs) ≡ x ∷ take (n - 1) xs
front zero x xs some = absurd (omega arith)
front (suc n) x xs some =
    let before : n ≡ suc n - 1 = omega arith in
    ap (λ m. x ∷ take m xs) before

pub none-out : (left level : ℕ) (reference : ColRef) → look_up level (take left []) reference ≡ Absent
none-out left level reference = ap (λ (scopes : List Scope). look_up level scopes reference) (none-kept left)

pub none-left : (left depth level : ℕ) (scopes : List Scope) (reference : ColRef) → min left depth ≡ 0
    → look_up level (take left (take depth scopes)) reference ≡ Absent
none-left left depth level scopes reference none =
    ap (λ (scopes : List Scope). look_up level scopes reference) (fewer left depth scopes ∙ ap (λ n. take n scopes) none)

pub first-left : (left depth level : ℕ) (scope : Scope) (rest : List Scope) (reference : ColRef) → 0 < min left depth
    → look_up level (take left (take depth (scope ∷ rest))) reference ≡ look_up level (scope ∷ take (min left depth - 1) rest) reference
first-left left depth level scope rest reference some =
    ap (λ (scopes : List Scope). look_up level scopes reference)
    (fewer left depth (scope ∷ rest) ∙ front (min left depth) scope rest some)
