-- Columns whose items' numbers ascend, cut in two and with one more.
use Rattle.std.proofs.Common.{◌≡◌, ℕ, zero, suc, ◌<◌, ◌≤◌, List, [], ◌∷◌, ◌++◌, length, take, drop, get_or, refl, sym, subst, arith}
use Rattle.name_meaning.specs.Ascending.{Ascends, AscendsTo, Below, From, last_item}
use Rattle.name_meaning.specs.declared.scope.ScopeColumn.{ScopeColumn}

at-least : (low : ℕ) (columns : List ScopeColumn) (m : ℕ) (other : ScopeColumn) → Ascends low columns → m < length columns → low ≤ (get_or columns m other).item
at-least low [] m other a within = absurd (omega arith)
at-least low (x ∷ xs) zero other a within = a.0
at-least low (x ∷ xs) (suc m) other a within =
    let behind : x.item ≤ (get_or xs m other).item = at-least x.item xs m other a.1 (omega arith) in
    omega (arith, a.0, behind)

all-from : (n low : ℕ) (columns : List ScopeColumn) → n ≤ low → Ascends low columns → From n columns
all-from n low [] few a = tt
all-from n low (x ∷ xs) few a = (omega (arith, few, a.0), all-from n x.item xs (omega (arith, few, a.0)) a.1)

pub below-through : (n low : ℕ) (columns : List ScopeColumn) (m : ℕ) (other : ScopeColumn) → Ascends low columns → m < length columns
    → (get_or columns m other).item < n → Below n (take (suc m) columns)
below-through n low [] m other a within under = absurd (omega arith)
below-through n low (x ∷ xs) zero other a within under = (under, tt)
below-through n low (x ∷ xs) (suc m) other a within under =
    let behind : x.item ≤ (get_or xs m other).item = at-least x.item xs m other a.1 (omega arith) in
    (omega (arith, under, behind), below-through n x.item xs m other a.1 (omega arith) under)

pub from-on : (n low : ℕ) (columns : List ScopeColumn) (m : ℕ) (other : ScopeColumn) → Ascends low columns → m < length columns
    → n ≤ (get_or columns m other).item → From n (drop m columns)
from-on n low [] m other a within over = absurd (omega arith)
from-on n low (x ∷ xs) zero other a within over = (over, all-from n x.item xs over a.1)
from-on n low (x ∷ xs) (suc m) other a within over = from-on n x.item xs m other a.1 (omega arith) over

pub from-further : (n : ℕ) (columns : List ScopeColumn) (m k : ℕ) → m ≤ k → From n (drop m columns) → From n (drop k columns)
from-further n [] m zero more f = tt
from-further n [] m (suc k) more f = tt
from-further n (x ∷ xs) zero zero more f = f
from-further n (x ∷ xs) zero (suc k) more f = from-further n xs zero k (omega arith) f.1
from-further n (x ∷ xs) (suc m) zero more f = absurd (omega (arith, more))
from-further n (x ∷ xs) (suc m) (suc k) more f = from-further n xs m k (omega (arith, more)) f

ascends-more : (low : ℕ) (columns : List ScopeColumn) (c : ScopeColumn) → Ascends low columns → last_item low columns ≤ c.item → Ascends low (columns ++ c ∷ [])
ascends-more low [] c a most = (most, tt)
ascends-more low (x ∷ xs) c a most = (a.0, ascends-more x.item xs c a.1 most)

last-more : (low : ℕ) (columns : List ScopeColumn) (c : ScopeColumn) → last_item low (columns ++ c ∷ []) ≡ c.item
last-more low [] c = refl
last-more low (x ∷ xs) c = last-more x.item xs c

pub ascends_to-more : (last : ℕ) (columns : List ScopeColumn) (c : ScopeColumn) → AscendsTo last columns → last ≤ c.item → AscendsTo c.item (columns ++ c ∷ [])
ascends_to-more last columns c a most =
    (ascends-more 0 columns c a.0 (subst (λ (n : ℕ). n ≤ c.item) a.1 most), sym (last-more 0 columns c))
