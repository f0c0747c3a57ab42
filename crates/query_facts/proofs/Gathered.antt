-- Columns that are put behind others, item by item.
use Rattle.std.proofs.Common.{◌≡◌, ℕ, ◌+◌, ◌<◌, ◌≤◌, List, [], ◌∷◌, ◌++◌, length, get_or, take, append-nil, append_assoc, sym, ap, ◌∙◌, subst, Result}
use Rattle.std.specs.Prelude.{IfOk}
use Rattle.std.specs.List.{flat_map}
use Rattle.std.proofs.lemmas.Grind.{flat_map-append}
use Rattle.std.proofs.lemmas.List.{take_all, take_more}
use Rattle.perm_values.specs.declared.no_memory.NoMemory.{NoMemory}
use Rattle.query_facts.specs.reached.reads.Columns.{behind}
use Rattle.query_facts.specs.declared.reached.reads.queries.OuterColumn.{OuterColumn}

-- a loop that goes up to an item has put the columns of the items before it behind those that were there
abbrev pub SoFar : {X : Type 0} → (X → List OuterColumn) → List X → List OuterColumn → ℕ → List OuterColumn → Type 0
SoFar f xs found i columns = columns ≡ found ++ flat_map f (take i xs)

pub none-yet : {X : Type 0} (f : X → List OuterColumn) (xs : List X) (found : List OuterColumn) → SoFar f xs found 0 found
none-yet f xs found = sym (append-nil found)

module _ {X : Type 0} (f : X → List OuterColumn) (xs : List X) (found : List OuterColumn) (i : ℕ) (columns : List OuterColumn) (so_far : SoFar f xs found i columns) where
  pub one-more : (x : X) (next : List OuterColumn) → i < length xs → x ≡ get_or xs i x → next ≡ columns ++ f x → SoFar f xs found (i + 1) next
  one-more x next inside item e =
      e ∙ ap (λ cs. cs ++ f x) so_far ∙ append_assoc found (flat_map f (take i xs)) (f x)
      ∙ ap (λ cs. found ++ cs)
      (ap (λ cs. flat_map f (take i xs) ++ cs) (sym (append-nil (f x))) ∙ sym (flat_map-append f (take i xs) (x ∷ []))
      ∙ ap (flat_map f) (sym (take_more xs i x inside ∙ ap (λ y. take i xs ++ y ∷ []) (sym item))))

  pub all-done : length xs ≤ i → columns ≡ found ++ flat_map f xs
  all-done h = so_far ∙ ap (λ ys. found ++ flat_map f ys) (take_all i xs h)

-- a result said in other words
pub said_as : (r : Result (List OuterColumn) NoMemory) (columns others : List OuterColumn) → columns ≡ others → IfOk r (λ cs. cs ≡ columns) → IfOk r (λ cs. cs ≡ others)
said_as r columns others e h = subst (λ xs. IfOk r (λ cs. cs ≡ xs)) e h

-- no more behind what was found, and two parts
pub no-more : (found whole : List OuterColumn) → whole ≡ [] → found ≡ found ++ whole
no-more found whole e = sym (ap (λ cs. found ++ cs) e ∙ append-nil found)

pub two-more : (found first second middle whole : List OuterColumn) → middle ≡ found ++ first → whole ≡ first ++ second → middle ++ second ≡ found ++ whole
two-more found first second middle whole e f = ap (λ cs. cs ++ second) e ∙ append_assoc found first second ∙ ap (λ cs. found ++ cs) (sym f)

-- a node with an input: the input's, then those of its own expressions and sublinks as they are seen from outside
pub node-more : (found input own middle mine whole : List OuterColumn) → middle ≡ found ++ input → mine ≡ own → whole ≡ input ++ behind own → middle ++ behind mine ≡ found ++ whole
node-more found input own middle mine whole e f is = ap (λ cs. middle ++ behind cs) f ∙ two-more found input (behind own) middle whole e is
