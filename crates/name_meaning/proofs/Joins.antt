-- FROM's items, one after another: all joins so far and one more, and the columns of items and further items.
use Rattle.std.proofs.Common.{◌≡◌, ℕ, suc, ◌+◌, List, [], ◌∷◌, ◌++◌, length, refl, sym, ap, ◌∙◌, append_assoc, arith}
use Rattle.name_meaning.specs.Froms.{FromMeant, JoinPart, join_all, join_item, joined_item}
use Rattle.name_meaning.specs.Scopes.{ScopeItem, columns_from, numbered_columns}
use Rattle.name_meaning.specs.declared.scope.Scope.{Scope}
use Rattle.name_meaning.specs.declared.scope.ScopeColumn.{ScopeColumn}

pub joins-behind : (outer : List Scope) (left : FromMeant) (steps : List JoinPart) (step : JoinPart)
    → join_all outer left (steps ++ step ∷ [])
    ≡ join_item outer (join_all outer left steps) step (joined_item outer (join_all outer left steps) step)
joins-behind outer left [] step = refl
joins-behind outer left (s ∷ steps) step = joins-behind outer (join_item outer left s (joined_item outer left s)) steps step

pub joins-so-far : (outer : List Scope) (left : FromMeant) (steps more : List JoinPart)
    → join_all outer left (steps ++ more) ≡ join_all outer (join_all outer left steps) more
joins-so-far outer left [] more = refl
joins-so-far outer left (s ∷ steps) more = joins-so-far outer (join_item outer left s (joined_item outer left s)) steps more

pub columns_from-append : (number : ℕ) (items more : List ScopeItem)
    → columns_from number (items ++ more) ≡ columns_from number items ++ columns_from (number + length items) more
columns_from-append number [] more =
    let same : number ≡ number + 0 = omega arith in
    ap (λ (n : ℕ). columns_from n more) same
columns_from-append number (item ∷ items) more =
    let same : suc number + length items ≡ number + suc (length items) = omega arith in
    ap (λ (rest : List ScopeColumn). numbered_columns number item.columns ++ rest) (columns_from-append (suc number) items more)
    ∙ ap (λ (n : ℕ). numbered_columns number item.columns ++ (columns_from (suc number) items ++ columns_from n more)) same
    ∙ sym (append_assoc (numbered_columns number item.columns) (columns_from (suc number) items) (columns_from (number + suc (length items)) more))
