-- What conditions, keys and the names of an answer say is their text.
use Rattle.std.proofs.Common.{◌≡◌, ◌∙◌, ℕ, zero, suc, ◌+◌, Bool, true, false, List, [], ◌∷◌, ◌++◌, map, refl, sym, ap, ap₂, append_assoc}
use Rattle.std.specs.Prelude.{codes, length}
use Rattle.std.specs.List.{flat_map, range_with_len}
use Rattle.perm_values.specs.declared.key.Key.{Key}
use Rattle.perm_values.specs.declared.kind.Kind.{Kind}
use Rattle.tree_texts.specs.FormPlans as plan
use Rattle.tree_texts.specs.Forms.{ExprForm, KeyForm}
use Rattle.tree_texts.specs.Phrases.{direction, key, more_keys, ordered, grouped, more_groups}
use Rattle.query_texts.specs.clauses.Names.{outermost}
use Rattle.query_texts.specs.forms.ShownExpressions.{never, never_arms, beside}
use Rattle.query_texts.specs.forms.ShownQueries.{own_column, own_columns, key_form, called_from}
use Rattle.tree_texts.specs.expressions.ExpressionTexts.{arms_text}
use Rattle.query_texts.specs.forms.Pieces.{said, expr_said}
use Rattle.query_texts.specs.clauses.ClauseTexts.{comma, grouped_column, grouped_text, direction_text, key_text, key_texts, ordered_text, called_items, nevers_text, beside_text}
use Rattle.tree_texts.specs.expressions.Words.{name_text, number_text, null_text, reference_text, unless_none}
use Rattle.query_texts.proofs.SaidExpressions.{arm_said, cases_said}
use Rattle.query_texts.proofs.SaidLists.{comma_next}
use Rattle.query_texts.proofs.SaidOperators.{null_said}

-- ---- sublinks beside an expression

never_regroup : (s n : List ℕ) → codes "WHEN ( ( " ++ (((((s ++ codes "IS NULL ") ++ codes ") ") ++ codes "IS NULL ") ++ codes ") ") ++ (codes "THEN " ++ n))
    ≡ codes "WHEN ( ( " ++ (s ++ (codes "IS NULL ) IS NULL ) THEN " ++ n))
never_regroup s n =
    ap (λ t. codes "WHEN ( ( " ++ (((t ++ codes "IS NULL ") ++ codes ") ") ++ (codes "THEN " ++ n))) (append_assoc s (codes "IS NULL ") (codes ") "))
    ∙ ap (λ t. codes "WHEN ( ( " ++ ((t ++ codes ") ") ++ (codes "THEN " ++ n))) (append_assoc s (codes "IS NULL ) ") (codes "IS NULL "))
    ∙ ap (λ t. codes "WHEN ( ( " ++ (t ++ (codes "THEN " ++ n))) (append_assoc s (codes "IS NULL ) IS NULL ") (codes ") "))
    ∙ ap (λ t. codes "WHEN ( ( " ++ t) (append_assoc s (codes "IS NULL ) IS NULL ) ") (codes "THEN " ++ n))

nevers_said : (kind : Kind) (unused : List ExprForm) → arms_text (map arm_said (never_arms kind unused)) ≡ nevers_text kind (map expr_said unused)
nevers_said kind [] = refl
nevers_said kind (sub ∷ unused) =
    ap₂ (λ a b. a ++ b) (ap (λ n. codes "WHEN " ++ (expr_said (never sub) ++ (codes "THEN " ++ n))) (null_said kind) ∙ never_regroup (expr_said sub) (null_text kind))
    (nevers_said kind unused)

beside_regroup : (nevers a : List ℕ) → codes "CASE " ++ (nevers ++ (codes "ELSE " ++ (a ++ codes "END "))) ≡ (codes "CASE " ++ (nevers ++ codes "ELSE ")) ++ (a ++ codes "END ")
beside_regroup nevers a = ap (λ t. codes "CASE " ++ t) (sym (append_assoc nevers (codes "ELSE ") (a ++ codes "END ")))

pub beside_said : (kind : Kind) (unused : List ExprForm) (a : ExprForm) → expr_said (beside kind unused a) ≡ beside_text kind (map expr_said unused) (expr_said a)
beside_said kind [] a = cases_said [] a
beside_said kind (sub ∷ unused) a =
    cases_said (never_arms kind (sub ∷ unused)) a
    ∙ ap (λ nevers. codes "CASE " ++ (nevers ++ (codes "ELSE " ++ (expr_said a ++ codes "END ")))) (nevers_said kind (sub ∷ unused))
    ∙ beside_regroup (nevers_text kind (map expr_said (sub ∷ unused))) (expr_said a)

-- ---- GROUP BY

module _ (prefix : List ℕ) where
  more_grouped : (number count : ℕ) → codes ", " ≡ comma number
      → said (more_groups (map (own_column prefix) (range_with_len (number + 1) count))) ≡ flat_map (grouped_column prefix) (range_with_len number count)
  more_grouped number zero behind = refl
  more_grouped number (suc count) behind =
      ap₂ (λ word rest. (word ++ reference_text prefix 0 (number + 1)) ++ rest) behind (more_grouped (number + 1) count (comma_next number))

  pub grouped_said : (count : ℕ) → said (grouped (own_columns prefix count)) ≡ grouped_text prefix count
  grouped_said zero = refl
  grouped_said (suc count) = ap (λ rest. codes "GROUP BY " ++ (reference_text prefix 0 1 ++ rest)) (more_grouped 1 count refl)

-- ---- ORDER BY

-- keys from a number on
abbrev form_text : ℕ → KeyForm → List ℕ
form_text number key = comma number ++ (number_text key.position ++ direction_text key.descending)

abbrev forms_text : ℕ → List KeyForm → List ℕ
forms_text number [] = []
forms_text number (key ∷ keys) = form_text number key ++ forms_text (number + 1) keys

direction_said : (descending : Bool) → said (direction descending) ≡ direction_text descending
direction_said true = refl
direction_said false = refl

more_keys_said : (number : ℕ) (keys : List KeyForm) → codes ", " ≡ comma number → said (more_keys keys) ≡ forms_text number keys
more_keys_said number [] behind = refl
more_keys_said number (key ∷ keys) behind =
    ap₂ (λ word rest. (word ++ (number_text key.position ++ said (direction key.descending))) ++ rest) behind (more_keys_said (number + 1) keys (comma_next number))
    ∙ ap (λ d. (comma number ++ (number_text key.position ++ d)) ++ forms_text (number + 1) keys) (direction_said key.descending)

ordered_said : (keys : List KeyForm) → said (ordered keys) ≡ unless_none (length keys) (codes "ORDER BY ") ++ forms_text 0 keys
ordered_said [] = refl
ordered_said (key ∷ keys) =
    ap₂ (λ d rest. codes "ORDER BY " ++ ((number_text key.position ++ d) ++ rest)) (direction_said key.descending) (more_keys_said 1 keys refl)

keys_text : (number : ℕ) (keys : List Key) → forms_text number (map key_form keys) ≡ key_texts number keys
keys_text number [] = refl
keys_text number (key ∷ keys) =
    ap (λ rest. key_text number key ++ rest) (keys_text (number + 1) keys)

same_length : (keys : List Key) → length (map key_form keys) ≡ length keys
same_length [] = refl
same_length (key ∷ keys) = ap suc (same_length keys)

pub order_said : (keys : List Key) → said (ordered (map key_form keys)) ≡ ordered_text keys
order_said keys =
    ordered_said (map key_form keys) ∙ ap₂ (λ n t. unless_none n (codes "ORDER BY ") ++ t) (same_length keys) (keys_text 0 keys)

-- ---- the names of an answer

pub called_said : (number : ℕ) (names : List (List ℕ)) → codes ", " ≡ comma number → said (plan.items (called_from (number + 1) names)) ≡ called_items number names
called_said number [] behind = refl
called_said number (name ∷ names) behind =
    let reference : List ℕ = reference_text outermost 0 (number + 1) in
    ap₂ (λ word rest. (word ++ (reference ++ (codes "AS " ++ name_text name))) ++ rest) behind (called_said (number + 1) names (comma_next number))
