-- What forms of literals and operators say is their text.
use Rattle.std.proofs.Common.{◌≡◌, ◌∙◌, ℕ, suc, Bool, true, false, List, [], ◌∷◌, ◌++◌, map, refl, sym, ap, ap₂, append_assoc, append-nil}
use Rattle.std.specs.Prelude.{codes, ◌==◌, if◌then◌else◌, unsigned_abs}
use Rattle.std.specs.Fmt.{digits}
use Rattle.std.specs.Int.{is_negative}
use Rattle.null_logic.specs.declared.arith.Arith.{Arith}
use Rattle.null_logic.specs.declared.arith.Arith.TheVariants.{Add, Subtract, Multiply, Divide, Remainder}
use Rattle.null_logic.specs.declared.compare.Compare.{Compare}
use Rattle.null_logic.specs.declared.compare.Compare.TheVariants as compare
use Rattle.null_logic.specs.declared.operator.Operator.{Operator}
use Rattle.null_logic.specs.declared.operator.Operator.TheVariants as op
use Rattle.perm_values.specs.declared.kind.Kind.{Kind}
use Rattle.perm_values.specs.declared.kind.Kind.TheVariants as kinds
use Rattle.perm_values.specs.declared.value.Value.{Value}
use Rattle.perm_values.specs.declared.value.Value.TheVariants.{Null, Integer, Text, Boolean}
use Rattle.tree_texts.specs.FormPlans as plan
use Rattle.tree_texts.specs.Forms as f
use Rattle.tree_texts.specs.Forms.{ExprForm, enclosed}
use Rattle.tree_texts.specs.Phrases.{comparison, additive, multiplicative}
use Rattle.query_texts.specs.forms.ShownExpressions.{literal, signed, least, others, operated, additive_of, multiplicative_of}
use Rattle.tree_texts.specs.expressions.ExpressionTexts.{operated_text}
use Rattle.query_texts.specs.forms.Pieces.{said, expr_said}
use Rattle.tree_texts.specs.expressions.Words.{literal_text, signed_text, number_text, null_text, compare_text, additive_word, multiplicative_word, separated}

pub compare_said : (c : Compare) → said (comparison c) ≡ compare_text c
compare_said compare.Equal = refl
compare_said compare.NotEqual = refl
compare_said compare.Less = refl
compare_said compare.LessEqual = refl
compare_said compare.Greater = refl
compare_said compare.GreaterEqual = refl

pub additive_said : (a : Arith) → said (additive (additive_of a)) ≡ additive_word a
additive_said Add = refl
additive_said Subtract = refl
additive_said Multiply = refl
additive_said Divide = refl
additive_said Remainder = refl

pub multiplicative_said : (a : Arith) → said (multiplicative (multiplicative_of a)) ≡ multiplicative_word a
multiplicative_said Add = refl
multiplicative_said Subtract = refl
multiplicative_said Multiply = refl
multiplicative_said Divide = refl
multiplicative_said Remainder = refl

-- ---- literals

pub null_said : (kind : Kind) → expr_said (f.null kind) ≡ null_text kind
null_said kinds.Integer = refl
null_said kinds.Text = refl
null_said kinds.Boolean = refl

least_said : expr_said least ≡ codes "( ( - 9223372036854775807 ) - 1 ) "
unfolding digits
least_said = refl

negative_said : (amount : ℕ) (is_least : Bool) → expr_said (if is_least then least else enclosed (f.negative (f.integer amount)))
    ≡ (if is_least then codes "( ( - 9223372036854775807 ) - 1 ) " else codes "( - " ++ (number_text amount ++ codes ") "))
negative_said amount true = least_said
negative_said amount false = refl

signed_said : (negative : Bool) (amount : ℕ) → expr_said (signed negative amount) ≡ signed_text negative amount
signed_said false amount = refl
signed_said true amount = negative_said amount (amount == 9223372036854775808)

truth_said : (truth : Bool) (kind : Kind) → expr_said (literal (Boolean truth) kind) ≡ literal_text (Boolean truth) kind
truth_said true kind = refl
truth_said false kind = refl

pub literal_said : (v : Value) (kind : Kind) → expr_said (literal v kind) ≡ literal_text v kind
literal_said Null kind = null_said kind
literal_said (Integer number) kind = signed_said (is_negative number) (unsigned_abs number)
literal_said (Text spelled) kind = refl
literal_said (Boolean truth) kind = truth_said truth kind

-- ---- lists of parts

module _ (first : List ℕ) where
  ands_said : (more : List ExprForm) (n : ℕ) → said (plan.behind_ands (others more)) ≡ separated first (codes "AND ") (suc (suc n)) (map expr_said more)
  ands_said [] n = refl
  ands_said (a ∷ more) n = ap (λ t. codes "AND " ++ (expr_said a ++ t)) (ands_said more (suc n))

  ors_said : (more : List ExprForm) (n : ℕ) → said (plan.behind_ors (others more)) ≡ separated first (codes "OR ") (suc (suc n)) (map expr_said more)
  ors_said [] n = refl
  ors_said (a ∷ more) n = ap (λ t. codes "OR " ++ (expr_said a ++ t)) (ors_said more (suc n))

  commas_said : (more : List ExprForm) (n : ℕ) → said (plan.behind_commas (others more)) ≡ separated first (codes ", ") (suc (suc n)) (map expr_said more)
  commas_said [] n = refl
  commas_said (a ∷ more) n = ap (λ t. codes ", " ++ (expr_said a ++ t)) (commas_said more (suc n))

-- ---- operators

-- what stands between parentheses
abbrev within : List ℕ → List ℕ
within text = codes "( " ++ (text ++ codes ") ")

listed_within : (a b more : List ℕ) → within (a ++ (codes "IN ( " ++ ((b ++ more) ++ codes ") "))) ≡ codes "( " ++ ((a ++ (codes "IN ( " ++ (b ++ more))) ++ codes ") ) ")
listed_within a b more =
    ap (λ t. codes "( " ++ t) (append_assoc a (codes "IN ( " ++ ((b ++ more) ++ codes ") ")) (codes ") ")
    ∙ ap (λ t. a ++ (codes "IN ( " ++ t)) (append_assoc (b ++ more) (codes ") ") (codes ") "))
    ∙ sym (append_assoc a (codes "IN ( " ++ (b ++ more)) (codes ") ) ")))

pub operated_said : (operator : Operator) (parts : List ExprForm) → expr_said (operated operator parts) ≡ operated_text operator (map expr_said parts)
operated_said op.And [] = refl
operated_said op.And (a ∷ []) = refl
operated_said op.And (a ∷ b ∷ more) = ap (λ t. within (expr_said a ++ (codes "AND " ++ (expr_said b ++ t)))) (ands_said (codes "AND ") more 0)
operated_said op.Or [] = refl
operated_said op.Or (a ∷ []) = refl
operated_said op.Or (a ∷ b ∷ more) = ap (λ t. within (expr_said a ++ (codes "OR " ++ (expr_said b ++ t)))) (ors_said (codes "OR ") more 0)
operated_said op.Not [] = refl
operated_said op.Not (a ∷ []) = ap (λ t. codes "( NOT " ++ (t ++ codes ") ")) (sym (append-nil (expr_said a)))
operated_said op.Not (a ∷ b ∷ more) = refl
operated_said op.Negate [] = refl
operated_said op.Negate (a ∷ []) = ap (λ t. codes "( - " ++ (t ++ codes ") ")) (sym (append-nil (expr_said a)))
operated_said op.Negate (a ∷ b ∷ more) = refl
operated_said (op.Compare c) [] = refl
operated_said (op.Compare c) (a ∷ []) = refl
operated_said (op.Compare c) (a ∷ b ∷ []) =
    ap₂ (λ word t. within (expr_said a ++ (word ++ t))) (compare_said c) (sym (append-nil (expr_said b)))
operated_said (op.Compare c) (a ∷ b ∷ d ∷ more) = refl
operated_said (op.Arith c) parts = refl
operated_said op.Like [] = refl
operated_said op.Like (a ∷ []) = refl
operated_said op.Like (a ∷ b ∷ []) = ap (λ t. within (expr_said a ++ (codes "LIKE " ++ t))) (sym (append-nil (expr_said b)))
operated_said op.Like (a ∷ b ∷ c ∷ more) = refl
operated_said op.Between [] = refl
operated_said op.Between (a ∷ []) = refl
operated_said op.Between (a ∷ b ∷ []) = refl
operated_said op.Between (a ∷ b ∷ c ∷ []) =
    ap (λ t. within (expr_said a ++ (codes "BETWEEN " ++ (expr_said b ++ (codes "AND " ++ t))))) (sym (append-nil (expr_said c)))
operated_said op.Between (a ∷ b ∷ c ∷ d ∷ more) = refl
operated_said op.InList [] = refl
operated_said op.InList (a ∷ []) = refl
operated_said op.InList (a ∷ b ∷ []) = ap (λ t. within (expr_said a ++ (codes "= " ++ t))) (sym (append-nil (expr_said b)))
operated_said op.InList (a ∷ b ∷ c ∷ more) =
    listed_within (expr_said a) (expr_said b) (said (plan.behind_commas (others (c ∷ more))))
    ∙ ap (λ t. codes "( " ++ ((expr_said a ++ (codes "IN ( " ++ (expr_said b ++ t))) ++ codes ") ) ")) (commas_said (codes "IN ( ") (c ∷ more) 0)
operated_said op.Coalesce [] = refl
operated_said op.Coalesce (a ∷ []) = sym (append-nil (expr_said a ++ []) ∙ append-nil (expr_said a))
operated_said op.Coalesce (a ∷ b ∷ more) =
    ap (λ t. codes "COALESCE ( " ++ ((expr_said a ++ (codes ", " ++ (expr_said b ++ t))) ++ codes ") ")) (commas_said (codes ", ") more 0)
operated_said op.NullIf [] = refl
operated_said op.NullIf (a ∷ []) = refl
operated_said op.NullIf (a ∷ b ∷ []) = ap (λ t. codes "NULLIF ( " ++ ((expr_said a ++ (codes ", " ++ t)) ++ codes ") ")) (sym (append-nil (expr_said b)))
operated_said op.NullIf (a ∷ b ∷ c ∷ more) = refl
