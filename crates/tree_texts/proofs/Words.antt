-- The words that a form chooses say in the tree what they say in the form, wherever they stand.
use Rattle.std.proofs.Common.{◌≡◌, ℕ, pos, Bool, true, false, List, Option, Some, None, refl}
use Rattle.std.specs.Prelude.{is_some}
use Rattle.null_logic.specs.declared.compare.Compare.{Compare}
use Rattle.null_logic.specs.declared.compare.Compare.TheVariants as compare
use Rattle.null_logic.specs.declared.truth.Truth.{Truth}
use Rattle.null_logic.specs.declared.truth.Truth.TheVariants as truths
use Rattle.perm_values.specs.declared.kind.Kind.{Kind}
use Rattle.perm_values.specs.declared.kind.Kind.TheVariants as kinds
use Rattle.sql_tree.specs.grammar.Building.{is, comparison_of, arith_of, truth_of, aggregate_of, outer_of, set_word, is_descending}
use Rattle.sql_tree.specs.grammar.Sorts.{same_sort, word_sort, symbol_sort}
use Rattle.sql_tree.specs.declared.grammar.sort.Sort.TheVariants as s
use Rattle.sql_tree.specs.declared.expression.ExprBody.TheVariants as e
use Rattle.sql_tree.specs.declared.source.JoinWord.TheVariants as join
use Rattle.tree_texts.specs.plans.Levels.{a_number}
use Rattle.tree_texts.specs.plans.Written.{token_for}
use Rattle.tree_texts.specs.Forms as f
use Rattle.tree_texts.specs.Forms.{Additive, Multiplicative, Folded, United}
use Rattle.tree_texts.specs.Phrases.{maybe_not, maybe_all, maybe_distinct, direction, comparison, truth_word, additive, multiplicative, folding, uniting, kind_word, text_literal, truth_literal, limited}
use Rattle.tree_texts.specs.Standing.{Places, at_span, given}
use Rattle.tree_texts.specs.Trees.{sum_of, product_of, fold_of, set_of, limit_of}

module _ (places : Places) (i : ℕ) where
  pub not_is : (b : Bool) → is_some (given places i (maybe_not b)) ≡ b
  not_is true = refl
  not_is false = refl

  pub all_is : (b : Bool) → is_some (given places i (maybe_all b)) ≡ b
  all_is true = refl
  all_is false = refl

  pub distinct_is : (b : Bool) → is_some (given places i (maybe_distinct b)) ≡ b
  distinct_is true = refl
  distinct_is false = refl

  pub direction_is : (b : Bool) → is_descending (given places i (direction b)) ≡ b
  unfolding same_sort word_sort
  direction_is true = refl
  direction_is false = refl

  pub comparison_is : (op : Compare) → comparison_of (given places i (comparison op)) ≡ op
  unfolding same_sort symbol_sort
  comparison_is compare.Equal = refl
  comparison_is compare.NotEqual = refl
  comparison_is compare.Less = refl
  comparison_is compare.LessEqual = refl
  comparison_is compare.Greater = refl
  comparison_is compare.GreaterEqual = refl

  pub any_is : is (at_span (places i) (token_for s.Any)) s.All ≡ false
  unfolding same_sort word_sort
  any_is = refl

  pub every_is : is (at_span (places i) (token_for s.All)) s.All ≡ true
  unfolding same_sort word_sort
  every_is = refl

  pub truth_is : (truth : Truth) → truth_of (given places i (truth_word truth)) ≡ truth
  unfolding same_sort word_sort
  truth_is truths.True = refl
  truth_is truths.False = refl
  truth_is truths.Unknown = refl

  pub additive_is : (op : Additive) → arith_of (given places i (additive op)) ≡ sum_of op
  unfolding same_sort symbol_sort
  additive_is f.plus = refl
  additive_is f.minus = refl

  pub multiplicative_is : (op : Multiplicative) → arith_of (given places i (multiplicative op)) ≡ product_of op
  unfolding same_sort symbol_sort
  multiplicative_is f.times = refl
  multiplicative_is f.divided = refl
  multiplicative_is f.modulo = refl

  pub folding_is : (function : Folded) → aggregate_of (given places i (folding function)) ≡ fold_of function
  unfolding same_sort word_sort
  folding_is f.sum = refl
  folding_is f.least = refl
  folding_is f.greatest = refl

  pub uniting_is : (kind : United) → set_word (given places i (uniting kind)) ≡ set_of kind
  unfolding same_sort word_sort
  uniting_is f.union = refl
  uniting_is f.except = refl

  pub right_is : outer_of (at_span (places i) (token_for s.Right)) ≡ join.Right
  unfolding same_sort word_sort
  right_is = refl

  pub full_is : outer_of (at_span (places i) (token_for s.Full)) ≡ join.Full
  unfolding same_sort word_sort
  full_is = refl

  pub kind_is : (k : Kind) → given places i (kind_word k) ≡ k
  unfolding same_sort word_sort
  kind_is kinds.Integer = refl
  kind_is kinds.Text = refl
  kind_is kinds.Boolean = refl

  pub number_is : (number : ℕ) → given places i (a_number number) ≡ e.Integer (pos number)
  unfolding same_sort
  number_is number = refl

  pub text_is : (spelled : List ℕ) → given places i (text_literal spelled) ≡ e.Text spelled
  unfolding same_sort
  text_is spelled = refl

  pub truth_literal_is : (truth : Bool) → given places i (truth_literal truth) ≡ e.Truth truth
  unfolding same_sort word_sort
  truth_literal_is true = refl
  truth_literal_is false = refl

  pub limit_is : (number : Option ℕ) → given places i (limited number) ≡ limit_of number
  limit_is None = refl
  limit_is (Some number) = refl
