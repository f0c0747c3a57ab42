-- What columns, literals, and parts alone are read as.
use Rattle.std.proofs.Common.{◌≡◌, ℕ, ◌+◌, Bool, true, false, ◌&&◌, List, [], ◌∷◌, map, pos, Some, None, refl, sym, ap, subst, ◌∙◌, true≢false, append-nil}
use Rattle.std.specs.Int.{is_negative}
use Rattle.std.specs.Prelude.{ℤ, nat_lt, unsigned_abs}
use Rattle.null_logic.specs.declared.operator.Operator.TheVariants as x
use Rattle.perm_values.specs.Values.{fits}
use Rattle.perm_values.specs.declared.kind.Kind.{Kind}
use Rattle.perm_values.specs.declared.kind.Kind.TheVariants as kinds
use Rattle.perm_values.specs.declared.value.Value.{Value}
use Rattle.perm_values.specs.declared.value.Value.TheVariants.{Null, Integer, Text, Boolean}
use Rattle.bag_algebra.specs.WellFormed.{column_kind}
use Rattle.bag_algebra.specs.declared.expr.Expr.{Expr}
use Rattle.bag_algebra.specs.declared.expr.Expr.TheVariants.{Col, Lit}
use Rattle.bag_algebra.specs.declared.query.Sublink.{Sublink}
use Rattle.perm_catalog.specs.Contents.{Contents}
use Rattle.sql_tree.specs.declared.expression.ExprTree.{ExprTree}
use Rattle.sql_tree.specs.declared.name.ColRef.{ColRef}
use Rattle.name_meaning.proofs.Forms.{means-column, means-integer, means-nullof, means-text, means-truth}
use Rattle.name_meaning.specs.Expressions.{first_of, known, times}
use Rattle.name_meaning.specs.Meanings.{Surroundings, broken_if, means_at}
use Rattle.name_meaning.specs.Operands.{operand}
use Rattle.name_meaning.specs.Scopes.{look_up}
use Rattle.name_meaning.specs.Sublinks.{column_meant}
use Rattle.name_meaning.specs.Trees.{part_of}
use Rattle.name_meaning.specs.declared.need.Gives.TheVariants.{Always as always}
use Rattle.name_meaning.specs.declared.need.Need.{Need}
use Rattle.name_meaning.specs.declared.need.Need.TheVariants.{OfKind as of_kind}
use Rattle.name_meaning.specs.declared.rule.Rule.TheVariants as rule
use Rattle.name_meaning.specs.declared.scope.Found.TheVariants.{Column as found}
use Rattle.tree_texts.specs.expressions.Names.{column_name}
use Rattle.tree_texts.specs.Forms as f
use Rattle.tree_texts.specs.Forms.{ExprForm}
use Rattle.tree_texts.specs.Trees.{IsExpr, bare_tree, column_tree, integer_tree, null_tree, text_tree, truth_tree}
use Rattle.query_texts.specs.forms.ShownExpressions.{literal, signed}
use Rattle.sql_printer.specs.rows.PrintedExpressions.{before, integer, negative, printed_integer, printed_literal}
use Rattle.sql_printer.proofs.rows.RelatedOutcomes.{Along}
use Rattle.sql_printer.specs.expressions.Reading.{Finds, IsRead}
use Rattle.sql_printer.proofs.expressions.ReadForms.{inside, opened-negative}
use Rattle.sql_printer.proofs.expressions.ReadParts.{AreRead, Meets, node-read, none-read, one-read, read-same}

module _ (c : Contents) (here : Surroundings) where
  -- ---- columns

  pub reference-read : (name : List ℕ) (level place : ℕ) (kind : Kind)
      → ((reference : ColRef) → reference.table ≡ None → reference.name.text ≡ name
      → look_up 0 here.scopes reference ≡ found (record { level = level; place = Some place; kind = kind })) → here.argument ≡ false → {tree : ExprTree}
      → IsExpr (f.column (f.bare name)) tree → IsRead ((part_of c tree).means here) kind (λ n. Col level place) []
  unfolding means_at
  reference-read name level place kind finds outside {tree = tree} (column_tree {x = reference} (bare_tree none named) is) =
      read-same ((part_of c tree).means here) (column_meant here reference.at (found (record { level = level; place = Some place; kind = kind }))) kind (λ n. Col level place) []
      (means-column c here tree reference is ∙ ap (column_meant here reference.at) (finds reference none named))
      (record {
        breaks = ap (λ b. broken_if (b && nat_lt 0 level) rule.MisplacedAggregate reference.at) outside;
        kind_is = refl;
        make = λ wanted before. refl;
      })

  -- one of the nearest row, in an argument too
  pub local-read : (name : List ℕ) (place : ℕ) (kind : Kind)
      → ((reference : ColRef) → reference.table ≡ None → reference.name.text ≡ name
      → look_up 0 here.scopes reference ≡ found (record { level = 0; place = Some place; kind = kind })) → {tree : ExprTree}
      → IsExpr (f.column (f.bare name)) tree → IsRead ((part_of c tree).means here) kind (λ n. Col 0 place) []
  unfolding means_at
  local-read name place kind finds {tree = tree} (column_tree {x = reference} (bare_tree none named) is) =
      read-same ((part_of c tree).means here) (column_meant here reference.at (found (record { level = 0; place = Some place; kind = kind }))) kind (λ n. Col 0 place) []
      (means-column c here tree reference is ∙ ap (column_meant here reference.at) (finds reference none named))
      (record {
        breaks = ap (λ b. broken_if b rule.MisplacedAggregate reference.at) (nearest here.argument);
        kind_is = refl;
        make = λ wanted before. refl;
      })
    where
      nearest : (b : Bool) → (b && nat_lt 0 0) ≡ false
      nearest true = refl
      nearest false = refl

  pub column-read : (prefix : List ℕ) (scopes : List (List Kind)) (unread : List ℕ) → Finds prefix scopes unread here.scopes → here.argument ≡ false
      → (level place : ℕ) (kind : Kind) → column_kind scopes level place ≡ Some kind → {tree : ExprTree}
      → IsExpr (f.column (f.bare (column_name prefix level (place + 1)))) tree
      → IsRead ((part_of c tree).means here) kind (λ n. Col level (before unread level + place)) []
  column-read prefix scopes unread finds outside level place kind h d =
      reference-read (column_name prefix level (place + 1)) level (before unread level + place) kind (finds level place kind h) outside d

  -- ---- literals

  known-read : (kind : Kind) (e : Expr) → IsRead (known kind e) kind (λ n. e) []
  known-read kind e = record { breaks = refl; kind_is = refl; make = λ wanted before. refl }

  pub integer-read : (number : ℕ) {tree : ExprTree} → IsExpr (f.integer number) tree
      → IsRead ((part_of c tree).means here) kinds.Integer (λ n. integer number) []
  unfolding means_at
  integer-read number {tree = tree} (integer_tree is) =
      read-same ((part_of c tree).means here) (known kinds.Integer (integer number)) kinds.Integer (λ n. integer number) []
      (means-integer c here tree (pos number) is) (known-read kinds.Integer (integer number))

  -- one part by itself
  pub alone-read : (need : Need) (shared own : Kind) (form : ExprForm) (made : ℕ → Expr) (subs : List Sublink)
      → ((tree : ExprTree) → IsExpr form tree → IsRead ((part_of c tree).means here) own made subs) → Meets need shared own
      → (trees : List ExprTree) → Along IsExpr (form ∷ []) trees
      → AreRead shared (map (operand here need) (map (part_of c) trees)) (λ n. made n ∷ []) subs
  alone-read need shared own form made subs read meets [] d = absurd d
  alone-read need shared own form made subs read meets (tree ∷ []) d =
      subst (AreRead shared (operand here need (part_of c tree) ∷ []) (λ n. made n ∷ [])) (append-nil subs)
      (one-read shared own (operand here need (part_of c tree)) [] made (λ n. []) subs [] _ (read tree d.0) meets (none-read shared) refl)
  alone-read need shared own form made subs read meets (tree ∷ other ∷ more) d = absurd d.1

  pub negative-read : (amount : ℕ) {tree : ExprTree} → IsExpr (f.enclosed (f.negative (f.integer amount))) tree
      → IsRead ((part_of c tree).means here) kinds.Integer (λ n. negative amount) []
  negative-read amount {tree = tree} d =
      let i = inside c here d in
      let o = opened-negative c here i.compound in
      read-same ((part_of c tree).means here) _ kinds.Integer (λ n. negative amount) [] (i.is ∙ o.is)
      (node-read (always kinds.Integer) (λ es. times x.Negate 1 (first_of es)) (map (operand here (of_kind kinds.Integer)) (map (part_of c) o.trees))
      kinds.Integer kinds.Integer (λ n. integer amount ∷ []) []
      (alone-read (of_kind kinds.Integer) kinds.Integer kinds.Integer (f.integer amount) (λ n. integer amount) [] (λ tree e. integer-read amount e) refl o.trees o.all) refl)

  pub null_literal-read : (own : Kind) {tree : ExprTree} → IsExpr (f.null own) tree → IsRead ((part_of c tree).means here) own (λ n. Lit Null own) []
  unfolding means_at
  null_literal-read own {tree = tree} (null_tree is) =
      read-same ((part_of c tree).means here) (known own (Lit Null own)) own (λ n. Lit Null own) [] (means-nullof c here tree own is) (known-read own (Lit Null own))

  -- integers are read elsewhere
  pub literal-read : (v : Value) (own : Kind) → fits v own ≡ true
      → ((number : ℤ) (tree : ExprTree) → IsExpr (signed (is_negative number) (unsigned_abs number)) tree
      → IsRead ((part_of c tree).means here) kinds.Integer (λ n. printed_integer (is_negative number) (unsigned_abs number)) [])
      → {tree : ExprTree} → IsExpr (literal v own) tree → IsRead ((part_of c tree).means here) own (λ n. printed_literal v own) []
  unfolding means_at
  literal-read Null own e numbers d = null_literal-read own d
  literal-read (Integer number) kinds.Integer e numbers {tree = tree} d = numbers number tree d
  literal-read (Integer number) kinds.Text e numbers d = absurd (true≢false (sym e))
  literal-read (Integer number) kinds.Boolean e numbers d = absurd (true≢false (sym e))
  literal-read (Text spelled) kinds.Integer e numbers d = absurd (true≢false (sym e))
  literal-read (Text spelled) kinds.Text e numbers {tree = tree} (text_tree is) =
      read-same ((part_of c tree).means here) (known kinds.Text (Lit (Text spelled) kinds.Text)) kinds.Text (λ n. Lit (Text spelled) kinds.Text) []
      (means-text c here tree spelled is) (known-read kinds.Text (Lit (Text spelled) kinds.Text))
  literal-read (Text spelled) kinds.Boolean e numbers d = absurd (true≢false (sym e))
  literal-read (Boolean truth) kinds.Integer e numbers d = absurd (true≢false (sym e))
  literal-read (Boolean truth) kinds.Text e numbers d = absurd (true≢false (sym e))
  literal-read (Boolean truth) kinds.Boolean e numbers {tree = tree} (truth_tree is) =
      read-same ((part_of c tree).means here) (known kinds.Boolean (Lit (Boolean truth) kinds.Boolean)) kinds.Boolean (λ n. Lit (Boolean truth) kinds.Boolean) []
      (means-truth c here tree truth is) (known-read kinds.Boolean (Lit (Boolean truth) kinds.Boolean))
