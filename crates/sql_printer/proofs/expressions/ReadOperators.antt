-- What the form of an operator is read as, over parts that are read.
use Rattle.std.proofs.Common.{◌≡◌, ℕ, ◌≤◌, false, List, [], ◌∷◌, length, map, Some, refl, sym, ap, subst, ◌∙◌, arith}
use Rattle.null_logic.specs.declared.compare.Compare.TheVariants.{Equal}
use Rattle.null_logic.specs.declared.operator.Operator.{Operator}
use Rattle.null_logic.specs.declared.operator.Operator.TheVariants as x
use Rattle.perm_values.specs.declared.kind.Kind.{Kind}
use Rattle.perm_values.specs.declared.kind.Kind.TheVariants.{Integer, Text, Boolean}
use Rattle.bag_algebra.specs.WellFormed.{op_form}
use Rattle.bag_algebra.specs.declared.expr.Expr.{Expr}
use Rattle.bag_algebra.specs.declared.expr.Expr.TheVariants.{Op}
use Rattle.bag_algebra.specs.declared.query.Sublink.{Sublink}
use Rattle.perm_catalog.specs.Contents.{Contents}
use Rattle.sql_tree.specs.declared.expression.ExprTree.{ExprTree}
use Rattle.name_meaning.specs.Expressions.{first_of, times}
use Rattle.name_meaning.specs.Meanings.{Surroundings}
use Rattle.name_meaning.specs.Operands.{gives_of, given_kind, need_of, node, operand, united}
use Rattle.name_meaning.specs.Trees.{part_of}
use Rattle.name_meaning.specs.declared.need.Gives.{Gives}
use Rattle.name_meaning.specs.declared.need.Gives.TheVariants.{Always as always, Common as common}
use Rattle.name_meaning.specs.declared.need.Need.{Need}
use Rattle.name_meaning.specs.declared.need.Need.TheVariants.{OfKind as of_kind, Alike as alike}
use Rattle.tree_texts.specs.Forms.{ExprForm}
use Rattle.tree_texts.specs.Trees.{IsExpr}
use Rattle.query_texts.specs.forms.ShownExpressions.{operated}
use Rattle.sql_printer.specs.rows.PrintedExpressions.{among, first_known, printed_operator}
use Rattle.sql_printer.proofs.rows.RelatedOutcomes.{Along}
use Rattle.sql_printer.specs.expressions.Reading.{IsRead}
use Rattle.sql_printer.proofs.expressions.ReadForms.{Opened, compare-row, inside, opened-between, opened-coalesce, opened-compared, opened-each, opened-like, opened-list, opened-negated, opened-negative, opened-null_if, opened-one, within}
use Rattle.sql_printer.proofs.expressions.ReadParts.{AreRead, Meets, node-read, read-same}

-- ---- what is made of so many parts

one-made : (o : Operator) (es : List Expr) → length es ≡ 1 → times o 1 (first_of es) ≡ Op o es
one-made o [] h = absurd (omega (arith, h))
one-made o (e ∷ []) h = refl
one-made o (e ∷ d ∷ more) h = absurd (omega (arith, h))

two-among : (es : List Expr) → length es ≡ 2 → among es ≡ Op (x.Compare Equal) es
two-among [] h = absurd (omega (arith, h))
two-among (a ∷ []) h = absurd (omega (arith, h))
two-among (a ∷ b ∷ []) h = refl
two-among (a ∷ b ∷ o ∷ more) h = absurd (omega (arith, h))

more-among : (es : List Expr) → 3 ≤ length es → among es ≡ Op x.InList es
more-among [] h = absurd (omega (arith, h))
more-among (a ∷ []) h = absurd (omega (arith, h))
more-among (a ∷ b ∷ []) h = absurd (omega (arith, h))
more-among (a ∷ b ∷ o ∷ more) h = refl

one-known : (es : List Expr) → length es ≡ 1 → first_of es ≡ first_known es
one-known [] h = absurd (omega (arith, h))
one-known (e ∷ []) h = refl
one-known (e ∷ d ∷ more) h = absurd (omega (arith, h))

more-known : (es : List Expr) → 2 ≤ length es → first_known es ≡ Op x.Coalesce es
more-known [] h = absurd (omega (arith, h))
more-known (a ∷ []) h = absurd (omega (arith, h))
more-known (a ∷ b ∷ more) h = refl

-- ---- parts

module _ (c : Contents) (here : Surroundings) where
  -- where there is one part, it by itself
  abbrev pub SingleRead : List ExprForm → Kind → (ℕ → List Expr) → List Sublink → Type 0
  SingleRead [] shared made subs = Unit {0}
  SingleRead (a ∷ []) shared made subs = (tree : ExprTree) → IsExpr a tree → IsRead ((part_of c tree).means here) shared (λ n. first_of (made n)) subs
  SingleRead (a ∷ b ∷ more) shared made subs = Unit {0}

  -- the trees of these forms as operands of any need that they meet
  pub record PartsRead (forms : List ExprForm) (shared : Kind) (made : ℕ → List Expr) (subs : List Sublink) : Type 0 where
    pub count : (n : ℕ) → length (made n) ≡ length forms
    pub single : SingleRead forms shared made subs
    pub parts : (need : Need) → Meets need shared shared → (trees : List ExprTree) → Along IsExpr forms trees
        → AreRead shared (map (operand here need) (map (part_of c) trees)) made subs
    pub common : (trees : List ExprTree) → Along IsExpr forms trees → 1 ≤ length forms
        → united (map (operand here alike) (map (part_of c) trees)) ≡ Some shared

  -- an operator that needs operands of one kind
  pub over-parts : (forms : List ExprForm) (shared : Kind) (made : ℕ → List Expr) (subs : List Sublink) → PartsRead forms shared made subs → (need : Need) (gives : Gives)
      (kind : Kind) (assembled : List Expr → Expr) (result : ℕ → Expr) (tree : ExprTree) → Meets need shared shared
      → Opened c here forms tree (λ parts. node gives assembled (map (operand here need) parts))
      → ((trees : List ExprTree) → Along IsExpr forms trees → given_kind gives (map (operand here need) (map (part_of c) trees)) ≡ Some kind)
      → ((n : ℕ) → assembled (made n) ≡ result n) → IsRead ((part_of c tree).means here) kind result subs
  over-parts forms shared made subs p need gives kind assembled result tree meets o given same =
      let os = map (operand here need) (map (part_of c) o.trees) in
      read-same ((part_of c tree).means here) (node gives assembled os) kind result subs o.is
      (subst (λ m. IsRead (node gives assembled os) kind m subs) (λ i n. same n i)
      (node-read gives assembled os shared kind made subs (p.parts need meets o.trees o.all) (given o.trees o.all)))

  -- ---- operators

  module _ (shared kind : Kind) (made : ℕ → List Expr) (subs : List Sublink) where
    abbrev Result : (Operator) → ExprTree → Type 0
    Result o tree = IsRead ((part_of c tree).means here) kind (λ n. printed_operator o (made n)) subs

    -- one that always gives one kind
    always-read : (forms : List ExprForm) → PartsRead forms shared made subs → (need : Need) (gives : Gives) (given : Kind) (assembled : List Expr → Expr) (result : ℕ → Expr)
        (tree : ExprTree) → Meets need shared shared → gives ≡ always given → kind ≡ given
        → Opened c here forms tree (λ parts. node gives assembled (map (operand here need) parts)) → ((n : ℕ) → assembled (made n) ≡ result n)
        → IsRead ((part_of c tree).means here) kind result subs
    always-read forms p need gives given assembled result tree meets e same o made_is =
        over-parts forms shared made subs p need gives kind assembled result tree meets o
        (λ trees all. ap (λ g. given_kind g (map (operand here need) (map (part_of c) trees))) e ∙ ap Some (sym same)) made_is

    pub operator-read : (o : Operator) (forms : List ExprForm) → op_form o (length forms) (λ own. own ≡ shared) kind → PartsRead forms shared made subs
        → {tree : ExprTree} → IsExpr (operated o forms) tree → Result o tree
    operator-read x.And [] form p d = let h = form.number in absurd (omega (arith, h))
    operator-read x.And (a ∷ []) form p d = let h = form.number in absurd (omega (arith, h))
    operator-read x.And (a ∷ b ∷ more) form p {tree = tree} d =
        let i = inside c here d in
        always-read (a ∷ b ∷ more) p (of_kind Boolean) (always Boolean) Boolean (Op x.And) (λ n. Op x.And (made n)) tree (sym form.parts) refl form.gives
        (within c here i.is (opened-each c here more i.compound)) (λ n. refl)
    operator-read x.Or [] form p d = let h = form.number in absurd (omega (arith, h))
    operator-read x.Or (a ∷ []) form p d = let h = form.number in absurd (omega (arith, h))
    operator-read x.Or (a ∷ b ∷ more) form p {tree = tree} d =
        let i = inside c here d in
        always-read (a ∷ b ∷ more) p (of_kind Boolean) (always Boolean) Boolean (Op x.Or) (λ n. Op x.Or (made n)) tree (sym form.parts) refl form.gives
        (within c here i.is (opened-one c here more i.compound)) (λ n. refl)
    operator-read x.Not [] form p d = let h = form.number in absurd (omega (arith, h))
    operator-read x.Not (a ∷ []) form p {tree = tree} d =
        let i = inside c here d in
        always-read (a ∷ []) p (of_kind Boolean) (always Boolean) Boolean (λ es. times x.Not 1 (first_of es)) (λ n. Op x.Not (made n)) tree (sym form.parts) refl form.gives
        (within c here i.is (opened-negated c here i.compound)) (λ n. one-made x.Not (made n) (p.count n))
    operator-read x.Not (a ∷ b ∷ more) form p d = let h = form.number in absurd (omega (arith, h))
    operator-read x.Negate [] form p d = let h = form.number in absurd (omega (arith, h))
    operator-read x.Negate (a ∷ []) form p {tree = tree} d =
        let i = inside c here d in
        always-read (a ∷ []) p (of_kind Integer) (always Integer) Integer (λ es. times x.Negate 1 (first_of es)) (λ n. Op x.Negate (made n)) tree (sym form.parts) refl form.gives
        (within c here i.is (opened-negative c here i.compound)) (λ n. one-made x.Negate (made n) (p.count n))
    operator-read x.Negate (a ∷ b ∷ more) form p d = let h = form.number in absurd (omega (arith, h))
    operator-read (x.Compare op) [] form p d = let h = form.number in absurd (omega (arith, h))
    operator-read (x.Compare op) (a ∷ []) form p d = let h = form.number in absurd (omega (arith, h))
    operator-read (x.Compare op) (a ∷ b ∷ []) form p {tree = tree} d =
        let i = inside c here d in
        always-read (a ∷ b ∷ []) p (need_of (x.Compare op) false) (gives_of (x.Compare op) false) Boolean (Op (x.Compare op)) (λ n. Op (x.Compare op) (made n)) tree
        (subst (λ need. Meets need shared shared) (sym (compare-row op).0) refl) (compare-row op).1 form.gives
        (within c here i.is (opened-compared c here i.compound)) (λ n. refl)
    operator-read (x.Compare op) (a ∷ b ∷ o ∷ more) form p d = let h = form.number in absurd (omega (arith, h))
    operator-read (x.Arith op) forms form p d = absurd form
    operator-read x.Like [] form p d = let h = form.number in absurd (omega (arith, h))
    operator-read x.Like (a ∷ []) form p d = let h = form.number in absurd (omega (arith, h))
    operator-read x.Like (a ∷ b ∷ []) form p {tree = tree} d =
        let i = inside c here d in
        always-read (a ∷ b ∷ []) p (of_kind Text) (always Boolean) Boolean (Op x.Like) (λ n. Op x.Like (made n)) tree (sym form.parts) refl form.gives
        (within c here i.is (opened-like c here i.compound)) (λ n. refl)
    operator-read x.Like (a ∷ b ∷ o ∷ more) form p d = let h = form.number in absurd (omega (arith, h))
    operator-read x.Between [] form p d = let h = form.number in absurd (omega (arith, h))
    operator-read x.Between (a ∷ []) form p d = let h = form.number in absurd (omega (arith, h))
    operator-read x.Between (a ∷ b ∷ []) form p d = let h = form.number in absurd (omega (arith, h))
    operator-read x.Between (a ∷ b ∷ o ∷ []) form p {tree = tree} d =
        let i = inside c here d in
        always-read (a ∷ b ∷ o ∷ []) p alike (always Boolean) Boolean (Op x.Between) (λ n. Op x.Between (made n)) tree refl refl form.gives
        (within c here i.is (opened-between c here i.compound)) (λ n. refl)
    operator-read x.Between (a ∷ b ∷ o ∷ e ∷ more) form p d = let h = form.number in absurd (omega (arith, h))
    operator-read x.InList [] form p d = let h = form.number in absurd (omega (arith, h))
    operator-read x.InList (a ∷ []) form p d = let h = form.number in absurd (omega (arith, h))
    operator-read x.InList (a ∷ b ∷ []) form p {tree = tree} d =
        let i = inside c here d in
        always-read (a ∷ b ∷ []) p alike (always Boolean) Boolean (Op (x.Compare Equal)) (λ n. among (made n)) tree refl refl form.gives
        (within c here i.is (opened-compared c here i.compound)) (λ n. sym (two-among (made n) (p.count n)))
    operator-read x.InList (a ∷ b ∷ o ∷ more) form p {tree = tree} d =
        let i = inside c here d in
        always-read (a ∷ b ∷ o ∷ more) p alike (always Boolean) Boolean (Op x.InList) (λ n. among (made n)) tree refl refl form.gives
        (within c here i.is (opened-list c here (o ∷ more) i.compound))
        (λ n. let h = p.count n in sym (more-among (made n) (omega (arith, h))))
    operator-read x.Coalesce [] form p d = let h = form.number in absurd (omega (arith, h))
    operator-read x.Coalesce (a ∷ []) form p {tree = tree} d =
        subst (λ k. IsRead ((part_of c tree).means here) k (λ n. first_known (made n)) subs) (sym form.parts)
        (subst (λ m. IsRead ((part_of c tree).means here) shared m subs) (λ i n. one-known (made n) (p.count n) i) (p.single tree d))
    operator-read x.Coalesce (a ∷ b ∷ more) form p {tree = tree} d =
        over-parts (a ∷ b ∷ more) shared made subs p alike common kind (Op x.Coalesce) (λ n. first_known (made n)) tree refl (opened-coalesce c here (b ∷ more) d)
        (λ trees all. p.common trees all (omega arith) ∙ ap Some (sym form.parts))
        (λ n. let h = p.count n in sym (more-known (made n) (omega (arith, h))))
    operator-read x.NullIf [] form p d = let h = form.number in absurd (omega (arith, h))
    operator-read x.NullIf (a ∷ []) form p d = let h = form.number in absurd (omega (arith, h))
    operator-read x.NullIf (a ∷ b ∷ []) form p {tree = tree} d =
        over-parts (a ∷ b ∷ []) shared made subs p alike common kind (Op x.NullIf) (λ n. Op x.NullIf (made n)) tree refl (opened-null_if c here d)
        (λ trees all. p.common trees all (omega arith) ∙ ap Some (sym form.parts)) (λ n. refl)
    operator-read x.NullIf (a ∷ b ∷ o ∷ more) form p d = let h = form.number in absurd (omega (arith, h))
