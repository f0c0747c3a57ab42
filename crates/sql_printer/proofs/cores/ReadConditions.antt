-- The first expression of a clause is read beside the sublinks that nothing of the clause uses.
use Rattle.std.proofs.Common.{◌≡◌, ℕ, zero, suc, ◌+◌, ◌<◌, Bool, true, false, cond, List, [], ◌∷◌, ◌++◌, length, map, refl, sym, ap, subst, ◌∙◌, append-nil, arith}
use Rattle.std.proofs.lemmas.Option.{none-some, same_Some}
use Rattle.std.proofs.lemmas.List.{length-map}
use Rattle.std.specs.Prelude.{slice_index_or}
use Rattle.std.specs.List.{range_with_len}
use Rattle.perm_values.specs.declared.kind.Kind.{Kind}
use Rattle.perm_values.specs.declared.kind.Kind.TheVariants as kinds
use Rattle.perm_values.specs.declared.value.Value.TheVariants.{Null}
use Rattle.bag_algebra.specs.WellFormed.{HasKind}
use Rattle.bag_algebra.specs.declared.expr.Expr.{Expr}
use Rattle.bag_algebra.specs.declared.expr.Expr.TheVariants.{Case, Lit, Sub, IsNull}
use Rattle.bag_algebra.specs.declared.query.Sublink.{Sublink}
use Rattle.perm_catalog.specs.Contents.{Contents}
use Rattle.sql_tree.specs.declared.expression.ArmTree.{ArmTree}
use Rattle.sql_tree.specs.declared.expression.ExprTree.{ExprTree}
use Rattle.name_meaning.specs.Meanings.{Surroundings}
use Rattle.name_meaning.specs.Operands.{operand}
use Rattle.name_meaning.specs.Trees.{part_of}
use Rattle.name_meaning.specs.declared.need.Need.TheVariants.{Alike as alike}
use Rattle.tree_texts.specs.Forms as f
use Rattle.tree_texts.specs.Forms.{ExprForm}
use Rattle.tree_texts.specs.Trees.{IsExpr}
use Rattle.query_texts.specs.clauses.Unused.{spare, used_in}
use Rattle.query_texts.specs.forms.ShownExpressions.{never_arms, shown_expr, beside as shown_beside}
use Rattle.query_texts.specs.forms.ShownQueries.{tested_by}
use Rattle.sql_printer.specs.rows.Printed.{condition_subs, idle, idle_in, nothing_asked, printed_condition, taken}
use Rattle.sql_printer.specs.rows.PrintedExpressions.{asked_in, beside, never, printed_expr}
use Rattle.sql_printer.specs.rows.Writable.{Writable}
use Rattle.sql_printer.proofs.rows.MarkedBags.{map-cond}
use Rattle.sql_printer.proofs.rows.RelatedOutcomes.{Along}
use Rattle.sql_printer.specs.expressions.Reading.{Finds, FindsSublinks, IsRead}
use Rattle.sql_printer.proofs.expressions.ReadExpressions.{cased-read, expr-read, null-read, taken-append}
use Rattle.sql_printer.proofs.expressions.ReadForms.{IsArmTree, arm_part}
use Rattle.sql_printer.proofs.expressions.ReadLeaves.{null_literal-read}
use Rattle.sql_printer.proofs.expressions.ReadNodes.{ArmsRead, arm-read, no_arms-read}

-- ---- sublinks

module _ (c : Contents) (here : Surroundings) where
  abbrev pub SubRead : ExprForm → Sublink → Kind → Type 0
  SubRead form sub kind = (tree : ExprTree) → IsExpr form tree → IsRead ((part_of c tree).means here) kind (λ n. Sub n) (sub ∷ [])

  -- each form is read as its sublink, whose value has its kind
  abbrev pub SubsRead : List ExprForm → List Sublink → List Kind → Type 0
  SubsRead [] [] [] = Unit {0}
  SubsRead [] [] (kind ∷ all) = ⊥
  SubsRead [] (sub ∷ subs) all = ⊥
  SubsRead (form ∷ forms) [] all = ⊥
  SubsRead (form ∷ forms) (sub ∷ subs) [] = ⊥
  SubsRead (form ∷ forms) (sub ∷ subs) (kind ∷ all) = SubRead form sub kind × SubsRead forms subs all

  pub sublinks-found : (forms : List ExprForm) (subs : List Sublink) (all : List Kind) → SubsRead forms subs all → FindsSublinks c here forms subs all
  sublinks-found forms subs [] r number kind e tree d = absurd (none-some kind e)
  sublinks-found [] [] (own ∷ all) r number kind e tree d = absurd r
  sublinks-found [] (sub ∷ subs) (own ∷ all) r number kind e tree d = absurd r
  sublinks-found (form ∷ forms) [] (own ∷ all) r number kind e tree d = absurd r
  sublinks-found (form ∷ forms) (sub ∷ subs) (own ∷ all) r zero kind e tree d =
      subst (λ k. IsRead ((part_of c tree).means here) k (λ n. Sub n) (sub ∷ [])) (same_Some own kind e) (r.0 tree d)
  sublinks-found (form ∷ forms) (sub ∷ subs) (own ∷ all) r (suc number) kind e tree d = sublinks-found forms subs all r.1 number kind e tree d

  -- of whatever kinds
  abbrev pub AnyRead : List ExprForm → List Sublink → Type 0
  AnyRead [] [] = Unit {0}
  AnyRead [] (sub ∷ subs) = ⊥
  AnyRead (form ∷ forms) [] = ⊥
  AnyRead (form ∷ forms) (sub ∷ subs) = ((kind : Kind) × SubRead form sub kind) × AnyRead forms subs

  either-read : (b : Bool) (form : ExprForm) (sub : Sublink) (kind : Kind) (forms : List ExprForm) (subs : List Sublink) → SubRead form sub kind → AnyRead forms subs
      → AnyRead (cond b forms (form ∷ forms)) (cond b subs (sub ∷ subs))
  either-read true form sub kind forms subs r rest = rest
  either-read false form sub kind forms subs r rest = ((kind, r), rest)

  pub spared-read : (used : ℕ → Bool) (start : ℕ) (forms : List ExprForm) (subs : List Sublink) (all : List Kind) → SubsRead forms subs all
      → AnyRead (spare used start forms) (spare used start subs)
  spared-read used start [] [] all r = tt
  spared-read used start [] (sub ∷ subs) [] r = absurd r
  spared-read used start [] (sub ∷ subs) (kind ∷ all) r = absurd r
  spared-read used start (form ∷ forms) [] [] r = absurd r
  spared-read used start (form ∷ forms) [] (kind ∷ all) r = absurd r
  spared-read used start (form ∷ forms) (sub ∷ subs) [] r = absurd r
  spared-read used start (form ∷ forms) (sub ∷ subs) (kind ∷ all) r =
      either-read (used start) form sub kind (spare used (start + 1) forms) (spare used (start + 1) subs) r.0 (spared-read used (start + 1) forms subs all r.1)

-- the sublinks of the numbers that aren't used are those that are left
taken-from : (used : ℕ → Bool) (all rest : List Sublink) (k : ℕ)
    → ((i : ℕ) → i < length rest → slice_index_or all (k + i) nothing_asked ≡ slice_index_or rest i nothing_asked)
    → taken all (spare used k (range_with_len k (length rest))) ≡ spare used k rest
taken-from used all [] k same = refl
taken-from used all (sub ∷ rest) k same =
    let own : k ≡ k + 0 = omega arith in
    let first : slice_index_or all k nothing_asked ≡ sub = ap (λ n. slice_index_or all n nothing_asked) own ∙ same 0 (omega arith) in
    let more = taken-from used all rest (k + 1)
    (λ i h. let next : k + 1 + i ≡ k + suc i = omega arith in ap (λ n. slice_index_or all n nothing_asked) next ∙ same (suc i) (omega (arith, h))) in
    let numbers = spare used (k + 1) (range_with_len (k + 1) (length rest)) in
    sym (map-cond (λ number. slice_index_or all number nothing_asked) (used k) numbers (k ∷ numbers))
    ∙ (λ i. cond (used k) (more i) (first i ∷ more i))

pub taken-spared : (used : ℕ → Bool) (asked : List Sublink) → taken asked (idle used (length asked)) ≡ spare used 0 asked
taken-spared used asked = taken-from used asked asked 0 (λ i h. let none : 0 + i ≡ i = omega arith in ap (λ n. slice_index_or asked n nothing_asked) none)

pub spared-count : (asked : List Sublink) (used : ℕ → Bool) → length (spare used 0 asked) ≡ length (idle used (length asked))
spared-count asked used = ap length (sym (taken-spared used asked)) ∙ length-map (idle used (length asked)) (λ number. slice_index_or asked number nothing_asked)

-- ---- beside an expression

-- so many sublinks, the first of this number
abbrev pub beside_from : ℕ → Kind → ℕ → Expr → Expr
beside_from n kind zero e = e
beside_from n kind (suc count) e = Case (map (never kind) (range_with_len n (suc count))) e

pub beside-first : (kind : Kind) (count : ℕ) (e : Expr) → beside_from 0 kind count e ≡ beside kind count e
beside-first kind zero e = refl
beside-first kind (suc count) e = refl

module _ (c : Contents) (here : Surroundings) (kind : Kind) (last : ExprTree) (made : ℕ → Expr) (subs : List Sublink)
    (read : IsRead ((part_of c last).means here) kind made subs) where
  nevers-read : (forms : List ExprForm) (others : List Sublink) → AnyRead c here forms others → (trees : List ArmTree) → Along IsArmTree (never_arms kind forms) trees
      → ArmsRead here kind (map (arm_part c) trees) (operand here alike (part_of c last)) (λ n. map (never kind) (range_with_len n (length others)))
      (λ n. made (n + length others)) (others ++ subs)
  nevers-read [] [] r [] d =
      subst (λ m. ArmsRead here kind [] (operand here alike (part_of c last)) (λ n. []) m subs) (λ i n. let none : n ≡ n + 0 = omega arith in made (none i))
      (subst (ArmsRead here kind [] (operand here alike (part_of c last)) (λ n. []) made) (append-nil subs) (no_arms-read here kind (part_of c last) made subs read))
  nevers-read [] [] r (tree ∷ trees) d = absurd d
  nevers-read [] (sub ∷ others) r trees d = absurd r
  nevers-read (form ∷ forms) [] r trees d = absurd r
  nevers-read (form ∷ forms) (sub ∷ others) r [] d = absurd d
  nevers-read (form ∷ forms) (sub ∷ others) r (tree ∷ trees) d =
      let all = arm-read here kind (arm_part c tree) (map (arm_part c) trees) (operand here alike (part_of c last)) (λ n. IsNull (IsNull (Sub n))) (λ n. Lit Null kind)
      (λ n. map (never kind) (range_with_len n (length others))) (λ n. made (n + length others)) (sub ∷ []) [] (others ++ subs) 1 0
      (null-read c here (f.enclosed (f.is_null false form)) kinds.Boolean (λ n. IsNull (Sub n)) (sub ∷ [])
      (λ tree e. null-read c here form r.0.0 (λ n. Sub n) (sub ∷ []) r.0.1 e) d.0.condition)
      (null_literal-read c here kind d.0.value) (nevers-read forms others r.1 trees d.1) refl refl in
      subst (λ m. ArmsRead here kind (map (arm_part c) (tree ∷ trees)) (operand here alike (part_of c last)) m (λ n. made (n + suc (length others))) (sub ∷ (others ++ subs)))
      (λ i n. let next : n + 1 + 0 ≡ n + 1 = omega arith in never kind n ∷ map (never kind) (range_with_len (next i) (length others)))
      (subst (λ m. ArmsRead here kind (map (arm_part c) (tree ∷ trees)) (operand here alike (part_of c last))
      (λ n. never kind n ∷ map (never kind) (range_with_len (n + 1 + 0) (length others))) m (sub ∷ (others ++ subs)))
      (λ i n. let far : n + 1 + 0 + length others ≡ n + suc (length others) = omega arith in made (far i)) all)

module _ (c : Contents) (here : Surroundings) (kind : Kind) (a : ExprForm) (made : ℕ → Expr) (subs : List Sublink)
    (read : (tree : ExprTree) → IsExpr a tree → IsRead ((part_of c tree).means here) kind made subs) where
  pub beside-read : (forms : List ExprForm) (others : List Sublink) → AnyRead c here forms others → {tree : ExprTree} → IsExpr (shown_beside kind forms a) tree
      → IsRead ((part_of c tree).means here) kind (λ n. beside_from n kind (length others) (made (n + length others))) (others ++ subs)
  beside-read [] [] r {tree = tree} d =
      subst (λ m. IsRead ((part_of c tree).means here) kind m subs) (λ i n. let none : n ≡ n + 0 = omega arith in made (none i)) (read tree d)
  beside-read [] (sub ∷ others) r d = absurd r
  beside-read (form ∷ forms) [] r d = absurd r
  beside-read (form ∷ forms) (sub ∷ others) r d =
      cased-read c here kind (never_arms kind (form ∷ forms)) (omega arith) a (λ n. map (never kind) (range_with_len n (suc (length others))))
      (λ n. made (n + suc (length others))) ((sub ∷ others) ++ subs)
      (λ trees all last e. nevers-read c here kind last made subs (read last e) (form ∷ forms) (sub ∷ others) r trees all) d

-- ---- conditions

module _ (c : Contents) (prefix : List ℕ) (forms : List ExprForm) (asked : List Sublink) (scopes : List (List Kind)) (all : List Kind) (unread : List ℕ) (here : Surroundings)
    (finds : Finds prefix scopes unread here.scopes) (sublinks : SubsRead c here forms asked all) (outside : here.argument ≡ false) where
  pub condition-read : (condition : Expr) → HasKind scopes all condition kinds.Boolean → Writable condition → {tree : ExprTree}
      → IsExpr (tested_by prefix forms condition) tree
      → IsRead ((part_of c tree).means here) kinds.Boolean
      (λ n. beside_from n kinds.Boolean (length (idle_in condition asked)) (printed_expr unread (n + length (idle_in condition asked)) condition)) (condition_subs asked condition)
  condition-read condition h w {tree = tree} d =
      let used = used_in condition in
      let made : ℕ → ℕ → Expr = λ count n. beside_from n kinds.Boolean count (printed_expr unread (n + count) condition) in
      let subs_are : spare used 0 asked ++ taken asked (asked_in condition) ≡ condition_subs asked condition =
      ap (λ subs. subs ++ taken asked (asked_in condition)) (sym (taken-spared used asked)) ∙ sym (taken-append asked (idle_in condition asked) (asked_in condition)) in
      subst (IsRead ((part_of c tree).means here) kinds.Boolean (made (length (idle_in condition asked)))) subs_are
      (subst (λ count. IsRead ((part_of c tree).means here) kinds.Boolean (made count) (spare used 0 asked ++ taken asked (asked_in condition))) (spared-count asked used)
      (beside-read c here kinds.Boolean (shown_expr prefix forms condition) (λ n. printed_expr unread n condition) (taken asked (asked_in condition))
      (λ tree e. expr-read c prefix forms asked scopes all unread here finds (sublinks-found c here forms asked all sublinks) outside condition kinds.Boolean h w e)
      (spare used 0 forms) (spare used 0 asked) (spared-read c here used 0 forms asked all sublinks) d))

  -- behind nothing
  pub condition-first : (condition : Expr)
      → beside_from 0 kinds.Boolean (length (idle_in condition asked)) (printed_expr unread (0 + length (idle_in condition asked)) condition) ≡ printed_condition unread asked condition
  condition-first condition =
      let none : 0 + length (idle_in condition asked) ≡ length (idle_in condition asked) = omega arith in
      ap (λ n. beside_from 0 kinds.Boolean (length (idle_in condition asked)) (printed_expr unread n condition)) none
      ∙ beside-first kinds.Boolean (length (idle_in condition asked)) (printed_expr unread (length (idle_in condition asked)) condition)
