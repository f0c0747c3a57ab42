-- The word PROVENANCE stands behind the first SELECT of a query, or it doesn't.
use Rattle.std.proofs.Common.{◌≡◌, ◌⊎◌, ◌∙◌, ℕ, map, Option, Some, None, refl, sym, ap, subst, inl, inr}
use Rattle.perm_catalog.specs.Contents.{Contents}
use Rattle.sql_tree.specs.Regular.{SetLayer}
use Rattle.sql_tree.specs.declared.expression.ArmTree.{ArmTree}
use Rattle.sql_tree.specs.declared.expression.ExprBody.{ExprBody}
use Rattle.sql_tree.specs.declared.expression.ExprBody.TheFolds.{ind-SetTree, map-SetTree}
use Rattle.sql_tree.specs.declared.expression.ExprBody.TheOpen.{SetTree-F}
use Rattle.sql_tree.specs.declared.expression.ExprStep.{ExprStep}
use Rattle.sql_tree.specs.declared.expression.ExprTree.{ExprTree}
use Rattle.sql_tree.specs.declared.query.Core.{Core, out-Core}
use Rattle.sql_tree.specs.declared.query.QueryTree.{QueryTree}
use Rattle.sql_tree.specs.declared.query.SelectItem.{SelectItem}
use Rattle.sql_tree.specs.declared.query.SetStep.{SetStep}
use Rattle.sql_tree.specs.declared.query.SetTree.{SetTree, roll-SetTree}
use Rattle.sql_tree.specs.declared.query.SetTree.TheVariants as set
use Rattle.sql_tree.specs.declared.source.FromItem.{FromItem}
use Rattle.sql_tree.specs.declared.source.FromSource.{FromSource}
use Rattle.sql_tree.specs.declared.source.FromTree.{FromTree}
use Rattle.sql_tree.specs.declared.source.JoinStep.{JoinStep}
use Rattle.name_meaning.proofs.Equations.{token, settree-core, settree-chain, settree-paren}
use Rattle.name_meaning.proofs.Opened.{core-is}
use Rattle.name_meaning.specs.Cores.{BodyPart}
use Rattle.name_meaning.specs.Trees.{set_of_tree}
use Rattle.statement_meaning.specs.laws.Asks.{HasWord, in_core, in_first}
use Rattle.perm_engine.specs.meaning.headline.Words.{LacksWord}

module _ (c : Contents) where
  -- ---- the word, from the tree

  core-word : (core : Core) → (set_of_tree c (set.Core core)).word ≡ (out-Core core).provenance
  unfolding token
  core-word core = ap (λ (part : BodyPart). part.word) (settree-core c core) ∙ ap (λ (part : BodyPart). part.word) (core-is c core)

  paren-word : (query : QueryTree) → (set_of_tree c (set.Paren query)).word ≡ None
  unfolding token
  paren-word query = ap (λ (part : BodyPart). part.word) (settree-paren c query)

  chain-word : (first : SetTree) (steps : _) → (set_of_tree c (set.Chain first steps)).word ≡ (set_of_tree c first).word
  unfolding token
  chain-word first steps = ap (λ (part : BodyPart). part.word) (settree-chain c first steps)

  pub word-at : (at : ℕ) (tree : SetTree) → HasWord at tree → (set_of_tree c tree).word ≡ Some at
  word-at at tree (in_core core e) = core-word core ∙ e
  word-at at tree (in_first first steps h) = chain-word first steps ∙ word-at at first h

  -- ---- there or not

  abbrev Decided : SetTree → Type 0
  Decided tree = ((at : ℕ) × HasWord at tree) ⊎ ((set_of_tree c tree).word ≡ None)

  by-core : (core : Core) (word : Option ℕ) → (out-Core core).provenance ≡ word → Decided (set.Core core)
  by-core core None e = inr (core-word core ∙ e)
  by-core core (Some at) e = inl (at, in_core core e)

  by-first : (first : SetTree) (steps : _) → Decided first → Decided (set.Chain first steps)
  by-first first steps (inl h) = inl (h.0, in_first first steps h.1)
  by-first first steps (inr none) = inr (chain-word first steps ∙ none)

  abbrev WithSet : Type 0
  WithSet = (tree : SetTree) × Decided tree

  abbrev With : Type 0 → Type 0
  With Tree = (tree : Tree) × Unit {0}

  abbrev Proved : Type 0
  Proved = SetTree-F (With ExprBody) (With SelectItem) WithSet (With FromSource) (With ArmTree) (With ExprStep) (With ExprTree) (With Core) (With QueryTree) (With SetStep) (With FromItem) (With FromTree) (With JoinStep)

  abbrev shown : Proved → SetLayer
  shown = map-SetTree (With ExprBody) (With SelectItem) WithSet (With FromSource) (With ArmTree) (With ExprStep) (With ExprTree) (With Core) (With QueryTree) (With SetStep) (With FromItem) (With FromTree) (With JoinStep)
      ExprBody SelectItem SetTree FromSource ArmTree ExprStep ExprTree Core QueryTree SetStep FromItem FromTree JoinStep
      (λ (e : With ExprBody). e.0) (λ (e : With SelectItem). e.0) (λ (e : WithSet). e.0) (λ (e : With FromSource). e.0) (λ (e : With ArmTree). e.0) (λ (e : With ExprStep). e.0) (λ (e : With ExprTree). e.0) (λ (e : With Core). e.0) (λ (e : With QueryTree). e.0) (λ (e : With SetStep). e.0) (λ (e : With FromItem). e.0) (λ (e : With FromTree). e.0) (λ (e : With JoinStep). e.0)

  decides : (y : Proved) → Decided (roll-SetTree (shown y))
  decides (SetTree-F.Core core) = subst Decided (sym (set.rolls-Core core.0)) (by-core core.0 (out-Core core.0).provenance refl)
  decides (SetTree-F.«SetTree::Paren» query) = subst Decided (sym (set.rolls-Paren query.0)) (inr (paren-word query.0))
  decides (SetTree-F.«SetTree::Chain» first steps) =
      subst Decided (sym (set.rolls-Chain first.0 (map (λ (e : With SetStep). e.0) steps))) (by-first first.0 (map (λ (e : With SetStep). e.0) steps) first.1)

  decided : (tree : SetTree) → Decided tree
  decided = ind-SetTree (λ (tree : ExprBody). Unit {0}) (λ (tree : SelectItem). Unit {0}) Decided (λ (tree : FromSource). Unit {0}) (λ (tree : ArmTree). Unit {0}) (λ (tree : ExprStep). Unit {0}) (λ (tree : ExprTree). Unit {0}) (λ (tree : Core). Unit {0}) (λ (tree : QueryTree). Unit {0}) (λ (tree : SetStep). Unit {0}) (λ (tree : FromItem). Unit {0}) (λ (tree : FromTree). Unit {0}) (λ (tree : JoinStep). Unit {0})
      (λ x y is. tt) (λ x y is. tt) (λ x y is. subst (λ (z : SetLayer). Decided (roll-SetTree z)) is (decides y)) (λ x y is. tt) (λ x y is. tt) (λ x y is. tt) (λ x y is. tt) (λ x y is. tt) (λ x y is. tt) (λ x y is. tt) (λ x y is. tt) (λ x y is. tt) (λ x y is. tt)

  none-at : (at : ℕ) → None ≡ Some at → ⊥
  none-at at e = cc

  pub lacked : (tree : SetTree) → LacksWord tree → (set_of_tree c tree).word ≡ None
  lacked tree lacks = chosen (decided tree) where
    chosen : Decided tree → (set_of_tree c tree).word ≡ None
    chosen (inl h) = absurd (lacks h.0 h.1)
    chosen (inr none) = none

  pub there-or-not : (tree : SetTree) → ((at : ℕ) × HasWord at tree) ⊎ LacksWord tree
  there-or-not tree = chosen (decided tree) where
    chosen : Decided tree → ((at : ℕ) × HasWord at tree) ⊎ LacksWord tree
    chosen (inl h) = inl h
    chosen (inr none) = inr (λ at h. none-at at (sym none ∙ word-at at tree h))
