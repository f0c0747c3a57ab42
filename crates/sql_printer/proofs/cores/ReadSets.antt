-- Set operations over two cores that are read.
use Rattle.std.proofs.Common.{Bool, List, None, Option, Some, [], ap, arith, cond, false, length, not, refl, subst, sym, true, ℕ, ◌&&◌, ◌++◌, ◌∙◌, ◌∷◌, ◌≡◌}
use Rattle.std.proofs.lemmas.Bool.{and_right}
use Rattle.std.specs.Prelude.{ℤ, is_some, nat_eq}
use Rattle.std.proofs.lemmas.Bool.Decides.{nat_tests}
use Rattle.perm_values.specs.declared.kind.Kind.{Kind}
use Rattle.bag_algebra.specs.declared.query.Query.{Query}
use Rattle.perm_catalog.specs.Contents.{Contents}
use Rattle.sql_tree.specs.declared.query.Core.{Core}
use Rattle.sql_tree.specs.declared.query.QueryTree.{QueryTree}
use Rattle.sql_tree.specs.declared.query.SetStep.{SetStep}
use Rattle.sql_tree.specs.declared.query.SetTree.TheVariants as set
use Rattle.sql_tree.specs.declared.query.SetWord.{SetWord}
use Rattle.sql_tree.specs.declared.query.SetWord.TheVariants.{Intersect}
use Rattle.sql_tree.specs.declared.query.OrderTree.{OrderTree}
use Rattle.name_meaning.proofs.Equations.{querytree-record, setstep-record, settree-chain, settree-core, token}
use Rattle.name_meaning.specs.Cores.{BodyPart, settle_known}
use Rattle.name_meaning.specs.Meanings.{Around, QueryMeant, QueryPart, broken, broken_if}
use Rattle.name_meaning.specs.Queries.{SetStepPart, columns_so_far, do_unite, keys_breaks, keys_of, limited, may_not_ask, operand_break, operand_breaks, plain_query, query_seen, query_with_provenance, set_joined, set_of, united_columns}
use Rattle.name_meaning.specs.Trees.{core_of, query_of, set_of_tree, set_step_of}
use Rattle.name_meaning.specs.declared.rule.Rule.TheVariants as rule
use Rattle.tree_texts.specs.Forms as f
use Rattle.tree_texts.specs.Forms.{CoreForm, United}
use Rattle.tree_texts.specs.Trees.{AreKeys, IsCore, IsQuery, IsStep, intersected_tree, no_intersect_trees, no_union_trees, step_tree, united_tree, set_of as word_of}
use Rattle.sql_printer.proofs.expressions.ReadParts.{same-itself}
use Rattle.sql_printer.specs.cores.Queries.{QueryRead, out_columns}
use Rattle.sql_printer.proofs.cores.ReadQueries.{keys-read}

-- ---- columns of two operands

unite-themselves : (names : List (List ℕ)) (kinds : List Kind) → do_unite (out_columns names kinds) (out_columns names kinds) ≡ true
unite-themselves [] kinds = refl
unite-themselves (name ∷ names) [] = refl
unite-themselves (name ∷ names) (kind ∷ kinds) = λ i. same-itself kind i && unite-themselves names kinds i

united-themselves : (names : List (List ℕ)) (kinds : List Kind) → united_columns (out_columns names kinds) (out_columns names kinds) ≡ out_columns names kinds
united-themselves [] kinds = refl
united-themselves (name ∷ names) [] = refl
united-themselves (name ∷ names) (kind ∷ kinds) = ap (λ more. record { name = name; kind = Some kind } ∷ more) (united-themselves names kinds)

operands-fit : (at : ℕ) (names : List (List ℕ)) (kinds : List Kind) → operand_break at (out_columns names kinds) (out_columns names kinds) ≡ []
operands-fit at names kinds =
    let columns = out_columns names kinds in
    let as_many : nat_eq (length columns) (length columns) ≡ true = grind (arith, nat_tests) in
    ap (λ b. cond b (broken_if (not (do_unite columns columns)) rule.UnfitKind at) (broken rule.UnfitWidth at ∷ [])) as_many
    ∙ ap (λ b. broken_if (not b) rule.UnfitKind at) (unite-themselves names kinds)

pub joined-read : (left right : QueryMeant) (step : SetStepPart) (names : List (List ℕ)) (kinds : List Kind) (l r : Query) → QueryRead left names kinds l
    → QueryRead right names kinds r → QueryRead (set_joined left step right) names kinds (set_of step.word step.all l r)
joined-read left right step names kinds l r a b = record {
  breaks = (λ i. a.breaks i ++ b.breaks i ++ operand_breaks step.at (a.columns i) (b.columns i)) ∙ operands-fit step.at names kinds;
  columns = (λ i. columns_so_far (a.columns i) (b.columns i)) ∙ ap Some (united-themselves names kinds);
  places = refl;
  make = λ wanted.
      let settled = settle_known (columns_so_far left.columns right.columns) wanted in
      λ i. set_of step.word step.all (a.make settled i) (b.make settled i);
}

-- ---- the tree of two operands

module _ (c : Contents) where
  step-is : (step : SetStep) (core : Core) → step.operand ≡ set.Core core
      → set_step_of c step ≡ record { word = step.word; all = step.all; at = step.at; operand = core_of c core }
  unfolding token
  step-is step core is =
      setstep-record c step.word step.all step.at step.operand
      ∙ ap (λ (operand : BodyPart). record { word = step.word; all = step.all; at = step.at; operand = operand }) (ap (set_of_tree c) is ∙ settree-core c core)

  abbrev joined_of : Core → SetStep → Core → Around → QueryMeant
  joined_of first step second around =
      set_joined ((core_of c first).means around) (record { word = step.word; all = step.all; at = step.at; operand = core_of c second })
      ((core_of c second).means (may_not_ask around))

  abbrev set_part : Core → SetStepPart → BodyPart
  set_part first step = record {
    word = (core_of c first).word;
    means = λ around. set_joined ((core_of c first).means around) step (step.operand.means (may_not_ask around));
  }

  body-is : (first second : Core) (step : SetStep) → step.operand ≡ set.Core second
      → set_of_tree c (set.Chain (set.Core first) (step ∷ []))
      ≡ set_part first (record { word = step.word; all = step.all; at = step.at; operand = core_of c second })
  unfolding token
  body-is first second step is =
      settree-chain c (set.Core first) (step ∷ [])
      ∙ ap (λ (part : BodyPart). record { word = part.word; means = λ around. set_joined (part.means around) (set_step_of c step) ((set_step_of c step).operand.means (may_not_ask around)) })
      (settree-core c first)
      ∙ ap (set_part first) (step-is step second is)

  -- a query of two cores without ORDER BY and LIMIT
  pub set-is : (tree : QueryTree) (first second : Core) (step : SetStep) (around : Around) → tree.body ≡ set.Chain (set.Core first) (step ∷ []) → step.operand ≡ set.Core second
      → (core_of c first).word ≡ None → (query_of c tree).means around ≡ plain_query tree.at (joined_of first step second around) tree.order tree.limit
  unfolding token
  set-is tree first second step around is operand unasked =
      ap (λ (part : QueryPart). part.means around) (querytree-record c tree.at tree.body tree.order tree.limit)
      ∙ ap (λ (part : BodyPart). query_seen around tree.at part tree.order tree.limit) (ap (set_of_tree c) is ∙ body-is first second step operand)
      ∙ ap (λ b. cond b (asked_query around) (plain_query tree.at (joined_of first step second around) tree.order tree.limit))
      (ap (λ word. around.may_ask && is_some word) unasked ∙ and_right around.may_ask false refl)
    where
      asked_query : Around → QueryMeant
      asked_query around =
          let m = joined_of first step second around in
          query_with_provenance tree.at m tree.order tree.limit (limited tree.limit (keys_of m.columns tree.order) (m.make []))

  -- without ORDER BY and LIMIT
  ended-read : (at : ℕ) (m : QueryMeant) (names : List (List ℕ)) (kinds : List Kind) (q : Query) (order : List OrderTree) (limit : Option ℤ) → QueryRead m names kinds q
      → AreKeys [] order → limit ≡ None → QueryRead (plain_query at m order limit) names kinds q
  ended-read at m names kinds q order limit r ordered unlimited = record {
    breaks = (λ i. r.breaks i ++ keys_breaks (r.columns i) order) ∙ (keys-read (out_columns names kinds) [] (λ k d h. absurd (omega (arith, h))) ordered).0;
    columns = r.columns;
    places = refl;
    make = λ wanted. (λ i. limited (unlimited i) (keys_of m.columns order) (m.make wanted)) ∙ r.make wanted;
  }

  module _ (around : Around) (names : List (List ℕ)) (kinds : List Kind) (l r : Query) (first second : CoreForm)
      (left : (tree : Core) → IsCore first tree → ((core_of c tree).word ≡ None) × QueryRead ((core_of c tree).means around) names kinds l)
      (right : (tree : Core) → IsCore second tree → ((core_of c tree).word ≡ None) × QueryRead ((core_of c tree).means (may_not_ask around)) names kinds r) where
    both-read : (word : SetWord) (every : Bool) (tree : QueryTree) (core : Core) (step : SetStep) → IsCore first core → IsStep word every second step
        → tree.body ≡ set.Chain (set.Core core) (step ∷ []) → AreKeys [] tree.order → tree.limit ≡ None
        → QueryRead ((query_of c tree).means around) names kinds (set_of word every l r)
    both-read word every tree core step d (step_tree {tree = other} e word_is all_is operand) body ordered unlimited =
        let a = left core d in
        let b = right other e in
        let part : SetStepPart = record { word = step.word; all = step.all; at = step.at; operand = core_of c other } in
        subst (λ q. QueryRead ((query_of c tree).means around) names kinds q) (λ i. set_of (word_is i) (all_is i) l r)
        (subst (λ m. QueryRead m names kinds (set_of step.word step.all l r)) (sym (set-is tree core other step around body operand a.0))
        (ended-read tree.at (joined_of core step other around) names kinds (set_of step.word step.all l r) tree.order tree.limit
        (joined-read ((core_of c core).means around) ((core_of c other).means (may_not_ask around)) part names kinds l r a.1 b.1) ordered unlimited))

    pub united-read : (kind : United) (every : Bool) {tree : QueryTree} → IsQuery (f.united first kind every second f.no_unions [] None) tree
        → QueryRead ((query_of c tree).means around) names kinds (set_of (word_of kind) every l r)
    united-read kind every {tree = tree} (united_tree {tree = core} {step = step} d s no_union_trees body ordered unlimited) =
        both-read (word_of kind) every tree core step d s body ordered unlimited

    pub intersected-read : (every : Bool) {tree : QueryTree} → IsQuery (f.intersected first every second f.no_intersects [] None) tree
        → QueryRead ((query_of c tree).means around) names kinds (set_of Intersect every l r)
    intersected-read every {tree = tree} (intersected_tree {tree = core} {step = step} d s no_intersect_trees body ordered unlimited) =
        both-read Intersect every tree core step d s body ordered unlimited
