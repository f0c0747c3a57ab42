-- IMPACT: its condition, then its query, then whether that is monotone, then the limits.
use Rattle.std.specs.Prelude.{◌≡◌, ℕ, true, Bool, not, List, [], ◌++◌, Option, IfErr, IfOk, IsErrAnd, Result, Ok, Err}
use Rattle.std.proofs.Common.{ap, sym, subst, ◌∙◌}
use Rattle.bag_algebra.specs.declared.expr.Expr.{Expr}
use Rattle.bag_algebra.specs.declared.query.Query.{Query}
use Rattle.query_facts.specs.monotone.Monotone.{is_monotone}
use Rattle.perm_catalog.specs.Contents.{Contents}
use Rattle.sql_tree.specs.declared.expression.ExprTree.{ExprTree}
use Rattle.sql_tree.specs.declared.name.Name.{Name}
use Rattle.sql_tree.specs.declared.query.QueryTree.{QueryTree}
use Rattle.sql_tree.specs.declared.statement.StatementBody.TheVariants as st
use Rattle.name_meaning.specs.Meanings.{Around, QueryMeant, broken_if, query_means_at}
use Rattle.name_meaning.specs.Queries.{may_not_ask}
use Rattle.name_meaning.specs.Statements as words
use Rattle.name_meaning.specs.Trees.{query_of}
use Rattle.name_meaning.specs.declared.answer.Break.{Break}
use Rattle.name_meaning.specs.declared.answer.Resolved.TheVariants as r
use Rattle.name_meaning.specs.declared.rule.Rule.TheVariants as rule
use Rattle.name_meaning.proofs.Every.{unbroken}
use Rattle.name_meaning.specs.nodes.Makes.{MakesQuery}
use Rattle.name_seen_parts.proofs.Firsts.{none-broken}
use Rattle.name_seen_parts.specs.Seen.{first_or}
use Rattle.name_seen_parts.specs.declared.refusal.Refusal.{Refusal}
use Rattle.name_seen_parts.specs.declared.refusal.Refusal.TheVariants.{Break as Broken, NoMemory}
use Rattle.name_seen_cores.specs.from.Queried.{QuerySeen}
use Rattle.name_statements.specs.Resolves.{AskedSeen, InsideSeen, IsAsked, IsMonotoneMade, MonotoneSeen, ResolvesBody, ResolvesBy, WholeSeen, asked_breaks, body_breaks}
use Rattle.name_statements.specs.declared.queries.Whole.{Whole}
use Rattle.name_statements.proofs.Bodies.{limited_by, limits-behind}
use Rattle.name_statements.proofs.Refused.{Refuses, by-limit, by-whole, by-query, of-limits, of-names, resolves-not, stays}
use Rattle.name_statements.proofs.Tabled.{without-limit}

-- ---- the query by itself

module _ (at : ℕ) (m : QueryMeant) where
  asked-refused : (refusal : Refusal) → Refuses m.breaks refusal → Refuses (asked_breaks at m) refusal
  asked-refused refusal e =
      of-names (limited_by m.breaks (words.not_monotone at m)) (words.query_limits at m) refusal (of-names m.breaks (words.not_monotone at m) refusal e)

  not-monotone : (refusal : Refusal) → m.breaks ≡ [] → Refuses (words.not_monotone at m) refusal → Refuses (asked_breaks at m) refusal
  not-monotone refusal none e =
      of-names (limited_by m.breaks (words.not_monotone at m)) (words.query_limits at m) refusal (of-limits m.breaks (words.not_monotone at m) refusal none e)

  monotone-none : m.breaks ≡ [] → is_monotone (m.make []) ≡ true → limited_by m.breaks (words.not_monotone at m) ≡ []
  monotone-none none monotone =
      limits-behind m.breaks (words.not_monotone at m) none ∙ ap (λ (b : Bool). broken_if (not b) rule.NotMonotone at) monotone

  asked-limited : (refusal : Refusal) → m.breaks ≡ [] → is_monotone (m.make []) ≡ true → Refuses (words.query_limits at m) refusal → Refuses (asked_breaks at m) refusal
  asked-limited refusal none monotone e =
      of-limits (limited_by m.breaks (words.not_monotone at m)) (words.query_limits at m) refusal (monotone-none none monotone) e

  pub asked-none : (whole : Whole) → IsAsked at m whole → asked_breaks at m ≡ []
  asked-none whole asked =
      limits-behind (limited_by m.breaks (words.not_monotone at m)) (words.query_limits at m) (monotone-none asked.none asked.monotone) ∙ asked.is.within

  refuses-asked : (refusal : Refusal) → Refuses (asked_breaks at m) refusal → AskedSeen at m (Err refusal)
  refuses-asked (Broken first) e = e
  refuses-asked NoMemory e = tt

  refuses-monotone : (refusal : Refusal) → Refuses (asked_breaks at m) refusal → MonotoneSeen at m (Err refusal)
  refuses-monotone (Broken first) e = e
  refuses-monotone NoMemory e = tt

  pub monotone-refuses : (refusal : Refusal) → MonotoneSeen at m (Err refusal) → AskedSeen at m (Err refusal)
  monotone-refuses (Broken first) e = e
  monotone-refuses NoMemory e = tt

  asked-refuses : (refusal : Refusal) → AskedSeen at m (Err refusal) → Refuses (asked_breaks at m) refusal
  asked-refuses (Broken first) e = e
  asked-refuses NoMemory e = tt

  -- ---- made, where it is monotone

  pub monotone-so : (made : Query) (told : Result Unit Break) (result : Result Query Refusal) → m.breaks ≡ [] → MakesQuery m [] made
      → told ≡ first_or (broken_if (not (is_monotone made)) rule.NotMonotone at) (tt {0})
      → IfOk result (λ (same : Query). (same ≡ made) × (told ≡ Ok (tt {0})))
      → IfErr result (λ (refusal : Refusal). IsErrAnd told (λ (first : Break). refusal ≡ Broken first)) → MonotoneSeen at m result
  monotone-so made told (Ok same) none makes is kept broken =
      subst (IsMonotoneMade m) (sym kept.0) (record {
        makes = makes;
        monotone = unbroken (is_monotone made) rule.NotMonotone at
            (none-broken (broken_if (not (is_monotone made)) rule.NotMonotone at) (tt {0}) (tt {0}) (sym is ∙ kept.1));
      })
  monotone-so made told (Err refusal) none makes is kept broken =
      refuses-monotone refusal (not-monotone refusal none (by-limit (words.not_monotone at m) told refusal broken
      (ap (λ (q : Query). first_or (broken_if (not (is_monotone q)) rule.NotMonotone at) (tt {0})) (sym (makes.makes none)) ∙ sym is)))

  -- ---- whole

  pub whole-asked : (made : Query) (result : Result Whole Refusal) → m.breaks ≡ [] → IsMonotoneMade m made → WholeSeen at m result → AskedSeen at m result
  whole-asked made (Ok whole) none is seen =
      record { none = none; monotone = ap is_monotone (sym (is.makes.makes none)) ∙ is.monotone; is = seen }
  whole-asked made (Err refusal) none is seen =
      refuses-asked refusal (asked-limited refusal none (ap is_monotone (sym (is.makes.makes none)) ∙ is.monotone) (by-whole at m refusal seen))

  inside-refuses : (refusal : Refusal) → InsideSeen at m (Err refusal) → Refuses (words.query_limits at m) refusal
  inside-refuses (Broken first) e = e
  inside-refuses NoMemory e = tt

  pub inside-asked : (made : Query) (refusal : Refusal) → m.breaks ≡ [] → IsMonotoneMade m made → InsideSeen at m (Err refusal) → AskedSeen at m (Err refusal)
  inside-asked made refusal none is seen =
      refuses-asked refusal (asked-limited refusal none (ap is_monotone (sym (is.makes.makes none)) ∙ is.monotone) (inside-refuses refusal seen))

-- ---- where it stands alone

module _ (c k : Contents) (tree : QueryTree) (place : Around) (is : place ≡ may_not_ask words.alone) (held : k ≡ c) where
  pub asked-here : (result : Result Whole Refusal) → AskedSeen tree.at (query_means_at (query_of k tree) place) result → AskedSeen tree.at (words.impact_query c tree) result
  asked-here result seen = subst (λ (q : QueryMeant). AskedSeen tree.at q result) (λ i. query_means_at (query_of (held i) tree) (is i)) seen

  pub asked-unseen : (refusal : Refusal) → QuerySeen (query_means_at (query_of k tree) place) (Err refusal) → AskedSeen tree.at (words.impact_query c tree) (Err refusal)
  asked-unseen refusal seen =
      let m : QueryMeant = query_means_at (query_of k tree) place in
      asked-here (Err refusal) (refuses-asked tree.at m refusal (asked-refused tree.at m refusal (by-query m refusal seen)))

-- ---- the statement

same-condition : (text : List ℕ) (a b : Option Expr) → r.Delete text a ≡ r.Delete text b → a ≡ b
same-condition text a b e = cc

module _ (c : Contents) (table : Name) (condition : Option ExprTree) (tree : QueryTree) where
  abbrev condition_breaks : List Break
  condition_breaks = words.on_table c table (words.delete_breaks c table condition)

  abbrev meant : QueryMeant
  meant = words.impact_query c tree

  delete-refuses : (refusal : Refusal) → ResolvesBody c (st.Delete table condition) (Err refusal) → Refuses condition_breaks refusal
  delete-refuses (Broken first) e = ap (λ (breaks : List Break). first_or breaks (tt {0})) (sym (without-limit condition_breaks)) ∙ e
  delete-refuses NoMemory e = tt

  -- its condition is refused as that of DELETE
  pub impact-refused : (refusal : Refusal) → ResolvesBy c (st.Delete table condition) (r.Delete table.text) (Err refusal)
      → ResolvesBody c (st.Impact table condition tree) (Err refusal)
  impact-refused refusal e =
      let parts : List Break = words.impact_parts c table condition tree in
      resolves-not (body_breaks c (st.Impact table condition tree)) (words.resolved_body c (st.Impact table condition tree)) refusal
      (of-names (limited_by parts (words.not_monotone tree.at meant)) (words.query_limits tree.at meant) refusal
      (of-names parts (words.not_monotone tree.at meant) refusal (stays condition_breaks meant.breaks refusal (delete-refuses refusal e))))

  module _ (made : Option Expr) (deleted : ResolvesBody c (st.Delete table condition) (Ok (r.Delete table.text made))) where
    front-none : condition_breaks ≡ []
    front-none = sym (without-limit condition_breaks) ∙ deleted.whole

    breaks-are : body_breaks c (st.Impact table condition tree) ≡ asked_breaks tree.at meant
    breaks-are =
        ap (λ (breaks : List Break). limited_by (limited_by (breaks ++ meant.breaks) (words.not_monotone tree.at meant)) (words.query_limits tree.at meant)) front-none

    pub impact-so : (whole : Result Whole Refusal) → AskedSeen tree.at meant whole
        → ResolvesBy c (st.Impact table condition tree) (λ (w : Whole). r.Impact table.text made w.answer) whole
    impact-so (Ok whole) asked = record {
      whole = breaks-are ∙ asked-none tree.at meant whole asked;
      is = λ i. r.Impact table.text (same-condition table.text made (words.delete_made c table condition) deleted.is i) (asked.is.answer i);
    }
    impact-so (Err refusal) asked =
        resolves-not (body_breaks c (st.Impact table condition tree)) (words.resolved_body c (st.Impact table condition tree)) refusal
        (subst (λ (breaks : List Break). Refuses breaks refusal) (sym breaks-are) (asked-refuses tree.at meant refusal asked))
