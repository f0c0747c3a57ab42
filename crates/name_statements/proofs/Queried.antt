-- Statements over a query: refused by one of their parts, or resolved.
use Rattle.std.specs.Prelude.{◌≡◌, ℕ, List, [], ◌∷◌, ◌++◌, length, IsErrAnd, Result, Ok, Err}
use Rattle.std.proofs.Common.{refl, ap, sym, subst, ◌∙◌}
use Rattle.perm_values.proofs.Lists.{front-none, back-none}
use Rattle.bag_algebra.specs.declared.query.Answer.{Answer}
use Rattle.name_seen_parts.proofs.Firsts.{both-none, first-stays}
use Rattle.perm_catalog.specs.Contents.{Contents}
use Rattle.perm_catalog.specs.declared.entries.ViewEntry.{ViewEntry}
use Rattle.sql_tree.specs.declared.name.Name.{Name}
use Rattle.sql_tree.specs.declared.query.QueryTree.{QueryTree}
use Rattle.sql_tree.specs.declared.statement.StatementBody.{StatementBody}
use Rattle.sql_tree.specs.declared.statement.StatementBody.TheVariants as st
use Rattle.name_meaning.specs.Froms.{names_of}
use Rattle.name_meaning.specs.Meanings.{broken_if}
use Rattle.name_meaning.specs.Scopes.{KnownColumn}
use Rattle.name_meaning.specs.Statements as words
use Rattle.name_meaning.specs.declared.answer.Break.{Break}
use Rattle.name_meaning.specs.declared.answer.Resolved.TheVariants as r
use Rattle.name_seen_parts.specs.Seen.{first_or}
use Rattle.name_seen_parts.specs.declared.refusal.Refusal.{Refusal}
use Rattle.name_seen_parts.specs.declared.refusal.Refusal.TheVariants.{Break as Broken}
use Rattle.name_statements.specs.Resolves.{IsWhole, ResolvesBody, ResolvesBy, WholeSeen, body_breaks, stored_breaks}
use Rattle.name_statements.specs.declared.queries.Whole.{Whole}
use Rattle.name_statements.proofs.Bodies.{limited_by, limits-behind}
use Rattle.name_statements.proofs.Refused.{Refuses, behind, by-whole, of-limits, of-names, resolves-not, stays}
use Rattle.name_meaning.specs.declared.rule.Rule.TheVariants as rule

module _ (c : Contents) (tree : QueryTree) where
  refused-as : (body : StatementBody) (refusal : Refusal) → Refuses (body_breaks c body) refusal → ResolvesBody c body (Err refusal)
  refused-as body refusal e = resolves-not (body_breaks c body) (words.resolved_body c body) refusal e

  -- ---- SELECT and EXPLAIN

  pub select-seen : (refusal : Refusal) → Refuses (words.query_meant c tree).breaks refusal → ResolvesBody c (st.Select tree) (Err refusal)
  select-seen refusal e = refused-as (st.Select tree) refusal (of-names (words.query_meant c tree).breaks _ refusal e)

  pub select-limited : (refusal : Refusal) → (words.query_meant c tree).breaks ≡ [] → Refuses (words.query_limits tree.at (words.query_meant c tree)) refusal
      → ResolvesBody c (st.Select tree) (Err refusal)
  select-limited refusal none e = refused-as (st.Select tree) refusal (of-limits (words.query_meant c tree).breaks _ refusal none e)

  pub select-made : (whole : Whole) (answer : Answer) → (words.query_meant c tree).breaks ≡ [] → IsWhole tree.at (words.query_meant c tree) whole → answer ≡ whole.answer
      → ResolvesBody c (st.Select tree) (Ok (r.Select answer))
  select-made whole answer none is same = record {
    whole = limits-behind (words.query_meant c tree).breaks _ none ∙ is.within;
    is = ap r.Select (same ∙ is.answer);
  }

  pub explain-seen : (refusal : Refusal) → Refuses (words.query_meant c tree).breaks refusal → ResolvesBody c (st.Explain tree) (Err refusal)
  explain-seen refusal e = refused-as (st.Explain tree) refusal (of-names (words.query_meant c tree).breaks _ refusal e)

  pub explain-limited : (refusal : Refusal) → (words.query_meant c tree).breaks ≡ [] → Refuses (words.query_limits tree.at (words.query_meant c tree)) refusal
      → ResolvesBody c (st.Explain tree) (Err refusal)
  explain-limited refusal none e = refused-as (st.Explain tree) refusal (of-limits (words.query_meant c tree).breaks _ refusal none e)

  pub explain-made : (whole : Whole) (answer : Answer) → (words.query_meant c tree).breaks ≡ [] → IsWhole tree.at (words.query_meant c tree) whole → answer ≡ whole.answer
      → ResolvesBody c (st.Explain tree) (Ok (r.Explain answer))
  explain-made whole answer none is same = record {
    whole = limits-behind (words.query_meant c tree).breaks _ none ∙ is.within;
    is = ap r.Explain (same ∙ is.answer);
  }

  module _ (name : Name) where
    abbrev named_twice : List Break
    named_twice = broken_if (words.repeats (names_of (words.columns_of (words.query_meant c tree)))) rule.RepeatedColumn tree.at

    abbrev truths : List Break
    truths = broken_if (words.has_boolean (words.columns_of (words.query_meant c tree))) rule.UnfitKind tree.at

    abbrev named_query : List Break
    named_query = words.named_query_breaks tree.at (words.query_meant c tree)

    -- ---- CREATE VIEW

    pub view-seen : (refusal : Refusal) → words.taken c name ≡ [] → Refuses (words.query_meant c tree).breaks refusal → ResolvesBody c (st.CreateView name tree) (Err refusal)
    view-seen refusal free e = refused-as (st.CreateView name tree) refusal (of-names (words.taken c name ++ named_query) _ refusal
        (behind (words.taken c name) named_query refusal free (stays (words.query_meant c tree).breaks named_twice refusal e)))

    pub view-repeats : (refusal : Refusal) → words.taken c name ≡ [] → (words.query_meant c tree).breaks ≡ []
        → Refuses (broken_if (words.repeats (names_of (words.columns_of (words.query_meant c tree)))) rule.RepeatedColumn tree.at) refusal → ResolvesBody c (st.CreateView name tree) (Err refusal)
    view-repeats refusal free none e = refused-as (st.CreateView name tree) refusal (of-names (words.taken c name ++ named_query) _ refusal
        (behind (words.taken c name) named_query refusal free (behind (words.query_meant c tree).breaks named_twice refusal none e)))

    named-none : words.taken c name ≡ [] → (words.query_meant c tree).breaks ≡ [] → named_twice ≡ [] → words.taken c name ++ named_query ≡ []
    named-none free none once = both-none (words.taken c name) named_query free (both-none (words.query_meant c tree).breaks named_twice none once)

    pub view-limited : (refusal : Refusal) → words.taken c name ≡ [] → (words.query_meant c tree).breaks ≡ []
        → broken_if (words.repeats (names_of (words.columns_of (words.query_meant c tree)))) rule.RepeatedColumn tree.at ≡ []
        → Refuses (words.query_limits tree.at (words.query_meant c tree)) refusal → ResolvesBody c (st.CreateView name tree) (Err refusal)
    view-limited refusal free none once e = refused-as (st.CreateView name tree) refusal (of-limits (words.taken c name ++ named_query) _ refusal (named-none free none once) e)

    pub view-made : (whole : Whole) (entry : ViewEntry) (text : List ℕ) → words.taken c name ≡ [] → (words.query_meant c tree).breaks ≡ []
        → broken_if (words.repeats (names_of (words.columns_of (words.query_meant c tree)))) rule.RepeatedColumn tree.at ≡ []
        → IsWhole tree.at (words.query_meant c tree) whole
        → entry ≡ record { answer = whole.answer; places = whole.places; names_used = words.all_noted whole.names } → text ≡ name.text
        → ResolvesBody c (st.CreateView name tree) (Ok (r.CreateView text entry))
    view-made whole entry text free none once is same called = record {
      whole = limits-behind (words.taken c name ++ named_query) _ (named-none free none once) ∙ is.within;
      is = (λ i. r.CreateView (called i) (same i))
          ∙ (λ i. r.CreateView name.text (record { answer = is.answer i; places = is.places i; names_used = words.all_noted (is.names i) }));
    }

    -- ---- CREATE TABLE AS

    pub stored-seen : (refusal : Refusal) → words.taken c name ≡ [] → Refuses (words.query_meant c tree).breaks refusal
        → ResolvesBody c (st.CreateTableAs name tree) (Err refusal)
    stored-seen refusal free e = refused-as (st.CreateTableAs name tree) refusal (of-names (words.taken c name ++ named_query ++ truths) _ refusal
        (stays (words.taken c name ++ named_query) truths refusal
        (behind (words.taken c name) named_query refusal free (stays (words.query_meant c tree).breaks named_twice refusal e))))

    known_names : words.taken c name ≡ [] → (words.query_meant c tree).breaks ≡ [] → words.taken c name ++ named_query ++ truths ≡ named_twice ++ truths
    known_names free none = λ i. free i ++ (none i ++ named_twice) ++ truths

    first-stored : (twice boolean limit more : List Break) (first : Break) → first_or (twice ++ boolean ++ limit) (tt {0}) ≡ Err first
        → first_or (limited_by (twice ++ boolean) (limit ++ more)) (tt {0}) ≡ Err first
    first-stored [] [] limit more first e = first-stays limit more (tt {0}) (tt {0}) first e
    first-stored [] (b ∷ bs) limit more first e = e
    first-stored (b ∷ bs) boolean limit more first e = e

    pub stored-broken : (refusal : Refusal) (first : Break) (columns : List KnownColumn) → words.taken c name ≡ [] → (words.query_meant c tree).breaks ≡ []
        → words.columns_of (words.query_meant c tree) ≡ columns → refusal ≡ Broken first → first_or (stored_breaks name tree.at columns) (tt {0}) ≡ Err first
        → ResolvesBody c (st.CreateTableAs name tree) (Err refusal)
    stored-broken refusal first columns free none known is e = subst (λ (r : Refusal). ResolvesBody c (st.CreateTableAs name tree) (Err r)) (sym is)
        (ap (λ (names : List Break). first_or (limited_by names (words.table_limit name (length (words.columns_of (words.query_meant c tree)))
        ++ words.query_limits tree.at (words.query_meant c tree))) (tt {0})) (known_names free none)
        ∙ first-stored named_twice truths (words.table_limit name (length (words.columns_of (words.query_meant c tree)))) (words.query_limits tree.at (words.query_meant c tree)) first
        (ap (λ (cs : List KnownColumn). first_or (stored_breaks name tree.at cs) (tt {0})) known ∙ e))

    pub stored-told : (refusal : Refusal) (told : Result Unit Break) (columns : List KnownColumn) → words.taken c name ≡ [] → (words.query_meant c tree).breaks ≡ []
        → words.columns_of (words.query_meant c tree) ≡ columns → IsErrAnd told (λ (first : Break). refusal ≡ Broken first)
        → told ≡ first_or (stored_breaks name tree.at columns) (tt {0}) → ResolvesBody c (st.CreateTableAs name tree) (Err refusal)
    stored-told refusal (Ok x) columns free none known broken is = absurd broken
    stored-told refusal (Err first) columns free none known broken is = stored-broken refusal first columns free none known broken (sym is)

    -- what its columns break is nothing
    module _ (columns : List KnownColumn) (free : words.taken c name ≡ []) (none : (words.query_meant c tree).breaks ≡ [])
        (known : words.columns_of (words.query_meant c tree) ≡ columns) (fit : stored_breaks name tree.at columns ≡ []) where
      fit-here : named_twice ++ truths ++ words.table_limit name (length (words.columns_of (words.query_meant c tree))) ≡ []
      fit-here = ap (stored_breaks name tree.at) known ∙ fit

      names-fit : words.taken c name ++ named_query ++ truths ≡ []
      names-fit = known_names free none
          ∙ front-none (named_twice ++ truths) (words.table_limit name (length (words.columns_of (words.query_meant c tree)))) fit-here

      limit-fits : words.table_limit name (length (words.columns_of (words.query_meant c tree))) ≡ []
      limit-fits = back-none (named_twice ++ truths) (words.table_limit name (length (words.columns_of (words.query_meant c tree)))) fit-here

      pub stored-limited : (refusal : Refusal) → Refuses (words.query_limits tree.at (words.query_meant c tree)) refusal
          → ResolvesBody c (st.CreateTableAs name tree) (Err refusal)
      stored-limited refusal e = refused-as (st.CreateTableAs name tree) refusal (of-limits (words.taken c name ++ named_query ++ truths) _ refusal names-fit
          (behind (words.table_limit name (length (words.columns_of (words.query_meant c tree)))) (words.query_limits tree.at (words.query_meant c tree)) refusal limit-fits e))

      pub stored-made : (whole : Whole) (text : List ℕ) → IsWhole tree.at (words.query_meant c tree) whole → text ≡ name.text
          → ResolvesBody c (st.CreateTableAs name tree) (Ok (r.CreateTableAs text whole.columns whole.answer whole.places))
      stored-made whole text is called = record {
        whole = limits-behind (words.taken c name ++ named_query ++ truths) _ names-fit
            ∙ both-none (words.table_limit name (length (words.columns_of (words.query_meant c tree)))) (words.query_limits tree.at (words.query_meant c tree)) limit-fits is.within;
        is = λ i. r.CreateTableAs (called i) (is.columns i) (is.answer i) (is.places i);
      }

      pub stored-so : (result : Result Whole Refusal) → WholeSeen tree.at (words.query_meant c tree) result
          → ResolvesBy c (st.CreateTableAs name tree) (λ (whole : Whole). r.CreateTableAs name.text whole.columns whole.answer whole.places) result
      stored-so (Ok whole) is = stored-made whole name.text is refl
      stored-so (Err refusal) seen = stored-limited refusal (by-whole tree.at (words.query_meant c tree) refusal seen)
