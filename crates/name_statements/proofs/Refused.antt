-- What refuses a part of a statement refuses the statement.
use Rattle.std.specs.Prelude.{◌≡◌, ℕ, List, [], ◌++◌, IfErr, IfOk, IsErrAnd, IsOkAnd, Option, Result, Ok, Err}
use Rattle.std.specs.Option.{option_map_or}
use Rattle.std.proofs.Common.{ap, sym, subst, ◌∙◌}
use Rattle.name_seen_parts.proofs.Firsts.{first-behind, first-stays}
use Rattle.name_seen_parts.specs.Columns.{columns_of}
use Rattle.name_seen_parts.specs.declared.clauses.column.ShownColumn.{ShownColumn}
use Rattle.perm_catalog.specs.Contents.{Contents}
use Rattle.sql_tree.specs.declared.query.QueryTree.{QueryTree}
use Rattle.sql_tree.specs.declared.statement.StatementBody.{StatementBody}
use Rattle.name_meaning.specs.Froms.{names_of, settled_columns}
use Rattle.name_meaning.specs.Meanings.{Around, OutColumn, QueryMeant, broken_if, query_means_at}
use Rattle.name_meaning.specs.Scopes.{KnownColumn}
use Rattle.name_meaning.specs.Statements as words
use Rattle.name_meaning.specs.Trees.{query_of}
use Rattle.name_meaning.specs.declared.answer.Break.{Break}
use Rattle.name_meaning.specs.declared.answer.Resolved.{Resolved}
use Rattle.name_seen_parts.specs.Seen.{first_or}
use Rattle.name_seen_parts.specs.declared.refusal.Refusal.{Refusal}
use Rattle.name_seen_parts.specs.declared.refusal.Refusal.TheVariants.{Break as Broken, NoMemory}
use Rattle.name_seen_cores.specs.from.Queried.{QuerySeen, QueryWhole}
use Rattle.name_seen_cores.specs.declared.from.shown.QueryShown.{QueryShown}
use Rattle.name_statements.specs.Resolves.{IsWhole, Resolves, ResolvesBody, ResolvesBy, WholeSeen}
use Rattle.name_statements.specs.declared.queries.Whole.{Whole}
use Rattle.name_statements.proofs.Bodies.{limited_by, limits-behind, names-first}
use Rattle.name_meaning.specs.declared.rule.Rule.TheVariants as rule

-- the refusal is the first of these breaks, if it is one
abbrev pub Refuses : List Break → Refusal → Type 0
Refuses breaks (Broken first) = first_or breaks (tt {0}) ≡ Err first
Refuses breaks NoMemory = Unit {0}

pub resolves-not : (breaks : List Break) (wanted : Resolved) (refusal : Refusal) → Refuses breaks refusal → Resolves breaks wanted (Err refusal)
resolves-not breaks wanted (Broken first) e = e
resolves-not breaks wanted NoMemory e = tt

pub by-break : (breaks : List Break) (refusal : Refusal) (first : Break) → refusal ≡ Broken first → Err first ≡ first_or breaks (tt {0}) → Refuses breaks refusal
by-break breaks refusal first is e = subst (Refuses breaks) (sym is) (sym e)

pub by-limit : (breaks : List Break) (told : Result Unit Break) (refusal : Refusal) → IsErrAnd told (λ (first : Break). refusal ≡ Broken first)
    → first_or breaks (tt {0}) ≡ told → Refuses breaks refusal
by-limit breaks (Ok x) refusal broken is = absurd broken
by-limit breaks (Err first) refusal broken is = subst (Refuses breaks) (sym broken) is

pub by-query : (m : QueryMeant) (refusal : Refusal) → QuerySeen m (Err refusal) → Refuses m.breaks refusal
by-query m (Broken first) e = e
by-query m NoMemory e = tt

pub by-whole : (at : ℕ) (m : QueryMeant) (refusal : Refusal) → WholeSeen at m (Err refusal) → Refuses (words.query_limits at m) refusal
by-whole at m (Broken first) e = e
by-whole at m NoMemory e = tt

pub stays : (xs ys : List Break) (refusal : Refusal) → Refuses xs refusal → Refuses (xs ++ ys) refusal
stays xs ys (Broken first) e = first-stays xs ys tt tt first e
stays xs ys NoMemory e = tt

pub behind : (xs ys : List Break) (refusal : Refusal) → xs ≡ [] → Refuses ys refusal → Refuses (xs ++ ys) refusal
behind xs ys (Broken first) none e = first-behind xs ys tt none ∙ e
behind xs ys NoMemory none e = tt

pub of-names : (names limits : List Break) (refusal : Refusal) → Refuses names refusal → Refuses (limited_by names limits) refusal
of-names names limits (Broken first) e = names-first names limits first e
of-names names limits NoMemory e = tt

pub of-limits : (names limits : List Break) (refusal : Refusal) → names ≡ [] → Refuses limits refusal → Refuses (limited_by names limits) refusal
of-limits names limits refusal none e = subst (λ (breaks : List Break). Refuses breaks refusal) (sym (limits-behind names limits none)) e

-- ---- a whole query where it stands alone

module _ (c k : Contents) (tree : QueryTree) (place : Around) (is : place ≡ words.alone) (held : k ≡ c) where
  pub same_meant : query_means_at (query_of k tree) place ≡ words.query_meant c tree
  same_meant = λ i. query_means_at (query_of (held i) tree) (is i)

  pub query-refused : (refusal : Refusal) → QuerySeen (query_means_at (query_of k tree) place) (Err refusal) → Refuses (words.query_meant c tree).breaks refusal
  query-refused refusal seen = by-query (words.query_meant c tree) refusal (subst (λ (q : QueryMeant). QuerySeen q (Err refusal)) same_meant seen)

  pub limits-refused : (refusal : Refusal) → WholeSeen tree.at (query_means_at (query_of k tree) place) (Err refusal)
      → Refuses (words.query_limits tree.at (words.query_meant c tree)) refusal
  limits-refused refusal seen =
      by-whole tree.at (words.query_meant c tree) refusal (subst (λ (q : QueryMeant). WholeSeen tree.at q (Err refusal)) same_meant seen)

  pub query-whole : (shown : QueryShown) → QueryWhole (query_means_at (query_of k tree) place) shown → QueryWhole (words.query_meant c tree) shown
  query-whole shown seen = subst (λ (q : QueryMeant). QueryWhole q shown) same_meant seen

  pub whole-so : (result : Result Whole Refusal) → WholeSeen tree.at (query_means_at (query_of k tree) place) result → WholeSeen tree.at (words.query_meant c tree) result
  whole-so result seen = subst (λ (q : QueryMeant). WholeSeen tree.at q result) same_meant seen

  pub is-whole : (whole : Whole) → IsWhole tree.at (query_means_at (query_of k tree) place) whole → IsWhole tree.at (words.query_meant c tree) whole
  is-whole whole seen = subst (λ (q : QueryMeant). IsWhole tree.at q whole) same_meant seen

pub known-columns : (m : QueryMeant) (shown : QueryShown) → QueryWhole m shown → words.columns_of m ≡ settled_columns (columns_of shown.columns)
known-columns m shown whole = ap (λ (held : Option (List OutColumn)). option_map_or settled_columns held []) whole.known

pub known-here : (m : QueryMeant) (shown : QueryShown) (columns : List ShownColumn) → QueryWhole m shown → columns ≡ shown.columns
    → words.columns_of m ≡ settled_columns (columns_of columns)
known-here m shown columns whole same = known-columns m shown whole ∙ ap (λ (cs : List ShownColumn). settled_columns (columns_of cs)) (sym same)

pub repeats-told : (m : QueryMeant) (shown : QueryShown) (columns : List ShownColumn) (at : ℕ) (told : Result Unit Break) → QueryWhole m shown → columns ≡ shown.columns
    → told ≡ first_or (broken_if (words.repeats (names_of (settled_columns (columns_of columns)))) rule.RepeatedColumn at) (tt {0})
    → first_or (broken_if (words.repeats (names_of (words.columns_of m))) rule.RepeatedColumn at) (tt {0}) ≡ told
repeats-told m shown columns at told whole same is =
    ap (λ (cs : List KnownColumn). first_or (broken_if (words.repeats (names_of cs)) rule.RepeatedColumn at) (tt {0})) (known-here m shown columns whole same) ∙ sym is

-- what resolves by what is made for it
pub made-so : {A : Type 0} (c : Contents) (body : StatementBody) (make : A → Resolved) (part : Result A Refusal) (result : Result Resolved Refusal)
    → ResolvesBy c body make part → IfOk result (λ (made : Resolved). IsOkAnd part (λ (a : A). made ≡ make a))
    → IfErr result (λ (refusal : Refusal). IsErrAnd part (λ (first : Refusal). refusal ≡ first)) → ResolvesBody c body result
made-so c body make (Ok a) (Ok m) p made refused = subst (λ (m : Resolved). ResolvesBody c body (Ok m)) (sym made) p
made-so c body make (Ok a) (Err r) p made refused = absurd refused
made-so c body make (Err f) (Ok m) p made refused = absurd made
made-so c body make (Err f) (Err r) p made refused = subst (λ (r : Refusal). ResolvesBody c body (Err r)) (sym refused) p
