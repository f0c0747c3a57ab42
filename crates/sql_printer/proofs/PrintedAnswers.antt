-- What is printed of an answer explains it.
use Rattle.std.proofs.Common.{◌≡◌, ℕ, ◌<◌, true, List, [], ◌∷◌, length, refl, sym, subst, ◌∙◌, arith}
use Rattle.std.specs.List.{AllByRecursion}
use Rattle.std.specs.Str.{IsUtf8}
use Rattle.perm_values.specs.Rows.{KeysWithin}
use Rattle.perm_values.specs.declared.key.Key.{Key}
use Rattle.perm_values.specs.declared.kind.Kind.{Kind}
use Rattle.sql_lexer.specs.declared.token.Token.{Token}
use Rattle.tree_texts.specs.plans.Plans.{tokens_of}
use Rattle.bag_algebra.specs.Kinds.{kinds_of}
use Rattle.bag_algebra.specs.Rewriting.{is_plain}
use Rattle.bag_algebra.specs.TablesRead.{EachTable}
use Rattle.bag_algebra.specs.WellFormed.{WellFormed}
use Rattle.bag_algebra.specs.declared.query.Answer.{Answer}
use Rattle.bag_algebra.specs.declared.query.Query.{Query}
use Rattle.perm_catalog.specs.Contents.{Contents}
use Rattle.perm_catalog.specs.Sound.{IsSoundAnswer}
use Rattle.query_texts.specs.QueryTexts.{answer_bytes}
use Rattle.query_texts.specs.declared.clauses.tables.TableNames.{TableNames}
use Rattle.tree_texts.specs.FormPlans as plan
use Rattle.tree_texts.specs.Forms.{QueryForm}
use Rattle.tree_texts.specs.Standing.{CanStand}
use Rattle.tree_texts.specs.Texts.{query_text, shown_tokens}
use Rattle.tree_texts.specs.Trees.{IsQuery}
use Rattle.tree_texts.proofs.FormsSound.{query_sound}
use Rattle.tree_texts.proofs.Standing.{all_stand}
use Rattle.tree_texts.specs.layout.Lines.{EndsScript}
use Rattle.query_texts.specs.forms.ShownQueries.{shown_answer}
use Rattle.query_texts.proofs.Said.{said_is}
use Rattle.query_texts.proofs.SaidQueries.{answer_said}
use Rattle.sql_tree.specs.declared.query.QueryTree.{QueryTree}
use Rattle.statement_meaning.specs.explains.Explains.{Explains, MeansTheSame, read_as}
use Rattle.sql_printer.specs.rows.Printed.{printed_answer}
use Rattle.sql_printer.specs.rows.Writable.{WritableQuery}
use Rattle.sql_printer.specs.forms.Printable.{AreCharacters, Printable}
use Rattle.sql_printer.proofs.forms.EndedTexts.{ended-form}
use Rattle.sql_printer.proofs.forms.FitsQueries.{answer-fits}
use Rattle.sql_printer.proofs.forms.PrintableNodes.{printable-short}
use Rattle.sql_printer.proofs.forms.WritableQueries.{printable-writable}
use Rattle.sql_printer.specs.answers.ReadAs.{Few, IsNamed, IsReadAs, Narrow, source_in}
use Rattle.sql_printer.proofs.NarrowQueries.{printable-narrow, short-few}
use Rattle.sql_printer.proofs.answers.PlainAnswers.{named-alone, names-tables, read-plain, without_views}

record IsSome (kinds : List Kind) : Type 0 where
  first : Kind
  more : List Kind
  is : kinds ≡ first ∷ more

some-kinds : (kinds : List Kind) → 0 < length kinds → IsSome kinds
some-kinds [] some = absurd (omega (arith, some))
some-kinds (kind ∷ kinds) some = record { first = kind; more = kinds; is = refl }

-- a law of the tree of a printed answer
abbrev IsLaw : (Contents → List TableNames → Answer → QueryTree → Type 0) → Type 0
IsLaw Holds = (c : Contents) (tables : List TableNames) (q : Query) (kind : Kind) (more : List Kind) → kinds_of q ≡ kind ∷ more
    → WellFormed [] q → WritableQuery q → EachTable (IsNamed c tables) q → Narrow q → Few (kinds_of q)
    → (names : List (List ℕ)) (keys : List Key) → length names ≡ length (kinds_of q) → KeysWithin (length names) keys → (tree : QueryTree)
    → IsQuery (shown_answer tables q names keys) tree → Holds c tables (record { query = q; names = names; keys = keys }) tree

-- it is read as what is printed, and means the answer
abbrev ReadsBack : Contents → List TableNames → Answer → QueryTree → Type 0
ReadsBack c tables answer tree =
    IsReadAs c tree (record { query = printed_answer (source_in c tables) answer.query; names = answer.names; keys = answer.keys })

abbrev Means : Contents → List TableNames → Answer → QueryTree → Type 0
Means c tables answer tree = MeansTheSame c answer (read_as c tree)

module _ (reads_back : IsLaw ReadsBack) (means : IsLaw Means) (c : Contents) (tables : List TableNames) (answer : Answer)
    (sound : IsSoundAnswer answer) (plain : is_plain answer.query ≡ true) (named : EachTable (IsNamed c tables) answer.query)
    (printable : Printable answer.query) (characters : AllByRecursion AreCharacters tables) (names : AllByRecursion IsUtf8 answer.names) where
  abbrev form : QueryForm
  form = shown_answer tables answer.query answer.names answer.keys

  written : answer_bytes tables answer.query answer.names answer.keys ≡ query_text form
  written = sym (said_is (plan.query form) ∙ answer_said tables answer.query answer.names answer.keys)

  -- what a law says of the tree of this answer, over contents that have its tables
  applied-over : (Holds : Contents → List TableNames → Answer → QueryTree → Type 0) → IsLaw Holds → (held : Contents)
      → EachTable (IsNamed held tables) answer.query → (tree : QueryTree) → IsQuery form tree → Holds held tables answer tree
  applied-over Holds law held named_there tree is =
      let some = some-kinds (kinds_of answer.query) sound.some in
      law held tables answer.query some.first some.more some.is sound.closed (printable-writable answer.query plain printable) named_there
      (printable-narrow answer.query printable) (short-few (kinds_of answer.query) (printable-short answer.query printable)) answer.names answer.keys
      sound.named (subst (λ n. KeysWithin n answer.keys) (sym sound.named) sound.keys) tree is

  applied : (Holds : Contents → List TableNames → Answer → QueryTree → Type 0) → IsLaw Holds → (tree : QueryTree) → IsQuery form tree
      → Holds c tables answer tree
  applied Holds law tree is = applied-over Holds law c named tree is

  -- what the text is: a script of the tokens of what is written, where these can stand
  abbrev pub IsScriptOfAnswer : List ℕ → Type 0
  IsScriptOfAnswer text = (tokens : List Token) → AllByRecursion CanStand tokens
      → answer_bytes tables answer.query answer.names answer.keys ≡ shown_tokens tokens → EndsScript tokens text

  pub printed : (text : List ℕ) → IsScriptOfAnswer text → Explains c answer text
  printed text laid =
      let fit = answer-fits tables characters answer.query answer.names answer.keys sound.closed printable names sound.keys in
      let ends = laid (tokens_of (plan.query form)) (all_stand (plan.query form) (query_sound form fit)) written in
      let read = ended-form form text ends in
      let back = applied ReadsBack reads_back read.tree read.is in
      record {
        start = read.start;
        tree = read.tree;
        spelled = read.spelled;
        plain = read.plain;
        front = ends.front;
        ended = ends.ended;
        tables = names-tables c read.tree
            (applied-over ReadsBack reads_back (without_views c) (named-alone c tables answer.query named) read.tree read.is).whole;
        whole = back.whole;
        plainly = read-plain c tables answer.query answer.names answer.keys read.tree back;
        means = applied Means means read.tree read.is;
      }
