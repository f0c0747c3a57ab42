-- What a text is read as, and what that says.
use Rattle.std.proofs.Common.{◌≡◌, ◌∙◌, ℕ, ◌-◌, Bool, true, nat_eq, List, [], ◌∷◌, ◌++◌, length, take, drop, Option, Some, None, Result, Ok, Err, IfOk, refl, sym, ap, subst, arith}
use Rattle.std.specs.Prelude.{codes}
use Rattle.std.specs.Cmp.Lexicographic.{same_text}
use Rattle.std.specs.List.{ends_with, list_all}
use Rattle.std.proofs.lemmas.List.{take-append-drop}
use Rattle.statement_meaning.specs.explains.Explains.{Explains, MeansTheSame, NamesTables, is_plain_word, one_select, read_as}
use Rattle.statement_meaning.proofs.SameMeanings.{one_query}
use Rattle.bag_algebra.specs.declared.query.Answer.{Answer}
use Rattle.sql_printer.specs.explained.Alone.{IsAlone}
use Rattle.sql_printer.specs.explained.Reading.{IsPlainText, IsWholeText, NamesTablesText, OnlyQuery, PlainText, ReadAgain, SaidIn, SaidOf, explain_of}
use Rattle.name_meaning.specs.Statements.{breaks, limit_breaks, name_breaks, resolved}
use Rattle.name_meaning.specs.declared.answer.Resolved.{Resolved}
use Rattle.name_meaning.specs.declared.answer.Resolved.TheVariants as r
use Rattle.name_statements.specs.Resolves.{IsResolved}
use Rattle.perm_catalog.specs.Contents.{Contents}
use Rattle.perm_catalog.specs.Sound.{IsSound}
use Rattle.perm_values.specs.declared.no_memory.NoMemory.{NoMemory}
use Rattle.sql_lexer.specs.Lexes.{Lexes}
use Rattle.sql_lexer.specs.declared.token.Token.{Token}
use Rattle.sql_parser.specs.Spells.{Spells}
use Rattle.sql_tree.specs.Regular.{Regular, RegularStatement}
use Rattle.sql_tree.specs.declared.query.QueryTree.{QueryTree}
use Rattle.sql_tree.specs.declared.statement.Script.{Script}
use Rattle.sql_tree.specs.declared.statement.Statement.{Statement}
use Rattle.sql_tree.specs.declared.statement.StatementBody.{StatementBody}
use Rattle.sql_tree.specs.declared.statement.StatementBody.TheVariants.{Explain, Select}
use Rattle.name_meaning.proofs.Impacts.{earlier-none}
use Rattle.statement_meaning.specs.Ready.{IsReady}

-- a text that ends in these bytes is some others and these
pub ended-by : (text needle : List ℕ) → true ≡ ends_with nat_eq text needle → (front : List ℕ) × (text ≡ front ++ needle)
ended-by text needle ends =
    let front = take (length text - length needle) text in (
      front,
      sym (take-append-drop (length text - length needle) text)
          ∙ ap (λ (back : List ℕ). front ++ back) (sym (same_text needle (drop (length text - length needle) text) ends)),
    )

pub asked : (statement : Statement) (tree : QueryTree) → statement.body ≡ Select tree
    → OnlyQuery (record { statements = statement ∷ [] }) (Some (explain_of statement.at tree))
asked statement tree is = record {
  start = statement.at;
  tree = tree;
  one = ap (λ (body : StatementBody). record { statements = record { at = statement.at; body = body } ∷ [] }) is;
  asks = refl;
}

pub only : (statements rest : List Statement) (statement : Statement) (asked : Option Statement) → statements ≡ rest ++ statement ∷ [] → rest ≡ []
    → OnlyQuery (record { statements = statement ∷ [] }) asked → OnlyQuery (record { statements = statements }) asked
only statements rest statement asked is none one =
    subst (λ (all : List Statement). OnlyQuery (record { statements = all }) asked) (sym (is ∙ ap (λ (before : List Statement). before ++ statement ∷ []) none)) one

pub plain-text : (text : List ℕ) (tokens : List Token) (script : Script) (asked : Option Statement) → Lexes text tokens
    → list_all is_plain_word tokens ≡ true → Spells tokens script → (front : List ℕ) → text ≡ front ++ codes ";\n" → OnlyQuery script asked
    → PlainText text asked
plain-text text tokens script None lexes plain spells front ended only = tt
plain-text text tokens script (Some statement) lexes plain spells front ended only = record {
  start = only.start;
  tree = only.tree;
  spelled = record { tokens = tokens; lexes = lexes; spelled = subst (λ (s : Script). Spells tokens s) only.one spells };
  plain = plain;
  front = front;
  ended = ended;
  asks = only.asks;
}

module _ (c : Contents) (text : List ℕ) (statement : Statement) (p : IsPlainText text statement) where
  pub regular : ((bytes : List ℕ) (tokens : List Token) (script : Script) → Lexes bytes tokens → Spells tokens script → Regular script)
      → RegularStatement statement
  regular law = subst RegularStatement (sym p.asks)
      (law text p.spelled.tokens (one_select p.start p.tree) p.spelled.lexes p.spelled.spelled (record { at = p.start; body = Select p.tree })
      (0, omega arith, refl))

  module _ (made : Resolved) (is : IsResolved (breaks c statement) (resolved c statement) made) where
    made-is : made ≡ r.Explain (read_as c p.tree)
    made-is = is.is ∙ ap (λ (s : Statement). resolved c s) p.asks

    whole : name_breaks c (Select p.tree) ≡ []
    whole = earlier-none (name_breaks c (Explain p.tree)) (limit_breaks c (Explain p.tree))
        (subst (λ (s : Statement). breaks c s ≡ []) p.asks is.whole)

    pub ready : IsSound c → ((bytes : List ℕ) (tokens : List Token) (script : Script) → Lexes bytes tokens → Spells tokens script → Regular script)
        → ((c : Contents) (statement : Statement) → IsSound c → RegularStatement statement → breaks c statement ≡ [] → IsReady c (resolved c statement))
        → IsReady c made
    ready sound spelled law = subst (IsReady c) (sym is.is) (law c statement sound (regular spelled) is.whole)

    pub whole-text : IsWholeText c text
    whole-text = record { start = p.start; tree = p.tree; spelled = p.spelled; whole = whole }

    said-in : (again : Option (List ℕ)) → SaidOf c made again → SaidIn c (read_as c p.tree) again
    said-in None said = tt
    said-in (Some again) said = subst (λ (m : Resolved). SaidOf c m (Some again)) made-is said

    names : NamesTablesText c text → NamesTables c p.tree
    names t = subst (NamesTables c) (one_query text t.start p.start t.tree p.tree t.spelled p.spelled) t.tables

    pub says : NamesTablesText c text
        → ((c : Contents) (answer other : Answer) (text : List ℕ) → Explains c answer text → Explains c other text → MeansTheSame c answer other)
        → (again : Option (List ℕ)) → SaidOf c made again → ReadAgain c text again
    says tables law None said = tt
    says tables law (Some again) said = λ (answer : Answer) (explains : Explains c answer again).
        let own = said-in (Some again) said in record {
          start = p.start;
          tree = p.tree;
          spelled = p.spelled;
          plain = p.plain;
          front = p.front;
          ended = p.ended;
          tables = names tables;
          whole = whole;
          plainly = own.0;
          means = law c answer (read_as c p.tree) again explains own.1;
        }

    pub read : NamesTablesText c text
        → ((c : Contents) (answer other : Answer) (text : List ℕ) → Explains c answer text → Explains c other text → MeansTheSame c answer other)
        → (result : Result (Option (List ℕ)) NoMemory) → IfOk result (SaidOf c made) → IfOk result (ReadAgain c text)
    read tables law (Ok again) said = says tables law again said
    read tables law (Err error) said = tt

-- ---- over tables alone

pub named-text : (c alone : Contents) (text : List ℕ) → IsAlone c alone → IsWholeText alone text → NamesTablesText c text
named-text c alone text is t = record {
  start = t.start;
  tree = t.tree;
  spelled = t.spelled;
  tables = record { tables = alone; are = is.are; whole = t.whole };
}

pub named-where : (c alone : Contents) (text : List ℕ) → IsAlone c alone → (result : Result Bool NoMemory)
    → IfOk result (λ is. is ≡ true → IsWholeText alone text) → IfOk result (λ does. does ≡ true → NamesTablesText c text)
named-where c alone text is (Ok does) whole = λ (e : does ≡ true). named-text c alone text is (whole e)
named-where c alone text is (Err error) whole = tt
