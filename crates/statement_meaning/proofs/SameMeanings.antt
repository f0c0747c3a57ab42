-- Meaning the same goes both ways, and on.
use Rattle.std.proofs.Common.{◌≡◌, ℕ, List, [], ◌∷◌, ap, subst, sym, ◌∙◌}
use Rattle.sql_lexer.proofs.OneAnswer.{one_list}
use Rattle.sql_tree.specs.grammar.Grammar.{sql}
use Rattle.sql_tree.specs.grammar.Rules.{symbol, Spelled}
use Rattle.sql_tree.specs.grammar.Symbols as n
use Rattle.sql_tree.specs.grammar.Tables.{sql_tables}
use Rattle.sql_tree.proofs.Decided.{goes_on, decided}
use Rattle.sql_tree.proofs.Exact.{one_value}
use Rattle.sql_parser.specs.Texts.{IsTextOf}
use Rattle.sql_tree.specs.declared.query.QueryTree.{QueryTree}
use Rattle.sql_tree.specs.declared.statement.Script.{Script}
use Rattle.sql_tree.specs.declared.statement.Statement.{Statement}
use Rattle.sql_tree.specs.declared.statement.StatementBody.{StatementBody}
use Rattle.sql_tree.specs.declared.statement.StatementBody.TheVariants.{Select}
use Rattle.bag_algebra.specs.Bags.{Bag}
use Rattle.bag_algebra.specs.Meaning.{meaning}
use Rattle.bag_algebra.specs.Outcome.{Outcome, Good, Bad}
use Rattle.bag_algebra.specs.Rewriting.{SameRows}
use Rattle.bag_algebra.specs.declared.query.Answer.{Answer}
use Rattle.bag_algebra.proofs.BagLaws.{same_bag-sym, same_bag-trans}
use Rattle.perm_catalog.specs.Contents.{Contents}
use Rattle.statement_meaning.specs.explains.Explains.{MeansTheSame, one_select}

same_rows-sym : (a b : Outcome Bag) → SameRows a b → SameRows b a
same_rows-sym (Good us) (Good vs) s = same_bag-sym us vs s
same_rows-sym (Good us) (Bad g) s = s
same_rows-sym (Bad f) (Good vs) s = s
same_rows-sym (Bad f) (Bad g) s = sym s

same_rows-trans : (a b o : Outcome Bag) → SameRows a b → SameRows b o → SameRows a o
same_rows-trans (Good us) (Good vs) (Good ws) s t = same_bag-trans us vs ws s t
same_rows-trans (Good us) (Good vs) (Bad h) s t = t
same_rows-trans (Good us) (Bad g) o s t = absurd s
same_rows-trans (Bad f) (Good vs) o s t = absurd s
same_rows-trans (Bad f) (Bad g) (Good ws) s t = t
same_rows-trans (Bad f) (Bad g) (Bad h) s t = s ∙ t

pub same-sym : (c : Contents) (answer other : Answer) → MeansTheSame c answer other → MeansTheSame c other answer
same-sym c answer other s = record {
  names = sym s.names;
  keys = sym s.keys;
  rows = λ db gives. same_rows-sym (meaning answer.query db []) (meaning other.query db []) (s.rows db gives);
}

pub same-trans : (c : Contents) (answer other third : Answer) → MeansTheSame c answer other → MeansTheSame c other third
    → MeansTheSame c answer third
same-trans c answer other third s t = record {
  names = s.names ∙ t.names;
  keys = s.keys ∙ t.keys;
  rows = λ db gives. same_rows-trans (meaning answer.query db []) (meaning other.query db []) (meaning third.query db []) (s.rows db gives) (t.rows db gives);
}

-- a text is a text of one query
query_in : StatementBody → QueryTree → QueryTree
query_in (Select tree) other = tree
query_in _ other = other

first_query : List Statement → QueryTree → QueryTree
first_query [] other = other
first_query (statement ∷ more) other = query_in statement.body other

pub one_query : (text : List ℕ) (start begin : ℕ) (tree other : QueryTree) → IsTextOf n.ScriptOf text (one_select start tree)
    → IsTextOf n.ScriptOf text (one_select begin other) → tree ≡ other
unfolding first_query query_in
one_query text start begin tree other a b =
    let same : b.tokens ≡ a.tokens = one_list text b.tokens a.tokens b.lexes a.lexes in
    let scripts : one_select start tree ≡ one_select begin other =
    one_value sql sql_tables goes_on decided n.ScriptOf a.tokens (one_select start tree) (one_select begin other) a.spelled
    (subst (λ tokens. Spelled sql (symbol n.ScriptOf) tokens (one_select begin other)) same b.spelled) in
    ap (λ (script : Script). first_query script.statements tree) scripts
