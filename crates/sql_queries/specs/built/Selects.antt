-- A SELECT as it is read: its items, and the clauses behind them.
use Rattle.std.specs.Prelude.{ℕ, Bool, cond, List, [], ◌∷◌, Option, Some, None}
use Rattle.sql_lexer.specs.declared.token.Token.{Token}
use Rattle.sql_tree.specs.grammar.Cursors.{reading, sees, past}
use Rattle.sql_tree.specs.grammar.Descent.{Parsed, Taken, and_then, mapped}
use Rattle.sql_tree.specs.grammar.built.Pieces as piece
use Rattle.sql_tree.specs.grammar.Symbols as n
use Rattle.sql_tree.specs.declared.grammar.sort.Sort.{Sort}
use Rattle.sql_tree.specs.declared.grammar.sort.Sort.TheVariants as s
use Rattle.sql_queries.specs.declared.select.ClauseTrees.{ClauseTrees}
use Rattle.sql_tree.specs.declared.expression.ExprTree.{ExprTree}
use Rattle.sql_tree.specs.declared.name.ColRef.{ColRef}
use Rattle.sql_tree.specs.declared.query.Core.{Core, roll-Core}
use Rattle.sql_tree.specs.declared.query.SelectItem.{SelectItem}
use Rattle.sql_tree.specs.declared.query.SelectItem.TheVariants.{Value}
use Rattle.sql_tree.specs.declared.source.FromTree.{FromTree}

-- the words before the items
abbrev pub head : List Token → Parsed Token (Option ℕ × Bool)
head tokens = and_then (past s.Select tokens) (λ _ a. and_then (piece.provenance a) (λ p c. mapped (λ d. (p, d)) (piece.passes s.Distinct c)))

-- an expression of the SELECT list with the name behind it
abbrev pub named : ExprTree → List Token → Parsed Token SelectItem
named expr tokens = mapped (λ name. Value expr name) (reading n.Alias tokens)

-- the condition behind this word, if the word stands next
abbrev pub clause : Sort → List Token → Parsed Token (Option ExprTree)
clause sort tokens =
    cond (sees (sort ∷ []) tokens) (and_then (past sort tokens) (λ passed rest. mapped Some (reading n.Expr rest))) (Taken None tokens)

abbrev pub clauses_of : List FromTree → Option ExprTree → List ColRef → Option ExprTree → ClauseTrees
clauses_of sources condition groups having = record { sources = sources; condition = condition; groups = groups; having = having }

abbrev pub clauses : List Token → Parsed Token ClauseTrees
clauses tokens =
    and_then (reading n.Sources tokens) (λ sources first. and_then (reading n.Condition first) (λ condition second.
    and_then (reading n.Groups second) (λ groups last. mapped (clauses_of sources condition groups) (reading n.Having last))))

abbrev pub core_of : ℕ → Option ℕ → Bool → List SelectItem → ClauseTrees → Core
core_of at provenance distinct items clauses = roll-Core (record {
  at = at;
  provenance = provenance;
  distinct = distinct;
  items = items;
  sources = clauses.sources;
  condition = clauses.condition;
  groups = clauses.groups;
  having = clauses.having;
})
