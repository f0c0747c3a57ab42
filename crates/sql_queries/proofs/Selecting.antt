-- A SELECT as its functions read it.
use Rattle.std.proofs.Common.{◌≡◌, ℕ, Bool, List, Option, refl, ap, ◌∙◌}
use Rattle.sql_lexer.specs.declared.token.Token.{Token}
use Rattle.sql_tree.specs.grammar.Building.{Word}
use Rattle.sql_tree.specs.grammar.Cursors.{reading, past, offset}
use Rattle.sql_tree.specs.grammar.Descent.{Parsed, Taken, Stopped, and_then, mapped}
use Rattle.sql_tree.specs.grammar.built.Pieces as piece
use Rattle.sql_tree.specs.grammar.Symbols as n
use Rattle.sql_tree.specs.declared.grammar.sort.Sort.TheVariants as s
use Rattle.sql_tree.proofs.Queries as queries
use Rattle.sql_queries.specs.built.Selects.{clauses_of, clauses, core_of, head}
use Rattle.sql_tree.specs.declared.expression.ExprTree.{ExprTree}
use Rattle.sql_tree.specs.declared.name.ColRef.{ColRef}
use Rattle.sql_tree.specs.declared.query.SelectItem.{SelectItem}
use Rattle.sql_tree.specs.declared.source.FromTree.{FromTree}

-- the clauses behind some items
by_clauses : (at : ℕ) (p : Option ℕ) (d : Bool) (items : List SelectItem) (tokens : List Token)
    → mapped (λ v. piece.core_of at p d v) (mapped (λ v. (items, v)) (piece.sources_on tokens)) ≡ mapped (core_of at p d items) (clauses tokens)
by_clauses at p d items tokens = by_sources (reading n.Sources tokens) where
  by_having : (sources : List FromTree) (condition : Option ExprTree) (groups : List ColRef) (o : Parsed Token (Option ExprTree))
      → mapped (λ v. piece.core_of at p d v) (mapped (λ v. (items, v)) (mapped (λ v. (sources, v)) (mapped (λ v. (condition, v)) (mapped (λ v. (groups, v)) o))))
      ≡ mapped (core_of at p d items) (mapped (clauses_of sources condition groups) o)
  by_having sources condition groups (Stopped rest) = refl
  by_having sources condition groups (Taken having rest) = refl

  by_groups : (sources : List FromTree) (condition : Option ExprTree) (o : Parsed Token (List ColRef))
      → mapped (λ v. piece.core_of at p d v) (mapped (λ v. (items, v)) (mapped (λ v. (sources, v)) (mapped (λ v. (condition, v))
      (and_then o (λ x rest. mapped (λ v. (x, v)) (reading n.Having rest))))))
      ≡ mapped (core_of at p d items) (and_then o (λ groups last. mapped (clauses_of sources condition groups) (reading n.Having last)))
  by_groups sources condition (Stopped rest) = refl
  by_groups sources condition (Taken groups rest) = by_having sources condition groups (reading n.Having rest)

  by_condition : (sources : List FromTree) (o : Parsed Token (Option ExprTree))
      → mapped (λ v. piece.core_of at p d v) (mapped (λ v. (items, v)) (mapped (λ v. (sources, v)) (and_then o (λ x rest. mapped (λ v. (x, v)) (piece.groups_on rest)))))
      ≡ mapped (core_of at p d items) (and_then o (λ condition second.
      and_then (reading n.Groups second) (λ groups last. mapped (clauses_of sources condition groups) (reading n.Having last))))
  by_condition sources (Stopped rest) = refl
  by_condition sources (Taken condition rest) = by_groups sources condition (reading n.Groups rest)

  by_sources : (o : Parsed Token (List FromTree))
      → mapped (λ v. piece.core_of at p d v) (mapped (λ v. (items, v)) (and_then o (λ x rest. mapped (λ v. (x, v)) (piece.condition_on rest))))
      ≡ mapped (core_of at p d items) (and_then o (λ sources first. and_then (reading n.Condition first) (λ condition second.
      and_then (reading n.Groups second) (λ groups last. mapped (clauses_of sources condition groups) (reading n.Having last)))))
  by_sources (Stopped rest) = refl
  by_sources (Taken sources rest) = by_condition sources (reading n.Condition rest)

by_items : (at : ℕ) (p : Option ℕ) (d : Bool) (o : Parsed Token (List SelectItem))
    → mapped (λ v. piece.core_of at p d v) (and_then o (λ x rest. mapped (λ v. (x, v)) (piece.sources_on rest)))
    ≡ and_then o (λ items rest. mapped (core_of at p d items) (clauses rest))
by_items at p d (Stopped rest) = refl
by_items at p d (Taken items rest) = by_clauses at p d items rest

by_distinct : (at : ℕ) (p : Option ℕ) (o : Parsed Token Bool)
    → and_then o (λ d e. mapped (λ v. piece.core_of at p d v) (piece.items_on e))
    ≡ and_then o (λ d e. and_then (piece.items e) (λ items rest. mapped (core_of at p d items) (clauses rest)))
by_distinct at p (Stopped rest) = refl
by_distinct at p (Taken d e) =
    by_items at p d (reading n.Items e) ∙ ap (λ o. and_then o (λ items rest. mapped (core_of at p d items) (clauses rest))) (queries.items_is e)

by_provenance : (at : ℕ) (o : Parsed Token (Option ℕ))
    → and_then o (λ p c. and_then (piece.passes s.Distinct c) (λ d e. mapped (λ v. piece.core_of at p d v) (piece.items_on e)))
    ≡ and_then o (λ p c. and_then (piece.passes s.Distinct c) (λ d e. and_then (piece.items e) (λ items rest. mapped (core_of at p d items) (clauses rest))))
by_provenance at (Stopped rest) = refl
by_provenance at (Taken p c) = by_distinct at p (piece.passes s.Distinct c)

by_parts : (tokens : List Token) → reading n.CoreOf tokens
    ≡ and_then (past s.Select tokens) (λ _ a. and_then (piece.provenance a) (λ p c. and_then (piece.passes s.Distinct c) (λ d e.
    and_then (piece.items e) (λ items rest. mapped (core_of (offset tokens) p d items) (clauses rest)))))
by_parts tokens = queries.core_is tokens ∙ by_select (past s.Select tokens) where
  by_select : (o : Parsed Token Word)
      → and_then o (λ _ a. and_then (piece.provenance a) (λ p c. and_then (piece.passes s.Distinct c) (λ d e. mapped (λ v. piece.core_of (offset tokens) p d v) (piece.items_on e))))
      ≡ and_then o (λ _ a. and_then (piece.provenance a) (λ p c. and_then (piece.passes s.Distinct c) (λ d e.
      and_then (piece.items e) (λ items rest. mapped (core_of (offset tokens) p d items) (clauses rest)))))
  by_select (Stopped rest) = refl
  by_select (Taken w a) = by_provenance (offset tokens) (piece.provenance a)

-- the words before the items are read at once
at_once : {X P D : Type 0} (o : Parsed Token Word) (k : List Token → Parsed Token P) (l : List Token → Parsed Token D) (m : P → D → List Token → Parsed Token X)
    → and_then o (λ _ a. and_then (k a) (λ p c. and_then (l c) (λ d e. m p d e)))
    ≡ and_then (and_then o (λ _ a. and_then (k a) (λ p c. mapped (λ d. (p, d)) (l c)))) (λ (v : P × D). λ e. m v.0 v.1 e)
at_once (Stopped rest) k l m = refl
at_once {P = P} {D = D} (Taken w a) k l m = by_first (k a) where
  by_second : (p : P) (o : Parsed Token D) → and_then o (λ d e. m p d e) ≡ and_then (mapped (λ d. (p, d)) o) (λ (v : P × D). λ e. m v.0 v.1 e)
  by_second p (Stopped rest) = refl
  by_second p (Taken d rest) = refl

  by_first : (o : Parsed Token P) → and_then o (λ p c. and_then (l c) (λ d e. m p d e)) ≡ and_then (and_then o (λ p c. mapped (λ d. (p, d)) (l c))) (λ (v : P × D). λ e. m v.0 v.1 e)
  by_first (Stopped rest) = refl
  by_first (Taken p c) = by_second p (l c)

pub core_is : (tokens : List Token) → reading n.CoreOf tokens
    ≡ and_then (head tokens) (λ v e. and_then (piece.items e) (λ items rest. mapped (core_of (offset tokens) v.0 v.1 items) (clauses rest)))
core_is tokens =
    by_parts tokens
    ∙ at_once (past s.Select tokens) piece.provenance (piece.passes s.Distinct) (λ p d e. and_then (piece.items e) (λ items rest. mapped (core_of (offset tokens) p d items) (clauses rest)))
