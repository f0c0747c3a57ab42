-- The functions that read an expression and a query, as the rules of the grammar get them.
use Rattle.std.specs.Prelude.{ℕ, ◌<◌, ◌≤◌, length, List, Result}
use denote.Ref.{MutBor}
use Rattle.sql_lexer.specs.declared.token.Token.{Token}
use Rattle.sql_tree.specs.grammar.Cursors.{reading, Reads}
use Rattle.sql_tree.specs.grammar.Symbols as n
use Rattle.sql_tree.specs.grammar.Symbols.{Symbol, Tree}
use Rattle.sql_tree.specs.declared.grammar.nest.Nest.{Nest}
use Rattle.sql_tree.specs.declared.grammar.unread.Unread.{Unread}
use Rattle.sql_tree.specs.declared.expression.ExprTree.{ExprTree}
use Rattle.sql_tree.specs.declared.query.QueryTree.{QueryTree}

-- where fewer tokens than a number are left, it may be called, and then reads the symbol
pub record ReadsBelow (most : ℕ) (one : Symbol) (pre : MutBor (List Token) → Type 0)
    (post : MutBor (List Token) → Result (Tree one) Unread → MutBor (List Token) → Type 0) : Type 0 where
  pub callable : (old : MutBor (List Token)) → length old.now < most → pre old
  pub reads : (old new : MutBor (List Token)) (result : Result (Tree one) Unread) → post old result new → Reads result (reading one old.now) new.now

-- where no more tokens than a number are left, it may be called, and then reads the symbol
pub record ReadsUpTo (most : ℕ) (one : Symbol) (pre : MutBor (List Token) → Type 0)
    (post : MutBor (List Token) → Result (Tree one) Unread → MutBor (List Token) → Type 0) : Type 0 where
  pub callable : (old : MutBor (List Token)) → length old.now ≤ most → pre old
  pub reads : (old new : MutBor (List Token)) (result : Result (Tree one) Unread) → post old result new → Reads result (reading one old.now) new.now

pub record Nests (most : ℕ) (expr_pre query_pre : MutBor (List Token) → Type 0)
    (expr_post : MutBor (List Token) → Result ExprTree Unread → MutBor (List Token) → Type 0)
    (query_post : MutBor (List Token) → Result QueryTree Unread → MutBor (List Token) → Type 0) : Type 0 where
  pub expr : ReadsBelow most n.Expr expr_pre expr_post
  pub query : ReadsBelow most n.Query query_pre query_post

-- where fewer tokens than its number are left, what a nest holds may be called, and then reads an expression and a query
abbrev pub NestReads : {F G : Type 0} → Nest F G → (F → MutBor (List Token) → Type 0) → (G → MutBor (List Token) → Type 0)
    → (F → MutBor (List Token) → Result ExprTree Unread → MutBor (List Token) → Type 0)
    → (G → MutBor (List Token) → Result QueryTree Unread → MutBor (List Token) → Type 0) → Type 0
NestReads nest expr_pre query_pre expr_post query_post =
    Nests nest.most (expr_pre nest.expr) (query_pre nest.query) (expr_post nest.expr) (query_post nest.query)
