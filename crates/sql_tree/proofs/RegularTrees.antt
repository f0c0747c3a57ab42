-- When the tree of each symbol is regular. A function is where it makes a regular tree of regular parts.
use Rattle.std.proofs.Common.{◌≡◌, ℕ, Bool, true, false, List, [], ◌∷◌, map}
use Rattle.perm_values.specs.declared.kind.Kind.TheVariants.{Boolean}
use Rattle.sql_tree.specs.grammar.Building.{Word, items}
use Rattle.sql_tree.specs.grammar.Grammar.{sql}
use Rattle.sql_tree.specs.grammar.Symbols as n
use Rattle.sql_tree.specs.grammar.Symbols.{Symbol, Tree}
use Rattle.sql_tree.proofs.Holding as holding
use Rattle.sql_tree.proofs.Holding.{none-each, cons-each, head-of, tail-of}
use Rattle.sql_tree.proofs.TokenNumbers.{HasNumber}
use Rattle.sql_tree.specs.Regular.{IsTokenNumber, IsFilled, Each, IfThere, has_condition, is_lateral, RegularMark, RegularOrder, RegularExpr, RegularBody, RegularStep, RegularArm, RegularQuery, RegularSet, RegularSetStep, RegularCore, RegularItem, RegularFrom, RegularJoin, RegularFromItem, RegularSource, RegularColumn, RegularRow, RegularStatementBody, RegularStatement, Regular}
use Rattle.sql_tree.specs.declared.expression.ExprTree.{ExprTree}
use Rattle.sql_tree.specs.declared.query.SetTree.{SetTree}

abbrev pub RegularOf : (n : Symbol) → Tree n → Type 0
RegularOf n.ScriptOf tree = Regular tree
RegularOf n.StatementOf tree = RegularStatement tree
RegularOf n.Create tree = RegularStatementBody tree
RegularOf n.CreateTable tree = RegularStatementBody tree
RegularOf n.CreateView tree = RegularStatementBody tree
RegularOf n.Columns list = IsFilled list × Each RegularColumn list
RegularOf n.Column tree = RegularColumn tree
RegularOf n.ColumnKind kind = kind ≡ Boolean → ⊥
RegularOf n.Copy tree = RegularStatementBody tree
RegularOf n.Insert tree = RegularStatementBody tree
RegularOf n.Row tree = RegularRow tree
RegularOf n.Delete tree = RegularStatementBody tree
RegularOf n.Drop tree = RegularStatementBody tree
RegularOf n.Explain tree = RegularStatementBody tree
RegularOf n.Show tree = RegularStatementBody tree
RegularOf n.Impact tree = RegularStatementBody tree
RegularOf n.NameOf tree = Unit {0}
RegularOf n.Names list = IsFilled list
RegularOf n.Qualified tree = Unit {0}
RegularOf n.ColumnOf tree = Unit {0}
RegularOf n.Query tree = RegularQuery tree
RegularOf n.Inner tree = RegularQuery tree
RegularOf n.InParentheses tree = RegularQuery tree
RegularOf n.Operand tree = RegularSet tree
RegularOf n.QueryRest rest = (at : ℕ) (first : SetTree) → RegularSet first → RegularQuery (rest at first)
RegularOf n.Term tree = RegularSet tree
RegularOf n.IntersectStep tree = RegularSetStep tree
RegularOf n.UnionStep tree = RegularSetStep tree
RegularOf n.Order list = Each RegularOrder list
RegularOf n.Key tree = RegularOrder tree
RegularOf n.Limit limit = IfThere IsTokenNumber limit
RegularOf n.CoreOf tree = RegularCore tree
RegularOf n.Items list = IsFilled list × Each RegularItem list
RegularOf n.Item tree = RegularItem tree
RegularOf n.ItemValue tree = RegularItem tree
RegularOf n.Alias tree = Unit {0}
RegularOf n.Sources list = Each RegularFrom list
RegularOf n.Condition tree = IfThere RegularExpr tree
RegularOf n.Groups list = Unit {0}
RegularOf n.Having tree = IfThere RegularExpr tree
RegularOf n.From tree = RegularFrom tree
RegularOf n.Join tree = RegularJoin tree
RegularOf n.JoinKind word = (true ≡ has_condition word) × (is_lateral word ≡ false)
RegularOf n.LeftJoin tree = RegularJoin tree
RegularOf n.CrossJoin tree = RegularJoin tree
RegularOf n.Source tree = RegularFromItem tree
RegularOf n.Aliased tree = RegularSource tree.0 tree.1
RegularOf n.Mark tree = RegularMark tree
RegularOf n.Expr tree = RegularExpr tree
RegularOf n.Exprs list = IsFilled list × Each RegularExpr list
RegularOf n.Both tree = RegularExpr tree
RegularOf n.Negated tree = RegularExpr tree
RegularOf n.Test tree = RegularExpr tree
RegularOf n.IsTest behind = (part : ExprTree) → RegularExpr part → RegularExpr (behind part)
RegularOf n.Compared tree = RegularExpr tree
RegularOf n.Comparison behind = (part : ExprTree) → RegularExpr part → RegularExpr (behind part)
RegularOf n.Ranged tree = RegularExpr tree
RegularOf n.Range behind = (negated : Bool) (part : ExprTree) → RegularExpr part → RegularExpr (behind negated part)
RegularOf n.Members behind = (negated : Bool) (part : ExprTree) → RegularExpr part → RegularExpr (behind negated part)
RegularOf n.Sum tree = RegularExpr tree
RegularOf n.SumStep step = RegularStep 7 step
RegularOf n.Product tree = RegularExpr tree
RegularOf n.ProductStep step = RegularStep 8 step
RegularOf n.Sign tree = RegularExpr tree
RegularOf n.Primary tree = RegularExpr tree
RegularOf n.Literal tree = RegularBody tree
RegularOf n.Cast tree = RegularBody tree
RegularOf n.CastKind kind = Unit {0}
RegularOf n.Case tree = RegularBody tree
RegularOf n.Arm tree = RegularArm tree
RegularOf n.Otherwise tree = IfThere RegularExpr tree
RegularOf n.Exists tree = RegularBody tree
RegularOf n.Parentheses tree = RegularBody tree
RegularOf n.Count tree = RegularBody tree
RegularOf n.Counted tree = RegularBody tree
RegularOf n.Aggregate tree = RegularBody tree
RegularOf n.Coalesce tree = RegularBody tree
RegularOf n.NullIf tree = RegularBody tree
RegularOf n.Reference tree = RegularBody tree

-- what a symbol's rule builds of regular parts is regular
abbrev pub Builds : Symbol → Type 0
Builds symbol = holding.Builds sql HasNumber RegularOf symbol

-- ---- lists whose parts stand behind words

pub behind-each : {X : Type 0} (P : X → Type 0) (more : List (Word × X)) → Each (λ m. Unit {0} × P m.1) more → Each P (map (λ m. m.1) more)
behind-each P [] each = none-each P
behind-each P (m ∷ more) each =
    cons-each P m.1 (map (λ m. m.1) more) (head-of (λ m. Unit {0} × P m.1) m more each).1
    (behind-each P more (tail-of (λ m. Unit {0} × P m.1) m more each))

pub items-each : {X : Type 0} (P : X → Type 0) (x : X) (more : List (Word × X)) → P x → Each (λ m. Unit {0} × P m.1) more → Each P (items (x, more))
items-each P x more p each = cons-each P x (map (λ m. m.1) more) p (behind-each P more each)
