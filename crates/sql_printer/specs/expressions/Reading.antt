-- What an expression is read as where it stands, and what columns and sublinks are read as there.
use Rattle.std.specs.Prelude.{◌≡◌, ℕ, ◌+◌, List, [], ◌∷◌, Some, None, slice_get, slice_index_or}
use Rattle.perm_values.specs.declared.kind.Kind.{Kind}
use Rattle.bag_algebra.specs.WellFormed.{column_kind}
use Rattle.bag_algebra.specs.declared.expr.Expr.{Expr}
use Rattle.bag_algebra.specs.declared.expr.Expr.TheVariants.{Sub}
use Rattle.bag_algebra.specs.declared.query.Sublink.{Sublink}
use Rattle.perm_catalog.specs.Contents.{Contents}
use Rattle.sql_tree.specs.declared.expression.ExprTree.{ExprTree}
use Rattle.sql_tree.specs.declared.name.ColRef.{ColRef}
use Rattle.name_meaning.specs.Meanings.{Before, Built, Meant, Surroundings}
use Rattle.name_meaning.specs.Scopes.{look_up}
use Rattle.name_meaning.specs.Trees.{part_of}
use Rattle.name_meaning.specs.declared.scope.Found.TheVariants.{Column as found}
use Rattle.name_meaning.specs.declared.scope.Scope.{Scope}
use Rattle.tree_texts.specs.expressions.Names.{column_name}
use Rattle.tree_texts.specs.Forms.{ExprForm}
use Rattle.tree_texts.specs.Trees.{IsExpr}
use Rattle.query_texts.specs.forms.ShownExpressions.{unsaid}
use Rattle.sql_printer.specs.rows.Printed.{nothing_asked}
use Rattle.sql_printer.specs.rows.PrintedExpressions.{before}

abbrev pub built : Expr → List Sublink → Built
built e subs = record { expr = e; subs = subs; aggregates = [] }

-- it breaks nothing, its kind is known, and behind so many sublinks it is made to this expression with these sublinks of its own
pub record IsRead (m : Meant) (kind : Kind) (made : ℕ → Expr) (subs : List Sublink) : Type 0 where
  pub breaks : m.breaks ≡ []
  pub kind_is : m.kind ≡ Some kind
  pub make : (wanted : Kind) (before : Before) → m.make wanted before ≡ built (made before.subs) subs

-- each column of these kinds is found by its printed name, behind so many that nothing reads
abbrev pub Finds : List ℕ → List (List Kind) → List ℕ → List Scope → Type 0
Finds prefix kinds unread scopes = (level place : ℕ) (kind : Kind) → column_kind kinds level place ≡ Some kind → (reference : ColRef)
    → reference.table ≡ None → reference.name.text ≡ column_name prefix level (place + 1)
    → look_up 0 scopes reference ≡ found (record { level = level; place = Some (before unread level + place); kind = kind })

-- the tree of each sublink's form is read as the sublink
abbrev pub FindsSublinks : Contents → Surroundings → List ExprForm → List Sublink → List Kind → Type 0
FindsSublinks c here forms subs kinds = (number : ℕ) (kind : Kind) → slice_get kinds number ≡ Some kind → (tree : ExprTree)
    → IsExpr (slice_index_or forms number unsaid) tree
    → IsRead ((part_of c tree).means here) kind (λ n. Sub n) (slice_index_or subs number nothing_asked ∷ [])
