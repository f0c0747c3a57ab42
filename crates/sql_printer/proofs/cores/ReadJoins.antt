-- A step of FROM that joins on a condition, and columns numbered one behind the other.
use Rattle.std.proofs.Common.{◌≡◌, ℕ, suc, ◌+◌, false, not, List, [], ◌∷◌, ◌++◌, length, Some, refl, ap, subst, ◌∙◌, arith}
use Rattle.perm_values.specs.declared.kind.Kind.{Kind}
use Rattle.perm_values.specs.declared.kind.Kind.TheVariants as kinds
use Rattle.bag_algebra.specs.declared.query.JoinKind.{JoinKind}
use Rattle.bag_algebra.specs.declared.query.JoinKind.TheVariants as join
use Rattle.bag_algebra.specs.declared.query.Query.{Query}
use Rattle.bag_algebra.specs.declared.query.Query.TheVariants.{Join}
use Rattle.perm_catalog.specs.Contents.{Contents}
use Rattle.sql_tree.specs.Regular.{is_lateral}
use Rattle.sql_tree.specs.declared.expression.ExprTree.{ExprTree}
use Rattle.sql_tree.specs.declared.source.FromItem.{FromItem}
use Rattle.sql_tree.specs.declared.source.JoinStep.{roll-JoinStep}
use Rattle.sql_tree.specs.declared.source.JoinWord.{JoinWord}
use Rattle.name_meaning.proofs.Equations.{joinstep-record-some, token}
use Rattle.name_meaning.specs.Froms.{FromMeant, ItemMeant, JoinPart, both_known, in_on, join_kind, joined as joined_by, on_built, on_meant, optional_breaks, scope_items}
use Rattle.name_meaning.specs.Meanings.{Built, Part, broken_if, unites}
use Rattle.name_meaning.specs.Scopes.{ScopeItem}
use Rattle.name_meaning.specs.Sublinks.{nothing_before}
use Rattle.name_meaning.specs.Trees.{from_item_of, join_of, part_of}
use Rattle.name_meaning.specs.declared.rule.Rule.TheVariants as rule
use Rattle.name_meaning.specs.declared.scope.Scope.{Scope}
use Rattle.name_meaning.specs.declared.scope.ScopeColumn.{ScopeColumn}
use Rattle.tree_texts.specs.Trees as tree
use Rattle.query_texts.specs.forms.ShownQueries.{joined}
use Rattle.sql_printer.proofs.cores.ReadCores.{Condition, FromRead, TestRead}
use Rattle.sql_printer.specs.expressions.Reading.{built}
use Rattle.sql_printer.proofs.expressions.ReadParts.{read-seen}
use Rattle.sql_printer.specs.expressions.Scopes.{Numbered}

-- ---- the scope

pub numbered-append : (depth number : ℕ) (first more : List Kind) (xs ys : List ScopeColumn) → Numbered depth number first xs → Numbered depth (number + length first) more ys
    → Numbered depth number (first ++ more) (xs ++ ys)
numbered-append depth number [] more [] ys h k = let none : number + 0 ≡ number = omega arith in subst (λ n. Numbered depth n more ys) none k
numbered-append depth number [] more (x ∷ xs) ys h k = absurd h
numbered-append depth number (kind ∷ first) more [] ys h k = absurd h
numbered-append depth number (kind ∷ first) more (x ∷ xs) ys h k =
    let next : number + suc (length first) ≡ suc number + length first = omega arith in
    (h.0, h.1, numbered-append depth (suc number) first more xs ys h.2 (subst (λ n. Numbered depth n more ys) next k))

-- ---- the join

pub words-plain : (kind : JoinKind) → is_lateral (tree.join_of (joined kind)) ≡ false
words-plain join.Inner = refl
words-plain join.Left = refl
words-plain join.Right = refl
words-plain join.Full = refl

words-kind : (kind : JoinKind) → join_kind (tree.join_of (joined kind)) ≡ kind
words-kind join.Inner = refl
words-kind join.Left = refl
words-kind join.Right = refl
words-kind join.Full = refl

module _ (c : Contents) (outer : List Scope) where
  abbrev pub on_part : JoinWord → FromItem → ExprTree → JoinPart
  on_part word item condition = record { word = word; item = from_item_of c item; condition = Some (part_of c condition) }

  pub step-on : (word : JoinWord) (item : FromItem) (condition : ExprTree)
      → join_of c (roll-JoinStep (record { word = word; item = item; condition = Some condition })) ≡ on_part word item condition
  unfolding token
  step-on word item condition = joinstep-record-some c word item condition

  -- what a join with ON is, its two items known
  pub join-known : (kind : JoinKind) (left : FromMeant) (m : ItemMeant) (items : List ScopeItem) (l r : Query) (condition : Part) (test : Condition)
      → left.breaks ≡ [] → m.breaks ≡ [] → both_known left.items (scope_items m) ≡ Some items → left.query ≡ l → m.query ≡ r
      → TestRead (condition.means (in_on items outer)) test
      → FromRead (joined_by left (tree.join_of (joined kind)) (Some condition) m (on_meant outer (both_known left.items (scope_items m)) (Some condition))) items
      (Join kind l r test.expr test.subs)
  join-known kind left m items l r condition test whole own known first second on =
      let tested : on_meant outer (both_known left.items (scope_items m)) (Some condition) ≡ Some (condition.means (in_on items outer)) =
      ap (λ found. on_meant outer found (Some condition)) known in
      let made = on.read.make kinds.Boolean nothing_before ∙ ap (λ e. built e test.subs) on.first in
      record {
        breaks = (λ i. whole i ++ own i ++ optional_breaks (Some condition) (tested i))
            ∙ (λ i. on.read.breaks i ++ broken_if (not (unites (Some kinds.Boolean) (read-seen (condition.means (in_on items outer)) kinds.Boolean on.made test.subs on.read i))) rule.UnfitKind condition.at);
        items_are = known;
        query_is =
            (λ i. Join (words-kind kind i) (first i) (second i) (on_built (tested i)).expr (on_built (tested i)).subs)
            ∙ ap (λ (b : Built). Join kind l r b.expr b.subs) made;
      }
