-- A step of FROM with a query behind LATERAL.
use Rattle.std.proofs.Common.{◌≡◌, Bool, true, false, List, ◌∷◌, None, refl}
use Rattle.bag_algebra.specs.declared.query.JoinKind.{JoinKind}
use Rattle.bag_algebra.specs.declared.query.JoinKind.TheVariants as join
use Rattle.perm_catalog.specs.Contents.{Contents}
use Rattle.sql_tree.specs.Regular.{is_lateral}
use Rattle.sql_tree.specs.declared.source.FromItem.{FromItem}
use Rattle.sql_tree.specs.declared.source.JoinStep.{roll-JoinStep}
use Rattle.sql_tree.specs.declared.source.JoinWord.{JoinWord}
use Rattle.name_meaning.proofs.Equations.{joinstep-record-none, token}
use Rattle.name_meaning.specs.Froms.{JoinPart, join_kind}
use Rattle.name_meaning.specs.Meanings.{Around}
use Rattle.name_meaning.specs.Scopes.{ScopeItem, scope_of}
use Rattle.name_meaning.specs.Trees.{from_item_of, join_of}
use Rattle.name_meaning.specs.declared.scope.Scope.{Scope}
use Rattle.tree_texts.specs.Trees.{lateral_of}
use Rattle.query_texts.specs.forms.ShownQueries.{stays}
use Rattle.sql_printer.specs.rows.Printed.{lateral_kind}

pub words-lateral : (b : Bool) → is_lateral (lateral_of b) ≡ true
words-lateral true = refl
words-lateral false = refl

pub words-kind : (kind : JoinKind) → join_kind (lateral_of (stays kind)) ≡ lateral_kind kind
words-kind join.Inner = refl
words-kind join.Left = refl
words-kind join.Right = refl
words-kind join.Full = refl

-- where a query behind LATERAL stands
abbrev pub beside : List ScopeItem → List Scope → Around
beside items outer = record { outer = scope_of items ∷ outer; may_ask = false }

module _ (c : Contents) (outer : List Scope) where
  abbrev pub lateral_part : JoinWord → FromItem → JoinPart
  lateral_part word item = record { word = word; item = from_item_of c item; condition = None }

  pub step-lateral : (word : JoinWord) (item : FromItem) → join_of c (roll-JoinStep (record { word = word; item = item; condition = None })) ≡ lateral_part word item
  unfolding token
  step-lateral word item = joinstep-record-none c word item
