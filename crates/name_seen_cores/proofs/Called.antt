-- The names that expressions give to columns.
use Rattle.std.specs.Prelude.{◌≡◌, ℕ, List, Option, Some, None}
use Rattle.std.proofs.Common.{refl, ap, sym, ◌∙◌}
use Rattle.perm_catalog.specs.Contents.{Contents}
use Rattle.sql_tree.specs.Regular.{BodyLayer}
use Rattle.sql_tree.specs.declared.expression.AggWord.{AggWord}
use Rattle.sql_tree.specs.declared.expression.ExprBody.{ExprBody, out-ExprBody, roll-ExprBody}
use Rattle.sql_tree.specs.declared.expression.ExprBody.TheOpen.{ExprBody-F}
use Rattle.sql_tree.specs.declared.expression.ExprBody.TheVariants as e
use Rattle.sql_tree.specs.declared.expression.ExprBody.TheViews.{roll-out-ExprBody}
use Rattle.sql_tree.specs.declared.expression.ExprTree.{ExprTree}
use Rattle.sql_tree.specs.declared.name.ColRef.{ColRef}
use Rattle.name_meaning.specs.Expressions.{Body, body_step}
use Rattle.name_meaning.specs.Meanings.{Part}
use Rattle.name_meaning.specs.Sublinks.{aggregate_name}
use Rattle.name_meaning.specs.Trees.{body_of, part_of}
use Rattle.name_meaning.proofs.Equations.{token, exprbody-aggregate-none, exprbody-aggregate-some, exprbody-column, exprbody-paren, exprtree-record}
use Rattle.name_meaning.proofs.Opened.{shown_body, opened_body}
use Rattle.name_seen_cores.specs.Shown.{called_at, name_or}

no-name : (c : Contents) (body : ExprBody) → ((r : ColRef) → body ≡ e.Column r → ⊥) → ((p : ExprTree) → body ≡ e.Paren p → ⊥)
    → ((w : AggWord) (o : Option ExprTree) → body ≡ e.Aggregate w o → ⊥) → (body_of c body).called ≡ None
no-name c body no_column no_paren no_aggregate = ap (λ (b : Body). b.called) (opened_body c body) ∙ by-layer (out-ExprBody body) refl where
  rolled : (layer : BodyLayer) → out-ExprBody body ≡ layer → body ≡ roll-ExprBody layer
  rolled layer is = sym (roll-out-ExprBody body) ∙ ap roll-ExprBody is

  by-layer : (layer : BodyLayer) → out-ExprBody body ≡ layer → (body_step (shown_body c layer)).called ≡ None
  by-layer ExprBody-F.Null is = refl
  by-layer (ExprBody-F.NullOf k) is = refl
  by-layer (ExprBody-F.Integer n) is = refl
  by-layer (ExprBody-F.Text t) is = refl
  by-layer (ExprBody-F.Truth b) is = refl
  by-layer (ExprBody-F.Column r) is = absurd (no_column r (rolled (ExprBody-F.Column r) is ∙ e.rolls-Column r))
  by-layer (ExprBody-F.«ExprBody::Paren» p) is = absurd (no_paren p (rolled (ExprBody-F.«ExprBody::Paren» p) is ∙ e.rolls-Paren p))
  by-layer (ExprBody-F.Nots n p) is = refl
  by-layer (ExprBody-F.Signs n p) is = refl
  by-layer (ExprBody-F.Logic op ps) is = refl
  by-layer (ExprBody-F.«ExprBody::Chain» p ss) is = refl
  by-layer (ExprBody-F.Compared op p q) is = refl
  by-layer (ExprBody-F.Like b p q) is = refl
  by-layer (ExprBody-F.Between b p q s) is = refl
  by-layer (ExprBody-F.InList b p ps) is = refl
  by-layer (ExprBody-F.InQuery b p q) is = refl
  by-layer (ExprBody-F.Quantified b op p q) is = refl
  by-layer (ExprBody-F.IsNull b p) is = refl
  by-layer (ExprBody-F.IsTruth b t p) is = refl
  by-layer (ExprBody-F.IsDistinct b p q) is = refl
  by-layer (ExprBody-F.Case arms o) is = refl
  by-layer (ExprBody-F.Coalesce ps) is = refl
  by-layer (ExprBody-F.NullIf p q) is = refl
  by-layer (ExprBody-F.Aggregate w o) is = absurd (no_aggregate w o (rolled (ExprBody-F.Aggregate w o) is ∙ e.rolls-Aggregate w o))
  by-layer (ExprBody-F.Exists q) is = refl
  by-layer (ExprBody-F.Scalar q) is = refl

-- ---- the name at a position

abbrev called_by : Option (List ℕ) → ℕ → List ℕ
called_by called position = name_or position called

called-is : (c : Contents) (position : ℕ) (tree : ExprTree) (called : Option (List ℕ)) → (body_of c tree.body).called ≡ called → called_at c position tree ≡ called_by called position
unfolding token
called-is c position tree called is = ap (λ (part : Part). called_by part.called position) (exprtree-record c tree.at tree.body) ∙ ap (λ (o : Option (List ℕ)). called_by o position) is

pub called-none : (c : Contents) (position : ℕ) (tree : ExprTree) → ((r : ColRef) → tree.body ≡ e.Column r → ⊥) → ((p : ExprTree) → tree.body ≡ e.Paren p → ⊥)
    → ((w : AggWord) (o : Option ExprTree) → tree.body ≡ e.Aggregate w o → ⊥) → called_at c position tree ≡ called_by None position
called-none c position tree no_column no_paren no_aggregate = called-is c position tree None (no-name c tree.body no_column no_paren no_aggregate)

pub called-column : (c : Contents) (position : ℕ) (tree : ExprTree) (reference : ColRef) → tree.body ≡ e.Column reference → called_at c position tree ≡ reference.name.text
unfolding token
called-column c position tree reference is =
    called-is c position tree (Some reference.name.text) (ap (λ (b : ExprBody). (body_of c b).called) is ∙ ap (λ (b : Body). b.called) (exprbody-column c reference))

pub called-paren : (c : Contents) (position : ℕ) (tree part : ExprTree) → tree.body ≡ e.Paren part → called_at c position tree ≡ called_at c position part
unfolding token
called-paren c position tree part is =
    called-is c position tree (part_of c part).called (ap (λ (b : ExprBody). (body_of c b).called) is ∙ ap (λ (b : Body). b.called) (exprbody-paren c part))

pub called-aggregate : (c : Contents) (position : ℕ) (tree : ExprTree) (word : AggWord) (argument : Option ExprTree) → tree.body ≡ e.Aggregate word argument
    → called_at c position tree ≡ aggregate_name word
unfolding token
called-aggregate c position tree word argument is =
    called-is c position tree (Some (aggregate_name word)) (ap (λ (b : ExprBody). (body_of c b).called) is ∙ by-argument argument) where
      by-argument : (argument : Option ExprTree) → (body_of c (e.Aggregate word argument)).called ≡ Some (aggregate_name word)
      by-argument None = ap (λ (b : Body). b.called) (exprbody-aggregate-none c word)
      by-argument (Some part) = ap (λ (b : Body). b.called) (exprbody-aggregate-some c word part)
