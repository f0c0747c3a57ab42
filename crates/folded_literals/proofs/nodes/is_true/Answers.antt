use Rattle.std.proofs.Common.{◌≡◌, false, refl, sym}
use Rattle.perm_values.specs.declared.kind.Kind.{Kind}
use Rattle.perm_values.specs.declared.value.Value.{Value}
use Rattle.bag_algebra.specs.built.Patterns.{OpOf, ChainOf, CaseOf, IsNullOf, IsTruthOf, SameOf}
use Rattle.bag_algebra.specs.declared.expr.Expr.{Expr}
use Rattle.bag_algebra.specs.declared.expr.Expr.TheVariants.{Col, Lit, Sub}
use Rattle.folded_literals.specs.Simple.{is_true}
use Rattle.folded_literals.proofs.nodes.is_true.Goals as goal

no_literal : (e : Expr) → ((v : Value) (kind : Kind) → e ≡ Lit v kind → ⊥) → is_true e ≡ false
no_literal (Col level place) other = refl
no_literal (Lit v kind) other = absurd (other v kind refl)
no_literal (OpOf op _ parts) other = refl
no_literal (ChainOf first _ steps) other = refl
no_literal (CaseOf _ arms otherwise) other = refl
no_literal (Sub number) other = refl
no_literal (IsNullOf part) other = refl
no_literal (IsTruthOf truth part) other = refl
no_literal (SameOf first second) other = refl

pub returns-in_default : goal.returns-in_default
returns-in_default c = sym (no_literal c.args.condition.now c.in_default.not-Lit)
