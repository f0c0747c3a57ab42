-- Operators: what is asked of the parts, and that nothing else is.
use Rattle.std.proofs.Common.{ℕ}
use Rattle.null_logic.specs.declared.operator.Operator.{Operator}
use Rattle.null_logic.specs.declared.operator.Operator.TheVariants as op
use Rattle.perm_values.specs.declared.kind.Kind.{Kind}
use Rattle.perm_values.specs.declared.kind.Kind.TheVariants.{Integer, Text, Boolean}
use Rattle.bag_algebra.specs.WellFormed.{Alike, OpForm, op_form}

pub op_parts : (operator : Operator) (n : ℕ) (all_have : Kind → Type 0) (kind : Kind) → op_form operator n all_have kind → (shared : Kind) × all_have shared
op_parts op.And n all_have kind h = (Boolean, h.parts)
op_parts op.Or n all_have kind h = (Boolean, h.parts)
op_parts op.Not n all_have kind h = (Boolean, h.parts)
op_parts op.Negate n all_have kind h = (Integer, h.parts)
op_parts (op.Compare c) n all_have kind h = (h.parts.shared, h.parts.parts)
op_parts (op.Arith c) n all_have kind h = absurd h
op_parts op.Like n all_have kind h = (_, h.parts)
op_parts op.Between n all_have kind h = (h.parts.shared, h.parts.parts)
op_parts op.InList n all_have kind h = (h.parts.shared, h.parts.parts)
op_parts op.Coalesce n all_have kind h = (kind, h.parts)
op_parts op.NullIf n all_have kind h = (kind, h.parts)

-- what is asked of the parts holds where more is known of each kind
module _ {P Q : Kind → Type 0} (keep : (k : Kind) → P k → Q k) where
  pub alike-kept : Alike P → Alike Q
  alike-kept a = record { shared = a.shared; parts = keep a.shared a.parts }

  form_kept : {Number : Type 0} (needed given kind : Kind) → OpForm Number (P needed) given kind → OpForm Number (Q needed) given kind
  form_kept needed given kind f = record { number = f.number; parts = keep needed f.parts; gives = f.gives }

  alike_form_kept : {Number : Type 0} (given kind : Kind) → OpForm Number (Alike P) given kind → OpForm Number (Alike Q) given kind
  alike_form_kept given kind f = record { number = f.number; parts = alike-kept f.parts; gives = f.gives }

  pub op_form-kept : (o : Operator) (n : ℕ) (kind : Kind) → op_form o n P kind → op_form o n Q kind
  op_form-kept op.And n kind f = form_kept Boolean Boolean kind f
  op_form-kept op.Or n kind f = form_kept Boolean Boolean kind f
  op_form-kept op.Not n kind f = form_kept Boolean Boolean kind f
  op_form-kept op.Negate n kind f = form_kept Integer Integer kind f
  op_form-kept (op.Compare c) n kind f = alike_form_kept Boolean kind f
  op_form-kept (op.Arith c) n kind f = f
  op_form-kept op.Like n kind f = form_kept Text Boolean kind f
  op_form-kept op.Between n kind f = alike_form_kept Boolean kind f
  op_form-kept op.InList n kind f = alike_form_kept Boolean kind f
  op_form-kept op.Coalesce n kind f = form_kept kind kind kind f
  op_form-kept op.NullIf n kind f = form_kept kind kind kind f
