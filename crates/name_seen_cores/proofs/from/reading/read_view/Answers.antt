use Rattle.std.specs.Prelude.{Some}
use Rattle.std.proofs.Common.{refl, ap, sym, ◌∙◌}
use Rattle.name_meaning.specs.Froms.{named_columns}
use Rattle.name_seen_cores.proofs.from.reading.read_view.Goals as goal

pub returns : goal.returns
returns c = λ name. record {
  whole = refl;
  columns = sym (ap Some (c.in_ok-columns.ensures ∙ (λ i. named_columns (c.as_slice.ensures i) ((c.as_slice-2.ensures ∙ c.in_ok-kinds.ensures) i))));
  kinds = sym c.in_ok-kinds.ensures;
  plain = sym (c.in_ok-plain.ensures (c.as_slice-3.ensures ∙ c.in_ok-kinds.ensures) name);
}
