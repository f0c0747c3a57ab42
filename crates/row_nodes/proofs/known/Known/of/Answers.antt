use Rattle.std.proofs.Common.{List, ℕ, [], refl, ap, ◌∙◌}
use Rattle.std.specs.List.{range_with_len}
use Rattle.row_nodes.specs.memory.Memory.{Remembered, remembered}
use Rattle.row_nodes.specs.declared.known.KnownAnswer.{KnownAnswer}
use Rattle.row_nodes.specs.declared.known.KnownAnswer.TheVariants.{Nothing}
use Rattle.row_nodes.specs.declared.known.Keyed.{Keyed}
use Rattle.row_nodes.specs.declared.known.Known.{Known}
use Rattle.row_nodes.proofs.Kept.{known_new}
use Rattle.row_nodes.proofs.Leading.{kept_keeps}
use Rattle.row_nodes.proofs.known.Known.of.Goals as goal

pub returns-clause-knows : goal.returns-clause-knows
returns-clause-knows c = λ db env in_cells.
    let known : Known = record { keeping = c.kept_of-keeping.result; memory = c.new-memory.result; inputs = c.new-inputs.result; nothing = Nothing } in
    known_new db env c.args.query.now in_cells known c.in_ok-read.read (kept_keeps c.args.is_hashed c.args.query.now c.kept_of-keeping.result c.kept_of-keeping.ensures) c.in_ok-read.ensures c.new-memory.ensures
    (c.new-inputs.ensures ∙ ap (λ (places : List ℕ). remembered {A = Keyed} places [] []) (c.in_ok-first.ensures ∙ ap (λ n. range_with_len 0 n) c.input_columns.ensures)) refl

pub returns-clause-fresh : goal.returns-clause-fresh
returns-clause-fresh c = record {
  keeping_is = c.kept_of-keeping.ensures;
  entries_are = ap (λ (m : Remembered KnownAnswer). m.entries) c.new-memory.ensures;
  inputs_are = ap (λ (m : Remembered Keyed). m.entries) c.new-inputs.ensures;
  nothing_is = refl;
}
