use Rattle.std.proofs.Common.{◌++◌, ◌∷◌, [], sym, ap, ◌∙◌, append_assoc, arith}
use Rattle.std.proofs.lemmas.List.{length-append}
use Rattle.row_values.proofs.Outcomes.{passed}
use Rattle.row_values.proofs.ClassRows.{class_more, class_refuses}
use Rattle.row_values.proofs.groups.grouping.class_rows.Goals as goal

pub returns-in_err-class_row : goal.returns-in_err-class_row
returns-in_err-class_row c = λ make m.
    let steps = c.in-Some.ensures.steps in
    passed _ _ c.from_residual-in_err-class_row.result c.from_residual-in_err-class_row.ensures.1
    (class_refuses make c.args.keys.keys c.args.columns.now m c.loop-key.yielded c.next.new.self c.in-Some.key c.loop-key.number
    (ap (λ l. c.loop-key.yielded ++ l) (sym steps) ∙ c.loop-key.invariant.0) c.loop-key.invariant.1 _ c.in_err-class_row.ensures)

pub loop-key-preserved : goal.loop-key-preserved
loop-key-preserved c =
    let steps = c.in-Some.ensures.steps in (
      append_assoc c.loop-key.yielded (c.in-Some.key ∷ []) c.next.new.self ∙ ap (λ l. c.loop-key.yielded ++ l) (sym steps) ∙ c.loop-key.invariant.0,
      (let at = c.loop-key.invariant.1 in let long = length-append c.loop-key.yielded (c.in-Some.key ∷ []) in omega arith),
      (λ make m.
          class_more make c.args.keys.keys c.args.columns.now m c.loop-key.yielded c.next.new.self c.in-Some.key c.loop-key.number
          (ap (λ l. c.loop-key.yielded ++ l) (sym steps) ∙ c.loop-key.invariant.0) c.loop-key.invariant.1 c.loop-key.rows c.push.new.self c.in_ok-class_row.field-0
          (c.loop-key.invariant.2 make m) c.in_ok-class_row.ensures c.in_ok-push.ensures.ok),
    )
